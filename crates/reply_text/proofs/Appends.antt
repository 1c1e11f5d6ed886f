-- A text after several pieces were put at its end.
use Rattle.std.proofs.Common.{◌≡◌, ℕ, ◌++◌, List, Result, OnOk, refl, ◌∙◌, ap, append_assoc}
use Rattle.std.proofs.lemmas.Result.{IfOk-equal}

abbrev Text : Type 0
Text = List ℕ

module _ {T E : Type 0} (r : Result T E) (p o : Text) where
  -- the last piece is another one
  pub piece_is : (a b : Text) → OnOk r (p ≡ o ++ a) → a ≡ b → OnOk r (p ≡ o ++ b)
  piece_is a b h e = IfOk-equal r p (o ++ a) (o ++ b) h (ap (λ t. o ++ t) e)

  pub after_one : (o1 a b all : Text) → o1 ≡ o ++ a → OnOk r (p ≡ o1 ++ b) → a ++ b ≡ all → OnOk r (p ≡ o ++ all)
  after_one o1 a b all h last e = IfOk-equal r p (o1 ++ b) (o ++ all) last (ap (λ t. t ++ b) h ∙ append_assoc o a b ∙ ap (λ t. o ++ t) e)

module _ {T E : Type 0} (r : Result T E) (p o : Text) where
  pub after_two : (o1 o2 a b c all : Text) → o1 ≡ o ++ a → o2 ≡ o1 ++ b → OnOk r (p ≡ o2 ++ c) → a ++ (b ++ c) ≡ all → OnOk r (p ≡ o ++ all)
  after_two o1 o2 a b c all h1 h2 last e = after_one r p o o1 a (b ++ c) all h1 (after_one r p o1 o2 b c (b ++ c) h2 last refl) e

  pub after_three : (o1 o2 o3 a b c d all : Text) → o1 ≡ o ++ a → o2 ≡ o1 ++ b → o3 ≡ o2 ++ c → OnOk r (p ≡ o3 ++ d) → a ++ (b ++ (c ++ d)) ≡ all → OnOk r (p ≡ o ++ all)
  after_three o1 o2 o3 a b c d all h1 h2 h3 last e = after_two o1 o2 a b (c ++ d) all h1 h2 (after_one r p o2 o3 c d (c ++ d) h3 last refl) e

  pub after_four : (o1 o2 o3 o4 a b c d f all : Text) → o1 ≡ o ++ a → o2 ≡ o1 ++ b → o3 ≡ o2 ++ c → o4 ≡ o3 ++ d → OnOk r (p ≡ o4 ++ f) → a ++ (b ++ (c ++ (d ++ f))) ≡ all → OnOk r (p ≡ o ++ all)
  after_four o1 o2 o3 o4 a b c d f all h1 h2 h3 h4 last e = after_three o1 o2 o3 a b c (d ++ f) all h1 h2 h3 (after_one r p o3 o4 d f (d ++ f) h4 last refl) e
