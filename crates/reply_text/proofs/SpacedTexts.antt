-- Texts with one space between them, one text at a time.
use Rattle.std.proofs.Common.{◌≡◌, ℕ, zero, suc, ◌<◌, ◌==◌, ◌++◌, Bool, false, List, [], ◌∷◌, length, map, take, get_or, codes, refl, sym, ◌∙◌, ap, append_assoc, arith, ne_eqb}
use Rattle.std.specs.List.{flat_map}
use Rattle.reply_text.specs.CellText.{spaced, gap}

abbrev Text : Type 0
Text = List ℕ

nothing-after : (s : Text) → s ++ [] ≡ s
nothing-after [] = refl
nothing-after (b ∷ s) = ap (λ t. b ∷ t) (nothing-after s)

abbrev rest : List Text → Text
rest ts = flat_map (λ y. codes " " ++ y) ts

module _ {A : Type 0} (f : A → Text) where
  more : (xs : List A) (i : ℕ) (x : A) → i < length xs → x ≡ get_or xs i x → rest (map f (take (suc i) xs)) ≡ rest (map f (take i xs)) ++ (codes " " ++ f x)
  more [] i x h e = absurd (omega (arith, h))
  more (y ∷ ys) zero x h e = ap (λ z. (codes " " ++ f z) ++ []) (sym e) ∙ nothing-after (codes " " ++ f x)
  more (y ∷ ys) (suc k) x h e =
      ap (λ t. (codes " " ++ f y) ++ t) (more ys k x (omega (arith, h)) e) ∙ sym (append_assoc (codes " " ++ f y) (rest (map f (take k ys))) (codes " " ++ f x))

  one_more : (xs : List A) (i : ℕ) (x : A) → i < length xs → x ≡ get_or xs i x → spaced (map f (take (suc i) xs)) ≡ spaced (map f (take i xs)) ++ (gap (i == 0) ++ f x)
  one_more [] i x h e = absurd (omega (arith, h))
  one_more (y ∷ ys) zero x h e = nothing-after (f y) ∙ ap f (sym e)
  one_more (y ∷ ys) (suc k) x h e =
      ap (λ t. f y ++ t) (more ys k x (omega (arith, h)) e) ∙ sym (append_assoc (f y) (rest (map f (take k ys))) (codes " " ++ f x))
      ∙ ap (λ b. (f y ++ rest (map f (take k ys))) ++ (gap b ++ f x)) (sym (ne_eqb (suc k) 0 (omega arith)))

  -- a text of the item at place i, after those of the items before it
  pub next_spaced : (xs : List A) (i j : ℕ) (x : A) (first : Bool) (o o0 o1 o2 : Text) → i < length xs → x ≡ get_or xs i x → j ≡ suc i → first ≡ (i == 0)
      → o0 ≡ o ++ spaced (map f (take i xs)) → o1 ≡ o0 ++ gap first → o2 ≡ o1 ++ f x → o2 ≡ o ++ spaced (map f (take j xs))
  next_spaced xs i j x first o o0 o1 o2 h e jn fe h0 h1 h2 =
      let s : Text = spaced (map f (take i xs)) in
      h2 ∙ ap (λ t. t ++ f x) (h1 ∙ ap (λ t. t ++ gap first) h0) ∙ append_assoc (o ++ s) (gap first) (f x) ∙ append_assoc o s (gap first ++ f x)
      ∙ ap (λ b. o ++ (s ++ (gap b ++ f x))) fe ∙ ap (λ t. o ++ t) (sym (one_more xs i x h e)) ∙ ap (λ k. o ++ spaced (map f (take k xs))) (sym jn)

pub not_first : (i j : ℕ) → j ≡ suc i → false ≡ (j == 0)
not_first i j e = sym (ne_eqb j 0 (omega (arith, e)))
