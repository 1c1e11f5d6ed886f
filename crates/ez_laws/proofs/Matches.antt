-- Words of steps and their matching (Romero and Sergeraert, Discrete Vector Fields, part II): the first D, or V before H, from the
-- left. H is a step of the left part alone, V one of the right part alone, D one of both.
use Rattle.simp_ops.specs.PathWords.{Step, left as H, right as V, both as D}
use Rattle.std.specs.Prelude.{◌≡◌, refl, ℕ, ◌+◌, List, [], ◌∷◌, Bool, true, false, ◌++◌, ◌⊎◌}
use Rattle.std.proofs.Common.{sym, ◌∙◌, ap, inl, inr}
use Rattle.std.proofs.lemmas.Bool.{true≢false}

-- the match: first D or VH from the left
unfoldable pub m : List Step → List Step
m [] = []
m (D ∷ w) = V ∷ (H ∷ w)
m (H ∷ w) = H ∷ m w
m (V ∷ []) = V ∷ []
m (V ∷ (H ∷ w)) = D ∷ w
m (V ∷ (V ∷ w)) = V ∷ m (V ∷ w)
m (V ∷ (D ∷ w)) = V ∷ (V ∷ (H ∷ w))

pub inv : (w : List Step) → m (m w) ≡ w
unfolding m
inv [] = refl
inv (D ∷ w) = refl
inv (H ∷ w) = ap (λ x. H ∷ x) (inv w)
inv (V ∷ []) = refl
inv (V ∷ (H ∷ w)) = refl
inv (V ∷ (D ∷ w)) = refl
inv (V ∷ (V ∷ [])) = refl
inv (V ∷ (V ∷ (H ∷ w))) = refl
inv (V ∷ (V ∷ (D ∷ w))) = refl
inv (V ∷ (V ∷ (V ∷ w))) = ap (λ x. V ∷ x) (inv (V ∷ (V ∷ w)))

unfoldable pub hs : List Step → ℕ
hs [] = 0
hs (H ∷ w) = hs w + 1
hs (V ∷ w) = hs w
hs (D ∷ w) = hs w

-- pairs V before H
unfoldable pub prs : List Step → ℕ
prs [] = 0
prs (H ∷ w) = prs w
prs (D ∷ w) = prs w
prs (V ∷ w) = prs w + hs w

-- is a source
unfoldable pub src : List Step → Bool
src [] = false
src (D ∷ w) = true
src (H ∷ w) = src w
src (V ∷ []) = false
src (V ∷ (H ∷ w)) = false
src (V ∷ (V ∷ w)) = src (V ∷ w)
src (V ∷ (D ∷ w)) = true

-- no D and no VH
unfoldable pub crit : List Step → Bool
crit [] = true
crit (D ∷ w) = false
crit (H ∷ w) = crit w
crit (V ∷ []) = true
crit (V ∷ (H ∷ w)) = false
crit (V ∷ (V ∷ w)) = crit (V ∷ w)
crit (V ∷ (D ∷ w)) = false

-- an event inside u is the event of u ++ r
pub ev-in : (u r : List Step) → crit u ≡ false → src (u ++ r) ≡ src u
unfolding crit src
ev-in [] r e = absurd (true≢false e)
ev-in (D ∷ u) r e = refl
ev-in (H ∷ u) r e = ev-in u r e
ev-in (V ∷ []) r e = absurd (true≢false e)
ev-in (V ∷ (H ∷ u)) r e = refl
ev-in (V ∷ (D ∷ u)) r e = refl
ev-in (V ∷ (V ∷ u)) r e = ev-in (V ∷ u) r e

-- without an event before it, a D is the event
pub crit-in : (u r : List Step) → crit u ≡ true → m (u ++ (D ∷ r)) ≡ u ++ (V ∷ (H ∷ r))
unfolding crit m
crit-in [] r e = refl
crit-in (D ∷ u) r e = absurd (true≢false (sym e))
crit-in (H ∷ u) r e = ap (λ x. H ∷ x) (crit-in u r e)
crit-in (V ∷ []) r e = refl
crit-in (V ∷ (H ∷ u)) r e = absurd (true≢false (sym e))
crit-in (V ∷ (D ∷ u)) r e = absurd (true≢false (sym e))
crit-in (V ∷ (V ∷ u)) r e = ap (λ x. V ∷ x) (crit-in (V ∷ u) r e)

pub two : (b : Bool) → (b ≡ true) ⊎ (b ≡ false)
two true = inl refl
two false = inr refl

pub quiet : (u a b : List Step) → src (u ++ a) ≡ false → src (u ++ b) ≡ true → crit u ≡ true
quiet u a b f t = elim (two (crit u)) as (λ v. crit u ≡ true)
    [ inl c ↦ c | inr c ↦ absurd (true≢false (sym t ∙ (ev-in u b c ∙ (sym (ev-in u a c) ∙ f)))) ]
