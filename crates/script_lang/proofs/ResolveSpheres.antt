-- What `*` and a name mean in a sphere.
use Rattle.std.proofs.Common.{◌≡◌, ℕ, zero, suc, ◌<◌, Bool, true, false, ◌==◌, ◌&&◌, ◌++◌, nat_eq, List, [], Some, None, codes, decimal, ◌∙◌, ap, arith, refl}
use Rattle.std.specs.Cmp.Lexicographic.{pointwise}
use Rattle.simp_ops.proofs.PlacesOf.{is_eq, not_eq}
use Rattle.spaces.specs.Spaces.{sphere}
use Rattle.cells.specs.declared.cells.Cell.{Cell}
use Rattle.cells.specs.declared.cells.Cell.TheVariants.{Base, Top}
use Rattle.term_lang.specs.Quote.{sphere_cell}
use Rattle.script_lang.specs.declared.simplices.BodyText.{BodyText}
use Rattle.script_lang.specs.declared.simplices.BodyText.TheVariants.{Star, Name}
use Rattle.script_lang.specs.Meaning.{mapped, when}
use Rattle.script_lang.specs.Resolved.{body_meaning, body_cell}
use Rattle.script_lang.proofs.ResolveMeanings.{meaning-Star, meaning-Name, sphere_other}

module _ (m n : ℕ) (body : BodyText) where
  star_is : body ≡ Star → body_cell body (sphere m) n ≡ mapped (sphere_cell n) (when (n == 0) ([], 0))
  star_is e = ap (mapped (sphere_cell n)) (ap (λ b. body_meaning b (sphere m) n) e ∙ ap (λ f. f (sphere m) n) meaning-Star)

  pub star_base : body ≡ Star → n ≡ 0 → body_cell body (sphere m) n ≡ Some Base
  star_base e z = star_is e ∙ (λ i. mapped (sphere_cell (z i)) (when (is_eq n 0 z i) ([], 0)))

  pub star_none : body ≡ Star → (n ≡ 0 → ⊥) → body_cell body (sphere m) n ≡ None
  star_none e z = star_is e ∙ ap (λ b. mapped (sphere_cell n) (when b ([], 0))) (not_eq n 0 z)

  module _ (name : List ℕ) where
    abbrev pub is_named : Bool
    is_named = pointwise nat_eq name (codes "S" ++ decimal m)

    name_is : body ≡ Name name → body_cell body (sphere m) n ≡ mapped (sphere_cell n) (when (is_named && (n == m)) ([], 1))
    name_is e = ap (mapped (sphere_cell n)) (ap (λ b. body_meaning b (sphere m) n) e ∙ ap (λ f. f (sphere m) n) (meaning-Name name))

    top : (k : ℕ) → 0 < k → sphere_cell k ([], 1) ≡ Top k
    top zero h = absurd (omega arith)
    top (suc k) h = refl

    pub name_top : body ≡ Name name → is_named ≡ true → n ≡ m → 0 < m → body_cell body (sphere m) n ≡ Some (Top n)
    name_top e t z h =
        name_is e ∙ (λ i. mapped (sphere_cell n) (when (t i && is_eq n m z i) ([], 1))) ∙ ap (λ (c : Cell). Some c) (top n (omega (arith, z)))

    pub name_differs : body ≡ Name name → is_named ≡ false → body_cell body (sphere m) n ≡ None
    name_differs e f = name_is e ∙ ap (λ b. mapped (sphere_cell n) (when (b && (n == m)) ([], 1))) f

    pub name_elsewhere : body ≡ Name name → (n ≡ m → ⊥) → body_cell body (sphere m) n ≡ None
    name_elsewhere e z = name_is e ∙ ap (λ b. mapped (sphere_cell n) (when (is_named && b) ([], 1))) (not_eq n m z) ∙ none is_named
      where
        none : (b : Bool) → mapped (sphere_cell n) (when (b && false) ([], 1)) ≡ None
        none true = refl
        none false = refl

  pub other_none : (body ≡ Star → ⊥) → ((name : List ℕ) → body ≡ Name name → ⊥) → body_cell body (sphere m) n ≡ None
  other_none s r = ap (mapped (sphere_cell n)) (sphere_other m n body s r)
