-- The keys of a degree: the small cells, and then their small differentials.
use Rattle.std.proofs.Common.{◌≡◌, ℕ, suc, List, [], ◌∷◌, map, take, Option, Some, None, refl, sym, ◌∙◌, ap, subst}
use Rattle.std.specs.Prelude.{Result}
use Rattle.std.specs.declared.alloc.AllocError.{AllocError}
use Rattle.cells.specs.declared.cells.SmallCell.{SmallCell}
use Rattle.oracle_iface.specs.declared.keys.Key.{Key}
use Rattle.oracle_iface.specs.declared.keys.Op.TheVariants.{SmallD}
use Rattle.oracle_iface.specs.declared.bodies.Over.{Over}
use Rattle.oracle_iface.specs.declared.bodies.Outcome.{Outcome}
use Rattle.oracle_iface.specs.declared.bodies.Outcome.TheVariants.{Value, Over as IsOver}
use Rattle.oracle_iface.specs.declared.cell_values.CellValue.{CellValue}
use Rattle.oracle_iface.specs.Forcing.{Calls, Asked}
use Rattle.homology_rules.specs.Asking.{outcome_of, refusal_in, first_refusal, up_to_refusal, AskedFirst}
use Rattle.homology_rules.specs.SmallKeys.{small_key_of}
use Rattle.homology_rules.specs.Degrees.{cells_held, degree_key_of, cells_at, keys_of_degree}
use Rattle.homology_rules.proofs.Answered.{outcome-of_cell}

pub not_refused : (o : Outcome) → ((w : Over) → o ≡ IsOver w → ⊥) → refusal_in o ≡ None
not_refused (Value b) h = refl
not_refused (IsOver w) h = absurd (h w refl)

pub first-none : (d : Key) (ks : List Key) → refusal_in (outcome_of d) ≡ None → first_refusal (d ∷ ks) ≡ first_refusal ks
first-none d ks h = ap (λ o. let a : Option Over = elim o [ Some w ↦ Some w | None ↦ first_refusal ks ] in a) h

pub first-some : (d : Key) (ks : List Key) (w : Over) → refusal_in (outcome_of d) ≡ Some w → first_refusal (d ∷ ks) ≡ Some w
first-some d ks w h = ap (λ o. let a : Option Over = elim o [ Some w ↦ Some w | None ↦ first_refusal ks ] in a) h

module _ (k : Key) (n : ℕ) where
  abbrev pub small_ds : List Key
  small_ds = map (λ y. small_key_of k SmallD y) (cells_at k n)

  -- the keys that are made of the cells that were found
  pub found_keys : (v x : CellValue) (j : Key) (held lent : List SmallCell) (keys asked : List Key) → v.key ≡ j → j ≡ degree_key_of k n → x ≡ v → held ≡ cells_held x.outcome → lent ≡ held
      → keys ≡ map (λ y. small_key_of k SmallD y) lent → asked ≡ keys → asked ≡ small_ds
  found_keys v x j held lent keys asked e f g h l m a =
      a ∙ m ∙ ap (map (λ y. small_key_of k SmallD y))
      (l ∙ h ∙ ap (λ y. cells_held y.outcome) g ∙ ap cells_held (outcome-of_cell v) ∙ ap (λ q. cells_held (outcome_of q)) (e ∙ f))

  module _ {F : Type 0} (may : F → Key → Type 0) (calls : Calls F) (s t u : F) (r : Result CellValue AllocError) where
    pub one_asked : calls s (degree_key_of k n) r t → AskedFirst calls (keys_of_degree k n) s t
    one_asked c = (suc 0, (t, r, c, refl))

    pub others_asked : refusal_in (outcome_of (degree_key_of k n)) ≡ None → calls s (degree_key_of k n) r t → AskedFirst calls small_ds t u → AskedFirst calls (keys_of_degree k n) s u
    others_asked e c h = (
      suc h.0,
      subst (λ o. Asked calls s (take (suc h.0) (degree_key_of k n ∷ (let a : List Key = elim o [ Some w ↦ [] | None ↦ up_to_refusal small_ds ] in a))) u) (sym e) (t, r, c, h.1),
    )

    pub all_asked : calls s (degree_key_of k n) r t → Asked calls t small_ds u → Asked calls s (keys_of_degree k n) u
    all_asked c h = (t, r, c, h)
