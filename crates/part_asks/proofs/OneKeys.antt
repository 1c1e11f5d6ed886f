-- One key that is asked for, and what its cell of the table holds.
use Rattle.std.proofs.Common.{◌≡◌, [], ◌∷◌, Some, None, Ok, refl, sym, ◌∙◌, ap, subst}
use Rattle.std.specs.Prelude.{Result}
use Rattle.std.specs.declared.alloc.AllocError.{AllocError}
use Rattle.oracle_iface.specs.declared.keys.Key.{Key}
use Rattle.oracle_iface.specs.declared.bodies.Over.{Over}
use Rattle.oracle_iface.specs.declared.bodies.Body.{Body}
use Rattle.oracle_iface.specs.declared.bodies.Outcome.{Outcome}
use Rattle.oracle_iface.specs.declared.bodies.Outcome.TheVariants.{Value, Over as IsOver}
use Rattle.oracle_iface.specs.declared.cell_values.CellValue.{CellValue}
use Rattle.oracle_iface.specs.Forcing.{Calls}
use Rattle.homology_rules.specs.Asking.{outcome_of, refusal_in, AskedFirst, EachAnswered}
use Rattle.homology_rules.proofs.Answered.{outcome-of_cell}

module _ {F : Type 0} (calls : Calls F) where
  pub one-asked : (k : Key) (s t : F) (r : Result CellValue AllocError) → calls s k r t → AskedFirst calls (k ∷ []) s t
  one-asked k s t r c = (1, (t, r, c, refl))

  pub one-answered : (k : Key) (s t : F) (v : CellValue) → calls s k (Ok v) t → EachAnswered calls s (k ∷ []) t
  one-answered k s t v c = (t, v, c, refl)

-- the outcome of the key, from its cell
pub outcome-is : (k : Key) (v x : CellValue) (o : Outcome) → v.key ≡ k → x ≡ v → x.outcome ≡ o → outcome_of k ≡ o
outcome-is k v x o key is e = ap outcome_of (sym key) ∙ sym (outcome-of_cell v) ∙ ap (λ y. y.outcome) (sym is) ∙ e

module _ (k : Key) (v x : CellValue) (key : v.key ≡ k) (is : x ≡ v) where
  pub not-refused : (b : Body) → x.outcome ≡ Value b → refusal_in (outcome_of k) ≡ None
  not-refused b e = ap refusal_in (outcome-is k v x (Value b) key is e)

  pub over-found : (w u : Over) → x.outcome ≡ IsOver w → u ≡ w → refusal_in (outcome_of k) ≡ Some u
  over-found w u e same = ap refusal_in (outcome-is k v x (IsOver w) key is e) ∙ ap (λ y. Some y) (sym same)

  -- what holds of the key's outcome holds of the cell's
  pub holds : (P : Outcome → Type 0) → P (outcome_of k) → P x.outcome
  holds P h = subst P (outcome-is k v x x.outcome key is refl) h

  pub part-is : {A : Type 0} (part : Outcome → A) (a b : A) → a ≡ b → b ≡ part x.outcome → a ≡ part (outcome_of k)
  part-is part a b e h = e ∙ h ∙ sym (ap part (outcome-is k v x x.outcome key is refl))
