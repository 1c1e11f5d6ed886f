-- A bundle that is told over a base that is ready is ready.
use Rattle.std.proofs.Common.{◌≡◌, List, sym, subst, ℤ}
use Rattle.spaces.specs.Tables.{Table}
use Rattle.spaces.specs.Spaces.{bundle}
use Rattle.spaces.specs.Allowed.{IsTable}
use Rattle.term_lang.specs.declared.terms.Term.{Term}
use Rattle.term_lang.specs.SpaceOf.{space_of}
use Rattle.oracle_iface.specs.KeyLaws.{IsNamed}
use Rattle.oracle_iface.specs.Terms.{term_of}
use Rattle.oracle_iface.proofs.Named.{named-bundle}
use Rattle.script_lang.specs.declared.exprs.PairText.{PairText}
use Rattle.session_core.specs.Answer.{Told, told, ◌>>◌, told_base, told_values, told_closed, told_bundle}
use Rattle.session_core.specs.Whole.{IsReady}
use Rattle.session_core.proofs.BaseTold.{base_form}
use Rattle.session_core.proofs.BundleParts.{closed_none, values_ready}
use Rattle.session_core.proofs.ReplyParts.{same-told, told-parts}
use Rattle.session_core.proofs.TableNames.{table-named}

module _ (pairs : List PairText) (a : Term) (ready : IsReady (space_of a)) where
  abbrev named : Table → List ℤ → Told Term
  named t c = told (term_of (bundle t c))

  abbrev closing : Table → List ℤ → Told Term
  closing t values = told_closed t values >> named t

  abbrev over : Table → Told Term
  over t = told_values t pairs >> closing t

  term_ready : (t : Table) (c : List ℤ) → IsTable t → IsReady (bundle t c) → IsReady (space_of (term_of (bundle t c)))
  term_ready t c form h = let same : IsNamed (bundle t c) = named-bundle t c (table-named t form) in subst IsReady (sym same) h

  pub bundle_is_ready : (u : Term) → told_bundle pairs (told a) ≡ told u → IsReady (space_of u)
  bundle_is_ready u e =
      let base = told-parts (told_base a) over u e in
      let values = told-parts (told_values base.0 pairs) (closing base.0) u base.2 in
      let closed = told-parts (told_closed base.0 values.0) (named base.0) u values.2 in
      let form : IsTable base.0 = base_form (space_of a) ready.0 base.0 base.1 in
      let none = closed_none base.0 values.0 closed.0 closed.1 in
      let h : IsReady (bundle base.0 closed.0) = subst (λ c. IsReady (bundle base.0 c)) none.1 (values_ready base.0 pairs values.0 form values.1 none.0) in
      subst (λ x. IsReady (space_of x)) (same-told (term_of (bundle base.0 closed.0)) u closed.2) (term_ready base.0 closed.0 form h)
