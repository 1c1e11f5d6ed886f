-- What a question is told as, from the refusals along its keys: its value, where none is refused, or the first refusal.
use Rattle.std.proofs.Common.{◌≡◌, ℕ, List, take, Option, Some, None, refl, sym, ◌∙◌, ap, subst}
use Rattle.std.specs.List.{AllByRecursion as Every}
use Rattle.fp_field.specs.declared.prime.Prime.{Prime}
use Rattle.fp_field.specs.Field.{number}
use Rattle.fp_field.proofs.FieldLaws.{is_field}
use Rattle.spaces.specs.Spaces.{Space}
use Rattle.term_lang.specs.declared.terms.Term.{Term}
use Rattle.values.specs.Asks.{Right, value_with, asked_with}
use Rattle.values.specs.Outcomes.{usual_limits, outcome, outcome_with, first_over, refused_or, is_value, is_over, Over as OverOf, Outcome as OutcomeOf}
use Rattle.values.specs.Values.{value}
use Rattle.values.proofs.Readings.{outcome_with-first, outcome-of}
use Rattle.oracle_iface.specs.declared.keys.Key.{Key}
use Rattle.oracle_iface.specs.declared.bodies.Over.{Over}
use Rattle.oracle_iface.specs.Stands.{quote_over}
use Rattle.oracle_iface.specs.KeyLaws.{IsReadBack}
use Rattle.oracle_iface.specs.Forcing.{Calls, Asked}
use Rattle.homology_rules.specs.Asking.{first_refusal, up_to_refusal, AskedFirst, EachAnswered}
use Rattle.homology_rules.specs.Shown.{HasShownValues}
use Rattle.homology_rules.proofs.Alike.{Alike}
use Rattle.homology_rules.proofs.CyclesRead.{quoted, quoted-none, quoted-some, refusals}
use Rattle.homology_rules.proofs.Through.{through-whole}
use Rattle.session_core.specs.declared.answered.Answered.{Answered}
use Rattle.session_core.specs.declared.answered.Answered.TheVariants.{Told as IsTold, Over as IsRefused}
use Rattle.session_core.specs.Answer.{Told, told, refused, told_value}
use Rattle.session_core.specs.Lines.{keys_asked}
use Rattle.session_core.specs.Telling.{refused_by}
use Rattle.session_core.specs.Whole.{IsReady}
use Rattle.session_core.specs.Along.{ComesAlong}
use Rattle.session_core.specs.Dimensions.{key_about}
use Rattle.session_core.proofs.BuiltSpaces.{shown_built}

module _ (p : Prime) (t : Term) (n : ℕ) {A : Type 0} (right : Right A) (back : Every (IsReadBack p) (asked_with (value (number p)) right)) where
  abbrev given : A
  given = value_with (value (number p)) right

  abbrev along : Option OverOf
  along = first_over (outcome usual_limits (number p)) (asked_with (value (number p)) right)

  read : outcome_with (outcome usual_limits (number p)) right ≡ refused_or along given
  read = outcome_with-first (value (number p)) (outcome usual_limits (number p)) (outcome-of usual_limits (number p)) right

  first : first_refusal (keys_asked p right) ≡ quoted (key_about t p 0) along
  first = refusals (key_about t p 0) (asked_with (value (number p)) right) back

  abbrev as_told : OutcomeOf A → Told A
  as_told (is_value v) = told v
  as_told (is_over e) = refused (refused_by (quote_over p e))

  same-told : (o : OutcomeOf A) → (let x : Told A = elim o [ is_value v ↦ told v | is_over e ↦ refused (refused_by (quote_over p e)) ] in x) ≡ as_told o
  same-told (is_value v) = refl
  same-told (is_over e) = refl

  told-read : told_value p t n right ≡ as_told (refused_or along given)
  told-read = same-told (outcome_with (outcome usual_limits (number p)) right) ∙ ap as_told read

  pub told-none : first_refusal (keys_asked p right) ≡ None → told_value p t n right ≡ told given
  told-none e = told-read ∙ by along (sym first ∙ e)
    where
      by : (o : Option OverOf) → quoted (key_about t p 0) o ≡ None → as_told (refused_or o given) ≡ told given
      by None q = refl
      by (Some w) q = absurd (let f : Some (quote_over p w) ≡ None = sym (quoted-some (key_about t p 0) w) ∙ q in cc)

  pub told-some : (w : Over) → first_refusal (keys_asked p right) ≡ Some w → told_value p t n right ≡ refused (refused_by w)
  told-some w e = told-read ∙ by along (sym first ∙ e)
    where
      by : (o : Option OverOf) → quoted (key_about t p 0) o ≡ Some w → as_told (refused_or o given) ≡ refused (refused_by w)
      by None q = absurd (let f : None ≡ Some w = sym (quoted-none (key_about t p 0)) ∙ q in cc)
      by (Some v) q = let f : Some (quote_over p v) ≡ Some w = sym (quoted-some (key_about t p 0) v) ∙ q in let g : quote_over p v ≡ w = cc in ap (λ x. refused (refused_by x)) g

-- ---- keys that are the same up to a refusal

pub asked-alike : {F : Type 0} (calls : Calls F) (ks js : List Key) (s t : F) → Alike ks js → AskedFirst calls ks s t → AskedFirst calls js s t
asked-alike calls ks js s t h a = (a.0, subst (λ us. Asked calls s (take a.0 us) t) h.keys a.1)

pub through-alike : {F A : Type 0} (calls : Calls F) (ks js : List Key) (Is : A → Type 0) (s t : F) (a : Answered A) → Alike ks js → ComesAlong calls ks Is s t a → EachAnswered calls s (up_to_refusal js) t
through-alike calls ks js Is s t (IsTold x) h c = subst (λ us. EachAnswered calls s us t) h.keys (through-whole calls ks s t c.0 c.2)
through-alike calls ks js Is s t (IsRefused w) h c = subst (λ us. EachAnswered calls s us t) h.keys c.1

-- ---- built spaces

pub ready-shown : (p : Prime) (X : Space) → IsReady X → HasShownValues (number p) X
ready-shown p X h = shown_built (number p) (is_field p) X h.0 h.1
