use Rattle.std.proofs.Common.{map, length, sym, ◌∙◌, ap, subst}
use Rattle.std.proofs.lemmas.List.Elements.{All-same}
use Rattle.fp_field.specs.Field.{number}
use Rattle.fp_field.specs.Chains.{combination}
use Rattle.fp_field.specs.Normal.{normal}
use Rattle.cells.specs.Small.{small_cmp}
use Rattle.oracle_iface.specs.declared.keys.Op.TheVariants.{F as ImageOp}
use Rattle.homology_rules.specs.Asking.{first_refusal, up_to_refusal, MayForceEach, AskedFirst, EachAnswered, IsAnswered}
use Rattle.homology_rules.specs.CellKeys.{cell_key_of}
use Rattle.homology_rules.specs.Held.{HasSmallOver, small_in}
use Rattle.homology_rules.proofs.Through.{whole-through}
use Rattle.session_core.specs.KeyedParts.{keys_at_cells}
use Rattle.session_core.proofs.ImageSteps.{small-of_image, keys-of, values-of, as-many, held, summed}
use Rattle.session_core.proofs.images.image.Goals as goal

pub ask_all-requires : goal.ask_all-requires
ask_all-requires g c = subst (MayForceEach g.F.Forcer.may_force g.F.Forcer.forces c.args.forcer.now) (sym (c.deref.ensures.value ∙ c.in_ok-keys.ensures ∙ keys-of (cell_key_of c.args.key.now ImageOp) c.terms.result.now c.args.z.now.terms c.terms.ensures.terms)) c.requires.forcer

pub returns-in_err-over-clause-asked : goal.returns-in_err-over-clause-asked
returns-in_err-over-clause-asked g c = subst (λ ks. AskedFirst g.F.Forcer.forces ks c.args.forcer.now c.ask_all.new.forcer) (c.deref.ensures.value ∙ c.in_ok-keys.ensures ∙ keys-of (cell_key_of c.args.key.now ImageOp) c.terms.result.now c.args.z.now.terms c.terms.ensures.terms) c.ask_all.ensures.asked

pub returns-in-Over-clause-asked : goal.returns-in-Over-clause-asked
returns-in-Over-clause-asked g c = subst (λ ks. AskedFirst g.F.Forcer.forces ks c.args.forcer.now c.ask_all.new.forcer) (c.deref.ensures.value ∙ c.in_ok-keys.ensures ∙ keys-of (cell_key_of c.args.key.now ImageOp) c.terms.result.now c.args.z.now.terms c.terms.ensures.terms) c.ask_all.ensures.asked

pub returns-in_err-sum-in-Values-clause-asked : goal.returns-in_err-sum-in-Values-clause-asked
returns-in_err-sum-in-Values-clause-asked g c = subst (λ ks. AskedFirst g.F.Forcer.forces ks c.args.forcer.now c.ask_all.new.forcer) (c.deref.ensures.value ∙ c.in_ok-keys.ensures ∙ keys-of (cell_key_of c.args.key.now ImageOp) c.terms.result.now c.args.z.now.terms c.terms.ensures.terms) c.ask_all.ensures.asked

pub returns-clause-asked : goal.returns-clause-asked
returns-clause-asked g c = subst (λ ks. AskedFirst g.F.Forcer.forces ks c.args.forcer.now c.ask_all.new.forcer) (c.deref.ensures.value ∙ c.in_ok-keys.ensures ∙ keys-of (cell_key_of c.args.key.now ImageOp) c.terms.result.now c.args.z.now.terms c.terms.ensures.terms) c.ask_all.ensures.asked

pub returns-in-Over-clause-answer : goal.returns-in-Over-clause-answer
returns-in-Over-clause-answer g c = (
  sym (ap first_refusal (c.deref.ensures.value ∙ c.in_ok-keys.ensures ∙ keys-of (cell_key_of c.args.key.now ImageOp) c.terms.result.now c.args.z.now.terms c.terms.ensures.terms)) ∙ subst (λ x. IsAnswered g.F.Forcer.forces c.deref.result.now c.args.forcer.now c.ask_all.new.forcer x) c.in-Over.is c.in_ok-over.ensures.answers,
  subst (λ ks. EachAnswered g.F.Forcer.forces c.args.forcer.now (up_to_refusal ks) c.ask_all.new.forcer) (c.deref.ensures.value ∙ c.in_ok-keys.ensures ∙ keys-of (cell_key_of c.args.key.now ImageOp) c.terms.result.now c.args.z.now.terms c.terms.ensures.terms) c.in_ok-over.ensures.through,
)

pub small_sum_of-requires-clause-lengths : goal.small_sum_of-requires-clause-lengths
small_sum_of-requires-clause-lengths g c =
    let all = (subst (λ x. IsAnswered g.F.Forcer.forces c.deref.result.now c.args.forcer.now c.ask_all.new.forcer x) c.in-Values.is c.in_ok-over.ensures.answers) in
    ap length c.deref-in-Values.ensures.value
    ∙ as-many (cell_key_of c.args.key.now ImageOp) c.terms-in-Values.result.now c.args.z.now.terms c.in-Values.images.items c.terms-in-Values.ensures.terms (all.keys_are ∙ (c.deref.ensures.value ∙ c.in_ok-keys.ensures ∙ keys-of (cell_key_of c.args.key.now ImageOp) c.terms.result.now c.args.z.now.terms c.terms.ensures.terms))

pub small_sum_of-requires-clause-chains : goal.small_sum_of-requires-clause-chains
small_sum_of-requires-clause-chains g c =
    let all = (subst (λ x. IsAnswered g.F.Forcer.forces c.deref.result.now c.args.forcer.now c.ask_all.new.forcer x) c.in-Values.is c.in_ok-over.ensures.answers) in
    All-same (λ v. HasSmallOver c.args.key.now.prime v.outcome) _ _ c.deref-in-Values.ensures.value
    (held (cell_key_of c.args.key.now ImageOp) (HasSmallOver c.args.key.now.prime) (small-of_image c.args.key.now) c.args.z.now.terms c.in-Values.images.items (all.keys_are ∙ (c.deref.ensures.value ∙ c.in_ok-keys.ensures ∙ keys-of (cell_key_of c.args.key.now ImageOp) c.terms.result.now c.args.z.now.terms c.terms.ensures.terms))
    (sym (ap first_refusal (c.deref.ensures.value ∙ c.in_ok-keys.ensures ∙ keys-of (cell_key_of c.args.key.now ImageOp) c.terms.result.now c.args.z.now.terms c.terms.ensures.terms)) ∙ all.none_refused))

pub returns-clause-answer : goal.returns-clause-answer
returns-clause-answer g c =
    let all = (subst (λ x. IsAnswered g.F.Forcer.forces c.deref.result.now c.args.forcer.now c.ask_all.new.forcer x) c.in-Values.is c.in_ok-over.ensures.answers) in
    let none = sym (ap first_refusal (c.deref.ensures.value ∙ c.in_ok-keys.ensures ∙ keys-of (cell_key_of c.args.key.now ImageOp) c.terms.result.now c.args.z.now.terms c.terms.ensures.terms)) ∙ all.none_refused in (
      none,
      (λ i. record {
        prime = c.in_ok-sum-in-Values.ensures.prime i;
        terms = (c.in_ok-sum-in-Values.ensures.sum
            ∙ (λ j. normal small_cmp (number c.args.key.now.prime) (combination (values-of (cell_key_of c.args.key.now ImageOp) c.terms-in-Values.result.now c.args.z.now.terms c.terms-in-Values.ensures.terms j)
            (map (λ v. (small_in v.outcome).terms) (c.deref-in-Values.ensures.value j))))
            ∙ ap (normal small_cmp (number c.args.key.now.prime)) (summed (cell_key_of c.args.key.now ImageOp) (λ o. (small_in o).terms) c.args.z.now.terms c.in-Values.images.items (all.keys_are ∙ (c.deref.ensures.value ∙ c.in_ok-keys.ensures ∙ keys-of (cell_key_of c.args.key.now ImageOp) c.terms.result.now c.args.z.now.terms c.terms.ensures.terms)))) i;
      }),
      whole-through g.F.Forcer.forces (keys_at_cells c.args.key.now ImageOp c.args.z.now.terms) c.args.forcer.now c.ask_all.new.forcer none
          (subst (λ ks. EachAnswered g.F.Forcer.forces c.args.forcer.now (up_to_refusal ks) c.ask_all.new.forcer) (c.deref.ensures.value ∙ c.in_ok-keys.ensures ∙ keys-of (cell_key_of c.args.key.now ImageOp) c.terms.result.now c.args.z.now.terms c.terms.ensures.terms) c.in_ok-over.ensures.through),
    )
