use Rattle.std.proofs.Common.{refl, sym, ◌∙◌, ap, subst}
use Rattle.term_lang.specs.SpaceOf.{space_of}
use Rattle.homology_rules.specs.Asking.{MayForceEach, AskedFirst, EachAnswered, up_to_refusal}
use Rattle.twist_rules.specs.PartSpaces.{IsFibred, base_of, fibre_of}
use Rattle.twist_rules.proofs.FibredBases.{degree-of, degree-low, keys-needed, found-for, kept}
use Rattle.twist_rules.proofs.rules.basis_found.Goals as goal

pub part_terms-requires : goal.part_terms-requires
part_terms-requires g c = subst (λ t. IsFibred (space_of t)) (sym c.get.ensures) c.requires.space

pub returns-in_err-parts-clause-asked : goal.returns-in_err-parts-clause-asked
returns-in_err-parts-clause-asked g c = (0, refl)

pub degree_at-requires : goal.degree_at-requires
degree_at-requires g c = degree-of c.args.key.now c.requires.valid c.requires.space c.requires.op

pub pairs_by_asking-requires-clause-degree : goal.pairs_by_asking-requires-clause-degree
pairs_by_asking-requires-clause-degree g c = degree-low c.args.key.now c.requires.space c.requires.op c.degree_at.result c.degree_at.ensures c.requires.valid

pub pairs_by_asking-requires-clause-forcer : goal.pairs_by_asking-requires-clause-forcer
pairs_by_asking-requires-clause-forcer g c =
    subst (MayForceEach g.F.Forcer.may_force g.F.Forcer.forces c.args.forcer.now)
    (sym (keys-needed c.args.key.now c.requires.space c.requires.op c.degree_at.result c.degree_at.ensures c.in_ok-parts.parts.base c.in_ok-parts.parts.fibre
    (c.in_ok-parts.ensures.base ∙ ap (λ t. base_of (space_of t)) c.get.ensures) (c.in_ok-parts.ensures.fibre ∙ ap (λ t. fibre_of (space_of t)) c.get.ensures)))
    c.requires.forcer

pub returns-clause-asked : goal.returns-clause-asked
returns-clause-asked g c =
    subst (λ ks. AskedFirst g.F.Forcer.forces ks c.args.forcer.now c.pairs_by_asking.new.forcer)
    (keys-needed c.args.key.now c.requires.space c.requires.op c.degree_at.result c.degree_at.ensures c.in_ok-parts.parts.base c.in_ok-parts.parts.fibre
    (c.in_ok-parts.ensures.base ∙ ap (λ t. base_of (space_of t)) c.get.ensures) (c.in_ok-parts.ensures.fibre ∙ ap (λ t. fibre_of (space_of t)) c.get.ensures))
    c.pairs_by_asking.ensures.asked

pub returns-clause-through : goal.returns-clause-through
returns-clause-through g c =
    kept c.pairs_by_asking.result _ _
    (λ o h. subst (λ ks. EachAnswered g.F.Forcer.forces c.args.forcer.now (up_to_refusal ks) c.pairs_by_asking.new.forcer)
    (keys-needed c.args.key.now c.requires.space c.requires.op c.degree_at.result c.degree_at.ensures c.in_ok-parts.parts.base c.in_ok-parts.parts.fibre
    (c.in_ok-parts.ensures.base ∙ ap (λ t. base_of (space_of t)) c.get.ensures) (c.in_ok-parts.ensures.fibre ∙ ap (λ t. fibre_of (space_of t)) c.get.ensures)) h)
    c.pairs_by_asking.ensures.through

pub returns-clause-found : goal.returns-clause-found
returns-clause-found g c =
    kept c.pairs_by_asking.result _ _
    (λ o h. found-for c.args.key.now c.requires.space c.requires.op c.degree_at.result c.degree_at.ensures c.in_ok-parts.parts.base c.in_ok-parts.parts.fibre
    (c.in_ok-parts.ensures.base ∙ ap (λ t. base_of (space_of t)) c.get.ensures) (c.in_ok-parts.ensures.fibre ∙ ap (λ t. fibre_of (space_of t)) c.get.ensures) o h)
    c.pairs_by_asking.ensures.found
