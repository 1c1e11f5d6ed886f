use Rattle.normal_forms.proofs.BuiltForms.{built_cells}
use Rattle.oracle_iface.proofs.ValidPlaces.{key-allowed}
use Rattle.term_lang.specs.SpaceOf.{space_of}
use Rattle.twist_rules.proofs.AtCells.{parts-built}
use Rattle.twist_rules.proofs.NeedsAnswered.{may-needs, asks-failed, asks-concluded}
use Rattle.twist_rules.proofs.PartNames.{assembled-loopless, built-assembled}
use Rattle.twist_rules.proofs.rules.within_limits.Goals as goal

pub found-requires-clause-forcer : goal.found-requires-clause-forcer
found-requires-clause-forcer g c = may-needs g.F.Forcer.forces c.args.key.now g.F.Forcer.may_force c.args.forcer.now c.requires.forcer

pub returns-in_err-found-clause-asked : goal.returns-in_err-found-clause-asked
returns-in_err-found-clause-asked g c =
    asks-failed g.F.Forcer.forces c.args.key.now c.args.forcer.now c.found.new.forcer _ c.from_residual.result c.from_residual.ensures.1 c.found.ensures.asked

pub concluded-requires-clause-space : goal.concluded-requires-clause-space
concluded-requires-clause-space g c = assembled-loopless (space_of c.args.key.now.term) (built-assembled (space_of c.args.key.now.term) c.requires.space.1)

pub concluded-requires-clause-back : goal.concluded-requires-clause-back
concluded-requires-clause-back g c =
    let s = space_of c.args.key.now.term in
    let b = parts-built s c.requires.space.0 (key-allowed c.args.key.now c.requires.valid) c.requires.space.1 in
    c.part_needs.ensures.back c.requires.valid c.requires.space.0 (built-assembled s c.requires.space.1) c.requires.op
    (built_cells _ b.0.0 b.0.1) (built_cells _ b.1.0 b.1.1)

pub returns-clause-asked : goal.returns-clause-asked
returns-clause-asked g c =
    asks-concluded g.F.Forcer.forces c.args.key.now c.args.forcer.now c.found.new.forcer c.concluded.result c.found.ensures.asked c.in_ok-found.ensures.through c.concluded.ensures.unrefused
