use Rattle.term_lang.specs.SpaceOf.{space_of}
use Rattle.term_lang.proofs.TermMeasures.{left_part, right_part, suspended_part, looped_part, path_part, low_bound}
use Rattle.term_lang.proofs.measures.+lowest.Goals as goal

pub lowest-requires : goal.lowest-requires
lowest-requires t c = left_part t c.args.t.now c.decreases c.requires _ _ _ c.in-Product.is c.get.ensures

pub lowest-requires-in-Product : goal.lowest-requires-in-Product
lowest-requires-in-Product t c = right_part t c.args.t.now c.decreases c.requires _ _ _ c.in-Product.is c.get-in-Product.ensures

pub lowest-requires-in-Suspension : goal.lowest-requires-in-Suspension
lowest-requires-in-Suspension t c = suspended_part t c.args.t.now c.decreases c.requires _ _ c.in-Suspension.is c.get-in-Suspension.ensures

pub raised-requires : goal.raised-requires
raised-requires t c =
    let part = suspended_part t c.args.t.now c.decreases c.requires _ _ c.in-Suspension.is c.get-in-Suspension.ensures in
    low_bound (space_of c.get-in-Suspension.result.now) part.1 c.lowest-in-Suspension.result c.lowest-in-Suspension.ensures

pub lowest-requires-in-Loop : goal.lowest-requires-in-Loop
lowest-requires-in-Loop t c = looped_part t c.args.t.now c.decreases c.requires _ _ c.in-Loop.is c.get-in-Loop.ensures

pub lowest-low-requires : goal.lowest-low-requires
lowest-low-requires t c = path_part t c.args.t.now c.decreases c.requires _ _ c.in-Path.is c.get-in-Path.ensures
