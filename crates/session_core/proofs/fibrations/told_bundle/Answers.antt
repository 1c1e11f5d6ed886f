use Rattle.std.proofs.Common.{◌≡◌, subst}
use Rattle.term_lang.specs.Rows.{rows_of}
use Rattle.session_core.specs.Answer.{told, told_base as base_by}
use Rattle.session_core.proofs.BundleParts.{values_good, bundle_told, bundle_ready}
use Rattle.session_core.proofs.fibrations.told_bundle.Goals.{In_ok-base}
use Rattle.session_core.proofs.fibrations.told_bundle.Goals as goal

base_is : (c : In_ok-base) → base_by c.args.part.now ≡ told (rows_of c.in_ok-base.base)
base_is c = subst (λ t. base_by t ≡ told (rows_of c.in_ok-base.base)) c.get.ensures c.in_ok-base.ensures.told

pub check_closed-requires : goal.check_closed-requires
check_closed-requires c = values_good (rows_of c.in_ok-base.base) c.args.pairs.now c.in_ok-values.values c.in_ok-values.ensures.told

pub returns-clause-told : goal.returns-clause-told
returns-clause-told c =
    bundle_told c.args.part.now c.args.pairs.now c.in_ok-base.base (base_is (goal.at.returns-clause-told c).In_ok-base) c.in_ok-values.values c.in_ok-values.ensures.told
    c.in_ok-check_closed.ensures.closed c.in_ok-new.field-0 c.in_ok-new.ensures

pub returns-clause-ready : goal.returns-clause-ready
returns-clause-ready c =
    bundle_ready c.args.part.now c.args.pairs.now c.in_ok-base.base (base_is (goal.at.returns-clause-ready c).In_ok-base) c.in_ok-values.values c.in_ok-values.ensures.told
    c.in_ok-check_closed.ensures.closed c.in_ok-new.field-0 c.in_ok-new.ensures c.in_ok-base.ensures.form
