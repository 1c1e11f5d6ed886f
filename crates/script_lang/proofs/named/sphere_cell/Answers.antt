use Rattle.std.proofs.Common.{sym, ◌∙◌}
use Rattle.script_lang.proofs.ResolveSpheres.{star_base, star_none, name_top, name_differs, name_elsewhere, other_none}
use Rattle.script_lang.proofs.named.sphere_cell.Goals as goal
use Rattle.script_lang.proofs.named.sphere_cell.Goals.{else-n-m-via-then-n-m+in_ok-is_top-in-Name+else-branch, else-n-m-via-else-n-m}

pub returns-then-n-eq0 : goal.returns-then-n-eq0
returns-then-n-eq0 c = sym (star_base c.args.m c.args.n c.args.body.now c.in-Star.is c.if-n-eq0.true)

pub returns-else-n-eq0 : goal.returns-else-n-eq0
returns-else-n-eq0 c = sym (star_none c.args.m c.args.n c.args.body.now c.in-Star.is c.if-n-eq0.false)

pub returns-then-branch : goal.returns-then-branch
returns-then-branch c =
    sym (name_top c.args.m c.args.n c.args.body.now c.in-Name.name c.in-Name.is (sym c.in_ok-is_top-in-Name.ensures ∙ c.if-branch.true) c.if-n-m.true c.requires)

pub returns-else-n-m : goal.returns-else-n-m
returns-else-n-m c =
    elim c.else-n-m.branch [
      | else-n-m-via-then-n-m+in_ok-is_top-in-Name+else-branch w ↦
          sym (name_differs c.args.m c.args.n c.args.body.now c.in-Name.name c.in-Name.is (sym w.in_ok-is_top-in-Name.ensures ∙ w.if-branch.false))
      | else-n-m-via-else-n-m w ↦ sym (name_elsewhere c.args.m c.args.n c.args.body.now c.in-Name.name c.in-Name.is w.if-n-m.false)
    ]

pub returns-in_default : goal.returns-in_default
returns-in_default c = sym (other_none c.args.m c.args.n c.args.body.now c.in_default.not-Star c.in_default.not-Name)
