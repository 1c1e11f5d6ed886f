use Rattle.std.proofs.Common.{sym, ap, ◌∙◌, subst}
use Rattle.std.specs.Prelude.{if◌then◌else◌, ◌==◌}
use Rattle.std.specs.Ordering.{nat_cmp}
use Rattle.std.specs.BTreeMap as tree
use Rattle.std.specs.FinMap.{get}
use Rattle.core_board.proofs.Maps.{get_updated}
use Rattle.core_board.proofs.board.Board.set.Goals as goal

pub returns-in_ok-insert-in-Some-clause-ok : goal.returns-in_ok-insert-in-Some-clause-ok
returns-in_ok-insert-in-Some-clause-ok c k =
    get_updated c.self.inside.states c.insert.new.self c.args.key c.args.state
    (subst (tree.Updates nat_cmp c.self.inside.states c.insert.new.self c.args.key) (sym c.in-Some.is) c.in_ok-insert-in-Some.ensures.updates) k
    ∙ ap (λ m. if k == c.args.key then c.args.state else get m k) c.self.view_is

pub returns-in-None-clause-ok : goal.returns-in-None-clause-ok
returns-in-None-clause-ok c k =
    get_updated c.self.inside.states c.remove.new.self c.args.key c.args.state
    (subst (tree.Updates nat_cmp c.self.inside.states c.remove.new.self c.args.key) (sym c.in-None.is) c.remove.ensures.updates) k
    ∙ ap (λ m. if k == c.args.key then c.args.state else get m k) c.self.view_is
