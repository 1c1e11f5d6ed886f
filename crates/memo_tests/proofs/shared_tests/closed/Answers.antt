use Rattle.std.proofs.Common.{rules, ◌∷◌, [], ◌≡◌, sym, subst}
use Rattle.memo_shared.specs.Whole.{IsWhole}
use Rattle.memo_tests.proofs.Seats.{both}
use Rattle.memo_tests.proofs.shared_tests.closed.Goals as goal

pub close-requires : goal.close-requires
close-requires c =
    let is : c.push-2.new.self ≡ c.args.two ∷ c.args.one ∷ [] = search rules in record {
      whole = subst (IsWhole c.args.memo) (sym is)
          (both c.args.memo c.args.one c.args.two c.requires.passes.0 c.requires.passes.1 c.requires.seats.0 c.requires.seats.1 c.requires.seats.2);
    }
