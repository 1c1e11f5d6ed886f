use Rattle.std.proofs.Common.{◌≡◌, ◌+◌, ◌-◌, length, arith, rules}
use Rattle.kernel_run.proofs.Kept.{kept_result}
use Rattle.kernel_run.proofs.open_line.OpenLine.push.Goals as goal

pub returns-clause-pushed : goal.returns-clause-pushed
returns-clause-pushed c =
    let room : (65537 - c.len-room.result) + length c.self.inside.first.items ≡ 65537 = omega (arith, c.self.invariant, c.len-room.ensures) in
    kept_result c.extend_from_slice.result c.self.inside.first.items c.args.self.now _ _ _ _ c.extend_from_slice.ensures.items c.first_bytes.ensures room (search rules)
