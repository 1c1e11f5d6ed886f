use Rattle.std.proofs.Common.{sym, subst}
use Rattle.std.specs.Prelude.{Ok}
use Rattle.oracle_iface.specs.Memos.{IsClaimed, IsOwn}
use Rattle.oracle_iface.specs.declared.memo.Claim.{Claim}
use Rattle.oracle_iface.specs.declared.memo.Claim.TheVariants.{Granted}
use Rattle.oracle_iface.proofs.Fronts.{granted_own}
use Rattle.engine_tests.proofs.book_tests.tried.Goals as goal

pub release-requires : goal.release-requires
release-requires g c =
    let key = c.args.key.now in
    let old = g.M.Memo.fronts c.args.memo.now in
    let new = g.M.Memo.fronts c.claim.new.self in
    let granted : IsClaimed (g.M.Memo.seat c.args.memo.now) (g.M.Memo.shard key) key old new (Ok (Granted c.in-Granted.ticket)) =
    subst (λ (x : Claim). IsClaimed (g.M.Memo.seat c.args.memo.now) (g.M.Memo.shard key) key old new (Ok x)) c.in-Granted.is c.in_ok-ticket.ensures.answer in
    let own = subst (λ n. IsOwn n (g.M.Memo.shard c.in-Granted.ticket.key) new c.in-Granted.ticket) (sym c.claim.ensures.seat)
    (granted_own g.M.Memo.shard (g.M.Memo.seat c.args.memo.now) key old new c.in-Granted.ticket granted) in
    record { ticket = own }
