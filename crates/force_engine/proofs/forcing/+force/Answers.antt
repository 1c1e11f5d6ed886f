use Rattle.std.proofs.Common.{◌<◌, ◌≡◌, ℕ, arith, subst, sym, ap, ◌∙◌, refl}
use Rattle.std.specs.Prelude.{Ok}
use Rattle.oracle_iface.specs.Keys.{key_of}
use Rattle.oracle_iface.specs.Memos.{IsClaimed}
use Rattle.force_engine.specs.Fronts.{IfTold, IsFreeBelow, Between, key_rank}
use Rattle.force_engine.specs.Runs.{Ran}
use Rattle.force_engine.specs.Ways.{HasValue, NeedsSettled}
use Rattle.force_engine.proofs.Boards.{published_unclaimed, published_held}
use Rattle.force_engine.proofs.Calls.{ok_any, ok_if, quiet_ran, found_settled, no_other, free_to_run, free_with_ticket, busy_done, full_done, still_own, granted_done}
use Rattle.force_engine.proofs.Keys.{lower_key, covered}
use Rattle.force_engine.proofs.Runs.{ran_self, stays_run, came_back, needs_came_back, ran_free}
use Rattle.force_engine.proofs.forcing.+force.Goals as goal

pub compute-apply-requires-clause-forcer : goal.compute-apply-requires-clause-forcer
compute-apply-requires-clause-forcer g t c = λ qs s q all asked need.
    let r = stays_run g.M.Memo.seat g.M.Memo.shard g.M.Memo.fronts g.M.Memo.origin (λ z. z.call.0) (λ z. z.call.3) (λ z. z.call.4.ghost_name) (λ z. z.call.4.now)
    (λ z. z.call.5.ghost_name) (λ z. z.call.5.now) (λ z. z.call.2.ghost_name) (λ z. z.call.2.now) _
    (λ z k r w e. let m = e.met.1 in (record { tops = m.0.0; same_rules = m.0.3; names = m.0.4; step_names = m.0.5; lack_names = m.0.2; lacks = λ x. (m.1.1.1 x).0; ran = m.1.1.0 }, λ clear. (m.1.1.1 clear).1)) _ _ s asked in
    let lower = g.R.RuleSet.lower c.args.rules.now c.args.key q c.requires.treats need in
    let less : key_rank (key_of c.args.key.prime q) < key_rank c.args.key =
    lower_key c.args.key.prime q c.args.key (g.R.RuleSet.valid c.args.rules.now _ lower.0) lower.1 (g.R.RuleSet.back c.args.rules.now c.args.key q c.requires.treats need) in
    let same : key_rank s.call.0.now.now ≡ key_rank c.args.key = ap (λ z. key_rank z.now.now) r.tops in
    let free = ran_free g.M.Memo.seat g.M.Memo.shard g.M.Memo.fronts g.M.Memo.origin (key_rank c.args.key) _ _ _ _ r.ran c.requires.free in (
      (
        omega (arith, c.decreases, less),
        (
          (λ a h. h),
          (
            (λ a h. h),
            (
              (λ a h. h),
              (
                (λ a h. h),
                (
                  subst (λ (n : ℕ). key_rank (key_of c.args.key.prime q) < n) (sym same) less,
                  (
                    subst (λ z. g.R.RuleSet.treats z (key_of c.args.key.prime q)) (ap (λ z. z.now) (sym r.same_rules)) lower.0,
                    subst (λ (n : ℕ). IfTold (IsFreeBelow (g.M.Memo.seat s.call.4.now) g.M.Memo.shard n) (g.M.Memo.fronts s.call.4.now)) (sym same) free,
                  ),
                ),
              ),
            ),
          ),
        ),
      ),
      λ r f e. e.met.1.1.0,
    )

pub compute-returns-in_err-outcome-clause-ran : goal.compute-returns-in_err-outcome-clause-ran
compute-returns-in_err-outcome-clause-ran g t c =
    subst (λ (n : ℕ). Ran g.M.Memo.seat g.M.Memo.shard g.M.Memo.fronts g.M.Memo.origin c.args.memo.now c.memo-1.given.0 n c.steps-1.given.0) c.tick.ensures
    (came_back g.M.Memo.seat g.M.Memo.shard g.M.Memo.fronts g.M.Memo.origin (λ z. z.call.0) (λ z. z.call.3) (λ z. z.call.4.ghost_name) (λ z. z.call.4.now)
    (λ z. z.call.5.ghost_name) (λ z. z.call.5.now) (λ z. z.call.2.ghost_name) (λ z. z.call.2.now) _
    (λ z k r w e. let m = e.met.1 in (record { tops = m.0.0; same_rules = m.0.3; names = m.0.4; step_names = m.0.5; lack_names = m.0.2; lacks = λ x. (m.1.1.1 x).0; ran = m.1.1.0 }, λ clear. (m.1.1.1 clear).1)) _ _ c.apply.new.forcer c.apply.ensures.asked.asked c.memo-1.given.0 c.steps-1.given.0 c.memo-1.given.1 c.steps-1.given.1)

pub compute-returns-in-Some-clause-ran : goal.compute-returns-in-Some-clause-ran
compute-returns-in-Some-clause-ran g t c =
    subst (λ (n : ℕ). Ran g.M.Memo.seat g.M.Memo.shard g.M.Memo.fronts g.M.Memo.origin c.args.memo.now c.memo-1.given.0 n c.steps-1.given.0) c.tick.ensures
    (came_back g.M.Memo.seat g.M.Memo.shard g.M.Memo.fronts g.M.Memo.origin (λ z. z.call.0) (λ z. z.call.3) (λ z. z.call.4.ghost_name) (λ z. z.call.4.now)
    (λ z. z.call.5.ghost_name) (λ z. z.call.5.now) (λ z. z.call.2.ghost_name) (λ z. z.call.2.now) _
    (λ z k r w e. let m = e.met.1 in (record { tops = m.0.0; same_rules = m.0.3; names = m.0.4; step_names = m.0.5; lack_names = m.0.2; lacks = λ x. (m.1.1.1 x).0; ran = m.1.1.0 }, λ clear. (m.1.1.1 clear).1)) _ _ c.apply.new.forcer c.apply.ensures.asked.asked c.memo-1.given.0 c.steps-1.given.0 c.memo-1.given.1 c.steps-1.given.1)

pub compute-returns-clause-ran : goal.compute-returns-clause-ran
compute-returns-clause-ran g t c =
    subst (λ (n : ℕ). Ran g.M.Memo.seat g.M.Memo.shard g.M.Memo.fronts g.M.Memo.origin c.args.memo.now c.memo-1.given.0 n c.steps-1.given.0) c.tick.ensures
    (came_back g.M.Memo.seat g.M.Memo.shard g.M.Memo.fronts g.M.Memo.origin (λ z. z.call.0) (λ z. z.call.3) (λ z. z.call.4.ghost_name) (λ z. z.call.4.now)
    (λ z. z.call.5.ghost_name) (λ z. z.call.5.now) (λ z. z.call.2.ghost_name) (λ z. z.call.2.now) _
    (λ z k r w e. let m = e.met.1 in (record { tops = m.0.0; same_rules = m.0.3; names = m.0.4; step_names = m.0.5; lack_names = m.0.2; lacks = λ x. (m.1.1.1 x).0; ran = m.1.1.0 }, λ clear. (m.1.1.1 clear).1)) _ _ c.apply.new.forcer c.apply.ensures.asked.asked c.memo-1.given.0 c.steps-1.given.0 c.memo-1.given.1 c.steps-1.given.1)

pub compute-returns-clause-needs : goal.compute-returns-clause-needs
compute-returns-clause-needs g t c = ok_any c.new.result
    (HasValue c.args.key → Between (NeedsSettled (g.M.Memo.seat c.args.memo.now) g.M.Memo.shard c.args.key) (g.M.Memo.fronts c.args.memo.now) (g.M.Memo.fronts c.memo-1.given.0))
    (λ has. needs_came_back g.M.Memo.seat g.M.Memo.shard g.M.Memo.fronts g.M.Memo.origin (λ z. z.call.0) (λ z. z.call.3) (λ z. z.call.4.ghost_name) (λ z. z.call.4.now)
    (λ z. z.call.5.ghost_name) (λ z. z.call.5.now) (λ z. z.call.2.ghost_name) (λ z. z.call.2.now) _
    (λ z k r w e. let m = e.met.1 in (record { tops = m.0.0; same_rules = m.0.3; names = m.0.4; step_names = m.0.5; lack_names = m.0.2; lacks = λ x. (m.1.1.1 x).0; ran = m.1.1.0 }, λ clear. (m.1.1.1 clear).1)) c.args.key c.apply.ensures.asked.asks _ c.apply.new.forcer c.apply.ensures.asked.asked c.memo-1.given.0 _ c.memo-1.given.1 c.lacked-2-1.given.1 c.in-None.is
    (covered c.args.key _ _ c.in_ok-outcome.was c.apply.ensures.asked.asks c.apply.ensures.outcome c.apply.ensures.asked.whole has))

pub force_with-returns-in_err-value-clause-ran : goal.force_with-returns-in_err-value-clause-ran
force_with-returns-in_err-value-clause-ran g t c =
    quiet_ran g.M.Memo.seat g.M.Memo.shard g.M.Memo.fronts g.M.Memo.origin c.args.key _ _ c.in_err-value.ensures.seat c.in_err-value.ensures.origin _ _ c.in_err-value.ensures.answer

pub force_with-returns-in-Present-clause-ran : goal.force_with-returns-in-Present-clause-ran
force_with-returns-in-Present-clause-ran g t c =
    let a = subst (λ z. IsClaimed (g.M.Memo.seat c.args.memo.now) (g.M.Memo.shard c.args.key) c.args.key (g.M.Memo.fronts c.args.memo.now) (g.M.Memo.fronts c.claim.new.self) (Ok z)) c.in-Present.is c.in_ok-value.ensures.answer in
    quiet_ran g.M.Memo.seat g.M.Memo.shard g.M.Memo.fronts g.M.Memo.origin c.args.key _ _ c.in_ok-value.ensures.seat c.in_ok-value.ensures.origin _ _ a.1

pub force_with-returns-in-Present-clause-settled : goal.force_with-returns-in-Present-clause-settled
force_with-returns-in-Present-clause-settled g t c =
    let a = subst (λ z. IsClaimed (g.M.Memo.seat c.args.memo.now) (g.M.Memo.shard c.args.key) c.args.key (g.M.Memo.fronts c.args.memo.now) (g.M.Memo.fronts c.claim.new.self) (Ok z)) c.in-Present.is c.in_ok-value.ensures.answer in
    found_settled g.M.Memo.seat g.M.Memo.shard g.M.Memo.fronts g.M.Memo.origin c.args.key _ _ c.in_ok-value.ensures.seat c.in_ok-value.ensures.origin a.1

pub force_with-compute-found-requires : goal.force_with-compute-found-requires
force_with-compute-found-requires g t c = λ κs known.
    let a = subst (λ z. IsClaimed (g.M.Memo.seat c.args.memo.now) (g.M.Memo.shard c.args.key) c.args.key (g.M.Memo.fronts c.args.memo.now) (g.M.Memo.fronts c.claim.new.self) (Ok z)) c.in-Granted.is c.in_ok-value.ensures.answer in
    (omega (arith, c.decreases), (known.0, (known.1.0, (known.1.1.0, (known.1.1.1, (c.requires.treats, free_with_ticket g.M.Memo.seat g.M.Memo.shard g.M.Memo.fronts g.M.Memo.origin c.args.key _ _ c.in_ok-value.ensures.seat c.in_ok-value.ensures.origin c.requires.free _ a.2))))))

pub force_with-compute-requires : goal.force_with-compute-requires
force_with-compute-requires g t c = λ κs known.
    let a = subst (λ z. IsClaimed (g.M.Memo.seat c.args.memo.now) (g.M.Memo.shard c.args.key) c.args.key (g.M.Memo.fronts c.args.memo.now) (g.M.Memo.fronts c.claim.new.self) (Ok z)) c.in-Busy.is c.in_ok-value.ensures.answer in
    (omega (arith, c.decreases), (known.0, (known.1.0, (known.1.1.0, (known.1.1.1, (c.requires.treats, free_to_run g.M.Memo.seat g.M.Memo.shard g.M.Memo.fronts g.M.Memo.origin c.args.key _ _ c.in_ok-value.ensures.seat c.in_ok-value.ensures.origin c.requires.free _ a))))))

pub force_with-compute-requires-in-Full : goal.force_with-compute-requires-in-Full
force_with-compute-requires-in-Full g t c = λ κs known.
    let a = subst (λ z. IsClaimed (g.M.Memo.seat c.args.memo.now) (g.M.Memo.shard c.args.key) c.args.key (g.M.Memo.fronts c.args.memo.now) (g.M.Memo.fronts c.claim.new.self) (Ok z)) c.in-Full.is c.in_ok-value.ensures.answer in
    (omega (arith, c.decreases), (known.0, (known.1.0, (known.1.1.0, (known.1.1.1, (c.requires.treats, free_to_run g.M.Memo.seat g.M.Memo.shard g.M.Memo.fronts g.M.Memo.origin c.args.key _ _ c.in_ok-value.ensures.seat c.in_ok-value.ensures.origin c.requires.free _ a.1))))))

pub force_with-settle-requires-clause-own : goal.force_with-settle-requires-clause-own
force_with-settle-requires-clause-own g t c =
    let a = subst (λ z. IsClaimed (g.M.Memo.seat c.args.memo.now) (g.M.Memo.shard c.args.key) c.args.key (g.M.Memo.fronts c.args.memo.now) (g.M.Memo.fronts c.claim.new.self) (Ok z)) c.in-Granted.is c.in_ok-value.ensures.answer in
    still_own g.M.Memo.seat g.M.Memo.shard g.M.Memo.fronts g.M.Memo.origin c.args.key _ _ c.in_ok-value.ensures.seat c.in_ok-value.ensures.origin c.requires.free _ _ _ c.compute-found.ensures.ran c.in-Granted.ticket a.0 a.1 a.2

pub force_with-returns-in-Granted-clause-ran : goal.force_with-returns-in-Granted-clause-ran
force_with-returns-in-Granted-clause-ran g t c =
    let a = subst (λ z. IsClaimed (g.M.Memo.seat c.args.memo.now) (g.M.Memo.shard c.args.key) c.args.key (g.M.Memo.fronts c.args.memo.now) (g.M.Memo.fronts c.claim.new.self) (Ok z)) c.in-Granted.is c.in_ok-value.ensures.answer in
    (granted_done g.M.Memo.seat g.M.Memo.shard g.M.Memo.fronts g.M.Memo.origin c.args.key _ _ c.in_ok-value.ensures.seat c.in_ok-value.ensures.origin c.requires.free _ _ _ c.compute-found.ensures.ran c.in-Granted.ticket a.0 a.1 a.2 _ c.settle.ensures.seat c.settle.ensures.origin c.compute-found.result c.settle.result
    c.compute-found.ensures.needs c.settle.ensures.ended).ran

pub force_with-returns-in-Granted-clause-there : goal.force_with-returns-in-Granted-clause-there
force_with-returns-in-Granted-clause-there g t c = λ there.
    let a = subst (λ z. IsClaimed (g.M.Memo.seat c.args.memo.now) (g.M.Memo.shard c.args.key) c.args.key (g.M.Memo.fronts c.args.memo.now) (g.M.Memo.fronts c.claim.new.self) (Ok z)) c.in-Granted.is c.in_ok-value.ensures.answer in
    no_other g.M.Memo.seat g.M.Memo.shard g.M.Memo.fronts g.M.Memo.origin c.args.key _ _ c.in_ok-value.ensures.seat c.in_ok-value.ensures.origin _ _ c.args.steps.now c.compute-found.new.steps (λ h x e. published_unclaimed (sym e ∙ x.0)) there a.2

pub force_with-returns-in-Granted-clause-began : goal.force_with-returns-in-Granted-clause-began
force_with-returns-in-Granted-clause-began g t c = λ _rose.
    let a = subst (λ z. IsClaimed (g.M.Memo.seat c.args.memo.now) (g.M.Memo.shard c.args.key) c.args.key (g.M.Memo.fronts c.args.memo.now) (g.M.Memo.fronts c.claim.new.self) (Ok z)) c.in-Granted.is c.in_ok-value.ensures.answer in
    (granted_done g.M.Memo.seat g.M.Memo.shard g.M.Memo.fronts g.M.Memo.origin c.args.key _ _ c.in_ok-value.ensures.seat c.in_ok-value.ensures.origin c.requires.free _ _ _ c.compute-found.ensures.ran c.in-Granted.ticket a.0 a.1 a.2 _ c.settle.ensures.seat c.settle.ensures.origin c.compute-found.result c.settle.result
    c.compute-found.ensures.needs c.settle.ensures.ended).begun

pub force_with-returns-in-Granted-clause-settled : goal.force_with-returns-in-Granted-clause-settled
force_with-returns-in-Granted-clause-settled g t c =
    let a = subst (λ z. IsClaimed (g.M.Memo.seat c.args.memo.now) (g.M.Memo.shard c.args.key) c.args.key (g.M.Memo.fronts c.args.memo.now) (g.M.Memo.fronts c.claim.new.self) (Ok z)) c.in-Granted.is c.in_ok-value.ensures.answer in
    ok_if c.settle.result _ (granted_done g.M.Memo.seat g.M.Memo.shard g.M.Memo.fronts g.M.Memo.origin c.args.key _ _ c.in_ok-value.ensures.seat c.in_ok-value.ensures.origin c.requires.free _ _ _ c.compute-found.ensures.ran c.in-Granted.ticket a.0 a.1 a.2 _ c.settle.ensures.seat c.settle.ensures.origin c.compute-found.result c.settle.result
    c.compute-found.ensures.needs c.settle.ensures.ended).settled

pub force_with-returns-in-Busy-clause-ran : goal.force_with-returns-in-Busy-clause-ran
force_with-returns-in-Busy-clause-ran g t c =
    let a = subst (λ z. IsClaimed (g.M.Memo.seat c.args.memo.now) (g.M.Memo.shard c.args.key) c.args.key (g.M.Memo.fronts c.args.memo.now) (g.M.Memo.fronts c.claim.new.self) (Ok z)) c.in-Busy.is c.in_ok-value.ensures.answer in
    (busy_done g.M.Memo.seat g.M.Memo.shard g.M.Memo.fronts g.M.Memo.origin c.args.key _ _ c.in_ok-value.ensures.seat c.in_ok-value.ensures.origin c.requires.free _ _ _ c.compute.ensures.ran _ a).ran

pub force_with-returns-in-Busy-clause-there : goal.force_with-returns-in-Busy-clause-there
force_with-returns-in-Busy-clause-there g t c = λ there.
    let a = subst (λ z. IsClaimed (g.M.Memo.seat c.args.memo.now) (g.M.Memo.shard c.args.key) c.args.key (g.M.Memo.fronts c.args.memo.now) (g.M.Memo.fronts c.claim.new.self) (Ok z)) c.in-Busy.is c.in_ok-value.ensures.answer in
    no_other g.M.Memo.seat g.M.Memo.shard g.M.Memo.fronts g.M.Memo.origin c.args.key _ _ c.in_ok-value.ensures.seat c.in_ok-value.ensures.origin _ _ c.args.steps.now c.compute.new.steps (λ h x e. published_held _ (sym e ∙ x)) there a

pub force_with-returns-in-Busy-clause-began : goal.force_with-returns-in-Busy-clause-began
force_with-returns-in-Busy-clause-began g t c = λ _rose.
    let a = subst (λ z. IsClaimed (g.M.Memo.seat c.args.memo.now) (g.M.Memo.shard c.args.key) c.args.key (g.M.Memo.fronts c.args.memo.now) (g.M.Memo.fronts c.claim.new.self) (Ok z)) c.in-Busy.is c.in_ok-value.ensures.answer in
    (busy_done g.M.Memo.seat g.M.Memo.shard g.M.Memo.fronts g.M.Memo.origin c.args.key _ _ c.in_ok-value.ensures.seat c.in_ok-value.ensures.origin c.requires.free _ _ _ c.compute.ensures.ran _ a).begun

pub force_with-returns-in-Busy-clause-settled : goal.force_with-returns-in-Busy-clause-settled
force_with-returns-in-Busy-clause-settled g t c =
    let a = subst (λ z. IsClaimed (g.M.Memo.seat c.args.memo.now) (g.M.Memo.shard c.args.key) c.args.key (g.M.Memo.fronts c.args.memo.now) (g.M.Memo.fronts c.claim.new.self) (Ok z)) c.in-Busy.is c.in_ok-value.ensures.answer in
    ok_any c.compute.result _ ((busy_done g.M.Memo.seat g.M.Memo.shard g.M.Memo.fronts g.M.Memo.origin c.args.key _ _ c.in_ok-value.ensures.seat c.in_ok-value.ensures.origin c.requires.free _ _ _ c.compute.ensures.ran _ a).settled refl)

pub force_with-returns-in-Full-clause-ran : goal.force_with-returns-in-Full-clause-ran
force_with-returns-in-Full-clause-ran g t c =
    let a = subst (λ z. IsClaimed (g.M.Memo.seat c.args.memo.now) (g.M.Memo.shard c.args.key) c.args.key (g.M.Memo.fronts c.args.memo.now) (g.M.Memo.fronts c.claim.new.self) (Ok z)) c.in-Full.is c.in_ok-value.ensures.answer in
    (full_done g.M.Memo.seat g.M.Memo.shard g.M.Memo.fronts g.M.Memo.origin c.args.key _ _ c.in_ok-value.ensures.seat c.in_ok-value.ensures.origin c.requires.free _ _ _ c.compute-in-Full.ensures.ran a.1).ran

pub force_with-returns-in-Full-clause-there : goal.force_with-returns-in-Full-clause-there
force_with-returns-in-Full-clause-there g t c = λ there.
    let a = subst (λ z. IsClaimed (g.M.Memo.seat c.args.memo.now) (g.M.Memo.shard c.args.key) c.args.key (g.M.Memo.fronts c.args.memo.now) (g.M.Memo.fronts c.claim.new.self) (Ok z)) c.in-Full.is c.in_ok-value.ensures.answer in
    no_other g.M.Memo.seat g.M.Memo.shard g.M.Memo.fronts g.M.Memo.origin c.args.key _ _ c.in_ok-value.ensures.seat c.in_ok-value.ensures.origin _ _ c.args.steps.now c.compute-in-Full.new.steps (λ h x e. published_unclaimed (sym e ∙ x.0)) there a.1

pub force_with-returns-in-Full-clause-began : goal.force_with-returns-in-Full-clause-began
force_with-returns-in-Full-clause-began g t c = λ _rose.
    let a = subst (λ z. IsClaimed (g.M.Memo.seat c.args.memo.now) (g.M.Memo.shard c.args.key) c.args.key (g.M.Memo.fronts c.args.memo.now) (g.M.Memo.fronts c.claim.new.self) (Ok z)) c.in-Full.is c.in_ok-value.ensures.answer in
    (full_done g.M.Memo.seat g.M.Memo.shard g.M.Memo.fronts g.M.Memo.origin c.args.key _ _ c.in_ok-value.ensures.seat c.in_ok-value.ensures.origin c.requires.free _ _ _ c.compute-in-Full.ensures.ran a.1).begun

pub force_with-returns-in-Full-clause-settled : goal.force_with-returns-in-Full-clause-settled
force_with-returns-in-Full-clause-settled g t c =
    let a = subst (λ z. IsClaimed (g.M.Memo.seat c.args.memo.now) (g.M.Memo.shard c.args.key) c.args.key (g.M.Memo.fronts c.args.memo.now) (g.M.Memo.fronts c.claim.new.self) (Ok z)) c.in-Full.is c.in_ok-value.ensures.answer in
    ok_any c.compute-in-Full.result _ ((full_done g.M.Memo.seat g.M.Memo.shard g.M.Memo.fronts g.M.Memo.origin c.args.key _ _ c.in_ok-value.ensures.seat c.in_ok-value.ensures.origin c.requires.free _ _ _ c.compute-in-Full.ensures.ran a.1).settled refl)

pub compute-closure-returns-in-Err : goal.compute-closure-returns-in-Err
compute-closure-returns-in-Err g t c = record {
  key = tt;
  ran = ran_self g.M.Memo.seat g.M.Memo.shard g.M.Memo.fronts g.M.Memo.origin c.captures.memo.now c.captures.steps.now;
  settled = λ e. absurd (cc e);
}
