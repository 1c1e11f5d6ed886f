use Rattle.std.proofs.Common.{◌≡◌, ℕ, suc, ◌-◌, arith, sym, ◌∙◌}
use Rattle.simp_ops.specs.Bits.{bit}
use Rattle.reply_text.proofs.Appends.{piece_is, after_two}
use Rattle.reply_text.proofs.DegensTexts.{none_left, passed_over, put_next}
use Rattle.reply_text.proofs.degens.+push_degens_below.Goals as goal

above : (n : ℕ) → (n ≡ 0 → ⊥) → n ≡ suc (n - 1)
above n h = omega arith

pub returns-then-n-eq0 : goal.returns-then-n-eq0
returns-then-n-eq0 t c = piece_is _ _ _ _ _ c.push_after.ensures (none_left c.args.n c.args.is_first (bit c.args.degens.mask) c.if-n-eq0.true)

pub returns-then-not-has : goal.returns-then-not-has
returns-then-not-has t c =
    piece_is _ _ _ _ _ c.push_degens_below.ensures
    (passed_over c.args.n (c.args.n - 1) c.args.is_first (bit c.args.degens.mask) (above c.args.n c.if-n-eq0.false) (sym c.has.ensures ∙ c.if-not-has.true))

pub returns : goal.returns
returns t c =
    after_two _ _ _ _ _ _ _ _ _ c.in_ok-push_after.ensures c.in_ok-push_number.ensures c.push_degens_below-2.ensures
    (put_next c.args.n (c.args.n - 1) c.args.is_first (bit c.args.degens.mask) (above c.args.n c.if-n-eq0.false) (sym c.has.ensures ∙ c.if-not-has.false))
