use Rattle.std.proofs.Common.{◌≡◌, ◌+◌, ◌-◌, reverse, true, false, refl, rules, arith}
use Rattle.std.proofs.lemmas.Result.{on_ok_weaker}
use Rattle.loop_words.proofs.FaceSteps.{later_face, first_face}
use Rattle.loop_words.proofs.faces.put_faces.Goals as goal

pub returns-then-i-gt0 : goal.returns-then-i-gt0
returns-then-i-gt0 g c =
    on_ok_weaker c.put_before.result (λ e.
    later_face (g.X.Faces.space c.args.x.now) c.args.letter.now c.args.i (c.args.i - 1) (c.args.i + 1)
    (record { inverse = c.args.letter.now.inverse; simplex = c.in_ok-simplex.simplex }) (reverse c.args.stack.now.items) (reverse c.put_before.new.stack.items)
    (omega (arith, c.if-i-gt0.true)) (omega (arith, c.if-i-gt0.true)) refl c.in_ok-simplex.ensures.form c.in_ok-simplex.ensures.simplex e) c.put_before.ensures

pub returns-then-letter : goal.returns-then-letter
returns-then-letter g c =
    let z : c.args.i ≡ 0 = search rules in
    let b : c.args.letter.now.inverse ≡ true = search rules in
    on_ok_weaker c.put_pair.result (λ e.
    first_face (g.X.Faces.space c.args.x.now) c.args.letter.now c.args.i c.in_ok-d0.d0 c.in_ok-d1.d1 c.in_ok-d1.d1 c.in_ok-d0.d0
    (reverse c.args.stack.now.items) (reverse c.put_pair.new.stack.items) true z b
    c.in_ok-d0.ensures.form c.in_ok-d1.ensures.form c.in_ok-d0.ensures.simplex c.in_ok-d1.ensures.simplex refl refl e) c.put_pair.ensures

pub returns : goal.returns
returns g c =
    let z : c.args.i ≡ 0 = search rules in
    let b : c.args.letter.now.inverse ≡ false = search rules in
    on_ok_weaker c.put_pair-2.result (λ e.
    first_face (g.X.Faces.space c.args.x.now) c.args.letter.now c.args.i c.in_ok-d0.d0 c.in_ok-d1.d1 c.in_ok-d0.d0 c.in_ok-d1.d1
    (reverse c.args.stack.now.items) (reverse c.put_pair-2.new.stack.items) false z b
    c.in_ok-d0.ensures.form c.in_ok-d1.ensures.form c.in_ok-d0.ensures.simplex c.in_ok-d1.ensures.simplex refl refl e) c.put_pair-2.ensures
