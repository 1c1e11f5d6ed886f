use Rattle.std.proofs.Common.{◌≡◌, ℕ, suc, ◌+◌, ◌*◌, subst, arith}
use Rattle.fp_field.specs.Field.{number, SameMod}
use Rattle.fp_field.specs.Chains.{weigh}
use Rattle.spaces.specs.Orders.{ordered}
use Rattle.spaces.specs.Spaces.{Plain}
use Rattle.cells.specs.declared.cells.Cell.{Cell}
use Rattle.spaces.specs.EilenbergZilber.{Pair, first_faces}
use Rattle.chain_core.specs.Formal.{numbers}
use Rattle.ez_flow.specs.Parts.{left_of, form_weight}
use Rattle.ez_maps.proofs.PairSteps.{kept_pair}
use Rattle.ez_flow.proofs.Signs.{face-added}
use Rattle.ez_maps.proofs.pair_faces.push_faces.Goals as goal

pub loop-i-preserved : goal.loop-i-preserved
loop-i-preserved g c =
    let x = c.args.x.now in
    let n : ℕ = c.args.n in
    let q : ℕ = number c.args.p in
    let i : ℕ = c.loop-i.i in
    let L = left_of (g.X.FlowFaces.has_letters x) q (g.X.FlowFaces.left_space x) in
    let R = ordered (g.X.FlowFaces.right_space x) in
    let W : (Pair (Plain (g.X.FlowFaces.left_space x)) (Plain (g.X.FlowFaces.right_space x)) → ℕ) → Cell → ℕ = λ w. form_weight (g.X.FlowFaces.left_form x) (g.X.FlowFaces.right_form x) n w in
    let lf = g.X.FlowFaces.left_form x c.args.left.now in
    let rf = g.X.FlowFaces.right_form x c.args.right.now in
    record {
      pushed = c.in_ok-push_face.ensures.elements;
      pairs = c.in_ok-push_face.ensures.pairs;
      sum = λ w. subst (λ j. SameMod q (weigh (W w) (numbers c.push_face.new.into.items))
          (weigh (W w) (numbers c.args.into.now.items) + c.args.k.value * weigh (kept_pair q L R w) (first_faces q L R j (suc n, lf, rf))))
          (let e : suc i ≡ i + 1 = omega arith in e)
          (face-added q L R (kept_pair q L R w) i n c.args.k.value c.signed.result.value (weigh (W w) (numbers c.push_face.new.into.items)) (weigh (W w) (numbers c.loop-i.into.items))
          (weigh (W w) (numbers c.args.into.now.items)) lf rf c.signed.ensures.value (c.in_ok-push_face.ensures.sum w) (c.loop-i.invariant.sum w));
    }

pub returns-clause-sum : goal.returns-clause-sum
returns-clause-sum g c =
    let x = c.args.x.now in
    let n : ℕ = c.args.n in
    let q : ℕ = number c.args.p in
    let L = left_of (g.X.FlowFaces.has_letters x) q (g.X.FlowFaces.left_space x) in
    let R = ordered (g.X.FlowFaces.right_space x) in
    let W : (Pair (Plain (g.X.FlowFaces.left_space x)) (Plain (g.X.FlowFaces.right_space x)) → ℕ) → Cell → ℕ = λ w. form_weight (g.X.FlowFaces.left_form x) (g.X.FlowFaces.right_form x) n w in
    let lo = c.loop-i-test.false in
    let hi = c.loop-i.auto.i-end in
    λ w. subst (λ j. SameMod q (weigh (W w) (numbers c.loop-i.into.items))
    (weigh (W w) (numbers c.args.into.now.items) + c.args.k.value * weigh (kept_pair q L R w) (first_faces q L R j (suc n, g.X.FlowFaces.left_form x c.args.left.now, g.X.FlowFaces.right_form x c.args.right.now))))
    (let e : c.loop-i.i ≡ suc (suc n) = omega (arith, lo, hi) in e)
    (c.loop-i.invariant.sum w)
