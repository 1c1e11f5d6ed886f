use Rattle.std.proofs.Common.{◌≡◌, ℕ, ◌<◌, cond, ◌==◌, bit_and, Some, sym, ◌∙◌, ap, subst, suc}
use Rattle.std.proofs.Math.Nat.{mod-lt}
use Rattle.std.proofs.lemmas.List.Elements.{All-pop}
use Rattle.fp_field.specs.Field.{number}
use Rattle.fp_field.proofs.Primes.{number_pos}
use Rattle.spaces.specs.Spaces.{set_of}
use Rattle.spaces.specs.Orders.{ordered}
use Rattle.cells.specs.declared.cells.Cell.TheVariants.{Pair as PairCell}
use Rattle.ez_flow.specs.Parts.{left_of, IsPairOf, form_weight}
use Rattle.ez_maps.proofs.PairSteps.{kept_pair, pair-masks}
use Rattle.ez_flow.proofs.Bits.{eq_of}
use Rattle.ez_flow.proofs.PairCells.{pair-with, weight-pair}
use Rattle.ez_flow.proofs.Pushes.{each-pop, each-push, all-push, moved, none-left, all-moved}
use Rattle.ez_maps.proofs.pair_faces.push_face.Goals as goal

pub loop-z-preserved : goal.loop-z-preserved
loop-z-preserved g c =
    let x = c.args.x.now in
    let n : ℕ = c.args.n in
    let q : ℕ = number c.args.p in
    let y = c.in_ok-y.y in
    let z = c.in-Some.z in
    let cut = each-pop (g.X.FlowFaces.is_left x n) c.loop-z.faces.items c.pop.new.self.items z c.in-Some.c c.in-Some.ensures.items c.loop-z.invariant.simplices in
    let iy = c.in_ok-y.ensures.simplex n c.requires.right in
    let fl = g.met.X.FlowFaces.left_forms x q in
    let fr = g.met.X.FlowFaces.right_forms x in
    let b = bit_and z.degens.mask y.degens.mask == 0 in
    record {
      left = (All-pop (λ t. t.1.value < q) c.loop-z.faces.items c.pop.new.self.items (Some (z, c.in-Some.c)) c.in-Some.ensures.items c.loop-z.invariant.left).0;
      simplices = cut.0;
      pushed = all-push (λ t. t.1.value < q) b c.loop-z.into.items c.push_pair.new.into.items (PairCell z y, c.mul.result) c.in_ok-push_pair.ensures
          (subst (λ v. v < q) (sym c.mul.ensures) (mod-lt _ (number_pos c.args.p))) c.loop-z.invariant.pushed;
      pairs = each-push (IsPairOf (g.X.FlowFaces.is_left x) (g.X.FlowFaces.is_right x) n) b c.loop-z.into.items c.push_pair.new.into.items (PairCell z y) c.mul.result
          c.in_ok-push_pair.ensures (λ e. pair-with (λ a b. g.X.FlowFaces.is_left x n a × g.X.FlowFaces.is_right x n b × (bit_and a.degens.mask b.degens.mask ≡ 0)) z y (cut.1, iy, eq_of (bit_and z.degens.mask y.degens.mask) 0 e)) c.loop-z.invariant.pairs;
      sum = λ w. moved q c.args.k.value
          (λ t. kept_pair q (left_of (g.X.FlowFaces.has_letters x) q (g.X.FlowFaces.left_space x)) (ordered (g.X.FlowFaces.right_space x)) w (n, g.X.FlowFaces.left_form x t, g.X.FlowFaces.right_form x y))
          (form_weight (g.X.FlowFaces.left_form x) (g.X.FlowFaces.right_form x) n w) b c.loop-z.into.items c.push_pair.new.into.items c.loop-z.faces.items c.pop.new.self.items
          z (PairCell z y) c.in-Some.c c.mul.result _ c.in-Some.ensures.items c.in_ok-push_pair.ensures c.mul.ensures
          (pair-masks q (left_of (g.X.FlowFaces.has_letters x) q (g.X.FlowFaces.left_space x)) (ordered (g.X.FlowFaces.right_space x)) n z.degens.mask y.degens.mask
          (g.X.FlowFaces.left_form x z) (g.X.FlowFaces.right_form x y) (fl.mask n z cut.1) (λ j l. fl.places n j z cut.1 l) (λ j l. fr.places n j y iy l) w
          ∙ ap (λ m. cond b m 0) (sym (weight-pair (λ a d. w (n, g.X.FlowFaces.left_form x a, g.X.FlowFaces.right_form x d)) z y)))
          (c.loop-z.invariant.sum w);
    }

pub returns-clause-sum : goal.returns-clause-sum
returns-clause-sum g c =
    let x = c.args.x.now in
    let n : ℕ = c.args.n in
    let q : ℕ = number c.args.p in
    let y = c.in_ok-y.y in
    let L = left_of (g.X.FlowFaces.has_letters x) q (g.X.FlowFaces.left_space x) in
    let R = ordered (g.X.FlowFaces.right_space x) in
    λ w. all-moved q c.args.k.value (form_weight (g.X.FlowFaces.left_form x) (g.X.FlowFaces.right_form x) n w)
    (λ t. kept_pair q L R w (n, t, g.X.FlowFaces.right_form x y))
    (λ t. kept_pair q L R w (n, t, (set_of (g.X.FlowFaces.right_space x)).face c.args.i (g.X.FlowFaces.right_form x c.args.right.now)))
    (g.X.FlowFaces.left_form x) c.args.into.now.items c.loop-z.into.items c.into_terms-faces.result.items c.loop-z.faces.items c.in_ok-left_face.field-0.terms
    (L.faces (suc n) c.args.i (g.X.FlowFaces.left_form x c.args.left.now))
    (none-left c.loop-z.faces.items (λ l. c.in_default.ensures.variant.1 (subst (λ m. 0 < m) (sym c.loop-z.faces.ok.0) l)))
    c.into_terms-faces.ensures.terms (c.in_ok-left_face.ensures.faces n c.requires.left)
    (λ t. ap (λ z. kept_pair q L R w (n, t, z)) c.in_ok-y.ensures.form)
    (c.loop-z.invariant.sum w)
