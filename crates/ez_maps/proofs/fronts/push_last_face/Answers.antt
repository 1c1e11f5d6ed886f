use Rattle.std.proofs.Common.{◌≡◌, ℕ, suc, ◌+◌, ◌*◌, ◌<◌, true, Some, refl, sym, subst, arith}
use Rattle.std.proofs.Math.Nat.{mod-lt}
use Rattle.std.proofs.lemmas.List.Elements.{All-pop}
use Rattle.fp_field.specs.Field.{number}
use Rattle.fp_field.proofs.Primes.{number_pos}
use Rattle.ez_laws.specs.Weights.{SameWeights}
use Rattle.ez_laws.specs.Sides.{on_keys}
use Rattle.ez_flow.specs.Parts.{left_of}
use Rattle.ez_flow.proofs.Pushes.{each-pop, each-push, all-push, moved, none-left, all-moved}
use Rattle.ez_maps.proofs.fronts.push_last_face.Goals as goal

pub loop-z-preserved : goal.loop-z-preserved
loop-z-preserved g c =
    let x = c.args.x.now in
    let q : ℕ = number c.args.p in
    let il = g.X.FlowFaces.is_left x c.args.i in
    let fl = g.X.FlowFaces.left_form x in
    let z = c.in-Some.z in
    let cut = each-pop il c.loop-z.faces.items c.pop.new.self.items z c.in-Some.k c.in-Some.ensures.items c.loop-z.invariant.left_simplices in
    record {
      left = (All-pop (λ t. t.1.value < q) c.loop-z.faces.items c.pop.new.self.items (Some (z, c.in-Some.k)) c.in-Some.ensures.items c.loop-z.invariant.left).0;
      left_simplices = cut.0;
      pushed = all-push (λ t. t.1.value < q) true c.loop-z.into.items c.push.new.self.items (z, c.mul.result) c.in_ok-push.ensures.items
          (subst (λ v. v < q) (sym c.mul.ensures) (mod-lt (c.args.c.value * c.in-Some.k.value) (number_pos c.args.p))) c.loop-z.invariant.pushed;
      simplices = each-push il true c.loop-z.into.items c.push.new.self.items z c.mul.result c.in_ok-push.ensures.items (λ e. cut.1) c.loop-z.invariant.simplices;
      sum = λ w. moved q c.args.c.value (λ t. w (fl t)) (λ t. w (fl t)) true c.loop-z.into.items c.push.new.self.items c.loop-z.faces.items c.pop.new.self.items z z c.in-Some.k c.mul.result _
          c.in-Some.ensures.items c.in_ok-push.ensures.items c.mul.ensures refl (c.loop-z.invariant.sum w);
    }

pub returns-clause-sum : goal.returns-clause-sum
returns-clause-sum g c =
    let x = c.args.x.now in
    let q : ℕ = number c.args.p in
    let L = left_of (g.X.FlowFaces.has_letters x) q (g.X.FlowFaces.left_space x) in
    let fl = g.X.FlowFaces.left_form x in
    let one_more : c.args.i + 1 ≡ suc c.args.i = omega arith in
    λ w. all-moved q c.args.c.value (λ t. w (fl t)) w w fl c.args.into.now.items c.loop-z.into.items c.into_terms-faces.result.items c.loop-z.faces.items c.in_ok-left_face.field-0.terms
    (L.faces (suc c.args.i) (suc c.args.i) (fl c.args.s))
    (none-left c.loop-z.faces.items (λ l. c.in_default.ensures.variant.1 (subst (λ m. 0 < m) (sym c.loop-z.faces.ok.0) l)))
    c.into_terms-faces.ensures.terms
    (subst (λ k. SameWeights q (on_keys fl c.in_ok-left_face.field-0.terms) (L.faces (suc c.args.i) k (fl c.args.s))) one_more (c.in_ok-left_face.ensures.faces c.args.i c.requires.left))
    (λ t. refl) (c.loop-z.invariant.sum w)
