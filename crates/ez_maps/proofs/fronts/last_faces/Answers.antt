use Rattle.std.proofs.Common.{ℕ, suc, ◌<◌, Some, sym, subst}
use Rattle.std.proofs.lemmas.List.Elements.{All-pop}
use Rattle.fp_field.specs.Field.{number}
use Rattle.fp_field.specs.Chains.{weigh}
use Rattle.ez_flow.specs.Parts.{left_of}
use Rattle.ez_flow.proofs.Pushes.{each-pop, none-left, taken, all-taken}
use Rattle.ez_maps.proofs.fronts.last_faces.Goals as goal

pub push_last_face-requires-clause-left : goal.push_last_face-requires-clause-left
push_last_face-requires-clause-left g c =
    (each-pop (g.X.FlowFaces.is_left c.args.x.now (suc c.args.i)) c.loop-s.left.items c.pop.new.self.items c.in-Some.s c.in-Some.c c.in-Some.ensures.items c.loop-s.invariant.left).1

pub push_last_face-requires-clause-element : goal.push_last_face-requires-clause-element
push_last_face-requires-clause-element g c =
    (All-pop (λ t. t.1.value < number c.args.p) c.loop-s.left.items c.pop.new.self.items (Some (c.in-Some.s, c.in-Some.c)) c.in-Some.ensures.items c.loop-s.invariant.left_elements).1

pub loop-s-preserved : goal.loop-s-preserved
loop-s-preserved g c =
    let x = c.args.x.now in
    let i : ℕ = c.args.i in
    let q : ℕ = number c.args.p in
    let L = left_of (g.X.FlowFaces.has_letters x) q (g.X.FlowFaces.left_space x) in
    let fl = g.X.FlowFaces.left_form x in
    let items = c.in-Some.ensures.items in
    record {
      left_elements = (All-pop (λ t. t.1.value < q) c.loop-s.left.items c.pop.new.self.items (Some (c.in-Some.s, c.in-Some.c)) items c.loop-s.invariant.left_elements).0;
      left = (each-pop (g.X.FlowFaces.is_left x (suc i)) c.loop-s.left.items c.pop.new.self.items c.in-Some.s c.in-Some.c items c.loop-s.invariant.left).0;
      elements = c.in_ok-push_last_face.ensures.elements;
      simplices = c.in_ok-push_last_face.ensures.simplices;
      sum = λ w. taken q (λ t. weigh w (L.faces (suc i) (suc i) (fl t))) c.loop-s.left.items c.pop.new.self.items c.in-Some.s c.in-Some.c _ _ _ items
          (c.in_ok-push_last_face.ensures.sum w) (c.loop-s.invariant.sum w);
    }

pub returns-clause-sum : goal.returns-clause-sum
returns-clause-sum g c =
    let x = c.args.x.now in
    let i : ℕ = c.args.i in
    let q : ℕ = number c.args.p in
    let L = left_of (g.X.FlowFaces.has_letters x) q (g.X.FlowFaces.left_space x) in
    let fl = g.X.FlowFaces.left_form x in
    λ w. all-taken q (λ t. w (fl t)) (λ t. weigh w (L.faces (suc i) (suc i) (fl t))) c.new-faces.result.items c.loop-s.faces.items c.args.chain.items c.loop-s.left.items c.new-faces.ensures.items
    (none-left c.loop-s.left.items (λ l. c.in_default.ensures.variant.1 (subst (λ m. 0 < m) (sym c.loop-s.left.ok.0) l)))
    (c.loop-s.invariant.sum w)
