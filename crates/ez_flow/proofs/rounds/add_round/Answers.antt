use Rattle.std.proofs.Common.{◌≡◌, ℕ, suc, ◌+◌, ◌*◌, ◌%◌, ◌<◌, [], ◌∷◌, ◌++◌, true, ◌∙◌, ap, subst, arith}
use Rattle.fp_field.specs.Field.{number, sign, SameMod}
use Rattle.fp_field.proofs.Primes.{number_pos}
use Rattle.simp_ops.specs.Bits.{bit, inserted}
use Rattle.spaces.specs.Orders.{ordered}
use Rattle.cells.specs.declared.cells.Cell.TheVariants.{Pair as PairCell}
use Rattle.ez_flow.specs.Parts.{left_of, left_in, IsPairOf, IsSourceOf, form_weight}
use Rattle.ez_flow.proofs.Moves.{parts-are, left-raised, right-raised, target-pair, moved-sum, next-sum}
use Rattle.ez_flow.proofs.RoundWeights.{no-last}
use Rattle.ez_flow.proofs.Signs.{minus_is}
use Rattle.ez_flow.proofs.Pushes.{each-push, all-push, weigh-push}
use Rattle.ez_flow.proofs.rounds.add_round.Goals as goal

pub source_place-j-requires-clause-left : goal.source_place-j-requires-clause-left
source_place-j-requires-clause-left g c =
    let x = c.args.x.now in
    let n : ℕ = c.args.n in
    let q : ℕ = number c.args.p in
    let pos = number_pos c.args.p in
    let L = left_of (g.X.FlowFaces.has_letters x) q (g.X.FlowFaces.left_space x) in
    let I = left_in (g.X.FlowFaces.has_letters x) (g.X.FlowFaces.left_space x) in
    let R = ordered (g.X.FlowFaces.right_space x) in
    let ll = g.met.X.FlowFaces.left_identities x q pos in
    let rl = g.met.X.FlowFaces.right_identities x in
    let il = g.X.FlowFaces.is_left x in
    let fl = g.X.FlowFaces.left_form x in
    let ir = g.X.FlowFaces.is_right x in
    let fr = g.X.FlowFaces.right_form x in
    let lf = g.met.X.FlowFaces.left_forms x q in
    let rf = g.met.X.FlowFaces.right_forms x in
    let sh = g.met.X.FlowFaces.short x in
    let a = c.parts.result.0.now in
    let b = c.parts.result.1.now in
    let e = c.parts.ensures in
    lf.mask n a (parts-are q (g.X.FlowFaces.bound x) pos L I R ll rl il fl ir fr lf rf sh n c.args.s a b e c.requires.source c.requires.degree).0

pub raised-requires-clause-room : goal.raised-requires-clause-room
raised-requires-clause-room g c =
    let x = c.args.x.now in
    let n : ℕ = c.args.n in
    let q : ℕ = number c.args.p in
    let pos = number_pos c.args.p in
    let L = left_of (g.X.FlowFaces.has_letters x) q (g.X.FlowFaces.left_space x) in
    let I = left_in (g.X.FlowFaces.has_letters x) (g.X.FlowFaces.left_space x) in
    let R = ordered (g.X.FlowFaces.right_space x) in
    let ll = g.met.X.FlowFaces.left_identities x q pos in
    let rl = g.met.X.FlowFaces.right_identities x in
    let il = g.X.FlowFaces.is_left x in
    let fl = g.X.FlowFaces.left_form x in
    let ir = g.X.FlowFaces.is_right x in
    let fr = g.X.FlowFaces.right_form x in
    let lf = g.met.X.FlowFaces.left_forms x q in
    let rf = g.met.X.FlowFaces.right_forms x in
    let sh = g.met.X.FlowFaces.short x in
    let a = c.parts.result.0.now in
    let b = c.parts.result.1.now in
    let e = c.parts.ensures in
    no-last a.degens.mask n (omega (arith, sh, c.requires.degree)) (lf.mask n a (parts-are q (g.X.FlowFaces.bound x) pos L I R ll rl il fl ir fr lf rf sh n c.args.s a b e c.requires.source c.requires.degree).0)

pub add_faces-requires-clause-left : goal.add_faces-requires-clause-left
add_faces-requires-clause-left g c =
    let x = c.args.x.now in
    let n : ℕ = c.args.n in
    let q : ℕ = number c.args.p in
    let pos = number_pos c.args.p in
    let L = left_of (g.X.FlowFaces.has_letters x) q (g.X.FlowFaces.left_space x) in
    let I = left_in (g.X.FlowFaces.has_letters x) (g.X.FlowFaces.left_space x) in
    let R = ordered (g.X.FlowFaces.right_space x) in
    let ll = g.met.X.FlowFaces.left_identities x q pos in
    let rl = g.met.X.FlowFaces.right_identities x in
    let il = g.X.FlowFaces.is_left x in
    let fl = g.X.FlowFaces.left_form x in
    let ir = g.X.FlowFaces.is_right x in
    let fr = g.X.FlowFaces.right_form x in
    let lf = g.met.X.FlowFaces.left_forms x q in
    let rf = g.met.X.FlowFaces.right_forms x in
    let sh = g.met.X.FlowFaces.short x in
    let a = c.parts.result.0.now in
    let b = c.parts.result.1.now in
    let e = c.parts.ensures in
    let j : ℕ = c.source_place-j.result in
    let one_more : j + 1 ≡ suc j = omega arith in
    let la = c.in_ok-left.left in
    let rb = c.in_ok-right.right in
    let rbs = subst (λ i. (k : ℕ) → bit rb.degens.mask k ≡ inserted i (bit b.degens.mask) k) one_more c.in_ok-right.ensures.places in
    (left-raised q (g.X.FlowFaces.bound x) pos L I R ll rl il fl ir fr lf rf sh n c.args.s a b e c.requires.source c.requires.degree j c.source_place-j.ensures.event c.source_place-j.ensures.below la rb c.in_ok-left.ensures.cell c.in_ok-left.ensures.places c.in_ok-right.ensures.cell rbs).0

pub add_faces-requires-clause-right : goal.add_faces-requires-clause-right
add_faces-requires-clause-right g c =
    let x = c.args.x.now in
    let n : ℕ = c.args.n in
    let q : ℕ = number c.args.p in
    let pos = number_pos c.args.p in
    let L = left_of (g.X.FlowFaces.has_letters x) q (g.X.FlowFaces.left_space x) in
    let I = left_in (g.X.FlowFaces.has_letters x) (g.X.FlowFaces.left_space x) in
    let R = ordered (g.X.FlowFaces.right_space x) in
    let ll = g.met.X.FlowFaces.left_identities x q pos in
    let rl = g.met.X.FlowFaces.right_identities x in
    let il = g.X.FlowFaces.is_left x in
    let fl = g.X.FlowFaces.left_form x in
    let ir = g.X.FlowFaces.is_right x in
    let fr = g.X.FlowFaces.right_form x in
    let lf = g.met.X.FlowFaces.left_forms x q in
    let rf = g.met.X.FlowFaces.right_forms x in
    let sh = g.met.X.FlowFaces.short x in
    let a = c.parts.result.0.now in
    let b = c.parts.result.1.now in
    let e = c.parts.ensures in
    let j : ℕ = c.source_place-j.result in
    let one_more : j + 1 ≡ suc j = omega arith in
    let la = c.in_ok-left.left in
    let rb = c.in_ok-right.right in
    let rbs = subst (λ i. (k : ℕ) → bit rb.degens.mask k ≡ inserted i (bit b.degens.mask) k) one_more c.in_ok-right.ensures.places in
    (right-raised q (g.X.FlowFaces.bound x) pos L I R ll rl il fl ir fr lf rf sh n c.args.s a b e c.requires.source c.requires.degree j c.source_place-j.ensures.event c.source_place-j.ensures.below la rb c.in_ok-left.ensures.cell c.in_ok-left.ensures.places c.in_ok-right.ensures.cell rbs).0

pub add_faces-requires-clause-elements : goal.add_faces-requires-clause-elements
add_faces-requires-clause-elements g c =
    let x = c.args.x.now in
    let n : ℕ = c.args.n in
    let q : ℕ = number c.args.p in
    let pos = number_pos c.args.p in
    let L = left_of (g.X.FlowFaces.has_letters x) q (g.X.FlowFaces.left_space x) in
    let I = left_in (g.X.FlowFaces.has_letters x) (g.X.FlowFaces.left_space x) in
    let R = ordered (g.X.FlowFaces.right_space x) in
    let ll = g.met.X.FlowFaces.left_identities x q pos in
    let rl = g.met.X.FlowFaces.right_identities x in
    let il = g.X.FlowFaces.is_left x in
    let fl = g.X.FlowFaces.left_form x in
    let ir = g.X.FlowFaces.is_right x in
    let fr = g.X.FlowFaces.right_form x in
    let lf = g.met.X.FlowFaces.left_forms x q in
    let rf = g.met.X.FlowFaces.right_forms x in
    let sh = g.met.X.FlowFaces.short x in
    let a = c.parts.result.0.now in
    let b = c.parts.result.1.now in
    let e = c.parts.ensures in
    all-push (λ t. t.1.value < q) true c.args.next.now.items c.push.new.self.items (c.args.s, c.args.k) c.in_ok-push.ensures.items c.requires.element c.requires.next_elements

pub add_faces-requires-clause-pairs : goal.add_faces-requires-clause-pairs
add_faces-requires-clause-pairs g c =
    let x = c.args.x.now in
    let n : ℕ = c.args.n in
    let q : ℕ = number c.args.p in
    let pos = number_pos c.args.p in
    let L = left_of (g.X.FlowFaces.has_letters x) q (g.X.FlowFaces.left_space x) in
    let I = left_in (g.X.FlowFaces.has_letters x) (g.X.FlowFaces.left_space x) in
    let R = ordered (g.X.FlowFaces.right_space x) in
    let ll = g.met.X.FlowFaces.left_identities x q pos in
    let rl = g.met.X.FlowFaces.right_identities x in
    let il = g.X.FlowFaces.is_left x in
    let fl = g.X.FlowFaces.left_form x in
    let ir = g.X.FlowFaces.is_right x in
    let fr = g.X.FlowFaces.right_form x in
    let lf = g.met.X.FlowFaces.left_forms x q in
    let rf = g.met.X.FlowFaces.right_forms x in
    let sh = g.met.X.FlowFaces.short x in
    let a = c.parts.result.0.now in
    let b = c.parts.result.1.now in
    let e = c.parts.ensures in
    each-push (IsSourceOf il ir n) true c.args.next.now.items c.push.new.self.items c.args.s c.args.k c.in_ok-push.ensures.items (λ u. c.requires.source) c.requires.next_pairs

pub returns-clause-moved_elements : goal.returns-clause-moved_elements
returns-clause-moved_elements g c =
    let x = c.args.x.now in
    let n : ℕ = c.args.n in
    let q : ℕ = number c.args.p in
    let pos = number_pos c.args.p in
    let L = left_of (g.X.FlowFaces.has_letters x) q (g.X.FlowFaces.left_space x) in
    let I = left_in (g.X.FlowFaces.has_letters x) (g.X.FlowFaces.left_space x) in
    let R = ordered (g.X.FlowFaces.right_space x) in
    let ll = g.met.X.FlowFaces.left_identities x q pos in
    let rl = g.met.X.FlowFaces.right_identities x in
    let il = g.X.FlowFaces.is_left x in
    let fl = g.X.FlowFaces.left_form x in
    let ir = g.X.FlowFaces.is_right x in
    let fr = g.X.FlowFaces.right_form x in
    let lf = g.met.X.FlowFaces.left_forms x q in
    let rf = g.met.X.FlowFaces.right_forms x in
    let sh = g.met.X.FlowFaces.short x in
    let a = c.parts.result.0.now in
    let b = c.parts.result.1.now in
    let e = c.parts.ensures in
    let j : ℕ = c.source_place-j.result in
    let one_more : j + 1 ≡ suc j = omega arith in
    let la = c.in_ok-left.left in
    let rb = c.in_ok-right.right in
    let rbs = subst (λ i. (k : ℕ) → bit rb.degens.mask k ≡ inserted i (bit b.degens.mask) k) one_more c.in_ok-right.ensures.places in
    all-push (λ t. t.1.value < q) true c.args.moved.now.items c.push-2.new.self.items (PairCell la rb, c.signed-unit.result) (c.in_ok-push-2.ensures.items ∙ ap (λ t. c.args.moved.now.items ++ (t, c.signed-unit.result) ∷ []) c.in_ok-pair_cell.ensures) c.signed-unit.ensures.element c.requires.moved_elements

pub returns-clause-moved_pairs : goal.returns-clause-moved_pairs
returns-clause-moved_pairs g c =
    let x = c.args.x.now in
    let n : ℕ = c.args.n in
    let q : ℕ = number c.args.p in
    let pos = number_pos c.args.p in
    let L = left_of (g.X.FlowFaces.has_letters x) q (g.X.FlowFaces.left_space x) in
    let I = left_in (g.X.FlowFaces.has_letters x) (g.X.FlowFaces.left_space x) in
    let R = ordered (g.X.FlowFaces.right_space x) in
    let ll = g.met.X.FlowFaces.left_identities x q pos in
    let rl = g.met.X.FlowFaces.right_identities x in
    let il = g.X.FlowFaces.is_left x in
    let fl = g.X.FlowFaces.left_form x in
    let ir = g.X.FlowFaces.is_right x in
    let fr = g.X.FlowFaces.right_form x in
    let lf = g.met.X.FlowFaces.left_forms x q in
    let rf = g.met.X.FlowFaces.right_forms x in
    let sh = g.met.X.FlowFaces.short x in
    let a = c.parts.result.0.now in
    let b = c.parts.result.1.now in
    let e = c.parts.ensures in
    let j : ℕ = c.source_place-j.result in
    let one_more : j + 1 ≡ suc j = omega arith in
    let la = c.in_ok-left.left in
    let rb = c.in_ok-right.right in
    let rbs = subst (λ i. (k : ℕ) → bit rb.degens.mask k ≡ inserted i (bit b.degens.mask) k) one_more c.in_ok-right.ensures.places in
    each-push (IsPairOf il ir (suc n)) true c.args.moved.now.items c.push-2.new.self.items (PairCell la rb) c.signed-unit.result (c.in_ok-push-2.ensures.items ∙ ap (λ t. c.args.moved.now.items ++ (t, c.signed-unit.result) ∷ []) c.in_ok-pair_cell.ensures) (λ u. target-pair q (g.X.FlowFaces.bound x) pos L I R ll rl il fl ir fr lf rf sh n c.args.s a b e c.requires.source c.requires.degree j c.source_place-j.ensures.event c.source_place-j.ensures.below la rb c.in_ok-left.ensures.cell c.in_ok-left.ensures.places c.in_ok-right.ensures.cell rbs) c.requires.moved_pairs

pub returns-clause-moved : goal.returns-clause-moved
returns-clause-moved g c =
    let x = c.args.x.now in
    let n : ℕ = c.args.n in
    let q : ℕ = number c.args.p in
    let pos = number_pos c.args.p in
    let L = left_of (g.X.FlowFaces.has_letters x) q (g.X.FlowFaces.left_space x) in
    let I = left_in (g.X.FlowFaces.has_letters x) (g.X.FlowFaces.left_space x) in
    let R = ordered (g.X.FlowFaces.right_space x) in
    let ll = g.met.X.FlowFaces.left_identities x q pos in
    let rl = g.met.X.FlowFaces.right_identities x in
    let il = g.X.FlowFaces.is_left x in
    let fl = g.X.FlowFaces.left_form x in
    let ir = g.X.FlowFaces.is_right x in
    let fr = g.X.FlowFaces.right_form x in
    let lf = g.met.X.FlowFaces.left_forms x q in
    let rf = g.met.X.FlowFaces.right_forms x in
    let sh = g.met.X.FlowFaces.short x in
    let a = c.parts.result.0.now in
    let b = c.parts.result.1.now in
    let e = c.parts.ensures in
    let j : ℕ = c.source_place-j.result in
    let one_more : j + 1 ≡ suc j = omega arith in
    let la = c.in_ok-left.left in
    let rb = c.in_ok-right.right in
    let rbs = subst (λ i. (k : ℕ) → bit rb.degens.mask k ≡ inserted i (bit b.degens.mask) k) one_more c.in_ok-right.ensures.places in
    let unit = subst (λ i. SameMod q c.signed-unit.result.value (sign q i * c.args.k.value)) one_more c.signed-unit.ensures.value in
    λ w. moved-sum q (g.X.FlowFaces.bound x) pos L I R ll rl il fl ir fr lf rf sh n c.args.s a b e c.requires.source c.requires.degree j c.source_place-j.ensures.event c.source_place-j.ensures.below la rb c.in_ok-left.ensures.cell c.in_ok-left.ensures.places c.in_ok-right.ensures.cell rbs w c.args.k.value c.signed-unit.result.value _ _ unit
    (weigh-push (form_weight fl fr (suc n) w) true c.args.moved.now.items c.push-2.new.self.items (PairCell la rb) c.signed-unit.result (c.in_ok-push-2.ensures.items ∙ ap (λ t. c.args.moved.now.items ++ (t, c.signed-unit.result) ∷ []) c.in_ok-pair_cell.ensures))

pub returns-clause-next : goal.returns-clause-next
returns-clause-next g c =
    let x = c.args.x.now in
    let n : ℕ = c.args.n in
    let q : ℕ = number c.args.p in
    let pos = number_pos c.args.p in
    let L = left_of (g.X.FlowFaces.has_letters x) q (g.X.FlowFaces.left_space x) in
    let I = left_in (g.X.FlowFaces.has_letters x) (g.X.FlowFaces.left_space x) in
    let R = ordered (g.X.FlowFaces.right_space x) in
    let ll = g.met.X.FlowFaces.left_identities x q pos in
    let rl = g.met.X.FlowFaces.right_identities x in
    let il = g.X.FlowFaces.is_left x in
    let fl = g.X.FlowFaces.left_form x in
    let ir = g.X.FlowFaces.is_right x in
    let fr = g.X.FlowFaces.right_form x in
    let lf = g.met.X.FlowFaces.left_forms x q in
    let rf = g.met.X.FlowFaces.right_forms x in
    let sh = g.met.X.FlowFaces.short x in
    let a = c.parts.result.0.now in
    let b = c.parts.result.1.now in
    let e = c.parts.ensures in
    let j : ℕ = c.source_place-j.result in
    let one_more : j + 1 ≡ suc j = omega arith in
    let la = c.in_ok-left.left in
    let rb = c.in_ok-right.right in
    let rbs = subst (λ i. (k : ℕ) → bit rb.degens.mask k ≡ inserted i (bit b.degens.mask) k) one_more c.in_ok-right.ensures.places in
    let unit = subst (λ i. SameMod q c.signed-unit.result.value (sign q i * c.args.k.value)) one_more c.signed-unit.ensures.value in
    λ w. next-sum q (g.X.FlowFaces.bound x) pos L I R ll rl il fl ir fr lf rf sh n c.args.s a b e c.requires.source c.requires.degree j c.source_place-j.ensures.event c.source_place-j.ensures.below la rb c.in_ok-left.ensures.cell c.in_ok-left.ensures.places c.in_ok-right.ensures.cell rbs w c.args.k.value c.signed-unit.result.value c.neg.result.value _ _ _ unit
    (ap (λ m. m % q) c.neg.ensures ∙ minus_is q pos c.signed-unit.result.value c.signed-unit.ensures.element)
    (weigh-push (form_weight fl fr n w) true c.args.next.now.items c.push.new.self.items c.args.s c.args.k c.in_ok-push.ensures.items)
    (c.in_ok-add_faces.ensures.sum w)
