use Rattle.std.proofs.Common.{◌≡◌, ◌+◌, ◌<◌, ◌++◌, ◌∷◌, [], List, ℤ, pos, get_or, length, false, true, refl, sym, ◌∙◌, ap, arith, rules}
use Rattle.spaces.specs.Spaces.{kz1}
use Rattle.cells.specs.declared.cells.Cell.TheVariants.{Ints}
use Rattle.term_lang.specs.Forms.{form}
use Rattle.kz1_group.proofs.ListForms.{zero_at}
use Rattle.twist_chains.proofs.FibreLists.{has_list, list_length, place_is, reading_first, reading_zero, reading_other, first_left, all_read, kept_as}
use Rattle.twist_chains.proofs.fibres.ints_of.Goals as goal
use Rattle.twist_chains.proofs.fibres.ints_of.Goals.{then-has+in_ok-push, else-has+in_ok-push-2}

pub unreachable-requires : goal.unreachable-requires
unreachable-requires c = let s = has_list c.args.n c.args.x.now c.requires.most c.requires.simplex in c.in_default.not-Ints s.0 s.1

pub loop-i-init : goal.loop-i-init
loop-i-init c =
    kept_as (form c.args.x.now kz1) c.as_slice-items.result.now c.new_seq-list.result [] 0 0 0 c.new_seq-list.ensures refl
    (reading_first c.args.n c.args.x.now c.requires.most c.requires.simplex c.as_slice-items.result.now (c.in-Ints.is ∙ ap Ints (sym c.as_slice-items.ensures)))

pub loop-i-preserved : goal.loop-i-preserved
loop-i-preserved c = elim c.if-has.branch [
  | then-has+in_ok-push w ↦
      let z : List ℤ = form c.args.x.now kz1 in
      let items : List ℤ = c.as_slice-items.result.now in
      let size = list_length c.args.n c.args.x.now c.requires.most c.requires.simplex in
      let within : c.loop-i.i < length z = omega (arith, size, c.loop-i-test.true) in
      let place : zero_at z c.loop-i.i ≡ true = sym (place_is c.args.n c.args.x.now c.requires.most c.requires.simplex c.loop-i.i c.loop-i-test.true) ∙ sym c.has.ensures ∙ w.if-has.true in
      let e : w.push.new.self ≡ c.loop-i.list ++ pos 0 ∷ [] = search rules in
      kept_as z items c.if-has.list w.push.new.self c.if-has.k c.loop-i.k (c.loop-i.i + 1) w.list-is w.k-is
      (reading_zero z items c.loop-i.list c.loop-i.k c.loop-i.i within c.loop-i.invariant place w.push.new.self e)
  | else-has+in_ok-push-2 w ↦
      let z : List ℤ = form c.args.x.now kz1 in
      let items : List ℤ = c.as_slice-items.result.now in
      let size = list_length c.args.n c.args.x.now c.requires.most c.requires.simplex in
      let within : c.loop-i.i < length z = omega (arith, size, c.loop-i-test.true) in
      let place : zero_at z c.loop-i.i ≡ false = sym (place_is c.args.n c.args.x.now c.requires.most c.requires.simplex c.loop-i.i c.loop-i-test.true) ∙ sym c.has.ensures ∙ w.if-has.false in
      let e : w.push-else-has.new.self ≡ c.loop-i.list ++ get_or items c.loop-i.k (pos 0) ∷ [] = search rules in
      kept_as z items c.if-has.list w.push-else-has.new.self c.if-has.k (c.loop-i.k + 1) (c.loop-i.i + 1) w.list-is w.k-is
      (reading_other z items c.loop-i.list c.loop-i.k c.loop-i.i within c.loop-i.invariant place w.push-else-has.new.self e)
]

pub bounds-items-k : goal.bounds-items-k
bounds-items-k c =
    let z : List ℤ = form c.args.x.now kz1 in
    let size = list_length c.args.n c.args.x.now c.requires.most c.requires.simplex in
    let within : c.loop-i.i < length z = omega (arith, size, c.loop-i-test.true) in
    let place : zero_at z c.loop-i.i ≡ false = sym (place_is c.args.n c.args.x.now c.requires.most c.requires.simplex c.loop-i.i c.loop-i-test.true) ∙ sym c.has.ensures ∙ c.if-has.false in
    (first_left z c.as_slice-items.result.now c.loop-i.list c.loop-i.k c.loop-i.i within c.loop-i.invariant place).0

pub offset_bounds-items-k : goal.offset_bounds-items-k
offset_bounds-items-k c = omega (arith, c.loop-i.invariant.low, c.loop-i-test.true, c.requires.most)

pub overflow_add-k : goal.overflow_add-k
overflow_add-k c = omega (arith, c.loop-i.invariant.low, c.loop-i-test.true, c.requires.most)

pub returns : goal.returns
returns c =
    let size = list_length c.args.n c.args.x.now c.requires.most c.requires.simplex in
    all_read (form c.args.x.now kz1) c.as_slice-items.result.now c.loop-i.list c.loop-i.k c.loop-i.i (omega (arith, size, c.loop-i.auto.i-end, c.loop-i-test.false)) c.loop-i.invariant
