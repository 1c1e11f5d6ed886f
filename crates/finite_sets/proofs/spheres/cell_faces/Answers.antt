use Rattle.std.proofs.Common.{◌≡◌, ◌-◌, ◌+◌, ◌^◌, ◌*◌, ◌%◌, suc, [], ◌∷◌, ◌++◌, map, ◌∙◌, ap, arith}
use Rattle.std.proofs.lemmas.List.{map_push}
use Rattle.std.proofs.lemmas.Nat.{one_shl}
use Rattle.simp_ops.specs.Bits.{mask_word}
use Rattle.spaces.specs.Tables.{RowSimplex, copies, all_degeneracies}
use Rattle.term_lang.specs.Rows.{face_of}
use Rattle.finite_sets.proofs.SphereRows.{copies-push, word-ones}
use Rattle.finite_sets.proofs.spheres.cell_faces.Goals as goal

pub loop-i-init : goal.loop-i-init
loop-i-init c = ap (map face_of) c.new_seq-faces.ensures

pub loop-i-preserved : goal.loop-i-preserved
loop-i-preserved c =
    let n = c.args.n in
    let x : RowSimplex = (all_degeneracies (n - 1), 0) in
    let here : mask_word (1 * 2 ^ (n - 1) % 2 ^ 64 - 1) ≡ all_degeneracies (n - 1) = ap (λ m. mask_word (m - 1)) (one_shl (n - 1) 64 (omega arith)) ∙ word-ones (n - 1) (omega arith) in
    let more : suc c.loop-i._i ≡ c.loop-i._i + 1 = omega arith in
    ap (map face_of) c.in_ok-push.ensures.ok ∙ map_push face_of c.loop-i.faces _ ∙ (λ i. c.loop-i.invariant i ++ (here i, 0) ∷ []) ∙ copies-push c.loop-i._i x ∙ ap (λ k. copies k x) more

pub returns : goal.returns
returns c =
    let end : c.loop-i._i ≡ suc c.args.n = omega arith in c.loop-i.invariant ∙ ap (λ k. copies k (all_degeneracies (c.args.n - 1), 0)) end
