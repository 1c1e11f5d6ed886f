-- The sum of all rounds on a pair of the code is the flow of what it stands for.
use Rattle.std.proofs.Common.{◌≡◌, ℕ, suc, ◌+◌, ◌*◌, ◌-◌, ◌%◌, ◌<◌, List, [], ◌∷◌, true, false, cond, ◌==◌, refl, sym, ◌∙◌, ap, subst, arith, bit_and}
use Rattle.std.proofs.lemmas.Bool.Decides.{nat_tests}
use Rattle.fp_field.specs.declared.element.Fp.{Fp}
use Rattle.fp_field.specs.Field.{SameMod}
use Rattle.fp_field.specs.Chains.{Terms, weigh}
use Rattle.fp_field.proofs.Mod.{same-plus}
use Rattle.fp_field.proofs.Weights.{weigh-plus}
use Rattle.path_words.specs.MaskPaths.{mask_path, is_source as is_source_event}
use Rattle.simp_ops.specs.PathWords.{event}
use Rattle.spaces.specs.Simplicial.{has_degeneracy}
use Rattle.spaces.specs.Orders.{Ordered}
use Rattle.spaces.specs.EilenbergZilber.{Linear, Pair, moved, left_over, is_source, enough_rounds, flow}
use Rattle.cells.specs.declared.cells.Cell.{Cell, out-Cell}
use Rattle.cells.specs.declared.cells.Cell.TheOpen.{Cell-F}
use Rattle.cells.specs.declared.cells.Cell.TheVariants.{Pair as PairCell}
use Rattle.cells.specs.declared.cells.Letter.{Letter}
use Rattle.cells.specs.declared.cells.Simplex.{Simplex}
use Rattle.ez_laws.specs.Sides.{IsLeft, IsRight}
use Rattle.ez_flow.specs.Parts.{weight_in, IsForm, IsPairOf, IsSourceOf, form_weight}
use Rattle.ez_flow.specs.Sources.{are_source}
use Rattle.chain_core.specs.Formal.{numbers}
use Rattle.ez_flow.proofs.Bits.{source-masks}
use Rattle.ez_flow.proofs.PairCells.{pair-with, with-pair, weight-pair}
use Rattle.ez_flow.proofs.FlowSums.{pulled, flow-pulled, flow-none}

zero_is : (m : ℕ) → m ≡ 0 → (m == 0) ≡ true
zero_is m e = grind (arith, nat_tests)

-- weights of pairs add up
weight_plus : (u v : Simplex → Simplex → ℕ) (c : Cell-F Cell Letter Simplex) → weight_in (λ a b. u a b + v a b) c ≡ weight_in u c + weight_in v c
weight_plus u v (Cell-F.Pair a b) = refl
weight_plus u v (Cell-F.Row d r) = omega arith
weight_plus u v Cell-F.Base = omega arith
weight_plus u v (Cell-F.Top n) = omega arith
weight_plus u v (Cell-F.Up c) = omega arith
weight_plus u v (Cell-F.Ints l) = omega arith
weight_plus u v (Cell-F.Word l) = omega arith

weight_none : (c : Cell-F Cell Letter Simplex) → weight_in (λ a b. 0) c ≡ 0
weight_none (Cell-F.Pair a b) = refl
weight_none (Cell-F.Row d r) = refl
weight_none Cell-F.Base = refl
weight_none (Cell-F.Top n) = refl
weight_none (Cell-F.Up c) = refl
weight_none (Cell-F.Ints l) = refl
weight_none (Cell-F.Word l) = refl

module _ {K J : Type 0} (fl : Simplex → K) (fr : Simplex → J) (n : ℕ) where
  pub forms-plus : (u v : Pair K J → ℕ) (c : Terms Cell) → weigh (form_weight fl fr n (λ t. u t + v t)) c ≡ weigh (form_weight fl fr n u) c + weigh (form_weight fl fr n v) c
  forms-plus u v c =
      ap (λ (w : Cell → ℕ). weigh w c) (λ i s. weight_plus (λ a b. u (n, fl a, fr b)) (λ a b. v (n, fl a, fr b)) (out-Cell s) i)
      ∙ weigh-plus (form_weight fl fr n u) (form_weight fl fr n v) c

  pub forms-none : (c : Terms Cell) → weigh (form_weight fl fr n (λ t. 0)) c ≡ 0
  forms-none [] = refl
  forms-none (t ∷ c) = omega (arith, ap (λ m. t.1 * m) (weight_none (out-Cell t.0)), forms-none c)

  -- one round more
  pub round-more : (p : ℕ) (L : Linear K) (R : Ordered J) (w : Pair K J → ℕ) (i end old new goal : ℕ) (work next : Terms Cell) → i < end
      → SameMod p new (old + weigh (form_weight fl fr n (λ t. weigh w (moved p L R t))) work)
      → SameMod p (weigh (form_weight fl fr n (pulled p L R (end - (i + 1)) w)) next)
      (weigh (form_weight fl fr n (λ t. weigh (λ u. cond (is_source p L R u) (pulled p L R (end - (i + 1)) w u) 0) (left_over p L R t))) work)
      → SameMod p (old + weigh (form_weight fl fr n (pulled p L R (end - i) w)) work) goal
      → SameMod p (new + weigh (form_weight fl fr n (pulled p L R (end - (i + 1)) w)) next) goal
  round-more p L R w i end old new goal work next l e f h =
      let m : ℕ = end - (i + 1) in
      let q : end - i ≡ suc m = omega (arith, l) in
      let u : Pair K J → ℕ = λ t. weigh w (moved p L R t) in
      let v : Pair K J → ℕ = λ t. weigh (λ u. cond (is_source p L R u) (pulled p L R m w u) 0) (left_over p L R t) in
      same-plus p new (old + weigh (form_weight fl fr n u) work) (weigh (form_weight fl fr n (pulled p L R m w)) next) (weigh (form_weight fl fr n v) work) e f
      ∙ ap (λ t. t % p) (let r : old + weigh (form_weight fl fr n u) work + weigh (form_weight fl fr n v) work ≡ old + (weigh (form_weight fl fr n u) work + weigh (form_weight fl fr n v) work) = omega arith in r)
      ∙ ap (λ t. (old + t) % p) (sym (forms-plus u v work))
      ∙ ap (λ k. (old + weigh (form_weight fl fr n (pulled p L R k w)) work) % p) (sym q)
      ∙ h

  -- no rounds are left, or no work
  pub rounds-done : (p : ℕ) (L : Linear K) (R : Ordered J) (w : Pair K J → ℕ) (k old goal : ℕ) (work : Terms Cell) → k ≡ 0
      → SameMod p (old + weigh (form_weight fl fr n (pulled p L R k w)) work) goal → SameMod p old goal
  rounds-done p L R w k old goal work e h =
      ap (λ t. t % p) (let q : old ≡ old + weigh (form_weight fl fr n (λ t. 0)) work = omega (arith, forms-none work) in q)
      ∙ ap (λ k. (old + weigh (form_weight fl fr n (pulled p L R k w)) work) % p) (sym e) ∙ h

  pub work-done : (p : ℕ) (v : Pair K J → ℕ) (old goal : ℕ) (work : List (Cell × Fp)) → work ≡ []
      → SameMod p (old + weigh (form_weight fl fr n v) (numbers work)) goal → SameMod p old goal
  work-done p v old goal work e h =
      ap (λ t. t % p) (let q : old ≡ old + weigh (form_weight fl fr n v) (numbers work) = omega (arith, ap (λ l. weigh (form_weight fl fr n v) (numbers l)) e) in q) ∙ h

  -- before the first round
  pub work-begins : (p : ℕ) (u : Cell → ℕ) (v : Pair K J → ℕ) (moved work : List (Cell × Fp)) (s c : Cell) → moved ≡ [] → work ≡ (s, record { value = 1 }) ∷ [] → s ≡ c
      → SameMod p (weigh u (numbers moved) + weigh (form_weight fl fr n v) (numbers work)) (form_weight fl fr n v c)
  work-begins p u v moved work s c e f h =
      ap (λ t. t % p)
      (let a : weigh u (numbers moved) ≡ 0 = ap (λ l. weigh u (numbers l)) e in
      let b : weigh (form_weight fl fr n v) (numbers work) ≡ 1 * form_weight fl fr n v s + 0 = ap (λ l. weigh (form_weight fl fr n v) (numbers l)) f in
      let d : form_weight fl fr n v s ≡ form_weight fl fr n v c = ap (form_weight fl fr n v) h in
      let q : weigh u (numbers moved) + weigh (form_weight fl fr n v) (numbers work) ≡ form_weight fl fr n v c = omega (arith, a, b, d) in q)

module _ {K J : Type 0} (p bound : ℕ) (L : Linear K) (In : ℕ → K → Type 0) (R : Ordered J) (left : IsLeft p L In) (right : IsRight R)
    (il : ℕ → Simplex → Type 0) (fl : Simplex → K) (ir : ℕ → Simplex → Type 0) (fr : Simplex → J)
    (lefts : IsForm bound In L.degeneracy L.has_degeneracy il fl) (rights : IsForm bound R.set.In R.set.degeneracy (has_degeneracy R.set) ir fr)
    (n : ℕ) (c : Cell) (a b : Simplex) (e : c ≡ PairCell a b) (pair : IsPairOf il ir n c) where
  pub pair-parts : il n a × ir n b × (bit_and a.degens.mask b.degens.mask ≡ 0)
  pair-parts = with-pair (λ a b. il n a × ir n b × (bit_and a.degens.mask b.degens.mask ≡ 0)) a b (subst (IsPairOf il ir n) e pair)

  source-is : is_source p L R (n, fl a, fr b) ≡ are_source n a.degens.mask b.degens.mask
  source-is =
      source-masks p L R n a.degens.mask b.degens.mask (fl a) (fr b) (lefts.mask n a pair-parts.0) (λ j l. lefts.places n j a pair-parts.0 l) (λ j l. rights.places n j b pair-parts.1 l)
      ∙ ap (λ z. cond z (is_source_event (event (mask_path n a.degens.mask b.degens.mask))) false) (sym (zero_is (bit_and a.degens.mask b.degens.mask) pair-parts.2))

  pub begins-source : (s : Cell) → s ≡ c → are_source n a.degens.mask b.degens.mask ≡ true → IsSourceOf il ir n s
  begins-source s h q = subst (IsSourceOf il ir n) (sym (h ∙ e)) (pair-with (λ a b. il n a × ir n b × (are_source n a.degens.mask b.degens.mask ≡ true)) a b (pair-parts.0, pair-parts.1, q))

  at-pair : (v : Pair K J → ℕ) → form_weight fl fr n v c ≡ v (n, fl a, fr b)
  at-pair v = ap (form_weight fl fr n v) e ∙ weight-pair (λ a b. v (n, fl a, fr b)) a b

  pub is-flow : (w : Pair K J → ℕ) (end total : ℕ) → are_source n a.degens.mask b.degens.mask ≡ true → end ≡ enough_rounds p L R n
      → SameMod p total (form_weight fl fr n (pulled p L R end w) c) → SameMod p total (form_weight fl fr n (λ s. weigh w (flow p L R s)) c)
  is-flow w end total q f h =
      h
      ∙ ap (λ t. t % p) (at-pair (pulled p L R end w) ∙ ap (λ k. pulled p L R k w (n, fl a, fr b)) f)
      ∙ sym (flow-pulled p L In R left right w (n, fl a, fr b) (source-is ∙ q))
      ∙ ap (λ t. t % p) (sym (at-pair (λ s. weigh w (flow p L R s))))

  pub no-flow : (w : Pair K J → ℕ) → are_source n a.degens.mask b.degens.mask ≡ false → form_weight fl fr n (λ s. weigh w (flow p L R s)) c ≡ 0
  no-flow w q = at-pair (λ s. weigh w (flow p L R s)) ∙ flow-none p L In R left right w (n, fl a, fr b) (source-is ∙ q)
