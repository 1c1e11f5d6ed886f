-- A source of the code and its target, and what they stand for.
use Rattle.std.proofs.Common.{◌≡◌, ℕ, suc, ◌+◌, ◌*◌, ◌-◌, ◌%◌, ◌<◌, ◌≤◌, Bool, true, false, cond, ◌==◌, refl, sym, ◌∙◌, ap, subst, arith, true≢false, bit_and}
use Rattle.std.proofs.lemmas.Bool.Decides.{nat_tests}
use Rattle.fp_field.specs.Field.{SameMod, sign}
use Rattle.fp_field.specs.Chains.{weigh}
use Rattle.simp_ops.specs.Bits.{bit, inserted}
use Rattle.simp_ops.specs.PathWords.{source, event}
use Rattle.path_words.specs.MaskPaths.{mask_path, is_source as is_source_event}
use Rattle.path_words.proofs.MaskTests.{target_made}
use Rattle.spaces.specs.Simplicial.{has_degeneracy}
use Rattle.spaces.specs.Orders.{Ordered}
use Rattle.spaces.specs.EilenbergZilber.{Linear, Pair, target_of, moved, left_over, first_faces, event_of}
use Rattle.cells.specs.declared.cells.Cell.{Cell}
use Rattle.cells.specs.declared.cells.Cell.TheVariants.{Pair as PairCell}
use Rattle.cells.specs.declared.cells.Simplex.{Simplex}
use Rattle.ez_laws.specs.Sides.{IsLeft, IsRight}
use Rattle.ez_flow.specs.Parts.{IsForm, IsPairOf, IsSourceOf, form_weight}
use Rattle.ez_flow.specs.Sources.{are_source, source_weight}
use Rattle.ez_flow.proofs.Bits.{event-masks}
use Rattle.ez_flow.proofs.PairCells.{pair-with, with-pair, weight-pair}
use Rattle.ez_flow.proofs.RoundWeights.{moved-weight, left-over-weight, of_sources, unit-moved, rest-moved}

are_apart : (n a b : ℕ) → are_source n a b ≡ true → bit_and a b ≡ 0
are_apart n a b h = zero_of (bit_and a b) (first (bit_and a b == 0) (is_source_event (event (mask_path n a b))) h)
  where
    first : (b c : Bool) → cond b c false ≡ true → b ≡ true
    first true c h = refl
    first false c h = absurd (true≢false (sym h))

    zero_of : (m : ℕ) → (m == 0) ≡ true → m ≡ 0
    zero_of m h = grind (arith, nat_tests)

module _ {K J : Type 0} (p bound : ℕ) (pos : 0 < p) (L : Linear K) (In : ℕ → K → Type 0) (R : Ordered J) (left : IsLeft p L In) (right : IsRight R)
    (il : ℕ → Simplex → Type 0) (fl : Simplex → K) (ir : ℕ → Simplex → Type 0) (fr : Simplex → J)
    (lefts : IsForm bound In L.degeneracy L.has_degeneracy il fl) (rights : IsForm bound R.set.In R.set.degeneracy (has_degeneracy R.set) ir fr) (short : bound ≤ 32)
    (n : ℕ) (s : Cell) (a b : Simplex) (e : s ≡ PairCell a b) (src : IsSourceOf il ir n s) (within : suc n ≤ bound) where
  abbrev pub IsSrc : Simplex → Simplex → Type 0
  IsSrc a b = il n a × ir n b × (are_source n a.degens.mask b.degens.mask ≡ true)

  pub parts-are : IsSrc a b
  parts-are = with-pair IsSrc a b (subst (IsSourceOf il ir n) e src)

  module _ (j : ℕ) (ev : event (mask_path n a.degens.mask b.degens.mask) ≡ source j) (below : j < n) (la rb : Simplex)
      (lc : la.cell ≡ a.cell) (lb : (k : ℕ) → bit la.degens.mask k ≡ inserted j (bit a.degens.mask) k)
      (rc : rb.cell ≡ b.cell) (rbs : (k : ℕ) → bit rb.degens.mask k ≡ inserted (suc j) (bit b.degens.mask) k) where
    pub left-raised : il (suc n) la × (fl la ≡ L.degeneracy j (fl a))
    left-raised = lefts.raised n j a la parts-are.0 (omega (arith, below)) within lc lb

    pub right-raised : ir (suc n) rb × (fr rb ≡ R.set.degeneracy (suc j) (fr b))
    right-raised = rights.raised n (suc j) b rb parts-are.1 below within rc rbs

    pub event-is : event_of p L R (n, fl a, fr b) ≡ source j
    event-is =
        event-masks p L R n a.degens.mask b.degens.mask (fl a) (fr b) (lefts.mask n a parts-are.0) (λ k l. lefts.places n k a parts-are.0 l) (λ k l. rights.places n k b parts-are.1 l) ∙ ev

    pub target-is : target_of p L R (n, fl a, fr b) j ≡ (suc n, fl la, fr rb)
    target-is = λ i. (suc n, sym left-raised.1 i, sym right-raised.1 i)

    pub apart : bit_and la.degens.mask rb.degens.mask ≡ 0
    apart = (target_made n a.degens.mask b.degens.mask j la.degens.mask rb.degens.mask (lefts.mask n a parts-are.0) (rights.mask n b parts-are.1)
        (are_apart n a.degens.mask b.degens.mask parts-are.2) ev (omega (arith, short, within)) la.degens.below_32 rb.degens.below_32 lb
        (λ k. rbs k ∙ ap (λ i. inserted i (bit b.degens.mask) k) (let q : suc j ≡ j + 1 = omega arith in q))).masks.disjoint

    pub target-pair : IsPairOf il ir (suc n) (PairCell la rb)
    target-pair = pair-with (λ a b. il (suc n) a × ir (suc n) b × (bit_and a.degens.mask b.degens.mask ≡ 0)) la rb (left-raised.0, right-raised.0, apart)

    -- the weight of the source
    pub at-source : (v : Pair K J → ℕ) → form_weight fl fr n v s ≡ v (n, fl a, fr b)
    at-source v = ap (form_weight fl fr n v) e ∙ weight-pair (λ a b. v (n, fl a, fr b)) a b

    pub moved-sum : (w : Pair K J → ℕ) (k u old new : ℕ) → SameMod p u (sign p (suc j) * k) → new ≡ old + u * form_weight fl fr (suc n) w (PairCell la rb)
        → SameMod p new (old + k * form_weight fl fr n (λ t. weigh w (moved p L R t)) s)
    moved-sum w k u old new f h =
        let m : ℕ = w (suc n, fl la, fr rb) in
        let here : form_weight fl fr (suc n) w (PairCell la rb) ≡ m = weight-pair (λ a b. w (suc n, fl a, fr b)) la rb in
        let there : form_weight fl fr n (λ t. weigh w (moved p L R t)) s ≡ sign p (suc j) * m
        = at-source (λ t. weigh w (moved p L R t)) ∙ (moved-weight p pos L In R left right w (n, fl a, fr b) j event-is ∙ ap (λ t. sign p (suc j) * w t) target-is) in
        subst (λ t. SameMod p new (old + k * t)) (sym there) (unit-moved p k u m (sign p (suc j)) old new f (h ∙ ap (λ t. old + u * t) here))

    pub next-sum : (w : Pair K J → ℕ) (k u v old mid new : ℕ) → SameMod p u (sign p (suc j) * k) → SameMod p v ((p - 1) * u)
        → mid ≡ old + k * form_weight fl fr n w s
        → SameMod p new (mid + v * weigh (source_weight p L R w) (first_faces p L R (suc (suc n)) (suc n, fl la, fr rb)))
        → SameMod p new (old + k * form_weight fl fr n (λ t. weigh (of_sources p pos L In R left right w) (left_over p L R t)) s)
    next-sum w k u v old mid new f g h q =
        let d : ℕ = weigh (source_weight p L R w) (first_faces p L R (suc (suc n)) (suc n, fl la, fr rb)) in
        rest-moved p k u v (sign p (suc j)) (w (n, fl a, fr b)) d old mid new g f (h ∙ ap (λ t. old + k * t) (at-source w)) q
        (form_weight fl fr n (λ t. weigh (of_sources p pos L In R left right w) (left_over p L R t)) s)
        (ap (λ t. t % p) (at-source (λ t. weigh (of_sources p pos L In R left right w) (left_over p L R t)))
        ∙ (left-over-weight p pos L In R left right w n j (fl a) (fr b) event-is
        ∙ ap (λ t. (w (n, fl a, fr b) + (p - 1) * (sign p (suc j) * weigh (source_weight p L R w) (first_faces p L R (suc (suc n)) t))) % p) target-is))
