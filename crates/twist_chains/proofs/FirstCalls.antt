-- The calls of the functions on the first perturbation: they are made with spaces, primes and chains that equal those of the caller.
use Rattle.std.proofs.Common.{◌≡◌, ℕ, suc, ◌-◌, ◌<◌, ◌≤◌, List, Option, ℤ, sym, ◌∙◌, ap, subst}
use Rattle.fp_field.specs.Chains.{Terms, Each}
use Rattle.fp_field.specs.Normal.{apply}
use Rattle.fp_field.specs.Reduction.{after}
use Rattle.fp_field.specs.Series.{series}
use Rattle.spaces.specs.Spaces.{Space}
use Rattle.cells.specs.Order.{cell_cmp}
use Rattle.cells.specs.declared.cells.Cell.{Cell}
use Rattle.ez_maps.specs.Tensors.{tensor_cmp}
use Rattle.tensor_red.specs.declared.tensors.Tensor.{Tensor}
use Rattle.perturb.specs.PerturbedLists.{series_may_ask}
use Rattle.space_faces.specs.Built.{IsAllowedBuilt}
use Rattle.twist_chains.specs.Fibred.{AreTwistValues, room, IsPairWithin, IsTensorWithin, flow_on, front_on, shuffle_on, turn_on, MayFlow, MayFront, MayShuffle, MayTurn, tensors_of, difference_of, lifted_of, homotopy_of}
use Rattle.twist_chains.proofs.FirstValues as V

-- S1 and P1 of the code
abbrev pub s1_on : Option (List ℤ) → Space × Space × ℕ × ℕ × ℕ × Terms Cell → Terms Cell
s1_on values z = series cell_cmp z.3 z.4 (after (turn_on z.0 z.1 values z.2) (flow_on z.0 z.1 z.2)) z.5

abbrev pub p1_on : Option (List ℤ) → Space × Space × ℕ × ℕ × ℕ × Terms Cell → Terms Cell
p1_on values z = series cell_cmp z.3 z.4 (after (flow_on z.0 z.1 z.2) (turn_on z.0 z.1 values z.2)) z.5

-- they may be asked
abbrev pub MayS1 : {I R : Type 0} → (I → Option R) → (Cell → List I) → (Cell → List I) → Option (List ℤ) → Space × Space × ℕ × ℕ × ℕ × ℕ × Terms Cell → Type 0
MayS1 refusal asks asks' values z =
    series_may_ask cell_cmp z.4 (flow_on z.0 z.1 z.3) (turn_on z.0 z.1 values z.3) refusal asks asks' (MayFlow z.0 z.1 z.2) (MayTurn z.0 z.1 values z.2) z.5 z.6

abbrev pub MayP1 : {I R : Type 0} → (I → Option R) → (Cell → List I) → (Cell → List I) → Option (List ℤ) → Space × Space × ℕ × ℕ × ℕ × ℕ × Terms Cell → Type 0
MayP1 refusal asks asks' values z =
    series_may_ask cell_cmp z.4 (turn_on z.0 z.1 values z.3) (flow_on z.0 z.1 z.3) refusal asks asks' (MayTurn z.0 z.1 values z.2) (MayFlow z.0 z.1 z.2) z.5 z.6

-- the arguments of a function, and the faces that it makes of them
module _ (p : ℕ) (pos : 0 < p) (a b : Space) (ka : IsAllowedBuilt a) (kb : IsAllowedBuilt b) (values : Option (List ℤ)) (are : AreTwistValues values a b) (m n : ℕ)
    (a' b' : Space) (most : ℕ) (ea : a' ≡ a) (eb : b' ≡ b) (em : most ≡ room values n m) where
  -- ---- pairs

  module _ (low : n ≤ 31) (c : Terms Cell) (pairs : Each (IsPairWithin a b m n) c) where
    pub s1-asked : {I R : Type 0} (refusal : I → Option R) (asks asks' : Cell → List I) → (p' rank : ℕ) (d : Terms Cell) → p' ≡ p → rank ≡ suc n → d ≡ c → MayS1 refusal asks asks' values (a', b', most, p, p', rank, d)
    s1-asked refusal asks asks' p' rank d e f g =
        subst (MayS1 refusal asks asks' values) (λ i. (sym ea i, sym eb i, sym em i, p, sym e i, sym f i, sym g i)) (V.s1-may p pos a b ka kb values are m n low c pairs refusal asks asks')

    s1-same : (p' rank : ℕ) (d sum : Terms Cell) → p' ≡ p → rank ≡ suc n → d ≡ c → sum ≡ s1_on values (a', b', p, p', rank, d) → sum ≡ s1_on values (a, b, p, p, suc n, c)
    s1-same p' rank d sum e f g h = h ∙ ap (s1_on values) (λ i. (ea i, eb i, p, e i, f i, g i))

    pub fronts-asked : (p' rank : ℕ) (d sum : Terms Cell) → p' ≡ p → rank ≡ suc n → d ≡ c → sum ≡ s1_on values (a', b', p, p', rank, d) → Each (MayFront a' b' most) sum
    fronts-asked p' rank d sum e f g h =
        subst (λ (z : Space × Space × ℕ × Terms Cell). Each (MayFront z.0 z.1 z.2) z.3) (λ i. (sym ea i, sym eb i, sym em i, sym (s1-same p' rank d sum e f g h) i))
        (V.fronts-may p pos a b ka kb values are m n low c pairs)

    pub tensors-told : (p' rank p2 : ℕ) (d sum : Terms Cell) (r : Terms (Tensor Cell Cell)) → p' ≡ p → rank ≡ suc n → d ≡ c → sum ≡ s1_on values (a', b', p, p', rank, d)
        → p2 ≡ p → r ≡ apply tensor_cmp p2 (front_on a' b' p) sum → r ≡ tensors_of a b values p n c
    tensors-told p' rank p2 d sum r e f g h e2 k =
        k ∙ (λ i. apply tensor_cmp (e2 i) (front_on (ea i) (eb i) p) (s1-same p' rank d sum e f g h i)) ∙ V.tensors-are p pos a b ka kb values are m n low c pairs

    pub tensors-each : (r : Terms (Tensor Cell Cell)) → r ≡ tensors_of a b values p n c → Each (IsTensorWithin a b (room values n m) n) r
    tensors-each r e = subst (Each (IsTensorWithin a b (room values n m) n)) (sym e) (V.tensors-within p pos a b ka kb values are m n low c pairs)

    -- the flow, and P1 after it
    pub flow-asked : Each (MayFlow a' b' most) c
    flow-asked = subst (λ (z : Space × Space × ℕ). Each (MayFlow z.0 z.1 z.2) c) (λ i. (sym ea i, sym eb i, sym em i)) (V.raised-may p pos a b ka kb values are m n low c pairs)

    flow-same : (p1 : ℕ) (d : Terms Cell) → p1 ≡ p → d ≡ apply cell_cmp p1 (flow_on a' b' p) c → d ≡ apply cell_cmp p (flow_on a b p) c
    flow-same p1 d e h = h ∙ (λ i. apply cell_cmp (e i) (flow_on (ea i) (eb i) p) c)

    pub homotopy-asked : {I R : Type 0} (refusal : I → Option R) (asks asks' : Cell → List I) → (p1 p' rank : ℕ) (d : Terms Cell) → p1 ≡ p → d ≡ apply cell_cmp p1 (flow_on a' b' p) c → p' ≡ p → rank ≡ suc (suc n)
        → MayP1 refusal asks asks' values (a', b', most, p, p', rank, d)
    homotopy-asked refusal asks asks' p1 p' rank d e1 h e f =
        subst (MayP1 refusal asks asks' values) (λ i. (sym ea i, sym eb i, sym em i, p, sym e i, sym f i, sym (flow-same p1 d e1 h) i)) (V.homotopy-may p pos a b ka kb values are m n low c pairs refusal asks asks')

    pub homotopy-told : (p1 p' rank : ℕ) (d r : Terms Cell) → p1 ≡ p → d ≡ apply cell_cmp p1 (flow_on a' b' p) c → p' ≡ p → rank ≡ suc (suc n)
        → r ≡ p1_on values (a', b', p, p', rank, d) → r ≡ homotopy_of a b values p n c
    homotopy-told p1 p' rank d r e1 h e f k =
        k ∙ ap (p1_on values) (λ i. (ea i, eb i, p, e i, f i, flow-same p1 d e1 h i)) ∙ V.homotopy-are p pos a b ka kb values are m n low c pairs

    pub homotopy-each : (r : Terms Cell) → r ≡ homotopy_of a b values p n c → Each (IsPairWithin a b (room values n m) (suc n)) r
    homotopy-each r e = subst (Each (IsPairWithin a b (room values n m) (suc n))) (sym e) (V.homotopy-within p pos a b ka kb values are m n low c pairs)

  -- ---- tensors

  module _ (low : n ≤ 32) (c : Terms (Tensor Cell Cell)) (tensors : Each (IsTensorWithin a b m n) c) where
    pub shuffle-asked : Each (MayShuffle a' b' most) c
    shuffle-asked =
        subst (λ (z : Space × Space × ℕ). Each (MayShuffle z.0 z.1 z.2) c) (λ i. (sym ea i, sym eb i, sym em i)) (V.shuffles-may p pos a b ka kb values are m n low c tensors)

    shuffle-same : (p1 : ℕ) (d : Terms Cell) → p1 ≡ p → d ≡ apply cell_cmp p1 (shuffle_on a' b' p) c → d ≡ apply cell_cmp p (shuffle_on a b p) c
    shuffle-same p1 d e h = h ∙ (λ i. apply cell_cmp (e i) (shuffle_on (ea i) (eb i) p) c)

    pub p1-asked : {I R : Type 0} (refusal : I → Option R) (asks asks' : Cell → List I) → (p1 p' rank : ℕ) (d : Terms Cell) → p1 ≡ p → d ≡ apply cell_cmp p1 (shuffle_on a' b' p) c → p' ≡ p → rank ≡ suc n
        → MayP1 refusal asks asks' values (a', b', most, p, p', rank, d)
    p1-asked refusal asks asks' p1 p' rank d e1 h e f =
        subst (MayP1 refusal asks asks' values) (λ i. (sym ea i, sym eb i, sym em i, p, sym e i, sym f i, sym (shuffle-same p1 d e1 h) i)) (V.p1-may p pos a b ka kb values are m n low c tensors refusal asks asks')

    pub lifted-told : (p1 p' rank : ℕ) (d r : Terms Cell) → p1 ≡ p → d ≡ apply cell_cmp p1 (shuffle_on a' b' p) c → p' ≡ p → rank ≡ suc n
        → r ≡ p1_on values (a', b', p, p', rank, d) → r ≡ lifted_of a b values p n c
    lifted-told p1 p' rank d r e1 h e f k =
        k ∙ ap (p1_on values) (λ i. (ea i, eb i, p, e i, f i, shuffle-same p1 d e1 h i)) ∙ V.lifted-are p pos a b ka kb values are m n low c tensors

    pub lifted-each : (r : Terms Cell) → r ≡ lifted_of a b values p n c → Each (IsPairWithin a b (room values n m) n) r
    lifted-each r e = subst (Each (IsPairWithin a b (room values n m) n)) (sym e) (V.lifted-within p pos a b ka kb values are m n low c tensors)

    -- the twist and Alexander-Whitney after that
    pub turn-asked : (r : Terms Cell) → r ≡ lifted_of a b values p n c → Each (MayTurn a' b' values most) r
    turn-asked r e =
        subst (λ (z : Space × Space × ℕ × Terms Cell). Each (MayTurn z.0 z.1 values z.2) z.3) (λ i. (sym ea i, sym eb i, sym em i, sym e i))
        (V.turned-may p pos a b ka kb values are m n low c tensors)

    turn-same : (p3 : ℕ) (r t : Terms Cell) → r ≡ lifted_of a b values p n c → p3 ≡ p → t ≡ apply cell_cmp p3 (turn_on a' b' values p) r
        → t ≡ apply cell_cmp p (turn_on a b values p) (lifted_of a b values p n c)
    turn-same p3 r t e f h = h ∙ (λ i. apply cell_cmp (f i) (turn_on (ea i) (eb i) values p) (e i))

    pub turned-asked : (p3 : ℕ) (r t : Terms Cell) → r ≡ lifted_of a b values p n c → p3 ≡ p → t ≡ apply cell_cmp p3 (turn_on a' b' values p) r → Each (MayFront a' b' most) t
    turned-asked p3 r t e f h =
        subst (λ (z : Space × Space × ℕ × Terms Cell). Each (MayFront z.0 z.1 z.2) z.3) (λ i. (sym ea i, sym eb i, sym em i, sym (turn-same p3 r t e f h) i))
        (V.turned-fronts p pos a b ka kb values are m n low c tensors)

    pub difference-told : (p3 p4 : ℕ) (r t : Terms Cell) (u : Terms (Tensor Cell Cell)) → r ≡ lifted_of a b values p n c → p3 ≡ p → t ≡ apply cell_cmp p3 (turn_on a' b' values p) r
        → p4 ≡ p → u ≡ apply tensor_cmp p4 (front_on a' b' p) t → u ≡ difference_of a b values p n c
    difference-told p3 p4 r t u e f h g k =
        k ∙ (λ i. apply tensor_cmp (g i) (front_on (ea i) (eb i) p) (turn-same p3 r t e f h i)) ∙ V.difference-are p pos a b ka kb values are m n low c tensors

    pub difference-each : (u : Terms (Tensor Cell Cell)) → u ≡ difference_of a b values p n c → Each (IsTensorWithin a b (room values n m) (n - 1)) u
    difference-each u e = subst (Each (IsTensorWithin a b (room values n m) (n - 1))) (sym e) (V.difference-within p pos a b ka kb values are m n low c tensors)
