-- What the functions on the first perturbation know of their calls, and their values.
use Rattle.std.proofs.Common.{◌≡◌, ℕ, suc, ◌+◌, ◌*◌, ◌-◌, ◌<◌, ◌≤◌, List, Option, ℤ, sym, ◌∙◌, ap, subst, arith}
use Rattle.fp_field.specs.Chains.{Terms, Each}
use Rattle.fp_field.specs.Normal.{apply}
use Rattle.fp_field.specs.Reduction.{after}
use Rattle.fp_field.specs.Series.{series}
use Rattle.spaces.specs.Spaces.{Space, Plain}
use Rattle.spaces.specs.Orders.{ordered}
use Rattle.spaces.specs.EilenbergZilber.{Pair, Tensor as PlainTensor, linear, pair_order, tensor_order, aw, eml, flow}
use Rattle.cells.specs.Order.{cell_cmp}
use Rattle.cells.specs.declared.cells.Cell.{Cell}
use Rattle.ez_maps.specs.Tensors.{tensor_cmp}
use Rattle.tensor_red.specs.declared.tensors.Tensor.{Tensor}
use Rattle.perturb.specs.PerturbedLists.{series_may_ask}
use Rattle.space_faces.specs.Built.{IsAllowedBuilt}
use Rattle.twist_chains.specs.Fibred.{twist_by, AreTwistValues, growth, room, read_pairs, quote_pairs, read_tensors, quote_tensors, IsPairWithin, IsTensorWithin, flow_on, front_on, shuffle_on, turn_on, MayFlow, MayFront, MayShuffle, MayTurn, tensors_of, difference_of, lifted_of, homotopy_of}
use Rattle.twist_chains.proofs.FirstParts.{Key}
use Rattle.twist_chains.proofs.FirstTerms as F

module _ (p : ℕ) (pos : 0 < p) (a b : Space) (ka : IsAllowedBuilt a) (kb : IsAllowedBuilt b) (values : Option (List ℤ)) (are : AreTwistValues values a b) (m n : ℕ) where
  abbrev most : ℕ
  most = room values n m

  abbrev order : Pair (Plain a) (Plain b) → Pair (Plain a) (Plain b) → Rattle.std.specs.declared.cmp.Ordering.Ordering
  order = pair_order p (linear (ordered a)) (ordered b)

  abbrev q : Pair (Plain a) (Plain b) → Terms (Pair (Plain a) (Plain b))
  q = twist_by values p a b

  abbrev k : Pair (Plain a) (Plain b) → Terms (Pair (Plain a) (Plain b))
  k = flow p (linear (ordered a)) (ordered b)

  -- ---- S1 and Alexander-Whitney on pairs

  module _ (low : n ≤ 31) (c : Terms Cell) (pairs : Each (IsPairWithin a b m n) c) where
    abbrev x : Terms (Pair (Plain a) (Plain b))
    x = read_pairs a b c

    x-keys : Each (Key p pos a b ka kb m n) x
    x-keys = F.pairs-read p pos a b ka kb m n c pairs

    back : quote_pairs a b x ≡ c
    back = F.pairs-back p pos a b ka kb m n c pairs

    few : m + suc n * growth values ≤ most
    few = F.fits p pos a b ka kb values are m n (suc n) (omega arith)

    pub s1-may : {I R : Type 0} (refusal : I → Option R) (asks asks' : Cell → List I) → series_may_ask cell_cmp p (flow_on a b p) (turn_on a b values p) refusal asks asks' (MayFlow a b most) (MayTurn a b values most) (suc n) c
    s1-may refusal asks asks' =
        subst (series_may_ask cell_cmp p (flow_on a b p) (turn_on a b values p) refusal asks asks' (MayFlow a b most) (MayTurn a b values most) (suc n)) back
        (F.s1-may p pos a b ka kb values are m most n (suc n) few x x-keys (omega (arith, low)) refusal asks asks')

    abbrev summed : Terms (Pair (Plain a) (Plain b))
    summed = series order p (suc n) (after q k) x

    s1-code : series cell_cmp p (suc n) (after (turn_on a b values p) (flow_on a b p)) c ≡ quote_pairs a b summed
    s1-code =
        ap (series cell_cmp p (suc n) (after (turn_on a b values p) (flow_on a b p))) (sym back)
        ∙ F.s1-are p pos a b ka kb values are m most n (suc n) few x x-keys (omega (arith, low))

    summed-keys : Each (Key p pos a b ka kb most n) summed
    summed-keys = F.s1-each p pos a b ka kb values are m most n (suc n) few x x-keys (omega (arith, low))

    pub fronts-may : Each (MayFront a b most) (series cell_cmp p (suc n) (after (turn_on a b values p) (flow_on a b p)) c)
    fronts-may = subst (Each (MayFront a b most)) (sym s1-code) (F.fronts-may p pos a b ka kb most n (omega (arith, low)) summed summed-keys)

    pub tensors-are : apply tensor_cmp p (front_on a b p) (series cell_cmp p (suc n) (after (turn_on a b values p) (flow_on a b p)) c) ≡ tensors_of a b values p n c
    tensors-are = ap (apply tensor_cmp p (front_on a b p)) s1-code ∙ F.fronts-are p pos a b ka kb most n (omega (arith, low)) summed summed-keys

    pub tensors-within : Each (IsTensorWithin a b most n) (tensors_of a b values p n c)
    tensors-within =
        F.tensors-are p pos a b ka kb most n (apply (tensor_order p (linear (ordered a)) (ordered b)) p (aw p (linear (ordered a)) (ordered b)) summed)
        (F.fronts-each p pos a b ka kb most n (omega (arith, low)) summed summed-keys)

    -- ---- the flow and P1 on pairs

    abbrev raised : Terms (Pair (Plain a) (Plain b))
    raised = apply order p k x

    raised-keys : Each (Key p pos a b ka kb m (suc n)) raised
    raised-keys = F.flows-each p pos a b ka kb m n (omega (arith, low)) x x-keys

    raised-code : apply cell_cmp p (flow_on a b p) c ≡ quote_pairs a b raised
    raised-code = ap (apply cell_cmp p (flow_on a b p)) (sym back) ∙ F.flows-are p pos a b ka kb m n (omega (arith, low)) x x-keys

    all-few : m + suc (suc n) * growth values ≤ most
    all-few = F.fits p pos a b ka kb values are m n (suc (suc n)) (omega arith)

    pub raised-may : Each (MayFlow a b most) c
    raised-may =
        subst (Each (MayFlow a b most)) back
        (F.flows-may p pos a b ka kb most n (omega (arith, low)) x (F.widened-pairs p pos a b ka kb m most n (omega arith) x x-keys))

    pub homotopy-may : {I R : Type 0} (refusal : I → Option R) (asks asks' : Cell → List I) → series_may_ask cell_cmp p (turn_on a b values p) (flow_on a b p) refusal asks asks' (MayTurn a b values most) (MayFlow a b most) (suc (suc n)) (apply cell_cmp p (flow_on a b p) c)
    homotopy-may refusal asks asks' =
        subst (series_may_ask cell_cmp p (turn_on a b values p) (flow_on a b p) refusal asks asks' (MayTurn a b values most) (MayFlow a b most) (suc (suc n))) (sym raised-code)
        (F.p1-may p pos a b ka kb values are m most (suc n) (suc (suc n)) all-few raised raised-keys (omega (arith, low)) refusal asks asks')

    pub homotopy-are : series cell_cmp p (suc (suc n)) (after (flow_on a b p) (turn_on a b values p)) (apply cell_cmp p (flow_on a b p) c) ≡ homotopy_of a b values p n c
    homotopy-are =
        ap (series cell_cmp p (suc (suc n)) (after (flow_on a b p) (turn_on a b values p))) raised-code
        ∙ F.p1-are p pos a b ka kb values are m most (suc n) (suc (suc n)) all-few raised raised-keys (omega (arith, low))

    pub homotopy-within : Each (IsPairWithin a b most (suc n)) (homotopy_of a b values p n c)
    homotopy-within =
        F.pairs-are p pos a b ka kb most (suc n) (series order p (suc (suc n)) (after k q) raised)
        (F.p1-each p pos a b ka kb values are m most (suc n) (suc (suc n)) all-few raised raised-keys (omega (arith, low)))

  -- ---- Eilenberg-Mac Lane and P1 on tensors

  module _ (low : n ≤ 32) (c : Terms (Tensor Cell Cell)) (tensors : Each (IsTensorWithin a b m n) c) where
    abbrev z : Terms (PlainTensor (Plain a) (Plain b))
    z = read_tensors a b c

    z-back : quote_tensors a b z ≡ c
    z-back = F.tensors-back p pos a b ka kb m n c tensors

    abbrev shuffled : Terms (Pair (Plain a) (Plain b))
    shuffled = apply order p (eml p (linear (ordered a)) (ordered b)) z

    shuffled-keys : Each (Key p pos a b ka kb m n) shuffled
    shuffled-keys = F.shuffles-each p pos a b ka kb m n low z (F.tensors-read p pos a b ka kb m n c tensors)

    shuffled-code : apply cell_cmp p (shuffle_on a b p) c ≡ quote_pairs a b shuffled
    shuffled-code =
        ap (apply cell_cmp p (shuffle_on a b p)) (sym z-back) ∙ F.shuffles-are p pos a b ka kb m n low z (F.tensors-read p pos a b ka kb m n c tensors)

    pub shuffles-may : Each (MayShuffle a b most) c
    shuffles-may =
        subst (Each (MayShuffle a b most)) z-back
        (F.shuffles-may p pos a b ka kb most n low z (F.widened-tensors p pos a b ka kb m most n (omega arith) z (F.tensors-read p pos a b ka kb m n c tensors)))

    p1-few : m + suc n * growth values ≤ most
    p1-few = F.fits p pos a b ka kb values are m n (suc n) (omega arith)

    pub p1-may : {I R : Type 0} (refusal : I → Option R) (asks asks' : Cell → List I) → series_may_ask cell_cmp p (turn_on a b values p) (flow_on a b p) refusal asks asks' (MayTurn a b values most) (MayFlow a b most) (suc n) (apply cell_cmp p (shuffle_on a b p) c)
    p1-may refusal asks asks' =
        subst (series_may_ask cell_cmp p (turn_on a b values p) (flow_on a b p) refusal asks asks' (MayTurn a b values most) (MayFlow a b most) (suc n)) (sym shuffled-code)
        (F.p1-may p pos a b ka kb values are m most n (suc n) p1-few shuffled shuffled-keys low refusal asks asks')

    pub lifted-are : series cell_cmp p (suc n) (after (flow_on a b p) (turn_on a b values p)) (apply cell_cmp p (shuffle_on a b p) c) ≡ lifted_of a b values p n c
    lifted-are =
        ap (series cell_cmp p (suc n) (after (flow_on a b p) (turn_on a b values p))) shuffled-code
        ∙ F.p1-are p pos a b ka kb values are m most n (suc n) p1-few shuffled shuffled-keys low

    pub lifted-within : Each (IsPairWithin a b most n) (lifted_of a b values p n c)
    lifted-within =
        F.pairs-are p pos a b ka kb most n (series order p (suc n) (after k q) shuffled)
        (F.p1-each p pos a b ka kb values are m most n (suc n) p1-few shuffled shuffled-keys low)

    -- ---- the twist and Alexander-Whitney after that

    abbrev near : ℕ
    near = m + suc n * growth values

    abbrev lifts : Terms (Pair (Plain a) (Plain b))
    lifts = series order p (suc n) (after k q) shuffled

    lifts-keys : Each (Key p pos a b ka kb near n) lifts
    lifts-keys = F.p1-each p pos a b ka kb values are m near n (suc n) (omega arith) shuffled shuffled-keys low

    abbrev turned : Terms (Pair (Plain a) (Plain b))
    turned = apply order p q lifts

    nearer : near + growth values ≤ most
    nearer = omega arith

    turned-keys : Each (Key p pos a b ka kb most (n - 1)) turned
    turned-keys =
        F.widened-pairs p pos a b ka kb (near + growth values) most (n - 1) nearer turned (F.twists-each p pos a b ka kb values are near n low lifts lifts-keys)

    pub turned-may : Each (MayTurn a b values most) (lifted_of a b values p n c)
    turned-may = F.twist-may p pos a b ka kb values are most n low lifts (F.widened-pairs p pos a b ka kb near most n (omega (arith, nearer)) lifts lifts-keys)

    turned-code : apply cell_cmp p (turn_on a b values p) (lifted_of a b values p n c) ≡ quote_pairs a b turned
    turned-code = F.twists-are p pos a b ka kb values are near n low lifts lifts-keys

    pub turned-fronts : Each (MayFront a b most) (apply cell_cmp p (turn_on a b values p) (lifted_of a b values p n c))
    turned-fronts = subst (Each (MayFront a b most)) (sym turned-code) (F.fronts-may p pos a b ka kb most (n - 1) (omega (arith, low)) turned turned-keys)

    pub difference-are : apply tensor_cmp p (front_on a b p) (apply cell_cmp p (turn_on a b values p) (lifted_of a b values p n c)) ≡ difference_of a b values p n c
    difference-are = ap (apply tensor_cmp p (front_on a b p)) turned-code ∙ F.fronts-are p pos a b ka kb most (n - 1) (omega (arith, low)) turned turned-keys

    pub difference-within : Each (IsTensorWithin a b most (n - 1)) (difference_of a b values p n c)
    difference-within =
        F.tensors-are p pos a b ka kb most (n - 1) (apply (tensor_order p (linear (ordered a)) (ordered b)) p (aw p (linear (ordered a)) (ordered b)) turned)
        (F.fronts-each p pos a b ka kb most (n - 1) (omega (arith, low)) turned turned-keys)
