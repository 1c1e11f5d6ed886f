-- What a twisted product needs is valid, of lower rank and of less depth.
use Rattle.std.proofs.Common.{◌≡◌, ℕ, ◌+◌, ◌<◌, ◌≤◌, Bool, true, false, not, ◌++◌, inl, refl, sym, subst, arith, true≢false}
use Rattle.std.proofs.lemmas.Bool.{and_parts}
use Rattle.fp_field.specs.Field.{sign}
use Rattle.fp_field.specs.Chains.{Terms, scale, Each}
use Rattle.fp_field.specs.Reduction.{one, Maps, HasDegrees, IsReductionTo, IsDifferential}
use Rattle.spaces.specs.Simplicial.{is_degenerate}
use Rattle.spaces.specs.Spaces.{Space, Plain, set_of}
use Rattle.spaces.specs.SmallCells.{Small, small_degree}
use Rattle.spaces.specs.Orders.{Ordered, ordered, by_degree}
use Rattle.spaces.specs.Allowed.{IsAllowed}
use Rattle.spaces.specs.EilenbergZilber.{Linear, linear, Pair, Tensor}
use Rattle.values.specs.Asks.{Ask, f as f_at, g as g_at, h as h_at, small_d as d_at, gives, ask, ◌>>=◌, asked_with, on_chain}
use Rattle.values.specs.Perturbed.{tensor_terms, f_f, g_g, t, total_f, total_g, total_h, total_d}
use Rattle.values.specs.Rules.{part, as_cells}
use Rattle.values.specs.Values.{value, depth, depth_of}
use Rattle.values.specs.Laws.{maps_of}
use Rattle.values.specs.Ranks.{space_of, weight, loopings, IsCell, IsSmallCell}
use Rattle.values.specs.BaseLaws.{IsBelow, IsSmall}
use Rattle.values.proofs.BasesCells.{basis-members}
use Rattle.values.proofs.Readings.{EachAsk}
use Rattle.values.proofs.BasesAsks.{each_bind, depth-rises}
use Rattle.ez_laws.specs.Instances.{product_maps}
use Rattle.twist_laws.specs.TwistedComplexes.{twisted_complex}
use Rattle.twist_laws.specs.LeftDegrees.{LowersLeft}
use Rattle.twist_laws.proofs.TotalNeeds.{KeepsTensors, on_chain-asks, total_f-asks, total_g-asks, total_h-asks, total_d-asks}
use Rattle.twist_laws.proofs.TensorParts as T
use Rattle.twist_laws.proofs.Fibred.{FallsByTwo, keeps_tensors, first-tensors, tensored-meets}

not_false : (b : Bool) → not b ≡ true → b ≡ false
not_false true e = absurd (true≢false (sym e))
not_false false e = refl

-- ---- questions about a part, in degrees up to n

module _ (p : ℕ) (k : Ask) (n : ℕ) (c : Space) (is : IsAllowed c) (bound : n + loopings c ≤ 24) (lighter : weight c < weight (space_of k)) (deeper : depth c n < depth_of k) where
  within : (m : ℕ) → m ≤ n → depth c m < depth_of k
  within m l = let r = depth-rises c m n l in omega (arith, r, deeper)

  bounded : (m : ℕ) → m ≤ n → m + loopings c ≤ 24
  bounded m l = omega (arith, l, bound)

  place : (m : ℕ) (y : Small c) → (maps_of p c).small.generator m y → IsSmallCell p c (small_degree c y) y
  place m y h = subst (λ j. IsSmallCell p c j y) (sym h.0) h.1

  low_degree : (m : ℕ) (y : Small c) → m ≤ n → (maps_of p c).small.generator m y → small_degree c y ≤ n
  low_degree m y l h = let e : small_degree c y ≡ m = h.0 in omega (arith, e, l)

  f-below : (m : ℕ) (x : Plain c) → m ≤ n → IsCell c m x → IsBelow p (f_at c m x) k
  f-below m x l h = ((is, h, bounded m l), inl lighter, within m l)

  h-below : (m : ℕ) (x : Plain c) → m ≤ n → IsCell c m x → IsBelow p (h_at c m x) k
  h-below m x l h = ((is, h, bounded m l), inl lighter, within m l)

  g-below : (m : ℕ) (y : Small c) → m ≤ n → (maps_of p c).small.generator m y → IsBelow p (g_at c y) k
  g-below m y l h =
      let e = low_degree m y l h in ((is, place m y h, bounded (small_degree c y) e), inl lighter, within (small_degree c y) e)

  d-below : (m : ℕ) (y : Small c) → m ≤ n → (maps_of p c).small.generator m y → IsBelow p (d_at c y) k
  d-below m y l h =
      let e = low_degree m y l h in ((is, place m y h, bounded (small_degree c y) e), inl lighter, within (small_degree c y) e)

-- ---- both parts

-- what is asked of the twist and of the two parts
pub record HasParts (p : ℕ) (pos : 0 < p) (a b : Space) (ia : IsAllowed a) (ib : IsAllowed b) (q : Pair (Plain a) (Plain b) → Terms (Pair (Plain a) (Plain b))) : Type 0 where
  pub low : LowersLeft p (linear (ordered a)) (set_of a).In (ordered b) q
  pub twice : IsDifferential p (twisted_complex p (linear (ordered a)) (set_of a).In (ordered b) q)
  pub by_two : FallsByTwo p pos a b ia.0 ib.0 q
  pub first : IsReductionTo p 0 (maps_of p a)
  pub second : IsReductionTo p 0 (maps_of p b)

-- the parts are below a question in degree n
pub record AreUnder (a b : Space) (k : Ask) (n : ℕ) : Type 0 where
  pub bound_a : n + loopings a ≤ 24
  pub bound_b : n + loopings b ≤ 24
  pub lighter_a : weight a < weight (space_of k)
  pub lighter_b : weight b < weight (space_of k)
  pub deeper_a : depth a n < depth_of k
  pub deeper_b : depth b n < depth_of k

module _ (p : ℕ) (pos : 0 < p) (a b : Space) (ia : IsAllowed a) (ib : IsAllowed b) (q : Pair (Plain a) (Plain b) → Terms (Pair (Plain a) (Plain b)))
    (parts : HasParts p pos a b ia ib q) (k : Ask) (n : ℕ) (under : AreUnder a b k n) where
  abbrev L : Linear (Plain a)
  L = linear (ordered a)

  abbrev R : Ordered (Plain b)
  R = ordered b

  abbrev P : Ask → Type 0
  P j = IsBelow p j k

  abbrev tensors : Maps (Tensor (Plain a) (Plain b)) (Small a × Small b)
  tensors = T.ruled p pos a b ia.0 ib.0 q

  tensored : HasDegrees p (T.tensored p pos a b ia.0 ib.0 q)
  tensored = (tensored-meets p pos a b ia.0 ib.0 q parts.low parts.twice parts.by_two 0 parts.first parts.second).degrees

  keeps : KeepsTensors (value p) p L R (part a) (part b) q tensors.big
  keeps = keeps_tensors p pos a b ia.0 ib.0 q parts.low parts.twice parts.by_two parts.first.degrees parts.second.degrees tensored

  left-cell : (i : ℕ) (z : Tensor (Plain a) (Plain b)) → tensors.big.generator i z → IsCell a z.0 z.1
  left-cell i z h =
      (h.1.0, not_false (is_degenerate (set_of a) z.0 z.1) (and_parts (not (is_degenerate (set_of a) z.0 z.1)) (not (is_degenerate (set_of b) z.2 z.3)) h.1.2).0)

  right-cell : (i : ℕ) (z : Tensor (Plain a) (Plain b)) → tensors.big.generator i z → IsCell b z.2 z.3
  right-cell i z h =
      (h.1.1, not_false (is_degenerate (set_of b) z.2 z.3) (and_parts (not (is_degenerate (set_of a) z.0 z.1)) (not (is_degenerate (set_of b) z.2 z.3)) h.1.2).1)

  left-low : (i : ℕ) (z : Tensor (Plain a) (Plain b)) → i ≤ n → tensors.big.generator i z → z.0 ≤ n
  left-low i z l h = let e : z.0 + z.2 ≡ i = h.0 in omega (arith, e, l)

  right-low : (i : ℕ) (z : Tensor (Plain a) (Plain b)) → i ≤ n → tensors.big.generator i z → z.2 ≤ n
  right-low i z l h = let e : z.0 + z.2 ≡ i = h.0 in omega (arith, e, l)

  f_ok : (i : ℕ) (z : Tensor (Plain a) (Plain b)) → i ≤ n → tensors.big.generator i z → EachAsk P (asked_with (value p) (f_f p L R (part a) (part b) q z))
  f_ok i (m, x, j, y) l h = (
    f-below p k n a ia under.bound_a under.lighter_a under.deeper_a m x (left-low i (m, x, j, y) l h) (left-cell i (m, x, j, y) h),
    (f-below p k n b ib under.bound_b under.lighter_b under.deeper_b j y (right-low i (m, x, j, y) l h) (right-cell i (m, x, j, y) h), tt),
  )

  t_ok : (i : ℕ) (z : Tensor (Plain a) (Plain b)) → i ≤ n → tensors.big.generator i z → EachAsk P (asked_with (value p) (t p L R (part a) (part b) q z))
  t_ok i (m, x, j, y) l h =
      let c = left-cell i (m, x, j, y) h in
      let e = left-low i (m, x, j, y) l h in
      let hx = value p (h_at a m x) in
      let fx = value p (f_at a m x) in (
        h-below p k n a ia under.bound_a under.lighter_a under.deeper_a m x e c,
        (
          f-below p k n a ia under.bound_a under.lighter_a under.deeper_a m x e c,
          each_bind P (value p) (on_chain (by_degree L.cmp) p (λ y. ask (g_at a y)) fx)
              (λ gfx. ask (h_at b j y) >>= λ hy. gives (tensor_terms hx (one (j, y)) ++ scale (sign p m) (tensor_terms gfx hy)))
              (on_chain-asks (value p) P ((maps_of p a).small.generator m) (by_degree L.cmp) p (λ y. ask (g_at a y))
              (λ y g. (g-below p k n a ia under.bound_a under.lighter_a under.deeper_a m y e g, tt)) fx (parts.first.degrees.f.keeps m (m, x) (refl, c)))
              (h-below p k n b ib under.bound_b under.lighter_b under.deeper_b j y (right-low i (m, x, j, y) l h) (right-cell i (m, x, j, y) h), tt),
        ),
      )

  -- ---- a pair

  module _ (s : Pair (Plain a) (Plain b)) (cell : (product_maps p a b).big.generator n s) where
    pub f-needs : EachAsk P (asked_with (value p) (total_f p L R (part a) (part b) q n (one s)))
    f-needs =
        total_f-asks (value p) p L R (part a) (part b) q tensors.big keeps P n f_ok t_ok (one s)
        (first-tensors p pos a b ia.0 ib.0 q parts.low parts.twice parts.by_two parts.first.degrees parts.second.degrees tensored n s cell)

    pub h-needs : EachAsk P (asked_with (value p) (total_h p L R (part a) (part b) q n (one s) >>= λ c. gives (as_cells c)))
    h-needs =
        each_bind P (value p) (total_h p L R (part a) (part b) q n (one s)) (λ c. gives (as_cells c))
        (total_h-asks (value p) p L R (part a) (part b) q tensors.big keeps P n f_ok t_ok (one s)
        (first-tensors p pos a b ia.0 ib.0 q parts.low parts.twice parts.by_two parts.first.degrees parts.second.degrees tensored n s cell)) tt

  -- ---- a small cell

  module _ (x : Small a) (y : Small b) (sum : small_degree a x + small_degree b y ≡ n) (x_small : IsSmall a x) (y_small : IsSmall b y) where
    x_is : (maps_of p a).small.generator (small_degree a x) x
    x_is = (refl, (basis-members p a (small_degree a x) x).1 (refl, x_small))

    y_is : (maps_of p b).small.generator (small_degree b y) y
    y_is = (refl, (basis-members p b (small_degree b y) y).1 (refl, y_small))

    left-under : small_degree a x ≤ n
    left-under = omega (arith, sum)

    right-under : small_degree b y ≤ n
    right-under = omega (arith, sum)

    g_ok : EachAsk P (asked_with (value p) (g_g p L R (part a) (part b) q (x, y)))
    g_ok = (
      g-below p k n a ia under.bound_a under.lighter_a under.deeper_a (small_degree a x) x left-under x_is,
      (g-below p k n b ib under.bound_b under.lighter_b under.deeper_b (small_degree b y) y right-under y_is, tt),
    )

    tensors-of : Each (tensors.big.generator n) (tensors.g (x, y))
    tensors-of = (T.ruled-degrees p pos a b ia.0 ib.0 q parts.first.degrees parts.second.degrees tensored).g.keeps n (x, y) (sum, (x_small, y_small))

    pub g-needs : EachAsk P (asked_with (value p) (total_g p L R (part a) (part b) q n (x, y) >>= λ c. gives (as_cells c)))
    g-needs =
        each_bind P (value p) (total_g p L R (part a) (part b) q n (x, y)) (λ c. gives (as_cells c))
        (total_g-asks (value p) p L R (part a) (part b) q tensors.big keeps P n f_ok t_ok (x, y)
        tensors-of g_ok) tt

    pub d-needs : EachAsk P (asked_with (value p) (total_d p L R (part a) (part b) q n (x, y)))
    d-needs =
        total_d-asks (value p) p L R (part a) (part b) q tensors.big keeps P n f_ok t_ok x y
        tensors-of g_ok (d-below p k n a ia under.bound_a under.lighter_a under.deeper_a (small_degree a x) x left-under x_is, tt)
        (d-below p k n b ib under.bound_b under.lighter_b under.deeper_b (small_degree b y) y right-under y_is, tt)
