-- The maps of K(Z,1) are a reduction of its cells, the integer lists without a 0, to the circle.
use Rattle.std.proofs.Common.{◌≡◌, ◌⊎◌, inl, inr, ℕ, zero, suc, ◌+◌, ◌*◌, ◌-◌, ◌%◌, ◌<◌, Bool, true, false, cond, List, [], ◌∷◌, ◌++◌, length, map, refl, sym, ◌∙◌, ap, subst, arith, true≢false}
use Rattle.std.specs.Prelude.{Contains}
use Rattle.std.proofs.Math.IntN.{ℤ, pos, negsuc, ◌+ℤ◌, neg_ℤ}
use Rattle.std.proofs.lemmas.Int.{ints}
use Rattle.std.specs.Cmp.{eq_by_cmp_equiv, Equal-is}
use Rattle.fp_field.specs.Field.{SameMod}
use Rattle.fp_field.specs.Chains.{Terms, weigh, coeff, extend, Each}
use Rattle.fp_field.specs.Reduction.{one, Maps, HasDegrees, IsReduction}
use Rattle.fp_field.proofs.Weights.{weigh-append, weigh-extend, weigh-along}
use Rattle.fp_field.proofs.Normals.{weigh-normal}
use Rattle.fp_field.proofs.FlowLaws.{Each-normal}
use Rattle.spaces.specs.Spaces.{kz1}
use Rattle.spaces.specs.SmallCells.{small_cmp}
use Rattle.spaces.specs.Orders.{ordered, by_degree}
use Rattle.spaces.proofs.Orders.{Apart, then-first, then-second, ordered-apart, small-apart}
use Rattle.std.proofs.lemmas.Map.Lookups.{exact_unsigned}
use Rattle.std.specs.Ordering.{nat_cmp}
use Rattle.values.specs.Integers.{modulo, ones_up, ones_down, after_one, integers_f, integers_h}
use Rattle.values.specs.Laws.{maps_of}
use Rattle.homology_laws.proofs.SmallOrder.{small-total}
use Rattle.homology_laws.proofs.CellChains.{cells-complex, cells-same}
use Rattle.homology_laws.proofs.TableMaps.{weigh-single, weigh-extend_one, weigh-extend_nothing, contains-first}
use Rattle.homology_laws.proofs.IntegersSums.{Function, diff, rising, falling, hom, circle, times, circle-closed, IsReducedOn, homotopy-sum}
use Rattle.homology_laws.proofs.IntegersRead.{Reads, reads-by, reads-same, reads-plus, reads-neg, reads-times, reads-natural}
use Rattle.homology_laws.proofs.IntegersFaces.{X, laws, is_zero, has_zero, degenerate-zero, IsReadFree, IsRead, read-d}

module _ (p : ℕ) (positive : 0 < p) where
  abbrev m : Maps (ℕ × List ℤ) (List ℤ)
  m = maps_of p kz1

  cells-apart : Apart (by_degree (ordered kz1).cmp)
  cells-apart x y h =
      let e : x.0 ≡ y.0 = exact_unsigned x.0 y.0 (then-first (nat_cmp x.0 y.0) ((ordered kz1).cmp x.0 x.1 y.1) h) in
      λ i. (e i, ordered-apart kz1 x.0 x.1 y.1 (then-second (nat_cmp x.0 y.0) ((ordered kz1).cmp x.0 x.1 y.1) h) i)

  small-same : (x y : List ℤ) → m.small.same x y ≡ true → x ≡ y
  small-same x y h = small-apart kz1 x y ((Equal-is (small_cmp kz1 x y)).0 h)

  -- ---- cells

  -- a list without a 0
  pub free-cell : (y : List ℤ) → has_zero y ≡ false → m.big.generator (length y) (length y, y)
  free-cell y h = (refl, ((refl, λ i k l. tt), degenerate-zero (length y) y refl ∙ h))

  pub cell-free : (n : ℕ) (x : ℕ × List ℤ) → m.big.generator n x → has_zero x.1 ≡ false
  cell-free n x h = sym (degenerate-zero n x.1 h.1.0.0) ∙ h.1.1

  cell-is : (n : ℕ) (x : ℕ × List ℤ) → m.big.generator n x → x ≡ (length x.1, x.1)
  cell-is n x h = λ i. ((h.0 ∙ sym h.1.0.0) i, x.1)

  -- the rest of a list without a 0 has none
  pub rest-free : (a : ℤ) (w : List ℤ) → has_zero (a ∷ w) ≡ false → has_zero w ≡ false
  rest-free (pos zero) w h = absurd (true≢false h)
  rest-free (pos (suc n)) w h = h
  rest-free (negsuc n) w h = h

  -- ---- small cells

  abbrev IsOne : List ℤ → Type 0
  IsOne y = (y ≡ []) ⊎ (y ≡ pos 1 ∷ [])

  one-of : (x y : List ℤ) → Contains (x ∷ []) y → y ≡ x
  one-of x y (zero, l, e) = sym e
  one-of x y (suc k, l, e) = absurd (let q : suc k < 1 = l in omega arith)

  small-is : (n : ℕ) (y : List ℤ) → m.small.generator n y → IsOne y
  small-is zero y h = inl (one-of [] y h.1)
  small-is (suc zero) y h = inr (one-of (pos 1 ∷ []) y h.1)
  small-is (suc (suc n)) y h = absurd (let l : h.1.0 < 0 = h.1.1 in omega arith)

  small-free : (y : List ℤ) → IsOne y → has_zero y ≡ false
  small-free y (inl e) = ap has_zero e
  small-free y (inr e) = ap has_zero e

  -- ---- degrees

  f-keeps : (x : List ℤ) → Each (m.small.generator (length x)) (m.f (length x, x))
  f-keeps [] = Each-normal (m.small.generator 0) (small_cmp kz1) p (integers_f p []) ((refl, contains-first [] []), tt)
  f-keeps (a ∷ []) = Each-normal (m.small.generator 1) (small_cmp kz1) p (integers_f p (a ∷ [])) ((refl, contains-first (pos 1 ∷ []) []), tt)
  f-keeps (a ∷ (b ∷ x)) = tt

  -- the keys of H
  abbrev IsAfterOne : List ℤ → ℕ × List ℤ → Type 0
  IsAfterOne w k = (c : ℤ) × (k ≡ after_one p w c) × (is_zero c ≡ false)

  up-terms : (w : List ℤ) (s a : ℕ) → Each (IsAfterOne w) (map (λ c. (after_one p w c, s)) (ones_up a))
  up-terms w s zero = tt
  up-terms w s (suc a) = ((pos (suc a), refl, refl), up-terms w s a)

  down-terms : (w : List ℤ) (s a : ℕ) → Each (IsAfterOne w) (map (λ c. (after_one p w c, s)) (ones_down a))
  down-terms w s zero = tt
  down-terms w s (suc a) = ((negsuc a, refl, refl), down-terms w s a)

  -- each key of H of a list is |1|c|w| for its rest w
  abbrev IsBeyond : List ℤ → ℕ × List ℤ → Type 0
  IsBeyond [] k = ⊥
  IsBeyond (a ∷ w) k = IsAfterOne w k

  h-terms : (x : List ℤ) → Each (IsBeyond x) (integers_h p x)
  h-terms [] = tt
  h-terms (pos a ∷ w) = up-terms w (p - 1) (a - 1)
  h-terms (negsuc a ∷ w) = down-terms w 1 (suc a)

  h-keys : (n : ℕ) (x : List ℤ) → Each (IsBeyond x) (m.h (n, x))
  h-keys n x = Each-normal (IsBeyond x) (by_degree (ordered kz1).cmp) p (integers_h p x) (h-terms x)

  Each-so : {K : Type 0} (P Q : K → Type 0) → ((k : K) → P k → Q k) → (c : Terms K) → Each P c → Each Q c
  Each-so P Q e [] h = tt
  Each-so P Q e (t ∷ c) h = (e t.0 h.0, Each-so P Q e c h.1)

  pub after-free : (c : ℤ) (w : List ℤ) → is_zero c ≡ false → has_zero w ≡ false → has_zero (pos 1 ∷ (c ∷ w)) ≡ false
  after-free (pos zero) w z h = absurd (true≢false z)
  after-free (pos (suc n)) w z h = h
  after-free (negsuc n) w z h = h

  beyond-cell : (x : List ℤ) → has_zero x ≡ false → (k : ℕ × List ℤ) → IsBeyond x k → m.big.generator (suc (length x)) k
  beyond-cell [] h k b = absurd b
  beyond-cell (a ∷ w) h k b =
      subst (m.big.generator (suc (suc (length w)))) (sym b.1) (free-cell (pos 1 ∷ (b.0 ∷ w)) (after-free b.0 w b.2 (rest-free a w h)))

  h-raises : (x : List ℤ) → has_zero x ≡ false → Each (m.big.generator (suc (length x))) (m.h (length x, x))
  h-raises x h = Each-so (IsBeyond x) (m.big.generator (suc (length x))) (beyond-cell x h) (m.h (length x, x)) (h-keys (length x) x)

  degrees : HasDegrees p m
  degrees = record {
    big = cells-complex X laws p positive;
    small = record { equivalence = eq_by_cmp_equiv (small-total kz1); lowers = λ n y h. tt; ends = λ y h. refl; respects = λ x y h k. refl };
    f = record {
      keeps = λ n x h. subst (λ d. Each (m.small.generator d) (m.f x)) h.1.0.0 (subst (λ z. Each (m.small.generator (length x.1)) (m.f z)) (sym (cell-is n x h)) (f-keeps x.1));
      respects = λ x y h k. ap (λ z. coeff m.small.same (m.f z) k % p) (cells-same X laws p positive x y h);
    };
    g = record {
      keeps = λ n y h. (subst (λ d. m.big.generator d (length y, y)) h.0 (free-cell y (small-free y (small-is n y h))), tt);
      respects = λ x y h k. ap (λ z. coeff m.big.same (m.g z) k % p) (small-same x y h);
    };
    h = record {
      raises = λ n x h. subst (λ d. Each (m.big.generator (suc d)) (m.h x)) h.1.0.0 (subst (λ z. Each (m.big.generator (suc (length x.1))) (m.h z)) (sym (cell-is n x h)) (h-raises x.1 (cell-free n x h)));
      respects = λ x y h k. ap (λ z. coeff m.big.same (m.h z) k % p) (cells-same X laws p positive x y h);
    };
  }

  -- ---- the maps, read from functions

  abbrev AllWeights : {K : Type 0} → Terms K → Terms K → Type 0
  AllWeights {K} c d = (w : K → ℕ) → SameMod p (weigh w c) (weigh w d)

  -- a weight of cells as a function that is 0 on degenerate lists
  abbrev on_lists : (ℕ × List ℤ → ℕ) → Function
  on_lists w y = cond (has_zero y) (pos 0) (pos (w (length y, y)))

  list-reads : (w : ℕ × List ℤ → ℕ) → IsRead p positive w (on_lists w)
  list-reads w = record {
    free = λ y h. subst (λ b. Reads p (w (length y, y)) (cond b (pos 0) (pos (w (length y, y))))) (sym h) (reads-natural p (w (length y, y)));
    degenerate = λ y h. ap (λ b. cond {A = ℤ} b (pos 0) (pos (w (length y, y)))) h;
  }

  list-reduced : (w : ℕ × List ℤ → ℕ) → IsReducedOn (on_lists w)
  list-reduced w = record { first = λ y. refl; second = λ y. refl }

  module _ (u : ℕ × List ℤ → ℕ) (U : Function) (r : IsReadFree p positive u U) where
    read-up : (w : List ℤ) → has_zero w ≡ false → (a : ℕ) → Reads p (weigh u (map (λ c. (after_one p w c, p - 1)) (ones_up a))) (neg_ℤ (rising U w a))
    read-up w h zero = reads-natural p 0
    read-up w h (suc a) =
        let y : List ℤ = pos 1 ∷ (pos (suc a) ∷ w) in
        let rest : ℕ = weigh u (map (λ c. (after_one p w c, p - 1)) (ones_up a)) in
        subst (Reads p ((p - 1) * u (length y, y) + rest)) (let q : neg_ℤ (U y) +ℤ neg_ℤ (rising U w a) ≡ neg_ℤ (U y +ℤ rising U w a) = omega (arith, ints) in q)
        (reads-plus p positive ((p - 1) * u (length y, y)) rest (neg_ℤ (U y)) (neg_ℤ (rising U w a)) (reads-neg p positive (u (length y, y)) (U y) (r y h)) (read-up w h a))

    read-down : (w : List ℤ) → has_zero w ≡ false → (a : ℕ) → Reads p (weigh u (map (λ c. (after_one p w c, 1)) (ones_down a))) (falling U w a)
    read-down w h zero = reads-natural p 0
    read-down w h (suc a) =
        let y : List ℤ = pos 1 ∷ (negsuc a ∷ w) in
        let rest : ℕ = weigh u (map (λ c. (after_one p w c, 1)) (ones_down a)) in
        reads-plus p positive (1 * u (length y, y)) rest (U y) (falling U w a) (reads-by p (1 * u (length y, y)) (u (length y, y)) (U y) (ap (λ k. k % p) (omega arith)) (r y h)) (read-down w h a)

    read-terms : (x : List ℤ) → has_zero x ≡ false → Reads p (weigh u (integers_h p x)) (hom U x)
    read-terms [] h = reads-natural p 0
    read-terms (pos zero ∷ w) h = absurd (true≢false h)
    read-terms (pos (suc a) ∷ w) h =
        subst (λ b. Reads p (weigh u (map (λ c. (after_one p w c, p - 1)) (ones_up b))) (neg_ℤ (rising U w a))) (let q : a ≡ suc a - 1 = omega arith in q) (read-up w h a)
    read-terms (negsuc a ∷ w) h = read-down w h (suc a)

    read-h : (x : List ℤ) → has_zero x ≡ false → Reads p (weigh u (m.h (length x, x))) (hom U x)
    read-h x h = reads-by p (weigh u (m.h (length x, x))) (weigh u (integers_h p x)) (hom U x) (weigh-normal (by_degree (ordered kz1).cmp) p cells-apart u (integers_h p x)) (read-terms x h)

  -- the homotopy of a function that is 0 on degenerate lists is 0 there
  rising-none : (U : Function) → ((y : List ℤ) → has_zero y ≡ true → U y ≡ pos 0) → (w : List ℤ) → has_zero w ≡ true → (a : ℕ) → rising U w a ≡ pos 0
  rising-none U z w h zero = refl
  rising-none U z w h (suc a) = omega (arith, ints, z (pos 1 ∷ (pos (suc a) ∷ w)) h, rising-none U z w h a)

  falling-none : (U : Function) → ((y : List ℤ) → has_zero y ≡ true → U y ≡ pos 0) → (w : List ℤ) → has_zero w ≡ true → (a : ℕ) → falling U w a ≡ pos 0
  falling-none U z w h zero = refl
  falling-none U z w h (suc a) = omega (arith, ints, z (pos 1 ∷ (negsuc a ∷ w)) h, falling-none U z w h a)

  hom-none : (U : Function) → ((y : List ℤ) → has_zero y ≡ true → U y ≡ pos 0) → (x : List ℤ) → has_zero x ≡ true → hom U x ≡ pos 0
  hom-none U z [] h = refl
  hom-none U z (pos zero ∷ w) h = refl
  hom-none U z (pos (suc a) ∷ w) h = omega (arith, ints, rising-none U z w h a)
  hom-none U z (negsuc a ∷ w) h = falling-none U z w h (suc a)

  circle-none : (U : Function) → (x : List ℤ) → has_zero x ≡ true → circle U x ≡ pos 0
  circle-none U [] h = absurd (true≢false (sym h))
  circle-none U (pos zero ∷ []) h = refl
  circle-none U (pos (suc a) ∷ []) h = absurd (true≢false (sym h))
  circle-none U (negsuc a ∷ []) h = absurd (true≢false (sym h))
  circle-none U (a ∷ (b ∷ x)) h = refl

  read-circle : (v : List ℤ → ℕ) (U : Function) → Reads p (v []) (U []) → Reads p (v (pos 1 ∷ [])) (U (pos 1 ∷ [])) → (x : List ℤ) → Reads p (weigh v (integers_f p x)) (circle U x)
  read-circle v U r s [] = reads-by p (weigh v (integers_f p [])) (v []) (U []) (ap (λ k. k % p) (weigh-single v [])) r
  read-circle v U r s (a ∷ []) =
      reads-by p (weigh v (integers_f p (a ∷ []))) (modulo p a * v (pos 1 ∷ [])) (times a (U (pos 1 ∷ []))) (ap (λ k. k % p) (let q : modulo p a * v (pos 1 ∷ []) + 0 ≡ modulo p a * v (pos 1 ∷ []) = omega arith in q))
      (reads-times p positive a (v (pos 1 ∷ [])) (U (pos 1 ∷ [])) s)
  read-circle v U r s (a ∷ (b ∷ x)) = reads-natural p 0

  read-f : (v : List ℤ → ℕ) (U : Function) → Reads p (v []) (U []) → Reads p (v (pos 1 ∷ [])) (U (pos 1 ∷ [])) → (n : ℕ) (x : List ℤ) → Reads p (weigh v (m.f (n, x))) (circle U x)
  read-f v U r s n x = reads-by p (weigh v (m.f (n, x))) (weigh v (integers_f p x)) (circle U x) (weigh-normal (small_cmp kz1) p (small-apart kz1) v (integers_f p x)) (read-circle v U r s x)

  -- ---- the equations, under every weight

  homotopy-list : (x : List ℤ) → has_zero x ≡ false
      → AllWeights (extend m.big.d (m.h (length x, x)) ++ (extend m.h (m.big.d (length x, x)) ++ extend m.g (m.f (length x, x)))) (one (length x, x))
  homotopy-list x h w =
      reads-same p positive (weigh w (dh ++ (hd ++ gf))) (weigh w (one (length x, x))) (U x)
      (reads-by p (weigh w (dh ++ (hd ++ gf))) (weigh w dh + weigh w hd + weigh w gf) (U x)
      (ap (λ k. k % p) (omega (arith, weigh-append w dh (hd ++ gf), weigh-append w hd gf)))
      (subst (Reads p (weigh w dh + weigh w hd + weigh w gf)) (homotopy-sum U (list-reduced w) x)
      (reads-plus p positive (weigh w dh + weigh w hd) (weigh w gf) (hom (diff U) x +ℤ diff (hom U) x) (circle U x)
      (reads-plus p positive (weigh w dh) (weigh w hd) (hom (diff U) x) (diff (hom U) x) read-dh read-hd) read-gf)))
      (reads-by p (weigh w (one (length x, x))) (w (length x, x)) (U x) (ap (λ k. k % p) (weigh-single w (length x, x))) (is.free x h))
    where
      U : Function
      U = on_lists w

      is : IsRead p positive w U
      is = list-reads w

      dh : Terms (ℕ × List ℤ)
      dh = extend m.big.d (m.h (length x, x))

      hd : Terms (ℕ × List ℤ)
      hd = extend m.h (m.big.d (length x, x))

      gf : Terms (ℕ × List ℤ)
      gf = extend m.g (m.f (length x, x))

      read-dh : Reads p (weigh w dh) (hom (diff U) x)
      read-dh = subst (λ k. Reads p k (hom (diff U) x)) (sym (weigh-extend w m.big.d (m.h (length x, x)))) (read-h (λ k. weigh w (m.big.d k)) (diff U) (λ y g. read-d p positive w U is y) x h)

      read-hd : Reads p (weigh w hd) (diff (hom U) x)
      read-hd = subst (λ k. Reads p k (diff (hom U) x)) (sym (weigh-extend w m.h (m.big.d (length x, x))))
          (read-d p positive (λ k. weigh w (m.h k)) (hom U) (record { free = λ y g. read-h w U is.free y g; degenerate = hom-none U is.degenerate }) x)

      at-small : (y : List ℤ) → has_zero y ≡ false → Reads p (weigh w (m.g y)) (U y)
      at-small y g = reads-by p (weigh w (m.g y)) (w (length y, y)) (U y) (ap (λ k. k % p) (weigh-single w (length y, y))) (is.free y g)

      read-gf : Reads p (weigh w gf) (circle U x)
      read-gf = subst (λ k. Reads p k (circle U x)) (sym (weigh-extend w m.g (m.f (length x, x)))) (read-f (λ y. weigh w (m.g y)) U (at-small [] refl) (at-small (pos 1 ∷ []) refl) (length x) x)

  f-list : (x : List ℤ) → AllWeights (extend m.small.d (m.f (length x, x))) (extend m.f (m.big.d (length x, x)))
  f-list x v =
      reads-same p positive (weigh v (extend m.small.d (m.f (length x, x)))) (weigh v (extend m.f (m.big.d (length x, x)))) (pos 0)
      (subst (λ k. Reads p k (pos 0)) (sym (weigh-extend_nothing v (m.f (length x, x)))) (reads-natural p 0))
      (subst (λ k. Reads p k (pos 0)) (sym (weigh-extend v m.f (m.big.d (length x, x))))
      (subst (Reads p (weigh (λ k. weigh v (m.f k)) (m.big.d (length x, x)))) (circle-closed U x)
      (read-d p positive (λ k. weigh v (m.f k)) (circle U)
      (record { free = λ y g. read-f v U (reads-natural p (v [])) (reads-natural p (v (pos 1 ∷ []))) (length y) y; degenerate = circle-none U }) x)))
    where
      U : Function
      U y = pos (v y)

  -- d of a cell of the circle is 0
  closed : (w : ℕ × List ℤ → ℕ) (y : List ℤ) → IsOne y → diff (on_lists w) y ≡ pos 0
  closed w y (inl e) = ap (diff (on_lists w)) e
  closed w y (inr e) = ap (diff (on_lists w)) e ∙ (let q : diff (on_lists w) (pos 1 ∷ []) ≡ pos 0 = omega (arith, ints) in q)

  g-list : (y : List ℤ) → IsOne y → AllWeights (extend m.big.d (m.g y)) (extend m.g (m.small.d y))
  g-list y o w =
      ap (λ k. k % p) (weigh-extend_one w m.big.d (length y, y))
      ∙ reads-same p positive (weigh w (m.big.d (length y, y))) 0 (pos 0) (subst (Reads p (weigh w (m.big.d (length y, y)))) (closed w y o) (read-d p positive w (on_lists w) (list-reads w) y)) (reads-natural p 0)

  fg-list : (y : List ℤ) → IsOne y → AllWeights (extend m.f (m.g y)) (one y)
  fg-list y (inl e) v =
      ap (λ z. weigh v (extend m.f (m.g z)) % p) e
      ∙ ap (λ k. k % p) (weigh-extend_one v m.f (0, [])) ∙ weigh-normal (small_cmp kz1) p (small-apart kz1) v (integers_f p [])
      ∙ ap (λ z. weigh v (one z) % p) (sym e)
  fg-list y (inr e) v =
      ap (λ z. weigh v (extend m.f (m.g z)) % p) e
      ∙ ap (λ k. k % p) (weigh-extend_one v m.f (1, pos 1 ∷ [])) ∙ weigh-normal (small_cmp kz1) p (small-apart kz1) v (integers_f p (pos 1 ∷ []))
      ∙ ap (λ z. weigh v (one z) % p) (sym e)

  hg-list : (y : List ℤ) → IsOne y → extend m.h (m.g y) ≡ []
  hg-list y (inl e) = ap (λ z. extend m.h (m.g z)) e
  hg-list y (inr e) = ap (λ z. extend m.h (m.g z)) e

  -- F and H are 0 on the keys of H
  beyond-nothing : {J : Type 0} (u : ℕ × List ℤ → Terms J) → ((w : List ℤ) (c : ℤ) → u (after_one p w c) ≡ []) → (x : List ℤ) (k : ℕ × List ℤ) → IsBeyond x k → u k ≡ []
  beyond-nothing u e [] k b = absurd b
  beyond-nothing u e (a ∷ w) k b = ap u b.1 ∙ e w b.0

  after-h : {J : Type 0} (u : ℕ × List ℤ → Terms J) → ((w : List ℤ) (c : ℤ) → u (after_one p w c) ≡ []) → (x : ℕ × List ℤ) → AllWeights (extend u (m.h x)) []
  after-h u e x v = ap (λ k. k % p)
      (weigh-extend v u (m.h x)
      ∙ weigh-along (IsBeyond x.1) (λ k. weigh v (u k)) (λ k. 0) (λ k b. ap (weigh v) (beyond-nothing u e x.1 k b)) (m.h x) (h-keys x.0 x.1)
      ∙ nothing (m.h x))
    where
      nothing : (c : Terms (ℕ × List ℤ)) → weigh (λ k. 0) c ≡ 0
      nothing [] = refl
      nothing (t ∷ c) = omega (arith, nothing c)

  pub integers-reduction : IsReduction p m
  integers-reduction N = record {
    degrees = degrees;
    equations = record {
      f_commutes = λ n x l h k. subst (λ z. AllWeights (extend m.small.d (m.f z)) (extend m.f (m.big.d z))) (sym (cell-is n x h)) (f-list x.1) (λ y. cond (m.small.same y k) 1 0);
      g_commutes = λ n y l h k. g-list y (small-is n y h) (λ z. cond (m.big.same z k) 1 0);
      twice = λ n y l h k. refl;
      fg = λ n y l h k. fg-list y (small-is n y h) (λ z. cond (m.small.same z k) 1 0);
      homotopy = λ n x l h k.
          subst (λ z. AllWeights (extend m.big.d (m.h z) ++ (extend m.h (m.big.d z) ++ extend m.g (m.f z))) (one z)) (sym (cell-is n x h)) (homotopy-list x.1 (cell-free n x h)) (λ y. cond (m.big.same y k) 1 0);
      fh = λ n x l h k. after-h m.f (λ w c. refl) x (λ y. cond (m.small.same y k) 1 0);
      hg = λ n y l h k. ap (λ c. coeff m.big.same c k % p) (hg-list y (small-is n y h));
      hh = λ n x l h k. after-h m.h (λ w c. refl) x (λ y. cond (m.big.same y k) 1 0);
    };
  }
