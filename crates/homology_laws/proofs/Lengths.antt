-- All homology lists of a degree are as long: the coefficients of one over the other are a basis of all vectors.
use Rattle.std.proofs.Common.{◌≡◌, ℕ, zero, suc, ◌+◌, ◌*◌, ◌-◌, ◌%◌, ◌<◌, true, false, cond, List, [], ◌∷◌, ◌++◌, map, length, refl, sym, ◌∙◌, ap, subst, arith}
use Rattle.std.proofs.lemmas.List.Elements.{All-cons, recursion_from_All}
use Rattle.std.specs.List.{AllByRecursion as EachOf}
use Rattle.fp_field.specs.Field.{SameMod, IsField}
use Rattle.fp_field.specs.Chains.{Terms, weigh, coeff, scale, combination}
use Rattle.fp_field.proofs.Mod.{same-plus, same-times, same-by, pred-times, difference-from-same}
use Rattle.fp_field.proofs.Weights.{weigh-append, weigh-scale, weigh-extend, Each-append, Each-scale}
use Rattle.echelons.specs.Echelon.{Vector, IsVector, zeros, vector_plus, multiple, combined, IsSubspace}
use Rattle.echelons.proofs.Vectors.{Wide, Each-any, zeros-vector, combined-vector, vectors-wide, length-multiple, length-combined}
use Rattle.echelons.proofs.Halves.{units, length-units, units-combined}
use Rattle.echelons.proofs.Counts.{IsBasis, basis-lengths}
use Rattle.spaces.specs.Simplicial.{Simplicial, is_degenerate}
use Rattle.spaces.specs.Homology.{boundary_of, boundary, IsChain, IsClosed, IsCycle, IsBoundary, IsExpressed, HomologyList}
use Rattle.homology_laws.specs.Lists.{chain_on}
use Rattle.homology_laws.proofs.Sums.{weigh-extend_append, weigh-combination}
use Rattle.homology_laws.proofs.Vectors.{weigh-zeros, weigh-vector_plus, weigh-multiple}

-- ---- the unit vectors are a basis

module _ (p : ℕ) (above : 1 < p) where
  unit-vectors : (n : ℕ) → EachOf (IsVector p n) (units n)
  unit-vectors zero = tt
  unit-vectors (suc n) =
      let none = zeros-vector p (omega arith) n in
      (record { wide = ap suc none.wide; below = All-cons (λ a. a < p) 1 (zeros n) above none.below }, later (units n) (unit-vectors n))
    where
      later : (vs : List Vector) → EachOf (IsVector p n) vs → EachOf (IsVector p (suc n)) (map (λ v. 0 ∷ v) vs)
      later [] h = tt
      later (v ∷ vs) h = (record { wide = ap suc h.0.wide; below = All-cons (λ a. a < p) 0 v (omega arith) h.0.below }, later vs h.1)

  all-vectors : (n : ℕ) → IsSubspace p n (λ v. true)
  all-vectors n = record { zero_in = refl; plus_in = λ u v g h e f. refl; multiple_in = λ a v l g e. refl }

  unit-basis : (n : ℕ) → IsBasis p n (units n) (λ v. true)
  unit-basis n = record {
    rows_in = unit-vectors n;
    rows_within = Each-any (λ r. true ≡ true) (λ r. refl) (units n);
    once = λ v g e. (
      v,
      subst (λ k. IsVector p k v) (sym (length-units n)) g,
      itself v g,
      λ ds d f. sym (itself ds (subst (λ k. IsVector p k ds) (length-units n) d)) ∙ f,
    );
  }
    where
      itself : (v : Vector) → IsVector p n v → combined p n v (units n) ≡ v
      itself v g = units-combined p n v g.wide (recursion_from_All (λ a. a < p) v g.below)

-- ---- chains up to boundaries

-- the weight of a combination is linear in the coefficients
weigh-as-chain : {K : Type 0} (w : K → ℕ) (cs : List ℕ) (zs : List (Terms K)) → weigh w (combination cs zs) ≡ weigh (λ z. weigh w z) (chain_on zs cs)
weigh-as-chain w [] [] = refl
weigh-as-chain w [] (z ∷ zs) = refl
weigh-as-chain w (c ∷ cs) [] = refl
weigh-as-chain w (c ∷ cs) (z ∷ zs) = weigh-combination w c cs z zs ∙ ap (λ n. c * weigh w z + n) (weigh-as-chain w cs zs)

module _ {K : Type 0} (X : Simplicial K) (p : ℕ) (field : IsField p) (n : ℕ) where
  above : 1 < p
  above = field.one_is_not_zero

  pos : 0 < p
  pos = let l : 1 < p = field.one_is_not_zero in omega arith

  abbrev count : K → K → ℕ
  count k x = cond (X.same x k) 1 0

  abbrev at : K → Terms K → ℕ
  at k c = coeff X.same c k

  -- c minus d is a boundary
  abbrev Differ : Terms K → Terms K → Type 0
  Differ c d = IsBoundary X p n (c ++ scale (p - 1) d)

  at-difference : (k : K) (c d : Terms K) → at k (c ++ scale (p - 1) d) ≡ at k c + (p - 1) * at k d
  at-difference k c d = weigh-append (count k) c (scale (p - 1) d) ∙ ap (λ m. at k c + m) (weigh-scale (count k) (p - 1) d)

  at-boundary_append : (k : K) (v w : Terms K) → at k (boundary X p (suc n) (v ++ w)) ≡ at k (boundary X p (suc n) v) + at k (boundary X p (suc n) w)
  at-boundary_append k v w = weigh-extend_append (count k) (boundary_of X p (suc n)) v w

  at-boundary_scale : (k : K) (a : ℕ) (w : Terms K) → at k (boundary X p (suc n) (scale a w)) ≡ a * at k (boundary X p (suc n) w)
  at-boundary_scale k a w =
      weigh-extend (count k) (boundary_of X p (suc n)) (scale a w) ∙ weigh-scale (λ x. weigh (count k) (boundary_of X p (suc n) x)) a w
      ∙ ap (λ m. a * m) (sym (weigh-extend (count k) (boundary_of X p (suc n)) w))

  -- what c and d have at each simplex, and the chain between them
  from-differ : (c d : Terms K) (e : Differ c d) (k : K) → is_degenerate X n k ≡ false → SameMod p (at k c + (p - 1) * at k d) (at k (boundary X p (suc n) e.0))
  from-differ c d e k g = ap (λ m. m % p) (sym (at-difference k c d)) ∙ e.2 k g

  to-differ : (c d w : Terms K) → IsChain X p (suc n) w
      → ((k : K) → is_degenerate X n k ≡ false → SameMod p (at k c + (p - 1) * at k d) (at k (boundary X p (suc n) w))) → Differ c d
  to-differ c d w is h = (w, is, λ k g. ap (λ m. m % p) (at-difference k c d) ∙ h k g)

  differ-itself : (c : Terms K) → Differ c c
  differ-itself c = to-differ c c [] tt (λ k g. difference-from-same p pos (at k c) (at k c) refl)

  turned : (c d e : ℕ) → SameMod p (c + (p - 1) * d) e → SameMod p (d + (p - 1) * c) ((p - 1) * e)
  turned c d e h =
      same-by p (d + (p - 1) * c) ((p - 1) * (c + (p - 1) * d)) ((p - 1) * d) d (omega (arith, pred-times p ((p - 1) * d) pos, pred-times p d pos))
      ∙ same-times p (p - 1) _ _ h

  differ-back : (c d : Terms K) → Differ c d → Differ d c
  differ-back c d e =
      to-differ d c (scale (p - 1) e.0) (Each-scale (X.In (suc n)) (p - 1) e.0 e.1)
      (λ k g. turned (at k c) (at k d) (at k (boundary X p (suc n) e.0)) (from-differ c d e k g) ∙ ap (λ m. m % p) (sym (at-boundary_scale k (p - 1) e.0)))

  joined : (c d f e i : ℕ) → SameMod p (c + (p - 1) * d) e → SameMod p (d + (p - 1) * f) i → SameMod p (c + (p - 1) * f) (e + i)
  joined c d f e i g h =
      same-by p (c + (p - 1) * f) ((c + (p - 1) * d) + (d + (p - 1) * f)) d 0 (omega (arith, pred-times p d pos)) ∙ same-plus p _ _ _ _ g h

  differ-through : (c d f : Terms K) → Differ c d → Differ d f → Differ c f
  differ-through c d f e i =
      to-differ c f (e.0 ++ i.0) (Each-append (X.In (suc n)) e.0 i.0 e.1 i.1)
      (λ k g. joined (at k c) (at k d) (at k f) _ _ (from-differ c d e k g) (from-differ d f i k g) ∙ ap (λ m. m % p) (sym (at-boundary_append k e.0 i.0)))

  -- ---- combinations

  combination-in : (cs : List ℕ) (zs : List (Terms K)) → EachOf (IsCycle X p n) zs → IsChain X p n (combination cs zs)
  combination-in [] zs h = tt
  combination-in (c ∷ cs) [] h = tt
  combination-in (c ∷ cs) (z ∷ zs) h = Each-append (X.In n) (scale c z) (combination cs zs) (Each-scale (X.In n) c z h.0.chain) (combination-in cs zs h.1)

  pub combination-cycle : (cs : List ℕ) (zs : List (Terms K)) → EachOf (IsCycle X p n) zs → IsCycle X p n (combination cs zs)
  combination-cycle cs zs h = record { chain = combination-in cs zs h; closed = by n cs zs h }
    where
      by : (n : ℕ) (cs : List ℕ) (zs : List (Terms K)) → EachOf (IsCycle X p n) zs → IsClosed X p n (combination cs zs)
      by zero cs zs h = tt
      by (suc m) cs zs h = λ k g. none cs zs h k g
        where
          none : (cs : List ℕ) (zs : List (Terms K)) → EachOf (IsCycle X p (suc m)) zs → (k : K) → is_degenerate X m k ≡ false
              → SameMod p (coeff X.same (boundary X p (suc m) (combination cs zs)) k) 0
          none [] zs h k g = refl
          none (c ∷ cs) [] h k g = refl
          none (c ∷ cs) (z ∷ zs) h k g =
              ap (λ i. i % p) (weigh-extend_append (count k) (boundary_of X p (suc m)) (scale c z) (combination cs zs)
              ∙ ap (λ i. i + coeff X.same (boundary X p (suc m) (combination cs zs)) k)
              (weigh-extend (count k) (boundary_of X p (suc m)) (scale c z) ∙ weigh-scale (λ x. weigh (count k) (boundary_of X p (suc m) x)) c z
              ∙ ap (λ i. c * i) (sym (weigh-extend (count k) (boundary_of X p (suc m)) z))))
              ∙ same-plus p _ (c * 0) _ 0 (same-times p c _ 0 (h.0.closed k g)) (none cs zs h.1 k g)
              ∙ ap (λ i. i % p) (let q : c * 0 + 0 ≡ 0 = omega arith in q)

  -- ---- one homology list over another

  module _ (xs zs : List (Terms K)) (g : HomologyList X p n xs) (h : HomologyList X p n zs) where
    xs-cycles : EachOf (IsCycle X p n) xs
    xs-cycles = recursion_from_All (IsCycle X p n) xs g.cycles

    zs-cycles : EachOf (IsCycle X p n) zs
    zs-cycles = recursion_from_All (IsCycle X p n) zs h.cycles

    abbrev width : ℕ
    width = length xs

    -- the coefficients of cycles over xs
    abbrev rows-of : (ws : List (Terms K)) → EachOf (IsCycle X p n) ws → List Vector
    rows-of [] c = []
    rows-of (z ∷ ws) c = (g.spans z c.0).0 ∷ rows-of ws c.1

    rows-in : (ws : List (Terms K)) (c : EachOf (IsCycle X p n) ws) → EachOf (IsVector p width) (rows-of ws c)
    rows-in [] c = tt
    rows-in (z ∷ ws) c = let e = (g.spans z c.0).1 in (record { wide = e.as_long; below = e.reduced }, rows-in ws c.1)

    rows-length : (ws : List (Terms K)) (c : EachOf (IsCycle X p n) ws) → length (rows-of ws c) ≡ length ws
    rows-length [] c = refl
    rows-length (z ∷ ws) c = ap suc (rows-length ws c.1)

    rows-wide : (ws : List (Terms K)) (c : EachOf (IsCycle X p n) ws) → Wide width (rows-of ws c)
    rows-wide ws c = vectors-wide p width (rows-of ws c) (rows-in ws c)

    at-zeros : (k : K) → at k (combination (zeros width) xs) ≡ 0
    at-zeros k = weigh-as-chain (count k) (zeros width) xs ∙ weigh-zeros p (λ z. weigh (count k) z) xs width

    at-plus : (k : K) (a : ℕ) (u v : Vector) → length u ≡ width → length v ≡ width
        → SameMod p (at k (combination (vector_plus p (multiple p a u) v) xs)) (a * at k (combination u xs) + at k (combination v xs))
    at-plus k a u v e f =
        ap (λ m. m % p) (weigh-as-chain (count k) (vector_plus p (multiple p a u) v) xs)
        ∙ weigh-vector_plus p (λ z. weigh (count k) z) xs (multiple p a u) v (length-multiple p width a u e ∙ sym f)
        ∙ same-plus p _ _ _ _
        (weigh-multiple p (λ z. weigh (count k) z) xs a u ∙ ap (λ m. (a * m) % p) (sym (weigh-as-chain (count k) u xs)))
        (ap (λ m. m % p) (sym (weigh-as-chain (count k) v xs)))

    split : (q a z f r s b c l : ℕ) → l ≡ a * f + s → SameMod p (z + q * f) b → SameMod p (r + q * s) c → SameMod p ((a * z + r) + q * l) (a * b + c)
    split q a z f r s b c l e i j =
        ap (λ m. m % p) (rw e (let t : (a * z + r) + q * (a * f + s) ≡ a * (z + q * f) + (r + q * s) = omega arith in t))
        ∙ same-plus p _ _ _ _ (same-times p a _ _ i) j

    -- a combination of the cycles is the same combination of their combinations
    over : (ds : List ℕ) (ws : List (Terms K)) (c : EachOf (IsCycle X p n) ws) → Differ (combination ds ws) (combination (combined p width ds (rows-of ws c)) xs)
    over [] ws c = to-differ [] (combination (zeros width) xs) [] tt (λ k q. ap (λ m. (0 + (p - 1) * m) % p) (at-zeros k) ∙ ap (λ m. m % p) (let t : 0 + (p - 1) * 0 ≡ 0 = omega arith in t))
    over (d ∷ ds) [] c = to-differ [] (combination (zeros width) xs) [] tt (λ k q. ap (λ m. (0 + (p - 1) * m) % p) (at-zeros k) ∙ ap (λ m. m % p) (let t : 0 + (p - 1) * 0 ≡ 0 = omega arith in t))
    over (d ∷ ds) (z ∷ ws) c =
        let u = (g.spans z c.0).0 in
        let e = (g.spans z c.0).1 in
        let v = combined p width ds (rows-of ws c.1) in
        let rest = over ds ws c.1 in
        to-differ (combination (d ∷ ds) (z ∷ ws)) (combination (vector_plus p (multiple p d u) v) xs) (scale d e.rest.0 ++ rest.0)
        (Each-append (X.In (suc n)) (scale d e.rest.0) rest.0 (Each-scale (X.In (suc n)) d e.rest.0 e.rest.1) rest.1)
        (λ k q.
        same-plus p _ (d * at k z + at k (combination ds ws)) _ _ (ap (λ m. m % p) (weigh-combination (count k) d ds z ws))
        (same-times p (p - 1) _ _ (at-plus k d u v e.as_long (length-combined p width ds (rows-of ws c.1) (rows-wide ws c.1))))
        ∙ split (p - 1) d (at k z) (at k (combination u xs)) (at k (combination ds ws)) (at k (combination v xs)) _ _ _ refl
        (from-differ z (combination u xs) e.rest k q) (from-differ (combination ds ws) (combination v xs) rest k q)
        ∙ ap (λ m. m % p) (sym (at-boundary_append k (scale d e.rest.0) rest.0 ∙ ap (λ m. m + at k (boundary X p (suc n) rest.0)) (at-boundary_scale k d e.rest.0))))

    abbrev rows : List Vector
    rows = rows-of zs zs-cycles

    itself : (v : Vector) → IsVector p width v → IsExpressed X p n xs (combination v xs) v
    itself v i = record { as_long = i.wide; reduced = i.below; rest = differ-itself (combination v xs) }

    found : (v : Vector) → IsVector p width v → (ds : List ℕ) → IsExpressed X p n zs (combination v xs) ds → combined p width ds rows ≡ v
    found v i ds e =
        let u = combined-vector p pos width ds rows (rows-wide zs zs-cycles) in
        g.once (combination v xs) (combined p width ds rows) v (combination-cycle v xs xs-cycles)
        (record {
          as_long = u.wide;
          reduced = u.below;
          rest = differ-through (combination v xs) (combination ds zs) (combination (combined p width ds rows) xs) e.rest (over ds zs zs-cycles);
        })
        (itself v i)

    only : (v : Vector) (ds es : List ℕ) → IsExpressed X p n zs (combination v xs) ds → IsVector p (length rows) es → combined p width es rows ≡ v → es ≡ ds
    only v ds es e i f =
        h.once (combination v xs) es ds (combination-cycle v xs xs-cycles)
        (record {
          as_long = i.wide ∙ rows-length zs zs-cycles;
          reduced = i.below;
          rest = subst (λ u. Differ (combination u xs) (combination es zs)) f
              (differ-back (combination es zs) (combination (combined p width es rows) xs) (over es zs zs-cycles));
        })
        e

    rows-basis : IsBasis p width rows (λ v. true)
    rows-basis = record {
      rows_in = rows-in zs zs-cycles;
      rows_within = Each-any (λ r. true ≡ true) (λ r. refl) rows;
      once = λ v i q. let s = h.spans (combination v xs) (combination-cycle v xs xs-cycles) in (
        s.0,
        record { wide = s.1.as_long ∙ sym (rows-length zs zs-cycles); below = s.1.reduced },
        found v i s.0 s.1,
        λ es d f. only v s.0 es s.1 d f,
      );
    }

    pub same-length : length xs ≡ length zs
    same-length =
        sym (length-units width)
        ∙ basis-lengths p width above (λ v. true) (all-vectors p above width) (units width) rows (unit-basis p above width) rows-basis
        ∙ rows-length zs zs-cycles
