-- From a reduction of a complex to a homology list of it: linear algebra in the small complex, carried over by g.
use Rattle.std.proofs.Common.{◌≡◌, ℕ, zero, suc, ◌+◌, ◌*◌, ◌-◌, ◌%◌, ◌<◌, ◌≤◌, Bool, true, ◌&&◌, List, [], ◌∷◌, ◌++◌, map, length, refl, sym, ◌∙◌, ap, subst, arith}
use Rattle.std.proofs.Math.ListN.{length-map}
use Rattle.std.proofs.lemmas.Bool.{and_parts}
use Rattle.std.proofs.lemmas.List.Elements.{All-from_recursion, recursion_from_All, All-weaker}
use Rattle.std.specs.Cmp.{IsEquivalence}
use Rattle.std.specs.List.{list_any, AllByRecursion as EachOf}
use Rattle.fp_field.specs.Field.{SameMod, IsField}
use Rattle.fp_field.specs.Chains.{Terms, weigh, scale, extend, combination, Each}
use Rattle.fp_field.specs.Reduction.{SameTerms, one, after, Complex, IsGraded, Maps, IsReductionTo, Respects}
use Rattle.fp_field.proofs.Mod.{same-plus, same-times}
use Rattle.fp_field.proofs.Weights.{weigh-append, weigh-scale, weigh-extend, Each-append, Each-scale, Each-extend}
use Rattle.fp_field.proofs.Fair.{Fair, under, from_weights, pull, pull-fair}
use Rattle.echelons.specs.Echelon.{Vector, IsVector, zeros, vector_plus, multiple, combined, in_kernel, is_clear, reduced_basis, IsSubspace, IsSplit, IsSplitOnce}
use Rattle.echelons.proofs.Vectors.{Wide, zeros-vector, plus-vector, multiple-vector, combined-vector}
use Rattle.echelons.proofs.Lists.{Each-from}
use Rattle.echelons.proofs.Rows.{Stairs, Stairs-from, row-vector}
use Rattle.echelons.proofs.Unique.{row-within, basis-is}
use Rattle.echelons.proofs.Spans.{span-combination, combination-span, span-subspace, kernel-at, kernel-from}
use Rattle.echelons.proofs.Complement.{complement-echelon, complement-spans, splits-once}
use Rattle.echelons.proofs.Basis.{basis-echelon, basis-spans}
use Rattle.echelons.proofs.Betti.{complement-length}
use Rattle.echelons.proofs.Rank.{rank-length}
use Rattle.homology_laws.specs.Lists.{chain_on, numbers_at, IsCycleOf, IsExpressedOf, HomologyListOf, IsBase, IsCycleTest, is_boundary, homology_vectors, HasKeys, IsWritten, d_vectors, rank, d_rank}
use Rattle.homology_laws.specs.Pivots.{IsThriftySum}
use Rattle.homology_laws.proofs.Pivots.{thrifty-sum}
use Rattle.homology_laws.proofs.Sums.{Each-weaker, map-map, weigh-one, weigh-both, weigh-after, weigh-extend_append, combination-weights, agree, square, from-homotopy, to-sum}
use Rattle.homology_laws.proofs.Vectors.{Apart, Apart-from, extend-chain_on, Each-chain_on, weigh-zeros, weigh-vector_plus, weigh-multiple, weigh-combined, numbers-same, numbers-none, numbers-append, numbers-combination, numbers-vector, weigh-numbers, numbers-chain_on}

map-same : {A : Type 0} (f : A → A) (xs : List A) → EachOf (λ x. f x ≡ x) xs → map f xs ≡ xs
map-same f [] h = refl
map-same f (x ∷ xs) h = λ i. h.0 i ∷ map-same f xs h.1 i

-- ---- the vectors over a base whose differential is 0

module _ {S : Type 0} (p : ℕ) (pos : 0 < p) (C : Complex S) (eq : IsEquivalence C.same) (respects : Respects p C C C.d)
    (ys : List S) (test : Vector → Bool) (tests : IsCycleTest p C ys test) where
  d-weights : (v : Vector) (w : S → ℕ) → weigh w (extend C.d (chain_on ys v)) ≡ weigh (λ y. weigh w (C.d y)) (chain_on ys v)
  d-weights v w = weigh-extend w C.d (chain_on ys v)

  test-from : (v : Vector) → IsVector p (length ys) v → ((w : S → ℕ) → Fair p pos C.same w → SameMod p (weigh (λ y. weigh w (C.d y)) (chain_on ys v)) 0) → test v ≡ true
  test-from v h e = (tests v h).1 (from_weights p pos C.same eq (extend C.d (chain_on ys v)) [] (λ w fair. ap (λ n. n % p) (d-weights v w) ∙ e w fair))

  test-at : (v : Vector) → IsVector p (length ys) v → test v ≡ true → (w : S → ℕ) → Fair p pos C.same w → SameMod p (weigh (λ y. weigh w (C.d y)) (chain_on ys v)) 0
  test-at v h e w fair = ap (λ n. n % p) (sym (d-weights v w)) ∙ under p pos C.same eq w fair _ [] ((tests v h).0 e)

  pub test-subspace : IsSubspace p (length ys) test
  test-subspace = record {
    zero_in = test-from (zeros (length ys)) (zeros-vector p pos (length ys)) (λ w fair. ap (λ n. n % p) (weigh-zeros p (λ y. weigh w (C.d y)) ys (length ys)));
    plus_in = λ u v g h e f. test-from (vector_plus p u v) (plus-vector p pos (length ys) u v g.wide h.wide) (λ w fair.
        weigh-vector_plus p (λ y. weigh w (C.d y)) ys u v (g.wide ∙ sym h.wide) ∙ same-plus p _ 0 _ 0 (test-at u g e w fair) (test-at v h f w fair));
    multiple_in = λ a v l g e. test-from (multiple p a v) (multiple-vector p pos (length ys) a v g.wide) (λ w fair.
        weigh-multiple p (λ y. weigh w (C.d y)) ys a v ∙ same-times p a _ 0 (test-at v g e w fair) ∙ ap (λ n. n % p) (let q : a * 0 ≡ 0 = omega arith in q));
  }

-- ---- the keys of differentials

module _ {S : Type 0} (p : ℕ) (C : Complex S) (graded : IsGraded p C) where
  each-listed : (P Q : S → Type 0) → ((k : S) → P k → Q k) → (xs : List S) → EachOf (λ y. Each P (C.d y)) xs → EachOf (λ y. Each Q (C.d y)) xs
  each-listed P Q f [] h = tt
  each-listed P Q f (x ∷ xs) h = (Each-weaker P Q f (C.d x) h.0, each-listed P Q f xs h.1)

  -- a base has the keys of those of one degree more
  pub base-keys : (n : ℕ) (us ys : List S) → IsBase p C n us → IsBase p C (suc n) ys → HasKeys p C us ys
  base-keys n us ys b c = record {
    apart = b.apart;
    keys = All-from_recursion (λ y. Each (λ k. list_any (C.same k) us ≡ true) (C.d y)) ys
        (each-listed (C.generator n) (λ k. list_any (C.same k) us ≡ true) b.every ys
        (recursion_from_All (λ y. Each (C.generator n) (C.d y)) ys (All-weaker (C.generator (suc n)) (λ y. Each (C.generator n) (C.d y)) (λ y h. graded.lowers n y h) ys c.inside)));
  }

  -- and those of degree 0 have none
  pub no-keys : (ys : List S) → IsBase p C zero ys → HasKeys p C [] ys
  no-keys ys c = record {
    apart = λ i j d l q. absurd (omega arith);
    keys = All-weaker (C.generator zero) (λ y. Each (λ k. list_any (C.same k) [] ≡ true) (C.d y))
        (λ y h. subst (Each (λ k. list_any (C.same k) [] ≡ true)) (sym (graded.ends y h)) tt) ys c.inside;
  }

-- ---- the theorem

module _ {B S : Type 0} (p : ℕ) (field : IsField p) (m : Maps B S) (n : ℕ) (r : IsReductionTo p (suc n) m)
    (ys zs : List S) (base : IsBase p m.small n ys) (above : IsBase p m.small (suc n) zs)
    (test : Vector → Bool) (tests : IsCycleTest p m.small ys test) where
  pos : 0 < p
  pos = let l : 1 < p = field.one_is_not_zero in omega arith

  big-eq : IsEquivalence m.big.same
  big-eq = r.degrees.big.graded.equivalence

  small-eq : IsEquivalence m.small.same
  small-eq = r.degrees.small.equivalence

  here : n ≤ suc n
  here = omega arith

  next : suc n ≤ suc n
  next = omega arith

  abbrev co : Terms S → Vector
  co c = numbers_at p m.small.same ys c

  abbrev width : ℕ
  width = length ys

  abbrev part : Vector → Bool
  part = is_boundary p m.small ys zs

  abbrev rows : List Vector
  rows = homology_vectors p m.small ys zs test

  abbrev FairB : (B → ℕ) → Type 0
  FairB w = Fair p pos m.big.same w

  abbrev FairS : (S → ℕ) → Type 0
  FairS v = Fair p pos m.small.same v

  -- weights on one side as weights on the other
  by-f : (v : S → ℕ) → FairS v → FairB (pull p pos m.f v)
  by-f v fair = pull-fair p pos m.big m.small small-eq m.f r.degrees.f.respects v fair

  by-g : (w : B → ℕ) → FairB w → FairS (pull p pos m.g w)
  by-g w fair = pull-fair p pos m.small m.big big-eq m.g r.degrees.g.respects w fair

  by-h : (w : B → ℕ) → FairB w → FairB (pull p pos m.h w)
  by-h w fair = pull-fair p pos m.big m.big big-eq m.h r.degrees.h.respects w fair

  by-d : (w : B → ℕ) → FairB w → FairB (pull p pos m.big.d w)
  by-d w fair = pull-fair p pos m.big m.big big-eq m.big.d r.degrees.big.graded.respects w fair

  by-small_d : (v : S → ℕ) → FairS v → FairS (pull p pos m.small.d v)
  by-small_d v fair = pull-fair p pos m.small m.small small-eq m.small.d r.degrees.small.respects v fair

  -- ---- chains over the bases

  ys-apart : Apart m.small.same ys
  ys-apart = Apart-from m.small.same ys base.apart

  zs-apart : Apart m.small.same zs
  zs-apart = Apart-from m.small.same zs above.apart

  pub ys-in : EachOf (m.small.generator n) ys
  ys-in = recursion_from_All (m.small.generator n) ys base.inside

  zs-in : EachOf (m.small.generator (suc n)) zs
  zs-in = recursion_from_All (m.small.generator (suc n)) zs above.inside

  on-base : (u : Terms S) → Each (m.small.generator n) u → (v : S → ℕ) → FairS v → SameMod p (weigh v (chain_on ys (co u))) (weigh v u)
  on-base u is v fair =
      weigh-numbers p pos m.small.same small-eq ys ys-apart u (Each-weaker (m.small.generator n) (λ k. list_any (m.small.same k) ys ≡ true) base.every u is) v fair

  abbrev over : Terms S → Vector
  over x = numbers_at p m.small.same zs x

  on-above : (x : Terms S) → Each (m.small.generator (suc n)) x → (v : S → ℕ) → FairS v → SameMod p (weigh v (chain_on zs (over x))) (weigh v x)
  on-above x is v fair =
      weigh-numbers p pos m.small.same small-eq zs zs-apart x (Each-weaker (m.small.generator (suc n)) (λ k. list_any (m.small.same k) zs ≡ true) above.every x is) v fair

  -- ---- boundaries

  pub wide-images : (xs : List S) → Wide width (map (λ z. co (m.small.d z)) xs)
  wide-images [] = tt
  wide-images (x ∷ xs) = ((numbers-vector p m.small.same pos ys (m.small.d x)).wide, wide-images xs)

  -- the numbers of the differential of a chain over the base
  co-d : (b : Vector) → co (extend m.small.d (chain_on zs b)) ≡ combined p width b (map (λ z. co (m.small.d z)) zs)
  co-d b =
      ap co (extend-chain_on m.small.d zs b) ∙ numbers-combination p m.small.same ys b (map m.small.d zs)
      ∙ ap (combined p width b) (map-map co m.small.d zs)

  d-degree : (x : Terms S) → Each (m.small.generator (suc n)) x → Each (m.small.generator n) (extend m.small.d x)
  d-degree x is = Each-extend (m.small.generator n) (m.small.generator (suc n)) m.small.d (λ y h. r.degrees.small.lowers n y h) x is

  d-above : (x : Terms S) → Each (m.small.generator (suc n)) x → SameTerms p m.small.same (extend m.small.d (chain_on zs (over x))) (extend m.small.d x)
  d-above x is = from_weights p pos m.small.same small-eq (extend m.small.d (chain_on zs (over x))) (extend m.small.d x) (λ v fair.
      ap (λ k. k % p) (weigh-extend v m.small.d (chain_on zs (over x))) ∙ on-above x is (pull p pos m.small.d v) (by-small_d v fair)
      ∙ ap (λ k. k % p) (sym (weigh-extend v m.small.d x)))

  part-from : (x : Terms S) → Each (m.small.generator (suc n)) x → part (co (extend m.small.d x)) ≡ true
  part-from x is =
      combination-span p width (map (λ z. co (m.small.d z)) zs) (co (extend m.small.d x)) (
        over x,
        subst (λ k. IsVector p k (over x)) (sym (length-map zs (λ z. co (m.small.d z)))) (numbers-vector p m.small.same pos zs x),
        sym (co-d (over x)) ∙ numbers-same p m.small.same ys _ _ (d-above x is),
      )

  abbrev IsPart : Vector → Type 0
  IsPart t = (x : Terms S) × Each (m.small.generator (suc n)) x × (co (extend m.small.d x) ≡ t)

  part-is : (t : Vector) → part t ≡ true → IsPart t
  part-is t e =
      let c = span-combination p width (map (λ z. co (m.small.d z)) zs) t e in
      (chain_on zs c.0, Each-chain_on (m.small.generator (suc n)) zs c.0 zs-in, co-d c.0 ∙ c.2)

  on-part : (x : Terms S) → Each (m.small.generator (suc n)) x → (v : S → ℕ) → FairS v
      → SameMod p (weigh v (chain_on ys (co (extend m.small.d x)))) (weigh v (extend m.small.d x))
  on-part x is v fair = on-base (extend m.small.d x) (d-degree x is) v fair

  -- twice the small differential
  twice : (x : Terms S) → Each (m.small.generator (suc n)) x → (v : S → ℕ) → FairS v → SameMod p (weigh v (extend m.small.d (extend m.small.d x))) 0
  twice x is v fair =
      ap (λ k. k % p) (weigh-after v m.small.d m.small.d x)
      ∙ agree p pos m.small.same small-eq (m.small.generator (suc n)) (after m.small.d m.small.d) (λ y. []) (λ y h. r.equations.twice (suc n) y next h) x is v fair
      ∙ ap (λ k. k % p) (nothing x)
    where
      nothing : (x : Terms S) → weigh v (extend (λ y. []) x) ≡ 0
      nothing [] = refl
      nothing (t ∷ x) = nothing x

  pub inside : (t : Vector) → IsVector p width t → part t ≡ true → test t ≡ true
  inside t h e = from (part-is t e)
    where
      from : IsPart t → test t ≡ true
      from (x, is, q) =
          subst (λ t. test t ≡ true) q
          (test-from p pos m.small small-eq r.degrees.small.respects ys test tests (co (extend m.small.d x)) (numbers-vector p m.small.same pos ys _)
          (λ v fair. on-part x is (pull p pos m.small.d v) (by-small_d v fair) ∙ ap (λ k. k % p) (sym (weigh-extend v m.small.d (extend m.small.d x))) ∙ twice x is v fair))

  -- ---- the rows: a basis of the small cycles up to boundaries

  pub sub : IsSubspace p width test
  sub = test-subspace p pos m.small small-eq r.degrees.small.respects ys test tests

  pub inner : IsSubspace p width part
  inner = span-subspace p width pos (map (λ z. co (m.small.d z)) zs) (wide-images zs)

  stairs : Stairs p width rows
  stairs = Stairs-from p width rows (complement-echelon p width field test part sub)

  abbrev Row : Vector → Type 0
  Row v = IsVector p width v × (test v ≡ true)

  rows-row : EachOf Row rows
  rows-row = Each-from Row rows (λ v a. (
    row-vector p width rows v stairs a,
    (and_parts (test v) (is_clear p width part v) (row-within p width pos (λ v. test v && is_clear p width part v) rows stairs (complement-spans p width field test part sub) v a)).0,
  ))

  wide-rows : (vs : List Vector) → EachOf Row vs → Wide width vs
  wide-rows [] h = tt
  wide-rows (v ∷ vs) h = (h.0.0.wide, wide-rows vs h.1)

  split : (v : Vector) → IsVector p width v → test v ≡ true → IsSplitOnce p width rows part v
  split v h e = splits-once p width field test part sub inner inside v h e

  -- ---- small cycles that f gives

  f-degree : (k : ℕ) (z : Terms B) → Each (m.big.generator k) z → Each (m.small.generator k) (extend m.f z)
  f-degree k z is = Each-extend (m.small.generator k) (m.big.generator k) m.f (λ x h. r.degrees.f.keeps k x h) z is

  f-closed : (z : Terms B) → IsCycleOf p m.big n z → (v : S → ℕ) → FairS v → SameMod p (weigh v (extend m.small.d (extend m.f z))) 0
  f-closed z c v fair =
      square p pos m.small.same small-eq (m.big.generator n) m.small.d m.f m.f m.big.d (λ x h. r.equations.f_commutes n x here h) z c.chain v fair
      ∙ ap (λ k. k % p) (weigh-extend v m.f (extend m.big.d z))
      ∙ under p pos m.big.same big-eq (pull p pos m.f v) (by-f v fair) (extend m.big.d z) [] c.closed

  abbrev vec : Terms B → Vector
  vec z = co (extend m.f z)

  pub vec-vector : (z : Terms B) → IsVector p width (vec z)
  vec-vector z = numbers-vector p m.small.same pos ys (extend m.f z)

  pub vec-test : (z : Terms B) → IsCycleOf p m.big n z → test (vec z) ≡ true
  vec-test z c =
      test-from p pos m.small small-eq r.degrees.small.respects ys test tests (vec z) (vec-vector z)
      (λ v fair. on-base (extend m.f z) (f-degree n z c.chain) (pull p pos m.small.d v) (by-small_d v fair)
      ∙ ap (λ k. k % p) (sym (weigh-extend v m.small.d (extend m.f z))) ∙ f-closed z c v fair)

  -- a small cycle in its parts
  in-parts : (z : Terms B) → IsCycleOf p m.big n z → (cs t : Vector) → IsSplit p width rows part (vec z) cs t
      → (x : Terms S) → Each (m.small.generator (suc n)) x → co (extend m.small.d x) ≡ t → (v : S → ℕ) → FairS v
      → SameMod p (weigh v (extend m.f z)) (weigh v (combination cs (map (chain_on ys) rows)) + weigh v (extend m.small.d x))
  in-parts z c cs t s x is q v fair =
      sym (on-base (extend m.f z) (f-degree n z c.chain) v fair)
      ∙ ap (λ u. weigh v (chain_on ys u) % p) (sym s.sum_is)
      ∙ weigh-vector_plus p v ys (combined p width cs rows) t ((combined-vector p pos width cs rows (wide-rows rows rows-row)).wide ∙ sym s.rest_in.wide)
      ∙ same-plus p _ _ _ _ (weigh-combined p v ys width cs rows (wide-rows rows rows-row))
      (ap (λ u. weigh v (chain_on ys u) % p) (sym q) ∙ on-part x is v fair)

  -- the homotopy on a chain
  by-homotopy : (z : Terms B) → Each (m.big.generator n) z → (w : B → ℕ) → FairB w
      → SameMod p (weigh w (extend m.big.d (extend m.h z)) + (weigh w (extend m.h (extend m.big.d z)) + weigh w (extend m.g (extend m.f z)))) (weigh w z)
  by-homotopy z is w fair =
      ap (λ k. k % p) (whole (weigh-after w m.big.d m.h z) (weigh-after w m.h m.big.d z) (weigh-after w m.g m.f z)
      (weigh-both w (after m.h m.big.d) (after m.g m.f) z) (weigh-both w (after m.big.d m.h) (λ x. after m.h m.big.d x ++ after m.g m.f x) z))
      ∙ agree p pos m.big.same big-eq (m.big.generator n) (λ x. after m.big.d m.h x ++ (after m.h m.big.d x ++ after m.g m.f x)) one (λ x h. r.equations.homotopy n x here h) z is w fair
      ∙ ap (λ k. k % p) (weigh-one w z)
    where
      whole : {a b c d e f g i : ℕ} → a ≡ b → c ≡ d → e ≡ f → g ≡ d + f → i ≡ b + g → a + (c + e) ≡ i
      whole q s t u v = omega (arith, q, s, t, u, v)

  module _ (rep : Vector → Terms B) (rep-in : (v : Vector) → IsVector p width v → test v ≡ true → Each (m.big.generator n) (rep v))
      (rep-same : (v : Vector) → IsVector p width v → test v ≡ true → SameTerms p m.big.same (rep v) (extend m.g (chain_on ys v))) where
    row-in : (v : Vector) → Each (m.small.generator n) (chain_on ys v)
    row-in v = Each-chain_on (m.small.generator n) ys v ys-in

    rep-weight : (v : Vector) → Row v → (w : B → ℕ) → FairB w → SameMod p (weigh w (rep v)) (weigh (pull p pos m.g w) (chain_on ys v))
    rep-weight v h w fair =
        under p pos m.big.same big-eq w fair (rep v) (extend m.g (chain_on ys v)) (rep-same v h.0 h.1) ∙ ap (λ k. k % p) (weigh-extend w m.g (chain_on ys v))

    rep-cycle : (v : Vector) → Row v → IsCycleOf p m.big n (rep v)
    rep-cycle v h = record {
      chain = rep-in v h.0 h.1;
      closed = from_weights p pos m.big.same big-eq (extend m.big.d (rep v)) [] (λ w fair.
          ap (λ k. k % p) (weigh-extend w m.big.d (rep v)) ∙ rep-weight v h (pull p pos m.big.d w) (by-d w fair)
          ∙ ap (λ k. k % p) (sym (weigh-extend (pull p pos m.big.d w) m.g (chain_on ys v)))
          ∙ ap (λ k. k % p) (sym (weigh-extend w m.big.d (extend m.g (chain_on ys v))))
          ∙ square p pos m.big.same big-eq (m.small.generator n) m.big.d m.g m.g m.small.d (λ y h. r.equations.g_commutes n y here h) (chain_on ys v) (row-in v) w fair
          ∙ ap (λ k. k % p) (weigh-extend w m.g (extend m.small.d (chain_on ys v)))
          ∙ under p pos m.small.same small-eq (pull p pos m.g w) (by-g w fair) (extend m.small.d (chain_on ys v)) [] ((tests v h.0).0 h.1));
    }

    rep-cycles : (vs : List Vector) → EachOf Row vs → EachOf (IsCycleOf p m.big n) (map rep vs)
    rep-cycles [] h = tt
    rep-cycles (v ∷ vs) h = (rep-cycle v h.0, rep-cycles vs h.1)

    -- a combination of the representatives comes from one of the rows
    carried : (cs : List ℕ) (w : B → ℕ) → FairB w
        → SameMod p (weigh w (combination cs (map rep rows))) (weigh (pull p pos m.g w) (combination cs (map (chain_on ys) rows)))
    carried cs w fair = combination-weights p w (pull p pos m.g w) rep (chain_on ys) Row (λ v h. rep-weight v h w fair) cs rows rows-row

    -- ---- each cycle is a combination and a boundary

    abbrev Expressed : Terms B → Type 0
    Expressed z = (cs : List ℕ) × IsExpressedOf p m.big n (map rep rows) z cs

    -- what is left is d of h of the cycle and g of a chain over the base above
    left-over : (z : Terms B) → IsCycleOf p m.big n z → (cs t : Vector) → IsSplit p width rows part (vec z) cs t
        → (x : Terms S) → Each (m.small.generator (suc n)) x → co (extend m.small.d x) ≡ t
        → Each (m.big.generator (suc n)) (extend m.h z ++ extend m.g x)
        × SameTerms p m.big.same (z ++ scale (p - 1) (combination cs (map rep rows))) (extend m.big.d (extend m.h z ++ extend m.g x))
    left-over z c cs t s x is q = (
      Each-append (m.big.generator (suc n)) (extend m.h z) (extend m.g x)
          (Each-extend (m.big.generator (suc n)) (m.big.generator n) m.h (λ y h. r.degrees.h.raises n y h) z c.chain)
          (Each-extend (m.big.generator (suc n)) (m.small.generator (suc n)) m.g (λ y h. r.degrees.g.keeps (suc n) y h) x is),
      from_weights p pos m.big.same big-eq (z ++ scale (p - 1) (combination cs (map rep rows))) (extend m.big.d (extend m.h z ++ extend m.g x)) (λ w fair.
          ap (λ k. k % p) (weigh-append w z (scale (p - 1) (combination cs (map rep rows))) ∙ ap (λ k. weigh w z + k) (weigh-scale w (p - 1) (combination cs (map rep rows))))
          ∙ from-homotopy p pos (weigh w z) (weigh w (extend m.big.d (extend m.h z))) (weigh w (extend m.h (extend m.big.d z))) (weigh w (extend m.g (extend m.f z)))
          (weigh w (combination cs (map rep rows))) (weigh w (extend m.big.d (extend m.g x)))
          (by-homotopy z c.chain w fair)
          (ap (λ k. k % p) (weigh-extend w m.h (extend m.big.d z)) ∙ under p pos m.big.same big-eq (pull p pos m.h w) (by-h w fair) (extend m.big.d z) [] c.closed)
          (ap (λ k. k % p) (weigh-extend w m.g (extend m.f z)) ∙ in-parts z c cs t s x is q (pull p pos m.g w) (by-g w fair)
          ∙ same-plus p _ _ _ _ (sym (carried cs w fair))
          (ap (λ k. k % p) (sym (weigh-extend w m.g (extend m.small.d x)))
          ∙ sym (square p pos m.big.same big-eq (m.small.generator (suc n)) m.big.d m.g m.g m.small.d (λ y h. r.equations.g_commutes (suc n) y next h) x is w fair)))
          ∙ ap (λ k. k % p) (sym (weigh-extend_append w m.big.d (extend m.h z) (extend m.g x)))),
    )

    expressed : (z : Terms B) → IsCycleOf p m.big n z → Expressed z
    expressed z c = from (split (vec z) (vec-vector z) (vec-test z c))
      where
        from : IsSplitOnce p width rows part (vec z) → Expressed z
        from (cs, t, s, only) = by (part-is t s.rest_within)
          where
            by : IsPart t → Expressed z
            by (x, is, q) =
                let l = left-over z c cs t s x is q in
                (cs, record { as_long = s.coefficients_in.wide ∙ sym (length-map rows rep); reduced = s.coefficients_in.below; rest = (extend m.h z ++ extend m.g x, l.0, l.1) })

    -- ---- and that in one way

    -- the weights of f of a representative
    rep-f : (v : Vector) → Row v → (u : S → ℕ) → FairS u → SameMod p (weigh (pull p pos m.f u) (rep v)) (weigh u (chain_on ys v))
    rep-f v h u fair =
        rep-weight v h (pull p pos m.f u) (by-f u fair)
        ∙ ap (λ k. k % p) (sym (weigh-extend (pull p pos m.f u) m.g (chain_on ys v)) ∙ sym (weigh-extend u m.f (extend m.g (chain_on ys v))) ∙ weigh-after u m.f m.g (chain_on ys v))
        ∙ agree p pos m.small.same small-eq (m.small.generator n) (after m.f m.g) one (λ y g. r.equations.fg n y here g) (chain_on ys v) (row-in v) u fair
        ∙ ap (λ k. k % p) (weigh-one u (chain_on ys v))

    -- the small sides of an expression
    below : (z : Terms B) (cs : List ℕ) (e : IsExpressedOf p m.big n (map rep rows) z cs)
        → SameTerms p m.small.same (combination cs (map (chain_on ys) rows) ++ extend m.small.d (extend m.f e.rest.0)) (extend m.f z)
    below z cs e = from_weights p pos m.small.same small-eq (combination cs (map (chain_on ys) rows) ++ extend m.small.d (extend m.f e.rest.0)) (extend m.f z) (λ u fair.
        let w : B → ℕ = pull p pos m.f u in
        ap (λ k. k % p) (weigh-append u (combination cs (map (chain_on ys) rows)) (extend m.small.d (extend m.f e.rest.0)))
        ∙ same-plus p _ _ _ _
        (sym (combination-weights p w u rep (chain_on ys) Row (λ v h. rep-f v h u fair) cs rows rows-row))
        (square p pos m.small.same small-eq (m.big.generator (suc n)) m.small.d m.f m.f m.big.d (λ x h. r.equations.f_commutes (suc n) x next h) e.rest.0 e.rest.1 u fair
        ∙ ap (λ k. k % p) (weigh-extend u m.f (extend m.big.d e.rest.0)))
        ∙ to-sum p pos (weigh w z) (weigh w (combination cs (map rep rows))) (weigh w (extend m.big.d e.rest.0))
        (ap (λ k. k % p) (sym (weigh-append w z (scale (p - 1) (combination cs (map rep rows))) ∙ ap (λ k. weigh w z + k) (weigh-scale w (p - 1) (combination cs (map rep rows)))))
        ∙ under p pos m.big.same big-eq w (by-f u fair) (z ++ scale (p - 1) (combination cs (map rep rows))) (extend m.big.d e.rest.0) e.rest.2)
        ∙ ap (λ k. k % p) (sym (weigh-extend u m.f z)))

    back : (vs : List Vector) → EachOf Row vs → EachOf (λ v. co (chain_on ys v) ≡ v) vs
    back [] h = tt
    back (v ∷ vs) h = (numbers-chain_on p pos m.small.same small-eq ys v ys-apart h.0.0, back vs h.1)

    split-of : (z : Terms B) (cs : List ℕ) (e : IsExpressedOf p m.big n (map rep rows) z cs)
        → IsSplit p width rows part (vec z) cs (co (extend m.small.d (extend m.f e.rest.0)))
    split-of z cs e = record {
      coefficients_in = record { wide = e.as_long ∙ length-map rows rep; below = e.reduced };
      rest_in = numbers-vector p m.small.same pos ys (extend m.small.d (extend m.f e.rest.0));
      rest_within = part-from (extend m.f e.rest.0) (f-degree (suc n) e.rest.0 e.rest.1);
      sum_is = ap (λ u. vector_plus p u (co (extend m.small.d (extend m.f e.rest.0))))
          (ap (combined p width cs) (sym (map-map co (chain_on ys) rows ∙ map-same (λ v. co (chain_on ys v)) rows (back rows rows-row)))
          ∙ sym (numbers-combination p m.small.same ys cs (map (chain_on ys) rows)))
          ∙ sym (numbers-append p m.small.same ys (combination cs (map (chain_on ys) rows)) (extend m.small.d (extend m.f e.rest.0)))
          ∙ numbers-same p m.small.same ys _ (extend m.f z) (below z cs e);
    }

    one-way : (z : Terms B) (a b : List ℕ) → IsCycleOf p m.big n z → IsExpressedOf p m.big n (map rep rows) z a → IsExpressedOf p m.big n (map rep rows) z b → a ≡ b
    one-way z a b c e f = from (split (vec z) (vec-vector z) (vec-test z c))
      where
        from : IsSplitOnce p width rows part (vec z) → a ≡ b
        from (cs, t, s, only) = (only a _ (split-of z a e)).0 ∙ sym (only b _ (split-of z b f)).0

    pub homology-list : HomologyListOf p m.big n (map rep rows)
    homology-list = record {
      cycles = All-from_recursion (IsCycleOf p m.big n) (map rep rows) (rep-cycles rows rows-row);
      spans = expressed;
      once = one-way;
    }

    -- ---- with the numbers over the base above

    abbrev Written : Terms B → Vector → Vector → Type 0
    Written z cs b = IsWritten p m.small ys zs test (extend m.f z) cs b

    abbrev images : List Vector
    images = d_vectors p m.small ys zs

    images-vectors : (xs : List S) → EachOf (IsVector p width) (d_vectors p m.small ys xs)
    images-vectors [] = tt
    images-vectors (x ∷ xs) = (numbers-vector p m.small.same pos ys (m.small.d x), images-vectors xs)

    written-split : (z : Terms B) (cs b : Vector) → Written z cs b → IsSplit p width rows part (vec z) cs (combined p width b images)
    written-split z cs b e = record {
      coefficients_in = e.coefficients_in;
      rest_in = combined-vector p pos width b images (wide-images zs);
      rest_within = combination-span p width images (combined p width b images)
          (b, subst (λ k. IsVector p k b) (sym (length-map zs (λ z. co (m.small.d z)))) e.numbers_in, refl);
      sum_is = e.sum_is;
    }

    pub written-once : (z : Terms B) → IsCycleOf p m.big n z
        → (cs b : Vector) × Written z cs b × ((cs' b' : Vector) → Written z cs' b' → (cs' ≡ cs) × (b' ≡ b))
    written-once z c = from (split (vec z) (vec-vector z) (vec-test z c))
      where
        from : IsSplitOnce p width rows part (vec z) → (cs b : Vector) × Written z cs b × ((cs' b' : Vector) → Written z cs' b' → (cs' ≡ cs) × (b' ≡ b))
        from (cs, t, s, only) = by (thrifty-sum p width field images (images-vectors zs) t s.rest_in s.rest_within)
          where
            by : (b : Vector) × IsThriftySum p width images t b × ((d : Vector) → IsThriftySum p width images t d → d ≡ b)
                → (cs b : Vector) × Written z cs b × ((cs' b' : Vector) → Written z cs' b' → (cs' ≡ cs) × (b' ≡ b))
            by (b, e, once) = (
              cs,
              b,
              record {
                coefficients_in = s.coefficients_in;
                numbers_in = subst (λ k. IsVector p k b) (length-map zs (λ z. co (m.small.d z))) e.numbers_in;
                thrifty = e.thrifty;
                sum_is = ap (vector_plus p (combined p width cs rows)) e.sum_is ∙ s.sum_is;
              },
              λ cs' b' i.
                  let j = only cs' (combined p width b' images) (written-split z cs' b' i) in (
                    j.0,
                    once b' (record {
                      numbers_in = subst (λ k. IsVector p k b') (sym (length-map zs (λ z. co (m.small.d z)))) i.numbers_in;
                      thrifty = i.thrifty;
                      sum_is = j.1;
                    }),
                  ),
            )

    pub written-rest : (z : Terms B) → IsCycleOf p m.big n z → (cs b : Vector) → Written z cs b
        → Each (m.big.generator (suc n)) (extend m.h z ++ extend m.g (chain_on zs b))
        × SameTerms p m.big.same (z ++ scale (p - 1) (combination cs (map rep rows))) (extend m.big.d (extend m.h z ++ extend m.g (chain_on zs b)))
    written-rest z c cs b e =
        left-over z c cs (combined p width b images) (written-split z cs b e) (chain_on zs b) (Each-chain_on (m.small.generator (suc n)) zs b zs-in) (co-d b)

  -- with g of the rows themselves
  pub carried-homology : HomologyListOf p m.big n (map (λ v. extend m.g (chain_on ys v)) rows)
  carried-homology =
      homology-list (λ v. extend m.g (chain_on ys v))
      (λ v h e. Each-extend (m.big.generator n) (m.small.generator n) m.g (λ y g. r.degrees.g.keeps n y g) (chain_on ys v) (Each-chain_on (m.small.generator n) ys v ys-in))
      (λ v h e k. refl)

  -- ---- how many there are

  module _ (us : List S) (has : HasKeys p m.small us ys) where
    us-apart : Apart m.small.same us
    us-apart = Apart-from m.small.same us has.apart

    abbrev IsListed : S → Type 0
    IsListed k = list_any (m.small.same k) us ≡ true

    keys-in : EachOf (λ y. Each IsListed (m.small.d y)) ys
    keys-in = recursion_from_All (λ y. Each IsListed (m.small.d y)) ys has.keys

    d-keys : (xs : List S) (v : Vector) → EachOf (λ y. Each IsListed (m.small.d y)) xs → Each IsListed (extend m.small.d (chain_on xs v))
    d-keys [] v h = tt
    d-keys (x ∷ xs) [] h = tt
    d-keys (x ∷ xs) (a ∷ v) h = Each-append IsListed (scale a (m.small.d x)) (extend m.small.d (chain_on xs v)) (Each-scale IsListed a (m.small.d x) h.0) (d-keys xs v h.1)

    abbrev below-images : List Vector
    below-images = map (λ y. numbers_at p m.small.same us (m.small.d y)) ys

    wide-below : (xs : List S) → Wide (length us) (map (λ y. numbers_at p m.small.same us (m.small.d y)) xs)
    wide-below [] = tt
    wide-below (x ∷ xs) = ((numbers-vector p m.small.same pos us (m.small.d x)).wide, wide-below xs)

    -- the numbers of the differential of a vector
    below-d : (v : Vector) → numbers_at p m.small.same us (extend m.small.d (chain_on ys v)) ≡ combined p (length us) v below-images
    below-d v =
        ap (numbers_at p m.small.same us) (extend-chain_on m.small.d ys v) ∙ numbers-combination p m.small.same us v (map m.small.d ys)
        ∙ ap (combined p (length us) v) (map-map (numbers_at p m.small.same us) m.small.d ys)

    test-kernel : (v : Vector) → IsVector p width v → test v ≡ true → in_kernel p (length us) below-images v ≡ true
    test-kernel v h e =
        kernel-from p (length us) pos below-images (wide-below ys) v
        (sym (below-d v) ∙ numbers-same p m.small.same us (extend m.small.d (chain_on ys v)) [] ((tests v h).0 e) ∙ numbers-none p m.small.same us)

    kernel-test : (v : Vector) → IsVector p width v → in_kernel p (length us) below-images v ≡ true → test v ≡ true
    kernel-test v h e = (tests v h).1 (from_weights p pos m.small.same small-eq (extend m.small.d (chain_on ys v)) [] (λ w fair.
        sym (weigh-numbers p pos m.small.same small-eq us us-apart (extend m.small.d (chain_on ys v)) (d-keys ys v keys-in) w fair)
        ∙ ap (λ u. weigh w (chain_on us u) % p) (below-d v ∙ kernel-at p (length us) pos below-images (wide-below ys) v e)
        ∙ ap (λ k. k % p) (weigh-zeros p w us (length us))))

    -- so the two subspaces have one basis
    one-basis : reduced_basis p width test ≡ reduced_basis p width (in_kernel p (length us) below-images)
    one-basis =
        let spans = basis-spans p width field test sub in
        basis-is p width pos (reduced_basis p width test) (in_kernel p (length us) below-images) (basis-echelon p width field test sub)
        (λ v h. ((λ e. (spans v h).0 (kernel-test v h e)), (λ c. test-kernel v h ((spans v h).1 c))))

    pub rows-count : length rows + d_rank p m.small us ys + d_rank p m.small ys zs ≡ length ys
    rows-count =
        let a = complement-length p width field test part sub inner inside in
        let b = rank-length p (length us) field below-images (wide-below ys) in
        let c : length below-images ≡ width = length-map ys (λ y. numbers_at p m.small.same us (m.small.d y)) in
        let d : length (reduced_basis p (length below-images) (in_kernel p (length us) below-images)) + rank p (length us) below-images ≡ length below-images = b in
        let e : length (reduced_basis p width (in_kernel p (length us) below-images)) + rank p (length us) below-images ≡ width =
        subst (λ k. length (reduced_basis p k (in_kernel p (length us) below-images)) + rank p (length us) below-images ≡ k) c d in
        omega (arith, a, e, ap length one-basis)
