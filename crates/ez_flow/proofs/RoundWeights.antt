-- What a source moves and leaves over, by weights.
use Rattle.std.proofs.Common.{◌≡◌, ℕ, suc, ◌+◌, ◌*◌, ◌-◌, ◌%◌, ◌^◌, ◌<◌, ◌≤◌, List, [], ◌∷◌, ◌++◌, Bool, true, false, cond, refl, sym, ◌∙◌, ap, arith, ◌==◌}
use Rattle.std.proofs.lemmas.Nat.Bits.{bit_at_above}
use Rattle.fp_field.specs.Field.{SameMod, sign}
use Rattle.fp_field.specs.Chains.{Terms, weigh, scale, extend}
use Rattle.fp_field.specs.Reduction.{one}
use Rattle.fp_field.proofs.Mod.{same-plus, same-times}
use Rattle.fp_field.proofs.Weights.{weigh-append, weigh-scale, weigh-extend}
use Rattle.fp_field.proofs.Normals.{weigh-normal}
use Rattle.fp_field.proofs.FlowLaws.{weigh-keep}
use Rattle.simp_ops.specs.Bits.{bit}
use Rattle.simp_ops.specs.PathWords.{Step, left as H, right as V, both as D, Event, source, target, critical, later, event}
use Rattle.path_words.specs.MaskPaths.{mask_path}
use Rattle.spaces.specs.Orders.{Ordered}
use Rattle.spaces.specs.EilenbergZilber.{Linear, Pair, pair_order, is_pair_cell, first_faces, pair_d, event_of, target_of, moved, left_over, is_source}
use Rattle.ez_laws.specs.Sides.{IsLeft, IsRight}
use Rattle.ez_laws.proofs.WordFaces.{len}
use Rattle.ez_laws.proofs.PairKeys.{len-path}
use Rattle.ez_laws.proofs.PairOrders.{pairs-apart}
use Rattle.ez_flow.specs.Sources.{source_weight}

-- ---- the place of a source

later_source : (e : Event) (j : ℕ) → later e ≡ source j → (i : ℕ) × (e ≡ source i) × (j ≡ suc i)
later_source (source i) j q = (i, refl, sym (place_inj q))
  where
    place_or : Event → ℕ
    place_or (source i) = i
    place_or (target i) = 0
    place_or critical = 0

    place_inj : source (suc i) ≡ source j → suc i ≡ j
    place_inj q = ap place_or q
later_source (target i) j q = absurd (cc)
later_source critical j q = absurd (cc)

pub source-below : (w : List Step) (j : ℕ) → event w ≡ source j → j < len w
unfolding len
source-below [] j e = absurd (cc)
source-below (D ∷ w) j e = let q : 0 ≡ j = place e in omega (arith, q)
  where
    place_or : Event → ℕ
    place_or (source i) = i
    place_or (target i) = 0
    place_or critical = 0

    place : source 0 ≡ source j → 0 ≡ j
    place e = ap place_or e
source-below (H ∷ w) j e = let r = later_source (event w) j e in omega (arith, source-below w r.0 r.1, r.2)
source-below (V ∷ []) j e = absurd (cc)
source-below (V ∷ (H ∷ w)) j e = absurd (cc)
source-below (V ∷ (V ∷ w)) j e = let r = later_source (event (V ∷ w)) j e in omega (arith, source-below (V ∷ w) r.0 r.1, r.2)
source-below (V ∷ (D ∷ w)) j e = let r = later_source (event (D ∷ w)) j e in omega (arith, source-below (D ∷ w) r.0 r.1, r.2)

pub place-below : (n a b j : ℕ) → event (mask_path n a b) ≡ source j → j < n
unfolding mask_path
place-below n a b j e = let l = source-below (mask_path n a b) j e in omega (arith, l, len-path n 0 (bit a) (bit b))

module _ {K J : Type 0} (p : ℕ) (pos : 0 < p) (L : Linear K) (In : ℕ → K → Type 0) (R : Ordered J) (left : IsLeft p L In) (right : IsRight R) where
  pub source-true : (s : Pair K J) (j : ℕ) → event_of p L R s ≡ source j → is_source p L R s ≡ true
  source-true s j e = ap (λ e. elim e as (λ x. Bool) [ source j ↦ true | target j ↦ false | critical ↦ false ]) e

  pub moved-is : (s : Pair K J) (j : ℕ) → event_of p L R s ≡ source j → moved p L R s ≡ (target_of p L R s j, sign p (suc j)) ∷ []
  moved-is s j e = ap (λ e. elim e as (λ x. Terms (Pair K J)) [ source j ↦ (target_of p L R s j, sign p (suc j)) ∷ [] | target j ↦ [] | critical ↦ [] ]) e

  pub moved-weight : (w : Pair K J → ℕ) (s : Pair K J) (j : ℕ) → event_of p L R s ≡ source j → weigh w (moved p L R s) ≡ sign p (suc j) * w (target_of p L R s j)
  moved-weight w s j e = ap (weigh w) (moved-is s j e) ∙ (let q : sign p (suc j) * w (target_of p L R s j) + 0 ≡ sign p (suc j) * w (target_of p L R s j) = omega arith in q)

  -- a weight of the sources alone, on the cells
  abbrev pub of_sources : (Pair K J → ℕ) → Pair K J → ℕ
  of_sources w u = cond (is_source p L R u) (w u) 0

  pub left-over-weight : (w : Pair K J → ℕ) (n j : ℕ) (x : K) (y : J) → event_of p L R (n, x, y) ≡ source j
      → SameMod p (weigh (of_sources w) (left_over p L R (n, x, y)))
      (w (n, x, y) + (p - 1) * (sign p (suc j) * weigh (source_weight p L R w) (first_faces p L R (suc (suc n)) (target_of p L R (n, x, y) j))))
  left-over-weight w n j x y e =
      let s : Pair K J = (n, x, y) in
      let t : Pair K J = target_of p L R s j in
      let v : Pair K J → ℕ = of_sources w in
      let c : Terms (Pair K J) = extend (pair_d p L R) (moved p L R s) in
      let d : ℕ = weigh (source_weight p L R w) (first_faces p L R (suc (suc n)) t) in
      let here : v s ≡ w s = ap (λ b. cond b (w s) 0) (source-true s j e) in
      let faces : weigh v (pair_d p L R t) ≡ d = weigh-keep v (is_pair_cell p L R) (first_faces p L R (suc (suc n)) t) in
      let moving : weigh v c ≡ sign p (suc j) * d = weigh-extend v (pair_d p L R) (moved p L R s) ∙ (moved-weight (λ u. weigh v (pair_d p L R u)) s j e ∙ ap (λ m. sign p (suc j) * m) faces) in
      let back : weigh v (scale (p - 1) c) ≡ (p - 1) * (sign p (suc j) * d) = weigh-scale v (p - 1) c ∙ ap (λ m. (p - 1) * m) moving in
      weigh-normal (pair_order p L R) p (pairs-apart p L In R left right).apart v (one s ++ scale (p - 1) c)
      ∙ ap (λ m. m % p) (weigh-append v (one s) (scale (p - 1) c) ∙ (let q : 1 * v s + 0 + weigh v (scale (p - 1) c) ≡ w s + (p - 1) * (sign p (suc j) * d) = omega (arith, here, back) in q))

-- the coefficients of the code
pub unit-moved : (p k u m g old new : ℕ) → SameMod p u (g * k) → new ≡ old + u * m → SameMod p new (old + k * (g * m))
unit-moved p k u m g old new e f =
    ap (λ t. t % p) f
    ∙ same-plus p old old (u * m) (k * (g * m)) refl
    (ap (λ t. t % p) (let q : u * m ≡ m * u = omega arith in q) ∙ same-times p m u (g * k) e ∙ ap (λ t. t % p) (let q : m * (g * k) ≡ k * (g * m) = omega arith in q))

pub rest-moved : (p k u v g a d old mid new : ℕ) → SameMod p v ((p - 1) * u) → SameMod p u (g * k) → mid ≡ old + k * a → SameMod p new (mid + v * d) → (l : ℕ) → SameMod p l (a + (p - 1) * (g * d))
    → SameMod p new (old + k * l)
rest-moved p k u v g a d old mid new e f h q l r =
    q
    ∙ ap (λ t. (t + v * d) % p) h
    ∙ same-plus p (old + k * a) (old + k * a) (v * d) (k * ((p - 1) * (g * d))) refl
    (ap (λ t. t % p) (let s : v * d ≡ d * v = omega arith in s)
    ∙ same-times p d v ((p - 1) * (g * k)) (e ∙ same-times p (p - 1) u (g * k) f)
    ∙ ap (λ t. t % p) (shuffle (p - 1) d g k))
    ∙ ap (λ t. t % p) (let s : old + k * a + k * ((p - 1) * (g * d)) ≡ old + k * (a + (p - 1) * (g * d)) = join k old a ((p - 1) * (g * d)) in s)
    ∙ same-plus p old old (k * (a + (p - 1) * (g * d))) (k * l) refl (same-times p k (a + (p - 1) * (g * d)) l (sym r))
  where
    shuffle : (c d g k : ℕ) → d * (c * (g * k)) ≡ k * (c * (g * d))
    shuffle c d g k = omega arith

    join : (k old a b : ℕ) → old + k * a + k * b ≡ old + k * (a + b)
    join k old a b = omega arith

-- a mask below 2 ^ 31 has no bit 31
pub no-last : (m n : ℕ) → n ≤ 31 → m < 2 ^ n → bit m 31 ≡ false
no-last m n l h = ap (λ t. t == 1) (bit_at_above m n 31 h (omega (arith, l)))
