-- Each vector of a span is in exactly one way a combination that uses no vector that is a combination of earlier ones.
use Rattle.std.proofs.Common.{◌≡◌, ◌≢◌, ◌⊎◌, inl, inr, ℕ, zero, suc, ◌+◌, ◌*◌, ◌-◌, ◌%◌, ◌<◌, Bool, true, false, List, [], ◌∷◌, ◌++◌, take, length, get_or, refl, sym, ◌∙◌, ap, subst, arith, append_assoc, true≢false}
use Rattle.std.proofs.Math.Nat.{mod-lt, mod-eq_of_lt, zero-mod}
use Rattle.std.proofs.lemmas.Nat.{mul-mod_first}
use Rattle.std.proofs.Math.ListN.{length-append}
use Rattle.std.proofs.lemmas.Bool.{cases_eq}
use Rattle.std.proofs.lemmas.List.Elements.{All-nil, All-cons, All-head, All-tail, All-append}
use Rattle.std.specs.List.{AllByRecursion as EachOf}
use Rattle.fp_field.specs.Field.{SameMod, IsField}
use Rattle.fp_field.proofs.Mod.{same-plus, same-times, same-by, pred-times, same-from-difference}
use Rattle.echelons.specs.Echelon.{Vector, IsVector, at_place, zeros, vector_plus, multiple, combined, in_span, IsCombination}
use Rattle.echelons.proofs.Vectors.{Wide, vectors-wide, weight, place-zeros, length-multiple, length-combined, place-plus, place-multiple, place-combined, zeros-vector, plus-vector, multiple-vector, combined-vector, same-vector}
use Rattle.echelons.proofs.Spans.{span-combination, combination-span, span-subspace}
use Rattle.homology_laws.specs.Pivots.{IsThriftySum}

append-nothing : {A : Type 0} (xs : List A) → xs ++ [] ≡ xs
append-nothing [] = refl
append-nothing (x ∷ xs) = ap (λ ys. x ∷ ys) (append-nothing xs)

module _ (p w : ℕ) (field : IsField p) where
  pos : 0 < p
  pos = let l : 1 < p = field.one_is_not_zero in omega arith

  -- ---- combinations over a list and one vector more

  weight-more : (cs : List ℕ) (us : List Vector) (e : ℕ) (v : Vector) (j : ℕ) → length cs ≡ length us
      → weight (cs ++ e ∷ []) (us ++ v ∷ []) j ≡ weight cs us j + e * at_place v j
  weight-more [] [] e v j q = omega arith
  weight-more [] (u ∷ us) e v j q = absurd (omega arith)
  weight-more (c ∷ cs) [] e v j q = absurd (omega arith)
  weight-more (c ∷ cs) (u ∷ us) e v j q = omega (arith, weight-more cs us e v j (omega arith))

  wide-more : (us : List Vector) (v : Vector) → Wide w us → length v ≡ w → Wide w (us ++ v ∷ [])
  wide-more [] v h e = (e, tt)
  wide-more (u ∷ us) v h e = (h.0, wide-more us v h.1 e)

  combined-more : (cs : List ℕ) (us : List Vector) (e : ℕ) (v : Vector) → Wide w us → length v ≡ w → length cs ≡ length us
      → combined p w (cs ++ e ∷ []) (us ++ v ∷ []) ≡ vector_plus p (combined p w cs us) (multiple p e v)
  combined-more cs us e v h l q =
      let f = length-combined p w cs us h in
      let g = length-multiple p w e v l in
      same-vector p pos w _ _ (combined-vector p pos w (cs ++ e ∷ []) (us ++ v ∷ []) (wide-more us v h l)) (plus-vector p pos w _ _ f g)
      (λ j. place-combined p w (cs ++ e ∷ []) (us ++ v ∷ []) j (wide-more us v h l) ∙ ap (λ n. n % p) (weight-more cs us e v j q)
      ∙ same-plus p _ _ _ _ (sym (place-combined p w cs us j h)) (sym (place-multiple p e v j)) ∙ sym (place-plus p _ _ j (f ∙ sym g)))

  -- the parts of a vector of coefficients, the last one apart
  last-apart : (n : ℕ) (cs : Vector) → IsVector p (suc n) cs → (ds : Vector) × (e : ℕ) × IsVector p n ds × (e < p) × (ds ++ e ∷ [] ≡ cs)
  last-apart n [] h = absurd (let q : 0 ≡ suc n = h.wide in omega (arith, q))
  last-apart zero (c ∷ []) h = ([], c, record { wide = refl; below = All-nil (λ a. a < p) }, All-head (λ a. a < p) c [] h.below, refl)
  last-apart zero (c ∷ (d ∷ cs)) h = absurd (let q : suc (suc (length cs)) ≡ 1 = h.wide in omega (arith, q))
  last-apart (suc n) (c ∷ cs) h =
      let q : suc (length cs) ≡ suc (suc n) = h.wide in
      let r = last-apart n cs (record { wide = omega (arith, q); below = All-tail (λ a. a < p) c cs h.below }) in
      (c ∷ r.0, r.1, record { wide = ap suc r.2.wide; below = All-cons (λ a. a < p) c r.0 (All-head (λ a. a < p) c cs h.below) r.2.below }, r.3, ap (λ xs. c ∷ xs) r.4)

  more-in : (us : List Vector) (v c : Vector) (e : ℕ) → Wide w us → length v ≡ w → e < p → IsCombination p w us c → IsCombination p w (us ++ v ∷ []) (vector_plus p c (multiple p e v))
  more-in us v c e h l b k = (
    k.0 ++ e ∷ [],
    record {
      wide = length-append k.0 (e ∷ []) ∙ ap (λ n. n + 1) k.1.wide ∙ sym (length-append us (v ∷ []));
      below = All-append (λ a. a < p) k.0 (e ∷ []) k.1.below (All-cons (λ a. a < p) e [] b (All-nil (λ a. a < p)));
    },
    combined-more k.0 us e v h l k.1.wide ∙ ap (λ u. vector_plus p u (multiple p e v)) k.2,
  )

  abbrev Parted : List Vector → Vector → Vector → Type 0
  Parted us v t = (c : Vector) × (e : ℕ) × IsCombination p w us c × (e < p) × (vector_plus p c (multiple p e v) ≡ t)

  more-out : (us : List Vector) (v t : Vector) → Wide w us → length v ≡ w → IsCombination p w (us ++ v ∷ []) t → Parted us v t
  more-out us v t h l k =
      let q : length (us ++ v ∷ []) ≡ suc (length us) = (let r = length-append us (v ∷ []) in omega (arith, r)) in
      let r = last-apart (length us) k.0 (subst (λ n. IsVector p n k.0) q k.1) in
      (combined p w r.0 us, r.1, (r.0, r.2, refl), r.3, sym (combined-more r.0 us r.1 v h l r.2.wide) ∙ ap (λ cs. combined p w cs (us ++ v ∷ [])) r.4 ∙ k.2)

  vector-of : (us : List Vector) (c : Vector) → Wide w us → IsCombination p w us c → IsVector p w c
  vector-of us c h k = subst (IsVector p w) k.2 (combined-vector p pos w k.0 us h)

  -- ---- spans

  abbrev Vectors : List Vector → Type 0
  Vectors us = EachOf (IsVector p w) us

  wide : (us : List Vector) → Vectors us → Wide w us
  wide us h = vectors-wide p w us h

  more-vectors : (us : List Vector) (v : Vector) → Vectors us → IsVector p w v → Vectors (us ++ v ∷ [])
  more-vectors [] v h g = (g, tt)
  more-vectors (u ∷ us) v h g = (h.0, more-vectors us v h.1 g)

  plus-in : (us : List Vector) (c d : Vector) → Vectors us → IsCombination p w us c → IsCombination p w us d → IsCombination p w us (vector_plus p c d)
  plus-in us c d h k l =
      let sub = span-subspace p w pos us (wide us h) in
      span-combination p w us (vector_plus p c d)
      (sub.plus_in c d (vector-of us c (wide us h) k) (vector-of us d (wide us h) l) (combination-span p w us c k) (combination-span p w us d l))

  multiple-in : (us : List Vector) (a : ℕ) (c : Vector) → a < p → Vectors us → IsCombination p w us c → IsCombination p w us (multiple p a c)
  multiple-in us a c l h k =
      let sub = span-subspace p w pos us (wide us h) in
      span-combination p w us (multiple p a c) (sub.multiple_in a c l (vector-of us c (wide us h) k) (combination-span p w us c k))

  at-sum : (u v : Vector) → IsVector p w u → IsVector p w v → (j : ℕ) → SameMod p (at_place (vector_plus p u v) j) (at_place u j + at_place v j)
  at-sum u v g h j = place-plus p u v j (g.wide ∙ sym h.wide)

  sum : (u v : Vector) → IsVector p w u → IsVector p w v → IsVector p w (vector_plus p u v)
  sum u v g h = plus-vector p pos w u v g.wide h.wide

  times : (a : ℕ) (v : Vector) → IsVector p w v → IsVector p w (multiple p a v)
  times a v g = multiple-vector p pos w a v g.wide

  made : (b : Vector) (vs : List Vector) → Vectors vs → IsVector p w (combined p w b vs)
  made b vs h = combined-vector p pos w b vs (wide vs h)

  -- u is u' and a vector of the span
  abbrev Near : List Vector → Vector → Vector → Type 0
  Near us u u' = (c : Vector) × IsCombination p w us c × (vector_plus p u' c ≡ u)

  -- thrifty over vectors after others
  abbrev Thrifty : List Vector → List Vector → Vector → Type 0
  Thrifty us vs b = (i : ℕ) → i < length vs → in_span p w (us ++ take i vs) (get_or vs i []) ≡ true → at_place b i ≡ 0

  later : (us : List Vector) (v : Vector) (vs : List Vector) (a : ℕ) (b : Vector) → Thrifty us (v ∷ vs) (a ∷ b) → Thrifty (us ++ v ∷ []) vs b
  later us v vs a b h i l e = h (suc i) (omega arith) (subst (λ xs. in_span p w xs (get_or vs i []) ≡ true) (append_assoc us (v ∷ []) (take i vs)) e)

  first : (us : List Vector) (v : Vector) (vs : List Vector) (a : ℕ) (b : Vector) → Thrifty us (v ∷ vs) (a ∷ b) → in_span p w us v ≡ true → a ≡ 0
  first us v vs a b h e = h 0 (omega arith) (subst (λ xs. in_span p w xs v ≡ true) (sym (append-nothing us)) e)

  -- ---- in one way

  -- a number that is not 0 is divided out
  divided : (a a' : ℕ) (v c : Vector) → a < p → a' < p → a ≢ a' → IsVector p w v → IsVector p w c
      → ((j : ℕ) → SameMod p (a' * at_place v j + at_place c j) (a * at_place v j)) → (z : ℕ) × (z < p) × (multiple p z c ≡ v)
  divided a a' v c l l' d g h e =
      let y : ℕ = (a + (p - 1) * a') % p in
      let z = field.inverse y (some y (some-difference (cases_zero y))) (mod-lt (a + (p - 1) * a') pos) in (
        z.0,
        z.1,
        same-vector p pos w (multiple p z.0 c) v (times z.0 c h) g (λ j.
            place-multiple p z.0 c j
            ∙ same-times p z.0 _ _ (numbers (at_place v j) (at_place c j) (e j))
            ∙ ap (λ n. n % p) (let q : z.0 * (y * at_place v j) ≡ at_place v j * (y * z.0) = omega arith in q)
            ∙ same-times p (at_place v j) (y * z.0) 1 (one (y * z.0) z.2)
            ∙ ap (λ n. n % p) (let q : at_place v j * 1 ≡ at_place v j = omega arith in q)),
      )
    where
      cases_zero : (y : ℕ) → (y ≡ 0) ⊎ (y ≢ 0)
      cases_zero y = cases_eq y 0

      some : (y : ℕ) → y ≢ 0 → 0 < y
      some y q = omega (arith, q)

      some-difference : ((a + (p - 1) * a') % p ≡ 0) ⊎ ((a + (p - 1) * a') % p ≢ 0) → (a + (p - 1) * a') % p ≢ 0
      some-difference (inl q) = absurd (d (sym (mod-eq_of_lt l) ∙ same-from-difference p pos a a' (q ∙ sym (zero-mod p)) ∙ mod-eq_of_lt l'))
      some-difference (inr q) = q

      one : (n : ℕ) → n % p ≡ 1 → SameMod p n 1
      one n q = q ∙ sym (mod-eq_of_lt field.one_is_not_zero)

      numbers : (x y : ℕ) → SameMod p (a' * x + y) (a * x) → SameMod p y ((a + (p - 1) * a') % p * x)
      numbers x y q =
          same-by p y ((a' * x + y) + (p - 1) * (a' * x)) (a' * x) 0 (omega (arith, pred-times p (a' * x) pos))
          ∙ same-plus p _ _ ((p - 1) * (a' * x)) ((p - 1) * (a' * x)) q refl
          ∙ ap (λ n. n % p) (let r : a * x + (p - 1) * (a' * x) ≡ (a + (p - 1) * a') * x = omega arith in r)
          ∙ sym (mul-mod_first (a + (p - 1) * a') x p)

  unique : (us vs : List Vector) → Vectors us → Vectors vs → (b b' : Vector) → IsVector p (length vs) b → IsVector p (length vs) b'
      → Thrifty us vs b → Thrifty us vs b' → Near us (combined p w b vs) (combined p w b' vs) → b ≡ b'
  unique us [] hu hv [] [] g g' t t' near = refl
  unique us [] hu hv [] (a' ∷ b') g g' t t' near = absurd (let q : suc (length b') ≡ 0 = g'.wide in omega (arith, q))
  unique us [] hu hv (a ∷ b) b' g g' t t' near = absurd (let q : suc (length b) ≡ 0 = g.wide in omega (arith, q))
  unique us (v ∷ vs) hu hv [] b' g g' t t' near = absurd (let q : 0 ≡ suc (length vs) = g.wide in omega (arith, q))
  unique us (v ∷ vs) hu hv (a ∷ b) [] g g' t t' near = absurd (let q : 0 ≡ suc (length vs) = g'.wide in omega (arith, q))
  unique us (v ∷ vs) hu hv (a ∷ b) (a' ∷ b') g g' t t' near =
      let rest = unique (us ++ v ∷ []) vs (more-vectors us v hu hv.0) hv.1 b b' tail tail' (later us v vs a b t) (later us v vs a' b' t') nearer in
      λ i. head rest (cases_eq a a') i ∷ rest i
    where
      tail : IsVector p (length vs) b
      tail = let q : suc (length b) ≡ suc (length vs) = g.wide in record { wide = omega (arith, q); below = All-tail (λ x. x < p) a b g.below }

      tail' : IsVector p (length vs) b'
      tail' = let q : suc (length b') ≡ suc (length vs) = g'.wide in record { wide = omega (arith, q); below = All-tail (λ x. x < p) a' b' g'.below }

      c-vector : IsVector p w near.0
      c-vector = vector-of us near.0 (wide us hu) near.1

      -- what the two sides are at a place
      at : (j : ℕ) → SameMod p (a' * at_place v j + at_place (combined p w b' vs) j + at_place near.0 j) (a * at_place v j + at_place (combined p w b vs) j)
      at j =
          sym (at-sum _ near.0 (sum _ _ (times a' v hv.0) (made b' vs hv.1)) c-vector j
          ∙ same-plus p _ _ (at_place near.0 j) (at_place near.0 j) (at-sum _ _ (times a' v hv.0) (made b' vs hv.1) j ∙ same-plus p _ _ (at_place (combined p w b' vs) j) (at_place (combined p w b' vs) j) (place-multiple p a' v j) refl) refl)
          ∙ ap (λ u. at_place u j % p) near.2
          ∙ at-sum _ _ (times a v hv.0) (made b vs hv.1) j ∙ same-plus p _ _ (at_place (combined p w b vs) j) (at_place (combined p w b vs) j) (place-multiple p a v j) refl

      moved : (y s s' c : ℕ) → SameMod p (a' * y + s' + c) (a * y + s) → SameMod p (s' + (c + (a' + (p - 1) * a) * y)) s
      moved y s s' c q =
          ap (λ n. n % p) (let r : s' + (c + (a' + (p - 1) * a) * y) ≡ (a' * y + s' + c) + (p - 1) * (a * y) = omega arith in r)
          ∙ same-plus p _ _ ((p - 1) * (a * y)) ((p - 1) * (a * y)) q refl
          ∙ same-by p (a * y + s + (p - 1) * (a * y)) s 0 (a * y) (omega (arith, pred-times p (a * y) pos))

      nearer : Near (us ++ v ∷ []) (combined p w b vs) (combined p w b' vs)
      nearer =
          let l = mod-lt (a' + (p - 1) * a) pos in
          let m = times ((a' + (p - 1) * a) % p) v hv.0 in
          let d = sum near.0 _ c-vector m in (
            vector_plus p near.0 (multiple p ((a' + (p - 1) * a) % p) v),
            more-in us v near.0 ((a' + (p - 1) * a) % p) (wide us hu) hv.0.wide l near.1,
            same-vector p pos w _ (combined p w b vs) (sum _ _ (made b' vs hv.1) d) (made b vs hv.1) (λ j.
                at-sum _ _ (made b' vs hv.1) d j
                ∙ same-plus p (at_place (combined p w b' vs) j) (at_place (combined p w b' vs) j) _ _ refl
                (at-sum near.0 _ c-vector m j ∙ same-plus p (at_place near.0 j) (at_place near.0 j) _ _ refl
                (place-multiple p ((a' + (p - 1) * a) % p) v j ∙ mul-mod_first (a' + (p - 1) * a) (at_place v j) p))
                ∙ moved (at_place v j) (at_place (combined p w b vs) j) (at_place (combined p w b' vs) j) (at_place near.0 j) (at j)),
          )

      cancel : (y s c : ℕ) → SameMod p (a' * y + s + c) (a * y + s) → SameMod p (a' * y + c) (a * y)
      cancel y s c q =
          same-by p (a' * y + c) ((a' * y + s + c) + (p - 1) * s) s 0 (omega (arith, pred-times p s pos))
          ∙ same-plus p _ _ ((p - 1) * s) ((p - 1) * s) q refl ∙ same-by p (a * y + s + (p - 1) * s) (a * y) 0 s (omega (arith, pred-times p s pos))

      head : b ≡ b' → (a ≡ a') ⊎ (a ≢ a') → a ≡ a'
      head e (inl q) = q
      head e (inr d) =
          let z = divided a a' v near.0 (All-head (λ y. y < p) a b g.below) (All-head (λ y. y < p) a' b' g'.below) d hv.0 c-vector
          (λ j. cancel (at_place v j) (at_place (combined p w b vs) j) (at_place near.0 j)
          (ap (λ u. (a' * at_place v j + at_place (combined p w u vs) j + at_place near.0 j) % p) e ∙ at j)) in
          let there = combination-span p w us v (subst (IsCombination p w us) z.2 (multiple-in us z.0 near.0 z.1 hu near.1)) in
          first us v vs a b t there ∙ sym (first us v vs a' b' t' there)

  -- ---- for each vector of the span

  abbrev Found : List Vector → List Vector → Vector → Type 0
  Found us vs t = (b : Vector) × IsVector p (length vs) b × Thrifty us vs b × Near us t (combined p w b vs)

  exists : (us vs : List Vector) (t : Vector) → Vectors us → Vectors vs → IsVector p w t → IsCombination p w (us ++ vs) t → Found us vs t
  exists us [] t hu hv g k = (
    [],
    record { wide = refl; below = All-nil (λ a. a < p) },
    λ i l e. absurd (omega arith),
    (t, subst (λ xs. IsCombination p w xs t) (append-nothing us) k, alone),
  )
    where
      alone : vector_plus p (zeros w) t ≡ t
      alone = same-vector p pos w _ t (sum (zeros w) t (zeros-vector p pos w) g) g
          (λ j. at-sum (zeros w) t (zeros-vector p pos w) g j ∙ ap (λ n. (n + at_place t j) % p) (place-zeros w j) ∙ ap (λ n. n % p) (let q : 0 + at_place t j ≡ at_place t j = omega arith in q))
  exists us (v ∷ vs) t hu hv g k =
      from (exists (us ++ v ∷ []) vs t (more-vectors us v hu hv.0) hv.1 g (subst (λ xs. IsCombination p w xs t) (sym (append_assoc us (v ∷ []) vs)) k))
    where
      from : Found (us ++ v ∷ []) vs t → Found us (v ∷ vs) t
      from (b, bv, th, (c, kc, e)) = parted (more-out us v c (wide us hu) hv.0.wide kc)
        where
          -- with this number at the first vector, and this vector of the span
          with-first : (a : ℕ) (d : Vector) → a < p → (in_span p w us v ≡ true → a ≡ 0) → IsCombination p w us d
              → ((j : ℕ) → SameMod p (a * at_place v j + at_place (combined p w b vs) j + at_place d j) (at_place t j)) → Found us (v ∷ vs) t
          with-first a d l f kd s =
              let dv = vector-of us d (wide us hu) kd in
              let av = times a v hv.0 in
              let bs = made b vs hv.1 in (
                a ∷ b,
                record { wide = ap suc bv.wide; below = All-cons (λ x. x < p) a b l bv.below },
                thrifty,
                (
                  d,
                  kd,
                  same-vector p pos w _ t (sum _ d (sum _ _ av bs) dv) g (λ j.
                      at-sum _ d (sum _ _ av bs) dv j
                      ∙ same-plus p _ _ (at_place d j) (at_place d j) (at-sum _ _ av bs j ∙ same-plus p _ _ (at_place (combined p w b vs) j) (at_place (combined p w b vs) j) (place-multiple p a v j) refl) refl
                      ∙ s j),
                ),
              )
            where
              thrifty : Thrifty us (v ∷ vs) (a ∷ b)
              thrifty zero l' q = f (subst (λ xs. in_span p w xs v ≡ true) (append-nothing us) q)
              thrifty (suc i) l' q = th i (omega arith) (subst (λ xs. in_span p w xs (get_or vs i []) ≡ true) (sym (append_assoc us (v ∷ []) (take i vs))) q)

          -- t at a place
          at : (j : ℕ) → SameMod p (at_place (combined p w b vs) j + at_place c j) (at_place t j)
          at j =
              sym (at-sum (combined p w b vs) c (made b vs hv.1) (vector-of (us ++ v ∷ []) c (wide (us ++ v ∷ []) (more-vectors us v hu hv.0)) kc) j) ∙ ap (λ u. at_place u j % p) e

          parted : Parted us v c → Found us (v ∷ vs) t
          parted (c', x, k', l, q) = by (in_span p w us v) refl
            where
              c'-vector : IsVector p w c'
              c'-vector = vector-of us c' (wide us hu) k'

              by : (s : Bool) → in_span p w us v ≡ s → Found us (v ∷ vs) t
              by true s =
                  with-first 0 c pos (λ i. refl)
                  (subst (IsCombination p w us) q (plus-in us c' (multiple p x v) hu k' (multiple-in us x v l hu (span-combination p w us v s))))
                  (λ j. ap (λ n. n % p) (let r : 0 * at_place v j + at_place (combined p w b vs) j + at_place c j ≡ at_place (combined p w b vs) j + at_place c j = omega arith in r) ∙ at j)
              by false s =
                  with-first x c' l (λ i. absurd (true≢false (sym i ∙ s))) k'
                  (λ j.
                  ap (λ n. n % p) (let r : x * at_place v j + at_place (combined p w b vs) j + at_place c' j ≡ at_place (combined p w b vs) j + (at_place c' j + x * at_place v j) = omega arith in r)
                  ∙ same-plus p (at_place (combined p w b vs) j) (at_place (combined p w b vs) j) _ _ refl
                  (sym (ap (λ u. at_place u j % p) (sym q) ∙ at-sum c' (multiple p x v) c'-vector (times x v hv.0) j
                  ∙ same-plus p (at_place c' j) (at_place c' j) _ _ refl (place-multiple p x v j)))
                  ∙ at j)

  -- each vector of the span of vs is so in exactly one way
  module _ (vs : List Vector) (hv : Vectors vs) where
    empty-near : (u u' : Vector) → IsVector p w u' → Near [] u u' → u' ≡ u
    empty-near u u' h (c, ([], kv, q), e) = alone ∙ e
      where
        alone : u' ≡ vector_plus p u' c
        alone = same-vector p pos w u' _ h (sum u' c h (subst (IsVector p w) q (zeros-vector p pos w)))
            (λ j. sym (at-sum u' c h (subst (IsVector p w) q (zeros-vector p pos w)) j ∙ ap (λ u. (at_place u' j + at_place u j) % p) (sym q) ∙ ap (λ n. (at_place u' j + n) % p) (place-zeros w j)
            ∙ ap (λ n. n % p) (let r : at_place u' j + 0 ≡ at_place u' j = omega arith in r)))
    empty-near u u' h (c, (d ∷ ds, kv, q), e) = absurd (let r : suc (length ds) ≡ 0 = kv.wide in omega (arith, r))

    near-empty : (u : Vector) → IsVector p w u → Near [] u u
    near-empty u h = (
      zeros w,
      ([], record { wide = refl; below = All-nil (λ a. a < p) }, refl),
      same-vector p pos w _ u (sum u (zeros w) h (zeros-vector p pos w)) h (λ j.
          at-sum u (zeros w) h (zeros-vector p pos w) j ∙ ap (λ n. (at_place u j + n) % p) (place-zeros w j) ∙ ap (λ n. n % p) (let r : at_place u j + 0 ≡ at_place u j = omega arith in r)),
    )

    pub thrifty-sum : (t : Vector) → IsVector p w t → in_span p w vs t ≡ true → (b : Vector) × IsThriftySum p w vs t b × ((d : Vector) → IsThriftySum p w vs t d → d ≡ b)
    thrifty-sum t g e = from (exists [] vs t tt hv g (span-combination p w vs t e))
      where
        from : Found [] vs t → (b : Vector) × IsThriftySum p w vs t b × ((d : Vector) → IsThriftySum p w vs t d → d ≡ b)
        from (b, bv, th, near) =
            let q : combined p w b vs ≡ t = empty-near t (combined p w b vs) (made b vs hv) near in (
              b,
              record { numbers_in = bv; thrifty = th; sum_is = q },
              λ d s. unique [] vs tt hv d b s.numbers_in bv s.thrifty th
                  (subst (λ u. Near [] u (combined p w b vs)) (q ∙ sym s.sum_is) (near-empty (combined p w b vs) (made b vs hv))),
            )
