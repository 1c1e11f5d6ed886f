-- The numbers of a row over others, read from the relations between the row and the others in reverse order.
use Rattle.std.specs.Prelude.{slice_get}
use Rattle.std.proofs.Common.{◌≡◌, ◌⊎◌, inl, inr, All, Some, None, ℕ, zero, suc, ◌+◌, ◌*◌, ◌-◌, ◌%◌, ◌<◌, ◌≤◌, Bool, true, false, not, ◌&&◌, ◌||◌, eqb, cond, List, [], ◌∷◌, ◌++◌, map, take, drop, length, reverse, get_or, min, ext_get_or, refl, sym, ◌∙◌, ap, subst, arith}
use Rattle.std.proofs.Math.Nat.{mod-lt, zero-mod, mod_self}
use Rattle.std.proofs.Math.Seq.{drop-cons}
use Rattle.std.proofs.Math.ListN.{length-append, length-map, get_or-eq_default}
use Rattle.std.proofs.lemmas.Bool.{cases_lt, and_parts, and_from, false≢true, eqb-true, eq-eqb}
use Rattle.std.proofs.lemmas.List.{length-reverse, get_or-reverse, get_or-map, length-take, take-append-drop, get_or-append-add}
use Rattle.std.proofs.lemmas.Grind.{reverse_onto}
use Rattle.std.proofs.lemmas.List.Elements.{All-cons, All-append, All-from_recursion, recursion_from_All, All-tail}
use Rattle.std.specs.List.{AllByRecursion as Each}
use Rattle.std.specs.Cmp.Lexicographic.{pointwise, bytes_decides}
use Rattle.fp_field.specs.declared.prime.Prime.{Prime}
use Rattle.fp_field.specs.Field.{number, SameMod, minus}
use Rattle.fp_field.proofs.Primes.{number_pos}
use Rattle.fp_field.proofs.FieldLaws.{is_field}
use Rattle.fp_field.proofs.Mod.{same-plus, same-times, same-by, pred-times}
use Rattle.echelons.specs.Echelon.{Vector, IsVector, at_place, zeros, lead, vectors, downwards, combined, in_span, in_kernel, reduced_basis, is_lead, is_reduced, IsSubspace, IsCombination, IsReducedEchelon}
use Rattle.echelons.proofs.Vectors.{weight, Wide, vectors-wide, length-zeros, place-zeros, at-combined, place-combined, combined-vector, zeros-vector, vector-from, below-at, same-vector, weight-zeros, weight-clear, Each-weaker}
use Rattle.echelons.proofs.Lists.{Among, all-among, all-from, downwards-among, among-downwards, vectors-among, among-vectors}
use Rattle.echelons.proofs.Leads.{before-lead, lead-is}
use Rattle.echelons.proofs.Rows.{Apart, Stairs, Stairs-from, Stairs-wide}
use Rattle.echelons.proofs.Spans.{span-combination, combination-span, kernel-at, kernel-from, kernel-subspace}
use Rattle.echelons.proofs.Basis.{basis-echelon, basis-spans}
use Rattle.echelons.proofs.Unique.{is_lead-of, is_reduced-one, is_reduced-at, basis-among}
use Rattle.spaces.specs.Spaces.{Space}
use Rattle.elim_fp.specs.Rows.{DenseRow, vectors_of, IsRow}
use Rattle.homology_laws.specs.Pivots.{IsThrifty, IsThriftySum}
use Rattle.homology_laws.proofs.Pivots.{thrifty-sum}
use Rattle.session_core.specs.Questions.{first_vector, is_thrifty, thrifty_numbers}
use Rattle.session_core.proofs.Behind.{weight-both, weight-reverse, weight-turned, weight-minus}

not_or : (a b : Bool) → not a || b ≡ true → a ≡ true → b ≡ true
not_or true b e f = e
not_or false b e f = absurd (false≢true f)

or_not : (a b : Bool) → (a ≡ true → b ≡ true) → not a || b ≡ true
or_not true b f = f refl
or_not false b f = refl

-- ---- the first vector that passes

first-only : (test : Vector → Bool) (other b : Vector) (xs : List Vector) → test b ≡ true → ((x : Vector) → Among x xs → test x ≡ true → x ≡ b) → Among b xs → first_vector test other xs ≡ b
first-only test other b [] e one m = absurd m
first-only test other b (x ∷ xs) e one m = by (test x) refl m (first-only test other b xs e (λ y k. one y (inr k)))
  where
    by : (s : Bool) → test x ≡ s → Among b (x ∷ xs) → (Among b xs → first_vector test other xs ≡ b) → cond s x (first_vector test other xs) ≡ b
    by true f m later = one x (inl refl) f
    by false f (inl q) later = absurd (false≢true (sym f ∙ ap test q ∙ e))
    by false f (inr m) later = later m

first-none : (test : Vector → Bool) (other : Vector) (xs : List Vector) → ((x : Vector) → Among x xs → test x ≡ true → ⊥) → first_vector test other xs ≡ other
first-none test other [] none = refl
first-none test other (x ∷ xs) none = by (test x) refl (first-none test other xs (λ y k. none y (inr k)))
  where
    by : (s : Bool) → test x ≡ s → first_vector test other xs ≡ other → cond s x (first_vector test other xs) ≡ other
    by true f later = absurd (none x (inl refl) f)
    by false f later = later

-- a number and its other sign
undone : (p x t : ℕ) → 0 < p → SameMod p (t + x) 0 → SameMod p ((p - 1) * x) t
undone p x t pos e =
    same-by p ((p - 1) * x) ((p - 1) * x + 0) 0 0 (omega arith)
    ∙ same-plus p ((p - 1) * x) ((p - 1) * x) 0 (t + x) refl (sym e)
    ∙ same-by p ((p - 1) * x + (t + x)) t 0 x (omega (arith, pred-times p x pos))

module _ (q : Prime) (a : Space) (w : ℕ) (vs : List Vector) (hv : Each (IsVector (number q) w) vs) (t : Vector) (ht : IsVector (number q) w t) where
  abbrev p : ℕ
  p = number q

  pos : 0 < p
  pos = number_pos q

  abbrev m : ℕ
  m = length vs

  abbrev behind : List Vector
  behind = t ∷ reverse vs

  abbrev within : Vector → Bool
  within v = in_kernel p w behind v

  wide : Wide w vs
  wide = vectors-wide p w vs hv

  wide-both : (us xs : List Vector) → Wide w us → Wide w xs → Wide w (us ++ xs)
  wide-both [] xs g h = h
  wide-both (u ∷ us) xs g h = (g.0, wide-both us xs g.1 h)

  wide-reverse : (us : List Vector) → Wide w us → Wide w (reverse us)
  wide-reverse [] g = tt
  wide-reverse (u ∷ us) g = subst (Wide w) (sym (reverse_onto us u [])) (wide-both (reverse us) (u ∷ []) (wide-reverse us g.1) (g.0, tt))

  wide-behind : Wide w behind
  wide-behind = (ht.wide, wide-reverse vs wide)

  count-behind : length behind ≡ suc m
  count-behind = ap suc (length-reverse vs)

  -- in the kernel: the row and the others cancel at each place
  to-kernel : (a : ℕ) (c : Vector) → ((j : ℕ) → SameMod p (a * at_place t j + weight c (reverse vs) j) 0) → within (a ∷ c) ≡ true
  to-kernel a c h =
      kernel-from p w pos behind wide-behind (a ∷ c)
      (same-vector p pos w _ (zeros w) (combined-vector p pos w (a ∷ c) behind wide-behind) (zeros-vector p pos w)
      (λ j. place-combined p w (a ∷ c) behind j wide-behind ∙ h j ∙ ap (λ n. n % p) (sym (place-zeros w j))))

  from-kernel : (a : ℕ) (c : Vector) → within (a ∷ c) ≡ true → (j : ℕ) → SameMod p (a * at_place t j + weight c (reverse vs) j) 0
  from-kernel a c e j =
      sym (place-combined p w (a ∷ c) behind j wide-behind) ∙ ap (λ u. at_place u j % p) (kernel-at p w pos behind wide-behind (a ∷ c) e) ∙ ap (λ n. n % p) (place-zeros w j)

  pub subspace : IsSubspace p (suc m) within
  subspace = subst (λ n. IsSubspace p n within) count-behind (kernel-subspace p w pos behind wide-behind)

  front-vector : (n a : ℕ) (c : Vector) → a < p → IsVector p n c → IsVector p (suc n) (a ∷ c)
  front-vector n a c l g = record { wide = ap suc g.wide; below = All-cons (λ x. x < p) a c l g.below }

  reverse-vector : (n : ℕ) (c : Vector) → IsVector p n c → IsVector p n (reverse c)
  reverse-vector n c g =
      vector-from p pos n (reverse c) (length-reverse c ∙ g.wide) (λ j. by j (cases_lt j (length c)))
    where
      by : (j : ℕ) → (j < length c) ⊎ (length c ≤ j) → at_place (reverse c) j < p
      by j (inl l) = subst (λ x. x < p) (sym (get_or-reverse c j 0 l)) (below-at p pos n c g (length c - 1 - j))
      by j (inr l) = subst (λ x. x < p) (sym (get_or-eq_default (reverse c) 0 (subst (λ x. x ≤ j) (sym (length-reverse c)) l))) pos

  minus-vector : (n : ℕ) (c : Vector) → length c ≡ n → IsVector p n (map (minus p) c)
  minus-vector n c e = record { wide = length-map c (minus p) ∙ e; below = All-from_recursion (λ x. x < p) (map (minus p) c) (by c) }
    where
      by : (c : Vector) → Each (λ x. x < p) (map (minus p) c)
      by [] = tt
      by (a ∷ c) = (mod-lt (p - a) pos, by c)

  -- ---- a combination of earlier ones leads a relation

  module _ (i : ℕ) (l : i < m) (e : in_span p w (take i vs) (get_or vs i []) ≡ true) where
    abbrev v : Vector
    v = get_or vs i []

    cs : Vector
    cs = (span-combination p w (take i vs) v e).0

    a-vector : IsVector p (length (take i vs)) cs
    unfolding cs
    a-vector = (span-combination p w (take i vs) v e).1

    a-count : length cs ≡ i
    a-count = a-vector.wide ∙ length-take i vs ∙ (let y : min i m ≡ i = omega arith in y)

    x : Vector
    x = cs ++ (p - 1) ∷ zeros (m - suc i)

    x-count : length x ≡ m
    unfolding x
    x-count = length-append cs ((p - 1) ∷ zeros (m - suc i)) ∙ (let y : length (zeros (m - suc i)) ≡ m - suc i = length-zeros (m - suc i) in let z : length cs ≡ i = a-count in omega arith)

    x-vector : IsVector p m x
    unfolding x
    x-vector = record {
      wide = x-count;
      below = All-append (λ y. y < p) cs ((p - 1) ∷ zeros (m - suc i)) a-vector.below
          (All-cons (λ y. y < p) (p - 1) (zeros (m - suc i)) (let y : 0 < p = pos in omega arith) (zeros-vector p pos (m - suc i)).below);
    }

    parts : vs ≡ take i vs ++ v ∷ drop (suc i) vs
    parts = sym (take-append-drop i vs) ∙ ap (λ y. take i vs ++ y) (drop-cons vs i [] l)

    nothing : (j : ℕ) → SameMod p (weight x vs j) 0
    unfolding cs x
    nothing j =
        ap (λ y. weight x y j % p) parts
        ∙ ap (λ n. n % p) (weight-both cs ((p - 1) ∷ zeros (m - suc i)) (take i vs) (v ∷ drop (suc i) vs) j a-vector.wide
        ∙ (let y : weight (zeros (m - suc i)) (drop (suc i) vs) j ≡ 0 = weight-zeros p (m - suc i) (drop (suc i) vs) j in
        let z : weight cs (take i vs) j + ((p - 1) * at_place v j + weight (zeros (m - suc i)) (drop (suc i) vs) j) ≡ weight cs (take i vs) j + (p - 1) * at_place v j = omega (arith, y) in z))
        ∙ same-plus p (weight cs (take i vs) j) (at_place v j) ((p - 1) * at_place v j) ((p - 1) * at_place v j)
        (sym (place-combined p w cs (take i vs) j wide-taken) ∙ ap (λ u. at_place u j % p) (span-combination p w (take i vs) v e).2) refl
        ∙ same-by p (at_place v j + (p - 1) * at_place v j) 0 0 (at_place v j) (omega (arith, pred-times p (at_place v j) pos))
      where
        wide-part : (n : ℕ) (us : List Vector) → Wide w us → Wide w (take n us)
        wide-part zero us h = tt
        wide-part (suc n) [] h = tt
        wide-part (suc n) (u ∷ us) h = (h.0, wide-part n us h.1)

        wide-taken : Wide w (take i vs)
        wide-taken = wide-part i vs wide

    relation : within (0 ∷ reverse x) ≡ true
    relation =
        to-kernel 0 (reverse x) (λ j. ap (λ n. n % p) (let y : 0 * at_place t j + weight (reverse x) (reverse vs) j ≡ weight (reverse x) (reverse vs) j = omega arith in y)
        ∙ ap (λ n. n % p) (weight-reverse x vs j x-count) ∙ nothing j)

    at-x : (k : ℕ) → k < m → at_place (reverse x) k ≡ at_place x (m - 1 - k)
    at-x k h = get_or-reverse x k 0 (subst (λ y. k < y) (sym x-count) h) ∙ ap (λ y. at_place x (y - 1 - k)) x-count

    x-there : at_place x i ≡ p - 1
    unfolding x
    x-there = ap (at_place x) (let y : i ≡ length cs + 0 = (let z : length cs ≡ i = a-count in omega arith) in y) ∙ get_or-append-add cs ((p - 1) ∷ zeros (m - suc i)) 0 0

    x-after : (k : ℕ) → at_place x (i + suc k) ≡ 0
    unfolding x
    x-after k =
        ap (λ y. at_place x (y + suc k)) (sym a-count) ∙ get_or-append-add cs ((p - 1) ∷ zeros (m - suc i)) (suc k) 0 ∙ place-zeros (m - suc i) k

    leads : lead (0 ∷ reverse x) ≡ m - i
    leads = lead-is (0 ∷ reverse x) (m - i) before there
      where
        before : (k : ℕ) → k < m - i → at_place (0 ∷ reverse x) k ≡ 0
        before zero h = refl
        before (suc k) h =
            at-x k (let y : k < m = omega arith in y)
            ∙ ap (at_place x) (let y : m - 1 - k ≡ i + suc (m - i - suc (suc k)) = omega arith in y) ∙ x-after (m - i - suc (suc k))

        more : (n : ℕ) → n ≡ suc (m - 1 - i) → 0 < at_place (0 ∷ reverse x) n
        more n h =
            subst (λ y. 0 < at_place (0 ∷ reverse x) y) (sym h)
            (subst (λ y. 0 < y) (sym (at-x (m - 1 - i) (let y : m - 1 - i < m = omega arith in y) ∙ ap (at_place x) (let y : m - 1 - (m - 1 - i) ≡ i = omega arith in y) ∙ x-there))
            (let y : 1 < p = (is_field q).one_is_not_zero in omega arith))

        there : 0 < at_place (0 ∷ reverse x) (m - i)
        there = more (m - i) (omega arith)

    pub earlier-leads : is_lead p (suc m) within (m - i) ≡ true
    earlier-leads =
        ap (is_lead p (suc m) within) (sym leads) ∙ is_lead-of p (suc m) within (0 ∷ reverse x) (front-vector m 0 (reverse x) pos (reverse-vector m x x-vector)) relation

  -- ---- the tests, read

  sum-test : (b : Vector) → pointwise eqb (combined p w b vs) t ≡ true → combined p w b vs ≡ t
  sum-test b e = (bytes_decides (combined p w b vs) t).0 e

  abbrev test : Vector → Bool
  test b = is_thrifty p a w vs b && pointwise eqb (combined p w b vs) t

  to-sum : (b : Vector) → IsVector p m b → test b ≡ true → IsThriftySum p w vs t b
  to-sum b g e =
      let h = and_parts (is_thrifty p a w vs b) (pointwise eqb (combined p w b vs) t) e in
      record {
        numbers_in = g;
        thrifty = λ i l f.
            eqb-true (at_place b i) 0 (not_or (in_span p w (take i vs) (get_or vs i [])) (eqb (at_place b i) 0)
            (all-among (λ i. not (in_span p w (take i vs) (get_or vs i [])) || eqb (at_place b i) 0) (downwards m) i h.0 (among-downwards m i l)) f);
        sum_is = sum-test b h.1;
      }

  from-sum : (b : Vector) → IsThriftySum p w vs t b → test b ≡ true
  from-sum b h =
      and_from (is_thrifty p a w vs b) (pointwise eqb (combined p w b vs) t)
      (all-from (λ i. not (in_span p w (take i vs) (get_or vs i [])) || eqb (at_place b i) 0) (downwards m)
      (λ i k. or_not (in_span p w (take i vs) (get_or vs i [])) (eqb (at_place b i) 0) (λ f. eq-eqb (at_place b i) 0 (h.thrifty i (downwards-among m i k) f))))
      ((bytes_decides (combined p w b vs) t).1 h.sum_is)

  numbers-are : (b : Vector) → IsThriftySum p w vs t b → thrifty_numbers p a w vs t ≡ b
  numbers-are b h =
      first-only test (zeros m) b (vectors p m) (from-sum b h)
      (λ x k e. let s = to-sum x (vectors-among p m x k) e in only x s) (among-vectors p m b h.numbers_in)
    where
      there : in_span p w vs t ≡ true
      there = combination-span p w vs t (b, h.numbers_in, h.sum_is)

      only : (x : Vector) → IsThriftySum p w vs t x → x ≡ b
      only x s = let r = thrifty-sum p w (is_field q) vs hv t ht there in r.2 x s ∙ sym (r.2 b h)

  -- ---- the relation that leads at the row

  module _ (rest : List Vector) (c : Vector) (b : Vector) (g : IsVector p m b)
      (rows-are : reduced_basis p (suc m) within ≡ (1 ∷ c) ∷ rest)
      (b-is : (i : ℕ) → i < m → at_place b i ≡ minus p (at_place (1 ∷ c) (m - i))) where
    row : IsVector p (suc m) (1 ∷ c) × (within (1 ∷ c) ≡ true) × (is_reduced p (suc m) within (1 ∷ c) ≡ true)
    row = basis-among p (suc m) within (1 ∷ c) (subst (Among (1 ∷ c)) (sym rows-are) (inl refl))

    c-count : length c ≡ m
    c-count = let y : suc (length c) ≡ suc m = row.0.wide in omega (arith, y)

    c-below : Each (λ y. y < p) (reverse c)
    c-below = recursion_from_All (λ y. y < p) (reverse c) (reverse-vector m c (record { wide = c-count; below = All-tail (λ y. y < p) 1 c row.0.below })).below

    b-turned : b ≡ map (minus p) (reverse c)
    b-turned = ext_get_or 0 b (map (minus p) (reverse c)) (g.wide ∙ sym (length-map (reverse c) (minus p) ∙ length-reverse c ∙ c-count))
        (λ i l. let k : i < m = subst (λ n. i < n) g.wide l in
        b-is i k ∙ ap (minus p) (shift i k) ∙ sym (get_or-map (minus p) (reverse c) i 0 0 (subst (λ n. i < n) (sym (length-reverse c ∙ c-count)) k)))
      where
        shift : (i : ℕ) → i < m → at_place (1 ∷ c) (m - i) ≡ at_place (reverse c) i
        shift i k =
            ap (at_place (1 ∷ c)) (let y : m - i ≡ suc (m - 1 - i) = omega arith in y)
            ∙ sym (get_or-reverse c i 0 (subst (λ n. i < n) (sym c-count) k) ∙ ap (λ n. at_place c (n - 1 - i)) c-count)

    sum-is : combined p w b vs ≡ t
    sum-is =
        same-vector p pos w _ t (combined-vector p pos w b vs wide) ht
        (λ j. place-combined p w b vs j wide ∙ ap (λ y. weight y vs j % p) b-turned ∙ weight-minus p pos (reverse c) vs j c-below
        ∙ same-times p (p - 1) _ (weight c (reverse vs) j) (ap (λ n. n % p) (sym (weight-turned c vs j c-count)))
        ∙ undone p (weight c (reverse vs) j) (at_place t j) pos
        (ap (λ n. n % p) (let y : at_place t j + weight c (reverse vs) j ≡ 1 * at_place t j + weight c (reverse vs) j = omega arith in y) ∙ from-kernel 1 c row.1 j))

    thrifty : IsThrifty p w vs b
    thrifty i l e =
        b-is i l
        ∙ ap (minus p) (is_reduced-at p (suc m) within (1 ∷ c) row.2 (m - i) (let y : m - i < suc m = omega arith in y) (λ y. let z : m - i ≡ 0 = y in absurd (omega (arith, z))) (earlier-leads i l e))
        ∙ none
      where
        none : minus p 0 ≡ 0
        none = ap (λ n. n % p) (let y : p - 0 ≡ p = omega arith in y) ∙ mod_self p

    pub thrifty-found : thrifty_numbers p a w vs t ≡ b
    thrifty-found = numbers-are b (record { numbers_in = g; thrifty = thrifty; sum_is = sum-is })

  -- ---- no relation leads at the row

  pub thrifty-none : Each (λ r. at_place r 0 ≡ 0) (reduced_basis p (suc m) within) → thrifty_numbers p a w vs t ≡ zeros m
  thrifty-none h = first-none test (zeros m) (vectors p m) (λ x k e. let s = to-sum x (vectors-among p m x k) e in no x s)
    where
      no : (x : Vector) → IsThriftySum p w vs t x → ⊥
      no x s = absurd (let y : ◌≡◌ {A = ℕ} 1 0 = one in omega (arith, y))
        where
          c : Vector
          c = map (minus p) (reverse x)

          c-vector : IsVector p m c
          c-vector = minus-vector m (reverse x) (length-reverse x ∙ s.numbers_in.wide)

          relation : within (1 ∷ c) ≡ true
          relation =
              to-kernel 1 c
              (λ j.
              same-plus p (1 * at_place t j) (at_place t j) _ ((p - 1) * at_place t j) (ap (λ n. n % p) (let y : 1 * at_place t j ≡ at_place t j = omega arith in y))
              (weight-minus p pos (reverse x) (reverse vs) j (recursion_from_All (λ y. y < p) (reverse x) (reverse-vector m x s.numbers_in).below)
              ∙ same-times p (p - 1) _ (at_place t j)
              (ap (λ n. n % p) (weight-reverse x vs j s.numbers_in.wide) ∙ sym (place-combined p w x vs j wide) ∙ ap (λ u. at_place u j % p) s.sum_is))
              ∙ same-by p (at_place t j + (p - 1) * at_place t j) 0 0 (at_place t j) (omega (arith, pred-times p (at_place t j) pos)))

          made : IsCombination p (suc m) (reduced_basis p (suc m) within) (1 ∷ c)
          made = (basis-spans p (suc m) (is_field q) within subspace (1 ∷ c) (front-vector m 1 c (is_field q).one_is_not_zero c-vector)).0 relation

          wide-basis : Wide (suc m) (reduced_basis p (suc m) within)
          wide-basis = Stairs-wide p (suc m) (reduced_basis p (suc m) within) (Stairs-from p (suc m) (reduced_basis p (suc m) within) (basis-echelon p (suc m) (is_field q) within subspace))

          one : ◌≡◌ {A = ℕ} 1 0
          one =
              ap (λ u. at_place u 0) (sym made.2) ∙ at-combined p (suc m) made.0 (reduced_basis p (suc m) within) 0 wide-basis
              ∙ ap (λ n. n % p) (weight-clear p made.0 (reduced_basis p (suc m) within) 0 h) ∙ zero-mod p

-- the rows of a reduced echelon list are 0 at the first place, unless the first row leads there
pub none-first : (p n : ℕ) (rows : List Vector) → Stairs p n rows → (lead (get_or rows 0 []) ≡ 0 → ⊥) → Each (λ r. at_place r 0 ≡ 0) rows
none-first p n [] h d = tt
none-first p n (r ∷ rows) h d =
    (before-lead r 0 (omega (arith, d)), Each-weaker (λ s. Apart r s) (λ s. at_place s 0 ≡ 0) (λ s k. before-lead s 0 (let y : lead r < lead s = k.0 in omega arith)) rows h.2)

pub first-of : (rows : List DenseRow) (first : DenseRow) → slice_get rows 0 ≡ Some first → (rest : List Vector) × (vectors_of rows ≡ first.values ∷ rest)
first-of [] first e = absurd (cc)
first-of (r ∷ rows) first e = (vectors_of rows, ap (λ x. x.values ∷ vectors_of rows) (let q : r ≡ first = cc in q))

pub first-row : (q : Prime) (n : ℕ) (rows : List DenseRow) (first : DenseRow) → IsReducedEchelon (number q) n (vectors_of rows) → All (λ r. r.prime ≡ q) rows → slice_get rows 0 ≡ Some first
    → (length first.values ≡ n) × (first.prime ≡ q)
first-row q n [] first h g e = absurd (cc)
first-row q n (r ∷ rows) first h g e = (
  ap (λ x. length x.values) (let y : first ≡ r = cc in y) ∙ (Stairs-from (number q) n (vectors_of (r ∷ rows)) h).0.wide,
  ap (λ x. x.prime) (let y : first ≡ r = cc in y) ∙ g 0 r (omega arith),
)

pub none-of : (rows : List DenseRow) → slice_get rows 0 ≡ None → vectors_of rows ≡ []
none-of [] e = refl
none-of (r ∷ rows) e = absurd (cc)

-- what the first row of the relations says
module _ (q : Prime) (a : Space) (w : ℕ) (vs : List DenseRow) (hv : All (IsRow q w) vs) (t : DenseRow) (ht : IsRow q w t)
    (basis : List Vector) (basis-is : basis ≡ reduced_basis (number q) (length vs + 1) (in_kernel (number q) w (t.values ∷ reverse (vectors_of vs)))) where
  each-vector : (rows : List DenseRow) → Each (IsRow q w) rows → Each (IsVector (number q) w) (vectors_of rows)
  each-vector [] h = tt
  each-vector (r ∷ rows) h = (h.0.vector, each-vector rows h.1)

  rows-in : Each (IsVector (number q) w) (vectors_of vs)
  rows-in = each-vector vs (recursion_from_All (IsRow q w) vs hv)

  counted : length vs + 1 ≡ suc (length (vectors_of vs))
  counted = (let y : length vs + 1 ≡ suc (length vs) = omega arith in y) ∙ ap suc (sym (length-map vs (λ (x : DenseRow). x.values)))

  same : basis ≡ reduced_basis (number q) (suc (length (vectors_of vs))) (in_kernel (number q) w (t.values ∷ reverse (vectors_of vs)))
  same = basis-is ∙ ap (λ n. reduced_basis (number q) n (in_kernel (number q) w (t.values ∷ reverse (vectors_of vs)))) counted

  pub by-first : (first : Vector) (rest : List Vector) (b : Vector) → basis ≡ first ∷ rest → lead first ≡ 0 → IsVector (number q) (length vs) b
      → ((i : ℕ) → i < length vs → at_place b i ≡ minus (number q) (at_place first (length vs - i))) → b ≡ thrifty_numbers (number q) a w (vectors_of vs) t.values
  by-first [] rest b e l g h = absurd (let r = basis-among (number q) (suc (length (vectors_of vs))) (in_kernel (number q) w (t.values ∷ reverse (vectors_of vs))) [] (subst (Among []) (sym e ∙ same) (inl refl)) in let y : 0 ≡ suc (length (vectors_of vs)) = r.0.wide in omega (arith, y))
  by-first (x ∷ c) rest b e l g h =
      sym (thrifty-found q a w (vectors_of vs) rows-in t.values ht.vector rest c b (subst (λ n. IsVector (number q) n b) count g)
      (sym same ∙ e ∙ ap (λ y. (y ∷ c) ∷ rest) one)
      (λ i k. h i (subst (λ n. i < n) (sym count) k) ∙ (λ j. minus (number q) (at_place (one j ∷ c) (count j - i)))))
    where
      count : length vs ≡ length (vectors_of vs)
      count = sym (length-map vs (λ (x : DenseRow). x.values))

      one : x ≡ 1
      one =
          let r = basis-among (number q) (suc (length (vectors_of vs))) (in_kernel (number q) w (t.values ∷ reverse (vectors_of vs))) (x ∷ c) (subst (Among (x ∷ c)) (sym e ∙ same) (inl refl)) in
          ap (at_place (x ∷ c)) (sym l) ∙ is_reduced-one (number q) (suc (length (vectors_of vs))) (in_kernel (number q) w (t.values ∷ reverse (vectors_of vs))) (x ∷ c) r.2

  pub by-none : (lead (get_or basis 0 []) ≡ 0 → ⊥) → zeros (length vs) ≡ thrifty_numbers (number q) a w (vectors_of vs) t.values
  by-none d =
      ap zeros (sym (length-map vs (λ (x : DenseRow). x.values)))
      ∙ sym (thrifty-none q a w (vectors_of vs) rows-in t.values ht.vector (subst (Each (λ r. at_place r 0 ≡ 0)) same (none-first (number q) (suc (length (vectors_of vs))) basis stairs d)))
    where
      stairs : Stairs (number q) (suc (length (vectors_of vs))) basis
      stairs =
          subst (Stairs (number q) (suc (length (vectors_of vs)))) (sym same)
          (Stairs-from (number q) (suc (length (vectors_of vs))) _
          (basis-echelon (number q) (suc (length (vectors_of vs))) (is_field q) (in_kernel (number q) w (t.values ∷ reverse (vectors_of vs)))
          (subspace q a w (vectors_of vs) rows-in t.values ht.vector)))

  pub by-nothing : basis ≡ [] → zeros (length vs) ≡ thrifty_numbers (number q) a w (vectors_of vs) t.values
  by-nothing e =
      ap zeros (sym (length-map vs (λ (x : DenseRow). x.values)))
      ∙ sym (thrifty-none q a w (vectors_of vs) rows-in t.values ht.vector (subst (Each (λ r. at_place r 0 ≡ 0)) (sym e ∙ same) tt))
