-- Vectors in two halves: of the vectors of a span whose first half is 0, the rows that lead in the second half are the basis. So one
-- reduction gives a kernel (each unit vector behind its image) and a complement (each row behind its entries at leading places).
use Rattle.std.proofs.Common.{◌≡◌, ◌↔◌, ℕ, zero, suc, ◌+◌, ◌*◌, ◌-◌, ◌%◌, ◌<◌, ◌≤◌, true, List, [], ◌∷◌, ◌++◌, map, drop, length, refl, sym, ◌∙◌, ap, subst, arith}
use Rattle.std.proofs.Math.Nat.{mod-eq_of_lt, zero-mod, suc-add}
use Rattle.std.proofs.Math.ListN.{length-map, get_or-append}
use Rattle.std.proofs.lemmas.List.{get_or-drop, append_cancel_left, map-append, length-drop}
use Rattle.std.proofs.lemmas.List.Elements.{All-drop, recursion_from_All}
use Rattle.std.specs.List.{AllByRecursion as Each}
use Rattle.std.specs.Cmp.Lexicographic.{bytes_decides}
use Rattle.echelons.specs.Echelon.{Vector, IsVector, at_place, zeros, vector_plus, multiple, combined, lead, in_kernel, IsReducedEchelon, IsCombination, coordinates}
use Rattle.echelons.proofs.Vectors.{plus-zeros, multiple-zeros, Each-weaker, Wide, weight, length-zeros, length-multiple, length-combined, at-plus, at-multiple, place-combined, place-zeros, combined-vector, same-vector}
use Rattle.echelons.proofs.Leads.{before-lead, lead-within}
use Rattle.echelons.proofs.Lists.{Each-from, among-right}
use Rattle.echelons.proofs.Rows.{Apart, Stairs, Stairs-from, Stairs-wide, echelon-from, row-vector, coordinates-vector, combination-coordinates}
use Rattle.echelons.proofs.Members.{combination-chain, member-span}

-- each vector of the first list before that of the second
abbrev pub side : List Vector → List Vector → List Vector
side [] vs = []
side (u ∷ us) [] = []
side (u ∷ us) (v ∷ vs) = (u ++ v) ∷ side us vs

pub zeros-append : (h w : ℕ) → zeros (h + w) ≡ zeros h ++ zeros w
zeros-append zero w = ap zeros (let e : zero + w ≡ w = omega arith in e)
zeros-append (suc h) w = rw suc-add (ap (λ u. 0 ∷ u) (zeros-append h w))

module _ (p : ℕ) where
  plus-append : (a b c d : Vector) → length a ≡ length c → vector_plus p (a ++ b) (c ++ d) ≡ vector_plus p a c ++ vector_plus p b d
  plus-append [] b [] d e = refl
  plus-append [] b (y ∷ c) d e = absurd (omega arith)
  plus-append (x ∷ a) b [] d e = absurd (omega arith)
  plus-append (x ∷ a) b (y ∷ c) d e = ap (λ u. ((x + y) % p) ∷ u) (plus-append a b c d (omega arith))

  pub combined-side : (h w : ℕ) (cs : List ℕ) (us vs : List Vector) → Wide h us → length us ≡ length vs → combined p (h + w) cs (side us vs) ≡ combined p h cs us ++ combined p w cs vs
  combined-side h w [] us vs g e = zeros-append h w
  combined-side h w (c ∷ cs) [] [] g e = zeros-append h w
  combined-side h w (c ∷ cs) [] (v ∷ vs) g e = absurd (omega arith)
  combined-side h w (c ∷ cs) (u ∷ us) [] g e = absurd (omega arith)
  combined-side h w (c ∷ cs) (u ∷ us) (v ∷ vs) g e =
      ap (λ x. vector_plus p x (combined p (h + w) cs (side us vs))) (map-append (λ b. (c * b) % p) u v)
      ∙ ap (vector_plus p (multiple p c u ++ multiple p c v)) (combined-side h w cs us vs g.1 (omega arith))
      ∙ plus-append (multiple p c u) (multiple p c v) (combined p h cs us) (combined p w cs vs) (length-multiple p h c u g.0 ∙ sym (length-combined p h cs us g.1))

  -- ---- vectors whose first half is 0

  behind-zeros : (h : ℕ) (r : Vector) → h ≤ lead r → h ≤ length r → r ≡ zeros h ++ drop h r
  behind-zeros zero r l k = refl
  behind-zeros (suc h) [] l k = absurd (omega arith)
  behind-zeros (suc h) (zero ∷ r) l k = ap (λ u. 0 ∷ u) (behind-zeros h r (omega arith) (omega arith))
  behind-zeros (suc h) (suc a ∷ r) l k = absurd (omega arith)

  lead-drop : (h : ℕ) (r : Vector) → h ≤ lead r → h + lead (drop h r) ≡ lead r
  lead-drop zero r l = omega arith
  lead-drop (suc h) [] l = absurd (omega arith)
  lead-drop (suc h) (zero ∷ r) l = omega (arith, lead-drop h r (omega arith))
  lead-drop (suc h) (suc a ∷ r) l = absurd (omega arith)

  pub combined-behind : (h w : ℕ) (cs : List ℕ) (back : List Vector) → Wide (h + w) back → Each (λ r. h ≤ lead r) back → combined p (h + w) cs back ≡ zeros h ++ combined p w cs (map (drop h) back)
  combined-behind h w [] back g l = zeros-append h w
  combined-behind h w (c ∷ cs) [] g l = zeros-append h w
  combined-behind h w (c ∷ cs) (r ∷ back) g l =
      ap (λ x. vector_plus p (multiple p c x) (combined p (h + w) cs back)) (behind-zeros h r l.0 (omega (arith, lead-within r, l.0)))
      ∙ ap (λ x. vector_plus p x (combined p (h + w) cs back)) (map-append (λ b. (c * b) % p) (zeros h) (drop h r))
      ∙ ap (vector_plus p (multiple p c (zeros h) ++ multiple p c (drop h r))) (combined-behind h w cs back g.1 l.1)
      ∙ ap (λ x. vector_plus p (x ++ multiple p c (drop h r)) (zeros h ++ combined p w cs (map (drop h) back))) (multiple-zeros p c h)
      ∙ plus-append (zeros h) (multiple p c (drop h r)) (zeros h) (combined p w cs (map (drop h) back)) refl
      ∙ ap (λ x. x ++ vector_plus p (multiple p c (drop h r)) (combined p w cs (map (drop h) back))) (plus-zeros p h)

module _ (p h w : ℕ) where
  at-drop : (r : Vector) (j : ℕ) → at_place (drop h r) j ≡ at_place r (h + j)
  at-drop r j = get_or-drop h r j 0

  behind-stairs : (back : List Vector) → Stairs p (h + w) back → Each (λ r. h ≤ lead r) back → Stairs p w (map (drop h) back)
  behind-stairs [] s l = tt
  behind-stairs (r ∷ back) s l = (
    record { wide = length-drop h r ∙ ap (λ n. n - h) s.0.wide ∙ (let q : h + w - h ≡ w = omega arith in q); below = All-drop (λ a. a < p) h r s.0.below },
    at-drop r (lead (drop h r)) ∙ ap (at_place r) (lead-drop p h r l.0) ∙ s.1,
    apart back s.2 l.1,
    behind-stairs back s.3 l.1,
  )
    where
      apart : (rest : List Vector) → Each (Apart r) rest → Each (λ q. h ≤ lead q) rest → Each (Apart (drop h r)) (map (drop h) rest)
      apart [] a k = tt
      apart (q ∷ rest) a k =
          let here : lead (drop h r) < lead (drop h q) =
          (let x : lead r < lead q = a.0.0 in omega (arith, lead-drop p h r l.0, lead-drop p h q k.0)) in (
            (here, at-drop r (lead (drop h q)) ∙ ap (at_place r) (lead-drop p h q k.0) ∙ a.0.1, before-lead (drop h q) (lead (drop h r)) here),
            apart rest a.1 k.1,
          )

  pub Stairs-back : (front back : List Vector) → Stairs p (h + w) (front ++ back) → Stairs p (h + w) back
  Stairs-back [] back s = s
  Stairs-back (r ∷ front) back s = Stairs-back front back s.3

  weight-back : (u : Vector) (front back : List Vector) (j : ℕ) → Each (λ r. at_place u (lead r) ≡ 0) front → weight (coordinates (front ++ back) u) (front ++ back) j ≡ weight (coordinates back u) back j
  weight-back u [] back j e = refl
  weight-back u (r ∷ front) back j e = rw e.0 (omega (arith, weight-back u front back j e.1))

  module _ (pos : 0 < p) (front back : List Vector) (echelon : IsReducedEchelon p (h + w) (front ++ back))
      (first : Each (λ r. lead r < h) front) (second : Each (λ r. h ≤ lead r) back) where
    stairs : Stairs p (h + w) (front ++ back)
    stairs = Stairs-from p (h + w) (front ++ back) echelon

    rest : Stairs p (h + w) back
    rest = Stairs-back front back stairs

    pub behind-echelon : IsReducedEchelon p w (map (drop h) back)
    behind-echelon = echelon-from p w (map (drop h) back) (behind-stairs back rest second)

    at-zeros : (v : Vector) (j : ℕ) → j < h → at_place (zeros h ++ v) j ≡ 0
    at-zeros v j l = get_or-append (zeros h) v 0 j (subst (λ n. j < n) (sym (length-zeros h)) l) ∙ place-zeros h j

    to-back : (v : Vector) → IsVector p (h + w) (zeros h ++ v) → IsCombination p (h + w) (front ++ back) (zeros h ++ v) → IsCombination p (h + w) back (zeros h ++ v)
    to-back v g c =
        let none = Each-weaker (λ r. lead r < h) (λ r. at_place (zeros h ++ v) (lead r) ≡ 0) (λ r l. at-zeros v (lead r) l) front first in
        let wide = Stairs-wide p (h + w) back rest in (
          coordinates back (zeros h ++ v),
          coordinates-vector p (h + w) pos back (zeros h ++ v) g,
          same-vector p pos (h + w) _ _ (combined-vector p pos (h + w) _ back wide) g
              (λ j. place-combined p (h + w) _ back j wide ∙ ap (λ n. n % p) (sym (weight-back (zeros h ++ v) front back j none))
              ∙ sym (place-combined p (h + w) _ (front ++ back) j (Stairs-wide p (h + w) (front ++ back) stairs))
              ∙ ap (λ u. at_place u j % p) (combination-coordinates p (h + w) (front ++ back) (zeros h ++ v) stairs c)),
        )

    from-back : (u : Vector) → IsCombination p (h + w) back u → IsCombination p (h + w) (front ++ back) u
    from-back u c =
        let all = Each-from (IsVector p (h + w)) (front ++ back) (λ r m. row-vector p (h + w) (front ++ back) r stairs m) in
        combination-chain p (h + w) pos back (front ++ back) u
        (Each-from (IsVector p (h + w)) back (λ r m. row-vector p (h + w) back r rest m)) all
        (Each-from _ back (λ r m. member-span p (h + w) pos (front ++ back) r all (among-right front back r m))) c

    -- the vectors whose first half is 0
    pub behind-span : (v : Vector) → IsVector p (h + w) (zeros h ++ v) → IsCombination p w (map (drop h) back) v ↔ IsCombination p (h + w) (front ++ back) (zeros h ++ v)
    behind-span v g = (
      λ c. from-back (zeros h ++ v) (
        c.0,
        subst (λ n. IsVector p n c.0) (length-map back (drop h)) c.1,
        combined-behind p h w c.0 back (Stairs-wide p (h + w) back rest) second ∙ ap (λ u. zeros h ++ u) c.2,
      ),
      λ c. let d = to-back v g c in (
        d.0,
        subst (λ n. IsVector p n d.0) (sym (length-map back (drop h))) d.1,
        append_cancel_left (zeros h) _ _ (sym (combined-behind p h w d.0 back (Stairs-wide p (h + w) back rest) second) ∙ d.2),
      ),
    )

-- ---- the two uses

-- the unit vectors of width w
abbrev pub units : ℕ → List Vector
units zero = []
units (suc w) = (1 ∷ zeros w) ∷ map (λ v. 0 ∷ v) (units w)

pub length-units : (w : ℕ) → length (units w) ≡ w
length-units zero = refl
length-units (suc w) = ap suc (length-map (units w) (λ v. 0 ∷ v) ∙ length-units w)

module _ (p : ℕ) where
  combined-later : (w : ℕ) (cs : List ℕ) (vs : List Vector) → combined p (suc w) cs (map (λ v. 0 ∷ v) vs) ≡ 0 ∷ combined p w cs vs
  combined-later w [] vs = refl
  combined-later w (c ∷ cs) [] = refl
  combined-later w (c ∷ cs) (v ∷ vs) =
      ap (vector_plus p (((c * 0) % p) ∷ multiple p c v)) (combined-later w cs vs)
      ∙ ap (λ a. a ∷ vector_plus p (multiple p c v) (combined p w cs vs))
      (ap (λ n. (n % p + 0) % p) (let q : c * 0 ≡ 0 = omega arith in q) ∙ ap (λ n. (n + 0) % p) (zero-mod p) ∙ zero-mod p)

  zeros-plus : (w : ℕ) (v : Vector) → length v ≡ w → Each (λ a. a < p) v → vector_plus p (zeros w) v ≡ v
  zeros-plus zero [] e b = refl
  zeros-plus zero (a ∷ v) e b = absurd (omega arith)
  zeros-plus (suc w) [] e b = absurd (omega arith)
  zeros-plus (suc w) (a ∷ v) e b = λ i. (ap (λ n. n % p) (let q : 0 + a ≡ a = omega arith in q) ∙ mod-eq_of_lt b.0) i ∷ zeros-plus w v (omega arith) b.1 i

  pub units-combined : (w : ℕ) (v : Vector) → length v ≡ w → Each (λ a. a < p) v → combined p w v (units w) ≡ v
  units-combined zero [] e b = refl
  units-combined zero (a ∷ v) e b = absurd (omega arith)
  units-combined (suc w) [] e b = absurd (omega arith)
  units-combined (suc w) (a ∷ v) e b =
      ap (vector_plus p (((a * 1) % p) ∷ multiple p a (zeros w))) (combined-later w v (units w) ∙ ap (λ u. 0 ∷ u) (units-combined w v (omega arith) b.1))
      ∙ ap (λ u. (((a * 1) % p + 0) % p) ∷ vector_plus p u v) (multiple-zeros p a w)
      ∙ (λ i. first i ∷ zeros-plus w v (omega arith) b.1 i)
    where
      first : ((a * 1) % p + 0) % p ≡ a
      first = ap (λ n. (n + 0) % p) (ap (λ n. n % p) (let q : a * 1 ≡ a = omega arith in q) ∙ mod-eq_of_lt b.0) ∙ ap (λ n. n % p) (let q : a + 0 ≡ a = omega arith in q) ∙ mod-eq_of_lt b.0

  length-side : (us vs : List Vector) → length us ≡ length vs → length (side us vs) ≡ length us
  length-side [] vs e = refl
  length-side (u ∷ us) [] e = absurd (omega arith)
  length-side (u ∷ us) (v ∷ vs) e = ap suc (length-side us vs (omega arith))

  append-first : (a b c d : Vector) → length a ≡ length c → a ++ b ≡ c ++ d → a ≡ c
  append-first [] b [] d l e = refl
  append-first [] b (y ∷ c) d l e = absurd (omega arith)
  append-first (x ∷ a) b [] d l e = absurd (omega arith)
  append-first (x ∷ a) b (y ∷ c) d l e = let same : x ≡ y = cc in λ i. same i ∷ append-first a b c d (omega arith) (cc) i

  -- the combinations of vectors in two halves
  pub side-combination : (h w : ℕ) (us vs : List Vector) (x v : Vector) → Wide h us → length us ≡ length vs → length x ≡ h
      → IsCombination p (h + w) (side us vs) (x ++ v) ↔ ((cs : Vector) × IsVector p (length us) cs × (combined p h cs us ≡ x) × (combined p w cs vs ≡ v))
  side-combination h w us vs x v g e l = (
    λ c. let s = sym (combined-side p h w c.0 us vs g e) ∙ c.2 in
        let a = append-first (combined p h c.0 us) (combined p w c.0 vs) x v (length-combined p h c.0 us g ∙ sym l) s in
        (c.0, subst (λ n. IsVector p n c.0) (length-side us vs e) c.1, a, append_cancel_left x _ v (ap (λ y. y ++ combined p w c.0 vs) (sym a) ∙ s)),
    λ c. (c.0, subst (λ n. IsVector p n c.0) (sym (length-side us vs e)) c.1, combined-side p h w c.0 us vs g e ∙ ap (λ y. y ++ combined p w c.0 vs) c.2 ∙ ap (λ y. x ++ y) c.3),
  )

  -- a vector is in the kernel where, behind zeros, it is in the span of the unit vectors behind their images
  pub kernel-graph : (h n : ℕ) (images : List Vector) (v : Vector) → Wide h images → length images ≡ n → IsVector p n v
      → (in_kernel p h images v ≡ true) ↔ IsCombination p (h + n) (side images (units n)) (zeros h ++ v)
  kernel-graph h n images v g e k =
      let both = side-combination h n images (units n) (zeros h) v g (e ∙ sym (length-units n)) (length-zeros h) in
      let decides = bytes_decides (combined p h v images) (zeros h) in (
        λ f. both.1 (v, subst (λ m. IsVector p m v) (sym e) k, decides.0 f, units-combined n v k.wide (recursion_from_All (λ a. a < p) v k.below)),
        λ c. let d = both.0 c in
            let b : d.0 ≡ v = sym (units-combined n d.0 (d.1.wide ∙ e) (recursion_from_All (λ a. a < p) d.0 d.1.below)) ∙ d.3 in
            decides.1 (ap (λ x. combined p h x images) (sym b) ∙ d.2),
      )

  -- the entries of a combination at some places
  coordinates-zeros : (rows : List Vector) (w : ℕ) → coordinates rows (zeros w) ≡ zeros (length rows)
  coordinates-zeros [] w = refl
  coordinates-zeros (r ∷ rows) w = λ i. place-zeros w (lead r) i ∷ coordinates-zeros rows w i

  coordinates-plus : (rows : List Vector) (u v : Vector) → length u ≡ length v → coordinates rows (vector_plus p u v) ≡ vector_plus p (coordinates rows u) (coordinates rows v)
  coordinates-plus [] u v e = refl
  coordinates-plus (r ∷ rows) u v e = λ i. at-plus p u v (lead r) e i ∷ coordinates-plus rows u v e i

  coordinates-multiple : (rows : List Vector) (c : ℕ) (v : Vector) → coordinates rows (multiple p c v) ≡ multiple p c (coordinates rows v)
  coordinates-multiple [] c v = refl
  coordinates-multiple (r ∷ rows) c v = λ i. at-multiple p c v (lead r) i ∷ coordinates-multiple rows c v i

  pub coordinates-combination : (w : ℕ) (rows : List Vector) (cs : List ℕ) (vs : List Vector) → Wide w vs
      → coordinates rows (combined p w cs vs) ≡ combined p (length rows) cs (map (coordinates rows) vs)
  coordinates-combination w rows [] vs g = coordinates-zeros rows w
  coordinates-combination w rows (c ∷ cs) [] g = coordinates-zeros rows w
  coordinates-combination w rows (c ∷ cs) (v ∷ vs) g =
      coordinates-plus rows (multiple p c v) (combined p w cs vs) (length-multiple p w c v g.0 ∙ sym (length-combined p w cs vs g.1))
      ∙ ap (λ x. vector_plus p x (coordinates rows (combined p w cs vs))) (coordinates-multiple rows c v)
      ∙ ap (vector_plus p (multiple p c (coordinates rows v))) (coordinates-combination w rows cs vs g.1)

  coordinates-wide : (rows vs : List Vector) → Wide (length rows) (map (coordinates rows) vs)
  coordinates-wide rows [] = tt
  coordinates-wide rows (v ∷ vs) = (length-map rows (λ r. at_place v (lead r)), coordinates-wide rows vs)

  -- a vector of a span is 0 at the leading places of the rows where, behind zeros, it is in the span of the vectors behind their entries there
  pub clear-graph : (w : ℕ) (rows vs : List Vector) (v : Vector) → Wide w vs
      → (IsCombination p w vs v × (coordinates rows v ≡ zeros (length rows))) ↔ IsCombination p (length rows + w) (side (map (coordinates rows) vs) vs) (zeros (length rows) ++ v)
  clear-graph w rows vs v g =
      let both = side-combination (length rows) w (map (coordinates rows) vs) vs (zeros (length rows)) v (coordinates-wide rows vs) (length-map vs (coordinates rows)) (length-zeros (length rows)) in (
        λ c. both.1 (
          c.0.0,
          subst (λ n. IsVector p n c.0.0) (sym (length-map vs (coordinates rows))) c.0.1,
          sym (coordinates-combination w rows c.0.0 vs g) ∙ ap (coordinates rows) c.0.2 ∙ c.1,
          c.0.2,
        ),
        λ c. let d = both.0 c in (
          (d.0, subst (λ n. IsVector p n d.0) (length-map vs (coordinates rows)) d.1, d.3),
          ap (coordinates rows) (sym d.3) ∙ coordinates-combination w rows d.0 vs g ∙ d.2,
        ),
      )
