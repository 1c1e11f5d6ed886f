-- A vector in its parts: its coefficients over a complement, and the rest as a thrifty combination.
use Rattle.std.proofs.Common.{◌≡◌, inl, inr, ℕ, ◌+◌, ◌*◌, ◌-◌, ◌%◌, ◌<◌, ◌==◌, nat_eq, Bool, true, false, not, ◌&&◌, ◌||◌, cond, List, [], ◌∷◌, take, length, get_or, refl, sym, ◌∙◌, ap, arith, true≢false}
use Rattle.std.specs.Cmp.Lexicographic.{pointwise}
use Rattle.std.specs.List.{AllByRecursion as EachOf}
use Rattle.std.proofs.lemmas.Bool.{and_parts, and_from, eqb-true, eq-eqb}
use Rattle.std.proofs.lemmas.Slice.Eq.{bytes_eq-Decides}
use Rattle.fp_field.specs.Field.{SameMod, IsField}
use Rattle.fp_field.proofs.Mod.{same-plus, same-times, same-by, pred-times}
use Rattle.echelons.specs.Echelon.{Vector, IsVector, at_place, zeros, vectors, vector_plus, multiple, combined, in_span, is_clear, reduced_basis, complement, IsSubspace, coordinates, remainder, downwards, IsSplit}
use Rattle.echelons.proofs.Vectors.{plus-vector, multiple-vector, combined-vector, same-vector, place-plus, place-multiple}
use Rattle.echelons.proofs.Lists.{Among, Each-from, all-among, all-from, downwards-among, among-downwards, vectors-among, among-vectors}
use Rattle.echelons.proofs.Rows.{Stairs, Stairs-from, Stairs-wide, row-vector, coordinates-vector, combination-coordinates, remainder-vector, remainder-sum}
use Rattle.echelons.proofs.Unique.{row-within}
use Rattle.echelons.proofs.EchelonLaws.{clear-rows, remainder-leads}
use Rattle.echelons.proofs.Basis.{within-remainder, basis-echelon, basis-spans}
use Rattle.echelons.proofs.Complement.{complement-echelon, complement-spans, splits-once}
use Rattle.spaces.specs.Spaces.{Space}
use Rattle.homology_laws.specs.Pivots.{IsThrifty, IsThriftySum}
use Rattle.homology_laws.proofs.Pivots.{thrifty-sum}
use Rattle.session_core.specs.Questions.{first_vector, is_thrifty, thrifty_numbers}

module _ (p w : ℕ) (field : IsField p) (whole part : Vector → Bool) (sub : IsSubspace p w whole) (inner : IsSubspace p w part)
    (inside : (v : Vector) → IsVector p w v → part v ≡ true → whole v ≡ true) where
  pos : 0 < p
  pos = let l : 1 < p = field.one_is_not_zero in omega arith

  abbrev rows : List Vector
  rows = complement p w whole part

  abbrev base : List Vector
  base = reduced_basis p w part

  above : Stairs p w rows
  above = Stairs-from p w rows (complement-echelon p w field whole part sub)

  below : Stairs p w base
  below = Stairs-from p w base (basis-echelon p w field part inner)

  -- what is left of a vector after its part in the smaller space
  abbrev left : Vector → Vector
  left u = remainder p w base u

  left-combination : (u : Vector) → IsVector p w u → whole u ≡ true → combined p w (coordinates rows (left u)) rows ≡ left u
  left-combination u g e =
      let spans = basis-spans p w field part inner in
      let x = remainder-vector p w pos base u below g in
      let members = within-remainder p w pos whole sub base u below
      (Each-from (λ r. whole r ≡ true) base (λ r m. inside r (row-vector p w base r below m) (row-within p w pos part base below spans r m))) g e in
      let clear = (clear-rows p w pos base (basis-echelon p w field part inner) part spans (left u)).1 (remainder-leads p w pos base (basis-echelon p w field part inner) u g) in
      combination-coordinates p w rows (left u) above ((complement-spans p w field whole part sub (left u) x).0 (and_from (whole (left u)) (is_clear p w part (left u)) members clear))

  read-split : (u : Vector) → IsVector p w u → whole u ≡ true → IsSplit p w rows part u (coordinates rows (left u)) (combined p w (coordinates base u) base)
  read-split u g e =
      let x = remainder-vector p w pos base u below g in
      let y = combined-vector p pos w (coordinates base u) base (Stairs-wide p w base below) in
      record {
        coefficients_in = coordinates-vector p w pos rows (left u) x;
        rest_in = y;
        rest_within = (basis-spans p w field part inner (combined p w (coordinates base u) base) y).1 (coordinates base u, coordinates-vector p w pos base u g, refl);
        sum_is = ap (λ v. vector_plus p v (combined p w (coordinates base u) base)) (left-combination u g e) ∙ remainder-sum p w pos base u below g;
      }

  -- the coefficients are the entries, at leading places, of what is left
  pub coefficients-read : (u cs t : Vector) → IsVector p w u → whole u ≡ true → IsSplit p w rows part u cs t → coordinates rows (left u) ≡ cs
  coefficients-read u cs t g e s =
      let once = splits-once p w field whole part sub inner inside u g e in
      (once.3 (coordinates rows (left u)) (combined p w (coordinates base u) base) (read-split u g e)).0 ∙ sym (once.3 cs t s).0

  cancelled : (x t u c : ℕ) → SameMod p u (x + t) → SameMod p c x → SameMod p (u + (p - 1) * c) t
  cancelled x t u c h k =
      same-plus p u (x + t) ((p - 1) * c) ((p - 1) * x) h (same-times p (p - 1) c x k)
      ∙ same-by p ((x + t) + (p - 1) * x) t 0 x (omega (arith, pred-times p x pos))

  -- and the rest is what the combination leaves
  pub rest-read : (u cs t : Vector) → IsVector p w u → IsSplit p w rows part u cs t → vector_plus p u (multiple p (p - 1) (combined p w cs rows)) ≡ t
  rest-read u cs t g s =
      let x = combined-vector p pos w cs rows (Stairs-wide p w rows above) in
      let y = multiple-vector p pos w (p - 1) (combined p w cs rows) x.wide in
      same-vector p pos w _ t (plus-vector p pos w u (multiple p (p - 1) (combined p w cs rows)) g.wide y.wide) s.rest_in (λ j.
      place-plus p u (multiple p (p - 1) (combined p w cs rows)) j (g.wide ∙ sym y.wide)
      ∙ same-plus p (at_place u j) (at_place u j) _ _ refl (place-multiple p (p - 1) (combined p w cs rows) j)
      ∙ cancelled (at_place (combined p w cs rows) j) (at_place t j) (at_place u j) (at_place (combined p w cs rows) j)
      (ap (λ v. at_place v j % p) (sym s.sum_is) ∙ place-plus p (combined p w cs rows) t j (x.wide ∙ sym s.rest_in.wide)) refl)

-- ---- the first vector that passes

first-is : (test : Vector → Bool) (other : Vector) (vs : List Vector) (b : Vector) → Among b vs → test b ≡ true
    → ((v : Vector) → Among v vs → test v ≡ true → v ≡ b) → first_vector test other vs ≡ b
first-is test other [] b m e only = absurd m
first-is test other (v ∷ vs) b m e only = by (test v) refl (λ n. first-is test other vs b n e (λ u a. only u (inr a))) m
  where
    by : (c : Bool) → test v ≡ c → (Among b vs → first_vector test other vs ≡ b) → Among b (v ∷ vs) → first_vector test other (v ∷ vs) ≡ b
    by true q r n = ap (λ c. cond c v (first_vector test other vs)) q ∙ only v (inl refl) q
    by false q r n = ap (λ c. cond c v (first_vector test other vs)) q ∙ later n
      where
        later : Among b (v ∷ vs) → first_vector test other vs ≡ b
        later (inl h) = absurd (true≢false (sym e ∙ ap test (sym h) ∙ q))
        later (inr h) = r h

-- ---- the thrifty numbers

module _ (p w : ℕ) (field : IsField p) (a : Space) (vs : List Vector) (vectors_all : EachOf (IsVector p w) vs) where
  -- the test at a place
  cleared : (b c : Bool) → not b || c ≡ true → b ≡ true → c ≡ true
  cleared true c h e = h
  cleared false c h e = absurd (true≢false (sym e))

  clears : (b c : Bool) → (b ≡ true → c ≡ true) → not b || c ≡ true
  clears true c h = h refl
  clears false c h = refl

  abbrev at : Vector → ℕ → Bool
  at v i = not (in_span p w (take i vs) (get_or vs i [])) || (at_place v i == 0)

  thrifty-from : (v : Vector) → is_thrifty p a w vs v ≡ true → IsThrifty p w vs v
  thrifty-from v h i l e =
      eqb-true (at_place v i) 0 (cleared (in_span p w (take i vs) (get_or vs i [])) (at_place v i == 0) (all-among (at v) (downwards (length vs)) i h (among-downwards (length vs) i l)) e)

  thrifty-to : (v : Vector) → IsThrifty p w vs v → is_thrifty p a w vs v ≡ true
  thrifty-to v h =
      all-from (at v) (downwards (length vs)) (λ i m. clears (in_span p w (take i vs) (get_or vs i [])) (at_place v i == 0)
      (λ e. eq-eqb (at_place v i) 0 (h i (downwards-among (length vs) i m) e)))

  abbrev test : Vector → Vector → Bool
  test t v = is_thrifty p a w vs v && pointwise nat_eq (combined p w v vs) t

  test-from : (t v : Vector) → Among v (vectors p (length vs)) → test t v ≡ true → IsThriftySum p w vs t v
  test-from t v m e =
      let b = and_parts (is_thrifty p a w vs v) (pointwise nat_eq (combined p w v vs) t) e in
      record { numbers_in = vectors-among p (length vs) v m; thrifty = thrifty-from v b.0; sum_is = (bytes_eq-Decides (combined p w v vs) t).0 b.1 }

  test-to : (t v : Vector) → IsThriftySum p w vs t v → test t v ≡ true
  test-to t v s =
      and_from (is_thrifty p a w vs v) (pointwise nat_eq (combined p w v vs) t) (thrifty-to v s.thrifty) ((bytes_eq-Decides (combined p w v vs) t).1 s.sum_is)

  -- they are those of the one thrifty combination
  pub thrifty-read : (t b : Vector) → IsVector p w t → in_span p w vs t ≡ true → IsThriftySum p w vs t b → thrifty_numbers p a w vs t ≡ b
  thrifty-read t b g e s =
      let once = thrifty-sum p w field vs vectors_all t g e in
      first-is (test t) (zeros (length vs)) (vectors p (length vs)) b (among-vectors p (length vs) b s.numbers_in) (test-to t b s)
      (λ v m h. once.2 v (test-from t v m h) ∙ sym (once.2 b s))
