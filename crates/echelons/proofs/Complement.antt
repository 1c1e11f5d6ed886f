-- Each vector of Z is in exactly one way a combination of the complement of B in Z and a vector of B.
use Rattle.std.proofs.Common.{◌≡◌, ℕ, ◌+◌, ◌*◌, ◌-◌, ◌%◌, ◌<◌, Bool, true, ◌&&◌, length, refl, sym, ◌∙◌, ap, subst, arith}
use Rattle.std.proofs.Math.Nat.{mod-eq_of_lt, zero-mod, zero-add}
use Rattle.std.proofs.lemmas.Bool.{and_parts, and_from}
use Rattle.std.specs.List.{AllByRecursion as Each}
use Rattle.fp_field.specs.Field.{SameMod, IsField}
use Rattle.echelons.specs.Echelon.{Vector, IsVector, at_place, zeros, vector_plus, multiple, combined, lead, is_clear, reduced_basis, complement, IsSubspace, IsReducedEchelon, Spans, coordinates, remainder, IsSplit, IsSplitOnce}
use Rattle.fp_field.proofs.Mod.{same-plus, same-by, pred-times}
use Rattle.echelons.proofs.Vectors.{Each-both, below-at, at-plus, at-multiple, place-plus, place-zeros, combined-vector, same-vector}
use Rattle.echelons.proofs.Leads.{lead-in}
use Rattle.echelons.proofs.Lists.{Among, each-among, Each-from}
use Rattle.echelons.proofs.Rows.{Stairs, Stairs-from, Stairs-wide, row-vector, row-one, coordinates-vector, coordinates-combined, same-at_leads, remainder-vector, remainder-clear, remainder-sum}
use Rattle.echelons.proofs.Unique.{is_clear-at, is_clear-from, row-within, row-lead, lead-row}
use Rattle.echelons.proofs.Basis.{within-remainder, basis-echelon, basis-spans}

-- what is added to both sides
plus-cancel : (p w : ℕ) → 0 < p → (u v x : Vector) → IsVector p w u → IsVector p w v → IsVector p w x → vector_plus p u x ≡ vector_plus p v x → u ≡ v
plus-cancel p w pos u v x g h k e = same-vector p pos w u v g h (λ j. cancel (at_place u j) (at_place v j) (at_place x j)
    (sym (place-plus p u x j (g.wide ∙ sym k.wide)) ∙ ap (λ y. at_place y j % p) e ∙ place-plus p v x j (h.wide ∙ sym k.wide)))
  where
    cancel : (a b c : ℕ) → SameMod p (a + c) (b + c) → SameMod p a b
    cancel a b c s =
        same-by p a ((a + c) + (p - 1) * c) c 0 (omega (arith, pred-times p c pos))
        ∙ same-plus p (a + c) (b + c) ((p - 1) * c) ((p - 1) * c) s refl
        ∙ same-by p ((b + c) + (p - 1) * c) b 0 c (omega (arith, pred-times p c pos))

module _ (p w : ℕ) (whole part : Vector → Bool) (sub : IsSubspace p w whole) where
  -- the vectors of Z that are 0 at the leading places of B
  pub clear-subspace : IsSubspace p w (λ v. whole v && is_clear p w part v)
  clear-subspace = record {
    zero_in = and_from (whole (zeros w)) (is_clear p w part (zeros w)) sub.zero_in (is_clear-from p w part (zeros w) (λ j l f. place-zeros w j));
    plus_in = λ u v g h e f.
        let a = and_parts (whole u) (is_clear p w part u) e in
        let b = and_parts (whole v) (is_clear p w part v) f in
        and_from (whole (vector_plus p u v)) (is_clear p w part (vector_plus p u v)) (sub.plus_in u v g h a.0 b.0)
        (is_clear-from p w part (vector_plus p u v) (λ j l k. at-plus p u v j (g.wide ∙ sym h.wide)
        ∙ ap (λ n. (n + at_place v j) % p) (is_clear-at p w part u a.1 j l k) ∙ ap (λ n. (0 + n) % p) (is_clear-at p w part v b.1 j l k) ∙ zero-mod p));
    multiple_in = λ a v l g e.
        let b = and_parts (whole v) (is_clear p w part v) e in
        and_from (whole (multiple p a v)) (is_clear p w part (multiple p a v)) (sub.multiple_in a v l g b.0)
        (is_clear-from p w part (multiple p a v) (λ j k f. at-multiple p a v j
        ∙ ap (λ n. (a * n) % p) (is_clear-at p w part v b.1 j k f) ∙ ap (λ n. n % p) (let q : a * 0 ≡ 0 = omega arith in q) ∙ zero-mod p));
  }

module _ (p w : ℕ) (field : IsField p) (whole part : Vector → Bool) (sub : IsSubspace p w whole) where
  pub complement-echelon : IsReducedEchelon p w (complement p w whole part)
  complement-echelon = basis-echelon p w field (λ v. whole v && is_clear p w part v) (clear-subspace p w whole part sub)

  pub complement-spans : Spans p w (complement p w whole part) (λ v. whole v && is_clear p w part v)
  complement-spans = basis-spans p w field (λ v. whole v && is_clear p w part v) (clear-subspace p w whole part sub)

module _ (p w : ℕ) (field : IsField p) (whole part : Vector → Bool) (sub : IsSubspace p w whole) (inner : IsSubspace p w part)
    (inside : (v : Vector) → IsVector p w v → part v ≡ true → whole v ≡ true) where
  pos : 0 < p
  pos = let l : 1 < p = field.one_is_not_zero in omega arith

  below-stairs : Stairs p w (reduced_basis p w part)
  below-stairs = Stairs-from p w (reduced_basis p w part) (basis-echelon p w field part inner)

  below-spans : Spans p w (reduced_basis p w part) part
  below-spans = basis-spans p w field part inner

  above-stairs : Stairs p w (complement p w whole part)
  above-stairs = Stairs-from p w (complement p w whole part) (complement-echelon p w field whole part sub)

  row-place : (s : Vector) → Among s (reduced_basis p w part) → lead s < w
  row-place s m =
      let one : at_place s (lead s) ≡ 1 = row-one p w (reduced_basis p w part) s below-stairs m in
      let wide : length s ≡ w = (row-vector p w (reduced_basis p w part) s below-stairs m).wide in
      let l : lead s < length s = lead-in s (lead s) (omega arith) in omega arith

  -- what is left of a vector of Z after its part in B is 0 at the leading places of B
  left-clear : (v : Vector) → IsVector p w v → whole v ≡ true → whole (remainder p w (reduced_basis p w part) v) && is_clear p w part (remainder p w (reduced_basis p w part) v) ≡ true
  left-clear v g e =
      let b = reduced_basis p w part in
      and_from _ _
      (within-remainder p w pos whole sub b v below-stairs
      (Each-from (λ r. whole r ≡ true) b (λ r m. inside r (row-vector p w b r below-stairs m) (row-within p w pos part b below-stairs below-spans r m))) g e)
      (is_clear-from p w part (remainder p w b v)
      (λ j l f. let s = lead-row p w pos part b below-stairs below-spans j l f in
      subst (λ n. at_place (remainder p w b v) n ≡ 0) s.2 (each-among (λ q. at_place (remainder p w b v) (lead q) ≡ 0) b s.0 (remainder-clear p w pos b v below-stairs g) s.1)))

  -- the vector of B has the entries of v at the leading places of B
  rest-at : (v cs t : Vector) → IsSplit p w (complement p w whole part) part v cs t → Each (λ s. at_place t (lead s) ≡ at_place v (lead s)) (reduced_basis p w part)
  rest-at v cs t h = Each-from (λ s. at_place t (lead s) ≡ at_place v (lead s)) (reduced_basis p w part)
      (λ s m.
      let y = combined-vector p pos w cs (complement p w whole part) (Stairs-wide p w (complement p w whole part) above-stairs) in
      let c = and_parts _ _ ((complement-spans p w field whole part sub (combined p w cs (complement p w whole part)) y).1 (cs, h.coefficients_in, refl)) in
      let none = is_clear-at p w part _ c.1 (lead s) (row-place s m) (row-lead p w pos part (reduced_basis p w part) below-stairs below-spans s m) in
      sym (sym (ap (λ x. at_place x (lead s)) h.sum_is)
      ∙ at-plus p _ t (lead s) (y.wide ∙ sym h.rest_in.wide) ∙ ap (λ n. (n + at_place t (lead s)) % p) none
      ∙ ap (λ n. n % p) (zero-add (at_place t (lead s))) ∙ mod-eq_of_lt (below-at p pos w t h.rest_in (lead s))))

  pub splits-once : (v : Vector) → IsVector p w v → whole v ≡ true → IsSplitOnce p w (complement p w whole part) part v
  splits-once v g e =
      let b = reduced_basis p w part in
      let rows = complement p w whole part in
      let x = remainder-vector p w pos b v below-stairs g in
      let c = (complement-spans p w field whole part sub (remainder p w b v) x).0 (left-clear v g e) in
      let u = combined-vector p pos w (coordinates b v) b (Stairs-wide p w b below-stairs) in
      let first : IsSplit p w rows part v c.0 (combined p w (coordinates b v) b) = record {
        coefficients_in = c.1;
        rest_in = u;
        rest_within = (below-spans (combined p w (coordinates b v) b) u).1 (coordinates b v, coordinates-vector p w pos b v g, refl);
        sum_is = ap (λ y. vector_plus p y (combined p w (coordinates b v) b)) c.2 ∙ remainder-sum p w pos b v below-stairs g;
      } in
      (c.0, combined p w (coordinates b v) b, first, λ ds t h. only v c.0 (combined p w (coordinates b v) b) ds t first h)
    where
      only : (v cs u ds t : Vector) → IsSplit p w (complement p w whole part) part v cs u → IsSplit p w (complement p w whole part) part v ds t → (ds ≡ cs) × (t ≡ u)
      only v cs u ds t h k =
          let b = reduced_basis p w part in
          let rows = complement p w whole part in
          let wide = Stairs-wide p w rows above-stairs in
          let rest : t ≡ u = same-at_leads p w b t u below-stairs ((below-spans t k.rest_in).0 k.rest_within) ((below-spans u h.rest_in).0 h.rest_within)
          (Each-both (λ s. at_place t (lead s) ≡ at_place v (lead s)) (λ s. at_place u (lead s) ≡ at_place v (lead s)) (λ s. at_place t (lead s) ≡ at_place u (lead s))
          (λ s a c. a ∙ sym c) b (rest-at v ds t k) (rest-at v cs u h)) in
          let both : combined p w ds rows ≡ combined p w cs rows =
          plus-cancel p w pos _ _ u (combined-vector p pos w ds rows wide) (combined-vector p pos w cs rows wide) h.rest_in
          (ap (vector_plus p (combined p w ds rows)) (sym rest) ∙ k.sum_is ∙ sym h.sum_is) in
          (sym (coordinates-combined p w rows ds above-stairs k.coefficients_in) ∙ ap (coordinates rows) both ∙ coordinates-combined p w rows cs above-stairs h.coefficients_in, rest)
