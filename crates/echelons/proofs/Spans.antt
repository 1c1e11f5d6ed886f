-- The span of vectors, the kernel of a linear map and the null space of a matrix are subspaces.
use Rattle.std.proofs.Common.{◌≡◌, ℕ, zero, suc, ◌+◌, ◌*◌, ◌%◌, ◌<◌, Bool, true, eqb, List, [], ◌∷◌, length, refl, sym, ◌∙◌, ap, arith}
use Rattle.std.proofs.Math.Nat.{mod-lt, mod-eq_of_lt, mod-mod, zero-mod}
use Rattle.std.proofs.lemmas.Nat.{mul-mod_second}
use Rattle.std.proofs.lemmas.Bool.{eqb-true, eq-eqb}
use Rattle.std.specs.Cmp.Lexicographic.{pointwise, bytes_decides}
use Rattle.fp_field.specs.Field.{SameMod}
use Rattle.echelons.specs.Echelon.{Vector, zeros, vector_plus, multiple, combined, dot, vectors, in_span, in_kernel, in_null_space, IsSubspace, IsCombination, Spans}
use Rattle.fp_field.proofs.Mod.{same-plus, same-times}
use Rattle.echelons.proofs.Vectors.{plus-zeros, multiple-zeros, Wide, length-combined, place-plus, place-multiple, place-combined, place-zeros, plus-vector, multiple-vector, combined-vector, zeros-vector, same-vector, weight-zeros, weight-plus, weight-multiple}
use Rattle.echelons.proofs.Lists.{Among, any-from, any-among, all-among, all-from, vectors-among, among-vectors}

module _ (p w : ℕ) where
  pub span-combination : (vs : List Vector) (v : Vector) → in_span p w vs v ≡ true → IsCombination p w vs v
  span-combination vs v e =
      let r = any-from (λ cs. pointwise eqb (combined p w cs vs) v) (vectors p (length vs)) e in
      (r.0, vectors-among p (length vs) r.0 r.1, (bytes_decides (combined p w r.0 vs) v).0 r.2)

  pub combination-span : (vs : List Vector) (v : Vector) → IsCombination p w vs v → in_span p w vs v ≡ true
  combination-span vs v c =
      any-among (λ cs. pointwise eqb (combined p w cs vs) v) (vectors p (length vs)) c.0 (among-vectors p (length vs) c.0 c.1) ((bytes_decides (combined p w c.0 vs) v).1 c.2)

  -- vectors span their span
  pub spans-span : (vs : List Vector) → Spans p w vs (in_span p w vs)
  spans-span vs v h = (span-combination vs v, combination-span vs v)

  module _ (pos : 0 < p) (vs : List Vector) (wide : Wide w vs) where
    pub combined-zeros : combined p w (zeros (length vs)) vs ≡ zeros w
    combined-zeros =
        same-vector p pos w _ (zeros w) (combined-vector p pos w _ vs wide) (zeros-vector p pos w)
        (λ j. place-combined p w _ vs j wide ∙ ap (λ n. n % p) (weight-zeros p (length vs) vs j ∙ sym (place-zeros w j)))

    pub combined-plus : (cs ds : List ℕ) → length cs ≡ length ds → combined p w (vector_plus p cs ds) vs ≡ vector_plus p (combined p w cs vs) (combined p w ds vs)
    combined-plus cs ds e =
        let f = length-combined p w cs vs wide in
        let g = length-combined p w ds vs wide in
        same-vector p pos w _ _ (combined-vector p pos w _ vs wide) (plus-vector p pos w _ _ f g)
        (λ j. place-combined p w _ vs j wide ∙ weight-plus p cs ds vs j e
        ∙ same-plus p _ _ _ _ (sym (place-combined p w cs vs j wide)) (sym (place-combined p w ds vs j wide)) ∙ sym (place-plus p _ _ j (f ∙ sym g)))

    pub combined-multiple : (a : ℕ) (cs : List ℕ) → combined p w (multiple p a cs) vs ≡ multiple p a (combined p w cs vs)
    combined-multiple a cs =
        same-vector p pos w _ _ (combined-vector p pos w _ vs wide) (multiple-vector p pos w a _ (length-combined p w cs vs wide))
        (λ j. place-combined p w _ vs j wide ∙ weight-multiple p a cs vs j ∙ same-times p a _ _ (sym (place-combined p w cs vs j wide)) ∙ sym (place-multiple p a _ j))

    -- what is spanned by vectors is a subspace
    pub spanned-subspace : (within : Vector → Bool) → Spans p w vs within → IsSubspace p w within
    spanned-subspace within spans = record {
      zero_in = (spans (zeros w) (zeros-vector p pos w)).1 (zeros (length vs), zeros-vector p pos (length vs), combined-zeros);
      plus_in = λ u v g h e f.
          let c = (spans u g).0 e in
          let d = (spans v h).0 f in
          (spans (vector_plus p u v) (plus-vector p pos w u v g.wide h.wide)).1 (
            vector_plus p c.0 d.0,
            plus-vector p pos (length vs) c.0 d.0 c.1.wide d.1.wide,
            combined-plus c.0 d.0 (c.1.wide ∙ sym d.1.wide) ∙ ap (λ x. vector_plus p x (combined p w d.0 vs)) c.2 ∙ ap (vector_plus p u) d.2,
          );
      multiple_in = λ a v l g e.
          let c = (spans v g).0 e in
          (spans (multiple p a v) (multiple-vector p pos w a v g.wide)).1
          (multiple p a c.0, multiple-vector p pos (length vs) a c.0 c.1.wide, combined-multiple a c.0 ∙ ap (multiple p a) c.2);
    }

    pub span-subspace : IsSubspace p w (in_span p w vs)
    span-subspace = spanned-subspace (in_span p w vs) (spans-span vs)

    pub kernel-at : (v : Vector) → in_kernel p w vs v ≡ true → combined p w v vs ≡ zeros w
    kernel-at v e = (bytes_decides (combined p w v vs) (zeros w)).0 e

    pub kernel-from : (v : Vector) → combined p w v vs ≡ zeros w → in_kernel p w vs v ≡ true
    kernel-from v e = (bytes_decides (combined p w v vs) (zeros w)).1 e

    -- the kernel of the linear map with these images of the unit vectors
    pub kernel-subspace : IsSubspace p (length vs) (in_kernel p w vs)
    kernel-subspace = record {
      zero_in = kernel-from (zeros (length vs)) combined-zeros;
      plus_in = λ u v g h e f. kernel-from (vector_plus p u v)
          (combined-plus u v (g.wide ∙ sym h.wide) ∙ ap (λ x. vector_plus p x (combined p w v vs)) (kernel-at u e) ∙ ap (vector_plus p (zeros w)) (kernel-at v f) ∙ plus-zeros p w);
      multiple_in = λ a v l g e. kernel-from (multiple p a v) (combined-multiple a v ∙ ap (multiple p a) (kernel-at v e) ∙ multiple-zeros p a w);
    }

-- ---- the null space

module _ (p : ℕ) (pos : 0 < p) where
  dot-below : (u v : Vector) → dot p u v < p
  dot-below [] v = pos
  dot-below (a ∷ u) [] = pos
  dot-below (a ∷ u) (b ∷ v) = mod-lt (a * b + dot p u v) pos

  dot-zeros : (u : Vector) (w : ℕ) → dot p u (zeros w) ≡ 0
  dot-zeros [] w = refl
  dot-zeros (a ∷ u) zero = refl
  dot-zeros (a ∷ u) (suc w) = ap (λ n. n % p) (let q : a * 0 + dot p u (zeros w) ≡ 0 = omega (arith, dot-zeros u w) in q) ∙ zero-mod p

  dot-plus : (r u v : Vector) → length u ≡ length v → SameMod p (dot p r (vector_plus p u v)) (dot p r u + dot p r v)
  dot-plus [] u v e = refl
  dot-plus (a ∷ r) [] [] e = refl
  dot-plus (a ∷ r) [] (c ∷ v) e = absurd (omega arith)
  dot-plus (a ∷ r) (b ∷ u) [] e = absurd (omega arith)
  dot-plus (a ∷ r) (b ∷ u) (c ∷ v) e =
      mod-mod (a * ((b + c) % p) + dot p r (vector_plus p u v)) p
      ∙ same-plus p (a * ((b + c) % p)) (a * (b + c)) (dot p r (vector_plus p u v)) (dot p r u + dot p r v) (mul-mod_second a (b + c) p) (dot-plus r u v (omega arith))
      ∙ ap (λ n. n % p) (let q : a * (b + c) + (dot p r u + dot p r v) ≡ (a * b + dot p r u) + (a * c + dot p r v) = omega arith in q)
      ∙ same-plus p (a * b + dot p r u) ((a * b + dot p r u) % p) (a * c + dot p r v) ((a * c + dot p r v) % p) (sym (mod-mod (a * b + dot p r u) p)) (sym (mod-mod (a * c + dot p r v) p))

  dot-multiple : (x : ℕ) (r v : Vector) → SameMod p (dot p r (multiple p x v)) (x * dot p r v)
  dot-multiple x [] v = ap (λ n. n % p) (let q : 0 ≡ x * 0 = omega arith in q)
  dot-multiple x (a ∷ r) [] = ap (λ n. n % p) (let q : 0 ≡ x * 0 = omega arith in q)
  dot-multiple x (a ∷ r) (b ∷ v) =
      mod-mod (a * ((x * b) % p) + dot p r (multiple p x v)) p
      ∙ same-plus p (a * ((x * b) % p)) (a * (x * b)) (dot p r (multiple p x v)) (x * dot p r v) (mul-mod_second a (x * b) p) (dot-multiple x r v)
      ∙ ap (λ n. n % p) (let q : a * (x * b) + x * dot p r v ≡ x * (a * b + dot p r v) = omega arith in q)
      ∙ sym (mul-mod_second x (a * b + dot p r v) p)

  dot-none : (r v : Vector) → SameMod p (dot p r v) 0 → dot p r v ≡ 0
  dot-none r v e = sym (mod-eq_of_lt (dot-below r v)) ∙ e ∙ zero-mod p

  module _ (rows : List Vector) where
    pub null-at : (v : Vector) → in_null_space p rows v ≡ true → (r : Vector) → Among r rows → dot p r v ≡ 0
    null-at v e r m = eqb-true (dot p r v) 0 (all-among (λ s. eqb (dot p s v) 0) rows r e m)

    pub null-from : (v : Vector) → ((r : Vector) → Among r rows → dot p r v ≡ 0) → in_null_space p rows v ≡ true
    null-from v h = all-from (λ s. eqb (dot p s v) 0) rows (λ r m. eq-eqb (dot p r v) 0 (h r m))

    pub null_space-subspace : (w : ℕ) → IsSubspace p w (in_null_space p rows)
    null_space-subspace w = record {
      zero_in = null-from (zeros w) (λ r m. dot-zeros r w);
      plus_in = λ u v g h e f. null-from (vector_plus p u v) (λ r m. dot-none r (vector_plus p u v)
          (dot-plus r u v (g.wide ∙ sym h.wide) ∙ ap (λ n. (n + dot p r v) % p) (null-at u e r m) ∙ ap (λ n. (0 + n) % p) (null-at v f r m)));
      multiple_in = λ a v l g e. null-from (multiple p a v) (λ r m. dot-none r (multiple p a v)
          (dot-multiple a r v ∙ ap (λ n. (a * n) % p) (null-at v e r m) ∙ ap (λ n. n % p) (let q : a * 0 ≡ 0 = omega arith in q)));
    }
