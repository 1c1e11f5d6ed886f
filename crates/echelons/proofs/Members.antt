-- Spans by their members: each vector of a list is a combination of it, and combinations of combinations are combinations.
use Rattle.std.proofs.Common.{◌≡◌, ◌⊎◌, ◌↔◌, inl, inr, ℕ, suc, ◌+◌, ◌*◌, ◌%◌, ◌<◌, true, List, [], ◌∷◌, ◌++◌, length, refl, ◌∙◌, ap, subst, arith}
use Rattle.std.proofs.Math.Nat.{mod-lt}
use Rattle.std.proofs.lemmas.Nat.{mul-mod_first}
use Rattle.std.proofs.lemmas.List.Elements.{recursion_from_All, All-from_recursion}
use Rattle.std.specs.List.{AllByRecursion as Each}
use Rattle.fp_field.specs.Field.{SameMod}
use Rattle.echelons.specs.Echelon.{Vector, IsVector, at_place, zeros, in_span, IsCombination}
use Rattle.fp_field.proofs.Mod.{same-plus}
use Rattle.echelons.proofs.Vectors.{vectors-wide, weight, weight-zeros, place-combined, combined-vector, zeros-vector, same-vector}
use Rattle.echelons.proofs.Lists.{Among, each-among, Each-from, among-append, among-left, among-right}
use Rattle.echelons.proofs.Basis.{within-combination}
use Rattle.echelons.proofs.Spans.{span-combination, combination-span, span-subspace}

module _ (p w : ℕ) (pos : 0 < p) where
  -- each vector of a list is a combination of it
  unit : (vs : List Vector) (v : Vector) → Among v vs → (cs : Vector) × IsVector p (length vs) cs × ((j : ℕ) → SameMod p (weight cs vs j) (at_place v j))
  unit [] v m = absurd m
  unit (u ∷ vs) v (inl e) = (
    1 % p ∷ zeros (length vs),
    record { wide = ap suc (zeros-vector p pos (length vs)).wide; below = All-from_recursion (λ a. a < p) (1 % p ∷ zeros (length vs)) (mod-lt 1 pos, recursion_from_All (λ a. a < p) (zeros (length vs)) (zeros-vector p pos (length vs)).below) },
    λ j. same-plus p (1 % p * at_place u j) (1 * at_place u j) (weight (zeros (length vs)) vs j) 0 (mul-mod_first 1 (at_place u j) p) (ap (λ n. n % p) (weight-zeros p (length vs) vs j))
        ∙ ap (λ n. n % p) (let q : 1 * at_place u j + 0 ≡ at_place u j = omega arith in q) ∙ ap (λ x. at_place x j % p) e,
  )
  unit (u ∷ vs) v (inr m) =
      let r = unit vs v m in (
        0 ∷ r.0,
        record { wide = ap suc r.1.wide; below = All-from_recursion (λ a. a < p) (0 ∷ r.0) (pos, recursion_from_All (λ a. a < p) r.0 r.1.below) },
        λ j. ap (λ n. n % p) (let q : 0 * at_place u j + weight r.0 vs j ≡ weight r.0 vs j = omega arith in q) ∙ r.2 j,
      )

  pub member-combination : (vs : List Vector) (v : Vector) → Each (IsVector p w) vs → Among v vs → IsCombination p w vs v
  member-combination vs v h m =
      let r = unit vs v m in
      let wide = vectors-wide p w vs h in
      (r.0, r.1, same-vector p pos w _ v (combined-vector p pos w r.0 vs wide) (each-among (IsVector p w) vs v h m) (λ j. place-combined p w r.0 vs j wide ∙ r.2 j))

  -- combinations of combinations
  pub combination-chain : (vs others : List Vector) (v : Vector) → Each (IsVector p w) vs → Each (IsVector p w) others
      → Each (λ u. in_span p w others u ≡ true) vs → IsCombination p w vs v → IsCombination p w others v
  combination-chain vs others v h g e c = span-combination p w others v
      (within-combination p w pos (in_span p w others) (span-subspace p w pos others (vectors-wide p w others g)) vs v h e c)

  pub member-span : (vs : List Vector) (v : Vector) → Each (IsVector p w) vs → Among v vs → in_span p w vs v ≡ true
  member-span vs v h m = combination-span p w vs v (member-combination vs v h m)

  -- each vector of one list in the span of the other, and the other way round
  pub same-span : (us vs : List Vector) → Each (IsVector p w) us → Each (IsVector p w) vs → Each (λ u. in_span p w vs u ≡ true) us → Each (λ v. in_span p w us v ≡ true) vs
      → (x : Vector) → IsCombination p w us x ↔ IsCombination p w vs x
  same-span us vs g h e f x = (combination-chain us vs x g h e, combination-chain vs us x h g f)

  -- a vector of the span adds nothing
  pub span-kept : (rows : List Vector) (v : Vector) → Each (IsVector p w) rows → IsVector p w v → IsCombination p w rows v
      → (x : Vector) → IsCombination p w (v ∷ rows) x ↔ IsCombination p w rows x
  span-kept rows v h g c = same-span (v ∷ rows) rows (g, h) h
      (combination-span p w rows v c, Each-from (λ r. in_span p w rows r ≡ true) rows (λ r m. member-span rows r h m))
      (Each-from (λ r. in_span p w (v ∷ rows) r ≡ true) rows (λ r m. member-span (v ∷ rows) r (g, h) (inr m)))

  -- one vector more, before the rows and at the end of the vectors that they span
  pub span-more : (rows vs : List Vector) (v : Vector) → Each (IsVector p w) rows → Each (IsVector p w) vs → IsVector p w v
      → ((x : Vector) → IsCombination p w rows x ↔ IsCombination p w vs x) → (x : Vector) → IsCombination p w (v ∷ rows) x ↔ IsCombination p w (vs ++ v ∷ []) x
  span-more rows vs v h k g same = same-span (v ∷ rows) (vs ++ v ∷ []) (g, h) all (
    member-span (vs ++ v ∷ []) v all (among-right vs (v ∷ []) v (inl refl)),
    Each-from (λ r. in_span p w (vs ++ v ∷ []) r ≡ true) rows (λ r m. combination-span p w (vs ++ v ∷ []) r
        (combination-chain vs (vs ++ v ∷ []) r k all (Each-from (λ u. in_span p w (vs ++ v ∷ []) u ≡ true) vs (λ u n. member-span (vs ++ v ∷ []) u all (among-left vs (v ∷ []) u n)))
        ((same r).0 (member-combination rows r h m)))),
  )
      (Each-from (λ u. in_span p w (v ∷ rows) u ≡ true) (vs ++ v ∷ []) (λ u n. back u (among-append vs (v ∷ []) u n)))
    where
      all : Each (IsVector p w) (vs ++ v ∷ [])
      all = Each-from (IsVector p w) (vs ++ v ∷ []) (λ u n. by u (among-append vs (v ∷ []) u n))
        where
          by : (u : Vector) → Among u vs ⊎ Among u (v ∷ []) → IsVector p w u
          by u (inl n) = each-among (IsVector p w) vs u k n
          by u (inr (inl e)) = subst (IsVector p w) e g
          by u (inr (inr n)) = absurd n

      back : (u : Vector) → Among u vs ⊎ Among u (v ∷ []) → in_span p w (v ∷ rows) u ≡ true
      back u (inl n) = combination-span p w (v ∷ rows) u
          (combination-chain rows (v ∷ rows) u h (g, h) (Each-from (λ r. in_span p w (v ∷ rows) r ≡ true) rows (λ r m. member-span (v ∷ rows) r (g, h) (inr m)))
          ((same u).1 (member-combination vs u k n)))
      back u (inr (inl e)) = subst (λ q. in_span p w (v ∷ rows) q ≡ true) e (member-span (v ∷ rows) v (g, h) (inl refl))
      back u (inr (inr n)) = absurd n
