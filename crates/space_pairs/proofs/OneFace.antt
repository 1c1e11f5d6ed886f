-- The chain of one face.
use Rattle.std.proofs.Common.{◌≡◌, ℕ, suc, ◌+◌, ◌-◌, ◌*◌, ◌%◌, ◌^◌, ◌<◌, ◌≤◌, [], ◌∷◌, Result, Ok, Err, sym, ◌∙◌, ap, subst, arith}
use Rattle.std.specs.Result.{IfOk}
use Rattle.fp_field.specs.Chains.{Terms, weigh, Each}
use Rattle.fp_field.specs.Normal.{normal}
use Rattle.fp_field.specs.Reduction.{one}
use Rattle.fp_field.proofs.FlowLaws.{Each-normal}
use Rattle.fp_field.proofs.Normals.{weigh-normal}
use Rattle.cells.specs.declared.cells.Simplex.{Simplex}
use Rattle.cells.specs.Dim.{degree_of}
use Rattle.cells.specs.Order.{simplex_cmp}
use Rattle.cells.proofs.OneKey.{one_simplex}
use Rattle.spaces.specs.Spaces.{Space, set_of}
use Rattle.term_lang.specs.Belongs.{IsSimplex}
use Rattle.term_lang.specs.Forms.{form}
use Rattle.oracle_iface.specs.CodeSizes.{cell_integer}
use Rattle.normal_forms.proofs.BuiltForms.{built_forms}
use Rattle.ez_laws.specs.Weights.{SameWeights}
use Rattle.ez_laws.specs.Sides.{on_keys}
use Rattle.ez_flow.proofs.Pushes.{weigh-on-keys}
use Rattle.space_faces.specs.Built.{IsAllowedBuilt}
use Rattle.space_pairs.specs.Parts.{IsReached, reached_degree}
use Rattle.space_pairs.specs.Reach.{reach}
use Rattle.space_pairs.specs.ReachLaws.{reach_face, code_reach}

pub one-each : (P : Simplex → Type 0) (p : ℕ) (y : Simplex) (terms old : Terms Simplex) → terms ≡ normal simplex_cmp p ((y, 1) ∷ old) → old ≡ [] → P y → Each P terms
one-each P p y terms old e z h = subst (Each P) (sym (e ∙ ap (λ l. normal simplex_cmp p ((y, 1) ∷ l)) z)) (Each-normal P simplex_cmp p ((y, 1) ∷ []) (h, tt))

pub one-weights : {K : Type 0} (p : ℕ) (form : Simplex → K) (y : Simplex) (x : K) (terms old : Terms Simplex) → terms ≡ normal simplex_cmp p ((y, 1) ∷ old) → old ≡ [] → form y ≡ x
    → SameWeights p (on_keys form terms) (one x)
one-weights p form y x terms old e z f = λ w.
    ap (λ k. k % p) (weigh-on-keys w form terms ∙ ap (weigh (λ s. w (form s))) (e ∙ ap (λ l. normal simplex_cmp p ((y, 1) ∷ l)) z))
    ∙ weigh-normal simplex_cmp p one_simplex (λ s. w (form s)) ((y, 1) ∷ [])
    ∙ ap (λ k. (1 * w k + 0) % p) f

-- what follows from two facts of what was told
pub if_both : {T E : Type 0} (r : Result T E) (P Q R : T → Type 0) → ((x : T) → P x → Q x → R x) → IfOk r P → IfOk r Q → IfOk r R
if_both (Ok x) P Q R h p q = h x p q
if_both (Err e) P Q R h p q = tt

module _ (X : Space) (kept : IsAllowedBuilt X) (m n : ℕ) (s : Simplex) (h : IsReached X m (suc n) s) where
  pub face-simplex : IsSimplex X (degree_of s) s
  face-simplex = subst (λ k. IsSimplex X k s) (sym (reached_degree X kept m (suc n) s h)) h.0

  pub face-degree : degree_of s ≡ suc n
  face-degree = reached_degree X kept m (suc n) s h

  pub face-within : m ≤ 2 ^ 40 → (degree_of s ≤ 32) × (cell_integer s.cell ≤ 2 ^ 40)
  face-within l = (omega (arith, face-degree, h.1), omega (arith, code_reach X kept (suc n) h.1 s h.0, h.2, l))

  -- a face of any degree that the simplex has
  pub face-reached : (i : ℕ) → i ≤ suc n → (k : ℕ) (y : Simplex) → IsReached X m (suc k) s → IsSimplex X (degree_of s - 1) y
      → form y X ≡ (set_of X).face i (form s X) → IsReached X m k y
  face-reached i l k y r q e =
      let d = reached_degree X kept m (suc k) s r in
      let f : reach X (form y X) ≡ reach X ((set_of X).face i (form s X)) = ap (reach X) e in
      let is : (set_of X).In (suc n) (form s X) = (built_forms X kept.0 kept.1 (suc n) h.1).simplex s h.0 in
      let lower = reach_face X kept.0.0 n i (form s X) (let b : n < 32 = omega (arith, h.1) in b) is l in
      (subst (λ k. IsSimplex X k y) (let e : degree_of s - 1 ≡ k = omega (arith, d) in e) q, omega (arith, r.1), omega (arith, f, lower, h.2))
