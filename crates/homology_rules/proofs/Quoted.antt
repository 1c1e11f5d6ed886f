-- Chains of cells and their quotes: sums, images under maps, and what holds of each cell.
use Rattle.std.proofs.Common.{◌≡◌, ℕ, ◌*◌, List, [], ◌∷◌, ◌++◌, map, refl, sym, ◌∙◌, ap}
use Rattle.std.specs.List.{AllByRecursion as Every}
use Rattle.fp_field.specs.Chains.{Terms, Each, scale, extend, combination}
use Rattle.oracle_iface.proofs.CarriedChains.{carried_terms}

module _ {K J : Type 0} (q : K → J) where
  pub carried-append : (c d : Terms K) → carried_terms q (c ++ d) ≡ carried_terms q c ++ carried_terms q d
  carried-append [] d = refl
  carried-append (t ∷ c) d = ap (λ e. (q t.0, t.1) ∷ e) (carried-append c d)

  pub carried-scale : (n : ℕ) (c : Terms K) → scale n (carried_terms q c) ≡ carried_terms q (scale n c)
  carried-scale n [] = refl
  carried-scale n (t ∷ c) = ap (λ e. (q t.0, n * t.1) ∷ e) (carried-scale n c)

  pub carried-combination : (v : List ℕ) (ds : List (Terms K)) → combination v (map (carried_terms q) ds) ≡ carried_terms q (combination v ds)
  carried-combination [] ds = refl
  carried-combination (b ∷ v) [] = refl
  carried-combination (b ∷ v) (d ∷ ds) =
      (λ i. carried-scale b d i ++ carried-combination v ds i) ∙ sym (carried-append (scale b d) (combination v ds))

-- a map of chains that is the quote of another one at each cell
pub carried-extend : {K L J M : Type 0} (q : K → L) (r : J → M) (image : L → Terms M) (typed : K → Terms J) (c : Terms K)
    → Each (λ x. image (q x) ≡ carried_terms r (typed x)) c → extend image (carried_terms q c) ≡ carried_terms r (extend typed c)
carried-extend q r image typed [] h = refl
carried-extend q r image typed (t ∷ c) h =
    (λ i. scale t.1 (h.0 i) ++ carried-extend q r image typed c h.1 i)
    ∙ ap (λ d. d ++ carried_terms r (extend typed c)) (carried-scale r t.1 (typed t.0))
    ∙ sym (carried-append r (scale t.1 (typed t.0)) (extend typed c))

-- ---- what holds of each cell

module _ {K : Type 0} (P : K → Type 0) where
  pub each-append : (c d : Terms K) → Each P c → Each P d → Each P (c ++ d)
  each-append [] d h e = e
  each-append (t ∷ c) d h e = (h.0, each-append c d h.1 e)

  pub each-scale : (n : ℕ) (c : Terms K) → Each P c → Each P (scale n c)
  each-scale n [] h = tt
  each-scale n (t ∷ c) h = (h.0, each-scale n c h.1)

  pub each-combination : (v : List ℕ) (ds : List (Terms K)) → Every (Each P) ds → Each P (combination v ds)
  each-combination [] ds h = tt
  each-combination (b ∷ v) [] h = tt
  each-combination (b ∷ v) (d ∷ ds) h = each-append (scale b d) (combination v ds) (each-scale b d h.0) (each-combination v ds h.1)

  pub each-weaker : (Q : K → Type 0) (c : Terms K) → ((x : K) → P x → Q x) → Each P c → Each Q c
  each-weaker Q [] f h = tt
  each-weaker Q (t ∷ c) f h = (f t.0 h.0, each-weaker Q c f h.1)

pub each-extend : {K J : Type 0} (P : J → Type 0) (typed : K → Terms J) (c : Terms K) → Each (λ x. Each P (typed x)) c → Each P (extend typed c)
each-extend P typed [] h = tt
each-extend P typed (t ∷ c) h =
    each-append P (scale t.1 (typed t.0)) (extend typed c) (each-scale P t.1 (typed t.0) h.0) (each-extend P typed c h.1)
