-- Keys that are asked for one after the other: a step of the walk along them.
use Rattle.std.proofs.Common.{◌≡◌, ℕ, zero, suc, ◌+◌, ◌<◌, List, [], ◌∷◌, ◌++◌, map, length, take, drop, get_or, Option, Some, None, refl, sym, ◌∙◌, ap, subst, arith}
use Rattle.std.specs.Prelude.{Result}
use Rattle.std.proofs.Math.Seq.{take-suc, drop-cons}
use Rattle.std.proofs.lemmas.List.{map-append, take-append-drop}
use Rattle.std.specs.declared.alloc.AllocError.{AllocError}
use Rattle.oracle_iface.specs.declared.keys.Key.{Key}
use Rattle.oracle_iface.specs.declared.bodies.Over.{Over}
use Rattle.oracle_iface.specs.declared.bodies.Outcome.{Outcome}
use Rattle.oracle_iface.specs.declared.cell_values.CellValue.{CellValue}
use Rattle.oracle_iface.specs.Forcing.{Calls, Asked, asked-both}
use Rattle.homology_rules.specs.Asking.{outcome_of, refusal_in, first_refusal, up_to_refusal, MayForceEach, AskedFirst}

-- the outcome of a cell is that of its key
pub outcome-of_cell : (v : CellValue) → v.outcome ≡ outcome_of v.key
unfolding outcome_of
outcome-of_cell v = v.right

-- the refusal of a key, from its cell
pub refusal-of_cell : (v x : CellValue) (j k : Key) (o : Outcome) → x ≡ v → x.outcome ≡ o → v.key ≡ j → j ≡ k → refusal_in (outcome_of k) ≡ refusal_in o
refusal-of_cell v x j k o e is h f =
    ap (λ q. refusal_in (outcome_of q)) (sym (h ∙ f)) ∙ sym (ap refusal_in (outcome-of_cell v)) ∙ ap (λ y. refusal_in y.outcome) (sym e) ∙ ap refusal_in is

-- none is refused: neither the first nor the others
pub none-split : (k : Key) (ks : List Key) → first_refusal (k ∷ ks) ≡ None → (refusal_in (outcome_of k) ≡ None) × (first_refusal ks ≡ None)
none-split k ks h = by (refusal_in (outcome_of k)) h
  where
    by : (o : Option Over) → (let a : Option Over = elim o [ Some w ↦ Some w | None ↦ first_refusal ks ] in a) ≡ None → (o ≡ None) × (first_refusal ks ≡ None)
    by None e = (refl, e)
    by (Some w) e = absurd (cc)

-- ---- the keys up to a refusal

pub up-none : (ks js : List Key) → first_refusal ks ≡ None → up_to_refusal (ks ++ js) ≡ ks ++ up_to_refusal js
up-none [] js h = refl
up-none (k ∷ ks) js h =
    let s = none-split k ks h in
    ap (λ o. k ∷ (let a : List Key = elim o [ Some w ↦ [] | None ↦ up_to_refusal (ks ++ js) ] in a)) s.0 ∙ ap (λ z. k ∷ z) (up-none ks js s.1)

pub up-whole : (ks : List Key) → first_refusal ks ≡ None → up_to_refusal ks ≡ ks
up-whole [] h = refl
up-whole (k ∷ ks) h =
    let s = none-split k ks h in ap (λ o. k ∷ (let a : List Key = elim o [ Some w ↦ [] | None ↦ up_to_refusal ks ] in a)) s.0 ∙ ap (λ z. k ∷ z) (up-whole ks s.1)

pub up-prefix : (ks js : List Key) → (c : List Key) × (up_to_refusal (ks ++ js) ≡ up_to_refusal ks ++ c)
up-prefix [] js = (up_to_refusal js, refl)
up-prefix (k ∷ ks) js = by (refusal_in (outcome_of k)) (up-prefix ks js)
  where
    by : (o : Option Over) → (c : List Key) × (up_to_refusal (ks ++ js) ≡ up_to_refusal ks ++ c)
        → (c : List Key) × (k ∷ (let a : List Key = elim o [ Some w ↦ [] | None ↦ up_to_refusal (ks ++ js) ] in a) ≡ k ∷ (let b : List Key = elim o [ Some w ↦ [] | None ↦ up_to_refusal ks ] in b) ++ c)
    by None h = (h.0, ap (λ z. k ∷ z) h.1)
    by (Some w) h = ([], refl)

up-take : (ks : List Key) (i : ℕ) → first_refusal (take i ks) ≡ None → i < length ks → take (suc i) (up_to_refusal ks) ≡ take (suc i) ks
up-take [] i h l = absurd (omega arith)
up-take (k ∷ ks) zero h l = refl
up-take (k ∷ ks) (suc i) h l =
    let s = none-split k (take i ks) h in
    ap (λ o. k ∷ take (suc i) (let a : List Key = elim o [ Some w ↦ [] | None ↦ up_to_refusal ks ] in a)) s.0 ∙ ap (λ z. k ∷ z) (up-take ks i s.1 (omega arith))

-- ---- refusals along two lists

abbrev pub or_then : Option Over → Option Over → Option Over
or_then None o = o
or_then (Some w) o = Some w

pub refusal-append : (ks js : List Key) → first_refusal (ks ++ js) ≡ or_then (first_refusal ks) (first_refusal js)
refusal-append [] js = refl
refusal-append (k ∷ ks) js = by (refusal_in (outcome_of k)) (refusal-append ks js)
  where
    by : (o : Option Over) → first_refusal (ks ++ js) ≡ or_then (first_refusal ks) (first_refusal js)
        → (let a : Option Over = elim o [ Some w ↦ Some w | None ↦ first_refusal (ks ++ js) ] in a)
        ≡ or_then (let b : Option Over = elim o [ Some w ↦ Some w | None ↦ first_refusal ks ] in b) (first_refusal js)
    by (Some w) ih = refl
    by None ih = ih

pub refusal-one : (k : Key) (o : Option Over) → refusal_in (outcome_of k) ≡ o → first_refusal (k ∷ []) ≡ o
refusal-one k o e = by (refusal_in (outcome_of k)) ∙ e
  where
    by : (u : Option Over) → (let a : Option Over = elim u [ Some w ↦ Some w | None ↦ None ] in a) ≡ u
    by (Some w) = refl
    by None = refl

module _ (ks : List Key) (i : ℕ) (k : Key) (l : i < length ks) (k_is : k ≡ get_or ks i k) where
  taken-more : take (suc i) ks ≡ take i ks ++ k ∷ []
  taken-more = take-suc ks i k l ∙ ap (λ x. take i ks ++ x ∷ []) (sym k_is)

  left-more : drop i ks ≡ k ∷ drop (suc i) ks
  left-more = drop-cons ks i k l ∙ ap (λ x. x ∷ drop (suc i) ks) (sym k_is)

  whole : ks ≡ take i ks ++ k ∷ drop (suc i) ks
  whole = sym (take-append-drop i ks) ∙ ap (λ x. take i ks ++ x) left-more

  -- none of the first keys is refused, nor is this one
  pub none_more : first_refusal (take i ks) ≡ None → refusal_in (outcome_of k) ≡ None → first_refusal (take (i + 1) ks) ≡ None
  none_more h e =
      ap (λ n. first_refusal (take n ks)) (let q : i + 1 ≡ suc i = omega arith in q) ∙ ap first_refusal taken-more ∙ refusal-append (take i ks) (k ∷ [])
      ∙ ap (λ o. or_then o (first_refusal (k ∷ []))) h ∙ refusal-one k None e

  -- none of the first keys is refused, and this one is
  pub refusal_found : (w : Over) → first_refusal (take i ks) ≡ None → refusal_in (outcome_of k) ≡ Some w → first_refusal ks ≡ Some w
  refusal_found w h e =
      ap first_refusal whole ∙ refusal-append (take i ks) (k ∷ drop (suc i) ks) ∙ ap (λ o. or_then o (first_refusal (k ∷ drop (suc i) ks))) h
      ∙ ap first_refusal (let q : k ∷ drop (suc i) ks ≡ (k ∷ []) ++ drop (suc i) ks = refl in q) ∙ refusal-append (k ∷ []) (drop (suc i) ks)
      ∙ ap (λ o. or_then o (first_refusal (drop (suc i) ks))) (refusal-one k (Some w) e)

  pub keys_more : (cells : List CellValue) (v : CellValue) (new : List CellValue) → new ≡ cells ++ v ∷ [] → v.key ≡ k
      → map (λ x. x.key) cells ≡ take i ks → map (λ x. x.key) new ≡ take (i + 1) ks
  keys_more cells v new e f h =
      ap (map (λ x. x.key)) e ∙ map-append (λ x. x.key) cells (v ∷ []) ∙ ap (λ x. x ++ v.key ∷ []) h ∙ ap (λ x. take i ks ++ x ∷ []) f
      ∙ sym taken-more ∙ ap (λ n. take n ks) (let q : suc i ≡ i + 1 = omega arith in q)

  module _ {F : Type 0} (may : F → Key → Type 0) (calls : Calls F) (s t u : F) where
    pub may_now : MayForceEach may calls t (drop i ks) → may t k
    may_now h = (subst (MayForceEach may calls t) left-more h).0

    pub may_then : (r : Result CellValue AllocError) → calls t k r u → refusal_in (outcome_of k) ≡ None → MayForceEach may calls t (drop i ks) → MayForceEach may calls u (drop (i + 1) ks)
    may_then r c e h =
        subst (λ n. MayForceEach may calls u (drop n ks)) (let q : suc i ≡ i + 1 = omega arith in q)
        ((subst (MayForceEach may calls t) left-more h).1 r u c e)

    pub asked_more : (r : Result CellValue AllocError) → calls t k r u → Asked calls s (take i ks) t → Asked calls s (take (i + 1) ks) u
    asked_more r c h =
        subst (λ x. Asked calls s x u) (sym taken-more ∙ ap (λ n. take n ks) (let q : suc i ≡ i + 1 = omega arith in q))
        (asked-both calls s t u (take i ks) (k ∷ []) h (u, r, c, refl))

    pub first_more : (r : Result CellValue AllocError) → calls t k r u → first_refusal (take i ks) ≡ None → Asked calls s (take i ks) t → AskedFirst calls ks s u
    first_more r c e h = (
      suc i,
      subst (λ x. Asked calls s x u) (ap (λ n. take n ks) (let q : i + 1 ≡ suc i = omega arith in q) ∙ sym (up-take ks i e l)) (asked_more r c h),
    )
