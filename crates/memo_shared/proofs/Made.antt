-- A pass and its parts, as they are made.
use Rattle.std.proofs.Common.{◌≡◌, ⊎_elim, ℕ, ◌+◌, ◌<◌, ◌≤◌, ap, List, [], length, slice_get, sym, ◌∙◌, subst, Some}
use Rattle.std.proofs.lemmas.Bool.{cases_lt}
use Rattle.std.proofs.lemmas.Option.{slice_get_within, slice_get_past}
use Rattle.memo_book.proofs.Lists.{some_same, got}
use Rattle.turnstile.specs.declared.counted.Counted.{Ghosts}
use Rattle.turnstile.specs.declared.pass.Pass.{Pass}
use Rattle.turnstile.specs.declared.pass.Turnstile.{Turnstile}
use Rattle.turnstile.specs.Passes.{made}
use Rattle.memo_shared.specs.Shared.{AtEach, IsPart, IsFresh, IsSplit, front_or}
use Rattle.memo_shared.proofs.Rows.{Treated}

module _ {B E : Type 0} {g : Ghosts B E} where
  -- the parts of turnstiles that were just made
  pub fresh_parts : (ts : List (Turnstile B E)) (qs : List (Pass B E g)) → AtEach IsFresh ts qs → AtEach (IsPart 0 1) ts qs
  fresh_parts ts qs f k t q e e' = (f k t q e e').0

  pub fresh_fronts : (ts : List (Turnstile B E)) (qs : List (Pass B E g)) → length ts ≡ length qs → AtEach IsFresh ts qs → (k : ℕ) → front_or (slice_get qs k) ≡ []
  fresh_fronts ts qs long f k = ⊎_elim
      (λ (lt : k < length qs). (let q = got qs k lt in let t = got ts k (subst (λ n. k < n) (sym long) lt) in ap front_or q.1 ∙ (f k t.0 q.0 t.1 q.1).1))
      (λ (le : length qs ≤ k). ap front_or (slice_get_past qs k le))
      (cases_lt k (length qs))

module _ {B E : Type 0} {g : Ghosts B E} (ts : List (Turnstile B E)) (olds news parts : List (Pass B E g)) (seat many n : ℕ) (seat_is : seat ≡ 0) (long : length ts ≡ length olds)
    (all : n ≡ length olds) (old : AtEach (IsPart seat many) ts olds) (treated : Treated IsSplit ts olds news parts n) where
  d : Treated IsSplit ts olds news parts (length olds)
  d = subst (Treated IsSplit ts olds news parts) all treated

  made_there : (k : ℕ) (t : Turnstile B E) → slice_get ts k ≡ Some t
      → (q : Pass B E g) × (first : Pass B E g) × (new : Pass B E g) × (slice_get olds k ≡ Some q) × (slice_get news k ≡ Some first) × (slice_get parts k ≡ Some new) × IsSplit t q first new × (made q ≡ many)
  made_there k t e =
      let q = got olds k (subst (λ n. k < n) long (slice_get_within ts k t e)) in
      let p = d.done k t q.0 (slice_get_within olds k q.0 q.1) e q.1 in
      (q.0, p.0, p.1, q.1, p.2, p.3, p.4, (old k t q.0 e q.1).made_is)

  -- the parts of the first pass, and those of the new one
  pub first_parts : (s m : ℕ) → s ≡ seat → m ≡ many → AtEach (IsPart s (m + 1)) ts news
  first_parts s m s_is m_is k t q e e' =
      let p = made_there k t e in
      subst (λ z. IsPart s (m + 1) t z) (some_same p.1 q (sym p.4 ∙ e'))
      (subst (λ z. IsPart z (m + 1) t p.1) (sym (s_is ∙ seat_is)) (subst (λ z. IsPart 0 (z + 1) t p.1) (p.7 ∙ sym m_is) p.6.first_is))

  pub new_parts : (m : ℕ) → m ≡ many → AtEach (IsPart m 0) ts parts
  new_parts m m_is k t q e e' =
      let p = made_there k t e in
      subst (λ z. IsPart m 0 t z) (some_same p.2 q (sym p.5 ∙ e')) (subst (λ z. IsPart z 0 t p.2) (p.7 ∙ sym m_is) p.6.new_is)

  pub split_fronts : (k : ℕ) → (front_or (slice_get parts k) ≡ front_or (slice_get olds k)) × (front_or (slice_get news k) ≡ front_or (slice_get olds k))
  split_fronts k = ⊎_elim
      (λ (lt : k < length olds). (let t = got ts k (subst (λ n. k < n) (sym long) lt) in let p = made_there k t.0 t.1 in (
        ap front_or p.5 ∙ (p.6.new_front ∙ sym (ap front_or p.3)),
        ap front_or p.4 ∙ (p.6.first_front ∙ sym (ap front_or p.3)),
      )))
      (λ (le : length olds ≤ k). (
        ap front_or (slice_get_past parts k (subst (λ n. n ≤ k) (sym d.counted) le)) ∙ sym (ap front_or (slice_get_past olds k le)),
        ap front_or (d.rest k le),
      ))
      (cases_lt k (length olds))
