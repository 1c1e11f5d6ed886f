-- Words of steps: the matching is a pairing, and the moves that keep both cells.
use Rattle.std.proofs.Common.{◌≡◌, ℕ, suc, ◌+◌, Bool, true, false, List, [], ◌∷◌, ◌++◌, refl, sym, ◌∙◌, ap, arith, ◌⊎◌, inl, inr, IsTrue, true≢false}
use Rattle.simp_ops.specs.PathWords.{Step, both, left, right, Event, source, target, critical, later, event, matched, lefts, pairs}
use Rattle.path_words.specs.MaskPaths.{is_source, IsSource}
use Rattle.path_words.specs.Pairing.{partner}

-- ---- the matching twice is nothing

pub matched-matched : (w : List Step) → matched (matched w) ≡ w
matched-matched [] = refl
matched-matched (both ∷ w) = refl
matched-matched (left ∷ w) = ap (λ x. left ∷ x) (matched-matched w)
matched-matched (right ∷ []) = refl
matched-matched (right ∷ (left ∷ w)) = refl
matched-matched (right ∷ (both ∷ w)) = refl
matched-matched (right ∷ (right ∷ [])) = refl
matched-matched (right ∷ (right ∷ (left ∷ w))) = refl
matched-matched (right ∷ (right ∷ (both ∷ w))) = refl
matched-matched (right ∷ (right ∷ (right ∷ w))) = ap (λ x. right ∷ x) (matched-matched (right ∷ (right ∷ w)))

-- ---- the matching changes sources and targets, at their place

partner-later : (e : Event) → partner (later e) ≡ later (partner e)
partner-later (source j) = refl
partner-later (target j) = refl
partner-later critical = refl

pub event-matched : (w : List Step) → event (matched w) ≡ partner (event w)
event-matched [] = refl
event-matched (both ∷ w) = refl
event-matched (left ∷ w) = ap later (event-matched w) ∙ sym (partner-later (event w))
event-matched (right ∷ []) = refl
event-matched (right ∷ (left ∷ w)) = refl
event-matched (right ∷ (both ∷ w)) = refl
event-matched (right ∷ (right ∷ [])) = refl
event-matched (right ∷ (right ∷ (left ∷ w))) = refl
event-matched (right ∷ (right ∷ (both ∷ w))) = refl
event-matched (right ∷ (right ∷ (right ∷ w))) = ap later (event-matched (right ∷ (right ∷ w))) ∙ sym (partner-later (event (right ∷ (right ∷ w))))

-- ---- an event inside the first part of a word

abbrev is_critical : Event → Bool
is_critical critical = true
is_critical (source j) = false
is_critical (target j) = false

source-later : (e : Event) → is_source (later e) ≡ is_source e
source-later (source j) = refl
source-later (target j) = refl
source-later critical = refl

critical-later : (e : Event) → is_critical (later e) ≡ is_critical e
critical-later (source j) = refl
critical-later (target j) = refl
critical-later critical = refl

-- an event inside u is the event of u and what follows
event_inside : (u r : List Step) → is_critical (event u) ≡ false → is_source (event (u ++ r)) ≡ is_source (event u)
event_inside [] r e = absurd (true≢false e)
event_inside (both ∷ u) r e = refl
event_inside (left ∷ u) r e = source-later (event (u ++ r)) ∙ event_inside u r (sym (critical-later (event u)) ∙ e) ∙ sym (source-later (event u))
event_inside (right ∷ []) r e = absurd (true≢false e)
event_inside (right ∷ (left ∷ u)) r e = refl
event_inside (right ∷ (both ∷ u)) r e = refl
event_inside (right ∷ (right ∷ u)) r e =
    source-later (event (right ∷ (u ++ r))) ∙ event_inside (right ∷ u) r (sym (critical-later (event (right ∷ u))) ∙ e) ∙ sym (source-later (event (right ∷ u)))

-- without an event before it, a `both` is the event
matched_after : (u r : List Step) → is_critical (event u) ≡ true → matched (u ++ both ∷ r) ≡ u ++ right ∷ (left ∷ r)
matched_after [] r e = refl
matched_after (both ∷ u) r e = absurd (true≢false (sym e))
matched_after (left ∷ u) r e = ap (λ x. left ∷ x) (matched_after u r (sym (critical-later (event u)) ∙ e))
matched_after (right ∷ []) r e = refl
matched_after (right ∷ (left ∷ u)) r e = absurd (true≢false (sym e))
matched_after (right ∷ (both ∷ u)) r e = absurd (true≢false (sym e))
matched_after (right ∷ (right ∷ u)) r e = ap (λ x. right ∷ x) (matched_after (right ∷ u) r (sym (critical-later (event (right ∷ u))) ∙ e))

-- ---- one pair more

lefts-turned : (u r : List Step) → lefts (u ++ right ∷ (left ∷ r)) ≡ lefts (u ++ left ∷ (right ∷ r))
lefts-turned [] r = refl
lefts-turned (both ∷ u) r = lefts-turned u r
lefts-turned (left ∷ u) r = ap suc (lefts-turned u r)
lefts-turned (right ∷ u) r = lefts-turned u r

pairs-turned : (u r : List Step) → pairs (u ++ right ∷ (left ∷ r)) ≡ suc (pairs (u ++ left ∷ (right ∷ r)))
pairs-turned [] r = omega arith
pairs-turned (both ∷ u) r = pairs-turned u r
pairs-turned (left ∷ u) r = pairs-turned u r
pairs-turned (right ∷ u) r = omega (arith, pairs-turned u r, lefts-turned u r)

cases : (b : Bool) → (b ≡ true) ⊎ (b ≡ false)
cases true = inl refl
cases false = inr refl

false_of : (b : Bool) → (IsTrue b → ⊥) → b ≡ false
false_of true h = absurd (h refl)
false_of false h = refl

-- where `u a` is no source and `u b` is one, u has no event
no_event : (u a b : List Step) → (IsSource (u ++ a) → ⊥) → IsSource (u ++ b) → is_critical (event u) ≡ true
no_event u a b f t = by (cases (is_critical (event u)))
  where
    by : (is_critical (event u) ≡ true) ⊎ (is_critical (event u) ≡ false) → is_critical (event u) ≡ true
    by (inl c) = c
    by (inr c) = absurd (true≢false (sym t ∙ event_inside u b c ∙ sym (event_inside u a c) ∙ false_of (is_source (event (u ++ a))) f))

pub move-own : (u r : List Step) → (IsSource (u ++ right ∷ (left ∷ r)) → ⊥) → IsSource (u ++ both ∷ r) → matched (u ++ both ∷ r) ≡ u ++ right ∷ (left ∷ r)
move-own u r f t = matched_after u r (no_event u (right ∷ (left ∷ r)) (both ∷ r) f t)

pub move-gains : (u r : List Step) → (IsSource (u ++ left ∷ (right ∷ r)) → ⊥) → IsSource (u ++ both ∷ r) → pairs (matched (u ++ both ∷ r)) ≡ suc (pairs (u ++ left ∷ (right ∷ r)))
move-gains u r f t = ap pairs (matched_after u r (no_event u (left ∷ (right ∷ r)) (both ∷ r) f t)) ∙ pairs-turned u r

-- ---- pairs of a word with one step more at its end

pub lefts-append : (u v : List Step) → lefts (u ++ v) ≡ lefts u + lefts v
lefts-append [] v = omega arith
lefts-append (both ∷ u) v = lefts-append u v
lefts-append (left ∷ u) v = omega (arith, lefts-append u v)
lefts-append (right ∷ u) v = lefts-append u v

abbrev pub rights : List Step → ℕ
rights [] = 0
rights (right ∷ w) = suc (rights w)
rights (s ∷ w) = rights w

pub rights-append : (u v : List Step) → rights (u ++ v) ≡ rights u + rights v
rights-append [] v = omega arith
rights-append (both ∷ u) v = rights-append u v
rights-append (left ∷ u) v = rights-append u v
rights-append (right ∷ u) v = omega (arith, rights-append u v)

pub pairs-left : (u : List Step) → pairs (u ++ left ∷ []) ≡ pairs u + rights u
pairs-left [] = omega arith
pairs-left (both ∷ u) = pairs-left u
pairs-left (left ∷ u) = pairs-left u
pairs-left (right ∷ u) = let e : lefts (u ++ left ∷ []) ≡ lefts u + 1 = lefts-append u (left ∷ []) in omega (arith, pairs-left u, e)

pub pairs-both : (u : List Step) → pairs (u ++ both ∷ []) ≡ pairs u
pairs-both [] = refl
pairs-both (both ∷ u) = pairs-both u
pairs-both (left ∷ u) = pairs-both u
pairs-both (right ∷ u) = let e : lefts (u ++ both ∷ []) ≡ lefts u + 0 = lefts-append u (both ∷ []) in omega (arith, pairs-both u, e)

pub pairs-right : (u : List Step) → pairs (u ++ right ∷ []) ≡ pairs u
pairs-right [] = omega arith
pairs-right (both ∷ u) = pairs-right u
pairs-right (left ∷ u) = pairs-right u
pairs-right (right ∷ u) = let e : lefts (u ++ right ∷ []) ≡ lefts u + 0 = lefts-append u (right ∷ []) in omega (arith, pairs-right u, e)

-- ---- a critical word is its own match

critical_of : (e : Event) → later e ≡ critical → e ≡ critical
critical_of (source j) h = absurd (cc)
critical_of (target j) h = absurd (cc)
critical_of critical h = refl

pub matched-critical : (w : List Step) → event w ≡ critical → matched w ≡ w
matched-critical [] e = refl
matched-critical (both ∷ w) e = absurd (cc)
matched-critical (left ∷ w) e = ap (λ x. left ∷ x) (matched-critical w (critical_of (event w) e))
matched-critical (right ∷ []) e = refl
matched-critical (right ∷ (left ∷ w)) e = absurd (cc)
matched-critical (right ∷ (both ∷ w)) e = absurd (cc)
matched-critical (right ∷ (right ∷ w)) e = ap (λ x. right ∷ x) (matched-critical (right ∷ w) (critical_of (event (right ∷ w)) e))
