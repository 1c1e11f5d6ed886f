-- Keys that are asked for after others.
use Rattle.std.proofs.Common.{◌≡◌, List, ◌++◌, Option, Some, None, refl, ◌∙◌, ap}
use Rattle.oracle_iface.specs.declared.keys.Key.{Key}
use Rattle.oracle_iface.specs.declared.bodies.Over.{Over}
use Rattle.oracle_iface.specs.Forcing.{Calls}
use Rattle.homology_rules.specs.Asking.{first_refusal, up_to_refusal, MayForceEach, AskedFirst, EachAnswered}
use Rattle.homology_rules.proofs.Answered.{or_then, refusal-append}
use Rattle.homology_rules.proofs.Through.{each-asked, each-both, through-now, through-then}
use Rattle.homology_rules.proofs.GVectors.{may_first, may_rest, asked_first_then, asked_first_of, asked_whole}

module _ (a b : List Key) where
  pub refused-now : (w : Over) → first_refusal a ≡ Some w → first_refusal (a ++ b) ≡ Some w
  refused-now w h = refusal-append a b ∙ ap (λ o. or_then o (first_refusal b)) h

  pub refused-then : (o : Option Over) → first_refusal a ≡ None → first_refusal b ≡ o → first_refusal (a ++ b) ≡ o
  refused-then o h e = refusal-append a b ∙ ap (λ x. or_then x (first_refusal b)) h ∙ e

  module _ {F : Type 0} (may : F → Key → Type 0) (calls : Calls F) (s t u : F) where
    pub may-now : MayForceEach may calls s (a ++ b) → MayForceEach may calls s a
    may-now h = may_first may calls s a b h

    pub may-then : MayForceEach may calls s (a ++ b) → first_refusal a ≡ None → EachAnswered calls s a t → MayForceEach may calls t b
    may-then h n e = may_rest may calls s t a b n h (each-asked calls a s t e)

    pub asked-now : AskedFirst calls a s t → AskedFirst calls (a ++ b) s t
    asked-now h = asked_first_of may calls s t a b (a ++ b) refl h

    pub asked-seam : first_refusal a ≡ None → EachAnswered calls s a t → AskedFirst calls (a ++ b) s t
    asked-seam n h = asked-now (asked_whole may calls s t a n (each-asked calls a s t h))

    pub asked-then : first_refusal a ≡ None → EachAnswered calls s a t → AskedFirst calls b t u → AskedFirst calls (a ++ b) s u
    asked-then n h e = asked_first_then may calls s t u a b (a ++ b) refl n (each-asked calls a s t h) e

    -- what comes of them
    pub over-now : (w : Over) → (first_refusal a ≡ Some w) × EachAnswered calls s (up_to_refusal a) t → (first_refusal (a ++ b) ≡ Some w) × EachAnswered calls s (up_to_refusal (a ++ b)) t
    over-now w h = (refused-now w h.0, through-now calls a b s t w h.0 h.1)

    pub over-then : (w : Over) → first_refusal a ≡ None → EachAnswered calls s a t → (first_refusal b ≡ Some w) × EachAnswered calls t (up_to_refusal b) u
        → (first_refusal (a ++ b) ≡ Some w) × EachAnswered calls s (up_to_refusal (a ++ b)) u
    over-then w n h e = (refused-then (Some w) n e.0, through-then calls a b s t u n h e.1)

    pub each-then : EachAnswered calls s a t → EachAnswered calls t b u → EachAnswered calls s (a ++ b) u
    each-then h e = each-both calls a b s t u h e
