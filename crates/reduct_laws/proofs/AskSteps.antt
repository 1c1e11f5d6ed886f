-- A call after one that was answered by an Ok.
use Rattle.std.proofs.Common.{List, ◌++◌, Option}
use Rattle.std.specs.Prelude.{Result, Ok, Err, IsErrAnd}
use Rattle.chain_core.specs.Asks.{AskedAll, AskedUntil, Asked}
use Rattle.chain_core.proofs.AskLemmas.{AskedAll-both, until_after}

module _ {S A R : Type 0} (can : S → A → Type 0) (runs : S → List A → S → Type 0) (refusal : A → Option R)
    (both : (s t u : S) (a b : List A) → runs s a t → runs t b u → runs s (a ++ b) u) where
  -- the exit of a `?`, where a call stopped
  pub asked_exit : {V E : Type 0} {Q : E → Type 0} (stop : E → Option R) (s t : S) (asks : List A) (r : Result V E)
      → IsErrAnd r Q → ((e : E) → Q e → AskedUntil runs refusal s asks t (stop e)) → Asked runs refusal stop s asks t r
  asked_exit stop s t asks (Ok v) h f = absurd h
  asked_exit stop s t asks (Err e) h f = f e h

  pub asked_after : {V E : Type 0} (stop : E → Option R) (s t u : S) (a b : List A) (r : Result V E)
      → AskedAll runs refusal s a t → Asked runs refusal stop t b u r → Asked runs refusal stop s (a ++ b) u r
  asked_after stop s t u a b (Ok v) g h = AskedAll-both can runs refusal both s t u a b g h
  asked_after stop s t u a b (Err e) g h = until_after can runs refusal both s t u a b (stop e) g h
