-- A question of one key.
use Rattle.std.proofs.Common.{◌≡◌, ℕ, zero, suc, ◌≤◌, All, List, [], ◌∷◌, Option, Some, None, Result, Ok, Err, refl, sym, ap, subst, arith}
use Rattle.std.specs.Prelude.{Contains, is_ok, max}
use Rattle.std.specs.declared.alloc.AllocError.{AllocError}
use Rattle.fp_field.specs.declared.prime.Prime.{Prime}
use Rattle.spaces.specs.Spaces.{Space, table, sphere, product, suspension, kz1, bundle, loops, paths, kzm1, cyclic_bundle}
use Rattle.term_lang.specs.declared.terms.Term.{Term}
use Rattle.term_lang.specs.SpaceOf.{space_of}
use Rattle.values.specs.Asks.{cycles}
use Rattle.values.specs.Ranks.{loopings}
use Rattle.oracle_iface.specs.declared.keys.Key.{Key}
use Rattle.oracle_iface.specs.declared.cell_values.CellValue.{CellValue}
use Rattle.oracle_iface.specs.declared.bodies.Over.{Over}
use Rattle.oracle_iface.specs.Forcing.{Calls}
use Rattle.oracle_iface.specs.Keys.{key_of}
use Rattle.oracle_iface.proofs.Named.{term-back}
use Rattle.homology_rules.specs.Asking.{outcome_of, refusal_in, up_to_refusal}
use Rattle.susp_rules.specs.Treated.{IsTreated}
use Rattle.normal_forms.specs.Built.{IsBuilt}
use Rattle.session_core.specs.Asked.{AnswersAll, AsksKeys, KeysBegin, nothing_asked, asked_now}
use Rattle.session_core.specs.Telling.{cycles_key}
use Rattle.session_core.specs.Whole.{IsReady}

pub no_loopings : (X : Space) → IsBuilt X → loopings X ≡ 0
no_loopings (table t) built = refl
no_loopings (sphere m) built = refl
no_loopings (product a b) built = λ i. max (no_loopings a built.0 i) (no_loopings b built.1 i)
no_loopings (suspension a) built = no_loopings a built
no_loopings kz1 built = refl
no_loopings (bundle t c) built = refl
no_loopings (loops a) built = absurd built
no_loopings (paths a) built = absurd built
no_loopings (kzm1 m) built = refl
no_loopings (cyclic_bundle t m c) built = refl

module _ (p : Prime) (t : Term) (n : ℕ) where
  -- the key of the question
  pub cycles-key : key_of p (cycles (space_of t) n) ≡ cycles_key p t n
  cycles-key = ap (λ u. cycles_key p u n) (term-back t)

  pub cycles_askable : IsReady (space_of t) → n ≤ 16 → IsTreated (cycles_key p t n)
  cycles_askable ready most =
      let l = no_loopings (space_of t) ready.1 in
      (record { question = (ready.0, tt, omega (arith, l)); key_is = sym cycles-key }, ready.1)

  module _ {A : Type 0} (may : A → Key → Type 0) (calls : Calls A) (x : A) (answers : AnswersAll may calls x) where
    pub may_ask_cycles : IsReady (space_of t) → n ≤ 16 → may x (cycles_key p t n)
    may_ask_cycles ready most = answers [] x (cycles_key p t n) (λ k d h. absurd (omega arith)) refl (cycles_askable ready most)

-- ---- one call

module _ {A : Type 0} (calls : Calls A) (k : Key) (x : A) where
  up-to : up_to_refusal (k ∷ []) ≡ k ∷ []
  up-to = by (refusal_in (outcome_of k))
    where
      by : (o : Option Over) → ◌≡◌ {A = List Key} (k ∷ elim o as (λ _. List Key) [ Some w ↦ [] | None ↦ [] ]) (k ∷ [])
      by (Some w) = refl
      by None = refl

  begun : KeysBegin [] (k ∷ []) (up_to_refusal (k ∷ []))
  begun = subst (KeysBegin [] (k ∷ [])) (sym up-to) (asked_now [] k [] [] (nothing_asked (k ∷ []) []))

  all_of : All (Contains (k ∷ [])) (k ∷ [])
  all_of zero d h = (0, omega arith, refl)
  all_of (suc i) d h = absurd (omega arith)

  pub asks_one : (y : A) (r : Result CellValue AllocError) → calls x k r y → AsksKeys calls (k ∷ []) x y (is_ok r)
  asks_one y (Ok v) h = record {
    asks = k ∷ [];
    begins = begun;
    asked = (y, Ok v, h, refl);
    whole = (subst (All (Contains (k ∷ []))) (sym up-to) all_of, (y, v, h, refl));
  }
  asks_one y (Err e) h = record { asks = k ∷ []; begins = begun; asked = (y, Err e, h, refl); whole = tt }
