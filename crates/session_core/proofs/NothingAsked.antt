-- Lines and commands that ask for no key.
use Rattle.std.proofs.Common.{◌≡◌, Bool, true, false, List, [], Result, Ok, Err, refl, sym, subst, arith, true≢false}
use Rattle.std.specs.Prelude.{IsErr, is_ok}
use Rattle.oracle_iface.specs.declared.keys.Key.{Key}
use Rattle.oracle_iface.specs.Forcing.{Calls}
use Rattle.homology_rules.specs.Asking.{up_to_refusal}
use Rattle.session_core.specs.Asked.{AsksKeys, nothing_asked, WholeAtReply}

none_wanted : {A : Type 0} (calls : Calls A) (s : A) (b : Bool) → WholeAtReply calls s s b [] []
none_wanted calls s true = ((λ k d h. absurd (omega arith)), refl)
none_wanted calls s false = tt

pub asks_none : {A : Type 0} (calls : Calls A) (keys : List Key) (s : A) (b : Bool) → keys ≡ [] → AsksKeys calls keys s s b
asks_none calls keys s b e =
    record { asks = []; begins = nothing_asked [] (up_to_refusal keys); asked = refl; whole = subst (λ ks. WholeAtReply calls s s b [] (up_to_refusal ks)) (sym e) (none_wanted calls s b) }

-- where memory is wanting from the beginning
pub asks_not_yet : {A : Type 0} (calls : Calls A) (keys : List Key) (s : A) → AsksKeys calls keys s s false
asks_not_yet calls keys s = record { asks = []; begins = nothing_asked [] (up_to_refusal keys); asked = refl; whole = tt }

pub asks_not_yet_at : {A X E : Type 0} (calls : Calls A) (keys : List Key) (s : A) (r : Result X E) → IsErr r → AsksKeys calls keys s s (is_ok r)
asks_not_yet_at calls keys s (Ok v) h = absurd (true≢false (sym h))
asks_not_yet_at calls keys s (Err e) h = asks_not_yet calls keys s
