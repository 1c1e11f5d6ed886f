-- Parts that are told one after the other, against parts of the code that answer or stop.
use Rattle.std.proofs.Common.{◌≡◌, Result, Ok, Err, sym, ◌∙◌, ap, subst}
use Rattle.std.specs.Prelude.{IfErr}
use Rattle.session_core.specs.declared.stops.Stop.{Stop}
use Rattle.session_core.specs.declared.stops.Stop.TheVariants as stops
use Rattle.session_core.specs.Answer.{Told, told, ◌>>◌}
use Rattle.session_core.specs.Telling.{Stops}

-- what stops a part stops the whole
pub stops_on : {A B : Type 0} (s : Stop) (m : Told A) (next : A → Told B) → Stops s m → Stops s (m >> next)
stops_on (stops.Refused r) m next e = ap (λ x. x >> next) e
stops_on stops.Memory m next e = tt

-- behind a part that is told
pub then_told : {A B : Type 0} (P : Told B → Type 0) (m : Told A) (next : A → Told B) (a : A) → m ≡ told a → P (next a) → P (m >> next)
then_told P m next a e h = subst (λ x. P (x >> next)) (sym e) h

pub is_told : {A B : Type 0} (m : Told A) (next : A → Told B) (a : A) (b : B) → m ≡ told a → next a ≡ told b → (m >> next) ≡ told b
is_told m next a b e f = ap (λ x. x >> next) e ∙ f

pub stops_later : {A B : Type 0} (s : Stop) (m : Told A) (next : A → Told B) (a : A) → m ≡ told a → Stops s (next a) → Stops s (m >> next)
stops_later s m next a e h = then_told (Stops s) m next a e h

-- what is told another way
pub stops_as : {A : Type 0} (s : Stop) (m n : Told A) → m ≡ n → Stops s n → Stops s m
stops_as s m n e h = subst (Stops s) (sym e) h

-- what stops a part is what the whole stops with
pub stops_exit : {X A : Type 0} (r : Result X Stop) (x : Stop) (m : Told A) → (y : Stop) × (r ≡ Err y) × (y ≡ x) → Stops x m → IfErr r (λ s. Stops s m)
stops_exit (Ok v) x m p h = tt
stops_exit (Err s) x m p h = let e : s ≡ x = (let q = p.1 in let w = p.2 in cc) in subst (λ s. Stops s m) (sym e) h

pub if_err : {X E : Type 0} (r : Result X E) (P Q : E → Type 0) → ((x : E) → P x → Q x) → IfErr r P → IfErr r Q
if_err (Ok v) P Q f h = tt
if_err (Err x) P Q f h = f x h
