-- What holds of a result goes on to hold in other words.
use Rattle.std.proofs.Common.{Result, Ok, Err, IfOk}

pub kept : {A E : Type 0} (r : Result A E) (P Q : A → Type 0) → ((x : A) → P x → Q x) → IfOk r P → IfOk r Q
kept (Ok x) P Q f h = f x h
kept (Err e) P Q f h = tt

pub kept_both : {A E : Type 0} (r : Result A E) (P S Q : A → Type 0) → ((x : A) → P x → S x → Q x) → IfOk r P → IfOk r S → IfOk r Q
kept_both (Ok x) P S Q f h g = f x h g
kept_both (Err e) P S Q f h g = tt
