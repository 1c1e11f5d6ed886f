-- Facts of fronts that are told or not.
use Rattle.std.proofs.Common.{◌≡◌, ◌≢◌, ℕ, List, Some, None}
use Rattle.oracle_iface.specs.Memos.{Fronts, Grows as GrowsBy, Steps, IsOwn}
use Rattle.oracle_iface.specs.Histories.{IsHeld}
use Rattle.oracle_iface.specs.declared.entries.Entry.{Entry}
use Rattle.oracle_iface.specs.declared.memo.Ticket.{Ticket}
use Rattle.force_engine.specs.Fronts.{Told, IfTold, IsTold, Between}

pub between_map : (P R : Told → Told → Type 0) → ((h n : Told) → P h n → R h n) → (a b : Fronts) → Between P a b → Between R a b
between_map P R f (Some h) (Some n) p = f h n p
between_map P R f (Some h) None p = absurd p
between_map P R f None (Some n) p = absurd p
between_map P R f None None p = tt

pub between_both : (P Q R : Told → Told → Type 0) → ((h m n : Told) → P h m → Q m n → R h n) → (a b c : Fronts) → Between P a b → Between Q b c → Between R a c
between_both P Q R f (Some h) (Some m) (Some n) p q = f h m n p q
between_both P Q R f (Some h) (Some m) None p q = absurd q
between_both P Q R f (Some h) None c p q = absurd p
between_both P Q R f None (Some m) c p q = absurd p
between_both P Q R f None None (Some n) p q = absurd q
between_both P Q R f None None None p q = tt

pub told_from : (A : Told → Type 0) (P R : Told → Told → Type 0) → ((h n : Told) → A h → P h n → R h n) → (a b : Fronts) → IfTold A a → Between P a b → Between R a b
told_from A P R f (Some h) (Some n) x p = f h n x p
told_from A P R f (Some h) None x p = absurd p
told_from A P R f None (Some n) x p = absurd p
told_from A P R f None None x p = tt

pub told_to : (A : Told → Type 0) (P : Told → Told → Type 0) (B : Told → Type 0) → ((h n : Told) → A h → P h n → B n) → (a b : Fronts) → IfTold A a → Between P a b
    → IfTold B b
told_to A P B f (Some h) (Some n) x p = f h n x p
told_to A P B f (Some h) None x p = absurd p
told_to A P B f None (Some n) x p = absurd p
told_to A P B f None None x p = tt

pub told_never : (A : Told → Type 0) (P : Told → Told → Type 0) → ((h n : Told) → A h → P h n → ⊥) → (a b : Fronts) → IsTold A a → Between P a b → ⊥
told_never A P f (Some h) (Some n) x p = f h n x p
told_never A P f (Some h) None x p = absurd p
told_never A P f None b x p = absurd x

pub if_map : (A B : Told → Type 0) → ((h : Told) → A h → B h) → (a : Fronts) → IfTold A a → IfTold B a
if_map A B f (Some h) x = f h x
if_map A B f None x = tt

pub between_self : (P : Told → Told → Type 0) → ((h : Told) → P h h) → (a : Fronts) → Between P a a
between_self P f (Some h) = f h
between_self P f None = tt

-- a step of a memo, in these words
abbrev pub Step : ℕ → ℕ → (List Entry → Type 0) → List Entry → Told → Told → Type 0
Step seat i shows own h n = GrowsBy seat (h i) (n i) shows own × ((other : ℕ) → other ≢ i → n other ≡ h other)

pub step_between : (seat i : ℕ) (shows : List Entry → Type 0) (own : List Entry) (a b : Fronts) → Steps seat i a b shows own → Between (Step seat i shows own) a b
step_between seat i shows own (Some h) (Some n) s = s
step_between seat i shows own (Some h) None s = absurd s
step_between seat i shows own None (Some n) s = absurd s
step_between seat i shows own None None s = tt

abbrev pub Owns : ℕ → ℕ → Ticket → Told → Type 0
Owns seat i t h = (t.seat ≡ seat) × IsHeld (h i) t.key seat

pub own_if_told : (seat i : ℕ) (t : Ticket) (a : Fronts) → IfTold (Owns seat i t) a → IsOwn seat i a t
own_if_told seat i t (Some h) o = o
own_if_told seat i t None o = tt
