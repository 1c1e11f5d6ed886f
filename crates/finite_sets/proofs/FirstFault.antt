-- The first of several faults.
use Rattle.std.proofs.Common.{◌≡◌, ℕ, zero, suc, ◌<◌, ◌≤◌, ◌⊎◌, inl, inr, Bool, true, false, Some, None, refl, ◌∙◌, ap, arith}
use Rattle.std.proofs.lemmas.Bool.{cases_lt}
use Rattle.finite_sets.specs.declared.faults.TableFault.{TableFault}
use Rattle.finite_sets.specs.Faults.{Fault, or_else, first_below, unless}

pub or_else-none : (f g : Fault) → or_else f g ≡ None → (f ≡ None) × (g ≡ None)
or_else-none None g e = (refl, e)
or_else-none (Some f) g e = cc

pub none_both : (f g : Fault) → f ≡ None → g ≡ None → or_else f g ≡ None
none_both f g e h = ap (λ x. or_else x g) e ∙ h

pub or_else-some : (f g : Fault) (x : TableFault) → f ≡ Some x → or_else f g ≡ Some x
or_else-some f g x e = ap (λ y. or_else y g) e

pub or_else-second : (f g : Fault) → f ≡ None → or_else f g ≡ g
or_else-second f g e = ap (λ y. or_else y g) e

pub unless-none : (b : Bool) (x : TableFault) → unless b x ≡ None → b ≡ true
unless-none true x e = refl
unless-none false x e = cc

pub none_unless : (b : Bool) (x : TableFault) → b ≡ true → unless b x ≡ None
none_unless b x e = ap (λ c. unless c x) e

pub unless-false : (b : Bool) (x : TableFault) → b ≡ false → unless b x ≡ Some x
unless-false b x e = ap (λ c. unless c x) e

pub first_below-none : (n : ℕ) (f : ℕ → Fault) → first_below n f ≡ None → (i : ℕ) → i < n → f i ≡ None
first_below-none zero f e i h = absurd (omega arith)
first_below-none (suc n) f e i h = by (cases_lt i n) (or_else-none (first_below n f) (f n) e) (λ l. first_below-none n f l i)
  where
    by : (i < n) ⊎ (n ≤ i) → (first_below n f ≡ None) × (f n ≡ None) → (first_below n f ≡ None → i < n → f i ≡ None) → f i ≡ None
    by (inl l) r s = s r.0 l
    by (inr l) r s = let q : i ≡ n = omega arith in ap f q ∙ r.1

pub none_below : (n : ℕ) (f : ℕ → Fault) → ((i : ℕ) → i < n → f i ≡ None) → first_below n f ≡ None
none_below zero f all = refl
none_below (suc n) f all = none_both (first_below n f) (f n) (none_below n f (λ i h. all i (omega arith))) (all n (omega arith))

pub first_below-found : (n i : ℕ) (f : ℕ → Fault) (x : TableFault) → i < n → first_below i f ≡ None → f i ≡ Some x → first_below n f ≡ Some x
first_below-found zero i f x h e l = absurd (omega arith)
first_below-found (suc n) i f x h e l = by (cases_lt i n) (λ g. first_below-found n i f x g e l)
  where
    by : (i < n) ⊎ (n ≤ i) → (i < n → first_below n f ≡ Some x) → first_below (suc n) f ≡ Some x
    by (inl g) r = or_else-some (first_below n f) (f n) x (r g)
    by (inr g) r = let q : n ≡ i = omega arith in or_else-second (first_below n f) (f n) (ap (λ k. first_below k f) q ∙ e) ∙ ap f q ∙ l

pub first_below-same : (n : ℕ) (f g : ℕ → Fault) → ((i : ℕ) → f i ≡ g i) → first_below n f ≡ first_below n g
first_below-same n f g e = λ k. first_below n (λ i. e i k)

pub none_more : (n : ℕ) (f : ℕ → Fault) → first_below n f ≡ None → f n ≡ None → first_below (suc n) f ≡ None
none_more n f e h = none_both (first_below n f) (f n) e h
