-- Keys that are asked for in parts: what is reached when the first parts are done, and what comes of the whole where the next part ends it.
use Rattle.std.proofs.Common.{◌≡◌, ℕ, zero, suc, List, [], ◌∷◌, ◌++◌, take, Option, Some, None, Ok, refl, sym, ◌∙◌, ap, subst, append_assoc}
use Rattle.oracle_iface.specs.declared.keys.Key.{Key}
use Rattle.oracle_iface.specs.declared.bodies.Over.{Over}
use Rattle.oracle_iface.specs.Forcing.{Calls, Asked, asked-both}
use Rattle.homology_rules.specs.Asking.{first_refusal, up_to_refusal, MayForceEach, AskedFirst, EachAnswered}
use Rattle.homology_rules.proofs.Answered.{none-split, up-none, up-whole, up-prefix, or_then, refusal-append}
use Rattle.homology_rules.proofs.Alike.{up-refused}
use Rattle.homology_rules.proofs.Through.{each-asked, each-both, whole-through}

-- At t, which is reached from s, all of the keys but the rest were asked for and have values.
pub record Reached {F : Type 0} (calls : Calls F) (ks : List Key) (s t : F) (rest : List Key) : Type 0 where
  pub front : List Key
  pub whole : ks ≡ front ++ rest
  pub none : first_refusal front ≡ None
  pub answered : EachAnswered calls s front t

pub nothing-more : {A : Type 0} (xs : List A) → xs ++ [] ≡ xs
nothing-more [] = refl
nothing-more (x ∷ xs) = ap (λ ys. x ∷ ys) (nothing-more xs)

pub none-both : (a b : List Key) → first_refusal a ≡ None → first_refusal b ≡ None → first_refusal (a ++ b) ≡ None
none-both a b e h = refusal-append a b ∙ (λ i. or_then (e i) (h i))

pub refused-first : (a b : List Key) (w : Over) → first_refusal a ≡ Some w → first_refusal (a ++ b) ≡ Some w
refused-first a b w e = refusal-append a b ∙ ap (λ o. or_then o (first_refusal b)) e

pub refused-then : (a b : List Key) (o : Option Over) → first_refusal a ≡ None → first_refusal b ≡ o → first_refusal (a ++ b) ≡ o
refused-then a b o e h = refusal-append a b ∙ ap (λ x. or_then x (first_refusal b)) e ∙ h

take-nothing : {A : Type 0} (n : ℕ) → take n (let none : List A = [] in none) ≡ []
take-nothing zero = refl
take-nothing (suc n) = refl

-- the first n of a list are those of a longer one
front-of : {A : Type 0} (xs ys : List A) (n : ℕ) → (m : ℕ) × (take m (xs ++ ys) ≡ take n xs)
front-of xs ys zero = (0, refl)
front-of [] ys (suc n) = (0, refl)
front-of (x ∷ xs) ys (suc n) = let h = front-of xs ys n in (suc h.0, ap (λ zs. x ∷ zs) h.1)

-- all of a list and the first n of another
beyond : {A : Type 0} (xs ys : List A) (n : ℕ) → (m : ℕ) × (take m (xs ++ ys) ≡ xs ++ take n ys)
beyond [] ys n = (n, refl)
beyond (x ∷ xs) ys n = let h = beyond xs ys n in (suc h.0, ap (λ zs. x ∷ zs) h.1)

module _ {F : Type 0} (calls : Calls F) where
  -- the first keys of a part are first keys of the whole
  pub asked-front : (a b : List Key) (s t : F) → AskedFirst calls a s t → AskedFirst calls (a ++ b) s t
  asked-front a b s t h =
      let p = up-prefix a b in
      let f = front-of (up_to_refusal a) p.0 h.0 in
      (f.0, subst (λ ks. Asked calls s ks t) (sym (ap (take f.0) p.1 ∙ f.1)) h.1)

  -- a part that is done, and first keys of the next
  pub asked-beyond : (a b : List Key) (s t u : F) → first_refusal a ≡ None → EachAnswered calls s a t → AskedFirst calls b t u → AskedFirst calls (a ++ b) s u
  asked-beyond a b s t u e each h =
      let f = beyond a (up_to_refusal b) h.0 in (
        f.0,
        subst (λ ks. Asked calls s ks u) (sym (ap (take f.0) (up-none a b e) ∙ f.1))
            (asked-both calls s t u a (take h.0 (up_to_refusal b)) (each-asked calls a s t each) h.1),
      )

  pub asked-nothing : (ks : List Key) (s : F) → AskedFirst calls ks s s
  asked-nothing ks s = (0, refl)

  -- ---- what is reached

  pub begun : (ks : List Key) (s : F) → Reached calls ks s s ks
  begun ks s = record { front = []; whole = refl; none = refl; answered = refl }

  pub passed : {ks rest : List Key} {s t : F} (a b : List Key) (u : F) → rest ≡ a ++ b → Reached calls ks s t rest → first_refusal a ≡ None
      → EachAnswered calls t (up_to_refusal a) u → Reached calls ks s u b
  passed {ks} {rest} {s} {t} a b u split h e each = record {
    front = h.front ++ a;
    whole = h.whole ∙ ap (λ r. h.front ++ r) split ∙ sym (append_assoc h.front a b);
    none = none-both h.front a h.none e;
    answered = each-both calls h.front a s t u h.answered (whole-through calls a t u e each);
  }

  -- what is left is the same
  pub left-same : {ks rest : List Key} {s t : F} (more : List Key) → rest ≡ more → Reached calls ks s t rest → Reached calls ks s t more
  left-same {ks} {rest} {s} {t} more e h = subst (Reached calls ks s t) e h

  module _ {ks rest : List Key} {s t : F} (h : Reached calls ks s t rest) where
    pub asked-so_far : AskedFirst calls ks s t
    asked-so_far = subst (λ x. AskedFirst calls x s t) (sym h.whole) (asked-beyond h.front rest s t t h.none h.answered (asked-nothing rest t))

    module _ (a b : List Key) (split : rest ≡ a ++ b) (u : F) where
      whole-is : ks ≡ h.front ++ (a ++ b)
      whole-is = h.whole ∙ ap (λ r. h.front ++ r) split

      -- the next part was begun
      pub asked-within : AskedFirst calls a t u → AskedFirst calls ks s u
      asked-within g =
          subst (λ x. AskedFirst calls x s u) (sym whole-is) (asked-beyond h.front (a ++ b) s t u h.none h.answered (asked-front a b t u g))

      -- the next part is refused
      pub refused-within : (w : Over) → first_refusal a ≡ Some w → first_refusal ks ≡ Some w
      refused-within w e = ap first_refusal whole-is ∙ refused-then h.front (a ++ b) (Some w) h.none (refused-first a b w e)

      pub through-within : (w : Over) → first_refusal a ≡ Some w → EachAnswered calls t (up_to_refusal a) u → EachAnswered calls s (up_to_refusal ks) u
      through-within w e g =
          subst (λ x. EachAnswered calls s x u) (sym (ap up_to_refusal whole-is ∙ up-none h.front (a ++ b) h.none ∙ ap (λ x. h.front ++ x) (up-refused a b w e)))
          (each-both calls h.front (up_to_refusal a) s t u h.answered g)

  -- all is done
  module _ {ks : List Key} {s t : F} (h : Reached calls ks s t []) where
    pub none-refused : first_refusal ks ≡ None
    none-refused = ap first_refusal (h.whole ∙ nothing-more h.front) ∙ h.none

    pub through-all : EachAnswered calls s (up_to_refusal ks) t
    through-all = subst (λ x. EachAnswered calls s x t) (sym (up-whole ks none-refused ∙ h.whole ∙ nothing-more h.front)) h.answered

-- ---- what may be asked for

module _ {F : Type 0} (may : F → Key → Type 0) (calls : Calls F) where
  may-front : (a b : List Key) (s : F) → MayForceEach may calls s (a ++ b) → MayForceEach may calls s a
  may-front [] b s m = tt
  may-front (k ∷ a) b s m = (m.0, λ r t c e. may-front a b t (m.1 r t c e))

  may-behind : (a b : List Key) (s t : F) → first_refusal a ≡ None → EachAnswered calls s a t → MayForceEach may calls s (a ++ b) → MayForceEach may calls t b
  may-behind [] b s t e h m = subst (λ x. MayForceEach may calls x b) h m
  may-behind (k ∷ a) b s t e h m = let n = none-split k a e in may-behind a b h.0 t n.1 h.3 (m.1 (Ok h.1) h.0 h.2 n.0)

  module _ {ks rest : List Key} {s t : F} (h : Reached calls ks s t rest) (m : MayForceEach may calls s ks) where
    pub may-rest : MayForceEach may calls t rest
    may-rest = may-behind h.front rest s t h.none h.answered (subst (MayForceEach may calls s) h.whole m)

    -- the next part may be asked for
    pub may-next : (a b : List Key) → rest ≡ a ++ b → MayForceEach may calls t a
    may-next a b e = may-front a b t (subst (MayForceEach may calls t) e may-rest)
