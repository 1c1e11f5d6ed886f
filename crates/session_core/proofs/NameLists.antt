-- Names in the order of their first definition.
use Rattle.std.proofs.Common.{◌≡◌, ℕ, true, false, cond, List, [], ◌∷◌, ◌++◌, map, Some, None, ◌⊎◌, inl, inr, refl, sym, ◌∙◌, ap}
use Rattle.std.proofs.lemmas.Slice.Eq.{bytes_eq-Decides}
use Rattle.simp_ops.proofs.PlacesOf.{cases_bool}
use Rattle.term_lang.specs.declared.terms.Term.{Term}
use Rattle.session_core.specs.Answer.{Names, is_name, lookup, defined}

pub is_itself : (name : List ℕ) → is_name name name ≡ true
is_itself name = (bytes_eq-Decides name name).1 refl

pub defined-found : (names : Names) (name : List ℕ) (t : Term) → lookup (defined names name t) name ≡ Some t
defined-found [] name t = ap (λ b. cond b (Some t) None) (is_itself name)
defined-found (n ∷ names) name t = by (cases_bool (is_name n.0 name)) (defined-found names name t)
  where
    by : (is_name n.0 name ≡ true) ⊎ (is_name n.0 name ≡ false) → lookup (defined names name t) name ≡ Some t
        → lookup (cond (is_name n.0 name) ((name, t) ∷ names) (n ∷ defined names name t)) name ≡ Some t
    by (inl h) r =
        ap (λ b. lookup (cond b ((name, t) ∷ names) (n ∷ defined names name t)) name) h
        ∙ ap (λ b. cond b (Some t) (lookup names name)) (is_itself name)
    by (inr h) r =
        ap (λ b. lookup (cond b ((name, t) ∷ names) (n ∷ defined names name t)) name) h
        ∙ ap (λ b. cond b (Some n.1) (lookup (defined names name t) name)) h ∙ r

pub defined-others : (names : Names) (name other : List ℕ) (t : Term) → is_name name other ≡ false → lookup (defined names name t) other ≡ lookup names other
defined-others [] name other t d = ap (λ b. cond b (Some t) None) d
defined-others (n ∷ names) name other t d = by (cases_bool (is_name n.0 name)) (defined-others names name other t d)
  where
    by : (is_name n.0 name ≡ true) ⊎ (is_name n.0 name ≡ false) → lookup (defined names name t) other ≡ lookup names other
        → lookup (cond (is_name n.0 name) ((name, t) ∷ names) (n ∷ defined names name t)) other ≡ lookup (n ∷ names) other
    by (inl h) r =
        let same = (bytes_eq-Decides n.0 name).0 h in
        ap (λ b. lookup (cond b ((name, t) ∷ names) (n ∷ defined names name t)) other) h
        ∙ ap (λ b. cond b (Some t) (lookup names other)) d
        ∙ sym (ap (λ b. cond b (Some n.1) (lookup names other)) (ap (λ x. is_name x other) same ∙ d))
    by (inr h) r =
        ap (λ b. lookup (cond b ((name, t) ∷ names) (n ∷ defined names name t)) other) h
        ∙ ap (cond (is_name n.0 other) (Some n.1)) r

pub defined-kept : (names : Names) (name : List ℕ) (t u : Term) → lookup names name ≡ Some u → map (λ n. n.0) (defined names name t) ≡ map (λ n. n.0) names
defined-kept [] name t u e = absurd (cc e)
defined-kept (n ∷ names) name t u e = by (cases_bool (is_name n.0 name)) (defined-kept names name t u)
  where
    by : (is_name n.0 name ≡ true) ⊎ (is_name n.0 name ≡ false) → (lookup names name ≡ Some u → map (λ n. n.0) (defined names name t) ≡ map (λ n. n.0) names)
        → map (λ n. n.0) (cond (is_name n.0 name) ((name, t) ∷ names) (n ∷ defined names name t)) ≡ n.0 ∷ map (λ n. n.0) names
    by (inl h) r =
        ap (λ b. map (λ n. n.0) (cond b ((name, t) ∷ names) (n ∷ defined names name t))) h
        ∙ ap (λ x. x ∷ map (λ n. n.0) names) (sym ((bytes_eq-Decides n.0 name).0 h))
    by (inr h) r =
        ap (λ b. map (λ n. n.0) (cond b ((name, t) ∷ names) (n ∷ defined names name t))) h
        ∙ ap (λ x. n.0 ∷ x) (r (sym (ap (λ b. cond b (Some n.1) (lookup names name)) h) ∙ e))

pub defined-last : (names : Names) (name : List ℕ) (t : Term) → lookup names name ≡ None → map (λ n. n.0) (defined names name t) ≡ map (λ n. n.0) names ++ name ∷ []
defined-last [] name t e = refl
defined-last (n ∷ names) name t e = by (cases_bool (is_name n.0 name)) (defined-last names name t)
  where
    by : (is_name n.0 name ≡ true) ⊎ (is_name n.0 name ≡ false) → (lookup names name ≡ None → map (λ n. n.0) (defined names name t) ≡ map (λ n. n.0) names ++ name ∷ [])
        → map (λ n. n.0) (cond (is_name n.0 name) ((name, t) ∷ names) (n ∷ defined names name t)) ≡ n.0 ∷ map (λ n. n.0) names ++ name ∷ []
    by (inl h) r = let f : Some n.1 ≡ None = sym (ap (λ b. cond b (Some n.1) (lookup names name)) h) ∙ e in absurd (cc f)
    by (inr h) r =
        ap (λ b. map (λ n. n.0) (cond b ((name, t) ∷ names) (n ∷ defined names name t))) h
        ∙ ap (λ x. n.0 ∷ x) (r (sym (ap (λ b. cond b (Some n.1) (lookup names name)) h) ∙ e))
