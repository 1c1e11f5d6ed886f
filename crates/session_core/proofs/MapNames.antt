-- A map in order of insertion as names with the terms that they stand for.
use Rattle.std.specs.Prelude.{if◌then◌else◌, IfSome}
use Rattle.std.specs.Option.{option_copied}
use Rattle.std.proofs.Common.{◌≡◌, ℕ, Bool, true, false, cond, List, [], ◌∷◌, Option, Some, None, refl, sym, ◌∙◌, ap, subst, true≢false, Bor}
use Rattle.std.proofs.lemmas.Slice.Eq.{bytes_eq-Decides}
use Rattle.std.specs.Map.{lookup as lookup_in}
use Rattle.indexmap.specs.IndexMap.{insert_entry}
use Rattle.term_lang.specs.declared.terms.Term.{Term}
use Rattle.term_lang.specs.SpaceOf.{space_of}
use Rattle.session_core.specs.Answer.{Names, is_name, lookup, defined}
use Rattle.session_core.specs.Whole.{IsReady}
use Rattle.session_core.proofs.ReadyNames.{IsReadyTerm, ReadyIfSome}

pub name_swap : (a b : List ℕ) → is_name a b ≡ is_name b a
name_swap a b = by (is_name a b) (is_name b a) refl refl
  where
    by : (x y : Bool) → is_name a b ≡ x → is_name b a ≡ y → x ≡ y
    by true true e f = refl
    by false false e f = refl
    by true false e f = let s = (bytes_eq-Decides b a).1 (sym ((bytes_eq-Decides a b).0 e)) in absurd (true≢false (sym s ∙ f))
    by false true e f = let s = (bytes_eq-Decides a b).1 (sym ((bytes_eq-Decides b a).0 f)) in absurd (true≢false (sym s ∙ e))

pub lookup_is : (names : Names) (name : List ℕ) → lookup_in (is_name name) names ≡ lookup names name
lookup_is [] name = refl
lookup_is (n ∷ names) name = λ i. cond (name_swap name n.0 i) (Some n.1) (lookup_is names name i)

pub insert_is : (names : Names) (name : List ℕ) (t : Term) → insert_entry is_name names name t ≡ defined names name t
insert_is [] name t = refl
insert_is (n ∷ names) name t = by (is_name name n.0) refl (insert_is names name t)
  where
    by : (b : Bool) → is_name name n.0 ≡ b → insert_entry is_name names name t ≡ defined names name t → insert_entry is_name (n ∷ names) name t ≡ defined (n ∷ names) name t
    by true e r =
        let same = (bytes_eq-Decides name n.0).0 e in
        ap (λ b. if b then (n.0, t) ∷ names else n ∷ insert_entry is_name names name t) e
        ∙ ap (λ x. (x, t) ∷ names) (sym same)
        ∙ sym (ap (λ b. cond b ((name, t) ∷ names) (n ∷ defined names name t)) (name_swap n.0 name ∙ e))
    by false e r =
        ap (λ b. if b then (n.0, t) ∷ names else n ∷ insert_entry is_name names name t) e
        ∙ ap (λ l. n ∷ l) r
        ∙ sym (ap (λ b. cond b ((name, t) ∷ names) (n ∷ defined names name t)) (name_swap n.0 name ∙ e))

pub ready_found : (o : Option (Bor Term)) (found : Option Term) → option_copied o ≡ found → ReadyIfSome found → IfSome o (λ t. IsReady (space_of t.now))
ready_found (Some t) (Some u) e h = let same : t.now ≡ u = cc in subst IsReadyTerm (sym same) h
ready_found (Some t) None e h = absurd (cc e)
ready_found None found e h = tt
