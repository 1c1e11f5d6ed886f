-- What the names of a session stand for, line by line.
use Rattle.std.proofs.Common.{◌≡◌, ℕ, ◌<◌, ◌≤◌, Bool, true, false, ◌||◌, ◌==◌, nat_lt, cond, List, [], ◌∷◌, Option, Some, None, ◌⊎◌, inl, inr, refl, sym, ◌∙◌, subst, arith, true≢false}
use Rattle.std.proofs.lemmas.Bool.{cases_lt}
use Rattle.simp_ops.proofs.PlacesOf.{is_eq, is_lt}
use Rattle.spaces.specs.Spaces.{table}
use Rattle.term_lang.specs.declared.terms.Term.{Term}
use Rattle.term_lang.specs.declared.terms.Term.TheVariants.{Sphere as SphereTerm, Product as ProductTerm, Suspension as SuspensionTerm, KZ1 as KZ1Term}
use Rattle.term_lang.specs.declared.texts.RowText.{RowText}
use Rattle.term_lang.specs.SpaceOf.{space_of}
use Rattle.term_lang.specs.TermFaults.{Fault, own_fault}
use Rattle.term_lang.proofs.SpacesOfTerms.{space-Sphere, space-KZ1}
use Rattle.finite_sets.specs.Meaning.{meaning_of}
use Rattle.finite_sets.specs.Faults.{fault_of}
use Rattle.finite_sets.specs.declared.faults.TableFault.{TableFault}
use Rattle.finite_sets.proofs.TableFaults.{table_from}
use Rattle.oracle_iface.specs.Terms.{term_of}
use Rattle.script_lang.specs.declared.commands.Command.{Command}
use Rattle.script_lang.specs.declared.commands.Command.TheVariants as commands
use Rattle.script_lang.specs.declared.exprs.PairText.{PairText}
use Rattle.script_lang.specs.declared.exprs.Expr.{Expr, roll-Expr, map-Expr, ind-Expr}
use Rattle.script_lang.specs.declared.exprs.Expr.TheOpen.{Expr-F}
use Rattle.reply_text.specs.declared.refusals.Refusal.TheVariants as refusals
use Rattle.session_core.specs.Answer.{Names, State, Told, told, refused, ◌>>◌, Replied, is_name, lookup, defined, named_space, table_refusal, told_table, told_sphere, term_refusal, told_product, told_suspension, told_bundle, space_step, told_space, answer}
use Rattle.session_core.specs.Kept.{is_question}
use Rattle.session_core.specs.Lines.{answer_told, told_line, answer_bytes}
use Rattle.session_core.specs.Whole.{IsReady, AreReady, IsWhole}
use Rattle.session_core.proofs.Layers.{rolled}
use Rattle.session_core.proofs.BundlesTold.{bundle_is_ready}
use Rattle.session_core.proofs.ProductFaults.{ready_product}
use Rattle.session_core.proofs.SuspensionFaults.{ready_suspension}
use Rattle.session_core.proofs.TableNames.{table-named}
use Rattle.session_core.proofs.Unchanged.{Each, each-answer, question-same, field-names}

abbrev pub IsReadyTerm : Term → Type 0
IsReadyTerm t = IsReady (space_of t)

-- what is told is ready
abbrev pub Ready : Told Term → Type 0
Ready (told t) = IsReadyTerm t
Ready (refused r) = Unit {0}

-- ---- spaces

abbrev pub ReadyIfSome : Option Term → Type 0
ReadyIfSome (Some t) = IsReadyTerm t
ReadyIfSome None = Unit {0}

pub ready-lookup : (names : Names) (name : List ℕ) → AreReady names → ReadyIfSome (lookup names name)
ready-lookup [] name h = tt
ready-lookup (n ∷ names) name h = by (is_name n.0 name) (ready-lookup names name h.1)
  where
    by : (b : Bool) → ReadyIfSome (lookup names name) → ReadyIfSome (cond b (Some n.1) (lookup names name))
    by true more = h.0
    by false more = more

ready-named : (names : Names) (name : List ℕ) → AreReady names → Ready (named_space names name)
ready-named names name h = by (lookup names name) (ready-lookup names name h)
  where
    by : (o : Option Term) → ReadyIfSome o → Ready (elim o [ Some t ↦ told t | None ↦ refused (refusals.UnknownName name) ])
    by (Some t) r = r
    by None r = tt

pub ready-rows : (rows : List RowText) → fault_of rows ≡ None → IsReadyTerm (term_of (table (meaning_of rows)))
ready-rows rows e =
    let is = table_from rows e in
    subst IsReady (sym (table-named (meaning_of rows) is)) ((is, omega arith), tt)

ready-table : (rows : List RowText) → Ready (told_table rows)
ready-table rows = by (fault_of rows) refl
  where
    by : (o : Option TableFault) → fault_of rows ≡ o → Ready (elim o [ Some fault ↦ refused (table_refusal fault) | None ↦ told (term_of (table (meaning_of rows))) ])
    by (Some fault) e = tt
    by None e = ready-rows rows e

pub ready-dimension : (n : ℕ) → 0 < n → n ≤ 16 → IsReadyTerm (SphereTerm n)
ready-dimension n low high = subst IsReady (sym (space-Sphere n)) (((low, high), omega arith), tt)

-- the test of a sphere's dimension
abbrev is_bad : ℕ → Bool
is_bad n = (n == 0) || nat_lt 16 n

none_of : (a b : Bool) → (a || b) ≡ false → (a ≡ false) × (b ≡ false)
none_of true b e = absurd (true≢false e)
none_of false b e = (refl, e)

pub good_dimension : (n : ℕ) → is_bad n ≡ false → (0 < n) × (n ≤ 16)
good_dimension n e = (low (cases_lt 0 n), high (cases_lt 16 n))
  where
    neither : ((n == 0) ≡ false) × (nat_lt 16 n ≡ false)
    neither = none_of (n == 0) (nat_lt 16 n) e

    low : (0 < n) ⊎ (n ≤ 0) → 0 < n
    low (inl h) = h
    low (inr h) = absurd (true≢false (sym (is_eq n 0 (omega arith)) ∙ neither.0))

    high : (16 < n) ⊎ (n ≤ 16) → n ≤ 16
    high (inl h) = absurd (true≢false (sym (is_lt 16 n h) ∙ neither.1))
    high (inr h) = h

ready-sphere : (n : ℕ) → Ready (told_sphere n)
ready-sphere n = by (is_bad n) refl
  where
    by : (b : Bool) → is_bad n ≡ b → Ready (cond b (refused (refusals.BadSphere n)) (told (SphereTerm n)))
    by true e = tt
    by false e = let d = good_dimension n e in ready-dimension n d.0 d.1

-- a suspension that is told of a part that is ready
ready-suspension : (m : Told Term) → Ready m → Ready (told_suspension m)
ready-suspension (refused r) h = tt
ready-suspension (told part) h = by (own_fault (space_of (SuspensionTerm part))) refl
  where
    by : (o : Fault) → own_fault (space_of (SuspensionTerm part)) ≡ o → Ready (elim o [ Some fault ↦ refused (term_refusal fault) | None ↦ told (SuspensionTerm part) ])
    by (Some fault) e = tt
    by None e = ready_suspension part h e

-- a product that is told of parts that are ready
ready-product : (m l : Told Term) → Ready m → Ready l → Ready (told_product m l)
ready-product (refused r) l h k = tt
ready-product (told left) (refused r) h k = tt
ready-product (told left) (told right) h k = by (own_fault (space_of (ProductTerm left right))) refl
  where
    by : (o : Fault) → own_fault (space_of (ProductTerm left right)) ≡ o → Ready (elim o [ Some fault ↦ refused (term_refusal fault) | None ↦ told (ProductTerm left right) ])
    by (Some fault) e = tt
    by None e = ready_product left right h k e

ready-told : (m : Told Term) → ((t : Term) → m ≡ told t → IsReadyTerm t) → Ready m
ready-told (told t) h = h t refl
ready-told (refused r) h = tt

-- a bundle that is told over a base that is ready
ready-bundle : (pairs : List PairText) (m : Told Term) → Ready m → Ready (told_bundle pairs m)
ready-bundle pairs (refused r) h = tt
ready-bundle pairs (told base) h = ready-told (told_bundle pairs (told base)) (bundle_is_ready pairs base h)

pub ready_integers : IsReadyTerm KZ1Term
ready_integers = subst IsReady (sym space-KZ1) ((tt, omega arith), tt)

module _ (names : Names) (h : AreReady names) where
  module _ (S : Type 0) (f : S → Expr) (part : (s : S) → Ready (told_space names (f s))) where
    ready-step : (y : Expr-F S) → Ready (space_step names (map-Expr Expr (Told Term) (told_space names) (map-Expr S Expr f y)))
    ready-step (Expr-F.Name name) = ready-named names name h
    ready-step (Expr-F.Sphere n) = ready-sphere n
    ready-step (Expr-F.Table rows) = ready-table rows
    ready-step (Expr-F.Product a b) = ready-product (told_space names (f a)) (told_space names (f b)) (part a) (part b)
    ready-step (Expr-F.Suspension a) = ready-suspension (told_space names (f a)) (part a)
    ready-step Expr-F.KZ1 = ready_integers
    ready-step (Expr-F.Loop a) = tt
    ready-step (Expr-F.Path a) = tt
    ready-step (Expr-F.Bundle a pairs) = ready-bundle pairs (told_space names (f a)) (part a)

    ready-level : (y : Expr-F S) → Ready (told_space names (roll-Expr (map-Expr S Expr f y)))
    ready-level y = subst Ready (sym (rolled names (map-Expr S Expr f y))) (ready-step y)

  pub ready-space : (e : Expr) → Ready (told_space names e)
  ready-space e = ind-Expr (λ e. Ready (told_space names e)) (λ x y e. subst (λ z. Ready (told_space names (roll-Expr z))) e (ready-level _ (λ s. s.0) (λ s. s.1) y)) e

-- ---- names

pub ready-defined : (names : Names) (name : List ℕ) (t : Term) → AreReady names → IsReadyTerm t → AreReady (defined names name t)
ready-defined [] name t h r = (r, tt)
ready-defined (n ∷ names) name t h r = by (is_name n.0 name) (ready-defined names name t h.1 r)
  where
    by : (b : Bool) → AreReady (defined names name t) → AreReady (cond b ((name, t) ∷ names) (n ∷ defined names name t))
    by true more = (r, h.1)
    by false more = (h.0, more)

-- ---- lines

module _ (s : State) (h : IsWhole s) where
  abbrev WholeAfter : Replied → Type 0
  WholeAfter r = IsWhole r.1

  each-ready : (m : Told Term) (next : Term → Told Replied) → Ready m → ((t : Term) → IsReadyTerm t → Each WholeAfter (next t)) → Each WholeAfter (m >> next)
  each-ready (told t) next r f = f t r
  each-ready (refused w) next r f = tt

  of-question : (c : Command) → is_question c ≡ true → IsWhole (answer s c).1
  of-question c q = subst IsWhole (sym (question-same s c q)) h

  whole-answer : (c : Command) → IsWhole (answer s c).1
  whole-answer (commands.Field n) = subst AreReady (sym (field-names s n)) h
  whole-answer (commands.Setf name e) =
      each-answer WholeAfter s (commands.Setf name e)
      (each-ready (told_space s.names e) _ (ready-space s.names h e) (λ t r. ready-defined s.names name t h r)) (λ w. h)
  whole-answer commands.Names = of-question commands.Names refl
  whole-answer (commands.Betti e low high) = of-question (commands.Betti e low high) refl
  whole-answer (commands.Homology e n) = of-question (commands.Homology e n) refl
  whole-answer (commands.Boundary e n c) = of-question (commands.Boundary e n c) refl
  whole-answer (commands.Express e n c) = of-question (commands.Express e n c) refl

  whole-told : (m : Told (Option Command)) → IsWhole (answer_told s m).1
  whole-told (told None) = h
  whole-told (told (Some c)) = whole-answer c
  whole-told (refused r) = h

  pub whole-after : (line : List ℕ) → IsWhole (answer_bytes s line).1
  unfolding answer_bytes
  whole-after line = whole-told (told_line line)
