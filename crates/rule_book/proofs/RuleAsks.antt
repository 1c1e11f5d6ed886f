-- What the rules of cycles and of suspensions want of the space, and what the rules ask for, against the limits on their values.
use Rattle.std.proofs.Common.{◌≡◌, ℕ, Result, Ok, Err, IfOk, List, [], refl, sym, ◌∙◌, ap, subst, arith, ℤ}
use Rattle.std.specs.Prelude.{Contains}
use Rattle.std.proofs.lemmas.List.Elements.{All-from_recursion}
use Rattle.std.specs.declared.alloc.AllocError.{AllocError}
use Rattle.fp_field.specs.declared.prime.Prime.{Prime}
use Rattle.fp_field.specs.Field.{number}
use Rattle.fp_field.specs.Reduction.{IsReduction}
use Rattle.fp_field.proofs.FieldLaws.{is_field}
use Rattle.spaces.specs.Allowed.{IsAllowed}
use Rattle.spaces.specs.Spaces.{Space, table, sphere, product, suspension, kz1, bundle, loops, paths, kzm1, cyclic_bundle}
use Rattle.term_lang.specs.declared.tables.Row.{Row}
use Rattle.term_lang.specs.declared.terms.Term.{Term}
use Rattle.term_lang.specs.declared.terms.Term.TheVariants.{Table as TableTerm, Sphere, Product, Suspension, KZ1, Bundle}
use Rattle.term_lang.specs.SpaceOf.{space_of}
use Rattle.term_lang.proofs.SpacesOfTerms.{space-Table, space-Sphere, space-Product, space-Suspension, space-KZ1, space-Bundle}
use Rattle.values.specs.Asks.{Ask}
use Rattle.values.specs.Laws.{maps_of}
use Rattle.oracle_iface.specs.declared.keys.Key.{Key}
use Rattle.oracle_iface.specs.declared.bodies.Body.{Body}
use Rattle.oracle_iface.specs.declared.bodies.Over.{Over}
use Rattle.oracle_iface.specs.declared.bodies.Outcome.{Outcome}
use Rattle.oracle_iface.specs.declared.bodies.Outcome.TheVariants.{Value, Over as IsOver}
use Rattle.oracle_iface.specs.Forcing.{Calls, AsksNeeds, CoversAtValue, nothing_asked}
use Rattle.oracle_iface.specs.Keys.{needs_of}
use Rattle.oracle_iface.specs.declared.keys.Op.TheVariants.{Cycles}
use Rattle.oracle_iface.specs.Terms.{term_of}
use Rattle.oracle_iface.proofs.Named.{term-back}
use Rattle.oracle_iface.proofs.ValidPlaces.{key-allowed}
use Rattle.homology_rules.specs.Shown.{HasShownValues}
use Rattle.susp_rules.specs.Treated.{IsTreated}
use Rattle.normal_forms.specs.Built.{IsBuilt}
use Rattle.normal_forms.proofs.BuiltForms.{built_cells}
use Rattle.susp_rules.specs.Suspendable.{IsSuspendable}
use Rattle.susp_rules.proofs.ShownSuspensions.{degrees-shown}
use Rattle.twist_laws.proofs.AssembledHomology.{assembled-reduction}
use Rattle.twist_rules.specs.PartSpaces.{IsFibred}
use Rattle.rule_book.specs.Needed.{built_assembled}
use Rattle.rule_book.specs.Refused.{StaysRefused}
use Rattle.rule_book.specs.RowSpaces.{HasRows, IsRowKey}
use Rattle.rule_book.proofs.WithinLimits.{rows-none_needed}

-- ---- the spaces that are built

pub reduction : (p : Prime) (a : Space) → IsAllowed a → IsBuilt a → IsReduction (number p) (maps_of (number p) a)
reduction p a is built = assembled-reduction (number p) (is_field p) a is (built_assembled a built)

-- their values have only cells that the code has
pub shown : (k : Key) → IsTreated k → HasShownValues (number k.prime) (space_of k.term)
shown k is =
    let a = space_of k.term in
    let allowed = key-allowed k is.0 in
    degrees-shown (number k.prime) a allowed (built_cells a allowed is.1) (reduction k.prime a allowed is.1 0).degrees

-- ---- the terms of keys

pub integers-space : (k : Key) → k.term ≡ KZ1 → space_of k.term ≡ kz1
integers-space k e = ap space_of e ∙ space-KZ1

suspendable : (p : Prime) (a : Space) → IsBuilt a → IsAllowed (suspension a) → IsSuspendable (number p) a
suspendable p a built allowed =
    let part : IsAllowed a = (allowed.0.0, omega (arith, allowed.1)) in record {
      part_cells = built_cells a part built;
      cells = built_cells (suspension a) allowed built;
      degrees = (reduction p a part built 0).degrees;
    }

pub suspension-space : (k : Key) (t : Term) → IsTreated k → k.term ≡ Suspension t
    → (a : Space) × (space_of k.term ≡ suspension a) × IsSuspendable (number k.prime) a
suspension-space k t is e =
    let same : space_of k.term ≡ suspension (space_of t) = ap space_of e ∙ space-Suspension t in
    (space_of t, same, suspendable k.prime (space_of t) (subst IsBuilt same is.1) (subst IsAllowed same (key-allowed k is.0)))

-- a product or a bundle
pub product-space : (k : Key) (t u : Term) → IsTreated k → k.term ≡ Product t u → IsFibred (space_of k.term) × IsBuilt (space_of k.term)
product-space k t u is e = (subst IsFibred (sym (ap space_of e ∙ space-Product t u)) tt, is.1)

pub bundle-space : (k : Key) (rows : List Row) (values : List ℤ) → IsTreated k → k.term ≡ Bundle rows values → IsFibred (space_of k.term) × IsBuilt (space_of k.term)
bundle-space k rows values is e = (subst IsFibred (sym (ap space_of e ∙ space-Bundle rows values)) tt, is.1)

pub rows-table : (k : Key) (rows : List Row) → IsTreated k → k.term ≡ TableTerm rows → IsRowKey k
rows-table k rows is e = (is.0, subst HasRows (sym (ap space_of e ∙ space-Table rows)) tt)

pub rows-sphere : (k : Key) (m : ℕ) → IsTreated k → k.term ≡ Sphere m → IsRowKey k
rows-sphere k m is e = (is.0, subst HasRows (sym (ap space_of e ∙ space-Sphere m)) tt)

-- the term of a space that is built
pub built_term : (t : Term) → IsBuilt (space_of t) → ((rows : List Row) → t ≡ TableTerm rows → ⊥) → ((m : ℕ) → t ≡ Sphere m → ⊥) → (t ≡ KZ1 → ⊥)
    → ((u : Term) → t ≡ Suspension u → ⊥) → ((u v : Term) → t ≡ Product u v → ⊥) → ((rows : List Row) (values : List ℤ) → t ≡ Bundle rows values → ⊥) → ⊥
built_term t built no_table no_sphere no_integers no_suspension no_product no_bundle = by (space_of t) built (term-back t)
  where
    by : (a : Space) → IsBuilt a → term_of a ≡ t → ⊥
    by (table rows) b e = no_table _ (sym e)
    by (sphere m) b e = no_sphere m (sym e)
    by (product a c) b e = no_product (term_of a) (term_of c) (sym e)
    by (suspension a) b e = no_suspension (term_of a) (sym e)
    by kz1 b e = no_integers (sym e)
    by (bundle r c) b e = no_bundle _ c (sym e)
    by (loops a) b e = absurd b
    by (paths a) b e = absurd b
    by (kzm1 m) b e = absurd b
    by (cyclic_bundle r m c) b e = absurd b

-- ---- refusals

pub stays_free : (found : Outcome) (b : Body) (o : Outcome) → found ≡ Value b → StaysRefused found o
stays_free found b o e = subst (λ f. StaysRefused f o) (sym e) tt

pub stays_over : (found : Outcome) (w : Over) → found ≡ IsOver w → StaysRefused found (IsOver w)
stays_over found w e = subst (λ f. StaysRefused f (IsOver w)) (sym e) refl

-- ---- what is asked for

module _ {F : Type 0} (calls : Calls F) (k : Key) (s t : F) where
  covers_as : (found o : Outcome) → StaysRefused found o → (qs ns : List Ask) → CoversAtValue (Ok found) qs ns → CoversAtValue (Ok o) qs ns
  covers_as (Value b) (Value c) stays qs ns covers = covers
  covers_as (Value b) (IsOver w) stays qs ns covers = tt
  covers_as (IsOver v) (Value c) stays qs ns covers = cc
  covers_as (IsOver v) (IsOver w) stays qs ns covers = tt

  -- the limits on the value of a key ask for nothing
  pub asks_limited : (found : Outcome) (r : Result Outcome AllocError) → IfOk r (StaysRefused found) → AsksNeeds calls k s t (Ok found) → AsksNeeds calls k s t r
  asks_limited found (Ok o) stays asks = record {
    asks = asks.asks;
    begins = asks.begins;
    whole = covers_as found o stays asks.asks _ asks.whole;
    asked = asks.asked;
  }
  asks_limited found (Err e) stays asks = record { asks = asks.asks; begins = asks.begins; whole = tt; asked = asks.asked }

covers_none : (r : Result Outcome AllocError) → CoversAtValue r [] []
covers_none (Ok (Value b)) = All-from_recursion (Contains []) [] tt
covers_none (Ok (IsOver w)) = tt
covers_none (Err e) = tt

-- a key that needs nothing is answered without asking
pub asks_nothing : {F : Type 0} (calls : Calls F) (k : Key) (s : F) (r : Result Outcome AllocError) → IsRowKey k → (k.op ≡ Cycles → ⊥) → AsksNeeds calls k s s r
asks_nothing calls k s r is not = record {
  asks = [];
  begins = nothing_asked [] (needs_of k);
  whole = subst (CoversAtValue r []) (sym (rows-none_needed k is not)) (covers_none r);
  asked = refl;
}
