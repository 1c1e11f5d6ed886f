-- Questions about a suspension: what each needs, and where it is.
use Rattle.std.proofs.Common.{◌≡◌, ℕ, zero, suc, ◌-◌, ◌<◌, ◌≤◌, nat_lt, List, [], ◌∷◌, cond, Option, Some, None, refl, sym, ◌∙◌, ap, subst, arith}
use Rattle.std.specs.Option.{option_map}
use Rattle.simp_ops.proofs.PlacesOf.{not_lt}
use Rattle.fp_field.specs.declared.prime.Prime.{Prime}
use Rattle.fp_field.specs.Field.{number}
use Rattle.spaces.specs.Spaces.{Space, suspension, Plain}
use Rattle.spaces.specs.SmallCells.{Small}
use Rattle.cells.specs.declared.cells.Cell.{Cell, out-Cell, out-roll-Cell}
use Rattle.cells.specs.declared.cells.Cell.TheVariants.{Base, Up, rolls-Base, rolls-Up}
use Rattle.cells.specs.declared.cells.Cell.TheOpen.{Cell-F}
use Rattle.cells.specs.declared.cells.SmallCell.{SmallCell, out-SmallCell, out-roll-SmallCell}
use Rattle.cells.specs.declared.cells.SmallCell.TheVariants.{One, Up as SmallUp, rolls-One, rolls-Up as rolls-SmallUp}
use Rattle.cells.specs.declared.cells.SmallCell.TheOpen.{SmallCell-F}
use Rattle.term_lang.specs.declared.terms.Term.{Term, out-Term, out-roll-Term}
use Rattle.term_lang.specs.declared.terms.Term.TheVariants.{Suspension, rolls-Suspension}
use Rattle.term_lang.specs.declared.terms.Term.TheOpen.{Term-F}
use Rattle.term_lang.specs.SpaceOf.{space_of}
use Rattle.term_lang.specs.Quote.{quote_cell}
use Rattle.values.specs.Asks.{Ask, basis, small_d, f as f_at, g as g_at, h as h_at, cycles}
use Rattle.values.specs.Values.{needs}
use Rattle.values.specs.Ranks.{IsValid, space_of as space_asked, is_cycles}
use Rattle.oracle_iface.specs.declared.keys.Key.{Key}
use Rattle.oracle_iface.specs.declared.keys.Op.TheVariants.{Cycles}
use Rattle.oracle_iface.specs.declared.keys.Place.{Place}
use Rattle.oracle_iface.specs.declared.keys.Place.TheVariants.{Degree, Small as SmallPlace, Big as BigPlace}
use Rattle.oracle_iface.specs.Keys.{question_of, key_of, needs_of, op_of, place_of, IsValidKey}
use Rattle.oracle_iface.specs.SmallForms.{quote_small}
use Rattle.oracle_iface.specs.Terms.{term_of}
use Rattle.oracle_iface.proofs.CyclesNeeds.{key-space}
use Rattle.susp_rules.specs.Places.{part_place, small_below, cell_below, degree_below}
use Rattle.susp_rules.specs.Suspendable.{IsOnlyNeed}

-- ---- what holds for each kind of question about a suspension but cycles

pub at_suspension : (a : Space) (P : Ask → Type 0) → ((n : ℕ) → P (basis (suspension a) n)) → ((y : Small (suspension a)) → P (small_d (suspension a) y))
    → ((n : ℕ) (x : Plain (suspension a)) → P (f_at (suspension a) n x)) → ((y : Small (suspension a)) → P (g_at (suspension a) y))
    → ((n : ℕ) (x : Plain (suspension a)) → P (h_at (suspension a) n x)) → (q : Ask) → space_asked q ≡ suspension a → (op_of q ≡ Cycles → ⊥) → P q
at_suspension a P b d f g h (basis s n) e not = subst (λ t. (n : ℕ) → P (basis t n)) (sym e) b n
at_suspension a P b d f g h (small_d s y) e not = subst (λ t. (y : Small t) → P (small_d t y)) (sym e) d y
at_suspension a P b d f g h (f_at s n x) e not = subst (λ t. (n : ℕ) (x : Plain t) → P (f_at t n x)) (sym e) f n x
at_suspension a P b d f g h (g_at s y) e not = subst (λ t. (y : Small t) → P (g_at t y)) (sym e) g y
at_suspension a P b d f g h (h_at s n x) e not = subst (λ t. (n : ℕ) (x : Plain t) → P (h_at t n x)) (sym e) h n x
at_suspension a P b d f g h (cycles s n) e not = absurd (not refl)

-- ---- what a place lies over

below-Up : (c : Cell) → cell_below (out-Cell (Up c)) ≡ Some c
below-Up c = ap cell_below (ap out-Cell (sym (rolls-Up c)) ∙ out-roll-Cell (Cell-F.Up c))

below-Base : cell_below (out-Cell Base) ≡ None
below-Base = ap cell_below (ap out-Cell (sym rolls-Base) ∙ out-roll-Cell Cell-F.Base)

below-SmallUp : (y : SmallCell) → small_below (out-SmallCell (SmallUp y)) ≡ Some y
below-SmallUp y = ap small_below (ap out-SmallCell (sym (rolls-SmallUp y)) ∙ out-roll-SmallCell (SmallCell-F.Up y))

below-One : (c : Cell) → small_below (out-SmallCell (One c)) ≡ None
below-One c = ap small_below (ap out-SmallCell (sym (rolls-One c)) ∙ out-roll-SmallCell (SmallCell-F.One c))

below-degree : (n : ℕ) → degree_below (suc (suc n)) ≡ Some (suc n)
below-degree n =
    ap (λ b. cond b None (Some (suc (suc n) - 1))) (not_lt (suc (suc n)) 2 (omega arith))
    ∙ ap (λ m. Some m) (let q : suc (suc n) - 1 ≡ suc n = omega arith in q)

-- what is suspended, or some other term
abbrev part_in : Term → Term-F Term → Term
part_in t (Term-F.Table rows) = t
part_in t (Term-F.Sphere m) = t
part_in t (Term-F.Product u v) = t
part_in t (Term-F.Suspension u) = u
part_in t Term-F.KZ1 = t
part_in t (Term-F.Bundle rows values) = t
part_in t (Term-F.Loop u) = t
part_in t (Term-F.Path u) = t

pub one-part : (t u : Term) → Suspension t ≡ Suspension u → t ≡ u
one-part t u e = sym (opened t) ∙ ap (λ v. part_in t (out-Term v)) e ∙ opened u
  where
    opened : (v : Term) → part_in t (out-Term (Suspension v)) ≡ v
    opened v = ap (part_in t) (ap out-Term (sym (rolls-Suspension v)) ∙ out-roll-Term (Term-F.Suspension v))

-- the key of the part at a place, where there is one
abbrev pub key_at : Prime → Ask → Term → Option Place → Option Key
key_at p q t o = option_map (λ place. record { op = op_of q; prime = p; place = place; term = t }) o

-- each need is at what the place lies over
abbrev pub IsNeedAt : Prime → Space → Ask → Type 0
IsNeedAt p a q = IsOnlyNeed p (needs (number p) q) (key_at p q (term_of a) (part_place (place_of q)))

module _ (p : Prime) (a : Space) where
  from_place : (q : Ask) (o : Option Place) → part_place (place_of q) ≡ o → IsOnlyNeed p (needs (number p) q) (key_at p q (term_of a) o) → IsNeedAt p a q
  from_place q o e h = subst (λ u. IsOnlyNeed p (needs (number p) q) (key_at p q (term_of a) u)) (sym e) h

  basis-need : (n : ℕ) → IsNeedAt p a (basis (suspension a) n)
  basis-need zero = from_place (basis (suspension a) 0) None refl refl
  basis-need (suc zero) = from_place (basis (suspension a) 1) None refl refl
  basis-need (suc (suc n)) = from_place (basis (suspension a) (suc (suc n))) (Some (Degree (suc n))) (ap (option_map (λ m. Degree m)) (below-degree n)) (basis a (suc n), refl, refl)

  small_d-need : (y : Small (suspension a)) → IsNeedAt p a (small_d (suspension a) y)
  small_d-need None = from_place (small_d (suspension a) None) None (ap (option_map (λ z. SmallPlace z)) (below-One Base)) refl
  small_d-need (Some y) = from_place (small_d (suspension a) (Some y)) (Some (SmallPlace (quote_small a y))) (ap (option_map (λ z. SmallPlace z)) (below-SmallUp (quote_small a y))) (small_d a y, refl, refl)

  g-need : (y : Small (suspension a)) → IsNeedAt p a (g_at (suspension a) y)
  g-need None = from_place (g_at (suspension a) None) None (ap (option_map (λ z. SmallPlace z)) (below-One Base)) refl
  g-need (Some y) = from_place (g_at (suspension a) (Some y)) (Some (SmallPlace (quote_small a y))) (ap (option_map (λ z. SmallPlace z)) (below-SmallUp (quote_small a y))) (g_at a y, refl, refl)

  f-need : (n : ℕ) (x : Plain (suspension a)) → IsNeedAt p a (f_at (suspension a) n x)
  f-need n None = from_place (f_at (suspension a) n None) None (ap (option_map (λ z. BigPlace z)) below-Base) refl
  f-need n (Some s) =
      from_place (f_at (suspension a) n (Some s)) (Some (BigPlace (quote_cell a (n - 1) s.1))) (ap (option_map (λ z. BigPlace z)) (below-Up (quote_cell a (n - 1) s.1)))
      (f_at a (n - 1) s.1, refl, refl)

  h-need : (n : ℕ) (x : Plain (suspension a)) → IsNeedAt p a (h_at (suspension a) n x)
  h-need n None = from_place (h_at (suspension a) n None) None (ap (option_map (λ z. BigPlace z)) below-Base) refl
  h-need n (Some s) =
      from_place (h_at (suspension a) n (Some s)) (Some (BigPlace (quote_cell a (n - 1) s.1))) (ap (option_map (λ z. BigPlace z)) (below-Up (quote_cell a (n - 1) s.1)))
      (h_at a (n - 1) s.1, refl, refl)

  pub need-at : (q : Ask) → space_asked q ≡ suspension a → (op_of q ≡ Cycles → ⊥) → IsNeedAt p a q
  need-at = at_suspension a (IsNeedAt p a) basis-need small_d-need f-need g-need h-need

-- ---- keys about a suspension

module _ (k : Key) (is : IsValidKey k) (a : Space) (of : space_of k.term ≡ suspension a) (not : k.op ≡ Cycles → ⊥) where
  pub asked-space : space_asked (question_of k) ≡ suspension a
  asked-space = key-space k ∙ of

  pub asked-not : op_of (question_of k) ≡ Cycles → ⊥
  asked-not e = not (ap (λ j. j.op) is.key_is ∙ e)

  pub term-is : k.term ≡ Suspension (term_of a)
  term-is = ap (λ j. j.term) is.key_is ∙ ap term_of asked-space

  -- the one need of the key, at what its place lies over
  pub need-found : (o : Option Place) → o ≡ part_place k.place
      → IsOnlyNeed k.prime (needs_of k) (option_map (λ place. record { op = k.op; prime = k.prime; place = place; term = term_of a }) o)
  need-found o e =
      subst (λ u. IsOnlyNeed k.prime (needs_of k) u)
      (λ i. option_map (λ place. record { op = sym (ap (λ j. j.op) is.key_is) i; prime = k.prime; place = place; term = term_of a }) (sym (e ∙ ap (λ j. part_place j.place) is.key_is) i))
      (need-at k.prime a (question_of k) asked-space asked-not)

  pub need-key : (place : Place) (t : Term) → Some place ≡ part_place k.place → k.term ≡ Suspension t
      → (q : Ask) × (needs_of k ≡ q ∷ []) × (record { op = k.op; prime = k.prime; place = place; term = t } ≡ key_of k.prime q)
  need-key place t e s =
      let n = need-found (Some place) e in
      (n.0, n.1, (λ i. record { op = k.op; prime = k.prime; place = place; term = one-part t (term_of a) (sym s ∙ term-is) i }) ∙ n.2)
