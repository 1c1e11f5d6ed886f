-- The evaluation of a map of a product or a circle bundle at the place of a key is that of the key's right side.
use Rattle.std.proofs.Common.{◌≡◌, ℕ, ◌+◌, ◌≤◌, List, [], ◌∷◌, map, Option, Some, None, ℤ, Bool, true, false, nat_lt, ◌⊎◌, inl, inr, refl, sym, ◌∙◌, ap, subst, arith}
use Rattle.std.specs.List.{AllByRecursion as Every}
use Rattle.std.proofs.lemmas.Bool.Decides.{nat_tests}
use Rattle.fp_field.specs.declared.prime.Prime.{Prime}
use Rattle.fp_field.specs.Field.{number}
use Rattle.fp_field.specs.Chains.{Terms, Each}
use Rattle.fp_field.specs.Reduction.{one}
use Rattle.spaces.specs.Allowed.{IsAllowed}
use Rattle.spaces.specs.Spaces.{Space, table, sphere, product, suspension, kz1, bundle, loops, paths, kzm1, cyclic_bundle}
use Rattle.spaces.specs.SmallCells.{Small, small_degree}
use Rattle.cells.specs.Dim.{dim_of}
use Rattle.cells.specs.Small.{degree_of_small}
use Rattle.cells.specs.declared.cells.Cell.{Cell}
use Rattle.cells.specs.declared.cells.SmallCell.{SmallCell}
use Rattle.cells.specs.declared.cells.SmallCell.TheVariants.{Pair, One}
use Rattle.cells.specs.declared.cells.Cell.TheVariants.{Base}
use Rattle.term_lang.specs.Forms.{cell_form}
use Rattle.term_lang.specs.Quote.{quote, quote_cell}
use Rattle.term_lang.specs.SpaceOf.{space_of}
use Rattle.normal_forms.specs.Built.{IsBuilt}
use Rattle.values.specs.Asks.{Ask, Right, f as f_at, g as g_at, h as h_at, small_d as d_at, asked_with}
use Rattle.values.specs.Ranks.{IsValid, IsCell, loopings}
use Rattle.values.specs.Sizes.{integer}
use Rattle.values.specs.Values.{value, right_side, needs}
use Rattle.values.proofs.Readings.{EachAsk}
use Rattle.oracle_iface.specs.declared.keys.Key.{Key}
use Rattle.oracle_iface.specs.declared.keys.Op.{Op}
use Rattle.oracle_iface.specs.declared.keys.Op.TheVariants.{F, G, H, SmallD, Cycles, Basis}
use Rattle.oracle_iface.specs.declared.keys.Place.{Place}
use Rattle.oracle_iface.specs.declared.keys.Place.TheVariants.{Degree, Small as SmallPlace, Big as BigPlace}
use Rattle.oracle_iface.specs.declared.bodies.Body.{Body}
use Rattle.oracle_iface.specs.declared.bodies.Body.TheVariants.{Small as SmallBody, Big as BigBody}
use Rattle.oracle_iface.specs.declared.bodies.Kind.{Kind}
use Rattle.oracle_iface.specs.CodeSizes.{cell_integer}
use Rattle.oracle_iface.specs.Keys.{key_of, question_at, question_of, needs_of, quote_body, IsValidKey}
use Rattle.oracle_iface.specs.Limits.{kind_past}
use Rattle.oracle_iface.specs.SmallForms.{small_form, quote_small}
use Rattle.oracle_iface.proofs.SizesAgree.{cell_integer_agree}
use Rattle.oracle_iface.proofs.SmallDegrees.{degree-small}
use Rattle.oracle_iface.proofs.ValidPlaces.{IsAt, key-at, key-allowed}
use Rattle.susp_rules.specs.Places.{size_at}
use Rattle.ez_flow.specs.CodeMaps.{cell_for}
use Rattle.part_asks.specs.declared.found.Found.{Found}
use Rattle.part_asks.specs.Along.{AsksValid}
use Rattle.part_asks.specs.OneKey.{IsOwnSmall}
use Rattle.part_asks.specs.Reading.{keys_of, IsFound}
use Rattle.space_faces.specs.Built.{IsAllowedBuilt}
use Rattle.homology_rules.specs.Shown.{HasShownValues}
use Rattle.twist_chains.specs.Fibred.{IsPairWithin, read_pairs, pair_form, AreTwistValues}
use Rattle.fibred_asks.specs.Asked.{prime_of, base_of as base_held, fibre_of as fibre_held, values_of}
use Rattle.fibred_asks.specs.Parts.{AreParts, formal_smalls}
use Rattle.fibred_asks.specs.Reached.{limited_reach, HasReachedValues}
use Rattle.fibred_asks.specs.Totals.{f_total, g_total, h_total, d_total, formal_pairs}
use Rattle.fibred_asks.specs.declared.maps.Maps.{Maps}
use Rattle.fibred_asks.proofs.SmallValues.{unlooped}
use Rattle.twist_rules.specs.Concluded.{keys_needed, IsFoundFor}
use Rattle.twist_rules.specs.PartMaps.{twist_of, AreMapsOf}
use Rattle.twist_rules.specs.PartSpaces.{IsFibred, base_of, fibre_of}
use Rattle.twist_rules.proofs.AtCells.{LimitedReaches, AtCell, at-cell, parts-built, twist-values}
use Rattle.twist_rules.proofs.AtSmalls.{AtPair, at-pair, same-left, same-right}
use Rattle.twist_rules.proofs.FoundBodies.{with_body}
use Rattle.twist_rules.proofs.PartNeeds.{needs-valid}
use Rattle.twist_rules.proofs.PartNames.{built-assembled}

-- ---- limits at a place

not-past : (b : Bool) (k : Kind) (n : ℕ) (rest : Option (Kind × ℕ)) → (let o : Option (Kind × ℕ) = elim b [ true ↦ Some (k, n) | false ↦ rest ] in o) ≡ None → (b ≡ false) × (rest ≡ None)
not-past true k n rest e = absurd (cc)
not-past false k n rest e = (refl, e)

lt-not : (a b : ℕ) → nat_lt a b ≡ false → b ≤ a
lt-not a b e = grind (arith, nat_tests)

-- the integers of a cell at a place that is past no limit
integer-low : (x : Cell) → kind_past (size_at (BigPlace x)) ≡ None → cell_integer x ≤ 100000
integer-low x e =
    let a = not-past _ _ _ _ e in
    let b = not-past _ _ _ _ a.1 in
    lt-not 100000 (cell_integer x) b.0

every-ask : (P : Ask → Type 0) (qs : List Ask) → Every P qs → EachAsk P qs
every-ask P [] h = tt
every-ask P (q ∷ qs) h = (h.0, every-ask P qs h.1)

-- what a map owes at a key: its right side asks for what the key needs, and what it comes to is found for the key
pub record Serves {A T : Type 0} (k : Key) (quote' : A → T) (p : Prime) (R : Right A) (B : T → Body) : Type 0 where
  pub keys : keys_of p R ≡ keys_needed k
  pub valid : AsksValid p R
  pub found : (o : Found T) → IsFound quote' p R o → IsFoundFor k (with_body B o)

-- ---- a key

module _ (k : Key) (is : IsValidKey k) (u : IsFibred (space_of k.term)) (built : IsBuilt (space_of k.term)) where
  abbrev s : Space
  s = space_of k.term

  allowed : IsAllowed s
  allowed = key-allowed k is

  module _ (not : k.op ≡ Cycles → ⊥) where
    valid-needs : EachAsk (IsValid (number k.prime)) (needs_of k)
    valid-needs = every-ask (IsValid (number k.prime)) (needs_of k) (needs-valid k is u (built-assembled s built) not)

  -- a question of the key, with a right side that asks for the same
  module _ (q : Ask) (question_is : question_of k ≡ q) (not : k.op ≡ Cycles → ⊥) where
    asked-is : asked_with (value (number k.prime)) (right_side (number k.prime) q) ≡ needs_of k
    asked-is = sym (ap (needs (number k.prime)) question_is)

    serves : {A T : Type 0} (quote' : A → T) (R : Right A) → asked_with (value (number k.prime)) R ≡ asked_with (value (number k.prime)) (right_side (number k.prime) q)
        → (B : T → Body) → ((o : Found T) → IsFound quote' k.prime R o → IsFound (quote_body k.prime q) k.prime (right_side (number k.prime) q) (with_body B o))
        → Serves k quote' k.prime R B
    serves quote' R same B found = record {
      keys = ap (map (key_of k.prime)) (same ∙ asked-is);
      valid = subst (EachAsk (IsValid (number k.prime))) (sym (same ∙ asked-is)) (valid-needs not);
      found = λ o h. subst (λ q. IsFound (quote_body k.prime q) k.prime (right_side (number k.prime) q) (with_body B o)) (sym question_is) (found o h);
    }

in_big : Place → Cell
in_big (BigPlace y) = y
in_big (Degree n) = Base
in_big (SmallPlace y) = Base

in_small : Place → SmallCell
in_small (SmallPlace y) = y
in_small (Degree n) = One Base
in_small (BigPlace y) = One Base

big-same : (x y : Cell) → BigPlace x ≡ BigPlace y → x ≡ y
unfolding in_big
big-same x y e = ap in_big e

small-same : (x y : SmallCell) → SmallPlace x ≡ SmallPlace y → x ≡ y
unfolding in_small
small-same x y e = ap in_small e

module _ (k : Key) (is : IsValidKey k) (u : IsFibred (space_of k.term)) (built : IsBuilt (space_of k.term)) where
  abbrev X : Space
  X = space_of k.term

  abbrev Held : Type 0
  Held = Space × Space × Option (List ℤ) × Prime

  at-op : (o : Op) (q : Place) → k.op ≡ o → k.place ≡ q → IsAt (number k.prime) o q X
  at-op o q e f = subst (λ (z : Op × Place). IsAt (number k.prime) z.0 z.1 X) (λ i. (e i, f i)) (key-at k is)

  question-is : (o : Op) (q : Place) → k.op ≡ o → k.place ≡ q → question_of k ≡ question_at o q X
  question-is o q e f = λ i. question_at (e i) (f i) X

  -- ---- at a cell

  module _ (near : LimitedReaches) (x : Cell) (place : k.place ≡ BigPlace x) (past_none : kind_past (size_at k.place) ≡ None)
      (place_is : BigPlace x ≡ BigPlace (quote_cell X (dim_of x) (cell_form x X))) (is_cell : IsCell X (dim_of x) (cell_form x X)) (low : dim_of x + loopings X ≤ 24)
      (c : Terms Cell) (c_is : c ≡ one x) (n : ℕ) (n_is : n ≡ dim_of x) where
    cell-is : quote_cell X (dim_of x) (cell_form x X) ≡ x
    cell-is = sym (big-same x (quote_cell X (dim_of x) (cell_form x X)) place_is)

    small : integer X (cell_form x X) ≤ 100000
    small =
        let e : cell_integer (quote_cell X (dim_of x) (cell_form x X)) ≡ integer X (cell_form x X) = cell_integer_agree X (key-allowed k is).0 (dim_of x) (cell_form x X) in
        let f : cell_integer (quote_cell X (dim_of x) (cell_form x X)) ≡ cell_integer x = ap cell_integer cell-is in
        omega (arith, e, f, integer-low x (sym (ap (λ q. kind_past (size_at q)) place) ∙ past_none))

    at : AtCell k.prime X (base_of X) (fibre_of X) (twist_of X) (dim_of x) (cell_form x X)
    at = at-cell k.prime near X u (key-allowed k is) built (dim_of x) (cell_form x X) is_cell (omega (arith, low)) small

    x-is : x ≡ cell_for (quote (base_of X)) (quote (fibre_of X)) at.pair
    x-is = sym cell-is ∙ at.cell

    read-is : read_pairs (base_of X) (fibre_of X) c ≡ one at.pair
    read-is = ap (read_pairs (base_of X) (fibre_of X)) c_is ∙ ap one (ap (pair_form (base_of X) (fibre_of X)) x-is ∙ at.back)

    pairs-in : Each (IsPairWithin (base_of X) (fibre_of X) limited_reach n) c
    pairs-in =
        subst (λ (z : ℕ × Terms Cell). Each (IsPairWithin (base_of X) (fibre_of X) limited_reach z.0) z.1) (λ i. (sym n_is i, (ap one (sym x-is) ∙ sym c_is) i)) (at.within, tt)

    f-own : k.op ≡ F → Serves k (formal_smalls k.prime (base_of X) (fibre_of X)) k.prime
        (f_total k.prime (base_of X) (fibre_of X) (twist_of X) n (read_pairs (base_of X) (fibre_of X) c)) (λ c. SmallBody c)
    f-own op =
        subst (λ (z : ℕ × Terms _). Serves k (formal_smalls k.prime (base_of X) (fibre_of X)) k.prime (f_total k.prime (base_of X) (fibre_of X) (twist_of X) z.0 z.1) (λ c. SmallBody c))
        (λ i. (sym n_is i, sym read-is i))
        (serves k is u built (f_at X (dim_of x) (cell_form x X)) (question-is F (BigPlace x) op place) (λ e. (λ (d : F ≡ Cycles). let h : ⊥ = cc in h) (sym op ∙ e))
        (formal_smalls k.prime (base_of X) (fibre_of X)) (f_total k.prime (base_of X) (fibre_of X) (twist_of X) (dim_of x) (one at.pair)) at.f_asked (λ c. SmallBody c) at.f_found)

    h-own : k.op ≡ H → Serves k (formal_pairs k.prime (base_of X) (fibre_of X)) k.prime
        (h_total k.prime (base_of X) (fibre_of X) (twist_of X) n (read_pairs (base_of X) (fibre_of X) c)) (λ c. BigBody c)
    h-own op =
        subst (λ (z : ℕ × Terms _). Serves k (formal_pairs k.prime (base_of X) (fibre_of X)) k.prime (h_total k.prime (base_of X) (fibre_of X) (twist_of X) z.0 z.1) (λ c. BigBody c))
        (λ i. (sym n_is i, sym read-is i))
        (serves k is u built (h_at X (dim_of x) (cell_form x X)) (question-is H (BigPlace x) op place) (λ e. (λ (d : H ≡ Cycles). let h : ⊥ = cc in h) (sym op ∙ e))
        (formal_pairs k.prime (base_of X) (fibre_of X)) (h_total k.prime (base_of X) (fibre_of X) (twist_of X) (dim_of x) (one at.pair)) at.h_asked (λ c. BigBody c) at.h_found)

  -- ---- at a pair of small cells

  module _ (l r : SmallCell) (place : k.place ≡ SmallPlace (Pair l r)) (place_is : SmallPlace (Pair l r) ≡ SmallPlace (quote_small X (small_form (Pair l r) X)))
      (low : small_degree X (small_form (Pair l r) X) + loopings X ≤ 24) where
    at-two : AtPair k.prime X (base_of X) (fibre_of X) (twist_of X) l r (small_form (Pair l r) X)
    at-two = at-pair k.prime l r X u

    pair-is : Pair l r ≡ Pair (quote_small (base_of X) (small_form l (base_of X))) (quote_small (fibre_of X) (small_form r (fibre_of X)))
    pair-is = small-same (Pair l r) (quote_small X (small_form (Pair l r) X)) place_is ∙ at-two.quoted

    own-left : IsOwnSmall (base_of X) l
    own-left = sym (same-left l r (quote_small (base_of X) (small_form l (base_of X))) (quote_small (fibre_of X) (small_form r (fibre_of X))) pair-is)

    own-right : IsOwnSmall (fibre_of X) r
    own-right = sym (same-right l r (quote_small (base_of X) (small_form l (base_of X))) (quote_small (fibre_of X) (small_form r (fibre_of X))) pair-is)

    left-degree : degree_of_small l ≡ small_degree (base_of X) (small_form l (base_of X))
    left-degree =
        let b = parts-built X u (key-allowed k is) built in
        ap degree_of_small (sym own-left)
        ∙ degree-small (base_of X) (small_form l (base_of X)) (omega (arith, unlooped (base_of X) b.0.1, at-two.degree, low))

    right-degree : degree_of_small r ≡ small_degree (fibre_of X) (small_form r (fibre_of X))
    right-degree =
        let b = parts-built X u (key-allowed k is) built in
        ap degree_of_small (sym own-right)
        ∙ degree-small (fibre_of X) (small_form r (fibre_of X)) (omega (arith, unlooped (fibre_of X) b.1.1, at-two.degree, low))

    degrees-low : degree_of_small l + degree_of_small r ≤ 24
    degrees-low = omega (arith, left-degree, right-degree, at-two.degree, low)

    module _ (n : ℕ) (n_is : n ≡ degree_of_small l + degree_of_small r) where
      sum-is : n ≡ small_degree (base_of X) (small_form l (base_of X)) + small_degree (fibre_of X) (small_form r (fibre_of X))
      sum-is = n_is ∙ (λ i. left-degree i + right-degree i)

      degree-is : n ≡ small_degree X (small_form (Pair l r) X)
      degree-is = sum-is ∙ sym at-two.degree

      g-own : k.op ≡ G → Serves k (formal_pairs k.prime (base_of X) (fibre_of X)) k.prime (g_total k.prime (base_of X) (fibre_of X) (twist_of X) n l r) (λ c. BigBody c)
      g-own op =
          subst (λ n. Serves k (formal_pairs k.prime (base_of X) (fibre_of X)) k.prime (g_total k.prime (base_of X) (fibre_of X) (twist_of X) n l r) (λ c. BigBody c)) (sym degree-is)
          (serves k is u built (g_at X (small_form (Pair l r) X)) (question-is G (SmallPlace (Pair l r)) op place) (λ e. (λ (d : G ≡ Cycles). let h : ⊥ = cc in h) (sym op ∙ e))
          (formal_pairs k.prime (base_of X) (fibre_of X)) (g_total k.prime (base_of X) (fibre_of X) (twist_of X) (small_degree X (small_form (Pair l r) X)) l r)
          at-two.g_asked (λ c. BigBody c) at-two.g_found)

      d-own : k.op ≡ SmallD → Serves k (formal_smalls k.prime (base_of X) (fibre_of X)) k.prime (d_total k.prime (base_of X) (fibre_of X) (twist_of X) n l r) (λ c. SmallBody c)
      d-own op =
          subst (λ n. Serves k (formal_smalls k.prime (base_of X) (fibre_of X)) k.prime (d_total k.prime (base_of X) (fibre_of X) (twist_of X) n l r) (λ c. SmallBody c)) (sym degree-is)
          (serves k is u built (d_at X (small_form (Pair l r) X)) (question-is SmallD (SmallPlace (Pair l r)) op place) (λ e. (λ (d : SmallD ≡ Cycles). let h : ⊥ = cc in h) (sym op ∙ e))
          (formal_smalls k.prime (base_of X) (fibre_of X)) (d_total k.prime (base_of X) (fibre_of X) (twist_of X) (small_degree X (small_form (Pair l r) X)) l r)
          at-two.d_asked (λ c. SmallBody c) at-two.d_found)

-- ---- with what is held of base and fibre

module _ (k : Key) (is : IsValidKey k) (space : IsFibred (space_of k.term) × IsBuilt (space_of k.term)) (m : Maps) (maps : AreMapsOf m k) where
  abbrev Y : Space
  Y = space_of k.term

  -- a fact of the parts of the key's space is one of what is held
  pub of-held : (Fact : Space × Space × Option (List ℤ) × Prime → Type 0) → Fact (base_of Y, fibre_of Y, twist_of Y, k.prime) → Fact (base_held m, fibre_held m, values_of m, prime_of m)
  of-held Fact h = subst Fact (λ i. (sym maps.base i, sym maps.fibre i, sym maps.values i, sym maps.prime i)) h

  pub held-twist : AreTwistValues (values_of m) (base_held m) (fibre_held m)
  held-twist = of-held (λ z. AreTwistValues z.2 z.0 z.1) (twist-values Y space.0 (key-allowed k is))

  pub held-parts : ((a : Space) → IsAllowed a → IsBuilt a → HasShownValues (number (prime_of m)) a × HasReachedValues (prime_of m) a) → AreParts (prime_of m) (base_held m) (fibre_held m)
  held-parts all =
      let b = of-held (λ z. IsAllowedBuilt z.0 × IsAllowedBuilt z.1) (parts-built Y space.0 (key-allowed k is) space.1) in
      let l = all (base_held m) b.0.0 b.0.1 in
      let r = all (fibre_held m) b.1.0 b.1.1 in
      record { base_built = b.0; fibre_built = b.1; base_shown = l.0; fibre_shown = r.0; base_reached = l.1; fibre_reached = r.1 }

  module _ (near : LimitedReaches) (x : Cell) (place : k.place ≡ BigPlace x) (past_none : kind_past (size_at k.place) ≡ None) (c : Terms Cell) (c_is : c ≡ one x) (n : ℕ) (n_is : n ≡ dim_of x) where
    module _ (op : k.op ≡ F) where
      abbrev a : IsAt (number k.prime) F (BigPlace x) Y
      a = at-op k is space.0 space.1 F (BigPlace x) op place

      pub f-pairs : Each (IsPairWithin (base_held m) (fibre_held m) limited_reach n) c
      f-pairs =
          of-held (λ z. Each (IsPairWithin z.0 z.1 limited_reach n) c)
          (pairs-in k is space.0 space.1 near x place past_none a.place_is a.question.1 a.question.2 c c_is n n_is)

      pub f-low : n ≤ 30
      f-low = let l : dim_of x + loopings Y ≤ 24 = a.question.2 in omega (arith, l, n_is)

      pub f-serves : Serves k (formal_smalls (prime_of m) (base_held m) (fibre_held m)) (prime_of m)
          (f_total (prime_of m) (base_held m) (fibre_held m) (values_of m) n (read_pairs (base_held m) (fibre_held m) c)) (λ c. SmallBody c)
      f-serves =
          of-held (λ z. Serves k (formal_smalls z.3 z.0 z.1) z.3 (f_total z.3 z.0 z.1 z.2 n (read_pairs z.0 z.1 c)) (λ c. SmallBody c))
          (f-own k is space.0 space.1 near x place past_none a.place_is a.question.1 a.question.2 c c_is n n_is op)

    module _ (op : k.op ≡ H) where
      abbrev b : IsAt (number k.prime) H (BigPlace x) Y
      b = at-op k is space.0 space.1 H (BigPlace x) op place

      pub h-pairs : Each (IsPairWithin (base_held m) (fibre_held m) limited_reach n) c
      h-pairs =
          of-held (λ z. Each (IsPairWithin z.0 z.1 limited_reach n) c)
          (pairs-in k is space.0 space.1 near x place past_none b.place_is b.question.1 b.question.2 c c_is n n_is)

      pub h-low : n ≤ 30
      h-low = let l : dim_of x + loopings Y ≤ 24 = b.question.2 in omega (arith, l, n_is)

      pub h-serves : Serves k (formal_pairs (prime_of m) (base_held m) (fibre_held m)) (prime_of m)
          (h_total (prime_of m) (base_held m) (fibre_held m) (values_of m) n (read_pairs (base_held m) (fibre_held m) c)) (λ c. BigBody c)
      h-serves =
          of-held (λ z. Serves k (formal_pairs z.3 z.0 z.1) z.3 (h_total z.3 z.0 z.1 z.2 n (read_pairs z.0 z.1 c)) (λ c. BigBody c))
          (h-own k is space.0 space.1 near x place past_none b.place_is b.question.1 b.question.2 c c_is n n_is op)

  -- what is known of the two small cells
  pub record HeldSmalls (l r : SmallCell) : Type 0 where
    pub left : IsOwnSmall (base_held m) l
    pub right : IsOwnSmall (fibre_held m) r
    pub low : degree_of_small l + degree_of_small r ≤ 24
    pub sum : (n : ℕ) → n ≡ degree_of_small l + degree_of_small r → n ≡ small_degree (base_held m) (small_form l (base_held m)) + small_degree (fibre_held m) (small_form r (fibre_held m))

  module _ (l r : SmallCell) (place : k.place ≡ SmallPlace (Pair l r)) where
    held-smalls : SmallPlace (Pair l r) ≡ SmallPlace (quote_small Y (small_form (Pair l r) Y)) → small_degree Y (small_form (Pair l r) Y) + loopings Y ≤ 24 → HeldSmalls l r
    held-smalls e low = record {
      left = of-held (λ z. IsOwnSmall z.0 l) (own-left k is space.0 space.1 l r place e low);
      right = of-held (λ z. IsOwnSmall z.1 r) (own-right k is space.0 space.1 l r place e low);
      low = degrees-low k is space.0 space.1 l r place e low;
      sum = λ n n_is. of-held (λ z. n ≡ small_degree z.0 (small_form l z.0) + small_degree z.1 (small_form r z.1)) (sum-is k is space.0 space.1 l r place e low n n_is);
    }

    module _ (op : k.op ≡ G) where
      abbrev g : IsAt (number k.prime) G (SmallPlace (Pair l r)) Y
      g = at-op k is space.0 space.1 G (SmallPlace (Pair l r)) op place

      pub g-smalls : HeldSmalls l r
      g-smalls = held-smalls g.place_is g.question.2

      pub g-serves : (n : ℕ) → n ≡ degree_of_small l + degree_of_small r → Serves k (formal_pairs (prime_of m) (base_held m) (fibre_held m)) (prime_of m)
          (g_total (prime_of m) (base_held m) (fibre_held m) (values_of m) n l r) (λ c. BigBody c)
      g-serves n n_is =
          of-held (λ z. Serves k (formal_pairs z.3 z.0 z.1) z.3 (g_total z.3 z.0 z.1 z.2 n l r) (λ c. BigBody c))
          (g-own k is space.0 space.1 l r place g.place_is g.question.2 n n_is op)

    module _ (op : k.op ≡ SmallD) where
      abbrev d : IsAt (number k.prime) SmallD (SmallPlace (Pair l r)) Y
      d = at-op k is space.0 space.1 SmallD (SmallPlace (Pair l r)) op place

      pub d-smalls : HeldSmalls l r
      d-smalls = held-smalls d.place_is d.question.2

      pub d-serves : (n : ℕ) → n ≡ degree_of_small l + degree_of_small r → Serves k (formal_smalls (prime_of m) (base_held m) (fibre_held m)) (prime_of m)
          (d_total (prime_of m) (base_held m) (fibre_held m) (values_of m) n l r) (λ c. SmallBody c)
      d-serves n n_is =
          of-held (λ z. Serves k (formal_smalls z.3 z.0 z.1) z.3 (d_total z.3 z.0 z.1 z.2 n l r) (λ c. SmallBody c))
          (d-own k is space.0 space.1 l r place d.place_is d.question.2 n n_is op)

-- ---- the places of the maps

pub cell-place : (k : Key) → IsValidKey k → (k.op ≡ F) ⊎ (k.op ≡ H) → (x : Cell) × (k.place ≡ BigPlace x)
cell-place k is (inl e) = by k.place (subst (λ o. IsAt (number k.prime) o k.place (space_of k.term)) e (key-at k is))
  where
    by : (q : Place) → IsAt (number k.prime) F q (space_of k.term) → (x : Cell) × (q ≡ BigPlace x)
    by (BigPlace x) at = (x, refl)
    by (Degree n) at = absurd (let h : F ≡ Basis = at.op_is in cc)
    by (SmallPlace y) at = absurd (let h : F ≡ Basis = at.op_is in cc)
cell-place k is (inr e) = by k.place (subst (λ o. IsAt (number k.prime) o k.place (space_of k.term)) e (key-at k is))
  where
    by : (q : Place) → IsAt (number k.prime) H q (space_of k.term) → (x : Cell) × (q ≡ BigPlace x)
    by (BigPlace x) at = (x, refl)
    by (Degree n) at = absurd (let h : H ≡ Basis = at.op_is in cc)
    by (SmallPlace y) at = absurd (let h : H ≡ Basis = at.op_is in cc)

-- a small cell of such a space is a pair
quoted-pair : (s : Space) → IsFibred s → (y : Small s) → (l : SmallCell) × (r : SmallCell) × (quote_small s y ≡ Pair l r)
quoted-pair (product a b) u y = (quote_small a y.0, quote_small b y.1, refl)
quoted-pair (bundle t c) u y = (quote_small (table t) y.0, quote_small kz1 y.1, refl)
quoted-pair (table t) u y = absurd u
quoted-pair (sphere m) u y = absurd u
quoted-pair (suspension a) u y = absurd u
quoted-pair kz1 u y = absurd u
quoted-pair (loops a) u y = absurd u
quoted-pair (paths a) u y = absurd u
quoted-pair (kzm1 m) u y = absurd u
quoted-pair (cyclic_bundle t m c) u y = absurd u

pub smalls-place : (k : Key) → IsValidKey k → IsFibred (space_of k.term) → (k.op ≡ G) ⊎ (k.op ≡ SmallD) → (l : SmallCell) × (r : SmallCell) × (k.place ≡ SmallPlace (Pair l r))
smalls-place k is u (inl e) = by k.place (subst (λ o. IsAt (number k.prime) o k.place (space_of k.term)) e (key-at k is))
  where
    by : (q : Place) → IsAt (number k.prime) G q (space_of k.term) → (l : SmallCell) × (r : SmallCell) × (q ≡ SmallPlace (Pair l r))
    by (SmallPlace y) at = let h = quoted-pair (space_of k.term) u (small_form y (space_of k.term)) in (h.0, h.1, at.place_is ∙ ap (λ y. SmallPlace y) h.2)
    by (Degree n) at = absurd (let h : G ≡ Basis = at.op_is in cc)
    by (BigPlace y) at = absurd (let h : G ≡ Basis = at.op_is in cc)
smalls-place k is u (inr e) = by k.place (subst (λ o. IsAt (number k.prime) o k.place (space_of k.term)) e (key-at k is))
  where
    by : (q : Place) → IsAt (number k.prime) SmallD q (space_of k.term) → (l : SmallCell) × (r : SmallCell) × (q ≡ SmallPlace (Pair l r))
    by (SmallPlace y) at = let h = quoted-pair (space_of k.term) u (small_form y (space_of k.term)) in (h.0, h.1, at.place_is ∙ ap (λ y. SmallPlace y) h.2)
    by (Degree n) at = absurd (let h : SmallD ≡ Basis = at.op_is in cc)
    by (BigPlace y) at = absurd (let h : SmallD ≡ Basis = at.op_is in cc)
