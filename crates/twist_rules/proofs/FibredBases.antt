-- Keys for the small cells of a degree of a product or a circle bundle.
use Rattle.std.proofs.Common.{◌≡◌, ℕ, suc, ◌+◌, ◌<◌, ◌≤◌, ◌^◌, map, refl, sym, ◌∙◌, ap, subst, arith}
use Rattle.std.specs.Prelude.{Result, Ok, Err, IfOk}
use Rattle.fp_field.specs.declared.prime.Prime.{Prime}
use Rattle.fp_field.specs.Field.{number}
use Rattle.spaces.specs.Spaces.{Space, table, sphere, product, suspension, kz1, bundle, loops, paths, kzm1, cyclic_bundle}
use Rattle.term_lang.specs.declared.terms.Term.{Term}
use Rattle.term_lang.specs.SpaceOf.{space_of}
use Rattle.values.specs.Asks.{basis, asked_with}
use Rattle.values.specs.Ranks.{IsValid, loopings}
use Rattle.values.specs.Rules.{numbers, pairs_of_degree}
use Rattle.values.specs.Values.{value, needs, right_side}
use Rattle.oracle_iface.specs.declared.keys.Key.{Key}
use Rattle.oracle_iface.specs.declared.keys.Op.TheVariants.{Basis}
use Rattle.oracle_iface.specs.declared.keys.Place.TheVariants.{Degree}
use Rattle.oracle_iface.specs.declared.bodies.Body.{Body}
use Rattle.oracle_iface.specs.declared.bodies.Body.TheVariants.{Cells}
use Rattle.oracle_iface.specs.Keys.{question_at, question_of, needs_of, key_of, quote_body, IsValidKey}
use Rattle.oracle_iface.proofs.ValidPlaces.{basis-degree}
use Rattle.part_asks.specs.declared.found.Found.{Found}
use Rattle.twist_rules.specs.PartSpaces.{IsFibred, base_of, fibre_of}
use Rattle.twist_rules.specs.PairBases.{quote_pairs}
use Rattle.part_asks.specs.Reading.{keys_of, IsFound}
use Rattle.twist_rules.specs.Concluded.{keys_needed, IsFoundFor}

-- the needs of such a question are those of the pairs, and what is found for the pairs is found for it
record IsByPairs (p : Prime) (s : Space) (n : ℕ) : Type 0 where
  pub asked : needs (number p) (basis s n) ≡ asked_with (value (number p)) (pairs_of_degree (base_of s) (fibre_of s) n (numbers 0 (suc n)))
  pub found : (o : Found Body) → IsFound (λ ys. Cells (quote_pairs (base_of s) (fibre_of s) ys)) p (pairs_of_degree (base_of s) (fibre_of s) n (numbers 0 (suc n))) o
      → IsFound (quote_body p (basis s n)) p (right_side (number p) (basis s n)) o

by-pairs : (p : Prime) (s : Space) (n : ℕ) → IsFibred s → IsByPairs p s n
by-pairs p (product a b) n u = record { asked = refl; found = λ o h. h }
by-pairs p (bundle t c) n u = record { asked = refl; found = λ o h. h }
by-pairs p (table t) n u = absurd u
by-pairs p (sphere m) n u = absurd u
by-pairs p (suspension a) n u = absurd u
by-pairs p kz1 n u = absurd u
by-pairs p (loops a) n u = absurd u
by-pairs p (paths a) n u = absurd u
by-pairs p (kzm1 m) n u = absurd u
by-pairs p (cyclic_bundle t m c) n u = absurd u

-- a valid key for the small cells of the degree n of such a space, with terms of its base and its fibre
module _ (k : Key) (u : IsFibred (space_of k.term)) (op_is : k.op ≡ Basis) (n : ℕ) (place_is : k.place ≡ Degree n) where
  abbrev s : Space
  s = space_of k.term

  question-is : question_of k ≡ basis s n
  question-is = λ i. question_at (op_is i) (place_is i) s

  pub degree-low : IsValidKey k → n + 1 < 2 ^ 32
  degree-low is = let v : IsValid (number k.prime) (basis s n) = subst (IsValid (number k.prime)) question-is is.question in let l : n + loopings s ≤ 24 = v.2 in omega (arith, l)

  module _ (x y : Term) (base_is : space_of x ≡ base_of s) (fibre_is : space_of y ≡ fibre_of s) where
    asked-are : asked_with (value (number k.prime)) (pairs_of_degree (space_of x) (space_of y) n (numbers 0 (suc n))) ≡ needs_of k
    asked-are =
        (λ i. asked_with (value (number k.prime)) (pairs_of_degree (base_is i) (fibre_is i) n (numbers 0 (suc n))))
        ∙ sym (by-pairs k.prime s n u).asked ∙ sym (ap (needs (number k.prime)) question-is)

    pub keys-needed : keys_of k.prime (pairs_of_degree (space_of x) (space_of y) n (numbers 0 (suc n))) ≡ keys_needed k
    keys-needed = ap (map (key_of k.prime)) asked-are

    pub found-for : (o : Found Body)
        → IsFound (λ ys. Cells (quote_pairs (space_of x) (space_of y) ys)) k.prime (pairs_of_degree (space_of x) (space_of y) n (numbers 0 (suc n))) o → IsFoundFor k o
    found-for o h =
        subst (λ r. IsFound (quote_body k.prime r) k.prime (right_side (number k.prime) r) o) (sym question-is)
        ((by-pairs k.prime s n u).found o
        (subst (λ (c : Space × Space). IsFound (λ ys. Cells (quote_pairs c.0 c.1 ys)) k.prime (pairs_of_degree c.0 c.1 n (numbers 0 (suc n))) o) (λ i. (base_is i, fibre_is i)) h))

-- its place is in a degree
module _ (k : Key) (is : IsValidKey k) (u : IsFibred (space_of k.term)) (op_is : k.op ≡ Basis) where
  pub degree-of : (n : ℕ) × (k.place ≡ Degree n)
  degree-of = let d = basis-degree k is op_is in (d.0, d.1)

-- ---- results

pub kept : {A E : Type 0} (r : Result A E) (P Q : A → Type 0) → ((x : A) → P x → Q x) → IfOk r P → IfOk r Q
kept (Ok x) P Q f h = f x h
kept (Err e) P Q f h = tt
