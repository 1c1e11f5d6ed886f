-- What a key about a product or a circle bundle needs is asked of its base and its fibre, and is read back.
use Rattle.std.proofs.Common.{◌≡◌, ℕ, suc, List, [], ◌∷◌, ◌++◌, refl, sym, ◌∙◌, subst}
use Rattle.std.specs.Prelude.{Contains}
use Rattle.std.specs.List.{AllByRecursion as Every}
use Rattle.std.proofs.lemmas.List.Elements.{All-from_recursion, recursion_from_All, All-contains_itself}
use Rattle.fp_field.specs.declared.prime.Prime.{Prime}
use Rattle.fp_field.specs.Field.{number}
use Rattle.fp_field.specs.Chains.{Terms}
use Rattle.fp_field.specs.Reduction.{one}
use Rattle.fp_field.proofs.FieldLaws.{is_field}
use Rattle.spaces.specs.EilenbergZilber.{linear, Pair}
use Rattle.spaces.specs.Orders.{ordered}
use Rattle.spaces.specs.SmallCells.{Small, small_degree}
use Rattle.spaces.specs.Spaces.{Space, table, sphere, product, suspension, kz1, bundle, loops, paths, kzm1, cyclic_bundle, Plain}
use Rattle.term_lang.specs.SpaceOf.{space_of}
use Rattle.values.specs.Asks.{Ask, basis, small_d as d_at, f as f_at, g as g_at, h as h_at, cycles, gives}
use Rattle.values.specs.BaseLaws.{NeedsAreBelow}
use Rattle.values.specs.Perturbed.{total_g, total_h}
use Rattle.values.specs.Ranks.{IsValid, space_of as space_asked}
use Rattle.values.specs.Rules.{fibred_f, fibred_g, fibred_h, fibred_d, part, numbers, all_pairs, pairs_of_degree, as_cells, bundle_twist}
use Rattle.values.specs.Twists.{untwisted}
use Rattle.values.specs.Values.{right_side, value, needs}
use Rattle.values.proofs.Readings.{EachAsk}
use Rattle.oracle_iface.specs.declared.keys.Key.{Key}
use Rattle.oracle_iface.specs.declared.keys.Op.TheVariants.{Cycles}
use Rattle.oracle_iface.specs.KeyLaws.{IsNamed, IsReadBack, HasCells}
use Rattle.oracle_iface.specs.Keys.{question_of, needs_of, op_of, IsValidKey}
use Rattle.oracle_iface.proofs.CyclesNeeds.{key-space, key-named, key-op}
use Rattle.oracle_iface.proofs.KeysBack.{valid-back}
use Rattle.twist_laws.specs.Assembled.{IsAssembled}
use Rattle.twist_laws.proofs.OnlyAsks.{Only, OnlyPart, only-bind, only-asked, only-total_f, only-total_g, only-total_h, only-total_d}
use Rattle.twist_laws.proofs.SpaceNeeds.{assembled-needs}
use Rattle.twist_rules.specs.PartSpaces.{IsFibred, base_of, fibre_of}
use Rattle.twist_rules.specs.Concluded.{NeedsReadBack}
use Rattle.twist_rules.proofs.PartNames.{base-named, fibre-named}

-- ---- what is asked is asked of spaces with a property, where base and fibre have it

module _ (Q : Space → Type 0) where
  abbrev Asked : Ask → Type 0
  Asked j = Q (space_asked j)

  part-only : (a : Space) → Q a → OnlyPart Asked (part a)
  part-only a u = record { f = λ n x. (u, λ v. tt); g = λ y. (u, λ v. tt); h = λ n x. (u, λ v. tt); small_d = λ y. (u, λ v. tt) }

  pairs-only : (a b : Space) → Q a → Q b → (n : ℕ) (is : List ℕ) → Only Asked (pairs_of_degree a b n is)
  pairs-only a b u v n [] = tt
  pairs-only a b u v n (i ∷ is) =
      (u, λ xs. (v, λ ys. only-bind Asked (pairs_of_degree a b n is) (λ rest. gives (all_pairs xs ys ++ rest)) (pairs-only a b u v n is) (λ rest. tt)))

  -- by the four maps
  module _ (p : ℕ) (a b : Space) (u : Q a) (v : Q b) (q : Pair (Plain a) (Plain b) → Terms (Pair (Plain a) (Plain b))) where
    f-only : (n : ℕ) (x : Plain a × Plain b) → Only Asked (fibred_f p a b q n x)
    f-only n x = only-total_f Asked p (linear (ordered a)) (ordered b) (part a) (part b) q (part-only a u) (part-only b v) n (one (n, x.0, x.1))

    g-only : (n : ℕ) (y : Small a × Small b) → Only Asked (fibred_g p a b q n y)
    g-only n y =
        only-bind Asked (total_g p (linear (ordered a)) (ordered b) (part a) (part b) q n y) (λ c. gives (as_cells c))
        (only-total_g Asked p (linear (ordered a)) (ordered b) (part a) (part b) q (part-only a u) (part-only b v) n y) (λ c. tt)

    h-only : (n : ℕ) (x : Plain a × Plain b) → Only Asked (fibred_h p a b q n x)
    h-only n x =
        only-bind Asked (total_h p (linear (ordered a)) (ordered b) (part a) (part b) q n (one (n, x.0, x.1))) (λ c. gives (as_cells c))
        (only-total_h Asked p (linear (ordered a)) (ordered b) (part a) (part b) q (part-only a u) (part-only b v) n (one (n, x.0, x.1))) (λ c. tt)

    d-only : (n : ℕ) (y : Small a × Small b) → Only Asked (fibred_d p a b q n y)
    d-only n y = only-total_d Asked p (linear (ordered a)) (ordered b) (part a) (part b) q (part-only a u) (part-only b v) n y

  -- the right sides of a space
  record Sides (p : ℕ) (s : Space) : Type 0 where
    basis_only : (n : ℕ) → Only Asked (right_side p (basis s n))
    d_only : (y : Small s) → Only Asked (right_side p (d_at s y))
    f_only : (n : ℕ) (x : Plain s) → Only Asked (right_side p (f_at s n x))
    g_only : (y : Small s) → Only Asked (right_side p (g_at s y))
    h_only : (n : ℕ) (x : Plain s) → Only Asked (right_side p (h_at s n x))

  sides : (p : ℕ) (s : Space) → IsFibred s → Q (base_of s) → Q (fibre_of s) → Sides p s
  sides p (product a b) is u v = record {
    basis_only = λ n. pairs-only a b u v n (numbers 0 (suc n));
    d_only = λ y. d-only p a b u v untwisted (small_degree (product a b) y) y;
    f_only = λ n x. f-only p a b u v untwisted n x;
    g_only = λ y. g-only p a b u v untwisted (small_degree (product a b) y) y;
    h_only = λ n x. h-only p a b u v untwisted n x;
  }
  sides p (bundle t c) is u v = record {
    basis_only = λ n. pairs-only (table t) kz1 u v n (numbers 0 (suc n));
    d_only = λ y. d-only p (table t) kz1 u v (bundle_twist p t c) (small_degree (bundle t c) y) y;
    f_only = λ n x. f-only p (table t) kz1 u v (bundle_twist p t c) n x;
    g_only = λ y. g-only p (table t) kz1 u v (bundle_twist p t c) (small_degree (bundle t c) y) y;
    h_only = λ n x. h-only p (table t) kz1 u v (bundle_twist p t c) n x;
  }
  sides p (table t) is u v = absurd is
  sides p (sphere m) is u v = absurd is
  sides p (suspension a) is u v = absurd is
  sides p kz1 is u v = absurd is
  sides p (loops a) is u v = absurd is
  sides p (paths a) is u v = absurd is
  sides p (kzm1 m) is u v = absurd is
  sides p (cyclic_bundle t m c) is u v = absurd is

  side-only : (p : ℕ) (k : Ask) → IsFibred (space_asked k) → Q (base_of (space_asked k)) → Q (fibre_of (space_asked k)) → (op_of k ≡ Cycles → ⊥) → Only Asked (right_side p k)
  side-only p (basis s n) is u v not = (sides p s is u v).basis_only n
  side-only p (d_at s y) is u v not = (sides p s is u v).d_only y
  side-only p (f_at s n x) is u v not = (sides p s is u v).f_only n x
  side-only p (g_at s y) is u v not = (sides p s is u v).g_only y
  side-only p (h_at s n x) is u v not = (sides p s is u v).h_only n x
  side-only p (cycles s n) is u v not = absurd (not refl)

  pub needs-of_parts : (p : ℕ) (k : Ask) → IsFibred (space_asked k) → Q (base_of (space_asked k)) → Q (fibre_of (space_asked k)) → (op_of k ≡ Cycles → ⊥) → EachAsk Asked (needs p k)
  needs-of_parts p k is u v not = only-asked Asked (right_side p k) (side-only p k is u v not) (value p)

-- ---- they are read back

-- a space that is named and whose cells the code has
abbrev IsKnown : Space → Type 0
IsKnown s = IsNamed s × HasCells s

all-back : (p : Prime) (qs : List Ask) → EachAsk (λ j. IsKnown (space_asked j)) qs → Every (IsValid (number p)) qs → Every (IsReadBack p) qs
all-back p [] u v = tt
all-back p (q ∷ qs) u v = (valid-back p q u.0.0 u.0.1 v.0, all-back p qs u.1 v.1)

every-valid : (p : ℕ) (ns qs : List Ask) → ((j : Ask) → Contains ns j → IsValid p j) → Every (Contains ns) qs → Every (IsValid p) qs
every-valid p ns [] h e = tt
every-valid p ns (q ∷ qs) h e = (h q e.0, every-valid p ns qs h e.1)

module _ (k : Key) (is : IsValidKey k) (u : IsFibred (space_of k.term)) (assembled : IsAssembled (space_of k.term)) (not : k.op ≡ Cycles → ⊥) where
  below : NeedsAreBelow (number k.prime) (question_of k)
  below = assembled-needs (number k.prime) (is_field k.prime) (question_of k) (subst IsAssembled (sym (key-space k)) assembled) is.question

  pub needs-valid : Every (IsValid (number k.prime)) (needs_of k)
  needs-valid =
      every-valid (number k.prime) (needs_of k) (needs_of k) (λ j m. (below j m).0)
      (recursion_from_All (Contains (needs_of k)) (needs_of k) (All-contains_itself (needs_of k)))

  pub needs-read_back : HasCells (base_of (space_of k.term)) → HasCells (fibre_of (space_of k.term)) → NeedsReadBack k
  needs-read_back b f =
      let s = key-space k in
      let v = subst IsFibred (sym s) u in
      All-from_recursion (IsReadBack k.prime) (needs_of k)
      (all-back k.prime (needs_of k)
      (needs-of_parts IsKnown (number k.prime) (question_of k) v
      (base-named (space_asked (question_of k)) v (key-named k), subst (λ x. HasCells (base_of x)) (sym s) b)
      (fibre-named (space_asked (question_of k)) v (key-named k), subst (λ x. HasCells (fibre_of x)) (sym s) f)
      (λ e. not (sym (key-op k is) ∙ e)))
      needs-valid)
