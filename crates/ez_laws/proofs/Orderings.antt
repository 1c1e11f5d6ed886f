-- The orders of the simplices of a space: each simplex is equal to itself, and to no other.
use Rattle.std.proofs.Common.{◌≡◌, ℕ, suc, ◌-◌, [], ◌∷◌, true, false, refl, sym, ap, true≢false}
use Rattle.std.specs.Prelude.{Option, Some, None, ℤ}
use Rattle.std.specs.Ordering.{ordering_then, ordering_reverse, nat_cmp, int_cmp, bool_cmp, is_lt}
use Rattle.std.proofs.lemmas.Cmp.{int_cmp_total}
use Rattle.std.specs.declared.cmp.Ordering.{Ordering}
use Rattle.std.specs.declared.cmp.Ordering.TheVariants.{Less, Equal, Greater}
use Rattle.std.specs.Cmp.Lexicographic.{slice_cmp}
use Rattle.spaces.specs.Simplicial.{Simplicial}
use Rattle.spaces.specs.Tables.{table_set}
use Rattle.spaces.specs.Nerves.{integers, integers_modulo, nerve_set}
use Rattle.spaces.specs.Spaces.{Space, table, sphere, product, suspension, kz1, bundle, loops, paths, kzm1, cyclic_bundle, set_of}
use Rattle.spaces.specs.Allowed.{Admits}
use Rattle.spaces.specs.Orders.{CellOrder, simplex_cmp, letter_cmp, word_cmp, pair_cmp, suspended_cmp, row_cmp, cell_cmp, option_cmp, two_cmp, plain_cmp, ordered}
use Rattle.spaces.proofs.Orders.{ordered-apart}
use Rattle.spaces.proofs.SpaceLaws.{space_set_laws}
use Rattle.ez_laws.specs.Sides.{TellsApart, IsRight}
use Rattle.ez_laws.proofs.PairOrders.{then_equal, nat_cmp_refl}

-- an order in which each key is equal to itself
abbrev pub Alike : {A : Type 0} → (A → A → Ordering) → Type 0
Alike {A} cmp = (x : A) → cmp x x ≡ Equal

list-alike : {A : Type 0} (cmp : A → A → Ordering) → Alike cmp → Alike (slice_cmp cmp)
list-alike cmp h [] = refl
list-alike cmp h (x ∷ xs) = then_equal (cmp x x) (slice_cmp cmp xs xs) (h x) (list-alike cmp h xs)

bool-alike : Alike bool_cmp
bool-alike true = refl
bool-alike false = refl

two-alike : {A B : Type 0} (a : A → A → Ordering) (b : B → B → Ordering) → Alike a → Alike b → Alike (two_cmp a b)
two-alike a b f g x = then_equal (a x.0 x.0) (b x.1 x.1) (f x.0) (g x.1)

option-alike : {A : Type 0} (a : A → A → Ordering) → Alike a → Alike (option_cmp a)
option-alike a f None = refl
option-alike a f (Some x) = f x

own-reverse : (o : Ordering) → o ≡ ordering_reverse o → o ≡ Equal
own-reverse Less e = absurd (true≢false (ap is_lt e))
own-reverse Equal e = refl
own-reverse Greater e = absurd (true≢false (sym (ap is_lt e)))

int-alike : Alike int_cmp
int-alike x = own-reverse (int_cmp x x) (int_cmp_total.antisymm x x)

rows-alike : Alike (two_cmp (slice_cmp nat_cmp) nat_cmp)
rows-alike = two-alike (slice_cmp nat_cmp) nat_cmp (list-alike nat_cmp nat_cmp_refl) nat_cmp_refl

plain-alike : (a : Space) → Alike (plain_cmp a)
plain-alike (table t) = rows-alike
plain-alike (sphere m) = rows-alike
plain-alike (product a b) = two-alike (plain_cmp a) (plain_cmp b) (plain-alike a) (plain-alike b)
plain-alike (suspension a) = option-alike (two_cmp nat_cmp (plain_cmp a)) (two-alike nat_cmp (plain_cmp a) nat_cmp_refl (plain-alike a))
plain-alike kz1 = list-alike int_cmp int-alike
plain-alike (bundle t c) = two-alike (two_cmp (slice_cmp nat_cmp) nat_cmp) (slice_cmp int_cmp) rows-alike (list-alike int_cmp int-alike)
plain-alike (loops a) = list-alike (two_cmp bool_cmp (plain_cmp a)) (two-alike bool_cmp (plain_cmp a) bool-alike (plain-alike a))
plain-alike (paths a) =
    two-alike (plain_cmp a) (slice_cmp (two_cmp bool_cmp (plain_cmp a))) (plain-alike a)
    (list-alike (two_cmp bool_cmp (plain_cmp a)) (two-alike bool_cmp (plain_cmp a) bool-alike (plain-alike a)))
plain-alike (kzm1 m) = list-alike nat_cmp nat_cmp_refl
plain-alike (cyclic_bundle t m c) = two-alike (two_cmp (slice_cmp nat_cmp) nat_cmp) (slice_cmp nat_cmp) rows-alike (list-alike nat_cmp nat_cmp_refl)

-- ---- cells

abbrev pub AlikeCells : {K : Type 0} → CellOrder K → Type 0
AlikeCells {K} cmp = (n : ℕ) → Alike (cmp n)

simplex-alike : {K : Type 0} (A : Simplicial K) (cmp : CellOrder K) → AlikeCells cmp → AlikeCells (simplex_cmp A cmp)
simplex-alike A cmp h n x = then_equal _ _ (nat_cmp_refl (Rattle.spaces.specs.Orders.mask A n x)) (h (Rattle.spaces.specs.Orders.dim_of A n x) (Rattle.spaces.specs.Orders.cell_of A n x))

letter-alike : {K : Type 0} (A : Simplicial K) (cmp : CellOrder K) → AlikeCells cmp → AlikeCells (letter_cmp A cmp)
letter-alike A cmp h n l = then_equal (bool_cmp l.0 l.0) (simplex_cmp A cmp n l.1 l.1) (bool-alike l.0) (simplex-alike A cmp h n l.1)

word-alike : {K : Type 0} (A : Simplicial K) (cmp : CellOrder K) → AlikeCells cmp → AlikeCells (word_cmp A cmp)
word-alike A cmp h n w = then_equal _ (slice_cmp (letter_cmp A cmp (suc n)) w w) (nat_cmp_refl (Rattle.std.specs.Prelude.length w)) (list-alike (letter_cmp A cmp (suc n)) (letter-alike A cmp h (suc n)) w)

pair-alike : {K J : Type 0} (A : Simplicial K) (a : CellOrder K) (B : Simplicial J) (b : CellOrder J) → AlikeCells a → AlikeCells b → AlikeCells (pair_cmp A a B b)
pair-alike A a B b f g n x = then_equal (simplex_cmp A a n x.0 x.0) (simplex_cmp B b n x.1 x.1) (simplex-alike A a f n x.0) (simplex-alike B b g n x.1)

suspended-alike : {K : Type 0} (a : CellOrder K) → AlikeCells a → AlikeCells (suspended_cmp a)
suspended-alike a h n None = refl
suspended-alike a h n (Some t) = h (n - 1) t.1

row-alike : AlikeCells row_cmp
row-alike n x = nat_cmp_refl x.1

ints-alike : AlikeCells (λ n. slice_cmp int_cmp)
ints-alike n = list-alike int_cmp int-alike

nats-alike : AlikeCells (λ n. slice_cmp nat_cmp)
nats-alike n = list-alike nat_cmp nat_cmp_refl

cells-alike : (a : Space) → AlikeCells (cell_cmp a)
cells-alike (table t) = row-alike
cells-alike (sphere m) = row-alike
cells-alike (product a b) = pair-alike (set_of a) (cell_cmp a) (set_of b) (cell_cmp b) (cells-alike a) (cells-alike b)
cells-alike (suspension a) = suspended-alike (cell_cmp a) (cells-alike a)
cells-alike kz1 = ints-alike
cells-alike (bundle t c) = pair-alike (table_set t) row_cmp (nerve_set integers) (λ n. slice_cmp int_cmp) row-alike ints-alike
cells-alike (loops a) = word-alike (set_of a) (cell_cmp a) (cells-alike a)
cells-alike (paths a) = pair-alike (set_of a) (cell_cmp a) (set_of (loops a)) (word_cmp (set_of a) (cell_cmp a)) (cells-alike a) (word-alike (set_of a) (cell_cmp a) (cells-alike a))
cells-alike (kzm1 m) = nats-alike
cells-alike (cyclic_bundle t m c) = pair-alike (table_set t) row_cmp (nerve_set (integers_modulo m)) (λ n. slice_cmp nat_cmp) row-alike nats-alike

pub ordered-tells : (a : Space) (n : ℕ) → TellsApart ((ordered a).cmp n)
ordered-tells a n = record {
  alike = λ x. then_equal (simplex_cmp (set_of a) (cell_cmp a) n x x) (plain_cmp a x x) (simplex-alike (set_of a) (cell_cmp a) (cells-alike a) n x) (plain-alike a x);
  apart = ordered-apart a n;
}

-- each allowed space is a right part
pub ordered-right : (a : Space) → Admits a → IsRight (ordered a)
ordered-right a ad = record { simplicial = space_set_laws a ad; order = ordered-tells a }
