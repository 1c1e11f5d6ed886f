-- Up keeps the order of cells and of small cells, and so normal forms.
use Rattle.std.proofs.Common.{◌≡◌, ℕ, zero, suc, ◌+◌, ◌*◌, ◌%◌, ◌<◌, ◌≤◌, min, ◌⊎◌, inl, inr, [], ◌∷◌, ◌++◌, map, refl, sym, ◌∙◌, ap, arith}
use Rattle.std.specs.Ordering.{ordering_then, nat_cmp}
use Rattle.std.specs.Cmp.{IsTotalOrder}
use Rattle.std.specs.declared.cmp.Ordering.{Ordering}
use Rattle.std.specs.declared.cmp.Ordering.TheVariants.{Less, Equal, Greater}
use Rattle.std.proofs.lemmas.Bool.{cases_lt}
use Rattle.std.proofs.lemmas.Bool.Decides.{nat_tests}
use Rattle.fp_field.specs.Field.{SameMod}
use Rattle.fp_field.specs.Chains.{Terms, weigh, Each}
use Rattle.fp_field.specs.Normal.{normal, IsNormal}
use Rattle.fp_field.proofs.Mod.{same-plus}
use Rattle.fp_field.proofs.Weights.{weigh-append, Each-any}
use Rattle.fp_field.proofs.Normals.{weigh-normal, normal-same}
use Rattle.cells.specs.declared.cells.Cell.{Cell, out-Cell, out-roll-Cell}
use Rattle.cells.specs.declared.cells.Cell.TheVariants.{Up, rolls-Up}
use Rattle.cells.specs.declared.cells.Cell.TheOpen.{Cell-F}
use Rattle.cells.specs.declared.cells.SmallCell.{SmallCell, out-SmallCell, out-roll-SmallCell}
use Rattle.cells.specs.declared.cells.SmallCell.TheVariants.{Up as SmallUp, rolls-Up as rolls-SmallUp}
use Rattle.cells.specs.declared.cells.SmallCell.TheOpen.{SmallCell-F}
use Rattle.cells.specs.Dim.{dim_of, capped}
use Rattle.cells.specs.Order.{cell_cmp, kind_in, kind_of, within_cmp}
use Rattle.cells.specs.Small.{degree_of_small, small_cmp, small_kind_in, small_kind_of, small_within_cmp}
use Rattle.cells.proofs.Compared.{cell_cmp-then, ups}
use Rattle.cells.proofs.Dimensions.{dim-Up}
use Rattle.cells.proofs.SmallForms.{small_cmp-then, small_ups, degree-Up}
use Rattle.oracle_iface.proofs.CarriedChains.{carried-normal}
use Rattle.susp_rules.specs.Bodies.{cells_up, smalls_up}

-- ---- orders one after the other

less : (m n : ℕ) → m < n → nat_cmp m n ≡ Less
less m n l = grind (arith, nat_tests)

more : (m n : ℕ) → n < m → nat_cmp m n ≡ Greater
more m n l = grind (arith, nat_tests)

equal : (m n : ℕ) → m ≡ n → nat_cmp m n ≡ Equal
equal m n e = grind (arith, nat_tests)

capped-rises : (m n : ℕ) → m ≤ n → capped (m + 1) ≤ capped (n + 1)
capped-rises m n l = omega arith

-- a number that rises with the first one decides nothing anew
raised-then : (m n i j k : ℕ) (o w : Ordering) → (m ≤ n → i ≤ j) → (n ≤ m → j ≤ i)
    → ordering_then (ordering_then (nat_cmp i j) (nat_cmp k k)) (ordering_then (ordering_then (nat_cmp m n) o) w) ≡ ordering_then (ordering_then (nat_cmp m n) o) w
raised-then m n i j k o w f g = by (cases_lt m n) (cases_lt n m) (cases_lt i j) (cases_lt j i)
  where
    at : Ordering → Ordering → Ordering
    at x y = ordering_then (ordering_then x (nat_cmp k k)) (ordering_then (ordering_then y o) w)

    plain : Ordering → Ordering
    plain y = ordering_then (ordering_then y o) w

    same : at Equal (nat_cmp m n) ≡ plain (nat_cmp m n)
    same = ap (λ z. ordering_then z (plain (nat_cmp m n))) (equal k k refl)

    by : (m < n) ⊎ (n ≤ m) → (n < m) ⊎ (m ≤ n) → (i < j) ⊎ (j ≤ i) → (j < i) ⊎ (i ≤ j) → at (nat_cmp i j) (nat_cmp m n) ≡ plain (nat_cmp m n)
    by (inl a) b (inl c) d = (λ t. at (less i j c t) (less m n a t)) ∙ ap plain (sym (less m n a))
    by (inl a) b (inr c) d = ap (λ x. at x (nat_cmp m n)) (equal i j (let u : i ≤ j = f (omega arith) in omega arith)) ∙ same
    by (inr a) (inl b) c (inl d) = (λ t. at (more i j d t) (more m n b t)) ∙ ap plain (sym (more m n b))
    by (inr a) (inl b) c (inr d) = ap (λ x. at x (nat_cmp m n)) (equal i j (let u : j ≤ i = g (omega arith) in omega arith)) ∙ same
    by (inr a) (inr b) c d = ap (λ x. at x (nat_cmp m n)) (equal i j (let u : j ≤ i = g a in let v : i ≤ j = f b in omega arith)) ∙ same

-- ---- Up

kind-Up : (c : Cell) → kind_of (Up c) ≡ 4
kind-Up c = ap kind_in (ap out-Cell (sym (rolls-Up c)) ∙ out-roll-Cell (Cell-F.Up c))

kind-SmallUp : (y : SmallCell) → small_kind_of (SmallUp y) ≡ 2
kind-SmallUp y = ap small_kind_in (ap out-SmallCell (sym (rolls-SmallUp y)) ∙ out-roll-SmallCell (SmallCell-F.Up y))

pub up-order : (c d : Cell) → cell_cmp (Up c) (Up d) ≡ cell_cmp c d
up-order c d =
    cell_cmp-then (Up c) (Up d)
    ∙ (λ i. ordering_then (ordering_then (nat_cmp (dim-Up c i) (dim-Up d i)) (nat_cmp (kind-Up c i) (kind-Up d i))) (ups c d i))
    ∙ ap (ordering_then (ordering_then (nat_cmp (capped (dim_of c + 1)) (capped (dim_of d + 1))) (nat_cmp 4 4))) (cell_cmp-then c d)
    ∙ raised-then (dim_of c) (dim_of d) (capped (dim_of c + 1)) (capped (dim_of d + 1)) 4 (nat_cmp (kind_of c) (kind_of d)) (within_cmp c d)
    (capped-rises (dim_of c) (dim_of d)) (capped-rises (dim_of d) (dim_of c))
    ∙ sym (cell_cmp-then c d)

pub small_up-order : (c d : SmallCell) → small_cmp (SmallUp c) (SmallUp d) ≡ small_cmp c d
small_up-order c d =
    small_cmp-then (SmallUp c) (SmallUp d)
    ∙ (λ i. ordering_then (ordering_then (nat_cmp (degree-Up c i) (degree-Up d i)) (nat_cmp (kind-SmallUp c i) (kind-SmallUp d i))) (small_ups c d i))
    ∙ ap (ordering_then (ordering_then (nat_cmp (capped (degree_of_small c + 1)) (capped (degree_of_small d + 1))) (nat_cmp 2 2))) (small_cmp-then c d)
    ∙ raised-then (degree_of_small c) (degree_of_small d) (capped (degree_of_small c + 1)) (capped (degree_of_small d + 1)) 2 (nat_cmp (small_kind_of c) (small_kind_of d)) (small_within_cmp c d)
    (capped-rises (degree_of_small c) (degree_of_small d)) (capped-rises (degree_of_small d) (degree_of_small c))
    ∙ sym (small_cmp-then c d)

pub up-normal : (p : ℕ) (c : Terms Cell) → IsNormal cell_cmp p c → normal cell_cmp p (cells_up c) ≡ cells_up c
up-normal p c is = carried-normal (λ x. Up x) cell_cmp cell_cmp p (λ x. Unit {0}) (λ x y a b. up-order x y) c (Each-any c) ∙ ap cells_up is

pub small_up-normal : (p : ℕ) (c : Terms SmallCell) → IsNormal small_cmp p c → normal small_cmp p (smalls_up c) ≡ smalls_up c
small_up-normal p c is = carried-normal (λ x. SmallUp x) small_cmp small_cmp p (λ x. Unit {0}) (λ x y a b. small_up-order x y) c (Each-any c) ∙ ap smalls_up is

-- ---- a term behind others

module _ {K : Type 0} (cmp : K → K → Ordering) (total : IsTotalOrder cmp) (apart : (x y : K) → cmp x y ≡ Equal → x ≡ y) (p : ℕ) (pos : 0 < p) where
  pub put-behind : (c d : Terms K) (k : K) (a : ℕ) → d ≡ normal cmp p c → normal cmp p ((k, a) ∷ d) ≡ normal cmp p (c ++ (k, a) ∷ [])
  put-behind c d k a e =
      normal-same cmp p apart total pos ((k, a) ∷ d) (c ++ (k, a) ∷ [])
      (λ w. same-plus p (a * w k) (a * w k) (weigh w d) (weigh w c) refl (ap (λ z. weigh w z % p) e ∙ weigh-normal cmp p apart w c)
      ∙ ap (λ n. n % p) (turned (a * w k) (weigh w c) ∙ sym (weigh-append w c ((k, a) ∷ []))))
    where
      turned : (m n : ℕ) → m + n ≡ n + (m + 0)
      turned m n = omega arith
