-- The terms that are pushed for a pair of the code are those of the twist, and how large their integers are.
use Rattle.std.proofs.Common.{◌≡◌, ℕ, zero, suc, ◌+◌, ◌-◌, ◌^◌, ◌<◌, ◌≤◌, Bool, true, false, ◌==◌, cond, List, [], ◌∷◌, ◌++◌, length, get_or, ℤ, ◌+ℤ◌, pos, refl, sym, ◌∙◌, ap, subst, arith, bit_and}
use Rattle.std.specs.Prelude.{nat_abs}
use Rattle.std.specs.List.{All}
use Rattle.std.proofs.lemmas.Int.{ints}
use Rattle.std.proofs.lemmas.List.Elements.{All-cons, All-nil}
use Rattle.fp_field.specs.Chains.{Each, keep}
use Rattle.fp_field.specs.declared.element.Fp.{Fp}
use Rattle.chain_core.specs.Formal.{numbers}
use Rattle.simp_ops.specs.Bits.{mask_word}
use Rattle.spaces.specs.Allowed.{IsTable}
use Rattle.spaces.specs.Tables.{Table, RowSimplex, row_degree}
use Rattle.spaces.specs.Nerves.{integers, nerve_times, nerve_face}
use Rattle.spaces.specs.Cocycles.{differences, cocycle_twisting}
use Rattle.spaces.specs.Spaces.{table, kz1, set_of}
use Rattle.spaces.specs.Orders.{ordered}
use Rattle.spaces.specs.EilenbergZilber.{linear, is_pair_cell}
use Rattle.values.specs.Rules.{bundle_twist}
use Rattle.values.specs.Sizes.{greatest}
use Rattle.cells.specs.Dim.{dim_of, degree_of}
use Rattle.cells.specs.declared.cells.Cell.{Cell}
use Rattle.cells.specs.declared.cells.Cell.TheVariants.{Pair as PairCell}
use Rattle.cells.specs.declared.cells.Simplex.{Simplex}
use Rattle.term_lang.specs.Belongs.{IsSimplex}
use Rattle.term_lang.specs.Degenerated.{degenerated}
use Rattle.term_lang.specs.Forms.{cell_form, form}
use Rattle.term_lang.specs.Quote.{quote}
use Rattle.term_lang.specs.NormalForms.{HasNormalForms}
use Rattle.term_lang.proofs.RowFaces.{some_row}
use Rattle.term_lang.proofs.TableForms.{table_forms}
use Rattle.oracle_iface.specs.CodeSizes.{cell_integer}
use Rattle.kz1_group.specs.Summable.{IsSummable}
use Rattle.kz1_group.proofs.ListForms.{laws, form_list, integers_forms}
use Rattle.kz1_group.proofs.Magnitudes.{within_list}
use Rattle.ez_laws.specs.Sides.{on_keys}
use Rattle.ez_flow.specs.CodeMaps.{cell_for}
use Rattle.ez_flow.proofs.Bits.{cell-masks}
use Rattle.ez_flow.proofs.CodeTerms.{at-pair}
use Rattle.ez_flow.proofs.PairCells.{with-pair, weight-pair}
use Rattle.twist_chains.specs.Bundles.{IsBundlePair, fibre_integer, twist_on, kept_pair}
use Rattle.twist_chains.proofs.Places.{low_mask, low_places, low_degree}
use Rattle.twist_chains.proofs.FibreLists.{list_length, has_list}

-- ---- two terms, each kept or not

two_kept : {A B : Type 0} (g : A → B) (test : A → Bool) (x y : A) (a b : ℕ) (s r : Bool) → test x ≡ s → test y ≡ r
    → on_keys g (keep test ((x, a) ∷ ((y, b) ∷ []))) ≡ cond s ((g x, a) ∷ []) [] ++ cond r ((g y, b) ∷ []) []
two_kept g test x y a b s r e f =
    (λ i. on_keys g (cond (e i) ((x, a) ∷ cond (f i) ((y, b) ∷ []) []) (cond (f i) ((y, b) ∷ []) []))) ∙ by s r
  where
    by : (s r : Bool) → on_keys g (cond s ((x, a) ∷ cond r ((y, b) ∷ []) []) (cond r ((y, b) ∷ []) [])) ≡ cond s ((g x, a) ∷ []) [] ++ cond r ((g y, b) ∷ []) []
    by true true = refl
    by true false = refl
    by false true = refl
    by false false = refl

pushed_two : (s r : Bool) (k l : Cell) (a b : Fp)
    → numbers (cond s ((k, a) ∷ []) [] ++ cond r ((l, b) ∷ []) []) ≡ cond s ((k, a.value) ∷ []) [] ++ cond r ((l, b.value) ∷ []) []
pushed_two true true k l a b = refl
pushed_two true false k l a b = refl
pushed_two false true k l a b = refl
pushed_two false false k l a b = refl

each_two : (P : Cell → Type 0) (s r : Bool) (k l : Cell) (a b : Fp) → P k → P l → Each P (numbers (cond s ((k, a) ∷ []) [] ++ cond r ((l, b) ∷ []) []))
each_two P true true k l a b u v = (u, (v, tt))
each_two P true false k l a b u v = (u, tt)
each_two P false true k l a b u v = (v, tt)
each_two P false false k l a b u v = tt

-- ---- integers

below_greatest : (x : List ℤ) (k : ℕ) (d : ℤ) → k < length x → nat_abs (get_or x k d) ≤ greatest nat_abs x
below_greatest [] k d h = absurd (omega arith)
below_greatest (a ∷ x) zero d h = omega arith
below_greatest (a ∷ x) (suc k) d h = omega (arith, below_greatest x k d (omega arith))

pub summable : (x : List ℤ) → greatest nat_abs x ≤ 2 ^ 60 → IsSummable x
summable x h k d l = omega (arith, h, below_greatest x k d l)

pub small_summable : (x : List ℤ) → All (λ a. nat_abs a ≤ 200000) x → IsSummable x
small_summable x h k d l = omega (arith, h k d l)

pub first_within : (x : List ℤ) → greatest nat_abs (nerve_face integers 0 x) ≤ greatest nat_abs x
first_within [] = omega arith
first_within (a ∷ x) = omega arith

sum_within : (a b : ℤ) → nat_abs (a +ℤ b) ≤ nat_abs a + nat_abs b
sum_within a b = omega (arith, ints)

pub times_within : (x y : List ℤ) → All (λ a. nat_abs a ≤ 200000) x → greatest nat_abs (nerve_times integers x y) ≤ greatest nat_abs y + 200000
times_within [] y h = omega arith
times_within (a ∷ x) [] h = omega arith
times_within (a ∷ x) (b ∷ y) h =
    let q : nat_abs a ≤ 200000 = h 0 (pos 0) (omega arith) in
    omega (arith, q, sum_within a b, times_within x y (λ k d l. h (suc k) d (omega (arith, l))))

pub rest_summable : (y rest : List ℤ) → rest ≡ nerve_face integers 0 y → greatest nat_abs y ≤ 2 ^ 60 → IsSummable rest
rest_summable y rest e h = subst IsSummable (sym e) (summable (nerve_face integers 0 y) (omega (arith, h, first_within y)))

pub turned_within : (y tau rest turned : List ℤ) (F u : ℕ) → u ≡ greatest nat_abs turned → turned ≡ nerve_times integers tau rest → rest ≡ nerve_face integers 0 y
    → F ≡ greatest nat_abs y → All (λ a. nat_abs a ≤ 200000) tau → u ≤ F + 200000
turned_within y tau rest turned F u e f g h small =
    let a : greatest nat_abs turned ≡ greatest nat_abs (nerve_times integers tau rest) = ap (greatest nat_abs) f in
    let b : greatest nat_abs rest ≡ greatest nat_abs (nerve_face integers 0 y) = ap (greatest nat_abs) g in
    omega (arith, e, a, b, h, times_within tau rest small, first_within y)

pub rest_within : (y rest : List ℤ) (F v : ℕ) → v ≡ greatest nat_abs rest → rest ≡ nerve_face integers 0 y → F ≡ greatest nat_abs y → v ≤ F + 200000
rest_within y rest F v e g h =
    let b : greatest nat_abs rest ≡ greatest nat_abs (nerve_face integers 0 y) = ap (greatest nat_abs) g in
    omega (arith, e, b, h, first_within y)

pub integer_is : (n : ℕ) (x : Simplex) → n ≤ 32 → IsSimplex kz1 n x → cell_integer x.cell ≡ greatest nat_abs (form x kz1)
integer_is n x most h =
    let s = has_list n x most h in
    let w = mask_word x.degens.mask in
    ap cell_integer s.1
    ∙ within_list w s.0 (form x kz1) (ap (λ c. degenerated (set_of kz1) w c) (sym (ap (λ c. cell_form c kz1) s.1 ∙ form_list s.0)))

-- ---- lengths

pub length-differences : (t : Table) (values : List ℤ) (n j k : ℕ) (b : RowSimplex) → length (differences integers t values n j k b) ≡ k
length-differences t values n j zero b = refl
length-differences t values n j (suc k) b = ap suc (length-differences t values n (suc j) k b)

pub length-times : (x y : List ℤ) (m : ℕ) → length x ≡ m → length y ≡ m → length (nerve_times integers x y) ≡ m
length-times [] y m e f = e
length-times (a ∷ x) [] m e f = absurd (let l : suc (length x) ≡ 0 = e ∙ sym f in omega (arith, l))
length-times (a ∷ x) (b ∷ y) zero e f = absurd (let l : suc (length x) ≡ 0 = e in omega (arith, l))
length-times (a ∷ x) (b ∷ y) (suc m) e f =
    let g : suc (length x) ≡ suc m = e in
    let h : suc (length y) ≡ suc m = f in
    ap suc (length-times x y m (omega (arith, g)) (omega (arith, h)))

-- ---- a pair of degree m + 1

module _ (p : ℕ) (t : Table) (values : List ℤ) (is : IsTable t) (m : ℕ) (most : suc m ≤ 32) (c : Cell) (b f : Simplex) (e : c ≡ PairCell b f)
    (h : IsBundlePair t (suc m) c) where
  both : IsSimplex (table t) (suc m) b × IsSimplex kz1 (suc m) f × (bit_and b.degens.mask f.degens.mask ≡ 0)
  both =
      with-pair (λ a d. IsSimplex (table t) (suc m) a × IsSimplex kz1 (suc m) d × (bit_and a.degens.mask d.degens.mask ≡ 0)) b f
      (subst (IsBundlePair t (suc m)) e h)

  pub base_in : IsSimplex (table t) (suc m) b
  base_in = both.0

  pub fibre_in : IsSimplex kz1 (suc m) f
  fibre_in = both.1

  less : m ≤ 32
  less = omega (arith, most)

  abbrev x : RowSimplex
  x = form b (table t)

  abbrev y : List ℤ
  y = form f kz1

  abbrev tau : List ℤ
  tau = cocycle_twisting integers t values x

  pub fibre_length : length y ≡ suc m
  fibre_length = list_length (suc m) f most fibre_in

  pub rest_length : length (nerve_face integers 0 y) ≡ m
  rest_length = (laws.face_in m 0 y (fibre_length, λ k d l. tt) (omega arith)).0

  pub tau_length : length tau ≡ m
  tau_length =
      let k = some_row t is (suc m) b base_in in
      let d : row_degree t x ≡ suc m = ap (row_degree t) k.1.plain_is ∙ k.1.simplex.degree in
      length-differences t values (row_degree t x) 1 (row_degree t x - 1) x ∙ ap (λ n. n - 1) d ∙ (let q : suc m - 1 ≡ m = omega arith in q)

  pub turned_length : length (nerve_times integers tau (nerve_face integers 0 y)) ≡ m
  turned_length = length-times tau (nerve_face integers 0 y) m tau_length rest_length

  pub fibre_is : fibre_integer c ≡ greatest nat_abs y
  fibre_is = ap fibre_integer e ∙ weight-pair (λ b f. cell_integer f.cell) b f ∙ integer_is (suc m) f most fibre_in

  module _ (face : Simplex) (face_in : IsSimplex (table t) m face) (face_is : form face (table t) ≡ (set_of (table t)).face 0 x) where
    base_forms : HasNormalForms (table t) m
    base_forms = table_forms t is m less

    fibre_forms : HasNormalForms kz1 m
    fibre_forms = integers_forms m less

    key_is : (z : Simplex) → IsSimplex kz1 m z → (v : List ℤ) → form z kz1 ≡ v
        → cell_for (quote (table t)) (quote kz1) (m, (set_of (table t)).face 0 x, v) ≡ PairCell face z
    key_is z i v g = λ j. PairCell ((ap (quote (table t) m) (sym face_is) ∙ base_forms.quoted face face_in) j) ((ap (quote kz1 m) (sym g) ∙ fibre_forms.quoted z i) j)

    test_is : (z : Simplex) → IsSimplex kz1 m z → (v : List ℤ) → form z kz1 ≡ v
        → is_pair_cell p (linear (ordered (table t))) (ordered kz1) (m, (set_of (table t)).face 0 x, v) ≡ (bit_and face.degens.mask z.degens.mask == 0)
    test_is z i v g =
        (λ j. is_pair_cell p (linear (ordered (table t))) (ordered kz1) (m, sym face_is j, sym g j))
        ∙ cell-masks p (linear (ordered (table t))) (ordered kz1) m face.degens.mask z.degens.mask (form face (table t)) (form z kz1)
        (low_mask (table t) m less base_forms face face_in) (low_places (table t) m less base_forms face face_in) (low_places kz1 m less fibre_forms z i)

    pub terms_are : (u v : Simplex) → IsSimplex kz1 m u → IsSimplex kz1 m v → form u kz1 ≡ nerve_times integers tau (nerve_face integers 0 y)
        → form v kz1 ≡ nerve_face integers 0 y → (one less_one : Fp) → one.value ≡ 1 → less_one.value ≡ p - 1
        → numbers (kept_pair face u one ++ kept_pair face v less_one) ≡ twist_on p t values c
    terms_are u v i j g k one less_one a b' =
        pushed_two (bit_and face.degens.mask u.degens.mask == 0) (bit_and face.degens.mask v.degens.mask == 0) (PairCell face u) (PairCell face v) one less_one
        ∙ (λ q. cond (bit_and face.degens.mask u.degens.mask == 0) ((sym (key_is u i _ g) q, a q) ∷ []) []
        ++ cond (bit_and face.degens.mask v.degens.mask == 0) ((sym (key_is v j _ k) q, b' q) ∷ []) [])
        ∙ sym (two_kept (cell_for (quote (table t)) (quote kz1)) (is_pair_cell p (linear (ordered (table t))) (ordered kz1))
        (m, (set_of (table t)).face 0 x, nerve_times integers tau (nerve_face integers 0 y)) (m, (set_of (table t)).face 0 x, nerve_face integers 0 y) 1 (p - 1)
        (bit_and face.degens.mask u.degens.mask == 0) (bit_and face.degens.mask v.degens.mask == 0) (test_is u i _ g) (test_is v j _ k))
        ∙ sym (at-pair dim_of (λ s. form s (table t)) (λ s. form s kz1) (cell_for (quote (table t)) (quote kz1)) (bundle_twist p t values) (suc m) c b f e
        (low_degree (table t) (suc m) most (table_forms t is (suc m) most) b base_in))

    pub terms_within : (u v : Simplex) (one less_one : Fp) → cell_integer u.cell ≤ fibre_integer c + 200000 → cell_integer v.cell ≤ fibre_integer c + 200000
        → Each (λ k. fibre_integer k ≤ fibre_integer c + 200000) (numbers (kept_pair face u one ++ kept_pair face v less_one))
    terms_within u v one less_one i j =
        each_two (λ k. fibre_integer k ≤ fibre_integer c + 200000) (bit_and face.degens.mask u.degens.mask == 0) (bit_and face.degens.mask v.degens.mask == 0)
        (PairCell face u) (PairCell face v) one less_one
        (subst (λ k. k ≤ fibre_integer c + 200000) (sym (weight-pair (λ b f. cell_integer f.cell) face u)) i)
        (subst (λ k. k ≤ fibre_integer c + 200000) (sym (weight-pair (λ b f. cell_integer f.cell) face v)) j)

-- in degree 0 there is no twist
pub none_in_zero : (p : ℕ) (t : Table) (values : List ℤ) → IsTable t → (c : Cell) (b f : Simplex) → c ≡ PairCell b f → IsBundlePair t 0 c → twist_on p t values c ≡ []
none_in_zero p t values is c b f e h =
    let k = with-pair (λ a d. IsSimplex (table t) 0 a × IsSimplex kz1 0 d × (bit_and a.degens.mask d.degens.mask ≡ 0)) b f (subst (IsBundlePair t 0) e h) in
    at-pair dim_of (λ s. form s (table t)) (λ s. form s kz1) (cell_for (quote (table t)) (quote kz1)) (bundle_twist p t values) 0 c b f e
    (low_degree (table t) 0 (omega arith) (table_forms t is 0 (omega arith)) b k.0)

-- ---- what the function knows

all_two : (P : Cell × Fp → Type 0) (s r : Bool) (k l : Cell × Fp) → P k → P l → All P (cond s (k ∷ []) [] ++ cond r (l ∷ []) [])
all_two P true true k l u v = All-cons P k (l ∷ []) u (All-cons P l [] v (All-nil P))
all_two P true false k l u v = All-cons P k [] u (All-nil P)
all_two P false true k l u v = All-cons P l [] v (All-nil P)
all_two P false false k l u v = All-nil P

pub elements : (p : ℕ) (face u v : Simplex) (one minus : Fp) → one.value < p → minus.value < p → All (λ t. t.1.value < p) (kept_pair face u one ++ kept_pair face v minus)
elements p face u v one minus a b =
    all_two (λ t. t.1.value < p) (bit_and face.degens.mask u.degens.mask == 0) (bit_and face.degens.mask v.degens.mask == 0) (PairCell face u, one) (PairCell face v, minus) a b

pub both_pushed : {A : Type 0} (none first all a b : List A) → none ≡ [] → first ≡ none ++ a → all ≡ first ++ b → all ≡ a ++ b
both_pushed none first all a b e f g = g ∙ ap (λ l. l ++ b) (f ∙ ap (λ l. l ++ a) e)

-- a pair of positive degree
pub record Positive (t : Table) (c : Cell) (b : Simplex) (n : ℕ) : Type 0 where
  pub less : ℕ
  pub most : suc less ≤ 32
  pub pair : IsBundlePair t (suc less) c
  pub degree : degree_of b ≡ suc less
  pub number_is : n ≡ suc less

pub degree_is : (t : Table) → IsTable t → (N : ℕ) → N ≤ 32 → (c : Cell) (b f : Simplex) → c ≡ PairCell b f → IsBundlePair t N c → degree_of b ≡ N
degree_is t is N most c b f e h =
    let k = with-pair (λ a d. IsSimplex (table t) N a × IsSimplex kz1 N d × (bit_and a.degens.mask d.degens.mask ≡ 0)) b f (subst (IsBundlePair t N) e h) in
    (table_forms t is N most).degree b k.0

pub positive : (t : Table) → IsTable t → (N : ℕ) → N ≤ 32 → (c : Cell) (b f : Simplex) → c ≡ PairCell b f → IsBundlePair t N c
    → (n : ℕ) → n ≡ degree_of b → (n ≡ 0 → ⊥) → Positive t c b n
positive t is N most c b f e h n d some_degree =
    let g : degree_of b ≡ N = degree_is t is N most c b f e h in
    let q : N ≡ suc (N - 1) = some N (λ z. some_degree (d ∙ g ∙ z)) in
    record {
      less = N - 1;
      most = subst (λ k. k ≤ 32) q most;
      pair = subst (λ k. IsBundlePair t k c) q h;
      degree = g ∙ q;
      number_is = d ∙ g ∙ q;
    }
  where
    some : (k : ℕ) → (k ≡ 0 → ⊥) → k ≡ suc (k - 1)
    some zero f = absurd (f refl)
    some (suc k) f = omega arith

pub in_zero : (t : Table) → IsTable t → (N : ℕ) → N ≤ 32 → (c : Cell) (b f : Simplex) → c ≡ PairCell b f → IsBundlePair t N c
    → (n : ℕ) → n ≡ degree_of b → n ≡ 0 → IsBundlePair t 0 c
in_zero t is N most c b f e h n d z = subst (λ k. IsBundlePair t k c) (sym (degree_is t is N most c b f e h) ∙ sym d ∙ z) h
