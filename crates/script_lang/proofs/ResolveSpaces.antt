-- What bodies and texts mean is a simplex of the degree, that of tables and spheres is not degenerate, and simplices have normal forms.
use Rattle.std.proofs.Common.{◌≡◌, ℕ, zero, suc, ◌+◌, ◌-◌, ◌<◌, ◌≤◌, Bool, true, false, cond, ◌==◌, ◌&&◌, nat_eq, List, [], ◌++◌, ℤ, length, Option, Some, None, codes, decimal, sym, ◌∙◌, ap, subst, arith, refl}
use Rattle.std.specs.Cmp.Lexicographic.{pointwise}
use Rattle.std.proofs.lemmas.Option.{none-some, same_Some, cond_some}
use Rattle.simp_ops.specs.Words.{IsWord}
use Rattle.simp_ops.proofs.PlacesOf.{not_eq}
use Rattle.simp_ops.proofs.Squeezed.{and_right}
use Rattle.spaces.specs.Simplicial.{is_degenerate, IsSimplicial}
use Rattle.spaces.specs.Tables.{Table, RowSimplex, InTable, row_at, table_set, sphere_rows}
use Rattle.spaces.specs.Spaces.{Space, table, sphere, product, suspension, kz1, bundle, loops, paths, kzm1, cyclic_bundle, Plain, is_base, set_of}
use Rattle.spaces.specs.Allowed.{IsTable, Admits}
use Rattle.spaces.proofs.SpaceLaws.{space_set_laws}
use Rattle.spaces.proofs.TableLaws.{table_set_laws}
use Rattle.spaces.proofs.TableDegenerate.{row-not_degenerate}
use Rattle.spaces.proofs.SphereTable.{sphere_faces}
use Rattle.term_lang.specs.NormalForms.{HasNormalForms, HasNormalCells}
use Rattle.term_lang.proofs.RowCells.{eq_is}
use Rattle.term_lang.specs.Degenerated.{degenerated}
use Rattle.term_lang.proofs.TableForms.{table_cells}
use Rattle.term_lang.proofs.SphereForms.{sphere_cells}
use Rattle.term_lang.proofs.WordsAct.{degenerated_in}
use Rattle.script_lang.specs.declared.simplices.BodyText.{BodyText}
use Rattle.script_lang.specs.declared.simplices.SimplexText.{SimplexText}
use Rattle.script_lang.specs.Meaning.{is_prefix, mapped, meaning, star, when, named_cell, both_of}
use Rattle.normal_forms.specs.Built.{IsBuilt}
use Rattle.normal_forms.proofs.BuiltForms.{cells_of}
use Rattle.normal_forms.proofs.FormsOfCells.{forms_of_cells}
use Rattle.normal_forms.proofs.Exact.{exact_order}
use Rattle.script_lang.specs.Resolved.{body_meaning}
use Rattle.script_lang.proofs.ResolveMeanings.{meaning-is, meaning-Star, meaning-Up, meaning-Pair, meaning-Ints, BodyCases, at_star, at_name, at_other, cases_body, IntsCases, at_ints, no_ints, cases_ints, UpCases, at_base, at_up, no_up, cases_up, PairCases, at_pair, no_pair, cases_pair}
use Rattle.script_lang.proofs.ResolvePrefixes.{word_of_prefix, length-word}
use Rattle.script_lang.proofs.ResolveRows.{IsRow, named}

module _ (t : Table) (laws : IsSimplicial (table_set t)) where
  row_in : (n : ℕ) (y : RowSimplex) → IsRow t n y → InTable t n y
  row_in n y r =
      let z : (row_at t r.place).dim + 0 ≡ n = omega (arith, r.dim) in
      subst (InTable t n) (sym r.is) (record { row = r.within; degree = z; word = tt })

  row_bare : (n : ℕ) (y : RowSimplex) → IsRow t n y → is_degenerate (table_set t) n y ≡ false
  row_bare n y r =
      let z : (row_at t r.place).dim + 0 ≡ n = omega (arith, r.dim) in
      ap (is_degenerate (table_set t) n) r.is ∙ row-not_degenerate t laws n r.place (record { row = r.within; degree = z; word = tt })

-- bodies of a table or of a sphere mean cells
pub record HasCellBodies (a : Space) : Type 0 where
  pub cells : (n : ℕ) → n ≤ 32 → HasNormalCells a n
  pub simplex : (body : BodyText) (n : ℕ) (y : Plain a) → body_meaning body a n ≡ Some y → (set_of a).In n y
  pub bare : (body : BodyText) (n : ℕ) (y : Plain a) → body_meaning body a n ≡ Some y → is_degenerate (set_of a) n y ≡ false

table_row : (t : Table) (body : BodyText) (n : ℕ) (y : RowSimplex) → body_meaning body (table t) n ≡ Some y → IsRow t n y
table_row t body n y e = by (cases_body body)
  where
    by : BodyCases body → IsRow t n y
    by (at_star h) = named t star n y (sym (ap (λ f. f (table t) n) h) ∙ e)
    by (at_name s h) = named t s n y (sym (ap (λ f. f (table t) n) h) ∙ e)
    by (at_other s r) = absurd (none-some y (sym (s t n) ∙ e))

sphere_row : (m : ℕ) (body : BodyText) (n : ℕ) (y : RowSimplex) → body_meaning body (sphere m) n ≡ Some y → IsRow (sphere_rows m) n y
sphere_row m body n y e = by (cases_body body)
  where
    by : BodyCases body → IsRow (sphere_rows m) n y
    by (at_star h) =
        let f : when (n == 0) ([], 0) ≡ Some y = sym (ap (λ g. g (sphere m) n) h) ∙ e in
        let g = cond_some (n == 0) ([], 0) y f in
        record { place = 0; is = sym g.1; within = omega arith; dim = sym (eq_is n 0 g.0) }
    by (at_name s h) =
        let f : named_cell m s n ≡ Some y = sym (ap (λ g. g (sphere m) n) h) ∙ e in
        let g = cond_some (pointwise nat_eq s (codes "S" ++ decimal m) && (n == m)) ([], 1) y f in
        record { place = 1; is = sym g.1; within = omega arith; dim = sym (eq_is n m (and_right (pointwise nat_eq s (codes "S" ++ decimal m)) (n == m) g.0)) }
    by (at_other s r) = absurd (none-some y (sym (r m n) ∙ e))

pub read_table : (t : Table) → IsTable t → HasCellBodies (table t)
read_table t is =
    let laws = table_set_laws t is.faces in
    record {
      cells = table_cells t is;
      simplex = λ body n y e. row_in t laws n y (table_row t body n y e);
      bare = λ body n y e. row_bare t laws n y (table_row t body n y e);
    }

pub read_sphere : (m : ℕ) → 0 < m → HasCellBodies (sphere m)
read_sphere m positive =
    let laws = table_set_laws (sphere_rows m) (sphere_faces m positive) in
    record {
      cells = sphere_cells m positive;
      simplex = λ body n y e. row_in (sphere_rows m) laws n y (sphere_row m body n y e);
      bare = λ body n y e. row_bare (sphere_rows m) laws n y (sphere_row m body n y e);
    }

-- ---- what a text means, from what its body means

pub record Mapped {A B : Type 0} (f : A → B) (x : Option A) (y : B) : Type 0 where
  pub from : A
  pub was : x ≡ Some from
  pub gives : f from ≡ y

pub mapped-some : {A B : Type 0} (f : A → B) (x : Option A) (y : B) → mapped f x ≡ Some y → Mapped f x y
mapped-some f None y e = absurd (none-some y e)
mapped-some f (Some x) y e = record { from = x; was = refl; gives = same_Some (f x) y e }

abbrev BodiesIn : Space → Type 0
BodiesIn a = (body : BodyText) (n : ℕ) (y : Plain a) → body_meaning body a n ≡ Some y → (set_of a).In n y

text_in : (a : Space) → IsSimplicial (set_of a) → BodiesIn a → (text : SimplexText) (n : ℕ) (y : Plain a) → meaning text a n ≡ Some y → (set_of a).In n y
text_in a laws bodies text n y e = by (is_prefix n text.degens) refl (sym (ap (λ f. f a n) (meaning-is text)) ∙ e)
  where
    by : (b : Bool) → is_prefix n text.degens ≡ b → cond b (mapped (degenerated (set_of a) text.degens) (body_meaning text.body a (n - length text.degens))) None ≡ Some y
        → (set_of a).In n y
    by true p h =
        let g = mapped-some (degenerated (set_of a) text.degens) (body_meaning text.body a (n - length text.degens)) y h in
        let word = word_of_prefix n text.degens p in
        let l = length-word n text.degens word in
        let s : (n - length text.degens) + length text.degens ≡ n = omega (arith, l) in
        let inside = bodies text.body (n - length text.degens) g.from g.was in
        let whole = degenerated_in (set_of a) laws (n - length text.degens) text.degens g.from inside (subst (λ m. IsWord m text.degens) (sym s) word) in
        subst ((set_of a).In n) g.gives (subst (λ m. (set_of a).In m (degenerated (set_of a) text.degens g.from)) s whole)
    by false p h = absurd (none-some y h)

list_in : BodiesIn kz1
list_in body n y e = by (cases_ints body)
  where
    by : IntsCases body → (set_of kz1).In n y
    by (at_ints list h) =
        let g = cond_some (length list == n) list y (sym (ap (λ b. body_meaning b kz1 n) h ∙ ap (λ f. f kz1 n) (meaning-Ints list)) ∙ e) in
        (ap length (sym g.1) ∙ eq_is (length list) n g.0, λ k d l. tt)
    by (no_ints h) = absurd (none-some y (sym (h n) ∙ e))

up_in : (a : Space) → IsSimplicial (set_of a) → BodiesIn a → BodiesIn (suspension a)
up_in a laws bodies body zero y e = by (cases_up body)
  where
    by : UpCases body → (set_of (suspension a)).In zero y
    by (at_base h) =
        subst ((set_of (suspension a)).In zero) (same_Some None y (sym (ap (λ b. body_meaning b (suspension a) zero) h ∙ ap (λ f. f (suspension a) zero) meaning-Star) ∙ e)) tt
    by (at_up x h) = absurd (none-some y (sym (ap (λ b. body_meaning b (suspension a) zero) h ∙ ap (λ f. f (suspension a) zero) (meaning-Up x)) ∙ e))
    by (no_up h) = absurd (none-some y (sym (h a zero) ∙ e))
up_in a laws bodies body (suc n) y e = by (cases_up body)
  where
    raise : Plain a → Option (ℕ × Plain a)
    raise z = cond (is_base a z) None (Some (0, z))

    raise_in : (z : Plain a) → (set_of a).In n z → (b : Bool) → is_base a z ≡ b → (set_of (suspension a)).In (suc n) (cond b None (Some (0, z)))
    raise_in z is true h = tt
    raise_in z is false h = let k : n ≡ suc n - 1 - 0 = omega arith in (omega arith, subst (λ j. (set_of a).In j z) k is, h)

    by : UpCases body → (set_of (suspension a)).In (suc n) y
    by (at_base h) =
        absurd (none-some y (sym (ap (λ b. body_meaning b (suspension a) (suc n)) h ∙ ap (λ f. f (suspension a) (suc n)) meaning-Star
        ∙ ap (λ b. when {A = Option (ℕ × Plain a)} b None) (not_eq (suc n) 0 (λ q. omega (arith, q)))) ∙ e))
    by (at_up x h) =
        let g = mapped-some raise (meaning x a n) y (sym (ap (λ b. body_meaning b (suspension a) (suc n)) h ∙ ap (λ f. f (suspension a) (suc n)) (meaning-Up x)) ∙ e) in
        subst ((set_of (suspension a)).In (suc n)) g.gives (raise_in g.from (text_in a laws bodies x n g.from g.was) (is_base a g.from) refl)
    by (no_up h) = absurd (none-some y (sym (h a (suc n)) ∙ e))

-- ---- pairs

pub record Both {A B : Type 0} (x : Option A) (y : Option B) (z : A × B) : Type 0 where
  pub left : A
  pub right : B
  pub left_was : x ≡ Some left
  pub right_was : y ≡ Some right
  pub gives : z ≡ (left, right)

pub both-some : {A B : Type 0} (x : Option A) (y : Option B) (z : A × B) → both_of x y ≡ Some z → Both x y z
both-some None y z e = absurd (none-some z e)
both-some (Some x) None z e = absurd (none-some z e)
both-some (Some x) (Some y) z e = record { left = x; right = y; left_was = refl; right_was = refl; gives = sym (same_Some (x, y) z e) }

product_in : (a b : Space) → IsSimplicial (set_of a) → IsSimplicial (set_of b) → BodiesIn a → BodiesIn b → BodiesIn (product a b)
product_in a b la lb ba bb body n z e = by (cases_pair body)
  where
    by : PairCases body → (set_of (product a b)).In n z
    by (at_pair x y h) =
        let g = both-some (meaning x a n) (meaning y b n) z (sym (ap (λ u. body_meaning u (product a b) n) h ∙ ap (λ f. f (product a b) n) (meaning-Pair x y)) ∙ e) in
        subst ((set_of (product a b)).In n) (sym g.gives) (text_in a la ba x n g.left g.left_was, text_in b lb bb y n g.right g.right_was)
    by (no_pair f g) = absurd (none-some z (sym (f a b n) ∙ e))

bundle_in : (t : Table) (c : List ℤ) → IsSimplicial (table_set t) → IsSimplicial (set_of kz1) → BodiesIn (table t) → BodiesIn kz1 → BodiesIn (bundle t c)
bundle_in t c la lb ba bb body n z e = by (cases_pair body)
  where
    by : PairCases body → (set_of (bundle t c)).In n z
    by (at_pair x y h) =
        let g = both-some (meaning x (table t) n) (meaning y kz1 n) z (sym (ap (λ u. body_meaning u (bundle t c) n) h ∙ ap (λ f. f (bundle t c) n) (meaning-Pair x y)) ∙ e) in
        subst ((set_of (bundle t c)).In n) (sym g.gives) (text_in (table t) la ba x n g.left g.left_was, text_in kz1 lb bb y n g.right g.right_was)
    by (no_pair f g) = absurd (none-some z (sym (g t c n) ∙ e))

-- ---- all constructions that are built

pub body_in : (a : Space) → IsBuilt a → Admits a → BodiesIn a
body_in (table t) built is = (read_table t is).simplex
body_in (sphere m) built is = (read_sphere m is.0).simplex
body_in (product a b) built is = product_in a b (space_set_laws a is.0) (space_set_laws b is.1) (body_in a built.0 is.0) (body_in b built.1 is.1)
body_in (suspension a) built is = up_in a (space_set_laws a is.0) (body_in a built is.0)
body_in kz1 built is = list_in
body_in (bundle t c) built is = bundle_in t c (space_set_laws (table t) is.0) (space_set_laws kz1 tt) (read_table t is.0).simplex list_in
body_in (loops a) built is = absurd built
body_in (paths a) built is = absurd built
body_in (kzm1 m) built is = absurd built
body_in (cyclic_bundle t m c) built is = absurd built

-- what a text means is a simplex of the degree
pub meant_in : (a : Space) → IsBuilt a → Admits a → (text : SimplexText) (n : ℕ) (y : Plain a) → meaning text a n ≡ Some y → (set_of a).In n y
meant_in a built is = text_in a (space_set_laws a is) (body_in a built is)

-- the simplices of a space are read
pub record CanRead (a : Space) : Type 0 where
  pub forms : (n : ℕ) → n ≤ 32 → HasNormalForms a n
  pub cells : (n : ℕ) → n ≤ 32 → HasNormalCells a n
  pub simplex : (body : BodyText) (n : ℕ) (y : Plain a) → body_meaning body a n ≡ Some y → (set_of a).In n y

pub can_read : (a : Space) → IsBuilt a → Admits a → CanRead a
can_read a built is = record {
  forms = λ n h. forms_of_cells a (space_set_laws a is) n h (λ m l. cells_of a is built m (omega (arith, h, l))) (exact_order a is built);
  cells = cells_of a is built;
  simplex = body_in a built is;
}
