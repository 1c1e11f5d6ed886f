-- Equal codes are of equal rows, so tables are told apart by mark and code.
use Rattle.std.proofs.Common.{◌≡◌, ℕ, suc, ◌+◌, ◌*◌, ◌^◌, ◌<◌, ◌≤◌, ◌==◌, List, [], ◌∷◌, ◌++◌, length, map, refl, sym, ◌∙◌, ap, arith}
use Rattle.std.specs.Bool.{Decides, one_answer}
use Rattle.std.specs.Prelude.{nat_eq}
use Rattle.std.specs.Ordering.{eq_by_cmp}
use Rattle.std.specs.Cmp.{Equal-is}
use Rattle.std.specs.Cmp.Lexicographic.{pointwise}
use Rattle.std.proofs.lemmas.Bool.Decides.{Decides-eqb}
use Rattle.std.proofs.lemmas.Slice.Eq.{bytes_eq-Decides}
use Rattle.std.proofs.lemmas.List.{append_assoc}
use Rattle.cells.proofs.OneKey.{degens_same}
use Rattle.term_lang.specs.declared.tables.TableFace.{TableFace}
use Rattle.term_lang.specs.declared.tables.Row.{Row}
use Rattle.spaces.specs.Tables.{row_at}
use Rattle.spaces.specs.Allowed.{IsTable, face_count}
use Rattle.term_lang.specs.Rows.{face_of, rows_of}
use Rattle.term_lang.specs.Codes.{face_word, head_word, row_words, code_of, mark_of}
use Rattle.term_lang.specs.OneTerm.{one_table}
use Rattle.term_lang.specs.TermOrder.{table_cmp, table_equiv}

-- two lists of one length before others
fronts : {A : Type 0} (xs ys us vs : List A) → length xs ≡ length ys → xs ++ us ≡ ys ++ vs → (xs ≡ ys) × (us ≡ vs)
fronts [] [] us vs n e = (refl, e)
fronts [] (y ∷ ys) us vs n e = absurd (cc)
fronts (x ∷ xs) [] us vs n e = absurd (cc)
fronts (x ∷ xs) (y ∷ ys) us vs n e =
    let p : x ≡ y = cc in
    let m : length xs ≡ length ys = cc in
    let q : xs ++ us ≡ ys ++ vs = cc in
    let r = fronts xs ys us vs m q in
    ((λ i. p i ∷ r.0 i), r.1)

length-words : (fs : List TableFace) → length (map face_word fs) ≡ length fs
length-words [] = refl
length-words (f ∷ fs) = ap suc (length-words fs)

high : (r s m n : ℕ) → m < 2 ^ 32 → n < 2 ^ 32 → r * 2 ^ 32 + m ≡ s * 2 ^ 32 + n → r ≡ s
high r s m n p q e = omega (arith, p, q, e)

low : (r s m n : ℕ) → m < 2 ^ 32 → n < 2 ^ 32 → r * 2 ^ 32 + m ≡ s * 2 ^ 32 + n → m ≡ n
low r s m n p q e = omega (arith, p, q, e)

one_face : (f g : TableFace) → face_word f ≡ face_word g → f ≡ g
one_face f g e =
    let r = high f.row g.row f.degens.mask g.degens.mask f.degens.below_32 g.degens.below_32 e in
    let m = low f.row g.row f.degens.mask g.degens.mask f.degens.below_32 g.degens.below_32 e in
    λ i. record { degens = degens_same f.degens g.degens m i; row = r i }

one_list : (fs gs : List TableFace) → map face_word fs ≡ map face_word gs → fs ≡ gs
one_list [] [] e = refl
one_list [] (g ∷ gs) e = absurd (cc)
one_list (f ∷ fs) [] e = absurd (cc)
one_list (f ∷ fs) (g ∷ gs) e =
    let p : face_word f ≡ face_word g = cc in
    let q : map face_word fs ≡ map face_word gs = cc in
    λ i. one_face f g p i ∷ one_list fs gs q i

-- ---- what the form of a table says of its rows

abbrev pub IsCoded : Row → Type 0
IsCoded r = (r.dim < 2 ^ 32) × (length r.faces ≡ face_count r.dim)

abbrev pub AreCoded : List Row → Type 0
AreCoded [] = Unit {0}
AreCoded (r ∷ a) = IsCoded r × AreCoded a

length-faces : (fs : List TableFace) → length (map face_of fs) ≡ length fs
length-faces [] = refl
length-faces (f ∷ fs) = ap suc (length-faces fs)

small : (n : ℕ) → n ≤ 16 → n < 2 ^ 32
small n h = omega (arith, h)

coded : (a : List Row) → ((r : ℕ) → r < length (rows_of a) → (row_at (rows_of a) r).dim ≤ 16)
    → ((r : ℕ) → r < length (rows_of a) → length (row_at (rows_of a) r).faces ≡ face_count (row_at (rows_of a) r).dim) → AreCoded a
coded [] low counted = tt
coded (r ∷ a) low counted = (
  (small r.dim (low 0 (omega arith)), sym (length-faces r.faces) ∙ counted 0 (omega arith)),
  coded a (λ k h. low (suc k) (omega (arith, h))) (λ k h. counted (suc k) (omega (arith, h))),
)

pub are_coded : (a : List Row) → IsTable (rows_of a) → AreCoded a
are_coded a is = coded a is.low is.counted

-- ---- equal codes

-- a row in front of others
module _ (r s : Row) (u v : List ℕ) where
  abbrev tail : Row → List ℕ → List ℕ
  tail x w = x.name ++ (map face_word x.faces ++ w)

  opened : (x : Row) (w : List ℕ) → row_words x ++ w ≡ head_word x ∷ tail x w
  opened x w = ap (λ l. head_word x ∷ l) (append_assoc x.name (map face_word x.faces) w)

  parts : (m n : ℕ) (a b : List ℕ) → m ∷ a ≡ n ∷ b → (m ≡ n) × (a ≡ b)
  parts m n a b e = let p : m ≡ n = cc in let q : a ≡ b = cc in (p, q)

  row_told : IsCoded r → IsCoded s → row_words r ++ u ≡ row_words s ++ v → (r ≡ s) × (u ≡ v)
  row_told c d e =
      let whole = parts (head_word r) (head_word s) (tail r u) (tail s v) (sym (opened r u) ∙ e ∙ opened s v) in
      let longs = high (length r.name) (length s.name) r.dim s.dim c.0 d.0 whole.0 in
      let dims = low (length r.name) (length s.name) r.dim s.dim c.0 d.0 whole.0 in
      let names = fronts r.name s.name (map face_word r.faces ++ u) (map face_word s.faces ++ v) longs whole.1 in
      let counts : length r.faces ≡ length s.faces = c.1 ∙ ap face_count dims ∙ sym d.1 in
      let faces = fronts (map face_word r.faces) (map face_word s.faces) u v (length-words r.faces ∙ counts ∙ sym (length-words s.faces)) names.1 in
      let lists = one_list r.faces s.faces faces.0 in
      ((λ i. record { name = names.0 i; dim = dims i; faces = lists i }), faces.1)

pub rows_told : (a b : List Row) → AreCoded a → AreCoded b → code_of a ≡ code_of b → a ≡ b
rows_told [] [] c d e = refl
rows_told [] (s ∷ b) c d e = absurd (cc)
rows_told (r ∷ a) [] c d e = absurd (cc)
rows_told (r ∷ a) (s ∷ b) c d e =
    let f = row_told r s (code_of a) (code_of b) c.0 d.0 e in λ i. f.0 i ∷ rows_told a b c.1 d.1 f.1 i

-- ---- equality of tables

module _ (a b : List Row) where
  by_rows : Decides (eq_by_cmp table_cmp a b) (a ≡ b)
  by_rows = (λ h. one_table a b ((Equal-is (table_cmp a b)).0 h), λ e. ap (eq_by_cmp table_cmp a) (sym e) ∙ table_equiv.refl a)

  by_codes : IsTable (rows_of a) → IsTable (rows_of b) → Decides (pointwise nat_eq (code_of a) (code_of b)) (a ≡ b)
  by_codes p q = (λ h. rows_told a b (are_coded a p) (are_coded b q) ((bytes_eq-Decides (code_of a) (code_of b)).0 h), λ e. (bytes_eq-Decides (code_of a) (code_of b)).1 (ap code_of e))

  -- equal marks: the codes decide
  pub same_codes : IsTable (rows_of a) → IsTable (rows_of b) → pointwise nat_eq (code_of a) (code_of b) ≡ eq_by_cmp table_cmp a b
  same_codes p q = one_answer (pointwise nat_eq (code_of a) (code_of b)) (eq_by_cmp table_cmp a b) (by_codes p q) by_rows

  -- other marks: other rows
  pub other_marks : (m n : ℕ) → m ≡ mark_of (code_of a) → n ≡ mark_of (code_of b) → (m ≡ n → ⊥) → (m == n) ≡ eq_by_cmp table_cmp a b
  other_marks m n p q h = one_answer (m == n) (eq_by_cmp table_cmp a b) (Decides-eqb m n) (λ e. same (by_rows.0 e), λ e. absurd (h e))
    where
      same : a ≡ b → m ≡ n
      same e = p ∙ ap (λ r. mark_of (code_of r)) e ∙ sym q
