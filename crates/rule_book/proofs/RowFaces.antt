-- The small differential of a row, one face at a time.
use Rattle.std.proofs.Common.{◌≡◌, ℕ, zero, suc, ◌+◌, ◌-◌, ◌*◌, ◌^◌, ◌%◌, ◌<◌, ◌≤◌, false, cond, List, [], ◌∷◌, ◌++◌, get_or, length, refl, sym, ◌∙◌, ap, subst, arith, slice_get, Some, ◌==◌, lit<}
use Rattle.std.proofs.lemmas.Bool.Decides.{nat_tests}
use Rattle.std.proofs.lemmas.Nat.{pow_pos}
use Rattle.std.proofs.lemmas.List.{length-map, map_push}
use Rattle.std.proofs.lemmas.Option.{slice_get_within, slice_get-get_or}
use Rattle.fp_field.specs.declared.element.Fp.{Fp}
use Rattle.fp_field.specs.Field.{sign, SameMod}
use Rattle.fp_field.specs.Chains.{Terms, weigh, faces_sum, keep, Each}
use Rattle.fp_field.specs.Normal.{normal}
use Rattle.fp_field.proofs.Mod.{same-plus, same-times}
use Rattle.fp_field.proofs.Weights.{weigh-append}
use Rattle.fp_field.proofs.Normals.{normal-same}
use Rattle.chain_core.specs.Formal.{numbers}
use Rattle.simp_ops.specs.Bits.{mask_word}
use Rattle.spaces.specs.Spaces.{Space, table}
use Rattle.spaces.specs.Tables.{Table, row_at, row_face, RowSimplex}
use Rattle.spaces.specs.SmallCells.{Small, row_dim, small_cmp}
use Rattle.spaces.specs.Allowed.{IsTable, face_count}
use Rattle.spaces.specs.Tables.{InTable}
use Rattle.cells.specs.declared.cells.SmallCell.{SmallCell}
use Rattle.cells.specs.Small.{small_cmp as code_cmp}
use Rattle.term_lang.specs.declared.tables.Row.{Row}
use Rattle.term_lang.specs.declared.tables.TableFace.{TableFace}
use Rattle.term_lang.specs.Quote.{degens_of}
use Rattle.term_lang.specs.Rows.{rows_of, row_of, face_of}
use Rattle.finite_sets.proofs.Entries.{row_got, face_got}
use Rattle.values.specs.Rules.{named, is_row, row_d}
use Rattle.oracle_iface.specs.Terms.{word_mask}
use Rattle.oracle_iface.specs.SmallForms.{quote_small, quote_row}
use Rattle.oracle_iface.specs.Keys.{quote_small_chain}
use Rattle.oracle_iface.specs.KeyLaws.{IsProper, IsCounted}
use Rattle.cells.specs.Laws.{small_total}
use Rattle.cells.proofs.OneSmall.{one_small}
use Rattle.oracle_iface.proofs.SmallOrders.{order-small}
use Rattle.oracle_iface.proofs.CarriedChains.{carried-normal}
use Rattle.oracle_iface.proofs.Named.{word_mask-back}

-- the first i faces of a row that are rows, with their signs
abbrev pub faces_below : ℕ → List Row → ℕ → ℕ → Terms ℕ
faces_below p t r i = named (λ x. x.1) (keep (is_row p) (faces_sum p (row_face (rows_of t)) i ([], r)))

-- a weight of small cells of the code, at rows
abbrev pub quoted_weight : List Row → (SmallCell → ℕ) → ℕ → ℕ
quoted_weight t w r = w (quote_small (table (rows_of t)) r)

-- the mask 0 is that of the empty word
no_word : mask_word 0 ≡ []
no_word = by (mask_word 0) (word_mask-back 0 (lit< tt))
  where
    by : (w : List ℕ) → word_mask w ≡ 0 → w ≡ []
    by [] e = refl
    by (j ∷ w) e = let h : 0 < 2 ^ j = pow_pos j in absurd (omega (arith, e, h))

weigh-quoted : (a : Space) (w : SmallCell → ℕ) (c : Terms (Small a)) → weigh w (quote_small_chain a c) ≡ weigh (λ y. w (quote_small a y)) c
weigh-quoted a w [] = refl
weigh-quoted a w (x ∷ c) = ap (λ n. x.1 * w (quote_small a x.0) + n) (weigh-quoted a w c)

module _ (p : ℕ) (t : List Row) (is : IsTable (rows_of t)) (r : ℕ) (row : Row) (at : slice_get t r ≡ Some row) where
  pub face_is : (i : ℕ) (face : TableFace) → slice_get row.faces i ≡ Some face → row_face (rows_of t) i ([], r) ≡ (mask_word face.degens.mask, face.row)
  face_is i face e = ap (λ q. Rattle.spaces.specs.Tables.entry ([], 0) q.faces i) (row_got t r row at) ∙ face_got row.faces i face e

  -- a face that is a row, and one that is not
  pub face_there : (i : ℕ) (face : TableFace) → slice_get row.faces i ≡ Some face → face.degens.mask ≡ 0
      → faces_below p t r (suc i) ≡ (face.row, sign p i) ∷ faces_below p t r i
  face_there i face e h =
      ap (λ x. named (λ y. y.1) (cond (is_row p x) ((x, sign p i) ∷ rest) rest)) (face_is i face e ∙ ap (λ m. (mask_word m, face.row)) h)
      ∙ ap (λ ws. named (λ y. y.1) (cond (length ws == 0) (((ws, face.row), sign p i) ∷ rest) rest)) no_word
    where
      rest : Terms RowSimplex
      rest = keep (is_row p) (faces_sum p (row_face (rows_of t)) i ([], r))

  pub face_not_there : (i : ℕ) (face : TableFace) → slice_get row.faces i ≡ Some face → 0 < face.degens.mask
      → faces_below p t r (suc i) ≡ faces_below p t r i
  face_not_there i face e h =
      ap (λ x. named (λ y. y.1) (cond (is_row p x) ((x, sign p i) ∷ rest) rest)) (face_is i face e)
      ∙ by (mask_word face.degens.mask) refl
    where
      rest : Terms RowSimplex
      rest = keep (is_row p) (faces_sum p (row_face (rows_of t)) i ([], r))

      by : (w : List ℕ) → mask_word face.degens.mask ≡ w → named (λ y. y.1) (cond (length w == 0) (((w, face.row), sign p i) ∷ rest) rest) ≡ named (λ y. y.1) rest
      by [] q = let z : face.degens.mask ≡ 0 = sym (word_mask-back face.degens.mask face.degens.below_32) ∙ ap word_mask q in absurd (omega (arith, z))
      by (j ∷ w) q = ap (λ b. named (λ y. y.1) (cond b (((j ∷ w, face.row), sign p i) ∷ rest) rest)) (let z : (suc (length w) == 0) ≡ false = grind (arith, nat_tests) in z)

  within : r < length (rows_of t)
  within = let l : r < length t = slice_get_within t r row at in subst (λ n. r < n) (sym (length-map t row_of)) l

  -- a row with a face has a positive dimension
  face_dim : (n k i : ℕ) → k ≡ face_count n → i < k → 1 ≤ n
  face_dim zero k i e h = absurd (omega (arith, e, h))
  face_dim (suc n) k i e h = omega arith

  counted : length row.faces ≡ face_count row.dim
  counted =
      sym (length-map row.faces face_of)
      ∙ subst (λ x. length x.faces ≡ face_count x.dim) (row_got t r row at) (is.counted r within)

  pub has_dim : (i : ℕ) → i < length row.faces → 1 ≤ row.dim
  has_dim i h = face_dim row.dim (length row.faces) i counted h

  -- a face that is a row is a row of the table, one degree below
  pub record IsBelow (s : ℕ) : Type 0 where
    pub within : s < length (rows_of t)
    pub dim : row_dim (rows_of t) s ≡ row.dim - 1

  below_by : (n i : ℕ) (face : TableFace) → row.dim ≡ n → length row.faces ≡ face_count n → slice_get row.faces i ≡ Some face → face.degens.mask ≡ 0 → IsBelow face.row
  below_by zero i face d c e h = absurd (let l = slice_get_within row.faces i face e in omega (arith, c, l))
  below_by (suc n) i face d c e h =
      let l = slice_get_within row.faces i face e in
      let dim : row_dim (rows_of t) r ≡ suc n = ap (λ x. x.dim) (row_got t r row at) ∙ d in
      let plain : row_face (rows_of t) i ([], r) ≡ ([], face.row) = face_is i face e ∙ ap (λ m. (mask_word m, face.row)) h ∙ ap (λ w. (w, face.row)) no_word in
      let at_face : InTable (rows_of t) n ([], face.row) = subst (InTable (rows_of t) n) plain (is.faces_in r n i within dim (omega (arith, l, c))) in
      let g : row_dim (rows_of t) face.row + 0 ≡ n = at_face.degree in
      record { within = at_face.row; dim = omega (arith, g, d) }

  pub face_below : (i : ℕ) (face : TableFace) → slice_get row.faces i ≡ Some face → face.degens.mask ≡ 0 → IsBelow face.row
  face_below i face e h = below_by row.dim i face refl counted e h

  -- so the faces that are rows are small cells whose degrees the code counts
  abbrev Fits : ℕ → Type 0
  Fits s = IsProper (table (rows_of t)) s × IsCounted (table (rows_of t)) s

  fits : (s : ℕ) → IsBelow s → Fits s
  fits s b = (b.within, (let l : row_dim (rows_of t) s ≤ 16 = is.low s b.within in omega (arith, l)))

  all_fit : (i : ℕ) → i ≤ length row.faces → Each Fits (faces_below p t r i)
  all_fit zero h = tt
  all_fit (suc i) h = by face.degens.mask refl (all_fit i (omega arith))
    where
      face : TableFace
      face = get_or row.faces i (record { degens = degens_of 0; row = 0 })

      here : slice_get row.faces i ≡ Some face
      here = slice_get-get_or row.faces i (record { degens = degens_of 0; row = 0 }) (omega arith)

      by : (m : ℕ) → face.degens.mask ≡ m → Each Fits (faces_below p t r i) → Each Fits (faces_below p t r (suc i))
      by zero e all = subst (Each Fits) (sym (face_there i face here e)) (fits face.row (face_below i face here e), all)
      by (suc m) e all = subst (Each Fits) (sym (face_not_there i face here (omega (arith, e)))) all

  -- the small differential of the row
  d_by : (n : ℕ) → row_dim (rows_of t) r ≡ n → length row.faces ≡ face_count n → row_d p (rows_of t) r ≡ faces_below p t r (length row.faces)
  d_by zero d c = rw (d, c) refl
  d_by (suc n) d c = rw (d, c) refl

  pub d_is : row_d p (rows_of t) r ≡ faces_below p t r (length row.faces)
  d_is = d_by row.dim (ap (λ x. x.dim) (row_got t r row at)) counted

  pub d_fits : Each Fits (row_d p (rows_of t) r)
  d_fits = subst (Each Fits) (sym d_is) (all_fit (length row.faces) (omega arith))

  -- ---- the loop over the faces, from the last one down

  pub face_pushed : (j i : ℕ) (face : TableFace) (s : Fp) (old new : List (SmallCell × Fp)) (whole : (SmallCell → ℕ) → ℕ)
      → i ≡ suc j → slice_get row.faces j ≡ Some face → face.degens.mask ≡ 0 → SameMod p s.value (sign p j)
      → new ≡ old ++ (quote_row (row.dim - 1) face.row, s) ∷ []
      → ((w : SmallCell → ℕ) → SameMod p (weigh w (numbers old) + weigh (quoted_weight t w) (faces_below p t r i)) (whole w))
      → (w : SmallCell → ℕ) → SameMod p (weigh w (numbers new) + weigh (quoted_weight t w) (faces_below p t r j)) (whole w)
  face_pushed j i face s old new whole e here plain same pushed before w =
      ap (λ n. n % p) first
      ∙ same-plus p (a + b) (a + b) (x * s.value) (x * sign p j) refl (same-times p x s.value (sign p j) same)
      ∙ ap (λ n. n % p) second
      ∙ before w
    where
      a : ℕ
      a = weigh w (numbers old)

      b : ℕ
      b = weigh (quoted_weight t w) (faces_below p t r j)

      x : ℕ
      x = w (quote_row (row.dim - 1) face.row)

      added : weigh w (numbers new) ≡ weigh w (numbers old) + (s.value * w (quote_row (row.dim - 1) face.row) + 0)
      added =
          ap (λ ts. weigh w (numbers ts)) pushed
          ∙ ap (weigh w) (map_push (λ t. (t.0, t.1.value)) old (quote_row (row.dim - 1) face.row, s))
          ∙ weigh-append w (numbers old) ((quote_row (row.dim - 1) face.row, s.value) ∷ [])

      first : weigh w (numbers new) + b ≡ (a + b) + x * s.value
      first = omega (arith, added)

      named_so : quoted_weight t w face.row ≡ x
      named_so = ap (λ d. w (quote_row d face.row)) (face_below j face here plain).dim

      more : weigh (quoted_weight t w) (faces_below p t r i) ≡ sign p j * quoted_weight t w face.row + b
      more = ap (λ n. weigh (quoted_weight t w) (faces_below p t r n)) e ∙ ap (weigh (quoted_weight t w)) (face_there j face here plain)

      second : (a + b) + x * sign p j ≡ a + weigh (quoted_weight t w) (faces_below p t r i)
      second = let q : sign p j * quoted_weight t w face.row ≡ x * sign p j = ap (λ n. sign p j * n) named_so ∙ (let z : sign p j * x ≡ x * sign p j = omega arith in z) in omega (arith, more, q)

  pub face_dropped : (j i : ℕ) (face : TableFace) (n : ℕ) (whole : ℕ) (v : ℕ → ℕ)
      → i ≡ suc j → slice_get row.faces j ≡ Some face → (face.degens.mask ≡ 0 → ⊥)
      → SameMod p (n + weigh v (faces_below p t r i)) whole → SameMod p (n + weigh v (faces_below p t r j)) whole
  face_dropped j i face n whole v e here some before =
      ap (λ c. (n + weigh v c) % p) (sym (face_not_there j face here (positive face.degens.mask some)) ∙ ap (faces_below p t r) (sym e)) ∙ before
    where
      positive : (m : ℕ) → (m ≡ 0 → ⊥) → 0 < m
      positive zero h = absurd (h refl)
      positive (suc m) h = omega arith

  pub boundary_is : 0 < p → (terms : Terms SmallCell)
      → ((w : SmallCell → ℕ) → SameMod p (weigh w terms) (weigh (quoted_weight t w) (faces_below p t r (length row.faces))))
      → normal code_cmp p terms ≡ quote_small_chain (table (rows_of t)) (normal (small_cmp (table (rows_of t))) p (row_d p (rows_of t) r))
  boundary_is pos terms h =
      normal-same code_cmp p one_small small_total pos terms (quote_small_chain a (row_d p (rows_of t) r))
      (λ w. h w ∙ ap (λ n. n % p) (ap (weigh (quoted_weight t w)) (sym d_is) ∙ sym (weigh-quoted a w (row_d p (rows_of t) r))))
      ∙ carried-normal (quote_small a) (small_cmp a) code_cmp p Fits (λ x y h l. order-small a x y h.0 l.0 h.1 l.1) (row_d p (rows_of t) r) d_fits
    where
      a : Space
      a = table (rows_of t)
