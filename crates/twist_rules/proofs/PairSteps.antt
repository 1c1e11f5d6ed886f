-- Pairs of small cells, put one after the other.
use Rattle.std.proofs.Common.{◌≡◌, ℕ, suc, ◌+◌, ◌*◌, ◌/◌, ◌<◌, ◌≤◌, List, [], ◌∷◌, ◌++◌, map, length, take, drop, get_or, refl, sym, ◌∙◌, ap, arith}
use Rattle.std.proofs.Math.Seq.{take-suc, drop-cons}
use Rattle.std.proofs.lemmas.List.{append_assoc, append-nil, map-append, length-drop}
use Rattle.values.specs.Rules.{joined}
use Rattle.cells.specs.declared.cells.SmallCell.{SmallCell}
use Rattle.oracle_iface.specs.declared.cell_values.CellValue.{CellValue}
use Rattle.homology_rules.specs.Degrees.{cells_held}
use Rattle.twist_rules.specs.PairBases.{pairs_with, cell_pairs, pairs_held}

joined-append : {A : Type 0} (xs ys : List (List A)) → joined (xs ++ ys) ≡ joined xs ++ joined ys
joined-append [] ys = refl
joined-append (x ∷ xs) ys = ap (λ z. x ++ z) (joined-append xs ys) ∙ sym (append_assoc x (joined xs) (joined ys))

-- one small cell of the first list more
pub pairs-more : (xs ys : List SmallCell) (i : ℕ) (x : SmallCell) (start old new : List SmallCell) → i < length xs → x ≡ get_or xs i x
    → old ≡ start ++ cell_pairs (take i xs) ys → new ≡ old ++ pairs_with x ys → new ≡ start ++ cell_pairs (take (i + 1) xs) ys
pairs-more xs ys i x start old new l is h e =
    e ∙ ap (λ z. z ++ pairs_with x ys) h ∙ append_assoc start (cell_pairs (take i xs) ys) (pairs_with x ys)
    ∙ ap (λ z. start ++ z) (sym taken)
  where
    at_end : cell_pairs (take i xs ++ x ∷ []) ys ≡ cell_pairs (take i xs) ys ++ pairs_with x ys
    at_end =
        ap joined (map-append (λ z. pairs_with z ys) (take i xs) (x ∷ [])) ∙ joined-append (map (λ z. pairs_with z ys) (take i xs)) (pairs_with x ys ∷ [])
        ∙ ap (λ z. cell_pairs (take i xs) ys ++ z) (append-nil (pairs_with x ys))

    taken : cell_pairs (take (i + 1) xs) ys ≡ cell_pairs (take i xs) ys ++ pairs_with x ys
    taken =
        ap (λ n. cell_pairs (take n xs) ys) (let q : i + 1 ≡ suc i = omega arith in q)
        ∙ ap (λ z. cell_pairs z ys) (take-suc xs i x l ∙ ap (λ z. take i xs ++ z ∷ []) (sym is)) ∙ at_end

-- ---- cells of the table, two at a time

module _ (cells : List CellValue) (i : ℕ) where
  -- the two cells of the table at a place
  pub held-more : (v w : CellValue) (old new : List SmallCell) → i < length cells / 2 → v ≡ get_or cells (2 * i) v → w ≡ get_or cells (2 * i + 1) w
      → old ++ pairs_held (drop (2 * i) cells) ≡ pairs_held cells → new ≡ old ++ cell_pairs (cells_held v.outcome) (cells_held w.outcome)
      → new ++ pairs_held (drop (2 * (i + 1)) cells) ≡ pairs_held cells
  held-more v w old new l e f h g =
      ap (λ z. z ++ pairs_held (drop (2 * (i + 1)) cells)) g
      ∙ append_assoc old (cell_pairs (cells_held v.outcome) (cells_held w.outcome)) (pairs_held (drop (2 * (i + 1)) cells))
      ∙ sym (ap (λ z. old ++ pairs_held z) two) ∙ h
    where
      two : drop (2 * i) cells ≡ v ∷ (w ∷ drop (2 * (i + 1)) cells)
      two =
          drop-cons cells (2 * i) v (let q : 2 * i < length cells = omega arith in q) ∙ ap (λ z. z ∷ drop (suc (2 * i)) cells) (sym e)
          ∙ ap (λ n. v ∷ drop n cells) (let q : suc (2 * i) ≡ 2 * i + 1 = omega arith in q)
          ∙ ap (λ z. v ∷ z)
          (drop-cons cells (2 * i + 1) w (let q : 2 * i + 1 < length cells = omega arith in q) ∙ ap (λ z. z ∷ drop (suc (2 * i + 1)) cells) (sym f)
          ∙ ap (λ n. w ∷ drop n cells) (let q : suc (2 * i + 1) ≡ 2 * (i + 1) = omega arith in q))

  -- at most one is left
  pub held-all : (pairs : List SmallCell) → length cells / 2 ≤ i → pairs ++ pairs_held (drop (2 * i) cells) ≡ pairs_held cells → pairs ≡ pairs_held cells
  held-all pairs l h = sym (append-nil pairs) ∙ sym (ap (λ z. pairs ++ z) (by (drop (2 * i) cells) short)) ∙ h
    where
      short : length (drop (2 * i) cells) ≤ 1
      short = omega (arith, length-drop (2 * i) cells)

      by : (vs : List CellValue) → length vs ≤ 1 → pairs_held vs ≡ []
      by [] s = refl
      by (v ∷ []) s = refl
      by (v ∷ (w ∷ vs)) s = absurd (omega (arith, s))
