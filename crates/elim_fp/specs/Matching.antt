-- The elements of a list that are matched with none of another, where the keys rise in both lists and each key of the second
-- is one of the first: the two lists are walked side by side.
--
--   of the keys 1, 3, 4 those matched with none of 3 are 1 and 4
use Rattle.std.specs.Prelude.{ℕ, List, [], ◌∷◌, cond, nat_eq}
use Rattle.echelons.specs.Echelon.{lead}
use Rattle.elim_fp.specs.Rows.{DenseRow}

abbrev pub unmatched : {A : Type 0} → (A → ℕ) → List A → List A → List A
unmatched key [] ys = []
unmatched key (x ∷ xs) [] = x ∷ unmatched key xs []
unmatched key (x ∷ xs) (y ∷ ys) = cond (nat_eq (key x) (key y)) (unmatched key xs ys) (x ∷ unmatched key xs (y ∷ ys))

-- the leading place of a row
abbrev pub row_lead : DenseRow → ℕ
row_lead r = lead r.values
