-- Lists of rows, reversed.
use Rattle.std.proofs.Common.{◌≡◌, suc, ◌+◌, List, [], ◌∷◌, ◌++◌, length, reverse, refl, sym, ◌∙◌, ap, arith}
use Rattle.std.proofs.lemmas.List.{length-reverse, reverse-append, map-append, length-map}
use Rattle.std.proofs.lemmas.Grind.{reverse_onto}
use Rattle.elim_fp.specs.Rows.{DenseRow, vectors_of}

vectors-reverse : (rows : List DenseRow) → vectors_of (reverse rows) ≡ reverse (vectors_of rows)
vectors-reverse [] = refl
vectors-reverse (r ∷ rows) =
    ap vectors_of (reverse_onto rows r []) ∙ map-append (λ (x : DenseRow). x.values) (reverse rows) (r ∷ []) ∙ ap (λ x. x ++ r.values ∷ []) (vectors-reverse rows)
    ∙ sym (reverse_onto (vectors_of rows) r.values [])

pub reversed-vectors : (rows : List DenseRow) (r : DenseRow) → vectors_of (reverse (rows ++ r ∷ [])) ≡ r.values ∷ reverse (vectors_of rows)
reversed-vectors rows r = ap vectors_of (reverse-append rows (r ∷ [])) ∙ ap (λ x. r.values ∷ x) (vectors-reverse rows)

pub reversed-count : (rows : List DenseRow) (r : DenseRow) → length (r.values ∷ reverse (vectors_of rows)) ≡ length rows + 1
reversed-count rows r = ap suc (length-reverse (vectors_of rows) ∙ length-map rows (λ (x : DenseRow). x.values)) ∙ (let q : suc (length rows) ≡ length rows + 1 = omega arith in q)
