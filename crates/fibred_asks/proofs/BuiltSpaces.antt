-- Spaces that are built: they are assembled, and the allowed ones are named, as the words of the faces of their tables have places below 32
-- and are kept by masks of the code.
use Rattle.std.proofs.Common.{◌≡◌, ℕ, zero, suc, ◌%◌, ◌^◌, ◌<◌, List, [], ◌∷◌, map, length, refl, sym, ◌∙◌, ap, arith}
use Rattle.std.proofs.Math.Nat.{mod-eq_of_lt}
use Rattle.simp_ops.specs.Bits.{mask_word}
use Rattle.simp_ops.specs.Words.{IsWord}
use Rattle.simp_ops.proofs.PlacesOf.{word_below}
use Rattle.simp_ops.proofs.MaskWords.{mask_of, mask_of-lt, places-mask_of}
use Rattle.spaces.specs.Tables.{Table, RowSimplex, entry, row_at, listed_face}
use Rattle.spaces.specs.Spaces.{Space, table, sphere, product, suspension, kz1, bundle, loops, paths, kzm1, cyclic_bundle}
use Rattle.spaces.specs.Allowed.{IsTable, Admits, face_count}
use Rattle.term_lang.specs.Rows.{face_of, row_of}
use Rattle.oracle_iface.specs.Terms.{word_mask, face_back, row_back}
use Rattle.oracle_iface.specs.KeyLaws.{IsNamed}
use Rattle.oracle_iface.proofs.Named.{word_mask-back, named-sphere, named-kz1, named-product, named-suspension, named-table, named-bundle}
use Rattle.normal_forms.specs.Built.{IsBuilt}
use Rattle.twist_laws.specs.Assembled.{IsAssembled}

pub built-assembled : (X : Space) → IsBuilt X → IsAssembled X
built-assembled (table t) built = tt
built-assembled (sphere m) built = tt
built-assembled (product a b) built = (built-assembled a built.0, built-assembled b built.1)
built-assembled (suspension a) built = built-assembled a built
built-assembled kz1 built = tt
built-assembled (bundle t c) built = tt
built-assembled (loops a) built = absurd built
built-assembled (paths a) built = absurd built
built-assembled (kzm1 m) built = absurd built
built-assembled (cyclic_bundle t m c) built = absurd built

-- ---- names

word-again : (w : List ℕ) → IsWord 32 w → mask_word (word_mask w % 2 ^ 32) ≡ w
word-again w is =
    let m : ℕ = mask_of w in
    let e : word_mask w ≡ m = ap word_mask (sym (places-mask_of 32 w is)) ∙ word_mask-back m (mask_of-lt 32 w is) in
    ap (λ k. mask_word (k % 2 ^ 32)) e ∙ ap mask_word (mod-eq_of_lt (mask_of-lt 32 w is)) ∙ places-mask_of 32 w is

faces-again : (fs : List RowSimplex) → ((i : ℕ) → i < length fs → IsWord 32 (entry ([], 0) fs i).0) → map face_of (map face_back fs) ≡ fs
faces-again [] words = refl
faces-again (x ∷ fs) words = λ j. (word-again x.0 (words 0 (omega arith)) j, x.1) ∷ faces-again fs (λ i l. words (suc i) (omega (arith, l))) j

rows-again : (t : Table) → ((r i : ℕ) → r < length t → i < length (row_at t r).faces → IsWord 32 (listed_face t i r).0) → map row_of (map row_back t) ≡ t
rows-again [] words = refl
rows-again (r ∷ t) words =
    λ j.
    record { name = r.name; dim = r.dim; faces = faces-again r.faces (λ i l. words 0 i (omega arith) l) j }
    ∷ rows-again t (λ s i l h. words (suc s) i (omega (arith, l)) h) j

listed-word : (t : Table) → IsTable t → (r i : ℕ) → r < length t → i < length (row_at t r).faces → IsWord 32 (listed_face t i r).0
listed-word t is r i l h = by (row_at t r).dim refl
  where
    by : (d : ℕ) → (row_at t r).dim ≡ d → IsWord 32 (listed_face t i r).0
    by zero e = let c : length (row_at t r).faces ≡ 0 = is.counted r l ∙ ap face_count e in absurd (omega (arith, h, c))
    by (suc n) e =
        let c : length (row_at t r).faces ≡ suc (suc n) = is.counted r l ∙ ap face_count e in
        word_below n 32 (listed_face t i r).0 (omega (arith, e, is.low r l)) (is.faces_in r n i l e (omega (arith, h, c))).word

named-rows : (t : Table) → IsTable t → IsNamed (table t)
named-rows t is = named-table t (rows-again t (listed-word t is))

pub built-named : (X : Space) → Admits X → IsBuilt X → IsNamed X
built-named (table t) is built = named-rows t is
built-named (sphere m) is built = named-sphere m
built-named (product a b) is built = named-product a b (built-named a is.0 built.0) (built-named b is.1 built.1)
built-named (suspension a) is built = named-suspension a (built-named a is.0 built)
built-named kz1 is built = named-kz1
built-named (bundle t c) is built = named-bundle t c (named-rows t is.0)
built-named (loops a) is built = absurd built
built-named (paths a) is built = absurd built
built-named (kzm1 m) is built = absurd built
built-named (cyclic_bundle t m c) is built = absurd built
