-- Terms and the spaces that they name: each term is that of its space, so spaces of terms are named, and the parts of a named space are.
use Rattle.std.proofs.Common.{◌≡◌, ℕ, zero, suc, ◌+◌, ◌*◌, ◌/◌, ◌%◌, ◌^◌, ◌<◌, ◌==◌, List, [], ◌∷◌, map, refl, sym, ◌∙◌, ap, subst, arith, ℤ}
use Rattle.std.proofs.lemmas.Nat.{mod-pow-add}
use Rattle.std.proofs.lemmas.Nat.Bits.{bit_at-lt}
use Rattle.std.proofs.Math.Nat.{mod-eq_of_lt}
use Rattle.simp_ops.specs.Bits.{bit, places, mask_word}
use Rattle.simp_ops.proofs.PlacesOf.{places-zero, places-true, places-false}
use Rattle.simp_ops.specs.declared.degens.Degens.{Degens}
use Rattle.cells.proofs.OneKey.{degens_same}
use Rattle.spaces.specs.Tables.{Table}
use Rattle.spaces.specs.Spaces.{Space, table, sphere, product, suspension, kz1, bundle, loops, paths, kzm1, cyclic_bundle}
use Rattle.term_lang.specs.declared.tables.TableFace.{TableFace}
use Rattle.term_lang.specs.declared.tables.Row.{Row}
use Rattle.term_lang.specs.declared.terms.Term.{Term, roll-Term, map-Term, ind-Term}
use Rattle.term_lang.specs.declared.terms.Term.TheVariants.{Table as TableTerm, Product, Suspension, Bundle, Loop, Path, rolls-Table, rolls-Sphere, rolls-Product, rolls-Suspension, rolls-KZ1, rolls-Bundle, rolls-Loop, rolls-Path}
use Rattle.term_lang.specs.declared.terms.Term.TheOpen.{Term-F}
use Rattle.term_lang.specs.Quote.{degens_of}
use Rattle.term_lang.specs.Rows.{face_of, rows_of}
use Rattle.term_lang.specs.SpaceOf.{space_of}
use Rattle.term_lang.proofs.SpacesOfTerms.{space-Table, space-Sphere, space-Product, space-Suspension, space-KZ1, space-Bundle, space-Loop, space-Path}
use Rattle.oracle_iface.specs.Terms.{word_mask, face_back, row_back, term_of}
use Rattle.oracle_iface.specs.KeyLaws.{IsNamed}

-- ---- rows

-- the mask of the word of a mask: its bits below n
bits_of : (m n : ℕ) → word_mask (places n (bit m)) ≡ m % 2 ^ n
bits_of m zero = let e : 0 ≡ m % 1 = omega arith in ap word_mask (places-zero (bit m)) ∙ e
bits_of m (suc n) = by (m / 2 ^ n % 2) (bit_at-lt m n) refl (bits_of m n)
  where
    more : m % 2 ^ (suc n) ≡ (m / 2 ^ n % 2) * 2 ^ n + m % 2 ^ n
    more = let e : suc n ≡ 1 + n = omega arith in ap (λ k. m % 2 ^ k) e ∙ mod-pow-add m 1 n

    by : (b : ℕ) → b < 2 → m / 2 ^ n % 2 ≡ b → word_mask (places n (bit m)) ≡ m % 2 ^ n → word_mask (places (suc n) (bit m)) ≡ m % 2 ^ (suc n)
    by zero h e r =
        let s : m % 2 ^ n ≡ m % 2 ^ (suc n) = omega (arith, more, e, ap (λ k. k * 2 ^ n) e) in
        ap word_mask (places-false n (bit m) (ap (λ k. k == 1) e)) ∙ r ∙ s
    by (suc zero) h e r =
        let s : 2 ^ n + m % 2 ^ n ≡ m % 2 ^ (suc n) = omega (arith, more, e, ap (λ k. k * 2 ^ n) e) in
        ap word_mask (places-true n (bit m) (ap (λ k. k == 1) e)) ∙ ap (λ k. 2 ^ n + k) r ∙ s
    by (suc (suc b)) h e r = absurd (omega arith)

pub word_mask-back : (m : ℕ) → m < 2 ^ 32 → word_mask (mask_word m) ≡ m
word_mask-back m h = bits_of m 32 ∙ mod-eq_of_lt h

degens-back : (d : Degens) → degens_of (word_mask (mask_word d.mask)) ≡ d
degens-back d = degens_same (degens_of (word_mask (mask_word d.mask))) d (ap (λ k. k % 2 ^ 32) (word_mask-back d.mask d.below_32) ∙ mod-eq_of_lt d.below_32)

face-back : (f : TableFace) → face_back (face_of f) ≡ f
face-back f = λ i. record { degens = degens-back f.degens i; row = f.row }

faces-back : (fs : List TableFace) → map face_back (map face_of fs) ≡ fs
faces-back [] = refl
faces-back (f ∷ fs) = λ i. face-back f i ∷ faces-back fs i

pub rows-back : (rows : List Row) → map row_back (rows_of rows) ≡ rows
rows-back [] = refl
rows-back (r ∷ rows) = λ i. record { name = r.name; dim = r.dim; faces = faces-back r.faces i } ∷ rows-back rows i

-- ---- terms

abbrev IsBack : Term → Type 0
IsBack t = term_of (space_of t) ≡ t

level : (S : Type 0) (f : S → Term) → ((s : S) → IsBack (f s)) → (y : Term-F S) → IsBack (roll-Term (map-Term S Term f y))
level S f back (Term-F.Table rows) = subst IsBack (sym (rolls-Table rows)) (ap term_of (space-Table rows) ∙ ap TableTerm (rows-back rows))
level S f back (Term-F.Sphere m) = subst IsBack (sym (rolls-Sphere m)) (ap term_of (space-Sphere m))
level S f back (Term-F.Product a b) =
    subst IsBack (sym (rolls-Product (f a) (f b))) (ap term_of (space-Product (f a) (f b)) ∙ (λ i. Product (back a i) (back b i)))
level S f back (Term-F.Suspension a) = subst IsBack (sym (rolls-Suspension (f a))) (ap term_of (space-Suspension (f a)) ∙ ap Suspension (back a))
level S f back Term-F.KZ1 = subst IsBack (sym rolls-KZ1) (ap term_of space-KZ1)
level S f back (Term-F.Bundle rows c) =
    subst IsBack (sym (rolls-Bundle rows c)) (ap term_of (space-Bundle rows c) ∙ ap (λ r. Bundle r c) (rows-back rows))
level S f back (Term-F.Loop a) = subst IsBack (sym (rolls-Loop (f a))) (ap term_of (space-Loop (f a)) ∙ ap Loop (back a))
level S f back (Term-F.Path a) = subst IsBack (sym (rolls-Path (f a))) (ap term_of (space-Path (f a)) ∙ ap Path (back a))

pub term-back : (t : Term) → term_of (space_of t) ≡ t
term-back t = ind-Term IsBack (λ x y e. subst (λ z. IsBack (roll-Term z)) e (level _ (λ s. s.0) (λ s. s.1) y)) t

-- the space of a term is named
pub named-space : (t : Term) → IsNamed (space_of t)
named-space t = ap space_of (term-back t)

pub named-of : (a : Space) (t : Term) → a ≡ space_of t → IsNamed a
named-of a t e = subst IsNamed (sym e) (named-space t)

-- ---- parts of named spaces

pub named-sphere : (m : ℕ) → IsNamed (sphere m)
named-sphere m = space-Sphere m

pub named-kz1 : IsNamed kz1
named-kz1 = space-KZ1

abbrev rows_again : Table → Table
rows_again t = rows_of (map row_back t)

pub product-parts : (a b : Space) → IsNamed (product a b) → IsNamed a × IsNamed b
product-parts a b e =
    let s : product (space_of (term_of a)) (space_of (term_of b)) ≡ product a b = sym (space-Product (term_of a) (term_of b)) ∙ e in
    let l : space_of (term_of a) ≡ a = cc in
    let r : space_of (term_of b) ≡ b = cc in
    (l, r)

pub named-product : (a b : Space) → IsNamed a → IsNamed b → IsNamed (product a b)
named-product a b l r = space-Product (term_of a) (term_of b) ∙ (λ i. product (l i) (r i))

pub suspension-part : (a : Space) → IsNamed (suspension a) → IsNamed a
suspension-part a e = let s : suspension (space_of (term_of a)) ≡ suspension a = sym (space-Suspension (term_of a)) ∙ e in let l : space_of (term_of a) ≡ a = cc in l

pub named-suspension : (a : Space) → IsNamed a → IsNamed (suspension a)
named-suspension a l = space-Suspension (term_of a) ∙ ap suspension l

pub loops-part : (a : Space) → IsNamed (loops a) → IsNamed a
loops-part a e = let s : loops (space_of (term_of a)) ≡ loops a = sym (space-Loop (term_of a)) ∙ e in let l : space_of (term_of a) ≡ a = cc in l

pub named-loops : (a : Space) → IsNamed a → IsNamed (loops a)
named-loops a l = space-Loop (term_of a) ∙ ap loops l

pub paths-part : (a : Space) → IsNamed (paths a) → IsNamed a
paths-part a e = let s : paths (space_of (term_of a)) ≡ paths a = sym (space-Path (term_of a)) ∙ e in let l : space_of (term_of a) ≡ a = cc in l

pub named-paths : (a : Space) → IsNamed a → IsNamed (paths a)
named-paths a l = space-Path (term_of a) ∙ ap paths l

pub table-rows : (t : Table) → IsNamed (table t) → rows_again t ≡ t
table-rows t e = let s : table (rows_again t) ≡ table t = sym (space-Table (map row_back t)) ∙ e in let l : rows_again t ≡ t = cc in l

pub named-table : (t : Table) → rows_again t ≡ t → IsNamed (table t)
named-table t e = space-Table (map row_back t) ∙ ap table e

pub bundle-base : (t : Table) (c : List ℤ) → IsNamed (bundle t c) → IsNamed (table t)
bundle-base t c e =
    let s : bundle (rows_again t) c ≡ bundle t c = sym (space-Bundle (map row_back t) c) ∙ e in
    let l : rows_again t ≡ t = cc in
    named-table t l

pub named-bundle : (t : Table) (c : List ℤ) → IsNamed (table t) → IsNamed (bundle t c)
named-bundle t c e = space-Bundle (map row_back t) c ∙ ap (λ r. bundle r c) (table-rows t e)

-- ---- what no term names

pub residues-unnamed : (m : ℕ) → IsNamed (kzm1 m) → ⊥
residues-unnamed m e = let s : kz1 ≡ kzm1 m = sym space-KZ1 ∙ e in cc

pub cyclic-unnamed : (t : Table) (m : ℕ) (c : List ℕ) → IsNamed (cyclic_bundle t m c) → ⊥
cyclic-unnamed t m c e = let s : kz1 ≡ cyclic_bundle t m c = sym space-KZ1 ∙ e in cc
