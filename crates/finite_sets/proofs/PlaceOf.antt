-- The first row of a name, and a map from names to places.
use Rattle.std.proofs.Common.{◌≡◌, ℕ, zero, suc, ◌<◌, ◌≤◌, ◌⊎◌, inl, inr, Bool, true, false, cond, nat_eq, List, [], ◌∷◌, length, Some, None, refl, sym, ◌∙◌, ap, arith, is_some, true≢false}
use Rattle.std.specs.Ordering.{is_eq, nat_cmp}
use Rattle.std.specs.Cmp.Lexicographic.{pointwise, slice_cmp}
use Rattle.std.proofs.lemmas.Slice.Eq.{bytes_eq-Decides}
use Rattle.std.proofs.lemmas.Map.Text.{is_eq-slice_cmp}
use Rattle.std.proofs.lemmas.Bool.{cases_lt, cases_order}
use Rattle.std.proofs.lemmas.Bool.Decides.{Decides-ltb}
use Rattle.simp_ops.proofs.PlacesOf.{is_lt, not_lt}
use Rattle.term_lang.specs.declared.texts.RowText.{RowText}
use Rattle.finite_sets.specs.Meaning.{place_of, text_at}
use Rattle.finite_sets.specs.Faults.{is_before}
use Rattle.finite_sets.specs.Progress.{place_before}

pub place-named : (rows : List RowText) (name : List ℕ) → place_of rows name < length rows → (text_at rows (place_of rows name)).name ≡ name
place-named [] name h = absurd (omega arith)
place-named (row ∷ rows) name h = by (pointwise nat_eq row.name name) refl (place-named rows name) h
  where
    by : (b : Bool) → pointwise nat_eq row.name name ≡ b → (place_of rows name < length rows → (text_at rows (place_of rows name)).name ≡ name)
        → cond b 0 (suc (place_of rows name)) < suc (length rows) → (text_at (row ∷ rows) (cond b 0 (suc (place_of rows name)))).name ≡ name
    by true e r h = (bytes_eq-Decides row.name name).0 e
    by false e r h = r (omega arith)

pub place-least : (rows : List RowText) (name : List ℕ) (s : ℕ) → s < length rows → (text_at rows s).name ≡ name → place_of rows name ≤ s
place-least [] name s h e = absurd (omega arith)
place-least (row ∷ rows) name zero h e =
    let z : place_of (row ∷ rows) name ≡ 0 = ap (λ b. cond b 0 (suc (place_of rows name))) ((bytes_eq-Decides row.name name).1 e) in omega (arith, z)
place-least (row ∷ rows) name (suc s) h e = by (pointwise nat_eq row.name name) (place-least rows name s (omega arith) e)
  where
    by : (b : Bool) → place_of rows name ≤ s → cond b 0 (suc (place_of rows name)) ≤ suc s
    by true l = omega arith
    by false l = omega arith

-- a row that no earlier row has the name of is the first with its name
pub place-own : (rows : List RowText) (r : ℕ) → r < length rows → r ≤ place_of rows (text_at rows r).name → place_of rows (text_at rows r).name ≡ r
place-own rows r h l = let m = place-least rows (text_at rows r).name r h refl in omega (arith, m)

-- the row at place r joins those before it
pub place_before-more : (rows : List RowText) (r : ℕ) → r < length rows → r ≤ place_of rows (text_at rows r).name → (name : List ℕ)
    → place_before rows (suc r) name ≡ cond (is_eq (slice_cmp nat_cmp (text_at rows r).name name)) (Some r) (place_before rows r name)
place_before-more rows r h l name =
    by (pointwise nat_eq (text_at rows r).name name) refl (cases_order (place_of rows name) r)
    ∙ ap (λ b. cond b (Some r) (place_before rows r name)) (sym (is_eq-slice_cmp (text_at rows r).name name))
  where
    by : (b : Bool) → pointwise nat_eq (text_at rows r).name name ≡ b → (place_of rows name ≡ r) ⊎ ((place_of rows name < r) ⊎ (r < place_of rows name))
        → place_before rows (suc r) name ≡ cond b (Some r) (place_before rows r name)
    by true e c =
        let q : place_of rows name ≡ r = ap (place_of rows) (sym ((bytes_eq-Decides (text_at rows r).name name).0 e)) ∙ place-own rows r h l in
        ap (λ b. cond b (Some (place_of rows name)) None) (is_lt (place_of rows name) (suc r) (omega (arith, q))) ∙ ap Some q
    by false e (inl c) =
        let n : (text_at rows r).name ≡ name = ap (λ k. (text_at rows k).name) (sym c) ∙ place-named rows name (omega (arith, c)) in
        let t : true ≡ false = sym ((bytes_eq-Decides (text_at rows r).name name).1 n) ∙ e in cc
    by false e (inr (inl c)) =
        ap (λ b. cond b (Some (place_of rows name)) None) (is_lt (place_of rows name) (suc r) (omega arith) ∙ sym (is_lt (place_of rows name) r c))
    by false e (inr (inr c)) =
        ap (λ b. cond b (Some (place_of rows name)) None) (not_lt (place_of rows name) (suc r) (omega arith) ∙ sym (not_lt (place_of rows name) r (omega arith)))

-- what `contains_key` says
some_cond : {A : Type 0} (b : Bool) (x : A) → is_some (cond b (Some x) None) ≡ b
some_cond true x = refl
some_cond false x = refl

pub some-place : (rows : List RowText) (r : ℕ) (name : List ℕ) → is_some (place_before rows r name) ≡ is_before rows r name
some-place rows r name = some_cond (is_before rows r name) (place_of rows name)

pub earlier_told : (rows : List RowText) (r : ℕ) (name : List ℕ) → is_before rows r name ≡ true → place_of rows name < r
earlier_told rows r name e = (Decides-ltb (place_of rows name) r).0 e

pub fresh_told : (rows : List RowText) (r : ℕ) (name : List ℕ) → is_before rows r name ≡ false → r ≤ place_of rows name
fresh_told rows r name e = by (cases_lt (place_of rows name) r)
  where
    by : (place_of rows name < r) ⊎ (r ≤ place_of rows name) → r ≤ place_of rows name
    by (inl l) = absurd (true≢false (sym (is_lt (place_of rows name) r l) ∙ e))
    by (inr l) = l
