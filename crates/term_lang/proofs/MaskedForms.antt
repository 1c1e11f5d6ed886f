-- Masks of any size before the rows of a table are one to one onto its simplices.
use Rattle.std.proofs.Common.{◌≡◌, ℕ, ◌+◌, ◌<◌, ◌≤◌, true, List, [], ◌∷◌, length, refl, sym, ◌∙◌, ap, arith, ◌⊎◌, inl, inr, true≢false}
use Rattle.std.proofs.lemmas.Bool.{cases_lt}
use Rattle.std.proofs.lemmas.Nat.{pow_pos}
use Rattle.simp_ops.specs.Bits.{bit, places}
use Rattle.simp_ops.proofs.PlacesOf.{places_word}
use Rattle.simp_ops.proofs.MaskWords.{mask_of, mask_of-lt, places-mask_of, places_told, places-none, length-places}
use Rattle.spaces.specs.Simplicial.{IsSimplicial, is_degenerate}
use Rattle.spaces.specs.Tables.{Table, RowSimplex, InTable, row_at, table_set}
use Rattle.spaces.proofs.TableDegenerate.{word-degenerate, row-not_degenerate}
use Rattle.term_lang.specs.NormalForms.{Masked, masked_form, IsMasked, HasMaskedForms}

module _ (t : Table) (laws : IsSimplicial (table_set t)) where
  -- a word that is not empty is degenerate, and only such a one
  pub degenerate_word : (n : ℕ) (w : List ℕ) (r : ℕ) → InTable t n (w, r) → (w ≡ [] → ⊥) → is_degenerate (table_set t) n (w, r) ≡ true
  degenerate_word n [] r is h = absurd (h refl)
  degenerate_word n (j ∷ w) r is h = word-degenerate t laws n j w r is

  pub word_of_degenerate : (n : ℕ) (w : List ℕ) (r : ℕ) → InTable t n (w, r) → is_degenerate (table_set t) n (w, r) ≡ true → w ≡ [] → ⊥
  word_of_degenerate n [] r is d e = true≢false (sym d ∙ row-not_degenerate t laws n r is)
  word_of_degenerate n (j ∷ w) r is d e = absurd (cc)

  in_table : (n : ℕ) (s : Masked) → IsMasked t n s → InTable t n (masked_form n s)
  in_table n s is = record {
    row = is.row;
    degree = ap (λ k. (row_at t s.row).dim + k) (length-places n (bit s.mask)) ∙ is.degree;
    word = places_word n (bit s.mask);
  }

  above : (n : ℕ) (s : Masked) → IsMasked t n s → is_degenerate (table_set t) n (masked_form n s) ≡ true → 0 < s.mask
  above n s is d = by (cases_lt 0 s.mask)
    where
      by : (0 < s.mask) ⊎ (s.mask ≤ 0) → 0 < s.mask
      by (inl h) = h
      by (inr h) =
          let z : s.mask ≡ 0 = omega arith in
          absurd (word_of_degenerate n (places n (bit s.mask)) s.row (in_table n s is) d (ap (λ m. places n (bit m)) z ∙ places-none n))

  pub masked_forms : (n : ℕ) → HasMaskedForms t n
  masked_forms n = record {
    simplex = in_table n;
    once = λ s r a b e i. record {
      mask = places_told n s.mask r.mask a.mask b.mask (ap (λ (x : RowSimplex). x.0) e) i;
      row = ap (λ (x : RowSimplex). x.1) e i;
    };
    onto = λ x is. (
      record { mask = mask_of x.0; row = x.1 },
      record {
        mask = mask_of-lt n x.0 is.word;
        row = is.row;
        degree = ap (λ k. (row_at t x.1).dim + k) (sym (length-places n (bit (mask_of x.0))) ∙ ap length (places-mask_of n x.0 is.word)) ∙ is.degree;
      },
      λ i. (places-mask_of n x.0 is.word i, x.1),
    );
    degenerate = λ s is. (
      above n s is,
      λ h. degenerate_word n (places n (bit s.mask)) s.row (in_table n s is)
          (λ e. let z : s.mask ≡ 0 = places_told n s.mask 0 is.mask (pow_pos n) (e ∙ sym (places-none n)) in omega arith),
    );
  }
