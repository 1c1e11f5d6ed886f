-- The common places of two masks, and what is stripped of each, are the form of the pair of their words.
use Rattle.std.proofs.Common.{◌≡◌, ℕ, ◌&&◌, sym, ◌∙◌, ap, subst}
use Rattle.simp_ops.specs.Words.{compose_words}
use Rattle.simp_ops.specs.Bits.{bit, mask_word}
use Rattle.simp_ops.proofs.PlacesOf.{places_same, places_word}
use Rattle.simp_ops.specs.PairForms.{PairForm, IsPairForm}
use Rattle.simp_ops.proofs.MaskWords.{has-places}
use Rattle.simp_ops.proofs.Squeezed.{pair_forms, common_is, meet, compose_once}

module _ (a b c r s : ℕ) (e : (k : ℕ) → bit c k ≡ bit a k && bit b k)
    (left : compose_words (mask_word c) (mask_word r) ≡ mask_word a) (right : compose_words (mask_word c) (mask_word s) ≡ mask_word b) where
  abbrev form : PairForm
  form = record { common = mask_word c; left = mask_word r; right = mask_word s }

  pub split_form : IsPairForm 32 form
  split_form =
      let made = (pair_forms 32).onto (mask_word a) (mask_word b) (places_word 32 (bit a)) (places_word 32 (bit b)) in
      let f : PairForm = made.0 in
      let g : f.common ≡ mask_word c =
      sym (common_is 32 f (mask_word a) (mask_word b) made.1 made.2)
      ∙ places_same 32 (meet (mask_word a) (mask_word b)) (bit c) (λ k h. (λ i. has-places 32 k (bit a) h i && has-places 32 k (bit b) h i) ∙ sym (e k)) in
      let l : f.left ≡ mask_word r = compose_once (mask_word c) f.left (mask_word r) (ap (λ w. compose_words w f.left) (sym g) ∙ made.2.left ∙ sym left) in
      let m : f.right ≡ mask_word s = compose_once (mask_word c) f.right (mask_word s) (ap (λ w. compose_words w f.right) (sym g) ∙ made.2.right ∙ sym right) in
      let t : f ≡ form = λ i. record { common = g i; left = l i; right = m i } in
      subst (IsPairForm 32) t made.1
