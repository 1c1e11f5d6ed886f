-- The order of tensors: by the left part and then the right part. Tensors that compare equal are one tensor, where that holds of the parts.
use Rattle.std.proofs.Common.{◌≡◌, ℕ, ◌+◌, Bool, ◌&&◌, refl, sym, ◌∙◌, ap, true≢false}
use Rattle.std.specs.Cmp.{IsTotalOrder}
use Rattle.std.proofs.lemmas.Cmp.{then_total, on_total}
use Rattle.std.specs.Ordering.{ordering_then, eq_by_cmp, is_eq}
use Rattle.std.specs.declared.cmp.Ordering.{Ordering}
use Rattle.std.specs.declared.cmp.Ordering.TheVariants.{Less, Equal, Greater}
use Rattle.tensor_red.specs.declared.tensors.Tensor.{Tensor}

first_equal : (o r : Ordering) → ordering_then o r ≡ Equal → o ≡ Equal
first_equal Less r e = absurd (true≢false (sym (ap is_eq e)))
first_equal Equal r e = refl
first_equal Greater r e = absurd (true≢false (sym (ap is_eq e)))

second_equal : (o r : Ordering) → ordering_then o r ≡ Equal → r ≡ Equal
second_equal Less r e = absurd (true≢false (sym (ap is_eq e)))
second_equal Equal r e = e
second_equal Greater r e = absurd (true≢false (sym (ap is_eq e)))

both_equal : (o r : Ordering) → (is_eq o && is_eq r) ≡ is_eq (ordering_then o r)
both_equal Less r = refl
both_equal Equal r = refl
both_equal Greater r = refl

abbrev pub tensor_cmp : {X Y : Type 0} → (X → X → Ordering) → (Y → Y → Ordering) → Tensor X Y → Tensor X Y → Ordering
tensor_cmp left right s t = ordering_then (left s.left t.left) (right s.right t.right)

module _ {X Y : Type 0} (left : X → X → Ordering) (right : Y → Y → Ordering) where
  pub one_tensor : ((x y : X) → left x y ≡ Equal → x ≡ y) → ((x y : Y) → right x y ≡ Equal → x ≡ y) → (s t : Tensor X Y) → tensor_cmp left right s t ≡ Equal → s ≡ t
  one_tensor l r s t e =
      let a = l s.left t.left (first_equal (left s.left t.left) (right s.right t.right) e) in
      let b = r s.right t.right (second_equal (left s.left t.left) (right s.right t.right) e) in
      λ i. record { left = a i; right = b i }

  pub tensor_total : IsTotalOrder left → IsTotalOrder right → IsTotalOrder (tensor_cmp left right)
  tensor_total l r = then_total (on_total (λ t. t.left) l) (on_total (λ t. t.right) r)

  -- the test for equal tensors
  pub same_tensor : (same : X → X → Bool) (same' : Y → Y → Bool) → ((x y : X) → same x y ≡ eq_by_cmp left x y) → ((x y : Y) → same' x y ≡ eq_by_cmp right x y)
      → (s t : Tensor X Y) → (same s.left t.left && same' s.right t.right) ≡ eq_by_cmp (tensor_cmp left right) s t
  same_tensor same same' l r s t = (λ i. l s.left t.left i && r s.right t.right i) ∙ both_equal (left s.left t.left) (right s.right t.right)

pub sum_graded : (a i b j n : ℕ) → a ≡ i → b ≡ j → i + j ≡ n → a + b ≡ n
sum_graded a i b j n e f g = (λ k. e k + f k) ∙ g
