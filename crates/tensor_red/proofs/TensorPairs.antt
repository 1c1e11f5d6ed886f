-- The tensors of the code are pairs of their parts, and the theorem on them.
use Rattle.std.proofs.Common.{◌≡◌, ℕ, ◌+◌, ◌<◌, ◌≤◌, Bool, true, refl, sym, ◌∙◌, arith}
use Rattle.std.specs.Ordering.{eq_by_cmp}
use Rattle.std.specs.declared.cmp.Ordering.{Ordering}
use Rattle.std.specs.declared.cmp.Ordering.TheVariants.{Equal}
use Rattle.fp_field.specs.Reduction.{Maps, IsReductionTo, IsReduction}
use Rattle.reduct_laws.proofs.Alike.{degrees_alike}
use Rattle.tensor_red.specs.Tensors.{tensors, tensor_maps}
use Rattle.tensor_red.proofs.PairKeys.{IsPairing}
use Rattle.tensor_red.proofs.TensorMeets.{tensor_in_meets}

pub tensor_pairs : {X Y : Type 0} → IsPairing (tensors {X = X} {Y = Y})
tensor_pairs = record { left_of = λ x y. refl; right_of = λ x y. refl; whole = λ z. refl }

-- keys that count as one have one degree
pub one_degree : {K : Type 0} (cmp : K → K → Ordering) → ((x y : K) → cmp x y ≡ Equal → x ≡ y) → (same : K → K → Bool) → ((x y : K) → same x y ≡ eq_by_cmp cmp x y)
    → (degree : K → ℕ) (x y : K) → same x y ≡ true → degree x ≡ degree y
one_degree cmp one_key same is degree x y e = degrees_alike cmp one_key degree x y (sym (is x y) ∙ e)

module _ (p : ℕ) (pos : 0 < p) {A1 A2 S1 S2 : Type 0} (m : Maps A1 S1) (n : Maps A2 S2) (degree : A1 → ℕ) (small_degree : S1 → ℕ)
    (alike : (x y : A1) → m.big.same x y ≡ true → degree x ≡ degree y) (small_alike : (x y : S1) → m.small.same x y ≡ true → small_degree x ≡ small_degree y)
    (graded : (k : ℕ) (x : A1) → m.big.generator k x → degree x ≡ k) (small_graded : (k : ℕ) (x : S1) → m.small.generator k x → small_degree x ≡ k) where
  pub tensors_meet : (N M L : ℕ) → N ≤ L + M → ((k : ℕ) (x : A1) → m.big.generator k x → L ≤ k) → ((k : ℕ) (x : S1) → m.small.generator k x → L ≤ k)
      → IsReductionTo p N m → IsReductionTo p M n → IsReductionTo p N (tensor_maps p degree small_degree m n)
  tensors_meet = tensor_in_meets p pos tensors tensors tensor_pairs tensor_pairs m n degree small_degree alike small_alike graded small_graded

  pub tensors_meet_whole : IsReduction p m → IsReduction p n → IsReduction p (tensor_maps p degree small_degree m n)
  tensors_meet_whole first second N = tensors_meet N N 0 (omega arith) (λ k x g. omega arith) (λ k x g. omega arith) (first N) (second N)
