-- Values of the definitions, small enough to compute.
use Rattle.std.proofs.Common.{◌≡◌, true, [], ◌∷◌, refl}
use Rattle.echelons.specs.Echelon.{reduced_basis, complement, in_span, in_kernel, in_null_space, remainder}

span_basis : reduced_basis 3 2 (in_span 3 2 ((2 ∷ (1 ∷ [])) ∷ ((1 ∷ (2 ∷ [])) ∷ []))) ≡ (1 ∷ (2 ∷ [])) ∷ []
span_basis = refl

complement_basis : complement 3 2 (λ v. true) (in_span 3 2 ((1 ∷ (2 ∷ [])) ∷ [])) ≡ (0 ∷ (1 ∷ [])) ∷ []
complement_basis = refl

kernel_basis : reduced_basis 3 2 (in_kernel 3 1 ((1 ∷ []) ∷ ((1 ∷ []) ∷ []))) ≡ (1 ∷ (2 ∷ [])) ∷ []
kernel_basis = refl

null_space_basis : reduced_basis 3 2 (in_null_space 3 ((1 ∷ (1 ∷ [])) ∷ [])) ≡ (1 ∷ (2 ∷ [])) ∷ []
null_space_basis = refl

left_over : remainder 3 2 ((1 ∷ (2 ∷ [])) ∷ []) (0 ∷ (1 ∷ [])) ≡ 0 ∷ (1 ∷ [])
left_over = refl
