-- The difference is asked for with spaces, values and a prime that equal those of the parts.
use Rattle.std.proofs.Common.{◌≡◌, ℕ, ◌≤◌, ◌^◌, List, Option, ℤ, sym, subst}
use Rattle.fp_field.specs.declared.prime.Prime.{Prime}
use Rattle.fp_field.specs.Field.{number}
use Rattle.fp_field.specs.Chains.{Terms, Each}
use Rattle.std.specs.Option.{option_copied}
use Rattle.term_lang.specs.SpaceOf.{space_of}
use Rattle.twist_chains.specs.declared.fibred.Fibred.{Fibred}
use Rattle.fibred_asks.specs.declared.maps.Maps.{Maps}
use Rattle.fibred_asks.specs.Asked.{prime_of, base_of, fibre_of, values_of, HasTwist, IsTensorIn}
use Rattle.spaces.specs.Spaces.{Space}
use Rattle.cells.specs.declared.cells.Cell.{Cell}
use Rattle.tensor_red.specs.declared.tensors.Tensor.{Tensor}
use Rattle.twist_chains.specs.Fibred.{AreTwistValues, room, IsTensorWithin, difference_of}

-- base, fibre, values, prime and reach
abbrev pub Call : Type 0
Call = Space × Space × Option (List ℤ) × Prime × ℕ

abbrev pub CallTensors : ℕ → Terms (Tensor Cell Cell) → Call → Type 0
CallTensors n c z = Each (IsTensorWithin z.0 z.1 z.4 n) c

module _ (m : Maps) (most : ℕ) (f : Fibred) (left : f.pair.left.term.now ≡ m.base.now.term) (right : f.pair.right.term.now ≡ m.fibre.now.term)
    (values : f.values ≡ m.values) (prime : f.p ≡ prime_of m) (reach : f.pair.most ≡ most) where
  abbrev made : Call
  made = (space_of f.pair.left.term.now, space_of f.pair.right.term.now, option_copied f.values, f.p, f.pair.most)

  abbrev own : Call
  own = (base_of m, fibre_of m, values_of m, prime_of m, most)

  same : made ≡ own
  same = λ i. (space_of (left i), space_of (right i), option_copied (values i), prime i, reach i)

  pub call-values : HasTwist m → AreTwistValues made.2 made.0 made.1
  call-values h = subst (λ (z : Call). AreTwistValues z.2 z.0 z.1) (sym same) h

  pub call-room : (n : ℕ) → room (values_of m) n most ≤ 2 ^ 40 → room made.2 n made.4 ≤ 2 ^ 40
  call-room n h = subst (λ (z : Call). room z.2 n z.4 ≤ 2 ^ 40) (sym same) h

  pub call-tensors : (n : ℕ) (c : Terms (Tensor Cell Cell)) → Each (IsTensorIn m most n) c → CallTensors n c made
  call-tensors n c h = subst (CallTensors n c) (sym same) h

  -- what it comes to
  pub call-terms : (n : ℕ) (c d : Terms (Tensor Cell Cell)) → d ≡ difference_of made.0 made.1 made.2 (number made.3) n c
      → d ≡ difference_of (base_of m) (fibre_of m) (values_of m) (number (prime_of m)) n c
  call-terms n c d h = subst (λ (z : Call). d ≡ difference_of z.0 z.1 z.2 (number z.3) n c) same h

  pub call-within : (n k : ℕ) (d : Terms (Tensor Cell Cell)) → Each (IsTensorWithin made.0 made.1 (room made.2 n made.4) k) d → Each (IsTensorIn m (room (values_of m) n most) k) d
  call-within n k d h = subst (λ (z : Call). Each (IsTensorWithin z.0 z.1 (room z.2 n z.4) k) d) same h
