-- Combinations over a reversed list.
use Rattle.std.proofs.Common.{◌≡◌, ℕ, ◌+◌, ◌*◌, ◌-◌, ◌%◌, ◌<◌, List, [], ◌∷◌, ◌++◌, map, length, reverse, refl, sym, ◌∙◌, ap, arith}
use Rattle.std.specs.List.{AllByRecursion as Each}
use Rattle.std.proofs.lemmas.List.{length-reverse, reverse-reverse}
use Rattle.std.proofs.lemmas.Grind.{reverse_onto}
use Rattle.fp_field.specs.Field.{SameMod, minus}
use Rattle.fp_field.proofs.Mod.{same-plus, same-times}
use Rattle.echelons.specs.Echelon.{Vector, at_place}
use Rattle.echelons.proofs.Vectors.{weight}
use Rattle.elim_fp.proofs.Left.{minus-same}

pub weight-both : (cs ds : List ℕ) (us vs : List Vector) (j : ℕ) → length cs ≡ length us → weight (cs ++ ds) (us ++ vs) j ≡ weight cs us j + weight ds vs j
weight-both [] ds [] vs j e = (let q : weight ds vs j ≡ 0 + weight ds vs j = omega arith in q)
weight-both [] ds (u ∷ us) vs j e = absurd (omega (arith, e))
weight-both (c ∷ cs) ds [] vs j e = absurd (omega (arith, e))
weight-both (c ∷ cs) ds (u ∷ us) vs j e = omega (arith, weight-both cs ds us vs j (omega (arith, e)))

pub weight-reverse : (cs : List ℕ) (us : List Vector) (j : ℕ) → length cs ≡ length us → weight (reverse cs) (reverse us) j ≡ weight cs us j
weight-reverse [] [] j e = refl
weight-reverse [] (u ∷ us) j e = absurd (omega (arith, e))
weight-reverse (c ∷ cs) [] j e = absurd (omega (arith, e))
weight-reverse (c ∷ cs) (u ∷ us) j e =
    (λ i. weight (reverse_onto cs c [] i) (reverse_onto us u [] i) j)
    ∙ weight-both (reverse cs) (c ∷ []) (reverse us) (u ∷ []) j (length-reverse cs ∙ (let q : length cs ≡ length us = omega (arith, e) in q) ∙ sym (length-reverse us))
    ∙ (let r : weight (reverse cs) (reverse us) j ≡ weight cs us j = weight-reverse cs us j (omega (arith, e)) in
    let q : weight (reverse cs) (reverse us) j + (c * at_place u j + 0) ≡ c * at_place u j + weight cs us j = omega (arith, r) in q)

-- a list on one side, and the other one reversed
pub weight-turned : (cs : List ℕ) (us : List Vector) (j : ℕ) → length cs ≡ length us → weight cs (reverse us) j ≡ weight (reverse cs) us j
weight-turned cs us j e = ap (λ x. weight x (reverse us) j) (sym (reverse-reverse cs)) ∙ weight-reverse (reverse cs) us j (length-reverse cs ∙ e)

-- the other signs
pub weight-minus : (p : ℕ) → 0 < p → (cs : List ℕ) (us : List Vector) (j : ℕ) → Each (λ a. a < p) cs → SameMod p (weight (map (minus p) cs) us j) ((p - 1) * weight cs us j)
weight-minus p pos [] us j h = ap (λ n. n % p) (let q : 0 ≡ (p - 1) * 0 = omega arith in q)
weight-minus p pos (c ∷ cs) [] j h = ap (λ n. n % p) (let q : 0 ≡ (p - 1) * 0 = omega arith in q)
weight-minus p pos (c ∷ cs) (u ∷ us) j h =
    same-plus p (minus p c * at_place u j) ((p - 1) * c * at_place u j) (weight (map (minus p) cs) us j) ((p - 1) * weight cs us j)
    (ap (λ n. n % p) (let q : minus p c * at_place u j ≡ at_place u j * minus p c = omega arith in q)
    ∙ same-times p (at_place u j) (minus p c) ((p - 1) * c) (minus-same p 0 pos c h.0)
    ∙ ap (λ n. n % p) (turn (p - 1) c (at_place u j)))
    (weight-minus p pos cs us j h.1)
    ∙ ap (λ n. n % p) (sum (p - 1) c (at_place u j) (weight cs us j))
  where
    turn : (k c z : ℕ) → z * (k * c) ≡ k * c * z
    turn k c z = omega arith

    sum : (k c z x : ℕ) → k * c * z + k * x ≡ k * (c * z + x)
    sum k c z x = omega arith
