-- Tensor products of chains, of complexes and of reductions (Rubio and Sergeraert, Constructive Homological Algebra and Applications,
-- chapter 2; Eilenberg and Mac Lane, On the groups H(Pi, n) I, 1953).
--
-- The generators of degree n are the pairs of two generators whose degrees add up to n, and
--
--   d(x (x) y) = d(x) (x) y + (-1)^deg(x) x (x) d(y), f = f1 (x) f2, g = g1 (x) g2,
--   h(x (x) y) = h1(x) (x) y + (-1)^deg(x) g1(f1(x)) (x) h2(y).
--
-- Over F_3, for an edge a and its end b with d(a) = b on both sides: d(a (x) a) = b (x) a + 2 a (x) b.
use Rattle.std.specs.Prelude.{◌≡◌, ℕ, ◌+◌, ◌*◌, ◌&&◌, [], ◌∷◌, ◌++◌, map}
use Rattle.fp_field.specs.Field.{sign}
use Rattle.fp_field.specs.Chains.{Terms, scale}
use Rattle.fp_field.specs.Reduction.{Complex, Maps, one, after}

-- a type of pairs: how a pair is made, and its two parts
pub record Pairs (X Y T : Type 0) : Type 0 where
  pub pair : X → Y → T
  pub left : T → X
  pub right : T → Y

abbrev pub plain : {X Y : Type 0} → Pairs X Y (X × Y)
plain = record { pair = λ x y. (x, y); left = λ z. z.0; right = λ z. z.1 }

module _ {X Y T : Type 0} (P : Pairs X Y T) where
  -- the product of two chains
  abbrev pub product_in : Terms X → Terms Y → Terms T
  product_in [] e = []
  product_in (t ∷ c) e = map (λ u. (P.pair t.0 u.0, t.1 * u.1)) e ++ product_in c e

  -- The product of two complexes, where `degree` is that of the generators on the left.
  abbrev pub complex_in : ℕ → (X → ℕ) → Complex X → Complex Y → Complex T
  complex_in p degree C D = record {
    generator = λ n z. (i : ℕ) × (j : ℕ) × C.generator i (P.left z) × D.generator j (P.right z) × (i + j ≡ n);
    same = λ z w. C.same (P.left z) (P.left w) && D.same (P.right z) (P.right w);
    d = λ z. product_in (C.d (P.left z)) (one (P.right z)) ++ scale (sign p (degree (P.left z))) (product_in (one (P.left z)) (D.d (P.right z)));
  }

-- The product of two reductions, where `degree` and `small_degree` are those of the generators on the left.
abbrev pub tensor_in : {A1 A2 S1 S2 A S : Type 0} → Pairs A1 A2 A → Pairs S1 S2 S → ℕ → (A1 → ℕ) → (S1 → ℕ) → Maps A1 S1 → Maps A2 S2 → Maps A S
tensor_in P Q p degree small_degree m n = record {
  big = complex_in P p degree m.big n.big;
  small = complex_in Q p small_degree m.small n.small;
  f = λ z. product_in Q (m.f (P.left z)) (n.f (P.right z));
  g = λ y. product_in P (m.g (Q.left y)) (n.g (Q.right y));
  h = λ z. product_in P (m.h (P.left z)) (one (P.right z)) ++ scale (sign p (degree (P.left z))) (product_in P (after m.g m.f (P.left z)) (n.h (P.right z)));
}

-- the same on pairs of keys
abbrev pub product_terms : {X Y : Type 0} → Terms X → Terms Y → Terms (X × Y)
product_terms c e = product_in plain c e

abbrev pub product_complex : {X Y : Type 0} → ℕ → (X → ℕ) → Complex X → Complex Y → Complex (X × Y)
product_complex p degree C D = complex_in plain p degree C D

abbrev pub tensor : {A1 A2 S1 S2 : Type 0} → ℕ → (A1 → ℕ) → (S1 → ℕ) → Maps A1 S1 → Maps A2 S2 → Maps (A1 × A2) (S1 × S2)
tensor p degree small_degree m n = tensor_in plain plain p degree small_degree m n
