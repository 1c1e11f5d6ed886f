-- Chains with the same weights modulo p: sums, multiples, products and normal forms of them.
use Rattle.std.proofs.Common.{◌≡◌, ℕ, ◌*◌, ◌%◌, ◌++◌, refl, sym, ◌∙◌, ap, arith}
use Rattle.std.specs.declared.cmp.Ordering.{Ordering}
use Rattle.std.specs.declared.cmp.Ordering.TheVariants.{Equal}
use Rattle.std.specs.Cmp.{IsTotalOrder}
use Rattle.fp_field.specs.declared.prime.Prime.{Prime}
use Rattle.fp_field.specs.Field.{number, sign, SameMod}
use Rattle.fp_field.specs.Chains.{Terms, weigh, scale}
use Rattle.fp_field.specs.Normal.{normal}
use Rattle.fp_field.proofs.Mod.{same-plus, same-times}
use Rattle.fp_field.proofs.Primes.{number_pos}
use Rattle.fp_field.proofs.Weights.{weigh-append, weigh-scale, weigh-mod, Each-any}
use Rattle.fp_field.proofs.Normals.{weigh-normal, normal-same}
use Rattle.tensor_red.specs.Products.{Pairs, product_in}
use Rattle.tensor_red.proofs.Doubles.{weigh-product}

module _ (p : ℕ) where
  abbrev pub Alike : {K : Type 0} → Terms K → Terms K → Type 0
  Alike {K} c d = (w : K → ℕ) → SameMod p (weigh w c) (weigh w d)

  pub alike_sum : {K : Type 0} (a b c d : Terms K) → Alike a c → Alike b d → Alike (a ++ b) (c ++ d)
  alike_sum a b c d h g w =
      ap (λ n. n % p) (weigh-append w a b) ∙ same-plus p (weigh w a) (weigh w c) (weigh w b) (weigh w d) (h w) (g w) ∙ ap (λ n. n % p) (sym (weigh-append w c d))

  pub alike_multiple : {K : Type 0} (s t : ℕ) (a b : Terms K) → SameMod p s t → Alike a b → Alike (scale s a) (scale t b)
  alike_multiple s t a b e h w =
      ap (λ n. n % p) (weigh-scale w s a ∙ (let q : s * weigh w a ≡ weigh w a * s = omega arith in q))
      ∙ same-times p (weigh w a) s t e ∙ ap (λ n. n % p) (let q : weigh w a * t ≡ t * weigh w a = omega arith in q)
      ∙ same-times p t (weigh w a) (weigh w b) (h w) ∙ ap (λ n. n % p) (sym (weigh-scale w t b))

  pub alike_product : {X Y T : Type 0} (P : Pairs X Y T) (a c : Terms X) (b d : Terms Y) → Alike a c → Alike b d → Alike (product_in P a b) (product_in P c d)
  alike_product P a c b d h g w =
      ap (λ n. n % p) (weigh-product P w a b)
      ∙ weigh-mod (λ x. Unit {0}) p (λ x. weigh (λ y. w (P.pair x y)) b) (λ x. weigh (λ y. w (P.pair x y)) d) (λ x q. g (λ y. w (P.pair x y))) a (Each-any a)
      ∙ h (λ x. weigh (λ y. w (P.pair x y)) d) ∙ ap (λ n. n % p) (sym (weigh-product P w c d))

-- a normal form is like the chain
pub alike_normal : {K : Type 0} (cmp : K → K → Ordering) → ((x y : K) → cmp x y ≡ Equal → x ≡ y) → (q r : Prime) (s c : Terms K) → s ≡ normal cmp (number r) c → r ≡ q
    → Alike (number q) s c
alike_normal cmp one_key q r s c e f w = ap (λ d. weigh w d % number q) (e ∙ ap (λ z. normal cmp (number z) c) f) ∙ weigh-normal cmp (number q) one_key w c

module _ {T : Type 0} (cmp : T → T → Ordering) (one_key : (x y : T) → cmp x y ≡ Equal → x ≡ y) (total : IsTotalOrder cmp) (q : Prime) where
  -- a normal form of a chain that is like another one
  pub normal_of : (s c d : Terms T) (r : Prime) → s ≡ normal cmp (number r) c → r ≡ q → Alike (number q) c d → s ≡ normal cmp (number q) d
  normal_of s c d r e f h = e ∙ ap (λ z. normal cmp (number z) c) f ∙ normal-same cmp (number q) one_key total (number_pos q) c d h

  -- the normal form of a product is like the product of chains that are like the parts
  pub product_alike : {X Y : Type 0} (P : Pairs X Y T) (s : Terms T) (r : Prime) (a c : Terms X) (b d : Terms Y) → s ≡ normal cmp (number r) (product_in P a b) → r ≡ q
      → Alike (number q) a c → Alike (number q) b d → Alike (number q) s (product_in P c d)
  product_alike P s r a c b d e f h g w = alike_normal cmp one_key q r s (product_in P a b) e f w ∙ alike_product (number q) P a c b d h g w

  -- a product of two chains that are like others
  pub product_is : {X Y : Type 0} (P : Pairs X Y T) (s : Terms T) (r : Prime) (a c : Terms X) (b d : Terms Y) → s ≡ normal cmp (number r) (product_in P a b) → r ≡ q
      → Alike (number q) a c → Alike (number q) b d → s ≡ normal cmp (number q) (product_in P c d)
  product_is P s r a c b d e f h g = normal_of s (product_in P a b) (product_in P c d) r e f (alike_product (number q) P a c b d h g)

  -- the sum of a chain and a multiple of another
  pub sum_is : (s : Terms T) (r : Prime) (k : ℕ) (a b c d : Terms T) → s ≡ normal cmp (number r) (a ++ scale (sign (number r) k) b) → r ≡ q
      → Alike (number q) a c → Alike (number q) b d → s ≡ normal cmp (number q) (c ++ scale (sign (number q) k) d)
  sum_is s r k a b c d e f h g =
      e ∙ ap (λ z. normal cmp (number z) (a ++ scale (sign (number z) k) b)) f
      ∙ normal-same cmp (number q) one_key total (number_pos q) (a ++ scale (sign (number q) k) b) (c ++ scale (sign (number q) k) d)
      (alike_sum (number q) a (scale (sign (number q) k) b) c (scale (sign (number q) k) d) h (alike_multiple (number q) (sign (number q) k) (sign (number q) k) b d refl g))

  -- the same of two products
  pub products_are : {X Y : Type 0} (P : Pairs X Y T) (s : Terms T) (r : Prime) (k : ℕ) (a a' c c' : Terms X) (b b' d d' : Terms Y)
      → s ≡ normal cmp (number r) (product_in P a b ++ scale (sign (number r) k) (product_in P c d)) → r ≡ q
      → Alike (number q) a a' → Alike (number q) b b' → Alike (number q) c c' → Alike (number q) d d'
      → s ≡ normal cmp (number q) (product_in P a' b' ++ scale (sign (number q) k) (product_in P c' d'))
  products_are P s r k a a' c c' b b' d d' e f ha hb hc hd =
      sum_is s r k (product_in P a b) (product_in P c d) (product_in P a' b') (product_in P c' d') e f
      (alike_product (number q) P a a' b b' ha hb) (alike_product (number q) P c c' d d' hc hd)

pub itself : {K : Type 0} (p : ℕ) (c : Terms K) → Alike p c c
itself p c w = refl
