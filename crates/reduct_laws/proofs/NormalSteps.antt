-- Normal forms of sums, multiples and maps.
use Rattle.std.proofs.Common.{◌≡◌, ℕ, ◌-◌, ◌%◌, ◌++◌, sym, ◌∙◌, ap}
use Rattle.std.specs.declared.cmp.Ordering.{Ordering}
use Rattle.std.specs.declared.cmp.Ordering.TheVariants.{Equal}
use Rattle.std.specs.Cmp.{IsTotalOrder}
use Rattle.fp_field.specs.declared.prime.Prime.{Prime}
use Rattle.fp_field.specs.Field.{number}
use Rattle.fp_field.specs.Chains.{Terms, scale, extend}
use Rattle.fp_field.specs.Normal.{normal}
use Rattle.fp_field.proofs.Mod.{same-plus, same-times}
use Rattle.fp_field.proofs.Primes.{number_pos}
use Rattle.fp_field.proofs.Weights.{weigh-append, weigh-scale}
use Rattle.fp_field.proofs.Normals.{weigh-normal, normal-same, normal-extend}

module _ {K : Type 0} (cmp : K → K → Ordering) (one_key : (x y : K) → cmp x y ≡ Equal → x ≡ y) (total : IsTotalOrder cmp) (q : Prime) where
  -- the sum of two normal forms
  pub normal-append : (a b : Terms K) → normal cmp (number q) (normal cmp (number q) a ++ normal cmp (number q) b) ≡ normal cmp (number q) (a ++ b)
  normal-append a b = normal-same cmp (number q) one_key total (number_pos q) (normal cmp (number q) a ++ normal cmp (number q) b) (a ++ b) (λ w.
      ap (λ n. n % number q) (weigh-append w (normal cmp (number q) a) (normal cmp (number q) b))
      ∙ same-plus (number q) _ _ _ _ (weigh-normal cmp (number q) one_key w a) (weigh-normal cmp (number q) one_key w b)
      ∙ ap (λ n. n % number q) (sym (weigh-append w a b)))

  pub append-is : (s a b c d : Terms K) (r : Prime) → s ≡ normal cmp (number r) (a ++ b) → r ≡ q → a ≡ normal cmp (number q) c → b ≡ normal cmp (number q) d → s ≡ normal cmp (number q) (c ++ d)
  append-is s a b c d r e f g h = e ∙ (λ i. normal cmp (number (f i)) (g i ++ h i)) ∙ normal-append c d

  -- a multiple of a normal form
  pub normal-scale : (n : ℕ) (a : Terms K) → normal cmp (number q) (scale n (normal cmp (number q) a)) ≡ normal cmp (number q) (scale n a)
  normal-scale n a = normal-same cmp (number q) one_key total (number_pos q) (scale n (normal cmp (number q) a)) (scale n a) (λ w.
      ap (λ m. m % number q) (weigh-scale w n (normal cmp (number q) a))
      ∙ same-times (number q) n _ _ (weigh-normal cmp (number q) one_key w a)
      ∙ ap (λ m. m % number q) (sym (weigh-scale w n a)))

  -- minus a chain that is a normal form
  pub minus-is : (s a c : Terms K) (r : Prime) → s ≡ normal cmp (number r) (scale (number r - 1) a) → r ≡ q → a ≡ normal cmp (number q) c → s ≡ normal cmp (number q) (scale (number q - 1) c)
  minus-is s a c r e f g = e ∙ (λ i. normal cmp (number (f i)) (scale (number (f i) - 1) (g i))) ∙ normal-scale (number q - 1) c

module _ {K J : Type 0} (cmp : K → K → Ordering) (one_key : (x y : K) → cmp x y ≡ Equal → x ≡ y)
    (cmp' : J → J → Ordering) (one_key' : (x y : J) → cmp' x y ≡ Equal → x ≡ y) (total : IsTotalOrder cmp') (q : Prime) (f : K → Terms J) where
  -- the image of a chain that is a normal form
  pub image-is : (s : Terms J) (a c : Terms K) (r : Prime) → s ≡ normal cmp' (number r) (extend f a) → r ≡ q → a ≡ normal cmp (number q) c → s ≡ normal cmp' (number q) (extend f c)
  image-is s a c r e h g = e ∙ (λ i. normal cmp' (number (h i)) (extend f (g i))) ∙ normal-extend cmp one_key cmp' one_key' total (number q) (number_pos q) f c
