-- Where a series that asks nothing may be evaluated: from a sum of chains from which it may.
use Rattle.std.proofs.Common.{◌≡◌, ℕ, zero, suc, ◌+◌, ◌*◌, ◌-◌, ◌%◌, List, [], ◌∷◌, ◌++◌, Option, None, refl, sym, ◌∙◌, ap, subst, arith}
use Rattle.std.specs.declared.cmp.Ordering.{Ordering}
use Rattle.std.specs.declared.cmp.Ordering.TheVariants.{Equal}
use Rattle.std.specs.Cmp.{IsTotalOrder}
use Rattle.fp_field.specs.declared.prime.Prime.{Prime}
use Rattle.fp_field.specs.Field.{number}
use Rattle.fp_field.specs.Chains.{Terms, weigh, scale, extend, Each}
use Rattle.fp_field.specs.Normal.{normal, apply}
use Rattle.fp_field.specs.Reduction.{after}
use Rattle.fp_field.specs.Series.{series}
use Rattle.fp_field.proofs.Primes.{number_pos}
use Rattle.fp_field.proofs.Weights.{weigh-scale, weigh-append, weigh-extend, Each-append, Each-scale}
use Rattle.fp_field.proofs.Normals.{normal-same, normal-extend}
use Rattle.fp_field.proofs.FlowLaws.{Each-normal}
use Rattle.chain_core.specs.Asks.{NoneRefused}
use Rattle.reduct_laws.proofs.NormalSteps.{normal-append, normal-scale}
use Rattle.perturb.specs.PerturbedLists.{next_term, series_asks, series_may_ask}
use Rattle.perturb.proofs.SeriesValues.{series_keys, image_keys}
use Rattle.twice_perturbed.specs.Firsts.{SeriesWithin}

-- a multiple of a multiple, the other way round
times-swap : (a b c : ℕ) → a * (b * c) ≡ b * (a * c)
times-swap a b c = omega arith

times-sum : (a b c : ℕ) → a * b + a * c ≡ a * (b + c)
times-sum a b c = omega arith

extend-append : {K J : Type 0} (f : K → Terms J) (a b : Terms K) (w : J → ℕ) → weigh w (extend f (a ++ b)) ≡ weigh w (extend f a ++ extend f b)
extend-append f a b w =
    weigh-extend w f (a ++ b) ∙ weigh-append (λ k. weigh w (f k)) a b ∙ sym (weigh-append w (extend f a) (extend f b) ∙ (λ i. weigh-extend w f a i + weigh-extend w f b i))

extend-scale : {K J : Type 0} (f : K → Terms J) (n : ℕ) (a : Terms K) (w : J → ℕ) → weigh w (extend f (scale n a)) ≡ weigh w (scale n (extend f a))
extend-scale f n a w =
    weigh-extend w f (scale n a) ∙ weigh-scale (λ k. weigh w (f k)) n a ∙ sym (weigh-scale w n (extend f a) ∙ ap (λ z. n * z) (weigh-extend w f a))

module _ {K : Type 0} (cmp : K → K → Ordering) (one_key : (x y : K) → cmp x y ≡ Equal → x ≡ y) (total : IsTotalOrder cmp) (q : Prime) where
  abbrev p : ℕ
  p = number q

  -- chains with the same weights
  pub alike : (a b : Terms K) → ((w : K → ℕ) → weigh w a ≡ weigh w b) → normal cmp p a ≡ normal cmp p b
  alike a b h = normal-same cmp p one_key total (number_pos q) a b (λ w. ap (λ z. z % p) (h w))

  each-sum : (P : K → Type 0) (a b : Terms K) → Each P (normal cmp p a) → Each P (normal cmp p b) → Each P (normal cmp p (a ++ b))
  each-sum P a b g h =
      subst (Each P) (normal-append cmp one_key total q a b)
      (Each-normal P cmp p (normal cmp p a ++ normal cmp p b) (Each-append P (normal cmp p a) (normal cmp p b) g h))

  each-multiple : (P : K → Type 0) (n : ℕ) (a : Terms K) → Each P (normal cmp p a) → Each P (normal cmp p (scale n a))
  each-multiple P n a g = subst (Each P) (normal-scale cmp one_key total q n a) (Each-normal P cmp p (scale n (normal cmp p a)) (Each-scale P n (normal cmp p a) g))

  module _ (first second : K → Terms K) (P Q : K → Type 0) where
    abbrev Within : ℕ → Terms K → Type 0
    Within n c = SeriesWithin cmp p first second P Q n (normal cmp p c)

    -- minus the image of a chain that need not be in normal form
    abbrev turned : Terms K → Terms K
    turned c = scale (p - 1) (extend (after second first) c)

    next-is : (c : Terms K) → next_term cmp p first second (normal cmp p c) ≡ normal cmp p (turned c)
    next-is c =
        sym (normal-scale cmp one_key total q (p - 1) (extend (after second first) (normal cmp p c)))
        ∙ ap (λ d. normal cmp p (scale (p - 1) d)) (normal-extend cmp one_key cmp one_key total p (number_pos q) (after second first) c)
        ∙ normal-scale cmp one_key total q (p - 1) (extend (after second first) c)

    image-of : (c : Terms K) → apply cmp p first (normal cmp p c) ≡ normal cmp p (extend first c)
    image-of c = normal-extend cmp one_key cmp one_key total p (number_pos q) first c

    record Step (n : ℕ) (c : Terms K) : Type 0 where
      starts : Each P (normal cmp p c)
      images : Each Q (normal cmp p (extend first c))
      goes_on : Within n (turned c)

    opened : (n : ℕ) (c : Terms K) → Within (suc n) c → Step n c
    opened n c h = record {
      starts = h.0;
      images = subst (Each Q) (image-of c) h.1.0;
      goes_on = subst (SeriesWithin cmp p first second P Q n) (next-is c) h.1.1;
    }

    closed : (n : ℕ) (c : Terms K) → Step n c → Within (suc n) c
    closed n c s = (s.starts, (subst (Each Q) (sym (image-of c)) s.images, subst (SeriesWithin cmp p first second P Q n) (sym (next-is c)) s.goes_on))

    pub within-none : (n : ℕ) → Within n []
    within-none zero = tt
    within-none (suc n) = (tt, (tt, within-none n))

    turned-sum : (a b : Terms K) (w : K → ℕ) → weigh w (turned a ++ turned b) ≡ weigh w (turned (a ++ b))
    turned-sum a b w =
        weigh-append w (turned a) (turned b)
        ∙ (λ i. weigh-scale w (p - 1) (extend (after second first) a) i + weigh-scale w (p - 1) (extend (after second first) b) i)
        ∙ times-sum (p - 1) (weigh w (extend (after second first) a)) (weigh w (extend (after second first) b))
        ∙ ap (λ z. (p - 1) * z) (sym (weigh-append w (extend (after second first) a) (extend (after second first) b)) ∙ sym (extend-append (after second first) a b w))
        ∙ sym (weigh-scale w (p - 1) (extend (after second first) (a ++ b)))

    turned-multiple : (n : ℕ) (a : Terms K) (w : K → ℕ) → weigh w (scale n (turned a)) ≡ weigh w (turned (scale n a))
    turned-multiple n a w =
        weigh-scale w n (turned a) ∙ ap (λ z. n * z) (weigh-scale w (p - 1) (extend (after second first) a))
        ∙ times-swap n (p - 1) (weigh w (extend (after second first) a))
        ∙ ap (λ z. (p - 1) * z) (sym (weigh-scale w n (extend (after second first) a)) ∙ sym (extend-scale (after second first) n a w))
        ∙ sym (weigh-scale w (p - 1) (extend (after second first) (scale n a)))

    pub within-sum : (n : ℕ) (a b : Terms K) → Within n a → Within n b → Within n (a ++ b)
    within-sum zero a b g h = tt
    within-sum (suc n) a b g h = closed n (a ++ b) (by (opened n a g) (opened n b h) (within-sum n (turned a) (turned b) (opened n a g).goes_on (opened n b h).goes_on))
      where
        by : Step n a → Step n b → Within n (turned a ++ turned b) → Step n (a ++ b)
        by s t more = record {
          starts = each-sum P a b s.starts t.starts;
          images = subst (Each Q) (alike (extend first a ++ extend first b) (extend first (a ++ b)) (λ w. sym (extend-append first a b w))) (each-sum Q (extend first a) (extend first b) s.images t.images);
          goes_on = subst (SeriesWithin cmp p first second P Q n) (alike (turned a ++ turned b) (turned (a ++ b)) (turned-sum a b)) more;
        }

    pub within-multiple : (n k : ℕ) (a : Terms K) → Within n a → Within n (scale k a)
    within-multiple zero k a g = tt
    within-multiple (suc n) k a g = closed n (scale k a) (by (opened n a g) (within-multiple n k (turned a) (opened n a g).goes_on))
      where
        by : Step n a → Within n (scale k (turned a)) → Step n (scale k a)
        by s more = record {
          starts = each-multiple P k a s.starts;
          images = subst (Each Q) (alike (scale k (extend first a)) (extend first (scale k a)) (λ w. sym (extend-scale first k a w))) (each-multiple Q k (extend first a) s.images);
          goes_on = subst (SeriesWithin cmp p first second P Q n) (alike (scale k (turned a)) (turned (scale k a)) (turned-multiple k a)) more;
        }

    -- from the image of a chain, where it may from the image of each key
    pub within-image : {M : Type 0} (n : ℕ) (g : M → Terms K) (c : Terms M) → Each (λ x. Within n (g x)) c → Within n (extend g c)
    within-image n g [] h = within-none n
    within-image n g (t ∷ c) h = within-sum n (scale t.1 (g t.0)) (extend g c) (within-multiple n t.1 (g t.0) h.0) (within-image n g c h.1)

-- a series that asks nothing meets what is asked of one that may ask
pub may-series : {K A R : Type 0} (cmp : K → K → Ordering) (p : ℕ) (first second : K → Terms K) (P Q : K → Type 0) (refusal : A → Option R) (a b : K → List A)
    (n : ℕ) (c : Terms K) → SeriesWithin cmp p first second P Q n c → series_may_ask cmp p first second refusal a b P Q n c
may-series cmp p first second P Q refusal a b zero c h = tt
may-series cmp p first second P Q refusal a b (suc n) c h =
    (h.0, ((λ none. h.1.0), (λ none. may-series cmp p first second P Q refusal a b n (next_term cmp p first second c) h.1.1)))

-- where nothing is refused
abbrev unrefused : ℕ → Option ℕ
unrefused x = None

none-refused : (l : List ℕ) → NoneRefused unrefused l
none-refused [] = tt
none-refused (x ∷ l) = (refl, none-refused l)

module _ {K : Type 0} (cmp : K → K → Ordering) (one_key : (x y : K) → cmp x y ≡ Equal → x ≡ y) (total : IsTotalOrder cmp) (q : Prime)
    (first second : K → Terms K) (P Q : K → Type 0) (n : ℕ) (c : Terms K) (within : SeriesWithin cmp (number q) first second P Q n c) where
  abbrev nothing : K → List ℕ
  nothing x = []

  may : series_may_ask cmp (number q) first second unrefused nothing nothing P Q n c
  may = may-series cmp (number q) first second P Q unrefused nothing nothing n c within

  -- the keys of the series, and those of its image under the first map
  pub within-keys : Each P (series cmp (number q) n (after second first) c)
  within-keys = series_keys (number q) (number_pos q) cmp one_key total first second unrefused nothing nothing P Q n c may (none-refused (series_asks cmp (number q) first second nothing nothing n c))

  pub within-images : Each Q (apply cmp (number q) first (series cmp (number q) n (after second first) c))
  within-images = image_keys (number q) (number_pos q) cmp one_key total first second unrefused nothing nothing P Q n c may (none-refused (series_asks cmp (number q) first second nothing nothing n c))
