-- The sum of two reductions is a reduction.
use Rattle.std.proofs.Common.{◌≡◌, ℕ, suc, ◌+◌, ◌*◌, ◌%◌, ◌<◌, ◌≤◌, [], ◌∷◌, Bool, true, refl, sym, ◌∙◌, ap, true≢false}
use Rattle.std.specs.Cmp.{IsEquivalence}
use Rattle.fp_field.specs.Field.{SameMod}
use Rattle.fp_field.specs.Chains.{Terms, weigh, Each}
use Rattle.fp_field.specs.Reduction.{SameTerms, after, Complex, Maps, Respects, IsGraded, IsComplex, HasDegrees, IsReductionTo}
use Rattle.fp_field.proofs.Weights.{weigh-extend}
use Rattle.fp_field.proofs.Fair.{Fair, under, from_weights, pull}
use Rattle.reduct_laws.specs.declared.sides.Side.{Side}
use Rattle.reduct_laws.specs.declared.sides.Side.TheVariants.{Left, Right}
use Rattle.reduct_laws.specs.Sides.{relabel, by_side, same_side, sum_complex, summed}
use Rattle.reduct_laws.proofs.Fairly.{Weight}
use Rattle.reduct_laws.proofs.SixLaws.{Laws}
use Rattle.reduct_laws.proofs.Equations.{to_laws, is_reduction}

pub weigh-relabel : {K J : Type 0} (w : J → ℕ) (i : K → J) (c : Terms K) → weigh w (relabel i c) ≡ weigh (λ k. w (i k)) c
weigh-relabel w i [] = refl
weigh-relabel w i (t ∷ c) = ap (λ r. t.1 * w (i t.0) + r) (weigh-relabel w i c)

Each-relabel : {K J : Type 0} (P : J → Type 0) (i : K → J) (c : Terms K) → Each (λ k. P (i k)) c → Each P (relabel i c)
Each-relabel P i [] h = tt
Each-relabel P i (t ∷ c) h = (h.0, Each-relabel P i c h.1)

-- a weight of a map that is another map under other names
pub step : {K J I : Type 0} (v : I → ℕ) (v' : J → ℕ) (j : J → I) (f : K → Terms J) → ((k : J) → v (j k) ≡ v' k) → (x : K) → weigh v (relabel j (f x)) ≡ weigh v' (f x)
step v v' j f e x = weigh-relabel v j (f x) ∙ ap (λ u. weigh u (f x)) (λ i k. e k i)

module _ {X Y : Type 0} (s : X → X → Bool) (t : Y → Y → Bool) (es : IsEquivalence s) (et : IsEquivalence t) where
  reflexive : (x : Side X Y) → same_side s t x x ≡ true
  reflexive (Left x) = es.refl x
  reflexive (Right y) = et.refl y

  symmetric : (x y : Side X Y) → same_side s t x y ≡ same_side s t y x
  symmetric (Left x) (Left y) = es.symm x y
  symmetric (Right x) (Right y) = et.symm x y
  symmetric (Left x) (Right y) = refl
  symmetric (Right x) (Left y) = refl

  congruent : (x y z : Side X Y) → same_side s t x y ≡ true → same_side s t x z ≡ same_side s t y z
  congruent (Left x) (Left y) (Left z) e = es.congr x y z e
  congruent (Left x) (Left y) (Right z) e = refl
  congruent (Right x) (Right y) (Right z) e = et.congr x y z e
  congruent (Right x) (Right y) (Left z) e = refl
  congruent (Left x) (Right y) z e = absurd (true≢false (sym e))
  congruent (Right x) (Left y) z e = absurd (true≢false (sym e))

  pub sides_equivalence : IsEquivalence (same_side s t)
  sides_equivalence = record { refl = reflexive; symm = symmetric; congr = congruent }

module _ (p : ℕ) (pos : 0 < p) where
  -- the weight on one side
  module _ {X Y : Type 0} {s : X → X → Bool} {t : Y → Y → Bool} where
    abbrev on_left : Weight p pos (same_side s t) → Weight p pos s
    on_left w = record { at = λ x. w.at (Left x); fair = λ x y e. w.fair (Left x) (Left y) e }

    abbrev on_right : Weight p pos (same_side s t) → Weight p pos t
    on_right w = record { at = λ x. w.at (Right x); fair = λ x y e. w.fair (Right x) (Right y) e }

  module _ {K J K' J' : Type 0} (C : Complex K) (D : Complex J) (C' : Complex K') (D' : Complex J') (eq : IsEquivalence D.same) (eq' : IsEquivalence D'.same) where
    sum_respects : (f : K → Terms J) (f' : K' → Terms J') → Respects p C D f → Respects p C' D' f'
        → Respects p (sum_complex C C') (sum_complex D D') (by_side (λ x. relabel Left (f x)) (λ y. relabel Right (f' y)))
    sum_respects f f' r r' (Left x) (Left y) e = from_weights p pos (same_side D.same D'.same) (sides_equivalence D.same D'.same eq eq') (relabel Left (f x)) (relabel Left (f y)) (λ w fair.
        ap (λ m. m % p) (weigh-relabel w Left (f x))
        ∙ under p pos D.same eq (λ k. w (Left k)) (λ j k q. fair (Left j) (Left k) q) (f x) (f y) (r x y e)
        ∙ ap (λ m. m % p) (sym (weigh-relabel w Left (f y))))
    sum_respects f f' r r' (Right x) (Right y) e = from_weights p pos (same_side D.same D'.same) (sides_equivalence D.same D'.same eq eq') (relabel Right (f' x)) (relabel Right (f' y)) (λ w fair.
        ap (λ m. m % p) (weigh-relabel w Right (f' x))
        ∙ under p pos D'.same eq' (λ k. w (Right k)) (λ j k q. fair (Right j) (Right k) q) (f' x) (f' y) (r' x y e)
        ∙ ap (λ m. m % p) (sym (weigh-relabel w Right (f' y))))
    sum_respects f f' r r' (Left x) (Right y) e = absurd (true≢false (sym e))
    sum_respects f f' r r' (Right x) (Left y) e = absurd (true≢false (sym e))

    -- degrees go through on each side
    sum_keeps : (a b : ℕ) (f : K → Terms J) (f' : K' → Terms J')
        → ((x : K) → C.generator a x → Each (D.generator b) (f x)) → ((x : K') → C'.generator a x → Each (D'.generator b) (f' x))
        → (x : Side K K') → (sum_complex C C').generator a x → Each ((sum_complex D D').generator b) (by_side (λ x. relabel Left (f x)) (λ y. relabel Right (f' y)) x)
    sum_keeps a b f f' k k' (Left x) g = Each-relabel ((sum_complex D D').generator b) Left (f x) (k x g)
    sum_keeps a b f f' k k' (Right x) g = Each-relabel ((sum_complex D D').generator b) Right (f' x) (k' x g)

  module _ {K K' : Type 0} (C : Complex K) (C' : Complex K') where
    sum_graded : IsGraded p C → IsGraded p C' → IsGraded p (sum_complex C C')
    sum_graded is is' = record {
      equivalence = sides_equivalence C.same C'.same is.equivalence is'.equivalence;
      lowers = λ n. sum_keeps C C C' C' is.equivalence is'.equivalence (suc n) n C.d C'.d (is.lowers n) (is'.lowers n);
      ends = ends;
      respects = sum_respects C C C' C' is.equivalence is'.equivalence C.d C'.d is.respects is'.respects;
    }
      where
        ends : (x : Side K K') → (sum_complex C C').generator 0 x → (sum_complex C C').d x ≡ []
        ends (Left x) g = ap (relabel Left) (is.ends x g)
        ends (Right x) g = ap (relabel Right) (is'.ends x g)

    sum_is_complex : IsComplex p C → IsComplex p C' → IsComplex p (sum_complex C C')
    sum_is_complex is is' = record { graded = sum_graded is.graded is'.graded; twice = twice }
      where
        twice : (n : ℕ) (x : Side K K') → (sum_complex C C').generator n x → SameTerms p (same_side C.same C'.same) (after (sum_complex C C').d (sum_complex C C').d x) []
        twice n (Left x) g = from_weights p pos (same_side C.same C'.same) (sides_equivalence C.same C'.same is.graded.equivalence is'.graded.equivalence) _ [] (λ w fair.
            ap (λ m. m % p) (weigh-extend w (sum_complex C C').d (relabel Left (C.d x))
            ∙ step (pull p pos (sum_complex C C').d w) (pull p pos C.d (λ k. w (Left k))) Left C.d (λ k. weigh-relabel w Left (C.d k)) x ∙ sym (weigh-extend (λ k. w (Left k)) C.d (C.d x)))
            ∙ under p pos C.same is.graded.equivalence (λ k. w (Left k)) (λ j k q. fair (Left j) (Left k) q) (after C.d C.d x) [] (is.twice n x g))
        twice n (Right x) g = from_weights p pos (same_side C.same C'.same) (sides_equivalence C.same C'.same is.graded.equivalence is'.graded.equivalence) _ [] (λ w fair.
            ap (λ m. m % p) (weigh-extend w (sum_complex C C').d (relabel Right (C'.d x))
            ∙ step (pull p pos (sum_complex C C').d w) (pull p pos C'.d (λ k. w (Right k))) Right C'.d (λ k. weigh-relabel w Right (C'.d k)) x ∙ sym (weigh-extend (λ k. w (Right k)) C'.d (C'.d x)))
            ∙ under p pos C'.same is'.graded.equivalence (λ k. w (Right k)) (λ j k q. fair (Right j) (Right k) q) (after C'.d C'.d x) [] (is'.twice n x g))

  module _ {B S B' S' : Type 0} (m : Maps B S) (n : Maps B' S') (dm : HasDegrees p m) (dn : HasDegrees p n) where
    abbrev degrees : HasDegrees p (summed m n)
    degrees = record {
      big = sum_is_complex m.big n.big dm.big dn.big;
      small = sum_graded m.small n.small dm.small dn.small;
      f = record {
        keeps = λ k. sum_keeps m.big m.small n.big n.small dm.small.equivalence dn.small.equivalence k k m.f n.f (dm.f.keeps k) (dn.f.keeps k);
        respects = sum_respects m.big m.small n.big n.small dm.small.equivalence dn.small.equivalence m.f n.f dm.f.respects dn.f.respects;
      };
      g = record {
        keeps = λ k. sum_keeps m.small m.big n.small n.big dm.big.graded.equivalence dn.big.graded.equivalence k k m.g n.g (dm.g.keeps k) (dn.g.keeps k);
        respects = sum_respects m.small m.big n.small n.big dm.big.graded.equivalence dn.big.graded.equivalence m.g n.g dm.g.respects dn.g.respects;
      };
      h = record {
        raises = λ k. sum_keeps m.big m.big n.big n.big dm.big.graded.equivalence dn.big.graded.equivalence k (suc k) m.h n.h (dm.h.raises k) (dn.h.raises k);
        respects = sum_respects m.big m.big n.big n.big dm.big.graded.equivalence dn.big.graded.equivalence m.h n.h dm.h.respects dn.h.respects;
      };
    }

    abbrev M : Maps (Side B B') (Side S S')
    M = summed m n

    -- two maps after one another, on the left and on the right
    module _ {K J I K' J' I' : Type 0} (w : Side I I' → ℕ) (f : J → Terms I) (f' : J' → Terms I') (g : K → Terms J) (g' : K' → Terms J') where
      left_two : (x : K) → weigh (pull p pos (by_side (λ x. relabel Left (f x)) (λ y. relabel Right (f' y))) w) (relabel Left (g x)) ≡ weigh (pull p pos f (λ k. w (Left k))) (g x)
      left_two x = step (pull p pos (by_side (λ x. relabel Left (f x)) (λ y. relabel Right (f' y))) w) (pull p pos f (λ k. w (Left k))) Left g (λ k. weigh-relabel w Left (f k)) x

      right_two : (x : K') → weigh (pull p pos (by_side (λ x. relabel Left (f x)) (λ y. relabel Right (f' y))) w) (relabel Right (g' x)) ≡ weigh (pull p pos f' (λ k. w (Right k))) (g' x)
      right_two x = step (pull p pos (by_side (λ x. relabel Left (f x)) (λ y. relabel Right (f' y))) w) (pull p pos f' (λ k. w (Right k))) Right g' (λ k. weigh-relabel w Right (f' k)) x

    module _ (N : ℕ) (lm : Laws p pos m dm N) (ln : Laws p pos n dn N) where
      small_at : (w : Side S S' → ℕ) (fair : Fair p pos (same_side m.small.same n.small.same) w) (k : ℕ) (y : Side S S') → k ≤ N → M.small.generator k y
          → SameMod p (weigh w (M.small.d y)) (weigh (pull p pos M.big.d (pull p pos M.f w)) (M.g y))
      small_at w fair k (Left y) l g =
          ap (λ r. r % p) (weigh-relabel w Left (m.small.d y)) ∙ (lm.small (on_left (record { at = w; fair = fair }))).at k y l g
          ∙ ap (λ r. r % p) (sym (step (pull p pos M.big.d (pull p pos M.f w)) (pull p pos m.big.d (pull p pos m.f (λ z. w (Left z)))) Left m.g (left_two w m.f n.f m.big.d n.big.d) y))
      small_at w fair k (Right y) l g =
          ap (λ r. r % p) (weigh-relabel w Right (n.small.d y)) ∙ (ln.small (on_right (record { at = w; fair = fair }))).at k y l g
          ∙ ap (λ r. r % p) (sym (step (pull p pos M.big.d (pull p pos M.f w)) (pull p pos n.big.d (pull p pos n.f (λ z. w (Right z)))) Right n.g (right_two w m.f n.f m.big.d n.big.d) y))

      fg_at : (w : Side S S' → ℕ) (fair : Fair p pos (same_side m.small.same n.small.same) w) (k : ℕ) (y : Side S S') → k ≤ N → M.small.generator k y
          → SameMod p (weigh (pull p pos M.f w) (M.g y)) (w y)
      fg_at w fair k (Left y) l g = ap (λ r. r % p) (left_two w m.f n.f m.g n.g y) ∙ (lm.fg (on_left (record { at = w; fair = fair }))).at k y l g
      fg_at w fair k (Right y) l g = ap (λ r. r % p) (right_two w m.f n.f m.g n.g y) ∙ (ln.fg (on_right (record { at = w; fair = fair }))).at k y l g

      homotopy_at : (w : Side B B' → ℕ) (fair : Fair p pos (same_side m.big.same n.big.same) w) (k : ℕ) (x : Side B B') → k ≤ N → M.big.generator k x
          → SameMod p (weigh (pull p pos M.big.d w) (M.h x) + (weigh (pull p pos M.h w) (M.big.d x) + weigh (pull p pos M.g w) (M.f x))) (w x)
      homotopy_at w fair k (Left x) l g =
          ap (λ r. r % p) (λ i. left_two w m.big.d n.big.d m.h n.h x i + (left_two w m.h n.h m.big.d n.big.d x i + left_two w m.g n.g m.f n.f x i))
          ∙ (lm.homotopy (on_left (record { at = w; fair = fair }))).at k x l g
      homotopy_at w fair k (Right x) l g =
          ap (λ r. r % p) (λ i. right_two w m.big.d n.big.d m.h n.h x i + (right_two w m.h n.h m.big.d n.big.d x i + right_two w m.g n.g m.f n.f x i))
          ∙ (ln.homotopy (on_right (record { at = w; fair = fair }))).at k x l g

      fh_at : (w : Side S S' → ℕ) (fair : Fair p pos (same_side m.small.same n.small.same) w) (k : ℕ) (x : Side B B') → k ≤ N → M.big.generator k x
          → SameMod p (weigh (pull p pos M.f w) (M.h x)) 0
      fh_at w fair k (Left x) l g = ap (λ r. r % p) (left_two w m.f n.f m.h n.h x) ∙ (lm.fh (on_left (record { at = w; fair = fair }))).at k x l g
      fh_at w fair k (Right x) l g = ap (λ r. r % p) (right_two w m.f n.f m.h n.h x) ∙ (ln.fh (on_right (record { at = w; fair = fair }))).at k x l g

      hg_at : (w : Side B B' → ℕ) (fair : Fair p pos (same_side m.big.same n.big.same) w) (k : ℕ) (y : Side S S') → k ≤ N → M.small.generator k y
          → SameMod p (weigh (pull p pos M.h w) (M.g y)) 0
      hg_at w fair k (Left x) l g = ap (λ r. r % p) (left_two w m.h n.h m.g n.g x) ∙ (lm.hg (on_left (record { at = w; fair = fair }))).at k x l g
      hg_at w fair k (Right x) l g = ap (λ r. r % p) (right_two w m.h n.h m.g n.g x) ∙ (ln.hg (on_right (record { at = w; fair = fair }))).at k x l g

      hh_at : (w : Side B B' → ℕ) (fair : Fair p pos (same_side m.big.same n.big.same) w) (k : ℕ) (x : Side B B') → k ≤ N → M.big.generator k x
          → SameMod p (weigh (pull p pos M.h w) (M.h x)) 0
      hh_at w fair k (Left x) l g = ap (λ r. r % p) (left_two w m.h n.h m.h n.h x) ∙ (lm.hh (on_left (record { at = w; fair = fair }))).at k x l g
      hh_at w fair k (Right x) l g = ap (λ r. r % p) (right_two w m.h n.h m.h n.h x) ∙ (ln.hh (on_right (record { at = w; fair = fair }))).at k x l g

      laws : Laws p pos M degrees N
      laws = record {
        small = λ w. record { at = small_at w.at w.fair };
        fg = λ w. record { at = fg_at w.at w.fair };
        homotopy = λ w. record { at = homotopy_at w.at w.fair };
        fh = λ w. record { at = fh_at w.at w.fair };
        hg = λ w. record { at = hg_at w.at w.fair };
        hh = λ w. record { at = hh_at w.at w.fair };
      }

  pub summed_meets : {B S B' S' : Type 0} (m : Maps B S) (n : Maps B' S') (N : ℕ) → IsReductionTo p N m → IsReductionTo p N n → IsReductionTo p N (summed m n)
  summed_meets m n N one' two =
      is_reduction p pos (summed m n) (degrees m n one'.degrees two.degrees) N
      (laws m n one'.degrees two.degrees N (to_laws p pos m one'.degrees N one'.equations) (to_laws p pos n two.degrees N two.equations))
