-- The six equations of a tensor product of reductions, from those of its parts, on grids.
use Rattle.std.proofs.Common.{◌≡◌, ℕ, zero, suc, ◌+◌, ◌*◌, ◌%◌, ◌<◌, ◌≤◌, Bool, true, refl, sym, ◌∙◌, ap, subst, arith}
use Rattle.fp_field.specs.Field.{SameMod, sign}
use Rattle.fp_field.specs.Chains.{Terms, weigh, Each}
use Rattle.fp_field.specs.Reduction.{Maps, HasDegrees, after}
use Rattle.fp_field.proofs.Mod.{same-plus, same-times}
use Rattle.fp_field.proofs.Weights.{weigh-mod, weigh-plus, weigh-extend, Each-any, Each-extend}
use Rattle.reduct_laws.proofs.Fairly.{kept}
use Rattle.reduct_laws.proofs.SixLaws.{Laws, G, twice, g_turned, f_turned}
use Rattle.tensor_red.proofs.Doubles.{each_weaker, weigh-none, weigh-times}
use Rattle.tensor_red.proofs.Signs.{sign_out, sign_below, sign_above, sign_twice}
use Rattle.tensor_red.proofs.Grids.{Grid, column, row, sum, signed, on_left, on_right, inward, inward_two_left, inward_two_right}

module _ (p : ℕ) (pos : 0 < p) {A1 A2 S1 S2 : Type 0} (m : Maps A1 S1) (n : Maps A2 S2) (dm : HasDegrees p m) (dn : HasDegrees p n)
    (degree : A1 → ℕ) (small_degree : S1 → ℕ)
    (alike : (x y : A1) → m.big.same x y ≡ true → degree x ≡ degree y) (small_alike : (x y : S1) → m.small.same x y ≡ true → small_degree x ≡ small_degree y) where
  abbrev pub Bigs : Type 0
  Bigs = Grid p pos m.big.same n.big.same

  abbrev pub Smalls : Type 0
  Smalls = Grid p pos m.small.same n.small.same

  module _ {Y : Type 0} {t : Y → Y → Bool} where
    abbrev LD : Grid p pos m.big.same t → Grid p pos m.big.same t
    LD W = on_left p pos m.big m.big dm.big.graded.equivalence m.big.d dm.big.graded.respects W

    abbrev LE : Grid p pos m.small.same t → Grid p pos m.small.same t
    LE W = on_left p pos m.small m.small dm.small.equivalence m.small.d dm.small.respects W

    abbrev LF : Grid p pos m.small.same t → Grid p pos m.big.same t
    LF W = on_left p pos m.big m.small dm.small.equivalence m.f dm.f.respects W

    abbrev LG : Grid p pos m.big.same t → Grid p pos m.small.same t
    LG W = on_left p pos m.small m.big dm.big.graded.equivalence m.g dm.g.respects W

    abbrev LH : Grid p pos m.big.same t → Grid p pos m.big.same t
    LH W = on_left p pos m.big m.big dm.big.graded.equivalence m.h dm.h.respects W

    abbrev S : Grid p pos m.big.same t → Grid p pos m.big.same t
    S W = signed p pos degree alike W

    abbrev SS : Grid p pos m.small.same t → Grid p pos m.small.same t
    SS W = signed p pos small_degree small_alike W

  module _ {X : Type 0} {s : X → X → Bool} where
    abbrev RD : Grid p pos s n.big.same → Grid p pos s n.big.same
    RD W = on_right p pos n.big n.big dn.big.graded.equivalence n.big.d dn.big.graded.respects W

    abbrev RE : Grid p pos s n.small.same → Grid p pos s n.small.same
    RE W = on_right p pos n.small n.small dn.small.equivalence n.small.d dn.small.respects W

    abbrev RF : Grid p pos s n.small.same → Grid p pos s n.big.same
    RF W = on_right p pos n.big n.small dn.small.equivalence n.f dn.f.respects W

    abbrev RG : Grid p pos s n.big.same → Grid p pos s n.small.same
    RG W = on_right p pos n.small n.big dn.big.graded.equivalence n.g dn.g.respects W

    abbrev RH : Grid p pos s n.big.same → Grid p pos s n.big.same
    RH W = on_right p pos n.big n.big dn.big.graded.equivalence n.h dn.h.respects W

  -- the maps of the tensor product
  abbrev pub DT : Bigs → Bigs
  DT W = sum p pos (LD W) (S (RD W))

  abbrev pub ET : Smalls → Smalls
  ET W = sum p pos (LE W) (SS (RE W))

  abbrev pub FT : Smalls → Bigs
  FT W = LF (RF W)

  abbrev pub GT : Bigs → Smalls
  GT W = LG (RG W)

  abbrev pub HT : Bigs → Bigs
  HT W = sum p pos (LH W) (S (LF (LG (RH W))))

  -- what holds of each key of a sum
  each : {K : Type 0} (V W : K → ℕ) → ((k : K) → SameMod p (V k) (W k)) → (c : Terms K) → SameMod p (weigh V c) (weigh W c)
  each V W h c = weigh-mod (λ k. Unit {0}) p V W (λ k q. h k) c (Each-any c)

  none : {K : Type 0} (V : K → ℕ) → ((k : K) → SameMod p (V k) 0) → (c : Terms K) → SameMod p (weigh V c) 0
  none V h c = each V (λ k. 0) h c ∙ ap (λ r. r % p) (weigh-none c)

  two : (a b : ℕ) → SameMod p a 0 → SameMod p b 0 → SameMod p (a + b) 0
  two a b h k = same-plus p a 0 b 0 h k

  times_none : (s a : ℕ) → SameMod p a 0 → SameMod p (s * a) 0
  times_none s a h = same-times p s a 0 h ∙ ap (λ r. r % p) (let e : s * 0 ≡ 0 = omega arith in e)

  module _ (graded : (k : ℕ) (x : A1) → m.big.generator k x → degree x ≡ k) where
    d_terms : (i : ℕ) (x : A1) → m.big.generator i x → Each (λ a. suc (degree a) ≡ i) (m.big.d x)
    d_terms zero x g = subst (λ c. Each (λ a. suc (degree a) ≡ zero) c) (sym (dm.big.graded.ends x g)) tt
    d_terms (suc i) x g = each_weaker (m.big.generator i) (λ a. suc (degree a) ≡ suc i) (λ a q. ap suc (graded i a q)) (m.big.d x) (dm.big.graded.lowers i x g)

    -- the square of d is 0
    pub twice_at : (W : Bigs) (i j : ℕ) (x : A1) (y : A2) → m.big.generator i x → n.big.generator j y → SameMod p ((DT (DT W)).at x y) 0
    twice_at W i j x y gi gj =
        ap (λ r. r % p) (λ k. weigh-plus (λ a. (LD W).at a y) (λ a. sign p (degree a) * (RD W).at a y) (m.big.d x) k + below k)
        ∙ ap (λ r. r % p) (let e : (b c d : ℕ) → (LD (LD W)).at x y + b + (c + d) ≡ (LD (LD W)).at x y + ((b + c) + d) = λ b c d. omega arith in e _ _ _)
        ∙ two _ _ ((twice p pos m dm i (column p pos W y)).at i x (omega arith) gi)
        (two _ _ (sign_below p pos degree (λ a. (RD W).at a y) i (m.big.d x) (d_terms i x gi))
        (times_none (sign p i) _ (times_none (sign p i) _ ((twice p pos n dn j (row p pos W x)).at j y (omega arith) gj))))
      where
        at_i : (a : ℕ) → sign p (degree x) * a ≡ sign p i * a
        at_i a = ap (λ k. sign p k * a) (graded i x gi)

        below : sign p (degree x) * (RD (DT W)).at x y ≡ sign p i * (LD (RD W)).at x y + sign p i * (sign p i * (RD (RD W)).at x y)
        below =
            at_i ((RD (DT W)).at x y)
            ∙ ap (λ r. sign p i * r) (weigh-plus (λ b. (LD W).at x b) (λ b. sign p (degree x) * (RD W).at x b) (n.big.d y)
            ∙ (λ k. inward m.big.d n.big.d W.at x y k + (weigh-times (sign p (degree x)) (λ b. (RD W).at x b) (n.big.d y) ∙ at_i ((RD (RD W)).at x y)) k))
            ∙ (let e : (s a b : ℕ) → s * (a + s * b) ≡ s * a + s * (s * b) = λ s a b. omega arith in e _ _ _)

  module _ (N M : ℕ) (lm : Laws p pos m dm N) (ln : Laws p pos n dn M) (graded : (k : ℕ) (x : A1) → m.big.generator k x → degree x ≡ k)
      (small_graded : (k : ℕ) (x : S1) → m.small.generator k x → small_degree x ≡ k) where
    module _ (i j : ℕ) (x : S1) (y : S2) (li : i ≤ N) (lj : j ≤ M) (gi : m.small.generator i x) (gj : n.small.generator j y) where
      g_terms : Each (λ a. degree a ≡ i) (m.g x)
      g_terms = each_weaker (m.big.generator i) (λ a. degree a ≡ i) (graded i) (m.g x) (dm.g.keeps i x gi)

      pub fg_at : (W : Smalls) → SameMod p ((GT (FT W)).at x y) (W.at x y)
      fg_at W =
          ap (λ r. r % p) (ap (λ V. weigh V (m.g x)) (λ k a. inward m.f n.g (RF W).at a y k))
          ∙ (lm.fg (column p pos (RG (RF W)) y)).at i x li gi ∙ (ln.fg (row p pos W x)).at j y lj gj

      pub small_at : (W : Smalls) → SameMod p ((ET W).at x y) ((GT (DT (FT W))).at x y)
      small_at W = sym (ap (λ r. r % p) apart ∙ same-plus p _ _ _ _ first second)
        where
          U : Bigs
          U = LD (FT W)

          V : Bigs
          V = RD (FT W)

          apart : (GT (DT (FT W))).at x y ≡ (GT U).at x y + weigh (λ a. sign p (degree a) * (RG V).at a y) (m.g x)
          apart =
              ap (λ T. weigh T (m.g x)) (λ k a. (weigh-plus (λ b. U.at a b) (λ b. sign p (degree a) * V.at a b) (n.g y)
              ∙ ap (λ r. (RG U).at a y + r) (weigh-times (sign p (degree a)) (λ b. V.at a b) (n.g y))) k)
              ∙ weigh-plus (λ a. (RG U).at a y) (λ a. sign p (degree a) * (RG V).at a y) (m.g x)

          first : SameMod p ((GT U).at x y) ((LE W).at x y)
          first =
              ap (λ r. r % p) (ap (λ T. weigh T (m.g x)) (λ k a. inward_two_left m.big.d m.f n.g (RF W).at a y k))
              ∙ sym ((lm.small (column p pos (RG (RF W)) y)).at i x li gi)
              ∙ each (λ a. (RG (RF W)).at a y) (λ a. W.at a y) (λ a. (ln.fg (row p pos W a)).at j y lj gj) (m.small.d x)

          second : SameMod p (weigh (λ a. sign p (degree a) * (RG V).at a y) (m.g x)) (sign p (small_degree x) * (RE W).at x y)
          second =
              ap (λ r. r % p) (sign_out p pos degree (λ a. (RG V).at a y) i (m.g x) g_terms)
              ∙ same-times p (sign p i) ((LG (RG V)).at x y) ((RE W).at x y)
              (ap (λ r. r % p) (ap (λ T. weigh T (m.g x)) (λ k a. inward_two_right m.f n.big.d n.g (RF W).at a y k))
              ∙ (lm.fg (column p pos (RG (RD (RF W))) y)).at i x li gi
              ∙ sym ((ln.small (row p pos W x)).at j y lj gj))
              ∙ ap (λ k. (sign p k * (RE W).at x y) % p) (sym (small_graded i x gi))

      pub hg_at : (W : Bigs) → SameMod p ((GT (HT W)).at x y) 0
      hg_at W = ap (λ r. r % p) apart ∙ two _ _ first second
        where
          U : Bigs
          U = LF (LG (RH W))

          apart : (GT (HT W)).at x y ≡ (GT (LH W)).at x y + weigh (λ a. sign p (degree a) * (RG U).at a y) (m.g x)
          apart =
              ap (λ T. weigh T (m.g x)) (λ k a. (weigh-plus (λ b. (LH W).at a b) (λ b. sign p (degree a) * U.at a b) (n.g y)
              ∙ ap (λ r. (RG (LH W)).at a y + r) (weigh-times (sign p (degree a)) (λ b. U.at a b) (n.g y))) k)
              ∙ weigh-plus (λ a. (RG (LH W)).at a y) (λ a. sign p (degree a) * (RG U).at a y) (m.g x)

          first : SameMod p ((GT (LH W)).at x y) 0
          first =
              ap (λ r. r % p) (ap (λ T. weigh T (m.g x)) (λ k a. inward m.h n.g W.at a y k))
              ∙ (lm.hg (column p pos (RG W) y)).at i x li gi

          second : SameMod p (weigh (λ a. sign p (degree a) * (RG U).at a y) (m.g x)) 0
          second = none (λ a. sign p (degree a) * (RG U).at a y) (λ a. times_none (sign p (degree a)) ((RG U).at a y)
              (ap (λ r. r % p) (inward_two_left m.f m.g n.g (RH W).at a y)
              ∙ none (λ b. (LG (RG (RH W))).at b y) (λ b. none (λ c. (RG (RH W)).at c y) (λ c. (ln.hg (row p pos W c)).at j y lj gj) (m.g b)) (m.f a))) (m.g x)

    module _ (i j : ℕ) (x : A1) (y : A2) (li : i ≤ N) (lj : j ≤ M) (gi : m.big.generator i x) (gj : n.big.generator j y) where
      h_terms : Each (λ a. degree a ≡ suc i) (m.h x)
      h_terms = each_weaker (m.big.generator (suc i)) (λ a. degree a ≡ suc i) (graded (suc i)) (m.h x) (dm.h.raises i x gi)

      q_terms : Each (λ a. degree a ≡ i) (after m.g m.f x)
      q_terms =
          each_weaker (m.big.generator i) (λ a. degree a ≡ i) (graded i) (after m.g m.f x)
          (Each-extend (m.big.generator i) (m.small.generator i) m.g (dm.g.keeps i) (m.f x) (dm.f.keeps i x gi))

      -- g f on the left as one map
      to_q : (V : A1 → ℕ) → weigh (λ s. weigh V (m.g s)) (m.f x) ≡ weigh V (after m.g m.f x)
      to_q V = sym (weigh-extend V m.g (m.f x))

      -- h on the right after h
      split_h : (V W : Bigs) (a : A1) → (RH (sum p pos V (S W))).at a y ≡ (RH V).at a y + sign p (degree a) * (RH W).at a y
      split_h V W a =
          weigh-plus (λ b. V.at a b) (λ b. sign p (degree a) * W.at a b) (n.h y)
          ∙ ap (λ r. (RH V).at a y + r) (weigh-times (sign p (degree a)) (λ b. W.at a b) (n.h y))

      split_q : (V W : Bigs) → (LF (LG (RH (sum p pos V (S W))))).at x y ≡ (LF (LG (RH V))).at x y + sign p i * (LF (LG (RH W))).at x y
      split_q V W =
          to_q (λ a. (RH (sum p pos V (S W))).at a y)
          ∙ ap (λ T. weigh T (after m.g m.f x)) (λ k a. split_h V W a k)
          ∙ weigh-plus (λ a. (RH V).at a y) (λ a. sign p (degree a) * (RH W).at a y) (after m.g m.f x)
          ∙ ap (λ r. weigh (λ a. (RH V).at a y) (after m.g m.f x) + r) (sign_out p pos degree (λ a. (RH W).at a y) i (after m.g m.f x) q_terms)
          ∙ (λ k. sym (to_q (λ a. (RH V).at a y)) k + sign p i * sym (to_q (λ a. (RH W).at a y)) k)

      pub fh_at : (W : Smalls) → SameMod p ((HT (FT W)).at x y) 0
      fh_at W = two _ _ ((lm.fh (column p pos (RF W) y)).at i x li gi) (times_none (sign p (degree x)) _ second)
        where
          second : SameMod p ((LF (LG (RH (FT W)))).at x y) 0
          second = none (λ s. (LG (RH (FT W))).at s y) (λ s. none (λ a. (RH (FT W)).at a y) (λ a.
              ap (λ r. r % p) (inward m.f n.h (RF W).at a y)
              ∙ none (λ c. (RH (RF W)).at c y) (λ c. (ln.fh (row p pos W c)).at j y lj gj) (m.f a)) (m.g s)) (m.f x)

      without : (a s b : ℕ) → SameMod p (a + s * b) 0 → SameMod p b 0 → SameMod p a 0
      without a s b h k =
          ap (λ r. r % p) (let e : a ≡ a + 0 = omega arith in e) ∙ same-plus p a a 0 (s * b) refl (sym (times_none s b k)) ∙ h

      pub hh_at : (W : Bigs) → SameMod p ((HT (HT W)).at x y) 0
      hh_at W = two _ _ first (times_none (sign p (degree x)) _ second)
        where
          U : Bigs
          U = LF (LG (RH W))

          first : SameMod p ((LH (HT W)).at x y) 0
          first =
              ap (λ r. r % p) (weigh-plus (λ a. (LH W).at a y) (λ a. sign p (degree a) * U.at a y) (m.h x))
              ∙ two _ _ ((lm.hh (column p pos W y)).at i x li gi)
              (without _ (sign p i) _ (sign_above p pos degree (λ a. U.at a y) i (m.h x) h_terms) ((lm.fh (column p pos (LG (RH W)) y)).at i x li gi))

          ends : SameMod p ((LF (LG (RH (LH W)))).at x y) 0
          ends =
              ap (λ r. r % p) (ap (λ T. weigh T (m.f x)) (λ k s. ap (λ T. weigh T (m.g s)) (λ l a. inward m.h n.h W.at a y l) k))
              ∙ (kept p pos dm.small.equivalence m.f dm.f (lm.hg (column p pos (RH W) y))).at i x li gi
              ∙ ap (λ r. r % p) (weigh-none (m.f x))

          second : SameMod p ((LF (LG (RH (HT W)))).at x y) 0
          second =
              ap (λ r. r % p) (split_q (LH W) U)
              ∙ two _ _ ends (times_none (sign p i) _
              (none (λ s. (LG (RH U)).at s y) (λ s. none (λ a. (RH U).at a y) (λ a.
              ap (λ r. r % p) (inward_two_left m.f m.g n.h (RH W).at a y)
              ∙ none (λ b. (LG (RH (RH W))).at b y) (λ b. none (λ c. (RH (RH W)).at c y) (λ c. (ln.hh (row p pos W c)).at j y lj gj) (m.g b)) (m.f a)) (m.g s)) (m.f x)))

      -- the seven sums of the homotopy equation
      mix : (s : ℕ) (a1 b1 c1 e a2 b2 b e2 e3 r w u : ℕ) → ((a : ℕ) → SameMod p (s * (s * a)) a)
          → SameMod p (b1 + s * b) 0 → SameMod p c1 u → SameMod p (b2 + s * u) 0 → SameMod p (e + (e2 + e3)) r → SameMod p (a1 + (a2 + r)) w
          → SameMod p (a1 + b1 + s * (c1 + s * e) + (a2 + b2 + s * (b + s * e2) + e3)) w
      mix s a1 b1 c1 e a2 b2 b e2 e3 r w u twice hb hc hu hr hw =
          ap (λ r. r % p) sorted
          ∙ same-plus p _ _ _ 0 (same-plus p a1 a1 _ _ refl (same-plus p a2 a2 _ r refl
          (same-plus p (s * (s * e)) e (s * (s * e2) + e3) (e2 + e3) (twice e) (same-plus p (s * (s * e2)) e2 e3 e3 (twice e2) refl) ∙ hr)) ∙ hw)
          (two _ _ hb (same-plus p b2 b2 (s * c1) (s * u) refl (same-times p s c1 u hc) ∙ hu))
          ∙ ap (λ r. r % p) (let q : w + 0 ≡ w = omega arith in q)
        where
          sorted : a1 + b1 + s * (c1 + s * e) + (a2 + b2 + s * (b + s * e2) + e3) ≡ a1 + (a2 + (s * (s * e) + (s * (s * e2) + e3))) + ((b1 + s * b) + (b2 + s * c1))
          sorted = omega arith

      pub homotopy_at : (W : Bigs) → SameMod p ((HT (DT W)).at x y + ((DT (HT W)).at x y + (FT (GT W)).at x y)) (W.at x y)
      homotopy_at W =
          ap (λ r. r % p) (λ k. h_d k + (d_h k + f_g k))
          ∙ mix (sign p i) ((LH (LD W)).at x y) (weigh (λ a. sign p (degree a) * (RD W).at a y) (m.h x)) ((LF (LG (RH (LD W)))).at x y) ((LF (LG (RH (RD W)))).at x y)
          ((LD (LH W)).at x y) (weigh (λ a. sign p (degree a) * U.at a y) (m.big.d x)) ((LH (RD W)).at x y) ((LF (LG (RD (RH W)))).at x y) ((LF (LG (RF (RG W)))).at x y)
          ((LF (LG W)).at x y) (W.at x y) ((LD U).at x y) (sign_twice p pos i)
          (sign_above p pos degree (λ a. (RD W).at a y) i (m.h x) h_terms) turned
          (sign_below p pos degree (λ a. U.at a y) i (m.big.d x) (d_terms graded i x gi)) on_the_right ((lm.homotopy (column p pos W y)).at i x li gi)
        where
          U : Bigs
          U = LF (LG (RH W))

          at_i : (a : ℕ) → sign p (degree x) * a ≡ sign p i * a
          at_i a = ap (λ k. sign p k * a) (graded i x gi)

          h_d : (HT (DT W)).at x y ≡ (LH (LD W)).at x y + weigh (λ a. sign p (degree a) * (RD W).at a y) (m.h x) + sign p i * ((LF (LG (RH (LD W)))).at x y + sign p i * (LF (LG (RH (RD W)))).at x y)
          h_d = λ k. weigh-plus (λ a. (LD W).at a y) (λ a. sign p (degree a) * (RD W).at a y) (m.h x) k
              + (at_i ((LF (LG (RH (DT W)))).at x y) ∙ ap (λ r. sign p i * r) (split_q (LD W) (RD W))) k

          d_h : (DT (HT W)).at x y ≡ (LD (LH W)).at x y + weigh (λ a. sign p (degree a) * U.at a y) (m.big.d x) + sign p i * ((LH (RD W)).at x y + sign p i * (LF (LG (RD (RH W)))).at x y)
          d_h = λ k. weigh-plus (λ a. (LH W).at a y) (λ a. sign p (degree a) * U.at a y) (m.big.d x) k
              + (at_i ((RD (HT W)).at x y) ∙ ap (λ r. sign p i * r) inner) k
            where
              inner : (RD (HT W)).at x y ≡ (LH (RD W)).at x y + sign p i * (LF (LG (RD (RH W)))).at x y
              inner =
                  weigh-plus (λ b. (LH W).at x b) (λ b. sign p (degree x) * U.at x b) (n.big.d y)
                  ∙ (λ k. inward m.h n.big.d W.at x y k + (weigh-times (sign p (degree x)) (λ b. U.at x b) (n.big.d y) ∙ at_i ((RD U).at x y)
                  ∙ ap (λ r. sign p i * r) (inward_two_left m.f m.g n.big.d (RH W).at x y)) k)

          f_g : (FT (GT W)).at x y ≡ (LF (LG (RF (RG W)))).at x y
          f_g = ap (λ T. weigh T (m.f x)) (λ k s. inward m.g n.f (RG W).at s y k)

          turned : SameMod p ((LF (LG (RH (LD W)))).at x y) ((LD U).at x y)
          turned =
              ap (λ r. r % p) (ap (λ T. weigh T (m.f x)) (λ k s. ap (λ T. weigh T (m.g s)) (λ l a. inward m.big.d n.h W.at a y l) k))
              ∙ (kept p pos dm.small.equivalence m.f dm.f (g_turned p pos m dm N lm (column p pos (RH W) y))).at i x li gi
              ∙ (f_turned p pos m dm N lm (G p pos m dm (column p pos (RH W) y))).at i x li gi

          on_the_right : SameMod p ((LF (LG (RH (RD W)))).at x y + ((LF (LG (RD (RH W)))).at x y + (LF (LG (RF (RG W)))).at x y)) ((LF (LG W)).at x y)
          on_the_right =
              ap (λ r. r % p) ((λ k. to_q (λ a. (RH (RD W)).at a y) k + (to_q (λ a. (RD (RH W)).at a y) k + to_q (λ a. (RF (RG W)).at a y) k))
              ∙ ap (λ r. weigh (λ a. (RH (RD W)).at a y) (after m.g m.f x) + r) (sym (weigh-plus (λ a. (RD (RH W)).at a y) (λ a. (RF (RG W)).at a y) (after m.g m.f x)))
              ∙ sym (weigh-plus (λ a. (RH (RD W)).at a y) (λ a. (RD (RH W)).at a y + (RF (RG W)).at a y) (after m.g m.f x)))
              ∙ each (λ a. (RH (RD W)).at a y + ((RD (RH W)).at a y + (RF (RG W)).at a y)) (λ a. W.at a y) (λ a. (ln.homotopy (row p pos W a)).at j y lj gj) (after m.g m.f x)
              ∙ ap (λ r. r % p) (sym (to_q (λ a. W.at a y)))
