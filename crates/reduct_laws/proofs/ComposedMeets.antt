-- A composition of reductions is a reduction: one as far as degree N where the first is one as far as degree N + 1 and the second as far
-- as degree N.
use Rattle.std.proofs.Common.{◌≡◌, ℕ, suc, ◌+◌, ◌%◌, ◌<◌, refl, sym, ◌∙◌, ap, arith}
use Rattle.fp_field.specs.Chains.{weigh}
use Rattle.fp_field.specs.Reduction.{after, Maps, HasDegrees, IsReductionTo, IsSameComplex}
use Rattle.fp_field.proofs.Weights.{weigh-append, weigh-extend, Each-append, Each-extend}
use Rattle.fp_field.proofs.Fair.{from_weights}
use Rattle.reduct_laws.specs.Combinators.{composed}
use Rattle.reduct_laws.proofs.Fairly.{Weight, plus, nothing, Agree, itself, chain, back, both, exact, less, none_left, along-plus, along-nothing, kept, raised, lowered}
use Rattle.reduct_laws.proofs.SixLaws.{D, E, F, G, H, Laws, g_turned, f_turned}
use Rattle.reduct_laws.proofs.Equations.{to_laws, is_reduction}
use Rattle.reduct_laws.proofs.Rebased.{rebased, rebased_degrees, rebased_laws}

module _ (p : ℕ) (pos : 0 < p) {A B C : Type 0} (m : Maps A B) (n : Maps B C) (dm : HasDegrees p m) (dn : HasDegrees p (rebased m.small n)) where
  abbrev n' : Maps B C
  n' = rebased m.small n

  abbrev WA : Type 0
  WA = Weight p pos m.big.same

  abbrev WB : Type 0
  WB = Weight p pos m.small.same

  abbrev WC : Type 0
  WC = Weight p pos n.small.same

  abbrev big_d : WA → WA
  big_d w = D p pos m dm w

  abbrev E1 : WB → WB
  E1 w = E p pos m dm w

  abbrev F1 : WB → WA
  F1 w = F p pos m dm w

  abbrev G1 : WA → WB
  G1 w = G p pos m dm w

  abbrev H1 : WA → WA
  H1 w = H p pos m dm w

  abbrev middle_d : WB → WB
  middle_d w = D p pos n' dn w

  abbrev F2 : WC → WB
  F2 w = F p pos n' dn w

  abbrev G2 : WB → WC
  G2 w = G p pos n' dn w

  abbrev H2 : WB → WB
  H2 w = H p pos n' dn w

  weigh-h : (w : A → ℕ) (x : A) → weigh w ((composed m n).h x) ≡ weigh w (m.h x) + weigh (λ j. weigh (λ i. weigh w (m.g i)) (n.h j)) (m.f x)
  weigh-h w x = weigh-append w (m.h x) (after m.g (after n.h m.f) x)
      ∙ ap (λ r. weigh w (m.h x) + r) (weigh-extend w m.g (after n.h m.f x) ∙ weigh-extend (λ i. weigh w (m.g i)) n.h (m.f x))

  abbrev degrees : HasDegrees p (composed m n)
  degrees = record {
    big = dm.big;
    small = dn.small;
    f = record {
      keeps = λ k x g. Each-extend (n.small.generator k) (m.small.generator k) n.f (dn.f.keeps k) (m.f x) (dm.f.keeps k x g);
      respects = λ x y e. from_weights p pos n.small.same dn.small.equivalence (after n.f m.f x) (after n.f m.f y) (λ w fair.
          ap (λ r. r % p) (weigh-extend w n.f (m.f x)) ∙ (F1 (F2 (record { at = w; fair = fair }))).fair x y e ∙ ap (λ r. r % p) (sym (weigh-extend w n.f (m.f y))));
    };
    g = record {
      keeps = λ k y g. Each-extend (m.big.generator k) (m.small.generator k) m.g (dm.g.keeps k) (n.g y) (dn.g.keeps k y g);
      respects = λ x y e. from_weights p pos m.big.same dm.big.graded.equivalence (after m.g n.g x) (after m.g n.g y) (λ w fair.
          ap (λ r. r % p) (weigh-extend w m.g (n.g x)) ∙ (G2 (G1 (record { at = w; fair = fair }))).fair x y e ∙ ap (λ r. r % p) (sym (weigh-extend w m.g (n.g y))));
    };
    h = record {
      raises = λ k x g. Each-append (m.big.generator (suc k)) (m.h x) (after m.g (after n.h m.f) x) (dm.h.raises k x g)
          (Each-extend (m.big.generator (suc k)) (m.small.generator (suc k)) m.g (dm.g.keeps (suc k)) (after n.h m.f x)
          (Each-extend (m.small.generator (suc k)) (m.small.generator k) n.h (dn.h.raises k) (m.f x) (dm.f.keeps k x g)));
      respects = λ x y e. from_weights p pos m.big.same dm.big.graded.equivalence ((composed m n).h x) ((composed m n).h y) (λ w fair.
          ap (λ r. r % p) (weigh-h w x)
          ∙ (plus p pos (H1 (record { at = w; fair = fair })) (F1 (H2 (G1 (record { at = w; fair = fair }))))).fair x y e
          ∙ ap (λ r. r % p) (sym (weigh-h w y)));
    };
  }

  abbrev FC : WC → WA
  FC w = F p pos (composed m n) degrees w

  abbrev GC : WA → WC
  GC w = G p pos (composed m n) degrees w

  abbrev HC : WA → WA
  HC w = H p pos (composed m n) degrees w

  module _ {K : ℕ} where
    f_parts : (w : WC) → Agree p pos m.big K (FC w) (F1 (F2 w))
    f_parts w = exact p pos (FC w) (F1 (F2 w)) (λ x. weigh-extend w.at n.f (m.f x))

    g_parts : (w : WA) → Agree p pos n.small K (GC w) (G2 (G1 w))
    g_parts w = exact p pos (GC w) (G2 (G1 w)) (λ y. weigh-extend w.at m.g (n.g y))

    h_parts : (w : WA) → Agree p pos m.big K (HC w) (plus p pos (H1 w) (F1 (H2 (G1 w))))
    h_parts w = exact p pos (HC w) (plus p pos (H1 w) (F1 (H2 (G1 w)))) (weigh-h w.at)

    keep_d : {v w : WA} → Agree p pos m.big K v w → Agree p pos m.big K (big_d v) (big_d w)
    keep_d a = lowered p pos dm.big.graded a

    keep_f1 : {v w : WB} → Agree p pos m.small K v w → Agree p pos m.big K (F1 v) (F1 w)
    keep_f1 a = kept p pos dm.small.equivalence m.f dm.f a

    keep_g1 : {v w : WA} → Agree p pos m.big K v w → Agree p pos m.small K (G1 v) (G1 w)
    keep_g1 a = kept p pos dm.big.graded.equivalence m.g dm.g a

    keep_h1 : {v w : WA} → Agree p pos m.big (suc K) v w → Agree p pos m.big K (H1 v) (H1 w)
    keep_h1 a = raised p pos dm.big.graded.equivalence m.h dm.h a

    keep_f2 : {v w : WC} → Agree p pos n.small K v w → Agree p pos m.small K (F2 v) (F2 w)
    keep_f2 a = kept p pos dn.small.equivalence n.f dn.f a

    keep_g2 : {v w : WB} → Agree p pos m.small K v w → Agree p pos n.small K (G2 v) (G2 w)
    keep_g2 a = kept p pos dn.big.graded.equivalence n.g dn.g a

    keep_h2 : {v w : WB} → Agree p pos m.small (suc K) v w → Agree p pos m.small K (H2 v) (H2 w)
    keep_h2 a = raised p pos dn.big.graded.equivalence n.h dn.h a

    -- the differential in the middle is one
    middle : (w : WB) → Agree p pos m.small K (middle_d w) (E1 w)
    middle w = exact p pos (middle_d w) (E1 w) (λ x. refl)

    zero_f1 : Agree p pos m.big K (F1 (nothing p pos)) (nothing p pos)
    zero_f1 = along-nothing p pos m.big m.small dm.small.equivalence m.f dm.f.respects

    zero_g2 : Agree p pos n.small K (G2 (nothing p pos)) (nothing p pos)
    zero_g2 = along-nothing p pos n.small m.small dn.big.graded.equivalence n.g dn.g.respects

  module _ (N : ℕ) (lm : Laws p pos m dm (suc N)) (ln : Laws p pos n' dn N) where
    -- g of the first after h, and f of the first after h
    g_of_h : (w : WA) → Agree p pos m.small (suc N) (G1 (HC w)) (H2 (G1 w))
    g_of_h w =
        chain p pos (keep_g1 (h_parts w))
        (chain p pos (along-plus p pos m.small m.big dm.big.graded.equivalence m.g dm.g.respects (H1 w) (F1 (H2 (G1 w))))
        (chain p pos (both p pos (lm.hg w) (lm.fg (H2 (G1 w)))) (none_left p pos (H2 (G1 w)))))

    h_of_f : (w : WB) → Agree p pos m.big N (HC (F1 w)) (F1 (H2 w))
    h_of_f w =
        chain p pos (h_parts (F1 w))
        (chain p pos (both p pos (less p pos (lm.fh w)) (keep_f1 (keep_h2 (lm.fg w)))) (none_left p pos (F1 (H2 w))))

    small_at : (w : WC) → Agree p pos n.small N (E p pos n' dn w) (GC (big_d (FC w)))
    small_at w =
        chain p pos (ln.small w)
        (chain p pos (keep_g2 (middle (F2 w)))
        (chain p pos (keep_g2 (less p pos (lm.small (F2 w))))
        (chain p pos (keep_g2 (keep_g1 (keep_d (back p pos (f_parts w))))) (back p pos (g_parts (big_d (FC w)))))))

    fg_at : (w : WC) → Agree p pos n.small N (GC (FC w)) w
    fg_at w =
        chain p pos (g_parts (FC w))
        (chain p pos (keep_g2 (keep_g1 (f_parts w))) (chain p pos (keep_g2 (less p pos (lm.fg (F2 w)))) (ln.fg w)))

    fh_at : (w : WC) → Agree p pos m.big N (HC (FC w)) (nothing p pos)
    fh_at w =
        chain p pos (raised p pos dm.big.graded.equivalence (composed m n).h degrees.h (f_parts w))
        (chain p pos (h_of_f (F2 w)) (chain p pos (keep_f1 (ln.fh w)) zero_f1))

    hg_at : (w : WA) → Agree p pos n.small N (GC (HC w)) (nothing p pos)
    hg_at w = chain p pos (g_parts (HC w)) (chain p pos (keep_g2 (less p pos (g_of_h w))) (ln.hg (G1 w)))

    hh_at : (w : WA) → Agree p pos m.big N (HC (HC w)) (nothing p pos)
    hh_at w =
        chain p pos (h_parts (HC w))
        (chain p pos (both p pos first (chain p pos (keep_f1 (chain p pos (keep_h2 (g_of_h w)) (ln.hh (G1 w)))) zero_f1)) (none_left p pos (nothing p pos)))
      where
        first : Agree p pos m.big N (H1 (HC w)) (nothing p pos)
        first =
            chain p pos (keep_h1 (h_parts w))
            (chain p pos (along-plus p pos m.big m.big dm.big.graded.equivalence m.h dm.h.respects (H1 w) (F1 (H2 (G1 w))))
            (chain p pos (both p pos (less p pos (lm.hh w)) (less p pos (lm.fh (H2 (G1 w))))) (none_left p pos (nothing p pos))))

    homotopy_at : (w : WA) → Agree p pos m.big N (plus p pos (HC (big_d w)) (plus p pos (big_d (HC w)) (FC (GC w)))) w
    homotopy_at w =
        chain p pos (both p pos h_d (both p pos d_h f_g))
        (chain p pos mixed (chain p pos (both p pos (itself p pos) (both p pos (itself p pos) in_middle)) (less p pos (lm.homotopy w))))
      where
        h_d : Agree p pos m.big N (HC (big_d w)) (plus p pos (H1 (big_d w)) (F1 (H2 (middle_d (G1 w)))))
        h_d =
            chain p pos (h_parts (big_d w))
            (both p pos (itself p pos) (keep_f1 (keep_h2 (chain p pos (g_turned p pos m dm (suc N) lm w) (back p pos (middle (G1 w)))))))

        d_h : Agree p pos m.big N (big_d (HC w)) (plus p pos (big_d (H1 w)) (F1 (middle_d (H2 (G1 w)))))
        d_h =
            chain p pos (keep_d (h_parts w))
            (chain p pos (along-plus p pos m.big m.big dm.big.graded.equivalence m.big.d dm.big.graded.respects (H1 w) (F1 (H2 (G1 w))))
            (both p pos (itself p pos)
            (chain p pos (back p pos (less p pos (f_turned p pos m dm (suc N) lm (H2 (G1 w))))) (keep_f1 (back p pos (middle (H2 (G1 w))))))))

        f_g : Agree p pos m.big N (FC (GC w)) (F1 (F2 (G2 (G1 w))))
        f_g = chain p pos (f_parts (GC w)) (keep_f1 (keep_f2 (g_parts w)))

        in_middle : Agree p pos m.big N (plus p pos (F1 (H2 (middle_d (G1 w)))) (plus p pos (F1 (middle_d (H2 (G1 w)))) (F1 (F2 (G2 (G1 w)))))) (F1 (G1 w))
        in_middle =
            chain p pos (both p pos (itself p pos) (back p pos (along-plus p pos m.big m.small dm.small.equivalence m.f dm.f.respects (middle_d (H2 (G1 w))) (F2 (G2 (G1 w))))))
            (chain p pos (back p pos (along-plus p pos m.big m.small dm.small.equivalence m.f dm.f.respects (H2 (middle_d (G1 w))) (plus p pos (middle_d (H2 (G1 w))) (F2 (G2 (G1 w))))))
            (keep_f1 (ln.homotopy (G1 w))))

        mixed : Agree p pos m.big N
            (plus p pos (plus p pos (H1 (big_d w)) (F1 (H2 (middle_d (G1 w))))) (plus p pos (plus p pos (big_d (H1 w)) (F1 (middle_d (H2 (G1 w))))) (F1 (F2 (G2 (G1 w))))))
            (plus p pos (H1 (big_d w)) (plus p pos (big_d (H1 w)) (plus p pos (F1 (H2 (middle_d (G1 w)))) (plus p pos (F1 (middle_d (H2 (G1 w)))) (F1 (F2 (G2 (G1 w))))))))
        mixed = exact p pos _ _ (λ x. five ((H1 (big_d w)).at x) ((F1 (H2 (middle_d (G1 w)))).at x) ((big_d (H1 w)).at x) ((F1 (middle_d (H2 (G1 w)))).at x) ((F1 (F2 (G2 (G1 w)))).at x))
          where
            five : (a b c d e : ℕ) → a + b + (c + d + e) ≡ a + (c + (b + (d + e)))
            five a b c d e = omega arith

    pub meets : IsReductionTo p N (composed m n)
    meets = is_reduction p pos (composed m n) degrees N (record { small = small_at; fg = fg_at; homotopy = homotopy_at; fh = fh_at; hg = hg_at; hh = hh_at })

module _ (p : ℕ) (pos : 0 < p) {A B C : Type 0} (m : Maps A B) (n : Maps B C) (e : IsSameComplex p m.small n.big) where
  pub composed_meets : (N : ℕ) → IsReductionTo p (suc N) m → IsReductionTo p N n → IsReductionTo p N (composed m n)
  composed_meets N first second =
      meets p pos m n first.degrees (rebased_degrees p pos m.small first.degrees.small n e N second) N
      (to_laws p pos m first.degrees (suc N) first.equations) (rebased_laws p pos m.small first.degrees.small n e N second)
