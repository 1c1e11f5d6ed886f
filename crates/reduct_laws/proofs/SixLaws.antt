-- The six equations of a reduction from which the others follow, in weights.
use Rattle.std.proofs.Common.{ℕ, suc, ◌%◌, ◌<◌, [], sym, ◌∙◌, ap}
use Rattle.fp_field.specs.Reduction.{after, Maps, HasDegrees}
use Rattle.fp_field.proofs.Weights.{weigh-extend}
use Rattle.fp_field.proofs.Fair.{under}
use Rattle.reduct_laws.proofs.Fairly.{Weight, plus, nothing, along, Agree, itself, chain, back, both, cancelled, none_left, along-plus, along-nothing, kept, raised, lowered}

module _ (p : ℕ) (pos : 0 < p) {B S : Type 0} (m : Maps B S) (deg : HasDegrees p m) where
  abbrev pub Big : Type 0
  Big = Weight p pos m.big.same

  abbrev pub Small : Type 0
  Small = Weight p pos m.small.same

  abbrev pub D : Big → Big
  D w = along p pos m.big m.big deg.big.graded.equivalence m.big.d deg.big.graded.respects w

  abbrev pub E : Small → Small
  E w = along p pos m.small m.small deg.small.equivalence m.small.d deg.small.respects w

  abbrev pub F : Small → Big
  F w = along p pos m.big m.small deg.small.equivalence m.f deg.f.respects w

  abbrev pub G : Big → Small
  G w = along p pos m.small m.big deg.big.graded.equivalence m.g deg.g.respects w

  abbrev pub H : Big → Big
  H w = along p pos m.big m.big deg.big.graded.equivalence m.h deg.h.respects w

  -- d' = f d g, f g = 1, h d + (d h + g f) = 1, f h = 0, h g = 0, h h = 0, from right to left as weights are pulled back
  pub record Laws (N : ℕ) : Type 0 where
    pub small : (w : Small) → Agree p pos m.small N (E w) (G (D (F w)))
    pub fg : (w : Small) → Agree p pos m.small N (G (F w)) w
    pub homotopy : (w : Big) → Agree p pos m.big N (plus p pos (H (D w)) (plus p pos (D (H w)) (F (G w)))) w
    pub fh : (w : Small) → Agree p pos m.big N (H (F w)) (nothing p pos)
    pub hg : (w : Big) → Agree p pos m.small N (G (H w)) (nothing p pos)
    pub hh : (w : Big) → Agree p pos m.big N (H (H w)) (nothing p pos)

  pub twice : (N : ℕ) (w : Big) → Agree p pos m.big N (D (D w)) (nothing p pos)
  twice N w = record {
    at = λ n x l g.
        ap (λ r. r % p) (sym (weigh-extend w.at m.big.d (m.big.d x))) ∙ under p pos m.big.same deg.big.graded.equivalence w.at w.fair (after m.big.d m.big.d x) [] (deg.big.twice n x g);
  }

  module _ (N : ℕ) (laws : Laws N) where
    keep_d : {v w : Big} → Agree p pos m.big N v w → Agree p pos m.big N (D v) (D w)
    keep_d a = lowered p pos deg.big.graded a

    keep_e : {v w : Small} → Agree p pos m.small N v w → Agree p pos m.small N (E v) (E w)
    keep_e a = lowered p pos deg.small a

    keep_f : {v w : Small} → Agree p pos m.small N v w → Agree p pos m.big N (F v) (F w)
    keep_f a = kept p pos deg.small.equivalence m.f deg.f a

    keep_g : {v w : Big} → Agree p pos m.big N v w → Agree p pos m.small N (G v) (G w)
    keep_g a = kept p pos deg.big.graded.equivalence m.g deg.g a

    -- g f goes past d
    turned : (w : Big) → Agree p pos m.big N (F (G (D w))) (D (F (G w)))
    turned w = cancelled p pos (D (H (D w))) (F (G (D w))) (D (F (G w))) (chain p pos left (back p pos right))
      where
        left : Agree p pos m.big N (plus p pos (D (H (D w))) (F (G (D w)))) (D w)
        left =
            chain p pos (back p pos (none_left p pos (plus p pos (D (H (D w))) (F (G (D w))))))
            (chain p pos (both p pos (back p pos (chain p pos (raised p pos deg.big.graded.equivalence m.h deg.h (twice (suc N) w))
            (along-nothing p pos m.big m.big deg.big.graded.equivalence m.h deg.h.respects))) (itself p pos))
            (laws.homotopy (D w)))

        right : Agree p pos m.big N (plus p pos (D (H (D w))) (D (F (G w)))) (D w)
        right =
            chain p pos (both p pos (itself p pos)
            (chain p pos (back p pos (none_left p pos (D (F (G w)))))
            (chain p pos (both p pos (back p pos (twice N (H w))) (itself p pos))
            (back p pos (along-plus p pos m.big m.big deg.big.graded.equivalence m.big.d deg.big.graded.respects (D (H w)) (F (G w)))))))
            (chain p pos (back p pos (along-plus p pos m.big m.big deg.big.graded.equivalence m.big.d deg.big.graded.respects (H (D w)) (plus p pos (D (H w)) (F (G w)))))
            (keep_d (laws.homotopy w)))

    pub g_turned : (w : Big) → Agree p pos m.small N (G (D w)) (E (G w))
    g_turned w = chain p pos (back p pos (laws.fg (G (D w)))) (chain p pos (keep_g (turned w)) (back p pos (laws.small (G w))))

    pub f_turned : (w : Small) → Agree p pos m.big N (F (E w)) (D (F w))
    f_turned w = chain p pos (keep_f (laws.small w)) (chain p pos (turned (F w)) (keep_d (keep_f (laws.fg w))))

    pub small_twice : (w : Small) → Agree p pos m.small N (E (E w)) (nothing p pos)
    small_twice w =
        chain p pos (laws.small (E w)) (chain p pos (keep_g (keep_d (f_turned w)))
        (chain p pos (keep_g (twice N (F w))) (along-nothing p pos m.small m.big deg.big.graded.equivalence m.g deg.g.respects)))
