-- The first perturbation on chains of the code is that on the chains that they stand for.
use Rattle.std.proofs.Common.{◌≡◌, ℕ, zero, suc, ◌+◌, ◌-◌, ◌*◌, ◌<◌, ◌≤◌, List, [], ◌∷◌, Option, ℤ, refl, sym, ◌∙◌, ap, subst, arith, bit_and}
use Rattle.fp_field.specs.Chains.{Terms, Each}
use Rattle.fp_field.specs.Normal.{apply}
use Rattle.fp_field.specs.Reduction.{after}
use Rattle.fp_field.specs.Series.{series}
use Rattle.spaces.specs.Spaces.{Space, Plain, set_of}
use Rattle.spaces.specs.Orders.{ordered}
use Rattle.spaces.specs.EilenbergZilber.{Pair, Tensor as PlainTensor, linear, pair_order, tensor_order, aw, eml, flow}
use Rattle.cells.specs.Dim.{dim_of}
use Rattle.cells.specs.Order.{cell_cmp}
use Rattle.cells.specs.declared.cells.Cell.{Cell}
use Rattle.cells.specs.declared.cells.Cell.TheVariants.{Pair as PairCell}
use Rattle.cells.specs.declared.cells.Simplex.{Simplex}
use Rattle.term_lang.specs.Forms.{form, vertex_of}
use Rattle.term_lang.specs.Quote.{quote}
use Rattle.space_faces.specs.Built.{IsAllowedBuilt}
use Rattle.ez_laws.proofs.Eaches.{each-so, each-keys}
use Rattle.ez_flow.specs.CodeMaps.{cell_for, pair_degree, left_degree_in}
use Rattle.ez_flow.proofs.PairCells.{split-pair, out-pair, weight-pair}
use Rattle.ez_maps.specs.Tensors.{tensor_cmp, tensor_form, tensor_for}
use Rattle.space_pairs.specs.Parts.{IsReached, reached_graded}
use Rattle.tensor_red.specs.declared.tensors.Tensor.{Tensor}
use Rattle.perturb.specs.PerturbedLists.{series_may_ask}
use Rattle.twist_chains.specs.Fibred.{twist_by, AreTwistValues, growth, room, simplex_in, pair_form, read_pairs, quote_pairs, read_tensors, quote_tensors, IsPairWithin, IsTensorWithin, flow_on, front_on, shuffle_on, turn_on, MayFlow, MayFront, MayShuffle, MayTurn}
use Rattle.twist_chains.proofs.Transport.{Keeps, Carries, apply-carried, apply-each}
use Rattle.twist_chains.proofs.CodeParts.{AreParts}
use Rattle.twist_chains.proofs.CodeKeys as C
use Rattle.twist_chains.proofs.Stages as S
use Rattle.twist_chains.proofs.FirstParts.{reach_wider, parts-within, Key, twist-has, twist-ends}

at-most : (a b g : ℕ) → a ≤ b → a * g ≤ b * g
at-most zero b g l = omega arith
at-most (suc a) zero g l = absurd (omega (arith, l))
at-most (suc a) (suc b) g l = omega (arith, at-most a b g (omega (arith, l)))

module _ (p : ℕ) (pos : 0 < p) (a b : Space) (ka : IsAllowedBuilt a) (kb : IsAllowedBuilt b) where
  abbrev cell : Pair (Plain a) (Plain b) → Cell
  cell s = cell_for (quote a) (quote b) s

  abbrev key : PlainTensor (Plain a) (Plain b) → Tensor Cell Cell
  key z = tensor_for (quote a) (quote b) z

  abbrev PairKey : ℕ → ℕ → Pair (Plain a) (Plain b) → Type 0
  PairKey m n s = Key p pos a b ka kb m n s

  abbrev TensorKey : ℕ → ℕ → PlainTensor (Plain a) (Plain b) → Type 0
  TensorKey m n z =
      S.TensorKey p pos (linear (ordered a)) (set_of a).In (ordered b) (IsReached a) (λ s. form s a) (quote a) (IsReached b) (λ s. form s b) (quote b) (parts-within p pos a b ka kb)
      (reach_wider a) (reach_wider b) m n z

  abbrev parts : (m : ℕ) → AreParts p (linear (ordered a)) (set_of a).In (ordered b) (IsReached a m) (λ s. form s a) (quote a) (IsReached b m) (λ s. form s b) (quote b)
  parts m = parts-within p pos a b ka kb m

  -- ---- reading and quoting

  form-is : (m n : ℕ) (d : Cell) (x y : Simplex) → d ≡ PairCell x y → IsReached a m n x → pair_form a b d ≡ (n, form x a, form y b)
  form-is m n d x y e h =
      let degree : pair_degree dim_of (PairCell x y) ≡ n = weight-pair (λ x y. left_degree_in dim_of x) x y ∙ reached_graded a ka m n x h in
      ap (pair_form a b) e
      ∙ (λ i. (degree i, simplex_in (λ x y. form x a) (vertex_of a) (out-pair x y i), simplex_in (λ x y. form y b) (vertex_of b) (out-pair x y i)))

  pair-read : (m n : ℕ) (d : Cell) → IsPairWithin a b m n d → PairKey m n (pair_form a b d) × (cell (pair_form a b d) ≡ d)
  pair-read m n d h =
      let r = split-pair (λ x y. IsReached a m n x × IsReached b m n y × (bit_and x.degens.mask y.degens.mask ≡ 0)) d h in
      let f = form-is m n d r.0 r.1 r.2 r.3.0 in
      let q = C.pair-from p pos (linear (ordered a)) (set_of a).In (ordered b) (IsReached a m) (λ s. form s a) (quote a) (IsReached b m) (λ s. form s b) (quote b) (parts m) n d r.0 r.1 r.2 h in
      (subst (PairKey m n) (sym f) q.0, ap cell f ∙ q.1)

  pub pairs-read : (m n : ℕ) (c : Terms Cell) → Each (IsPairWithin a b m n) c → Each (PairKey m n) (read_pairs a b c)
  pairs-read m n [] h = tt
  pairs-read m n (t ∷ c) h = ((pair-read m n t.0 h.0).0, pairs-read m n c h.1)

  pub pairs-back : (m n : ℕ) (c : Terms Cell) → Each (IsPairWithin a b m n) c → quote_pairs a b (read_pairs a b c) ≡ c
  pairs-back m n [] h = refl
  pairs-back m n (t ∷ c) h = λ i. ((pair-read m n t.0 h.0).1 i, t.1) ∷ pairs-back m n c h.1 i

  tensor-read : (m n : ℕ) (t : Tensor Cell Cell) → IsTensorWithin a b m n t
      → TensorKey m n (tensor_form dim_of (λ s. form s a) (λ s. form s b) t) × (key (tensor_form dim_of (λ s. form s a) (λ s. form s b) t) ≡ t)
  tensor-read m n t h = C.tensor-from p pos (linear (ordered a)) (set_of a).In (ordered b) (IsReached a m) (λ s. form s a) (quote a) (IsReached b m) (λ s. form s b) (quote b) (parts m) n t h

  pub tensors-read : (m n : ℕ) (c : Terms (Tensor Cell Cell)) → Each (IsTensorWithin a b m n) c → Each (TensorKey m n) (read_tensors a b c)
  tensors-read m n [] h = tt
  tensors-read m n (t ∷ c) h = ((tensor-read m n t.0 h.0).0, tensors-read m n c h.1)

  pub tensors-back : (m n : ℕ) (c : Terms (Tensor Cell Cell)) → Each (IsTensorWithin a b m n) c → quote_tensors a b (read_tensors a b c) ≡ c
  tensors-back m n [] h = refl
  tensors-back m n (t ∷ c) h = λ i. ((tensor-read m n t.0 h.0).1 i, t.1) ∷ tensors-back m n c h.1 i

  pair-is : (m n : ℕ) (s : Pair (Plain a) (Plain b)) → PairKey m n s → IsPairWithin a b m n (cell s)
  pair-is m n s h = C.pair-is p pos (linear (ordered a)) (set_of a).In (ordered b) (IsReached a m) (λ s. form s a) (quote a) (IsReached b m) (λ s. form s b) (quote b) (parts m) n s h

  pub pairs-are : (m n : ℕ) (c : Terms (Pair (Plain a) (Plain b))) → Each (PairKey m n) c → Each (IsPairWithin a b m n) (quote_pairs a b c)
  pairs-are m n c h = each-keys (IsPairWithin a b m n) cell c (each-so c (pair-is m n) h)

  tensor-is : (m n : ℕ) (z : PlainTensor (Plain a) (Plain b)) → TensorKey m n z → IsTensorWithin a b m n (key z)
  tensor-is m n z h = C.tensor-is p pos (linear (ordered a)) (set_of a).In (ordered b) (IsReached a m) (λ s. form s a) (quote a) (IsReached b m) (λ s. form s b) (quote b) (parts m) n z h

  pub tensors-are : (m n : ℕ) (c : Terms (PlainTensor (Plain a) (Plain b))) → Each (TensorKey m n) c → Each (IsTensorWithin a b m n) (quote_tensors a b c)
  tensors-are m n c h = each-keys (IsTensorWithin a b m n) key c (each-so c (tensor-is m n) h)

  -- ---- the maps of the code

  abbrev pub flow_code : Cell → Terms Cell
  flow_code c = flow_on a b p c

  abbrev pub front_code : Cell → Terms (Tensor Cell Cell)
  front_code c = front_on a b p c

  abbrev pub shuffle_code : Tensor Cell Cell → Terms Cell
  shuffle_code t = shuffle_on a b p t

  front-carried : (m n : ℕ) → n ≤ 32 → Carries (PairKey m n) (TensorKey m n) cell key (aw p (linear (ordered a)) (ordered b)) front_code
  front-carried m n l = C.aw-carried p pos (linear (ordered a)) (set_of a).In (ordered b) (IsReached a m) (λ s. form s a) (quote a) (IsReached b m) (λ s. form s b) (quote b) (parts m) n l

  shuffle-carried : (m n : ℕ) → n ≤ 32 → Carries (TensorKey m n) (PairKey m n) key cell (eml p (linear (ordered a)) (ordered b)) shuffle_code
  shuffle-carried m n l = C.eml-carried p pos (linear (ordered a)) (set_of a).In (ordered b) (IsReached a m) (λ s. form s a) (quote a) (IsReached b m) (λ s. form s b) (quote b) (parts m) n l

  flow-carried : (m n : ℕ) → suc n ≤ 32 → Carries (PairKey m n) (PairKey m (suc n)) cell cell (flow p (linear (ordered a)) (ordered b)) flow_code
  flow-carried m n l = C.flow-carried p pos (linear (ordered a)) (set_of a).In (ordered b) (IsReached a m) (λ s. form s a) (quote a) (IsReached b m) (λ s. form s b) (quote b) (parts m) n l

  pairs-keep : (m n : ℕ) → Keeps cell (pair_order p (linear (ordered a)) (ordered b)) cell_cmp (PairKey m n)
  pairs-keep m n = C.pairs-keep p pos (linear (ordered a)) (set_of a).In (ordered b) (IsReached a m) (λ s. form s a) (quote a) (IsReached b m) (λ s. form s b) (quote b) (parts m) n

  tensors-keep : (m n : ℕ) → Keeps key (tensor_order p (linear (ordered a)) (ordered b)) tensor_cmp (TensorKey m n)
  tensors-keep m n = C.tensors-keep p pos (linear (ordered a)) (set_of a).In (ordered b) (IsReached a m) (λ s. form s a) (quote a) (IsReached b m) (λ s. form s b) (quote b) (parts m) n

  -- Alexander-Whitney on a chain of pairs
  pub fronts-are : (m n : ℕ) → n ≤ 32 → (x : Terms (Pair (Plain a) (Plain b))) → Each (PairKey m n) x
      → apply tensor_cmp p front_code (quote_pairs a b x) ≡ quote_tensors a b (apply (tensor_order p (linear (ordered a)) (ordered b)) p (aw p (linear (ordered a)) (ordered b)) x)
  fronts-are m n l x e =
      apply-carried (PairKey m n) (TensorKey m n) cell key (aw p (linear (ordered a)) (ordered b)) front_code (front-carried m n l) p
      (tensor_order p (linear (ordered a)) (ordered b)) tensor_cmp (tensors-keep m n) x e

  pub fronts-each : (m n : ℕ) → n ≤ 32 → (x : Terms (Pair (Plain a) (Plain b))) → Each (PairKey m n) x
      → Each (TensorKey m n) (apply (tensor_order p (linear (ordered a)) (ordered b)) p (aw p (linear (ordered a)) (ordered b)) x)
  fronts-each m n l x e =
      apply-each (PairKey m n) (TensorKey m n) cell key (aw p (linear (ordered a)) (ordered b)) front_code (front-carried m n l) p
      (tensor_order p (linear (ordered a)) (ordered b)) tensor_cmp x e

  -- Eilenberg-Mac Lane on a chain of tensors
  pub shuffles-are : (m n : ℕ) → n ≤ 32 → (x : Terms (PlainTensor (Plain a) (Plain b))) → Each (TensorKey m n) x
      → apply cell_cmp p shuffle_code (quote_tensors a b x) ≡ quote_pairs a b (apply (pair_order p (linear (ordered a)) (ordered b)) p (eml p (linear (ordered a)) (ordered b)) x)
  shuffles-are m n l x e =
      apply-carried (TensorKey m n) (PairKey m n) key cell (eml p (linear (ordered a)) (ordered b)) shuffle_code (shuffle-carried m n l) p
      (pair_order p (linear (ordered a)) (ordered b)) cell_cmp (pairs-keep m n) x e

  pub shuffles-each : (m n : ℕ) → n ≤ 32 → (x : Terms (PlainTensor (Plain a) (Plain b))) → Each (TensorKey m n) x
      → Each (PairKey m n) (apply (pair_order p (linear (ordered a)) (ordered b)) p (eml p (linear (ordered a)) (ordered b)) x)
  shuffles-each m n l x e =
      apply-each (TensorKey m n) (PairKey m n) key cell (eml p (linear (ordered a)) (ordered b)) shuffle_code (shuffle-carried m n l) p
      (pair_order p (linear (ordered a)) (ordered b)) cell_cmp x e

  -- the flow on a chain of pairs
  pub flows-are : (m n : ℕ) → suc n ≤ 32 → (x : Terms (Pair (Plain a) (Plain b))) → Each (PairKey m n) x
      → apply cell_cmp p flow_code (quote_pairs a b x) ≡ quote_pairs a b (apply (pair_order p (linear (ordered a)) (ordered b)) p (flow p (linear (ordered a)) (ordered b)) x)
  flows-are m n l x e =
      apply-carried (PairKey m n) (PairKey m (suc n)) cell cell (flow p (linear (ordered a)) (ordered b)) flow_code (flow-carried m n l) p
      (pair_order p (linear (ordered a)) (ordered b)) cell_cmp (pairs-keep m (suc n)) x e

  pub flows-each : (m n : ℕ) → suc n ≤ 32 → (x : Terms (Pair (Plain a) (Plain b))) → Each (PairKey m n) x
      → Each (PairKey m (suc n)) (apply (pair_order p (linear (ordered a)) (ordered b)) p (flow p (linear (ordered a)) (ordered b)) x)
  flows-each m n l x e =
      apply-each (PairKey m n) (PairKey m (suc n)) cell cell (flow p (linear (ordered a)) (ordered b)) flow_code (flow-carried m n l) p
      (pair_order p (linear (ordered a)) (ordered b)) cell_cmp x e

  -- ---- with the twist

  module _ (values : Option (List ℤ)) (are : AreTwistValues values a b) where
    abbrev q : Pair (Plain a) (Plain b) → Terms (Pair (Plain a) (Plain b))
    q = twist_by values p a b

    abbrev pub twist_code : Cell → Terms Cell
    twist_code c = turn_on a b values p c

    twisted : (most m n : ℕ) → m + growth values ≤ most → n < 32 → Carries (PairKey m (suc n)) (PairKey (m + growth values) n) cell cell q twist_code
    twisted most m n u l = record {
      read = λ s h. C.read-pair p pos (linear (ordered a)) (set_of a).In (ordered b) (IsReached a m) (λ s. form s a) (quote a) (IsReached b m) (λ s. form s b) (quote b) (parts m) cell q (suc n) s h;
      has = λ s h. twist-has p pos values a b are ka kb m n l s h;
    }

    ends : (m : ℕ) (s : Pair (Plain a) (Plain b)) → PairKey m 0 s → q s ≡ []
    ends m s h = twist-ends p pos values a b are s h.0.0

    abbrev Room : ℕ → ℕ → ℕ → Pair (Plain a) (Plain b) → Type 0
    Room most n j s =
        S.Room p pos (linear (ordered a)) (set_of a).In (ordered b) (IsReached a) (λ s. form s a) (quote a) (IsReached b) (λ s. form s b) (quote b) (parts-within p pos a b ka kb)
        (reach_wider a) (reach_wider b) q (growth values) most (twisted most) ends n j s

    -- there is room for so many terms
    pub fits : (m n terms : ℕ) → terms ≤ n + 2 → m + terms * growth values ≤ room values n m
    fits m n terms l = let u = at-most terms (n + 2) (growth values) l in omega (arith, u)

    -- the series on a chain of pairs of degree k
    module _ (m most k terms : ℕ) (few : m + terms * growth values ≤ most) (x : Terms (Pair (Plain a) (Plain b))) (e : Each (PairKey m k) x) where
      rooms : Each (Room most k terms) x
      rooms = each-so x (λ s h. (m, few, h)) e

      module _ (l : k < 32) where
        pub s1-are : series cell_cmp p terms (after twist_code flow_code) (quote_pairs a b x)
            ≡ quote_pairs a b (series (pair_order p (linear (ordered a)) (ordered b)) p terms (after q (flow p (linear (ordered a)) (ordered b))) x)
        s1-are =
            S.s1-code p pos (linear (ordered a)) (set_of a).In (ordered b) (IsReached a) (λ s. form s a) (quote a) (IsReached b) (λ s. form s b) (quote b) (parts-within p pos a b ka kb)
            (reach_wider a) (reach_wider b) q (growth values) most (twisted most) ends k x l terms rooms

        pub s1-each : Each (PairKey most k) (series (pair_order p (linear (ordered a)) (ordered b)) p terms (after q (flow p (linear (ordered a)) (ordered b))) x)
        s1-each =
            S.s1-each p pos (linear (ordered a)) (set_of a).In (ordered b) (IsReached a) (λ s. form s a) (quote a) (IsReached b) (λ s. form s b) (quote b) (parts-within p pos a b ka kb)
            (reach_wider a) (reach_wider b) q (growth values) most (twisted most) ends k x l terms rooms

        pub s1-may : {I R : Type 0} (refusal : I → Option R) (asks asks' : Cell → List I) → series_may_ask cell_cmp p flow_code twist_code refusal asks asks' (MayFlow a b most)
            (MayTurn a b values most) terms (quote_pairs a b x)
        s1-may refusal asks asks' =
            S.s1-asks p pos (linear (ordered a)) (set_of a).In (ordered b) (IsReached a) (λ s. form s a) (quote a) (IsReached b) (λ s. form s b) (quote b) (parts-within p pos a b ka kb)
            (reach_wider a) (reach_wider b) q (growth values) most (twisted most) ends k x l terms rooms
            refusal asks asks' (MayFlow a b most) (MayTurn a b values most)
            (λ s h. (k, pair-is most k s h, l)) (λ s h. (are, (suc k, pair-is most (suc k) s h, l)))

      module _ (l : k ≤ 32) where
        pub p1-are : series cell_cmp p terms (after flow_code twist_code) (quote_pairs a b x)
            ≡ quote_pairs a b (series (pair_order p (linear (ordered a)) (ordered b)) p terms (after (flow p (linear (ordered a)) (ordered b)) q) x)
        p1-are =
            S.p1-code p pos (linear (ordered a)) (set_of a).In (ordered b) (IsReached a) (λ s. form s a) (quote a) (IsReached b) (λ s. form s b) (quote b) (parts-within p pos a b ka kb)
            (reach_wider a) (reach_wider b) q (growth values) most (twisted most) ends k x l terms rooms

        pub p1-each : Each (PairKey most k) (series (pair_order p (linear (ordered a)) (ordered b)) p terms (after (flow p (linear (ordered a)) (ordered b)) q) x)
        p1-each =
            S.p1-each p pos (linear (ordered a)) (set_of a).In (ordered b) (IsReached a) (λ s. form s a) (quote a) (IsReached b) (λ s. form s b) (quote b) (parts-within p pos a b ka kb)
            (reach_wider a) (reach_wider b) q (growth values) most (twisted most) ends k x l terms rooms

        pub p1-may : {I R : Type 0} (refusal : I → Option R) (asks asks' : Cell → List I) → series_may_ask cell_cmp p twist_code flow_code refusal asks asks' (MayTurn a b values most)
            (MayFlow a b most) terms (quote_pairs a b x)
        p1-may refusal asks asks' =
            S.p1-asks p pos (linear (ordered a)) (set_of a).In (ordered b) (IsReached a) (λ s. form s a) (quote a) (IsReached b) (λ s. form s b) (quote b) (parts-within p pos a b ka kb)
            (reach_wider a) (reach_wider b) q (growth values) most (twisted most) ends k x l terms rooms
            refusal asks asks' (MayTurn a b values most) (MayFlow a b most)
            (λ s h. (are, (k, pair-is most k s h, l))) (λ s h. below k l s h)
          where
            below : (i : ℕ) → i ≤ 32 → (s : Pair (Plain a) (Plain b))
                → S.Below p pos (linear (ordered a)) (set_of a).In (ordered b) (IsReached a) (λ s. form s a) (quote a) (IsReached b) (λ s. form s b) (quote b) (parts-within p pos a b ka kb)
                (reach_wider a) (reach_wider b) q (growth values) most (twisted most) ends i 0 s
                → MayFlow a b most (cell s)
            below zero u s h = absurd h
            below (suc i) u s h = (
              i,
              pair-is most i s (S.room-all p pos (linear (ordered a)) (set_of a).In (ordered b) (IsReached a) (λ s. form s a) (quote a) (IsReached b) (λ s. form s b) (quote b)
                  (parts-within p pos a b ka kb) (reach_wider a) (reach_wider b) q (growth values) most (twisted most) ends i 0 s h),
              u,
            )

    -- the twist of a chain of pairs of degree k
    pub twist-may : (most k : ℕ) → k ≤ 32 → (x : Terms (Pair (Plain a) (Plain b))) → Each (PairKey most k) x
        → Each (MayTurn a b values most) (quote_pairs a b x)
    twist-may most k l x e =
        each-keys (MayTurn a b values most) cell x (each-so x (λ s h. (are, (k, pair-is most k s h, l))) e)

    twist-any : (m k : ℕ) → k ≤ 32 → Carries (PairKey m k) (PairKey (m + growth values) (k - 1)) cell cell q twist_code
    twist-any m zero l = record {
      read = λ s h. C.read-pair p pos (linear (ordered a)) (set_of a).In (ordered b) (IsReached a m) (λ s. form s a) (quote a) (IsReached b m) (λ s. form s b) (quote b) (parts m) cell q zero s h;
      has = λ s h. subst (Each (PairKey (m + growth values) (zero - 1))) (sym (ends m s h)) tt;
    }
    twist-any m (suc k) l =
        subst (λ i. Carries (PairKey m (suc k)) (PairKey (m + growth values) i) cell cell q twist_code) (let e : k ≡ suc k - 1 = omega arith in e)
        (twisted (m + growth values) m k (omega arith) l)

    pub twists-are : (m k : ℕ) → k ≤ 32 → (x : Terms (Pair (Plain a) (Plain b))) → Each (PairKey m k) x
        → apply cell_cmp p twist_code (quote_pairs a b x) ≡ quote_pairs a b (apply (pair_order p (linear (ordered a)) (ordered b)) p q x)
    twists-are m k l x e =
        apply-carried (PairKey m k) (PairKey (m + growth values) (k - 1)) cell cell q twist_code (twist-any m k l) p
        (pair_order p (linear (ordered a)) (ordered b)) cell_cmp (pairs-keep (m + growth values) (k - 1)) x e

    pub twists-each : (m k : ℕ) → k ≤ 32 → (x : Terms (Pair (Plain a) (Plain b))) → Each (PairKey m k) x
        → Each (PairKey (m + growth values) (k - 1)) (apply (pair_order p (linear (ordered a)) (ordered b)) p q x)
    twists-each m k l x e =
        apply-each (PairKey m k) (PairKey (m + growth values) (k - 1)) cell cell q twist_code (twist-any m k l) p
        (pair_order p (linear (ordered a)) (ordered b)) cell_cmp x e

  -- keys within less are keys within more
  pub widened-pairs : (m k n : ℕ) → m ≤ k → (x : Terms (Pair (Plain a) (Plain b))) → Each (PairKey m n) x → Each (PairKey k n) x
  widened-pairs m k n l x e =
      each-so x (λ s h. S.wider-pair p pos (linear (ordered a)) (set_of a).In (ordered b) (IsReached a) (λ s. form s a) (quote a) (IsReached b) (λ s. form s b) (quote b)
      (parts-within p pos a b ka kb) (reach_wider a) (reach_wider b) m k n s l h) e

  wider-tensor : (m k n : ℕ) (z : PlainTensor (Plain a) (Plain b)) → m ≤ k → TensorKey m n z → TensorKey k n z
  wider-tensor m k n z l h = (
    (h.0.0, (reach_wider a m k z.0 (quote a z.0 z.1) l h.0.1.0, h.0.1.1), (reach_wider b m k z.2 (quote b z.2 z.3) l h.0.2.0, h.0.2.1)),
    h.1,
  )

  pub widened-tensors : (m k n : ℕ) → m ≤ k → (x : Terms (PlainTensor (Plain a) (Plain b))) → Each (TensorKey m n) x → Each (TensorKey k n) x
  widened-tensors m k n l x e = each-so x (λ z h. wider-tensor m k n z l h) e

  -- where the maps may be asked
  pub fronts-may : (m n : ℕ) → n ≤ 32 → (x : Terms (Pair (Plain a) (Plain b))) → Each (PairKey m n) x
      → Each (MayFront a b m) (quote_pairs a b x)
  fronts-may m n l x e = each-keys (MayFront a b m) cell x (each-so x (λ s h. (n, pair-is m n s h, l)) e)

  pub flows-may : (m n : ℕ) → suc n ≤ 32 → (x : Terms (Pair (Plain a) (Plain b))) → Each (PairKey m n) x
      → Each (MayFlow a b m) (quote_pairs a b x)
  flows-may m n l x e = each-keys (MayFlow a b m) cell x (each-so x (λ s h. (n, pair-is m n s h, l)) e)

  pub shuffles-may : (m n : ℕ) → n ≤ 32 → (x : Terms (PlainTensor (Plain a) (Plain b))) → Each (TensorKey m n) x
      → Each (MayShuffle a b m) (quote_tensors a b x)
  shuffles-may m n l x e = each-keys (MayShuffle a b m) key x (each-so x (λ z h. (n, tensor-is m n z h, l)) e)
