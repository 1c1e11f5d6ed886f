-- A list of terms as an additive functional on test functions with values in F_p.
use Rattle.std.proofs.Common.{◌≡◌, ℕ, zero, suc, ◌+◌, ◌*◌, ◌-◌, ◌%◌, ◌<◌, [], ◌∷◌, ◌++◌, map, Bool, true, false, cond, refl, sym, ◌∙◌, ap, subst, arith}
use Rattle.std.proofs.Math.Nat.{ℕ_set, mod-mod}
use Rattle.fp_field.specs.Field.{SameMod, sign}
use Rattle.fp_field.specs.Chains.{Terms, weigh, scale, extend, keep, Each}
use Rattle.fp_field.specs.Reduction.{one}
use Rattle.fp_field.proofs.Mod.{same-plus, same-times, pred-times}
use Rattle.fp_field.proofs.Weights.{weigh-append, weigh-scale, weigh-extend, weigh-plus, weigh-mod, Each-any}
use Rattle.ez_laws.proofs.Functionals.{Coefficients, Ch, ch-ext}
use Rattle.ez_laws.proofs.ChainLaws.{o, add, neg, eta, lin, sg, All, unit-l, lin-add, lin-lin, lin-eta, lin-sg, lin-o, lin-on-o}
use Rattle.ez_laws.specs.Weights.{SameWeights}
use Rattle.ez_laws.specs.Sides.{on_keys}
use Rattle.std.specs.declared.cmp.Ordering.{Ordering}
use Rattle.std.specs.declared.cmp.Ordering.TheVariants.{Equal}
use Rattle.fp_field.specs.Normal.{normal}
use Rattle.fp_field.proofs.Normals.{weigh-normal}

module _ (p : ℕ) (pos : 0 < p) where
  abbrev pub F : Type 0
  F = (n : ℕ) × (n % p ≡ n)

  pub F-set : (x y : F) (q r : x ≡ y) → q ≡ r
  F-set = hlevel ℕ_set

  pub f-ext : (x y : F) → x.0 ≡ y.0 → x ≡ y
  f-ext x y e =
      let Q : ℕ → Type 0 = λ t. (b : t % p ≡ t) → x ≡ (t, b) in
      subst Q e (λ b. ap (λ c. (x.0, c)) (ℕ_set (x.0 % p) x.0 x.1 b)) y.1

  -- the residue of a number
  abbrev pub res : ℕ → F
  res n = (n % p, mod-mod n p)

  pub res-same : (a b : ℕ) → SameMod p a b → res a ≡ res b
  res-same a b e = f-ext (res a) (res b) e

  pub minus_self : (x : F) → SameMod p (x.0 + ((p - 1) * x.0) % p) 0
  minus_self x =
      same-plus p x.0 x.0 (((p - 1) * x.0) % p) ((p - 1) * x.0) refl (mod-mod ((p - 1) * x.0) p)
      ∙ ap (λ n. n % p) (let q : x.0 + (p - 1) * x.0 ≡ p * x.0 = omega (arith, pred-times p x.0 pos) in q)
      ∙ Rattle.fp_field.proofs.Mod.same-by p (p * x.0) 0 0 x.0 (omega arith)

  -- F_p as a group
  abbrev pub field : Coefficients
  field = record {
    F = F;
    F-set = F-set;
    o = res 0;
    add = λ x y. res (x.0 + y.0);
    neg = λ x. res ((p - 1) * x.0);
    assoc = λ x y z. res-same ((x.0 + y.0) % p + z.0) (x.0 + (y.0 + z.0) % p)
        (same-plus p ((x.0 + y.0) % p) (x.0 + y.0) z.0 z.0 (mod-mod (x.0 + y.0) p) refl
        ∙ ap (λ n. n % p) (let q : x.0 + y.0 + z.0 ≡ x.0 + (y.0 + z.0) = omega arith in q)
        ∙ sym (same-plus p x.0 x.0 ((y.0 + z.0) % p) (y.0 + z.0) refl (mod-mod (y.0 + z.0) p)));
    comm = λ x y. res-same (x.0 + y.0) (y.0 + x.0) (ap (λ n. n % p) (let q : x.0 + y.0 ≡ y.0 + x.0 = omega arith in q));
    lcomm = λ x y z. res-same (x.0 + (y.0 + z.0) % p) (y.0 + (x.0 + z.0) % p)
        (same-plus p x.0 x.0 ((y.0 + z.0) % p) (y.0 + z.0) refl (mod-mod (y.0 + z.0) p)
        ∙ ap (λ n. n % p) (let q : x.0 + (y.0 + z.0) ≡ y.0 + (x.0 + z.0) = omega arith in q)
        ∙ sym (same-plus p y.0 y.0 ((x.0 + z.0) % p) (x.0 + z.0) refl (mod-mod (x.0 + z.0) p)));
    unit = λ x. f-ext (res (x.0 + 0 % p)) x
        (same-plus p x.0 x.0 (0 % p) 0 refl (mod-mod 0 p) ∙ ap (λ n. n % p) (let q : x.0 + 0 ≡ x.0 = omega arith in q) ∙ x.1);
    inverse = λ x. res-same (x.0 + ((p - 1) * x.0) % p) 0 (minus_self x);
  }

  -- a weight as a test function
  abbrev pub test : {K : Type 0} → (K → ℕ) → K → F
  test w k = res (w k)

  abbrev pub run_val : {K : Type 0} → Terms K → (K → F) → F
  run_val c f = res (weigh (λ k. (f k).0) c)

  pub val : {K : Type 0} → Terms K → Ch field K
  val {K} c = record {
    run = run_val c;
    additive = λ f g. res-same (weigh (λ k. ((f k).0 + (g k).0) % p) c) ((weigh (λ k. (f k).0) c) % p + (weigh (λ k. (g k).0) c) % p)
        (weigh-mod (λ k. Unit {0}) p (λ k. ((f k).0 + (g k).0) % p) (λ k. (f k).0 + (g k).0) (λ k t. mod-mod ((f k).0 + (g k).0) p) c (Each-any c)
        ∙ ap (λ n. n % p) (weigh-plus (λ k. (f k).0) (λ k. (g k).0) c)
        ∙ sym (same-plus p ((weigh (λ k. (f k).0) c) % p) (weigh (λ k. (f k).0) c) ((weigh (λ k. (g k).0) c) % p) (weigh (λ k. (g k).0) c)
        (mod-mod (weigh (λ k. (f k).0) c) p) (mod-mod (weigh (λ k. (g k).0) c) p)));
  }

  pub val-same : {K : Type 0} (c d : Terms K) → SameWeights p c d → val c ≡ val d
  unfolding val
  val-same {K} c d h = ch-ext field K (val c) (val d) (λ f. res-same (weigh (λ k. (f k).0) c) (weigh (λ k. (f k).0) d) (h (λ k. (f k).0)))

  pub same-val : {K : Type 0} (c d : Terms K) → val c ≡ val d → SameWeights p c d
  unfolding val
  same-val {K} c d e w =
      let f : K → F = test w in
      sym (weigh-mod (λ k. Unit {0}) p (λ k. w k % p) w (λ k t. mod-mod (w k) p) c (Each-any c))
      ∙ ap (λ x. (x.run f).0) e
      ∙ weigh-mod (λ k. Unit {0}) p (λ k. w k % p) w (λ k t. mod-mod (w k) p) d (Each-any d)

  pub val-nil : {K : Type 0} → val {K = K} [] ≡ o field
  unfolding val o
  val-nil {K} = ch-ext field K (val []) (o field) (λ f. refl)

  pub val-append : {K : Type 0} (c d : Terms K) → val (c ++ d) ≡ add field (val c) (val d)
  unfolding val add
  val-append {K} c d = ch-ext field K (val (c ++ d)) (add field (val c) (val d)) (λ f.
      let u : K → ℕ = λ k. (f k).0 in
      res-same (weigh u (c ++ d)) (weigh u c % p + weigh u d % p)
      (ap (λ n. n % p) (weigh-append u c d) ∙ sym (same-plus p (weigh u c % p) (weigh u c) (weigh u d % p) (weigh u d) (mod-mod (weigh u c) p) (mod-mod (weigh u d) p))))

  pub val-one : {K : Type 0} (k : K) → val (one k) ≡ eta field k
  unfolding val eta
  val-one {K} k = ch-ext field K (val (one k)) (eta field k) (λ f.
      f-ext (run_val (one k) f) (f k) (ap (λ n. n % p) (let q : 1 * (f k).0 + 0 ≡ (f k).0 = omega arith in q) ∙ (f k).1))

  pub val-neg : {K : Type 0} (c : Terms K) → val (scale (p - 1) c) ≡ neg field (val c)
  unfolding val neg
  val-neg {K} c = ch-ext field K (val (scale (p - 1) c)) (neg field (val c)) (λ f.
      let u : K → ℕ = λ k. (f k).0 in
      res-same (weigh u (scale (p - 1) c)) ((p - 1) * (weigh u c % p))
      (ap (λ n. n % p) (weigh-scale u (p - 1) c) ∙ sym (same-times p (p - 1) (weigh u c % p) (weigh u c) (mod-mod (weigh u c) p))))

  scale_scale : {K : Type 0} (a b : ℕ) (c : Terms K) → scale (a * b) c ≡ scale a (scale b c)
  scale_scale a b [] = refl
  scale_scale a b (t ∷ c) = λ i. (t.0, (let q : a * b * t.1 ≡ a * (b * t.1) = omega arith in q) i) ∷ scale_scale a b c i

  scale_one : {K : Type 0} (c : Terms K) → scale 1 c ≡ c
  scale_one [] = refl
  scale_one (t ∷ c) = λ i. (t.0, (let q : 1 * t.1 ≡ t.1 = omega arith in q) i) ∷ scale_one c i

  pub val-sign : {K : Type 0} (i : ℕ) (c : Terms K) → val (scale (sign p i) c) ≡ sg field i (val c)
  unfolding sg
  val-sign zero c = ap val (scale_one c)
  val-sign (suc i) c = ap val (scale_scale (p - 1) (sign p i) c) ∙ val-neg (scale (sign p i) c) ∙ ap (neg field) (val-sign i c)

  pub val-extend : {K J : Type 0} (f : K → Terms J) (c : Terms K) → val (extend f c) ≡ lin field (λ k. val (f k)) (val c)
  unfolding val lin
  val-extend {J = J} f c = ch-ext field J (val (extend f c)) (lin field (λ k. val (f k)) (val c)) (λ g.
      let u : J → ℕ = λ k. (g k).0 in
      res-same (weigh u (extend f c)) (weigh (λ k. weigh u (f k) % p) c)
      (ap (λ n. n % p) (weigh-extend u f c)
      ∙ sym (weigh-mod (λ k. Unit {0}) p (λ k. weigh u (f k) % p) (λ k. weigh u (f k)) (λ k t. mod-mod (weigh u (f k)) p) c (Each-any c))))

  pub val-normal : {K : Type 0} (cmp : K → K → Ordering) (one_key : (x y : K) → cmp x y ≡ Equal → x ≡ y) (c : Terms K) → val (normal cmp p c) ≡ val c
  val-normal cmp one_key c = val-same (normal cmp p c) c (λ w. weigh-normal cmp p one_key w c)

  all_val_at : {K : Type 0} (Q : K → Type 0) (c : Terms K) → Each Q c → (f g : K → F) → ((k : K) → Q k → f k ≡ g k) → weigh (λ k. (f k).0) c ≡ weigh (λ k. (g k).0) c
  all_val_at Q c h f g e = Rattle.fp_field.proofs.Weights.weigh-along Q (λ k. (f k).0) (λ k. (g k).0) (λ k q. ap (λ x. x.0) (e k q)) c h

  pub all-val : {K : Type 0} (Q : K → Type 0) (c : Terms K) → Each Q c → All field Q (val c)
  unfolding val All
  all-val Q c h = λ f g e. ap res (all_val_at Q c h f g e)

  pub lin-cons : {K J : Type 0} (T : K → Ch field J) (t : K × ℕ) (c : Terms K) → lin field T (val (t ∷ c)) ≡ add field (lin field T (val (t ∷ []))) (lin field T (val c))
  lin-cons T t c = ap (lin field T) (val-append (t ∷ []) c) ∙ lin-add field T (val (t ∷ [])) (val c)

  -- terms that a map sends to 0 may be left out
  pub lin-keep : {K J : Type 0} (P : K → Type 0) (T : K → Ch field J) (kept : K → Bool) → ((k : K) → P k → kept k ≡ false → T k ≡ o field)
      → (c : Terms K) → Each P c → lin field T (val (keep kept c)) ≡ lin field T (val c)
  lin-keep P T kept h [] e = refl
  lin-keep P T kept h (t ∷ c) e = by (kept t.0) refl (lin-keep P T kept h c e.1)
    where
      zero_at : T t.0 ≡ o field → lin field T (val (t ∷ [])) ≡ o field
      zero_at e = lin-on-o field (λ k. T k ≡ o field) T (val (t ∷ [])) (all-val (λ k. T k ≡ o field) (t ∷ []) (e, tt)) (λ k q. q)

      by : (b : Bool) → kept t.0 ≡ b → lin field T (val (keep kept c)) ≡ lin field T (val c)
          → lin field T (val (cond b (t ∷ keep kept c) (keep kept c))) ≡ lin field T (val (t ∷ c))
      by true q r = lin-cons T t (keep kept c) ∙ ap (add field (lin field T (val (t ∷ [])))) r ∙ sym (lin-cons T t c)
      by false q r = r ∙ sym (unit-l field (lin field T (val c))) ∙ ap (λ v. add field v (lin field T (val c))) (sym (zero_at (h t.0 e.0 q))) ∙ sym (lin-cons T t c)

  -- keys changed, numbers multiplied
  abbrev pub moved_terms : {K J : Type 0} → (K → J) → ℕ → Terms K → Terms J
  moved_terms g a c = map (λ t. (g t.0, a * t.1)) c

  weigh_moved : {K J : Type 0} (u : J → ℕ) (g : K → J) (a : ℕ) (c : Terms K) → weigh u (moved_terms g a c) ≡ weigh (λ k. u (g k)) (scale a c)
  weigh_moved u g a [] = refl
  weigh_moved u g a (t ∷ c) = ap (λ n. a * t.1 * u (g t.0) + n) (weigh_moved u g a c)

  pub val-moved : {K J : Type 0} (g : K → J) (a : ℕ) (c : Terms K) → val (moved_terms g a c) ≡ lin field (λ k. eta field (g k)) (val (scale a c))
  unfolding val lin eta
  val-moved {J = J} g a c = ch-ext field J (val (moved_terms g a c)) (lin field (λ k. eta field (g k)) (val (scale a c))) (λ f. ap res (weigh_moved (λ k. (f k).0) g a c))

  pub lin-moved : {K J M : Type 0} (T : J → Ch field M) (g : K → J) (i : ℕ) (c : Terms K)
      → lin field T (val (moved_terms g (sign p i) c)) ≡ sg field i (lin field (λ k. T (g k)) (val c))
  lin-moved T g i c =
      ap (lin field T) (val-moved g (sign p i) c)
      ∙ lin-lin field (λ k. eta field (g k)) T (val (scale (sign p i) c))
      ∙ ap (λ (U : _ → Ch field _). lin field U (val (scale (sign p i) c))) (λ j k. lin-eta field T (g k) j)
      ∙ ap (lin field (λ k. T (g k))) (val-sign i c)
      ∙ lin-sg field i (λ k. T (g k)) (val c)

  pub lin-one : {K J : Type 0} (T : K → Ch field J) (k : K) → lin field T (val (one k)) ≡ T k
  lin-one T k = ap (lin field T) (val-one k) ∙ lin-eta field T k

  pub lin-append : {K J : Type 0} (T : K → Ch field J) (c d : Terms K) → lin field T (val (c ++ d)) ≡ add field (lin field T (val c)) (lin field T (val d))
  lin-append T c d = ap (lin field T) (val-append c d) ∙ lin-add field T (val c) (val d)

  pub lin-nil : {K J : Type 0} (T : K → Ch field J) → lin field T (val []) ≡ o field
  lin-nil T = ap (lin field T) val-nil ∙ lin-o field T

  pub lin-extend : {K J M : Type 0} (T : J → Ch field M) (f : K → Terms J) (c : Terms K) → lin field T (val (extend f c)) ≡ lin field (λ k. lin field T (val (f k))) (val c)
  lin-extend T f c = ap (lin field T) (val-extend f c) ∙ lin-lin field (λ k. val (f k)) T (val c)

  weigh_keys : {K J : Type 0} (u : J → ℕ) (g : K → J) (c : Terms K) → weigh u (on_keys g c) ≡ weigh (λ k. u (g k)) c
  weigh_keys u g [] = refl
  weigh_keys u g (t ∷ c) = ap (λ n. t.1 * u (g t.0) + n) (weigh_keys u g c)

  pub lin-keys : {K J M : Type 0} (T : J → Ch field M) (g : K → J) (c : Terms K) → lin field T (val (on_keys g c)) ≡ lin field (λ k. T (g k)) (val c)
  unfolding val lin
  lin-keys {M = M} T g c = ch-ext field M (lin field T (val (on_keys g c))) (lin field (λ k. T (g k)) (val c)) (λ f. ap res (weigh_keys (λ k. ((T k).run f).0) g c))
