-- A map that asks, along a chain of the code: what is left of it after some terms, and what the pushed terms weigh.
use Rattle.std.proofs.Common.{◌≡◌, ℕ, suc, ◌+◌, ◌*◌, ◌%◌, ◌<◌, List, [], ◌∷◌, ◌++◌, drop, length, get_or, None, refl, sym, ◌∙◌, ap, subst, append_assoc, arith}
use Rattle.std.proofs.Math.Seq.{drop-cons}
use Rattle.std.proofs.lemmas.List.{append-nil}
use Rattle.std.specs.Cmp.{IsTotalOrder}
use Rattle.std.specs.declared.cmp.Ordering.{Ordering}
use Rattle.std.specs.declared.cmp.Ordering.TheVariants.{Equal}
use Rattle.chain_core.specs.Formal.{numbers}
use Rattle.fp_field.specs.declared.element.Fp.{Fp}
use Rattle.fp_field.specs.declared.prime.Prime.{Prime}
use Rattle.fp_field.specs.Field.{number, SameMod}
use Rattle.fp_field.specs.Chains.{Terms, Each, weigh, scale}
use Rattle.fp_field.specs.Normal.{normal}
use Rattle.fp_field.proofs.FlowLaws.{Each-normal}
use Rattle.fp_field.proofs.Mod.{same-plus}
use Rattle.fp_field.proofs.Normals.{normal-same}
use Rattle.fp_field.proofs.Primes.{number_pos}
use Rattle.fp_field.proofs.Weights.{weigh-append, weigh-scale, Each-append, Each-scale}
use Rattle.values.specs.Asks.{Right, gives, ◌>>=◌, across, on_chain}
use Rattle.ez_laws.specs.Sides.{on_keys}
use Rattle.ez_laws.proofs.Eaches.{each-so, each-keys}
use Rattle.ez_flow.proofs.Pushes.{weigh-on-keys}
use Rattle.oracle_iface.proofs.CarriedChains.{carried-normal}
use Rattle.oracle_iface.specs.Forcing.{Calls}
use Rattle.homology_rules.specs.Asking.{first_refusal, up_to_refusal, EachAnswered}
use Rattle.part_asks.specs.Along.{AsksValid}
use Rattle.part_asks.specs.Reading.{keys_of, value_of}
use Rattle.part_asks.proofs.RightStages.{Stage, bind-assoc, stage-start, stage-none, stage-through}

-- ---- the next of the terms that are left

module _ {X : Type 0} (ts : List (X × Fp)) (i : ℕ) (x : X × Fp) (l : i < length ts) (is : x ≡ get_or ts i x) where
  pub left-split : numbers (drop i ts) ≡ (x.0, x.1.value) ∷ numbers (drop (i + 1) ts)
  left-split =
      ap numbers (drop-cons ts i x l ∙ ap (λ y. y ∷ drop (suc i) ts) (sym is))
      ∙ ap (λ k. (x.0, x.1.value) ∷ numbers (drop k ts)) (let q : suc i ≡ i + 1 = omega arith in q)

  pub left-each : (P : X → Type 0) → Each P (numbers (drop i ts)) → P x.0 × Each P (numbers (drop (i + 1) ts))
  left-each P h = subst (Each P) left-split h

-- ---- what is left of the right side

module _ {K J : Type 0} (cmp : J → J → Ordering) (p : ℕ) (t : K → Right (Terms J)) where
  -- the sum along a chain, where the terms of `done` are there
  abbrev pub along_left : Terms J → Terms K → Right (Terms J)
  along_left done c = across t c >>= λ s. gives (normal cmp p (done ++ s))

  regroup : (done e : Terms J) (m : Right (Terms J))
      → (m >>= λ s. gives (e ++ s)) >>= (λ s. gives (normal cmp p (done ++ s))) ≡ m >>= λ s. gives (normal cmp p ((done ++ e) ++ s))
  regroup done e m =
      bind-assoc m (λ s. gives (e ++ s)) (λ s. gives (normal cmp p (done ++ s)))
      ∙ (λ i. m >>= λ s. gives (normal cmp p (sym (append_assoc done e s) i)))

  pub along-step : (done : Terms J) (k : K) (n : ℕ) (c : Terms K)
      → along_left done ((k, n) ∷ c) ≡ t k >>= λ y. along_left (done ++ scale n y) c
  along-step done k n c =
      bind-assoc (t k) (λ y. across t c >>= λ s. gives (scale n y ++ s)) (λ s. gives (normal cmp p (done ++ s)))
      ∙ (λ i. t k >>= λ y. regroup done (scale n y) (across t c) i)

  pub along-end : (done : Terms J) → along_left done [] ≡ gives (normal cmp p done)
  along-end done = ap (λ s. gives (normal cmp p s)) (append-nil done)

-- ---- what was found

module _ {F : Type 0} (calls : Calls F) (p : Prime) {K J X : Type 0} (cmp : J → J → Ordering) (t : K → Right (Terms J)) (P : J → Type 0) (key : J → X)
    (whole : Right (Terms J)) where
  -- The terms of `done` were found, each with the fact P; the terms of the code weigh what they weigh, and the chain `rest` is left.
  pub record AlongState (rest : Terms K) (s u : F) (pushed : Terms X) : Type 0 where
    pub done : Terms J
    pub stage : Stage calls p whole (along_left cmp (number p) t done rest) s u
    pub each : Each P done
    pub total : (w : X → ℕ) → SameMod (number p) (weigh w pushed) (weigh w (on_keys key done))

  pub along-begun : (c : Terms K) (s : F) → whole ≡ on_chain cmp (number p) t c → AsksValid p whole → AlongState c s s []
  along-begun c s e v = record {
    done = [];
    stage = subst (λ m. Stage calls p whole m s s) e (stage-start calls p whole s v);
    each = tt;
    total = λ w. refl;
  }

  module _ (m : Right (Terms J)) (k : K) (a : ℕ) (c rest : Terms K) (s u : F) (pushed : Terms X) (split : rest ≡ (k, a) ∷ c) (is : m ≡ t k)
      (st : AlongState rest s u pushed) where
    -- the next term
    abbrev pub after_it : Terms J → Right (Terms J)
    after_it y = along_left cmp (number p) t (st.done ++ scale a y) c

    pub next-term : Stage calls p whole (m >>= after_it) s u
    next-term =
        subst (λ r. Stage calls p whole r s u)
        (ap (along_left cmp (number p) t st.done) split ∙ along-step cmp (number p) t st.done k a c ∙ (λ i. sym is i >>= after_it)) st.stage

    -- y was found for it, and its terms were pushed, each times the number
    pub along-more : (v : F) (y : Terms J) → Stage calls p whole (after_it y) s v → Each P y → (more : Terms X)
        → ((w : X → ℕ) → SameMod (number p) (weigh w more) (weigh w pushed + a * weigh w (on_keys key y))) → AlongState c s v more
    along-more v y next found more pushed_more = record {
      done = st.done ++ scale a y;
      stage = next;
      each = Each-append P st.done (scale a y) st.each (Each-scale P a y found);
      total = λ w. pushed_more w ∙ same-plus (number p) (weigh w pushed) (weigh w (on_keys key st.done)) _ _ (st.total w) refl ∙ ap (λ n. n % number p) (sym (sum-of w));
    }
      where
        sum-of : (w : X → ℕ) → weigh w (on_keys key (st.done ++ scale a y)) ≡ weigh w (on_keys key st.done) + a * weigh w (on_keys key y)
        sum-of w =
            weigh-on-keys w key (st.done ++ scale a y) ∙ weigh-append (λ j. w (key j)) st.done (scale a y)
            ∙ (λ i. sym (weigh-on-keys w key st.done) i + (weigh-scale (λ j. w (key j)) a y ∙ ap (λ n. a * n) (sym (weigh-on-keys w key y))) i)

  -- all of it was found
  module _ (rest : Terms K) (s u : F) (pushed : Terms X) (nothing : rest ≡ []) (st : AlongState rest s u pushed) where
    last-stage : Stage calls p whole (gives (normal cmp (number p) st.done)) s u
    last-stage = subst (λ r. Stage calls p whole r s u) (ap (along_left cmp (number p) t st.done) nothing ∙ along-end cmp (number p) t st.done) st.stage

    pub along-none : first_refusal (keys_of p whole) ≡ None
    along-none = stage-none calls p whole (normal cmp (number p) st.done) s u last-stage

    pub along-through : EachAnswered calls s (up_to_refusal (keys_of p whole)) u
    along-through = stage-through calls p whole (normal cmp (number p) st.done) s u last-stage

    pub along-value : value_of p whole ≡ normal cmp (number p) st.done
    along-value = last-stage.value_is

    -- the normal form of what was pushed
    pub along-found : (cmpX : X → X → Ordering) → ((x y : X) → cmpX x y ≡ Equal → x ≡ y) → IsTotalOrder cmpX → ((x y : J) → P x → P y → cmpX (key x) (key y) ≡ cmp x y)
        → normal cmpX (number p) pushed ≡ on_keys key (value_of p whole)
    along-found cmpX one_key total keeps =
        normal-same cmpX (number p) one_key total (number_pos p) pushed (on_keys key st.done) st.total
        ∙ carried-normal key cmp cmpX (number p) P keeps st.done st.each ∙ ap (on_keys key) (sym along-value)

    pub along-each : Each P (value_of p whole)
    along-each = subst (Each P) (sym along-value) (Each-normal P cmp (number p) st.done st.each)

    -- a fact of what they are in the code
    pub along-code : (Q : X → Type 0) → ((y : J) → P y → Q (key y)) → Each Q (on_keys key (value_of p whole))
    along-code Q f = each-keys Q key (value_of p whole) (each-so (value_of p whole) f along-each)
