-- The rounds of the sums of the second perturbation: how far the evaluation has come when some terms stand and a chain of the code is the next of
-- them, and what its end gives.
use Rattle.std.proofs.Common.{◌≡◌, ℕ, zero, suc, ◌+◌, ◌*◌, ◌-◌, ◌<◌, ◌≤◌, ◌^◌, List, [], ◌++◌, Option, Some, None, ℤ, refl, sym, ◌∙◌, ap, subst, arith}
use Rattle.std.specs.declared.cmp.Ordering.{Ordering}
use Rattle.fp_field.specs.declared.prime.Prime.{Prime}
use Rattle.fp_field.specs.Field.{number}
use Rattle.fp_field.specs.Chains.{Terms, Each, scale}
use Rattle.fp_field.specs.Normal.{normal}
use Rattle.fp_field.proofs.Primes.{number_pos}
use Rattle.chain_core.specs.Formal.{Formal}
use Rattle.spaces.specs.Spaces.{Space, Plain}
use Rattle.spaces.specs.Orders.{ordered}
use Rattle.spaces.specs.EilenbergZilber.{Tensor as PlainTensor, linear, tensor_order}
use Rattle.values.specs.Asks.{Right, gives, ◌>>=◌}
use Rattle.cells.specs.Dim.{dim_of}
use Rattle.cells.specs.declared.cells.Cell.{Cell}
use Rattle.term_lang.specs.Forms.{form}
use Rattle.ez_maps.specs.Tensors.{tensor_cmp, tensor_form}
use Rattle.tensor_red.specs.declared.tensors.Tensor.{Tensor}
use Rattle.oracle_iface.specs.declared.keys.Key.{Key as CodeKey}
use Rattle.oracle_iface.specs.declared.bodies.Over.{Over}
use Rattle.oracle_iface.specs.Forcing.{Calls}
use Rattle.homology_rules.specs.Asking.{first_refusal, up_to_refusal, MayForceEach, AskedFirst, EachAnswered}
use Rattle.homology_rules.proofs.Quoted.{carried-append}
use Rattle.part_asks.specs.Along.{AsksValid}
use Rattle.part_asks.specs.Askers.{formal_tensors}
use Rattle.part_asks.specs.Reading.{keys_of, value_of, IsFound}
use Rattle.part_asks.proofs.RightStages as R
use Rattle.part_asks.proofs.SeriesLeft.{series_left, series-step, series-end}
use Rattle.space_faces.specs.Built.{IsAllowedBuilt}
use Rattle.twist_chains.specs.Fibred.{read_tensors, quote_tensors, IsTensorWithin}
use Rattle.twist_chains.proofs.FirstTerms as T
use Rattle.fibred_asks.specs.declared.steps.First.{First}
use Rattle.fibred_asks.specs.declared.steps.First.TheVariants.{Difference, Homotopy}
use Rattle.fibred_asks.specs.declared.maps.Maps.{Maps}
use Rattle.fibred_asks.specs.Asked.{prime_of, base_of, fibre_of, values_of, IsTensorIn}
use Rattle.fibred_asks.specs.Parts.{AreParts, IfFound, EachIn}
use Rattle.fibred_asks.proofs.SeriesSteps.{if_found}
use Rattle.part_asks.specs.declared.found.Found.{Found}
use Rattle.part_asks.specs.declared.found.Found.TheVariants.{Value}
use Rattle.part_asks.proofs.Readings.{found-value}
use Rattle.fibred_asks.specs.Steps.{top_of, end_of, step_on, series_on, minus_of, step_asked, IsStepOf}
use Rattle.fibred_asks.proofs.TensorKeys.{Key, reads-back, normal-quoted, minus-quoted, minus-keys}

-- ---- numbers

pub top-above : (first : First) (n : ℕ) → n ≤ top_of first n
top-above Difference n = omega arith
top-above Homotopy n = omega arith

-- the degree after a step, where rounds are left
pub end-same : (first : First) (n k : ℕ) → 0 < k → k ≤ n → end_of first n ≡ n
end-same Difference n k l h = let e : suc (n - 1) ≡ n = omega (arith, l, h) in e
end-same Homotopy n k l h = refl

-- the room for n + 1 rounds is that for as many differences, and one or two more
pub room-start : (first : First) (n m x : ℕ) → m + suc n * x ≤ m + suc (top_of first n) * x
room-start Difference n m x = omega arith
room-start Homotopy n m x = omega arith

pub room-now : (k m x t : ℕ) → 0 < k → m + k * x ≤ t → m + x ≤ t
room-now zero m x t l h = absurd (omega (arith, l))
room-now (suc k) m x t l h = omega (arith, h)

-- what is less than the room fits
pub room-fits : (k m x t : ℕ) → 0 < k → m + k * x ≤ t → t ≤ 2 ^ 40 → m + x ≤ 2 ^ 40
room-fits k m x t l h e = omega (arith, room-now k m x t l h, e)

pub room-next : (k m x t : ℕ) → 0 < k → m + k * x ≤ t → (m + x) + (k - 1) * x ≤ t
room-next zero m x t l h = absurd (omega (arith, l))
room-next (suc k) m x t l h = let e : suc k - 1 ≡ k = omega arith in rw e (omega (arith, h))

-- ---- the evaluation

abbrev pub Plains : Maps → Type 0
Plains maps = Terms (PlainTensor (Plain (base_of maps)) (Plain (fibre_of maps)))

module _ (maps : Maps) (first : First) (n : ℕ) where
  abbrev p : Prime
  p = prime_of maps

  abbrev a : Space
  a = base_of maps

  abbrev b : Space
  b = fibre_of maps

  abbrev values : Option (List ℤ)
  values = values_of maps

  abbrev pub by : PlainTensor (Plain a) (Plain b) → PlainTensor (Plain a) (Plain b) → Ordering
  by = tensor_order (number p) (linear (ordered a)) (ordered b)

  abbrev pub step : Plains maps → Right (Plains maps)
  step e = step_on p a b values first n e

  abbrev pub whole : Terms (Tensor Cell Cell) → Right (Plains maps)
  whole c0 = series_on p a b values first n (read_tensors a b c0)

  -- The series from the chain c0, begun in state s, has come to state t: these terms stand, k rounds are left, and c is the next term.
  pub record Left {F : Type 0} (calls : Calls F) (c0 done : Terms (Tensor Cell Cell)) (k : ℕ) (c : Terms (Tensor Cell Cell)) (s t : F) : Type 0 where
    pub stage : R.Stage calls p (whole c0) (series_left by (number p) step (read_tensors a b done) k (read_tensors a b c)) s t

  pub left-start : {F : Type 0} (calls : Calls F) (c0 done c : Terms (Tensor Cell Cell)) (k : ℕ) (s : F) → done ≡ [] → k ≡ suc n → c ≡ c0 → AsksValid p (whole c0)
      → Left calls c0 done k c s s
  left-start calls c0 done c k s d e f v =
      subst (λ (z : Terms (Tensor Cell Cell) × ℕ × Terms (Tensor Cell Cell)). Left calls c0 z.0 z.1 z.2 s s) (λ i. (sym d i, sym e i, sym f i))
      (let start : Left calls c0 [] (suc n) c0 s s = record { stage = R.stage-start calls p (whole c0) s v } in start)

module _ {maps : Maps} {first : First} {n : ℕ} {F : Type 0} {calls : Calls F} {c0 done : Terms (Tensor Cell Cell)} {k : ℕ}
    {c : Terms (Tensor Cell Cell)} {s t : F} (left : Left maps first n calls c0 done k c s t) where
  abbrev read : Terms (Tensor Cell Cell) → Plains maps
  read d = read_tensors (base_of maps) (fibre_of maps) d

  abbrev all : Right (Plains maps)
  all = whole maps first n c0

  abbrev now : Right (Plains maps)
  now = step maps first n (read c)

  abbrev after : Plains maps → ℕ → Plains maps → Right (Plains maps)
  after d i e = series_left (by maps first n) (number (prime_of maps)) (step maps first n) d i e

  pub left-so_far : AskedFirst calls (keys_of (prime_of maps) all) s t
  left-so_far = R.stage-asked calls (prime_of maps) all (after (read done) k (read c)) s t left.stage

  -- the next round
  module _ (l : 0 < k) where
    abbrev rest : Plains maps → Right (Plains maps)
    rest y = after (read done ++ read c) (k - 1) (minus_of (prime_of maps) (base_of maps) (fibre_of maps) (values_of maps) y)

    opened : R.Stage calls (prime_of maps) all (now >>= rest) s t
    opened =
        subst (λ x. R.Stage calls (prime_of maps) all x s t)
        (series-step (by maps first n) (number (prime_of maps)) (step maps first n) (read done) (k - 1) k (read c) (let e : k ≡ suc (k - 1) = omega (arith, l) in e)) left.stage

    pub left-may : (may : F → CodeKey → Type 0) → MayForceEach may calls s (keys_of (prime_of maps) all) → MayForceEach may calls t (keys_of (prime_of maps) now)
    left-may may asks = R.may-next calls (prime_of maps) all now rest s t opened may asks

    pub left-valid : AsksValid (prime_of maps) now
    left-valid = R.valid-next calls (prime_of maps) all now rest s t opened

    pub left-asked : (u : F) → AskedFirst calls (keys_of (prime_of maps) now) t u → AskedFirst calls (keys_of (prime_of maps) all) s u
    left-asked u h = R.asked-next calls (prime_of maps) all now rest s t opened u h

    pub left-refused : (w : Over) → first_refusal (keys_of (prime_of maps) now) ≡ Some w → first_refusal (keys_of (prime_of maps) all) ≡ Some w
    left-refused w e = R.refused-whole calls (prime_of maps) all now rest s t opened w e

    pub left-through : (u : F) (w : Over) → first_refusal (keys_of (prime_of maps) now) ≡ Some w → EachAnswered calls t (up_to_refusal (keys_of (prime_of maps) now)) u
        → EachAnswered calls s (up_to_refusal (keys_of (prime_of maps) all)) u
    left-through u w e h = R.refused-through calls (prime_of maps) all now rest s t opened u w e h

    pub left-next : (more next : Terms (Tensor Cell Cell)) (u : F) → more ≡ done ++ c → read next ≡ minus_of (prime_of maps) (base_of maps) (fibre_of maps) (values_of maps) (value_of (prime_of maps) now)
        → first_refusal (keys_of (prime_of maps) now) ≡ None → EachAnswered calls t (up_to_refusal (keys_of (prime_of maps) now)) u → Left maps first n calls c0 more (k - 1) next s u
    left-next more next u d e none h =
        let both : read more ≡ read done ++ read c = ap read d ∙ carried-append (tensor_form dim_of (λ s. form s (base_of maps)) (λ s. form s (fibre_of maps))) done c in
        record {
          stage = subst (λ (z : Plains maps × Plains maps). R.Stage calls (prime_of maps) all (after z.0 (k - 1) z.1) s u)
              (λ i. (sym both i, sym e i)) (R.stage-next calls (prime_of maps) all now rest s t opened u none h);
        }

  -- the end
  module _ (end : k ≡ 0) where
    abbrev sum : Plains maps
    sum = normal (by maps first n) (number (prime_of maps)) (read done)

    ended : R.Stage calls (prime_of maps) all (gives sum) s t
    ended =
        subst (λ x. R.Stage calls (prime_of maps) all x s t)
        (ap (λ i. after (read done) i (read c)) end ∙ series-end (by maps first n) (number (prime_of maps)) (step maps first n) (read done) (read c)) left.stage

    pub left-none : first_refusal (keys_of (prime_of maps) all) ≡ None
    left-none = R.stage-none calls (prime_of maps) all sum s t ended

    pub left-all : EachAnswered calls s (up_to_refusal (keys_of (prime_of maps) all)) t
    left-all = R.stage-through calls (prime_of maps) all sum s t ended

    -- the sum of the terms
    pub left-found : (ka : IsAllowedBuilt (base_of maps)) (kb : IsAllowedBuilt (fibre_of maps)) (m : ℕ) → Each (IsTensorWithin (base_of maps) (fibre_of maps) m n) done → (x : Formal (Tensor Cell Cell)) → x.prime ≡ (prime_of maps)
        → x.terms ≡ normal tensor_cmp (number (prime_of maps)) done → x ≡ formal_tensors (prime_of maps) (base_of maps) (fibre_of maps) (value_of (prime_of maps) all)
    left-found ka kb m h x prime terms = λ i. record { prime = prime i; terms = terms-are i }
      where
        terms-are : x.terms ≡ quote_tensors (base_of maps) (fibre_of maps) (value_of (prime_of maps) all)
        terms-are =
            terms ∙ ap (normal tensor_cmp (number (prime_of maps))) (sym (T.tensors-back (number (prime_of maps)) (number_pos (prime_of maps)) (base_of maps) (fibre_of maps) ka kb m n done h))
            ∙ normal-quoted (number (prime_of maps)) (number_pos (prime_of maps)) (base_of maps) (fibre_of maps) ka kb m n (read done) (T.tensors-read (number (prime_of maps)) (number_pos (prime_of maps)) (base_of maps) (fibre_of maps) ka kb m n done h)
            ∙ ap (quote_tensors (base_of maps) (fibre_of maps)) (sym ended.value_is)

-- ---- the next term

-- minus a chain that was found
module _ (maps : Maps) where
  module _ (parts : AreParts (prime_of maps) (base_of maps) (fibre_of maps)) (first : First) (n most d : ℕ) (c : Terms (Tensor Cell Cell)) (o : Found (Formal (Tensor Cell Cell))) (v x : Formal (Tensor Cell Cell))
      (is : o ≡ Value v) (found : IsFound (formal_tensors (prime_of maps) (base_of maps) (fibre_of maps)) (prime_of maps) (step_asked maps first n c) o) (back : IfFound (IsStepOf maps first n c) o)
      (within : IfFound (EachIn (IsTensorIn maps most d)) o) (prime : x.prime ≡ v.prime) (minus : x.terms ≡ normal tensor_cmp (number v.prime) (scale (number v.prime - 1) v.terms)) where
    abbrev y : Plains maps
    y = value_of (prime_of maps) (step_asked maps first n c)

    v-found : v ≡ formal_tensors (prime_of maps) (base_of maps) (fibre_of maps) y
    v-found = found-value (formal_tensors (prime_of maps) (base_of maps) (fibre_of maps)) (prime_of maps) (step_asked maps first n c) o v is found

    keys : Each (Key (number (prime_of maps)) (number_pos (prime_of maps)) (base_of maps) (fibre_of maps) parts.base_built parts.fibre_built most d) y
    keys =
        subst (Each (Key (number (prime_of maps)) (number_pos (prime_of maps)) (base_of maps) (fibre_of maps) parts.base_built parts.fibre_built most d)) (if_found (IsStepOf maps first n c) o v is back)
        (T.tensors-read (number (prime_of maps)) (number_pos (prime_of maps)) (base_of maps) (fibre_of maps) parts.base_built parts.fibre_built most d v.terms (if_found (EachIn (IsTensorIn maps most d)) o v is within))

    is-quoted : x.terms ≡ quote_tensors (base_of maps) (fibre_of maps) (minus_of (prime_of maps) (base_of maps) (fibre_of maps) (values_of maps) y)
    is-quoted =
        minus ∙ (λ i. normal tensor_cmp (number (v-found i).prime) (scale (number (v-found i).prime - 1) (v-found i).terms))
        ∙ minus-quoted (number (prime_of maps)) (number_pos (prime_of maps)) (base_of maps) (fibre_of maps) parts.base_built parts.fibre_built most d y keys

    minus-keyed : Each (Key (number (prime_of maps)) (number_pos (prime_of maps)) (base_of maps) (fibre_of maps) parts.base_built parts.fibre_built most d) (minus_of (prime_of maps) (base_of maps) (fibre_of maps) (values_of maps) y)
    minus-keyed = minus-keys (number (prime_of maps)) (number_pos (prime_of maps)) (base_of maps) (fibre_of maps) parts.base_built parts.fibre_built most d y keys

    pub minus-prime : x.prime ≡ (prime_of maps)
    minus-prime = prime ∙ ap (λ (z : Formal (Tensor Cell Cell)). z.prime) v-found

    pub minus-read : read_tensors (base_of maps) (fibre_of maps) x.terms ≡ minus_of (prime_of maps) (base_of maps) (fibre_of maps) (values_of maps) y
    minus-read = ap (read_tensors (base_of maps) (fibre_of maps)) is-quoted ∙ reads-back (number (prime_of maps)) (number_pos (prime_of maps)) (base_of maps) (fibre_of maps) parts.base_built parts.fibre_built most d (minus_of (prime_of maps) (base_of maps) (fibre_of maps) (values_of maps) y) minus-keyed

    pub minus-within : Each (IsTensorWithin (base_of maps) (fibre_of maps) most d) x.terms
    minus-within =
        subst (Each (IsTensorWithin (base_of maps) (fibre_of maps) most d)) (sym is-quoted)
        (T.tensors-are (number (prime_of maps)) (number_pos (prime_of maps)) (base_of maps) (fibre_of maps) parts.base_built parts.fibre_built most d (minus_of (prime_of maps) (base_of maps) (fibre_of maps) (values_of maps) y) minus-keyed)
