-- The keys of the cycles of a degree, part by part.
use Rattle.std.proofs.Common.{◌≡◌, ℕ, ◌+◌, List, [], ◌∷◌, ◌++◌, map, length, Option, Some, None, All, refl, sym, ◌∙◌, ap, subst}
use Rattle.std.specs.List.{AllByRecursion as Each}
use Rattle.std.proofs.lemmas.List.{length-map}
use Rattle.std.proofs.lemmas.List.Elements.{All-from_recursion, recursion_from_All}
use Rattle.fp_field.specs.Field.{number}
use Rattle.echelons.specs.Echelon.{Vector, IsVector, IsReducedEchelon}
use Rattle.elim_fp.specs.Rows.{DenseRow, vectors_of}
use Rattle.values.specs.Asks.{Answer, basis, small_d}
use Rattle.values.specs.Outcomes.{usual_limits, outcome, is_value, is_over, Outcome as OutcomeOf}
use Rattle.term_lang.specs.SpaceOf.{space_of}
use Rattle.cells.specs.declared.cells.SmallCell.{SmallCell}
use Rattle.cells.specs.Small.{small_cmp}
use Rattle.oracle_iface.specs.declared.keys.Key.{Key}
use Rattle.oracle_iface.specs.declared.keys.Op.TheVariants.{SmallD}
use Rattle.oracle_iface.specs.declared.bodies.Over.{Over}
use Rattle.oracle_iface.specs.declared.cell_values.CellValue.{CellValue}
use Rattle.oracle_iface.specs.SmallForms.{small_form}
use Rattle.oracle_iface.specs.Stands.{quote_outcome}
use Rattle.oracle_iface.specs.Forcing.{Calls, Asked, asked-both}
use Rattle.homology_rules.specs.Asking.{outcome_of, refusal_in, first_refusal, MayForceEach, AskedFirst}
use Rattle.homology_rules.specs.Held.{HasSmallOver, small_in}
use Rattle.homology_rules.specs.SmallKeys.{small_key_of}
use Rattle.homology_rules.specs.CycleVectors.{cycle_vectors_over, small_chains}
use Rattle.homology_rules.specs.Vectors.{keys_of_vectors}
use Rattle.homology_rules.specs.Degrees.{HasCells, cells_held, degree_key_of, cells_at, chains_at, vectors_at, keys_of_degree, keys_of_cycles, IsDegree}
use Rattle.homology_rules.proofs.Answered.{outcome-of_cell, none-split, or_then, refusal-append}
use Rattle.homology_rules.proofs.GVectors.{may_first, may_rest, asked_first_then, asked_first_of, asked_whole}

-- the small differential of a small cell is a chain of the small complex, unless it is refused
pub small-of_d : (k : Key) (y : SmallCell) → refusal_in (outcome_of (small_key_of k SmallD y)) ≡ None → HasSmallOver k.prime (outcome_of (small_key_of k SmallD y))
unfolding outcome_of
small-of_d k y = by (outcome usual_limits (number k.prime) (small_d (space_of k.term) (small_form y (space_of k.term))))
  where
    by : (o : OutcomeOf (Answer (small_d (space_of k.term) (small_form y (space_of k.term))))) → refusal_in (quote_outcome k.prime (small_d (space_of k.term) (small_form y (space_of k.term))) o) ≡ None
        → HasSmallOver k.prime (quote_outcome k.prime (small_d (space_of k.term) (small_form y (space_of k.term))) o)
    by (is_value v) e = (tt, refl)
    by (is_over w) e = absurd (cc)

-- the small cells of a degree are a list, unless they are refused
pub cells-of_basis : (k : Key) (n : ℕ) → refusal_in (outcome_of (degree_key_of k n)) ≡ None → HasCells (outcome_of (degree_key_of k n))
unfolding outcome_of
cells-of_basis k n = by (outcome usual_limits (number k.prime) (basis (space_of k.term) n))
  where
    by : (o : OutcomeOf (Answer (basis (space_of k.term) n))) → refusal_in (quote_outcome k.prime (basis (space_of k.term) n) o) ≡ None → HasCells (quote_outcome k.prime (basis (space_of k.term) n) o)
    by (is_value v) e = tt
    by (is_over w) e = absurd (cc)

pub widths : (p w : ℕ) (rows : List DenseRow) → IsReducedEchelon p w (vectors_of rows) → All (λ r. length r.values ≡ w) rows
widths p w rows h = All-from_recursion (λ r. length r.values ≡ w) rows (by rows (recursion_from_All (IsVector p w) (vectors_of rows) h.vectors_all))
  where
    by : (rs : List DenseRow) → Each (IsVector p w) (vectors_of rs) → Each (λ r. length r.values ≡ w) rs
    by [] a = tt
    by (r ∷ rs) a = (a.0.wide, by rs a.1)

module _ (k : Key) where
  abbrev d_key : SmallCell → Key
  d_key y = small_key_of k SmallD y

  held : (ys : List SmallCell) (cells : List CellValue) → map (λ v. v.key) cells ≡ map d_key ys → first_refusal (map d_key ys) ≡ None → Each (λ v. HasSmallOver k.prime v.outcome) cells
  held ys [] e h = tt
  held [] (v ∷ cells) e h = absurd (cc)
  held (y ∷ ys) (v ∷ cells) e h =
      let s = none-split (d_key y) (map d_key ys) h in
      let a : v.key ≡ d_key y = cc in
      let b : map (λ x. x.key) cells ≡ map d_key ys = cc in
      (subst (HasSmallOver k.prime) (sym (outcome-of_cell v ∙ ap outcome_of a)) (small-of_d k y s.0), held ys cells b s.1)

  chains-from : (ys : List SmallCell) (cells : List CellValue) → map (λ v. v.key) cells ≡ map d_key ys → small_chains cells ≡ chains_at k ys
  chains-from [] [] e = refl
  chains-from [] (v ∷ cells) e = absurd (cc)
  chains-from (y ∷ ys) [] e = absurd (cc)
  chains-from (y ∷ ys) (v ∷ cells) e =
      let a : v.key ≡ d_key y = cc in
      let b : map (λ x. x.key) cells ≡ map d_key ys = cc in
      λ i. (small_in ((outcome-of_cell v ∙ ap outcome_of a) i)).terms ∷ chains-from ys cells b i

  module _ {F : Type 0} (calls : Calls F) (n : ℕ) (s t : F) (cells : CellValue) (chains : List CellValue) (h : IsDegree calls k n s t cells chains) where
    pub all_small : All (λ v. HasSmallOver k.prime v.outcome) chains
    all_small = All-from_recursion (λ v. HasSmallOver k.prime v.outcome) chains
        (held (cells_at k n) chains h.chains_are (none-split (degree_key_of k n) (map d_key (cells_at k n)) h.none_refused).1)

    pub chains_found : small_chains chains ≡ chains_at k (cells_at k n)
    chains_found = chains-from (cells_at k n) chains h.chains_are

    pub chains_count : length chains ≡ length (cells_at k n)
    chains_count = sym (length-map chains (λ v. v.key)) ∙ ap length h.chains_are ∙ length-map (cells_at k n) d_key

    pub cells_found : (x : CellValue) (found lent : List SmallCell) → x ≡ cells → found ≡ cells_held x.outcome → lent ≡ found → lent ≡ cells_at k n
    cells_found x found lent e f l = l ∙ f ∙ ap (λ y. cells_held y.outcome) e ∙ ap cells_held (outcome-of_cell cells) ∙ ap (λ q. cells_held (outcome_of q)) h.cells_are

    pub has_cells : (x : CellValue) → x ≡ cells → HasCells x.outcome
    has_cells x e =
        subst HasCells (sym (ap (λ y. y.outcome) e ∙ outcome-of_cell cells ∙ ap outcome_of h.cells_are))
        (cells-of_basis k n (none-split (degree_key_of k n) (map d_key (cells_at k n)) h.none_refused).0)

  module _ (n : ℕ) where
    -- the vectors that are made of what was found
    pub vectors_found : (lent : List SmallCell) (chains above lent_chains lent_above : List CellValue) (rows : List Vector) → lent ≡ cells_at k n → lent_chains ≡ chains → lent_above ≡ above
        → small_chains chains ≡ chains_at k (cells_at k n) → small_chains above ≡ chains_at k (cells_at k (n + 1))
        → rows ≡ cycle_vectors_over small_cmp (number k.prime) lent (small_chains lent_chains) (small_chains lent_above) → rows ≡ vectors_at k n
    vectors_found lent chains above lent_chains lent_above rows e f g h l r =
        r ∙ (λ j. cycle_vectors_over small_cmp (number k.prime) (e j) ((ap small_chains f ∙ h) j) ((ap small_chains g ∙ l) j))

    abbrev low : List Key
    low = keys_of_degree k n

    abbrev high : List Key
    high = keys_of_degree k (n + 1)

    abbrev last : List Key
    last = keys_of_vectors k (cells_at k n) (vectors_at k n)

    -- the first refusal, part by part
    pub refused_low : (w : Over) → first_refusal low ≡ Some w → first_refusal (keys_of_cycles k n) ≡ Some w
    refused_low w h = refusal-append low (high ++ last) ∙ ap (λ o. or_then o (first_refusal (high ++ last))) h

    pub refused_high : (w : Over) → first_refusal low ≡ None → first_refusal high ≡ Some w → first_refusal (keys_of_cycles k n) ≡ Some w
    refused_high w h e =
        refusal-append low (high ++ last) ∙ ap (λ o. or_then o (first_refusal (high ++ last))) h ∙ refusal-append high last ∙ ap (λ o. or_then o (first_refusal last)) e

    pub refused_last : (o : Option Over) → first_refusal low ≡ None → first_refusal high ≡ None → first_refusal last ≡ o → first_refusal (keys_of_cycles k n) ≡ o
    refused_last o h e f =
        refusal-append low (high ++ last) ∙ ap (λ o. or_then o (first_refusal (high ++ last))) h ∙ refusal-append high last ∙ ap (λ o. or_then o (first_refusal last)) e ∙ f

    module _ {F : Type 0} (may : F → Key → Type 0) (calls : Calls F) (s t u v : F) where
      pub may_low : MayForceEach may calls s (keys_of_cycles k n) → MayForceEach may calls s low
      may_low h = may_first may calls s low (high ++ last) h

      pub may_high : MayForceEach may calls s (keys_of_cycles k n) → first_refusal low ≡ None → Asked calls s low t → MayForceEach may calls t high
      may_high h n a = may_first may calls t high last (may_rest may calls s t low (high ++ last) n h a)

      pub may_last : MayForceEach may calls s (keys_of_cycles k n) → first_refusal low ≡ None → first_refusal high ≡ None → Asked calls s low t → Asked calls t high u → MayForceEach may calls u last
      may_last h n m a b = may_rest may calls t u high last m (may_rest may calls s t low (high ++ last) n h a) b

      pub asked_low : AskedFirst calls low s t → AskedFirst calls (keys_of_cycles k n) s t
      asked_low a = asked_first_of may calls s t low (high ++ last) (keys_of_cycles k n) refl a

      pub asked_high : first_refusal low ≡ None → Asked calls s low t → AskedFirst calls high t u → AskedFirst calls (keys_of_cycles k n) s u
      asked_high m a b = asked_first_then may calls s t u low (high ++ last) (keys_of_cycles k n) refl m a (asked_first_of may calls t u high last (high ++ last) refl b)

      pub asked_both : first_refusal low ≡ None → first_refusal high ≡ None → Asked calls s low t → Asked calls t high u → AskedFirst calls (keys_of_cycles k n) s u
      asked_both m e a b = asked_high m a (asked_whole may calls t u high e b)

      pub asked_last : first_refusal low ≡ None → first_refusal high ≡ None → Asked calls s low t → Asked calls t high u → AskedFirst calls last u v → AskedFirst calls (keys_of_cycles k n) s v
      asked_last m e a b c =
          asked_first_then may calls s t v low (high ++ last) (keys_of_cycles k n) refl m a (asked_first_then may calls t u v high last (high ++ last) refl e b c)

      pub asked_every : Asked calls s low t → Asked calls t high u → Asked calls u last v → Asked calls s (keys_of_cycles k n) v
      asked_every a b c = asked-both calls s t v low (high ++ last) a (asked-both calls t u v high last b c)
