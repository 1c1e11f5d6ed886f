-- The parts of a cycle of a built space, as they are told.
use Rattle.std.proofs.Common.{◌≡◌, ℕ, suc, ◌+◌, ◌≤◌, List, [], ◌∷◌, ◌++◌, map, None, refl, sym, ◌∙◌, ap, subst, arith, append_assoc}
use Rattle.std.proofs.lemmas.List.{length-map, map-append}
use Rattle.std.specs.List.{AllByRecursion as Every}
use Rattle.std.specs.List.Sorted.{IsStrictlySortedBy}
use Rattle.fp_field.specs.declared.prime.Prime.{Prime}
use Rattle.fp_field.specs.Field.{number}
use Rattle.fp_field.specs.Chains.{Terms, Each}
use Rattle.fp_field.specs.Normal.{normal}
use Rattle.echelons.specs.Echelon.{Vector, coordinates as entries_at_leads, remainder, in_span, reduced_basis}
use Rattle.spaces.specs.Spaces.{Space}
use Rattle.spaces.specs.Orders.{ordered, by_degree}
use Rattle.spaces.specs.SmallCells.{Small}
use Rattle.cells.specs.declared.cells.Cell.{Cell as CodeCell}
use Rattle.cells.specs.Dim.{dim_of}
use Rattle.cells.specs.Order.{cell_cmp}
use Rattle.cells.specs.Small.{small_cmp as code_cmp}
use Rattle.term_lang.specs.declared.terms.Term.{Term}
use Rattle.term_lang.specs.SpaceOf.{space_of}
use Rattle.values.specs.Asks.{Ask, cycles, f as f_at, g as g_at, h as h_at, Cell, value_with, asked_with}
use Rattle.values.specs.Cycles.{terms_of, carried}
use Rattle.values.specs.Ranks.{IsValid, loopings}
use Rattle.values.specs.Values.{value}
use Rattle.oracle_iface.specs.declared.keys.Key.{Key}
use Rattle.oracle_iface.specs.declared.keys.Op.TheVariants.{F as ImageOp, H as HomotopyOp, G as FillingOp, Cycles as CyclesOp}
use Rattle.oracle_iface.specs.declared.keys.Place.TheVariants.{Degree}
use Rattle.oracle_iface.specs.Keys.{key_of, quote_basis, quote_chain, quote_small_chain, formal}
use Rattle.oracle_iface.specs.SmallForms.{quote_small}
use Rattle.oracle_iface.specs.KeyLaws.{IsNamed, IsReadBack, HasCells, IsShown}
use Rattle.oracle_iface.specs.Forcing.{Calls}
use Rattle.oracle_iface.proofs.KeysBack.{valid-back}
use Rattle.homology_rules.specs.Asking.{first_refusal, up_to_refusal, MayForceEach, AskedFirst, EachAnswered}
use Rattle.homology_rules.specs.Shown.{IsSmallShown, HasShownValues}
use Rattle.homology_rules.specs.CellKeys.{cell_key_of}
use Rattle.homology_rules.specs.CycleVectors.{coordinates_over}
use Rattle.homology_rules.specs.Degrees.{cells_at, chains_at, keys_of_degree}
use Rattle.homology_rules.specs.SmallKeys.{small_key_of}
use Rattle.homology_rules.specs.Vectors.{keys_of_vector, carried_of}
use Rattle.homology_rules.proofs.Alike.{Alike, alike-same, alike-then, alike-append, may-alike}
use Rattle.homology_rules.proofs.CycleKeys.{g_keys-are}
use Rattle.homology_rules.proofs.QuotedVectors.{coordinates-quoted, all-coordinates, vectors-quoted, terms-quoted}
use Rattle.homology_rules.proofs.RisingCells.{cells-rise}
use Rattle.homology_rules.proofs.TypedCycles.{all-shown, d-shown, degree-told, vector-told}
use Rattle.homology_rules.proofs.TypedKeys.{term-is, named-is, none-append}
use Rattle.homology_rules.proofs.TypedSums.{f_key-is, h_key-is, f-sum, h-sum, f-sum_shown, h-sum_shown, g-sum_shown, sum-quoted}
use Rattle.space_faces.specs.Boundaries.{IsLowCell, graded_chain}
use Rattle.session_core.specs.declared.answered.Answered.{Answered}
use Rattle.session_core.specs.declared.answered.Answered.TheVariants.{Told as IsTold, Over as IsRefused}
use Rattle.session_core.specs.declared.parts_of_cycles.Expressed.{Expressed}
use Rattle.session_core.specs.Answer.{told_value}
use Rattle.session_core.specs.Expressing.{AreParts, keys_of_parts}
use Rattle.session_core.specs.Lines.{keys_asked}
use Rattle.session_core.specs.Questions.{class_of, filling_of, thrifty_numbers, expressed}
use Rattle.session_core.specs.Telling.{ComesTo}
use Rattle.session_core.specs.Whole.{IsReady}
use Rattle.session_core.specs.Along.{ComesAlong}
use Rattle.session_core.specs.Dimensions.{key_about, keys_of_dimension}
use Rattle.session_core.specs.Divisions.{class_over, filling_over, less_combined}
use Rattle.session_core.specs.KeyedParts.{cycles_key_of, keys_at_cells, image_at, homotopy_at, class_at, filling_at, keys_of_filling, filled_at, keys_of_degrees, keys_of_images, keys_before, keys_of_express, IsExpressed}
use Rattle.session_core.proofs.AskableKeys.{Good}
use Rattle.session_core.proofs.ExpressKeys.{all-good}
use Rattle.session_core.proofs.OneKeyAsked.{no_loopings}
use Rattle.session_core.proofs.Sides.{here, differentials_in, degree_asks}
use Rattle.session_core.proofs.PartsSides.{image_is, homotopy_is, vector_is, chosen_is, filled_is, f_asks, h_asks, g_asks, parts-value, parts-asked}
use Rattle.session_core.proofs.TypedDimensions.{dimension-keys}
use Rattle.session_core.proofs.ToldByKeys.{told-none, told-some, asked-alike, through-alike, ready-shown}
use Rattle.values.proofs.Readings.{EachAsk}

-- ---- the parts of vectors over quoted cells

module _ (a : Space) (p : ℕ) (ys : List (Small a)) (ds es : List (Terms (Small a))) (u : Every (IsSmallShown a) ys) (h : Every (Each (IsSmallShown a)) ds) (l : Every (Each (IsSmallShown a)) es) where
  class-quoted : (v : Vector) → class_over code_cmp p (quote_basis a ys) (map (quote_small_chain a) ds) (map (quote_small_chain a) es) v ≡ class_of p a ys ds es v
  class-quoted v =
      λ i. entries_at_leads (vectors-quoted a p ys ds es u h l i)
      (remainder p (length-map ys (quote_small a) i) (reduced_basis p (length-map ys (quote_small a) i) (in_span p (length-map ys (quote_small a) i) (all-coordinates a p ys es u l i))) v)

  filling-quoted : (v : Vector) → filling_over code_cmp p (quote_basis a ys) (map (quote_small_chain a) ds) (map (quote_small_chain a) es) a v ≡ filling_of p a ys ds es v
  filling-quoted v =
      λ i. thrifty_numbers p a (length-map ys (quote_small a) i) (all-coordinates a p ys es u l i)
      (less_combined p (length-map ys (quote_small a) i) v (class-quoted v i) (vectors-quoted a p ys ds es u h l i))

-- a chain of the code is the quote of what it stands for
graded-quoted : (X : Space) → HasCells X → (z : Terms CodeCell) → Each (IsLowCell X) z → quote_chain X (graded_chain X z) ≡ z
graded-quoted X cells [] h = refl
graded-quoted X cells (t ∷ z) h = λ i. ((cells (dim_of t.0) h.0.0).quoted t.0 h.0.1 i, t.1) ∷ graded-quoted X cells z h.1 i

module _ (p : Prime) (t : Term) (ready : IsReady (space_of t)) (n : ℕ) (most : n ≤ 16) (code : Terms CodeCell) (low : Each (IsLowCell (space_of t)) code)
    (degrees : Each (λ x. x.0 ≡ n) (graded_chain (space_of t) code)) where
  abbrev a : Space
  a = space_of t

  abbrev q : ℕ
  q = number p

  abbrev k : Key
  k = key_about t p 0

  abbrev key : Ask → Key
  key x = key_of p x

  abbrev z : Terms (Cell a)
  z = graded_chain a code

  shown : HasShownValues q a
  shown = ready-shown p a ready

  flat : loopings a ≡ 0
  flat = no_loopings a ready.1

  cells : HasCells a
  cells = shown.cells

  code-is : quote_chain a z ≡ code
  code-is = graded-quoted a cells code low

  z-shown : Each (IsShown a) z
  z-shown = by code low
    where
      by : (c : Terms CodeCell) → Each (IsLowCell a) c → Each (IsShown a) (graded_chain a c)
      by [] h = tt
      by (x ∷ c) h = ((h.0.0, ((cells (dim_of x.0) h.0.0).simplex x.0 h.0.1, (cells (dim_of x.0) h.0.0).not_degenerate x.0 h.0.1)), by c h.1)

  f-valid : Each (λ x. IsValid q (f_at a x.0 x.1)) z
  f-valid = by z z-shown degrees
    where
      by : (c : Terms (Cell a)) → Each (IsShown a) c → Each (λ x. x.0 ≡ n) c → Each (λ x. IsValid q (f_at a x.0 x.1)) c
      by [] s d = tt
      by (x ∷ c) s d = ((ready.0, s.0.1, (let e : x.0.0 ≡ n = d.0 in let f : loopings a ≡ 0 = no_loopings a ready.1 in omega (arith, e, f, most))), by c s.1 d.1)

  h-valid : Each (λ x. IsValid q (h_at a x.0 x.1)) z
  h-valid = by z z-shown degrees
    where
      by : (c : Terms (Cell a)) → Each (IsShown a) c → Each (λ x. x.0 ≡ n) c → Each (λ x. IsValid q (h_at a x.0 x.1)) c
      by [] s d = tt
      by (x ∷ c) s d = ((ready.0, s.0.1, (let e : x.0.0 ≡ n = d.0 in let f : loopings a ≡ 0 = no_loopings a ready.1 in omega (arith, e, f, most))), by c s.1 d.1)

  here-low : n + loopings a ≤ 24
  here-low = omega (arith, flat, most)

  next-low : n + 1 + loopings a ≤ 24
  next-low = omega (arith, flat, most)

  -- ---- keys

  f_keys : keys_at_cells k ImageOp code ≡ map key (f_asks (value q) q a n z)
  f_keys = ap (keys_at_cells k ImageOp) (sym code-is) ∙ by z
    where
      by : (c : Terms (Cell a)) → map (λ x. cell_key_of k ImageOp x.0) (quote_chain a c) ≡ map key (map (λ (x : Cell a × ℕ). f_at a x.0.0 x.0.1) c)
      by [] = refl
      by (x ∷ c) = λ i. f_key-is k a refl x.0.0 x.0.1 i ∷ by c i

  h_keys : keys_at_cells k HomotopyOp code ≡ map key (h_asks (value q) q a n z)
  h_keys = ap (keys_at_cells k HomotopyOp) (sym code-is) ∙ by z
    where
      by : (c : Terms (Cell a)) → map (λ x. cell_key_of k HomotopyOp x.0) (quote_chain a c) ≡ map key (map (λ (x : Cell a × ℕ). h_at a x.0.0 x.0.1) c)
      by [] = refl
      by (x ∷ c) = λ i. h_key-is k a refl x.0.0 x.0.1 i ∷ by c i

  cycles_key-is : cycles_key_of k n ≡ key (cycles a n)
  cycles_key-is = ap (λ (x : Term). record { op = CyclesOp; prime = p; place = Degree n; term = x }) (sym (term-is k a refl))

  -- ---- values, where the keys before them are not refused

  abbrev ys : ℕ → List (Small a)
  ys m = here (value q) q a m

  abbrev ds : ℕ → List (Terms (Small a))
  ds m = differentials_in (value q) q a m

  image-told : first_refusal (keys_at_cells k ImageOp code) ≡ None → (image_at k code).terms ≡ quote_small_chain a (image_is (value q) q a n z)
  image-told e =
      ap (λ c. (image_at k c).terms) (sym code-is) ∙ f-sum k a refl shown z f-valid (ap (λ c. first_refusal (keys_at_cells k ImageOp c)) code-is ∙ e)

  homotopy-told : first_refusal (keys_at_cells k HomotopyOp code) ≡ None → (homotopy_at k code).terms ≡ quote_chain a (homotopy_is (value q) q a n z)
  homotopy-told e =
      ap (λ c. (homotopy_at k c).terms) (sym code-is) ∙ h-sum k a refl shown z h-valid (ap (λ c. first_refusal (keys_at_cells k HomotopyOp c)) code-is ∙ e)

  module _ (e : first_refusal (keys_before k n code) ≡ None) where
    parts : (first_refusal (keys_of_degrees k n) ≡ None) × (first_refusal (keys_of_images k code) ≡ None)
    parts = none-append (keys_of_degrees k n) (keys_of_images k code) e

    both : (first_refusal (keys_of_degree k n) ≡ None) × (first_refusal (keys_of_degree k (n + 1)) ≡ None)
    both = none-append (keys_of_degree k n) (keys_of_degree k (n + 1)) (none-append (cycles_key_of k n ∷ []) (keys_of_dimension k n) parts.0).1

    images : (first_refusal (keys_at_cells k ImageOp code) ≡ None) × (first_refusal (keys_at_cells k HomotopyOp code) ≡ None)
    images = none-append (keys_at_cells k ImageOp code) (keys_at_cells k HomotopyOp code) parts.1

    next : n + 1 ≡ suc n
    next = omega arith

    first-cells : cells_at k n ≡ quote_basis a (ys n)
    first-cells = (degree-told k a refl n ready.0 here-low both.0).0

    first-chains : chains_at k (cells_at k n) ≡ map (quote_small_chain a) (ds n)
    first-chains = (degree-told k a refl n ready.0 here-low both.0).1

    next-cells : cells_at k (n + 1) ≡ quote_basis a (ys (n + 1))
    next-cells = (degree-told k a refl (n + 1) ready.0 next-low both.1).0

    next-chains : chains_at k (cells_at k (n + 1)) ≡ map (quote_small_chain a) (ds (suc n))
    next-chains = (degree-told k a refl (n + 1) ready.0 next-low both.1).1 ∙ ap (λ m. map (quote_small_chain a) (ds m)) next

    ys-shown : Every (IsSmallShown a) (ys n)
    ys-shown = all-shown q a n ready.0 here-low

    ds-shown : Every (Each (IsSmallShown a)) (ds n)
    ds-shown = d-shown q a n ready.0 here-low shown

    es-shown : Every (Each (IsSmallShown a)) (ds (suc n))
    es-shown = subst (λ m. Every (Each (IsSmallShown a)) (ds m)) next (d-shown q a (n + 1) ready.0 next-low shown)

    vector-same : coordinates_over code_cmp q (cells_at k n) (image_at k code).terms ≡ vector_is (value q) q a n z
    vector-same =
        (λ i. coordinates_over code_cmp q (first-cells i) (image-told images.0 i))
        ∙ coordinates-quoted a q (ys n) (image_is (value q) q a n z) ys-shown (f-sum_shown q a shown z f-valid)

    class-same : class_at k n (image_at k code).terms ≡ class_of q a (ys n) (ds n) (ds (suc n)) (vector_is (value q) q a n z)
    class-same =
        (λ i. class_over code_cmp q (first-cells i) (first-chains i) (next-chains i) (vector-same i))
        ∙ class-quoted a q (ys n) (ds n) (ds (suc n)) ys-shown ds-shown es-shown (vector_is (value q) q a n z)

    filling-same : filling_at k n (image_at k code).terms ≡ chosen_is (value q) q a n z
    filling-same =
        (λ i. filling_over code_cmp q (first-cells i) (first-chains i) (next-chains i) a (vector-same i))
        ∙ filling-quoted a q (ys n) (ds n) (ds (suc n)) ys-shown ds-shown es-shown (vector_is (value q) q a n z)

    g_keys : keys_of_filling k n (image_at k code).terms ≡ map key (g_asks (value q) q a n z)
    g_keys =
        (λ i. keys_of_vector k (next-cells i) (filling-same i))
        ∙ ap (map (λ x. small_key_of k FillingOp x.0)) (terms-quoted a q (ys (n + 1)) (chosen_is (value q) q a n z))
        ∙ g_keys-are k a refl (terms_of q a (ys (n + 1)) (chosen_is (value q) q a n z))
        ∙ ap (λ m. map key (map (λ (x : Small a × ℕ). g_at a x.0) (terms_of q a (ys m) (chosen_is (value q) q a n z)))) next

    carried-same : first_refusal (keys_of_filling k n (image_at k code).terms) ≡ None
        → carried_of k (cells_at k (n + 1)) (filling_at k n (image_at k code).terms)
        ≡ formal p (quote_chain a (value_with (value q) (carried q a (ys (n + 1)) (chosen_is (value q) q a n z))))
    carried-same r =
        (λ i. carried_of k (next-cells i) (filling-same i))
        ∙ vector-told k a refl (n + 1) (chosen_is (value q) q a n z) ready.0 next-low shown (sym (λ i. first_refusal (keys_of_vector k (next-cells i) (filling-same i))) ∙ r)

    filled-same : first_refusal (keys_of_filling k n (image_at k code).terms) ≡ None
        → filled_at k n (image_at k code).terms (homotopy_at k code).terms
        ≡ formal p (quote_chain a (normal (by_degree (ordered a).cmp) q (homotopy_is (value q) q a n z ++ filled_is (value q) q a n z)))
    filled-same r =
        ap (λ c. formal p (normal cell_cmp q c)) (λ i. homotopy-told images.1 i ++ (carried-same r i).terms)
        ∙ ap (λ c. formal p c)
        (sum-quoted a q (homotopy_is (value q) q a n z) (value_with (value q) (carried q a (ys (n + 1)) (chosen_is (value q) q a n z))) cells (h-sum_shown q a shown z h-valid)
        (g-sum_shown q a shown (n + 1) (chosen_is (value q) q a n z) ready.0 next-low)
        ∙ ap (λ m. quote_chain a (normal (by_degree (ordered a).cmp) q (homotopy_is (value q) q a n z ++ value_with (value q) (carried q a (ys m) (chosen_is (value q) q a n z))))) next)

  -- ---- all keys

  abbrev asks_in : ℕ → List Ask
  asks_in m = degree_asks (value q) q a m

  abbrev lists : List Key
  lists = (map key (cycles a n ∷ []) ++ map key (asks_in n ++ asks_in (suc n))) ++ (map key (f_asks (value q) q a n z) ++ map key (h_asks (value q) q a n z))

  abbrev asks : List Ask
  asks = cycles a n ∷ (asks_in n ++ (asks_in (suc n) ++ (f_asks (value q) q a n z ++ (h_asks (value q) q a n z ++ g_asks (value q) q a n z))))

  joined-lists : lists ++ map key (g_asks (value q) q a n z) ≡ map key asks
  joined-lists =
      ap (λ x. ((map key (cycles a n ∷ []) ++ map key (asks_in n ++ asks_in (suc n))) ++ x) ++ map key (g_asks (value q) q a n z)) (sym (map-append key (f_asks (value q) q a n z) (h_asks (value q) q a n z)))
      ∙ ap (λ x. (x ++ map key (f_asks (value q) q a n z ++ h_asks (value q) q a n z)) ++ map key (g_asks (value q) q a n z)) (sym (map-append key (cycles a n ∷ []) (asks_in n ++ asks_in (suc n))))
      ∙ ap (λ x. x ++ map key (g_asks (value q) q a n z)) (sym (map-append key ((cycles a n ∷ []) ++ (asks_in n ++ asks_in (suc n))) (f_asks (value q) q a n z ++ h_asks (value q) q a n z)))
      ∙ sym (map-append key (((cycles a n ∷ []) ++ (asks_in n ++ asks_in (suc n))) ++ (f_asks (value q) q a n z ++ h_asks (value q) q a n z)) (g_asks (value q) q a n z))
      ∙ ap (map key)
      (ap (λ x. x ++ g_asks (value q) q a n z) (append_assoc (cycles a n ∷ []) (asks_in n ++ asks_in (suc n)) (f_asks (value q) q a n z ++ h_asks (value q) q a n z))
      ∙ ap (λ x. cycles a n ∷ x)
      (ap (λ x. x ++ g_asks (value q) q a n z) (append_assoc (asks_in n) (asks_in (suc n)) (f_asks (value q) q a n z ++ h_asks (value q) q a n z))
      ∙ append_assoc (asks_in n) (asks_in (suc n) ++ (f_asks (value q) q a n z ++ h_asks (value q) q a n z)) (g_asks (value q) q a n z)
      ∙ ap (λ x. asks_in n ++ x)
      (append_assoc (asks_in (suc n)) (f_asks (value q) q a n z ++ h_asks (value q) q a n z) (g_asks (value q) q a n z)
      ∙ ap (λ x. asks_in (suc n) ++ x) (append_assoc (f_asks (value q) q a n z) (h_asks (value q) q a n z) (g_asks (value q) q a n z)))))

  before-alike : Alike (keys_before k n code) lists
  before-alike =
      alike-append (keys_of_degrees k n) (map key (cycles a n ∷ []) ++ map key (asks_in n ++ asks_in (suc n))) (keys_of_images k code) (map key (f_asks (value q) q a n z) ++ map key (h_asks (value q) q a n z))
      (alike-append (cycles_key_of k n ∷ []) (map key (cycles a n ∷ [])) (keys_of_dimension k n) (map key (asks_in n ++ asks_in (suc n)))
      (alike-same (cycles_key_of k n ∷ []) (map key (cycles a n ∷ [])) (ap (λ x. x ∷ []) cycles_key-is)) (λ e. dimension-keys p t ready.0 n))
      (λ e. alike-same (keys_of_images k code) (map key (f_asks (value q) q a n z) ++ map key (h_asks (value q) q a n z)) (λ i. f_keys i ++ h_keys i))

  abbrev ours : List Key
  ours = keys_of_express k n code

  abbrev theirs : List Key
  theirs = keys_of_parts p t n z

  asked-is : map key (asked_with (value q) (expressed q a n z)) ≡ map key asks
  asked-is = ap (map key) (parts-asked (value q) q a n z)

  alike : Alike ours theirs
  unfolding keys_of_parts
  alike =
      alike-then ours (lists ++ map key (g_asks (value q) q a n z)) (map key (asked_with (value q) (expressed q a n z)))
      (alike-append (keys_before k n code) lists (keys_of_filling k n (image_at k code).terms) (map key (g_asks (value q) q a n z)) before-alike
      (λ e. alike-same (keys_of_filling k n (image_at k code).terms) (map key (g_asks (value q) q a n z)) (g_keys e)))
      (joined-lists ∙ sym asked-is)

  -- each question is read back
  good-back : (x : Ask) → Good p t ready x → IsReadBack p x
  good-back x g = valid-back p x (subst IsNamed (sym g.0) (named-is k a refl)) (subst HasCells (sym g.0) cells) g.1

  each-back : (xs : List Ask) → EachAsk (Good p t ready) xs → Every (IsReadBack p) xs
  each-back [] g = tt
  each-back (x ∷ xs) g = (good-back x g.0, each-back xs g.1)

  back : Every (IsReadBack p) (asked_with (value q) (expressed q a n z))
  back = each-back (asked_with (value q) (expressed q a n z)) (all-good p t ready n most z z-shown degrees)

  same-keys : theirs ≡ keys_asked p (expressed q a n z)
  unfolding keys_of_parts
  same-keys = refl

  pub rises : IsStrictlySortedBy code_cmp (cells_at k n)
  rises = cells-rise k a n refl ready.0 here-low

  module _ {F : Type 0} (may : F → Key → Type 0) (calls : Calls F) (s u : F) where
    pub may-ours : MayForceEach may calls s theirs → MayForceEach may calls s ours
    may-ours r = may-alike may calls ours theirs s alike r

    pub asked-theirs : AskedFirst calls ours s u → AskedFirst calls theirs s u
    asked-theirs r = asked-alike calls ours theirs s u alike r

    pub through-theirs : (x : Answered Expressed) → ComesAlong calls ours (λ y. IsExpressed k n code y) s u x → EachAnswered calls s (up_to_refusal theirs) u
    through-theirs x c = through-alike calls ours theirs (λ y. IsExpressed k n code y) s u x alike c

    pub comes : (x : Answered Expressed) → ComesAlong calls ours (λ y. IsExpressed k n code y) s u x → ComesTo (AreParts p a) (told_value p t n (expressed q a n z)) x
    comes (IsTold y) c =
        let parts = none-append (keys_before k n code) (keys_of_filling k n (image_at k code).terms) c.0 in (
          value_with (value q) (expressed q a n z),
          told-none p t n (expressed q a n z) back (ap first_refusal (sym same-keys) ∙ sym alike.refusal ∙ c.0),
          (
            (λ i. record { prime = c.1.prime i; values = (c.1.values ∙ class-same parts.0 ∙ ap (λ (v : Vector × Terms (Cell a)). v.0) (sym (parts-value (value q) q a n z))) i }),
            c.1.rest ∙ filled-same parts.0 parts.1 ∙ ap (λ (v : Vector × Terms (Cell a)). formal p (quote_chain a v.1)) (sym (parts-value (value q) q a n z)),
          ),
        )
    comes (IsRefused w) c = told-some p t n (expressed q a n z) back w (ap first_refusal (sym same-keys) ∙ sym alike.refusal ∙ c.0)
