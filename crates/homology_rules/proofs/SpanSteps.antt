-- The span of chains over cells, and the relations between the rows of cells, as they are made.
use Rattle.std.proofs.Common.{◌≡◌, ℕ, suc, ◌+◌, ◌<◌, Bool, false, List, [], ◌∷◌, ◌++◌, map, length, take, get_or, replicate, All, refl, sym, ◌∙◌, ap, subst, arith}
use Rattle.std.proofs.Math.Seq.{take-suc}
use Rattle.std.proofs.lemmas.List.{map-append, length-replicate, length-set}
use Rattle.std.proofs.lemmas.List.Elements.{All-from_recursion, recursion_from_All}
use Rattle.std.specs.List.{AllByRecursion, Contains}
use Rattle.std.specs.Cmp.{IsTotalOrder}
use Rattle.std.specs.declared.cmp.Ordering.{Ordering}
use Rattle.std.specs.declared.cmp.Ordering.TheVariants.{Equal}
use Rattle.fp_field.specs.declared.prime.Prime.{Prime}
use Rattle.fp_field.specs.Field.{number}
use Rattle.fp_field.specs.Chains.{Terms, Each}
use Rattle.fp_field.proofs.Primes.{number_pos}
use Rattle.echelons.specs.Echelon.{Vector, IsVector, at_place, lead, zeros, in_kernel, in_span, reduced_basis, IsReducedEchelon}
use Rattle.echelons.proofs.Leads.{lead-in}
use Rattle.echelons.proofs.Spans.{span-subspace}
use Rattle.elim_fp.specs.Rows.{DenseRow, vectors_of, IsRow}
use Rattle.values.proofs.BasesLists.{Member, member_of}
use Rattle.homology_rules.specs.CycleVectors.{coordinates_over, cycle_vectors_over, kernel_rows, AreCovered, marked_by}
use Rattle.homology_rules.proofs.RowSteps.{coordinates-vector}
use Rattle.homology_rules.proofs.Kernels.{EachOf, cycle-relations}
use Rattle.homology_rules.proofs.Marking.{marks-clear}

append-nothing : {A : Type 0} (xs : List A) → xs ++ [] ≡ xs
append-nothing [] = refl
append-nothing (x ∷ xs) = ap (λ z. x ∷ z) (append-nothing xs)

-- ---- the rows of coordinates

module _ {K : Type 0} (cmp : K → K → Ordering) (q : Prime) (cells : List K) where
  pub coordinates-row : (d : Terms K) (r : DenseRow) → r.prime ≡ q → r.values ≡ coordinates_over cmp (number q) cells d ++ zeros 0 → IsRow q (length cells) r
  coordinates-row d r e f = record {
    prime_is = e;
    vector = subst (IsVector (number q) (length cells)) (sym (f ∙ append-nothing (coordinates_over cmp (number q) cells d))) (coordinates-vector cmp (number q) (number_pos q) cells d);
  }

  pub coordinates_more : {V : Type 0} (chain_of : V → Terms K) (vs : List V) (i : ℕ) (v : V) (old new : List DenseRow) (r : DenseRow) (d : Terms K) → i < length vs → v ≡ get_or vs i v
      → vectors_of old ≡ map (λ c. coordinates_over cmp (number q) cells c) (map chain_of (take i vs)) → r.values ≡ coordinates_over cmp (number q) cells d ++ zeros 0 → d ≡ chain_of v → new ≡ old ++ r ∷ []
      → vectors_of new ≡ map (λ c. coordinates_over cmp (number q) cells c) (map chain_of (take (i + 1) vs))
  coordinates_more chain_of vs i v old new r d l e h f m g =
      ap vectors_of g ∙ map-append (λ (x : DenseRow). x.values) old (r ∷ [])
      ∙ (λ j. h j ++ (f ∙ append-nothing (coordinates_over cmp (number q) cells d) ∙ ap (λ c. coordinates_over cmp (number q) cells c) m) j ∷ [])
      ∙ sym (ap (λ k. map (λ c. coordinates_over cmp (number q) cells c) (map chain_of (take k vs))) (let p : i + 1 ≡ suc i = omega arith in p)
      ∙ ap (λ z. map (λ c. coordinates_over cmp (number q) cells c) (map chain_of z)) (take-suc vs i v l ∙ ap (λ z. take i vs ++ z ∷ []) (sym e))
      ∙ ap (map (λ c. coordinates_over cmp (number q) cells c)) (map-append chain_of (take i vs) (v ∷ []))
      ∙ map-append (λ c. coordinates_over cmp (number q) cells c) (map chain_of (take i vs)) (chain_of v ∷ []))

-- ---- leading places

pub leads-below : (p w : ℕ) (rows : List DenseRow) → IsReducedEchelon p w (vectors_of rows) → All (λ r. lead r.values < w) rows
leads-below p w rows h = All-from_recursion (λ r. lead r.values < w) rows
    (by rows (recursion_from_All (IsVector p w) (vectors_of rows) h.vectors_all) (recursion_from_All (λ r. at_place r (lead r) ≡ 1) (vectors_of rows) h.leads_one))
  where
    by : (rs : List DenseRow) → AllByRecursion (IsVector p w) (vectors_of rs) → AllByRecursion (λ r. at_place r (lead r) ≡ 1) (vectors_of rs) → AllByRecursion (λ r. lead r.values < w) rs
    by [] a b = tt
    by (r ∷ rs) a b = (
      let one : at_place r.values (lead r.values) ≡ 1 = b.0 in
          subst (λ n. lead r.values < n) a.0.wide (lead-in r.values (lead r.values) (omega arith)),
      by rs a.1 b.1,
    )

pub leads-vectors : (w : ℕ) (rows : List DenseRow) → All (λ r. lead r.values < w) rows → All (λ r. lead r < w) (vectors_of rows)
leads-vectors w rows h = All-from_recursion (λ r. lead r < w) (vectors_of rows) (by rows (recursion_from_All (λ r. lead r.values < w) rows h))
  where
    by : (rs : List DenseRow) → AllByRecursion (λ r. lead r.values < w) rs → AllByRecursion (λ r. lead r < w) (vectors_of rs)
    by [] a = tt
    by (r ∷ rs) a = (a.0, by rs a.1)

pub length-marked : (vs : List Vector) (ms : List Bool) → length (marked_by ms vs) ≡ length ms
length-marked [] ms = refl
length-marked (v ∷ vs) ms = length-marked vs _ ∙ length-set ms (lead v) _

pub length-rows : {K : Type 0} (cmp : K → K → Ordering) (p : ℕ) (cols : List K) (n i : ℕ) (ms : List Bool) (ds : List (Terms K)) → length ms ≡ length ds
    → length (kernel_rows cmp p cols n i ms ds) ≡ length ms
length-rows cmp p cols n i [] ds e = refl
length-rows cmp p cols n i (m ∷ ms) [] e = absurd (omega (arith, e))
length-rows cmp p cols n i (m ∷ ms) (d ∷ ds) e = ap suc (length-rows cmp p cols n (suc i) ms ds (omega (arith, e)))

-- ---- the vectors of cycles

module _ {K : Type 0} (cmp : K → K → Ordering) (total : IsTotalOrder cmp) (one_key : (x y : K) → cmp x y ≡ Equal → x ≡ y) (q : Prime) (cells cols : List K)
    (ds es : List (Terms K)) (as_many : length ds ≡ length cells) (covered : AreCovered cols ds) where
  abbrev p : ℕ
  p = number q

  abbrev boundaries : Vector → Bool
  boundaries = in_span p (length cells) (map (λ d. coordinates_over cmp p cells d) es)

  wide : (cs : List (Terms K)) → AllByRecursion (λ v. length v ≡ length cells) (map (λ d. coordinates_over cmp p cells d) cs)
  wide [] = tt
  wide (c ∷ cs) = ((coordinates-vector cmp p (number_pos q) cells c).wide, wide cs)

  members : (cs : List (Terms K)) → AreCovered cols cs → EachOf cmp (λ k. Member k cols) cs
  members [] h = tt
  members (c ∷ cs) h = (each c h.0, members cs h.1)
    where
      each : (e : Terms K) → Each (Contains cols) e → Each (λ k. Member k cols) e
      each [] g = tt
      each (t ∷ e) g = (member_of cols t.0 g.0, each e g.1)

  -- the relations between the rows, with the leading places of the boundaries marked, are the vectors of cycles
  pub cycles-are : (rows : List Vector) (marks : List Bool) (images : List Vector) (width count : ℕ) → rows ≡ reduced_basis p (length cells) boundaries → All (λ r. lead r < length cells) rows
      → marks ≡ marked_by (replicate (length cells) false) rows → count ≡ length cells → images ≡ kernel_rows cmp p cols count 0 marks ds → width ≡ length cols + count
      → reduced_basis p (length images) (in_kernel p width images) ≡ cycle_vectors_over cmp p cells ds es
  cycles-are rows marks images width count e l m n i w =
      (λ j. reduced_basis p (length (same_images j)) (in_kernel p (same_width j) (same_images j)))
      ∙ cycle-relations cmp total one_key q cols (length cells) (marked_by (replicate (length cells) false) rows) ds
      (marks-count ∙ sym as_many) marks-count (members ds covered) boundaries
      (λ v g. marks-clear q (length cells) boundaries (span-subspace p (length cells) (number_pos q) (map (λ d. coordinates_over cmp p cells d) es) (wide es)) rows e l v g)
    where
      marks-count : length (marked_by (replicate (length cells) false) rows) ≡ length cells
      marks-count = length-marked rows (replicate (length cells) false) ∙ length-replicate (length cells) false

      same_images : images ≡ kernel_rows cmp p cols (length cells) 0 (marked_by (replicate (length cells) false) rows) ds
      same_images = i ∙ (λ j. kernel_rows cmp p cols (n j) 0 (m j) ds)

      same_width : width ≡ length cols + length cells
      same_width = w ∙ ap (λ k. length cols + k) n
