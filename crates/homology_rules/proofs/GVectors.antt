-- Vectors that are carried one after the other: a step of the walk along them.
use Rattle.std.proofs.Common.{◌≡◌, ℕ, suc, ◌+◌, ◌<◌, List, [], ◌∷◌, ◌++◌, map, length, take, drop, get_or, refl, sym, ◌∙◌, ap, subst, arith, append_assoc, ◌≤◌, ◌⊎◌, inl, inr}
use Rattle.std.specs.Prelude.{Some, None}
use Rattle.std.proofs.lemmas.Bool.{cases_lt}
use Rattle.std.proofs.Math.Seq.{take-suc, drop-cons, take-append-add, take-append_seam}
use Rattle.std.proofs.lemmas.List.{map-append, take-append-drop, take-append-le, take_all}
use Rattle.chain_core.specs.Formal.{Formal}
use Rattle.elim_fp.specs.Rows.{DenseRow, vectors_of}
use Rattle.values.specs.Rules.{joined}
use Rattle.cells.specs.declared.cells.Cell.{Cell}
use Rattle.cells.specs.declared.cells.SmallCell.{SmallCell}
use Rattle.oracle_iface.specs.declared.keys.Key.{Key}
use Rattle.oracle_iface.specs.declared.bodies.Over.{Over}
use Rattle.oracle_iface.specs.Forcing.{Calls, Asked, asked-both}
use Rattle.homology_rules.specs.Asking.{first_refusal, up_to_refusal, MayForceEach, AskedFirst}
use Rattle.homology_rules.specs.Vectors.{keys_of_vector, keys_of_vectors, carried_of}
use Rattle.homology_rules.proofs.Answered.{none-split, up-none, up-whole, up-prefix, or_then, refusal-append}

module _ {F : Type 0} (may : F → Key → Type 0) (calls : Calls F) where
  -- keys that may be asked for: the first of them, and then the others
  pub may_first : (s : F) (a b : List Key) → MayForceEach may calls s (a ++ b) → MayForceEach may calls s a
  may_first s [] b h = tt
  may_first s (k ∷ a) b h = (h.0, λ r t c e. may_first t a b (h.1 r t c e))

  pub may_rest : (s t : F) (a b : List Key) → first_refusal a ≡ None → MayForceEach may calls s (a ++ b) → Asked calls s a t → MayForceEach may calls t b
  may_rest s t [] b n h e = subst (λ x. MayForceEach may calls x b) e h
  may_rest s t (k ∷ a) b n h e = let m = none-split k a n in may_rest e.0 t a b m.1 (h.1 e.1 e.0 e.2 m.0) e.3

  -- keys asked for after others
  pub asked_first_then : (s t u : F) (a b whole : List Key) → whole ≡ a ++ b → first_refusal a ≡ None → Asked calls s a t → AskedFirst calls b t u → AskedFirst calls whole s u
  asked_first_then s t u a b whole w n h e = (
    length a + e.0,
    subst (λ ks. Asked calls s ks u) (sym (take-append-add a (up_to_refusal b) e.0) ∙ ap (take (length a + e.0)) (sym (ap up_to_refusal w ∙ up-none a b n)))
        (asked-both calls s t u a (take e.0 (up_to_refusal b)) h e.1),
  )

  pub asked_first_of : (s t : F) (a b whole : List Key) → whole ≡ a ++ b → AskedFirst calls a s t → AskedFirst calls whole s t
  asked_first_of s t a b whole w e = by (cases_lt e.0 (length (up_to_refusal a)))
    where
      more : (c : List Key) × (up_to_refusal whole ≡ up_to_refusal a ++ c)
      more = let p = up-prefix a b in (p.0, ap up_to_refusal w ∙ p.1)

      by : (e.0 < length (up_to_refusal a)) ⊎ (length (up_to_refusal a) ≤ e.0) → AskedFirst calls whole s t
      by (inl l) = (
        e.0,
        subst (λ ks. Asked calls s ks t)
            (sym (take-append-le e.0 (up_to_refusal a) more.0 (let q : e.0 ≤ length (up_to_refusal a) = omega arith in q)) ∙ ap (take e.0) (sym more.1)) e.1,
      )
      by (inr l) = (
        length (up_to_refusal a),
        subst (λ ks. Asked calls s ks t)
            (take_all e.0 (up_to_refusal a) l ∙ sym (take-append_seam (up_to_refusal a) more.0) ∙ ap (take (length (up_to_refusal a))) (sym more.1)) e.1,
      )

  pub asked_whole : (s t : F) (a : List Key) → first_refusal a ≡ None → Asked calls s a t → AskedFirst calls a s t
  asked_whole s t a n h =
      (length a, subst (λ ks. Asked calls s ks t) (sym (take_all (length a) a (let q : length a ≤ length a = omega arith in q)) ∙ ap (take (length a)) (sym (up-whole a n))) h)

joined-append : {A : Type 0} (xs ys : List (List A)) → joined (xs ++ ys) ≡ joined xs ++ joined ys
joined-append [] ys = refl
joined-append (x ∷ xs) ys = ap (λ l. x ++ l) (joined-append xs ys) ∙ sym (append_assoc x (joined xs) (joined ys))

module _ (k : Key) (ys : List SmallCell) (rows : List DenseRow) (i : ℕ) (r : DenseRow) (l : i < length rows) (r_is : r ≡ get_or rows i r) where
  abbrev keys : List DenseRow → List Key
  keys rs = keys_of_vectors k ys (vectors_of rs)

  keys-append : (a b : List DenseRow) → keys (a ++ b) ≡ keys a ++ keys b
  keys-append a b =
      ap (λ vs. joined (map (keys_of_vector k ys) vs)) (map-append (λ (x : DenseRow). x.values) a b)
      ∙ ap joined (map-append (keys_of_vector k ys) (vectors_of a) (vectors_of b)) ∙ joined-append (map (keys_of_vector k ys) (vectors_of a)) (map (keys_of_vector k ys) (vectors_of b))

  append-nothing : {A : Type 0} (xs : List A) → xs ++ [] ≡ xs
  append-nothing [] = refl
  append-nothing (x ∷ xs) = ap (λ z. x ∷ z) (append-nothing xs)

  taken-rows : take (i + 1) rows ≡ take i rows ++ r ∷ []
  taken-rows = ap (λ n. take n rows) (let q : i + 1 ≡ suc i = omega arith in q) ∙ take-suc rows i r l ∙ ap (λ x. take i rows ++ x ∷ []) (sym r_is)

  left-rows : drop i rows ≡ r ∷ drop (i + 1) rows
  left-rows = drop-cons rows i r l ∙ (λ j. sym r_is j ∷ drop (let q : suc i ≡ i + 1 = omega arith in q j) rows)

  -- the keys that are left: those of this vector and the others
  pub keys_left : keys (drop i rows) ≡ keys_of_vector k ys r.values ++ keys (drop (i + 1) rows)
  keys_left = ap keys left-rows

  pub keys_taken : keys (take (i + 1) rows) ≡ keys (take i rows) ++ keys_of_vector k ys r.values
  keys_taken = ap keys taken-rows ∙ keys-append (take i rows) (r ∷ []) ∙ ap (λ z. keys (take i rows) ++ z) (append-nothing (keys_of_vector k ys r.values))

  pub keys_all : keys rows ≡ keys (take i rows) ++ (keys_of_vector k ys r.values ++ keys (drop (i + 1) rows))
  keys_all = ap keys (sym (take-append-drop i rows)) ∙ keys-append (take i rows) (drop i rows) ∙ ap (λ z. keys (take i rows) ++ z) keys_left

  pub chains_more : (old new : List (Formal Cell)) (c : Formal Cell) → old ≡ map (λ v. carried_of k ys v) (vectors_of (take i rows)) → c ≡ carried_of k ys r.values → new ≡ old ++ c ∷ []
      → new ≡ map (λ v. carried_of k ys v) (vectors_of (take (i + 1) rows))
  chains_more old new c e f g =
      g ∙ (λ j. e j ++ f j ∷ []) ∙ sym (ap (λ rs. map (λ v. carried_of k ys v) (vectors_of rs)) taken-rows
      ∙ ap (map (λ v. carried_of k ys v)) (map-append (λ (x : DenseRow). x.values) (take i rows) (r ∷ [])) ∙ map-append (λ v. carried_of k ys v) (vectors_of (take i rows)) (r.values ∷ []))

  pub none_taken : first_refusal (keys (take i rows)) ≡ None → first_refusal (keys_of_vector k ys r.values) ≡ None → first_refusal (keys (take (i + 1) rows)) ≡ None
  none_taken h e = ap first_refusal keys_taken ∙ refusal-append (keys (take i rows)) (keys_of_vector k ys r.values) ∙ (λ j. or_then (h j) (e j))

  pub refusal_taken : (w : Over) → first_refusal (keys (take i rows)) ≡ None → first_refusal (keys_of_vector k ys r.values) ≡ Some w → first_refusal (keys rows) ≡ Some w
  refusal_taken w h e =
      ap first_refusal keys_all ∙ refusal-append (keys (take i rows)) (keys_of_vector k ys r.values ++ keys (drop (i + 1) rows))
      ∙ ap (λ o. or_then o (first_refusal (keys_of_vector k ys r.values ++ keys (drop (i + 1) rows)))) h
      ∙ refusal-append (keys_of_vector k ys r.values) (keys (drop (i + 1) rows)) ∙ ap (λ o. or_then o (first_refusal (keys (drop (i + 1) rows)))) e

  module _ {F : Type 0} (may : F → Key → Type 0) (calls : Calls F) (s t u : F) where
    pub may_vector : MayForceEach may calls t (keys (drop i rows)) → MayForceEach may calls t (keys_of_vector k ys r.values)
    may_vector h = may_first may calls t (keys_of_vector k ys r.values) (keys (drop (i + 1) rows)) (subst (MayForceEach may calls t) keys_left h)

    pub may_vectors : MayForceEach may calls t (keys (drop i rows)) → first_refusal (keys_of_vector k ys r.values) ≡ None → Asked calls t (keys_of_vector k ys r.values) u → MayForceEach may calls u (keys (drop (i + 1) rows))
    may_vectors h n e = may_rest may calls t u (keys_of_vector k ys r.values) (keys (drop (i + 1) rows)) n (subst (MayForceEach may calls t) keys_left h) e

    pub asked_vectors : Asked calls s (keys (take i rows)) t → Asked calls t (keys_of_vector k ys r.values) u → Asked calls s (keys (take (i + 1) rows)) u
    asked_vectors h e = subst (λ ks. Asked calls s ks u) (sym keys_taken) (asked-both calls s t u (keys (take i rows)) (keys_of_vector k ys r.values) h e)

    pub asked_part : first_refusal (keys (take i rows)) ≡ None → Asked calls s (keys (take i rows)) t → AskedFirst calls (keys_of_vector k ys r.values) t u → AskedFirst calls (keys rows) s u
    asked_part n h e =
        asked_first_then may calls s t u (keys (take i rows)) (keys_of_vector k ys r.values ++ keys (drop (i + 1) rows)) (keys rows) keys_all n h
        (asked_first_of may calls t u (keys_of_vector k ys r.values) (keys (drop (i + 1) rows)) (keys_of_vector k ys r.values ++ keys (drop (i + 1) rows)) refl e)
