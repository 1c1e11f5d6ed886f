-- The kernel and the image of a linear map have together as many basis vectors as the map has images of unit vectors.
use Rattle.std.proofs.Common.{◌≡◌, ℕ, zero, suc, ◌+◌, ◌*◌, ◌-◌, ◌%◌, ◌<◌, true, List, [], ◌∷◌, map, length, refl, sym, ◌∙◌, ap, subst, arith}
use Rattle.std.proofs.Math.ListN.{length-map}
use Rattle.std.proofs.lemmas.List.Elements.{All-cons, All-from_recursion, recursion_from_All}
use Rattle.std.specs.List.{AllByRecursion as Each}
use Rattle.fp_field.specs.Field.{IsField}
use Rattle.echelons.specs.Echelon.{Vector, IsVector, at_place, zeros, vector_plus, multiple, combined, in_span, in_kernel, reduced_basis, complement, IsSubspace, IsSplitOnce}
use Rattle.fp_field.proofs.Mod.{same-plus, same-by, pred-times}
use Rattle.echelons.proofs.Vectors.{Each-weaker, Wide, length-multiple, place-plus, place-multiple, place-zeros, plus-vector, combined-vector, zeros-vector, same-vector}
use Rattle.echelons.proofs.Lists.{Each-from}
use Rattle.echelons.proofs.Rows.{Stairs-from, row-vector}
use Rattle.echelons.proofs.Basis.{basis-echelon, basis-spans}
use Rattle.echelons.proofs.Spans.{span-combination, combination-span, combined-zeros, combined-plus, combined-multiple, kernel-at, kernel-from, kernel-subspace, span-subspace}
use Rattle.echelons.proofs.Halves.{units, length-units, units-combined}
use Rattle.echelons.proofs.Complement.{complement-echelon, splits-once}
use Rattle.echelons.proofs.Counts.{IsBasis, basis-lengths, echelon-basis, split-length}

all-space : (p n : ℕ) → IsSubspace p n (λ v. true)
all-space p n = record { zero_in = refl; plus_in = λ u v g h e f. refl; multiple_in = λ a v l g e. refl }

units-vectors : (p n : ℕ) → 1 < p → Each (IsVector p n) (units n)
units-vectors p zero l = tt
units-vectors p (suc n) l = (
  record { wide = ap suc none.wide; below = All-cons (λ a. a < p) 1 (zeros n) l none.below },
  later (units n) (units-vectors p n l),
)
  where
    pos : 0 < p
    pos = omega arith

    none : IsVector p n (zeros n)
    none = zeros-vector p pos n

    later : (vs : List Vector) → Each (IsVector p n) vs → Each (IsVector p (suc n)) (map (λ v. 0 ∷ v) vs)
    later [] h = tt
    later (v ∷ vs) h = (record { wide = ap suc h.0.wide; below = All-cons (λ a. a < p) 0 v pos h.0.below }, later vs h.1)

units-basis : (p n : ℕ) → 1 < p → IsBasis p n (units n) (λ v. true)
units-basis p n l = record {
  rows_in = units-vectors p n l;
  rows_within = Each-from (λ r. true ≡ true) (units n) (λ r m. refl);
  once = λ v g e. (
    v,
    subst (λ k. IsVector p k v) (sym (length-units n)) g,
    itself v g,
    λ ds d f. sym (itself ds (subst (λ k. IsVector p k ds) (length-units n) d)) ∙ f,
  );
}
  where
    itself : (v : Vector) → IsVector p n v → combined p n v (units n) ≡ v
    itself v g = units-combined p n v g.wide (recursion_from_All (λ a. a < p) v g.below)

module _ (p w : ℕ) (field : IsField p) (vs : List Vector) (wide : Wide w vs) where
  pos : 0 < p
  pos = let l : 1 < p = field.one_is_not_zero in omega arith

  -- the image of a vector
  abbrev image : Vector → Vector
  image x = combined p w x vs

  -- a complement of the kernel
  abbrev rows : List Vector
  rows = complement p (length vs) (λ v. true) (in_kernel p w vs)

  kernel : IsSubspace p (length vs) (in_kernel p w vs)
  kernel = kernel-subspace p w pos vs wide

  rows-in : Each (IsVector p (length vs)) rows
  rows-in =
      let s = Stairs-from p (length vs) rows (complement-echelon p (length vs) field (λ v. true) (in_kernel p w vs) (all-space p (length vs))) in
      Each-from (IsVector p (length vs)) rows (λ r m. row-vector p (length vs) rows r s m)

  rows-split : (v : Vector) → IsVector p (length vs) v → IsSplitOnce p (length vs) rows (in_kernel p w vs) v
  rows-split v g = splits-once p (length vs) field (λ u. true) (in_kernel p w vs) (all-space p (length vs)) kernel (λ u h e. refl) v g refl

  -- a linear map takes combinations to combinations of the images
  image-combined : (cs : List ℕ) (us : List Vector) → Each (IsVector p (length vs)) us → image (combined p (length vs) cs us) ≡ combined p w cs (map (λ x. image x) us)
  image-combined [] us h = combined-zeros p w pos vs wide
  image-combined (c ∷ cs) [] h = combined-zeros p w pos vs wide
  image-combined (c ∷ cs) (u ∷ us) h =
      combined-plus p w pos vs wide (multiple p c u) (combined p (length vs) cs us)
      (length-multiple p (length vs) c u h.0.wide ∙ sym (combined-vector p pos (length vs) cs us (Each-weaker (IsVector p (length vs)) (λ x. length x ≡ length vs) (λ x k. k.wide) us h.1)).wide)
      ∙ ap (λ x. vector_plus p x (image (combined p (length vs) cs us))) (combined-multiple p w pos vs wide c u)
      ∙ ap (vector_plus p (multiple p c (image u))) (image-combined cs us h.1)

  image-vector : (x : Vector) → IsVector p w (image x)
  image-vector x = combined-vector p pos w x vs wide

  plus-zeros : (v : Vector) → IsVector p w v → vector_plus p v (zeros w) ≡ v
  plus-zeros v g =
      let z = zeros-vector p pos w in
      same-vector p pos w _ v (plus-vector p pos w v (zeros w) g.wide z.wide) g
      (λ j. place-plus p v (zeros w) j (g.wide ∙ sym z.wide) ∙ ap (λ n. (at_place v j + n) % p) (place-zeros w j) ∙ ap (λ n. n % p) (let q : at_place v j + 0 ≡ at_place v j = omega arith in q))

  -- x minus y, for vectors with one image
  difference : (x y : Vector) → Vector
  difference x y = vector_plus p x (multiple p (p - 1) y)

  difference-vector : (x y : Vector) → IsVector p (length vs) x → IsVector p (length vs) y → IsVector p (length vs) (difference x y)
  unfolding difference
  difference-vector x y g h = plus-vector p pos (length vs) x _ g.wide (length-multiple p (length vs) (p - 1) y h.wide)

  difference-sum : (x y : Vector) → IsVector p (length vs) x → IsVector p (length vs) y → vector_plus p y (difference x y) ≡ x
  unfolding difference
  difference-sum x y g h =
      let m = length-multiple p (length vs) (p - 1) y h.wide in
      let d = plus-vector p pos (length vs) x (multiple p (p - 1) y) g.wide m in
      same-vector p pos (length vs) _ x (plus-vector p pos (length vs) y _ h.wide d.wide) g
      (λ j. place-plus p y _ j (h.wide ∙ sym d.wide)
      ∙ same-plus p (at_place y j) (at_place y j) _ _ refl (place-plus p x _ j (g.wide ∙ sym m) ∙ same-plus p (at_place x j) (at_place x j) _ _ refl (place-multiple p (p - 1) y j))
      ∙ same-by p (at_place y j + (at_place x j + (p - 1) * at_place y j)) (at_place x j) 0 (at_place y j) (omega (arith, pred-times p (at_place y j) pos)))

  difference-kernel : (x y : Vector) → IsVector p (length vs) x → IsVector p (length vs) y → image x ≡ image y → in_kernel p w vs (difference x y) ≡ true
  unfolding difference
  difference-kernel x y g h e = kernel-from p w pos vs wide _
      (combined-plus p w pos vs wide x (multiple p (p - 1) y) (g.wide ∙ sym (length-multiple p (length vs) (p - 1) y h.wide))
      ∙ ap (vector_plus p (image x)) (combined-multiple p w pos vs wide (p - 1) y) ∙ ap (λ z. vector_plus p z (multiple p (p - 1) (image y))) e ∙ none (image y) (image-vector y))
    where
      none : (v : Vector) → IsVector p w v → vector_plus p v (multiple p (p - 1) v) ≡ zeros w
      none v k =
          let m = length-multiple p w (p - 1) v k.wide in
          same-vector p pos w _ (zeros w) (plus-vector p pos w v _ k.wide m) (zeros-vector p pos w)
          (λ j. place-plus p v _ j (k.wide ∙ sym m) ∙ same-plus p (at_place v j) (at_place v j) _ _ refl (place-multiple p (p - 1) v j)
          ∙ same-by p (at_place v j + (p - 1) * at_place v j) 0 0 (at_place v j) (omega (arith, pred-times p (at_place v j) pos)) ∙ ap (λ n. n % p) (sym (place-zeros w j)))

  image-once : (v x : Vector) → IsVector p (length vs) x → image x ≡ v
      → (cs : Vector) × IsVector p (length rows) cs × (combined p w cs (map (λ y. image y) rows) ≡ v)
      × ((ds : Vector) → IsVector p (length rows) ds → combined p w ds (map (λ y. image y) rows) ≡ v → ds ≡ cs)
  image-once v x g e = from (rows-split x g)
    where
      made : (cs : List ℕ) → IsVector p (length vs) (combined p (length vs) cs rows)
      made cs = combined-vector p pos (length vs) cs rows (Each-weaker (IsVector p (length vs)) (λ y. length y ≡ length vs) (λ y k. k.wide) rows rows-in)

      from : IsSplitOnce p (length vs) rows (in_kernel p w vs) x
          → (cs : Vector) × IsVector p (length rows) cs × (combined p w cs (map (λ y. image y) rows) ≡ v)
          × ((ds : Vector) → IsVector p (length rows) ds → combined p w ds (map (λ y. image y) rows) ≡ v → ds ≡ cs)
      from (cs, t, s, only) = (
        cs,
        s.coefficients_in,
        sym (image-combined cs rows rows-in) ∙ sym (plus-zeros (image (combined p (length vs) cs rows)) (image-vector (combined p (length vs) cs rows)))
            ∙ ap (vector_plus p (image (combined p (length vs) cs rows))) (sym (kernel-at p w pos vs wide t s.rest_within))
            ∙ sym (combined-plus p w pos vs wide (combined p (length vs) cs rows) t ((made cs).wide ∙ sym s.rest_in.wide))
            ∙ ap (λ y. image y) s.sum_is ∙ e,
        λ ds d f. (only ds (difference x (combined p (length vs) ds rows)) (record {
          coefficients_in = d;
          rest_in = difference-vector x (combined p (length vs) ds rows) g (made ds);
          rest_within = difference-kernel x (combined p (length vs) ds rows) g (made ds) (e ∙ sym f ∙ sym (image-combined ds rows rows-in));
          sum_is = difference-sum x (combined p (length vs) ds rows) g (made ds);
        })).0,
      )

  image-basis : IsBasis p w (map (λ y. image y) rows) (in_span p w vs)
  image-basis = record {
    rows_in = images rows rows-in;
    rows_within = inside rows rows-in;
    once = λ v g e. let c = span-combination p w vs v e in
        subst (λ n. (cs : Vector) × IsVector p n cs × (combined p w cs (map (λ y. image y) rows) ≡ v)
        × ((ds : Vector) → IsVector p n ds → combined p w ds (map (λ y. image y) rows) ≡ v → ds ≡ cs)) (sym (length-map rows (λ y. image y))) (image-once v c.0 c.1 c.2);
  }
    where
      images : (us : List Vector) → Each (IsVector p (length vs)) us → Each (IsVector p w) (map (λ y. image y) us)
      images [] h = tt
      images (u ∷ us) h = (image-vector u, images us h.1)

      inside : (us : List Vector) → Each (IsVector p (length vs)) us → Each (λ r. in_span p w vs r ≡ true) (map (λ y. image y) us)
      inside [] h = tt
      inside (u ∷ us) h = (combination-span p w vs (image u) (u, h.0, refl), inside us h.1)

  -- how many rows the kernel and the span have
  pub rank-length : length (reduced_basis p (length vs) (in_kernel p w vs)) + length (reduced_basis p w (in_span p w vs)) ≡ length vs
  rank-length =
      let above = field.one_is_not_zero in
      let all = all-space p (length vs) in
      let span = span-subspace p w pos vs wide in
      let a = split-length p (length vs) field (λ v. true) (in_kernel p w vs) all kernel (λ v g e. refl) rows (All-from_recursion (IsVector p (length vs)) rows rows-in)
      (All-from_recursion (λ r. true ≡ true) rows (Each-from (λ r. true ≡ true) rows (λ r m. refl))) (λ v g e. rows-split v g) in
      let b = basis-lengths p (length vs) above (λ v. true) all (reduced_basis p (length vs) (λ v. true)) (units (length vs))
      (echelon-basis p (length vs) above (λ v. true) all _ (basis-echelon p (length vs) field (λ v. true) all) (basis-spans p (length vs) field (λ v. true) all))
      (units-basis p (length vs) above) ∙ length-units (length vs) in
      let c = sym (length-map rows (λ y. image y)) ∙ basis-lengths p w above (in_span p w vs) span (map (λ y. image y) rows) (reduced_basis p w (in_span p w vs)) image-basis
      (echelon-basis p w above (in_span p w vs) span _ (basis-echelon p w field (in_span p w vs) span) (basis-spans p w field (in_span p w vs) span)) in
      omega (arith, a, b, c)
