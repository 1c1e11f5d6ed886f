use Rattle.std.proofs.Common.{◌≡◌, ◌<◌, ◌%◌, ◌∷◌, ℕ, take, length, add-one, sym, ◌∙◌, ap, subst, arith}
use Rattle.fp_field.specs.Field.{number}
use Rattle.fp_field.proofs.Primes.{number_pos}
use Rattle.echelons.specs.Echelon.{IsVector, at_place}
use Rattle.elim_fp.specs.Rows.{dense, numbers_of}
use Rattle.std.proofs.Math.ListN.{length-map, get_or-map}
use Rattle.std.proofs.lemmas.List.{take_all}
use Rattle.std.proofs.lemmas.List.Elements.{All-map, recursion_from_All}
use Rattle.fp_field.specs.Field.{SameMod}
use Rattle.fp_field.specs.Normal.{normal}
use Rattle.std.specs.Ordering.{nat_cmp}
use Rattle.std.specs.List.{All}
use Rattle.fp_field.specs.declared.element.Fp.{Fp}
use Rattle.std.proofs.Common.{List, ◌≤◌}
use Rattle.fp_field.specs.Chains.{Terms}
use Rattle.elim_fp.proofs.Dense.{at, dense-is, dense-vector, next-at}
use Rattle.elim_fp.proofs.rows.row_of.Goals as goal

length-numbers_of : (xs : List Fp) → length (numbers_of xs) ≡ length xs
length-numbers_of xs = length-map xs (λ a. a.value)

-- the chain of all numbers
all-values : (p : ℕ) (xs : List Fp) (i : ℕ) (c : Terms ℕ) → All (λ a. a.value < p) xs → length xs ≤ i → ((j : ℕ) → SameMod p (at c j) (at_place (take i (numbers_of xs)) j)) → dense p (length xs) c ≡ numbers_of xs
all-values p xs i c h l e =
    dense-is p (length xs) c (numbers_of xs) (length-numbers_of xs)
    (recursion_from_All (λ a. a < p) (numbers_of xs) (All-map (λ a. a < p) (λ a. a.value) xs h))
    (λ j m. e j ∙ ap (λ v. at_place v j % p) (take_all i (numbers_of xs) (omega (arith, length-numbers_of xs))))

pub loop-place-preserved : goal.loop-place-preserved
loop-place-preserved c = record {
  prime = c.add_term.ensures.prime ∙ c.loop-place.invariant.prime;
  sum = rw add-one (next-at (number c.args.p) (numbers_of c.args.values.now) c.loop-place.place c.loop-place.entries.terms c.add_term.new.self.terms
      (omega (arith, length-numbers_of c.args.values.now, c.loop-place-test.true)) (let none : Fp = record { value = 0 } in
      c.in_ok-add_term.ensures.sum
      ∙ (λ i. normal nat_cmp (number (c.loop-place.invariant.prime i)) ((c.loop-place.place, sym (get_or-map (λ a. a.value) c.args.values.now c.loop-place.place none) i) ∷ c.loop-place.entries.terms))) c.loop-place.invariant.sum);
}

pub returns-clause-values : goal.returns-clause-values
returns-clause-values c =
    ap (λ q. dense (number q) (length c.args.values.now) c.loop-place.entries.terms) c.loop-place.invariant.prime
    ∙ all-values (number c.args.p) c.args.values.now c.loop-place.place c.loop-place.entries.terms c.requires c.loop-place-test.false c.loop-place.invariant.sum

pub returns-clause-row : goal.returns-clause-row
returns-clause-row c = record {
  prime_is = c.loop-place.invariant.prime;
  vector = subst (λ q. IsVector (number c.args.p) (length c.args.values.now) (dense (number q) (length c.args.values.now) c.loop-place.entries.terms)) (sym c.loop-place.invariant.prime)
      (dense-vector (number c.args.p) (number_pos c.args.p) (length c.args.values.now) c.loop-place.entries.terms);
}
