-- What the commands ask of a space, as right sides: the dimensions of its homology, its listed cycles, and a cycle in its parts.
--
-- They ask in the order in which they are written here; the first question past a limit refuses the line.
--
--   over F_2 the projective plane has the dimensions 1, 1, 1 in degrees 0 to 2
use Rattle.std.specs.Prelude.{ℕ, zero, suc, ◌-◌, Bool, not, ◌&&◌, ◌||◌, ◌==◌, nat_eq, cond, List, [], ◌∷◌, ◌++◌, map, length, take, get_or}
use Rattle.std.specs.List.{list_all}
use Rattle.std.specs.Cmp.Lexicographic.{pointwise}
use Rattle.fp_field.specs.Chains.{Terms}
use Rattle.fp_field.specs.Normal.{normal}
use Rattle.echelons.specs.Echelon.{Vector, zeros, vectors, at_place, combined, in_span, reduced_basis, coordinates as entries_at_leads, remainder, downwards}
use Rattle.spaces.specs.Spaces.{Space}
use Rattle.spaces.specs.Orders.{ordered, by_degree}
use Rattle.spaces.specs.SmallCells.{Small, small_cmp}
use Rattle.values.specs.Asks.{basis, small_d, f, g, h, cycles, Cell, Right, gives, ask, each, on_chain, ◌>>=◌}
use Rattle.values.specs.Cycles.{coordinates, cycle_vectors, terms_of}

-- the first of the vectors that passes, or the last resort
abbrev pub first_vector : (Vector → Bool) → Vector → List Vector → Vector
first_vector test other [] = other
first_vector test other (v ∷ vs) = cond (test v) v (first_vector test other vs)

module _ (p : ℕ) (a : Space) where
  -- the small cells of a degree with their small differentials
  abbrev pub differentials : ℕ → Right (List (Small a) × List (Terms (Small a)))
  differentials n = do
    ys ← ask (basis a n)
    ds ← each (λ y. ask (small_d a y)) ys
    gives (ys, ds)

  -- the rank of the span of vectors of a width
  abbrev pub rank : ℕ → List Vector → ℕ
  rank w vs = length (reduced_basis p w (in_span p w vs))

  -- how many vectors over small cells with these differentials have the differential 0: a basis of these
  abbrev pub nullity : ℕ → List (Terms (Small a)) → ℕ
  nullity w ds = length (reduced_basis p w (Rattle.values.specs.Cycles.is_small_cycle p a ds))

  -- ---- betti

  -- the small cycles of a degree, less the small boundaries
  abbrev pub dimension : List (Small a) → List (Terms (Small a)) → List (Terms (Small a)) → ℕ
  dimension ys ds es = nullity (length ys) ds - rank (length ys) (map (coordinates p a ys) es)

  abbrev pub dimension_in : ℕ → Right ℕ
  dimension_in n = do
    here ← differentials n
    above ← differentials (suc n)
    gives (dimension here.0 here.1 above.1)

  -- the degrees from one on, so many
  abbrev pub degrees_from : ℕ → ℕ → List ℕ
  degrees_from n zero = []
  degrees_from n (suc k) = n ∷ degrees_from (suc n) k

  abbrev pub dimensions : ℕ → ℕ → Right (List ℕ)
  dimensions low high = each dimension_in (degrees_from low (suc high - low))

  -- ---- express

  -- 0 at each place whose vector is a combination of those before it
  abbrev pub is_thrifty : ℕ → List Vector → Vector → Bool
  is_thrifty w vs v = list_all (λ i. not (in_span p w (take i vs) (get_or vs i [])) || (at_place v i == 0)) (downwards (length vs))

  -- the numbers of a vector in the span of vs, by those that are no combinations of earlier ones
  abbrev pub thrifty_numbers : ℕ → List Vector → Vector → Vector
  thrifty_numbers w vs t =
      first_vector (λ v. is_thrifty w vs v && pointwise nat_eq (combined p w v vs) t) (zeros (length vs)) (vectors p (length vs))

  module _ (ys : List (Small a)) (ds es : List (Terms (Small a))) where
    abbrev boundaries : List Vector
    boundaries = map (coordinates p a ys) es

    -- the coefficients of a small cycle over the vectors of the listed cycles
    abbrev pub class_of : Vector → Vector
    class_of u =
        entries_at_leads (cycle_vectors p a ys ds es)
        (remainder p (length ys) (reduced_basis p (length ys) (in_span p (length ys) boundaries)) u)

    -- the numbers of a chain of small cells of one degree more whose small differential is the rest
    abbrev pub filling_of : Vector → Vector
    filling_of u =
        thrifty_numbers (length ys) boundaries
        (Rattle.echelons.specs.Echelon.vector_plus p u
        (Rattle.echelons.specs.Echelon.multiple p (p - 1) (combined p (length ys) (class_of u) (cycle_vectors p a ys ds es))))

  -- the coefficients over the listed cycles, and H(z) + G(w)
  abbrev pub expressed : ℕ → Terms (Cell a) → Right (Vector × Terms (Cell a))
  expressed n z = do
    zs ← ask (cycles a n)
    here ← differentials n
    above ← differentials (suc n)
    fz ← on_chain (small_cmp a) p (λ x. ask (f a x.0 x.1)) z
    hz ← on_chain (by_degree (ordered a).cmp) p (λ x. ask (h a x.0 x.1)) z
    gw ← on_chain (by_degree (ordered a).cmp) p (λ y. ask (g a y)) (terms_of p a above.0 (filling_of here.0 here.1 above.1 (coordinates p a here.0 fz)))
    gives (class_of here.0 here.1 above.1 (coordinates p a here.0 fz), normal (by_degree (ordered a).cmp) p (hz ++ gw))
