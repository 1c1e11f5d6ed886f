-- Lower ranks have lower numbers.
use Rattle.std.proofs.Common.{◌≡◌, ℕ, suc, ◌+◌, ◌*◌, ◌<◌, ◌≤◌, Bool, true, false, cond, ◌⊎◌, inl, inr, refl, sym, ◌∙◌, ap, subst, arith}
use Rattle.values.specs.Asks.{Ask, basis, small_d, f, g, h, cycles}
use Rattle.values.specs.Values.{degree_of}
use Rattle.values.specs.Ranks.{weight, space_of, is_cycles, loopings, bounded_degree, IsValid, IsLower}
use Rattle.oracle_iface.specs.KeyRanks.{rank_of}

degree-bounded : (p : ℕ) (q : Ask) → degree_of q ≤ bounded_degree p q
degree-bounded p (basis a n) = omega arith
degree-bounded p (small_d a y) = omega arith
degree-bounded p (f a n x) = omega arith
degree-bounded p (g a y) = omega arith
degree-bounded p (h a n x) = omega arith
degree-bounded p (cycles a n) = omega arith

degree-most : (p : ℕ) (q : Ask) → IsValid p q → degree_of q ≤ 24
degree-most p q v = let b : degree_of q ≤ bounded_degree p q = degree-bounded p q in let e : bounded_degree p q + loopings (space_of q) ≤ 24 = v.2 in omega (arith, b, e)

one_or_none : (b : Bool) → cond {A = ℕ} b 1 0 ≤ 1
one_or_none true = omega arith
one_or_none false = omega arith

-- numbers of questions, from their weights, the marks of cycles and the degrees
by_weight : (v w b c m n : ℕ) → v < w → b ≤ 1 → m ≤ 24 → (2 * v + b) * 64 + m < (2 * w + c) * 64 + n
by_weight v w b c m n less mark most = omega (arith, less, mark, most)

by_mark : (w m n : ℕ) → m ≤ 24 → (2 * w + 0) * 64 + m < (2 * w + 1) * 64 + n
by_mark w m n most = omega (arith, most)

by_degree : (w b m n : ℕ) → m < n → (2 * w + b) * 64 + m < (2 * w + b) * 64 + n
by_degree w b m n less = omega (arith, less)

pub lower-rank : (p : ℕ) (j k : Ask) → IsValid p j → IsLower p j k → rank_of j < rank_of k
lower-rank p j k v (inl l) =
    by_weight (weight (space_of j)) (weight (space_of k)) (cond (is_cycles j) 1 0) (cond (is_cycles k) 1 0) (degree_of j) (degree_of k) l (one_or_none (is_cycles j))
    (degree-most p j v)
lower-rank p j k v (inr (w, inl e)) =
    subst (λ u. (2 * weight (space_of j) + cond {A = ℕ} (is_cycles j) 1 0) * 64 + degree_of j < (2 * u + cond {A = ℕ} (is_cycles k) 1 0) * 64 + degree_of k) w
    (subst (λ b. (2 * weight (space_of j) + cond {A = ℕ} b 1 0) * 64 + degree_of j < (2 * weight (space_of j) + cond {A = ℕ} (is_cycles k) 1 0) * 64 + degree_of k) (sym e.0)
    (subst (λ c. (2 * weight (space_of j) + 0) * 64 + degree_of j < (2 * weight (space_of j) + cond {A = ℕ} c 1 0) * 64 + degree_of k) (sym e.1)
    (by_mark (weight (space_of j)) (degree_of j) (degree_of k) (degree-most p j v))))
lower-rank p j k v (inr (w, inr e)) =
    subst (λ u. (2 * weight (space_of j) + cond {A = ℕ} (is_cycles j) 1 0) * 64 + degree_of j < (2 * u + cond {A = ℕ} (is_cycles k) 1 0) * 64 + degree_of k) w
    (subst (λ b. (2 * weight (space_of j) + cond {A = ℕ} (is_cycles j) 1 0) * 64 + degree_of j < (2 * weight (space_of j) + cond {A = ℕ} b 1 0) * 64 + degree_of k) e.0
    (by_degree (weight (space_of j)) (cond (is_cycles j) 1 0) (degree_of j) (degree_of k) e.1))
