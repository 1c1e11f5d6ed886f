-- Sums over the rows of a table, each row times what a row has at its place, and the rows reduced by them.
use Rattle.std.proofs.Common.{◌≡◌, ◌⊎◌, inl, inr, ◌↔◌, ℕ, zero, suc, ◌+◌, ◌*◌, ◌-◌, ◌%◌, ◌<◌, ◌≤◌, true, List, [], ◌∷◌, All, length, set, drop, get_or, cond, refl, sym, ◌∙◌, ap, subst, arith}
use Rattle.std.proofs.Math.Nat.{mod-mod}
use Rattle.std.proofs.lemmas.Bool.{cases_lt, lt-ltb, le-ltb}
use Rattle.std.proofs.lemmas.List.{map-set, length-set, length-drop, get_or-drop}
use Rattle.std.proofs.lemmas.List.Elements.{All-set, All-from_recursion, recursion_from_All}
use Rattle.std.specs.List.{AllByRecursion as Each}
use Rattle.fp_field.specs.declared.prime.Prime.{Prime}
use Rattle.fp_field.specs.declared.element.Fp.{Fp}
use Rattle.fp_field.specs.Field.{number, SameMod, minus}
use Rattle.fp_field.proofs.Primes.{number_pos, number_above_one}
use Rattle.fp_field.proofs.Mod.{same-plus, same-times}
use Rattle.chain_core.specs.Formal.{numbers}
use Rattle.echelons.specs.Echelon.{Vector, IsVector, at_place, zeros, vector_plus, multiple, combined, lead, in_span, coordinates, remainder, reduced_basis, IsSubspace, IsReducedEchelon, IsCombination}
use Rattle.echelons.proofs.Vectors.{Each-weaker, weight, vectors-wide, place-zeros, place-plus, place-multiple, length-multiple, combined-vector, zeros-vector, same-vector}
use Rattle.echelons.proofs.Leads.{before-lead, lead-within, lead-zeros, zeros-from_lead}
use Rattle.echelons.proofs.Lists.{Among, each-among, Each-from}
use Rattle.echelons.proofs.Rows.{Stairs, Stairs-from, echelon-from, coordinates-vector, remainder-vector, remainder-place, remainder-none, remainder-sum}
use Rattle.echelons.proofs.Basis.{left-stairs, left-lead, within-remainder, within-combined}
use Rattle.echelons.proofs.Spans.{span-subspace, spans-span, combined-zeros}
use Rattle.echelons.proofs.Members.{member-span, same-span}
use Rattle.echelons.proofs.Unique.{basis-is}
use Rattle.elim_fp.specs.Rows.{DenseRow, vectors_of, dense}
use Rattle.elim_fp.specs.Tables.{IsPlaced, Placed, IsTable, nonzero, leading_rows}
use Rattle.elim_fp.proofs.Left.{length-vectors, minus-same}
use Rattle.elim_fp.proofs.Dense.{at, dense-at}
use Rattle.elim_fp.proofs.Entries.{hit, hit-same, hit-other, seen, seen-more, seen-all}
use Rattle.elim_fp.proofs.TableRows.{placed-at, placed-set, placed-vectors, lead-placed, among-set, set-among, get-among, among-new, each-set}

-- the sum of the numbers at place i of the rows, each times what f has at the place of the row
abbrev pub wsum : (ℕ → ℕ) → ℕ → List Vector → ℕ → ℕ
wsum f k [] i = 0
wsum f k (t ∷ ts) i = f k * at_place t i + wsum f (suc k) ts i

pub wsum-same : (f g : ℕ → ℕ) (k : ℕ) (ts : List Vector) (i : ℕ) → ((j : ℕ) → k ≤ j → j < k + length ts → g j ≡ f j) → wsum g k ts i ≡ wsum f k ts i
wsum-same f g k [] i h = refl
wsum-same f g k (t ∷ ts) i h = λ s. h k (omega arith) (omega arith) s * at_place t i + wsum-same f g (suc k) ts i (λ j l m. h j (omega arith) (omega arith)) s

pub wsum-more : (f g : ℕ → ℕ) (k m c : ℕ) (ts : List Vector) (i : ℕ) → m < length ts → ((j : ℕ) → g j ≡ f j + c * hit (k + m) j)
    → wsum g k ts i ≡ wsum f k ts i + c * at_place (get_or ts m []) i
wsum-more f g k m c [] i l h = absurd (omega arith)
wsum-more f g k zero c (t ∷ ts) i l h =
    ap (λ n. n * at_place t i + wsum g (suc k) ts i) (h k ∙ ap (λ n. f k + c * n) (hit-same (k + zero) k (omega arith)))
    ∙ ap (λ n. (f k + c * 1) * at_place t i + n) (wsum-same f g (suc k) ts i (λ j a b. h j ∙ ap (λ n. f j + c * n) (hit-other (k + zero) j (λ e. omega arith)) ∙ (let q : f j + c * 0 ≡ f j = omega arith in q)))
    ∙ (let q : (f k + c * 1) * at_place t i + wsum f (suc k) ts i ≡ (f k * at_place t i + wsum f (suc k) ts i) + c * at_place t i = omega arith in q)
wsum-more f g k (suc m) c (t ∷ ts) i l h =
    ap (λ n. n * at_place t i + wsum g (suc k) ts i) (h k ∙ ap (λ n. f k + c * n) (hit-other (k + suc m) k (λ e. omega arith)) ∙ (let q : f k + c * 0 ≡ f k = omega arith in q))
    ∙ ap (λ n. f k * at_place t i + n) (wsum-more f g (suc k) m c ts i (omega arith) (λ j. h j ∙ ap (λ n. f j + c * hit n j) (let q : k + suc m ≡ suc k + m = omega arith in q)))
    ∙ (let q : f k * at_place t i + (wsum f (suc k) ts i + c * at_place (get_or ts m []) i) ≡ (f k * at_place t i + wsum f (suc k) ts i) + c * at_place (get_or ts m []) i = omega arith in q)

pub wsum-none : (f : ℕ → ℕ) (k : ℕ) (ts : List Vector) (i : ℕ) → ((j : ℕ) → f j ≡ 0) → wsum f k ts i ≡ 0
wsum-none f k [] i h = refl
wsum-none f k (t ∷ ts) i h = rw (h k) (omega (arith, wsum-none f (suc k) ts i h))

module _ (p w : ℕ) (pos : 0 < p) where
  -- over a table, it is the combination of the rows that are not 0
  pub wsum-all : (f : ℕ → ℕ) (r : Vector) (k : ℕ) (ts : List Vector) (i : ℕ) → Placed p w k ts → k + length ts ≤ w → ((j : ℕ) → j < w → SameMod p (f j) (at_place r j))
      → SameMod p (wsum f k ts i) (weight (coordinates (nonzero w ts) r) (nonzero w ts) i)
  wsum-all f r k [] i h l e = refl
  wsum-all f r k (t ∷ ts) i h l e = by h.0.one_or_none (wsum-all f r (suc k) ts i h.1 (omega arith) e)
    where
      by : (at_place t k ≡ 1) ⊎ (t ≡ zeros w) → SameMod p (wsum f (suc k) ts i) (weight (coordinates (nonzero w ts) r) (nonzero w ts) i)
          → SameMod p (f k * at_place t i + wsum f (suc k) ts i) (weight (coordinates (nonzero w (t ∷ ts)) r) (nonzero w (t ∷ ts)) i)
      by (inl q) s =
          let leads : lead t ≡ k = lead-placed p w k t h.0 q in
          same-plus p (f k * at_place t i) (at_place r (lead t) * at_place t i) _ _
          (ap (λ n. n % p) (turn (f k) (at_place t i)) ∙ same-times p (at_place t i) (f k) (at_place r (lead t)) (e k (omega arith) ∙ ap (λ n. at_place r n % p) (sym leads)) ∙ ap (λ n. n % p) (turn (at_place t i) (at_place r (lead t)))) s
          ∙ ap (λ b. weight (coordinates (cond b (t ∷ nonzero w ts) (nonzero w ts)) r) (cond b (t ∷ nonzero w ts) (nonzero w ts)) i % p) (sym (lt-ltb (lead t) w (omega arith)))
        where
          turn : (m n : ℕ) → m * n ≡ n * m
          turn m n = omega arith
      by (inr q) s =
          ap (λ n. (f k * n + wsum f (suc k) ts i) % p) (ap (λ v. at_place v i) q ∙ place-zeros w i)
          ∙ ap (λ n. n % p) (let z : f k * 0 + wsum f (suc k) ts i ≡ wsum f (suc k) ts i = omega arith in z) ∙ s
          ∙ ap (λ b. weight (coordinates (cond b (t ∷ nonzero w ts) (nonzero w ts)) r) (cond b (t ∷ nonzero w ts) (nonzero w ts)) i % p)
          (sym (le-ltb (lead t) w (subst (λ n. w ≤ n) (sym (ap lead q ∙ lead-zeros w)) (omega arith))))

  pub nonzero-each : (P : Vector → Type 0) (ts : List Vector) → Each P ts → Each P (nonzero w ts)
  nonzero-each P [] h = tt
  nonzero-each P (t ∷ ts) h = by (cases_lt (lead t) w) (nonzero-each P ts h.1)
    where
      by : (lead t < w) ⊎ (w ≤ lead t) → Each P (nonzero w ts) → Each P (nonzero w (t ∷ ts))
      by (inl l) g = subst (λ b. Each P (cond b (t ∷ nonzero w ts) (nonzero w ts))) (sym (lt-ltb (lead t) w l)) (h.0, g)
      by (inr l) g = subst (λ b. Each P (cond b (t ∷ nonzero w ts) (nonzero w ts))) (sym (le-ltb (lead t) w l)) g

  -- the rows from place k on lead from there on
  pub nonzero-leads : (k : ℕ) (ts : List Vector) → Placed p w k ts → k + length ts ≤ w → Each (λ s. k ≤ lead s) (nonzero w ts)
  nonzero-leads k ts h l = nonzero-each (λ s. k ≤ lead s) ts (each k ts h l)
    where
      each : (n : ℕ) (us : List Vector) → Placed p w n us → n + length us ≤ w → Each (λ s. n ≤ lead s) us
      each n [] g m = tt
      each n (t ∷ us) g m = (by g.0.one_or_none, Each-weaker (λ s. suc n ≤ lead s) (λ s. n ≤ lead s) (λ s z. omega arith) us (each (suc n) us g.1 (omega arith)))
        where
          by : (at_place t n ≡ 1) ⊎ (t ≡ zeros w) → n ≤ lead t
          by (inl q) = subst (λ z. n ≤ z) (sym (lead-placed p w n t g.0 q)) (omega arith)
          by (inr q) = subst (λ z. n ≤ z) (sym (ap lead q ∙ lead-zeros w)) (omega arith)

-- ---- a row reduced by the later ones

-- the row at a place minus the later rows, each times what the terms that the walk has met have at its place
abbrev pub Walk : Prime → ℕ → List DenseRow → ℕ → List (ℕ × Fp) → ℕ → Vector → Type 0
Walk q w table place xs t rest = (i : ℕ) → SameMod (number q) (at_place rest i)
    (at_place (get_or (vectors_of table) place []) i + (number q - 1) * wsum (seen xs t) (suc place) (drop (suc place) (vectors_of table)) i)

module _ (q : Prime) (w : ℕ) (table : List DenseRow) (h : IsTable q w table) (place : ℕ) (within : place < w) where
  abbrev later : List Vector
  later = drop (suc place) (vectors_of table)

  abbrev self : Vector
  self = get_or (vectors_of table) place []

  long : length (vectors_of table) ≡ w
  long = length-vectors table ∙ h.count

  later-placed : Placed (number q) w (suc place) later
  later-placed = subst (λ m. Placed (number q) w m later) (let s : suc place + 0 ≡ suc place = omega arith in s) (dropped 0 (suc place) (vectors_of table) h.placed)
    where
      dropped : (k n : ℕ) (ts : List Vector) → Placed (number q) w k ts → Placed (number q) w (n + k) (drop n ts)
      dropped k zero ts g = subst (λ m. Placed (number q) w m ts) (let s : k ≡ 0 + k = omega arith in s) g
      dropped k (suc n) [] g = tt
      dropped k (suc n) (t ∷ ts) g = subst (λ m. Placed (number q) w m (drop n ts)) (let s : n + suc k ≡ suc n + k = omega arith in s) (dropped (suc k) n ts g.1)

  self-placed : IsPlaced (number q) w place self
  self-placed = subst (λ m. IsPlaced (number q) w m self) (let s : 0 + place ≡ place = omega arith in s) (placed-at (number q) w 0 place (vectors_of table) h.placed (subst (λ n. place < n) (sym long) within))

  later-fits : suc place + length later ≤ w
  later-fits = let a : length (drop (suc place) (vectors_of table)) ≡ length (vectors_of table) - suc place = length-drop (suc place) (vectors_of table) in let b : length (vectors_of table) ≡ w = long in omega arith

  -- as far as the walk has come
  abbrev pub Walked : List (ℕ × Fp) → ℕ → Vector → Type 0
  Walked xs t rest = Walk q w table place xs t rest

  pub walked-none : (xs : List (ℕ × Fp)) → Walked xs 0 self
  walked-none xs i =
      ap (λ n. n % number q) (let s : at_place self i ≡ at_place self i + (number q - 1) * 0 = omega arith in s)
      ∙ ap (λ n. (at_place self i + (number q - 1) * n) % number q) (sym (wsum-none (seen xs 0) (suc place) later i (λ j. refl)))

  pub walked-past : (xs : List (ℕ × Fp)) (t : ℕ) (d x : ℕ × Fp) (rest : Vector) → t < length xs → x ≡ get_or xs t d → (x.0 ≤ place) ⊎ (w ≤ x.0) → Walked xs t rest → Walked xs (suc t) rest
  walked-past xs t d x rest l e out k i =
      k i ∙ ap (λ n. (at_place self i + (number q - 1) * n) % number q)
      (sym (wsum-same (seen xs t) (seen xs (suc t)) (suc place) later i (λ j a b. seen-more xs t d x j l e ∙ ap (λ n. seen xs t j + x.1.value * n) (hit-other x.0 j (none out j a b))
      ∙ (let s : seen xs t j + x.1.value * 0 ≡ seen xs t j = omega arith in s))))
    where
      none : (x.0 ≤ place) ⊎ (w ≤ x.0) → (j : ℕ) → suc place ≤ j → j < suc place + length later → x.0 ≡ j → ⊥
      none (inl m) j a b f = omega arith
      none (inr m) j a b f = let c : suc place + length later ≤ w = later-fits in omega arith

  pub walked-more : (xs : List (ℕ × Fp)) (t : ℕ) (d x : ℕ × Fp) (rest new s : Vector) → t < length xs → x ≡ get_or xs t d → place < x.0 → x.0 < w → x.1.value < number q
      → length rest ≡ w → length s ≡ w → s ≡ get_or (vectors_of table) x.0 [] → new ≡ vector_plus (number q) rest (multiple (number q) (minus (number q) x.1.value) s) → Walked xs t rest → Walked xs (suc t) new
  walked-more xs t d x rest new s l e a b small wr ws se ne k i =
      let p : ℕ = number q in
      let m = length-multiple (number q) w (minus (number q) x.1.value) s ws in
      let far : x.0 ≡ suc place + (x.0 - suc place) = omega arith in
      let inside : x.0 - suc place < length (drop (suc place) (vectors_of table)) = (let u : length (drop (suc place) (vectors_of table)) ≡ length (vectors_of table) - suc place = length-drop (suc place) (vectors_of table) in let v : length (vectors_of table) ≡ w = long in omega arith) in
      let found : get_or (drop (suc place) (vectors_of table)) (x.0 - suc place) [] ≡ s = get_or-drop (suc place) (vectors_of table) (x.0 - suc place) [] ∙ ap (λ n. get_or (vectors_of table) n []) (sym far) ∙ sym se in
      let sum = wsum-more (seen xs t) (seen xs (suc t)) (suc place) (x.0 - suc place) x.1.value later i inside
      (λ j. seen-more xs t d x j l e ∙ ap (λ n. seen xs t j + x.1.value * hit n j) far) in
      ap (λ v. at_place v i % number q) ne ∙ place-plus (number q) rest _ i (wr ∙ sym m)
      ∙ same-plus (number q) (at_place rest i) _ _ _ (k i)
      (place-multiple (number q) (minus (number q) x.1.value) s i ∙ ap (λ n. n % number q) (turn (minus (number q) x.1.value) (at_place s i))
      ∙ same-times (number q) (at_place s i) _ _ (minus-same (number q) w (number_pos q) x.1.value small))
      ∙ ap (λ n. n % number q) (sums (at_place self i) (number q - 1) (wsum (seen xs t) (suc place) later i) (at_place s i) x.1.value)
      ∙ ap (λ n. (at_place self i + (number q - 1) * n) % number q) (sym (sum ∙ ap (λ v. wsum (seen xs t) (suc place) later i + x.1.value * at_place v i) found))
    where
      turn : (m n : ℕ) → m * n ≡ n * m
      turn m n = omega arith

      sums : (v k u z c : ℕ) → (v + k * u) + z * (k * c) ≡ v + k * (u + c * z)
      sums v k u z c = omega arith

  pub walked-all : (xs : List (ℕ × Fp)) (t : ℕ) (rest : Vector) → length xs ≤ t → self ≡ dense (number q) w (numbers xs) → IsVector (number q) w rest
      → IsReducedEchelon (number q) w (nonzero w later) → Walked xs t rest → rest ≡ remainder (number q) w (nonzero w later) self
  walked-all xs t rest l e g ech k =
      let st = Stairs-from (number q) w (nonzero w later) ech in
      let sv = self-placed.vector in
      same-vector (number q) (number_pos q) w rest (remainder (number q) w (nonzero w later) self) g (remainder-vector (number q) w (number_pos q) (nonzero w later) self st sv)
      (λ i. k i
      ∙ same-plus (number q) (at_place self i) (at_place self i) _ _ refl (same-times (number q) (number q - 1) _ _
      (wsum-all (number q) w (number_pos q) (seen xs t) self (suc place) later i later-placed later-fits
      (λ j m. ap (λ n. n % number q) (seen-all xs t j l) ∙ sym (mod-mod (at (numbers xs) j) (number q)) ∙ ap (λ n. n % number q) (sym (dense-at (number q) w (numbers xs) j m) ∙ ap (λ v. at_place v j) (sym e)))))
      ∙ sym (remainder-place (number q) w (number_pos q) (nonzero w later) self i st sv))

-- ---- a row of the table reduced

drop-set : {A : Type 0} (xs : List A) (i : ℕ) (y : A) → i < length xs → drop i (set xs i y) ≡ y ∷ drop (suc i) xs
drop-set [] i y l = absurd (omega arith)
drop-set (x ∷ xs) zero y l = refl
drop-set (x ∷ xs) (suc i) y l = drop-set xs i y (omega arith)

later-among : {A : Type 0} (xs : List A) (i : ℕ) (y : A) → Each (λ s. Among s (set xs i y)) (drop (suc i) xs)
later-among [] i y = tt
later-among (x ∷ xs) zero y = Each-from (λ s. Among s (y ∷ xs)) xs (λ s m. inr m)
later-among (x ∷ xs) (suc i) y = Each-weaker (λ s. Among s (set xs i y)) (λ s. Among s (x ∷ set xs i y)) (λ s m. inr m) (drop (suc i) xs) (later-among xs i y)

each-drop : {A : Type 0} (P : A → Type 0) (xs : List A) (i : ℕ) → Each P xs → Each P (drop i xs)
each-drop P xs zero h = h
each-drop P [] (suc i) h = tt
each-drop P (x ∷ xs) (suc i) h = each-drop P xs i h.1

module _ (p w : ℕ) (above : 1 < p) (ts : List Vector) (place : ℕ) (within : place < w) (many : length ts ≡ w) (placed : Placed p w 0 ts) (after : Placed p w (suc place) (drop (suc place) ts))
    (fits : suc place + length (drop (suc place) ts) ≤ w) (own : IsPlaced p w place (get_or ts place [])) (ech : IsReducedEchelon p w (nonzero w (drop (suc place) ts))) where
  pos : 0 < p
  pos = omega arith

  abbrev rows : List Vector
  rows = nonzero w (drop (suc place) ts)

  abbrev u : Vector
  u = get_or ts place []

  abbrev v : Vector
  v = remainder p w (nonzero w (drop (suc place) ts)) (get_or ts place [])

  abbrev new : List Vector
  new = set ts place (remainder p w (nonzero w (drop (suc place) ts)) (get_or ts place []))

  st : Stairs p w rows
  st = Stairs-from p w rows ech

  vv : IsVector p w v
  vv = remainder-vector p w pos rows u st own.vector

  here : place < length ts
  here = subst (λ n. place < n) (sym many) within

  leads : Each (λ s. place < lead s) rows
  leads = Each-weaker (λ s. suc place ≤ lead s) (λ s. place < lead s) (λ s l. omega arith) rows (nonzero-leads p w pos (suc place) (drop (suc place) ts) after fits)

  -- the two cases
  case-one : at_place u place ≡ 1 → IsPlaced p w place v × Stairs p w (v ∷ rows) × (lead v ≡ place)
  case-one e =
      let s = left-stairs p w above rows u place st own.vector own.before e leads in
      let l = left-lead p w above rows u place st own.vector own.before e leads in (
        record { vector = s.0; before = λ i k. before-lead v i (subst (λ n. i < n) (sym l) k); one_or_none = inl (ap (at_place v) (sym l) ∙ s.1) },
        s,
        l,
      )

  case-none : u ≡ zeros w → v ≡ zeros w
  case-none e =
      let z = zeros-vector p pos w in
      let n = length rows in
      ap (remainder p w rows) e ∙ remainder-none p w pos rows (zeros w) st z
      (zeros n, zeros-vector p pos n, combined-zeros p w pos rows (vectors-wide p w rows (nonzero-each p w pos (IsVector p w) (drop (suc place) ts) (placed-vectors p w (suc place) (drop (suc place) ts) after))))

  new-own : IsPlaced p w place v
  new-own = by own.one_or_none
    where
      by : (at_place u place ≡ 1) ⊎ (u ≡ zeros w) → IsPlaced p w place v
      by (inl e) = (case-one e).0
      by (inr e) = record { vector = vv; before = λ i l. ap (λ x. at_place x i) (case-none e) ∙ place-zeros w i; one_or_none = inr (case-none e) }

  pub new-placed : Placed p w 0 new
  new-placed = placed-set p w 0 place ts v placed (subst (λ n. IsPlaced p w n v) (let s : place ≡ 0 + place = omega arith in s) new-own)

  pub new-echelon : IsReducedEchelon p w (nonzero w (drop place new))
  new-echelon = subst (λ xs. IsReducedEchelon p w (nonzero w xs)) (sym (drop-set ts place v here)) (by own.one_or_none)
    where
      by : (at_place u place ≡ 1) ⊎ (u ≡ zeros w) → IsReducedEchelon p w (nonzero w (v ∷ drop (suc place) ts))
      by (inl e) = let k = case-one e in
          subst (λ b. IsReducedEchelon p w (cond b (v ∷ rows) rows)) (sym (lt-ltb (lead v) w (subst (λ n. n < w) (sym k.2) within))) (echelon-from p w (v ∷ rows) k.1)
      by (inr e) = subst (λ b. IsReducedEchelon p w (cond b (v ∷ rows) rows)) (sym (le-ltb (lead v) w (subst (λ n. w ≤ n) (sym (ap lead (case-none e) ∙ lead-zeros w)) (omega arith)))) ech

  old-vectors : Each (IsVector p w) ts
  old-vectors = placed-vectors p w 0 ts placed

  new-vectors : Each (IsVector p w) new
  new-vectors = each-set (IsVector p w) ts place v vv old-vectors

  old-space : IsSubspace p w (in_span p w ts)
  old-space = span-subspace p w pos ts (vectors-wide p w ts old-vectors)

  new-space : IsSubspace p w (in_span p w new)
  new-space = span-subspace p w pos new (vectors-wide p w new new-vectors)

  rows-vectors : Each (IsVector p w) rows
  rows-vectors = nonzero-each p w pos (IsVector p w) (drop (suc place) ts) (placed-vectors p w (suc place) (drop (suc place) ts) after)

  rows-old : Each (λ s. in_span p w ts s ≡ true) rows
  rows-old = nonzero-each p w pos (λ s. in_span p w ts s ≡ true) (drop (suc place) ts)
      (each-drop (λ s. in_span p w ts s ≡ true) ts (suc place) (Each-from (λ s. in_span p w ts s ≡ true) ts (λ s m. member-span p w pos ts s old-vectors m)))

  rows-new : Each (λ s. in_span p w new s ≡ true) rows
  rows-new = nonzero-each p w pos (λ s. in_span p w new s ≡ true) (drop (suc place) ts)
      (Each-weaker (λ s. Among s new) (λ s. in_span p w new s ≡ true) (λ s m. member-span p w pos new s new-vectors m) (drop (suc place) ts) (later-among ts place v))

  v-old : in_span p w ts v ≡ true
  v-old = within-remainder p w pos (in_span p w ts) old-space rows u st rows-old own.vector (member-span p w pos ts u old-vectors (get-among ts place [] here))

  u-new : in_span p w new u ≡ true
  u-new = subst (λ x. in_span p w new x ≡ true) (remainder-sum p w pos rows u st own.vector)
      (new-space.plus_in v (combined p w (coordinates rows u) rows) vv (combined-vector p pos w (coordinates rows u) rows (vectors-wide p w rows rows-vectors))
      (member-span p w pos new v new-vectors (among-new ts place v here))
      (within-combined p w pos (in_span p w new) new-space (coordinates rows u) rows (recursion_from_All (λ a. a < p) _ (coordinates-vector p w pos rows u own.vector).below) rows-vectors rows-new))

  pub new-span : (x : Vector) → IsCombination p w new x ↔ IsCombination p w ts x
  new-span = same-span p w pos new ts new-vectors old-vectors
      (Each-from (λ s. in_span p w ts s ≡ true) new (λ s m. from s (among-set ts place v s m)))
      (Each-from (λ s. in_span p w new s ≡ true) ts (λ s m. to s (set-among ts place v s [] here m)))
    where
      from : (s : Vector) → (v ≡ s) ⊎ Among s ts → in_span p w ts s ≡ true
      from s (inl e) = subst (λ x. in_span p w ts x ≡ true) e v-old
      from s (inr m) = member-span p w pos ts s old-vectors m

      to : (s : Vector) → (get_or ts place [] ≡ s) ⊎ Among s new → in_span p w new s ≡ true
      to s (inl e) = subst (λ x. in_span p w new x ≡ true) e u-new
      to s (inr m) = member-span p w pos new s new-vectors m

-- the same of rows
pub reduce-step : (q : Prime) (w place : ℕ) (old : List DenseRow) (r : DenseRow) → IsTable q w old → place < w
    → IsReducedEchelon (number q) w (nonzero w (drop (suc place) (vectors_of old))) → r.prime ≡ q
    → r.values ≡ remainder (number q) w (nonzero w (drop (suc place) (vectors_of old))) (get_or (vectors_of old) place [])
    → IsTable q w (set old place r) × IsReducedEchelon (number q) w (nonzero w (drop place (vectors_of (set old place r))))
    × ((x : Vector) → IsCombination (number q) w (vectors_of (set old place r)) x ↔ IsCombination (number q) w (vectors_of old) x)
reduce-step q w place old r h l ech pe ve =
    let many = length-vectors old ∙ h.count in
    let own = self-placed q w old h place l in
    let after = later-placed q w old h place l in
    let fits = later-fits q w old h place l in
    let is : vectors_of (set old place r) ≡ set (vectors_of old) place (remainder (number q) w (nonzero w (drop (suc place) (vectors_of old))) (get_or (vectors_of old) place [])) =
    map-set (λ s. s.values) old place r ∙ ap (set (vectors_of old) place) ve in (
      record {
        count = length-set old place r ∙ h.count;
        primes = All-set (λ s. s.prime ≡ q) old place r pe h.primes;
        placed = subst (Placed (number q) w 0) (sym is) (new-placed (number q) w (number_above_one q) (vectors_of old) place l many h.placed after fits own ech);
      },
      subst (λ xs. IsReducedEchelon (number q) w (nonzero w (drop place xs))) (sym is) (new-echelon (number q) w (number_above_one q) (vectors_of old) place l many h.placed after fits own ech),
      λ x. subst (λ xs. IsCombination (number q) w xs x ↔ IsCombination (number q) w (vectors_of old) x) (sym is) (new-span (number q) w (number_above_one q) (vectors_of old) place l many h.placed after fits own ech x),
    )

-- the last place that is not reduced, of a table that is read through a reference
pub later-at : (q : Prime) (n place : ℕ) (cur read : List DenseRow) → read ≡ cur → length cur ≡ n → 0 < place
    → IsReducedEchelon (number q) n (nonzero n (drop place (vectors_of cur))) → IsReducedEchelon (number q) (length read) (nonzero (length read) (drop (suc (place - 1)) (vectors_of read)))
later-at q n place cur read e many l h =
    subst (λ t. IsReducedEchelon (number q) (length t) (nonzero (length t) (drop (suc (place - 1)) (vectors_of t)))) (sym e)
    (subst (λ m. IsReducedEchelon (number q) m (nonzero m (drop (suc (place - 1)) (vectors_of cur)))) (sym many)
    (subst (λ k. IsReducedEchelon (number q) n (nonzero n (drop k (vectors_of cur)))) (let s : place ≡ suc (place - 1) = omega arith in s) h))

pub reduce-at : (q : Prime) (n place : ℕ) (cur read : List DenseRow) (r : DenseRow) → read ≡ cur → IsTable q n cur → 0 < place → place ≤ n
    → IsReducedEchelon (number q) n (nonzero n (drop place (vectors_of cur))) → r.prime ≡ q
    → r.values ≡ remainder (number q) (length read) (nonzero (length read) (drop (suc (place - 1)) (vectors_of read))) (get_or (vectors_of read) (place - 1) [])
    → IsTable q n (set cur (place - 1) r) × IsReducedEchelon (number q) n (nonzero n (drop (place - 1) (vectors_of (set cur (place - 1) r))))
    × ((x : Vector) → IsCombination (number q) n (vectors_of (set cur (place - 1) r)) x ↔ IsCombination (number q) n (vectors_of cur) x)
reduce-at q n place cur read r e h l m ech pe ve =
    reduce-step q n (place - 1) cur r h (omega arith)
    (subst (λ k. IsReducedEchelon (number q) n (nonzero n (drop k (vectors_of cur)))) (let s : place ≡ suc (place - 1) = omega arith in s) ech) pe
    (ve ∙ (λ i. remainder (number q) (length (e i)) (nonzero (length (e i)) (drop (suc (place - 1)) (vectors_of (e i)))) (get_or (vectors_of (e i)) (place - 1) []))
    ∙ ap (λ k. remainder (number q) k (nonzero k (drop (suc (place - 1)) (vectors_of cur))) (get_or (vectors_of cur) (place - 1) [])) h.count)

-- ---- the rows that are not 0

pub leading-values : (w : ℕ) (xs : List DenseRow) → vectors_of (leading_rows w xs) ≡ nonzero w (vectors_of xs)
leading-values w [] = refl
leading-values w (x ∷ xs) = by (cases_lt (lead x.values) w) (leading-values w xs)
  where
    by : (lead x.values < w) ⊎ (w ≤ lead x.values) → vectors_of (leading_rows w xs) ≡ nonzero w (vectors_of xs) → vectors_of (leading_rows w (x ∷ xs)) ≡ nonzero w (x.values ∷ vectors_of xs)
    by (inl l) e = rw lt-ltb (ap (λ vs. x.values ∷ vs) e)
    by (inr l) e = rw le-ltb e

pub leading-primes : (q : Prime) (w : ℕ) (xs : List DenseRow) → All (λ r. r.prime ≡ q) xs → All (λ r. r.prime ≡ q) (leading_rows w xs)
leading-primes q w xs h = All-from_recursion (λ r. r.prime ≡ q) (leading_rows w xs) (each xs (recursion_from_All (λ r. r.prime ≡ q) xs h))
  where
    each : (ys : List DenseRow) → Each (λ r. r.prime ≡ q) ys → Each (λ r. r.prime ≡ q) (leading_rows w ys)
    each [] k = tt
    each (y ∷ ys) k = by (cases_lt (lead y.values) w) (each ys k.1)
      where
        by : (lead y.values < w) ⊎ (w ≤ lead y.values) → Each (λ r. r.prime ≡ q) (leading_rows w ys) → Each (λ r. r.prime ≡ q) (leading_rows w (y ∷ ys))
        by (inl l) e = subst (λ b. Each (λ r. r.prime ≡ q) (cond b (y ∷ leading_rows w ys) (leading_rows w ys))) (sym (lt-ltb (lead y.values) w l)) (k.0, e)
        by (inr l) e = subst (λ b. Each (λ r. r.prime ≡ q) (cond b (y ∷ leading_rows w ys) (leading_rows w ys))) (sym (le-ltb (lead y.values) w l)) e

nonzero-among : (w : ℕ) (ts : List Vector) (t : Vector) → Among t ts → lead t < w → Among t (nonzero w ts)
nonzero-among w [] t m l = m
nonzero-among w (u ∷ ts) t (inl e) l = subst (λ b. Among t (cond b (u ∷ nonzero w ts) (nonzero w ts))) (sym (lt-ltb (lead u) w (subst (λ v. lead v < w) (sym e) l))) (inl e)
nonzero-among w (u ∷ ts) t (inr m) l = by (cases_lt (lead u) w) (nonzero-among w ts t m l)
  where
    by : (lead u < w) ⊎ (w ≤ lead u) → Among t (nonzero w ts) → Among t (nonzero w (u ∷ ts))
    by (inl k) n = subst (λ b. Among t (cond b (u ∷ nonzero w ts) (nonzero w ts))) (sym (lt-ltb (lead u) w k)) (inr n)
    by (inr k) n = subst (λ b. Among t (cond b (u ∷ nonzero w ts) (nonzero w ts))) (sym (le-ltb (lead u) w k)) n

module _ (p w : ℕ) (pos : 0 < p) (ts : List Vector) (h : Each (IsVector p w) ts) where
  few : Each (IsVector p w) (nonzero w ts)
  few = nonzero-each p w pos (IsVector p w) ts h

  some-space : IsSubspace p w (in_span p w (nonzero w ts))
  some-space = span-subspace p w pos (nonzero w ts) (vectors-wide p w (nonzero w ts) few)

  pub nonzero-span : (x : Vector) → IsCombination p w (nonzero w ts) x ↔ IsCombination p w ts x
  nonzero-span = same-span p w pos (nonzero w ts) ts few h
      (nonzero-each p w pos (λ s. in_span p w ts s ≡ true) ts (Each-from (λ s. in_span p w ts s ≡ true) ts (λ s m. member-span p w pos ts s h m)))
      (Each-from (λ s. in_span p w (nonzero w ts) s ≡ true) ts (λ s m. by s m (each-among (IsVector p w) ts s h m) (cases_lt (lead s) w)))
    where
      by : (s : Vector) → Among s ts → IsVector p w s → (lead s < w) ⊎ (w ≤ lead s) → in_span p w (nonzero w ts) s ≡ true
      by s m g (inl l) = member-span p w pos (nonzero w ts) s few (nonzero-among w ts s m l)
      by s m g (inr l) =
          let wide : length s ≡ w = g.wide in
          let none : s ≡ zeros w = zeros-from_lead w s wide (omega (arith, lead-within s)) in
          subst (λ v. in_span p w (nonzero w ts) v ≡ true) (sym none) some-space.zero_in

-- the basis of the rows that a table was made of
pub table-basis : (q : Prime) (w n : ℕ) (vs : List Vector) (first last read : List DenseRow) (basis : List DenseRow) → IsTable q w first → n ≡ length first → IsTable q n last → read ≡ last → basis ≡ leading_rows w read
    → ((x : Vector) → IsCombination (number q) w (vectors_of first) x ↔ IsCombination (number q) w vs x)
    → ((x : Vector) → IsCombination (number q) n (vectors_of last) x ↔ IsCombination (number q) n (vectors_of first) x)
    → IsReducedEchelon (number q) n (nonzero n (vectors_of last))
    → IsReducedEchelon (number q) w (vectors_of basis) × (vectors_of basis ≡ reduced_basis (number q) w (in_span (number q) w vs)) × All (λ r. r.prime ≡ q) basis
table-basis q w n vs first last read basis h ne g e be one two ech =
    let same : n ≡ w = ne ∙ h.count in
    let values : vectors_of basis ≡ nonzero w (vectors_of last) = ap vectors_of (be ∙ ap (leading_rows w) e) ∙ leading-values w last in
    let good : IsReducedEchelon (number q) w (vectors_of basis) = subst (IsReducedEchelon (number q) w) (sym values) (subst (λ m. IsReducedEchelon (number q) m (nonzero m (vectors_of last))) same ech) in
    let table = subst (λ m. IsTable q m last) same g in
    let step = subst (λ m. (x : Vector) → IsCombination (number q) m (vectors_of last) x ↔ IsCombination (number q) m (vectors_of first) x) same two in
    let short = nonzero-span (number q) w (number_pos q) (vectors_of last) (placed-vectors (number q) w 0 (vectors_of last) table.placed) in (
      good,
      basis-is (number q) w (number_pos q) (vectors_of basis) (in_span (number q) w vs) good (λ v k.
          let s = spans-span (number q) w vs v k in (
            λ c. subst (λ b. IsCombination (number q) w b v) (sym values) ((short v).1 ((step v).1 ((one v).1 (s.0 c)))),
            λ c. s.1 ((one v).0 ((step v).0 ((short v).0 (subst (λ b. IsCombination (number q) w b v) values c)))),
          )),
      subst (All (λ r. r.prime ≡ q)) (sym (be ∙ ap (leading_rows w) e)) (leading-primes q w last table.primes),
    )
