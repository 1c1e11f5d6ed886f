-- Where phrases that are put together go wrong.
use Rattle.std.proofs.Common.{◌≡◌, ℕ, Bool, true, false, eqb, List, [], ◌∷◌, ◌++◌, length, Ok, refl, sym, ap, subst, ◌∙◌, arith, inl, inr}
use Rattle.std.specs.List.{list_all}
use Rattle.script_lang.specs.Readings.{Reading, ◌>>=◌}
use Rattle.script_lang.specs.Scans.{begins, may_in}
use Rattle.script_lang.proofs.Combine.{which, ok_parts, bind_ok, bind_err}
use Rattle.script_lang.proofs.Fronts.{stops}
use Rattle.script_lang.proofs.Inner.{perhaps_may}
use Rattle.script_lang.proofs.PlaceRules.{next, is_in, may_begin, Front, Stuck, Placed, Longer, never, begins_picked, placed_done, then_front, then_first, then_second, then_some}

no_front : {A : Type 0} {may : A → List ℕ → Bool} {read : List ℕ → Reading A} (bytes : List ℕ) (v : A) (rest : List ℕ) (f : Front may read bytes v rest) → f.front ≡ [] → length rest ≡ length bytes
no_front bytes v rest f n = ap length (sym (f.whole ∙ ap (λ (t : List ℕ). t ++ rest) n))

begin_then : (cs1 cs2 cs a b : List ℕ) → may_begin cs1 a ≡ true → may_begin cs2 b ≡ true → ((o : List ℕ) → begins (is_in cs1) o ≡ true → begins (is_in cs) o ≡ true) → (a ≡ [] → (o : List ℕ) → begins (is_in cs2) o ≡ true → begins (is_in cs) o ≡ true) → may_begin cs (a ++ b) ≡ true
begin_then cs1 cs2 cs [] [] e d wide wider = refl
begin_then cs1 cs2 cs [] (c ∷ b) e d wide wider = wider refl (c ∷ b) d
begin_then cs1 cs2 cs (c ∷ a) b e d wide wider = wide (c ∷ a) e

pub placed_with : {A B : Type 0} (p : ℕ → Bool) (may : A → List ℕ → Bool) (own can : B → List ℕ → Bool) (read : List ℕ → Reading A) (k : A × List ℕ → Reading B) (cs1 cs : List ℕ) (Is : A → Type 0) (cs2 : A → List ℕ) → Placed p cs1 may read → ((bytes : List ℕ) (v : A) (rest : List ℕ) → read bytes ≡ Ok (v, rest) → Is v) → ((v : A) → Is v → Placed p (cs2 v) own (λ s. k (v, s))) → ((v : A) (o : List ℕ) → begins (is_in (cs2 v)) o ≡ true → may v o ≡ true) → ((o : List ℕ) → begins (is_in cs1) o ≡ true → begins (is_in cs) o ≡ true) → ((bytes : List ℕ) (v : A) (x : List ℕ) → read bytes ≡ Ok (v, x) → length x ≡ length bytes → (o : List ℕ) → begins (is_in (cs2 v)) o ≡ true → begins (is_in cs) o ≡ true) → ((v : A) (x : List ℕ) (w : B) (rest : List ℕ) (g : Front own (λ s. k (v, s)) x w rest) → k (v, x) ≡ Ok (w, rest) → (other : List ℕ) → can w other ≡ true → (own w other ≡ true) × (g.front ≡ [] → may v other ≡ true)) → Placed p cs can (λ s. read s >>= k)
placed_with {A} {B} p may own can read k cs1 cs Is cs2 one found two seam wide wider near = record {
  ok = λ bytes w rest e.
      let b = bind_ok (read bytes) k (w, rest) e in
      let g = (two b.0.0 (found bytes b.0.0 b.0.1 b.1)).ok b.0.1 w rest b.2 in
      then_front p may can read k own bytes b.0.0 b.0.1 w rest (one.ok bytes b.0.0 b.0.1 b.1) g (near b.0.0 b.0.1 w rest g b.2);
  err = λ bytes left e. elim (bind_err (read bytes) k left e) [
    | inl d ↦
        let s = one.err bytes left d in
        then_first p may can read k cs1 cs (cs2 s.value) bytes left s (one.ok (s.front ++ s.more) s.value [] s.gives) (two s.value (found (s.front ++ s.more) s.value [] s.gives)).some (seam s.value) wide
    | inr x ↦
        let f = one.ok bytes x.0.0 x.0.1 x.1 in
        let g = (two x.0.0 (found bytes x.0.0 x.0.1 x.1)).err x.0.1 left x.2 in
        then_second p may can read k cs (cs2 x.0.0) bytes left x.0.0 x.0.1 f g (λ n. seam x.0.0 g.more (g.starts n)) (λ n m. wider bytes x.0.0 x.0.1 x.1 (no_front bytes x.0.0 x.0.1 f n) g.more (g.starts m))
  ];
  some =
      let s = one.some in
      let g = (two s.value (found s.bytes s.value [] s.gives)).some in
      then_some p may can read k cs1 cs (cs2 s.value) s (one.ok s.bytes s.value [] s.gives) g (seam s.value)
      (begin_then cs1 (cs2 s.value) cs s.bytes g.bytes s.starts g.starts wide (λ n. wider s.bytes s.value [] s.gives (ap length (sym n))));
}

-- what is made of what was read
not_in_none : {P : Type 0} (o : List ℕ) → begins (is_in []) o ≡ true → P
not_in_none [] e = absurd cc
not_in_none (b ∷ o) e = absurd cc

pub placed_map : {A B : Type 0} (p : ℕ → Bool) (cs : List ℕ) (may : A → List ℕ → Bool) (can : B → List ℕ → Bool) (read : List ℕ → Reading A) (make : A → B) → ((v : A) (o : List ℕ) → can (make v) o ≡ true → may v o ≡ true) → Placed p cs may read → Placed p cs can (λ s. read s >>= λ x. Ok (make x.0, x.1))
placed_map {A} {B} p cs may can read make so one = placed_with p may can can read (λ x. Ok (make x.0, x.1)) cs cs (λ v. Unit {0}) (λ v. []) one (λ bytes v rest e. tt) (λ v is. placed_done p [] can (make v))
    (λ v o e. not_in_none o e) (λ o e. e) (λ bytes v x e l o d. not_in_none o d)
    (λ v x w rest g e other c. (c, λ n. so v other (subst (λ (y : B). can y other ≡ true) (sym (ok_parts (make v) w x rest e).0) c)))

-- nothing is known of what may follow the whole
pub map_never : {A B : Type 0} (p : ℕ → Bool) (cs : List ℕ) (may : A → List ℕ → Bool) (read : List ℕ → Reading A) (make : A → B) → Placed p cs may read → Placed p cs never (λ s. read s >>= λ x. Ok (make x.0, x.1))
map_never p cs may read make one = placed_map p cs may never read make (λ v o c. absurd cc) one

-- where each of these bytes may follow, what begins with one of them may
pub seam_by : {A : Type 0} (may : A → List ℕ → Bool) (v : A) (cs : List ℕ) → ((t : List ℕ) → list_all (λ c. may v (c ∷ t)) cs ≡ true) → (o : List ℕ) → begins (is_in cs) o ≡ true → may v o ≡ true
seam_by may v cs all [] e = absurd cc
seam_by may v cs all (c ∷ o) e = begins_picked (λ b. may v (b ∷ o)) cs (c ∷ o) (all o) e

module _ {A B : Type 0} (p : ℕ → Bool) (may : A → List ℕ → Bool) (own : B → List ℕ → Bool) (read : List ℕ → Reading A) (k : A × List ℕ → Reading B) (cs1 : List ℕ) (one : Placed p cs1 may read) where
  -- behind what takes a byte
  pub then_after : (Is : A → Type 0) (cs2 : A → List ℕ) → ((bytes : List ℕ) (v : A) (rest : List ℕ) → read bytes ≡ Ok (v, rest) → Is v) → Longer read → ((v : A) → Is v → Placed p (cs2 v) own (λ s. k (v, s))) → ((v : A) (t : List ℕ) → list_all (λ c. may v (c ∷ t)) (cs2 v) ≡ true) → Placed p cs1 never (λ s. read s >>= k)
  then_after Is cs2 found longer two seam = placed_with p may own never read k cs1 cs1 Is cs2 one found two (λ v o e. seam_by may v (cs2 v) (seam v) o e) (λ o e. e)
      (λ bytes v x e l. let s = longer bytes v x e in absurd (omega arith)) (λ v x w rest g e other c. absurd cc)

  pub then_wide : (cs cs2 : List ℕ) → ((v : A) → Placed p cs2 own (λ s. k (v, s))) → ((v : A) (t : List ℕ) → list_all (λ c. may v (c ∷ t)) cs2 ≡ true) → list_all (is_in cs) cs1 ≡ true → list_all (is_in cs) cs2 ≡ true → Placed p cs never (λ s. read s >>= k)
  then_wide cs cs2 two seam wide wider = placed_with p may own never read k cs1 cs (λ v. Unit {0}) (λ v. cs2) one (λ bytes v rest e. tt) (λ v is. two v) (λ v o e. seam_by may v cs2 (seam v) o e) (λ o e. begins_picked (is_in cs) cs1 o wide e)
      (λ bytes v x e l o d. begins_picked (is_in cs) cs2 o wider d) (λ v x w rest g e other c. absurd cc)

-- ---- a sign that may be there

-- what goes wrong later, or at its first byte
pub data Wrong {A : Type 0} (p : ℕ → Bool) (cs : List ℕ) (read : List ℕ → Reading A) (bytes : List ℕ) (left : ℕ) : Type 0 where
  later : Stuck p cs read bytes left → Wrong p cs read bytes left
  at_once : length bytes ≡ left → ((b : ℕ) (after other : List ℕ) (v : A) (z : List ℕ) → bytes ≡ b ∷ after → read (b ∷ other) ≡ Ok (v, z) → ⊥) → Wrong p cs read bytes left

pub may_absent : (u : ℕ) (bytes rest other : List ℕ) → may_in u bytes ≡ Ok (false, rest) → next other ≡ next bytes → may_in u other ≡ Ok (false, other)
unfolding may_in
may_absent u bytes rest [] e n = refl
may_absent u [] rest (d ∷ other) e n = absurd cc
may_absent u (c ∷ bytes) rest (d ∷ other) e n =
    let same : d ≡ c = cc in
    elim (which (eqb c u)) [
      | inl t ↦ absurd (let f = rw t at e in let q = (ok_parts true false bytes rest f).0 in cc)
      | inr f ↦ rw same (rw f refl)
    ]

pub may_front : (u : ℕ) (bytes : List ℕ) (m : Bool) (rest : List ℕ) → may_in u bytes ≡ Ok (m, rest) → Front (perhaps_may u) (may_in u) bytes m rest
unfolding may_in
may_front u [] m rest e =
    let q = ok_parts false m [] rest e in
    subst (λ (y : Bool). Front (perhaps_may u) (may_in u) [] y rest) q.0
    (record { front = []; whole = q.1; same = λ other n. may_absent u [] [] other refl (n ∙ ap next (sym q.1)); free = λ other c. may_free other c })
  where
    may_free : (other : List ℕ) → perhaps_may u false other ≡ true → may_in u other ≡ Ok (false, other)
    may_free [] c = refl
    may_free (b ∷ other) c = rw (stops (eqb b u) c) refl
may_front u (c ∷ bytes) m rest e = elim (which (eqb c u)) [
  | inl t ↦
      let f = rw t at e in
      let q = ok_parts true m bytes rest f in
      subst (λ (y : Bool). Front (perhaps_may u) (may_in u) (c ∷ bytes) y rest) q.0
      (record { front = c ∷ []; whole = ap (λ (x : List ℕ). c ∷ x) q.1; same = λ other n. rw t refl; free = λ other d. rw t refl })
  | inr f ↦
      let g = rw f at e in
      let q = ok_parts false m (c ∷ bytes) rest g in
      subst (λ (y : Bool). Front (perhaps_may u) (may_in u) (c ∷ bytes) y rest) q.0
      (record { front = []; whole = q.1; same = λ other n. may_absent u (c ∷ bytes) (c ∷ bytes) other (rw f refl) (n ∙ ap next (sym q.1)); free = λ other d. may_free other d })
]
  where
    may_free : (other : List ℕ) → perhaps_may u false other ≡ true → may_in u other ≡ Ok (false, other)
    may_free [] c = refl
    may_free (b ∷ other) c = rw (stops (eqb b u) c) refl
