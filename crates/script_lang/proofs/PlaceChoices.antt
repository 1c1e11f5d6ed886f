-- Where a sign that may be there, and what begins with a byte of one kind, go wrong.
use Rattle.std.proofs.lemmas.Bool.{eqb-true}
use Rattle.std.proofs.Common.{◌≡◌, ℕ, Bool, true, false, cond, eqb, List, [], ◌∷◌, ◌++◌, length, Ok, Err, refl, sym, ap, subst, ◌∙◌, arith, inl, inr}
use Rattle.std.specs.List.{list_all}
use Rattle.script_lang.specs.Readings.{Reading, ◌>>=◌}
use Rattle.script_lang.specs.Scans.{begins, may_in}
use Rattle.script_lang.proofs.Combine.{which, ok_parts, bind_ok, bind_err}
use Rattle.script_lang.proofs.Inner.{eqb_same, perhaps_may}
use Rattle.script_lang.proofs.PlaceRules.{next, Front, Stuck, Placed, never, begins_picked, then_front, then_second}
use Rattle.script_lang.proofs.PlacePhrases.{Wrong, later, at_once, may_absent, may_front}

may_never_wrong : {P : Type 0} (u : ℕ) (bytes : List ℕ) (left : ℕ) → may_in u bytes ≡ Err left → P
unfolding may_in
may_never_wrong u [] left e = absurd cc
may_never_wrong u (c ∷ bytes) left e = elim (which (eqb c u)) [ inl t ↦ absurd (let f = rw t at e in cc) | inr n ↦ absurd (let f = rw n at e in cc) ]

may_there : (u : ℕ) (bytes : List ℕ) → may_in u (u ∷ bytes) ≡ Ok (true, bytes)
unfolding may_in
may_there u bytes = rw (eqb_same u) refl

may_takes_one : (u : ℕ) (bytes rest : List ℕ) → may_in u bytes ≡ Ok (true, rest) → bytes ≡ u ∷ rest
unfolding may_in
may_takes_one u [] rest e = absurd (let q = (ok_parts false true [] rest e).0 in cc)
may_takes_one u (c ∷ bytes) rest e = elim (which (eqb c u)) [
  | inl t ↦ let f = rw t at e in let q = ok_parts true true bytes rest f in rw (eqb-true c u t, q.1) refl
  | inr n ↦ absurd (let f = rw n at e in let q = (ok_parts false true (c ∷ bytes) rest f).0 in cc)
]

longer_by_one : (u : ℕ) (bytes rest front : List ℕ) → bytes ≡ u ∷ rest → bytes ≡ front ++ rest → front ≡ [] → ⊥
longer_by_one u bytes rest front e w n = let l = ap length (sym e ∙ w ∙ ap (λ (t : List ℕ). t ++ rest) n) in omega (arith, l)

module _ {A : Type 0} (p : ℕ → Bool) (u : ℕ) (cs1 cs2 : List ℕ) (k : Bool → List ℕ → Reading A) (own : A → List ℕ → Bool) (one : Placed p cs1 own (k true)) (fine : p u ≡ true) where
  abbrev go : Bool × List ℕ → Reading A
  go m = k m.0 m.1

  begun : List ℕ → Reading A
  begun bytes = may_in u bytes >>= go

  -- at the first byte: the sign, and what comes behind it
  first_wrong : (bytes rest : List ℕ) (left : ℕ) → may_in u bytes ≡ Ok (false, rest) → length bytes ≡ left → ((b : ℕ) (after other : List ℕ) (v : A) (z : List ℕ) → bytes ≡ b ∷ after → k false (b ∷ other) ≡ Ok (v, z) → ⊥) → Stuck p (u ∷ []) (λ s. may_in u s >>= go) bytes left
  first_wrong bytes rest left e len dead =
      let s = one.some in
      record {
        front = [];
        rest = bytes;
        whole = refl;
        left_is = len;
        more = u ∷ s.bytes;
        value = s.value;
        gives = rw (may_there u s.bytes) s.gives;
        starts = λ n. rw (eqb_same u) refl;
        good = rw fine s.good;
        dead = λ b after other v z is q.
            let absent = may_absent u bytes rest (b ∷ other) e (ap next (sym (is ∙ refl {a = b ∷ after}))) in
            dead b after other v z is (rw absent at q);
      }

  later_wrong : (bytes rest : List ℕ) (left : ℕ) → may_in u bytes ≡ Ok (false, rest) → bytes ≡ rest → (g : Stuck p cs2 (k false) rest left) → (gf : List ℕ) → g.front ≡ gf → Stuck p (u ∷ []) (λ s. may_in u s >>= go) bytes left
  later_wrong bytes rest left e all g [] n =
      let same : rest ≡ g.rest = g.whole ∙ ap (λ (t : List ℕ). t ++ g.rest) n in
      first_wrong bytes rest left e (ap length (all ∙ same) ∙ g.left_is)
      (λ b after other v z is q. g.dead b after other v z (sym same ∙ sym all ∙ is) (subst (λ (t : List ℕ). k false (t ++ b ∷ other) ≡ Ok (v, z)) (sym n) q))
  later_wrong bytes rest left e all g (c ∷ gf) n =
      then_second p (perhaps_may u) own (may_in u) go (u ∷ []) cs2 bytes left false rest (may_front u bytes false rest e) g
      (λ m. absurd (let bad : c ∷ gf ≡ [] = sym n ∙ m in cc)) (λ m0 m. absurd (let bad : c ∷ gf ≡ [] = sym n ∙ m in cc))

  absent_all : (bytes rest : List ℕ) → may_in u bytes ≡ Ok (false, rest) → bytes ≡ rest
  absent_all bytes rest e = (ok_parts false false bytes rest (sym (may_absent u bytes rest bytes e refl) ∙ e)).1

  module _ (fronts : (bytes : List ℕ) (v : A) (rest : List ℕ) → k false bytes ≡ Ok (v, rest) → Front own (k false) bytes v rest) (wrong : (bytes : List ℕ) (left : ℕ) → k false bytes ≡ Err left → Wrong p cs2 (k false) bytes left) where
    behind_sign : (m : Bool) (bytes : List ℕ) (v : A) (rest : List ℕ) → k m bytes ≡ Ok (v, rest) → Front own (k m) bytes v rest
    behind_sign true = one.ok
    behind_sign false = fronts

    goes_wrong : (m : Bool) (bytes rest : List ℕ) (left : ℕ) → may_in u bytes ≡ Ok (m, rest) → k m rest ≡ Err left → Stuck p (u ∷ []) (λ s. may_in u s >>= go) bytes left
    goes_wrong true bytes rest left e d =
        let f = may_front u bytes true rest e in
        let g = one.err rest left d in
        then_second p (perhaps_may u) own (may_in u) go (u ∷ []) cs1 bytes left true rest f g (λ n. refl) (λ n m. absurd (longer_by_one u bytes rest f.front (may_takes_one u bytes rest e) f.whole n))
    goes_wrong false bytes rest left e d = elim (wrong rest left d) [
      | later g ↦ later_wrong bytes rest left e (absent_all bytes rest e) g g.front refl
      | at_once len dead ↦ let all = absent_all bytes rest e in first_wrong bytes rest left e (ap length all ∙ len) (λ b after other v z is q. dead b after other v z (sym all ∙ is) q)
    ]

    pub placed_perhaps : Placed p (u ∷ []) never (λ bytes. may_in u bytes >>= λ m. k m.0 m.1)
    placed_perhaps = record {
      ok = λ bytes w rest e.
          let b = bind_ok (may_in u bytes) go (w, rest) e in
          then_front p (perhaps_may u) never (may_in u) go own bytes b.0.0 b.0.1 w rest (may_front u bytes b.0.0 b.0.1 b.1) (behind_sign b.0.0 b.0.1 w rest b.2) (λ other c. absurd cc);
      err = λ bytes left e. elim (bind_err (may_in u bytes) go left e) [
        | inl d ↦ may_never_wrong u bytes left d
        | inr x ↦ goes_wrong x.0.0 bytes x.0.1 left x.1 x.2
      ];
      some = let s = one.some in record { bytes = u ∷ s.bytes; value = s.value; gives = rw (may_there u s.bytes) s.gives; starts = rw (eqb_same u) refl; good = rw fine s.good };
    }

-- ---- what is read where a byte of one kind comes

pub begins_next : (q : ℕ → Bool) (x y : List ℕ) → next x ≡ next y → begins q x ≡ begins q y
begins_next q [] [] e = refl
begins_next q [] (b ∷ y) e = absurd cc
begins_next q (b ∷ x) [] e = absurd cc
begins_next q (b ∷ x) (c ∷ y) e = let same : b ≡ c = cc in ap q same

pub begins_seam : (q : ℕ → Bool) (front x y : List ℕ) → next x ≡ next y → begins q (front ++ x) ≡ begins q (front ++ y)
begins_seam q [] x y e = begins_next q x y e
begins_seam q (b ∷ front) x y e = refl

pub begins_front : (q : ℕ → Bool) (front rest more : List ℕ) → begins q (front ++ rest) ≡ true → (front ≡ [] → begins q more ≡ true) → begins q (front ++ more) ≡ true
begins_front q [] rest more e h = h refl
begins_front q (b ∷ front) rest more e h = e

module _ {A : Type 0} (p q : ℕ → Bool) (cs : List ℕ) (own : A → List ℕ → Bool) (read : List ℕ → Reading A) (v0 : A) (one : Placed p cs own read) (kind : list_all q cs ≡ true) where
  peeked : (bytes : List ℕ) → Reading A
  peeked bytes = cond (begins q bytes) (read bytes) (Ok (v0, bytes))

  pub placed_peek : Placed p cs never (λ bytes. cond (begins q bytes) (read bytes) (Ok (v0, bytes)))
  placed_peek = record {
    ok = λ bytes v rest e. elim (which (begins q bytes)) [
      | inl t ↦
          let d = rw t at e in
          let f = one.ok bytes v rest d in
          record {
            front = f.front;
            whole = f.whole;
            same = λ other n. let b : begins q (f.front ++ other) ≡ true = begins_seam q f.front other rest n ∙ ap (begins q) (sym f.whole) ∙ t in rw b (f.same other n);
            free = λ other c. absurd cc;
          }
      | inr no_part ↦
          let d = rw no_part at e in
          let r = ok_parts v0 v bytes rest d in
          record { front = []; whole = r.1; same = λ other n. let b : begins q other ≡ false = begins_next q other bytes (n ∙ ap next (sym r.1)) ∙ no_part in rw b (rw r.0 refl); free = λ other c. absurd cc }
    ];
    err = λ bytes left e. elim (which (begins q bytes)) [
      | inl t ↦
          let d = rw t at e in
          let s = one.err bytes left d in
          let u : begins q (s.front ++ s.rest) ≡ true = ap (begins q) (sym s.whole) ∙ t in
          record {
            front = s.front;
            rest = s.rest;
            whole = s.whole;
            left_is = s.left_is;
            more = s.more;
            value = s.value;
            gives = let b = begins_front q s.front s.rest s.more u (λ n. begins_picked q cs s.more kind (s.starts n)) in rw b s.gives;
            starts = s.starts;
            good = s.good;
            dead = λ b after other v z is h.
                let w : begins q (s.front ++ b ∷ other) ≡ true = begins_seam q s.front (b ∷ other) (b ∷ after) refl ∙ ap (λ (t : List ℕ). begins q (s.front ++ t)) (sym is) ∙ u in
                s.dead b after other v z is (rw w at h);
          }
      | inr no_part ↦ absurd (let d = rw no_part at e in cc)
    ];
    some = record { bytes = []; value = v0; gives = refl; starts = refl; good = refl };
  }
