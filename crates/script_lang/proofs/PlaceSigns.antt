-- Where single bytes go wrong.
use Rattle.std.proofs.Common.{◌≡◌, ℕ, ◌<◌, Bool, true, false, cond, eqb, List, [], ◌∷◌, ◌++◌, length, Ok, Err, Option, Some, None, refl, sym, ap, ◌∙◌, arith, inl, inr}
use Rattle.script_lang.specs.declared.scan.BodySign.{BodySign}
use Rattle.script_lang.specs.declared.scan.BodySign.TheVariants as signs
use Rattle.script_lang.specs.Readings.{Reading}
use Rattle.script_lang.specs.Scans.{sign_in, separator_in, name_in, sign_of, sign_or_name_in, head_in}
use Rattle.script_lang.proofs.Combine.{which, ok_parts, bind_ok, bind_err}
use Rattle.script_lang.proofs.Inner.{eqb_same}
use Rattle.script_lang.proofs.PlaceRules.{next, Front, never}
use Rattle.script_lang.proofs.PlaceLeaves.{Leaf}

abbrev pub of_byte : {A : Type 0} → Option A → ℕ → List ℕ → Reading A
of_byte (Some v) b bytes = Ok (v, bytes)
of_byte None b bytes = Err (length (b ∷ bytes))

module _ {A : Type 0} (f : ℕ → Option A) (read : List ℕ → Reading A) (nil : read [] ≡ Err 0) (cons : (b : ℕ) (bytes : List ℕ) → read (b ∷ bytes) ≡ of_byte (f b) b bytes) where
  byte_some : (o : Option A) (b : ℕ) (bytes : List ℕ) (v : A) (rest : List ℕ) → of_byte o b bytes ≡ Ok (v, rest) → (o ≡ Some v) × (bytes ≡ rest)
  byte_some (Some w) b bytes v rest e = let q = ok_parts w v bytes rest e in (ap Some q.0, q.1)
  byte_some None b bytes v rest e = absurd cc

  byte_none : (o : Option A) (b : ℕ) (bytes : List ℕ) (left : ℕ) → of_byte o b bytes ≡ Err left → (o ≡ None) × (length (b ∷ bytes) ≡ left)
  byte_none (Some w) b bytes left e = absurd cc
  byte_none None b bytes left e = (refl, cc)

  byte_front : (bytes : List ℕ) (v : A) (rest : List ℕ) → read bytes ≡ Ok (v, rest) → Front never read bytes v rest
  byte_front [] v rest e = absurd (let d = sym nil ∙ e in cc)
  byte_front (b ∷ bytes) v rest e =
      let q = byte_some (f b) b bytes v rest (sym (cons b bytes) ∙ e) in
      record { front = b ∷ []; whole = ap (λ (t : List ℕ). b ∷ t) q.1; same = λ other n. cons b other ∙ (rw q.0 refl); free = λ other c. absurd cc }

  byte_longer : (bytes : List ℕ) (v : A) (rest : List ℕ) → read bytes ≡ Ok (v, rest) → length rest < length bytes
  byte_longer [] v rest e = absurd (let d = sym nil ∙ e in cc)
  byte_longer (b ∷ bytes) v rest e = let q = byte_some (f b) b bytes v rest (sym (cons b bytes) ∙ e) in omega (arith, ap length q.1)

  byte_at_once : (bytes : List ℕ) (left : ℕ) → read bytes ≡ Err left → length bytes ≡ left
  byte_at_once [] left e = let d = sym nil ∙ e in cc
  byte_at_once (b ∷ bytes) left e = (byte_none (f b) b bytes left (sym (cons b bytes) ∙ e)).1

  pub byte_leaf : (p : ℕ → Bool) (c : ℕ) (v0 : A) → f c ≡ Some v0 → p c ≡ true → Leaf p c read
  byte_leaf p c v0 is fine = record {
    ok = byte_front;
    longer = byte_longer;
    at_once = byte_at_once;
    dead = λ b after other left v z e d.
        let n = (byte_none (f b) b after left (sym (cons b after) ∙ e)).0 in
        let s = (byte_some (f b) b other v z (sym (cons b other) ∙ d)).0 in
        let bad = sym n ∙ s in cc;
    value = v0;
    gives = cons c [] ∙ (rw is refl);
    fine = fine;
  }

-- ---- one given sign

abbrev is_sign : ℕ → ℕ → Option (Unit {0})
is_sign u b = cond (eqb b u) (Some tt) None

sign_cons : (u b : ℕ) (bytes : List ℕ) → sign_in u (b ∷ bytes) ≡ of_byte (is_sign u b) b bytes
unfolding sign_in
sign_cons u b bytes = elim (which (eqb b u)) [ inl t ↦ rw t refl | inr n ↦ rw n refl ]

sign_nil : (u : ℕ) → sign_in u [] ≡ Err 0
unfolding sign_in
sign_nil u = refl

pub sign_leaf : (p : ℕ → Bool) (u : ℕ) → p u ≡ true → Leaf p u (sign_in u)
sign_leaf p u fine = byte_leaf (is_sign u) (sign_in u) (sign_nil u) (sign_cons u) p u tt (rw (eqb_same u) refl) fine

-- ---- a minus sign or a colon

abbrev is_separator : ℕ → Option Bool
is_separator b = cond (eqb b 45) (Some true) (cond (eqb b 58) (Some false) None)

separator_cons : (b : ℕ) (bytes : List ℕ) → separator_in (b ∷ bytes) ≡ of_byte (is_separator b) b bytes
unfolding separator_in
separator_cons b bytes = elim (which (eqb b 45)) [
  | inl t ↦ rw t refl
  | inr n ↦ elim (which (eqb b 58)) [ inl t ↦ rw (n, t) refl | inr m ↦ rw (n, m) refl ]
]

separator_nil : separator_in [] ≡ Err 0
unfolding separator_in
separator_nil = refl

pub separator_leaf : (p : ℕ → Bool) → p 58 ≡ true → Leaf p 58 separator_in
separator_leaf p fine = byte_leaf is_separator separator_in separator_nil separator_cons p 58 false refl fine

-- ---- the sign of a body, or a name

module _ (p0 : ℕ → Bool) (c0 : ℕ) (name : Leaf p0 c0 name_in) (room : ℕ) where
  abbrev made : List ℕ × List ℕ → Reading BodySign
  made n = Ok (signs.Name n.0, n.1)

  name_again : (b : ℕ) (bytes front x other name : List ℕ) (v : BodySign) → sign_of room b ≡ None → b ∷ bytes ≡ front ++ x → length x < length (b ∷ bytes) → name_in (front ++ other) ≡ Ok (name, other) → signs.Name name ≡ v → head_in room (front ++ other) ≡ Ok (v, other)
  unfolding head_in sign_or_name_in
  name_again b bytes [] x other name v s w l g q = absurd (let h = ap length w in omega arith)
  name_again b bytes (c ∷ front) x other name v s w l g q =
      let same : c ≡ b = cc in
      let none : sign_of room c ≡ None = rw same s in
      rw none (rw g (rw q refl))

  head_front : (o : Option BodySign) (b : ℕ) (bytes : List ℕ) (v : BodySign) (rest : List ℕ) → sign_of room b ≡ o → sign_or_name_in o b bytes ≡ Ok (v, rest) → Front never (head_in room) (b ∷ bytes) v rest
  unfolding head_in sign_or_name_in
  head_front (Some sign) b bytes v rest s e =
      let q = ok_parts sign v bytes rest e in
      record { front = b ∷ []; whole = ap (λ (t : List ℕ). b ∷ t) q.1; same = λ other n. rw s (rw q.0 refl); free = λ other c. absurd cc }
  head_front None b bytes v rest s e =
      let d = bind_ok (name_in (b ∷ bytes)) made (v, rest) e in
      let q = ok_parts (signs.Name d.0.0) v d.0.1 rest d.2 in
      let f = name.ok (b ∷ bytes) d.0.0 d.0.1 d.1 in
      let l = name.longer (b ∷ bytes) d.0.0 d.0.1 d.1 in
      record {
        front = f.front;
        whole = f.whole ∙ ap (λ (t : List ℕ). f.front ++ t) q.1;
        same = λ other n. name_again b bytes f.front d.0.1 other d.0.0 v s f.whole l (f.same other (n ∙ ap next (sym q.1))) q.0;
        free = λ other c. absurd cc;
      }

  head_once : (o : Option BodySign) (b : ℕ) (bytes : List ℕ) (left : ℕ) → sign_or_name_in o b bytes ≡ Err left → (o ≡ None) × (name_in (b ∷ bytes) ≡ Err left)
  unfolding sign_or_name_in
  head_once (Some sign) b bytes left e = absurd cc
  head_once None b bytes left e = elim (bind_err (name_in (b ∷ bytes)) made left e) [ inl d ↦ (refl, d) | inr x ↦ absurd (let d = x.2 in cc) ]

  head_dead : (o : Option BodySign) (b : ℕ) (after other : List ℕ) (left : ℕ) (v : BodySign) (z : List ℕ) → sign_or_name_in o b after ≡ Err left → sign_or_name_in o b other ≡ Ok (v, z) → ⊥
  unfolding sign_or_name_in
  head_dead (Some sign) b after other left v z e d = cc
  head_dead None b after other left v z e d =
      let g = bind_ok (name_in (b ∷ other)) made (v, z) d in
      name.dead b after other left g.0.0 g.0.1 (head_once None b after left e).1 g.1

  head_ok : (bytes : List ℕ) (v : BodySign) (rest : List ℕ) → head_in room bytes ≡ Ok (v, rest) → Front never (head_in room) bytes v rest
  unfolding head_in
  head_ok [] v rest e = absurd cc
  head_ok (b ∷ bytes) v rest e = head_front (sign_of room b) b bytes v rest refl e

  head_longer_at : (o : Option BodySign) (b : ℕ) (bytes : List ℕ) (v : BodySign) (rest : List ℕ) → sign_or_name_in o b bytes ≡ Ok (v, rest) → length rest < length (b ∷ bytes)
  unfolding sign_or_name_in
  head_longer_at (Some sign) b bytes v rest e = let q = ok_parts sign v bytes rest e in omega (arith, ap length q.1)
  head_longer_at None b bytes v rest e =
      let d = bind_ok (name_in (b ∷ bytes)) made (v, rest) e in
      let q = ok_parts (signs.Name d.0.0) v d.0.1 rest d.2 in
      omega (arith, name.longer (b ∷ bytes) d.0.0 d.0.1 d.1, ap length q.1)

  head_longer : (bytes : List ℕ) (v : BodySign) (rest : List ℕ) → head_in room bytes ≡ Ok (v, rest) → length rest < length bytes
  unfolding head_in
  head_longer [] v rest e = absurd cc
  head_longer (b ∷ bytes) v rest e = head_longer_at (sign_of room b) b bytes v rest e

  head_at_once : (bytes : List ℕ) (left : ℕ) → head_in room bytes ≡ Err left → length bytes ≡ left
  unfolding head_in
  head_at_once [] left e = cc
  head_at_once (b ∷ bytes) left e = name.at_once (b ∷ bytes) left (head_once (sign_of room b) b bytes left e).1

  pub head_leaf : (p : ℕ → Bool) → p 42 ≡ true → Leaf p 42 (head_in room)
  unfolding head_in sign_of sign_or_name_in
  head_leaf p fine = record {
    ok = head_ok;
    longer = head_longer;
    at_once = head_at_once;
    dead = λ b after other left v z e d. head_dead (sign_of room b) b after other left v z e d;
    value = signs.Star;
    gives = refl;
    fine = fine;
  }
