-- From the ends of sixteen turnstiles to that of the table.
use Rattle.std.proofs.Common.{◌≡◌, ⊎_elim, ℕ, zero, suc, ◌+◌, ◌<◌, arith, refl, ap, List, [], ◌∷◌, ◌++◌, length, length-append, append_assoc, reverse, slice_get, sym, ◌∙◌, subst, Some}
use Rattle.std.specs.Prelude.{All, Any}
use Rattle.std.proofs.lemmas.List.{append-nil, nil_from_length, reverse-append}
use Rattle.std.proofs.lemmas.Option.{slice_get_within}
use Rattle.oracle_iface.specs.declared.entries.Entry.{Entry}
use Rattle.memo_book.specs.Books.{BookView}
use Rattle.memo_book.specs.Histories.{history}
use Rattle.memo_book.proofs.Lists.{some_same, got, got_left, got_end}
use Rattle.turnstile.specs.Passes as turns
use Rattle.turnstile.specs.Passes.{front, number, made, passes, IsOutside, IsPassOf}
use Rattle.turnstile.specs.Turns.{Fits}
use Rattle.turnstile.specs.declared.pass.Turnstile.{Turnstile}
use Rattle.memo_shared.specs.declared.shard.Shard.{Shard}
use Rattle.memo_shared.specs.declared.memo.SharedMemo.{SharedMemo}
use Rattle.memo_shared.specs.declared.memo.MemoPass.{MemoPass}
use Rattle.memo_shared.specs.Shared.{AtEach, Part, part_at, front_or, fronts_of, seat_of, made_of, IsOf, IsPart}
use Rattle.memo_shared.specs.Whole.{IsWhole, Continues}
use Rattle.memo_shared.specs.Dealt.{IsIn, IsDealt, Closes, PartList, AreDealt}
use Rattle.memo_shared.proofs.Told.{by}
use Rattle.memo_shared.proofs.Among.{of_all, all_of, some_of, of_some}

module _ {X Y : Type 0} (R : X → Y → Type 0) where
  pub at_cons : (x : X) (y : Y) (xs : List X) (ys : List Y) → R x y → AtEach R xs ys → AtEach R (x ∷ xs) (y ∷ ys)
  at_cons x y xs ys r f zero x' y' e e' = subst (λ z. R z y') (some_same x x' e) (subst (R x) (some_same y y' e') r)
  at_cons x y xs ys r f (suc k) x' y' e e' = f k x' y' e e'

  -- where both lists lose their last
  module _ (xs xs' : List X) (ys ys' : List Y) (x : X) (y : Y) (popped : xs ≡ xs' ++ x ∷ []) (popped' : ys ≡ ys' ++ y ∷ []) (long : length xs ≡ length ys) (f : AtEach R xs ys) where
    as_long : length xs' ≡ length ys'
    as_long =
        let n : ℕ = length xs' in let m : ℕ = length ys' in let e : n + 1 ≡ m + 1 = sym (ap length popped ∙ length-append xs' (x ∷ [])) ∙ (long ∙ (ap length popped' ∙ length-append ys' (y ∷ []))) in
        let goal : n ≡ m = omega arith in goal

    pub at_last : R x y
    at_last =
        f (length xs') x y (ap (λ l. slice_get l (length xs')) popped ∙ got_end xs' [] x)
        (ap (λ l. slice_get l (length xs')) popped' ∙ (ap (slice_get (ys' ++ y ∷ [])) as_long ∙ got_end ys' [] y))

    pub at_front : AtEach R xs' ys'
    at_front k x' y' e e' =
        f k x' y' (ap (λ l. slice_get l k) popped ∙ (got_left xs' (x ∷ []) k (slice_get_within xs' k x' e) ∙ e))
        (ap (λ l. slice_get l k) popped' ∙ (got_left ys' (y ∷ []) k (slice_get_within ys' k y' e') ∙ e'))

-- the lists that are gone from `all`, with their books, which stand backwards
pub record AreClosed (all lists : List PartList) (books : List BookView) : Type 0 where
  pub gone : List PartList
  pub whole : all ≡ lists ++ gone
  pub as_many : length gone ≡ length books
  pub each : AtEach (λ (l : PartList) b. Closes (passes l) b) gone (reverse books)

module _ (m : SharedMemo) (ps : List MemoPass) (whole : IsWhole m ps) (k : ℕ) (t : Turnstile Shard Entry) (at_t : slice_get m.shards.items k ≡ Some t) (qs : List Part) (d : IsDealt k ps [] qs) where
  part_of : (p : MemoPass) → IsIn p ps → (q : Part) → part_at p k ≡ Some q → IsPart p.seat p.made t q
  part_of p i q e = (of_all (IsOf m) ps whole.of_this p i).each k t q at_t e

  its_part : (p : MemoPass) → IsIn p ps → (q : Part) × IsIn q qs × (part_at p k ≡ Some q)
  its_part p i = ⊎_elim (λ (none : IsIn p []). absurd (cc none.1)) (λ (r : (q : Part) × (part_at p k ≡ Some q) × IsIn q qs). (r.0, r.2, r.1)) (d.given p i)

  -- a seat of one of the passes is the number of one of the parts
  numbered : (n : ℕ) → Any (λ p. seat_of p ≡ n) ps → Any (λ q. number q ≡ n) qs
  numbered n a =
      let p = some_of (λ p. seat_of p ≡ n) ps a in
      let q = its_part p.0 p.1 in
      of_some (λ (z : Part). number z ≡ n) qs q.0 q.1 ((part_of p.0 p.1 q.0 q.2).number_is ∙ p.2)

  pub parts_whole : turns.IsWhole t qs
  parts_whole = record {
    of_this = all_of (λ (q : Part). IsPassOf t q × IsOutside q) qs (λ q i. (let p = d.taken q i in let is = part_of p.0 p.1 q p.2 in (is.of_this, is.outside)));
    first = numbered 0 whole.first;
    every = all_of (λ (q : Part). number q ≡ 0 → (n : ℕ) → n < made q → Any (λ z. number z ≡ n) qs) qs (λ q i zeroth n lt. (
        let p = d.taken q i in
        let is = part_of p.0 p.1 q p.2 in
        let many : made q ≡ length ps = is.made_is ∙ of_all (λ z. seat_of z ≡ 0 → made_of z ≡ length ps) ps whole.as_many p.0 p.1 (sym is.number_is ∙ zeroth) in
        numbered n (whole.every n (subst (λ z. n < z) many lt))));
  }

  module _ (b : BookView) (c : Closes qs b) where
    pub goes_on : All (Continues k b) ps
    goes_on = all_of (Continues k b) ps (λ p i. (
        let q = its_part p i in
        let f : Fits by (history b) (number q.0) (front q.0) = of_all (λ (z : Part). Fits by (history b) (number z) (front z)) qs c.0 q.0 q.1 in
        subst (λ n. Fits by (history b) n (fronts_of p k)) (part_of p i q.0 q.2).number_is (subst (λ h. Fits by (history b) (number q.0) h) (sym (ap front_or q.2)) f)))

    pub has_seats : All (λ (e : Entry). Any (λ p. seat_of p ≡ e.seat) ps) (history b)
    has_seats = all_of (λ (e : Entry). Any (λ p. seat_of p ≡ e.seat) ps) (history b) (λ e i. (
        let q = some_of (λ (z : Part). number z ≡ e.seat) qs (of_all (λ (z : Entry). Any (λ (y : Part). number y ≡ z.seat) qs) (history b) c.1 e i) in
        let p = d.taken q.0 q.1 in
        of_some (λ z. seat_of z ≡ e.seat) ps p.0 p.1 (sym (part_of p.0 p.1 q.0 p.2).number_is ∙ q.2)))

module _ (m : SharedMemo) (ps : List MemoPass) (whole : IsWhole m ps) (lists : List PartList) (dealt : AreDealt ps lists) where
  -- so each turnstile can be closed
  pub turns_whole : AtEach (λ t (l : PartList). turns.IsWhole t (passes l)) m.shards.items lists
  turns_whole k t l e e' = parts_whole m ps whole k t e (passes l) (dealt k l e')

  module _ (books : List BookView) (long : length m.shards.items ≡ 16) (long' : length lists ≡ 16) (long'' : length books ≡ 16)
      (closed : AtEach (λ (l : PartList) b. Closes (passes l) b) lists books) where
    at_book : (k : ℕ) (b : BookView) → slice_get books k ≡ Some b
        → (t : Turnstile Shard Entry) × (l : PartList) × (slice_get m.shards.items k ≡ Some t) × (slice_get lists k ≡ Some l)
    at_book k b e =
        let lt : k < 16 = subst (λ n. k < n) long'' (slice_get_within books k b e) in
        let t = got m.shards.items k (subst (λ n. k < n) (sym long) lt) in
        let l = got lists k (subst (λ n. k < n) (sym long') lt) in
        (t.0, l.0, t.1, l.1)

    pub all_go_on : (k : ℕ) (b : BookView) → slice_get books k ≡ Some b → All (Continues k b) ps
    all_go_on k b e = let a = at_book k b e in goes_on m ps whole k a.0 a.2 (passes a.1) (dealt k a.1 a.3) b (closed k a.1 b a.3 e)

    pub all_have_seats : (k : ℕ) (b : BookView) → slice_get books k ≡ Some b → All (λ (e : Entry). Any (λ p. seat_of p ≡ e.seat) ps) (history b)
    all_have_seats k b e = let a = at_book k b e in has_seats m ps whole k a.0 a.2 (passes a.1) (dealt k a.1 a.3) b (closed k a.1 b a.3 e)

-- ---- the loop over the shards

pub none_closed : (lists : List PartList) (books : List BookView) → length books ≡ 0 → AreClosed lists lists books
none_closed lists [] none = record {
  gone = [];
  whole = sym (append-nil lists);
  as_many = refl;
  each = λ k l b e e'. absurd (cc e);
}
none_closed lists (b ∷ books) none = absurd (omega arith)

pub one_closed : (all lists lists' : List PartList) (books books' : List BookView) (l : PartList) (b : BookView) → lists ≡ lists' ++ l ∷ [] → books' ≡ books ++ b ∷ [] → Closes (passes l) b
    → AreClosed all lists books → AreClosed all lists' books'
one_closed all lists lists' books books' l b popped pushed c d = record {
  gone = l ∷ d.gone;
  whole = d.whole ∙ (ap (λ z. z ++ d.gone) popped ∙ append_assoc lists' (l ∷ []) d.gone);
  as_many = (let n : ℕ = length d.gone in let m : ℕ = length books in let m' : ℕ = length books' in let e : n ≡ m = d.as_many in let e' : m' ≡ m + 1 = ap length pushed ∙ length-append books (b ∷ []) in let goal : suc n ≡ m' = omega arith in goal);
  each = subst (AtEach (λ (z : PartList) y. Closes (passes z) y) (l ∷ d.gone)) (sym (ap reverse pushed ∙ reverse-append books (b ∷ [])))
      (at_cons (λ (z : PartList) y. Closes (passes z) y) l b d.gone (reverse books) c d.each);
}

-- at the end, with the books turned
pub all_closed : (all lists : List PartList) (books result : List BookView) → length lists ≡ 0 → result ≡ reverse books → AreClosed all lists books → AtEach (λ (l : PartList) b. Closes (passes l) b) all result
all_closed all lists books result none turned d =
    subst (AtEach (λ (l : PartList) b. Closes (passes l) b) all) (sym turned)
    (subst (λ z. AtEach (λ (l : PartList) b. Closes (passes l) b) z (reverse books)) (sym (d.whole ∙ ap (λ z. z ++ d.gone) (nil_from_length lists none))) d.each)
