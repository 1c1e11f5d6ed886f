-- Dealing the parts of passes to the lists of the shards.
use Rattle.std.proofs.Common.{◌≡◌, ◌≢◌, inl, inr, ⊎_elim, ℕ, ◌+◌, ◌<◌, ◌≤◌, arith, refl, ap, List, [], ◌∷◌, ◌++◌, length, set, length-set, length-append, get_or, slice_get, sym, ◌∙◌, subst, Some}
use Rattle.std.proofs.lemmas.Bool.{cases_eq}
use Rattle.std.proofs.lemmas.Option.{slice_get_within}
use Rattle.memo_book.proofs.Lists.{some_same, got, got_left, got_end, there}
use Rattle.turnstile.specs.Passes.{passes, room_left}
use Rattle.memo_shared.specs.declared.memo.MemoPass.{MemoPass}
use Rattle.memo_shared.specs.Shared.{Part, part_at}
use Rattle.memo_shared.specs.Dealt.{IsIn, Got, EachGot, IsDealt, PartList}
use Rattle.memo_shared.proofs.Among.{last_in, front_in, in_more}
use Rattle.memo_shared.proofs.Rows.{got_here, got_apart}

-- of `parts`, those from `left` on were given to the lists, which made `news` of `olds`
pub record IsUnderWay (olds : List PartList) (parts : List Part) (news : List PartList) (left : List Part) : Type 0 where
  pub as_many : length news ≡ length olds
  pub front : (k : ℕ) → k < length left → slice_get parts k ≡ slice_get left k
  pub rest : (k : ℕ) → k < length left → slice_get news k ≡ slice_get olds k
  pub done : (k : ℕ) (old : PartList) → length left ≤ k → slice_get olds k ≡ Some old
      → (part : Part) × (new : PartList) × (slice_get parts k ≡ Some part) × (slice_get news k ≡ Some new) × Got old part new

pub none_given : (olds : List PartList) (parts : List Part) → length olds ≡ length parts → IsUnderWay olds parts olds parts
none_given olds parts long = record {
  as_many = refl;
  front = λ k lt. refl;
  rest = λ k lt. refl;
  done = λ k old past e. (let n : ℕ = length parts in let m : ℕ = length olds in let m_is : m ≡ n = long in let lt : k < m = slice_get_within olds k old e in let le : n ≤ k = past in absurd (omega arith));
}

pub all_given : (olds : List PartList) (parts : List Part) (news : List PartList) (left : List Part) → length left ≡ 0 → IsUnderWay olds parts news left → EachGot olds parts news
all_given olds parts news left none w = record {
  as_many = w.as_many;
  at = λ k old e. w.done k old (let n : ℕ = length left in let z : n ≡ 0 = none in let goal : n ≤ k = omega arith in goal) e;
}

module _ (olds : List PartList) (parts : List Part) (news : List PartList) (left left' : List Part) (part : Part) (popped : left ≡ left' ++ part ∷ []) (list new : PartList)
    (long : length olds ≡ length parts) (read : list ≡ get_or news (length left') list) (got_it : Got list part new) (w : IsUnderWay olds parts news left) where
  one_less : length left ≡ length left' + 1
  one_less = ap length popped ∙ length-append left' (part ∷ [])

  below : (k : ℕ) → k ≤ length left' → k < length left
  below k le = let n : ℕ = length left in let m : ℕ = length left' in let e : n ≡ m + 1 = one_less in let le' : k ≤ m = le in let goal : k < n = omega arith in goal

  it_was : slice_get parts (length left') ≡ Some part
  it_was =
      w.front (length left') (below (length left') (let m : ℕ = length left' in let goal : m ≤ m = omega arith in goal))
      ∙ (ap (λ l. slice_get l (length left')) popped ∙ got_end left' [] part)

  inside : length left' < length news
  inside = subst (λ n. length left' < n) (sym (w.as_many ∙ long)) (slice_get_within parts (length left') part it_was)

  here : (old : PartList) → slice_get olds (length left') ≡ Some old → list ≡ old
  here old e =
      some_same list old
      (sym (there news (length left') list list inside read) ∙ (w.rest (length left') (below (length left') (let m : ℕ = length left' in let goal : m ≤ m = omega arith in goal)) ∙ e))

  one_given : IsUnderWay olds parts (set news (length left') new) left'
  one_given = record {
    as_many = length-set news (length left') new ∙ w.as_many;
    front = λ k lt. (let m : ℕ = length left' in let lt' : k < m = lt in w.front k (below k (let goal : k ≤ m = omega arith in goal)) ∙ (ap (λ l. slice_get l k) popped ∙ got_left left' (part ∷ []) k lt));
    rest = λ k lt. (let m : ℕ = length left' in let lt' : k < m = lt in got_apart news m k new (λ e. (let e' : k ≡ m = e in absurd (omega arith))) ∙ w.rest k (below k (let goal : k ≤ m = omega arith in goal)));
    done = λ k old past e. ⊎_elim
        (λ (is : k ≡ length left'). (
          part,
          new,
          ap (slice_get parts) is ∙ it_was,
          ap (slice_get (set news (length left') new)) is ∙ got_here news (length left') new inside,
          subst (λ l. Got l part new) (here old (ap (slice_get olds) (sym is) ∙ e)) got_it,
        ))
        (λ (ne : k ≢ length left'). (
        let n : ℕ = length left in let m : ℕ = length left' in let n_is : n ≡ m + 1 = one_less in let past' : m ≤ k = past in let ne' : k ≢ m = ne in
        let d = w.done k old (let goal : n ≤ k = omega arith in goal) e in (d.0, d.1, d.2, got_apart news m k new ne ∙ d.3, d.4)))
        (cases_eq k (length left'));
  }

-- in the words of a loop, which writes at the number of the parts that are left
pub gives : (olds : List PartList) (parts : List Part) (news : List PartList) (left left' : List Part) (part : Part) → left ≡ left' ++ part ∷ [] → (list new : PartList) (place : ℕ) → place ≡ length left'
    → length olds ≡ length parts → list ≡ get_or news place list → Got list part new → IsUnderWay olds parts news left → IsUnderWay olds parts (set news place new) left'
gives olds parts news left left' part popped list new place at long read got_it w =
    subst (λ n. IsUnderWay olds parts (set news n new) left') (sym at)
    (one_given olds parts news left left' part popped list new long (read ∙ ap (λ n. get_or news n list) at) got_it w)

-- of all passes, those that are left were not dealt, and each list has room for them
pub record AreUnderWay (all left : List MemoPass) (lists : List PartList) : Type 0 where
  pub stays : (p : MemoPass) → IsIn p left → IsIn p all
  pub each : (k : ℕ) (l : PartList) → slice_get lists k ≡ Some l → IsDealt k all left (passes l) × (length left ≤ room_left l)

none_in : {A : Type 0} (xs : List A) (x : A) → xs ≡ [] → IsIn x xs → ⊥
none_in xs x none i = cc (sym (ap (λ l. slice_get l i.0) none) ∙ i.1)

pub none_dealt : (all : List MemoPass) (lists : List PartList) → ((k : ℕ) (l : PartList) → slice_get lists k ≡ Some l → (passes l ≡ []) × (length all ≤ room_left l)) → AreUnderWay all all lists
none_dealt all lists room = record {
  stays = λ p i. i;
  each = λ k l e. (let r = room k l e in (record { given = λ p i. inl i; taken = λ q i. absurd (none_in (passes l) q r.0 i) }, r.1));
}

pub all_dealt : (all left : List MemoPass) (lists : List PartList) → left ≡ [] → AreUnderWay all left lists → (k : ℕ) (l : PartList) → slice_get lists k ≡ Some l → IsDealt k all [] (passes l)
all_dealt all left lists none w k l e = subst (λ z. IsDealt k all z (passes l)) none (w.each k l e).0

module _ (all left left' : List MemoPass) (p : MemoPass) (popped : left ≡ left' ++ p ∷ []) (lists : List PartList) (w : AreUnderWay all left lists) where
  one_more : length left ≡ length left' + 1
  one_more = ap length popped ∙ length-append left' (p ∷ [])

  -- each list has room for one part more
  pub room_for_one : (k : ℕ) (l : PartList) → slice_get lists k ≡ Some l → 0 < room_left l
  room_for_one k l e =
      let n : ℕ = length left in let m : ℕ = length left' in let r : ℕ = room_left l in let n_is : n ≡ m + 1 = one_more in let le : n ≤ r = (w.each k l e).1 in
      let goal : 0 < r = omega arith in goal

  module _ (news : List PartList) (g : EachGot lists p.parts.items news) where
    given_more : (k : ℕ) (part : Part) (old new : PartList) → slice_get p.parts.items k ≡ Some part → passes new ≡ passes old ++ part ∷ [] → IsDealt k all left (passes old) → IsDealt k all left' (passes new)
    given_more k part old new at more d = record {
      given = λ p' i. ⊎_elim
          (λ (l : IsIn p' left). ⊎_elim
          (λ (is : p ≡ p'). inr (part, subst (λ z. part_at z k ≡ Some part) is at, last_in (passes old) (passes new) part more))
          (λ (l' : IsIn p' left'). inl l')
          (in_more left' left p popped p' l))
          (λ (r : (q : Part) × (part_at p' k ≡ Some q) × IsIn q (passes old)). inr (r.0, r.1, front_in (passes old) (passes new) part more r.0 r.2))
          (d.given p' i);
      taken = λ q i. ⊎_elim
          (λ (is : part ≡ q). (p, w.stays p (last_in left' left p popped), at ∙ ap Some is))
          (λ (i' : IsIn q (passes old)). d.taken q i')
          (in_more (passes old) (passes new) part more q i);
    }

    pub one_dealt : AreUnderWay all left' news
    one_dealt = record {
      stays = λ p' i. w.stays p' (front_in left' left p popped p' i);
      each = λ k l e. (
          let old = got lists k (subst (λ n. k < n) g.as_many (slice_get_within news k l e)) in
          let d = g.at k old.0 old.1 in
          let same : d.1 ≡ l = some_same d.1 l (sym d.3 ∙ e) in
          let before = w.each k old.0 old.1 in
          subst (λ z. IsDealt k all left' (passes z) × (length left' ≤ room_left z)) same (
            given_more k d.0 old.0 d.1 d.2 d.4.0 before.0,
            (let n : ℕ = length left in let m : ℕ = length left' in let r : ℕ = room_left old.0 in let r' : ℕ = room_left d.1 in let n_is : n ≡ m + 1 = one_more in let le : n ≤ r = before.1 in let le' : r ≤ r' + 1 = d.4.1 in let goal : m ≤ r' = omega arith in goal),
          ));
    }
