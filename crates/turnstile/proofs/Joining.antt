-- How the rule starts, and how passes come and go.
use Rattle.std.proofs.Common.{◌≡◌, ◌≢◌, ℕ, zero, suc, ◌+◌, ◌≤◌, ◌<◌, ◌⊎◌, inl, inr, ⊎_elim, true, false, List, [], ◌∷◌, ◌++◌, length, set, refl, ap, sym, ◌∙◌, subst, arith, length-append}
use Rattle.std.specs.Prelude.{All, slice_index_or, Option, Some, None, count_by}
use Rattle.std.proofs.lemmas.List.{length-set}
use Rattle.std.proofs.lemmas.List.Sums.{sum_by-append}
use mathlib.Core.Option.{some, some-injective, some-ne-none}
use lib.ListN.{get_elem?}
use Rattle.atomic_table.specs.Table.{Splits, Joins, opening, Final, Seen}
use Rattle.atomic_table.proofs.Lists.{at_set, set_here, set_else, at_longer}
use Rattle.turnstile.specs.declared.rule.View.{View}
use Rattle.turnstile.specs.declared.rule.Kept.{Kept}
use Rattle.turnstile.specs.declared.rule.Stage.TheVariants.{Outside, Spent}
use Rattle.turnstile.specs.Turns.{has_ticket, is_inside, queues, first_view, Fits, Homes, Stands, Turns}
use Rattle.turnstile.specs.Steps.{one_more, newcomer, keeper, spent_view}
use Rattle.turnstile.specs.Passes.{AllKept}
use Rattle.turnstile.proofs.Fronts.{fits_self, none_before, owners_below}
use Rattle.turnstile.proofs.Turning.{one_if, count_set, at_below}

pub at_end : {A : Type 0} (l : List A) (a b : A) (j : ℕ) → get_elem? (l ++ a ∷ []) j ≡ some b → (get_elem? l j ≡ some b) ⊎ ((j ≡ length l) × (a ≡ b))
at_end [] a b zero e = inr (refl, some-injective a b e)
at_end [] a b (suc j) e = absurd (some-ne-none b (sym e))
at_end (x ∷ xs) a b zero e = inl e
at_end (x ∷ xs) a b (suc j) e = ⊎_elim (λ (p : get_elem? xs j ≡ some b). inl p) (λ (p : (j ≡ length xs) × (a ≡ b)). inr (ap suc p.0, p.1)) (at_end xs a b j e)

pub cons_at : {A : Type 0} (x : A) (xs : List A) (i : ℕ) (b : A) → get_elem? (x ∷ xs) i ≡ some b → (x ≡ b) ⊎ ((k : ℕ) × (get_elem? xs k ≡ some b))
cons_at x xs zero b e = inl (some-injective x b e)
cons_at x xs (suc k) b e = inr (k, e)

-- one more is kept, under a number that was not kept
two_kept : {E : Type 0} (one : Kept E) (ks : List (Kept E)) → ((j : ℕ) (q : Kept E) → get_elem? ks j ≡ some q → ¬ (q.number ≡ one.number))
    → ((i j : ℕ) (q q' : Kept E) → get_elem? ks i ≡ some q → get_elem? ks j ≡ some q' → q.number ≡ q'.number → i ≡ j)
    → (i j : ℕ) (q q' : Kept E) → get_elem? (one ∷ ks) i ≡ some q → get_elem? (one ∷ ks) j ≡ some q' → q.number ≡ q'.number → i ≡ j
two_kept one ks new old zero zero q q' ei ej e = refl
two_kept {E} one ks new old zero (suc j) q q' ei ej e = absurd (new j q' ej (sym e ∙ sym (ap (λ (z : Kept E). z.number) (some-injective one q ei))))
two_kept {E} one ks new old (suc i) zero q q' ei ej e = absurd (new i q ei (e ∙ sym (ap (λ (z : Kept E). z.number) (some-injective one q' ej))))
two_kept one ks new old (suc i) (suc j) q q' ei ej e = ap suc (old i j q q' ei ej e)

pub elem_at : {A : Type 0} (l : List A) (i : ℕ) (d : A) → i < length l → get_elem? l i ≡ some (slice_index_or l i d)
elem_at [] i d h = absurd (omega arith)
elem_at (x ∷ xs) zero d h = refl
elem_at (x ∷ xs) (suc i) d h = elem_at xs i d (omega arith)

abbrev some_or : {A : Type 0} → A → Option A → A
some_or a (Some b) = b
some_or a None = a

module _ {B E : Type 0} (h : B → List E) (o : E → ℕ) where
  pub starts : (b : B) → h b ≡ [] → Turns h o (opening (0 ∷ 0 ∷ 0 ∷ []) (Some b ∷ []) first_view)
  starts b none_yet =
      let only : (j : ℕ) (u : View E) → get_elem? (first_view ∷ []) j ≡ some u → (j ≡ 0) × (first_view ≡ u) = λ j u e. ⊎_elim (λ (p : get_elem? [] j ≡ some u). absurd (some-ne-none u (sym p))) (λ (p : (j ≡ 0) × (first_view ≡ u)). p) (at_end [] first_view u j e) in
      record {
        drawn = 0;
        served = 0;
        log = [];
        words = refl;
        as_many = refl;
        apart = λ i j v w ei ej _ _ _. (only i v ei).0 ∙ sym (only j w ej).0;
        few = omega arith;
        some_view = omega arith;
        each = λ j u e. let p = only j u e in subst (λ (z : ℕ). Stands o 0 0 1 [] (some (Some b) ∷ []) z u) (sym p.0) (subst (Stands o 0 0 1 [] (some (Some b) ∷ []) 0) p.1 record {
          number = λ _. refl;
          fits = λ _. fits_self o 0 [];
          in_line = λ q. absurd (cc q);
          in_turn = λ q. absurd (cc q);
          found = λ q. absurd (cc q);
          put = λ q. absurd (cc q);
          counts = λ _. ((λ q. cc q), refl);
        });
        strangers = λ k _. refl;
        kept = λ v i q ev eq. absurd (some-ne-none q (sym (ap (λ (l : List (Kept E)). get_elem? l i) (ap (λ (z : View E). z.kept) (only 0 v ev).1) ∙ eq)));
        drawn_by = λ t lo hi. absurd (omega arith);
        differ = λ v i j q q' ev ei ej _. absurd (some-ne-none q (sym (ap (λ (l : List (Kept E)). get_elem? l i) (ap (λ (z : View E). z.kept) (only 0 v ev).1) ∙ ei)));
        all_kept = λ k w v ew sw ev. absurd (cc (ap (λ (z : View E). z.stage) (only k w ew).1 ∙ sw));
        home = inl (b, refl, none_yet);
      }

  pub splits : (id : ℕ) (v : View E) → v.stage ≡ Outside → v.number ≡ 0 → v.made < 65536 → Splits (Turns h o) id v (one_more v) (newcomer v)
  splits id v out num room s r at =
      let l : View E = one_more v in let w : View E = newcomer v in let n : ℕ = length s.views in let vs : List (View E) = set s.views id l in let all : List (View E) = vs ++ w ∷ [] in
      let live : v.stage ≢ Spent = λ e. cc (sym out ∙ e) in let st = r.each id v at in let first : id ≡ 0 = sym (st.number live) ∙ num in let made : v.made ≡ n = (st.counts first).1 in
      let no : queues v ≡ false = ap has_ticket out in
      let long : length vs ≡ n = length-set s.views id l in let longer : length all ≡ n + 1 = length-append vs (w ∷ []) ∙ ap (λ (k : ℕ). k + 1) long in
      let cases : (j : ℕ) (u : View E) → get_elem? all j ≡ some u → ((j ≢ id) × (get_elem? s.views j ≡ some u)) ⊎ (((j ≡ id) × (l ≡ u)) ⊎ ((j ≡ n) × (w ≡ u))) =
      λ j u e. ⊎_elim (λ (p : get_elem? vs j ≡ some u). ⊎_elim (λ (q : (j ≡ id) × (l ≡ u)). inr (inl q)) (λ (q : (j ≢ id) × (get_elem? s.views j ≡ some u)). inl q) (at_set s.views id j l u p))
      (λ (p : (j ≡ length vs) × (w ≡ u)). inr (inr (p.0 ∙ long, p.1))) (at_end vs w u j e) in
      let was : (j : ℕ) (u : View E) → get_elem? all j ≡ some u → queues u ≡ true → (j ≢ id) × (get_elem? s.views j ≡ some u) =
      λ j u e q. ⊎_elim (λ (p : (j ≢ id) × (get_elem? s.views j ≡ some u)). p) (λ (p : ((j ≡ id) × (l ≡ u)) ⊎ ((j ≡ n) × (w ≡ u))). ⊎_elim
      (λ (p : (j ≡ id) × (l ≡ u)). absurd (cc (sym no ∙ (ap queues p.1 ∙ q)))) (λ (p : (j ≡ n) × (w ≡ u)). absurd (cc (ap queues p.1 ∙ q))) p) (cases j u e) in
      let still : (j : ℕ) (u : View E) → j ≢ id → get_elem? s.views j ≡ some u → get_elem? all j ≡ some u = λ j u ne e. at_longer vs (w ∷ []) j u (set_else s.views id j l ne ∙ e) in
      let at0 : get_elem? s.views 0 ≡ some v = subst (λ (z : ℕ). get_elem? s.views z ≡ some v) first at in
      let first_kept : (x : View E) → get_elem? all 0 ≡ some x → v.kept ≡ x.kept = λ x ex. ⊎_elim (λ (p : (0 ≢ id) × (get_elem? s.views 0 ≡ some x)). absurd (p.0 (sym first)))
      (λ (p : ((0 ≡ id) × (l ≡ x)) ⊎ ((0 ≡ n) × (w ≡ x))). ⊎_elim (λ (p : (0 ≡ id) × (l ≡ x)). ap (λ (z : View E). z.kept) p.1)
      (λ (p : (0 ≡ n) × (w ≡ x)). (let pos : 0 < n = r.some_view in let q' : 0 ≡ n = p.0 in absurd (omega arith))) p) (cases 0 x ex) in
      record {
        drawn = r.drawn;
        served = r.served;
        log = r.log;
        words = r.words;
        as_many =
            (let f : View E → ℕ = λ u. one_if (queues u) in let a : ℕ = count_by queues s.views in let b : ℕ = count_by queues vs in let k : ℕ = count_by queues all in let x : ℕ = one_if (queues v) in
            let ab : b + x ≡ a + x = count_set h o s.views id v l at in let more : k ≡ b + 0 = sum_by-append f vs (w ∷ []) in
            let d : ℕ = r.drawn in let t : ℕ = r.served in let is : d ≡ t + a = r.as_many in let goal : d ≡ t + k = omega arith in goal);
        apart = λ i j x y ex ey qx qy eq. r.apart i j x y (was i x ex qx).1 (was j y ey qy).1 qx qy eq;
        few = subst (λ (z : ℕ). z ≤ 65536) (sym longer) (let m : ℕ = v.made in let lt : m < 65536 = room in let is : m ≡ n = made in let goal : n + 1 ≤ 65536 = omega arith in goal);
        some_view = subst (λ (z : ℕ). 0 < z) (sym longer) (let goal : 0 < n + 1 = omega arith in goal);
        each = λ j u e. subst (λ (z : ℕ). Stands o r.served r.drawn z r.log s.homes j u) (sym longer) (⊎_elim
            (λ (p : (j ≢ id) × (get_elem? s.views j ≡ some u)). let z = r.each j u p.1 in
            record { number = z.number; fits = z.fits; in_line = z.in_line; in_turn = z.in_turn; found = z.found; put = z.put; counts = λ q. absurd (p.0 (q ∙ sym first)) })
            (λ (p : ((j ≡ id) × (l ≡ u)) ⊎ ((j ≡ n) × (w ≡ u))). ⊎_elim
            (λ (p : (j ≡ id) × (l ≡ u)). subst (λ (z : ℕ). Stands o r.served r.drawn (n + 1) r.log s.homes z u) (sym p.0) (subst (Stands o r.served r.drawn (n + 1) r.log s.homes id) p.1
            record { number = st.number; fits = st.fits; in_line = st.in_line; in_turn = st.in_turn; found = st.found; put = st.put; counts = λ q. (live, ap (λ (z : ℕ). z + 1) made) }))
            (λ (p : (j ≡ n) × (w ≡ u)). subst (λ (z : ℕ). Stands o r.served r.drawn (n + 1) r.log s.homes z u) (sym p.0) (subst (Stands o r.served r.drawn (n + 1) r.log s.homes n) p.1
            (let pre = (st.fits live).0 in let le : n ≤ n = omega arith in let empty = r.strangers n le in
            record {
              number = λ _. made;
              fits = λ _. (pre, empty ∙ sym (none_before o n r.log v.front pre empty));
              in_line = λ q. absurd (cc q);
              in_turn = λ q. absurd (cc q);
              found = λ q. absurd (cc q);
              put = λ q. absurd (cc q);
              counts = λ q. (let pos : 0 < n = r.some_view in let q' : n ≡ 0 = q in absurd (omega arith));
            }))) p)
            (cases j u e));
        strangers = λ k le. r.strangers k (let le' : n + 1 ≤ k = subst (λ (z : ℕ). z ≤ k) longer le in let goal : n ≤ k = omega arith in goal);
        kept = λ x i q ex eq.
            let same : v.kept ≡ x.kept = ⊎_elim (λ (p : (0 ≢ id) × (get_elem? s.views 0 ≡ some x)). absurd (p.0 (sym first)))
            (λ (p : ((0 ≡ id) × (l ≡ x)) ⊎ ((0 ≡ n) × (w ≡ x))). ⊎_elim (λ (p : (0 ≡ id) × (l ≡ x)). ap (λ (z : View E). z.kept) p.1)
            (λ (p : (0 ≡ n) × (w ≡ x)). (let pos : 0 < n = r.some_view in let q' : 0 ≡ n = p.0 in absurd (omega arith))) p) (cases 0 x ex) in
            let at0 : get_elem? s.views 0 ≡ some v = subst (λ (z : ℕ). get_elem? s.views z ≡ some v) first at in
            let k = r.kept v i q at0 (ap (λ (z : List (Kept E)). get_elem? z i) same ∙ eq) in let spent = k.1 in
            let other : q.number ≢ id = λ e. live (ap (λ (z : View E). z.stage) (some-injective v spent.0 (sym at ∙ (ap (get_elem? s.views) (sym e) ∙ spent.1))) ∙ spent.2) in
            (k.0, (spent.0, still q.number spent.0 other spent.1, spent.2));
        drawn_by = λ t lo hi. let k = r.drawn_by t lo hi in
            let other : k.0 ≢ id = λ e. (let is : k.1 ≡ v = some-injective k.1 v (sym k.2 ∙ (ap (get_elem? s.views) e ∙ at)) in cc (sym no ∙ (sym (ap queues is) ∙ k.3))) in
            (k.0, k.1, still k.0 k.1 other k.2, k.3, k.4);
        differ = λ x i j q q' ex ei ej e. let same = first_kept x ex in r.differ v i j q q' at0 (ap (λ (z : List (Kept E)). get_elem? z i) same ∙ ei) (ap (λ (z : List (Kept E)). get_elem? z j) same ∙ ej) e;
        all_kept = λ k u x eu su ex.
            let same = first_kept x ex in
            let there : get_elem? s.views k ≡ some u = ⊎_elim (λ (p : (k ≢ id) × (get_elem? s.views k ≡ some u)). p.1)
            (λ (p : ((k ≡ id) × (l ≡ u)) ⊎ ((k ≡ n) × (w ≡ u))). ⊎_elim (λ (p : (k ≡ id) × (l ≡ u)). absurd (live (ap (λ (z : View E). z.stage) p.1 ∙ su))) (λ (p : (k ≡ n) × (w ≡ u)). absurd (cc (ap (λ (z : View E). z.stage) p.1 ∙ su))) p) (cases k u eu) in
            let a = r.all_kept k u v there su at0 in
            (a.0, a.1, ap (λ (l' : List (Kept E)). get_elem? l' a.0) (sym same) ∙ a.2, a.3);
        home = ⊎_elim (λ (x : (b : B) × (s.homes ≡ some (Some b) ∷ []) × (h b ≡ r.log)). inl x)
            (λ (x : (j : ℕ) × (u : View E) × (get_elem? s.views j ≡ some u) × (is_inside u.stage ≡ true)).
            let ne : x.0 ≢ id = λ e. cc (sym x.3 ∙ (ap (λ (z : View E). is_inside z.stage) (some-injective x.1 v (sym x.2 ∙ (ap (get_elem? s.views) e ∙ at))) ∙ ap is_inside out)) in
            inr (x.0, x.1, still x.0 x.1 ne x.2, x.3)) r.home;
      }

  pub joins : (id : ℕ) (v : View E) (other : ℕ) (w : View E) → v.stage ≡ Outside → v.number ≡ 0 → w.stage ≡ Outside → Joins (Turns h o) id v other w (keeper v w) spent_view
  joins id v other w out num out' s r at two at' =
      let l : View E = keeper v w in let n : ℕ = length s.views in let vs : List (View E) = set s.views id l in let all : List (View E) = set vs other spent_view in
      let live : v.stage ≢ Spent = λ e. cc (sym out ∙ e) in let live' : w.stage ≢ Spent = λ e. cc (sym out' ∙ e) in let st = r.each id v at in let first : id ≡ 0 = sym (st.number live) ∙ num in
      let there : get_elem? s.views other ≡ some w = sym (set_else s.views id other l two) ∙ at' in let st' = r.each other w there in
      let no : queues v ≡ false = ap has_ticket out in let no' : queues w ≡ false = ap has_ticket out' in
      let long : length all ≡ n = length-set vs other spent_view ∙ length-set s.views id l in
      let cases : (j : ℕ) (u : View E) → get_elem? all j ≡ some u → ((j ≢ other) × (j ≢ id) × (get_elem? s.views j ≡ some u)) ⊎ (((j ≡ id) × (l ≡ u)) ⊎ ((j ≡ other) × (spent_view ≡ u))) =
      λ j u e. ⊎_elim (λ (p : (j ≡ other) × (spent_view ≡ u)). inr (inr p))
      (λ (p : (j ≢ other) × (get_elem? vs j ≡ some u)). ⊎_elim (λ (q : (j ≡ id) × (l ≡ u)). inr (inl q)) (λ (q : (j ≢ id) × (get_elem? s.views j ≡ some u)). inl (p.0, q.0, q.1)) (at_set s.views id j l u p.1))
      (at_set vs other j spent_view u e) in
      let was : (j : ℕ) (u : View E) → get_elem? all j ≡ some u → queues u ≡ true → get_elem? s.views j ≡ some u =
      λ j u e q. ⊎_elim (λ (p : (j ≢ other) × (j ≢ id) × (get_elem? s.views j ≡ some u)). p.2) (λ (p : ((j ≡ id) × (l ≡ u)) ⊎ ((j ≡ other) × (spent_view ≡ u))). ⊎_elim
      (λ (p : (j ≡ id) × (l ≡ u)). absurd (cc (sym no ∙ (ap queues p.1 ∙ q)))) (λ (p : (j ≡ other) × (spent_view ≡ u)). absurd (cc (ap queues p.1 ∙ q))) p) (cases j u e) in
      let still : (j : ℕ) (u : View E) → j ≢ other → j ≢ id → get_elem? s.views j ≡ some u → get_elem? all j ≡ some u = λ j u ne' ne e. set_else vs other j spent_view ne' ∙ (set_else s.views id j l ne ∙ e) in
      let now_spent : get_elem? all other ≡ some spent_view = set_here vs other spent_view (subst (λ (z : ℕ). other < z) (sym (length-set s.views id l)) (at_below h o s.views other w there)) in
      let apart : other ≢ 0 = λ e. two (e ∙ sym first) in
      let at0 : get_elem? s.views 0 ≡ some v = subst (λ (z : ℕ). get_elem? s.views z ≡ some v) first at in
      let first_kept : (x : View E) → get_elem? all 0 ≡ some x → l.kept ≡ x.kept = λ x ex. ⊎_elim (λ (p : (0 ≢ other) × (0 ≢ id) × (get_elem? s.views 0 ≡ some x)). absurd (p.1 (sym first)))
      (λ (p : ((0 ≡ id) × (l ≡ x)) ⊎ ((0 ≡ other) × (spent_view ≡ x))). ⊎_elim (λ (p : (0 ≡ id) × (l ≡ x)). ap (λ (z : View E). z.kept) p.1) (λ (p : (0 ≡ other) × (spent_view ≡ x)). absurd (apart (sym p.0))) p) (cases 0 x ex) in
      record {
        drawn = r.drawn;
        served = r.served;
        log = r.log;
        words = r.words;
        as_many =
            (let a : ℕ = count_by queues s.views in let b : ℕ = count_by queues vs in let k : ℕ = count_by queues all in let x : ℕ = one_if (queues v) in let y : ℕ = one_if (queues w) in let y_is : y ≡ 0 = ap one_if no' in
            let ab : b + x ≡ a + x = count_set h o s.views id v l at in let bk : k + y ≡ b + 0 = count_set h o vs other w spent_view at' in
            let d : ℕ = r.drawn in let t : ℕ = r.served in let is : d ≡ t + a = r.as_many in let goal : d ≡ t + k = omega arith in goal);
        apart = λ i j x y ex ey qx qy eq. r.apart i j x y (was i x ex qx) (was j y ey qy) qx qy eq;
        few = subst (λ (z : ℕ). z ≤ 65536) (sym long) r.few;
        some_view = subst (λ (z : ℕ). 0 < z) (sym long) r.some_view;
        each = λ j u e. subst (λ (z : ℕ). Stands o r.served r.drawn z r.log s.homes j u) (sym long) (⊎_elim
            (λ (p : (j ≢ other) × (j ≢ id) × (get_elem? s.views j ≡ some u)). r.each j u p.2)
            (λ (p : ((j ≡ id) × (l ≡ u)) ⊎ ((j ≡ other) × (spent_view ≡ u))). ⊎_elim
            (λ (p : (j ≡ id) × (l ≡ u)). subst (λ (z : ℕ). Stands o r.served r.drawn n r.log s.homes z u) (sym p.0) (subst (Stands o r.served r.drawn n r.log s.homes id) p.1
            record { number = st.number; fits = st.fits; in_line = st.in_line; in_turn = st.in_turn; found = st.found; put = st.put; counts = st.counts }))
            (λ (p : (j ≡ other) × (spent_view ≡ u)). subst (λ (z : ℕ). Stands o r.served r.drawn n r.log s.homes z u) (sym p.0) (subst (Stands o r.served r.drawn n r.log s.homes other) p.1
            record { number = λ q. absurd (q refl); fits = λ q. absurd (q refl); in_line = λ q. absurd (cc q); in_turn = λ q. absurd (cc q); found = λ q. absurd (cc q); put = λ q. absurd (cc q); counts = λ q. absurd (apart q) })) p)
            (cases j u e));
        strangers = λ k le. r.strangers k (subst (λ (z : ℕ). z ≤ k) long le);
        kept = λ x i q ex eq.
            let at0 : get_elem? s.views 0 ≡ some v = subst (λ (z : ℕ). get_elem? s.views z ≡ some v) first at in
            let same : l.kept ≡ x.kept = ⊎_elim (λ (p : (0 ≢ other) × (0 ≢ id) × (get_elem? s.views 0 ≡ some x)). absurd (p.1 (sym first)))
            (λ (p : ((0 ≡ id) × (l ≡ x)) ⊎ ((0 ≡ other) × (spent_view ≡ x))). ⊎_elim (λ (p : (0 ≡ id) × (l ≡ x)). ap (λ (z : View E). z.kept) p.1)
            (λ (p : (0 ≡ other) × (spent_view ≡ x)). absurd (apart (sym p.0))) p) (cases 0 x ex) in
            let one : Kept E = record { number = w.number; front = w.front } in
            let named : w.number ≡ other = st'.number live' in
            ⊎_elim
            (λ (p : one ≡ q). subst (λ (z : Kept E). Fits o r.log z.number z.front × ((u : View E) × (get_elem? all z.number ≡ some u) × (u.stage ≡ Spent))) p
            (subst (λ (k : ℕ). Fits o r.log k w.front) (sym named) (st'.fits live'), (spent_view, ap (get_elem? all) named ∙ now_spent, refl)))
            (λ (p : (k : ℕ) × (get_elem? v.kept k ≡ some q)).
            let k = r.kept v p.0 q at0 p.1 in let spent = k.1 in
            let away : q.number ≢ id = λ e. live (ap (λ (z : View E). z.stage) (some-injective v spent.0 (sym at ∙ (ap (get_elem? s.views) (sym e) ∙ spent.1))) ∙ spent.2) in
            let away' : q.number ≢ other = λ e. live' (ap (λ (z : View E). z.stage) (some-injective w spent.0 (sym there ∙ (ap (get_elem? s.views) (sym e) ∙ spent.1))) ∙ spent.2) in
            (k.0, (spent.0, still q.number spent.0 away' away spent.1, spent.2)))
            (cons_at one v.kept i q (ap (λ (z : List (Kept E)). get_elem? z i) same ∙ eq));
        drawn_by = λ t lo hi. let k = r.drawn_by t lo hi in
            let away : k.0 ≢ id = λ e. (let is : k.1 ≡ v = some-injective k.1 v (sym k.2 ∙ (ap (get_elem? s.views) e ∙ at)) in cc (sym no ∙ (sym (ap queues is) ∙ k.3))) in
            let away' : k.0 ≢ other = λ e. (let is : k.1 ≡ w = some-injective k.1 w (sym k.2 ∙ (ap (get_elem? s.views) e ∙ there)) in cc (sym no' ∙ (sym (ap queues is) ∙ k.3))) in
            (k.0, k.1, still k.0 k.1 away' away k.2, k.3, k.4);
        differ = λ x i j q q' ex ei ej e. let same = first_kept x ex in
            two_kept (record { number = w.number; front = w.front }) v.kept
            (λ k p ek num'. let spent = (r.kept v k p at0 ek).1 in
            live' (ap (λ (z : View E). z.stage) (some-injective w spent.0 (sym there ∙ (ap (get_elem? s.views) (sym (st'.number live') ∙ sym num') ∙ spent.1))) ∙ spent.2))
            (λ m k p p' em ek e'. r.differ v m k p p' at0 em ek e') i j q q' (ap (λ (z : List (Kept E)). get_elem? z i) same ∙ ei) (ap (λ (z : List (Kept E)). get_elem? z j) same ∙ ej) e;
        all_kept = λ k u x eu su ex.
            let same = first_kept x ex in
            let one : Kept E = record { number = w.number; front = w.front } in
            ⊎_elim (λ (p : (k ≢ other) × (k ≢ id) × (get_elem? s.views k ≡ some u)). let a = r.all_kept k u v p.2 su at0 in (suc a.0, a.1, ap (λ (z : List (Kept E)). get_elem? z (suc a.0)) (sym same) ∙ a.2, a.3))
            (λ (p : ((k ≡ id) × (l ≡ u)) ⊎ ((k ≡ other) × (spent_view ≡ u))). ⊎_elim
            (λ (p : (k ≡ id) × (l ≡ u)). absurd (live (ap (λ (z : View E). z.stage) p.1 ∙ su)))
            (λ (p : (k ≡ other) × (spent_view ≡ u)). (0, one, ap (λ (z : List (Kept E)). get_elem? z 0) (sym same), st'.number live' ∙ sym p.0)) p)
            (cases k u eu);
        home = ⊎_elim (λ (x : (b : B) × (s.homes ≡ some (Some b) ∷ []) × (h b ≡ r.log)). inl x)
            (λ (x : (j : ℕ) × (u : View E) × (get_elem? s.views j ≡ some u) × (is_inside u.stage ≡ true)).
            let ne : x.0 ≢ id = λ e. cc (sym x.3 ∙ (ap (λ (z : View E). is_inside z.stage) (some-injective x.1 v (sym x.2 ∙ (ap (get_elem? s.views) e ∙ at))) ∙ ap is_inside out)) in
            let ne' : x.0 ≢ other = λ e. cc (sym x.3 ∙ (ap (λ (z : View E). is_inside z.stage) (some-injective x.1 w (sym x.2 ∙ (ap (get_elem? s.views) e ∙ there))) ∙ ap is_inside out')) in
            inr (x.0, x.1, still x.0 x.1 ne' ne x.2, x.3)) r.home;
      }

  pub ends : (id : ℕ) (v : View E) (ws : List ℕ) (xs : List (Option B)) (x : Option B) → Final (Seen (Turns h o) id v) ws xs → get_elem? xs 0 ≡ some x
      → v.stage ≡ Outside → v.number ≡ 0 → AllKept v.made v.kept
      → (b : B) × (x ≡ Some b) × Fits o (h b) 0 v.front × All (λ (q : Kept E). Fits o (h b) q.number q.front) v.kept × All (λ (e : E). o e < v.made) (h b)
  ends id v ws xs x last there out num every =
      let s = last.0 in let r = last.1.0 in let at = last.1.1 in let n : ℕ = length s.views in
      let live : v.stage ≢ Spent = λ e. cc (sym out ∙ e) in let st = r.each id v at in let first : id ≡ 0 = sym (st.number live) ∙ num in
      let at0 : get_elem? s.views 0 ≡ some v = subst (λ (z : ℕ). get_elem? s.views z ≡ some v) first at in let made : v.made ≡ n = (st.counts first).1 in
      ⊎_elim
      (λ (y : (b : B) × (s.homes ≡ some (Some b) ∷ []) × (h b ≡ r.log)). (
        y.0,
        some-injective x (Some y.0) (sym there ∙ last.4 0 (Some y.0) (ap (λ (hs : Homes B). get_elem? hs 0) y.1)),
        subst (λ (l : List E). Fits o l 0 v.front) (sym y.2) (subst (λ (k : ℕ). Fits o r.log k v.front) first (st.fits live)),
        λ k d le. let q : Kept E = slice_index_or v.kept k d in subst (λ (l : List E). Fits o l q.number q.front) (sym y.2) (r.kept v k q at0 (elem_at v.kept k d le)).0,
        subst (λ (l : List E). All (λ (e : E). o e < v.made) l) (sym y.2) (subst (λ (m : ℕ). All (λ (e : E). o e < m) r.log) (sym made) (owners_below o n r.log r.strangers)),
      ))
      (λ (y : (j : ℕ) × (u : View E) × (get_elem? s.views j ≡ some u) × (is_inside u.stage ≡ true)).
      let j : ℕ = y.0 in let u : View E = y.1 in
      let ne : j ≢ 0 = λ e. cc (sym y.3 ∙ (ap (λ (z : View E). is_inside z.stage) (some-injective u v (sym y.2 ∙ (ap (get_elem? s.views) e ∙ at0))) ∙ ap is_inside out)) in
      let below : j < n = at_below h o s.views j u y.2 in
      let a = every j (omega arith) (subst (λ (z : ℕ). j < z) (sym made) below) in
      let q : Kept E = a.1 in
      let k = r.kept v a.0 q at0 (elem_at v.kept a.0 q a.2 ∙ ap some a.3) in
      let same : u ≡ k.1.0 = some-injective u k.1.0 (sym y.2 ∙ (ap (get_elem? s.views) (sym a.4) ∙ k.1.1)) in
      absurd (cc (sym y.3 ∙ (ap (λ (z : View E). is_inside z.stage) same ∙ ap is_inside k.1.2))))
      r.home

  pub ends_at : (id : ℕ) (v : View E) (ws : List ℕ) (xs : List (Option B)) (x : Option B) (y : B) → Final (Seen (Turns h o) id v) ws xs → get_elem? xs 0 ≡ some x → x ≡ Some y
      → v.stage ≡ Outside → v.number ≡ 0 → AllKept v.made v.kept
      → Fits o (h y) 0 v.front × All (λ (q : Kept E). Fits o (h y) q.number q.front) v.kept × All (λ (e : E). o e < v.made) (h y)
  ends_at id v ws xs x y last there is out num every =
      let e = ends id v ws xs x last there out num every in
      let same : e.0 ≡ y = ap (some_or e.0) (sym e.1 ∙ is) in
      subst (λ (b : B). Fits o (h b) 0 v.front × All (λ (q : Kept E). Fits o (h b) q.number q.front) v.kept × All (λ (e : E). o e < v.made) (h b)) same (e.2, e.3, e.4)
