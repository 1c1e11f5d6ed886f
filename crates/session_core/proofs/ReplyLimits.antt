-- Questions about homology are answered: no value of a table or a sphere is past a limit.
use Rattle.std.proofs.Common.{◌≡◌, ℕ, zero, suc, ◌-◌, ◌≤◌, Bool, false, ◌||◌, nat_lt, List, [], ◌∷◌, map, length, Some, None, refl, sym, ◌∙◌, ap, subst, arith}
use Rattle.std.proofs.lemmas.Bool.Decides.{nat_tests}
use Rattle.std.specs.List.{AllByRecursion as EachOf}
use Rattle.fp_field.specs.declared.prime.Prime.{Prime}
use Rattle.fp_field.specs.Field.{number, IsField}
use Rattle.fp_field.specs.Chains.{Terms, extend}
use Rattle.fp_field.proofs.FieldLaws.{is_field}
use Rattle.chain_core.specs.Formal.{Formal}
use Rattle.echelons.specs.Echelon.{Vector}
use Rattle.spaces.specs.Tables.{Table, sphere_rows}
use Rattle.spaces.specs.Spaces.{Space, table, sphere, product, suspension, kz1, bundle, loops, paths, kzm1, cyclic_bundle, Plain}
use Rattle.spaces.specs.SmallCells.{Small, small_cmp}
use Rattle.spaces.specs.Orders.{ordered, by_degree}
use Rattle.cells.specs.declared.cells.Cell.{Cell}
use Rattle.term_lang.specs.declared.terms.Term.{Term}
use Rattle.term_lang.specs.declared.terms.Term.TheVariants.{Product as ProductTerm, Suspension as SuspensionTerm}
use Rattle.term_lang.specs.SpaceOf.{space_of}
use Rattle.values.specs.Asks.{Ask, Answer, basis, small_d, f as f_at, g as g_at, h as h_at, cycles, Right, gives, asks, ask, each, across, ◌>>=◌, value_with, asked_with}
use Rattle.values.specs.Values.{value, right_side}
use Rattle.values.specs.Ranks.{space_of as space_asked}
use Rattle.values.specs.Cycles.{terms_of, carried, cycle_vectors}
use Rattle.values.specs.Laws.{smalls, maps_of}
use Rattle.values.specs.BaseLaws.{IsSimple}
use Rattle.values.specs.Sizes.{place_size, answer_size}
use Rattle.values.specs.Outcomes.{Outcome, usual_limits, first_past, outcome, outcome_with, limited, unless_past, is_value, is_over}
use Rattle.values.proofs.Readings.{EachAsk}
use Rattle.values.proofs.BasesRows.{simple-given_back, simple-outcome_back}
use Rattle.homology_laws.specs.Lists.{IsBase, HasKeys}
use Rattle.homology_laws.specs.Kernel.{IsListable}
use Rattle.homology_laws.proofs.Reduced.{base-keys, no-keys}
use Rattle.homology_laws.proofs.TableLists.{table-listable, sphere-listable}
use Rattle.homology_laws.proofs.Kernel.{rising-base, listed, listed-is, listed-count}
use Rattle.script_lang.specs.declared.commands.Command.TheVariants as commands
use Rattle.script_lang.specs.declared.exprs.Expr.{Expr, roll-Expr, map-Expr, ind-Expr}
use Rattle.script_lang.specs.declared.exprs.Expr.TheOpen.{Expr-F}
use Rattle.reply_text.specs.declared.refusals.Refusal.TheVariants as refusals
use Rattle.reply_text.specs.declared.replies.Reply.TheVariants as replies
use Rattle.session_core.specs.Questions.{differentials, dimension_in, degrees_from, dimensions}
use Rattle.session_core.specs.Answer.{Names, State, Told, told, ◌>>◌, told_bundle, told_space, told_degree, told_unless, told_value, told_whole, printed, unbuilt_step, is_unbuilt, space_step, answer}
use Rattle.session_core.specs.Whole.{IsReady, IsWhole, HasRows}
use Rattle.session_core.proofs.Layers.{rolled, rolled_unbuilt, told-first}
use Rattle.session_core.proofs.ReplyParts.{told_from, answer-told, not-told, told-parts}
use Rattle.session_core.proofs.ReplyCycles.{ready-told}
use Rattle.session_core.proofs.ReplySizes.{IsBare, bare-table, bare-sphere, HasLowRows, low-table, low-sphere, basis-few, small_d-few, normal-length, extend-length, basis-within, small_d-within, f-within, g-within, h-within, cycles-within, small_d-place, g-place, f-place, h-place}

-- ---- questions that meet no limit

module _ (p : ℕ) where
  -- the outcome is the value
  abbrev pub IsMet : Ask → Type 0
  IsMet k = outcome usual_limits p k ≡ is_value (value p k)

  -- each question that a right side may ask
  abbrev pub IsFree : {A : Type 0} → Right A → Type 0
  IsFree (gives a) = Unit {0}
  IsFree (asks k then_) = IsMet k × ((v : Answer k) → IsFree (then_ v))

  free-bind : {A B : Type 0} (r : Right A) (next : A → Right B) → IsFree r → ((a : A) → IsFree (next a)) → IsFree (r >>= next)
  free-bind (gives a) next h f = f a
  free-bind (asks k then_) next h f = (h.0, λ v. free-bind (then_ v) next (h.1 v) f)

  free-each : {A B : Type 0} (t : A → Right B) (xs : List A) → ((x : A) → IsFree (t x)) → IsFree (each t xs)
  free-each t [] h = tt
  free-each t (x ∷ xs) h = free-bind (t x) (λ y. each t xs >>= λ ys. gives (y ∷ ys)) (h x) (λ y. free-bind (each t xs) (λ ys. gives (y ∷ ys)) (free-each t xs h) (λ ys. tt))

  free-across : {K J : Type 0} (t : K → Right (Terms J)) (c : Terms K) → ((k : K) → IsFree (t k)) → IsFree (across t c)
  free-across t [] h = tt
  free-across t (x ∷ c) h = free-bind (t x.0) _ (h x.0) (λ y. free-bind (across t c) _ (free-across t c h) (λ rest. tt))

  free-asked : {A : Type 0} (r : Right A) → IsFree r → EachAsk IsMet (asked_with (value p) r)
  free-asked (gives a) h = tt
  free-asked (asks k then_) h = (h.0, free-asked (then_ (value p k)) (h.1 (value p k)))

  read-value : {A : Type 0} (r : Right A) → EachAsk IsMet (asked_with (value p) r) → outcome_with (outcome usual_limits p) r ≡ is_value (value_with (value p) r)
  read-value (gives a) h = refl
  read-value {A} (asks k then_) h =
      ap (λ o. let from : Outcome A = elim o [ is_value v ↦ outcome_with (outcome usual_limits p) (then_ v) | is_over e ↦ is_over e ] in from) h.0
      ∙ read-value (then_ (value p k)) h.1

  kept : (k : Ask) (v : Answer k) → first_past usual_limits k (place_size k) ≡ None → first_past usual_limits k (answer_size k v) ≡ None
      → unless_past usual_limits k (limited usual_limits k (is_value v)) ≡ is_value v
  kept k v a b =
      ap (λ o. unless_past usual_limits k (let out : Outcome (Answer k) = elim o [ Some e ↦ is_over e | None ↦ is_value v ] in out)) b
      ∙ ap (λ o. let out : Outcome (Answer k) = elim o [ Some e ↦ is_over e | None ↦ is_value v ] in out) a

  is-met : (k : Ask) → IsSimple (space_asked k) → IsFree (right_side p k) → first_past usual_limits k (place_size k) ≡ None
      → first_past usual_limits k (answer_size k (value p k)) ≡ None → IsMet k
  is-met k u h a b =
      simple-outcome_back usual_limits p k u
      ∙ ap (λ o. unless_past usual_limits k (limited usual_limits k o)) (read-value (right_side p k) (free-asked (right_side p k) h) ∙ ap (λ v. is_value v) (sym (simple-given_back p k u)))
      ∙ kept k (value p k) a b

  -- the questions about single cells, and about the small cells of a degree
  pub record AreMet (a : Space) : Type 0 where
    pub basis_met : (n : ℕ) → IsMet (basis a n)
    pub small_d_met : (y : Small a) → IsMet (small_d a y)
    pub f_met : (n : ℕ) (x : Plain a) → IsMet (f_at a n x)
    pub g_met : (y : Small a) → IsMet (g_at a y)
    pub h_met : (n : ℕ) (x : Plain a) → IsMet (h_at a n x)

  table-met : (t : Table) → HasLowRows t → AreMet (table t)
  table-met t rows =
      let bare = bare-table t in record {
        basis_met = λ n. is-met (basis (table t) n) tt tt refl (basis-within (table t) bare n (value p (basis (table t) n)) (omega (arith, basis-few p t rows n)));
        small_d_met = λ y. is-met (small_d (table t) y) tt tt (small_d-place (table t) bare y)
            (small_d-within (table t) bare y (value p (small_d (table t) y)) (small_d-few p t rows (small_cmp (table t)) y));
        f_met = λ n x. is-met (f_at (table t) n x) tt tt (f-place (table t) bare n x) (f-within (table t) bare n x (value p (f_at (table t) n x)) (omega arith));
        g_met = λ y. is-met (g_at (table t) y) tt tt (g-place (table t) bare y) (g-within (table t) bare y (value p (g_at (table t) y)) (omega arith));
        h_met = λ n x. is-met (h_at (table t) n x) tt tt (h-place (table t) bare n x) (h-within (table t) bare n x (value p (h_at (table t) n x)) (omega arith));
      }

  sphere-met : (m : ℕ) → HasLowRows (sphere_rows m) → AreMet (sphere m)
  sphere-met m rows =
      let bare = bare-sphere m in record {
        basis_met = λ n. is-met (basis (sphere m) n) tt tt refl (basis-within (sphere m) bare n (value p (basis (sphere m) n)) (omega (arith, basis-few p (sphere_rows m) rows n)));
        small_d_met = λ y. is-met (small_d (sphere m) y) tt tt (small_d-place (sphere m) bare y)
            (small_d-within (sphere m) bare y (value p (small_d (sphere m) y)) (small_d-few p (sphere_rows m) rows (small_cmp (sphere m)) y));
        f_met = λ n x. is-met (f_at (sphere m) n x) tt tt (f-place (sphere m) bare n x) (f-within (sphere m) bare n x (value p (f_at (sphere m) n x)) (omega arith));
        g_met = λ y. is-met (g_at (sphere m) y) tt tt (g-place (sphere m) bare y) (g-within (sphere m) bare y (value p (g_at (sphere m) y)) (omega arith));
        h_met = λ n x. is-met (h_at (sphere m) n x) tt tt (h-place (sphere m) bare n x) (h-within (sphere m) bare n x (value p (h_at (sphere m) n x)) (omega arith));
      }

  -- ---- cycles

  module _ (field : IsField p) (a : Space) (bare : IsBare a) (simple : IsSimple a) (met : AreMet a) (n : ℕ) (is : IsListable p a n)
      (few : length (value p (basis a n)) ≤ 256) (single : (y : Small a) → length (value p (g_at a y)) ≤ 1) where
    abbrev ys : List (Small a)
    ys = value p (basis a n)

    free-carried : (xs : List (Small a)) (v : Vector) → IsFree (carried p a xs v)
    free-carried xs v = free-bind (across (λ y. ask (g_at a y)) (terms_of p a xs v)) _ (free-across (λ y. ask (g_at a y)) (terms_of p a xs v) (λ y. (met.g_met y, λ u. tt))) (λ s. tt)

    free-cycles : IsFree (right_side p (cycles a n))
    free-cycles = (
      met.basis_met n,
      λ xs. free-bind (each (λ y. ask (small_d a y)) xs) _ (free-each (λ y. ask (small_d a y)) xs (λ y. (met.small_d_met y, λ v. tt)))
          (λ ds. (
            met.basis_met (suc n),
            λ zs. free-bind (each (λ z. ask (small_d a z)) zs) _ (free-each (λ z. ask (small_d a z)) zs (λ y. (met.small_d_met y, λ v. tt)))
                (λ es. free-each (carried p a xs) (cycle_vectors p a xs ds es) (free-carried xs)),
          )),
    )

    keys : (m : ℕ) → m ≡ n → (below : (k : ℕ) → suc k ≡ m → IsListable p a k) → (us : List (Small a)) × HasKeys p (smalls p a) us ys
    keys zero e below = ([], no-keys p (smalls p a) is.reduction.degrees.small ys (subst (λ k. IsBase p (smalls p a) k ys) (sym e) (rising-base p a n is.here)))
    keys (suc m) e below = (
      value p (basis a m),
      base-keys p (smalls p a) is.reduction.degrees.small m (value p (basis a m)) ys (rising-base p a m (below m refl).here)
          (subst (λ k. IsBase p (smalls p a) k ys) (sym e) (rising-base p a n is.here)),
    )

    terms-length : (xs : List (Small a)) (v : Vector) → length (terms_of p a xs v) ≤ length xs
    terms-length [] v = omega arith
    terms-length (y ∷ xs) [] = omega arith
    terms-length (y ∷ xs) (zero ∷ v) = omega (arith, terms-length xs v)
    terms-length (y ∷ xs) (suc b ∷ v) = omega (arith, terms-length xs v)

    listed-length : (v : Vector) → length (listed p field a n is v) ≤ 50000
    listed-length v =
        omega (arith, few, normal-length (by_degree (ordered a).cmp) p (extend (maps_of p a).g (terms_of p a ys v)), extend-length (maps_of p a).g single (terms_of p a ys v), terms-length ys v)

    each-listed : (vs : List Vector) → EachOf (λ c. length c ≤ 50000) (map (listed p field a n is) vs)
    each-listed [] = tt
    each-listed (v ∷ vs) = (listed-length v, each-listed vs)

    pub cycles-met : ((k : ℕ) → suc k ≡ n → IsListable p a k) → IsMet (cycles a n)
    cycles-met below =
        let us = keys n refl below in
        let count = listed-count p field a n is us.0 us.1 in
        is-met (cycles a n) simple free-cycles refl
        (cycles-within a bare n (value p (cycles a n)) (omega (arith, count, few)) (subst (EachOf (λ c. length c ≤ 50000)) (listed-is p field a n is) (each-listed _)))

-- ---- tables and spheres

module _ (p : ℕ) (field : IsField p) where
  pub all-met : (a : Space) → IsReady a → HasRows a → AreMet p a
  all-met (table t) r rows = table-met p t (low-table t r.0.0)
  all-met (sphere m) r rows = sphere-met p m (low-sphere m r.0.0.1)
  all-met (product a b) r rows = absurd rows
  all-met (suspension a) r rows = absurd rows
  all-met kz1 r rows = absurd rows
  all-met (bundle t c) r rows = absurd rows
  all-met (loops a) r rows = absurd rows
  all-met (paths a) r rows = absurd rows
  all-met (kzm1 m) r rows = absurd rows
  all-met (cyclic_bundle t m c) r rows = absurd rows

  pub all-cycles : (a : Space) (n : ℕ) → IsReady a → HasRows a → IsMet p (cycles a n)
  all-cycles (table t) n r rows =
      cycles-met p field (table t) (bare-table t) tt (all-met (table t) r tt) n (table-listable p field t n r.0.0) (basis-few p t (low-table t r.0.0) n) (λ y. omega arith)
      (λ k e. table-listable p field t k r.0.0)
  all-cycles (sphere m) n r rows =
      cycles-met p field (sphere m) (bare-sphere m) tt (all-met (sphere m) r tt) n (sphere-listable p field m n r.0) (basis-few p (sphere_rows m) (low-sphere m r.0.0.1) n) (λ y. omega arith)
      (λ k e. sphere-listable p field m k r.0)
  all-cycles (product a b) n r rows = absurd rows
  all-cycles (suspension a) n r rows = absurd rows
  all-cycles kz1 n r rows = absurd rows
  all-cycles (bundle t c) n r rows = absurd rows
  all-cycles (loops a) n r rows = absurd rows
  all-cycles (paths a) n r rows = absurd rows
  all-cycles (kzm1 m) n r rows = absurd rows
  all-cycles (cyclic_bundle t m c) n r rows = absurd rows

  free-differentials : (a : Space) (n : ℕ) → IsReady a → HasRows a → IsFree p (differentials p a n)
  free-differentials a n r rows =
      let met = all-met a r rows in
      (met.basis_met n, λ ys. free-bind p (each (λ y. ask (small_d a y)) ys) _ (free-each p (λ y. ask (small_d a y)) ys (λ y. (met.small_d_met y, λ v. tt))) (λ ds. tt))

  free-dimensions : (a : Space) (low high : ℕ) → IsReady a → HasRows a → IsFree p (dimensions p a low high)
  free-dimensions a low high r rows =
      free-each p (dimension_in p a) (degrees_from p a low (suc high - low))
      (λ n. free-bind p (differentials p a n) _ (free-differentials a n r rows) (λ here. free-bind p (differentials p a (suc n)) _ (free-differentials a (suc n) r rows) (λ above. tt)))

-- ---- replies

-- a space that is told has no construction that is not built
module _ (names : Names) where
  abbrev IsBuiltIfTold : Expr → Type 0
  IsBuiltIfTold e = (t : Term) → told_space names e ≡ told t → is_unbuilt e ≡ false

  module _ (S : Type 0) (f : S → Expr) (part : (s : S) → IsBuiltIfTold (f s)) where
    built-step : (y : Expr-F S) (t : Term) → space_step names (map-Expr Expr (Told Term) (told_space names) (map-Expr S Expr f y)) ≡ told t
        → unbuilt_step (map-Expr Expr Bool is_unbuilt (map-Expr S Expr f y)) ≡ false
    built-step (Expr-F.Name name) t k = refl
    built-step (Expr-F.Sphere n) t k = refl
    built-step (Expr-F.Table rows) t k = refl
    built-step (Expr-F.Product a b) t k =
        let first = told-parts (told_space names (f a)) (λ x. told_space names (f b) >> λ y. told_whole (ProductTerm x y)) t k in
        let second = told-parts (told_space names (f b)) (λ y. told_whole (ProductTerm first.0 y)) t first.2 in
        λ i. part a first.0 first.1 i || part b second.0 second.1 i
    built-step (Expr-F.Suspension a) t k =
        let first = told-parts (told_space names (f a)) (λ x. told_whole (SuspensionTerm x)) t k in part a first.0 first.1
    built-step Expr-F.KZ1 t k = refl
    built-step (Expr-F.Loop a) t k = absurd (not-told refusals.NotBuilt t k)
    built-step (Expr-F.Path a) t k = absurd (not-told refusals.NotBuilt t k)
    built-step (Expr-F.Bundle a pairs) t k =
        let first = told-parts (told_space names (f a)) (λ x. told_bundle pairs (told x)) t k in part a first.0 first.1

    built-level : (y : Expr-F S) → IsBuiltIfTold (roll-Expr (map-Expr S Expr f y))
    built-level y t h = rolled_unbuilt (map-Expr S Expr f y) ∙ built-step y t (sym (rolled names (map-Expr S Expr f y)) ∙ h)

  told-built : (e : Expr) (t : Term) → told_space names e ≡ told t → is_unbuilt e ≡ false
  told-built e = ind-Expr IsBuiltIfTold (λ x y e. subst (λ z. IsBuiltIfTold (roll-Expr z)) e (built-level _ (λ s. s.0) (λ s. s.1) y)) e

low-degree : (n : ℕ) → n ≤ 16 → told_degree n ≡ told n
low-degree n l = let e : nat_lt 16 n ≡ false = grind (arith, nat_tests) in ap (λ b. told_unless b (refusals.Degree n) n) e

value-free : (p : Prime) (t : Term) (n : ℕ) {A : Type 0} (r : Right A) → IsFree (number p) r → told_value p t n r ≡ told (value_with (value (number p)) r)
value-free p t n r h = ap (told_from p) (read-value (number p) r (free-asked (number p) r h))

module _ (s : State) (whole : IsWhole s) (e : Expr) (t : Term) (here : told_space s.names e ≡ told t) (rows : HasRows (space_of t)) where
  abbrev q : ℕ
  q = number s.prime

  pub homology-answered : (n : ℕ) → n ≤ 16 → (zs : List (Formal Cell)) × ((answer s (commands.Homology e n)).0 ≡ replies.Homology t zs)
  homology-answered n l =
      let met = all-cycles q (is_field s.prime) (space_of t) n (ready-told s whole e t here) rows in (
        map (printed s.prime t n) (value q (cycles (space_of t) n)),
        ap (λ r. r.0) (answer-told s (commands.Homology e n) (replies.Homology t (map (printed s.prime t n) (value q (cycles (space_of t) n))), s) (told-built s.names e t here)
            (told-first (told_space s.names e) _ t here ∙ told-first (told_degree n) _ n (low-degree n l)
            ∙ told-first (told_value s.prime t n (ask (cycles (space_of t) n))) _ (value q (cycles (space_of t) n)) (value-free s.prime t n (ask (cycles (space_of t) n)) (met, λ v. tt)))),
      )

  pub betti-answered : (low high : ℕ) → low ≤ 16 → high ≤ 16 → (ds : List ℕ) × ((answer s (commands.Betti e low high)).0 ≡ replies.Betti ds)
  betti-answered low high l k =
      let right = dimensions q (space_of t) low high in (
        value_with (value q) right,
        ap (λ r. r.0) (answer-told s (commands.Betti e low high) (replies.Betti (value_with (value q) right), s) (told-built s.names e t here)
            (told-first (told_space s.names e) _ t here ∙ told-first (told_degree low) _ low (low-degree low l) ∙ told-first (told_degree high) _ high (low-degree high k)
            ∙ told-first (told_value s.prime t 0 right) _ (value_with (value q) right) (value-free s.prime t 0 right (free-dimensions q (is_field s.prime) (space_of t) low high (ready-told s whole e t here) rows)))),
      )
