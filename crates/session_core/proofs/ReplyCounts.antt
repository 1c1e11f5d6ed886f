-- The numbers of a reply are the lengths of homology lists.
use Rattle.std.proofs.Common.{◌≡◌, ℕ, zero, suc, ◌+◌, ◌-◌, ◌≤◌, Bool, List, map, length, refl, sym, ◌∙◌, ap, subst, arith}
use Rattle.std.proofs.Math.ListN.{length-map}
use Rattle.fp_field.specs.Field.{number, IsField}
use Rattle.fp_field.specs.Chains.{Terms}
use Rattle.fp_field.proofs.FieldLaws.{is_field}
use Rattle.echelons.specs.Echelon.{Vector, in_span, reduced_basis}
use Rattle.echelons.proofs.Betti.{complement-length}
use Rattle.spaces.specs.Spaces.{Space, set_of}
use Rattle.spaces.specs.SmallCells.{Small}
use Rattle.spaces.specs.Allowed.{IsAllowed}
use Rattle.term_lang.specs.declared.terms.Term.{Term}
use Rattle.term_lang.specs.SpaceOf.{space_of}
use Rattle.values.specs.Asks.{basis, small_d, cycles, ask, each, gives, value_with, ◌>>=◌}
use Rattle.values.specs.Values.{value}
use Rattle.values.specs.Laws.{smalls, maps_of, plain_chain}
use Rattle.values.specs.Cycles.{coordinates, is_small_cycle}
use Rattle.values.proofs.Readings.{value_with-bind}
use Rattle.normal_forms.specs.Built.{IsBuilt}
use Rattle.homology_laws.specs.Lists.{is_boundary, homology_vectors}
use Rattle.homology_laws.specs.Kernel.{IsListable}
use Rattle.homology_laws.proofs.Sums.{map-map}
use Rattle.homology_laws.proofs.Lengths.{same-length}
use Rattle.homology_laws.proofs.Reduced.{sub, inner, inside}
use Rattle.homology_laws.proofs.Kernel.{value_with-each, rising-base, tests, listed, listed-is, listed-homology}
use Rattle.script_lang.specs.declared.commands.Command.TheVariants as commands
use Rattle.script_lang.specs.declared.exprs.Expr.{Expr}
use Rattle.reply_text.specs.declared.replies.Reply.{Reply}
use Rattle.reply_text.specs.declared.replies.Reply.TheVariants as replies
use Rattle.session_core.specs.Questions.{differentials, dimension, dimension_in, degrees_from, dimensions}
use Rattle.session_core.specs.Answer.{State, told, Replied, told_space, told_degree, told_value, answer}
use Rattle.session_core.specs.Replies.{IsDimension, AreDimensions, IsBettiReply}
use Rattle.session_core.specs.Whole.{IsWhole}
use Rattle.session_core.proofs.Unchanged.{each-answer}
use Rattle.session_core.proofs.ReplyParts.{each-told, degree-told, value-told}
use Rattle.session_core.proofs.ReplyCycles.{built-listable, ready-told}

-- ---- readings

module _ (p : ℕ) (a : Space) where
  -- the small cells of a degree with their small differentials
  abbrev pub known : ℕ → List (Small a) × List (Terms (Small a))
  known n = (value p (basis a n), map (λ y. value p (small_d a y)) (value p (basis a n)))

  pub differentials-read : (n : ℕ) → value_with (value p) (differentials p a n) ≡ known n
  differentials-read n =
      value_with-bind (value p) (each (λ y. ask (small_d a y)) (value p (basis a n))) (λ ds. gives (value p (basis a n), ds))
      ∙ ap (λ ds. (value p (basis a n), ds)) (value_with-each (value p) (λ y. ask (small_d a y)) (value p (basis a n)))

  abbrev dimension_at : ℕ → ℕ
  dimension_at n = dimension p a (known n).0 (known n).1 (known (suc n)).1

  dimension-read : (n : ℕ) → value_with (value p) (dimension_in p a n) ≡ dimension_at n
  dimension-read n =
      value_with-bind (value p) (differentials p a n) (λ here. differentials p a (suc n) >>= λ above. gives (dimension p a here.0 here.1 above.1))
      ∙ value_with-bind (value p) (differentials p a (suc n))
      (λ above. gives (dimension p a (value_with (value p) (differentials p a n)).0 (value_with (value p) (differentials p a n)).1 above.1))
      ∙ λ i. dimension p a (differentials-read n i).0 (differentials-read n i).1 (differentials-read (suc n) i).1

  dimensions-read : (low high : ℕ) → value_with (value p) (dimensions p a low high) ≡ map (λ n. value_with (value p) (dimension_in p a n)) (degrees_from p a low (suc high - low))
  dimensions-read low high = value_with-each (value p) (dimension_in p a) (degrees_from p a low (suc high - low))

  degrees-length : (n k : ℕ) → length (degrees_from p a n k) ≡ k
  degrees-length n zero = refl
  degrees-length n (suc k) = ap suc (degrees-length (suc n) k)

-- ---- a dimension is the length of each homology list

module _ (p : ℕ) (field : IsField p) (a : Space) (n : ℕ) (is : IsListable p a n) where
  abbrev ys : List (Small a)
  ys = value p (basis a n)

  abbrev zs : List (Small a)
  zs = value p (basis a (suc n))

  abbrev test : Vector → Bool
  test = is_small_cycle p a (map (λ y. value p (small_d a y)) ys)

  abbrev part : Vector → Bool
  part = is_boundary p (smalls p a) ys zs

  abbrev rows : List Vector
  rows = homology_vectors p (smalls p a) ys zs test

  rows-length : length rows + length (reduced_basis p (length ys) part) ≡ length (reduced_basis p (length ys) test)
  rows-length =
      let here = rising-base p a n is.here in
      let above = rising-base p a (suc n) is.above in
      let ts = tests p field a n is in
      complement-length p (length ys) field test part
      (sub p field (maps_of p a) n is.reduction ys zs here above test ts)
      (inner p field (maps_of p a) n is.reduction ys zs here above test ts)
      (inside p field (maps_of p a) n is.reduction ys zs here above test ts)

  pub cycles-length : length (value p (cycles a n)) ≡ length rows
  cycles-length = ap length (sym (listed-is p field a n is)) ∙ length-map rows (listed p field a n is)

  -- the boundaries as they are counted
  counted : length (reduced_basis p (length ys) (in_span p (length ys) (map (coordinates p a ys) (known p a (suc n)).1))) ≡ length (reduced_basis p (length ys) part)
  counted = ap (λ vs. length (reduced_basis p (length ys) (in_span p (length ys) vs))) (map-map (coordinates p a ys) (λ z. value p (small_d a z)) zs)

  less : (r b k b' : ℕ) → r + b ≡ k → b' ≡ b → k - b' ≡ r
  less r b k b' h e = omega (arith, h, e)

  dimension-length : dimension_at p a n ≡ length (value p (cycles a n))
  dimension-length = less (length rows) _ _ _ rows-length counted ∙ sym cycles-length

  pub is-dimension : IsDimension p a n (dimension_at p a n)
  is-dimension = record {
    some = (map (plain_chain p a) (value p (cycles a n)), listed-homology p field a n is);
    each = λ xs list.
        same-length (set_of a) p field n xs (map (plain_chain p a) (value p (cycles a n))) list (listed-homology p field a n is)
        ∙ length-map (value p (cycles a n)) (plain_chain p a) ∙ sym dimension-length;
  }

-- ---- the reply

module _ (p : ℕ) (field : IsField p) (a : Space) (is : IsAllowed a) (built : IsBuilt a) where
  are-dimensions : (n k : ℕ) → AreDimensions p a n (map (λ n. value_with (value p) (dimension_in p a n)) (degrees_from p a n k))
  are-dimensions n zero = tt
  are-dimensions n (suc k) =
      (subst (IsDimension p a n) (sym (dimension-read p a n)) (is-dimension p field a n (built-listable p field a n is built)), are-dimensions (suc n) k)

-- a fact of a reply with numbers
abbrev AtBetti : (List ℕ → Type 0) → Reply → Type 0
AtBetti Q replies.Empty = Unit {0}
AtBetti Q (replies.Field p) = Unit {0}
AtBetti Q (replies.Defined name) = Unit {0}
AtBetti Q (replies.Names names) = Unit {0}
AtBetti Q (replies.Betti ds) = Q ds
AtBetti Q (replies.Homology t cycles_listed) = Unit {0}
AtBetti Q (replies.Boundary t d) = Unit {0}
AtBetti Q (replies.Express t v d) = Unit {0}
AtBetti Q (replies.Refused r) = Unit {0}

module _ (s : State) (e : Expr) (low high : ℕ) where
  abbrev q : ℕ
  q = number s.prime

  record GivesBetti (ds : List ℕ) : Type 0 where
    pub term : Term
    pub space : told_space s.names e ≡ told term
    pub low_in : low ≤ 16
    pub high_in : high ≤ 16
    pub values : ds ≡ value_with (value q) (dimensions q (space_of term) low high)

  abbrev P : Replied → Type 0
  P r = AtBetti GivesBetti r.0

  gives-betti : (t : Term) (m n : ℕ) (ds : List ℕ) → told_space s.names e ≡ told t → told_degree low ≡ told m → told_degree high ≡ told n
      → told_value s.prime t 0 (dimensions q (space_of t) m n) ≡ told ds → GivesBetti ds
  gives-betti t m n ds here l h v =
      let c = degree-told low m l in
      let d = degree-told high n h in record {
        term = t;
        space = here;
        low_in = c.1;
        high_in = d.1;
        values = value-told s.prime t 0 (dimensions q (space_of t) m n) ds v
            ∙ λ i. value_with (value q) (dimensions q (space_of t) (c.0 i) (d.0 i));
      }

  betti-parts : (ds : List ℕ) → (answer s (commands.Betti e low high)).0 ≡ replies.Betti ds → GivesBetti ds
  betti-parts ds r =
      subst (AtBetti GivesBetti) r
      (each-answer P s (commands.Betti e low high)
      (each-told P (told_space s.names e) _ (λ t here. each-told P (told_degree low) _ (λ m l. each-told P (told_degree high) _ (λ n h.
      each-told P (told_value s.prime t 0 (dimensions q (space_of t) m n)) _ (λ ds v. gives-betti t m n ds here l h v)))))
      (λ w. tt))

  pub betti-reply : (ds : List ℕ) → IsWhole s → (answer s (commands.Betti e low high)).0 ≡ replies.Betti ds → IsBettiReply s e low high ds
  betti-reply ds whole r =
      let g = betti-parts ds r in
      let ready = ready-told s whole e g.term g.space in
      let values = g.values ∙ dimensions-read q (space_of g.term) low high in record {
        term = g.term;
        space = g.space;
        low_in = g.low_in;
        high_in = g.high_in;
        count = ap length values
            ∙ length-map (degrees_from q (space_of g.term) low (suc high - low)) (λ n. value_with (value q) (dimension_in q (space_of g.term) n))
            ∙ degrees-length q (space_of g.term) low (suc high - low);
        dimensions = subst (AreDimensions q (space_of g.term) low) (sym values) (are-dimensions q (is_field s.prime) (space_of g.term) ready.0 ready.1 low (suc high - low));
      }
