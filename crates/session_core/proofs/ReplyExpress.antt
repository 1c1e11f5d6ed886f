-- The coefficients of an express reply are those of the cycle that was read, and its chain has the rest as its boundary.
use Rattle.std.proofs.Common.{◌≡◌, ℕ, zero, suc, ◌-◌, ◌%◌, ◌<◌, ◌≤◌, false, cond, List, [], ◌∷◌, ◌++◌, map, length, refl, sym, ◌∙◌, ap, subst, arith}
use Rattle.std.proofs.Math.ListN.{length-map}
use Rattle.std.specs.List.{All}
use Rattle.fp_field.specs.declared.prime.Prime.{Prime}
use Rattle.fp_field.specs.Field.{number}
use Rattle.fp_field.specs.Chains.{Terms, coeff, scale, extend, combination, Each}
use Rattle.fp_field.proofs.FieldLaws.{is_field}
use Rattle.fp_field.proofs.Primes.{number_pos}
use Rattle.fp_field.proofs.Mod.{same-plus}
use Rattle.fp_field.proofs.Weights.{weigh-append}
use Rattle.fp_field.proofs.Normals.{weigh-normal}
use Rattle.chain_core.specs.Formal.{Formal}
use Rattle.echelons.specs.Echelon.{Vector}
use Rattle.elim_fp.specs.Rows.{DenseRow}
use Rattle.spaces.specs.Simplicial.{IsSimplicial}
use Rattle.spaces.specs.Spaces.{Space, Plain, set_of}
use Rattle.spaces.specs.Homology.{IsChain, Same, boundary, IsCycle, IsExpressed}
use Rattle.spaces.specs.Allowed.{IsAllowed}
use Rattle.spaces.specs.Orders.{ordered, by_degree}
use Rattle.spaces.proofs.Orders.{ordered-apart}
use Rattle.spaces.proofs.SpaceLaws.{space_set_laws}
use Rattle.spaces.proofs.Boundary.{boundary-same}
use Rattle.cells.specs.declared.cells.Cell.{Cell}
use Rattle.term_lang.specs.declared.terms.Term.{Term}
use Rattle.term_lang.specs.SpaceOf.{space_of}
use Rattle.term_lang.specs.Quote.{quote_cell}
use Rattle.values.specs.Asks.{cycles, ask, Cell as GradedCell}
use Rattle.values.specs.Values.{value}
use Rattle.values.specs.Laws.{cells, cell_d, plain_chain}
use Rattle.oracle_iface.specs.Keys.{quote_chain}
use Rattle.normal_forms.proofs.BuiltForms.{built_cells}
use Rattle.homology_laws.specs.Lists.{IsCycleOf}
use Rattle.homology_laws.specs.Kernel.{IsFilledBy, listed_cycles}
use Rattle.homology_laws.proofs.CellChains.{plain-cycle}
use Rattle.homology_laws.proofs.Kernel.{degree-apart, read-once}
use Rattle.script_lang.specs.declared.commands.Command.TheVariants as commands
use Rattle.script_lang.specs.declared.exprs.Expr.{Expr}
use Rattle.script_lang.specs.declared.simplices.ChainText.{ChainText}
use Rattle.reply_text.specs.declared.refusals.Refusal.TheVariants as refusals
use Rattle.reply_text.specs.declared.replies.Reply.{Reply}
use Rattle.reply_text.specs.declared.replies.Reply.TheVariants as replies
use Rattle.session_core.specs.Questions.{expressed}
use Rattle.session_core.specs.Answer.{State, Told, told, refused, Replied, told_space, told_degree, told_chain, told_cycle, told_value, told_printed, boundary_of, printed, is_unbuilt, answer}
use Rattle.session_core.specs.Replies.{simplices_of, IsExpressReply}
use Rattle.session_core.specs.Whole.{IsWhole}
use Rattle.session_core.proofs.ReplyParts.{each-told, each-built, answer-told, same-told, not-told, degree-told, value-told, first-told}
use Rattle.session_core.proofs.Layers.{told-first}
use Rattle.session_core.proofs.ReplyCycles.{ready-told, built-listable, shown-cells, quoted-simplices, printed-cycles}
use Rattle.session_core.proofs.ReplyCounts.{cycles-length}
use Rattle.session_core.proofs.ReplyReads.{chain-told}
use Rattle.session_core.proofs.ReplyBoundaries.{printed-told}
use Rattle.session_core.proofs.ReplyFillings.{behind-cycles, shown, expressed-read, class-is, rest-is, shown-in, shown-fills}

-- ---- from the cells to the chain that was read

module _ (p : ℕ) (pos : 0 < p) (a : Space) (is : IsAllowed a) (n : ℕ) (z : Terms (GradedCell a)) (chain : Terms (Plain a))
    (cells_in : Each ((cells p a).generator n) z) (within : IsChain (set_of a) p n chain) (same : Same (set_of a) p n (plain_chain p a z) chain) where
  set_laws : IsSimplicial (set_of a)
  set_laws = space_set_laws a is.0

  abbrev at : Plain a → Terms (Plain a) → ℕ
  at k c = coeff (set_of a).same c k

  -- a chain more on both sides
  beside : (c : Terms (Plain a)) → Same (set_of a) p n (chain ++ c) (plain_chain p a z ++ c)
  beside c k g =
      let w : Plain a → ℕ = λ x. cond ((set_of a).same x k) 1 0 in
      ap (λ m. m % p) (weigh-append w chain c) ∙ same-plus p (at k chain) (at k (plain_chain p a z)) (at k c) (at k c) (sym (same k g)) refl
      ∙ ap (λ m. m % p) (sym (weigh-append w (plain_chain p a z) c))

  -- the chain is a cycle
  pub chain-cycle : (m : ℕ) → m ≡ n → IsCycleOf p (cells p a) n z → IsCycle (set_of a) p n chain
  chain-cycle zero e c = subst (λ k. IsChain (set_of a) p k chain → IsCycle (set_of a) p k chain) e (λ w. record { chain = w; closed = tt }) within
  chain-cycle (suc m) e c =
      subst (λ k. IsChain (set_of a) p k chain → IsCycle (set_of a) p k (plain_chain p a z) → Same (set_of a) p k (plain_chain p a z) chain → IsCycle (set_of a) p k chain) e
      (λ w y s. record {
        chain = w;
        closed = λ k g. sym (boundary-same (set_of a) set_laws p pos m (plain_chain p a z) chain y.chain w s k g) ∙ y.closed k g;
      })
      within (plain-cycle (set_of a) set_laws p pos n z c) same

  module _ (cs : List ℕ) (w : Terms (GradedCell a)) (fills : IsFilledBy p a n z cs w) where
    pub chain-rest : Same (set_of a) p n (chain ++ scale (p - 1) (combination cs (listed_cycles p a n))) (boundary (set_of a) p (suc n) (plain_chain p a w))
    chain-rest k g = beside (scale (p - 1) (combination cs (listed_cycles p a n))) k g ∙ fills.rest k g

    pub chain-only : (others : List ℕ) → IsExpressed (set_of a) p n (listed_cycles p a n) chain others → others ≡ cs
    chain-only others e =
        fills.only others (record {
          as_long = e.as_long;
          reduced = e.reduced;
          rest = (e.rest.0, e.rest.1, λ k g. sym (beside (scale (p - 1) (combination others (listed_cycles p a n))) k g) ∙ e.rest.2 k g);
        })

-- ---- a chain whose boundary is 0

module _ (p : Prime) (t : Term) (n : ℕ) where
  abbrev from : Terms (GradedCell (space_of t)) → Terms (GradedCell (space_of t)) → Told (Terms (GradedCell (space_of t)))
  from z b = elim b [ [] ↦ told z | u ∷ c ↦ refused (refusals.NotCycle t (record { value = u.1 }) (quote_cell (space_of t) u.0.0 u.0.1)) ]

  cycle-told : (z y : Terms (GradedCell (space_of t))) → told_cycle p t n z ≡ told y → (y ≡ z) × (boundary_of p t n z ≡ [])
  cycle-told z y e = by (boundary_of p t n z) refl
    where
      by : (b : Terms (GradedCell (space_of t))) → boundary_of p t n z ≡ b → (y ≡ z) × (boundary_of p t n z ≡ [])
      by [] h = (same-told y z (sym e ∙ ap (from z) h), h)
      by (u ∷ c) h = absurd (not-told _ y (sym (ap (from z) h) ∙ e))

  cells-cycle : (z : Terms (GradedCell (space_of t))) → Each ((cells (number p) (space_of t)).generator n) z → boundary_of p t n z ≡ [] → IsCycleOf (number p) (cells (number p) (space_of t)) n z
  cells-cycle z h e = record {
    chain = h;
    closed = λ k.
        sym (weigh-normal (by_degree (ordered (space_of t)).cmp) (number p) (degree-apart (ordered (space_of t)).cmp (ordered-apart (space_of t)))
        (λ x. cond ((cells (number p) (space_of t)).same x k) 1 0) (extend (cell_d (number p) (space_of t)) z))
        ∙ ap (λ c. coeff (cells (number p) (space_of t)).same c k % number p) e;
  }

-- ---- the reply

-- a fact of an express reply
abbrev AtExpress : (Term → DenseRow → Formal Cell → Type 0) → Reply → Type 0
AtExpress Q replies.Empty = Unit {0}
AtExpress Q (replies.Field p) = Unit {0}
AtExpress Q (replies.Defined name) = Unit {0}
AtExpress Q (replies.Names names) = Unit {0}
AtExpress Q (replies.Betti ds) = Unit {0}
AtExpress Q (replies.Homology t zs) = Unit {0}
AtExpress Q (replies.Boundary t d) = Unit {0}
AtExpress Q (replies.Express t v d) = Q t v d
AtExpress Q (replies.Refused r) = Unit {0}

module _ (s : State) (e : Expr) (n : ℕ) (text : ChainText) where
  -- what the parts of the line were, in a degree
  record ExpressParts (m : ℕ) (t : Term) (v : DenseRow) (d : Formal Cell) : Type 0 where
    pub built : is_unbuilt e ≡ false
    pub space : told_space s.names e ≡ told t
    pub degree : told_degree n ≡ told m
    pub chain : Terms (GradedCell (space_of t))
    pub read : told_chain s.prime t m text ≡ told chain
    pub closed : boundary_of s.prime t m chain ≡ []
    pub values : Vector × Terms (GradedCell (space_of t))
    pub told_so : told_value s.prime t m (expressed (number s.prime) (space_of t) m chain) ≡ told values
    pub row : v ≡ record { prime = s.prime; values = values.0 }
    pub seen : d ≡ printed s.prime t m values.1

  abbrev GivesExpress : Term → DenseRow → Formal Cell → Type 0
  GivesExpress t v d = (n ≤ 16) × ExpressParts n t v d

  abbrev P : Replied → Type 0
  P r = AtExpress GivesExpress r.0

  gives-express : (t : Term) (m : ℕ) (y z : Terms (GradedCell (space_of t))) (x : Vector × Terms (GradedCell (space_of t))) (d : Formal Cell)
      → is_unbuilt e ≡ false → told_space s.names e ≡ told t → told_degree n ≡ told m → told_chain s.prime t m text ≡ told y → told_cycle s.prime t m y ≡ told z
      → told_value s.prime t m (expressed (number s.prime) (space_of t) m z) ≡ told x → told_printed s.prime t m x.1 ≡ told d
      → GivesExpress t (record { prime = s.prime; values = x.0 }) d
  gives-express t m y z x d built here degree read closed v seen =
      let c = degree-told n m degree in
      let k = cycle-told s.prime t m y z closed in (
        c.1,
        subst (λ k. ExpressParts k t (record { prime = s.prime; values = x.0 }) d) c.0 (record {
          built = built;
          space = here;
          degree = degree;
          chain = z;
          read = read ∙ ap (λ u. told u) (sym k.0);
          closed = ap (boundary_of s.prime t m) k.0 ∙ k.1;
          values = x;
          told_so = v;
          row = refl;
          seen = printed-told s.prime t m x.1 d seen;
        }),
      )

  express-parts : (t : Term) (v : DenseRow) (d : Formal Cell) → (answer s (commands.Express e n text)).0 ≡ replies.Express t v d → GivesExpress t v d
  express-parts t v d r =
      subst (AtExpress GivesExpress) r
      (each-built P s (commands.Express e n text)
      (λ built. each-told P (told_space s.names e) _ (λ t here. each-told P (told_degree n) _ (λ m degree. each-told P (told_chain s.prime t m text) _ (λ y read.
      each-told P (told_cycle s.prime t m y) _ (λ z closed. each-told P (told_value s.prime t m (expressed (number s.prime) (space_of t) m z)) _ (λ x v.
      each-told P (told_printed s.prime t m x.1) _ (λ d seen. gives-express t m y z x d built here degree read closed v seen)))))))
      (λ w. tt))

  -- the same space and degree have a homology reply
  listed-again : (t : Term) (v : DenseRow) (d : Formal Cell) → ExpressParts n t v d
      → (answer s (commands.Homology e n)).0 ≡ replies.Homology t (map (printed s.prime t n) (value (number s.prime) (cycles (space_of t) n)))
  listed-again t v d g =
      let f = first-told s.prime t n (cycles (space_of t) n) (behind-cycles (number s.prime) (space_of t) n g.chain) g.values g.told_so in
      let same = value-told s.prime t n (ask (cycles (space_of t) n)) f.0 f.1 in
      ap (λ r. r.0) (answer-told s (commands.Homology e n) (replies.Homology t (map (printed s.prime t n) (value (number s.prime) (cycles (space_of t) n))), s) g.built
      (told-first (told_space s.names e) _ t g.space ∙ told-first (told_degree n) _ n g.degree
      ∙ told-first (told_value s.prime t n (ask (cycles (space_of t) n))) _ (value (number s.prime) (cycles (space_of t) n)) (f.1 ∙ ap (λ u. told u) same)))

  pub express-reply : (t : Term) (v : DenseRow) (d : Formal Cell) → IsWhole s → (answer s (commands.Express e n text)).0 ≡ replies.Express t v d
      → IsExpressReply s e n text t v d
  express-reply t v d whole r =
      let q = number s.prime in
      let X = space_of t in
      let g = express-parts t v d r in
      let ready = ready-told s whole e t g.1.space in
      let is = ready.0 in
      let built = ready.1 in
      let z = g.1.chain in
      let c = chain-told s.prime t n is built text z g.1.read in
      let listable = built-listable q (is_field s.prime) X n is built in
      let cycle = cells-cycle s.prime t n z c.cells_in g.1.closed in
      let once = read-once q (is_field s.prime) X n listable z cycle in
      let fills = shown-fills q (is_field s.prime) X n listable z cycle once.0 once.1 once.2 in
      let values = value-told s.prime t n (expressed q X n z) g.1.values g.1.told_so ∙ expressed-read q X n z in
      let row : v.values ≡ once.0 = ap (λ w. w.values) g.1.row ∙ ap (λ x. x.0) values ∙ class-is q (is_field s.prime) X n listable z cycle once.0 once.1 once.2 in
      let seen : d.terms ≡ quote_chain X (shown q X n z once.1) =
      ap (λ f. f.terms) g.1.seen ∙ ap (λ x. quote_chain X x.1) values
      ∙ ap (λ b. quote_chain X (shown q X n z b)) (rest-is q (is_field s.prime) X n listable z cycle once.0 once.1 once.2) in
      let stands : simplices_of X d.terms ≡ plain_chain q X (shown q X n z once.1) =
      ap (simplices_of X) seen
      ∙ quoted-simplices q X (built_cells X is built) (shown q X n z once.1)
      (shown-cells q X (built_cells X is built) (suc n) (omega (arith, g.0)) (shown q X n z once.1) (shown-in q (is_field s.prime) X n listable z cycle once.0 once.1 once.2)) in
      let listed = printed-cycles s.prime t is built n g.0 in record {
        space = g.1.space;
        degree = g.0;
        prime = (ap (λ w. w.prime) g.1.row, ap (λ f. f.prime) g.1.seen);
        cycle = c.chain;
        meant = c.meant;
        is_cycle = chain-cycle q (number_pos s.prime) X is n z c.chain c.cells_in c.within c.same n refl cycle;
        listed = map (printed s.prime t n) (value q (cycles X n));
        are_listed = listed-again t v d g.1;
        coefficients = (
          ap length row ∙ once.2.coefficients_in.wide ∙ sym (cycles-length q (is_field s.prime) X n listable) ∙ sym (length-map (value q (cycles X n)) (printed s.prime t n)),
          subst (λ w. All (λ a. a < q) w) (sym row) once.2.coefficients_in.below,
        );
        chain = subst (λ w. IsChain (set_of X) q (suc n) w) (sym stands) fills.chain;
        rest = subst (λ w. Same (set_of X) q n (c.chain ++ scale (q - 1) (combination v.values (map (λ (z : Formal Cell). simplices_of X z.terms) (map (printed s.prime t n) (value q (cycles X n)))))) (boundary (set_of X) q (suc n) w)) (sym stands)
            (subst (λ l. Same (set_of X) q n (c.chain ++ scale (q - 1) (combination v.values l)) (boundary (set_of X) q (suc n) (plain_chain q X (shown q X n z once.1)))) (sym listed)
            (subst (λ cs. Same (set_of X) q n (c.chain ++ scale (q - 1) (combination cs (listed_cycles q X n))) (boundary (set_of X) q (suc n) (plain_chain q X (shown q X n z once.1)))) (sym row)
            (chain-rest q (number_pos s.prime) X is n z c.chain c.cells_in c.within c.same once.0 (shown q X n z once.1) fills)));
        only = λ others h.
            chain-only q (number_pos s.prime) X is n z c.chain c.cells_in c.within c.same once.0 (shown q X n z once.1) fills others
            (subst (λ l. IsExpressed (set_of X) q n l c.chain others) listed h)
            ∙ sym row;
      }
