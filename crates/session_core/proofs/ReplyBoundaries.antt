-- The chain of a boundary reply stands for d of the chain that was read.
use Rattle.std.proofs.Common.{◌≡◌, ℕ, zero, suc, ◌≤◌, Option, Some, None, sym, ◌∙◌, ap, subst, arith}
use Rattle.fp_field.specs.declared.prime.Prime.{Prime}
use Rattle.fp_field.specs.Field.{number}
use Rattle.fp_field.specs.Chains.{Terms, extend, Each}
use Rattle.fp_field.specs.Normal.{normal}
use Rattle.fp_field.proofs.Primes.{number_pos}
use Rattle.fp_field.proofs.FlowLaws.{Each-normal}
use Rattle.chain_core.specs.Formal.{Formal}
use Rattle.spaces.specs.Simplicial.{IsSimplicial}
use Rattle.spaces.specs.Spaces.{Space, Plain, set_of}
use Rattle.spaces.specs.Homology.{IsChain, Same}
use Rattle.spaces.specs.Allowed.{IsAllowed}
use Rattle.spaces.specs.Orders.{ordered, by_degree}
use Rattle.spaces.proofs.SpaceLaws.{space_set_laws}
use Rattle.spaces.proofs.Boundary.{boundary-same}
use Rattle.cells.specs.declared.cells.Cell.{Cell}
use Rattle.term_lang.specs.declared.terms.Term.{Term}
use Rattle.term_lang.specs.SpaceOf.{space_of}
use Rattle.values.specs.Asks.{Cell as GradedCell}
use Rattle.values.specs.Laws.{cells, cell_d, plain_chain}
use Rattle.oracle_iface.specs.declared.bodies.Kind.{Kind}
use Rattle.oracle_iface.specs.Keys.{quote_chain}
use Rattle.oracle_iface.specs.CodeSizes.{terms_size}
use Rattle.oracle_iface.specs.Limits.{kind_past}
use Rattle.normal_forms.specs.Built.{IsBuilt}
use Rattle.normal_forms.proofs.BuiltForms.{built_cells}
use Rattle.homology_laws.proofs.CellChains.{plain-chain, plain-d, d-cells, no-boundary}
use Rattle.script_lang.specs.declared.commands.Command.TheVariants as commands
use Rattle.script_lang.specs.declared.exprs.Expr.{Expr}
use Rattle.script_lang.specs.declared.simplices.ChainText.{ChainText}
use Rattle.reply_text.specs.declared.refusals.Refusal.TheVariants as refusals
use Rattle.reply_text.specs.declared.replies.Reply.{Reply}
use Rattle.reply_text.specs.declared.replies.Reply.TheVariants as replies
use Rattle.session_core.specs.Answer.{State, Told, told, refused, Replied, told_space, told_degree, told_chain, boundary_of, printed, told_printed, answer}
use Rattle.session_core.specs.Replies.{simplices_of, IsBoundaryOf, IsBoundaryReply}
use Rattle.session_core.specs.Whole.{IsWhole}
use Rattle.session_core.proofs.Unchanged.{each-answer}
use Rattle.session_core.proofs.ReplyParts.{each-told, same-told, not-told, degree-told}
use Rattle.session_core.proofs.ReplyCycles.{ready-told, shown-cells, quoted-simplices}
use Rattle.session_core.proofs.ReplyReads.{normal-plain, chain-told}

module _ (p : Prime) (t : Term) (n : ℕ) where
  abbrev from : Terms (GradedCell (space_of t)) → Option (Kind × ℕ) → Told (Formal Cell)
  from c o = elim o [ Some past ↦ refused (refusals.Over None past.0 past.1) | None ↦ told (printed p t n c) ]

  -- a chain that is printed
  pub printed-told : (c : Terms (GradedCell (space_of t))) (d : Formal Cell) → told_printed p t n c ≡ told d → d ≡ printed p t n c
  printed-told c d e = by (kind_past (terms_size (quote_chain (space_of t) c))) e
    where
      by : (o : Option (Kind × ℕ)) → from c o ≡ told d → d ≡ printed p t n c
      by (Some past) h = absurd (not-told _ d h)
      by None h = sym (same-told _ d h)

module _ (p : Prime) (t : Term) (is : IsAllowed (space_of t)) (built : IsBuilt (space_of t)) where
  abbrev X : Space
  X = space_of t

  abbrev q : ℕ
  q = number p

  set_laws : IsSimplicial (set_of X)
  set_laws = space_set_laws X is.0

  boundary-cells : (m : ℕ) (z : Terms (GradedCell X)) → Each ((cells q X).generator (suc m)) z → Each ((cells q X).generator m) (boundary_of p t (suc m) z)
  boundary-cells m z h =
      Each-normal ((cells q X).generator m) (by_degree (ordered X).cmp) q (extend (cell_d q X) z) (d-cells (set_of X) set_laws q (number_pos p) m z h)

  is-boundary : (n : ℕ) (z : Terms (GradedCell X)) (chain : Terms (Plain X)) → n ≤ 16 → Each ((cells q X).generator n) z → IsChain (set_of X) q n chain
      → Same (set_of X) q n (plain_chain q X z) chain → IsBoundaryOf q X n (simplices_of X (quote_chain X (boundary_of p t n z))) chain
  is-boundary zero z chain low h within same =
      ap (λ d. simplices_of X (quote_chain X (normal (by_degree (ordered X).cmp) q d))) (no-boundary (set_of X) set_laws q (number_pos p) z h)
  is-boundary (suc m) z chain low h within same =
      let b = boundary_of p t (suc m) z in
      let cells_in = boundary-cells m z h in
      let stands : simplices_of X (quote_chain X b) ≡ plain_chain q X b =
      quoted-simplices q X (built_cells X is built) b (shown-cells q X (built_cells X is built) m (omega arith) b cells_in) in
      subst (λ d. IsBoundaryOf q X (suc m) d chain) (sym stands) (
        plain-chain (set_of X) set_laws q (number_pos p) m b cells_in,
        λ k g. normal-plain q X m (extend (cell_d q X) z) k g
            ∙ plain-d (set_of X) set_laws q (number_pos p) m z h k g
            ∙ boundary-same (set_of X) set_laws q (number_pos p) m (plain_chain q X z) chain (plain-chain (set_of X) set_laws q (number_pos p) (suc m) z h) within same k g,
      )

-- a fact of a boundary reply
abbrev AtBoundary : (Term → Formal Cell → Type 0) → Reply → Type 0
AtBoundary Q replies.Empty = Unit {0}
AtBoundary Q (replies.Field p) = Unit {0}
AtBoundary Q (replies.Defined name) = Unit {0}
AtBoundary Q (replies.Names names) = Unit {0}
AtBoundary Q (replies.Betti ds) = Unit {0}
AtBoundary Q (replies.Homology t zs) = Unit {0}
AtBoundary Q (replies.Boundary t d) = Q t d
AtBoundary Q (replies.Express t v d) = Unit {0}
AtBoundary Q (replies.Refused r) = Unit {0}

module _ (s : State) (e : Expr) (n : ℕ) (text : ChainText) where
  -- what the parts of the line were, in a degree
  record BoundaryParts (m : ℕ) (t : Term) (d : Formal Cell) : Type 0 where
    pub space : told_space s.names e ≡ told t
    pub chain : Terms (GradedCell (space_of t))
    pub read : told_chain s.prime t m text ≡ told chain
    pub shown : d ≡ printed s.prime t m (boundary_of s.prime t m chain)

  abbrev GivesBoundary : Term → Formal Cell → Type 0
  GivesBoundary t d = (n ≤ 16) × BoundaryParts n t d

  abbrev P : Replied → Type 0
  P r = AtBoundary GivesBoundary r.0

  gives-boundary : (t : Term) (m : ℕ) (z : Terms (GradedCell (space_of t))) (d : Formal Cell) → told_space s.names e ≡ told t → told_degree n ≡ told m
      → told_chain s.prime t m text ≡ told z → told_printed s.prime t m (boundary_of s.prime t m z) ≡ told d → GivesBoundary t d
  gives-boundary t m z d here degree read shown =
      let c = degree-told n m degree in
      (c.1, subst (λ k. BoundaryParts k t d) c.0 (record { space = here; chain = z; read = read; shown = printed-told s.prime t m (boundary_of s.prime t m z) d shown }))

  boundary-parts : (t : Term) (d : Formal Cell) → (answer s (commands.Boundary e n text)).0 ≡ replies.Boundary t d → GivesBoundary t d
  boundary-parts t d r =
      subst (AtBoundary GivesBoundary) r
      (each-answer P s (commands.Boundary e n text)
      (each-told P (told_space s.names e) _ (λ t here. each-told P (told_degree n) _ (λ m degree. each-told P (told_chain s.prime t m text) _ (λ z read.
      each-told P (told_printed s.prime t m (boundary_of s.prime t m z)) _ (λ d shown. gives-boundary t m z d here degree read shown)))))
      (λ w. tt))

  pub boundary-reply : (t : Term) (d : Formal Cell) → IsWhole s → (answer s (commands.Boundary e n text)).0 ≡ replies.Boundary t d → IsBoundaryReply s e n text t d
  boundary-reply t d whole r =
      let g = boundary-parts t d r in
      let ready = ready-told s whole e t g.1.space in
      let c = chain-told s.prime t n ready.0 ready.1 text g.1.chain g.1.read in record {
        space = g.1.space;
        degree = g.0;
        prime = ap (λ f. f.prime) g.1.shown;
        chain = c.chain;
        meant = c.meant;
        within = c.within;
        boundary_is = subst (λ f. IsBoundaryOf (number s.prime) (space_of t) n (simplices_of (space_of t) f.terms) c.chain) (sym g.1.shown)
            (is-boundary s.prime t ready.0 ready.1 n g.1.chain c.chain g.0 c.cells_in c.within c.same);
      }
