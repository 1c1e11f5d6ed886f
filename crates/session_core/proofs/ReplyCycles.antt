-- The cycles of a reply stand for a homology list.
use Rattle.std.proofs.Common.{◌≡◌, ℕ, suc, ◌≤◌, false, List, [], ◌∷◌, map, refl, sym, ◌∙◌, ap, subst, arith}
use Rattle.std.proofs.lemmas.List.Elements.{All-map, recursion_from_All}
use Rattle.std.specs.List.{All, AllByRecursion as EachOf}
use Rattle.fp_field.specs.declared.prime.Prime.{Prime}
use Rattle.fp_field.specs.Field.{number, IsField}
use Rattle.fp_field.specs.Chains.{Terms, Each}
use Rattle.fp_field.proofs.FieldLaws.{is_field}
use Rattle.spaces.specs.Spaces.{Space, set_of}
use Rattle.spaces.specs.Homology.{HomologyList}
use Rattle.spaces.specs.Simplicial.{is_degenerate}
use Rattle.spaces.specs.Allowed.{IsAllowed}
use Rattle.term_lang.specs.declared.terms.Term.{Term}
use Rattle.term_lang.specs.SpaceOf.{space_of}
use Rattle.values.specs.Asks.{cycles, ask, Cell as GradedCell}
use Rattle.values.specs.Values.{value}
use Rattle.values.specs.Laws.{cells, plain_chain}
use Rattle.values.proofs.BasesCells.{basis-degree, basis-rising}
use Rattle.oracle_iface.specs.Keys.{quote_chain}
use Rattle.oracle_iface.specs.KeyLaws.{HasCells, IsShown}
use Rattle.normal_forms.specs.Built.{IsBuilt}
use Rattle.space_faces.specs.Boundaries.{graded}
use Rattle.normal_forms.proofs.BuiltForms.{built_cells}
use Rattle.space_faces.proofs.ShownChains.{chain_back}
use Rattle.homology_laws.specs.Lists.{IsCycleOf}
use Rattle.homology_laws.specs.Kernel.{IsListable}
use Rattle.homology_laws.proofs.Sums.{Each-weaker, map-map}
use Rattle.homology_laws.proofs.Kernel.{listed-homology, listed-cells}
use Rattle.script_lang.specs.declared.commands.Command.TheVariants as commands
use Rattle.script_lang.specs.declared.exprs.Expr.{Expr}
use Rattle.reply_text.specs.declared.replies.Reply.{Reply}
use Rattle.reply_text.specs.declared.replies.Reply.TheVariants as replies
use Rattle.chain_core.specs.Formal.{Formal}
use Rattle.cells.specs.declared.cells.Cell.{Cell}
use Rattle.session_core.specs.Answer.{State, told, Replied, told_space, told_degree, told_value, printed, answer}
use Rattle.session_core.specs.Replies.{simplices_of, IsHomologyReply}
use Rattle.session_core.specs.Whole.{IsReady, IsWhole}
use Rattle.session_core.proofs.BuiltSpaces.{built_reduction, built_given}
use Rattle.session_core.proofs.ReadyNames.{Ready, ready-space}
use Rattle.session_core.proofs.Unchanged.{each-answer}
use Rattle.session_core.proofs.ReplyParts.{each-told, degree-told, value-told}

-- ---- built spaces

-- the space that a line tells, in a state that is whole
pub ready-told : (s : State) → IsWhole s → (e : Expr) (t : Term) → told_space s.names e ≡ told t → IsReady (space_of t)
ready-told s whole e t here = subst Ready here (ready-space s.names whole e)

pub built-listable : (p : ℕ) → IsField p → (a : Space) (n : ℕ) → IsAllowed a → IsBuilt a → IsListable p a n
built-listable p field a n is built = record {
  allowed = is;
  reduction = built_reduction p field a is built (suc n);
  here = record { degrees = basis-degree p a n; rises = basis-rising p a n };
  above = record { degrees = basis-degree p a (suc n); rises = basis-rising p a (suc n) };
  given = built_given p a n built;
}

-- ---- chains of cells, as the code has them

module _ (p : ℕ) (a : Space) (has : HasCells a) where
  -- cells of a low degree are shown
  pub shown-cells : (n : ℕ) → n ≤ 32 → (c : Terms (GradedCell a)) → Each ((cells p a).generator n) c → Each (IsShown a) c
  shown-cells n low c h =
      Each-weaker ((cells p a).generator n) (IsShown a)
      (λ x g. (subst (λ k. k ≤ 32) (sym g.0) low, subst (λ k. (set_of a).In k x.1 × (is_degenerate (set_of a) k x.1 ≡ false)) (sym g.0) g.1)) c h

  -- and stand for their simplices
  pub quoted-simplices : (c : Terms (GradedCell a)) → Each (IsShown a) c → simplices_of a (quote_chain a c) ≡ plain_chain p a c
  quoted-simplices c h = sym (map-map (λ t. (t.0.1, t.1)) (λ t. (graded a t.0, t.1)) (quote_chain a c)) ∙ ap (plain_chain p a) (chain_back a has c h)

-- ---- homology

module _ (p : Prime) (t : Term) (is : IsAllowed (space_of t)) (built : IsBuilt (space_of t)) (n : ℕ) (low : n ≤ 16) where
  abbrev X : Space
  X = space_of t

  abbrev q : ℕ
  q = number p

  printed-list : (zs : List (Terms (GradedCell X))) → EachOf (IsCycleOf q (cells q X) n) zs
      → map (λ (z : Formal Cell). simplices_of X z.terms) (map (printed p t n) zs) ≡ map (plain_chain q X) zs
  printed-list [] h = refl
  printed-list (z ∷ zs) h =
      λ i. quoted-simplices q X (built_cells X is built) z (shown-cells q X (built_cells X is built) n (omega arith) z h.0.chain) i ∷ printed-list zs h.1 i

  -- the listed cycles as they are printed
  pub printed-cycles : map (λ (z : Formal Cell). simplices_of X z.terms) (map (printed p t n) (value q (cycles X n))) ≡ map (plain_chain q X) (value q (cycles X n))
  printed-cycles =
      printed-list (value q (cycles X n))
      (recursion_from_All (IsCycleOf q (cells q X) n) (value q (cycles X n)) (listed-cells q (is_field p) X n (built-listable q (is_field p) X n is built)).cycles)

  pub listed-printed : HomologyList (set_of X) q n (map (λ (z : Formal Cell). simplices_of X z.terms) (map (printed p t n) (value q (cycles X n))))
  listed-printed =
      subst (λ zs. HomologyList (set_of X) q n zs) (sym printed-cycles) (listed-homology q (is_field p) X n (built-listable q (is_field p) X n is built))

-- a fact of a homology reply
abbrev pub AtHomology : (Term → List (Formal Cell) → Type 0) → Reply → Type 0
AtHomology Q replies.Empty = Unit {0}
AtHomology Q (replies.Field p) = Unit {0}
AtHomology Q (replies.Defined name) = Unit {0}
AtHomology Q (replies.Names names) = Unit {0}
AtHomology Q (replies.Betti ds) = Unit {0}
AtHomology Q (replies.Homology t zs) = Q t zs
AtHomology Q (replies.Boundary t d) = Unit {0}
AtHomology Q (replies.Express t v d) = Unit {0}
AtHomology Q (replies.Refused r) = Unit {0}

module _ (s : State) (e : Expr) (n : ℕ) where
  -- what the parts of the line were, and the reply
  pub record GivesHomology (t : Term) (zs : List (Formal Cell)) : Type 0 where
    pub space : told_space s.names e ≡ told t
    pub degree : n ≤ 16
    pub shown : zs ≡ map (printed s.prime t n) (value (number s.prime) (cycles (space_of t) n))

  abbrev P : Replied → Type 0
  P r = AtHomology GivesHomology r.0

  gives : (t : Term) (m : ℕ) (zs : List (Terms (GradedCell (space_of t)))) → told_space s.names e ≡ told t → told_degree n ≡ told m
      → told_value s.prime t m (ask (cycles (space_of t) m)) ≡ told zs → GivesHomology t (map (printed s.prime t m) zs)
  gives t m zs here degree v =
      let d = degree-told n m degree in record {
        space = here;
        degree = d.1;
        shown = (λ i. map (printed s.prime t m) (value-told s.prime t m (ask (cycles (space_of t) m)) zs v i))
            ∙ ap (λ k. map (printed s.prime t k) (value (number s.prime) (cycles (space_of t) k))) d.0;
      }

  pub homology-parts : (t : Term) (zs : List (Formal Cell)) → (answer s (commands.Homology e n)).0 ≡ replies.Homology t zs → GivesHomology t zs
  homology-parts t zs r =
      subst (AtHomology GivesHomology) r
      (each-answer P s (commands.Homology e n)
      (each-told P (told_space s.names e) _ (λ t here. each-told P (told_degree n) _ (λ m degree.
      each-told P (told_value s.prime t m (ask (cycles (space_of t) m))) _ (λ zs v. gives t m zs here degree v))))
      (λ w. tt))

  pub homology-reply : (t : Term) (zs : List (Formal Cell)) → IsWhole s → (answer s (commands.Homology e n)).0 ≡ replies.Homology t zs → IsHomologyReply s e n t zs
  homology-reply t zs whole r =
      let g = homology-parts t zs r in
      let ready = ready-told s whole e t g.space in record {
        space = g.space;
        degree = g.degree;
        primes = subst (λ zs. All (λ (z : Formal Cell). z.prime ≡ s.prime) zs) (sym g.shown)
            (All-map (λ (z : Formal Cell). z.prime ≡ s.prime) (printed s.prime t n) (value (number s.prime) (cycles (space_of t) n)) (λ k d l. refl));
        list = subst (λ zs. HomologyList (set_of (space_of t)) (number s.prime) n (map (λ (z : Formal Cell). simplices_of (space_of t) z.terms) zs)) (sym g.shown)
            (listed-printed s.prime t ready.0 ready.1 n g.degree);
      }
