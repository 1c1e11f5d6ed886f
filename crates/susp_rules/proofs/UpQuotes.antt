-- What is quoted and put under Up is what is put under Up and quoted.
use Rattle.std.proofs.Common.{◌≡◌, ℕ, zero, suc, ◌+◌, ◌*◌, ◌-◌, ◌≤◌, List, [], ◌∷◌, map, Some, None, refl, sym, ◌∙◌, ap, subst, arith}
use Rattle.fp_field.specs.Chains.{Terms, scale, Each}
use Rattle.fp_field.specs.Normal.{normal}
use Rattle.fp_field.proofs.Weights.{Each-scale}
use Rattle.spaces.specs.Spaces.{Space, suspension, Plain, is_base, set_of}
use Rattle.spaces.specs.SmallCells.{Small, small_degree, small_cmp}
use Rattle.spaces.specs.Orders.{ordered, by_degree}
use Rattle.spaces.specs.Allowed.{IsAllowed}
use Rattle.spaces.proofs.Bases.{space_base}
use Rattle.spaces.proofs.SpaceLaws.{space_set_laws}
use Rattle.cells.specs.declared.cells.SmallCell.TheVariants.{Up as SmallUp}
use Rattle.cells.specs.declared.cells.Cell.TheVariants.{Up}
use Rattle.cells.specs.Order.{cell_cmp}
use Rattle.cells.specs.Small.{small_cmp as code_cmp}
use Rattle.term_lang.specs.Quote.{quote_cell}
use Rattle.values.specs.Asks.{Cell, small_d, h as h_at}
use Rattle.values.specs.Rules.{named, lifted}
use Rattle.values.specs.Ranks.{IsCell, IsValid, loopings}
use Rattle.values.specs.Laws.{maps_of}
use Rattle.values.specs.Values.{value}
use Rattle.oracle_iface.specs.SmallForms.{quote_small}
use Rattle.oracle_iface.specs.KeyLaws.{IsProper, IsCounted, HasCells, IsShown}
use Rattle.oracle_iface.specs.Keys.{quote_chain, quote_small_chain, quote_basis}
use Rattle.oracle_iface.proofs.CarriedChains.{carried-normal}
use Rattle.oracle_iface.proofs.CellOrders.{chain-cells}
use Rattle.oracle_iface.proofs.SmallOrders.{order-small}
use Rattle.oracle_iface.proofs.ProperBases.{listed-proper}
use Rattle.homology_laws.proofs.SuspendedCells.{up-cell}
use Rattle.susp_rules.specs.Bodies.{cells_up, smalls_up}
use Rattle.susp_rules.specs.Suspendable.{IsSuspendable}

module _ (a : Space) where
  pub basis-up : (ys : List (Small a)) → map (λ y. SmallUp y) (quote_basis a ys) ≡ quote_basis (suspension a) (map (λ y. Some y) ys)
  basis-up [] = refl
  basis-up (y ∷ ys) = ap (λ zs. SmallUp (quote_small a y) ∷ zs) (basis-up ys)

  pub small-up : (c : Terms (Small a)) → smalls_up (quote_small_chain a c) ≡ quote_small_chain (suspension a) (named (λ z. Some z) c)
  small-up [] = refl
  small-up (t ∷ c) = ap (λ d. (SmallUp (quote_small a t.0), t.1) ∷ d) (small-up c)

  pub big-up : (c : Terms (Cell a)) → cells_up (quote_chain a c) ≡ quote_chain (suspension a) (lifted (λ n. suc n) (λ x. Some (0, x)) c)
  big-up [] = refl
  big-up (t ∷ c) = λ i. (Up (quote_cell a (back t.0.0 i) t.0.1), t.1) ∷ big-up c i
    where
      back : (n : ℕ) → n ≡ suc n - 1
      back n = omega arith

  small-scale : (s : ℕ) (c : Terms (Small (suspension a))) → scale s (quote_small_chain (suspension a) c) ≡ quote_small_chain (suspension a) (scale s c)
  small-scale s [] = refl
  small-scale s (t ∷ c) = ap (λ d. (quote_small (suspension a) t.0, s * t.1) ∷ d) (small-scale s c)

  big-scale : (s : ℕ) (c : Terms (Cell (suspension a))) → scale s (quote_chain (suspension a) c) ≡ quote_chain (suspension a) (scale s c)
  big-scale s [] = refl
  big-scale s (t ∷ c) = ap (λ d. (quote_cell (suspension a) t.0.0 t.0.1, s * t.1) ∷ d) (big-scale s c)

  Each-named : (P : Small a → Type 0) (Q : Small (suspension a) → Type 0) → ((y : Small a) → P y → Q (Some y)) → (c : Terms (Small a)) → Each P c → Each Q (named (λ z. Some z) c)
  Each-named P Q f [] e = tt
  Each-named P Q f (t ∷ c) e = (f t.0 e.0, Each-named P Q f c e.1)

  Each-lifted : (P : Cell a → Type 0) (Q : Cell (suspension a) → Type 0) → ((x : Cell a) → P x → Q (suc x.0, Some (0, x.1))) → (c : Terms (Cell a)) → Each P c
      → Each Q (lifted (λ n. suc n) (λ x. Some (0, x)) c)
  Each-lifted P Q f [] e = tt
  Each-lifted P Q f (t ∷ c) e = (f t.0 e.0, Each-lifted P Q f c e.1)

  -- the negative of a chain of small cells that the code has
  pub small-minus : (p s : ℕ) (c : Terms (Small a)) → Each (λ y. IsProper a y × (small_degree a y + loopings a ≤ 24)) c
      → normal code_cmp p (scale s (smalls_up (quote_small_chain a c))) ≡ quote_small_chain (suspension a) (normal (small_cmp (suspension a)) p (scale s (named (λ z. Some z) c)))
  small-minus p s c e =
      ap (λ d. normal code_cmp p (scale s d)) (small-up c)
      ∙ ap (normal code_cmp p) (small-scale s (named (λ z. Some z) c))
      ∙ carried-normal (quote_small (suspension a)) (small_cmp (suspension a)) code_cmp p (λ z. IsProper (suspension a) z × IsCounted (suspension a) z)
      (λ x y u v. order-small (suspension a) x y u.0 v.0 u.1 v.1) (scale s (named (λ z. Some z) c))
      (Each-scale (λ z. IsProper (suspension a) z × IsCounted (suspension a) z) s (named (λ z. Some z) c)
      (Each-named (λ y. IsProper a y × (small_degree a y + loopings a ≤ 24)) (λ z. IsProper (suspension a) z × IsCounted (suspension a) z) (λ y u. (u.0, omega (arith, u.1))) c e))

  -- the negative of a chain of cells of positive degree
  pub big-minus : (p s n : ℕ) (c : Terms (Cell a)) → IsAllowed (suspension a) → HasCells (suspension a) → n ≤ 24 → Each (λ x. (x.0 ≡ suc n) × IsCell a (suc n) x.1) c
      → normal cell_cmp p (scale s (cells_up (quote_chain a c))) ≡ quote_chain (suspension a) (normal (by_degree (ordered (suspension a)).cmp) p (scale s (lifted (λ n. suc n) (λ x. Some (0, x)) c)))
  big-minus p s n c is cells l e =
      ap (λ d. normal cell_cmp p (scale s d)) (big-up c)
      ∙ ap (normal cell_cmp p) (big-scale s (lifted (λ n. suc n) (λ x. Some (0, x)) c))
      ∙ chain-cells (suspension a) cells p (scale s (lifted (λ n. suc n) (λ x. Some (0, x)) c))
      (Each-scale (IsShown (suspension a)) s (lifted (λ n. suc n) (λ x. Some (0, x)) c)
      (Each-lifted (λ x. (x.0 ≡ suc n) × IsCell a (suc n) x.1) (IsShown (suspension a)) shown c e))
    where
      shown : (x : Cell a) → (x.0 ≡ suc n) × IsCell a (suc n) x.1 → IsShown (suspension a) (suc x.0, Some (0, x.1))
      shown x u = (
        omega (arith, u.0, l),
        subst (λ m. IsCell (suspension a) (suc m) (Some (0, x.1))) (sym u.0)
            (up-cell (set_of a) (is_base a) (space_set_laws a is.0.0) (space_base a is.0.0) (space_set_laws (suspension a) is.0) n x.1 u.1),
      )
