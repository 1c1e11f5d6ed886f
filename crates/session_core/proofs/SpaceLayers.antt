-- Spaces as they are told, for each way to write one.
use Rattle.std.proofs.Common.{◌≡◌, ℕ, true, false, ◌||◌, List, sym, ◌∙◌, ap}
use Rattle.term_lang.specs.declared.terms.Term.TheVariants.{KZ1 as KZ1Term}
use Rattle.term_lang.specs.declared.texts.RowText.{RowText}
use Rattle.script_lang.specs.declared.exprs.PairText.{PairText}
use Rattle.script_lang.specs.declared.exprs.Expr.{Expr}
use Rattle.script_lang.specs.declared.exprs.Expr.TheVariants.{Name, Sphere, Product, Suspension, KZ1, Loop, Path, Bundle, Table, rolls-Name, rolls-Sphere, rolls-Product, rolls-Suspension, rolls-KZ1, rolls-Loop, rolls-Path, rolls-Bundle, rolls-Table}
use Rattle.script_lang.specs.declared.exprs.Expr.TheOpen.{Expr-F}
use Rattle.reply_text.specs.declared.refusals.Refusal.TheVariants.{NotBuilt}
use Rattle.session_core.specs.Answer.{Names, told, refused, is_unbuilt, named_space, told_sphere, told_table, told_product, told_suspension, told_bundle, told_space}
use Rattle.session_core.proofs.Layers.{rolled, rolled_unbuilt}

module _ (names : Names) where
  pub space_name : (name : List ℕ) → told_space names (Name name) ≡ named_space names name
  space_name name = ap (told_space names) (sym (rolls-Name name)) ∙ rolled names (Expr-F.Name name)

  pub space_sphere : (n : ℕ) → told_space names (Sphere n) ≡ told_sphere n
  space_sphere n = ap (told_space names) (sym (rolls-Sphere n)) ∙ rolled names (Expr-F.Sphere n)

  pub space_table : (rows : List RowText) → told_space names (Table rows) ≡ told_table rows
  space_table rows = ap (told_space names) (sym (rolls-Table rows)) ∙ rolled names (Expr-F.Table rows)

  pub space_product : (a b : Expr) → told_space names (Product a b) ≡ told_product (told_space names a) (told_space names b)
  space_product a b = ap (told_space names) (sym (rolls-Product a b)) ∙ rolled names (Expr-F.Product a b)

  pub space_suspension : (a : Expr) → told_space names (Suspension a) ≡ told_suspension (told_space names a)
  space_suspension a = ap (told_space names) (sym (rolls-Suspension a)) ∙ rolled names (Expr-F.Suspension a)

  pub space_integers : told_space names KZ1 ≡ told KZ1Term
  space_integers = ap (told_space names) (sym rolls-KZ1) ∙ rolled names Expr-F.KZ1

  pub space_loop : (a : Expr) → told_space names (Loop a) ≡ refused NotBuilt
  space_loop a = ap (told_space names) (sym (rolls-Loop a)) ∙ rolled names (Expr-F.Loop a)

  pub space_path : (a : Expr) → told_space names (Path a) ≡ refused NotBuilt
  space_path a = ap (told_space names) (sym (rolls-Path a)) ∙ rolled names (Expr-F.Path a)

  pub space_bundle : (a : Expr) (pairs : List PairText) → told_space names (Bundle a pairs) ≡ told_bundle pairs (told_space names a)
  space_bundle a pairs = ap (told_space names) (sym (rolls-Bundle a pairs)) ∙ rolled names (Expr-F.Bundle a pairs)

pub unbuilt_name : (name : List ℕ) → is_unbuilt (Name name) ≡ false
unbuilt_name name = ap is_unbuilt (sym (rolls-Name name)) ∙ rolled_unbuilt (Expr-F.Name name)

pub unbuilt_sphere : (n : ℕ) → is_unbuilt (Sphere n) ≡ false
unbuilt_sphere n = ap is_unbuilt (sym (rolls-Sphere n)) ∙ rolled_unbuilt (Expr-F.Sphere n)

pub unbuilt_table : (rows : List RowText) → is_unbuilt (Table rows) ≡ false
unbuilt_table rows = ap is_unbuilt (sym (rolls-Table rows)) ∙ rolled_unbuilt (Expr-F.Table rows)

pub unbuilt_product : (a b : Expr) → is_unbuilt (Product a b) ≡ (is_unbuilt a || is_unbuilt b)
unbuilt_product a b = ap is_unbuilt (sym (rolls-Product a b)) ∙ rolled_unbuilt (Expr-F.Product a b)

pub unbuilt_suspension : (a : Expr) → is_unbuilt (Suspension a) ≡ is_unbuilt a
unbuilt_suspension a = ap is_unbuilt (sym (rolls-Suspension a)) ∙ rolled_unbuilt (Expr-F.Suspension a)

pub unbuilt_integers : is_unbuilt KZ1 ≡ false
unbuilt_integers = ap is_unbuilt (sym rolls-KZ1) ∙ rolled_unbuilt Expr-F.KZ1

pub unbuilt_loop : (a : Expr) → is_unbuilt (Loop a) ≡ true
unbuilt_loop a = ap is_unbuilt (sym (rolls-Loop a)) ∙ rolled_unbuilt (Expr-F.Loop a)

pub unbuilt_path : (a : Expr) → is_unbuilt (Path a) ≡ true
unbuilt_path a = ap is_unbuilt (sym (rolls-Path a)) ∙ rolled_unbuilt (Expr-F.Path a)

pub unbuilt_bundle : (a : Expr) (pairs : List PairText) → is_unbuilt (Bundle a pairs) ≡ is_unbuilt a
unbuilt_bundle a pairs = ap is_unbuilt (sym (rolls-Bundle a pairs)) ∙ rolled_unbuilt (Expr-F.Bundle a pairs)
