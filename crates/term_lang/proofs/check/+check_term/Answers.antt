use Rattle.std.proofs.Common.{refl}
use Rattle.std.specs.Prelude.{Ok}
use Rattle.std.proofs.lemmas.Result.{err_from_is_err_and}
use Rattle.term_lang.proofs.TermAnswers.{on_table, on_sphere, on_kz1, on_bundle, on_left, on_right, product_depth, on_product, on_suspended, on_looped, on_based, suspension_depth, loop_depth, path_depth, on_suspension, on_loop, on_path}
use Rattle.term_lang.proofs.check.+check_term.Goals as goal

pub returns-in_err-check_term-in-Product : goal.returns-in_err-check_term-in-Product
returns-in_err-check_term-in-Product t c =
    let p = err_from_is_err_and c.from_residual.result c.from_residual.ensures.1 in
    let s = on_left c.args.t.now _ _ c.get.result.now c.in-Product.is c.get.ensures c.check_term.result (record { allowed = c.check_term.ensures.allowed; fault = c.check_term.ensures.fault }) c.from_residual.result c.in_err-check_term-in-Product.field-0.0 p.0 c.in_err-check_term-in-Product.was p.1 p.2 in
    record { allowed = s.allowed; fault = s.fault }

pub returns-in_err-check_term-in-Product-2 : goal.returns-in_err-check_term-in-Product-2
returns-in_err-check_term-in-Product-2 t c =
    let p = err_from_is_err_and c.from_residual-in_err-check_term-in-Product-2.result c.from_residual-in_err-check_term-in-Product-2.ensures.1 in
    let s = on_right c.args.t.now _ _ c.get.result.now c.in-Product.is c.get.ensures c.check_term.result (record { allowed = c.check_term.ensures.allowed; fault = c.check_term.ensures.fault }) c.get-in-Product.result.now c.get-in-Product.ensures c.in_ok-check_term-in-Product.field-0 c.in_ok-check_term-in-Product.was c.check_term-in-Product.result (record { allowed = c.check_term-in-Product.ensures.allowed; fault = c.check_term-in-Product.ensures.fault }) c.from_residual-in_err-check_term-in-Product-2.result c.in_err-check_term-in-Product-2.field-0.0 p.0 c.in_err-check_term-in-Product-2.was p.1 p.2 in
    record { allowed = s.allowed; fault = s.fault }

pub check_depth-requires : goal.check_depth-requires
check_depth-requires t c =
    product_depth c.args.t.now _ _ c.get.result.now c.in-Product.is c.get.ensures c.check_term.result (record { allowed = c.check_term.ensures.allowed; fault = c.check_term.ensures.fault }) c.get-in-Product.result.now c.get-in-Product.ensures c.in_ok-check_term-in-Product.field-0 c.in_ok-check_term-in-Product.was c.check_term-in-Product.result (record { allowed = c.check_term-in-Product.ensures.allowed; fault = c.check_term-in-Product.ensures.fault }) c.in_ok-check_term-in-Product-2.field-0 c.in_ok-check_term-in-Product-2.was

pub returns-in_ok-check_term-in-Product-2 : goal.returns-in_ok-check_term-in-Product-2
returns-in_ok-check_term-in-Product-2 t c =
    let s = on_product c.args.t.now _ _ c.get.result.now c.in-Product.is c.get.ensures c.check_term.result (record { allowed = c.check_term.ensures.allowed; fault = c.check_term.ensures.fault }) c.get-in-Product.result.now c.get-in-Product.ensures c.in_ok-check_term-in-Product.field-0 c.in_ok-check_term-in-Product.was c.check_term-in-Product.result (record { allowed = c.check_term-in-Product.ensures.allowed; fault = c.check_term-in-Product.ensures.fault }) c.in_ok-check_term-in-Product-2.field-0 c.in_ok-check_term-in-Product-2.was c.check_depth.result c.check_depth.ensures in
    record { allowed = s.allowed; fault = s.fault }

pub returns-in_err-check_term-in-Suspension : goal.returns-in_err-check_term-in-Suspension
returns-in_err-check_term-in-Suspension t c =
    let p = err_from_is_err_and c.from_residual-in_err-check_term-in-Suspension.result c.from_residual-in_err-check_term-in-Suspension.ensures.1 in
    let s = on_suspended c.args.t.now _ c.get-part.result.now c.get-part.ensures c.check_term-in-Suspension.result (record { allowed = c.check_term-in-Suspension.ensures.allowed; fault = c.check_term-in-Suspension.ensures.fault }) c.in-Suspension.is c.from_residual-in_err-check_term-in-Suspension.result c.in_err-check_term-in-Suspension.field-0.0 p.0 c.in_err-check_term-in-Suspension.was p.1 p.2 in
    record { allowed = s.allowed; fault = s.fault }

pub check_pointed-requires-clause-depth : goal.check_pointed-requires-clause-depth
check_pointed-requires-clause-depth t c =
    suspension_depth c.args.t.now _ c.get-part.result.now c.get-part.ensures c.check_term-in-Suspension.result (record { allowed = c.check_term-in-Suspension.ensures.allowed; fault = c.check_term-in-Suspension.ensures.fault }) c.in_ok-check_term-in-Suspension.field-0 c.in_ok-check_term-in-Suspension.was c.in-Suspension.is

pub returns-in_ok-check_term-in-Suspension : goal.returns-in_ok-check_term-in-Suspension
returns-in_ok-check_term-in-Suspension t c =
    let s = on_suspension c.args.t.now _ c.get-part.result.now c.get-part.ensures c.check_term-in-Suspension.result (record { allowed = c.check_term-in-Suspension.ensures.allowed; fault = c.check_term-in-Suspension.ensures.fault }) c.in_ok-check_term-in-Suspension.field-0 c.in_ok-check_term-in-Suspension.was c.in-Suspension.is c.check_pointed.result c.check_pointed.ensures in
    record { allowed = s.allowed; fault = s.fault }

pub returns-in_err-check_term-in-Loop : goal.returns-in_err-check_term-in-Loop
returns-in_err-check_term-in-Loop t c =
    let p = err_from_is_err_and c.from_residual-in_err-check_term-in-Loop.result c.from_residual-in_err-check_term-in-Loop.ensures.1 in
    let s = on_looped c.args.t.now _ c.get-part-in-Loop.result.now c.get-part-in-Loop.ensures c.check_term-in-Loop.result (record { allowed = c.check_term-in-Loop.ensures.allowed; fault = c.check_term-in-Loop.ensures.fault }) c.in-Loop.is c.from_residual-in_err-check_term-in-Loop.result c.in_err-check_term-in-Loop.field-0.0 p.0 c.in_err-check_term-in-Loop.was p.1 p.2 in
    record { allowed = s.allowed; fault = s.fault }

pub check_reduced-requires-clause-depth : goal.check_reduced-requires-clause-depth
check_reduced-requires-clause-depth t c =
    loop_depth c.args.t.now _ c.get-part-in-Loop.result.now c.get-part-in-Loop.ensures c.check_term-in-Loop.result (record { allowed = c.check_term-in-Loop.ensures.allowed; fault = c.check_term-in-Loop.ensures.fault }) c.in_ok-check_term-in-Loop.field-0 c.in_ok-check_term-in-Loop.was c.in-Loop.is

pub returns-in_ok-check_term-in-Loop : goal.returns-in_ok-check_term-in-Loop
returns-in_ok-check_term-in-Loop t c =
    let s = on_loop c.args.t.now _ c.get-part-in-Loop.result.now c.get-part-in-Loop.ensures c.check_term-in-Loop.result (record { allowed = c.check_term-in-Loop.ensures.allowed; fault = c.check_term-in-Loop.ensures.fault }) c.in_ok-check_term-in-Loop.field-0 c.in_ok-check_term-in-Loop.was c.in-Loop.is c.check_reduced.result c.check_reduced.ensures in
    record { allowed = s.allowed; fault = s.fault }

pub returns-in_err-check_term-in-Path : goal.returns-in_err-check_term-in-Path
returns-in_err-check_term-in-Path t c =
    let p = err_from_is_err_and c.from_residual-in_err-check_term-in-Path.result c.from_residual-in_err-check_term-in-Path.ensures.1 in
    let s = on_based c.args.t.now _ c.get-part-in-Path.result.now c.get-part-in-Path.ensures c.check_term-in-Path.result (record { allowed = c.check_term-in-Path.ensures.allowed; fault = c.check_term-in-Path.ensures.fault }) c.in-Path.is c.from_residual-in_err-check_term-in-Path.result c.in_err-check_term-in-Path.field-0.0 p.0 c.in_err-check_term-in-Path.was p.1 p.2 in
    record { allowed = s.allowed; fault = s.fault }

pub check_reduced-requires-in-Path-clause-depth : goal.check_reduced-requires-in-Path-clause-depth
check_reduced-requires-in-Path-clause-depth t c =
    path_depth c.args.t.now _ c.get-part-in-Path.result.now c.get-part-in-Path.ensures c.check_term-in-Path.result (record { allowed = c.check_term-in-Path.ensures.allowed; fault = c.check_term-in-Path.ensures.fault }) c.in_ok-check_term-in-Path.field-0 c.in_ok-check_term-in-Path.was c.in-Path.is

pub returns-in_ok-check_term-in-Path : goal.returns-in_ok-check_term-in-Path
returns-in_ok-check_term-in-Path t c =
    let s = on_path c.args.t.now _ c.get-part-in-Path.result.now c.get-part-in-Path.ensures c.check_term-in-Path.result (record { allowed = c.check_term-in-Path.ensures.allowed; fault = c.check_term-in-Path.ensures.fault }) c.in_ok-check_term-in-Path.field-0 c.in_ok-check_term-in-Path.was c.in-Path.is c.check_reduced-in-Path.result c.check_reduced-in-Path.ensures in
    record { allowed = s.allowed; fault = s.fault }

pub returns-in-Table : goal.returns-in-Table
returns-in-Table t c =
    let s = on_table c.args.t.now c.check_table.result _ c.in-Table.is c.check_table.ensures.form c.check_table.ensures.fault in
    record { allowed = s.allowed; fault = s.fault }

pub returns-in-Sphere : goal.returns-in-Sphere
returns-in-Sphere t c =
    let s = on_sphere c.args.t.now c.check_sphere.result _ c.in-Sphere.is c.check_sphere.ensures in
    record { allowed = s.allowed; fault = s.fault }

pub returns-in-KZ1 : goal.returns-in-KZ1
returns-in-KZ1 t c =
    let s = on_kz1 c.args.t.now (Ok tt) c.in-KZ1.is refl in
    record { allowed = s.allowed; fault = s.fault }

pub returns-in-Bundle : goal.returns-in-Bundle
returns-in-Bundle t c =
    let s = on_bundle c.args.t.now c.check_values.result _ _ c.in-Bundle.is c.check_values.ensures.form c.check_values.ensures.fault in
    record { allowed = s.allowed; fault = s.fault }
