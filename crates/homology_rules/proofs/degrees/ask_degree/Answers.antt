use Rattle.std.proofs.Common.{Some, Ok, Err, refl, sym, ◌∙◌, ap, subst}
use Rattle.oracle_iface.specs.declared.bodies.Outcome.TheVariants.{Over as IsOver}
use Rattle.oracle_iface.specs.Forcing.{Asked}
use Rattle.homology_rules.specs.Asking.{first_refusal, up_to_refusal, MayForceEach, AskedFirst, EachAnswered, IsAnswered}
use Rattle.homology_rules.specs.Degrees.{degree_key_of}
use Rattle.homology_rules.proofs.Answered.{refusal-of_cell}
use Rattle.homology_rules.proofs.AtDegree.{not_refused, first-none, first-some, small_ds, found_keys, one_asked, others_asked, all_asked}
use Rattle.homology_rules.proofs.Through.{through-one, through-more}
use Rattle.homology_rules.proofs.degrees.ask_degree.Goals as goal

pub ask_all-requires : goal.ask_all-requires
ask_all-requires g c =
    subst (MayForceEach g.F.Forcer.may_force g.F.Forcer.forces c.force.new.self) (sym (found_keys c.args.key.now c.args.n c.in_ok-cells.cells c.get-2.result.now c.in_ok-degree_key.field-0 c.small_cells.result.now c.as_slice.result.now c.in_ok-keys.keys.items c.deref.result.now
    c.in_ok-cells.ensures.key c.in_ok-degree_key.ensures c.get-2.ensures c.small_cells.ensures c.as_slice.ensures c.in_ok-keys.ensures c.deref.ensures.value))
    (c.requires.1 (Ok c.in_ok-cells.cells) c.force.new.self (subst (λ k. g.F.Forcer.forces c.args.forcer.now k (Ok c.in_ok-cells.cells) c.force.new.self) c.in_ok-degree_key.ensures c.in_ok-cells.ensures.call)
    (refusal-of_cell c.in_ok-cells.cells c.get.result.now c.in_ok-degree_key.field-0 (degree_key_of c.args.key.now c.args.n) c.get.result.now.outcome c.get.ensures refl c.in_ok-cells.ensures.key c.in_ok-degree_key.ensures
    ∙ not_refused c.get.result.now.outcome c.in_default.not-Over))

pub returns-in_err-cells-clause-asked : goal.returns-in_err-cells-clause-asked
returns-in_err-cells-clause-asked g c =
    one_asked c.args.key.now c.args.n g.F.Forcer.may_force g.F.Forcer.forces c.args.forcer.now c.force.new.self c.force.new.self (Err c.in_err-cells.field-0.0)
    (subst (λ k. g.F.Forcer.forces c.args.forcer.now k (Err c.in_err-cells.field-0.0) c.force.new.self) c.in_ok-degree_key.ensures c.in_err-cells.ensures.call)

pub returns-in_err-copy_over-clause-asked : goal.returns-in_err-copy_over-clause-asked
returns-in_err-copy_over-clause-asked g c =
    one_asked c.args.key.now c.args.n g.F.Forcer.may_force g.F.Forcer.forces c.args.forcer.now c.force.new.self c.force.new.self (Ok c.in_ok-cells.cells)
    (subst (λ k. g.F.Forcer.forces c.args.forcer.now k (Ok c.in_ok-cells.cells) c.force.new.self) c.in_ok-degree_key.ensures c.in_ok-cells.ensures.call)

pub returns-in-Over-clause-asked : goal.returns-in-Over-clause-asked
returns-in-Over-clause-asked g c =
    one_asked c.args.key.now c.args.n g.F.Forcer.may_force g.F.Forcer.forces c.args.forcer.now c.force.new.self c.force.new.self (Ok c.in_ok-cells.cells)
    (subst (λ k. g.F.Forcer.forces c.args.forcer.now k (Ok c.in_ok-cells.cells) c.force.new.self) c.in_ok-degree_key.ensures c.in_ok-cells.ensures.call)

pub returns-in_err-keys-clause-asked : goal.returns-in_err-keys-clause-asked
returns-in_err-keys-clause-asked g c =
    one_asked c.args.key.now c.args.n g.F.Forcer.may_force g.F.Forcer.forces c.args.forcer.now c.force.new.self c.force.new.self (Ok c.in_ok-cells.cells)
    (subst (λ k. g.F.Forcer.forces c.args.forcer.now k (Ok c.in_ok-cells.cells) c.force.new.self) c.in_ok-degree_key.ensures c.in_ok-cells.ensures.call)

pub returns-in-Over-clause-answers : goal.returns-in-Over-clause-answers
returns-in-Over-clause-answers g c =
    first-some (degree_key_of c.args.key.now c.args.n) (small_ds c.args.key.now c.args.n) c.in-Over.over
    (refusal-of_cell c.in_ok-cells.cells c.get.result.now c.in_ok-degree_key.field-0 (degree_key_of c.args.key.now c.args.n) (IsOver c.in-Over.over) c.get.ensures c.in-Over.is c.in_ok-cells.ensures.key c.in_ok-degree_key.ensures)
    ∙ ap (λ w. Some w) (sym c.in_ok-copy_over.ensures)

pub returns-in_err-over-clause-asked : goal.returns-in_err-over-clause-asked
returns-in_err-over-clause-asked g c =
    others_asked c.args.key.now c.args.n g.F.Forcer.may_force g.F.Forcer.forces c.args.forcer.now c.force.new.self c.ask_all.new.forcer (Ok c.in_ok-cells.cells)
    (refusal-of_cell c.in_ok-cells.cells c.get.result.now c.in_ok-degree_key.field-0 (degree_key_of c.args.key.now c.args.n) c.get.result.now.outcome c.get.ensures refl c.in_ok-cells.ensures.key c.in_ok-degree_key.ensures
    ∙ not_refused c.get.result.now.outcome c.in_default.not-Over)
    (subst (λ k. g.F.Forcer.forces c.args.forcer.now k (Ok c.in_ok-cells.cells) c.force.new.self) c.in_ok-degree_key.ensures c.in_ok-cells.ensures.call)
    (subst (λ ks. AskedFirst g.F.Forcer.forces ks c.force.new.self c.ask_all.new.forcer) (found_keys c.args.key.now c.args.n c.in_ok-cells.cells c.get-2.result.now c.in_ok-degree_key.field-0 c.small_cells.result.now c.as_slice.result.now c.in_ok-keys.keys.items c.deref.result.now
    c.in_ok-cells.ensures.key c.in_ok-degree_key.ensures c.get-2.ensures c.small_cells.ensures c.as_slice.ensures c.in_ok-keys.ensures c.deref.ensures.value) c.ask_all.ensures.asked)

pub returns-in-Over-2-clause-asked : goal.returns-in-Over-2-clause-asked
returns-in-Over-2-clause-asked g c =
    others_asked c.args.key.now c.args.n g.F.Forcer.may_force g.F.Forcer.forces c.args.forcer.now c.force.new.self c.ask_all.new.forcer (Ok c.in_ok-cells.cells)
    (refusal-of_cell c.in_ok-cells.cells c.get.result.now c.in_ok-degree_key.field-0 (degree_key_of c.args.key.now c.args.n) c.get.result.now.outcome c.get.ensures refl c.in_ok-cells.ensures.key c.in_ok-degree_key.ensures
    ∙ not_refused c.get.result.now.outcome c.in_default.not-Over)
    (subst (λ k. g.F.Forcer.forces c.args.forcer.now k (Ok c.in_ok-cells.cells) c.force.new.self) c.in_ok-degree_key.ensures c.in_ok-cells.ensures.call)
    (subst (λ ks. AskedFirst g.F.Forcer.forces ks c.force.new.self c.ask_all.new.forcer) (found_keys c.args.key.now c.args.n c.in_ok-cells.cells c.get-2.result.now c.in_ok-degree_key.field-0 c.small_cells.result.now c.as_slice.result.now c.in_ok-keys.keys.items c.deref.result.now
    c.in_ok-cells.ensures.key c.in_ok-degree_key.ensures c.get-2.ensures c.small_cells.ensures c.as_slice.ensures c.in_ok-keys.ensures c.deref.ensures.value) c.ask_all.ensures.asked)

pub returns-in-Values-clause-asked : goal.returns-in-Values-clause-asked
returns-in-Values-clause-asked g c =
    others_asked c.args.key.now c.args.n g.F.Forcer.may_force g.F.Forcer.forces c.args.forcer.now c.force.new.self c.ask_all.new.forcer (Ok c.in_ok-cells.cells)
    (refusal-of_cell c.in_ok-cells.cells c.get.result.now c.in_ok-degree_key.field-0 (degree_key_of c.args.key.now c.args.n) c.get.result.now.outcome c.get.ensures refl c.in_ok-cells.ensures.key c.in_ok-degree_key.ensures
    ∙ not_refused c.get.result.now.outcome c.in_default.not-Over)
    (subst (λ k. g.F.Forcer.forces c.args.forcer.now k (Ok c.in_ok-cells.cells) c.force.new.self) c.in_ok-degree_key.ensures c.in_ok-cells.ensures.call)
    (subst (λ ks. AskedFirst g.F.Forcer.forces ks c.force.new.self c.ask_all.new.forcer) (found_keys c.args.key.now c.args.n c.in_ok-cells.cells c.get-2.result.now c.in_ok-degree_key.field-0 c.small_cells.result.now c.as_slice.result.now c.in_ok-keys.keys.items c.deref.result.now
    c.in_ok-cells.ensures.key c.in_ok-degree_key.ensures c.get-2.ensures c.small_cells.ensures c.as_slice.ensures c.in_ok-keys.ensures c.deref.ensures.value) c.ask_all.ensures.asked)

pub returns-in-Over-2-clause-answers : goal.returns-in-Over-2-clause-answers
returns-in-Over-2-clause-answers g c =
    first-none (degree_key_of c.args.key.now c.args.n) (small_ds c.args.key.now c.args.n) (refusal-of_cell c.in_ok-cells.cells c.get.result.now c.in_ok-degree_key.field-0 (degree_key_of c.args.key.now c.args.n) c.get.result.now.outcome c.get.ensures refl c.in_ok-cells.ensures.key c.in_ok-degree_key.ensures
    ∙ not_refused c.get.result.now.outcome c.in_default.not-Over)
    ∙ sym (ap first_refusal (found_keys c.args.key.now c.args.n c.in_ok-cells.cells c.get-2.result.now c.in_ok-degree_key.field-0 c.small_cells.result.now c.as_slice.result.now c.in_ok-keys.keys.items c.deref.result.now
    c.in_ok-cells.ensures.key c.in_ok-degree_key.ensures c.get-2.ensures c.small_cells.ensures c.as_slice.ensures c.in_ok-keys.ensures c.deref.ensures.value)) ∙ (subst (λ x. IsAnswered g.F.Forcer.forces c.deref.result.now c.force.new.self c.ask_all.new.forcer x) c.in-Over-2.is c.in_ok-over.ensures.answers)

pub returns-in-Values-clause-answers : goal.returns-in-Values-clause-answers
returns-in-Values-clause-answers g c =
    let h = (subst (λ x. IsAnswered g.F.Forcer.forces c.deref.result.now c.force.new.self c.ask_all.new.forcer x) c.in-Values.is c.in_ok-over.ensures.answers) in
    record {
      none_refused = first-none (degree_key_of c.args.key.now c.args.n) (small_ds c.args.key.now c.args.n) (refusal-of_cell c.in_ok-cells.cells c.get.result.now c.in_ok-degree_key.field-0 (degree_key_of c.args.key.now c.args.n) c.get.result.now.outcome c.get.ensures refl c.in_ok-cells.ensures.key c.in_ok-degree_key.ensures
          ∙ not_refused c.get.result.now.outcome c.in_default.not-Over)
          ∙ sym (ap first_refusal (found_keys c.args.key.now c.args.n c.in_ok-cells.cells c.get-2.result.now c.in_ok-degree_key.field-0 c.small_cells.result.now c.as_slice.result.now c.in_ok-keys.keys.items c.deref.result.now
          c.in_ok-cells.ensures.key c.in_ok-degree_key.ensures c.get-2.ensures c.small_cells.ensures c.as_slice.ensures c.in_ok-keys.ensures c.deref.ensures.value)) ∙ h.none_refused;
      cells_are = c.in_ok-cells.ensures.key ∙ c.in_ok-degree_key.ensures;
      chains_are = h.keys_are ∙ (found_keys c.args.key.now c.args.n c.in_ok-cells.cells c.get-2.result.now c.in_ok-degree_key.field-0 c.small_cells.result.now c.as_slice.result.now c.in_ok-keys.keys.items c.deref.result.now
          c.in_ok-cells.ensures.key c.in_ok-degree_key.ensures c.get-2.ensures c.small_cells.ensures c.as_slice.ensures c.in_ok-keys.ensures c.deref.ensures.value);
      asked = all_asked c.args.key.now c.args.n g.F.Forcer.may_force g.F.Forcer.forces c.args.forcer.now c.force.new.self c.ask_all.new.forcer (Ok c.in_ok-cells.cells) (subst (λ k. g.F.Forcer.forces c.args.forcer.now k (Ok c.in_ok-cells.cells) c.force.new.self) c.in_ok-degree_key.ensures c.in_ok-cells.ensures.call)
          (subst (λ ks. Asked g.F.Forcer.forces c.force.new.self ks c.ask_all.new.forcer) (found_keys c.args.key.now c.args.n c.in_ok-cells.cells c.get-2.result.now c.in_ok-degree_key.field-0 c.small_cells.result.now c.as_slice.result.now c.in_ok-keys.keys.items c.deref.result.now
          c.in_ok-cells.ensures.key c.in_ok-degree_key.ensures c.get-2.ensures c.small_cells.ensures c.as_slice.ensures c.in_ok-keys.ensures c.deref.ensures.value) h.asked);
    }

pub returns-in-Over-clause-through : goal.returns-in-Over-clause-through
returns-in-Over-clause-through g c =
    through-one g.F.Forcer.forces (degree_key_of c.args.key.now c.args.n) (small_ds c.args.key.now c.args.n) c.args.forcer.now c.force.new.self c.in_ok-cells.cells c.in-Over.over
    (refusal-of_cell c.in_ok-cells.cells c.get.result.now c.in_ok-degree_key.field-0 (degree_key_of c.args.key.now c.args.n) (IsOver c.in-Over.over) c.get.ensures c.in-Over.is c.in_ok-cells.ensures.key c.in_ok-degree_key.ensures)
    (subst (λ k. g.F.Forcer.forces c.args.forcer.now k (Ok c.in_ok-cells.cells) c.force.new.self) c.in_ok-degree_key.ensures c.in_ok-cells.ensures.call)

pub returns-in-Over-2-clause-through : goal.returns-in-Over-2-clause-through
returns-in-Over-2-clause-through g c =
    through-more g.F.Forcer.forces (degree_key_of c.args.key.now c.args.n) (small_ds c.args.key.now c.args.n) c.args.forcer.now c.force.new.self c.ask_all.new.forcer c.in_ok-cells.cells
    (refusal-of_cell c.in_ok-cells.cells c.get.result.now c.in_ok-degree_key.field-0 (degree_key_of c.args.key.now c.args.n) c.get.result.now.outcome c.get.ensures refl c.in_ok-cells.ensures.key c.in_ok-degree_key.ensures
    ∙ not_refused c.get.result.now.outcome c.in_default.not-Over)
    (subst (λ k. g.F.Forcer.forces c.args.forcer.now k (Ok c.in_ok-cells.cells) c.force.new.self) c.in_ok-degree_key.ensures c.in_ok-cells.ensures.call)
    (subst (λ ks. EachAnswered g.F.Forcer.forces c.force.new.self (up_to_refusal ks) c.ask_all.new.forcer) (found_keys c.args.key.now c.args.n c.in_ok-cells.cells c.get-2.result.now c.in_ok-degree_key.field-0 c.small_cells.result.now c.as_slice.result.now c.in_ok-keys.keys.items c.deref.result.now
    c.in_ok-cells.ensures.key c.in_ok-degree_key.ensures c.get-2.ensures c.small_cells.ensures c.as_slice.ensures c.in_ok-keys.ensures c.deref.ensures.value) c.in_ok-over.ensures.through)

pub returns-in-Values-clause-through : goal.returns-in-Values-clause-through
returns-in-Values-clause-through g c =
    through-more g.F.Forcer.forces (degree_key_of c.args.key.now c.args.n) (small_ds c.args.key.now c.args.n) c.args.forcer.now c.force.new.self c.ask_all.new.forcer c.in_ok-cells.cells
    (refusal-of_cell c.in_ok-cells.cells c.get.result.now c.in_ok-degree_key.field-0 (degree_key_of c.args.key.now c.args.n) c.get.result.now.outcome c.get.ensures refl c.in_ok-cells.ensures.key c.in_ok-degree_key.ensures
    ∙ not_refused c.get.result.now.outcome c.in_default.not-Over)
    (subst (λ k. g.F.Forcer.forces c.args.forcer.now k (Ok c.in_ok-cells.cells) c.force.new.self) c.in_ok-degree_key.ensures c.in_ok-cells.ensures.call)
    (subst (λ ks. EachAnswered g.F.Forcer.forces c.force.new.self (up_to_refusal ks) c.ask_all.new.forcer) (found_keys c.args.key.now c.args.n c.in_ok-cells.cells c.get-2.result.now c.in_ok-degree_key.field-0 c.small_cells.result.now c.as_slice.result.now c.in_ok-keys.keys.items c.deref.result.now
    c.in_ok-cells.ensures.key c.in_ok-degree_key.ensures c.get-2.ensures c.small_cells.ensures c.as_slice.ensures c.in_ok-keys.ensures c.deref.ensures.value) c.in_ok-over.ensures.through)
