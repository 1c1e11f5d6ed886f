use Rattle.std.proofs.Common.{[], refl, sym, ◌∙◌, ap}
use Rattle.cells.proofs.OneKey.{one_cell}
use Rattle.chain_core.specs.Formal.{Formal}
use Rattle.cells.specs.declared.cells.Cell.{Cell}
use Rattle.term_lang.specs.SpaceOf.{space_of}
use Rattle.oracle_iface.specs.Keys.{formal, quote_chain}
use Rattle.oracle_iface.specs.SmallForms.{small_form}
use Rattle.fp_field.specs.Field.{number}
use Rattle.values.specs.Asks.{g as g_of}
use Rattle.values.specs.Values.{value}
use Rattle.part_asks.specs.Askers.{g_tensor}
use Rattle.part_asks.specs.OneKey.{g_at}
use Rattle.part_asks.specs.Reading.{keys_of}
use Rattle.part_asks.proofs.Reached.{begun, passed, asked-so_far, asked-within, refused-within, through-within, none-refused, through-all, may-next}
use Rattle.part_asks.proofs.Readings.{found-none, found-value, found-over}
use Rattle.part_asks.proofs.TensorSums.{product-found}
use Rattle.part_asks.proofs.tensors.tensor_g.Goals as goal

pub part_g-requires-clause-asks : goal.part_g-requires-clause-asks
part_g-requires-clause-asks g c = may-next g.F.Forcer.may_force g.F.Forcer.forces (begun g.F.Forcer.forces (keys_of c.args.p (g_tensor c.args.p (space_of c.args.left.now) (space_of c.args.right.now) c.args.y.now c.args.z.now)) c.args.forcer.now) c.requires.asks (keys_of c.args.p (g_at (space_of c.args.left.now) c.args.y.now)) (keys_of c.args.p (g_at (space_of c.args.right.now) c.args.z.now)) refl

pub returns-in_err-over-clause-asked : goal.returns-in_err-over-clause-asked
returns-in_err-over-clause-asked g c = asked-within g.F.Forcer.forces (begun g.F.Forcer.forces (keys_of c.args.p (g_tensor c.args.p (space_of c.args.left.now) (space_of c.args.right.now) c.args.y.now c.args.z.now)) c.args.forcer.now) (keys_of c.args.p (g_at (space_of c.args.left.now) c.args.y.now)) (keys_of c.args.p (g_at (space_of c.args.right.now) c.args.z.now)) refl c.part_g.new.forcer c.part_g.ensures.asked

pub returns-in-Over-clause-asked : goal.returns-in-Over-clause-asked
returns-in-Over-clause-asked g c = asked-within g.F.Forcer.forces (begun g.F.Forcer.forces (keys_of c.args.p (g_tensor c.args.p (space_of c.args.left.now) (space_of c.args.right.now) c.args.y.now c.args.z.now)) c.args.forcer.now) (keys_of c.args.p (g_at (space_of c.args.left.now) c.args.y.now)) (keys_of c.args.p (g_at (space_of c.args.right.now) c.args.z.now)) refl c.part_g.new.forcer c.part_g.ensures.asked

pub returns-in-Over-clause-through : goal.returns-in-Over-clause-through
returns-in-Over-clause-through g c =
    through-within g.F.Forcer.forces (begun g.F.Forcer.forces (keys_of c.args.p (g_tensor c.args.p (space_of c.args.left.now) (space_of c.args.right.now) c.args.y.now c.args.z.now)) c.args.forcer.now) (keys_of c.args.p (g_at (space_of c.args.left.now) c.args.y.now)) (keys_of c.args.p (g_at (space_of c.args.right.now) c.args.z.now)) refl c.part_g.new.forcer c.in-Over.over
    (found-over (λ x. formal c.args.p (quote_chain (space_of c.args.left.now) x)) c.args.p (g_at (space_of c.args.left.now) c.args.y.now) _ c.in-Over.over c.in-Over.is c.in_ok-over.ensures.found) c.in_ok-over.ensures.through

pub returns-in-Over-clause-found : goal.returns-in-Over-clause-found
returns-in-Over-clause-found g c =
    refused-within g.F.Forcer.forces (begun g.F.Forcer.forces (keys_of c.args.p (g_tensor c.args.p (space_of c.args.left.now) (space_of c.args.right.now) c.args.y.now c.args.z.now)) c.args.forcer.now) (keys_of c.args.p (g_at (space_of c.args.left.now) c.args.y.now)) (keys_of c.args.p (g_at (space_of c.args.right.now) c.args.z.now)) refl c.part_g.new.forcer c.in-Over.over
    (found-over (λ x. formal c.args.p (quote_chain (space_of c.args.left.now) x)) c.args.p (g_at (space_of c.args.left.now) c.args.y.now) _ c.in-Over.over c.in-Over.is c.in_ok-over.ensures.found)

pub part_g-requires-2-clause-asks : goal.part_g-requires-2-clause-asks
part_g-requires-2-clause-asks g c =
    may-next g.F.Forcer.may_force g.F.Forcer.forces
    (passed g.F.Forcer.forces (keys_of c.args.p (g_at (space_of c.args.left.now) c.args.y.now)) (keys_of c.args.p (g_at (space_of c.args.right.now) c.args.z.now)) c.part_g.new.forcer refl (begun g.F.Forcer.forces (keys_of c.args.p (g_tensor c.args.p (space_of c.args.left.now) (space_of c.args.right.now) c.args.y.now c.args.z.now)) c.args.forcer.now) (found-none (λ x. formal c.args.p (quote_chain (space_of c.args.left.now) x)) c.args.p (g_at (space_of c.args.left.now) c.args.y.now) _ c.in-Value.u c.in-Value.is c.in_ok-over.ensures.found) c.in_ok-over.ensures.through)
    c.requires.asks (keys_of c.args.p (g_at (space_of c.args.right.now) c.args.z.now)) [] refl

pub returns-in_err-over-2-clause-asked : goal.returns-in_err-over-2-clause-asked
returns-in_err-over-2-clause-asked g c =
    asked-within g.F.Forcer.forces
    (passed g.F.Forcer.forces (keys_of c.args.p (g_at (space_of c.args.left.now) c.args.y.now)) (keys_of c.args.p (g_at (space_of c.args.right.now) c.args.z.now)) c.part_g.new.forcer refl (begun g.F.Forcer.forces (keys_of c.args.p (g_tensor c.args.p (space_of c.args.left.now) (space_of c.args.right.now) c.args.y.now c.args.z.now)) c.args.forcer.now) (found-none (λ x. formal c.args.p (quote_chain (space_of c.args.left.now) x)) c.args.p (g_at (space_of c.args.left.now) c.args.y.now) _ c.in-Value.u c.in-Value.is c.in_ok-over.ensures.found) c.in_ok-over.ensures.through)
    (keys_of c.args.p (g_at (space_of c.args.right.now) c.args.z.now)) [] refl c.part_g-2.new.forcer c.part_g-2.ensures.asked

pub returns-in-Over-2-clause-asked : goal.returns-in-Over-2-clause-asked
returns-in-Over-2-clause-asked g c =
    asked-within g.F.Forcer.forces
    (passed g.F.Forcer.forces (keys_of c.args.p (g_at (space_of c.args.left.now) c.args.y.now)) (keys_of c.args.p (g_at (space_of c.args.right.now) c.args.z.now)) c.part_g.new.forcer refl (begun g.F.Forcer.forces (keys_of c.args.p (g_tensor c.args.p (space_of c.args.left.now) (space_of c.args.right.now) c.args.y.now c.args.z.now)) c.args.forcer.now) (found-none (λ x. formal c.args.p (quote_chain (space_of c.args.left.now) x)) c.args.p (g_at (space_of c.args.left.now) c.args.y.now) _ c.in-Value.u c.in-Value.is c.in_ok-over.ensures.found) c.in_ok-over.ensures.through)
    (keys_of c.args.p (g_at (space_of c.args.right.now) c.args.z.now)) [] refl c.part_g-2.new.forcer c.part_g-2.ensures.asked

pub returns-in-Over-2-clause-through : goal.returns-in-Over-2-clause-through
returns-in-Over-2-clause-through g c =
    through-within g.F.Forcer.forces
    (passed g.F.Forcer.forces (keys_of c.args.p (g_at (space_of c.args.left.now) c.args.y.now)) (keys_of c.args.p (g_at (space_of c.args.right.now) c.args.z.now)) c.part_g.new.forcer refl (begun g.F.Forcer.forces (keys_of c.args.p (g_tensor c.args.p (space_of c.args.left.now) (space_of c.args.right.now) c.args.y.now c.args.z.now)) c.args.forcer.now) (found-none (λ x. formal c.args.p (quote_chain (space_of c.args.left.now) x)) c.args.p (g_at (space_of c.args.left.now) c.args.y.now) _ c.in-Value.u c.in-Value.is c.in_ok-over.ensures.found) c.in_ok-over.ensures.through)
    (keys_of c.args.p (g_at (space_of c.args.right.now) c.args.z.now)) [] refl c.part_g-2.new.forcer c.in-Over-2.over
    (found-over (λ x. formal c.args.p (quote_chain (space_of c.args.right.now) x)) c.args.p (g_at (space_of c.args.right.now) c.args.z.now) _ c.in-Over-2.over c.in-Over-2.is c.in_ok-over-2.ensures.found) c.in_ok-over-2.ensures.through

pub returns-in-Over-2-clause-found : goal.returns-in-Over-2-clause-found
returns-in-Over-2-clause-found g c =
    refused-within g.F.Forcer.forces
    (passed g.F.Forcer.forces (keys_of c.args.p (g_at (space_of c.args.left.now) c.args.y.now)) (keys_of c.args.p (g_at (space_of c.args.right.now) c.args.z.now)) c.part_g.new.forcer refl (begun g.F.Forcer.forces (keys_of c.args.p (g_tensor c.args.p (space_of c.args.left.now) (space_of c.args.right.now) c.args.y.now c.args.z.now)) c.args.forcer.now) (found-none (λ x. formal c.args.p (quote_chain (space_of c.args.left.now) x)) c.args.p (g_at (space_of c.args.left.now) c.args.y.now) _ c.in-Value.u c.in-Value.is c.in_ok-over.ensures.found) c.in_ok-over.ensures.through)
    (keys_of c.args.p (g_at (space_of c.args.right.now) c.args.z.now)) [] refl c.part_g-2.new.forcer c.in-Over-2.over
    (found-over (λ x. formal c.args.p (quote_chain (space_of c.args.right.now) x)) c.args.p (g_at (space_of c.args.right.now) c.args.z.now) _ c.in-Over-2.over c.in-Over-2.is c.in_ok-over-2.ensures.found)

pub product_of-requires-clause-prime : goal.product_of-requires-clause-prime
product_of-requires-clause-prime g c =
    ap (λ (x : Formal Cell). x.prime)
    (found-value (λ x. formal c.args.p (quote_chain (space_of c.args.right.now) x)) c.args.p (g_at (space_of c.args.right.now) c.args.z.now) _ c.in-Value-2.v c.in-Value-2.is c.in_ok-over-2.ensures.found)
    ∙ sym (ap (λ (x : Formal Cell). x.prime)
    (found-value (λ x. formal c.args.p (quote_chain (space_of c.args.left.now) x)) c.args.p (g_at (space_of c.args.left.now) c.args.y.now) _ c.in-Value.u c.in-Value.is c.in_ok-over.ensures.found))

pub product_of-requires-clause-left_one_key : goal.product_of-requires-clause-left_one_key
product_of-requires-clause-left_one_key g c = one_cell

pub product_of-requires-clause-right_one_key : goal.product_of-requires-clause-right_one_key
product_of-requires-clause-right_one_key g c = one_cell

pub returns-in_err-product_of-clause-asked : goal.returns-in_err-product_of-clause-asked
returns-in_err-product_of-clause-asked g c =
    asked-so_far g.F.Forcer.forces
    (passed g.F.Forcer.forces (keys_of c.args.p (g_at (space_of c.args.right.now) c.args.z.now)) [] c.part_g-2.new.forcer refl (passed g.F.Forcer.forces (keys_of c.args.p (g_at (space_of c.args.left.now) c.args.y.now)) (keys_of c.args.p (g_at (space_of c.args.right.now) c.args.z.now)) c.part_g.new.forcer refl (begun g.F.Forcer.forces (keys_of c.args.p (g_tensor c.args.p (space_of c.args.left.now) (space_of c.args.right.now) c.args.y.now c.args.z.now)) c.args.forcer.now) (found-none (λ x. formal c.args.p (quote_chain (space_of c.args.left.now) x)) c.args.p (g_at (space_of c.args.left.now) c.args.y.now) _ c.in-Value.u c.in-Value.is c.in_ok-over.ensures.found) c.in_ok-over.ensures.through) (found-none (λ x. formal c.args.p (quote_chain (space_of c.args.right.now) x)) c.args.p (g_at (space_of c.args.right.now) c.args.z.now) _ c.in-Value-2.v c.in-Value-2.is c.in_ok-over-2.ensures.found) c.in_ok-over-2.ensures.through)

pub returns-clause-asked : goal.returns-clause-asked
returns-clause-asked g c =
    asked-so_far g.F.Forcer.forces
    (passed g.F.Forcer.forces (keys_of c.args.p (g_at (space_of c.args.right.now) c.args.z.now)) [] c.part_g-2.new.forcer refl (passed g.F.Forcer.forces (keys_of c.args.p (g_at (space_of c.args.left.now) c.args.y.now)) (keys_of c.args.p (g_at (space_of c.args.right.now) c.args.z.now)) c.part_g.new.forcer refl (begun g.F.Forcer.forces (keys_of c.args.p (g_tensor c.args.p (space_of c.args.left.now) (space_of c.args.right.now) c.args.y.now c.args.z.now)) c.args.forcer.now) (found-none (λ x. formal c.args.p (quote_chain (space_of c.args.left.now) x)) c.args.p (g_at (space_of c.args.left.now) c.args.y.now) _ c.in-Value.u c.in-Value.is c.in_ok-over.ensures.found) c.in_ok-over.ensures.through) (found-none (λ x. formal c.args.p (quote_chain (space_of c.args.right.now) x)) c.args.p (g_at (space_of c.args.right.now) c.args.z.now) _ c.in-Value-2.v c.in-Value-2.is c.in_ok-over-2.ensures.found) c.in_ok-over-2.ensures.through)

pub returns-clause-through : goal.returns-clause-through
returns-clause-through g c =
    through-all g.F.Forcer.forces
    (passed g.F.Forcer.forces (keys_of c.args.p (g_at (space_of c.args.right.now) c.args.z.now)) [] c.part_g-2.new.forcer refl (passed g.F.Forcer.forces (keys_of c.args.p (g_at (space_of c.args.left.now) c.args.y.now)) (keys_of c.args.p (g_at (space_of c.args.right.now) c.args.z.now)) c.part_g.new.forcer refl (begun g.F.Forcer.forces (keys_of c.args.p (g_tensor c.args.p (space_of c.args.left.now) (space_of c.args.right.now) c.args.y.now c.args.z.now)) c.args.forcer.now) (found-none (λ x. formal c.args.p (quote_chain (space_of c.args.left.now) x)) c.args.p (g_at (space_of c.args.left.now) c.args.y.now) _ c.in-Value.u c.in-Value.is c.in_ok-over.ensures.found) c.in_ok-over.ensures.through) (found-none (λ x. formal c.args.p (quote_chain (space_of c.args.right.now) x)) c.args.p (g_at (space_of c.args.right.now) c.args.z.now) _ c.in-Value-2.v c.in-Value-2.is c.in_ok-over-2.ensures.found) c.in_ok-over-2.ensures.through)

pub returns-clause-found : goal.returns-clause-found
returns-clause-found g c = (
  none-refused g.F.Forcer.forces
      (passed g.F.Forcer.forces (keys_of c.args.p (g_at (space_of c.args.right.now) c.args.z.now)) [] c.part_g-2.new.forcer refl (passed g.F.Forcer.forces (keys_of c.args.p (g_at (space_of c.args.left.now) c.args.y.now)) (keys_of c.args.p (g_at (space_of c.args.right.now) c.args.z.now)) c.part_g.new.forcer refl (begun g.F.Forcer.forces (keys_of c.args.p (g_tensor c.args.p (space_of c.args.left.now) (space_of c.args.right.now) c.args.y.now c.args.z.now)) c.args.forcer.now) (found-none (λ x. formal c.args.p (quote_chain (space_of c.args.left.now) x)) c.args.p (g_at (space_of c.args.left.now) c.args.y.now) _ c.in-Value.u c.in-Value.is c.in_ok-over.ensures.found) c.in_ok-over.ensures.through) (found-none (λ x. formal c.args.p (quote_chain (space_of c.args.right.now) x)) c.args.p (g_at (space_of c.args.right.now) c.args.z.now) _ c.in-Value-2.v c.in-Value-2.is c.in_ok-over-2.ensures.found) c.in_ok-over-2.ensures.through),
  product-found c.args.p (space_of c.args.left.now) (space_of c.args.right.now) c.requires.left_part.cells c.requires.right_part.cells
      (value (number c.args.p) (g_of (space_of c.args.left.now) (small_form c.args.y.now (space_of c.args.left.now)))) (value (number c.args.p) (g_of (space_of c.args.right.now) (small_form c.args.z.now (space_of c.args.right.now))))
      (c.requires.left_part.in_g (small_form c.args.y.now (space_of c.args.left.now)) c.requires.valid.0) (c.requires.right_part.in_g (small_form c.args.z.now (space_of c.args.right.now)) c.requires.valid.1.0)
      c.in-Value.u c.in-Value-2.v
      (found-value (λ x. formal c.args.p (quote_chain (space_of c.args.left.now) x)) c.args.p (g_at (space_of c.args.left.now) c.args.y.now) _ c.in-Value.u c.in-Value.is c.in_ok-over.ensures.found)
      (found-value (λ x. formal c.args.p (quote_chain (space_of c.args.right.now) x)) c.args.p (g_at (space_of c.args.right.now) c.args.z.now) _ c.in-Value-2.v c.in-Value-2.is c.in_ok-over-2.ensures.found)
      c.in_ok-product_of.field-0 c.in_ok-product_of.ensures.prime c.in_ok-product_of.ensures.product,
)
