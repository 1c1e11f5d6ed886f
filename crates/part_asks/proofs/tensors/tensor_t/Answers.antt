use Rattle.std.proofs.Common.{[], ◌++◌, refl, sym, ◌∙◌, ap}
use Rattle.fp_field.specs.Chains.{scale}
use Rattle.fp_field.specs.Field.{number, sign}
use Rattle.fp_field.specs.Normal.{normal}
use Rattle.fp_field.specs.Reduction.{one}
use Rattle.cells.proofs.OneKey.{one_cell}
use Rattle.chain_core.specs.Formal.{Formal}
use Rattle.cells.specs.declared.cells.Cell.{Cell}
use Rattle.cells.specs.declared.cells.SmallCell.{SmallCell}
use Rattle.ez_maps.specs.Tensors.{tensor_cmp}
use Rattle.tensor_red.specs.Tensors.{tensors}
use Rattle.tensor_red.specs.Products.{product_in}
use Rattle.term_lang.specs.SpaceOf.{space_of}
use Rattle.oracle_iface.specs.Keys.{formal, quote_chain, quote_small_chain}
use Rattle.part_asks.specs.Along.{g_along, read_smalls}
use Rattle.part_asks.specs.Askers.{t_tensor}
use Rattle.part_asks.specs.OneKey.{f_at, h_at}
use Rattle.part_asks.specs.Reading.{keys_of}
use Rattle.part_asks.proofs.HomotopySteps.{image, image-own, valid-found, split-keys, split-found, homotopy-found}
use Rattle.part_asks.proofs.Reached.{begun, passed, left-same, nothing-more, asked-so_far, asked-within, refused-within, through-within, none-refused, through-all, may-next}
use Rattle.part_asks.proofs.Readings.{found-none, found-value, found-over}
use Rattle.part_asks.proofs.tensors.tensor_t.Goals as goal

pub part_h-requires-clause-asks : goal.part_h-requires-clause-asks
part_h-requires-clause-asks g c =
    may-next g.F.Forcer.may_force g.F.Forcer.forces (left-same g.F.Forcer.forces ((keys_of c.args.left.now.prime (h_at (space_of c.args.left.now.term) c.args.x.now.left)) ++ ((keys_of c.args.left.now.prime (f_at (space_of c.args.left.now.term) c.args.x.now.left)) ++ ((keys_of c.args.left.now.prime (g_along c.args.left.now.prime (space_of c.args.left.now.term) (image c.args.left.now.prime (space_of c.args.left.now.term) (space_of c.args.right.now.term) c.args.x.now))) ++ (keys_of c.args.left.now.prime (h_at (space_of c.args.right.now.term) c.args.x.now.right))))) (split-keys c.args.left.now.prime (space_of c.args.left.now.term) (space_of c.args.right.now.term) c.args.x.now) (begun g.F.Forcer.forces (keys_of c.args.left.now.prime (t_tensor c.args.left.now.prime (space_of c.args.left.now.term) (space_of c.args.right.now.term) c.args.x.now)) c.args.forcer.now)) c.requires.asks (keys_of c.args.left.now.prime (h_at (space_of c.args.left.now.term) c.args.x.now.left)) ((keys_of c.args.left.now.prime (f_at (space_of c.args.left.now.term) c.args.x.now.left)) ++ ((keys_of c.args.left.now.prime (g_along c.args.left.now.prime (space_of c.args.left.now.term) (image c.args.left.now.prime (space_of c.args.left.now.term) (space_of c.args.right.now.term) c.args.x.now))) ++ (keys_of c.args.left.now.prime (h_at (space_of c.args.right.now.term) c.args.x.now.right)))) refl

pub returns-in_err-over-clause-asked : goal.returns-in_err-over-clause-asked
returns-in_err-over-clause-asked g c =
    asked-within g.F.Forcer.forces (left-same g.F.Forcer.forces ((keys_of c.args.left.now.prime (h_at (space_of c.args.left.now.term) c.args.x.now.left)) ++ ((keys_of c.args.left.now.prime (f_at (space_of c.args.left.now.term) c.args.x.now.left)) ++ ((keys_of c.args.left.now.prime (g_along c.args.left.now.prime (space_of c.args.left.now.term) (image c.args.left.now.prime (space_of c.args.left.now.term) (space_of c.args.right.now.term) c.args.x.now))) ++ (keys_of c.args.left.now.prime (h_at (space_of c.args.right.now.term) c.args.x.now.right))))) (split-keys c.args.left.now.prime (space_of c.args.left.now.term) (space_of c.args.right.now.term) c.args.x.now) (begun g.F.Forcer.forces (keys_of c.args.left.now.prime (t_tensor c.args.left.now.prime (space_of c.args.left.now.term) (space_of c.args.right.now.term) c.args.x.now)) c.args.forcer.now)) (keys_of c.args.left.now.prime (h_at (space_of c.args.left.now.term) c.args.x.now.left)) ((keys_of c.args.left.now.prime (f_at (space_of c.args.left.now.term) c.args.x.now.left)) ++ ((keys_of c.args.left.now.prime (g_along c.args.left.now.prime (space_of c.args.left.now.term) (image c.args.left.now.prime (space_of c.args.left.now.term) (space_of c.args.right.now.term) c.args.x.now))) ++ (keys_of c.args.left.now.prime (h_at (space_of c.args.right.now.term) c.args.x.now.right)))) refl c.part_h.new.forcer c.part_h.ensures.asked

pub returns-in-Over-clause-asked : goal.returns-in-Over-clause-asked
returns-in-Over-clause-asked g c =
    asked-within g.F.Forcer.forces (left-same g.F.Forcer.forces ((keys_of c.args.left.now.prime (h_at (space_of c.args.left.now.term) c.args.x.now.left)) ++ ((keys_of c.args.left.now.prime (f_at (space_of c.args.left.now.term) c.args.x.now.left)) ++ ((keys_of c.args.left.now.prime (g_along c.args.left.now.prime (space_of c.args.left.now.term) (image c.args.left.now.prime (space_of c.args.left.now.term) (space_of c.args.right.now.term) c.args.x.now))) ++ (keys_of c.args.left.now.prime (h_at (space_of c.args.right.now.term) c.args.x.now.right))))) (split-keys c.args.left.now.prime (space_of c.args.left.now.term) (space_of c.args.right.now.term) c.args.x.now) (begun g.F.Forcer.forces (keys_of c.args.left.now.prime (t_tensor c.args.left.now.prime (space_of c.args.left.now.term) (space_of c.args.right.now.term) c.args.x.now)) c.args.forcer.now)) (keys_of c.args.left.now.prime (h_at (space_of c.args.left.now.term) c.args.x.now.left)) ((keys_of c.args.left.now.prime (f_at (space_of c.args.left.now.term) c.args.x.now.left)) ++ ((keys_of c.args.left.now.prime (g_along c.args.left.now.prime (space_of c.args.left.now.term) (image c.args.left.now.prime (space_of c.args.left.now.term) (space_of c.args.right.now.term) c.args.x.now))) ++ (keys_of c.args.left.now.prime (h_at (space_of c.args.right.now.term) c.args.x.now.right)))) refl c.part_h.new.forcer c.part_h.ensures.asked

pub returns-in-Over-clause-through : goal.returns-in-Over-clause-through
returns-in-Over-clause-through g c =
    through-within g.F.Forcer.forces (left-same g.F.Forcer.forces ((keys_of c.args.left.now.prime (h_at (space_of c.args.left.now.term) c.args.x.now.left)) ++ ((keys_of c.args.left.now.prime (f_at (space_of c.args.left.now.term) c.args.x.now.left)) ++ ((keys_of c.args.left.now.prime (g_along c.args.left.now.prime (space_of c.args.left.now.term) (image c.args.left.now.prime (space_of c.args.left.now.term) (space_of c.args.right.now.term) c.args.x.now))) ++ (keys_of c.args.left.now.prime (h_at (space_of c.args.right.now.term) c.args.x.now.right))))) (split-keys c.args.left.now.prime (space_of c.args.left.now.term) (space_of c.args.right.now.term) c.args.x.now) (begun g.F.Forcer.forces (keys_of c.args.left.now.prime (t_tensor c.args.left.now.prime (space_of c.args.left.now.term) (space_of c.args.right.now.term) c.args.x.now)) c.args.forcer.now)) (keys_of c.args.left.now.prime (h_at (space_of c.args.left.now.term) c.args.x.now.left)) ((keys_of c.args.left.now.prime (f_at (space_of c.args.left.now.term) c.args.x.now.left)) ++ ((keys_of c.args.left.now.prime (g_along c.args.left.now.prime (space_of c.args.left.now.term) (image c.args.left.now.prime (space_of c.args.left.now.term) (space_of c.args.right.now.term) c.args.x.now))) ++ (keys_of c.args.left.now.prime (h_at (space_of c.args.right.now.term) c.args.x.now.right)))) refl c.part_h.new.forcer c.in-Over.over (found-over (λ z. formal c.args.left.now.prime (quote_chain (space_of c.args.left.now.term) z)) c.args.left.now.prime (h_at (space_of c.args.left.now.term) c.args.x.now.left) _ c.in-Over.over c.in-Over.is c.in_ok-over.ensures.found) c.in_ok-over.ensures.through

pub returns-in-Over-clause-found : goal.returns-in-Over-clause-found
returns-in-Over-clause-found g c =
    refused-within g.F.Forcer.forces (left-same g.F.Forcer.forces ((keys_of c.args.left.now.prime (h_at (space_of c.args.left.now.term) c.args.x.now.left)) ++ ((keys_of c.args.left.now.prime (f_at (space_of c.args.left.now.term) c.args.x.now.left)) ++ ((keys_of c.args.left.now.prime (g_along c.args.left.now.prime (space_of c.args.left.now.term) (image c.args.left.now.prime (space_of c.args.left.now.term) (space_of c.args.right.now.term) c.args.x.now))) ++ (keys_of c.args.left.now.prime (h_at (space_of c.args.right.now.term) c.args.x.now.right))))) (split-keys c.args.left.now.prime (space_of c.args.left.now.term) (space_of c.args.right.now.term) c.args.x.now) (begun g.F.Forcer.forces (keys_of c.args.left.now.prime (t_tensor c.args.left.now.prime (space_of c.args.left.now.term) (space_of c.args.right.now.term) c.args.x.now)) c.args.forcer.now)) (keys_of c.args.left.now.prime (h_at (space_of c.args.left.now.term) c.args.x.now.left)) ((keys_of c.args.left.now.prime (f_at (space_of c.args.left.now.term) c.args.x.now.left)) ++ ((keys_of c.args.left.now.prime (g_along c.args.left.now.prime (space_of c.args.left.now.term) (image c.args.left.now.prime (space_of c.args.left.now.term) (space_of c.args.right.now.term) c.args.x.now))) ++ (keys_of c.args.left.now.prime (h_at (space_of c.args.right.now.term) c.args.x.now.right)))) refl c.part_h.new.forcer c.in-Over.over (found-over (λ z. formal c.args.left.now.prime (quote_chain (space_of c.args.left.now.term) z)) c.args.left.now.prime (h_at (space_of c.args.left.now.term) c.args.x.now.left) _ c.in-Over.over c.in-Over.is c.in_ok-over.ensures.found)

pub part_f-requires-clause-asks : goal.part_f-requires-clause-asks
part_f-requires-clause-asks g c =
    may-next g.F.Forcer.may_force g.F.Forcer.forces (passed g.F.Forcer.forces (keys_of c.args.left.now.prime (h_at (space_of c.args.left.now.term) c.args.x.now.left)) ((keys_of c.args.left.now.prime (f_at (space_of c.args.left.now.term) c.args.x.now.left)) ++ ((keys_of c.args.left.now.prime (g_along c.args.left.now.prime (space_of c.args.left.now.term) (image c.args.left.now.prime (space_of c.args.left.now.term) (space_of c.args.right.now.term) c.args.x.now))) ++ (keys_of c.args.left.now.prime (h_at (space_of c.args.right.now.term) c.args.x.now.right)))) c.part_h.new.forcer refl (left-same g.F.Forcer.forces ((keys_of c.args.left.now.prime (h_at (space_of c.args.left.now.term) c.args.x.now.left)) ++ ((keys_of c.args.left.now.prime (f_at (space_of c.args.left.now.term) c.args.x.now.left)) ++ ((keys_of c.args.left.now.prime (g_along c.args.left.now.prime (space_of c.args.left.now.term) (image c.args.left.now.prime (space_of c.args.left.now.term) (space_of c.args.right.now.term) c.args.x.now))) ++ (keys_of c.args.left.now.prime (h_at (space_of c.args.right.now.term) c.args.x.now.right))))) (split-keys c.args.left.now.prime (space_of c.args.left.now.term) (space_of c.args.right.now.term) c.args.x.now) (begun g.F.Forcer.forces (keys_of c.args.left.now.prime (t_tensor c.args.left.now.prime (space_of c.args.left.now.term) (space_of c.args.right.now.term) c.args.x.now)) c.args.forcer.now)) (found-none (λ z. formal c.args.left.now.prime (quote_chain (space_of c.args.left.now.term) z)) c.args.left.now.prime (h_at (space_of c.args.left.now.term) c.args.x.now.left) _ c.in-Value.own c.in-Value.is c.in_ok-over.ensures.found) c.in_ok-over.ensures.through) c.requires.asks (keys_of c.args.left.now.prime (f_at (space_of c.args.left.now.term) c.args.x.now.left)) ((keys_of c.args.left.now.prime (g_along c.args.left.now.prime (space_of c.args.left.now.term) (image c.args.left.now.prime (space_of c.args.left.now.term) (space_of c.args.right.now.term) c.args.x.now))) ++ (keys_of c.args.left.now.prime (h_at (space_of c.args.right.now.term) c.args.x.now.right))) refl

pub returns-in_err-over-2-clause-asked : goal.returns-in_err-over-2-clause-asked
returns-in_err-over-2-clause-asked g c =
    asked-within g.F.Forcer.forces (passed g.F.Forcer.forces (keys_of c.args.left.now.prime (h_at (space_of c.args.left.now.term) c.args.x.now.left)) ((keys_of c.args.left.now.prime (f_at (space_of c.args.left.now.term) c.args.x.now.left)) ++ ((keys_of c.args.left.now.prime (g_along c.args.left.now.prime (space_of c.args.left.now.term) (image c.args.left.now.prime (space_of c.args.left.now.term) (space_of c.args.right.now.term) c.args.x.now))) ++ (keys_of c.args.left.now.prime (h_at (space_of c.args.right.now.term) c.args.x.now.right)))) c.part_h.new.forcer refl (left-same g.F.Forcer.forces ((keys_of c.args.left.now.prime (h_at (space_of c.args.left.now.term) c.args.x.now.left)) ++ ((keys_of c.args.left.now.prime (f_at (space_of c.args.left.now.term) c.args.x.now.left)) ++ ((keys_of c.args.left.now.prime (g_along c.args.left.now.prime (space_of c.args.left.now.term) (image c.args.left.now.prime (space_of c.args.left.now.term) (space_of c.args.right.now.term) c.args.x.now))) ++ (keys_of c.args.left.now.prime (h_at (space_of c.args.right.now.term) c.args.x.now.right))))) (split-keys c.args.left.now.prime (space_of c.args.left.now.term) (space_of c.args.right.now.term) c.args.x.now) (begun g.F.Forcer.forces (keys_of c.args.left.now.prime (t_tensor c.args.left.now.prime (space_of c.args.left.now.term) (space_of c.args.right.now.term) c.args.x.now)) c.args.forcer.now)) (found-none (λ z. formal c.args.left.now.prime (quote_chain (space_of c.args.left.now.term) z)) c.args.left.now.prime (h_at (space_of c.args.left.now.term) c.args.x.now.left) _ c.in-Value.own c.in-Value.is c.in_ok-over.ensures.found) c.in_ok-over.ensures.through) (keys_of c.args.left.now.prime (f_at (space_of c.args.left.now.term) c.args.x.now.left)) ((keys_of c.args.left.now.prime (g_along c.args.left.now.prime (space_of c.args.left.now.term) (image c.args.left.now.prime (space_of c.args.left.now.term) (space_of c.args.right.now.term) c.args.x.now))) ++ (keys_of c.args.left.now.prime (h_at (space_of c.args.right.now.term) c.args.x.now.right))) refl c.part_f.new.forcer c.part_f.ensures.asked

pub returns-in-Over-2-clause-asked : goal.returns-in-Over-2-clause-asked
returns-in-Over-2-clause-asked g c =
    asked-within g.F.Forcer.forces (passed g.F.Forcer.forces (keys_of c.args.left.now.prime (h_at (space_of c.args.left.now.term) c.args.x.now.left)) ((keys_of c.args.left.now.prime (f_at (space_of c.args.left.now.term) c.args.x.now.left)) ++ ((keys_of c.args.left.now.prime (g_along c.args.left.now.prime (space_of c.args.left.now.term) (image c.args.left.now.prime (space_of c.args.left.now.term) (space_of c.args.right.now.term) c.args.x.now))) ++ (keys_of c.args.left.now.prime (h_at (space_of c.args.right.now.term) c.args.x.now.right)))) c.part_h.new.forcer refl (left-same g.F.Forcer.forces ((keys_of c.args.left.now.prime (h_at (space_of c.args.left.now.term) c.args.x.now.left)) ++ ((keys_of c.args.left.now.prime (f_at (space_of c.args.left.now.term) c.args.x.now.left)) ++ ((keys_of c.args.left.now.prime (g_along c.args.left.now.prime (space_of c.args.left.now.term) (image c.args.left.now.prime (space_of c.args.left.now.term) (space_of c.args.right.now.term) c.args.x.now))) ++ (keys_of c.args.left.now.prime (h_at (space_of c.args.right.now.term) c.args.x.now.right))))) (split-keys c.args.left.now.prime (space_of c.args.left.now.term) (space_of c.args.right.now.term) c.args.x.now) (begun g.F.Forcer.forces (keys_of c.args.left.now.prime (t_tensor c.args.left.now.prime (space_of c.args.left.now.term) (space_of c.args.right.now.term) c.args.x.now)) c.args.forcer.now)) (found-none (λ z. formal c.args.left.now.prime (quote_chain (space_of c.args.left.now.term) z)) c.args.left.now.prime (h_at (space_of c.args.left.now.term) c.args.x.now.left) _ c.in-Value.own c.in-Value.is c.in_ok-over.ensures.found) c.in_ok-over.ensures.through) (keys_of c.args.left.now.prime (f_at (space_of c.args.left.now.term) c.args.x.now.left)) ((keys_of c.args.left.now.prime (g_along c.args.left.now.prime (space_of c.args.left.now.term) (image c.args.left.now.prime (space_of c.args.left.now.term) (space_of c.args.right.now.term) c.args.x.now))) ++ (keys_of c.args.left.now.prime (h_at (space_of c.args.right.now.term) c.args.x.now.right))) refl c.part_f.new.forcer c.part_f.ensures.asked

pub returns-in-Over-2-clause-through : goal.returns-in-Over-2-clause-through
returns-in-Over-2-clause-through g c =
    through-within g.F.Forcer.forces (passed g.F.Forcer.forces (keys_of c.args.left.now.prime (h_at (space_of c.args.left.now.term) c.args.x.now.left)) ((keys_of c.args.left.now.prime (f_at (space_of c.args.left.now.term) c.args.x.now.left)) ++ ((keys_of c.args.left.now.prime (g_along c.args.left.now.prime (space_of c.args.left.now.term) (image c.args.left.now.prime (space_of c.args.left.now.term) (space_of c.args.right.now.term) c.args.x.now))) ++ (keys_of c.args.left.now.prime (h_at (space_of c.args.right.now.term) c.args.x.now.right)))) c.part_h.new.forcer refl (left-same g.F.Forcer.forces ((keys_of c.args.left.now.prime (h_at (space_of c.args.left.now.term) c.args.x.now.left)) ++ ((keys_of c.args.left.now.prime (f_at (space_of c.args.left.now.term) c.args.x.now.left)) ++ ((keys_of c.args.left.now.prime (g_along c.args.left.now.prime (space_of c.args.left.now.term) (image c.args.left.now.prime (space_of c.args.left.now.term) (space_of c.args.right.now.term) c.args.x.now))) ++ (keys_of c.args.left.now.prime (h_at (space_of c.args.right.now.term) c.args.x.now.right))))) (split-keys c.args.left.now.prime (space_of c.args.left.now.term) (space_of c.args.right.now.term) c.args.x.now) (begun g.F.Forcer.forces (keys_of c.args.left.now.prime (t_tensor c.args.left.now.prime (space_of c.args.left.now.term) (space_of c.args.right.now.term) c.args.x.now)) c.args.forcer.now)) (found-none (λ z. formal c.args.left.now.prime (quote_chain (space_of c.args.left.now.term) z)) c.args.left.now.prime (h_at (space_of c.args.left.now.term) c.args.x.now.left) _ c.in-Value.own c.in-Value.is c.in_ok-over.ensures.found) c.in_ok-over.ensures.through) (keys_of c.args.left.now.prime (f_at (space_of c.args.left.now.term) c.args.x.now.left)) ((keys_of c.args.left.now.prime (g_along c.args.left.now.prime (space_of c.args.left.now.term) (image c.args.left.now.prime (space_of c.args.left.now.term) (space_of c.args.right.now.term) c.args.x.now))) ++ (keys_of c.args.left.now.prime (h_at (space_of c.args.right.now.term) c.args.x.now.right))) refl c.part_f.new.forcer c.in-Over-2.over (found-over (λ z. formal c.args.left.now.prime (quote_small_chain (space_of c.args.left.now.term) z)) c.args.left.now.prime (f_at (space_of c.args.left.now.term) c.args.x.now.left) _ c.in-Over-2.over c.in-Over-2.is c.in_ok-over-2.ensures.found) c.in_ok-over-2.ensures.through

pub returns-in-Over-2-clause-found : goal.returns-in-Over-2-clause-found
returns-in-Over-2-clause-found g c =
    refused-within g.F.Forcer.forces (passed g.F.Forcer.forces (keys_of c.args.left.now.prime (h_at (space_of c.args.left.now.term) c.args.x.now.left)) ((keys_of c.args.left.now.prime (f_at (space_of c.args.left.now.term) c.args.x.now.left)) ++ ((keys_of c.args.left.now.prime (g_along c.args.left.now.prime (space_of c.args.left.now.term) (image c.args.left.now.prime (space_of c.args.left.now.term) (space_of c.args.right.now.term) c.args.x.now))) ++ (keys_of c.args.left.now.prime (h_at (space_of c.args.right.now.term) c.args.x.now.right)))) c.part_h.new.forcer refl (left-same g.F.Forcer.forces ((keys_of c.args.left.now.prime (h_at (space_of c.args.left.now.term) c.args.x.now.left)) ++ ((keys_of c.args.left.now.prime (f_at (space_of c.args.left.now.term) c.args.x.now.left)) ++ ((keys_of c.args.left.now.prime (g_along c.args.left.now.prime (space_of c.args.left.now.term) (image c.args.left.now.prime (space_of c.args.left.now.term) (space_of c.args.right.now.term) c.args.x.now))) ++ (keys_of c.args.left.now.prime (h_at (space_of c.args.right.now.term) c.args.x.now.right))))) (split-keys c.args.left.now.prime (space_of c.args.left.now.term) (space_of c.args.right.now.term) c.args.x.now) (begun g.F.Forcer.forces (keys_of c.args.left.now.prime (t_tensor c.args.left.now.prime (space_of c.args.left.now.term) (space_of c.args.right.now.term) c.args.x.now)) c.args.forcer.now)) (found-none (λ z. formal c.args.left.now.prime (quote_chain (space_of c.args.left.now.term) z)) c.args.left.now.prime (h_at (space_of c.args.left.now.term) c.args.x.now.left) _ c.in-Value.own c.in-Value.is c.in_ok-over.ensures.found) c.in_ok-over.ensures.through) (keys_of c.args.left.now.prime (f_at (space_of c.args.left.now.term) c.args.x.now.left)) ((keys_of c.args.left.now.prime (g_along c.args.left.now.prime (space_of c.args.left.now.term) (image c.args.left.now.prime (space_of c.args.left.now.term) (space_of c.args.right.now.term) c.args.x.now))) ++ (keys_of c.args.left.now.prime (h_at (space_of c.args.right.now.term) c.args.x.now.right))) refl c.part_f.new.forcer c.in-Over-2.over (found-over (λ z. formal c.args.left.now.prime (quote_small_chain (space_of c.args.left.now.term) z)) c.args.left.now.prime (f_at (space_of c.args.left.now.term) c.args.x.now.left) _ c.in-Over-2.over c.in-Over-2.is c.in_ok-over-2.ensures.found)

pub along_g-requires-clause-asks : goal.along_g-requires-clause-asks
along_g-requires-clause-asks g c =
    may-next g.F.Forcer.may_force g.F.Forcer.forces (passed g.F.Forcer.forces (keys_of c.args.left.now.prime (f_at (space_of c.args.left.now.term) c.args.x.now.left)) ((keys_of c.args.left.now.prime (g_along c.args.left.now.prime (space_of c.args.left.now.term) (read_smalls (space_of c.args.left.now.term) c.in-Value-2.image.terms))) ++ (keys_of c.args.left.now.prime (h_at (space_of c.args.right.now.term) c.args.x.now.right))) c.part_f.new.forcer refl (passed g.F.Forcer.forces (keys_of c.args.left.now.prime (h_at (space_of c.args.left.now.term) c.args.x.now.left)) ((keys_of c.args.left.now.prime (f_at (space_of c.args.left.now.term) c.args.x.now.left)) ++ ((keys_of c.args.left.now.prime (g_along c.args.left.now.prime (space_of c.args.left.now.term) (read_smalls (space_of c.args.left.now.term) c.in-Value-2.image.terms))) ++ (keys_of c.args.left.now.prime (h_at (space_of c.args.right.now.term) c.args.x.now.right)))) c.part_h.new.forcer refl (left-same g.F.Forcer.forces ((keys_of c.args.left.now.prime (h_at (space_of c.args.left.now.term) c.args.x.now.left)) ++ ((keys_of c.args.left.now.prime (f_at (space_of c.args.left.now.term) c.args.x.now.left)) ++ ((keys_of c.args.left.now.prime (g_along c.args.left.now.prime (space_of c.args.left.now.term) (read_smalls (space_of c.args.left.now.term) c.in-Value-2.image.terms))) ++ (keys_of c.args.left.now.prime (h_at (space_of c.args.right.now.term) c.args.x.now.right))))) (split-found c.args.left.now.prime (space_of c.args.left.now.term) (space_of c.args.right.now.term) c.args.x.now c.requires.valid c.requires.left_part c.requires.right_part c.requires.right_cell c.in-Value-2.image (found-value (λ z. formal c.args.left.now.prime (quote_small_chain (space_of c.args.left.now.term) z)) c.args.left.now.prime (f_at (space_of c.args.left.now.term) c.args.x.now.left) _ c.in-Value-2.image c.in-Value-2.is c.in_ok-over-2.ensures.found)) (begun g.F.Forcer.forces (keys_of c.args.left.now.prime (t_tensor c.args.left.now.prime (space_of c.args.left.now.term) (space_of c.args.right.now.term) c.args.x.now)) c.args.forcer.now)) (found-none (λ z. formal c.args.left.now.prime (quote_chain (space_of c.args.left.now.term) z)) c.args.left.now.prime (h_at (space_of c.args.left.now.term) c.args.x.now.left) _ c.in-Value.own c.in-Value.is c.in_ok-over.ensures.found) c.in_ok-over.ensures.through) (found-none (λ z. formal c.args.left.now.prime (quote_small_chain (space_of c.args.left.now.term) z)) c.args.left.now.prime (f_at (space_of c.args.left.now.term) c.args.x.now.left) _ c.in-Value-2.image c.in-Value-2.is c.in_ok-over-2.ensures.found) c.in_ok-over-2.ensures.through) c.requires.asks (keys_of c.args.left.now.prime (g_along c.args.left.now.prime (space_of c.args.left.now.term) (read_smalls (space_of c.args.left.now.term) c.in-Value-2.image.terms))) (keys_of c.args.left.now.prime (h_at (space_of c.args.right.now.term) c.args.x.now.right)) refl

pub along_g-requires-clause-prime : goal.along_g-requires-clause-prime
along_g-requires-clause-prime g c =
    ap (λ (z : Formal SmallCell). z.prime) (found-value (λ z. formal c.args.left.now.prime (quote_small_chain (space_of c.args.left.now.term) z)) c.args.left.now.prime (f_at (space_of c.args.left.now.term) c.args.x.now.left) _ c.in-Value-2.image c.in-Value-2.is c.in_ok-over-2.ensures.found)

pub along_g-requires-clause-cells : goal.along_g-requires-clause-cells
along_g-requires-clause-cells g c =
    image-own c.args.left.now.prime (space_of c.args.left.now.term) (space_of c.args.right.now.term) c.args.x.now c.requires.valid c.requires.left_part c.requires.right_part c.requires.right_cell c.in-Value-2.image (found-value (λ z. formal c.args.left.now.prime (quote_small_chain (space_of c.args.left.now.term) z)) c.args.left.now.prime (f_at (space_of c.args.left.now.term) c.args.x.now.left) _ c.in-Value-2.image c.in-Value-2.is c.in_ok-over-2.ensures.found)

pub along_g-requires-clause-valid : goal.along_g-requires-clause-valid
along_g-requires-clause-valid g c =
    valid-found c.args.left.now.prime (space_of c.args.left.now.term) (space_of c.args.right.now.term) c.args.x.now c.requires.valid c.requires.left_part c.requires.right_part c.requires.right_cell c.in-Value-2.image (found-value (λ z. formal c.args.left.now.prime (quote_small_chain (space_of c.args.left.now.term) z)) c.args.left.now.prime (f_at (space_of c.args.left.now.term) c.args.x.now.left) _ c.in-Value-2.image c.in-Value-2.is c.in_ok-over-2.ensures.found)

pub returns-in_err-over-3-clause-asked : goal.returns-in_err-over-3-clause-asked
returns-in_err-over-3-clause-asked g c =
    asked-within g.F.Forcer.forces (passed g.F.Forcer.forces (keys_of c.args.left.now.prime (f_at (space_of c.args.left.now.term) c.args.x.now.left)) ((keys_of c.args.left.now.prime (g_along c.args.left.now.prime (space_of c.args.left.now.term) (read_smalls (space_of c.args.left.now.term) c.in-Value-2.image.terms))) ++ (keys_of c.args.left.now.prime (h_at (space_of c.args.right.now.term) c.args.x.now.right))) c.part_f.new.forcer refl (passed g.F.Forcer.forces (keys_of c.args.left.now.prime (h_at (space_of c.args.left.now.term) c.args.x.now.left)) ((keys_of c.args.left.now.prime (f_at (space_of c.args.left.now.term) c.args.x.now.left)) ++ ((keys_of c.args.left.now.prime (g_along c.args.left.now.prime (space_of c.args.left.now.term) (read_smalls (space_of c.args.left.now.term) c.in-Value-2.image.terms))) ++ (keys_of c.args.left.now.prime (h_at (space_of c.args.right.now.term) c.args.x.now.right)))) c.part_h.new.forcer refl (left-same g.F.Forcer.forces ((keys_of c.args.left.now.prime (h_at (space_of c.args.left.now.term) c.args.x.now.left)) ++ ((keys_of c.args.left.now.prime (f_at (space_of c.args.left.now.term) c.args.x.now.left)) ++ ((keys_of c.args.left.now.prime (g_along c.args.left.now.prime (space_of c.args.left.now.term) (read_smalls (space_of c.args.left.now.term) c.in-Value-2.image.terms))) ++ (keys_of c.args.left.now.prime (h_at (space_of c.args.right.now.term) c.args.x.now.right))))) (split-found c.args.left.now.prime (space_of c.args.left.now.term) (space_of c.args.right.now.term) c.args.x.now c.requires.valid c.requires.left_part c.requires.right_part c.requires.right_cell c.in-Value-2.image (found-value (λ z. formal c.args.left.now.prime (quote_small_chain (space_of c.args.left.now.term) z)) c.args.left.now.prime (f_at (space_of c.args.left.now.term) c.args.x.now.left) _ c.in-Value-2.image c.in-Value-2.is c.in_ok-over-2.ensures.found)) (begun g.F.Forcer.forces (keys_of c.args.left.now.prime (t_tensor c.args.left.now.prime (space_of c.args.left.now.term) (space_of c.args.right.now.term) c.args.x.now)) c.args.forcer.now)) (found-none (λ z. formal c.args.left.now.prime (quote_chain (space_of c.args.left.now.term) z)) c.args.left.now.prime (h_at (space_of c.args.left.now.term) c.args.x.now.left) _ c.in-Value.own c.in-Value.is c.in_ok-over.ensures.found) c.in_ok-over.ensures.through) (found-none (λ z. formal c.args.left.now.prime (quote_small_chain (space_of c.args.left.now.term) z)) c.args.left.now.prime (f_at (space_of c.args.left.now.term) c.args.x.now.left) _ c.in-Value-2.image c.in-Value-2.is c.in_ok-over-2.ensures.found) c.in_ok-over-2.ensures.through) (keys_of c.args.left.now.prime (g_along c.args.left.now.prime (space_of c.args.left.now.term) (read_smalls (space_of c.args.left.now.term) c.in-Value-2.image.terms))) (keys_of c.args.left.now.prime (h_at (space_of c.args.right.now.term) c.args.x.now.right)) refl c.along_g.new.forcer c.along_g.ensures.asked

pub returns-in-Over-3-clause-asked : goal.returns-in-Over-3-clause-asked
returns-in-Over-3-clause-asked g c =
    asked-within g.F.Forcer.forces (passed g.F.Forcer.forces (keys_of c.args.left.now.prime (f_at (space_of c.args.left.now.term) c.args.x.now.left)) ((keys_of c.args.left.now.prime (g_along c.args.left.now.prime (space_of c.args.left.now.term) (read_smalls (space_of c.args.left.now.term) c.in-Value-2.image.terms))) ++ (keys_of c.args.left.now.prime (h_at (space_of c.args.right.now.term) c.args.x.now.right))) c.part_f.new.forcer refl (passed g.F.Forcer.forces (keys_of c.args.left.now.prime (h_at (space_of c.args.left.now.term) c.args.x.now.left)) ((keys_of c.args.left.now.prime (f_at (space_of c.args.left.now.term) c.args.x.now.left)) ++ ((keys_of c.args.left.now.prime (g_along c.args.left.now.prime (space_of c.args.left.now.term) (read_smalls (space_of c.args.left.now.term) c.in-Value-2.image.terms))) ++ (keys_of c.args.left.now.prime (h_at (space_of c.args.right.now.term) c.args.x.now.right)))) c.part_h.new.forcer refl (left-same g.F.Forcer.forces ((keys_of c.args.left.now.prime (h_at (space_of c.args.left.now.term) c.args.x.now.left)) ++ ((keys_of c.args.left.now.prime (f_at (space_of c.args.left.now.term) c.args.x.now.left)) ++ ((keys_of c.args.left.now.prime (g_along c.args.left.now.prime (space_of c.args.left.now.term) (read_smalls (space_of c.args.left.now.term) c.in-Value-2.image.terms))) ++ (keys_of c.args.left.now.prime (h_at (space_of c.args.right.now.term) c.args.x.now.right))))) (split-found c.args.left.now.prime (space_of c.args.left.now.term) (space_of c.args.right.now.term) c.args.x.now c.requires.valid c.requires.left_part c.requires.right_part c.requires.right_cell c.in-Value-2.image (found-value (λ z. formal c.args.left.now.prime (quote_small_chain (space_of c.args.left.now.term) z)) c.args.left.now.prime (f_at (space_of c.args.left.now.term) c.args.x.now.left) _ c.in-Value-2.image c.in-Value-2.is c.in_ok-over-2.ensures.found)) (begun g.F.Forcer.forces (keys_of c.args.left.now.prime (t_tensor c.args.left.now.prime (space_of c.args.left.now.term) (space_of c.args.right.now.term) c.args.x.now)) c.args.forcer.now)) (found-none (λ z. formal c.args.left.now.prime (quote_chain (space_of c.args.left.now.term) z)) c.args.left.now.prime (h_at (space_of c.args.left.now.term) c.args.x.now.left) _ c.in-Value.own c.in-Value.is c.in_ok-over.ensures.found) c.in_ok-over.ensures.through) (found-none (λ z. formal c.args.left.now.prime (quote_small_chain (space_of c.args.left.now.term) z)) c.args.left.now.prime (f_at (space_of c.args.left.now.term) c.args.x.now.left) _ c.in-Value-2.image c.in-Value-2.is c.in_ok-over-2.ensures.found) c.in_ok-over-2.ensures.through) (keys_of c.args.left.now.prime (g_along c.args.left.now.prime (space_of c.args.left.now.term) (read_smalls (space_of c.args.left.now.term) c.in-Value-2.image.terms))) (keys_of c.args.left.now.prime (h_at (space_of c.args.right.now.term) c.args.x.now.right)) refl c.along_g.new.forcer c.along_g.ensures.asked

pub returns-in-Over-3-clause-through : goal.returns-in-Over-3-clause-through
returns-in-Over-3-clause-through g c =
    through-within g.F.Forcer.forces (passed g.F.Forcer.forces (keys_of c.args.left.now.prime (f_at (space_of c.args.left.now.term) c.args.x.now.left)) ((keys_of c.args.left.now.prime (g_along c.args.left.now.prime (space_of c.args.left.now.term) (read_smalls (space_of c.args.left.now.term) c.in-Value-2.image.terms))) ++ (keys_of c.args.left.now.prime (h_at (space_of c.args.right.now.term) c.args.x.now.right))) c.part_f.new.forcer refl (passed g.F.Forcer.forces (keys_of c.args.left.now.prime (h_at (space_of c.args.left.now.term) c.args.x.now.left)) ((keys_of c.args.left.now.prime (f_at (space_of c.args.left.now.term) c.args.x.now.left)) ++ ((keys_of c.args.left.now.prime (g_along c.args.left.now.prime (space_of c.args.left.now.term) (read_smalls (space_of c.args.left.now.term) c.in-Value-2.image.terms))) ++ (keys_of c.args.left.now.prime (h_at (space_of c.args.right.now.term) c.args.x.now.right)))) c.part_h.new.forcer refl (left-same g.F.Forcer.forces ((keys_of c.args.left.now.prime (h_at (space_of c.args.left.now.term) c.args.x.now.left)) ++ ((keys_of c.args.left.now.prime (f_at (space_of c.args.left.now.term) c.args.x.now.left)) ++ ((keys_of c.args.left.now.prime (g_along c.args.left.now.prime (space_of c.args.left.now.term) (read_smalls (space_of c.args.left.now.term) c.in-Value-2.image.terms))) ++ (keys_of c.args.left.now.prime (h_at (space_of c.args.right.now.term) c.args.x.now.right))))) (split-found c.args.left.now.prime (space_of c.args.left.now.term) (space_of c.args.right.now.term) c.args.x.now c.requires.valid c.requires.left_part c.requires.right_part c.requires.right_cell c.in-Value-2.image (found-value (λ z. formal c.args.left.now.prime (quote_small_chain (space_of c.args.left.now.term) z)) c.args.left.now.prime (f_at (space_of c.args.left.now.term) c.args.x.now.left) _ c.in-Value-2.image c.in-Value-2.is c.in_ok-over-2.ensures.found)) (begun g.F.Forcer.forces (keys_of c.args.left.now.prime (t_tensor c.args.left.now.prime (space_of c.args.left.now.term) (space_of c.args.right.now.term) c.args.x.now)) c.args.forcer.now)) (found-none (λ z. formal c.args.left.now.prime (quote_chain (space_of c.args.left.now.term) z)) c.args.left.now.prime (h_at (space_of c.args.left.now.term) c.args.x.now.left) _ c.in-Value.own c.in-Value.is c.in_ok-over.ensures.found) c.in_ok-over.ensures.through) (found-none (λ z. formal c.args.left.now.prime (quote_small_chain (space_of c.args.left.now.term) z)) c.args.left.now.prime (f_at (space_of c.args.left.now.term) c.args.x.now.left) _ c.in-Value-2.image c.in-Value-2.is c.in_ok-over-2.ensures.found) c.in_ok-over-2.ensures.through) (keys_of c.args.left.now.prime (g_along c.args.left.now.prime (space_of c.args.left.now.term) (read_smalls (space_of c.args.left.now.term) c.in-Value-2.image.terms))) (keys_of c.args.left.now.prime (h_at (space_of c.args.right.now.term) c.args.x.now.right)) refl c.along_g.new.forcer c.in-Over-3.over (found-over (λ z. formal c.args.left.now.prime (quote_chain (space_of c.args.left.now.term) z)) c.args.left.now.prime (g_along c.args.left.now.prime (space_of c.args.left.now.term) (read_smalls (space_of c.args.left.now.term) c.in-Value-2.image.terms)) _ c.in-Over-3.over c.in-Over-3.is c.in_ok-over-3.ensures.found) c.in_ok-over-3.ensures.through

pub returns-in-Over-3-clause-found : goal.returns-in-Over-3-clause-found
returns-in-Over-3-clause-found g c =
    refused-within g.F.Forcer.forces (passed g.F.Forcer.forces (keys_of c.args.left.now.prime (f_at (space_of c.args.left.now.term) c.args.x.now.left)) ((keys_of c.args.left.now.prime (g_along c.args.left.now.prime (space_of c.args.left.now.term) (read_smalls (space_of c.args.left.now.term) c.in-Value-2.image.terms))) ++ (keys_of c.args.left.now.prime (h_at (space_of c.args.right.now.term) c.args.x.now.right))) c.part_f.new.forcer refl (passed g.F.Forcer.forces (keys_of c.args.left.now.prime (h_at (space_of c.args.left.now.term) c.args.x.now.left)) ((keys_of c.args.left.now.prime (f_at (space_of c.args.left.now.term) c.args.x.now.left)) ++ ((keys_of c.args.left.now.prime (g_along c.args.left.now.prime (space_of c.args.left.now.term) (read_smalls (space_of c.args.left.now.term) c.in-Value-2.image.terms))) ++ (keys_of c.args.left.now.prime (h_at (space_of c.args.right.now.term) c.args.x.now.right)))) c.part_h.new.forcer refl (left-same g.F.Forcer.forces ((keys_of c.args.left.now.prime (h_at (space_of c.args.left.now.term) c.args.x.now.left)) ++ ((keys_of c.args.left.now.prime (f_at (space_of c.args.left.now.term) c.args.x.now.left)) ++ ((keys_of c.args.left.now.prime (g_along c.args.left.now.prime (space_of c.args.left.now.term) (read_smalls (space_of c.args.left.now.term) c.in-Value-2.image.terms))) ++ (keys_of c.args.left.now.prime (h_at (space_of c.args.right.now.term) c.args.x.now.right))))) (split-found c.args.left.now.prime (space_of c.args.left.now.term) (space_of c.args.right.now.term) c.args.x.now c.requires.valid c.requires.left_part c.requires.right_part c.requires.right_cell c.in-Value-2.image (found-value (λ z. formal c.args.left.now.prime (quote_small_chain (space_of c.args.left.now.term) z)) c.args.left.now.prime (f_at (space_of c.args.left.now.term) c.args.x.now.left) _ c.in-Value-2.image c.in-Value-2.is c.in_ok-over-2.ensures.found)) (begun g.F.Forcer.forces (keys_of c.args.left.now.prime (t_tensor c.args.left.now.prime (space_of c.args.left.now.term) (space_of c.args.right.now.term) c.args.x.now)) c.args.forcer.now)) (found-none (λ z. formal c.args.left.now.prime (quote_chain (space_of c.args.left.now.term) z)) c.args.left.now.prime (h_at (space_of c.args.left.now.term) c.args.x.now.left) _ c.in-Value.own c.in-Value.is c.in_ok-over.ensures.found) c.in_ok-over.ensures.through) (found-none (λ z. formal c.args.left.now.prime (quote_small_chain (space_of c.args.left.now.term) z)) c.args.left.now.prime (f_at (space_of c.args.left.now.term) c.args.x.now.left) _ c.in-Value-2.image c.in-Value-2.is c.in_ok-over-2.ensures.found) c.in_ok-over-2.ensures.through) (keys_of c.args.left.now.prime (g_along c.args.left.now.prime (space_of c.args.left.now.term) (read_smalls (space_of c.args.left.now.term) c.in-Value-2.image.terms))) (keys_of c.args.left.now.prime (h_at (space_of c.args.right.now.term) c.args.x.now.right)) refl c.along_g.new.forcer c.in-Over-3.over (found-over (λ z. formal c.args.left.now.prime (quote_chain (space_of c.args.left.now.term) z)) c.args.left.now.prime (g_along c.args.left.now.prime (space_of c.args.left.now.term) (read_smalls (space_of c.args.left.now.term) c.in-Value-2.image.terms)) _ c.in-Over-3.over c.in-Over-3.is c.in_ok-over-3.ensures.found)

pub part_h-requires-2-clause-asks : goal.part_h-requires-2-clause-asks
part_h-requires-2-clause-asks g c =
    may-next g.F.Forcer.may_force g.F.Forcer.forces (passed g.F.Forcer.forces (keys_of c.args.left.now.prime (g_along c.args.left.now.prime (space_of c.args.left.now.term) (read_smalls (space_of c.args.left.now.term) c.in-Value-2.image.terms))) (keys_of c.args.left.now.prime (h_at (space_of c.args.right.now.term) c.args.x.now.right)) c.along_g.new.forcer refl (passed g.F.Forcer.forces (keys_of c.args.left.now.prime (f_at (space_of c.args.left.now.term) c.args.x.now.left)) ((keys_of c.args.left.now.prime (g_along c.args.left.now.prime (space_of c.args.left.now.term) (read_smalls (space_of c.args.left.now.term) c.in-Value-2.image.terms))) ++ (keys_of c.args.left.now.prime (h_at (space_of c.args.right.now.term) c.args.x.now.right))) c.part_f.new.forcer refl (passed g.F.Forcer.forces (keys_of c.args.left.now.prime (h_at (space_of c.args.left.now.term) c.args.x.now.left)) ((keys_of c.args.left.now.prime (f_at (space_of c.args.left.now.term) c.args.x.now.left)) ++ ((keys_of c.args.left.now.prime (g_along c.args.left.now.prime (space_of c.args.left.now.term) (read_smalls (space_of c.args.left.now.term) c.in-Value-2.image.terms))) ++ (keys_of c.args.left.now.prime (h_at (space_of c.args.right.now.term) c.args.x.now.right)))) c.part_h.new.forcer refl (left-same g.F.Forcer.forces ((keys_of c.args.left.now.prime (h_at (space_of c.args.left.now.term) c.args.x.now.left)) ++ ((keys_of c.args.left.now.prime (f_at (space_of c.args.left.now.term) c.args.x.now.left)) ++ ((keys_of c.args.left.now.prime (g_along c.args.left.now.prime (space_of c.args.left.now.term) (read_smalls (space_of c.args.left.now.term) c.in-Value-2.image.terms))) ++ (keys_of c.args.left.now.prime (h_at (space_of c.args.right.now.term) c.args.x.now.right))))) (split-found c.args.left.now.prime (space_of c.args.left.now.term) (space_of c.args.right.now.term) c.args.x.now c.requires.valid c.requires.left_part c.requires.right_part c.requires.right_cell c.in-Value-2.image (found-value (λ z. formal c.args.left.now.prime (quote_small_chain (space_of c.args.left.now.term) z)) c.args.left.now.prime (f_at (space_of c.args.left.now.term) c.args.x.now.left) _ c.in-Value-2.image c.in-Value-2.is c.in_ok-over-2.ensures.found)) (begun g.F.Forcer.forces (keys_of c.args.left.now.prime (t_tensor c.args.left.now.prime (space_of c.args.left.now.term) (space_of c.args.right.now.term) c.args.x.now)) c.args.forcer.now)) (found-none (λ z. formal c.args.left.now.prime (quote_chain (space_of c.args.left.now.term) z)) c.args.left.now.prime (h_at (space_of c.args.left.now.term) c.args.x.now.left) _ c.in-Value.own c.in-Value.is c.in_ok-over.ensures.found) c.in_ok-over.ensures.through) (found-none (λ z. formal c.args.left.now.prime (quote_small_chain (space_of c.args.left.now.term) z)) c.args.left.now.prime (f_at (space_of c.args.left.now.term) c.args.x.now.left) _ c.in-Value-2.image c.in-Value-2.is c.in_ok-over-2.ensures.found) c.in_ok-over-2.ensures.through) (found-none (λ z. formal c.args.left.now.prime (quote_chain (space_of c.args.left.now.term) z)) c.args.left.now.prime (g_along c.args.left.now.prime (space_of c.args.left.now.term) (read_smalls (space_of c.args.left.now.term) c.in-Value-2.image.terms)) _ c.in-Value-3.back c.in-Value-3.is c.in_ok-over-3.ensures.found) c.in_ok-over-3.ensures.through) c.requires.asks (keys_of c.args.left.now.prime (h_at (space_of c.args.right.now.term) c.args.x.now.right)) [] (sym (nothing-more (keys_of c.args.left.now.prime (h_at (space_of c.args.right.now.term) c.args.x.now.right))))

pub returns-in_err-over-4-clause-asked : goal.returns-in_err-over-4-clause-asked
returns-in_err-over-4-clause-asked g c =
    asked-within g.F.Forcer.forces (passed g.F.Forcer.forces (keys_of c.args.left.now.prime (g_along c.args.left.now.prime (space_of c.args.left.now.term) (read_smalls (space_of c.args.left.now.term) c.in-Value-2.image.terms))) (keys_of c.args.left.now.prime (h_at (space_of c.args.right.now.term) c.args.x.now.right)) c.along_g.new.forcer refl (passed g.F.Forcer.forces (keys_of c.args.left.now.prime (f_at (space_of c.args.left.now.term) c.args.x.now.left)) ((keys_of c.args.left.now.prime (g_along c.args.left.now.prime (space_of c.args.left.now.term) (read_smalls (space_of c.args.left.now.term) c.in-Value-2.image.terms))) ++ (keys_of c.args.left.now.prime (h_at (space_of c.args.right.now.term) c.args.x.now.right))) c.part_f.new.forcer refl (passed g.F.Forcer.forces (keys_of c.args.left.now.prime (h_at (space_of c.args.left.now.term) c.args.x.now.left)) ((keys_of c.args.left.now.prime (f_at (space_of c.args.left.now.term) c.args.x.now.left)) ++ ((keys_of c.args.left.now.prime (g_along c.args.left.now.prime (space_of c.args.left.now.term) (read_smalls (space_of c.args.left.now.term) c.in-Value-2.image.terms))) ++ (keys_of c.args.left.now.prime (h_at (space_of c.args.right.now.term) c.args.x.now.right)))) c.part_h.new.forcer refl (left-same g.F.Forcer.forces ((keys_of c.args.left.now.prime (h_at (space_of c.args.left.now.term) c.args.x.now.left)) ++ ((keys_of c.args.left.now.prime (f_at (space_of c.args.left.now.term) c.args.x.now.left)) ++ ((keys_of c.args.left.now.prime (g_along c.args.left.now.prime (space_of c.args.left.now.term) (read_smalls (space_of c.args.left.now.term) c.in-Value-2.image.terms))) ++ (keys_of c.args.left.now.prime (h_at (space_of c.args.right.now.term) c.args.x.now.right))))) (split-found c.args.left.now.prime (space_of c.args.left.now.term) (space_of c.args.right.now.term) c.args.x.now c.requires.valid c.requires.left_part c.requires.right_part c.requires.right_cell c.in-Value-2.image (found-value (λ z. formal c.args.left.now.prime (quote_small_chain (space_of c.args.left.now.term) z)) c.args.left.now.prime (f_at (space_of c.args.left.now.term) c.args.x.now.left) _ c.in-Value-2.image c.in-Value-2.is c.in_ok-over-2.ensures.found)) (begun g.F.Forcer.forces (keys_of c.args.left.now.prime (t_tensor c.args.left.now.prime (space_of c.args.left.now.term) (space_of c.args.right.now.term) c.args.x.now)) c.args.forcer.now)) (found-none (λ z. formal c.args.left.now.prime (quote_chain (space_of c.args.left.now.term) z)) c.args.left.now.prime (h_at (space_of c.args.left.now.term) c.args.x.now.left) _ c.in-Value.own c.in-Value.is c.in_ok-over.ensures.found) c.in_ok-over.ensures.through) (found-none (λ z. formal c.args.left.now.prime (quote_small_chain (space_of c.args.left.now.term) z)) c.args.left.now.prime (f_at (space_of c.args.left.now.term) c.args.x.now.left) _ c.in-Value-2.image c.in-Value-2.is c.in_ok-over-2.ensures.found) c.in_ok-over-2.ensures.through) (found-none (λ z. formal c.args.left.now.prime (quote_chain (space_of c.args.left.now.term) z)) c.args.left.now.prime (g_along c.args.left.now.prime (space_of c.args.left.now.term) (read_smalls (space_of c.args.left.now.term) c.in-Value-2.image.terms)) _ c.in-Value-3.back c.in-Value-3.is c.in_ok-over-3.ensures.found) c.in_ok-over-3.ensures.through) (keys_of c.args.left.now.prime (h_at (space_of c.args.right.now.term) c.args.x.now.right)) [] (sym (nothing-more (keys_of c.args.left.now.prime (h_at (space_of c.args.right.now.term) c.args.x.now.right)))) c.part_h-2.new.forcer c.part_h-2.ensures.asked

pub returns-in-Over-4-clause-asked : goal.returns-in-Over-4-clause-asked
returns-in-Over-4-clause-asked g c =
    asked-within g.F.Forcer.forces (passed g.F.Forcer.forces (keys_of c.args.left.now.prime (g_along c.args.left.now.prime (space_of c.args.left.now.term) (read_smalls (space_of c.args.left.now.term) c.in-Value-2.image.terms))) (keys_of c.args.left.now.prime (h_at (space_of c.args.right.now.term) c.args.x.now.right)) c.along_g.new.forcer refl (passed g.F.Forcer.forces (keys_of c.args.left.now.prime (f_at (space_of c.args.left.now.term) c.args.x.now.left)) ((keys_of c.args.left.now.prime (g_along c.args.left.now.prime (space_of c.args.left.now.term) (read_smalls (space_of c.args.left.now.term) c.in-Value-2.image.terms))) ++ (keys_of c.args.left.now.prime (h_at (space_of c.args.right.now.term) c.args.x.now.right))) c.part_f.new.forcer refl (passed g.F.Forcer.forces (keys_of c.args.left.now.prime (h_at (space_of c.args.left.now.term) c.args.x.now.left)) ((keys_of c.args.left.now.prime (f_at (space_of c.args.left.now.term) c.args.x.now.left)) ++ ((keys_of c.args.left.now.prime (g_along c.args.left.now.prime (space_of c.args.left.now.term) (read_smalls (space_of c.args.left.now.term) c.in-Value-2.image.terms))) ++ (keys_of c.args.left.now.prime (h_at (space_of c.args.right.now.term) c.args.x.now.right)))) c.part_h.new.forcer refl (left-same g.F.Forcer.forces ((keys_of c.args.left.now.prime (h_at (space_of c.args.left.now.term) c.args.x.now.left)) ++ ((keys_of c.args.left.now.prime (f_at (space_of c.args.left.now.term) c.args.x.now.left)) ++ ((keys_of c.args.left.now.prime (g_along c.args.left.now.prime (space_of c.args.left.now.term) (read_smalls (space_of c.args.left.now.term) c.in-Value-2.image.terms))) ++ (keys_of c.args.left.now.prime (h_at (space_of c.args.right.now.term) c.args.x.now.right))))) (split-found c.args.left.now.prime (space_of c.args.left.now.term) (space_of c.args.right.now.term) c.args.x.now c.requires.valid c.requires.left_part c.requires.right_part c.requires.right_cell c.in-Value-2.image (found-value (λ z. formal c.args.left.now.prime (quote_small_chain (space_of c.args.left.now.term) z)) c.args.left.now.prime (f_at (space_of c.args.left.now.term) c.args.x.now.left) _ c.in-Value-2.image c.in-Value-2.is c.in_ok-over-2.ensures.found)) (begun g.F.Forcer.forces (keys_of c.args.left.now.prime (t_tensor c.args.left.now.prime (space_of c.args.left.now.term) (space_of c.args.right.now.term) c.args.x.now)) c.args.forcer.now)) (found-none (λ z. formal c.args.left.now.prime (quote_chain (space_of c.args.left.now.term) z)) c.args.left.now.prime (h_at (space_of c.args.left.now.term) c.args.x.now.left) _ c.in-Value.own c.in-Value.is c.in_ok-over.ensures.found) c.in_ok-over.ensures.through) (found-none (λ z. formal c.args.left.now.prime (quote_small_chain (space_of c.args.left.now.term) z)) c.args.left.now.prime (f_at (space_of c.args.left.now.term) c.args.x.now.left) _ c.in-Value-2.image c.in-Value-2.is c.in_ok-over-2.ensures.found) c.in_ok-over-2.ensures.through) (found-none (λ z. formal c.args.left.now.prime (quote_chain (space_of c.args.left.now.term) z)) c.args.left.now.prime (g_along c.args.left.now.prime (space_of c.args.left.now.term) (read_smalls (space_of c.args.left.now.term) c.in-Value-2.image.terms)) _ c.in-Value-3.back c.in-Value-3.is c.in_ok-over-3.ensures.found) c.in_ok-over-3.ensures.through) (keys_of c.args.left.now.prime (h_at (space_of c.args.right.now.term) c.args.x.now.right)) [] (sym (nothing-more (keys_of c.args.left.now.prime (h_at (space_of c.args.right.now.term) c.args.x.now.right)))) c.part_h-2.new.forcer c.part_h-2.ensures.asked

pub returns-in-Over-4-clause-through : goal.returns-in-Over-4-clause-through
returns-in-Over-4-clause-through g c =
    through-within g.F.Forcer.forces (passed g.F.Forcer.forces (keys_of c.args.left.now.prime (g_along c.args.left.now.prime (space_of c.args.left.now.term) (read_smalls (space_of c.args.left.now.term) c.in-Value-2.image.terms))) (keys_of c.args.left.now.prime (h_at (space_of c.args.right.now.term) c.args.x.now.right)) c.along_g.new.forcer refl (passed g.F.Forcer.forces (keys_of c.args.left.now.prime (f_at (space_of c.args.left.now.term) c.args.x.now.left)) ((keys_of c.args.left.now.prime (g_along c.args.left.now.prime (space_of c.args.left.now.term) (read_smalls (space_of c.args.left.now.term) c.in-Value-2.image.terms))) ++ (keys_of c.args.left.now.prime (h_at (space_of c.args.right.now.term) c.args.x.now.right))) c.part_f.new.forcer refl (passed g.F.Forcer.forces (keys_of c.args.left.now.prime (h_at (space_of c.args.left.now.term) c.args.x.now.left)) ((keys_of c.args.left.now.prime (f_at (space_of c.args.left.now.term) c.args.x.now.left)) ++ ((keys_of c.args.left.now.prime (g_along c.args.left.now.prime (space_of c.args.left.now.term) (read_smalls (space_of c.args.left.now.term) c.in-Value-2.image.terms))) ++ (keys_of c.args.left.now.prime (h_at (space_of c.args.right.now.term) c.args.x.now.right)))) c.part_h.new.forcer refl (left-same g.F.Forcer.forces ((keys_of c.args.left.now.prime (h_at (space_of c.args.left.now.term) c.args.x.now.left)) ++ ((keys_of c.args.left.now.prime (f_at (space_of c.args.left.now.term) c.args.x.now.left)) ++ ((keys_of c.args.left.now.prime (g_along c.args.left.now.prime (space_of c.args.left.now.term) (read_smalls (space_of c.args.left.now.term) c.in-Value-2.image.terms))) ++ (keys_of c.args.left.now.prime (h_at (space_of c.args.right.now.term) c.args.x.now.right))))) (split-found c.args.left.now.prime (space_of c.args.left.now.term) (space_of c.args.right.now.term) c.args.x.now c.requires.valid c.requires.left_part c.requires.right_part c.requires.right_cell c.in-Value-2.image (found-value (λ z. formal c.args.left.now.prime (quote_small_chain (space_of c.args.left.now.term) z)) c.args.left.now.prime (f_at (space_of c.args.left.now.term) c.args.x.now.left) _ c.in-Value-2.image c.in-Value-2.is c.in_ok-over-2.ensures.found)) (begun g.F.Forcer.forces (keys_of c.args.left.now.prime (t_tensor c.args.left.now.prime (space_of c.args.left.now.term) (space_of c.args.right.now.term) c.args.x.now)) c.args.forcer.now)) (found-none (λ z. formal c.args.left.now.prime (quote_chain (space_of c.args.left.now.term) z)) c.args.left.now.prime (h_at (space_of c.args.left.now.term) c.args.x.now.left) _ c.in-Value.own c.in-Value.is c.in_ok-over.ensures.found) c.in_ok-over.ensures.through) (found-none (λ z. formal c.args.left.now.prime (quote_small_chain (space_of c.args.left.now.term) z)) c.args.left.now.prime (f_at (space_of c.args.left.now.term) c.args.x.now.left) _ c.in-Value-2.image c.in-Value-2.is c.in_ok-over-2.ensures.found) c.in_ok-over-2.ensures.through) (found-none (λ z. formal c.args.left.now.prime (quote_chain (space_of c.args.left.now.term) z)) c.args.left.now.prime (g_along c.args.left.now.prime (space_of c.args.left.now.term) (read_smalls (space_of c.args.left.now.term) c.in-Value-2.image.terms)) _ c.in-Value-3.back c.in-Value-3.is c.in_ok-over-3.ensures.found) c.in_ok-over-3.ensures.through) (keys_of c.args.left.now.prime (h_at (space_of c.args.right.now.term) c.args.x.now.right)) [] (sym (nothing-more (keys_of c.args.left.now.prime (h_at (space_of c.args.right.now.term) c.args.x.now.right)))) c.part_h-2.new.forcer c.in-Over-4.over (found-over (λ z. formal c.args.left.now.prime (quote_chain (space_of c.args.right.now.term) z)) c.args.left.now.prime (h_at (space_of c.args.right.now.term) c.args.x.now.right) _ c.in-Over-4.over c.in-Over-4.is c.in_ok-over-4.ensures.found) c.in_ok-over-4.ensures.through

pub returns-in-Over-4-clause-found : goal.returns-in-Over-4-clause-found
returns-in-Over-4-clause-found g c =
    refused-within g.F.Forcer.forces (passed g.F.Forcer.forces (keys_of c.args.left.now.prime (g_along c.args.left.now.prime (space_of c.args.left.now.term) (read_smalls (space_of c.args.left.now.term) c.in-Value-2.image.terms))) (keys_of c.args.left.now.prime (h_at (space_of c.args.right.now.term) c.args.x.now.right)) c.along_g.new.forcer refl (passed g.F.Forcer.forces (keys_of c.args.left.now.prime (f_at (space_of c.args.left.now.term) c.args.x.now.left)) ((keys_of c.args.left.now.prime (g_along c.args.left.now.prime (space_of c.args.left.now.term) (read_smalls (space_of c.args.left.now.term) c.in-Value-2.image.terms))) ++ (keys_of c.args.left.now.prime (h_at (space_of c.args.right.now.term) c.args.x.now.right))) c.part_f.new.forcer refl (passed g.F.Forcer.forces (keys_of c.args.left.now.prime (h_at (space_of c.args.left.now.term) c.args.x.now.left)) ((keys_of c.args.left.now.prime (f_at (space_of c.args.left.now.term) c.args.x.now.left)) ++ ((keys_of c.args.left.now.prime (g_along c.args.left.now.prime (space_of c.args.left.now.term) (read_smalls (space_of c.args.left.now.term) c.in-Value-2.image.terms))) ++ (keys_of c.args.left.now.prime (h_at (space_of c.args.right.now.term) c.args.x.now.right)))) c.part_h.new.forcer refl (left-same g.F.Forcer.forces ((keys_of c.args.left.now.prime (h_at (space_of c.args.left.now.term) c.args.x.now.left)) ++ ((keys_of c.args.left.now.prime (f_at (space_of c.args.left.now.term) c.args.x.now.left)) ++ ((keys_of c.args.left.now.prime (g_along c.args.left.now.prime (space_of c.args.left.now.term) (read_smalls (space_of c.args.left.now.term) c.in-Value-2.image.terms))) ++ (keys_of c.args.left.now.prime (h_at (space_of c.args.right.now.term) c.args.x.now.right))))) (split-found c.args.left.now.prime (space_of c.args.left.now.term) (space_of c.args.right.now.term) c.args.x.now c.requires.valid c.requires.left_part c.requires.right_part c.requires.right_cell c.in-Value-2.image (found-value (λ z. formal c.args.left.now.prime (quote_small_chain (space_of c.args.left.now.term) z)) c.args.left.now.prime (f_at (space_of c.args.left.now.term) c.args.x.now.left) _ c.in-Value-2.image c.in-Value-2.is c.in_ok-over-2.ensures.found)) (begun g.F.Forcer.forces (keys_of c.args.left.now.prime (t_tensor c.args.left.now.prime (space_of c.args.left.now.term) (space_of c.args.right.now.term) c.args.x.now)) c.args.forcer.now)) (found-none (λ z. formal c.args.left.now.prime (quote_chain (space_of c.args.left.now.term) z)) c.args.left.now.prime (h_at (space_of c.args.left.now.term) c.args.x.now.left) _ c.in-Value.own c.in-Value.is c.in_ok-over.ensures.found) c.in_ok-over.ensures.through) (found-none (λ z. formal c.args.left.now.prime (quote_small_chain (space_of c.args.left.now.term) z)) c.args.left.now.prime (f_at (space_of c.args.left.now.term) c.args.x.now.left) _ c.in-Value-2.image c.in-Value-2.is c.in_ok-over-2.ensures.found) c.in_ok-over-2.ensures.through) (found-none (λ z. formal c.args.left.now.prime (quote_chain (space_of c.args.left.now.term) z)) c.args.left.now.prime (g_along c.args.left.now.prime (space_of c.args.left.now.term) (read_smalls (space_of c.args.left.now.term) c.in-Value-2.image.terms)) _ c.in-Value-3.back c.in-Value-3.is c.in_ok-over-3.ensures.found) c.in_ok-over-3.ensures.through) (keys_of c.args.left.now.prime (h_at (space_of c.args.right.now.term) c.args.x.now.right)) [] (sym (nothing-more (keys_of c.args.left.now.prime (h_at (space_of c.args.right.now.term) c.args.x.now.right)))) c.part_h-2.new.forcer c.in-Over-4.over (found-over (λ z. formal c.args.left.now.prime (quote_chain (space_of c.args.right.now.term) z)) c.args.left.now.prime (h_at (space_of c.args.right.now.term) c.args.x.now.right) _ c.in-Over-4.over c.in-Over-4.is c.in_ok-over-4.ensures.found)

pub homotopy-requires-clause-prime : goal.homotopy-requires-clause-prime
homotopy-requires-clause-prime g c =
    ap (λ (z : Formal Cell). z.prime) (found-value (λ z. formal c.args.left.now.prime (quote_chain (space_of c.args.left.now.term) z)) c.args.left.now.prime (g_along c.args.left.now.prime (space_of c.args.left.now.term) (read_smalls (space_of c.args.left.now.term) c.in-Value-2.image.terms)) _ c.in-Value-3.back c.in-Value-3.is c.in_ok-over-3.ensures.found) ∙ sym (ap (λ (z : Formal Cell). z.prime) (found-value (λ z. formal c.args.left.now.prime (quote_chain (space_of c.args.left.now.term) z)) c.args.left.now.prime (h_at (space_of c.args.left.now.term) c.args.x.now.left) _ c.in-Value.own c.in-Value.is c.in_ok-over.ensures.found))

pub homotopy-requires-clause-other_prime : goal.homotopy-requires-clause-other_prime
homotopy-requires-clause-other_prime g c =
    ap (λ (z : Formal Cell). z.prime) (found-value (λ z. formal c.args.left.now.prime (quote_chain (space_of c.args.right.now.term) z)) c.args.left.now.prime (h_at (space_of c.args.right.now.term) c.args.x.now.right) _ c.in-Value-4.other c.in-Value-4.is c.in_ok-over-4.ensures.found) ∙ sym (ap (λ (z : Formal Cell). z.prime) (found-value (λ z. formal c.args.left.now.prime (quote_chain (space_of c.args.left.now.term) z)) c.args.left.now.prime (h_at (space_of c.args.left.now.term) c.args.x.now.left) _ c.in-Value.own c.in-Value.is c.in_ok-over.ensures.found))

pub homotopy-requires-clause-left_one_key : goal.homotopy-requires-clause-left_one_key
homotopy-requires-clause-left_one_key g c =
    one_cell

pub homotopy-requires-clause-right_one_key : goal.homotopy-requires-clause-right_one_key
homotopy-requires-clause-right_one_key g c =
    one_cell

pub returns-in_err-homotopy-clause-asked : goal.returns-in_err-homotopy-clause-asked
returns-in_err-homotopy-clause-asked g c =
    asked-so_far g.F.Forcer.forces (passed g.F.Forcer.forces (keys_of c.args.left.now.prime (h_at (space_of c.args.right.now.term) c.args.x.now.right)) [] c.part_h-2.new.forcer (sym (nothing-more (keys_of c.args.left.now.prime (h_at (space_of c.args.right.now.term) c.args.x.now.right)))) (passed g.F.Forcer.forces (keys_of c.args.left.now.prime (g_along c.args.left.now.prime (space_of c.args.left.now.term) (read_smalls (space_of c.args.left.now.term) c.in-Value-2.image.terms))) (keys_of c.args.left.now.prime (h_at (space_of c.args.right.now.term) c.args.x.now.right)) c.along_g.new.forcer refl (passed g.F.Forcer.forces (keys_of c.args.left.now.prime (f_at (space_of c.args.left.now.term) c.args.x.now.left)) ((keys_of c.args.left.now.prime (g_along c.args.left.now.prime (space_of c.args.left.now.term) (read_smalls (space_of c.args.left.now.term) c.in-Value-2.image.terms))) ++ (keys_of c.args.left.now.prime (h_at (space_of c.args.right.now.term) c.args.x.now.right))) c.part_f.new.forcer refl (passed g.F.Forcer.forces (keys_of c.args.left.now.prime (h_at (space_of c.args.left.now.term) c.args.x.now.left)) ((keys_of c.args.left.now.prime (f_at (space_of c.args.left.now.term) c.args.x.now.left)) ++ ((keys_of c.args.left.now.prime (g_along c.args.left.now.prime (space_of c.args.left.now.term) (read_smalls (space_of c.args.left.now.term) c.in-Value-2.image.terms))) ++ (keys_of c.args.left.now.prime (h_at (space_of c.args.right.now.term) c.args.x.now.right)))) c.part_h.new.forcer refl (left-same g.F.Forcer.forces ((keys_of c.args.left.now.prime (h_at (space_of c.args.left.now.term) c.args.x.now.left)) ++ ((keys_of c.args.left.now.prime (f_at (space_of c.args.left.now.term) c.args.x.now.left)) ++ ((keys_of c.args.left.now.prime (g_along c.args.left.now.prime (space_of c.args.left.now.term) (read_smalls (space_of c.args.left.now.term) c.in-Value-2.image.terms))) ++ (keys_of c.args.left.now.prime (h_at (space_of c.args.right.now.term) c.args.x.now.right))))) (split-found c.args.left.now.prime (space_of c.args.left.now.term) (space_of c.args.right.now.term) c.args.x.now c.requires.valid c.requires.left_part c.requires.right_part c.requires.right_cell c.in-Value-2.image (found-value (λ z. formal c.args.left.now.prime (quote_small_chain (space_of c.args.left.now.term) z)) c.args.left.now.prime (f_at (space_of c.args.left.now.term) c.args.x.now.left) _ c.in-Value-2.image c.in-Value-2.is c.in_ok-over-2.ensures.found)) (begun g.F.Forcer.forces (keys_of c.args.left.now.prime (t_tensor c.args.left.now.prime (space_of c.args.left.now.term) (space_of c.args.right.now.term) c.args.x.now)) c.args.forcer.now)) (found-none (λ z. formal c.args.left.now.prime (quote_chain (space_of c.args.left.now.term) z)) c.args.left.now.prime (h_at (space_of c.args.left.now.term) c.args.x.now.left) _ c.in-Value.own c.in-Value.is c.in_ok-over.ensures.found) c.in_ok-over.ensures.through) (found-none (λ z. formal c.args.left.now.prime (quote_small_chain (space_of c.args.left.now.term) z)) c.args.left.now.prime (f_at (space_of c.args.left.now.term) c.args.x.now.left) _ c.in-Value-2.image c.in-Value-2.is c.in_ok-over-2.ensures.found) c.in_ok-over-2.ensures.through) (found-none (λ z. formal c.args.left.now.prime (quote_chain (space_of c.args.left.now.term) z)) c.args.left.now.prime (g_along c.args.left.now.prime (space_of c.args.left.now.term) (read_smalls (space_of c.args.left.now.term) c.in-Value-2.image.terms)) _ c.in-Value-3.back c.in-Value-3.is c.in_ok-over-3.ensures.found) c.in_ok-over-3.ensures.through) (found-none (λ z. formal c.args.left.now.prime (quote_chain (space_of c.args.right.now.term) z)) c.args.left.now.prime (h_at (space_of c.args.right.now.term) c.args.x.now.right) _ c.in-Value-4.other c.in-Value-4.is c.in_ok-over-4.ensures.found) c.in_ok-over-4.ensures.through)

pub returns-clause-asked : goal.returns-clause-asked
returns-clause-asked g c =
    asked-so_far g.F.Forcer.forces (passed g.F.Forcer.forces (keys_of c.args.left.now.prime (h_at (space_of c.args.right.now.term) c.args.x.now.right)) [] c.part_h-2.new.forcer (sym (nothing-more (keys_of c.args.left.now.prime (h_at (space_of c.args.right.now.term) c.args.x.now.right)))) (passed g.F.Forcer.forces (keys_of c.args.left.now.prime (g_along c.args.left.now.prime (space_of c.args.left.now.term) (read_smalls (space_of c.args.left.now.term) c.in-Value-2.image.terms))) (keys_of c.args.left.now.prime (h_at (space_of c.args.right.now.term) c.args.x.now.right)) c.along_g.new.forcer refl (passed g.F.Forcer.forces (keys_of c.args.left.now.prime (f_at (space_of c.args.left.now.term) c.args.x.now.left)) ((keys_of c.args.left.now.prime (g_along c.args.left.now.prime (space_of c.args.left.now.term) (read_smalls (space_of c.args.left.now.term) c.in-Value-2.image.terms))) ++ (keys_of c.args.left.now.prime (h_at (space_of c.args.right.now.term) c.args.x.now.right))) c.part_f.new.forcer refl (passed g.F.Forcer.forces (keys_of c.args.left.now.prime (h_at (space_of c.args.left.now.term) c.args.x.now.left)) ((keys_of c.args.left.now.prime (f_at (space_of c.args.left.now.term) c.args.x.now.left)) ++ ((keys_of c.args.left.now.prime (g_along c.args.left.now.prime (space_of c.args.left.now.term) (read_smalls (space_of c.args.left.now.term) c.in-Value-2.image.terms))) ++ (keys_of c.args.left.now.prime (h_at (space_of c.args.right.now.term) c.args.x.now.right)))) c.part_h.new.forcer refl (left-same g.F.Forcer.forces ((keys_of c.args.left.now.prime (h_at (space_of c.args.left.now.term) c.args.x.now.left)) ++ ((keys_of c.args.left.now.prime (f_at (space_of c.args.left.now.term) c.args.x.now.left)) ++ ((keys_of c.args.left.now.prime (g_along c.args.left.now.prime (space_of c.args.left.now.term) (read_smalls (space_of c.args.left.now.term) c.in-Value-2.image.terms))) ++ (keys_of c.args.left.now.prime (h_at (space_of c.args.right.now.term) c.args.x.now.right))))) (split-found c.args.left.now.prime (space_of c.args.left.now.term) (space_of c.args.right.now.term) c.args.x.now c.requires.valid c.requires.left_part c.requires.right_part c.requires.right_cell c.in-Value-2.image (found-value (λ z. formal c.args.left.now.prime (quote_small_chain (space_of c.args.left.now.term) z)) c.args.left.now.prime (f_at (space_of c.args.left.now.term) c.args.x.now.left) _ c.in-Value-2.image c.in-Value-2.is c.in_ok-over-2.ensures.found)) (begun g.F.Forcer.forces (keys_of c.args.left.now.prime (t_tensor c.args.left.now.prime (space_of c.args.left.now.term) (space_of c.args.right.now.term) c.args.x.now)) c.args.forcer.now)) (found-none (λ z. formal c.args.left.now.prime (quote_chain (space_of c.args.left.now.term) z)) c.args.left.now.prime (h_at (space_of c.args.left.now.term) c.args.x.now.left) _ c.in-Value.own c.in-Value.is c.in_ok-over.ensures.found) c.in_ok-over.ensures.through) (found-none (λ z. formal c.args.left.now.prime (quote_small_chain (space_of c.args.left.now.term) z)) c.args.left.now.prime (f_at (space_of c.args.left.now.term) c.args.x.now.left) _ c.in-Value-2.image c.in-Value-2.is c.in_ok-over-2.ensures.found) c.in_ok-over-2.ensures.through) (found-none (λ z. formal c.args.left.now.prime (quote_chain (space_of c.args.left.now.term) z)) c.args.left.now.prime (g_along c.args.left.now.prime (space_of c.args.left.now.term) (read_smalls (space_of c.args.left.now.term) c.in-Value-2.image.terms)) _ c.in-Value-3.back c.in-Value-3.is c.in_ok-over-3.ensures.found) c.in_ok-over-3.ensures.through) (found-none (λ z. formal c.args.left.now.prime (quote_chain (space_of c.args.right.now.term) z)) c.args.left.now.prime (h_at (space_of c.args.right.now.term) c.args.x.now.right) _ c.in-Value-4.other c.in-Value-4.is c.in_ok-over-4.ensures.found) c.in_ok-over-4.ensures.through)

pub returns-clause-through : goal.returns-clause-through
returns-clause-through g c =
    through-all g.F.Forcer.forces (passed g.F.Forcer.forces (keys_of c.args.left.now.prime (h_at (space_of c.args.right.now.term) c.args.x.now.right)) [] c.part_h-2.new.forcer (sym (nothing-more (keys_of c.args.left.now.prime (h_at (space_of c.args.right.now.term) c.args.x.now.right)))) (passed g.F.Forcer.forces (keys_of c.args.left.now.prime (g_along c.args.left.now.prime (space_of c.args.left.now.term) (read_smalls (space_of c.args.left.now.term) c.in-Value-2.image.terms))) (keys_of c.args.left.now.prime (h_at (space_of c.args.right.now.term) c.args.x.now.right)) c.along_g.new.forcer refl (passed g.F.Forcer.forces (keys_of c.args.left.now.prime (f_at (space_of c.args.left.now.term) c.args.x.now.left)) ((keys_of c.args.left.now.prime (g_along c.args.left.now.prime (space_of c.args.left.now.term) (read_smalls (space_of c.args.left.now.term) c.in-Value-2.image.terms))) ++ (keys_of c.args.left.now.prime (h_at (space_of c.args.right.now.term) c.args.x.now.right))) c.part_f.new.forcer refl (passed g.F.Forcer.forces (keys_of c.args.left.now.prime (h_at (space_of c.args.left.now.term) c.args.x.now.left)) ((keys_of c.args.left.now.prime (f_at (space_of c.args.left.now.term) c.args.x.now.left)) ++ ((keys_of c.args.left.now.prime (g_along c.args.left.now.prime (space_of c.args.left.now.term) (read_smalls (space_of c.args.left.now.term) c.in-Value-2.image.terms))) ++ (keys_of c.args.left.now.prime (h_at (space_of c.args.right.now.term) c.args.x.now.right)))) c.part_h.new.forcer refl (left-same g.F.Forcer.forces ((keys_of c.args.left.now.prime (h_at (space_of c.args.left.now.term) c.args.x.now.left)) ++ ((keys_of c.args.left.now.prime (f_at (space_of c.args.left.now.term) c.args.x.now.left)) ++ ((keys_of c.args.left.now.prime (g_along c.args.left.now.prime (space_of c.args.left.now.term) (read_smalls (space_of c.args.left.now.term) c.in-Value-2.image.terms))) ++ (keys_of c.args.left.now.prime (h_at (space_of c.args.right.now.term) c.args.x.now.right))))) (split-found c.args.left.now.prime (space_of c.args.left.now.term) (space_of c.args.right.now.term) c.args.x.now c.requires.valid c.requires.left_part c.requires.right_part c.requires.right_cell c.in-Value-2.image (found-value (λ z. formal c.args.left.now.prime (quote_small_chain (space_of c.args.left.now.term) z)) c.args.left.now.prime (f_at (space_of c.args.left.now.term) c.args.x.now.left) _ c.in-Value-2.image c.in-Value-2.is c.in_ok-over-2.ensures.found)) (begun g.F.Forcer.forces (keys_of c.args.left.now.prime (t_tensor c.args.left.now.prime (space_of c.args.left.now.term) (space_of c.args.right.now.term) c.args.x.now)) c.args.forcer.now)) (found-none (λ z. formal c.args.left.now.prime (quote_chain (space_of c.args.left.now.term) z)) c.args.left.now.prime (h_at (space_of c.args.left.now.term) c.args.x.now.left) _ c.in-Value.own c.in-Value.is c.in_ok-over.ensures.found) c.in_ok-over.ensures.through) (found-none (λ z. formal c.args.left.now.prime (quote_small_chain (space_of c.args.left.now.term) z)) c.args.left.now.prime (f_at (space_of c.args.left.now.term) c.args.x.now.left) _ c.in-Value-2.image c.in-Value-2.is c.in_ok-over-2.ensures.found) c.in_ok-over-2.ensures.through) (found-none (λ z. formal c.args.left.now.prime (quote_chain (space_of c.args.left.now.term) z)) c.args.left.now.prime (g_along c.args.left.now.prime (space_of c.args.left.now.term) (read_smalls (space_of c.args.left.now.term) c.in-Value-2.image.terms)) _ c.in-Value-3.back c.in-Value-3.is c.in_ok-over-3.ensures.found) c.in_ok-over-3.ensures.through) (found-none (λ z. formal c.args.left.now.prime (quote_chain (space_of c.args.right.now.term) z)) c.args.left.now.prime (h_at (space_of c.args.right.now.term) c.args.x.now.right) _ c.in-Value-4.other c.in-Value-4.is c.in_ok-over-4.ensures.found) c.in_ok-over-4.ensures.through)

pub returns-clause-found : goal.returns-clause-found
returns-clause-found g c = (
  none-refused g.F.Forcer.forces (passed g.F.Forcer.forces (keys_of c.args.left.now.prime (h_at (space_of c.args.right.now.term) c.args.x.now.right)) [] c.part_h-2.new.forcer (sym (nothing-more (keys_of c.args.left.now.prime (h_at (space_of c.args.right.now.term) c.args.x.now.right)))) (passed g.F.Forcer.forces (keys_of c.args.left.now.prime (g_along c.args.left.now.prime (space_of c.args.left.now.term) (read_smalls (space_of c.args.left.now.term) c.in-Value-2.image.terms))) (keys_of c.args.left.now.prime (h_at (space_of c.args.right.now.term) c.args.x.now.right)) c.along_g.new.forcer refl (passed g.F.Forcer.forces (keys_of c.args.left.now.prime (f_at (space_of c.args.left.now.term) c.args.x.now.left)) ((keys_of c.args.left.now.prime (g_along c.args.left.now.prime (space_of c.args.left.now.term) (read_smalls (space_of c.args.left.now.term) c.in-Value-2.image.terms))) ++ (keys_of c.args.left.now.prime (h_at (space_of c.args.right.now.term) c.args.x.now.right))) c.part_f.new.forcer refl (passed g.F.Forcer.forces (keys_of c.args.left.now.prime (h_at (space_of c.args.left.now.term) c.args.x.now.left)) ((keys_of c.args.left.now.prime (f_at (space_of c.args.left.now.term) c.args.x.now.left)) ++ ((keys_of c.args.left.now.prime (g_along c.args.left.now.prime (space_of c.args.left.now.term) (read_smalls (space_of c.args.left.now.term) c.in-Value-2.image.terms))) ++ (keys_of c.args.left.now.prime (h_at (space_of c.args.right.now.term) c.args.x.now.right)))) c.part_h.new.forcer refl (left-same g.F.Forcer.forces ((keys_of c.args.left.now.prime (h_at (space_of c.args.left.now.term) c.args.x.now.left)) ++ ((keys_of c.args.left.now.prime (f_at (space_of c.args.left.now.term) c.args.x.now.left)) ++ ((keys_of c.args.left.now.prime (g_along c.args.left.now.prime (space_of c.args.left.now.term) (read_smalls (space_of c.args.left.now.term) c.in-Value-2.image.terms))) ++ (keys_of c.args.left.now.prime (h_at (space_of c.args.right.now.term) c.args.x.now.right))))) (split-found c.args.left.now.prime (space_of c.args.left.now.term) (space_of c.args.right.now.term) c.args.x.now c.requires.valid c.requires.left_part c.requires.right_part c.requires.right_cell c.in-Value-2.image (found-value (λ z. formal c.args.left.now.prime (quote_small_chain (space_of c.args.left.now.term) z)) c.args.left.now.prime (f_at (space_of c.args.left.now.term) c.args.x.now.left) _ c.in-Value-2.image c.in-Value-2.is c.in_ok-over-2.ensures.found)) (begun g.F.Forcer.forces (keys_of c.args.left.now.prime (t_tensor c.args.left.now.prime (space_of c.args.left.now.term) (space_of c.args.right.now.term) c.args.x.now)) c.args.forcer.now)) (found-none (λ z. formal c.args.left.now.prime (quote_chain (space_of c.args.left.now.term) z)) c.args.left.now.prime (h_at (space_of c.args.left.now.term) c.args.x.now.left) _ c.in-Value.own c.in-Value.is c.in_ok-over.ensures.found) c.in_ok-over.ensures.through) (found-none (λ z. formal c.args.left.now.prime (quote_small_chain (space_of c.args.left.now.term) z)) c.args.left.now.prime (f_at (space_of c.args.left.now.term) c.args.x.now.left) _ c.in-Value-2.image c.in-Value-2.is c.in_ok-over-2.ensures.found) c.in_ok-over-2.ensures.through) (found-none (λ z. formal c.args.left.now.prime (quote_chain (space_of c.args.left.now.term) z)) c.args.left.now.prime (g_along c.args.left.now.prime (space_of c.args.left.now.term) (read_smalls (space_of c.args.left.now.term) c.in-Value-2.image.terms)) _ c.in-Value-3.back c.in-Value-3.is c.in_ok-over-3.ensures.found) c.in_ok-over-3.ensures.through) (found-none (λ z. formal c.args.left.now.prime (quote_chain (space_of c.args.right.now.term) z)) c.args.left.now.prime (h_at (space_of c.args.right.now.term) c.args.x.now.right) _ c.in-Value-4.other c.in-Value-4.is c.in_ok-over-4.ensures.found) c.in_ok-over-4.ensures.through),
  homotopy-found c.args.left.now.prime (space_of c.args.left.now.term) (space_of c.args.right.now.term) c.args.x.now c.requires.valid c.requires.left_part c.requires.right_part c.requires.right_cell c.in-Value-2.image (found-value (λ z. formal c.args.left.now.prime (quote_small_chain (space_of c.args.left.now.term) z)) c.args.left.now.prime (f_at (space_of c.args.left.now.term) c.args.x.now.left) _ c.in-Value-2.image c.in-Value-2.is c.in_ok-over-2.ensures.found) c.in-Value.own c.in-Value-3.back c.in-Value-4.other
      (found-value (λ z. formal c.args.left.now.prime (quote_chain (space_of c.args.left.now.term) z)) c.args.left.now.prime (h_at (space_of c.args.left.now.term) c.args.x.now.left) _ c.in-Value.own c.in-Value.is c.in_ok-over.ensures.found)
      (found-value (λ z. formal c.args.left.now.prime (quote_chain (space_of c.args.left.now.term) z)) c.args.left.now.prime (g_along c.args.left.now.prime (space_of c.args.left.now.term) (read_smalls (space_of c.args.left.now.term) c.in-Value-2.image.terms)) _ c.in-Value-3.back c.in-Value-3.is c.in_ok-over-3.ensures.found)
      (found-value (λ z. formal c.args.left.now.prime (quote_chain (space_of c.args.right.now.term) z)) c.args.left.now.prime (h_at (space_of c.args.right.now.term) c.args.x.now.right) _ c.in-Value-4.other c.in-Value-4.is c.in_ok-over-4.ensures.found)
      c.in_ok-homotopy.field-0 c.in_ok-homotopy.ensures.prime
      (c.in_ok-homotopy.ensures.sum ∙ ap (λ d. normal tensor_cmp (number c.in-Value.own.prime) (product_in tensors c.in-Value.own.terms (one c.args.x.now.right) ++ scale (sign (number c.in-Value.own.prime) d) (product_in tensors c.in-Value-3.back.terms c.in-Value-4.other.terms))) c.dim.ensures),
)
