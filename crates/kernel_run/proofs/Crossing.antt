-- A book may be handed from thread to thread.
use denote.Param.Send.{IsSend, IsSync, sendable}
use Rattle.std.proofs.Crossing.{crosses}
use Rattle.seqs.proofs.arc.Arc.TheSendSync as arc_made
use Rattle.seqs.proofs.boxed.Box.TheSendSync as box_made
use Rattle.seqs.proofs.seq.Seq.TheSendSync as seq_made
use Rattle.chain_core.proofs.chain.Chain.TheSendSync as chain_made
use Rattle.cells.proofs.cells.Cell.TheLaws.TheKnot as cell_knot
use Rattle.cells.proofs.cells.SmallCell.TheLaws.TheKnot as small_knot
use Rattle.term_lang.proofs.terms.Term.TheLaws.TheKnot as term_knot
use Rattle.cells.specs.contracts.cells.Cell as cell
use Rattle.cells.specs.contracts.cells.SmallCell as small
use Rattle.term_lang.specs.contracts.tables.RowList as row_list
use Rattle.term_lang.specs.contracts.tables.Sheet as sheet
use Rattle.term_lang.specs.contracts.tables.Table as table
use Rattle.term_lang.specs.contracts.terms.Term as term
use Rattle.oracle_iface.specs.contracts.keys.Place as place
use Rattle.oracle_iface.specs.contracts.keys.Key as key
use Rattle.oracle_iface.specs.contracts.bodies.Body as body
use Rattle.oracle_iface.specs.contracts.chains.ChainList as chain_list
use Rattle.oracle_iface.specs.contracts.bodies.Over as over
use Rattle.oracle_iface.specs.contracts.cell_values.CellValue as cell_value
use Rattle.memo_book.specs.contracts.book.State as state
use Rattle.memo_book.specs.contracts.book.Book as book
use Rattle.kernel_run.proofs.MapCrossing.{IndexMap-send}

RowList-send : IsSend (row_list.the_field).row
RowList-send = search (seq_made.the_send, sendable, crosses) depth 40

RowList-sync : IsSync (row_list.the_field).row
RowList-sync = search (seq_made.the_sync, sendable, crosses) depth 40

Sheet-send : IsSend (sheet.the_field).row
Sheet-send = search (RowList-send, seq_made.the_send, sendable, crosses) depth 40

Sheet-sync : IsSync (sheet.the_field).row
Sheet-sync = search (RowList-sync, seq_made.the_sync, sendable, crosses) depth 40

Table-send : IsSend (table.the_field).row
Table-send = search (Sheet-send, Sheet-sync, arc_made.the_send, sendable, crosses) depth 40

Table-sync : IsSync (table.the_field).row
Table-sync = search (Sheet-send, Sheet-sync, arc_made.the_sync, sendable, crosses) depth 40

pub Term-send : IsSend (term.the_field).row
Term-send = search (term_knot.crosses, Table-send, seq_made.the_send, box_made.the_send, sendable, crosses) depth 40

pub Term-sync : IsSync (term.the_field).row
Term-sync = search (term_knot.crosses, Table-sync, seq_made.the_sync, box_made.the_sync, sendable, crosses) depth 40

pub Cell-send : IsSend (cell.the_field).row
Cell-send = search (cell_knot.crosses, sendable, crosses) depth 40

pub Cell-sync : IsSync (cell.the_field).row
Cell-sync = search (cell_knot.crosses, sendable, crosses) depth 40

pub SmallCell-send : IsSend (small.the_field).row
SmallCell-send = small_knot.send-SmallCell Cell-send box_made.the_send seq_made.the_send

pub SmallCell-sync : IsSync (small.the_field).row
SmallCell-sync = small_knot.sync-SmallCell Cell-sync box_made.the_sync seq_made.the_sync

pub Place-send : IsSend (place.the_field).row
Place-send = search (Cell-send, SmallCell-send, sendable) depth 40

pub Place-sync : IsSync (place.the_field).row
Place-sync = search (Cell-sync, SmallCell-sync, sendable) depth 40

pub Key-send : IsSend (key.the_field).row
Key-send = search (Place-send, Term-send, Term-sync, sendable, crosses) depth 40

pub Key-sync : IsSync (key.the_field).row
Key-sync = search (Place-sync, Term-send, Term-sync, sendable, crosses) depth 40

pub Over-send : IsSend (over.the_field).row
Over-send = search (Key-send, sendable) depth 40

pub Over-sync : IsSync (over.the_field).row
Over-sync = search (Key-sync, sendable) depth 40

pub ChainList-send : IsSend (chain_list.the_field).row
ChainList-send = search (Cell-send, chain_made.the_send, sendable, crosses) depth 40

pub ChainList-sync : IsSync (chain_list.the_field).row
ChainList-sync = search (Cell-sync, chain_made.the_sync, sendable, crosses) depth 40

pub Body-send : IsSend (body.the_field).row
Body-send = search (Cell-send, SmallCell-send, ChainList-send, seq_made.the_send, chain_made.the_send, sendable) depth 40

pub Body-sync : IsSync (body.the_field).row
Body-sync = search (Cell-sync, SmallCell-sync, ChainList-sync, seq_made.the_sync, chain_made.the_sync, sendable) depth 40

pub CellValue-send : IsSend (cell_value.the_field).row
CellValue-send = search (arc_made.the_send, Key-send, Key-sync, Over-send, Body-send, sendable, crosses) depth 40

pub CellValue-sync : IsSync (cell_value.the_field).row
CellValue-sync = search (arc_made.the_sync, Key-send, Key-sync, Over-sync, Body-sync, sendable, crosses) depth 40

pub State-send : IsSend (state.the_field).row
State-send = search (CellValue-send, CellValue-sync, sendable, crosses) depth 40

pub Book-send : IsSend (book.the_field).row
Book-send = search (IndexMap-send, arc_made.the_send, Key-send, Key-sync, State-send, sendable, crosses) depth 40
