-- A new book.
use Rattle.std.proofs.Common.{◌≡◌, [], sym, ◌∙◌, ap}
use Rattle.std.specs.Prelude.{map}
use Rattle.oracle_iface.specs.Histories.{slot_of}
use Rattle.memo_book.specs.Books.{BookView}
use Rattle.memo_book.specs.Histories.{entry_of, front}
use Rattle.kernel_run.specs.Settled.{HoldsNone}

pub new_holds_none : (b : BookView) → b.journal ≡ [] → HoldsNone 0 (λ k. 0) (front b)
new_holds_none b empty k held = cc (sym (ap (λ es. slot_of (map (entry_of b.keys) es) k) empty) ∙ held)
