-- The checks of the whole list.
use Rattle.std.proofs.Common.{◌≡◌, ◌<◌, ◌≤◌, true, false, nat_le, List, length, Some, None, ◌∙◌}
use Rattle.std.specs.List.{list_any}
use Rattle.simp_ops.proofs.PlacesOf.{is_le, not_le}
use Rattle.term_lang.specs.declared.texts.RowText.{RowText}
use Rattle.finite_sets.specs.declared.faults.TableFault.TheVariants.{NoVertex, TooManyCells}
use Rattle.finite_sets.specs.Faults.{Fault, is_vertex, unless, list_fault}
use Rattle.finite_sets.proofs.FirstFault.{or_else-none, none_both, or_else-some, or_else-second, unless-none, none_unless, unless-false}
use Rattle.finite_sets.proofs.WordTests.{Decides-le}

module _ (rows : List RowText) where
  abbrev many_fault : Fault
  many_fault = unless (nat_le (length rows) 256) (TooManyCells (length rows))

  abbrev vertex_fault : Fault
  vertex_fault = unless (list_any is_vertex rows) NoVertex

  pub too_many : 256 < length rows → list_fault rows ≡ Some (TooManyCells (length rows))
  unfolding list_fault
  too_many h =
      or_else-some many_fault vertex_fault (TooManyCells (length rows)) (unless-false (nat_le (length rows) 256) (TooManyCells (length rows)) (not_le (length rows) 256 h))

  pub no_vertex : length rows ≤ 256 → list_any is_vertex rows ≡ false → list_fault rows ≡ Some NoVertex
  unfolding list_fault
  no_vertex h e =
      or_else-second many_fault vertex_fault (none_unless (nat_le (length rows) 256) (TooManyCells (length rows)) (is_le (length rows) 256 h))
      ∙ unless-false (list_any is_vertex rows) NoVertex e

  pub no_list_fault : length rows ≤ 256 → list_any is_vertex rows ≡ true → list_fault rows ≡ None
  unfolding list_fault
  no_list_fault h e =
      none_both many_fault vertex_fault (none_unless (nat_le (length rows) 256) (TooManyCells (length rows)) (is_le (length rows) 256 h))
      (none_unless (list_any is_vertex rows) NoVertex e)

  pub list_faultless : list_fault rows ≡ None → (length rows ≤ 256) × (list_any is_vertex rows ≡ true)
  unfolding list_fault
  list_faultless e =
      let p = or_else-none many_fault vertex_fault e in
      ((Decides-le (length rows) 256).0 (unless-none (nat_le (length rows) 256) (TooManyCells (length rows)) p.0), unless-none (list_any is_vertex rows) NoVertex p.1)
