-- The term of a table that was built.
use Rattle.std.proofs.Common.{◌≡◌, List, Some, None, sym, ◌∙◌, ap, subst}
use Rattle.spaces.specs.Spaces.{table}
use Rattle.term_lang.specs.declared.tables.Row.{Row}
use Rattle.term_lang.specs.declared.terms.Term.{Term}
use Rattle.term_lang.specs.declared.terms.Term.TheVariants.{Table as TableTerm}
use Rattle.term_lang.specs.declared.texts.RowText.{RowText}
use Rattle.term_lang.specs.Rows.{rows_of}
use Rattle.finite_sets.specs.Meaning.{meaning_of}
use Rattle.finite_sets.specs.Faults.{fault_of}
use Rattle.oracle_iface.specs.Terms.{term_of}
use Rattle.oracle_iface.proofs.Named.{rows-back}
use Rattle.session_core.specs.Answer.{Told, told, refused, table_refusal, told_table}
use Rattle.session_core.proofs.ReadyNames.{IsReadyTerm, ready-rows}

module _ (rows : List RowText) (built : List Row) (t : Term) (good : fault_of rows ≡ None) (means : rows_of built ≡ meaning_of rows) (is : t ≡ TableTerm built) where
  term_is : term_of (table (meaning_of rows)) ≡ t
  term_is = ap (λ m. term_of (table m)) (sym means) ∙ ap TableTerm (rows-back built) ∙ sym is

  pub table_told : told_table rows ≡ told t
  table_told = ap (λ o. elim o as (λ _. Told Term) [ Some fault ↦ refused (table_refusal fault) | None ↦ told (term_of (table (meaning_of rows))) ]) good ∙ ap told term_is

  pub table_ready : IsReadyTerm t
  table_ready = subst IsReadyTerm term_is (ready-rows rows good)
