-- What a table keeps beside its rows: their code, and its mark.
use Rattle.std.specs.Prelude.{◌≡◌}
use Rattle.spaces.specs.Allowed.{IsTable}
use Rattle.term_lang.specs.declared.tables.Sheet.{Sheet}
use Rattle.term_lang.specs.Rows.{rows_of}
use Rattle.term_lang.specs.Codes.{code_of, mark_of}

pub record IsSheet (s : Sheet) : Type 0 where
  pub form : IsTable (rows_of s.rows)
  pub code_is : s.code ≡ code_of s.rows
  pub mark_is : s.mark ≡ mark_of s.code
