-- What tables and terms write into a hash, which is the same where they are equal: of a table the mark of its code alone, of a term its
-- kind and then what its parts write.
--
--   Sphere(3) writes the byte 1 and then 3 as four bytes
use Rattle.std.specs.Prelude.{◌≡◌, true, List, [], ◌++◌}
use Rattle.std.proofs.Common.{ap}
use Rattle.std.specs.Ordering.{eq_by_cmp}
use Rattle.std.specs.Cmp.{Equal-is}
use Rattle.std.specs.Hash.{HashWrites}
use Rattle.std.specs.Hash as fed
use Rattle.term_lang.specs.declared.tables.Row.{Row}
use Rattle.term_lang.specs.declared.terms.Term.{Term, fold-Term}
use Rattle.term_lang.specs.declared.terms.Term.TheOpen.{Term-F}
use Rattle.term_lang.specs.TermOrder.{kind_in, term_cmp, table_cmp}
use Rattle.term_lang.specs.OneTerm.{one_term, one_table}
use Rattle.term_lang.specs.Codes.{code_of, mark_of}

abbrev pub table_input : List Row → HashWrites
table_input rows = fed.u64 (mark_of (code_of rows))

-- what is written behind the kind, from what the parts write
abbrev pub parts_input : Term-F HashWrites → HashWrites
parts_input (Term-F.Table rows) = table_input rows
parts_input (Term-F.Sphere m) = fed.u32 m
parts_input (Term-F.Product a b) = a ++ b
parts_input (Term-F.Suspension a) = a
parts_input Term-F.KZ1 = []
parts_input (Term-F.Bundle rows values) = table_input rows ++ fed.slice fed.i64 values
parts_input (Term-F.Loop a) = a
parts_input (Term-F.Path a) = a

abbrev pub input_step : Term-F HashWrites → HashWrites
input_step x = fed.u8 (kind_in x) ++ parts_input x

unfoldable pub term_input : Term → HashWrites
term_input t = fold-Term HashWrites input_step t

pub table_respects : (a b : List Row) → eq_by_cmp table_cmp a b ≡ true → table_input a ≡ table_input b
table_respects a b h = ap table_input (one_table a b ((Equal-is (table_cmp a b)).0 h))

pub term_respects : (t u : Term) → eq_by_cmp term_cmp t u ≡ true → term_input t ≡ term_input u
term_respects t u h = ap term_input (one_term t u ((Equal-is (term_cmp t u)).0 h))
