-- The space whose cells are printed, as the code has it: that of a term, a table, the integers of a fibre, or the loop group of a term.
--
--   the base of the bundle over a table is that table, and its fibre is K(Z,1)
use Rattle.spaces.specs.Spaces.{Space, table, kz1, loops}
use Rattle.term_lang.specs.Rows.{rows_of}
use Rattle.term_lang.specs.SpaceOf.{space_of}
use Rattle.reply_text.specs.declared.printed.Printed.{Printed}
use Rattle.reply_text.specs.declared.printed.Printed.TheVariants.{Whole, Rows, Integers, Loops}

abbrev pub printed_space : Printed → Space
printed_space (Whole t) = space_of t.now
printed_space (Rows t) = table (rows_of t.now)
printed_space Integers = kz1
printed_space (Loops t) = loops (space_of t.now)
