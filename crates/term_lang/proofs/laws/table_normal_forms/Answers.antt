use Rattle.term_lang.proofs.TableForms.{masked_table, table_forms, table_cells}
use Rattle.term_lang.proofs.laws.table_normal_forms.Goals as goal

pub returns : goal.returns
returns c = record { masks = masked_table; simplices = table_forms; cells = table_cells }
