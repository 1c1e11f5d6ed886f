-- What the reader of a line promises.
use Rattle.std.proofs.Common.{◌≡◌, ℕ, ◌≤◌, List, Option, Ok, Err, length, sym, ◌∙◌}
use Rattle.script_lang.specs.declared.commands.Command.{Command}
use Rattle.script_lang.specs.Grammar.{IsLine}
use Rattle.script_lang.specs.Lines.{line_at}
use Rattle.script_lang.proofs.Combine.{ok_parts}
use Rattle.script_lang.proofs.Nested.{line_takes, line_again}

pub found : (bytes : List ℕ) (asked : Option Command) (rest : List ℕ) → length bytes ≤ 65536 → line_at bytes ≡ Ok (asked, rest) → IsLine bytes asked
found bytes asked rest short e = (short, line_takes bytes asked rest e)

pub only : (bytes : List ℕ) (asked other : Option Command) (rest : List ℕ) → line_at bytes ≡ Ok (asked, rest) → IsLine bytes other → asked ≡ other
only bytes asked other rest e is =
    let a = line_again bytes other is.1 in
    (ok_parts asked other rest a.0 (sym e ∙ a.1)).0

pub none : (bytes : List ℕ) (left : ℕ) (other : Option Command) → line_at bytes ≡ Err left → IsLine bytes other → ⊥
none bytes left other e is = let a = line_again bytes other is.1 in let f = sym e ∙ a.1 in cc

-- a line is one thing alone
pub one_meaning : (bytes : List ℕ) (c d : Option Command) → IsLine bytes c → IsLine bytes d → c ≡ d
one_meaning bytes c d is other =
    let a = line_again bytes c is.1 in
    only bytes c d a.0 a.1 other
