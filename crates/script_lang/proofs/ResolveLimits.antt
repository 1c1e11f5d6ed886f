-- The sizes of the cell of a normal form are those of the simplex, so that the limits are looked at on the cell.
use Rattle.std.proofs.Common.{◌≡◌, ℕ, ◌≤◌, Option, Some, None, sym, ◌∙◌, ap, arith}
use Rattle.spaces.specs.Spaces.{Space, Plain, set_of}
use Rattle.spaces.specs.Allowed.{IsAllowed}
use Rattle.spaces.specs.Orders.{dim_of, cell_of}
use Rattle.spaces.proofs.SpaceLaws.{space_set_laws}
use Rattle.values.specs.Sizes.{letters, integer}
use Rattle.cells.specs.declared.cells.Simplex.{Simplex}
use Rattle.term_lang.specs.Forms.{form}
use Rattle.term_lang.specs.Quote.{quote}
use Rattle.oracle_iface.specs.declared.bodies.Kind.{Kind}
use Rattle.oracle_iface.specs.CodeSizes.{cell_letters, cell_integer}
use Rattle.oracle_iface.specs.Limits.{kind_past}
use Rattle.oracle_iface.proofs.SizesAgree.{cell_size, letters_kept, integer_kept, cell_letters_agree, cell_integer_agree}
use Rattle.normal_forms.specs.Built.{IsBuilt}
use Rattle.normal_forms.proofs.BuiltForms.{built_forms}
use Rattle.script_lang.specs.declared.simplices.SimplexText.{SimplexText}
use Rattle.script_lang.specs.declared.resolving.ResolveFault.TheVariants.{Over}
use Rattle.script_lang.specs.Meaning.{meaning}
use Rattle.script_lang.specs.Resolved.{IsRead, IsFault, IsFound, simplex_past, kind_and_size}

module _ (a : Space) (allowed : IsAllowed a) (built : IsBuilt a) (n : ℕ) (most : n ≤ 16) (x : Simplex) where
  -- the limits on the cell
  abbrev pub cell_past : Option (Kind × ℕ)
  cell_past = kind_past (record { letters = cell_letters x.cell; integer = cell_integer x.cell; terms = 0 })

  module _ (text : SimplexText) (found : IsFound a n (meaning text a n) (Some x)) where
    abbrev y : Plain a
    y = form x a

    quoted : quote a n y ≡ x
    quoted = (built_forms a allowed built n (omega (arith, most))).quoted x found.1

    letters_are : cell_letters x.cell ≡ letters a y
    letters_are =
        ap (λ (s : Simplex). cell_letters s.cell) (sym quoted) ∙ cell_letters_agree a allowed.0 (dim_of (set_of a) n y) (cell_of (set_of a) n y)
        ∙ cell_size (set_of a) (space_set_laws a allowed.0) (letters a) (letters_kept a) n y

    integer_is : cell_integer x.cell ≡ integer a y
    integer_is =
        ap (λ (s : Simplex). cell_integer s.cell) (sym quoted) ∙ cell_integer_agree a allowed.0 (dim_of (set_of a) n y) (cell_of (set_of a) n y)
        ∙ cell_size (set_of a) (space_set_laws a allowed.0) (integer a) (integer_kept a) n y

    past_is : cell_past ≡ simplex_past a y
    past_is = λ i. kind_past (record { letters = letters_are i; integer = integer_is i; terms = 0 })

    pub within : cell_past ≡ None → IsRead text a n x
    within e = (y, found.0, sym past_is ∙ e, sym quoted)

    pub over : (kind : Kind) (size : ℕ) → cell_past ≡ Some (kind_and_size kind size) → IsFault text a n (Over kind size)
    over kind size e = (y, found.0, sym past_is ∙ e)
