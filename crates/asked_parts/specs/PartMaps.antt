-- The reduction of the space of a term, over a prime, on the cells and small cells of the code: the values of the questions for its maps,
-- and the keys that are asked for, one for each map. The big differential is the boundary, in normal form, and asks nothing (Rubio and
-- Sergeraert, Constructive Homological Algebra and Applications, on effective homology).
--
--   F of the sphere of dimension 2 at the cell Top(2) asks for the one key of that question, whose value is the chain of One(Top(2)), and
--   the boundary of Top(2) is 0
use Rattle.std.specs.Prelude.{◌≡◌, [], ◌∷◌}
use Rattle.std.specs.Ordering.{eq_by_cmp}
use Rattle.std.specs.declared.cmp.Ordering.{Ordering}
use Rattle.fp_field.specs.declared.prime.Prime.{Prime}
use Rattle.fp_field.specs.Field.{number}
use Rattle.fp_field.specs.Chains.{Terms}
use Rattle.fp_field.specs.Reduction.{Maps, one}
use Rattle.cells.specs.declared.cells.Cell.{Cell}
use Rattle.cells.specs.declared.cells.SmallCell.{SmallCell}
use Rattle.cells.specs.Dim.{dim_of}
use Rattle.cells.specs.Small.{degree_of_small}
use Rattle.spaces.specs.Spaces.{Space}
use Rattle.values.specs.Asks.{Ask, small_d, f, g, h}
use Rattle.values.specs.Ranks.{IsCell, IsSmallCell}
use Rattle.values.specs.Values.{value}
use Rattle.term_lang.specs.declared.terms.Term.{Term}
use Rattle.term_lang.specs.Forms.{cell_form}
use Rattle.term_lang.specs.SpaceOf.{space_of}
use Rattle.oracle_iface.specs.declared.keys.Key.{Key}
use Rattle.oracle_iface.specs.Keys.{key_of, quote_chain, quote_small_chain}
use Rattle.oracle_iface.specs.SmallForms.{small_form, quote_small}
use Rattle.space_faces.specs.Boundaries.{graded, boundary_of}
use Rattle.term_lang.specs.Quote.{quote_cell}
use Rattle.reduct_laws.specs.Lists.{Lists}

module _ (p : Prime) (t : Term) where
  abbrev pub part_space : Space
  part_space = space_of t

  abbrev pub f_ask : Cell → Ask
  f_ask x = f part_space (dim_of x) (cell_form x part_space)

  abbrev pub h_ask : Cell → Ask
  h_ask x = h part_space (dim_of x) (cell_form x part_space)

  abbrev pub g_ask : SmallCell → Ask
  g_ask y = g part_space (small_form y part_space)

  abbrev pub d_ask : SmallCell → Ask
  d_ask y = small_d part_space (small_form y part_space)

  -- what a value of the code stands for in the space has that value
  abbrev pub IsOwnBig : Cell → Type 0
  IsOwnBig x = quote_cell part_space (dim_of x) (cell_form x part_space) ≡ x

  abbrev pub IsOwn : SmallCell → Type 0
  IsOwn y = quote_small part_space (small_form y part_space) ≡ y

  -- the boundary of a cell
  abbrev pub cell_boundary : Cell → Terms Cell
  cell_boundary x = quote_chain part_space (boundary_of (number p) part_space (one (graded part_space x)))

  abbrev pub part_maps : (Cell → Cell → Ordering) → (SmallCell → SmallCell → Ordering) → Maps Cell SmallCell
  part_maps cmp small_cmp = record {
    big = record {
      generator = λ n x. (dim_of x ≡ n) × IsOwnBig x × IsCell part_space n (cell_form x part_space);
      same = eq_by_cmp cmp;
      d = cell_boundary;
    };
    small = record {
      generator = λ n y. (degree_of_small y ≡ n) × IsOwn y × IsSmallCell (number p) part_space n (small_form y part_space);
      same = eq_by_cmp small_cmp;
      d = λ y. quote_small_chain part_space (value (number p) (d_ask y));
    };
    f = λ x. quote_small_chain part_space (value (number p) (f_ask x));
    g = λ y. quote_chain part_space (value (number p) (g_ask y));
    h = λ x. quote_chain part_space (value (number p) (h_ask x));
  }

  -- one key each
  abbrev pub part_lists : Lists Cell SmallCell Key
  part_lists = record {
    big_d = λ x. [];
    small_d = λ y. key_of p (d_ask y) ∷ [];
    f = λ x. key_of p (f_ask x) ∷ [];
    g = λ y. key_of p (g_ask y) ∷ [];
    h = λ x. key_of p (h_ask x) ∷ [];
  }
