use Rattle.fp_field.specs.Field.{number}
use Rattle.fp_field.proofs.Primes.{number_pos}
use Rattle.spaces.specs.Spaces.{set_of}
use Rattle.spaces.proofs.SpaceLaws.{space_set_laws}
use Rattle.homology_laws.proofs.CellChains.{cells-complex, one-chain, plain-d, plain-cycle, cell-cycle, plain-homology}
use Rattle.homology_laws.proofs.cells.cell_laws.Goals as goal

pub returns : goal.returns
returns c =
    record {
      complex = λ a is. cells-complex (set_of a) (space_set_laws a is.0) (number c.args.p) (number_pos c.args.p);
      chains = λ a n z is h. one-chain (set_of a) (space_set_laws a is.0) (number c.args.p) (number_pos c.args.p) n z h;
      boundaries = λ a n w is h. plain-d (set_of a) (space_set_laws a is.0) (number c.args.p) (number_pos c.args.p) n w h;
      cycles = λ a n w is h. (
        plain-cycle (set_of a) (space_set_laws a is.0) (number c.args.p) (number_pos c.args.p) n w,
        cell-cycle (set_of a) (space_set_laws a is.0) (number c.args.p) (number_pos c.args.p) n w h,
      );
      homology = λ a n zs is list. plain-homology (set_of a) (space_set_laws a is.0) (number c.args.p) (number_pos c.args.p) n zs list;
    }
