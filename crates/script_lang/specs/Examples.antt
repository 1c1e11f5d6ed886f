-- The grammar on lines that were read by hand.
use Rattle.std.specs.Prelude.{ℕ, pos, negsuc, true, false, List, [], ◌∷◌, codes, Option, Some, None}
use Rattle.term_lang.specs.declared.texts.FaceText.{FaceText}
use Rattle.script_lang.specs.declared.exprs.Expr.TheVariants as exprs
use Rattle.script_lang.specs.declared.simplices.SimplexText.{SimplexText}
use Rattle.script_lang.specs.declared.simplices.BodyText.TheVariants as bodies
use Rattle.script_lang.specs.declared.simplices.ChainText.TheVariants as chains
use Rattle.script_lang.specs.declared.commands.Command.{Command}
use Rattle.script_lang.specs.declared.commands.Command.TheVariants as commands
use Rattle.script_lang.specs.Grammar.{IsLine}

-- a simplex with these degeneracies before a row of this name
abbrev pub named : List ℕ → List ℕ → SimplexText
named degens name = record { degens = degens; body = bodies.Name name }

abbrev pub face : List ℕ → List ℕ → FaceText
face word name = record { word = word; name = name }

pub record AreRead : Type 0 where
  pub comment : IsLine (codes " ; (names)") None
  pub betti : IsLine (codes " (betti( sphere 2 )0 10) ; twice") (Some (commands.Betti (exprs.Sphere 2) 0 10))
  -- the projective plane
  pub table : IsLine (codes "(setf sphere (table (v)(e v v)(t e 0:v e)))")
      (Some (commands.Setf (codes "sphere") (exprs.Table (
      record { name = codes "v"; faces = [] }
      ∷ record { name = codes "e"; faces = face [] (codes "v") ∷ face [] (codes "v") ∷ [] }
      ∷ record { name = codes "t"; faces = face [] (codes "e") ∷ face (0 ∷ []) (codes "v") ∷ face [] (codes "e") ∷ [] }
      ∷ []))))
  -- a cell of a circle bundle over the sphere of dimension 2, and a word of its loop group
  pub chain : IsLine (codes "(express (bundle (sphere 2) (S2 -1)) 2 (1 <S2,1-0:|>) (-3 [S2 -1-0:*]))")
      (Some (commands.Express (exprs.Bundle (exprs.Sphere 2) (record { cell = codes "S2"; value = negsuc 0 } ∷ [])) 2 (chains.Terms (
      record { coeff = pos 1; simplex = record { degens = []; body = bodies.Pair (named [] (codes "S2")) (record { degens = 1 ∷ 0 ∷ []; body = bodies.Ints [] }) } }
      ∷ record {
        coeff = negsuc 2;
        simplex = record {
          degens = [];
          body = bodies.Word (
              record { inverse = false; simplex = named [] (codes "S2") }
              ∷ record { inverse = true; simplex = record { degens = 1 ∷ 0 ∷ []; body = bodies.Star } } ∷ []);
        };
      }
      ∷ []))))

pub record AreRefused : Type 0 where
  pub leading_zero : (c : Option Command) → IsLine (codes "(field 04)") c → ⊥
  pub minus_zero : (c : Option Command) → IsLine (codes "(boundary x 2 (-0 S2))") c → ⊥
  pub keyword : (c : Option Command) → IsLine (codes "(homolgy x 1)") c → ⊥
  pub blank_in_simplex : (c : Option Command) → IsLine (codes "(boundary x 2 (1 <a, b>))") c → ⊥
