-- The rows of one vertex are a table.
use Rattle.std.proofs.Common.{◌≡◌, ℕ, zero, suc, ◌<◌, List, [], ◌∷◌, length, refl, arith}
use Rattle.spaces.specs.Tables.{Table, row_at}
use Rattle.spaces.specs.Allowed.{HasFaces, IsTable, face_count}

module _ (name : List ℕ) where
  abbrev pub point : Table
  point = record { name = name; dim = 0; faces = [] } ∷ []

  low : (r : ℕ) → r < 1 → (row_at point r).dim ≡ 0
  low zero h = refl
  low (suc r) h = absurd (omega arith)

  no_faces : (r : ℕ) → r < 1 → length (row_at point r).faces ≡ 0
  no_faces zero h = refl
  no_faces (suc r) h = absurd (omega arith)

  counted : (r : ℕ) → r < 1 → length (row_at point r).faces ≡ face_count (row_at point r).dim
  counted zero h = refl
  counted (suc r) h = absurd (omega arith)

  faces : HasFaces point
  faces = record {
    counted = counted;
    faces_in = λ r n i h e l. absurd (omega (arith, low r h, e));
    face_law = λ r n i j h e l k. absurd (omega (arith, low r h, e));
  }

  pub point_is : IsTable point
  point_is = record {
    some_row = omega arith;
    at_most = omega arith;
    low = λ r h. omega (arith, low r h);
    names_differ = λ r s h l e. omega arith;
    earlier = λ r i h l. absurd (omega (arith, no_faces r h, l));
    faces = faces;
  }
