-- The rows of two vertices are a table.
use Rattle.std.proofs.Common.{◌≡◌, ℕ, zero, suc, ◌<◌, List, [], ◌∷◌, length, refl, sym, arith}
use Rattle.spaces.specs.Tables.{Table, row_at}
use Rattle.spaces.specs.Allowed.{HasFaces, IsTable, face_count}

module _ (a b : List ℕ) (differ : a ≡ b → ⊥) where
  abbrev pub two_points : Table
  two_points = record { name = a; dim = 0; faces = [] } ∷ (record { name = b; dim = 0; faces = [] } ∷ [])

  low : (r : ℕ) → r < 2 → (row_at two_points r).dim ≡ 0
  low zero h = refl
  low (suc zero) h = refl
  low (suc (suc r)) h = absurd (omega arith)

  no_faces : (r : ℕ) → r < 2 → length (row_at two_points r).faces ≡ 0
  no_faces zero h = refl
  no_faces (suc zero) h = refl
  no_faces (suc (suc r)) h = absurd (omega arith)

  counted : (r : ℕ) → r < 2 → length (row_at two_points r).faces ≡ face_count (row_at two_points r).dim
  counted zero h = refl
  counted (suc zero) h = refl
  counted (suc (suc r)) h = absurd (omega arith)

  names : (r s : ℕ) → r < 2 → s < 2 → (row_at two_points r).name ≡ (row_at two_points s).name → r ≡ s
  names zero zero h l e = refl
  names zero (suc zero) h l e = absurd (differ e)
  names (suc zero) zero h l e = absurd (differ (sym e))
  names (suc zero) (suc zero) h l e = refl
  names (suc (suc r)) s h l e = absurd (omega arith)
  names zero (suc (suc s)) h l e = absurd (omega arith)
  names (suc zero) (suc (suc s)) h l e = absurd (omega arith)

  faces : HasFaces two_points
  faces = record {
    counted = counted;
    faces_in = λ r n i h e l. absurd (omega (arith, low r h, e));
    face_law = λ r n i j h e l k. absurd (omega (arith, low r h, e));
  }

  pub points_are : IsTable two_points
  points_are = record {
    some_row = omega arith;
    at_most = omega arith;
    low = λ r h. omega (arith, low r h);
    names_differ = names;
    earlier = λ r i h l. absurd (omega (arith, no_faces r h, l));
    faces = faces;
  }
