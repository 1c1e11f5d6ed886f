use Rattle.spaces.specs.Allowed.{space_depth}
use Rattle.term_lang.specs.SpaceOf.{space_of}
use Rattle.space_faces.proofs.faces.+face_of.Given as goal

abbrev pub decreases-face_of : goal.decreases-face_of
decreases-face_of l = space_depth (space_of l.t.now)
