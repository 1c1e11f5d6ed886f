-- The spaces whose faces the code computes, as a value of the code keeps them: what is built and allowed (the constructions: May,
-- Simplicial Objects in Algebraic Topology, chapters I, IV and VI).
--
--   the suspension of the sphere of dimension 2 is allowed and built, its loop group is not built, and the sphere of dimension 17 is
--   not allowed
use Rattle.spaces.specs.Spaces.{Space}
use Rattle.spaces.specs.Allowed.{IsAllowed}
use Rattle.normal_forms.specs.Built.{IsBuilt}

abbrev pub IsAllowedBuilt : Space → Type 0
IsAllowedBuilt X = IsAllowed X × IsBuilt X
