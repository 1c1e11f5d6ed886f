-- New reductions from given ones, by what their maps do to generators (Rubio and Sergeraert, Constructive Homological Algebra and
-- Applications, chapter 2).
--
--   the identity: f, g = 1 and h = 0
--   the composition of (f1, g1, h1) and (f2, g2, h2): f2 f1, g1 g2 and h1 + g1 h2 f1
use Rattle.std.specs.Prelude.{[], ◌++◌}
use Rattle.fp_field.specs.Reduction.{Complex, Maps, after, one}

-- the identity on a complex
abbrev pub identity : {K : Type 0} → Complex K → Maps K K
identity X = record { big = X; small = X; f = one; g = one; h = λ x. [] }

-- a reduction of the big complex of the first to the small one of the second
abbrev pub composed : {B M S : Type 0} → Maps B M → Maps M S → Maps B S
composed m n = record {
  big = m.big;
  small = n.small;
  f = after n.f m.f;
  g = after m.g n.g;
  h = λ x. m.h x ++ after m.g (after n.h m.f) x;
}
