use Rattle.spaces.specs.Spaces.{kz1}
use Rattle.term_lang.specs.Forms.{form}
use Rattle.twist_chains.proofs.FibreLists.{Reading}
use Rattle.twist_chains.proofs.fibres.ints_of.Given as goal

abbrev pub invariant-loop-i : goal.invariant-loop-i
invariant-loop-i l = Reading (form l.x kz1) l.items l.list l.k l.i
