use Rattle.twist_laws.proofs.LooplessValues.{loopless-back, loopless-deeper, loopless-outcome_back, loopless-outcome_deeper, loopless-given}
use Rattle.twist_laws.proofs.reductions.loopless_values.Goals as goal

pub returns : goal.returns
returns c = record {
  given_back = loopless-back;
  deeper = λ p d k u l. loopless-deeper p k u d l;
  outcome_back = λ m p k u. loopless-outcome_back p m k u;
  outcome_deeper = λ m p d k u l. loopless-outcome_deeper p m k u d l;
  space = loopless-given;
}
