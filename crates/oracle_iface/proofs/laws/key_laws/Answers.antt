use Rattle.oracle_iface.proofs.KeysBack.{basis-back, cycles-back, small_d-back, g-back, f-back, h-back}
use Rattle.oracle_iface.proofs.laws.key_laws.Goals as goal

pub returns : goal.returns
returns c = record {
  basis = λ p a n named. basis-back p a named n;
  cycles = λ p a n named. cycles-back p a named n;
  small_d = λ p a y named. small_d-back p a named y;
  g = λ p a y named. g-back p a named y;
  f = λ p a n x named. f-back p a named n x;
  h = λ p a n x named. h-back p a named n x;
}
