use Rattle.oracle_iface.proofs.KeysBack.{valid-back}
use Rattle.homology_rules.proofs.TypedKeys.{outcome-told, value-told, named-is, degree_key-is, d_key-is, g_key-is, cells-told, d-told, g-told}
use Rattle.homology_rules.proofs.typed.typed_key_laws.Goals as goal

pub returns : goal.returns
returns c = record {
  same_outcome = outcome-told;
  told = value-told;
  valid = λ p q named cells is. value-told p q (valid-back p q named cells is);
  named = named-is;
  degree_key = λ k a n of. degree_key-is k a of n;
  small_d_key = λ k a y of. d_key-is k a of y;
  g_key = λ k a y of. g_key-is k a of y;
  cells = λ k a n of. cells-told k a of n;
  differential = λ k a y of. d-told k a of y;
  image = λ k a y of. g-told k a of y;
}
