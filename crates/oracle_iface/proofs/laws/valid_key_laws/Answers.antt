use Rattle.oracle_iface.proofs.KeysBack.{small_d-valid_back, g-valid_back, valid-back, table-valid-back, sphere-valid-back, valid-key}
use Rattle.oracle_iface.proofs.laws.valid_key_laws.Goals as goal

pub returns : goal.returns
returns c = record { small_d = small_d-valid_back; g = g-valid_back; back = valid-back; table = table-valid-back; sphere = sphere-valid-back; valid = valid-key }
