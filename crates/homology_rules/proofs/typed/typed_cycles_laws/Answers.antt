use Rattle.homology_rules.proofs.TypedCycles.{cycles-valid, degree-told, vector-told, vectors-told, chains-read, chains-told, chains-simple}
use Rattle.homology_rules.proofs.typed.typed_cycles_laws.Goals as goal

pub returns : goal.returns
returns c = record {
  degree = λ k a n of. degree-told k a of n;
  vector = λ k a n v of. vector-told k a of n v;
  valid_key = cycles-valid;
  vectors = λ k a n of valid shown none. vectors-told k a of n shown valid none;
  read = λ k a n of valid shown none. chains-read k a of n shown valid none;
  given_back = λ k a n of valid shown back none. chains-told k a of n shown valid none back;
  simple = λ k a n of simple valid shown none. chains-simple k a of n shown valid none simple;
}
