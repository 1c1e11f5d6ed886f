use Rattle.homology_rules.proofs.TypedSums.{f_key-is, h_key-is, f-told, h-told, f-sum, h-sum, f-sum_shown, h-sum_shown, g-sum_shown, sum-quoted}
use Rattle.homology_rules.proofs.typed.typed_sum_laws.Goals as goal

pub returns : goal.returns
returns c = record {
  f_key = λ k a n x of. f_key-is k a of n x;
  h_key = λ k a n x of. h_key-is k a of n x;
  f_terms = λ k a n x of. f-told k a of n x;
  h_terms = λ k a n x of. h-told k a of n x;
  f_sum = λ k a z of shown. f-sum k a of shown z;
  h_sum = λ k a z of shown. h-sum k a of shown z;
  f_shown = λ p a z shown. f-sum_shown p a shown z;
  h_shown = λ p a z shown. h-sum_shown p a shown z;
  g_shown = λ p a n v shown. g-sum_shown p a shown n v;
  sum = sum-quoted;
}
