-- Spaces that are built: their maps are reductions, their cycles are what their right sides give, and their values have only cells that the
-- code has.
use Rattle.std.proofs.Common.{ℕ}
use Rattle.fp_field.specs.Field.{IsField}
use Rattle.fp_field.specs.Reduction.{IsReduction}
use Rattle.spaces.specs.Spaces.{Space, table, sphere, product, suspension, kz1, bundle, loops, paths, kzm1, cyclic_bundle}
use Rattle.spaces.specs.Allowed.{IsAllowed}
use Rattle.values.specs.Asks.{cycles}
use Rattle.values.specs.Laws.{maps_of}
use Rattle.homology_laws.specs.Kernel.{CyclesAreGiven}
use Rattle.homology_rules.specs.Shown.{HasShownValues}
use Rattle.normal_forms.specs.Built.{IsBuilt}
use Rattle.normal_forms.proofs.BuiltForms.{built_cells}
use Rattle.susp_rules.proofs.ShownSuspensions.{degrees-shown}
use Rattle.twist_laws.specs.Assembled.{IsLoopless, IsAssembled}
use Rattle.twist_laws.proofs.AssembledHomology.{assembled-reduction}
use Rattle.twist_laws.proofs.LooplessValues.{loopless-back}

built_assembled : (a : Space) → IsBuilt a → IsAssembled a
built_assembled (table t) built = tt
built_assembled (sphere m) built = tt
built_assembled (product a b) built = (built_assembled a built.0, built_assembled b built.1)
built_assembled (suspension a) built = built_assembled a built
built_assembled kz1 built = tt
built_assembled (bundle t c) built = tt
built_assembled (loops a) built = absurd built
built_assembled (paths a) built = absurd built
built_assembled (kzm1 m) built = absurd built
built_assembled (cyclic_bundle t m c) built = absurd built

built_loopless : (a : Space) → IsBuilt a → IsLoopless a
built_loopless (table t) built = tt
built_loopless (sphere m) built = tt
built_loopless (product a b) built = (built_loopless a built.0, built_loopless b built.1)
built_loopless (suspension a) built = built_loopless a built
built_loopless kz1 built = tt
built_loopless (bundle t c) built = tt
built_loopless (loops a) built = absurd built
built_loopless (paths a) built = absurd built
built_loopless (kzm1 m) built = tt
built_loopless (cyclic_bundle t m c) built = tt

pub built_given : (p : ℕ) (a : Space) (n : ℕ) → IsBuilt a → CyclesAreGiven p a n
built_given p a n built = loopless-back p (cycles a n) (built_loopless a built)

module _ (p : ℕ) (field : IsField p) where
  pub built_reduction : (a : Space) → IsAllowed a → IsBuilt a → IsReduction p (maps_of p a)
  built_reduction a is built = assembled-reduction p field a is (built_assembled a built)

  pub shown_built : (a : Space) → IsAllowed a → IsBuilt a → HasShownValues p a
  shown_built a is built = degrees-shown p a is (built_cells a is built) (built_reduction a is built 0).degrees
