-- What is needed for a key that there is a rule for has a rule too, and a lower rank, and is read back from its key (Rubio and Sergeraert,
-- Constructive Homological Algebra and Applications, on homology with generators and chapters 2 and 3).
--
--   the cycles of degree 2 of the sphere of dimension 2 need its small cells of degree 2, which have the same space and a lower rank; the key
--   of F at Up of |3|, in the suspension of K(Z,1), needs the key of F at |3|, whose space is lighter, as base and fibre of a product are
use Rattle.std.proofs.Common.{◌≡◌, ◌⊎◌, sym, ◌∙◌, subst}
use Rattle.std.specs.Prelude.{Contains}
use Rattle.fp_field.specs.Field.{number}
use Rattle.fp_field.proofs.FieldLaws.{is_field}
use Rattle.spaces.specs.Spaces.{Space}
use Rattle.values.specs.Asks.{Ask}
use Rattle.values.specs.BaseLaws.{IsBelow}
use Rattle.values.specs.Ranks.{IsLower, space_of as space_asked}
use Rattle.oracle_iface.specs.declared.keys.Key.{Key}
use Rattle.oracle_iface.specs.Keys.{question_of, key_of, needs_of, IsValidKey}
use Rattle.oracle_iface.specs.KeyLaws.{IsReadBack}
use Rattle.oracle_iface.proofs.CyclesNeeds.{key-space, key-named, key-op}
use Rattle.oracle_iface.proofs.KeysBack.{valid-back, valid-key}
use Rattle.susp_rules.specs.Treated.{IsTreated}
use Rattle.normal_forms.specs.Built.{IsBuilt}
use Rattle.normal_forms.proofs.BuiltForms.{built_cells}
use Rattle.oracle_iface.specs.declared.keys.Op.TheVariants.{Cycles}
use Rattle.term_lang.specs.SpaceOf.{space_of}
use Rattle.twist_laws.proofs.SpaceNeeds.{assembled-needs}
use Rattle.twist_rules.specs.PartSpaces.{IsFibred, base_of, fibre_of}
use Rattle.rule_book.specs.Needed.{IsKnown, built_assembled, needed_known, needed_part}

pub asked_built : (k : Key) → IsTreated k → IsBuilt (space_asked (question_of k))
asked_built k is = subst IsBuilt (sym (key-space k)) is.1

module _ (k : Key) (q : Ask) (is : IsTreated k) (needed : Contains (needs_of k) q) where
  abbrev here : Space
  here = space_asked (question_of k)

  known : IsKnown (space_asked q)
  known = needed_known (number k.prime) (question_of k) q (key-named k, asked_built k is) needed

  below : IsBelow (number k.prime) q (question_of k)
  below = assembled-needs (number k.prime) (is_field k.prime) (question_of k) (built_assembled here (asked_built k is)) is.0.question q needed

  pub needs-lower-rank : IsLower (number k.prime) q (question_of k)
  needs-lower-rank = below.1

  pub needs-back : IsReadBack k.prime q
  needs-back = valid-back k.prime q known.0 (built_cells (space_asked q) below.0.0 known.1) below.0

  pub needs-treated : IsTreated (key_of k.prime q)
  needs-treated = (valid-key k.prime q needs-back below.0, subst IsBuilt (sym known.0) known.1)

pub treated-valid : (k : Key) → IsTreated k → IsValidKey k
treated-valid k is = is.0

pub needs-lower : (k : Key) (q : Ask) → IsTreated k → Contains (needs_of k) q → IsTreated (key_of k.prime q) × IsLower (number k.prime) q (question_of k)
needs-lower k q is needed = (needs-treated k q is needed, needs-lower-rank k q is needed)

pub needs-parts : (k : Key) (q : Ask) → IsTreated k → IsFibred (space_of k.term) → (k.op ≡ Cycles → ⊥) → Contains (needs_of k) q
    → (space_asked q ≡ base_of (space_of k.term)) ⊎ (space_asked q ≡ fibre_of (space_of k.term))
needs-parts k q is fibred not needed =
    subst (λ s. (space_asked q ≡ base_of s) ⊎ (space_asked q ≡ fibre_of s)) (key-space k)
    (needed_part (number k.prime) (question_of k) q (subst IsFibred (sym (key-space k)) fibred) (λ e. not (sym (key-op k is.0) ∙ e)) needed)
