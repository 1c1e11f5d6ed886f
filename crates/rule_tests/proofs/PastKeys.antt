-- Keys at |100001| in K(Z,1), and at Up of |-100001| in its suspension.
use Rattle.std.proofs.Common.{◌≡◌, List, [], ◌∷◌, length, Some, inr, ap, refl, sym, subst, arith, ℕ, ℤ, pos}
use Rattle.std.specs.Prelude.{negsuc}
use Rattle.fp_field.specs.declared.prime.Prime.{Prime}
use Rattle.fp_field.specs.Field.{number}
use Rattle.spaces.specs.Allowed.{HasOneVertex}
use Rattle.spaces.specs.Spaces.{kz1, suspension, set_of}
use Rattle.cells.specs.declared.cells.Cell.TheVariants.{Ints, Up}
use Rattle.term_lang.specs.declared.terms.Term.TheVariants.{Suspension, KZ1}
use Rattle.values.specs.Asks.{Ask, f as f_at}
use Rattle.values.specs.Ranks.{IsValid}
use Rattle.oracle_iface.specs.declared.keys.Op.TheVariants.{F, H}
use Rattle.oracle_iface.specs.declared.keys.Place.TheVariants.{Big as BigPlace}
use Rattle.oracle_iface.specs.KeyLaws.{IsNamed}
use Rattle.oracle_iface.proofs.KeysBack.{valid-back, valid-key}
use Rattle.oracle_iface.proofs.Named.{named-kz1, named-suspension}
use Rattle.kz1_rules.proofs.SampleKeys.{single-valid}
use Rattle.susp_rules.specs.Treated.{IsTreated}
use Rattle.normal_forms.specs.Built.{IsBuilt}
use Rattle.normal_forms.proofs.BuiltForms.{built_cells}

pub past-treated : (p : Prime) → IsTreated (record { op = H; prime = p; place = BigPlace (Ints (pos 100001 ∷ [])); term = KZ1 })
past-treated p = (single-valid p (pos 100001) nonzero H (inr refl), subst IsBuilt (sym named-kz1) tt)
  where
    size : ℤ → ℕ
    size (pos n) = n
    size (negsuc n) = n

    nonzero : pos 100001 ≡ pos 0 → ⊥
    nonzero e = omega (arith, ap size e)

one_vertex : HasOneVertex (set_of kz1)
one_vertex = ([], (refl, λ i k l. tt), λ x is. empty x is.0)
  where
    empty : (x : List ℤ) → length x ≡ 0 → x ≡ []
    empty [] e = refl
    empty (a ∷ x) e = absurd (omega (arith, e))

pub up_past-treated : (p : Prime) → IsTreated (record { op = F; prime = p; place = BigPlace (Up (Ints (negsuc 100000 ∷ []))); term = Suspension KZ1 })
up_past-treated p = (valid-key p question (valid-back p question named (built_cells (suspension kz1) valid.0 tt) valid) valid, subst IsBuilt (sym named) tt)
  where
    named : IsNamed (suspension kz1)
    named = named-suspension kz1 named-kz1

    question : Ask
    question = f_at (suspension kz1) 2 (Some (0, negsuc 100000 ∷ []))

    valid : IsValid (number p) question
    valid = (((tt, one_vertex), omega arith), ((omega arith, (refl, λ i k l. tt), refl), refl), omega arith)
