-- The key of F at Up of |3|, in the suspension of K(Z,1), and what it needs.
use Rattle.std.proofs.Common.{◌≡◌, List, [], ◌∷◌, length, Some, refl, sym, subst, arith, ℤ, pos}
use Rattle.fp_field.specs.declared.prime.Prime.{Prime}
use Rattle.fp_field.specs.Field.{number}
use Rattle.spaces.specs.Allowed.{HasOneVertex}
use Rattle.spaces.specs.Spaces.{kz1, suspension, set_of}
use Rattle.cells.specs.declared.cells.Cell.TheVariants.{Ints, Up}
use Rattle.term_lang.specs.declared.terms.Term.TheVariants.{Suspension, KZ1}
use Rattle.values.specs.Asks.{Ask, f as f_at}
use Rattle.values.specs.Ranks.{IsValid}
use Rattle.oracle_iface.specs.declared.keys.Key.{Key}
use Rattle.oracle_iface.specs.declared.keys.Op.TheVariants.{F}
use Rattle.oracle_iface.specs.declared.keys.Place.TheVariants.{Big as BigPlace}
use Rattle.oracle_iface.specs.Forcing.{Calls, MayForceNeeds}
use Rattle.oracle_iface.specs.KeyLaws.{IsNamed}
use Rattle.oracle_iface.proofs.KeysBack.{valid-back, valid-key}
use Rattle.oracle_iface.proofs.Named.{named-kz1, named-suspension}
use Rattle.susp_rules.specs.Treated.{IsTreated}
use Rattle.normal_forms.specs.Built.{IsBuilt}
use Rattle.normal_forms.proofs.BuiltForms.{built_cells}
use Rattle.rule_book.specs.Lower.{needs-treated}

one_vertex : HasOneVertex (set_of kz1)
one_vertex = ([], (refl, λ i k l. tt), λ x is. empty x is.0)
  where
    empty : (x : List ℤ) → length x ≡ 0 → x ≡ []
    empty [] e = refl
    empty (a ∷ x) e = absurd (omega (arith, e))

pub up_three-treated : (p : Prime) → IsTreated (record { op = F; prime = p; place = BigPlace (Up (Ints (pos 3 ∷ []))); term = Suspension KZ1 })
up_three-treated p = (valid-key p question (valid-back p question named (built_cells (suspension kz1) valid.0 tt) valid) valid, subst IsBuilt (sym named) tt)
  where
    named : IsNamed (suspension kz1)
    named = named-suspension kz1 named-kz1

    question : Ask
    question = f_at (suspension kz1) 2 (Some (0, pos 3 ∷ []))

    valid : IsValid (number p) question
    valid = (((tt, one_vertex), omega arith), ((omega arith, (refl, λ i k l. tt), refl), refl), omega arith)

-- a forcer of treated keys may be asked for what a treated key needs
pub may-ask : {S : Type 0} (calls : Calls S) (k : Key) (s : S) → IsTreated k → MayForceNeeds (λ t j. IsTreated j) calls k s
may-ask calls k s is = λ qs t q those asked needed. needs-treated k q is needed

-- and one of any keys for anything
pub may-ask_any : {S : Type 0} (calls : Calls S) (k : Key) (s : S) → MayForceNeeds (λ t j. Unit {0}) calls k s
may-ask_any calls k s = λ qs t q those asked needed. tt
