-- The dimensions of the homology of a built space, as they are told.
use Rattle.std.proofs.Common.{◌≡◌, ℕ, suc, ◌+◌, ◌-◌, ◌≤◌, List, map, refl, sym, ◌∙◌, ap, subst, arith}
use Rattle.std.specs.List.{AllByRecursion as Every}
use Rattle.std.specs.List.Sorted.{IsStrictlySortedBy}
use Rattle.fp_field.specs.declared.prime.Prime.{Prime}
use Rattle.fp_field.specs.Field.{number}
use Rattle.spaces.specs.Spaces.{Space}
use Rattle.cells.specs.Small.{small_cmp as code_cmp}
use Rattle.term_lang.specs.declared.terms.Term.{Term}
use Rattle.term_lang.specs.SpaceOf.{space_of}
use Rattle.values.specs.Asks.{asked_with}
use Rattle.values.specs.Ranks.{loopings}
use Rattle.values.specs.Values.{value}
use Rattle.oracle_iface.specs.declared.keys.Key.{Key}
use Rattle.oracle_iface.specs.Keys.{key_of}
use Rattle.oracle_iface.specs.KeyLaws.{IsReadBack}
use Rattle.oracle_iface.specs.Forcing.{Calls}
use Rattle.homology_rules.specs.Asking.{up_to_refusal, MayForceEach, AskedFirst, EachAnswered}
use Rattle.homology_rules.specs.Degrees.{cells_at}
use Rattle.homology_rules.proofs.Alike.{Alike, alike-then, may-alike}
use Rattle.homology_rules.proofs.RisingCells.{cells-rise}
use Rattle.session_core.specs.declared.answered.Answered.{Answered}
use Rattle.session_core.specs.declared.answered.Answered.TheVariants.{Told as IsTold, Over as IsRefused}
use Rattle.session_core.specs.Answer.{told, told_value}
use Rattle.session_core.specs.Lines.{keys_asked}
use Rattle.session_core.specs.Questions.{dimensions}
use Rattle.session_core.specs.Telling.{Comes}
use Rattle.session_core.specs.Whole.{IsReady}
use Rattle.session_core.specs.Along.{ComesAlong}
use Rattle.session_core.specs.Dimensions.{key_about, keys_of_dimensions, dimensions_at}
use Rattle.session_core.proofs.OneKeyAsked.{no_loopings}
use Rattle.session_core.proofs.Sides.{degrees_asks, dimensions-asked, dimensions-value}
use Rattle.session_core.proofs.TypedDimensions.{dimensions-keys, degrees-back, dimensions-told}
use Rattle.session_core.proofs.ToldByKeys.{told-none, told-some, asked-alike, through-alike, ready-shown}

module _ (p : Prime) (t : Term) (ready : IsReady (space_of t)) (low high : ℕ) (l : low ≤ 16) (h : high ≤ 16) where
  abbrev a : Space
  a = space_of t

  abbrev q : ℕ
  q = number p

  abbrev k : Key
  k = key_about t p 0

  abbrev m : ℕ
  m = suc high - low

  abbrev ours : List Key
  ours = keys_of_dimensions k low m

  abbrev theirs : List Key
  theirs = keys_asked p (dimensions q a low high)

  flat : loopings a ≡ 0
  flat = no_loopings a ready.1

  bound : low + m + loopings a ≤ 24
  bound = omega (arith, flat, l, h)

  asked-is : asked_with (value q) (dimensions q a low high) ≡ degrees_asks (value q) q a low m
  asked-is = dimensions-asked (value q) q a low m

  alike : Alike ours theirs
  alike = alike-then ours (map (key_of p) (degrees_asks (value q) q a low m)) theirs (dimensions-keys p t ready.0 low m) (ap (map (key_of p)) (sym asked-is))

  back : Every (IsReadBack p) (asked_with (value q) (dimensions q a low high))
  back = subst (Every (IsReadBack p)) (sym asked-is) (degrees-back p t ready.0 low m bound)

  pub rises : (n : ℕ) → n ≤ high → IsStrictlySortedBy code_cmp (cells_at k n)
  rises n g = cells-rise k a n refl ready.0 (let f : loopings a ≡ 0 = flat in omega (arith, f, g, h))

  module _ {F : Type 0} (may : F → Key → Type 0) (calls : Calls F) (s u : F) where
    pub may-ours : MayForceEach may calls s theirs → MayForceEach may calls s ours
    may-ours r = may-alike may calls ours theirs s alike r

    pub asked-theirs : AskedFirst calls ours s u → AskedFirst calls theirs s u
    asked-theirs r = asked-alike calls ours theirs s u alike r

    pub through-theirs : (x : Answered (List ℕ)) → ComesAlong calls ours (λ ds. ds ≡ dimensions_at k low m) s u x → EachAnswered calls s (up_to_refusal theirs) u
    through-theirs x c = through-alike calls ours theirs (λ ds. ds ≡ dimensions_at k low m) s u x alike c

    pub comes : (x : Answered (List ℕ)) → ComesAlong calls ours (λ ds. ds ≡ dimensions_at k low m) s u x → Comes (told_value p t 0 (dimensions q a low high)) x
    comes (IsTold ds) c =
        told-none p t 0 (dimensions q a low high) back (sym alike.refusal ∙ c.0)
        ∙ ap told (dimensions-value (value q) q a low m ∙ sym (dimensions-told p t ready.0 (ready-shown p a ready) low m bound c.0) ∙ sym c.1)
    comes (IsRefused w) c = told-some p t 0 (dimensions q a low high) back w (sym alike.refusal ∙ c.0)
