-- What is told of a bundle, part by part.
use Rattle.std.proofs.Common.{◌≡◌, List, Option, Some, None, sym, ◌∙◌, ap, subst, refl, ℤ}
use Rattle.spaces.specs.Tables.{Table}
use Rattle.spaces.specs.Spaces.{bundle}
use Rattle.spaces.specs.Allowed.{IsTable}
use Rattle.term_lang.specs.declared.tables.Row.{Row}
use Rattle.term_lang.specs.declared.terms.Term.{Term}
use Rattle.term_lang.specs.declared.terms.Term.TheVariants.{Bundle as BundleTerm}
use Rattle.term_lang.specs.declared.texts.NotCocycle.{NotCocycle}
use Rattle.term_lang.specs.Rows.{rows_of}
use Rattle.term_lang.specs.SpaceOf.{space_of}
use Rattle.term_lang.proofs.SpacesOfTerms.{space-Bundle}
use Rattle.oracle_iface.specs.Terms.{term_of}
use Rattle.oracle_iface.proofs.Named.{rows-back}
use Rattle.twist_maps.specs.Values.{AreValues, first_open}
use Rattle.script_lang.specs.declared.exprs.PairText.{PairText}
use Rattle.reply_text.specs.declared.refusals.Refusal.TheVariants as refusals
use Rattle.session_core.specs.declared.stops.Stop.{Stop}
use Rattle.session_core.specs.Answer.{Told, told, refused, ◌>>◌, told_base, told_values, told_closed, told_bundle}
use Rattle.session_core.specs.Bundles.{Fault, values_on, pairs_fault}
use Rattle.session_core.specs.Telling.{Stops}
use Rattle.session_core.specs.Whole.{IsReady}
use Rattle.session_core.proofs.PairValues.{are_values, bundle_allowed}
use Rattle.session_core.proofs.Told.{stops_on, stops_later}

-- ---- values

module _ (t : Table) (pairs : List PairText) where
  abbrev values_by : Fault → Told (List ℤ)
  values_by o = elim o [ Some fault ↦ refused fault | None ↦ told (values_on pairs t) ]

  pub values_are : pairs_fault t pairs ≡ None → told_values t pairs ≡ told (values_on pairs t)
  values_are e = ap values_by e

  pub values_refused : (r : Rattle.reply_text.specs.declared.refusals.Refusal.Refusal) → pairs_fault t pairs ≡ Some r → told_values t pairs ≡ refused r
  values_refused r e = ap values_by e

  -- values that are told are those of pairs without fault
  pub told_none : (values : List ℤ) → told_values t pairs ≡ told values → (pairs_fault t pairs ≡ None) × (values_on pairs t ≡ values)
  told_none values e = by (pairs_fault t pairs) refl e
    where
      by : (o : Fault) → pairs_fault t pairs ≡ o → values_by o ≡ told values → (pairs_fault t pairs ≡ None) × (values_on pairs t ≡ values)
      by (Some r) f h = absurd (cc)
      by None f h = (f, cc)

  pub values_good : (values : List ℤ) → told_values t pairs ≡ told values → AreValues t values
  values_good values e = let h = told_none values e in subst (AreValues t) h.1 (are_values t pairs h.0)

-- ---- closed values

module _ (t : Table) (values : List ℤ) where
  abbrev closed_by : Option NotCocycle → Told (List ℤ)
  closed_by o = elim o [ Some found ↦ refused (refusals.NotClosed found.row found.sum) | None ↦ told values ]

  pub closed_told : first_open t values ≡ None → told_closed t values ≡ told values
  closed_told e = ap closed_by e

  -- values that are told are closed
  pub closed_none : (c : List ℤ) → told_closed t values ≡ told c → (first_open t values ≡ None) × (values ≡ c)
  closed_none c e = by (first_open t values) refl e
    where
      by : (o : Option NotCocycle) → first_open t values ≡ o → closed_by o ≡ told c → (first_open t values ≡ None) × (values ≡ c)
      by (Some found) f h = absurd (cc)
      by None f h = (f, cc)

  pub closed_refused : (found : NotCocycle) → Some found ≡ first_open t values → told_closed t values ≡ refused (refusals.NotClosed found.row found.sum)
  closed_refused found e = ap closed_by (sym e)

-- ---- the bundle

pub values_ready : (t : Table) (pairs : List PairText) (values : List ℤ) → IsTable t → told_values t pairs ≡ told values → first_open t values ≡ None → IsReady (bundle t values)
values_ready t pairs values form are closed =
    let h = told_none t pairs values are in
    subst (λ c. IsReady (bundle t c)) h.1 (bundle_allowed t pairs form h.0 (ap (first_open t) h.1 ∙ closed), tt)

module _ (a : Term) (pairs : List PairText) where
  abbrev whole : Told Term
  whole = told_bundle pairs (told a)

  pub base_stops : (s : Stop) → Stops s (told_base a) → Stops s whole
  base_stops s h = stops_on s (told_base a) _ h

  module _ (base : List Row) (here : told_base a ≡ told (rows_of base)) where
    abbrev t : Table
    t = rows_of base

    pub values_stop : (s : Stop) → Stops s (told_values t pairs) → Stops s whole
    values_stop s h = stops_later s (told_base a) _ t here (stops_on s (told_values t pairs) _ h)

    module _ (values : List ℤ) (are : told_values t pairs ≡ told values) where
      pub closed_stops : (s : Stop) → Stops s (told_closed t values) → Stops s whole
      closed_stops s h =
          stops_later s (told_base a) _ t here (stops_later s (told_values t pairs) _ values are (stops_on s (told_closed t values) _ h))

      module _ (closed : first_open t values ≡ None) (u : Term) (is : u ≡ BundleTerm base values) where
        pub bundle_told : whole ≡ told u
        bundle_told =
            ap (λ m. m >> λ s. told_values s pairs >> λ v. told_closed s v >> λ c. told (term_of (bundle s c))) here
            ∙ ap (λ m. m >> λ v. told_closed t v >> λ c. told (term_of (bundle t c))) are
            ∙ ap (λ m. m >> λ c. told (term_of (bundle t c))) (closed_told t values closed)
            ∙ ap told (ap (λ r. BundleTerm r values) (rows-back base) ∙ sym is)

        pub bundle_ready : IsTable t → IsReady (space_of u)
        bundle_ready form = subst IsReady (sym (ap space_of is ∙ space-Bundle base values)) (values_ready t pairs values form are closed)
