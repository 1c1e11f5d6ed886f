use Rattle.std.proofs.Common.{◌≡◌, ◌↔◌, ◌<◌, ◌≤◌, ◌∷◌, ℕ, [], set, get_or, length, sym, ◌∙◌, ap, subst, arith}
use Rattle.fp_field.specs.Field.{number, times}
use Rattle.fp_field.specs.declared.prime.Prime.{Prime}
use Rattle.std.proofs.Common.{List}
use Rattle.echelons.specs.Echelon.{Vector, at_place, multiple, lead, IsCombination}
use Rattle.echelons.proofs.Leads.{lead-positive}
use Rattle.elim_fp.specs.Rows.{DenseRow, vectors_of, IsRow}
use Rattle.elim_fp.specs.Tables.{IsTable}
use Rattle.elim_fp.proofs.TableRows.{table-more, table-none}
use Rattle.elim_fp.proofs.tables.with_row.Goals as goal

pub inv-requires-clause-nonzero : goal.inv-requires-clause-nonzero
inv-requires-clause-nonzero c =
    let x = c.in_ok-rest.rest.values in
    let full : length c.args.table.items ≡ length c.args.row.now.values = c.requires.table.count in
    let wide : length c.in_ok-rest.rest.values ≡ length c.args.row.now.values = c.in_ok-rest.ensures.row.vector.wide in
    let l : lead c.in_ok-rest.rest.values < length c.in_ok-rest.rest.values = omega (arith, c.if-place-len.false, c.lead-place.ensures, c.len.ensures, c.args.table.ok.0, full, wide) in
    subst (λ n. 0 < n) (sym (c.entry-leading.ensures.value ∙ ap (at_place x) c.lead-place.ensures)) (lead-positive x l)

-- the row at its place, where the place is told
more-at : (q : Prime) (w place b e : ℕ) (table : List DenseRow) (r y : DenseRow) → IsTable q w table → IsRow q w r → place ≡ lead r.values → place < w
    → (lead r.values < w → lead (get_or (vectors_of table) (lead r.values) []) ≡ lead r.values → ⊥)
    → b < number q → e ≡ at_place r.values place → times (number q) e b ≡ 1 → y.prime ≡ r.prime → y.values ≡ multiple (number r.prime) b r.values
    → IsTable q w (set table place y) × ((x : Vector) → IsCombination (number q) w (vectors_of (set table place y)) x ↔ IsCombination (number q) w (r.values ∷ vectors_of table) x)
more-at q w place b e table r y h g pe l free small ee inv py ye =
    let m : lead r.values < w = subst (λ n. n < w) pe l in
    subst (λ n. IsTable q w (set table n y) × ((x : Vector) → IsCombination (number q) w (vectors_of (set table n y)) x ↔ IsCombination (number q) w (r.values ∷ vectors_of table) x)) (sym pe)
    (table-more q w b e table r y h g m (free m) small (ee ∙ ap (at_place r.values) pe) inv py ye)

-- the span of what is left, over the table itself
over : (q : Prime) (w : ℕ) (u v : Vector) (seen table : List DenseRow) → seen ≡ table
    → ((x : Vector) → IsCombination (number q) w (u ∷ vectors_of seen) x ↔ IsCombination (number q) w (v ∷ vectors_of seen) x)
    → (x : Vector) → IsCombination (number q) w (u ∷ vectors_of table) x ↔ IsCombination (number q) w (v ∷ vectors_of table) x
over q w u v seen table e h = subst (λ t. (x : Vector) → IsCombination (number q) w (u ∷ vectors_of t) x ↔ IsCombination (number q) w (v ∷ vectors_of t) x) e h

pub returns-then-place-len-clause-span : goal.returns-then-place-len-clause-span
returns-then-place-len-clause-span c = λ x.
    let w = length c.args.row.now.values in
    let full : length c.args.table.items ≡ length c.args.row.now.values = c.requires.table.count in
    let past : length c.args.row.now.values ≤ lead c.in_ok-rest.rest.values = omega (arith, c.if-place-len.true, c.lead-place.ensures, c.len.ensures, c.args.table.ok.0, full) in
    let none = table-none c.args.p w c.args.table.items c.in_ok-rest.rest c.requires.table c.in_ok-rest.ensures.row past x in
    let low = over c.args.p w c.in_ok-rest.rest.values c.args.row.now.values c.deref.result.now c.args.table.items c.deref.ensures.value c.in_ok-rest.ensures.span x in
    (λ d. low.0 (none.0 d), λ d. none.1 (low.1 d))

pub returns-clause-table : goal.returns-clause-table
returns-clause-table c =
    let w = length c.args.row.now.values in
    let r = c.in_ok-rest.rest in
    let full : length c.args.table.items ≡ length c.args.row.now.values = c.requires.table.count in
    let within : c.lead-place.result < length c.args.row.now.values = omega (arith, c.if-place-len.false, c.len.ensures, c.args.table.ok.0, full) in
    (more-at c.args.p w c.lead-place.result c.inv.result.value c.entry-leading.result.value c.args.table.items r c.scale.new.self c.requires.table c.in_ok-rest.ensures.row c.lead-place.ensures within
    (subst (λ t. lead r.values < w → lead (get_or (vectors_of t) (lead r.values) []) ≡ lead r.values → ⊥) c.deref.ensures.value c.in_ok-rest.ensures.free)
    c.inv.ensures.element c.entry-leading.ensures.value c.inv.ensures.inverse c.scale.ensures.prime c.scale.ensures.values).0

pub returns-clause-span : goal.returns-clause-span
returns-clause-span c = λ x.
    let w = length c.args.row.now.values in
    let r = c.in_ok-rest.rest in
    let full : length c.args.table.items ≡ length c.args.row.now.values = c.requires.table.count in
    let within : c.lead-place.result < length c.args.row.now.values = omega (arith, c.if-place-len.false, c.len.ensures, c.args.table.ok.0, full) in
    let more = (more-at c.args.p w c.lead-place.result c.inv.result.value c.entry-leading.result.value c.args.table.items r c.scale.new.self c.requires.table c.in_ok-rest.ensures.row c.lead-place.ensures within
    (subst (λ t. lead r.values < w → lead (get_or (vectors_of t) (lead r.values) []) ≡ lead r.values → ⊥) c.deref.ensures.value c.in_ok-rest.ensures.free)
    c.inv.ensures.element c.entry-leading.ensures.value c.inv.ensures.inverse c.scale.ensures.prime c.scale.ensures.values).1 x in
    let low = over c.args.p w r.values c.args.row.now.values c.deref.result.now c.args.table.items c.deref.ensures.value c.in_ok-rest.ensures.span x in
    (λ d. low.0 (more.0 d), λ d. more.1 (low.1 d))
