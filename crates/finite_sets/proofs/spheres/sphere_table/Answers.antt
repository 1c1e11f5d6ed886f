use Rattle.std.proofs.Common.{◌≡◌, map, rules}
use Rattle.term_lang.specs.Rows.{rows_of}
use Rattle.spaces.specs.Tables.{sphere_rows}
use Rattle.finite_sets.specs.Spheres.{unnamed, name_in, sphere_names}
use Rattle.finite_sets.proofs.SphereRows.{sphere_is_table}
use Rattle.finite_sets.proofs.spheres.sphere_table.Goals as goal

pub table_of-requires : goal.table_of-requires
table_of-requires c =
    let rows = rows_of c.push-2.new.self in
    let named : map name_in rows ≡ sphere_names c.args.n = search rules in
    let same : map unnamed rows ≡ sphere_rows c.args.n = search rules in
    sphere_is_table c.args.n c.requires.low c.requires.high rows named same
