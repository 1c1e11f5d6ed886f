use Rattle.std.proofs.Common.{rules}
use Rattle.turnstile.proofs.Folded.{kept_all, fit_all, owned_all}
use Rattle.turnstile.proofs.pass.Turnstile.close_all.Goals as goal

pub end-requires-clause-every : goal.end-requires-clause-every
end-requires-clause-every g c =
    kept_all c.args.self _ c.requires c.first_place-place.result c.first_place-place.ensures.place c.remove-first.result c.remove-first.ensures.value (search rules) _ c.remove-first.ensures.items c.fold_all.new.seat.me c.fold_all.ensures.kept

pub returns-clause-fronts : goal.returns-clause-fronts
returns-clause-fronts g c =
    fit_all c.args.self _ c.requires c.first_place-place.result c.first_place-place.ensures.place c.remove-first.result c.remove-first.ensures.value (search rules) _ c.remove-first.ensures.items c.fold_all.new.seat.me c.fold_all.ensures.kept _ _ c.end.ensures.first c.end.ensures.others

pub returns-clause-owners : goal.returns-clause-owners
returns-clause-owners g c =
    owned_all c.args.self _ c.requires c.first_place-place.result c.first_place-place.ensures.place c.remove-first.result c.remove-first.ensures.value (search rules) _ c.remove-first.ensures.items c.fold_all.new.seat.me c.fold_all.ensures.kept g.B.Counted.owner _ c.end.ensures.owners
