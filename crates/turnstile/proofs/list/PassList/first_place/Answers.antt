use Rattle.std.proofs.Common.{◌≡◌, ◌≢◌, ◌≤◌, ◌<◌, ℕ, arith, ap, ◌∙◌, get_or}
use Rattle.std.proofs.lemmas.List.{get_or_default}
use Rattle.turnstile.specs.Passes.{number}
use Rattle.turnstile.proofs.list.PassList.first_place.Goals as goal

-- the first pass is not at this place, where the number is above 0
pub loop-place-preserved : goal.loop-place-preserved
loop-place-preserved g c =
    let i = c.loop-place.invariant in let here = c.index.result.now in let j : ℕ = i.0 in let k : ℕ = c.loop-place.place in
    let later : 0 < number here = here.later c.loop-place-test.true in
    let other : k ≢ j = λ e. (let n : ℕ = number here in let zero : n ≡ 0 = ap number (c.index.ensures ∙ (ap (λ (z : ℕ). get_or c.args.self.now.items.items z here) e ∙ (get_or_default c.args.self.now.items.items j here i.1 i.3 ∙ i.4))) ∙ i.5 in let above : 0 < n = later in absurd (omega arith)) in
    (i.0, i.1, (let le : k ≤ j = i.2 in let ne : ¬ (k ≡ j) = other in omega arith), i.3, i.4, i.5)
