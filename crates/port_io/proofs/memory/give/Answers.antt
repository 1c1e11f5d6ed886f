use Rattle.std.proofs.Common.{◌≡◌, ◌+◌, ◌++◌, ℕ, List, length, take, drop, sym, ◌∙◌, ap, arith, length-drop, length-take, ◌-◌}
use Rattle.std.proofs.lemmas.List.{take_at, take_all, take-append-drop, drop-drop}
use Rattle.port_io.proofs.memory.give.Goals as goal

-- what was copied, and then the rest
parts : (xs front back : List ℕ) (at n : ℕ) → length front ≡ n → front ≡ take n (drop at xs) → drop at xs ≡ take n (front ++ back) ++ drop (at + n) xs
parts xs front back at n len is =
    sym (ap (λ p. p ++ drop (at + n) xs) (take_at front back n len ∙ is) ∙ ap (λ q. take n (drop at xs) ++ q) (sym (drop-drop n at xs)) ∙ take-append-drop n (drop at xs))

whole : (xs : List ℕ) (at : ℕ) → take (length xs - at) (drop at xs) ≡ drop at xs
whole xs at = take_all (length xs - at) (drop at xs) (omega (arith, length-drop at xs))

pub returns-clause-bytes : goal.returns-clause-bytes
returns-clause-bytes c = parts c.args.input.now c.copy_from_slice.new.self (drop c.min-count.result c.args.buf.now) c.args.at c.min-count.result (omega (arith, c.copy_from_slice.ensures.len, c.min.ensures, c.min-count.ensures, length-take c.min-count.result c.args.buf.now)) (c.copy_from_slice.ensures.after ∙ ap (take c.min-count.result) (whole c.args.input.now c.args.at))
