-- The sum of three chains of small cells in any order, of which one is a multiple and goes under a map of keys.
use Rattle.std.proofs.Common.{◌≡◌, ℕ, ◌+◌, ◌*◌, ◌%◌, ◌∷◌, [], ◌++◌, refl, sym, ◌∙◌, ap, arith}
use Rattle.fp_field.specs.Chains.{Terms, weigh, scale}
use Rattle.fp_field.proofs.Mod.{same-plus}
use Rattle.fp_field.proofs.Weights.{weigh-append, weigh-scale}
use Rattle.cells.specs.declared.cells.SmallCell.{SmallCell}
use Rattle.ez_laws.specs.Sides.{on_keys}

weigh-on : (w : SmallCell → ℕ) (g : SmallCell → SmallCell) (c : Terms SmallCell) → weigh w (on_keys g c) ≡ weigh (λ k. w (g k)) c
weigh-on w g [] = refl
weigh-on w g (t ∷ c) = ap (λ m. t.1 * w (g t.0) + m) (weigh-on w g c)

pub three-alike : (p s : ℕ) (w : SmallCell → ℕ) (g : SmallCell → SmallCell) (all front back signed c : Terms SmallCell) → all ≡ (back ++ front) ++ on_keys g signed
    → ((v : SmallCell → ℕ) → weigh v signed % p ≡ weigh v (scale s c) % p)
    → weigh w all % p ≡ weigh w (front ++ scale s (on_keys g c) ++ back) % p
three-alike p s w g all front back signed c e h =
    let v : SmallCell → ℕ = λ k. w (g k) in
    let a : weigh w all ≡ weigh w back + weigh w front + weigh v signed =
    ap (weigh w) e ∙ weigh-append w (back ++ front) (on_keys g signed) ∙ (λ i. weigh-append w back front i + weigh-on w g signed i) in
    let b : weigh w (front ++ scale s (on_keys g c) ++ back) ≡ weigh w front + s * weigh v c + weigh w back =
    weigh-append w (front ++ scale s (on_keys g c)) back
    ∙ ap (λ m. m + weigh w back)
    (weigh-append w front (scale s (on_keys g c)) ∙ ap (λ m. weigh w front + m) (weigh-scale w s (on_keys g c) ∙ ap (λ m. s * m) (weigh-on w g c))) in
    let d : weigh v (scale s c) ≡ s * weigh v c = weigh-scale v s c in
    let f : weigh w back + weigh w front + s * weigh v c ≡ weigh w front + s * weigh v c + weigh w back = omega arith in
    ap (λ m. m % p) a
    ∙ same-plus p (weigh w back + weigh w front) (weigh w back + weigh w front) (weigh v signed) (s * weigh v c) refl (h v ∙ ap (λ m. m % p) d)
    ∙ ap (λ m. m % p) (f ∙ sym b)
