-- What is left of the text of a word of degeneracies.
use Rattle.std.proofs.Common.{◌≡◌, ℕ, suc, ◌++◌, Bool, true, false, cond, List, [], ◌∷◌, codes, decimal, refl, sym, ◌∙◌, ap}
use Rattle.simp_ops.specs.Bits.{places}
use Rattle.reply_text.specs.CellText.{degens_left}

at_zero : (b : Bool) (t : ℕ → Bool) → cond b [] (codes ":") ≡ degens_left b (places 0 t)
unfolding places
at_zero true t = refl
at_zero false t = refl

pub none_left : (n : ℕ) (b : Bool) (t : ℕ → Bool) → n ≡ 0 → cond b [] (codes ":") ≡ degens_left b (places n t)
none_left n b t e = at_zero b t ∙ ap (λ k. degens_left b (places k t)) (sym e)

-- place m, the next one below n, is not in the word
pub passed_over : (n m : ℕ) (b : Bool) (t : ℕ → Bool) → n ≡ suc m → t m ≡ false → degens_left b (places m t) ≡ degens_left b (places n t)
unfolding places
passed_over n m b t e h = ap (λ x. degens_left b (cond x (m ∷ places m t) (places m t))) (sym h) ∙ ap (λ k. degens_left b (places k t)) (sym e)

front : (b : Bool) (n : ℕ) (w : List ℕ) → cond b [] (codes "-") ++ (decimal n ++ degens_left false w) ≡ degens_left b (n ∷ w)
front true n w = refl
front false n w = refl

-- place m is in the word
pub put_next : (n m : ℕ) (b : Bool) (t : ℕ → Bool) → n ≡ suc m → t m ≡ true → cond b [] (codes "-") ++ (decimal m ++ degens_left false (places m t)) ≡ degens_left b (places n t)
unfolding places
put_next n m b t e h = front b m (places m t) ∙ ap (λ x. degens_left b (cond x (m ∷ places m t) (places m t))) (sym h) ∙ ap (λ k. degens_left b (places k t)) (sym e)
