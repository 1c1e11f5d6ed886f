-- What terms write into a hash, kind by kind.
use Rattle.std.proofs.Common.{◌≡◌, ℕ, List, ◌++◌, refl, sym, ◌∙◌, ap}
use Rattle.std.specs.List.{fold}
use Rattle.std.specs.Hash.{HashWrites, fed_then, fed_along}
use Rattle.std.specs.Hash as fed
use Rattle.term_lang.specs.declared.terms.Term.{Term, fold-roll-Term, roll-Term, out-roll-Term, map-Term}
use Rattle.term_lang.specs.declared.terms.Term.TheOpen.{Term-F}
use Rattle.term_lang.specs.TermOrder.{kind_in, kind_of}
use Rattle.term_lang.specs.TermHash.{parts_input, input_step, term_input}

abbrev pub behind : Term-F Term → HashWrites
behind x = parts_input (map-Term Term HashWrites term_input x)

kinds : (x : Term-F Term) → kind_in (map-Term Term HashWrites term_input x) ≡ kind_in x
kinds (Term-F.Table rows) = refl
kinds (Term-F.Sphere m) = refl
kinds (Term-F.Product a b) = refl
kinds (Term-F.Suspension a) = refl
kinds Term-F.KZ1 = refl
kinds (Term-F.Bundle rows values) = refl
kinds (Term-F.Loop a) = refl
kinds (Term-F.Path a) = refl

rolled : (x : Term-F Term) → term_input (roll-Term x) ≡ fed.u8 (kind_in x) ++ behind x
unfolding term_input
rolled x = fold-roll-Term HashWrites input_step x ∙ ap (λ k. fed.u8 k ++ behind x) (kinds x)

kind-rolled : (x : Term-F Term) → kind_of (roll-Term x) ≡ kind_in x
kind-rolled x = ap kind_in (out-roll-Term x)

-- the kind, and then what the parts write
pub written : {S : Type 0} (write : S → List ℕ → S) (s t u : S) (k : ℕ) (a y : Term) (x : Term-F Term) → k ≡ kind_of a → a ≡ y → roll-Term x ≡ y
    → t ≡ fold write s (fed.u8 k) → u ≡ fold write t (behind x) → u ≡ fold write s (term_input a)
written write s t u k a y x e p r f g =
    let same : roll-Term x ≡ a = r ∙ sym p in
    let kind : k ≡ kind_in x = e ∙ ap kind_of (sym same) ∙ kind-rolled x in
    let whole : fed.u8 k ++ behind x ≡ term_input a = ap (λ j. fed.u8 j ++ behind x) kind ∙ sym (rolled x) ∙ ap term_input same in
    fed_along write s u whole (fed_then write s t u (fed.u8 k) (behind x) f g)
