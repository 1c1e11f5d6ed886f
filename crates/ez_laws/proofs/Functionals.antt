-- Chains as additive functionals on test functions with values in the coefficients.
use Rattle.std.specs.Prelude.{◌≡◌}
use Rattle.std.proofs.Common.{sym, ◌∙◌, ap, subst}

-- the coefficients: an abelian group, as F_p
pub record Coefficients : Type 1 where
  pub F : Type 0
  pub F-set : (x y : F) (p q : x ≡ y) → p ≡ q
  pub o : F
  pub add : F → F → F
  pub neg : F → F
  pub assoc : (x y z : F) → add (add x y) z ≡ add x (add y z)
  pub comm : (x y : F) → add x y ≡ add y x
  pub lcomm : (x y z : F) → add x (add y z) ≡ add y (add x z)
  pub unit : (x : F) → add x o ≡ x
  pub inverse : (x : F) → add x (neg x) ≡ o

abbrev pub Additive : (S : Coefficients) (K : Type 0) → ((K → S.F) → S.F) → Type 0
Additive S K r = (f g : K → S.F) → r (λ k. S.add (f k) (g k)) ≡ S.add (r f) (r g)

-- a chain: the additive functional on test functions
pub record Ch (S : Coefficients) (K : Type 0) : Type 0 where
  pub run : (K → S.F) → S.F
  pub additive : Additive S K run

abbrev pub mk : (S : Coefficients) (K : Type 0) (r : (K → S.F) → S.F) → Additive S K r → Ch S K
mk S K r a = record { run = r; additive = a }

pub ch-ext : (S : Coefficients) (K : Type 0) (c d : Ch S K) → ((f : K → S.F) → c.run f ≡ d.run f) → c ≡ d
ch-ext S K c d h =
    let prop : (r : (K → S.F) → S.F) (a b : Additive S K r) → a ≡ b
    = λ r a b. λ i f g. S.F-set (r (λ k. S.add (f k) (g k))) (S.add (r f) (r g)) (a f g) (b f g) i in
    let e : c.run ≡ d.run = λ i f. h f i in
    let Q : ((K → S.F) → S.F) → Type 0 = λ t. (b : Additive S K t) → mk S K c.run c.additive ≡ mk S K t b in
    subst Q e (λ b. ap (λ x. mk S K c.run x) (prop c.run c.additive b)) d.additive

pub cancel-F : (S : Coefficients) (x y z : S.F) → S.add x z ≡ S.add y z → x ≡ y
cancel-F S x y z h =
    let g : (w : S.F) → S.add (S.add w z) (S.neg z) ≡ w = λ w. S.assoc w z (S.neg z) ∙ (ap (λ v. S.add w v) (S.inverse z) ∙ S.unit w) in
    sym (g x) ∙ (ap (λ v. S.add v (S.neg z)) h ∙ g y)
