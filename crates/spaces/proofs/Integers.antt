-- The integers, and the integers modulo m, are abelian groups.
use Rattle.std.proofs.Common.{◌≡◌, ℕ, ◌+◌, ◌-◌, ◌%◌, ◌<◌, sym, ◌∙◌, ap, arith}
use Rattle.std.proofs.Math.IntN.{+ℤ_assoc, +ℤ_comm, +ℤ_idl, +ℤ_invl}
use Rattle.std.proofs.Math.Nat.{add_assoc, add_comm, add-mod-mod, mod-add-mod, mod-eq_of_lt, mod-lt, mod_self}
use Rattle.std.proofs.lemmas.Cmp.{nat_eq_equiv, int_eq_equiv}
use Rattle.std.proofs.lemmas.Bool.Decides.{Decides-eqb, Decides-int_eq}
use Rattle.spaces.specs.Nerves.{integers, integers_modulo}
use Rattle.spaces.specs.Groups.{IsAbelian}

pub integers_abelian : IsAbelian integers
integers_abelian = record {
  none_in = tt;
  plus_in = λ a b x y. tt;
  negative_in = λ a x. tt;
  associates = λ a b c x y z. +ℤ_assoc a b c;
  commutes = λ a b x y. +ℤ_comm a b;
  unit = λ a x. +ℤ_idl a;
  inverse = λ a x. +ℤ_invl a;
  same_is = λ a b h. (Decides-int_eq a b).0 h;
  same_equivalence = int_eq_equiv;
}

pub residues_abelian : (m : ℕ) → 0 < m → IsAbelian (integers_modulo m)
residues_abelian m p = record {
  none_in = p;
  plus_in = λ a b x y. mod-lt (a + b) p;
  negative_in = λ a x. mod-lt (m - a) p;
  associates = λ a b c x y z. mod-add-mod (a + b) m c ∙ ap (λ n. n % m) (add_assoc a b c) ∙ sym (add-mod-mod a (b + c) m);
  commutes = λ a b x y. ap (λ n. n % m) (add_comm a b);
  unit = λ a x. let e : 0 + a ≡ a = omega arith in ap (λ n. n % m) e ∙ mod-eq_of_lt x;
  inverse = λ a x. let e : m - a + a ≡ m = omega arith in mod-add-mod (m - a) m a ∙ ap (λ n. n % m) e ∙ mod_self m;
  same_is = λ a b h. (Decides-eqb a b).0 h;
  same_equivalence = nat_eq_equiv;
}
