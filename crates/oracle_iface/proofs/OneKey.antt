-- Keys that compare as equal are the same.
use Rattle.std.proofs.Common.{◌≡◌, Less, Equal, Greater, Ordering, refl, ap}
use Rattle.std.specs.Ordering.{ordering_then, is_eq}
use Rattle.std.proofs.lemmas.Cmp.{ranked}
use Rattle.std.proofs.Common.{sym}
use Rattle.cells.proofs.OneKey.{one_cell}
use Rattle.cells.proofs.OneSmall.{one_small}
use Rattle.term_lang.proofs.TermForests.{one_term}
use Rattle.fp_field.specs.declared.prime.Prime.{Prime}
use Rattle.fp_field.specs.declared.prime.Prime.TheVariants.{Two, Three, Five, Seven, Eleven, Thirteen, Seventeen, Nineteen}
use Rattle.fp_field.specs.contracts.prime.PrimeOrd.TheImpl as prime_order
use Rattle.oracle_iface.specs.contracts.keys.OpOrd.TheImpl as op_order
use Rattle.oracle_iface.specs.contracts.keys.PlaceOrd.TheImpl as place_order
use Rattle.oracle_iface.specs.declared.keys.Op.{Op}
use Rattle.oracle_iface.specs.declared.keys.Op.TheVariants.{Basis, SmallD, F, G, H, Cycles}
use Rattle.oracle_iface.specs.declared.keys.Place.{Place}
use Rattle.oracle_iface.specs.declared.keys.Place.TheVariants.{Degree, Small, Big}
use Rattle.oracle_iface.specs.declared.keys.Key.{Key}
use Rattle.oracle_iface.specs.KeyOrder.{key_cmp, same_key}
use Rattle.oracle_iface.specs.contracts.keys.KeyOrd.TheImpl as key_order
use Rattle.std.specs.Cmp.{IsTotalOrder, tied_itself}
use Rattle.std.proofs.Common.{true}

then_first : (o p : Ordering) → ordering_then o p ≡ Equal → o ≡ Equal
then_first Less p e = e
then_first Equal p e = refl
then_first Greater p e = e

then_second : (o p : Ordering) → ordering_then o p ≡ Equal → p ≡ Equal
then_second Less p e = absurd (cc e)
then_second Equal p e = e
then_second Greater p e = absurd (cc e)

one_op : (a b : Op) → (op_order.ghosts).cmp a b ≡ Equal → a ≡ b
one_op Basis Basis e = refl
one_op SmallD SmallD e = refl
one_op F F e = refl
one_op G G e = refl
one_op H H e = refl
one_op Cycles Cycles e = refl
one_op a b e = absurd (cc e)

one_prime : (a b : Prime) → (prime_order.ghosts).cmp a b ≡ Equal → a ≡ b
one_prime Two Two e = refl
one_prime Three Three e = refl
one_prime Five Five e = refl
one_prime Seven Seven e = refl
one_prime Eleven Eleven e = refl
one_prime Thirteen Thirteen e = refl
one_prime Seventeen Seventeen e = refl
one_prime Nineteen Nineteen e = refl
one_prime a b e = absurd (cc e)

one_place : (a b : Place) → (place_order.ghosts).cmp a b ≡ Equal → a ≡ b
one_place (Degree m) (Degree n) e = ap Degree (ranked m n Equal (sym e))
one_place (Small x) (Small y) e = ap Small (one_small x y e)
one_place (Big x) (Big y) e = ap Big (one_cell x y e)
one_place a b e = absurd (cc e)

pub one_key : (a b : Key) → key_cmp a b ≡ Equal → a ≡ b
one_key a b e =
    let rest = then_second ((op_order.ghosts).cmp a.op b.op) _ e in
    let last = then_second ((prime_order.ghosts).cmp a.prime b.prime) _ rest in
    λ i. record {
      op = one_op a.op b.op (then_first _ _ e) i;
      prime = one_prime a.prime b.prime (then_first _ _ rest) i;
      place = one_place a.place b.place (then_first _ _ last) i;
      term = one_term a.term b.term (then_second ((place_order.ghosts).cmp a.place b.place) _ last) i;
    }

key_total : IsTotalOrder key_cmp
key_total = key_order.Laws.total-law

pub same_is : (a b : Key) → same_key a b ≡ true → a ≡ b
same_is a b e = one_key a b (by (key_cmp a b) e)
  where
    by : (o : Ordering) → is_eq o ≡ true → o ≡ Equal
    by Less h = absurd (cc h)
    by Equal h = refl
    by Greater h = absurd (cc h)

pub same_self : (a : Key) → same_key a a ≡ true
same_self a = ap is_eq (tied_itself key_total a)
