-- Weights of pairs as numbers that depend on a left and a right key, and what maps on the left or on the right do to them.
use Rattle.std.proofs.Common.{◌≡◌, ℕ, ◌+◌, ◌*◌, ◌%◌, ◌<◌, Bool, true, sym, ap, ◌∙◌}
use Rattle.std.specs.Cmp.{IsEquivalence}
use Rattle.fp_field.specs.Field.{sign}
use Rattle.fp_field.specs.Chains.{Terms, weigh}
use Rattle.fp_field.specs.Reduction.{Complex, Respects}
use Rattle.fp_field.proofs.Mod.{same-plus, same-times}
use Rattle.fp_field.proofs.Weights.{weigh-mod, Each-any}
use Rattle.fp_field.proofs.Fair.{Fair, pull-fair}
use Rattle.reduct_laws.proofs.Fairly.{Weight}
use Rattle.tensor_red.proofs.Doubles.{turn}

-- a map on the left, and one on the right
abbrev pub by_left : {X X' Y : Type 0} → (X' → Terms X) → (X → Y → ℕ) → X' → Y → ℕ
by_left f V x y = weigh (λ a. V a y) (f x)

abbrev pub by_right : {X Y Y' : Type 0} → (Y' → Terms Y) → (X → Y → ℕ) → X → Y' → ℕ
by_right f V x y = weigh (λ b. V x b) (f y)

-- they may be taken in either order
pub inward : {X X' Y Y' : Type 0} (f : X' → Terms X) (e : Y' → Terms Y) (V : X → Y → ℕ) (x : X') (y : Y') → by_right e (by_left f V) x y ≡ by_left f (by_right e V) x y
inward f e V x y = sym (turn V (f x) (e y))

pub inward_two_right : {X X' Y Y' Y'' : Type 0} (f : X' → Terms X) (d : Y' → Terms Y) (e : Y'' → Terms Y') (V : X → Y → ℕ) (x : X') (y : Y'')
    → by_right e (by_right d (by_left f V)) x y ≡ by_left f (by_right e (by_right d V)) x y
inward_two_right f d e V x y = ap (λ U. weigh U (e y)) (λ k b. inward f d V x b k) ∙ inward f e (by_right d V) x y

pub inward_two_left : {X X' X'' Y Y' : Type 0} (f : X'' → Terms X') (g : X' → Terms X) (e : Y' → Terms Y) (V : X → Y → ℕ) (x : X'') (y : Y')
    → by_right e (by_left f (by_left g V)) x y ≡ by_left f (by_left g (by_right e V)) x y
inward_two_left f g e V x y = inward f e (by_left g V) x y ∙ ap (λ U. weigh U (f x)) (λ k a. inward g e V a y k)

module _ (p : ℕ) (pos : 0 < p) where
  -- weights that do not tell equal keys apart on either side
  pub record Grid {X Y : Type 0} (s : X → X → Bool) (t : Y → Y → Bool) : Type 0 where
    pub at : X → Y → ℕ
    pub left : (y : Y) → Fair p pos s (λ x. at x y)
    pub right : (x : X) → Fair p pos t (λ y. at x y)

  module _ {X Y : Type 0} {s : X → X → Bool} {t : Y → Y → Bool} where
    abbrev pub column : Grid s t → Y → Weight p pos s
    column W y = record { at = λ x. W.at x y; fair = W.left y }

    abbrev pub row : Grid s t → X → Weight p pos t
    row W x = record { at = λ y. W.at x y; fair = W.right x }

    abbrev pub sum : Grid s t → Grid s t → Grid s t
    sum V W = record {
      at = λ x y. V.at x y + W.at x y;
      left = λ y a b e. same-plus p (V.at a y) (V.at b y) (W.at a y) (W.at b y) (V.left y a b e) (W.left y a b e);
      right = λ x a b e. same-plus p (V.at x a) (V.at x b) (W.at x a) (W.at x b) (V.right x a b e) (W.right x a b e);
    }

    -- with the sign of the left degree
    abbrev pub signed : (degree : X → ℕ) → ((x y : X) → s x y ≡ true → degree x ≡ degree y) → Grid s t → Grid s t
    signed degree alike W = record {
      at = λ x y. sign p (degree x) * W.at x y;
      left = λ y a b e. same-times p (sign p (degree a)) (W.at a y) (W.at b y) (W.left y a b e) ∙ ap (λ n. (sign p n * W.at b y) % p) (alike a b e);
      right = λ x a b e. same-times p (sign p (degree x)) (W.at x a) (W.at x b) (W.right x a b e);
    }

  abbrev pub on_left : {X X' Y : Type 0} {t : Y → Y → Bool} (C : Complex X') (D : Complex X) → IsEquivalence D.same → (f : X' → Terms X) → Respects p C D f
      → Grid D.same t → Grid C.same t
  on_left C D eq f r W = record {
    at = by_left f W.at;
    left = λ y. pull-fair p pos C D eq f r (λ x. W.at x y) (W.left y);
    right = λ x a b e. weigh-mod (λ k. Unit {0}) p (λ k. W.at k a) (λ k. W.at k b) (λ k q. W.right k a b e) (f x) (Each-any (f x));
  }

  abbrev pub on_right : {X Y Y' : Type 0} {s : X → X → Bool} (C : Complex Y') (D : Complex Y) → IsEquivalence D.same → (f : Y' → Terms Y) → Respects p C D f
      → Grid s D.same → Grid s C.same
  on_right C D eq f r W = record {
    at = by_right f W.at;
    left = λ y a b e. weigh-mod (λ k. Unit {0}) p (λ k. W.at a k) (λ k. W.at b k) (λ k q. W.left k a b e) (f y) (Each-any (f y));
    right = λ x. pull-fair p pos C D eq f r (λ y. W.at x y) (W.right x);
  }
