-- The terms |1|n|w| of the homotopy: their quotes, how many they are in normal form, and their integers.
use Rattle.std.proofs.Common.{◌≡◌, ℕ, zero, suc, ◌+◌, ◌-◌, ◌%◌, ◌<◌, ◌≤◌, max, Bool, true, false, cond, List, [], ◌∷◌, length, get_or, take, drop, map, refl, sym, ◌∙◌, ap, subst, arith}
use Rattle.std.specs.Prelude.{nat_abs}
use Rattle.std.proofs.Math.IntN.{ℤ, pos, negsuc}
use Rattle.std.proofs.Math.Nat.{mod-eq_of_lt}
use Rattle.std.proofs.Math.Seq.{take-length}
use Rattle.std.proofs.lemmas.Int.{ints}
use Rattle.std.proofs.lemmas.Bool.{le-ltb}
use lib.Signed.{lt_z}
use Rattle.std.specs.Ordering.{ordering_then, int_cmp}
use Rattle.std.specs.Cmp.{int_cmp_is}
use Rattle.std.specs.Cmp.Lexicographic.{slice_cmp}
use Rattle.std.specs.declared.cmp.Ordering.{Ordering}
use Rattle.std.specs.declared.cmp.Ordering.TheVariants.{Less, Equal, Greater}
use Rattle.fp_field.specs.Chains.{Terms, Each}
use Rattle.fp_field.specs.Normal.{normal, put, add_term, by_order}
use Rattle.fp_field.proofs.FlowLaws.{Each-normal}
use Rattle.spaces.specs.Spaces.{kz1}
use Rattle.spaces.specs.Orders.{ordered, by_degree}
use Rattle.cells.specs.Order.{cell_cmp}
use Rattle.values.specs.Integers.{ones_up, ones_down, after_one, integers_h}
use Rattle.values.specs.Sizes.{greatest}
use Rattle.term_lang.specs.Quote.{quote_cell}
use Rattle.oracle_iface.specs.Keys.{quote_chain}
use Rattle.oracle_iface.proofs.CarriedChains.{carried-normal}
use Rattle.homology_laws.proofs.IntegersFaces.{is_zero, has_zero}
use Rattle.homology_laws.proofs.IntegersMaps.{after-free, rest-free}
use Rattle.kz1_rules.specs.Lists.{IsFree, homotopy_count, ones, terms_beyond}
use Rattle.kz1_rules.proofs.FreeLists.{free-has}
use Rattle.kz1_rules.proofs.ListOrders.{IsList, order-simplices, orders-agree}

Graded : Type 0
Graded = ℕ × List ℤ

module _ (p : ℕ) (two : 1 < p) where
  positive : 0 < p
  positive = omega arith

  -- ---- the keys

  -- |1|c|w| for a c that is not 0 and not larger than the bound
  abbrev pub IsBeyond : List ℤ → ℕ → ℕ × List ℤ → Type 0
  IsBeyond w bound k = (c : ℤ) × (k ≡ after_one p w c) × (is_zero c ≡ false) × (nat_abs c ≤ bound)

  up-keys : (w : List ℤ) (bound s a : ℕ) → a ≤ bound → Each (IsBeyond w bound) (map (λ c. (after_one p w c, s)) (ones_up a))
  up-keys w bound s zero l = tt
  up-keys w bound s (suc a) l = ((pos (suc a), refl, refl, l), up-keys w bound s a (omega arith))

  down-keys : (w : List ℤ) (bound s a : ℕ) → a ≤ bound → Each (IsBeyond w bound) (map (λ c. (after_one p w c, s)) (ones_down a))
  down-keys w bound s zero l = tt
  down-keys w bound s (suc a) l = ((negsuc a, refl, refl, l), down-keys w bound s a (omega arith))

  -- the keys of H of a list
  abbrev pub IsKey : List ℤ → ℕ × List ℤ → Type 0
  IsKey [] k = ⊥
  IsKey (a ∷ w) k = IsBeyond w (nat_abs a) k

  pub h-keys : (x : List ℤ) → Each (IsKey x) (integers_h p x)
  h-keys [] = tt
  h-keys (pos a ∷ w) = up-keys w a (p - 1) (a - 1) (omega arith)
  h-keys (negsuc a ∷ w) = down-keys w (suc a) 1 (suc a) (omega arith)

  pub h-normal_keys : (x : List ℤ) → Each (IsKey x) (normal (by_degree (ordered kz1).cmp) p (integers_h p x))
  h-normal_keys x = Each-normal (IsKey x) (by_degree (ordered kz1).cmp) p (integers_h p x) (h-keys x)

  pub key-list : (x : List ℤ) → IsFree x → (k : ℕ × List ℤ) → IsKey x k → IsList (suc (length x)) k
  key-list [] f k b = absurd b
  key-list (a ∷ w) f k b = subst (IsList (suc (suc (length w)))) (sym b.1) (record {
    degree = refl;
    long = refl;
    free = after-free p positive b.0 w b.2 (rest-free p positive a w (free-has (a ∷ w) f));
  })

  -- ---- quotes

  quoted-terms : (w : List ℤ) (s : ℕ) (ns : List ℤ) → quote_chain kz1 (map (λ c. (after_one p w c, s)) ns) ≡ terms_beyond w s ns
  quoted-terms w s [] = refl
  quoted-terms w s (c ∷ ns) = ap (λ t. (Rattle.cells.specs.declared.cells.Cell.TheVariants.Ints (pos 1 ∷ (c ∷ w)), s) ∷ t) (quoted-terms w s ns)

  pub quoted-normal : (x : List ℤ) → IsFree x → normal cell_cmp p (quote_chain kz1 (integers_h p x)) ≡ quote_chain kz1 (normal (by_degree (ordered kz1).cmp) p (integers_h p x))
  quoted-normal x f =
      carried-normal (λ (k : ℕ × List ℤ). quote_cell kz1 k.0 k.1) (by_degree (ordered kz1).cmp) cell_cmp p (IsKey x)
      (λ k l b e. orders-agree (suc (length x)) k l (key-list x f k b) (key-list x f l e)) (integers_h p x) (h-keys x)

  -- whether an integer is below 0, and the coefficient of H
  abbrev pub is_below : ℤ → Bool
  is_below (pos a) = false
  is_below (negsuc a) = true

  abbrev pub coefficient : Bool → ℕ
  coefficient b = cond b 1 (p - 1)

  pub code-terms : (a : ℤ) (w : List ℤ) → terms_beyond w (coefficient (is_below a)) (ones (is_below a) (homotopy_count (a ∷ w))) ≡ quote_chain kz1 (integers_h p (a ∷ w))
  code-terms (pos a) w = sym (quoted-terms w (p - 1) (ones_up (a - 1)))
  code-terms (negsuc a) w = sym (quoted-terms w 1 (ones_down (suc a)))

  -- the chain of the terms that the code makes
  pub h-chain : (x : List ℤ) (a : ℤ) (w : List ℤ) (b : Bool) (n s : ℕ) → x ≡ a ∷ w → IsFree x → b ≡ is_below a → n ≡ homotopy_count x → s ≡ coefficient b
      → normal cell_cmp p (terms_beyond w s (ones b n)) ≡ quote_chain kz1 (normal (by_degree (ordered kz1).cmp) p (integers_h p x))
  h-chain x a w b n s e f below count number =
      (λ i. normal cell_cmp p (terms_beyond w ((number ∙ ap coefficient below) i) (ones (below i) ((count ∙ ap homotopy_count e) i))))
      ∙ ap (normal cell_cmp p) (code-terms a w) ∙ quoted-normal (a ∷ w) (subst IsFree e f)
      ∙ ap (λ y. quote_chain kz1 (normal (by_degree (ordered kz1).cmp) p (integers_h p y))) (sym e)

  -- the first integer of a list and the rest, as the code has them
  pub parted : (x : List ℤ) → (length x ≡ 0 → ⊥) → x ≡ get_or x 0 (pos 0) ∷ take (length x - 1) (drop 1 x)
  parted [] h = absurd (h refl)
  parted (a ∷ w) h = let e : suc (length w) - 1 ≡ length w = omega arith in ap (λ y. a ∷ y) (sym (ap (λ n. take n w) e ∙ take-length w))

  pub below-is : (a : ℤ) → lt_z a (pos 0) ≡ is_below a
  below-is (pos n) = le-ltb n 0 (omega arith)
  below-is (negsuc n) = refl

  -- ---- how many terms

  abbrev order : ℕ × List ℤ → ℕ × List ℤ → Ordering
  order = by_degree (ordered kz1).cmp

  put-length : (k : ℕ × List ℤ) (n : ℕ) (c : Terms (ℕ × List ℤ)) → 0 < n → length (put order p k n c) ≡ suc (length c)
  put-length k zero c l = absurd (omega arith)
  put-length k (suc n) c l = refl

  -- a term after all others, and one before
  last-length : (k : ℕ × List ℤ) (s : ℕ) (c : Terms (ℕ × List ℤ)) → 0 < s % p → Each (λ y. order k y ≡ Greater) c → length (add_term order p k s c) ≡ suc (length c)
  last-length k s [] l e = put-length k (s % p) [] l
  last-length k s (t ∷ c) l e =
      ap (λ o. length (by_order o (put order p k (s % p) (t ∷ c)) (put order p t.0 ((s + t.1) % p) c) (t ∷ add_term order p k s c))) e.0 ∙ ap suc (last-length k s c l e.1)

  first-length : (k : ℕ × List ℤ) (s : ℕ) (c : Terms (ℕ × List ℤ)) → 0 < s % p → Each (λ y. order k y ≡ Less) c → length (add_term order p k s c) ≡ suc (length c)
  first-length k s [] l e = put-length k (s % p) [] l
  first-length k s (t ∷ c) l e =
      ap (λ o. length (by_order o (put order p k (s % p) (t ∷ c)) (put order p t.0 ((s + t.1) % p) c) (t ∷ add_term order p k s c))) e.0 ∙ put-length k (s % p) (t ∷ c) l

  beyond-cmp : (w : List ℤ) → has_zero w ≡ false → (c d : ℤ) (o : Ordering) → is_zero c ≡ false → is_zero d ≡ false → int_cmp c d ≡ o → (o ≡ Equal → ⊥)
      → order (after_one p w c) (after_one p w d) ≡ o
  beyond-cmp w f c d o zc zd e n =
      order-simplices (suc (suc (length w))) (after_one p w c) (after_one p w d) (list c zc) (list d zd)
      ∙ decided (int_cmp c d) e
    where
      list : (b : ℤ) → is_zero b ≡ false → IsList (suc (suc (length w))) (after_one p w b)
      list b z = record { degree = refl; long = refl; free = after-free p positive b w z f }

      stays : (o : Ordering) → (o ≡ Equal → ⊥) → ordering_then o (slice_cmp int_cmp w w) ≡ o
      stays Less n = refl
      stays Equal n = absurd (n refl)
      stays Greater n = refl

      decided : (r : Ordering) → r ≡ o → ordering_then r (slice_cmp int_cmp w w) ≡ o
      decided r g = ap (λ q. ordering_then q (slice_cmp int_cmp w w)) g ∙ stays o n

  more : (a b : ℕ) → b < a → int_cmp (pos a) (pos b) ≡ Greater
  more a b l = sym (int_cmp_is (pos a) (pos b) Greater (omega (arith, ints)))

  less : (a b : ℕ) → b < a → int_cmp (negsuc a) (negsuc b) ≡ Less
  less a b l = sym (int_cmp_is (negsuc a) (negsuc b) Less (omega (arith, ints)))

  up-above : (w : List ℤ) → has_zero w ≡ false → (s b a : ℕ) → a ≤ b → Each (λ y. order (after_one p w (pos (suc b))) y ≡ Greater) (map (λ c. (after_one p w c, s)) (ones_up a))
  up-above w f s b zero l = tt
  up-above w f s b (suc a) l = (beyond-cmp w f (pos (suc b)) (pos (suc a)) Greater refl refl (more (suc b) (suc a) (omega arith)) (λ e. cc), up-above w f s b a (omega arith))

  down-below : (w : List ℤ) → has_zero w ≡ false → (s b a : ℕ) → a ≤ b → Each (λ y. order (after_one p w (negsuc b)) y ≡ Less) (map (λ c. (after_one p w c, s)) (ones_down a))
  down-below w f s b zero l = tt
  down-below w f s b (suc a) l = (beyond-cmp w f (negsuc b) (negsuc a) Less refl refl (less b a (omega arith)) (λ e. cc), down-below w f s b a (omega arith))

  up-length : (w : List ℤ) → has_zero w ≡ false → (s : ℕ) → 0 < s % p → (a : ℕ) → length (normal order p (map (λ c. (after_one p w c, s)) (ones_up a))) ≡ a
  up-length w f s l zero = refl
  up-length w f s l (suc a) =
      last-length (after_one p w (pos (suc a))) s (normal order p (map (λ c. (after_one p w c, s)) (ones_up a))) l
      (Each-normal (λ y. order (after_one p w (pos (suc a))) y ≡ Greater) order p (map (λ c. (after_one p w c, s)) (ones_up a)) (up-above w f s a a (omega arith)))
      ∙ ap suc (up-length w f s l a)

  down-length : (w : List ℤ) → has_zero w ≡ false → (s : ℕ) → 0 < s % p → (a : ℕ) → length (normal order p (map (λ c. (after_one p w c, s)) (ones_down a))) ≡ a
  down-length w f s l zero = refl
  down-length w f s l (suc a) =
      first-length (after_one p w (negsuc a)) s (normal order p (map (λ c. (after_one p w c, s)) (ones_down a))) l
      (Each-normal (λ y. order (after_one p w (negsuc a)) y ≡ Less) order p (map (λ c. (after_one p w c, s)) (ones_down a)) (down-below w f s a a (omega arith)))
      ∙ ap suc (down-length w f s l a)

  pub h-length : (x : List ℤ) → IsFree x → length (normal order p (integers_h p x)) ≡ homotopy_count x
  h-length [] f = refl
  h-length (pos a ∷ w) f = up-length w (free-has w f.1) (p - 1) (let e : (p - 1) % p ≡ p - 1 = mod-eq_of_lt (omega arith) in omega (arith, e)) (a - 1)
  h-length (negsuc a ∷ w) f = down-length w (free-has w f.1) 1 (let e : 1 % p ≡ 1 = mod-eq_of_lt two in omega (arith, e)) (suc a)

  -- ---- integers

  key-integers : (x : List ℤ) (bound : ℕ) → 0 < bound → greatest nat_abs x ≤ bound → (k : ℕ × List ℤ) → IsKey x k → greatest nat_abs k.1 ≤ bound
  key-integers [] bound l h k b = absurd b
  key-integers (a ∷ w) bound l h k b =
      subst (λ y. greatest nat_abs y ≤ bound) (sym (ap (λ (z : ℕ × List ℤ). z.1) b.1)) (let m : nat_abs b.0 ≤ nat_abs a = b.3 in let g : max (nat_abs a) (greatest nat_abs w) ≤ bound = h in omega (arith, m, g))

  greatest-within : {K : Type 0} (size : K → ℕ) (bound : ℕ) (c : Terms K) → Each (λ k. size k ≤ bound) c → greatest (λ (t : K × ℕ). size t.0) c ≤ bound
  greatest-within size bound [] h = omega arith
  greatest-within size bound (t ∷ c) h = omega (arith, h.0, greatest-within size bound c h.1)

  Each-so : {K : Type 0} (P Q : K → Type 0) → ((k : K) → P k → Q k) → (c : Terms K) → Each P c → Each Q c
  Each-so P Q e [] h = tt
  Each-so P Q e (t ∷ c) h = (e t.0 h.0, Each-so P Q e c h.1)

  pub h-integers : (x : List ℤ) (bound : ℕ) → 0 < bound → greatest nat_abs x ≤ bound → greatest (λ (t : (ℕ × List ℤ) × ℕ). greatest nat_abs t.0.1) (normal order p (integers_h p x)) ≤ bound
  h-integers x bound l h =
      greatest-within (λ (k : ℕ × List ℤ). greatest nat_abs k.1) bound (normal order p (integers_h p x))
      (Each-so (IsKey x) (λ k. greatest nat_abs k.1 ≤ bound) (key-integers x bound l h) (normal order p (integers_h p x)) (h-normal_keys x))
