-- What is needed for a key: the cycles of a degree need keys about the same space; of the other keys those about a suspension need one about
-- what is suspended, those about a product or a circle bundle need keys about its base and its fibre, and those about tables, spheres and
-- K(Z,1) need none (Rubio and Sergeraert, Constructive Homological Algebra and Applications, chapters 2 and 3).
--
--   the key of F at Up of |3|, in the suspension of K(Z,1), needs a key about K(Z,1); the small cells of degree 1 of the product of two spheres
--   need keys about these spheres
use Rattle.std.proofs.Common.{◌≡◌, ◌⊎◌, inl, inr, ℕ, zero, suc, false, List, [], length, Some, None, refl, sym, ap, subst, arith}
use Rattle.std.specs.Prelude.{Contains}
use Rattle.std.specs.List.{AllByRecursion}
use Rattle.std.proofs.lemmas.List.Elements.{All-from_recursion, All-contains}
use Rattle.spaces.specs.Spaces.{Space, Plain, table, sphere, product, suspension, kz1, bundle, loops, paths, kzm1, cyclic_bundle}
use Rattle.spaces.specs.SmallCells.{Small}
use Rattle.values.specs.Asks.{Ask, basis, small_d, f as f_at, g as g_at, h as h_at, cycles}
use Rattle.values.specs.BaseLaws.{HasNoParts}
use Rattle.values.specs.Ranks.{is_cycles, space_of as space_asked}
use Rattle.values.specs.Values.{needs}
use Rattle.values.proofs.BasesCycles.{asked-at}
use Rattle.values.proofs.BasesLists.{member_of}
use Rattle.values.proofs.BasesRows.{no_parts-no_needs}
use Rattle.oracle_iface.specs.Keys.{op_of}
use Rattle.oracle_iface.specs.KeyLaws.{IsNamed, CyclesNeed, cells_in, cells_above, differential_in, differential_above, carried}
use Rattle.oracle_iface.specs.declared.keys.Op.TheVariants.{Basis, SmallD, F, G, H, Cycles}
use Rattle.oracle_iface.proofs.CyclesNeeds.{cycles-need}
use Rattle.oracle_iface.proofs.Named.{suspension-part}
use Rattle.normal_forms.specs.Built.{IsBuilt}
use Rattle.susp_rules.proofs.Questions.{at_suspension}
use Rattle.twist_laws.specs.Assembled.{IsAssembled}
use Rattle.twist_rules.specs.PartSpaces.{IsFibred, base_of, fibre_of}
use Rattle.twist_rules.proofs.PartNames.{base-named, fibre-named}
use Rattle.twist_rules.proofs.PartNeeds.{needs-of_parts}

-- ---- spaces that are built

pub built_assembled : (a : Space) → IsBuilt a → IsAssembled a
built_assembled (table t) u = tt
built_assembled (sphere m) u = tt
built_assembled (product a b) u = (built_assembled a u.0, built_assembled b u.1)
built_assembled (suspension a) u = built_assembled a u
built_assembled kz1 u = tt
built_assembled (bundle t c) u = tt
built_assembled (loops a) u = absurd u
built_assembled (paths a) u = absurd u
built_assembled (kzm1 m) u = absurd u
built_assembled (cyclic_bundle t m c) u = absurd u

-- without parts, a suspension, or with base and fibre
built_is : (a : Space) → IsBuilt a → HasNoParts a ⊎ (((b : Space) × (a ≡ suspension b)) ⊎ IsFibred a)
built_is (table t) u = inl tt
built_is (sphere m) u = inl tt
built_is (product a b) u = inr (inr tt)
built_is (suspension a) u = inr (inl (a, refl))
built_is kz1 u = inl tt
built_is (bundle t c) u = inr (inr tt)
built_is (loops a) u = absurd u
built_is (paths a) u = absurd u
built_is (kzm1 m) u = absurd u
built_is (cyclic_bundle t m c) u = absurd u

base-built : (s : Space) → IsFibred s → IsBuilt s → IsBuilt (base_of s)
base-built (product a b) is u = u.0
base-built (bundle t c) is u = tt
base-built (table t) is u = absurd is
base-built (sphere m) is u = absurd is
base-built (suspension a) is u = absurd is
base-built kz1 is u = absurd is
base-built (loops a) is u = absurd is
base-built (paths a) is u = absurd is
base-built (kzm1 m) is u = absurd is
base-built (cyclic_bundle t m c) is u = absurd is

fibre-built : (s : Space) → IsFibred s → IsBuilt s → IsBuilt (fibre_of s)
fibre-built (product a b) is u = u.1
fibre-built (bundle t c) is u = tt
fibre-built (table t) is u = absurd is
fibre-built (sphere m) is u = absurd is
fibre-built (suspension a) is u = absurd is
fibre-built kz1 is u = absurd is
fibre-built (loops a) is u = absurd is
fibre-built (paths a) is u = absurd is
fibre-built (kzm1 m) is u = absurd is
fibre-built (cyclic_bundle t m c) is u = absurd is

-- the space of a term, and built
abbrev pub IsKnown : Space → Type 0
IsKnown a = IsNamed a × IsBuilt a

part-known : (a : Space) → IsKnown (suspension a) → IsKnown a
part-known a u = (suspension-part a u.0, u.1)

-- ---- needs

cycles_space : (p : ℕ) (a : Space) (n : ℕ) (q : Ask) → CyclesNeed p a n q → space_asked q ≡ a
cycles_space p a n q (cells_in e) = ap space_asked e
cycles_space p a n q (cells_above e) = ap space_asked e
cycles_space p a n q (differential_in y is e) = ap space_asked e
cycles_space p a n q (differential_above y is e) = ap space_asked e
cycles_space p a n q (carried y is e) = ap space_asked e

nothing : {A : Type 0} (xs : List A) (x : A) → xs ≡ [] → Contains xs x → ⊥
nothing xs x e c = let l : length xs ≡ 0 = ap length e in omega (arith, c.1, l)

module _ (p : ℕ) where
  -- each need of a question about a suspension is about what is suspended
  abbrev IsOfPart : Space → Ask → Type 0
  IsOfPart a q = AllByRecursion (λ j. space_asked j ≡ a) (needs p q)

  of_part : (a : Space) (q : Ask) → space_asked q ≡ suspension a → (op_of q ≡ Cycles → ⊥) → IsOfPart a q
  of_part a = at_suspension a (IsOfPart a) at_basis at_d at_f at_g at_h
    where
      at_basis : (n : ℕ) → IsOfPart a (basis (suspension a) n)
      at_basis zero = tt
      at_basis (suc zero) = tt
      at_basis (suc (suc n)) = (refl, tt)

      at_d : (y : Small (suspension a)) → IsOfPart a (small_d (suspension a) y)
      at_d None = tt
      at_d (Some y) = (refl, tt)

      at_f : (n : ℕ) (x : Plain (suspension a)) → IsOfPart a (f_at (suspension a) n x)
      at_f n None = tt
      at_f n (Some s) = (refl, tt)

      at_g : (y : Small (suspension a)) → IsOfPart a (g_at (suspension a) y)
      at_g None = tt
      at_g (Some y) = (refl, tt)

      at_h : (n : ℕ) (x : Plain (suspension a)) → IsOfPart a (h_at (suspension a) n x)
      at_h n None = tt
      at_h n (Some s) = (refl, tt)

  single_known : (k q : Ask) → is_cycles k ≡ false → (op_of k ≡ Cycles → ⊥) → IsKnown (space_asked k) → Contains (needs p k) q → IsKnown (space_asked q)
  single_known k q e not known c = by (built_is (space_asked k) known.1)
    where
      by : HasNoParts (space_asked k) ⊎ (((b : Space) × (space_asked k ≡ suspension b)) ⊎ IsFibred (space_asked k)) → IsKnown (space_asked q)
      by (inl none) = absurd (nothing (needs p k) q (no_parts-no_needs p k none e) c)
      by (inr (inl part)) =
          subst IsKnown
          (sym (All-contains (λ j. space_asked j ≡ part.0) (needs p k) q (All-from_recursion (λ j. space_asked j ≡ part.0) (needs p k) (of_part part.0 k part.1 not)) c))
          (part-known part.0 (subst IsKnown part.1 known))
      by (inr (inr fibred)) =
          let s = space_asked k in
          asked-at (λ j. IsKnown (space_asked j)) (needs p k)
          (needs-of_parts IsKnown p k fibred (base-named s fibred known.0, base-built s fibred known.1) (fibre-named s fibred known.0, fibre-built s fibred known.1) not) q
          (member_of (needs p k) q c)

  -- what is needed for a question about such a space is about one too
  pub needed_known : (k q : Ask) → IsKnown (space_asked k) → Contains (needs p k) q → IsKnown (space_asked q)
  needed_known (basis a n) q u c = single_known (basis a n) q refl (λ e. let z : Basis ≡ Cycles = e in cc) u c
  needed_known (small_d a y) q u c = single_known (small_d a y) q refl (λ e. let z : SmallD ≡ Cycles = e in cc) u c
  needed_known (f_at a n x) q u c = single_known (f_at a n x) q refl (λ e. let z : F ≡ Cycles = e in cc) u c
  needed_known (g_at a y) q u c = single_known (g_at a y) q refl (λ e. let z : G ≡ Cycles = e in cc) u c
  needed_known (h_at a n x) q u c = single_known (h_at a n x) q refl (λ e. let z : H ≡ Cycles = e in cc) u c
  needed_known (cycles a n) q u c = subst IsKnown (sym (cycles_space p a n q (cycles-need p a n q c))) u

  -- each need of a question about a product or a bundle is about base or fibre
  pub needed_part : (k q : Ask) → IsFibred (space_asked k) → (op_of k ≡ Cycles → ⊥) → Contains (needs p k) q
      → (space_asked q ≡ base_of (space_asked k)) ⊎ (space_asked q ≡ fibre_of (space_asked k))
  needed_part k q fibred not c =
      let b = base_of (space_asked k) in
      let f = fibre_of (space_asked k) in
      asked-at (λ j. (space_asked j ≡ b) ⊎ (space_asked j ≡ f)) (needs p k) (needs-of_parts (λ s. (s ≡ b) ⊎ (s ≡ f)) p k fibred (inl refl) (inr refl) not) q (member_of (needs p k) q c)
