-- What a value of the code keeps of its space has one proof at most, and gives the simplicial identities (May, Simplicial Objects in
-- Algebraic Topology, chapter I, 1).
--
--   of the sphere of dimension 2 it is that 2 is from 1 to 16, and its depth at most 8
use Rattle.std.specs.Prelude.{◌≡◌, ℕ, ◌-◌, List, [], ◌∷◌, Some, None}
use Rattle.std.proofs.Common.{ap, subst}
use Rattle.std.specs.Coded.{Coded, Coded-set, coded_ℕ, coded_ℤ, coded_bool, coded_list, coded×, coded_option, ×_prop, Unit-prop, le_prop}
use Rattle.std.proofs.Props.{props}
use Rattle.simp_ops.specs.Words.{IsWord}
use Rattle.spaces.specs.Allowed.{Admits, HasOneVertex}
use Rattle.spaces.specs.Simplicial.{Simplicial, IsSimplicial}
use Rattle.spaces.specs.Tables.{RowSimplex}
use Rattle.spaces.specs.Spaces.{Space, table, sphere, product, suspension, kz1, bundle, loops, paths, kzm1, cyclic_bundle, Plain, set_of}
use Rattle.spaces.proofs.SpaceLaws.{space_set_laws}
use Rattle.normal_forms.specs.Built.{IsBuilt}
use Rattle.space_faces.specs.Built.{IsAllowedBuilt}

pub word_prop : (n : ℕ) (w : List ℕ) → IsProp (IsWord n w)
word_prop n [] = Unit-prop
word_prop n (j ∷ w) = ×_prop le_prop (word_prop j w)

-- ---- simplices that are equal are so in one way

coded_row : Coded RowSimplex
coded_row = coded× (coded_list coded_ℕ) coded_ℕ

coded_plain : (X : Space) → Coded (Plain X)
coded_plain (table t) = coded_row
coded_plain (sphere m) = coded_row
coded_plain (product a b) = coded× (coded_plain a) (coded_plain b)
coded_plain (suspension a) = coded_option (coded× coded_ℕ (coded_plain a))
coded_plain kz1 = coded_list coded_ℤ
coded_plain (bundle t c) = coded× coded_row (coded_list coded_ℤ)
coded_plain (loops a) = coded_list (coded× coded_bool (coded_plain a))
coded_plain (paths a) = coded× (coded_plain a) (coded_list (coded× coded_bool (coded_plain a)))
coded_plain (kzm1 m) = coded_list coded_ℕ
coded_plain (cyclic_bundle t m c) = coded× coded_row (coded_list coded_ℕ)

-- a simplex of a degree is so in one way
in_prop : (X : Space) → IsBuilt X → (n : ℕ) (x : Plain X) → IsProp ((set_of X).In n x)
in_prop (table t) built n x = hlevel (props, word_prop)
in_prop (sphere m) built n x = hlevel (props, word_prop)
in_prop (product a b) built n x = ×_prop (in_prop a built.0 n x.0) (in_prop b built.1 n x.1)
in_prop (suspension a) built n None = Unit-prop
in_prop (suspension a) built n (Some s) = hlevel (props, in_prop a built (n - 1 - s.0) s.1)
in_prop kz1 built n x = hlevel props
in_prop (bundle t c) built n x = hlevel (props, word_prop)
in_prop (loops a) built n x = absurd built
in_prop (paths a) built n x = absurd built
in_prop (kzm1 m) built n x = absurd built
in_prop (cyclic_bundle t m c) built n x = absurd built

-- there is one vertex in one way
module _ {K : Type 0} (X : Simplicial K) (set : IsSet K) (in_one : (x : K) → IsProp (X.In 0 x)) where
  abbrev IsOnly : K → Type 0
  IsOnly v = X.In 0 v × ((x : K) → X.In 0 x → x ≡ v)

  only_prop : (v : K) → IsProp (IsOnly v)
  only_prop v = hlevel (set, in_one)

  vertex_prop : IsProp (HasOneVertex X)
  vertex_prop p q =
      subst (λ v. (w : IsOnly v) → ◌≡◌ {A = HasOneVertex X} p (v, w.0, w.1)) (q.2 p.0 p.1)
      (λ w. ap (λ (u : IsOnly p.0). (p.0, u.0, u.1)) (only_prop p.0 (p.1, p.2) w)) (q.1, q.2)

-- ---- what is built and allowed is so in one way

built_prop : (X : Space) → IsProp (IsBuilt X)
built_prop (table t) = Unit-prop
built_prop (sphere m) = Unit-prop
built_prop (product a b) = ×_prop (built_prop a) (built_prop b)
built_prop (suspension a) = built_prop a
built_prop kz1 = Unit-prop
built_prop (bundle t c) = Unit-prop
built_prop (loops a) = hlevel
built_prop (paths a) = hlevel
built_prop (kzm1 m) = hlevel
built_prop (cyclic_bundle t m c) = hlevel

admits_prop : (X : Space) → IsBuilt X → IsProp (Admits X)
admits_prop (table t) built = hlevel (props, word_prop)
admits_prop (sphere m) built = hlevel props
admits_prop (product a b) built = ×_prop (admits_prop a built.0) (admits_prop b built.1)
admits_prop (suspension a) built = ×_prop (admits_prop a built) (vertex_prop (set_of a) (Coded-set (coded_plain a)) (in_prop a built 0))
admits_prop kz1 built = Unit-prop
admits_prop (bundle t c) built = hlevel (props, word_prop)
admits_prop (loops a) built = absurd built
admits_prop (paths a) built = absurd built
admits_prop (kzm1 m) built = absurd built
admits_prop (cyclic_bundle t m c) built = absurd built

pub allowed_built_prop : (X : Space) → IsProp (IsAllowedBuilt X)
allowed_built_prop X p q = λ i. ((admits_prop X p.1 p.0.0 q.0.0 i, le_prop p.0.1 q.0.1 i), built_prop X p.1 q.1 i)

pub kept_laws : (X : Space) → IsAllowedBuilt X → IsSimplicial (set_of X)
kept_laws X h = space_set_laws X h.0.0
