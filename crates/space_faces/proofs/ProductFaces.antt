-- The faces of the simplices of a product, as the code makes them from the faces of the two parts (May, Simplicial Objects in Algebraic
-- Topology, chapter I).
use Rattle.std.proofs.Common.{◌≡◌, ℕ, ◌-◌, ◌≤◌, sym, ◌∙◌, ap, subst, arith}
use Rattle.spaces.specs.Spaces.{Space, product, set_of}
use Rattle.spaces.specs.Allowed.{IsAllowed}
use Rattle.cells.specs.declared.cells.Simplex.{Simplex}
use Rattle.cells.specs.Dim.{degree_of}
use Rattle.term_lang.specs.Forms.{form}
use Rattle.term_lang.specs.Belongs.{IsSimplex}
use Rattle.oracle_iface.specs.CodeSizes.{cell_integer}
use Rattle.kz1_group.proofs.Faced.{Faced}
use Rattle.normal_forms.specs.Built.{IsBuilt}
use Rattle.normal_forms.specs.Paired.{IsPaired, HasParts}
use Rattle.normal_forms.proofs.BuiltForms.{built_forms}
use Rattle.normal_forms.proofs.BuiltPairs.{product_paired, product_parted, product_parts}
use Rattle.normal_forms.proofs.PairedForms.{integers-paired}

-- Y is the product of a and b
module _ (a b Y : Space) (same : Y ≡ product a b) (allowed_Y : IsAllowed Y) (built_Y : IsBuilt Y) where
  allowed : IsAllowed (product a b)
  allowed = subst IsAllowed same allowed_Y

  built : IsBuilt (product a b)
  built = subst IsBuilt same built_Y

  pub allowed_left : IsAllowed a
  allowed_left = (allowed.0.0, omega (arith, allowed.1))

  pub allowed_right : IsAllowed b
  allowed_right = (allowed.0.1, omega (arith, allowed.1))

  pub built_left : IsBuilt a
  built_left = built.0

  pub built_right : IsBuilt b
  built_right = built.1

  module _ (n : ℕ) (x : Simplex) (h : IsSimplex Y n x) (positive : 1 ≤ n) (most : n ≤ 32) where
    there : IsSimplex (product a b) n x
    there = subst (λ Z. IsSimplex Z n x) same h

    pub has_parts : HasParts x
    has_parts = product_parts a b n most x there

    -- x is the pair of l and r
    module _ (l r : Simplex) (p : IsPaired l r x) where
      parted : IsSimplex a n l × IsSimplex b n r × (form x (product a b) ≡ (form l a, form r b))
      parted = product_parted a b allowed_left built_left allowed_right built_right n most l r x p there

      pub left_degree : degree_of l ≡ n
      left_degree = (built_forms a allowed_left built_left n most).degree l parted.0

      pub right_degree : degree_of r ≡ n
      right_degree = (built_forms b allowed_right built_right n most).degree r parted.1

      pub left_simplex : IsSimplex a (degree_of l) l
      left_simplex = subst (λ m. IsSimplex a m l) (sym left_degree) parted.0

      pub right_simplex : IsSimplex b (degree_of r) r
      right_simplex = subst (λ m. IsSimplex b m r) (sym right_degree) parted.1

      pub left_integers : (k : ℕ) → cell_integer x.cell ≤ k → cell_integer l.cell ≤ k
      left_integers k g = omega (arith, integers-paired l r x p, g)

      pub right_integers : (k : ℕ) → cell_integer x.cell ≤ k → cell_integer r.cell ≤ k
      right_integers k g = omega (arith, integers-paired l r x p, g)

      -- y is the pair of their faces
      module _ (i : ℕ) (u v y : Simplex) (us : IsSimplex a (degree_of l - 1) u) (u_is : form u a ≡ (set_of a).face i (form l a))
          (vs : IsSimplex b (degree_of r - 1) v) (v_is : form v b ≡ (set_of b).face i (form r b)) (q : IsPaired u v y) where
        made : IsSimplex (product a b) (n - 1) y × (form y (product a b) ≡ (form u a, form v b))
        made =
            product_paired a b allowed_left built_left allowed_right built_right (n - 1) (omega (arith, most)) u v y q
            (subst (λ m. IsSimplex a (m - 1) u) left_degree us) (subst (λ m. IsSimplex b (m - 1) v) right_degree vs)

        pub product_face : Faced Y n i x y
        product_face =
            subst (λ Z. Faced Z n i x y) (sym same)
            (record { plain_is = made.1 ∙ (λ t. (u_is t, v_is t)) ∙ ap ((set_of (product a b)).face i) (sym parted.2); simplex = made.0 })
