-- What a construction needs of the test for the degeneracies of a vertex.
use Rattle.std.proofs.Common.{◌≡◌, ℕ, suc, ◌≤◌, Bool, true}
use Rattle.spaces.specs.Simplicial.{Simplicial}

-- Vertices pass, faces and degeneracies of what passes do, and nothing else has a degeneracy that passes; what passes is s_0 of its face.
pub record IsBaseTest {K : Type 0} (A : Simplicial K) (is_base : K → Bool) : Type 0 where
  pub vertex : (x : K) → A.In 0 x → is_base x ≡ true
  pub face_base : (n i : ℕ) (x : K) → A.In (suc n) x → i ≤ suc n → is_base x ≡ true → is_base (A.face i x) ≡ true
  pub degeneracy_base : (n i : ℕ) (x : K) → A.In n x → i ≤ n → is_base (A.degeneracy i x) ≡ is_base x
  pub first : (n : ℕ) (x : K) → A.In (suc n) x → is_base x ≡ true → x ≡ A.degeneracy 0 (A.face 0 x)
