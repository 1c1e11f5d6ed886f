-- What stands in a list: by what holds of all or of some of it, and where a list gets one more at its end.
use Rattle.std.proofs.Common.{◌≡◌, ◌⊎◌, inl, inr, ⊎_elim, ℕ, ◌<◌, ap, List, [], ◌∷◌, ◌++◌, length, get_or, slice_get, sym, ◌∙◌, subst, Some}
use Rattle.std.specs.Prelude.{All, Any}
use Rattle.std.proofs.lemmas.Option.{slice_get_within, slice_get-get_or, get_or_from_slice_get}
use Rattle.memo_book.proofs.Lists.{got_push, got_left, got_end}
use Rattle.memo_shared.specs.Dealt.{IsIn}

module _ {A : Type 0} (P : A → Type 0) where
  pub of_all : (xs : List A) → All P xs → (x : A) → IsIn x xs → P x
  of_all xs a x i = subst P (get_or_from_slice_get xs i.0 x x i.1) (a i.0 x (slice_get_within xs i.0 x i.1))

  pub all_of : (xs : List A) → ((x : A) → IsIn x xs → P x) → All P xs
  all_of xs f k d h = f (get_or xs k d) (k, slice_get-get_or xs k d h)

  pub some_of : (xs : List A) → Any P xs → (x : A) × IsIn x xs × P x
  some_of xs a = (a.1, (a.0, slice_get-get_or xs a.0 a.1 a.2 ∙ ap Some a.3), a.4)

  pub of_some : (xs : List A) (x : A) → IsIn x xs → P x → Any P xs
  of_some xs x i p = (i.0, x, slice_get_within xs i.0 x i.1, get_or_from_slice_get xs i.0 x x i.1, p)

module _ {A : Type 0} (xs ys : List A) (y : A) (more : ys ≡ xs ++ y ∷ []) where
  pub last_in : IsIn y ys
  last_in = (length xs, ap (λ l. slice_get l (length xs)) more ∙ got_end xs [] y)

  pub front_in : (x : A) → IsIn x xs → IsIn x ys
  front_in x i = (i.0, ap (λ l. slice_get l i.0) more ∙ (got_left xs (y ∷ []) i.0 (slice_get_within xs i.0 x i.1) ∙ i.1))

  pub in_more : (x : A) → IsIn x ys → (y ≡ x) ⊎ IsIn x xs
  in_more x i = ⊎_elim
      (λ (p : (i.0 ≡ length xs) × (y ≡ x)). inl p.1)
      (λ (p : (i.0 < length xs) × (slice_get xs i.0 ≡ Some x)). inr (i.0, p.1))
      (got_push xs y x i.0 (sym (ap (λ l. slice_get l i.0) more) ∙ i.1))

  -- what holds at each place
  pub each_more : (P : A → Type 0) → ((k : ℕ) (x : A) → slice_get xs k ≡ Some x → P x) → P y → (k : ℕ) (x : A) → slice_get ys k ≡ Some x → P x
  each_more P f p k x e = ⊎_elim (λ (is : y ≡ x). subst P is p) (λ (i : IsIn x xs). f i.0 x i.1) (in_more x (k, e))
