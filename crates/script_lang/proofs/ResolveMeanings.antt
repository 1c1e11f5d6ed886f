-- What texts and bodies mean, one layer at a time.
use Rattle.std.proofs.Common.{◌≡◌, ℕ, ℤ, List, None, refl, sym, ◌∙◌, ap, subst}
use Rattle.spaces.specs.Tables.{Table}
use Rattle.spaces.specs.Spaces.{Space, table, sphere, product, suspension, kz1, bundle}
use Rattle.script_lang.specs.declared.simplices.SimplexText.{SimplexText, fold-roll-SimplexText}
use Rattle.script_lang.specs.declared.simplices.LetterText.{LetterText, fold-LetterText}
use Rattle.script_lang.specs.declared.simplices.BodyText.{BodyText, roll-BodyText, out-BodyText, roll-out-BodyText, map-BodyText, fold-roll-BodyText}
use Rattle.script_lang.specs.declared.simplices.BodyText.TheVariants.{Star, Name, Up, Pair, Ints, rolls-Star, rolls-Name, rolls-Up, rolls-Pair, rolls-Ints}
use Rattle.script_lang.specs.declared.simplices.BodyText.TheOpen.{BodyText-F}
use Rattle.script_lang.specs.Meaning.{BodyMeaning, LetterMeaning, Meaning, body_step, letter_step, simplex_step, meaning}
use Rattle.script_lang.specs.Resolved.{body_meaning}

letter_meaning : LetterText → LetterMeaning
letter_meaning l = fold-LetterText BodyMeaning LetterMeaning Meaning body_step letter_step simplex_step l

-- a text means its prefix before its body
pub meaning-is : (x : SimplexText) → meaning x ≡ simplex_step (record { degens = x.degens; body = body_meaning x.body })
unfolding meaning body_meaning
meaning-is x = fold-roll-SimplexText BodyMeaning LetterMeaning Meaning body_step letter_step simplex_step (record { degens = x.degens; body = x.body })

rolled : (y : BodyText-F BodyText LetterText SimplexText)
    → body_meaning (roll-BodyText y) ≡ body_step (map-BodyText BodyText LetterText SimplexText BodyMeaning LetterMeaning Meaning body_meaning letter_meaning meaning y)
unfolding meaning body_meaning letter_meaning
rolled y = fold-roll-BodyText BodyMeaning LetterMeaning Meaning body_step letter_step simplex_step y

pub meaning-Star : body_meaning Star ≡ body_step BodyText-F.Star
meaning-Star = ap body_meaning (sym rolls-Star) ∙ rolled BodyText-F.Star

pub meaning-Name : (name : List ℕ) → body_meaning (Name name) ≡ body_step (BodyText-F.Name name)
meaning-Name name = ap body_meaning (sym (rolls-Name name)) ∙ rolled (BodyText-F.Name name)

pub meaning-Up : (x : SimplexText) → body_meaning (Up x) ≡ body_step (BodyText-F.Up (meaning x))
meaning-Up x = ap body_meaning (sym (rolls-Up x)) ∙ rolled (BodyText-F.Up x)

pub meaning-Pair : (x y : SimplexText) → body_meaning (Pair x y) ≡ body_step (BodyText-F.Pair (meaning x) (meaning y))
meaning-Pair x y = ap body_meaning (sym (rolls-Pair x y)) ∙ rolled (BodyText-F.Pair x y)

pub meaning-Ints : (list : List ℤ) → body_meaning (Ints list) ≡ body_step (BodyText-F.Ints list)
meaning-Ints list = ap body_meaning (sym (rolls-Ints list)) ∙ rolled (BodyText-F.Ints list)

-- other bodies mean nothing in a table or a sphere
module _ (t : Table) (n : ℕ) where
  table_layer : (y : BodyText-F BodyText LetterText SimplexText) → (roll-BodyText y ≡ Star → ⊥) → ((name : List ℕ) → roll-BodyText y ≡ Name name → ⊥) → body_meaning (roll-BodyText y) (table t) n ≡ None
  table_layer BodyText-F.Star s r = absurd (s rolls-Star)
  table_layer (BodyText-F.Name name) s r = absurd (r name (rolls-Name name))
  table_layer (BodyText-F.Up x) s r = ap (λ f. f (table t) n) (rolled (BodyText-F.Up x))
  table_layer (BodyText-F.Pair x y) s r = ap (λ f. f (table t) n) (rolled (BodyText-F.Pair x y))
  table_layer (BodyText-F.Ints list) s r = ap (λ f. f (table t) n) (rolled (BodyText-F.Ints list))
  table_layer (BodyText-F.Word letters) s r = ap (λ f. f (table t) n) (rolled (BodyText-F.Word letters))

  pub table_other : (body : BodyText) → (body ≡ Star → ⊥) → ((name : List ℕ) → body ≡ Name name → ⊥) → body_meaning body (table t) n ≡ None
  table_other body s r =
      let e = roll-out-BodyText body in
      ap (λ b. body_meaning b (table t) n) (sym e) ∙ table_layer (out-BodyText body) (λ h. s (sym e ∙ h)) (λ name h. r name (sym e ∙ h))

module _ (m n : ℕ) where
  sphere_layer : (y : BodyText-F BodyText LetterText SimplexText) → (roll-BodyText y ≡ Star → ⊥) → ((name : List ℕ) → roll-BodyText y ≡ Name name → ⊥) → body_meaning (roll-BodyText y) (sphere m) n ≡ None
  sphere_layer BodyText-F.Star s r = absurd (s rolls-Star)
  sphere_layer (BodyText-F.Name name) s r = absurd (r name (rolls-Name name))
  sphere_layer (BodyText-F.Up x) s r = ap (λ f. f (sphere m) n) (rolled (BodyText-F.Up x))
  sphere_layer (BodyText-F.Pair x y) s r = ap (λ f. f (sphere m) n) (rolled (BodyText-F.Pair x y))
  sphere_layer (BodyText-F.Ints list) s r = ap (λ f. f (sphere m) n) (rolled (BodyText-F.Ints list))
  sphere_layer (BodyText-F.Word letters) s r = ap (λ f. f (sphere m) n) (rolled (BodyText-F.Word letters))

  pub sphere_other : (body : BodyText) → (body ≡ Star → ⊥) → ((name : List ℕ) → body ≡ Name name → ⊥) → body_meaning body (sphere m) n ≡ None
  sphere_other body s r =
      let e = roll-out-BodyText body in
      ap (λ b. body_meaning b (sphere m) n) (sym e) ∙ sphere_layer (out-BodyText body) (λ h. s (sym e ∙ h)) (λ name h. r name (sym e ∙ h))

-- a body means what `*` does, or what a name does, or nothing in tables and spheres
pub data BodyCases (body : BodyText) : Type 0 where
  at_star : body_meaning body ≡ body_step BodyText-F.Star → BodyCases body
  at_name : (name : List ℕ) → body_meaning body ≡ body_step (BodyText-F.Name name) → BodyCases body
  at_other : ((t : Table) (n : ℕ) → body_meaning body (table t) n ≡ None) → ((m n : ℕ) → body_meaning body (sphere m) n ≡ None) → BodyCases body

layer_cases : (y : BodyText-F BodyText LetterText SimplexText) → BodyCases (roll-BodyText y)
layer_cases BodyText-F.Star = at_star (rolled BodyText-F.Star)
layer_cases (BodyText-F.Name name) = at_name name (rolled (BodyText-F.Name name))
layer_cases (BodyText-F.Up x) = at_other (λ t n. ap (λ f. f (table t) n) (rolled (BodyText-F.Up x))) (λ m n. ap (λ f. f (sphere m) n) (rolled (BodyText-F.Up x)))
layer_cases (BodyText-F.Pair x y) = at_other (λ t n. ap (λ f. f (table t) n) (rolled (BodyText-F.Pair x y))) (λ m n. ap (λ f. f (sphere m) n) (rolled (BodyText-F.Pair x y)))
layer_cases (BodyText-F.Ints list) = at_other (λ t n. ap (λ f. f (table t) n) (rolled (BodyText-F.Ints list))) (λ m n. ap (λ f. f (sphere m) n) (rolled (BodyText-F.Ints list)))
layer_cases (BodyText-F.Word letters) = at_other (λ t n. ap (λ f. f (table t) n) (rolled (BodyText-F.Word letters))) (λ m n. ap (λ f. f (sphere m) n) (rolled (BodyText-F.Word letters)))

pub cases_body : (body : BodyText) → BodyCases body
cases_body body = subst BodyCases (roll-out-BodyText body) (layer_cases (out-BodyText body))

-- a body of K(Z,1) is a list, or means nothing; one of a suspension is the base, or Up of a text, or means nothing
pub data IntsCases (body : BodyText) : Type 0 where
  at_ints : (list : List ℤ) → body ≡ Ints list → IntsCases body
  no_ints : ((n : ℕ) → body_meaning body kz1 n ≡ None) → IntsCases body

pub data UpCases (body : BodyText) : Type 0 where
  at_base : body ≡ Star → UpCases body
  at_up : (x : SimplexText) → body ≡ Up x → UpCases body
  no_up : ((a : Space) (n : ℕ) → body_meaning body (suspension a) n ≡ None) → UpCases body

ints_cases : (y : BodyText-F BodyText LetterText SimplexText) → IntsCases (roll-BodyText y)
ints_cases BodyText-F.Star = no_ints (λ n. ap (λ f. f kz1 n) (rolled BodyText-F.Star))
ints_cases (BodyText-F.Name name) = no_ints (λ n. ap (λ f. f kz1 n) (rolled (BodyText-F.Name name)))
ints_cases (BodyText-F.Up x) = no_ints (λ n. ap (λ f. f kz1 n) (rolled (BodyText-F.Up x)))
ints_cases (BodyText-F.Pair x y) = no_ints (λ n. ap (λ f. f kz1 n) (rolled (BodyText-F.Pair x y)))
ints_cases (BodyText-F.Ints list) = at_ints list (rolls-Ints list)
ints_cases (BodyText-F.Word letters) = no_ints (λ n. ap (λ f. f kz1 n) (rolled (BodyText-F.Word letters)))

pub cases_ints : (body : BodyText) → IntsCases body
cases_ints body = subst IntsCases (roll-out-BodyText body) (ints_cases (out-BodyText body))

pub ints_other : (n : ℕ) (body : BodyText) → ((list : List ℤ) → body ≡ Ints list → ⊥) → body_meaning body kz1 n ≡ None
ints_other n body r = by (cases_ints body)
  where
    by : IntsCases body → body_meaning body kz1 n ≡ None
    by (at_ints list e) = absurd (r list e)
    by (no_ints h) = h n

up_cases : (y : BodyText-F BodyText LetterText SimplexText) → UpCases (roll-BodyText y)
up_cases BodyText-F.Star = at_base rolls-Star
up_cases (BodyText-F.Name name) = no_up (λ a n. ap (λ f. f (suspension a) n) (rolled (BodyText-F.Name name)))
up_cases (BodyText-F.Up x) = at_up x (rolls-Up x)
up_cases (BodyText-F.Pair x y) = no_up (λ a n. ap (λ f. f (suspension a) n) (rolled (BodyText-F.Pair x y)))
up_cases (BodyText-F.Ints list) = no_up (λ a n. ap (λ f. f (suspension a) n) (rolled (BodyText-F.Ints list)))
up_cases (BodyText-F.Word letters) = no_up (λ a n. ap (λ f. f (suspension a) n) (rolled (BodyText-F.Word letters)))

pub cases_up : (body : BodyText) → UpCases body
cases_up body = subst UpCases (roll-out-BodyText body) (up_cases (out-BodyText body))

pub up_other : (a : Space) (n : ℕ) (body : BodyText) → (body ≡ Star → ⊥) → ((x : SimplexText) → body ≡ Up x → ⊥) → body_meaning body (suspension a) n ≡ None
up_other a n body s r = by (cases_up body)
  where
    by : UpCases body → body_meaning body (suspension a) n ≡ None
    by (at_base e) = absurd (s e)
    by (at_up x e) = absurd (r x e)
    by (no_up h) = h a n

-- one of a product or of a circle bundle is a pair of texts, or means nothing
pub data PairCases (body : BodyText) : Type 0 where
  at_pair : (x y : SimplexText) → body ≡ Pair x y → PairCases body
  no_pair : ((a b : Space) (n : ℕ) → body_meaning body (product a b) n ≡ None) → ((t : Table) (c : List ℤ) (n : ℕ) → body_meaning body (bundle t c) n ≡ None)
      → PairCases body

none_layer : (y : BodyText-F BodyText LetterText SimplexText) → ((a b : Space) (n : ℕ) → body_step (map-BodyText BodyText LetterText SimplexText BodyMeaning LetterMeaning Meaning body_meaning letter_meaning meaning y) (product a b) n ≡ None)
    → ((t : Table) (c : List ℤ) (n : ℕ) → body_step (map-BodyText BodyText LetterText SimplexText BodyMeaning LetterMeaning Meaning body_meaning letter_meaning meaning y) (bundle t c) n ≡ None) → PairCases (roll-BodyText y)
none_layer y f g = no_pair (λ a b n. ap (λ m. m (product a b) n) (rolled y) ∙ f a b n) (λ t c n. ap (λ m. m (bundle t c) n) (rolled y) ∙ g t c n)

pair_cases : (y : BodyText-F BodyText LetterText SimplexText) → PairCases (roll-BodyText y)
pair_cases BodyText-F.Star = none_layer BodyText-F.Star (λ a b n. refl) (λ t c n. refl)
pair_cases (BodyText-F.Name name) = none_layer (BodyText-F.Name name) (λ a b n. refl) (λ t c n. refl)
pair_cases (BodyText-F.Up x) = none_layer (BodyText-F.Up x) (λ a b n. refl) (λ t c n. refl)
pair_cases (BodyText-F.Pair x y) = at_pair x y (rolls-Pair x y)
pair_cases (BodyText-F.Ints list) = none_layer (BodyText-F.Ints list) (λ a b n. refl) (λ t c n. refl)
pair_cases (BodyText-F.Word letters) = none_layer (BodyText-F.Word letters) (λ a b n. refl) (λ t c n. refl)

pub cases_pair : (body : BodyText) → PairCases body
cases_pair body = subst PairCases (roll-out-BodyText body) (pair_cases (out-BodyText body))

module _ (body : BodyText) (r : (x y : SimplexText) → body ≡ Pair x y → ⊥) where
  pub product_other : (a b : Space) (n : ℕ) → body_meaning body (product a b) n ≡ None
  product_other a b n = by (cases_pair body)
    where
      by : PairCases body → body_meaning body (product a b) n ≡ None
      by (at_pair x y e) = absurd (r x y e)
      by (no_pair f g) = f a b n

  pub bundle_other : (t : Table) (c : List ℤ) (n : ℕ) → body_meaning body (bundle t c) n ≡ None
  bundle_other t c n = by (cases_pair body)
    where
      by : PairCases body → body_meaning body (bundle t c) n ≡ None
      by (at_pair x y e) = absurd (r x y e)
      by (no_pair f g) = g t c n
