-- Where the words of spaces and of commands go wrong.
use Rattle.std.proofs.Common.{◌≡◌, ℕ, ◌-◌, ◌≤◌, Bool, cond, max, length, Ok, Err, refl, sym, ap, subst, ◌∙◌, arith, inl, inr, codes}
use Rattle.script_lang.specs.declared.words.SpaceWord.{SpaceWord}
use Rattle.script_lang.specs.declared.words.SpaceWord.TheVariants as space_words
use Rattle.script_lang.specs.declared.words.CommandWord.{CommandWord}
use Rattle.script_lang.specs.declared.words.CommandWord.TheVariants as command_words
use Rattle.script_lang.specs.Grammar.{Run, space_text, command_text}
use Rattle.script_lang.specs.Readings.{Judged}
use Rattle.script_lang.specs.Words.{common, space_common, space_word_of, command_common, command_word_of}
use Rattle.script_lang.proofs.Judges.{judging_space_word, judging_command_word}
use Rattle.script_lang.proofs.PlaceRuns.{IsRun, word}
use Rattle.script_lang.proofs.PlaceTables.{IsTable, max_is}
use Rattle.script_lang.proofs.PlaceTexts.{missed, err_is}

-- one of several that reaches a number
record Best {A : Type 0} (f : A → ℕ) (m : ℕ) : Type 0 where
  pub one : A
  pub is : f one ≡ m

best_max : {A : Type 0} (f : A → ℕ) (m n : ℕ) → Best f m → Best f n → Best f (max m n)
best_max f m n a b = elim (max_is m n) [ inl e ↦ record { one = a.one; is = a.is ∙ sym e } | inr e ↦ record { one = b.one; is = b.is ∙ sym e } ]

le_left : (a m n : ℕ) → a ≤ m → a ≤ max m n
le_left a m n h = omega (arith, h)

le_right : (a m n : ℕ) → a ≤ n → a ≤ max m n
le_right a m n h = omega (arith, h)

le_same : (a : ℕ) → a ≤ a
le_same a = omega arith

abbrev space_in : Run → SpaceWord → ℕ
space_in run v = common run (space_text v)

at_space : (run : Run) (v : SpaceWord) → Best (space_in run) (common run (space_text v))
at_space run v = record { one = v; is = refl }

space_best : (run : Run) → Best (space_in run) (space_common run)
space_best run =
    best_max (space_in run) _ _
    (best_max (space_in run) _ _ (best_max (space_in run) _ _ (at_space run space_words.Sphere) (at_space run space_words.Product)) (best_max (space_in run) _ _ (at_space run space_words.Suspension) (at_space run space_words.KZ1)))
    (best_max (space_in run) _ _ (best_max (space_in run) _ _ (at_space run space_words.Loop) (at_space run space_words.Path)) (best_max (space_in run) _ _ (at_space run space_words.Bundle) (at_space run space_words.Table)))

space_most : (run : Run) (v : SpaceWord) → common run (space_text v) ≤ space_common run
space_most run space_words.Sphere = le_left _ _ _ (le_left _ _ _ (le_left _ _ _ (le_same _)))
space_most run space_words.Product = le_left _ _ _ (le_left _ _ _ (le_right _ _ _ (le_same _)))
space_most run space_words.Suspension = le_left _ _ _ (le_right _ _ _ (le_left _ _ _ (le_same _)))
space_most run space_words.KZ1 = le_left _ _ _ (le_right _ _ _ (le_right _ _ _ (le_same _)))
space_most run space_words.Loop = le_right _ _ _ (le_left _ _ _ (le_left _ _ _ (le_same _)))
space_most run space_words.Path = le_right _ _ _ (le_left _ _ _ (le_right _ _ _ (le_same _)))
space_most run space_words.Bundle = le_right _ _ _ (le_right _ _ _ (le_left _ _ _ (le_same _)))
space_most run space_words.Table = le_right _ _ _ (le_right _ _ _ (le_right _ _ _ (le_same _)))

-- one more word that it is not
past : {A : Type 0} (b : Bool) (x : A) (y : Judged A) (left : ℕ) (P : Type 0) → (y ≡ Err left → P) → cond b (Ok x) y ≡ Err left → P
past b x y left P h e = h (missed b x y left e).1

space_left : (run : Run) (left : ℕ) → space_word_of run ≡ Err left → length run - space_common run ≡ left
unfolding space_word_of
space_left run left =
    past _ space_words.Sphere _ left _ (past _ space_words.Product _ left _ (past _ space_words.Suspension _ left _ (past _ space_words.KZ1 _ left _
    (past _ space_words.Loop _ left _ (past _ space_words.Path _ left _ (past _ space_words.Bundle _ left _ (past _ space_words.Table _ left _ (err_is {A = SpaceWord} _ left))))))))

space_run : (v : SpaceWord) → IsRun (space_text v)
space_run space_words.Sphere = word 115 (codes "phere") refl refl
space_run space_words.Product = word 99 (codes "rts-prdc") refl refl
space_run space_words.Suspension = word 115 (codes "uspension") refl refl
space_run space_words.KZ1 = word 107 (codes "-z-1") refl refl
space_run space_words.Loop = word 108 (codes "oop-space") refl refl
space_run space_words.Path = word 112 (codes "ath-space") refl refl
space_run space_words.Bundle = word 98 (codes "undle") refl refl
space_run space_words.Table = word 116 (codes "able") refl refl

pub space_table : IsTable space_text space_word_of
space_table = record {
  again = λ v. judging_space_word.again (space_text v) v refl;
  is = judging_space_word.is;
  is_run = space_run;
  best = λ run left is e. (space_best run).one;
  reached = λ run left is e. ap (λ (k : ℕ). length run - k) (space_best run).is ∙ space_left run left e;
  most = λ run left is e v. subst (λ (k : ℕ). common run (space_text v) ≤ k) (sym (space_best run).is) (space_most run v);
}

abbrev command_in : Run → CommandWord → ℕ
command_in run v = common run (command_text v)

at_command : (run : Run) (v : CommandWord) → Best (command_in run) (common run (command_text v))
at_command run v = record { one = v; is = refl }

command_best : (run : Run) → Best (command_in run) (command_common run)
command_best run =
    best_max (command_in run) _ _
    (best_max (command_in run) _ _ (best_max (command_in run) _ _ (at_command run command_words.Field) (at_command run command_words.Setf)) (best_max (command_in run) _ _ (at_command run command_words.Names) (at_command run command_words.Betti)))
    (best_max (command_in run) _ _ (best_max (command_in run) _ _ (at_command run command_words.Homology) (at_command run command_words.Boundary)) (at_command run command_words.Express))

command_most : (run : Run) (v : CommandWord) → common run (command_text v) ≤ command_common run
command_most run command_words.Field = le_left _ _ _ (le_left _ _ _ (le_left _ _ _ (le_same _)))
command_most run command_words.Setf = le_left _ _ _ (le_left _ _ _ (le_right _ _ _ (le_same _)))
command_most run command_words.Names = le_left _ _ _ (le_right _ _ _ (le_left _ _ _ (le_same _)))
command_most run command_words.Betti = le_left _ _ _ (le_right _ _ _ (le_right _ _ _ (le_same _)))
command_most run command_words.Homology = le_right _ _ _ (le_left _ _ _ (le_left _ _ _ (le_same _)))
command_most run command_words.Boundary = le_right _ _ _ (le_left _ _ _ (le_right _ _ _ (le_same _)))
command_most run command_words.Express = le_right _ _ _ (le_right _ _ _ (le_same _))

command_left : (run : Run) (left : ℕ) → command_word_of run ≡ Err left → length run - command_common run ≡ left
unfolding command_word_of
command_left run left =
    past _ command_words.Field _ left _ (past _ command_words.Setf _ left _ (past _ command_words.Names _ left _ (past _ command_words.Betti _ left _
    (past _ command_words.Homology _ left _ (past _ command_words.Boundary _ left _ (past _ command_words.Express _ left _ (err_is {A = CommandWord} _ left)))))))

command_run : (v : CommandWord) → IsRun (command_text v)
command_run command_words.Field = word 102 (codes "ield") refl refl
command_run command_words.Setf = word 115 (codes "etf") refl refl
command_run command_words.Names = word 110 (codes "ames") refl refl
command_run command_words.Betti = word 98 (codes "etti") refl refl
command_run command_words.Homology = word 104 (codes "omology") refl refl
command_run command_words.Boundary = word 98 (codes "oundary") refl refl
command_run command_words.Express = word 101 (codes "xpress") refl refl

pub command_table : IsTable command_text command_word_of
command_table = record {
  again = λ v. judging_command_word.again (command_text v) v refl;
  is = judging_command_word.is;
  is_run = command_run;
  best = λ run left is e. (command_best run).one;
  reached = λ run left is e. ap (λ (k : ℕ). length run - k) (command_best run).is ∙ command_left run left e;
  most = λ run left is e v. subst (λ (k : ℕ). common run (command_text v) ≤ k) (sym (command_best run).is) (command_most run v);
}
