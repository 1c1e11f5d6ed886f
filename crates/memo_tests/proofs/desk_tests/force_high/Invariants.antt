use Rattle.memo_tests.proofs.desk_tests.force_high.Given as goal

abbrev pub ghosts-forced : goal.ghosts-forced
ghosts-forced g a = record { name = a.blank.name; parts = a.blank.parts }
