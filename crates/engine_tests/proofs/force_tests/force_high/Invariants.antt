use Rattle.engine_tests.proofs.force_tests.force_high.Given as goal

abbrev pub ghosts-forced : goal.ghosts-forced
ghosts-forced a = record { name = a.blank.name; parts = a.blank.parts }
