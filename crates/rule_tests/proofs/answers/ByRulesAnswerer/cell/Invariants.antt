use Rattle.rule_tests.proofs.answers.ByRulesAnswerer.cell.Given as goal

abbrev pub ghosts-forced : goal.ghosts-forced
ghosts-forced a = record { name = a.blank.name; parts = a.blank.parts }
