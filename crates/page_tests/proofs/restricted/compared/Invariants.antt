use Rattle.page_tests.proofs.restricted.compared.Given as goal

abbrev pub ghosts-compare : goal.ghosts-compare
ghosts-compare a = record { name = a.blank.name; parts = a.blank.parts }
