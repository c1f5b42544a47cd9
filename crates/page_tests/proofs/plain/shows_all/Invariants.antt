use Rattle.page_tests.proofs.plain.shows_all.Given as goal

abbrev pub ghosts-shows : goal.ghosts-shows
ghosts-shows a = record { name = a.blank.name; parts = a.blank.parts }
