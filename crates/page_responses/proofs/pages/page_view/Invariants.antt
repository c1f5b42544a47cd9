use Rattle.page_responses.proofs.pages.page_view.Given as goal

abbrev pub ghosts-counted_page : goal.ghosts-counted_page
ghosts-counted_page a = record { name = a.blank.name; parts = a.blank.parts }
