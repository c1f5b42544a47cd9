use Rattle.page_responses.proofs.pages.restricted_view.Given as goal

abbrev pub ghosts-counted_restricted : goal.ghosts-counted_restricted
ghosts-counted_restricted a = record { name = a.blank.name; parts = a.blank.parts }
