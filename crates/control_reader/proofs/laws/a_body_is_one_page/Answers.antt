use Rattle.control_reader.proofs.Pages.{one_page, one_fault, not_wrong}
use Rattle.control_reader.proofs.laws.a_body_is_one_page.Goals as goal

pub returns-clause-page : goal.returns-clause-page
returns-clause-page c = one_page

pub returns-clause-fault : goal.returns-clause-fault
returns-clause-fault c = one_fault

pub returns-clause-never_both : goal.returns-clause-never_both
returns-clause-never_both c = λ bytes address page fault h k. not_wrong bytes address page h fault k.wrong
