use Rattle.template_fill.proofs.PageTexts.{first_page}
use Rattle.template_fill.proofs.FirstPages.{first_page_rows}
use Rattle.template_fill.proofs.laws.first_page_is_expansion.Goals as goal

pub returns-clause-alone : goal.returns-clause-alone
returns-clause-alone c = first_page

pub returns-clause-rows : goal.returns-clause-rows
returns-clause-rows c = first_page_rows
