use Rattle.http_ends.proofs.Closes.{kept_before_the_end}
use Rattle.http_ends.proofs.Stays.{readings_stay}
use Rattle.http_ends.proofs.a_reading_stays.Goals as goal

pub returns-clause-stays : goal.returns-clause-stays
returns-clause-stays c = readings_stay

pub returns-clause-kept : goal.returns-clause-kept
returns-clause-kept c = kept_before_the_end
