use Rattle.http_ends.proofs.Fields.{address_plain}
use Rattle.http_ends.proofs.Plain.{requests_differ, requests_are_cut}
use Rattle.http_ends.proofs.Pieces.{parts_have_none, pieces_are_requests}
use Rattle.http_ends.proofs.requests_are_cut.Goals as goal

pub returns-clause-plain : goal.returns-clause-plain
returns-clause-plain c = address_plain

pub returns-clause-differ : goal.returns-clause-differ
returns-clause-differ c = requests_differ

pub returns-clause-part : goal.returns-clause-part
returns-clause-part c = parts_have_none

pub returns-clause-once : goal.returns-clause-once
returns-clause-once c = requests_are_cut

pub returns-clause-pieces : goal.returns-clause-pieces
returns-clause-pieces c = pieces_are_requests
