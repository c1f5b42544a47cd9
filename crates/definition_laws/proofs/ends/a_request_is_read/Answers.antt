use Rattle.http_ends.proofs.Requests.{request_is_read}
use Rattle.definition_laws.proofs.ends.a_request_is_read.Goals as goal

pub returns : goal.returns
returns c = request_is_read
