use Rattle.result_json.proofs.Pieces.{pieces_make_the_text}
use Rattle.result_json.proofs.laws.pieces_make_the_text.Goals as goal

pub returns : goal.returns
returns c = pieces_make_the_text
