use Rattle.std.proofs.Common.{refl}
use Rattle.std.proofs.lemmas.Bool.Decides.{Decides-eqb}
use Rattle.std.proofs.lemmas.Slice.Eq.{strip_prefix_is}
use Rattle.own_controls.proofs.Pieces.{stripped}
use Rattle.own_controls.proofs.piece.behind_bytes.Goals as goal

pub returns : goal.returns
returns c =
    stripped c.args.bytes.now c.args.front.now c.args.front.now c.strip_prefix.result refl
    (strip_prefix_is Decides-eqb c.args.bytes.now c.args.front.now c.strip_prefix.result c.strip_prefix.ensures.cases)
