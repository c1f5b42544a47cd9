use Rattle.std.proofs.Common.{refl, arith}
use Rattle.std.proofs.lemmas.Simd.{zip2_splat, length-chunk}
use lib.Lanes.{chunk}
use Rattle.nquads_text.specs.Grammar.{is_form_byte}
use Rattle.nquads_text.proofs.Loads.{joined, passes_in}
use Rattle.nquads_text.proofs.lanes.form_run.Goals as goal

pub returns : goal.returns
returns c =
    let v = chunk c.args.at 16 c.args.bytes.now in
    let long = length-chunk c.args.at 16 c.args.bytes.now c.requires in
    passes_in is_form_byte c.args.bytes.now c.args.at 16 _ _ c.requires (omega arith) c.type_inv.bytes c.first_set.ensures _
    (joined _ _ _ v (joined _ _ _ v (joined _ _ _ v (zip2_splat _ v 16 34 long) (zip2_splat _ v 16 92 long)) (zip2_splat _ v 16 10 long)) (zip2_splat _ v 16 13 long)) refl
