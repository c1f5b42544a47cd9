use Rattle.std.proofs.Common.{ℕ, eqb, ltb, cond, bit_or, refl, arith}
use Rattle.std.proofs.lemmas.Simd.{zip2_splat, length-chunk}
use lib.Lanes.{chunk}
use Rattle.rdf_terms.specs.Iri.{is_iri_byte}
use Rattle.nquads_text.proofs.Loads.{joined, splat_is, passes_in}
use Rattle.nquads_text.proofs.lanes.iri_run.Goals as goal

pub returns : goal.returns
returns c =
    let v = chunk c.args.at 16 c.args.bytes.now in
    let long = length-chunk c.args.at 16 c.args.bytes.now c.requires in
    let pair = zip2_splat {Y = ℕ} bit_or v 16 2 long in
    let angles = joined (λ a b. cond (eqb a b) 255 0) _ _ v pair (splat_is v 16 62 long) in
    let slants = joined (λ a b. cond (eqb a b) 255 0) _ _ v pair (splat_is v 16 94 long) in
    let braces = joined (λ a b. cond (ltb a b) 255 0) _ _ v (zip2_splat {Y = ℕ} _ v 16 123 long) (splat_is v 16 3 long) in
    passes_in is_iri_byte c.args.bytes.now c.args.at 16 _ _ c.requires (omega arith) c.type_inv.bytes c.first_set.ensures _
    (joined bit_or _ _ v (joined bit_or _ _ v (joined bit_or _ _ v (joined bit_or _ _ v (joined bit_or _ _ v (zip2_splat {Y = ℕ} _ v 16 32 long) angles) slants) (zip2_splat {Y = ℕ} _ v 16 34 long)) (zip2_splat {Y = ℕ} _ v 16 96 long)) braces) refl
