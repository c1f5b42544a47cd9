use Rattle.std.proofs.Common.{◌≡◌, ◌+◌, ◌-◌, ◌≤◌, ◌*◌, ℕ, List, take, drop, arith, refl, ap, ◌∙◌, ◌++◌}
use Rattle.std.proofs.lemmas.List.{length-take}
use Rattle.query_tokens.specs.declared.piece.Piece.{Piece}
use Rattle.query_tokens.specs.Pieces.{byte_place}
use Rattle.query_tokens.proofs.Pieces.{placed_is, one_more, not_empty, fitting}
use Rattle.query_tokens.proofs.Bytes.{to_is}
use Rattle.query_tokens.proofs.piece.pieces.Goals as goal

pub loop-place-smaller : goal.loop-place-smaller
loop-place-smaller c =
    let more = not_empty _ c.in-Some.kind c.in-Some.len c.in-Some.ensures.piece.0 in
    omega (arith, more)

pub loop-place-preserved : goal.loop-place-preserved
loop-place-preserved c =
    let cs = c.args.chars.now in
    let n = c.loop-place.place in
    let len = c.in-Some.len in
    let same : n + len - n ≡ len = omega arith in
    let old = c.loop-place.invariant in
    let to : c.loop-place.at + c.byte_len.result ≡ byte_place cs (n + len) = to_is cs _ n len c.loop-place.at c.byte_len.result old.at (ap (λ (i : ℕ). take i (drop n cs)) same) c.byte_len.ensures.value in
    let are = c.in_ok-add-in-Some.ensures.ok ∙ ap (λ (l : List Piece). c.loop-place.pieces.items ++ l) (placed_is cs n c.in-Some.kind len c.loop-place.at (c.loop-place.at + c.byte_len.result) old.at to) in
    let size = length-take (n + len - n) (drop n cs) in
    let few = old.few in
    let bytes = c.byte_len.ensures.small in
    let small : c.loop-place.at + c.byte_len.result ≤ 4 * (n + len) = omega arith in
    record {
      run = c.piece_at.ensures.run;
      front = one_more cs (drop n cs) n c.loop-place.pieces.items c.add.new.pieces.items c.in-Some.kind len refl old.front c.in-Some.ensures.piece are;
      at = to;
      few = small;
    }

pub returns-clause-fits : goal.returns-clause-fits
returns-clause-fits c = fitting c.args.chars.now c.loop-place.place c.loop-place.pieces.items c.loop-place.invariant.front
