use Rattle.std.proofs.Common.{rules}
use Rattle.control_triples.proofs.Controlled.{are_controls}
use Rattle.control_triples.proofs.LengthOrder.{sorted_by_length}
use Rattle.control_triples.proofs.controls.sorted_controls.Goals as goal

pub returns : goal.returns
returns c = λ quads topic text triples e.
    are_controls quads text topic c.args.controls.items c.sort_unstable_by.new.self.items c.dedup.new.self.items e triples
    c.sort_unstable_by.ensures.permutation c.dedup.ensures.filtered (sorted_by_length _ c.sort_unstable_by.ensures.sorted (λ a r q k. search rules))
