use Rattle.std.proofs.Common.{◌<◌, ◌≤◌, ◌^◌, length, ap, sym, ◌∙◌, arith}
use Rattle.triple_table.specs.Stored.{Stored, triples_in}
use Rattle.template_fill.specs.Metadata.{Config}
use Rattle.tpf_server.proofs.AskedLaws.{beyond_answer, none_answer}
use Rattle.tpf_server.proofs.asked.asked_beyond.Goals as goal

pub returns-then-are_given-clause-answer : goal.returns-then-are_given-clause-answer
returns-then-are_given-clause-answer c =
    let size : 1 ≤ c.args.server.now.config.page_size = omega (arith, c.page_size-size.ensures.valid.low, ap (λ (x : Config). x.page_size) c.config.ensures) in
    let few : length (triples_in c.args.server.now.table) < 2 ^ 64 = omega (arith, c.len-triples.ensures.len, ap (λ (t : Stored). length (triples_in t)) c.table.ensures) in
    beyond_answer c.args.server.now c.args.found.now c.in_ok-slots.slots c.requires.0 c.in_ok-slots.ensures (sym c.are_given.ensures ∙ c.if-are_given.true) c.requires.1.0 size few c.requires.1.1

pub returns-else-are_given-clause-answer : goal.returns-else-are_given-clause-answer
returns-else-are_given-clause-answer c = none_answer c.args.server.now c.args.found.now c.in_ok-slots.slots c.in_ok-slots.ensures (sym c.are_given.ensures ∙ c.if-are_given.false)
