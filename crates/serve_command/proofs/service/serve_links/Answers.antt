-- What the loop says over every history it says over that of version 1.
use Rattle.std.proofs.Common.{refl}
use Rattle.serve_command.proofs.Sentences.{answered_by, answered_at_all_by, caused_by, turns_by, first_history, services, spoken}
use Rattle.serve_command.proofs.service.serve_links.Goals as goal

pub returns-clause-serves : goal.returns-clause-serves
returns-clause-serves g c =
    let is = c.answer_of.ensures in
    let loop = c.serve.ensures in
    record {
      alone = loop.alone;
      prefixes = services _ _ _ refl (loop.prefixes _ (first_history _ c.requires.first));
      whole = answered_by _ _ c.serve.result c.answer_of.result is (λ s zero p. services _ _ _ refl (spoken _ _ _ _ _ _ _ zero (p _ (first_history _ c.requires.first)))) loop.whole;
      ends = record {
        closed = loop.closed;
        older = loop.older;
        stops = answered_by _ _ c.serve.result c.answer_of.result is (λ s zero p. p) loop.stops;
        soon = answered_by _ _ c.serve.result c.answer_of.result is (λ s zero p. p) loop.first;
        never = answered_at_all_by _ c.serve.result c.answer_of.result is loop.never;
        links = answered_by _ _ c.serve.result c.answer_of.result is (λ s zero p. p) loop.links;
        calm = answered_at_all_by _ c.serve.result c.answer_of.result is loop.calm;
      };
      turns = turns_by _ _ _ _ c.serve.result c.answer_of.result is loop.turns loop.fails;
      err = caused_by c.serve.result c.answer_of.result _ _ is loop.wire;
    }
