use Rattle.std.proofs.Common.{List, ◌+◌, drop, map, ap, ◌∙◌}
use Rattle.std.specs.List.{filter_map}
use Rattle.std.specs.Borrow.{Bor}
use Rattle.std.proofs.lemmas.List.{take_all}
use Rattle.rdf_terms.specs.declared.term.Term.{Term}
use Rattle.triple_table.specs.Genid.{skolem}
use Rattle.triple_table.specs.Ranking.{borrowed_terms, genid_of}
use Rattle.triple_table.proofs.Gathered.{borrowed_rest, served_more}
use Rattle.triple_table.proofs.gather.served_terms.Goals as goal

pub loop-term-preserved : goal.loop-term-preserved
loop-term-preserved c = λ authority same.
    let held = c.loop-term.invariant authority same in
    let next = c.served_term.ensures authority (borrowed_terms (drop (c.loop-term.term-index + 1) c.args.terms.now))
    (held.1 ∙ ap (filter_map (genid_of authority)) (borrowed_rest c.args.terms.now c.loop-term.term-index c.term-item.result c.loop-term-test.true c.term-item.is)) in
    (served_more authority c.args.terms.now c.loop-term.term-index c.term-item.result c.loop-term.served.items c.push.new.self.items c.served_term.result.0 c.loop-term-test.true c.term-item.is c.in_ok-push.ensures.items next.0 held.0, next.1)

pub returns : goal.returns
returns c = λ authority same.
    (c.loop-term.invariant authority same).0 ∙ ap (λ (xs : List (Bor Term)). map (skolem authority) (borrowed_terms xs)) (take_all _ _ c.loop-term-test.false)
