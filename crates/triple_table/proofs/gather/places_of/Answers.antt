use Rattle.triple_table.specs.Ranking.{borrowed_terms}
use Rattle.triple_table.proofs.Gathered.{gathers_three}
use Rattle.triple_table.proofs.gather.places_of.Goals as goal

pub returns : goal.returns
returns c = gathers_three (borrowed_terms c.args.terms.now.items) (borrowed_terms c.place_of.new.terms.items) (borrowed_terms c.place_of-2.new.terms.items) (borrowed_terms c.place_of-3.new.terms.items)
    c.args.triple.now _ c.in_ok-subject.ensures c.in_ok-predicate.ensures c.in_ok-object.ensures
