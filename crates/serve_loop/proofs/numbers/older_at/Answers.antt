-- The connection of the key, if there is one.
use Rattle.std.proofs.Common.{◌≤◌, sym, ◌∙◌, subst}
use Rattle.slab.specs.Slab.{get}
use Rattle.serve_loop.specs.declared.live.Live.{Live}
use Rattle.serve_loop.proofs.RelatesLemmas.{none_some}
use Rattle.serve_loop.proofs.SentenceLemmas.{some_same}
use Rattle.serve_loop.proofs.numbers.older_at.Goals as goal

pub returns-in-Some-clause-this : goal.returns-in-Some-clause-this
returns-in-Some-clause-this g c = λ l found. subst (λ (x : Live _). c.args.next ≤ x.link → c.older.result ≤ x.link)
    (some_same (get c.args.live.now c.args.key) c.in-Some.connection.now l (sym c.in-Some.ensures) found) c.older.ensures.this

pub returns-in-None-clause-this : goal.returns-in-None-clause-this
returns-in-None-clause-this g c = λ l found from. absurd (none_some l (c.in-None.ensures ∙ found))
