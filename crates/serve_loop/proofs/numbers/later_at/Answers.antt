-- The connection of the key, if there is one.
use Rattle.std.proofs.Common.{◌≤◌, ◌<◌, sym, ◌∙◌, subst}
use Rattle.slab.specs.Slab.{get}
use Rattle.serve_loop.specs.declared.live.Live.{Live}
use Rattle.serve_loop.proofs.RelatesLemmas.{none_some}
use Rattle.serve_loop.proofs.SentenceLemmas.{some_same}
use Rattle.serve_loop.proofs.numbers.later_at.Goals as goal

pub returns-in-Some-clause-this : goal.returns-in-Some-clause-this
returns-in-Some-clause-this g c = λ l found. subst (λ (x : Live _). x.link ≤ c.later.result)
    (some_same (get c.args.live.now c.args.key) c.in-Some.connection.now l (sym c.in-Some.ensures) found) c.later.ensures.this

pub returns-in-Some-clause-less : goal.returns-in-Some-clause-less
returns-in-Some-clause-less g c = λ l found. subst (λ (x : Live _). x.link < 18446744073709551615 → x.link < c.later.result)
    (some_same (get c.args.live.now c.args.key) c.in-Some.connection.now l (sym c.in-Some.ensures) found) c.later.ensures.less

pub returns-in-Some-clause-within : goal.returns-in-Some-clause-within
returns-in-Some-clause-within g c = λ n up h. c.later.ensures.within n up (h c.in-Some.connection.now (sym c.in-Some.ensures))

pub returns-in-None-clause-this : goal.returns-in-None-clause-this
returns-in-None-clause-this g c = λ l found. absurd (none_some l (c.in-None.ensures ∙ found))

pub returns-in-None-clause-less : goal.returns-in-None-clause-less
returns-in-None-clause-less g c = λ l found few. absurd (none_some l (c.in-None.ensures ∙ found))
