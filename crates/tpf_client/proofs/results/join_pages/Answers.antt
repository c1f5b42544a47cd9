-- An evaluation that begins meets a pool that holds nothing, and the rows that it gives till it is done are the solutions.
use Rattle.std.proofs.Common.{ℕ, List, [], ◌*◌, length, Option, inl, sym, subst}
use Rattle.tpf_client.specs.Told.{told_at}
use Rattle.tpf_client.specs.Sources.{sources_of}
use Rattle.tpf_client.specs.Calls.{Joins, JoinsSome, most_behind}
use Rattle.tpf_client.specs.Turns.{Limits, keeps_both}
use Rattle.tpf_base.proofs.SendingLemmas.{allowed_same}
use Rattle.tpf_client.proofs.Joining.{limits-of, begins-meets, joins-of, some-of}
use Rattle.tpf_client.proofs.Shutting.{on-ok-two, if-err-from}
use Rattle.tpf_client.proofs.Sinks.{stays-none, leaves-lacking}
use Rattle.tpf_client.proofs.Written.{nothing-joined}
use Rattle.tpf_client.proofs.results.join_pages.Goals as goal

pub evaluate-requires-clause-meets : goal.evaluate-requires-clause-meets
evaluate-requires-clause-meets g c =
    let limits : Limits = limits-of c.args.call.starts.now c.args.call.query.now (c.args.call.options.now.window * length c.args.pages.forms) in
    (limits, begins-meets limits (keeps_both g.E.Evaluates.keeps_to g.E.Evaluates.keeps_small limits c.in-Ok.evaluation) (g.E.Evaluates.standing c.in-Ok.evaluation) c.args.asks.now (c.in-Ok.ensures.keeps c.args.call.starts.now c.requires.stands.home, c.in-Ok.ensures.small) c.in-Ok.ensures.stands.1 c.requires.stands.rest.none c.requires.stands.rest.no_fault)

pub evaluate-requires-clause-given : goal.evaluate-requires-clause-given
evaluate-requires-clause-given g c = sym c.in-Ok.ensures.stands.0

pub returns-clause-joins : goal.returns-clause-joins
returns-clause-joins g c =
    on-ok-two c.evaluate.result _ _ _ c.evaluate.ensures.done c.evaluate.ensures.went
    (λ done went. (
      went.0,
      went.1,
      subst (λ (l : List (Option ℕ)). Joins (g.W.Wire.allows c.args.wire.now) (most_behind c.args.call.options.now c.args.call.query.now (length c.args.pages.forms)) (sources_of g.E.Evaluates.Source g.E.Evaluates.fits g.E.Evaluates.is_true g.E.Evaluates.rows g.E.Evaluates.plan g.E.Evaluates.reported c.args.call.options.now.block) c.args.call.query.now c.args.call.starts.now c.args.pages.forms (told_at c.args.call.starts.now l) went.0 went.1 c.args.asks.now c.evaluate.new.asks (g.W.Wire.state c.args.wire.now) (g.W.Wire.state c.evaluate.new.wire)) c.as_slice.ensures.value
          (joins-of g.E.Evaluates.suits g.E.Evaluates.account g.E.Evaluates.keeps_to g.E.Evaluates.keeps_small g.E.Evaluates.standing g.E.Evaluates.is_true g.E.Evaluates.fits g.E.Evaluates.rows g.E.Evaluates.plan g.E.Evaluates.reported (g.W.Wire.allows c.args.wire.now) c.args.call.query.now c.args.call.starts.now c.args.pages.forms (told_at c.args.call.starts.now c.as_slice.result.now) c.args.call.options.now.window c.args.call.options.now.block c.in-Ok.evaluation c.args.asks.now c.evaluate.new.asks (g.W.Wire.state c.args.wire.now) (g.W.Wire.state c.evaluate.new.wire)
          c.requires.stands.rest.none c.requires.stands.rest.no_fault (record { keeps = c.in-Ok.ensures.keeps c.args.call.starts.now c.requires.stands.home; small = c.in-Ok.ensures.small; none_out = c.in-Ok.ensures.stands.1; is_suited = c.in-Ok.ensures.suits; owes = c.in-Ok.ensures.owes }) g.met.E.Evaluates.done_owes_nothing g.met.E.Evaluates.done_is_quiet c.evaluate.new.evaluation.state went.0 went.1 done went.2),
      went.3,
    ))

pub returns-clause-some : goal.returns-clause-some
returns-clause-some g c =
    if-err-from c.evaluate.result _ _ c.evaluate.ensures.failed
    (λ fault f. (
      f.0,
      f.1,
      subst (λ (l : List (Option ℕ)). JoinsSome (g.W.Wire.allows c.args.wire.now) (most_behind c.args.call.options.now c.args.call.query.now (length c.args.pages.forms)) (sources_of g.E.Evaluates.Source g.E.Evaluates.fits g.E.Evaluates.is_true g.E.Evaluates.rows g.E.Evaluates.plan g.E.Evaluates.reported c.args.call.options.now.block) c.args.call.query.now c.args.call.starts.now c.args.pages.forms (told_at c.args.call.starts.now l) c.args.call.options.now.budget fault f.0 f.1 c.args.asks.now c.evaluate.new.asks (g.W.Wire.state c.args.wire.now) (g.W.Wire.state c.evaluate.new.wire)) c.as_slice.ensures.value
          (some-of g.E.Evaluates.suits g.E.Evaluates.account g.E.Evaluates.keeps_to g.E.Evaluates.keeps_small g.E.Evaluates.standing g.E.Evaluates.is_true g.E.Evaluates.fits g.E.Evaluates.rows g.E.Evaluates.plan g.E.Evaluates.reported (g.W.Wire.allows c.args.wire.now) c.args.call.query.now c.args.call.starts.now c.args.pages.forms (told_at c.args.call.starts.now c.as_slice.result.now) c.args.call.options.now.window c.args.call.options.now.block c.in-Ok.evaluation c.args.asks.now c.evaluate.new.asks (g.W.Wire.state c.args.wire.now) (g.W.Wire.state c.evaluate.new.wire)
          c.requires.stands.rest.none c.requires.stands.rest.no_fault (record { keeps = c.in-Ok.ensures.keeps c.args.call.starts.now c.requires.stands.home; small = c.in-Ok.ensures.small; none_out = c.in-Ok.ensures.stands.1; is_suited = c.in-Ok.ensures.suits; owes = c.in-Ok.ensures.owes }) c.args.call.options.now.budget fault f.0 f.1 f.2),
      f.3,
      f.4,
    ))

pub returns-in-Err-clause-some : goal.returns-in-Err-clause-some
returns-in-Err-clause-some g c = (
  [],
  [],
  nothing-joined (g.W.Wire.allows c.args.wire.now) _ _ c.args.call.query.now c.args.call.starts.now c.args.pages.forms (told_at c.args.call.starts.now c.args.pages.versions.items) c.args.call.options.now.budget c.args.asks.now (g.W.Wire.state c.args.wire.now) c.requires.stands.rest.none c.requires.stands.rest.suits,
  g.met.T.TakesRows.front_all [] _ _ _ _ (g.met.T.TakesRows.takes_none c.args.rows.now c.args.behind.now),
  inl tt,
)

pub returns-in-Err-clause-allowed : goal.returns-in-Err-clause-allowed
returns-in-Err-clause-allowed g c = allowed_same (g.W.Wire.allows c.args.wire.now)

pub returns-in-Err-clause-sink : goal.returns-in-Err-clause-sink
returns-in-Err-clause-sink g c = leaves-lacking _ _ (stays-none (g.T.TakesRows.sink c.args.behind.now))
