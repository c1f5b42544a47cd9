-- The list has the rows that the join gave.
use Rattle.std.proofs.Common.{List, length, ◌++◌, ◌≡◌, ◌∙◌, sym, ap, subst, refl, arith}
use Rattle.bgp_core.specs.Solutions.{Places}
use Rattle.tpf_client.specs.Told.{told_at}
use Rattle.tpf_client.specs.Sources.{sources_of}
use Rattle.tpf_client.specs.Calls.{Joins, PartOf, most_behind}
use Rattle.tpf_client.specs.declared.fault.ClientFault.TheVariants as faults
use Rattle.tpf_client.proofs.Told.{first-at}
use Rattle.tpf_client.proofs.Texts.{nothing-written}
use Rattle.tpf_client.proofs.Going.{err-as}
use Rattle.tpf_client.proofs.results.gather_rows.Goals as goal

pub returns-in-Ok-clause-ok : goal.returns-in-Ok-clause-ok
returns-in-Ok-clause-ok g c =
    let j = c.in-Ok.ensures.joins in
    let same : c.into_rows-rows.result.items ≡ j.1 = c.into_rows-rows.ensures ∙ (j.3 ∙ ap (λ (l : List Places). l ++ j.1) c.new-list.ensures) in
    record {
      events = j.0;
      joins = subst (λ (l : List Places). Joins (g.W.Wire.allows c.args.wire.now) (most_behind c.args.call.options.now c.args.call.query.now (length c.args.pages.forms)) (sources_of g.E.Evaluates.Source g.E.Evaluates.fits g.E.Evaluates.is_true g.E.Evaluates.rows g.E.Evaluates.plan g.E.Evaluates.reported c.args.call.options.now.block) c.args.call.query.now c.args.call.starts.now c.args.pages.forms (told_at c.args.call.starts.now c.args.pages.versions.items) j.0 l c.args.asks.now c.join_pages.new.asks (g.W.Wire.state c.args.wire.now) (g.W.Wire.state c.join_pages.new.wire)) (sym same) j.2;
      is_version = c.report_version-version.ensures ∙ ap g.E.Evaluates.reported (first-at c.args.pages.versions.items c.index.result.now c.requires.stands.told c.index.ensures);
      requests = c.started.ensures;
      count = let n = c.len.ensures in omega (arith, n);
    }

pub returns-in-Err-clause-err : goal.returns-in-Err-clause-err
returns-in-Err-clause-err g c =
    let s = c.in-Err.ensures.some in
    PartOf s.0 s.1 s.2 (nothing-written _ _)

pub returns-in-Err-clause-sink : goal.returns-in-Err-clause-sink
returns-in-Err-clause-sink g c = λ e. (c.in-Err.ensures.sink.spared refl).1 (err-as _ (Unit {0}) c.in-Err.fault faults.Sink e)
