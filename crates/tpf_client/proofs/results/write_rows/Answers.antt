-- The text begins with what stands in front of the rows.
use Rattle.std.proofs.Common.{◌∙◌, ap}
use Rattle.result_json.specs.Pieces.{Writing}
use Rattle.tpf_client.specs.Told.{told_at}
use Rattle.tpf_base.proofs.SendingLemmas.{allowed_same}
use Rattle.tpf_client.proofs.Told.{first-at}
use Rattle.tpf_client.proofs.Written.{nothing-begun, nothing-shown}
use Rattle.tpf_client.proofs.Sinks.{stays-none, leaves-stays, leaves-ok, leaves-lacking, leaves-as}
use Rattle.tpf_client.proofs.results.write_rows.Goals as goal

pub write_joined-requires-clause-fresh : goal.write_joined-requires-clause-fresh
write_joined-requires-clause-fresh g c = c.new-text.ensures ∙ ap (λ (w : Writing). record { writer = w; count = 0 }) c.in-Ok.ensures

pub returns-in-Err-clause-allowed : goal.returns-in-Err-clause-allowed
returns-in-Err-clause-allowed g c = allowed_same (g.W.Wire.allows c.args.wire.now)

pub returns-in-Err-clause-err : goal.returns-in-Err-clause-err
returns-in-Err-clause-err g c = (nothing-begun (g.W.Wire.allows c.args.wire.now) _ _ c.args.call.query.now c.args.call.starts.now c.args.pages.forms (told_at c.args.call.starts.now c.args.pages.versions.items) c.args.call.options.now.budget c.args.asks.now (g.W.Wire.state c.args.wire.now) _ c.requires.stands.rest.none c.requires.stands.rest.suits, nothing-shown _ _ _ _ _ _ _ _ _ _ _ c.requires.stands.rest.none c.requires.stands.rest.suits _ _)

pub returns-in-Err-clause-sink : goal.returns-in-Err-clause-sink
returns-in-Err-clause-sink g c = leaves-lacking _ _ (stays-none (g.K.Sink.state c.args.out.now))

pub returns-in-Err-write_joined-clause-sink : goal.returns-in-Err-write_joined-clause-sink
returns-in-Err-write_joined-clause-sink g c = leaves-as _ _ c.in-Err-write_joined.fault c.in-Err-write_joined.ensures.sink

pub returns-in-Err-write_joined-clause-err : goal.returns-in-Err-write_joined-clause-err
returns-in-Err-write_joined-clause-err g c = c.in-Err-write_joined.ensures.err

pub returns-clause-ok : goal.returns-clause-ok
returns-clause-ok g c =
    let j = c.in-Ok-write_joined.ensures.ok in
    record {
      events = j.0;
      rows = j.1;
      joins = j.2;
      is_version = c.report_version-version.ensures ∙ ap g.E.Evaluates.reported (first-at c.args.pages.versions.items c.index.result.now c.requires.stands.told c.index.ensures);
      requests = c.started.ensures;
      count = c.count.ensures ∙ j.4;
      text = j.3;
    }

pub returns-clause-sink : goal.returns-clause-sink
returns-clause-sink g c = leaves-ok _ _ _ (leaves-stays _ _ _ c.in-Ok-write_joined.ensures.sink)
