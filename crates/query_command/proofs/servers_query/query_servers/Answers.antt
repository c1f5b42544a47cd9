-- What the call over the servers promised is what the command came to.
use Rattle.std.proofs.Common.{Err, refl, ap}
use Rattle.list_laws.proofs.Results.{ok_not_err, err_same}
use Rattle.data_files.specs.KeptLaws.{reads_as, sink_none}
use Rattle.query_command.proofs.Locals.{valid_read}
use Rattle.query_command.proofs.Asking.{none_asked, servers_asked, servers_failed}
use Rattle.query_command.proofs.servers_query.query_servers.Goals as goal

pub returns-in-Err-clause-asks : goal.returns-in-Err-clause-asks
returns-in-Err-clause-asks g c =
    none_asked _ _ c.args.name.now _ c.args.starts.now c.args.options.now _ _ _ _ c.in-Err.fault (c.in-Err.ensures.err, refl, refl)
    (reads_as _ _ _ _ _ err_same (ap Err) c.in-Err.ensures.reads)
    (record { keeps = sink_none _; spared = λ fine. tt })

pub returns-in-Ok-federate-clause-asks : goal.returns-in-Ok-federate-clause-asks
returns-in-Ok-federate-clause-asks g c =
    let e = c.in-Ok-federate.ensures in
    servers_asked _ _ c.args.name.now _ c.args.starts.now c.args.options.now _ _ _ _ c.in-Ok-federate.report
    (record {
      q = c.in-Ok.query;
      is_read = c.in-Ok.ensures.ok;
      call = record { whole = e.whole; front = e.front; ended = e.ended; headline = e.headline; prefix = e.prefix; complete = e.complete; limits = e.limits; still = e.still; still_limits = e.still_limits; version = e.version; sink = e.sink };
    })
    (reads_as _ _ _ _ _ ok_not_err (λ e. absurd e) c.in-Ok.ensures.reads)
    (record { keeps = record { later = e.sink.later; faultless = e.sink.faultless; spared = λ fine. (e.sink.spared fine).0 }; spared = λ fine. tt })

pub returns-clause-asks : goal.returns-clause-asks
returns-clause-asks g c =
    let e = c.in-Err-federate.ensures in
    servers_failed _ _ c.args.name.now _ c.args.starts.now c.args.options.now _ _ _ _ c.commands_keep_limits.ensures.queries c.in-Err-federate.fault
    (record {
      q = c.in-Ok.query;
      is_read = c.in-Ok.ensures.ok;
      call = record { whole = e.whole; front = e.front; ended = e.ended; headline = e.headline; prefix = e.prefix; complete = e.complete; limits = e.limits; still = e.still; still_limits = e.still_limits; version = e.version; sink = e.sink };
    })
    (valid_read c.in-Ok.query _ c.patterns-patterns.ensures.value c.patterns-patterns.ensures.valid)
    (reads_as _ _ _ _ _ ok_not_err (λ e. absurd e) c.in-Ok.ensures.reads)
    (record { keeps = record { later = e.sink.later; faultless = e.sink.faultless; spared = λ fine. (e.sink.spared fine).0 }; spared = λ fine is. (e.sink.spared fine).1 (ap Err is) })
