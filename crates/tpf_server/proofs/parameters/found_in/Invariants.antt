use Rattle.std.proofs.Common.{◌≡◌}
use Rattle.form_urlencoded.specs.Form.{raw_pairs}
use Rattle.form_urlencoded.specs.Parse.{pairs_left}
use Rattle.tpf_server.specs.Parameters.{decoded}
use Rattle.tpf_server.proofs.Gathered.{noted_all, nothing}
use Rattle.tpf_server.proofs.parameters.found_in.Given as goal

abbrev pub invariant-loop-pair : goal.invariant-loop-pair
invariant-loop-pair l = noted_all l.fn.reads_rows l.found (decoded (pairs_left l.pair-iterator)) ≡ noted_all l.fn.reads_rows nothing (decoded (raw_pairs l.fn.query))
