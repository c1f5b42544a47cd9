use Rattle.tpf_server.proofs.Targets.{IsBefore}
use Rattle.tpf_server.proofs.parameters.path_length.Given as goal

abbrev pub invariant-loop-i : goal.invariant-loop-i
invariant-loop-i l = IsBefore l.target l.i
