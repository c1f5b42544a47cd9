use Rattle.std.proofs.Common.{◌≡◌, ◌≤◌, true}
use Rattle.rdf_terms.specs.Canon.{canon}
use Rattle.generated_data.specs.Generated.{generated}
use Rattle.generated_data.proofs.Pieces.{IsWriting, left}
use Rattle.generated_data.proofs.write.write_generated.Given as goal

abbrev pub invariant-loop-person : goal.invariant-loop-person
invariant-loop-person g l = record {
  written : IsWriting (canon (generated l.persons)) (g.K.Sink.state l.initial.out).taken (g.K.Sink.state l.out).taken l.piece.items (left l.persons l.person);
  later : (g.K.Sink.state l.initial.out).faults ≤ (g.K.Sink.state l.out).faults;
  faultless : (g.K.Sink.state l.out).faultless ≡ (g.K.Sink.state l.initial.out).faultless;
  spared : (g.K.Sink.state l.initial.out).faultless ≡ true → (g.K.Sink.state l.out).faults ≡ (g.K.Sink.state l.initial.out).faults;
}
