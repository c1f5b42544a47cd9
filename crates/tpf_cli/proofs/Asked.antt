-- What a query of generated data came to is what its command did.
use Rattle.std.proofs.Common.{ℕ, ◌≡◌, List, Option, None, Result, Ok, Err, OnOk, OnErr, IsErrOf, refl, sym, subst}
use Rattle.std.specs.Io.KnownBytes.{Appends}
use Rattle.std.specs.Option.{option_map}
use Rattle.rdf_terms.specs.Canon.{canon}
use Rattle.generated_data.specs.Generated.{generated}
use Rattle.tpf_base.specs.Causes.{Rose}
use Rattle.tpf_base.specs.Outside.{ShelfState}
use Rattle.tpf_base.specs.Wrote.{SinkState, AppendsPrefix}
use Rattle.tpf_base.specs.declared.fault.Fault.{Fault}
use Rattle.tpf_base.specs.declared.fault.Fault.TheVariants as sinks
use Rattle.loop_wire.specs.Looped.{Looped}
use Rattle.fragment_server.specs.declared.server.FragmentServer.{FragmentServer}
use Rattle.tpf_client.specs.declared.options.Options.{Options}
use Rattle.tpf_client.specs.Bounds.{SuitsCalls}
use Rattle.data_files.specs.declared.query.Grammar.TheVariants as grammars
use Rattle.data_files.specs.Causes.{QueryDecides}
use Rattle.data_files.specs.Kept.{KeepsSink}
use Rattle.answer_faults.specs.declared.fault.AnswerFault.{AnswerFault}
use Rattle.answer_faults.specs.declared.fault.AnswerFault.TheVariants as faults
use Rattle.answer_faults.specs.declared.fault.Counts.{Counts}
use Rattle.query_command.specs.Groups.{GeneratedAsked}
use Rattle.command_words.specs.declared.command.ClientWords.{ClientWords}
use Rattle.tpf_cli.specs.Ranges.{IsClient}
use Rattle.tpf_cli.specs.declared.top.Inside.{Inside}
use Rattle.command_endings.specs.Endings.{EndOfRun}
use Rattle.tpf_cli.proofs.Grouped.{generated_gives}
use Rattle.tpf_cli.specs.Runs.{Makes, Writes, WritesNumbers, CountsFile, IsRead, GivesEnd, options_of, unwritten}

-- the bounds of a client are those of its words
pub options_in : (client : ClientWords) (options : Options) → options ≡ options_of client → IsClient client → SuitsCalls options
options_in client options is h = subst SuitsCalls (sym is) (h.window, h.some, h.few)

-- a line that was not written is no fault of the query
module _ (shelf shelf' : ShelfState) (name : List ℕ) where
  unwritten_gives : (cause : Fault) → QueryDecides grammars.Groups shelf shelf' name IsRead → QueryDecides grammars.Groups shelf shelf' name (λ outcome. GivesEnd {X = Unit {0}} outcome (Err (unwritten cause)))
  unwritten_gives sinks.Failed h = h
  unwritten_gives sinks.OutOfMemory h = h

  fault_gives : (cause : AnswerFault) → QueryDecides grammars.Groups shelf shelf' name (λ outcome. GivesEnd {X = Counts} outcome (Err cause)) → QueryDecides grammars.Groups shelf shelf' name (λ outcome. GivesEnd {X = Unit {0}} outcome (Err cause))
  fault_gives (faults.Data fault) h = h
  fault_gives (faults.Query fault) h = h
  fault_gives (faults.Client fault) h = h

  line_gives : (out out' : SinkState) (came : Result Counts AnswerFault) (result : Result (Unit {0}) AnswerFault) → WritesNumbers out out' came result
      → QueryDecides grammars.Groups shelf shelf' name (λ outcome. GivesEnd outcome came) → QueryDecides grammars.Groups shelf shelf' name (λ outcome. GivesEnd outcome result)
  line_gives out out' (Ok counts) (Ok nothing) line h = h
  line_gives out out' (Ok counts) (Err fault) line h = subst (λ (f : AnswerFault). QueryDecides grammars.Groups shelf shelf' name (λ outcome. GivesEnd {X = Unit {0}} outcome (Err f))) (sym line.is) (unwritten_gives line.cause h)
  line_gives out out' (Err cause) (Ok nothing) line h = absurd line
  line_gives out out' (Err cause) (Err fault) line h = subst (λ (f : AnswerFault). QueryDecides grammars.Groups shelf shelf' name (λ outcome. GivesEnd {X = Unit {0}} outcome (Err f))) line.0 (fault_gives cause h)

  pub counts_file : (out out' : SinkState) (inside made : Option (Looped FragmentServer)) → inside ≡ made → (persons : ℕ) (came : Result Counts AnswerFault) (result : Result (Unit {0}) AnswerFault)
      → GeneratedAsked shelf shelf' made persons name came → WritesNumbers out out' came result → KeepsSink out out' → CountsFile shelf shelf' out out' inside persons name result
  counts_file out out' inside made same persons came result asks line output = record {
    came = came;
    asks = subst (λ (i : Option (Looped FragmentServer)). GeneratedAsked shelf shelf' i persons name came) (sym same) asks;
    line = line;
    exact = line_gives out out' came result line (generated_gives shelf shelf' name made persons came asks);
    output = output;
  }

-- the numbers of a query that failed are not written
pub no_numbers : (out : SinkState) (came : Result Counts AnswerFault) (fault : AnswerFault) → came ≡ Err fault → WritesNumbers out out came (Err fault)
no_numbers out came fault is = subst (λ (r : Result Counts AnswerFault). WritesNumbers out out r (Err fault)) (sym is) (refl, refl)

-- the data of so many persons were written, or a front of them
pub writes_data : (out out' : SinkState) (count : ℕ) (result : Result (Unit {0}) Fault) → OnOk result (Appends out.taken out'.taken (canon (generated count))) → OnErr result (AppendsPrefix out.taken out'.taken (canon (generated count)))
    → (IsErrOf result sinks.Failed → Rose out.faults out'.faults) → Writes out out' count result
writes_data out out' count (Ok nothing) ok err failed = ok
writes_data out out' count (Err sinks.Failed) ok err failed = (err, failed refl)
writes_data out out' count (Err sinks.OutOfMemory) ok err failed = err

-- `make` without a query did this, where no name of one was given
pub makes_none : {A : Type 0} (shelf shelf' : ShelfState) (out out' : SinkState) (inside' : Inside) (count : ℕ) (name : Option A) (bytes : A → List ℕ) (end : EndOfRun) → name ≡ None
    → Makes shelf shelf' out out' inside' count None end → Makes shelf shelf' out out' inside' count (option_map bytes name) end
makes_none {A} shelf shelf' out out' inside' count name bytes end none makes =
    subst (λ (given : Option A). Makes shelf shelf' out out' inside' count (option_map bytes given) end) (sym none) makes
