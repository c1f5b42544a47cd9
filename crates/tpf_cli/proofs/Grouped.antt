-- Queries with groups and without: what both give, and that a file holds one of them.
use Rattle.std.proofs.Common.{ℕ, ◌≡◌, inl, inr, List, Option, Some, Result, Ok, Err, IfErr, refl, subst}
use Rattle.tpf_base.specs.Addresses.{Address}
use Rattle.tpf_base.specs.Links.{WireState}
use Rattle.tpf_base.specs.Outside.{ShelfState}
use Rattle.tpf_base.specs.Wrote.{SinkState}
use Rattle.loop_wire.specs.Looped.{Looped}
use Rattle.fragment_server.specs.declared.server.FragmentServer.{FragmentServer}
use Rattle.bgp_core.specs.Queries.{QueryData}
use Rattle.group_query.specs.Trees.{GroupData}
use Rattle.tpf_client.specs.declared.options.Options.{Options}
use Rattle.tpf_client.specs.declared.options.Report.{Report}
use Rattle.data_files.specs.declared.query.Grammar.{Grammar}
use Rattle.data_files.specs.declared.query.Grammar.TheVariants as grammars
use Rattle.data_files.specs.Data.{Files}
use Rattle.data_files.specs.Queries.{HoldsQuery, HoldsGroup, IsOfQueryFile, IsOfGroupFile, reads, reads_groups}
use Rattle.data_files.specs.Causes.{QueryDecides}
use Rattle.data_files.specs.Kept.{ReadsNamed}
use Rattle.data_files.proofs.Outcomes.{one_query}
use Rattle.data_files.specs.declared.fault.QueryFileFault.{QueryFileFault}
use Rattle.query_command.specs.Blocks.{grammar_of}
use Rattle.answer_faults.specs.declared.fault.AnswerFault.{AnswerFault}
use Rattle.answer_faults.specs.declared.fault.AnswerFault.TheVariants as answers
use Rattle.answer_faults.specs.declared.fault.Counts.{Counts}
use Rattle.query_command.specs.Files.{FailsByFile, ReadsLocally, KeepsOutput}
use Rattle.query_command.specs.Answers.{GivesAnswer}
use Rattle.query_command.specs.Loops.{LocalView}
use Rattle.query_command.specs.Groups.{FileAsked, ServerAsked, GeneratedAsked, Plain, Groups, LocalGroupCause, GroupCause, GeneratedGroupCause}
use Rattle.tpf_cli.specs.Runs.{GivesEnd}

-- ---- one of them

-- of a told file of a query with groups no query without is read
pub no_plain : (grammar : Grammar) (told : Option Files) (name : List ℕ) (g : GroupData) → IsOfGroupFile grammar told name g → (files : Files) → told ≡ Some files → (q : QueryData) → HoldsQuery files name q → ⊥
no_plain grammar told name g h files is q holds = let same : reads q ≡ reads_groups g = one_query grammar files name (reads q) (reads_groups g) holds (h.tells files is) in cc

-- and of one of a query without groups none with
pub no_groups : (grammar : Grammar) (told : Option Files) (name : List ℕ) (q : QueryData) → IsOfQueryFile told name q → (files : Files) → told ≡ Some files → (g : GroupData) → HoldsGroup grammar files name g → ⊥
no_groups grammar told name q h files is g holds = let same : reads q ≡ reads_groups g = one_query grammar files name (reads q) (reads_groups g) (h.tells files is) holds in cc

-- ---- the outcome of the query's file

module _ (grammar : Grammar) (shelf shelf' : ShelfState) (name : List ℕ) where
  plain_gives : {X : Type 0} (result : Result X AnswerFault) → QueryDecides grammar shelf shelf' name (λ outcome. GivesAnswer outcome result) → QueryDecides grammar shelf shelf' name (λ outcome. GivesEnd outcome result)
  plain_gives (Ok answer) h = λ quiet files is outcome o. inl (h quiet files is outcome o)
  plain_gives (Err (answers.Data fault)) h = λ quiet files is outcome o. tt
  plain_gives (Err (answers.Query fault)) h = λ quiet files is outcome o. h quiet files is outcome o
  plain_gives (Err (answers.Client fault)) h = λ quiet files is outcome o. inl (h quiet files is outcome o)

  -- the query was read, so it is not its file that ended the call
  groups_give : {X : Type 0} (g : GroupData) (result : Result X AnswerFault) → ((fault : QueryFileFault) → result ≡ Err (answers.Query fault) → ⊥) → QueryDecides grammar shelf shelf' name (λ outcome. outcome ≡ reads_groups g)
      → QueryDecides grammar shelf shelf' name (λ outcome. GivesEnd outcome result)
  groups_give g (Ok answer) other h = λ quiet files is outcome o. inr (g, h quiet files is outcome o)
  groups_give g (Err (answers.Data fault)) other h = λ quiet files is outcome o. tt
  groups_give g (Err (answers.Query fault)) other h = absurd (other fault refl)
  groups_give g (Err (answers.Client fault)) other h = λ quiet files is outcome o. inr (g, h quiet files is outcome o)

module _ (shelf shelf' : ShelfState) (name : List ℕ) where
  pub generated_gives : (inside : Option (Looped FragmentServer)) (persons : ℕ) (came : Result Counts AnswerFault) → GeneratedAsked shelf shelf' inside persons name came → QueryDecides grammars.Groups shelf shelf' name (λ outcome. GivesEnd outcome came)
  generated_gives inside persons came (Plain h) = plain_gives grammars.Groups shelf shelf' name came h.exact
  generated_gives inside persons came (Groups g h) = groups_give grammars.Groups shelf shelf' name g came (λ fault e. subst (λ (r : Result Counts AnswerFault). IfErr r (GeneratedGroupCause persons inside g)) e h.cause) h.exact

  pub server_gives : (allows : List ℕ → ℕ → List ℕ → List ℕ → Type 0) (wire wire' : WireState) (out out' : SinkState) (start : Address) (options : Options) (result : Result Report AnswerFault)
      → ServerAsked shelf shelf' allows wire wire' out out' name start options result → QueryDecides (grammar_of options) shelf shelf' name (λ outcome. GivesEnd outcome result)
  server_gives allows wire wire' out out' start options result (Plain h) = plain_gives (grammar_of options) shelf shelf' name result h.exact
  server_gives allows wire wire' out out' start options result (Groups g h) = groups_give (grammar_of options) shelf shelf' name g result (λ fault e. subst (λ (r : Result Report AnswerFault). IfErr r (GroupCause allows g start options wire wire' out out')) e h.cause) h.exact

module _ (shelf shelf' : ShelfState) (out out' : SinkState) (inside : Option (Looped FragmentServer)) (view : LocalView) (result : Result Report AnswerFault) where
  pub file_gives : FileAsked shelf shelf' out out' inside view result → QueryDecides (grammar_of view.options) shelf shelf' view.query (λ outcome. GivesEnd outcome result)
  file_gives (Plain h) = plain_gives (grammar_of view.options) shelf shelf' view.query result h.query_exact
  file_gives (Groups g h) = groups_give (grammar_of view.options) shelf shelf' view.query g result (λ fault e. subst (λ (r : Result Report AnswerFault). IfErr r (LocalGroupCause shelf.told view inside g out out')) e h.cause) h.query_exact

  -- ---- what is left

  pub file_reads : FileAsked shelf shelf' out out' inside view result → ReadsLocally view.name view.query shelf shelf' result
  file_reads (Plain h) = h.reads
  file_reads (Groups g h) = h.reads

  pub file_output : FileAsked shelf shelf' out out' inside view result → KeepsOutput out out' result
  file_output (Plain h) = h.output
  file_output (Groups g h) = h.output

pub server_reads : (shelf shelf' : ShelfState) (name : List ℕ) (allows : List ℕ → ℕ → List ℕ → List ℕ → Type 0) (wire wire' : WireState) (out out' : SinkState) (start : Address) (options : Options) (result : Result Report AnswerFault)
    → ServerAsked shelf shelf' allows wire wire' out out' name start options result → ReadsNamed name shelf shelf' (FailsByFile result)
server_reads shelf shelf' name allows wire wire' out out' start options result (Plain h) = h.reads
server_reads shelf shelf' name allows wire wire' out out' start options result (Groups g h) = h.reads

pub server_output : (shelf shelf' : ShelfState) (name : List ℕ) (allows : List ℕ → ℕ → List ℕ → List ℕ → Type 0) (wire wire' : WireState) (out out' : SinkState) (start : Address) (options : Options) (result : Result Report AnswerFault)
    → ServerAsked shelf shelf' allows wire wire' out out' name start options result → KeepsOutput out out' result
server_output shelf shelf' name allows wire wire' out out' start options result (Plain h) = h.output
server_output shelf shelf' name allows wire wire' out out' start options result (Groups g h) = h.output

pub generated_reads : (shelf shelf' : ShelfState) (name : List ℕ) (inside : Option (Looped FragmentServer)) (persons : ℕ) (came : Result Counts AnswerFault) → GeneratedAsked shelf shelf' inside persons name came → ReadsNamed name shelf shelf' (FailsByFile came)
generated_reads shelf shelf' name inside persons came (Plain h) = h.reads
generated_reads shelf shelf' name inside persons came (Groups g h) = h.reads
