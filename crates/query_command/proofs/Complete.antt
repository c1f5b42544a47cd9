-- Where none of the causes is there, a command succeeds, or memory is wanting.
use Rattle.std.proofs.Common.{ℕ, ◌≡◌, ◌≤◌, ◌<◌, ◌^◌, List, length, Option, None, Result, Ok, Err, IfOk, IfErr, codes, refl, sym, subst}
use Rattle.std.specs.List.{AllByRecursion}
use Rattle.tpf_base.specs.Addresses.{Address, address_text}
use Rattle.tpf_base.specs.Links.{WireState}
use Rattle.tpf_base.specs.Outside.{ShelfState}
use Rattle.tpf_base.specs.Wrote.{SinkState}
use Rattle.template_fill.specs.declared.limits.TheConstants.{LONGEST_START}
use Rattle.template_fill.specs.Metadata.{Config}
use Rattle.template_fill.specs.Answered.{AnsweredGivePages}
use Rattle.bgp_core.specs.Queries.{IsValidPattern, QueryData}
use Rattle.request_plan.specs.Blocks.{IsBlockSize}
use Rattle.plan_laws.specs.Fitting.{PlansAreRead, StartsAreRead}
use Rattle.tpf_client.specs.declared.options.Options.{Options}
use Rattle.tpf_client.specs.declared.fault.ClientFault.{ClientFault}
use Rattle.tpf_client.specs.declared.fault.ClientFault.TheVariants as clients
use Rattle.tpf_client.specs.Offers.{Publisher}
use Rattle.data_files.proofs.Outcomes.{one_query}
use Rattle.query_command.specs.Limits.{QueriesAreAskable}
use Rattle.tpf_base.specs.Causes.{Rose}
use Rattle.rdf_terms.specs.declared.term.Triple.{Triple}
use Rattle.loop_wire.specs.Looped.{Looped}
use Rattle.fragment_server.specs.declared.server.FragmentServer.{FragmentServer}
use Rattle.tpf_client.specs.declared.options.Report.{Report}
use Rattle.data_files.specs.declared.fault.DataFault.{DataFault}
use Rattle.data_files.specs.declared.fault.DataFault.TheVariants as data_faults
use Rattle.data_files.specs.declared.fault.QueryFileFault.{QueryFileFault}
use Rattle.data_files.specs.declared.fault.QueryFileFault.TheVariants as query_faults
use Rattle.data_files.specs.declared.query.Grammar.TheVariants as grammars
use Rattle.data_files.specs.Data.{Files, served}
use Rattle.data_files.specs.Queries.{reads}
use Rattle.data_files.specs.Kept.{ReadsNamed}
use Rattle.data_files.specs.Causes.{Gives, GivesQuery, DataDecides, QueryDecides}
use Rattle.answer_faults.specs.declared.fault.AnswerFault.{AnswerFault}
use Rattle.answer_faults.specs.declared.fault.AnswerFault.TheVariants as faults
use Rattle.answer_faults.specs.declared.fault.Counts.{Counts}
use Rattle.query_command.specs.Blocks.{grammar_of}
use Rattle.query_command.specs.Files.{FailsByFile, ReadsLocally, KeepsOutput}
use Rattle.query_command.specs.Answers.{Answers, GivesAnswer, AskCause, AnswersSome, FitsOver, OfQuery, IsWanting, IsClientWanting, SucceedsOver, AsksServer}
use Rattle.query_command.specs.Generated.{usual_options, usual_config, GeneratedAnswers, GeneratedCause}
use Rattle.query_command.specs.Loops.{LocalView, LocalAnswers, LocalCause, GivesData, local_config}
use Rattle.query_command.specs.Plans.{plan_of, offer_of, SendsInside, RequestsInside, MayFail, RepliesGenerated, EndsCounted, SendsLocally, RequestsLocally, RepliesLocally, EndsByPlan, SucceedsByPlan, OfGenerated, PlanIsWithin, EndsFile, EndsGenerated, HonestFile, HonestGenerated}
use Rattle.query_command.specs.Commands.{AsksFile, AsksGenerated}
use Rattle.query_command.proofs.Reading.{same_query, gives_answer, gives_data, gives_query_of}
use Rattle.query_command.proofs.Counting.{gives_counts}
use Rattle.query_command.proofs.Fitting.{plan_fits}
use Rattle.query_command.proofs.Planned.{is_memory}

-- data that are served have no fault
pub data_memory : (triples : List Triple) (fault : DataFault) → Gives (served triples) (Err fault) → fault ≡ data_faults.OutOfMemory
data_memory triples data_faults.TooLong h = absurd cc
data_memory triples (data_faults.Bad line why) h = absurd cc
data_memory triples (data_faults.GenidClash label) h = absurd cc
data_memory triples data_faults.TooMany h = absurd cc
data_memory triples data_faults.File h = absurd h
data_memory triples data_faults.OutOfMemory h = refl

-- nor has a query that is read
query_memory : (q : QueryData) (fault : QueryFileFault) → GivesQuery (reads q) (Err fault) → fault ≡ query_faults.OutOfMemory
query_memory q (query_faults.Bad at why) h = absurd cc
query_memory q query_faults.File h = absurd h
query_memory q query_faults.OutOfMemory h = refl

module _ (shelf shelf' : ShelfState) (view : LocalView) (inside : Option (Looped FragmentServer)) (out out' : SinkState) where
  pub local_complete : (result : Result Report AnswerFault) → IfErr result (LocalCause shelf shelf' view inside out out')
      → DataDecides shelf shelf' view.name view.choice (codes "localhost") (λ outcome. GivesData outcome result) → QueryDecides (grammar_of view.options) shelf shelf' view.query (λ outcome. GivesAnswer outcome result)
      → EndsByPlan shelf.told view result → ¬ (Rose shelf.faults shelf'.faults) → ¬ (Rose out.faults out'.faults) → SucceedsByPlan shelf.told view result
  local_complete (Ok report) cause data_exact query_exact ends quiet fine = λ small files is triples q serves holds within. tt
  local_complete (Err (faults.Data fault)) cause data_exact query_exact ends quiet fine = λ small files is triples q serves holds within. data_memory triples fault (data_exact quiet files is (served triples) serves)
  local_complete (Err (faults.Query fault)) cause data_exact query_exact ends quiet fine = λ small files is triples q serves holds within. query_memory q fault (query_exact quiet files is (reads q) holds)
  local_complete (Err (faults.Client fault)) cause data_exact query_exact ends quiet fine = λ small files is triples q serves holds within.
      is_memory view.fail_every view.options triples (local_config view.options view.page_size) (offer_of view.options triples (local_config view.options view.page_size) q) (λ address server e. e) (plan_of view.options triples (local_config view.options view.page_size) q) fault within (λ e. fine (cause.1.loops.says.writes.sink e)) (ends small files is triples q serves holds)

module _ (shelf shelf' : ShelfState) (persons : ℕ) (name : List ℕ) (inside : Option (Looped FragmentServer)) where
  pub generated_complete : (result : Result Counts AnswerFault) → IfErr result (GeneratedCause shelf shelf' persons name inside)
      → QueryDecides grammars.Groups shelf shelf' name (λ outcome. GivesAnswer outcome result)
      → OfGenerated shelf.told persons name (λ triples q. EndsCounted usual_options triples usual_config q result)
      → ¬ (Rose shelf.faults shelf'.faults) → OfGenerated shelf.told persons name (λ triples q. PlanIsWithin 0 usual_options triples usual_config q → IfErr result IsWanting)
  generated_complete (Ok counts) cause exact ends quiet = λ files is triples q serves holds within. tt
  generated_complete (Err (faults.Data fault)) cause exact ends quiet = λ files is triples q serves holds within. cause.0
  generated_complete (Err (faults.Query fault)) cause exact ends quiet = λ files is triples q serves holds within. query_memory q fault (exact quiet files is (reads q) holds)
  generated_complete (Err (faults.Client fault)) cause exact ends quiet = λ files is triples q serves holds within.
      is_memory 0 usual_options triples usual_config (offer_of usual_options triples usual_config q) (λ address server e. e) (plan_of usual_options triples usual_config q) fault within cause.0 (ends files is triples q serves holds)

-- ---- over a wire to a server elsewhere

module _ (told : Option Files) (name : List ℕ) (allows : List ℕ → ℕ → List ℕ → List ℕ → Type 0) (start : Address) (options : Options) (old new : WireState) (out out' : ℕ) (taken taken' : Option (List ℕ)) where
  -- a call that failed over a wire, and the valid patterns of its query
  pub asked_complete : PlansAreRead → StartsAreRead → AnsweredGivePages → QueriesAreAskable → IsBlockSize options.block → (fault : ClientFault) → (a : AnswersSome told name allows start options fault old new out out' taken taken') → AllByRecursion IsValidPattern a.q.patterns
      → length (address_text start) ≤ LONGEST_START → ¬ (Rose out out') → OfQuery told name (λ q. (p : Publisher) (version : ℕ) → FitsOver allows q start options p version old new → fault ≡ clients.OutOfMemory)
  asked_complete plans starts gives askable sized fault a valid short fine = λ files is q holds p version fits.
      let same : q ≡ a.q = same_query q a.q (one_query grammars.Patterns files name (reads q) (reads a.q) holds (a.is_read.tells files is)) in
      let own : FitsOver allows a.q start options p version old new = subst (λ (x : QueryData). FitsOver allows x start options p version old new) same fits in
      a.writes.still p version own.answers own.tells own.lively own.rise own.rises
      (plan_fits plans starts gives allows a.q start options p version old new sized (askable files name a.q (a.is_read.tells files is) valid) short own) fine

module _ (shelf shelf' : ShelfState) (name : List ℕ) (allows : List ℕ → ℕ → List ℕ → List ℕ → Type 0) (start : Address) (options : Options) (wire wire' : WireState) (out out' : SinkState) where
  query_complete : (result : Result Report AnswerFault) → IfErr result (AskCause shelf shelf' name allows start options wire wire' out out') → QueryDecides (grammar_of options) shelf shelf' name (λ outcome. GivesAnswer outcome result)
      → (length (address_text start) ≤ LONGEST_START → ¬ (Rose out.faults out'.faults) → OfQuery shelf.told name (λ q. (p : Publisher) (version : ℕ) → FitsOver allows q start options p version wire wire' → IfErr result IsClientWanting))
      → SucceedsOver shelf shelf' name allows start options wire wire' out out' result
  query_complete (Ok report) cause exact asked short quiet fine = λ files is q holds p version fits. tt
  query_complete (Err (faults.Data fault)) cause exact asked short quiet fine = λ files is q holds p version fits. absurd cause
  query_complete (Err (faults.Query fault)) cause exact asked short quiet fine = λ files is q holds p version fits. query_memory q fault (exact quiet files is (reads q) holds)
  query_complete (Err (faults.Client fault)) cause exact asked short quiet fine = λ files is q holds p version fits. asked short fine files is q holds p version fits

  -- the answer or its cause, and that the call over the wire succeeds where nothing stands in the way, say the rest
  pub asks_server : (result : Result Report AnswerFault) → IfOk result (λ report. Answers shelf.told name allows start options report wire wire' out.taken out'.taken)
      → IfErr result (AskCause shelf shelf' name allows start options wire wire' out out')
      → (length (address_text start) ≤ LONGEST_START → ¬ (Rose out.faults out'.faults) → OfQuery shelf.told name (λ q. (p : Publisher) (version : ℕ) → FitsOver allows q start options p version wire wire' → IfErr result IsClientWanting))
      → ReadsNamed name shelf shelf' (FailsByFile result) → KeepsOutput out out' result → AsksServer shelf shelf' allows wire wire' out out' name start options result
  asks_server result ok err asked named output =
      let exact = gives_answer shelf shelf' name allows start options wire wire' out out' result ok err in
      record { answers = ok; cause = err; exact = exact; complete = query_complete result err exact asked; reads = named; output = output }

  -- the client gave up: its cause says that it would not have, where nothing stands in the way
  pub asks_failed : PlansAreRead → StartsAreRead → AnsweredGivePages → QueriesAreAskable → IsBlockSize options.block → (fault : ClientFault)
      → (a : AnswersSome shelf.told name allows start options fault wire wire' out.faults out'.faults out.taken out'.taken) → AllByRecursion IsValidPattern a.q.patterns
      → ReadsNamed name shelf shelf' (FailsByFile {A = Report} (Err (faults.Client fault))) → KeepsOutput out out' (Err (faults.Client fault))
      → AsksServer shelf shelf' allows wire wire' out out' name start options (Err (faults.Client fault))
  asks_failed plans starts gives askable sized fault a valid named output =
      asks_server (Err (faults.Client fault)) tt a
      (asked_complete shelf.told name allows start options wire wire' out.faults out'.faults out.taken out'.taken plans starts gives askable sized fault a valid)
      named output

-- ---- in the same process

module _ (shelf shelf' : ShelfState) (out out' : SinkState) (inside : Option (Looped FragmentServer)) (view : LocalView) where
  pub asks_file : (result : Result Report AnswerFault) → IfOk result (λ report. LocalAnswers shelf.told view inside report out out') → IfErr result (LocalCause shelf shelf' view inside out out')
      → SendsLocally shelf.told view inside → RequestsLocally shelf.told view inside → RepliesLocally shelf.told view inside result → EndsByPlan shelf.told view result
      → (view.options.budget < 2 ^ 63 → EndsFile shelf.told view inside result) → HonestFile shelf.told view inside result
      → ReadsLocally view.name view.query shelf shelf' result → KeepsOutput out out' result → AsksFile shelf shelf' out out' inside view result
  asks_file result ok err sent requested replied ends planned honest named output =
      let data_exact = gives_data shelf shelf' view inside out out' result ok err in
      let query_exact = gives_query_of shelf shelf' view inside out out' result ok err in
      record {
        answers = ok;
        cause = err;
        data_exact = data_exact;
        query_exact = query_exact;
        sent = sent;
        requested = requested;
        replied = replied;
        ends = ends;
        planned = planned;
        honest = honest;
        complete = local_complete shelf shelf' view inside out out' result err data_exact query_exact ends;
        reads = named;
        output = output;
      }

  -- no wire was made: the data or the query are refused
  pub asks_none : (fault : AnswerFault) → inside ≡ None → LocalCause shelf shelf' view inside out out' fault → ((triples : List Triple) (config : Config) (q : QueryData) → MayFail view.fail_every view.options triples config q fault)
      → (view.options.budget < 2 ^ 63 → EndsFile shelf.told view inside (Err fault)) → HonestFile shelf.told view inside (Err fault)
      → ReadsLocally view.name view.query shelf shelf' (Err fault) → KeepsOutput out out' (Err fault) → AsksFile shelf shelf' out out' inside view (Err fault)
  asks_none fault none err ends planned honest named output =
      asks_file (Err fault) tt err
      (λ files is triples q serves holds. subst (λ (made : Option (Looped FragmentServer)). SendsInside view.options made triples (local_config view.options view.page_size) q) (sym none) tt)
      (λ files is triples q serves holds. subst (λ (made : Option (Looped FragmentServer)). RequestsInside view.options made triples (local_config view.options view.page_size) q) (sym none) tt)
      tt (λ small files is triples q serves holds. ends triples (local_config view.options view.page_size) q) planned honest named output

module _ (shelf shelf' : ShelfState) (persons : ℕ) (name : List ℕ) (inside : Option (Looped FragmentServer)) where
  pub asks_generated : (result : Result Counts AnswerFault) → IfOk result (GeneratedAnswers shelf.told persons name inside) → IfErr result (GeneratedCause shelf shelf' persons name inside)
      → OfGenerated shelf.told persons name (λ triples q. SendsInside usual_options inside triples usual_config q) → OfGenerated shelf.told persons name (λ triples q. RequestsInside usual_options inside triples usual_config q)
      → RepliesGenerated shelf.told persons name inside result → OfGenerated shelf.told persons name (λ triples q. EndsCounted usual_options triples usual_config q result)
      → EndsGenerated shelf.told persons name inside result → HonestGenerated persons inside result
      → ReadsNamed name shelf shelf' (FailsByFile result) → AsksGenerated shelf shelf' inside persons name result
  asks_generated result ok err sent requested replied ends planned honest named =
      let exact = gives_counts shelf shelf' persons name inside result ok err in
      record {
        answers = ok;
        cause = err;
        exact = exact;
        sent = sent;
        requested = requested;
        replied = replied;
        ends = ends;
        planned = planned;
        honest = honest;
        complete = generated_complete shelf shelf' persons name inside result err exact ends;
        reads = named;
      }

  pub counts_none : (fault : AnswerFault) → inside ≡ None → GeneratedCause shelf shelf' persons name inside fault → ((triples : List Triple) (config : Config) (q : QueryData) → MayFail 0 usual_options triples config q fault)
      → EndsGenerated shelf.told persons name inside (Err fault) → HonestGenerated persons inside (Err fault)
      → ReadsNamed name shelf shelf' (FailsByFile {A = Counts} (Err fault)) → AsksGenerated shelf shelf' inside persons name (Err fault)
  counts_none fault none err ends planned honest named =
      asks_generated (Err fault) tt err
      (λ files is triples q serves holds. subst (λ (made : Option (Looped FragmentServer)). SendsInside usual_options made triples usual_config q) (sym none) tt)
      (λ files is triples q serves holds. subst (λ (made : Option (Looped FragmentServer)). RequestsInside usual_options made triples usual_config q) (sym none) tt)
      tt (λ files is triples q serves holds. ends triples usual_config q) planned honest named
