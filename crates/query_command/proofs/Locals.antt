-- What is said of the wire to a server is said of the files of a command.
use Rattle.std.proofs.Common.{ℕ, ◌≡◌, ◌<◌, ◌^◌, Bool, List, Option, Result, codes, sym, ap, subst, ◌∙◌, arith}
use Rattle.std.specs.List.{AllByRecursion}
use Rattle.rdf_terms.specs.declared.term.Triple.{Triple}
use Rattle.triple_table.specs.declared.choice.Choice.{Choice}
use Rattle.template_fill.specs.Metadata.{Config}
use Rattle.tpf_base.specs.Outside.{ShelfState}
use Rattle.tpf_base.specs.Wrote.{SinkState}
use Rattle.tpf_base.specs.Rises.{RoseBy-within}
use Rattle.loop_wire.specs.Looped.{Looped}
use Rattle.fragment_server.specs.declared.server.FragmentServer.{FragmentServer}
use Rattle.bgp_core.specs.declared.pattern.Pattern.{Pattern}
use Rattle.bgp_core.specs.Queries.{QueryData, IsValidPattern}
use Rattle.plan_laws.specs.Fitting.{AreServable, IsAskable}
use Rattle.tpf_client.specs.declared.options.Options.{Options}
use Rattle.tpf_client.specs.declared.options.Report.{Report}
use Rattle.tpf_client.specs.declared.fault.ClientFault.{ClientFault}
use Rattle.tpf_client.specs.Bounds.{SuitsCalls}
use Rattle.data_files.specs.declared.fault.QueryFileFault.{QueryFileFault}
use Rattle.data_files.specs.declared.fault.QueryFileFault.TheVariants as query_faults
use Rattle.data_files.specs.declared.query.Grammar.{Grammar}
use Rattle.data_files.specs.Data.{Files, IfTold, served}
use Rattle.data_files.specs.Queries.{IsOfQueryFile, HasQueryFault, reads}
use Rattle.data_files.proofs.Outcomes.{one_outcome, one_query}
use Rattle.data_files.specs.Causes.{QueryCause}
use Rattle.data_servers.specs.Servers.{Starts, serving}
use Rattle.data_files.specs.Kept.{KeepsShelf}
use Rattle.query_command.specs.declared.local_query.OverWire.{OverWire}
use Rattle.query_command.specs.Blocks.{in_blocks, grammar_of}
use Rattle.query_command.specs.Over.{MayAsk}
use Rattle.query_command.specs.Answers.{AnswersSome}
use Rattle.query_command.specs.Limits.{FilesAreServable, QueriesAreAskable}
use Rattle.tpf_client.specs.Requested.{AnswersPlan}
use Rattle.query_command.specs.Plans.{offer_of, SendsPlan, SendsInside, BoundsRequests, RequestsInside, RepliedInside, EndsAsPlanned, EndsOver, OfFiles}
use Rattle.query_command.specs.Loops.{LocalView, LoopsServer, LoopsFile, LeavesHonest, AnswersFilesFront, WritesLooped, FailsLooped, WritesAnswer, WritesAnswerFront, LocalAnswers, allows_of, wire_of, begun, local_base, config_of, local_config}
use Rattle.query_command.proofs.Reading.{same_query}

pub same_data : (one other : List Triple) → served one ≡ served other → one ≡ other
same_data one other e = cc

-- a configuration that reads rows where the client sends them
pub is_config : (page : ℕ) (rows : Bool) (options : Options) (config : Config) → config ≡ config_of page rows → rows ≡ in_blocks options → config ≡ local_config options page
is_config page rows options config is blocks = is ∙ ap (config_of page) blocks

-- the server of a file may be asked from its base
pub may_ask : (over : OverWire) (server : FragmentServer) (told : Option Files) (name : List ℕ) (choice : Choice) (config : Config) (page : ℕ) → over.start.now ≡ local_base → SuitsCalls over.options
    → Starts told name choice config (serving server) → config ≡ local_config over.options page → MayAsk over server
may_ask over server told name choice config page start bounds starts is = record {
  start = start;
  first = starts.version;
  base = ap (λ (c : Config). c.base) (starts.config_is ∙ is);
  bounds = bounds;
}

-- the patterns of a query are valid
pub valid_read : (q : QueryData) (patterns : List Pattern) → patterns ≡ q.patterns → AllByRecursion IsValidPattern patterns → AllByRecursion IsValidPattern q.patterns
valid_read q patterns same h = subst (AllByRecursion IsValidPattern) same h

-- what holds of what was read holds of what the files hold
of_both : (view : LocalView) (own triples : List Triple) (config : Config) (q asked : QueryData) (P : List Triple → Config → QueryData → Type 0) → served own ≡ served triples → config ≡ local_config view.options view.page_size → reads q ≡ reads asked
    → P own config q → P triples (local_config view.options view.page_size) asked
of_both view own triples config q asked P d c r h =
    subst (λ (x : QueryData). P triples (local_config view.options view.page_size) x) (same_query q asked r)
    (subst (λ (s : Config). P triples s q) c (subst (λ (ts : List Triple). P ts config q) (same_data own triples d) h))

-- of the wire that was left, whatever the query is
pub local_honest : (told : Option Files) (view : LocalView) (server : FragmentServer) → Starts told view.name view.choice (local_config view.options view.page_size) (serving server) → (inside : Option (Looped FragmentServer))
    → LoopsServer server view.seed view.fail_every inside LeavesHonest → LoopsFile told view inside LeavesHonest
local_honest told view server starts inside l = record { server = server; starts = starts; loops = l }

module _ (told told' : Option Files) (same : told' ≡ told) (view : LocalView) (server : FragmentServer) (starts : Starts told view.name view.choice (local_config view.options view.page_size) (serving server)) (inside : Option (Looped FragmentServer)) (out out' : SinkState) where
  module _ (q : QueryData) (is_read : IsOfQueryFile told' view.query q) where
    read : IsOfQueryFile told view.query q
    read = subst (λ (t : Option Files). IsOfQueryFile t view.query q) same is_read

    pub local_answers : (report : Report)
        → LoopsServer server view.seed view.fail_every inside (WritesLooped q view.options report out out')
        → WritesAnswer (serving server).data_set q report.rows out.taken out'.taken → LocalAnswers told view inside report out out'
    local_answers report l w = (
      record { triples = (serving server).data_set; is_served = starts.data_set; q = q; is_read = read; writes = w },
      record { server = server; starts = starts; loops = record { after = l.after; is_inside = l.is_inside; says = record { q = q; is_read = read; writes = l.says } } },
    )

    pub local_fault : (fault : ClientFault) → LoopsServer server view.seed view.fail_every inside (FailsLooped q view.options fault out out') → WritesAnswerFront (serving server).data_set q out.taken out'.taken
        → AnswersFilesFront told view.name view.query view.choice out.taken out'.taken
        × LoopsFile told view inside (λ old new. AnswersSome told view.query (allows_of old) local_base view.options fault (wire_of old) (wire_of new) out.faults out'.faults out.taken out'.taken)
    local_fault fault l w = (
      record { triples = (serving server).data_set; is_served = starts.data_set; q = q; is_read = read; writes = w },
      record { server = server; starts = starts; loops = record { after = l.after; is_inside = l.is_inside; says = record { q = q; is_read = read; writes = l.says } } },
    )

    -- of both files
    module _ (files_law : FilesAreServable) (query_law : QueriesAreAskable) (valid : AllByRecursion IsValidPattern q.patterns) where
      -- over any shelf
      pub local_planned : (result : Result Report ClientFault) → LoopsServer server view.seed view.fail_every inside LeavesHonest
          → (AreServable (serving server).data_set → AllByRecursion IsAskable q.patterns → view.options.budget < 2 ^ 63 → EndsAsPlanned view.fail_every view.options (serving server).data_set (serving server).config q result)
          → view.options.budget < 2 ^ 63 → LoopsFile told view inside (λ old new. EndsOver told view.query view.fail_every view.options result old)
      local_planned result l ends small = record {
        server = server;
        starts = starts;
        loops = record {
          after = l.after;
          is_inside = l.is_inside;
          says = record {
            q = q;
            is_read = read;
            ends = ends (files_law starts.data_set.files view.name view.choice (serving server).data_set starts.data_set.holds) (query_law read.files view.query q read.holds valid) small;
          };
        };
      }

      pub local_ends : (result : Result Report ClientFault)
          → (AreServable (serving server).data_set → AllByRecursion IsAskable q.patterns → view.options.budget < 2 ^ 63 → EndsAsPlanned view.fail_every view.options (serving server).data_set (serving server).config q result)
          → view.options.budget < 2 ^ 63 → OfFiles told view (λ triples asked. EndsAsPlanned view.fail_every view.options triples (local_config view.options view.page_size) asked result)
      local_ends result ends small = λ files is triples asked serves holds.
          let own = starts.data_set.tells files is in
          let there = read.tells files is in
          of_both view (serving server).data_set triples (serving server).config q asked (λ (ts : List Triple) (c : Config) (x : QueryData). EndsAsPlanned view.fail_every view.options ts c x result)
          (one_outcome files view.name view.choice (codes "localhost") (served (serving server).data_set) (served triples) own serves) starts.config_is (one_query (grammar_of view.options) files view.query (reads q) (reads asked) there holds)
          (ends (files_law files view.name view.choice (serving server).data_set own) (query_law files view.query q there valid) small)

    pub local_sent : LoopsServer server view.seed view.fail_every inside (λ old new. SendsPlan view.options (serving server).data_set (serving server).config q (wire_of new)) → OfFiles told view (λ triples asked. SendsInside view.options inside triples (local_config view.options view.page_size) asked)
    local_sent l = λ files is triples asked serves holds.
        let own = starts.data_set.tells files is in
        let there = read.tells files is in
        subst (λ (made : Option (Looped FragmentServer)). SendsInside view.options made triples (local_config view.options view.page_size) asked) (sym l.is_inside)
        (of_both view (serving server).data_set triples (serving server).config q asked (λ (ts : List Triple) (c : Config) (x : QueryData). SendsPlan view.options ts c x (wire_of l.after))
        (one_outcome files view.name view.choice (codes "localhost") (served (serving server).data_set) (served triples) own serves) starts.config_is (one_query (grammar_of view.options) files view.query (reads q) (reads asked) there holds) l.says)

    pub local_requested : LoopsServer server view.seed view.fail_every inside (λ old new. BoundsRequests view.options (serving server).data_set (serving server).config q (wire_of new)) → OfFiles told view (λ triples asked. RequestsInside view.options inside triples (local_config view.options view.page_size) asked)
    local_requested l = λ files is triples asked serves holds.
        let own = starts.data_set.tells files is in
        let there = read.tells files is in
        subst (λ (made : Option (Looped FragmentServer)). RequestsInside view.options made triples (local_config view.options view.page_size) asked) (sym l.is_inside)
        (of_both view (serving server).data_set triples (serving server).config q asked (λ (ts : List Triple) (c : Config) (x : QueryData). BoundsRequests view.options ts c x (wire_of l.after))
        (one_outcome files view.name view.choice (codes "localhost") (served (serving server).data_set) (served triples) own serves) starts.config_is (one_query (grammar_of view.options) files view.query (reads q) (reads asked) there holds) l.says)

    pub local_replied : (report : Report) → LoopsServer server view.seed view.fail_every inside (λ old new. AnswersPlan (offer_of view.options (serving server).data_set (serving server).config q) view.options report (wire_of old) (wire_of new))
        → OfFiles told view (RepliedInside told view inside report)
    local_replied report l = λ files is triples asked serves holds.
        let own = starts.data_set.tells files is in
        let there = read.tells files is in
        record {
          server = server;
          starts = starts;
          loops = record {
            after = l.after;
            is_inside = l.is_inside;
            says = of_both view (serving server).data_set triples (serving server).config q asked (λ (ts : List Triple) (c : Config) (x : QueryData). AnswersPlan (offer_of view.options ts c x) view.options report (wire_of (begun server view.seed view.fail_every)) (wire_of l.after))
                (one_outcome files view.name view.choice (codes "localhost") (served (serving server).data_set) (served triples) own serves) starts.config_is (one_query (grammar_of view.options) files view.query (reads q) (reads asked) there holds) l.says;
          };
        }

-- the fault of the query, from before the data were read
pub query_from : (grammar : Grammar) (shelf mid shelf' : ShelfState) → KeepsShelf shelf mid → (name : List ℕ) (fault : QueryFileFault) → QueryCause grammar mid shelf' name fault → QueryCause grammar shelf shelf' name fault
query_from grammar shelf mid shelf' first name (query_faults.Bad at why) h = subst (λ (t : Option Files). IfTold t (λ files. HasQueryFault grammar files name at why)) first.told h
query_from grammar shelf mid shelf' first name query_faults.File h = RoseBy-within 1 1 mid.faults shelf'.faults shelf.faults shelf'.faults (omega arith) first.later (omega arith) h
query_from grammar shelf mid shelf' first name query_faults.OutOfMemory h = tt
