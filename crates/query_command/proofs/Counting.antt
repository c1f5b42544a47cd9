-- What a call over the wire to the server of generated data says.
use Rattle.std.proofs.Common.{ℕ, ◌≡◌, ◌≢◌, ◌≤◌, ◌<◌, ◌^◌, List, length, codes, Option, None, Some, Result, Ok, Err, IfOk, IfErr, refl, sym, ap, subst, ◌∙◌, arith}
use Rattle.std.specs.List.{AllByRecursion}
use Rattle.rdf_terms.specs.declared.term.Triple.{Triple}
use Rattle.template_fill.specs.Metadata.{Config}
use Rattle.triple_table.specs.declared.choice.Choice.TheVariants.{DefaultGraph}
use Rattle.triple_table.specs.Chosen.{chosen}
use Rattle.triple_table.specs.Served.{IsServed}
use Rattle.generated_data.specs.declared.limits.TheConstants.{MOST_PERSONS}
use Rattle.generated_data.specs.Generated.{generated}
use Rattle.plan_laws.specs.Fitting.{AreServable, IsAskable}
use Rattle.std.proofs.lemmas.List.Sorted.{length_permutation}
use Rattle.tpf_base.specs.Causes.{Rose, counted_by}
use Rattle.tpf_base.specs.Outside.{ShelfState}
use Rattle.bgp_core.specs.Queries.{QueryData, IsValidPattern}
use Rattle.loop_wire.specs.Looped.{Looped}
use Rattle.fragment_server.specs.declared.server.FragmentServer.{FragmentServer}
use Rattle.data_servers.specs.Starts.{StartsGenerated}
use Rattle.tpf_client.specs.declared.options.Options.{Options}
use Rattle.tpf_client.specs.declared.options.Report.{Report}
use Rattle.tpf_client.specs.declared.fault.ClientFault.{ClientFault}
use Rattle.tpf_client.specs.declared.fault.ClientFault.TheVariants as clients
use Rattle.tpf_client.specs.Bounds.{SuitsCalls}
use Rattle.tpf_client.specs.Calls.{solutions_of}
use Rattle.data_files.specs.declared.fault.DataFault.{DataFault}
use Rattle.data_files.specs.declared.fault.DataFault.TheVariants as data_faults
use Rattle.data_files.specs.declared.query.Grammar.TheVariants as grammars
use Rattle.data_files.specs.Data.{Files, IfTold}
use Rattle.data_files.specs.Queries.{HoldsQuery, IsOfQueryFile, QueryOutcome, IsQueryOutcome, reads}
use Rattle.data_files.proofs.Outcomes.{one_query}
use Rattle.data_files.specs.Causes.{QueryDecides}
use Rattle.data_files.proofs.Causes.{gives_query}
use Rattle.data_servers.specs.Servers.{serving}
use Rattle.page_responses.specs.Serving as core
use Rattle.triple_table.specs.Stored.{Stored, triples_in}
use Rattle.answer_faults.specs.declared.fault.AnswerFault.{AnswerFault}
use Rattle.answer_faults.specs.declared.fault.AnswerFault.TheVariants as faults
use Rattle.answer_faults.specs.declared.fault.Counts.{Counts}
use Rattle.query_command.specs.declared.local_query.OverWire.{OverWire}
use Rattle.query_command.specs.Answers.{WritesOver, FailsOver, IsReading, GivesAnswer}
use Rattle.query_command.specs.Generated.{usual_options, usual_config, CountsQuery, LoopsGenerated, AsksOver, FailsOn, FailsFileOver, GeneratedAnswers, GeneratedCause}
use Rattle.query_command.specs.Limits.{GeneratedAreServable, QueriesAreAskable}
use Rattle.tpf_client.specs.Requested.{AnswersPlan}
use Rattle.query_command.specs.Over.{MayAsk, IsUsual}
use Rattle.query_command.specs.Plans.{offer_of, SendsPlan, SendsInside, BoundsRequests, RequestsInside, RepliesRows, RepliedGenerated, MayEnd, EndsOver, OfGenerated}
use Rattle.query_command.specs.Loops.{LoopsServer, LeavesHonest, WritesAnswer, local_base, allows_of, wire_of, begun}
use Rattle.query_command.proofs.Reading.{same_query}

-- the served data are one list
abbrev pub OneServed : Type 0
OneServed = (authority : List ℕ) (triples xs ys : List Triple) → IsServed authority triples xs → IsServed authority triples ys → xs ≡ ys

-- the triples of the table are those that are served
pub served_len : (server : FragmentServer) (inner : core.Serving) (table : Stored) (n : ℕ) → inner ≡ server.server → table ≡ inner.table → n ≡ length (triples_in table) → n ≡ length (serving server).data_set
served_len server inner table n is at e = e ∙ ap (λ (t : Stored). length (triples_in t)) at ∙ ap (λ (s : core.Serving). length (core.data_of s)) is

-- the usual bounds are those that calls need
usual_bounds : SuitsCalls usual_options
usual_bounds = (omega arith, omega arith, omega arith)

module _ (server : FragmentServer) (over : OverWire) (usual : IsUsual over) where
  -- what is said of what was asked is said of what is usual
  pub usually : (Says : ℕ → ℕ → Options → Type 0) → Says over.seed over.fail_every over.options → Says 0 0 usual_options
  usually Says says =
      subst (λ (seed : ℕ). Says seed 0 usual_options) usual.seed
      (subst (λ (n : ℕ). Says over.seed n usual_options) usual.fail_every (subst (Says over.seed over.fail_every) usual.options says))

  -- so of a wire
  pub loops_usual : (inside : Option (Looped FragmentServer)) (Says : Options → Looped FragmentServer → Looped FragmentServer → Type 0) → LoopsServer server over.seed over.fail_every inside (Says over.options) → LoopsServer server 0 0 inside (Says usual_options)
  loops_usual inside Says l = usually (λ seed n options. LoopsServer server seed n inside (Says options)) l

  pub honest_usual : (inside : Option (Looped FragmentServer)) → LoopsServer server over.seed over.fail_every inside LeavesHonest → LoopsServer server 0 0 inside LeavesHonest
  honest_usual inside l = loops_usual inside (λ options. LeavesHonest) l

  module _ (q : QueryData) where
    -- what was answered
    pub replies_rows : (inside : Option (Looped FragmentServer)) (report : Report) → LoopsServer server over.seed over.fail_every inside (λ old new. AnswersPlan (offer_of over.options (serving server).data_set (serving server).config q) over.options report (wire_of old) (wire_of new))
        → LoopsServer server 0 0 inside (RepliesRows (serving server).data_set (serving server).config q report.rows)
    replies_rows inside report l =
        let u = loops_usual inside (λ options old new. AnswersPlan (offer_of options (serving server).data_set (serving server).config q) options report (wire_of old) (wire_of new)) l in
        record { after = u.after; is_inside = u.is_inside; says = (report, refl, u.says) }

    -- how often it was sent
    pub bounds_usual : (inside : Option (Looped FragmentServer)) → LoopsServer server over.seed over.fail_every inside (λ old new. BoundsRequests over.options (serving server).data_set (serving server).config q (wire_of new))
        → LoopsServer server 0 0 inside (λ old new. BoundsRequests usual_options (serving server).data_set (serving server).config q (wire_of new))
    bounds_usual inside l = loops_usual inside (λ options old new. BoundsRequests options (serving server).data_set (serving server).config q (wire_of new)) l

    pub sends_usual : (inside : Option (Looped FragmentServer)) → LoopsServer server over.seed over.fail_every inside (λ old new. SendsPlan over.options (serving server).data_set (serving server).config q (wire_of new))
        → LoopsServer server 0 0 inside (λ old new. SendsPlan usual_options (serving server).data_set (serving server).config q (wire_of new))
    sends_usual inside l = loops_usual inside (λ options old new. SendsPlan options (serving server).data_set (serving server).config q (wire_of new)) l

    -- how the call may end
    pub may_fail : (fault : ClientFault)
        → (AreServable (serving server).data_set → AllByRecursion IsAskable q.patterns → over.options.budget < 2 ^ 63 → MayEnd over.fail_every over.options (serving server).data_set (serving server).config q fault)
        → AreServable (serving server).data_set → AllByRecursion IsAskable q.patterns → MayEnd 0 usual_options (serving server).data_set (serving server).config q fault
    may_fail fault ends servable askable =
        usually (λ seed n options. options.budget < 2 ^ 63 → MayEnd n options (serving server).data_set (serving server).config q fault) (ends servable askable) (omega arith)

module _ (server : FragmentServer) (persons : ℕ) (starts : StartsGenerated persons usual_config (serving server)) where
  pub may_ask : (over : OverWire) → IsUsual over → over.start.now ≡ local_base → MayAsk over server
  may_ask over usual start = record {
    start = start;
    first = starts.version;
    base = ap (λ (c : Config). c.base) starts.config_is;
    bounds = subst SuitsCalls (sym usual.options) usual_bounds;
  }

  module _ (q : QueryData) where
    pub counts_of : (triples rows : ℕ) → triples ≡ length (serving server).data_set → WritesAnswer (serving server).data_set q rows None None → CountsQuery persons q (record { triples = triples; rows = rows })
    counts_of triples rows e w = record {
      triples = (serving server).data_set;
      is_served = starts.data_set;
      triples_are = e;
      rows_are = w.count ∙ ap (λ n. counted_by n 0) (length_permutation (solutions_of (serving server).data_set q) w.rows w.rows_are);
    }

    module _ (over : OverWire) (usual : IsUsual over) (inside : Option (Looped FragmentServer)) where
      pub asks_over : (report : Report) → LoopsServer server over.seed over.fail_every inside (λ old new. WritesOver (allows_of old) q local_base over.options report (wire_of old) (wire_of new) None None) → LoopsGenerated persons inside (AsksOver q report.rows)
      asks_over report l =
          let u = loops_usual server over usual inside (λ options old new. WritesOver (allows_of old) q local_base options report (wire_of old) (wire_of new) None None) l in
          record { server = server; starts = starts; loops = record { after = u.after; is_inside = u.is_inside; says = (report, refl, u.says) } }

      pub fails_on : (fault : ClientFault) → LoopsServer server over.seed over.fail_every inside (λ old new. FailsOver (allows_of old) q local_base over.options fault (wire_of old) (wire_of new) 0 0 None None) → LoopsGenerated persons inside (FailsOn q fault)
      fails_on fault l = record {
        server = server;
        starts = starts;
        loops = loops_usual server over usual inside (λ options old new. FailsOver (allows_of old) q local_base options fault (wire_of old) (wire_of new) 0 0 None None) l;
      }

-- ---- of the query of a file

pub never_rose : Rose 0 0 → ⊥
never_rose h = omega (arith, h)

-- of the wire that was left
pub generated_honest : (persons : ℕ) (inside : Option (Looped FragmentServer)) (server : FragmentServer) → StartsGenerated persons usual_config (serving server) → LoopsServer server 0 0 inside LeavesHonest → LoopsGenerated persons inside LeavesHonest
generated_honest persons inside server starts l = record { server = server; starts = starts; loops = l }

module _ (told : Option Files) (persons : ℕ) (name : List ℕ) (inside : Option (Looped FragmentServer)) where
  module _ (q : QueryData) (is_read : IsOfQueryFile told name q) where
    pub generated_answers : (counts : Counts) → CountsQuery persons q counts → LoopsGenerated persons inside (AsksOver q counts.rows) → GeneratedAnswers told persons name inside counts
    generated_answers counts k l = (
      record { q = q; is_read = is_read; counts_are = k },
      record { server = l.server; starts = l.starts; loops = record { after = l.loops.after; is_inside = l.loops.is_inside; says = (l.loops.says.0, l.loops.says.1, record { q = q; is_read = is_read; writes = l.loops.says.2 }) } },
    )

    pub generated_fault : (fault : ClientFault) → LoopsGenerated persons inside (FailsOn q fault) → (fault ≢ clients.Sink) × LoopsGenerated persons inside (FailsFileOver told name fault)
    generated_fault fault l = (
      λ e. never_rose (l.loops.says.sink e),
      record { server = l.server; starts = l.starts; loops = record { after = l.loops.after; is_inside = l.loops.is_inside; says = record { q = q; is_read = is_read; writes = l.loops.says } } },
    )

    -- over any shelf
    pub generated_planned : GeneratedAreServable → QueriesAreAskable → persons ≤ MOST_PERSONS → AllByRecursion IsValidPattern q.patterns → (server : FragmentServer) → StartsGenerated persons usual_config (serving server) → (fault : ClientFault) → LoopsServer server 0 0 inside LeavesHonest
        → (AreServable (serving server).data_set → AllByRecursion IsAskable q.patterns → MayEnd 0 usual_options (serving server).data_set (serving server).config q fault)
        → LoopsGenerated persons inside (λ old new. EndsOver told name 0 usual_options (Err fault) old)
    generated_planned data_law query_law most valid server starts fault l ends = record {
      server = server;
      starts = starts;
      loops = record {
        after = l.after;
        is_inside = l.is_inside;
        says = record {
          q = q;
          is_read = is_read;
          ends = ends (data_law persons (serving server).data_set most starts.data_set) (query_law is_read.files name q is_read.holds valid);
        };
      };
    }

  -- what holds of the data that were made and the query that was read holds of all data and queries that the files hold
  module _ (server : FragmentServer) (starts : StartsGenerated persons usual_config (serving server)) (q : QueryData) (is_read : IsOfQueryFile told name q) (one_served : OneServed) where
    of_both : (P : List Triple → Config → QueryData → Type 0) (files : Files) → told ≡ Some files → (triples : List Triple) (asked : QueryData) → IsServed (codes "localhost") (chosen DefaultGraph (generated persons)) triples → HoldsQuery files name asked
        → P (serving server).data_set (serving server).config q → P triples usual_config asked
    of_both P files is triples asked serves holds h =
        subst (λ (x : QueryData). P triples usual_config x) (same_query q asked (one_query grammars.Groups files name (reads q) (reads asked) (is_read.tells files is) holds))
        (subst (λ (c : Config). P triples c q) starts.config_is
        (subst (λ (ts : List Triple). P ts (serving server).config q) (one_served (codes "localhost") (chosen DefaultGraph (generated persons)) (serving server).data_set triples starts.data_set serves) h))

    pub generated_sent : LoopsServer server 0 0 inside (λ old new. SendsPlan usual_options (serving server).data_set (serving server).config q (wire_of new)) → OfGenerated told persons name (λ triples asked. SendsInside usual_options inside triples usual_config asked)
    generated_sent l = λ files is triples asked serves holds.
        subst (λ (made : Option (Looped FragmentServer)). SendsInside usual_options made triples usual_config asked) (sym l.is_inside)
        (of_both (λ (ts : List Triple) (c : Config) (x : QueryData). SendsPlan usual_options ts c x (wire_of l.after)) files is triples asked serves holds l.says)

    pub generated_requested : LoopsServer server 0 0 inside (λ old new. BoundsRequests usual_options (serving server).data_set (serving server).config q (wire_of new)) → OfGenerated told persons name (λ triples asked. RequestsInside usual_options inside triples usual_config asked)
    generated_requested l = λ files is triples asked serves holds.
        subst (λ (made : Option (Looped FragmentServer)). RequestsInside usual_options made triples usual_config asked) (sym l.is_inside)
        (of_both (λ (ts : List Triple) (c : Config) (x : QueryData). BoundsRequests usual_options ts c x (wire_of l.after)) files is triples asked serves holds l.says)

    pub generated_replied : (counts : Counts) → LoopsServer server 0 0 inside (RepliesRows (serving server).data_set (serving server).config q counts.rows) → OfGenerated told persons name (RepliedGenerated persons inside counts)
    generated_replied counts l = λ files is triples asked serves holds. record {
      server = server;
      starts = starts;
      loops = record {
        after = l.after;
        is_inside = l.is_inside;
        says = of_both (λ (ts : List Triple) (c : Config) (x : QueryData). RepliesRows ts c x counts.rows (begun server 0 0) l.after) files is triples asked serves holds l.says;
      };
    }

    pub generated_ends : GeneratedAreServable → QueriesAreAskable → persons ≤ MOST_PERSONS → AllByRecursion IsValidPattern q.patterns → (fault : ClientFault)
        → (AreServable (serving server).data_set → AllByRecursion IsAskable q.patterns → MayEnd 0 usual_options (serving server).data_set (serving server).config q fault)
        → OfGenerated told persons name (λ triples asked. MayEnd 0 usual_options triples usual_config asked fault)
    generated_ends data_law query_law most valid fault ends = λ files is triples asked serves holds.
        of_both (λ (ts : List Triple) (c : Config) (x : QueryData). MayEnd 0 usual_options ts c x fault) files is triples asked serves holds
        (ends (data_law persons (serving server).data_set most starts.data_set) (query_law files name q (is_read.tells files is) valid))

  -- what the file holds is the query that was read
  answers_read : (counts : Counts) → GeneratedAnswers told persons name inside counts → IfTold told (λ files. (outcome : QueryOutcome) → IsQueryOutcome grammars.Groups files name outcome → IsReading outcome)
  answers_read counts a = λ files is outcome o. (a.0.q, one_query grammars.Groups files name outcome (reads a.0.q) o (a.0.is_read.tells files is))

module _ (shelf shelf' : ShelfState) (persons : ℕ) (name : List ℕ) (inside : Option (Looped FragmentServer)) where
  causes_read : (X : Type 0) (fault : AnswerFault) → GeneratedCause shelf shelf' persons name inside fault → QueryDecides grammars.Groups shelf shelf' name (λ outcome. GivesAnswer {X = X} outcome (Err fault))
  causes_read X (faults.Data fault) e quiet = λ files is outcome o. tt
  causes_read X (faults.Query fault) e quiet = gives_query shelf shelf' name grammars.Groups (Err fault) tt e.0 quiet
  causes_read X (faults.Client fault) e quiet = λ files is outcome o. (e.1.loops.says.q, one_query grammars.Groups files name outcome (reads e.1.loops.says.q) o (e.1.loops.says.is_read.tells files is))

  pub gives_counts : (result : Result Counts AnswerFault) → IfOk result (GeneratedAnswers shelf.told persons name inside) → IfErr result (GeneratedCause shelf shelf' persons name inside)
      → QueryDecides grammars.Groups shelf shelf' name (λ outcome. GivesAnswer outcome result)
  gives_counts (Ok counts) a e quiet = answers_read shelf.told persons name inside counts a
  gives_counts (Err fault) a e quiet = causes_read Counts fault e quiet

-- what the call promises of its numbers and of the wire that it leaves
pub record CalledGenerated (server : FragmentServer) (persons : ℕ) (q : QueryData) (inside : Option (Looped FragmentServer)) (result : Result Counts ClientFault) : Type 0 where
  pub counts : IfOk result (CountsQuery persons q)
  pub answers : IfOk result (λ counts. LoopsGenerated persons inside (AsksOver q counts.rows))
  pub cause : IfErr result (λ fault. LoopsGenerated persons inside (FailsOn q fault))
  pub sent : LoopsServer server 0 0 inside (λ old new. SendsPlan usual_options (serving server).data_set (serving server).config q (wire_of new))
  pub requested : LoopsServer server 0 0 inside (λ old new. BoundsRequests usual_options (serving server).data_set (serving server).config q (wire_of new))
  pub replied : IfOk result (λ counts. LoopsServer server 0 0 inside (RepliesRows (serving server).data_set (serving server).config q counts.rows))
  pub ends : AreServable (serving server).data_set → AllByRecursion IsAskable q.patterns → IfErr result (MayEnd 0 usual_options (serving server).data_set (serving server).config q)
  pub honest : LoopsServer server 0 0 inside LeavesHonest

-- want of memory is no failure of the file
pub memory_not_file : ◌≡◌ {A = DataFault} data_faults.OutOfMemory data_faults.File → ⊥
memory_not_file e = cc
