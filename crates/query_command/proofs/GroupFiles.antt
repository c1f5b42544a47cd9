-- What is said of the wire of a query with groups is said of the files of a command.
use Rattle.std.proofs.Common.{ℕ, ◌≡◌, ◌≤◌, ◌<◌, ◌^◌, true, List, length, codes, Option, None, Result, Ok, Err, refl, ap, subst, ◌∙◌, arith}
use Rattle.std.proofs.lemmas.List.Sorted.{length_permutation}
use Rattle.tpf_base.specs.Addresses.{Address}
use Rattle.tpf_base.specs.Causes.{counted_by}
use Rattle.tpf_base.specs.Links.{WireState}
use Rattle.tpf_base.specs.Outside.{ShelfState}
use Rattle.tpf_base.specs.Wrote.{SinkState}
use Rattle.bgp_core.specs.Queries.{QueryData}
use Rattle.template_fill.specs.Answered.{AnsweredGivePages}
use Rattle.group_query.specs.Trees.{GroupData}
use Rattle.group_rows.specs.Evaluation.{answers}
use Rattle.group_parser.specs.declared.reading.Asked.{Asked}
use Rattle.group_parser.specs.declared.reading.Asked.TheVariants.{Plain, Groups}
use Rattle.loop_wire.specs.Looped.{Looped}
use Rattle.fragment_server.specs.declared.server.FragmentServer.{FragmentServer}
use Rattle.generated_data.specs.declared.limits.TheConstants.{MOST_PERSONS}
use Rattle.data_servers.specs.Starts.{StartsGenerated}
use Rattle.plan_laws.specs.Fitting.{AreServable, PlansAreRead, StartsAreRead}
use Rattle.tpf_client.specs.declared.options.Options.{Options}
use Rattle.tpf_client.specs.declared.options.Report.{Report}
use Rattle.tpf_client.specs.declared.fault.ClientFault.{ClientFault}
use Rattle.data_files.specs.declared.query.Grammar.{Grammar}
use Rattle.data_files.specs.declared.query.Grammar.TheVariants as grammars
use Rattle.data_files.specs.Data.{Files, served}
use Rattle.data_files.specs.Queries.{IsOfQueryFile, IsOfGroupFile, IsOfAskedFile, reads_groups}
use Rattle.data_files.specs.Kept.{ReadsNamed}
use Rattle.data_files.specs.Causes.{DataDecides, QueryDecides}
use Rattle.data_files.proofs.Outcomes.{one_outcome, one_query}
use Rattle.data_servers.specs.Servers.{Starts, serving}
use Rattle.answer_faults.specs.declared.fault.AnswerFault.TheVariants as faults
use Rattle.answer_faults.specs.declared.fault.Counts.{Counts}
use Rattle.query_command.specs.declared.local_query.OverWire.{OverWire}
use Rattle.query_command.specs.Blocks.{grammar_of}
use Rattle.query_command.specs.Files.{FailsByFile, ReadsLocally}
use Rattle.query_command.specs.Limits.{FilesAreServable, GeneratedAreServable, GroupsAreAskable}
use Rattle.query_command.specs.Loops.{LocalView, IsServing, local_config}
use Rattle.query_command.specs.Generated.{usual_options, usual_config}
use Rattle.query_command.specs.Groups.{group_plan_of, group_offer_of, AsksServerGroups, AsksFileGroups, AsksGeneratedGroups, CountsGroup, WritesGroupAnswer}
use Rattle.query_command.specs.Over.{AreValidBlocks, AreAskableBlocks, IsUsual, AsksGroups, AsksGeneratedOver}
use Rattle.query_command.proofs.Counting.{never_rose, usually}
use Rattle.query_command.proofs.GroupPlans.{group_fits}
use Rattle.query_command.proofs.Planned.{is_memory}
use Rattle.query_command.proofs.GroupLooping.{Called, wrote, failed}

-- ---- what was read

pub plain_file : (grammar : Grammar) (told : Option Files) (name : List ℕ) (asked : Asked) (q : QueryData) → asked ≡ Plain q → IsOfAskedFile grammar told name asked → IsOfQueryFile told name q
plain_file grammar told name asked q is h = subst (IsOfAskedFile grammar told name) is h

pub group_file : (grammar : Grammar) (told told' : Option Files) → told' ≡ told → (name : List ℕ) (asked : Asked) (g : GroupData) → asked ≡ Groups g → IsOfAskedFile grammar told' name asked → IsOfGroupFile grammar told name g
group_file grammar told told' same name asked g is h = subst (λ (t : Option Files). IsOfGroupFile grammar t name g) same (subst (IsOfAskedFile grammar told' name) is h)

group_decides : (grammar : Grammar) (shelf shelf' : ShelfState) (name : List ℕ) (g : GroupData) → IsOfGroupFile grammar shelf.told name g → QueryDecides grammar shelf shelf' name (λ outcome. outcome ≡ reads_groups g)
group_decides grammar shelf shelf' name g is_read quiet = λ files is outcome o. one_query grammar files name outcome (reads_groups g) o (is_read.tells files is)

-- ---- a file of data

module _ (shelf shelf' : ShelfState) (view : LocalView) (server : FragmentServer) (starts : Starts shelf.told view.name view.choice (local_config view.options view.page_size) (serving server)) (inside : Option (Looped FragmentServer)) (out out' : SinkState)
    (g : GroupData) (is_read : IsOfGroupFile (grammar_of view.options) shelf.told view.query g) (files_law : FilesAreServable) (groups_law : GroupsAreAskable) where
  data_decides : DataDecides shelf shelf' view.name view.choice (codes "localhost") IsServing
  data_decides quiet = λ files is outcome o. ((serving server).data_set, one_outcome files view.name view.choice (codes "localhost") outcome (served (serving server).data_set) o (starts.data_set.tells files is))

  servable : AreServable (serving server).data_set
  servable = files_law starts.data_set.files view.name view.choice (serving server).data_set starts.data_set.holds

  askable : AreValidBlocks g → AreAskableBlocks g
  askable valid = groups_law (grammar_of view.options) is_read.files view.query g is_read.holds valid

  pub file_ok : (report : Report) → AsksGroups server view.seed view.fail_every view.options g (Ok report) inside out out' → ReadsLocally view.name view.query shelf shelf' (Ok report) → AsksFileGroups shelf shelf' out out' inside view (Ok report) g
  file_ok report a named = record {
    is_read = is_read;
    data_exact = data_decides;
    query_exact = group_decides (grammar_of view.options) shelf shelf' view.query g is_read;
    answers = (
      record { triples = (serving server).data_set; is_served = starts.data_set; writes = a.answer },
      record { server = server; starts = starts; loops = a.answers },
    );
    cause = tt;
    asked = record { server = server; starts = starts; loops = a.asked };
    replied = record { server = server; starts = starts; loops = a.replied };
    ends = λ small. record { server = server; starts = starts; loops = a.counted small };
    complete = λ small fine. tt;
    honest = record { server = server; starts = starts; loops = a.honest };
    reads = named;
    output = record { keeps = a.output; spared = λ fine. tt };
  }

  pub file_err : (fault : ClientFault) → AsksGroups server view.seed view.fail_every view.options g (Err fault) inside out out' → ReadsLocally view.name view.query shelf shelf' (Err (faults.Client fault)) → AsksFileGroups shelf shelf' out out' inside view (Err (faults.Client fault)) g
  file_err fault a named = record {
    is_read = is_read;
    data_exact = data_decides;
    query_exact = group_decides (grammar_of view.options) shelf shelf' view.query g is_read;
    answers = tt;
    cause = (
      record { triples = (serving server).data_set; is_served = starts.data_set; writes = a.front },
      record { server = server; starts = starts; loops = a.cause },
    );
    asked = record { server = server; starts = starts; loops = a.asked };
    replied = tt;
    ends = λ small. record { server = server; starts = starts; loops = a.ends servable (askable a.valid) small };
    complete = λ small fine.
        let e = a.ends servable (askable a.valid) small in
        record {
          server = server;
          starts = starts;
          loops = record {
            after = e.after;
            is_inside = e.is_inside;
            says = λ within. is_memory view.fail_every view.options (serving server).data_set (serving server).config (group_offer_of (serving server).data_set (serving server).config g) (λ address other same. same) (group_plan_of (serving server).data_set (serving server).config g) fault within (λ is. fine (a.cause.says.sink is)) e.says;
          };
        };
    honest = record { server = server; starts = starts; loops = a.honest };
    reads = named;
    output = record { keeps = a.output; spared = λ fine is. a.spared fine (ap Err is) };
  }

-- ---- a handed-in wire

module _ (shelf shelf' : ShelfState) (name : List ℕ) (allows : List ℕ → ℕ → List ℕ → List ℕ → Type 0) (start : Address) (options : Options) (wire wire' : WireState) (out out' : SinkState) (g : GroupData) (is_read : IsOfGroupFile (grammar_of options) shelf.told name g) where
  pub server_ok : (report : Report) → Called allows g options (Ok report) wire wire' out out' start → ReadsNamed name shelf shelf' (FailsByFile {A = Report} (Ok report)) → AsksServerGroups shelf shelf' allows wire wire' out out' name start options (Ok report) g
  server_ok report k named =
      let s = k.sink in
      record {
        is_read = is_read;
        exact = group_decides (grammar_of options) shelf shelf' name g is_read;
        answers = wrote allows g start options wire wire' out out' report k;
        cause = tt;
        complete = λ short fine p version fits. tt;
        reads = named;
        output = record { keeps = record { later = s.later; faultless = s.faultless; spared = λ fine. (s.spared fine).0 }; spared = λ fine. tt };
      }

  pub server_err : PlansAreRead → StartsAreRead → AnsweredGivePages → GroupsAreAskable → AreValidBlocks g → (fault : ClientFault) → Called allows g options (Err fault) wire wire' out out' start
      → ReadsNamed name shelf shelf' (FailsByFile {A = Report} (Err (faults.Client fault))) → AsksServerGroups shelf shelf' allows wire wire' out out' name start options (Err (faults.Client fault)) g
  server_err plans starts gives groups_law valid fault k named =
      let s = k.sink in
      let blocks = groups_law (grammar_of options) is_read.files name g is_read.holds valid in
      record {
        is_read = is_read;
        exact = group_decides (grammar_of options) shelf shelf' name g is_read;
        answers = tt;
        cause = failed allows g start options wire wire' out out' fault k;
        complete = λ short fine p version fits.
            k.still p version fits.answers fits.tells fits.lively fits.rise fits.rises (group_fits p version g start plans starts gives allows options wire wire' blocks short fits) fine;
        reads = named;
        output = record { keeps = record { later = s.later; faultless = s.faultless; spared = λ fine. (s.spared fine).0 }; spared = λ fine is. (s.spared fine).1 (ap Err is) };
      }

-- ---- generated data

-- a sink that tells nothing, and never failed
abbrev pub none_taken : SinkState
none_taken = record { taken = None; faults = 0; faultless = true }

module _ (server : FragmentServer) (persons : ℕ) (starts : StartsGenerated persons usual_config (serving server)) (g : GroupData) (over : OverWire) (is : IsUsual over) (inside : Option (Looped FragmentServer)) where
  usual_small : usual_options.budget < 2 ^ 63
  usual_small = omega arith

  -- what is said of the call that was made is said of the usual one, whose result was counted
  usual : (result : Result Report ClientFault) (drain : SinkState) → drain ≡ none_taken → AsksGroups server over.seed over.fail_every over.options g result inside drain drain → AsksGroups server 0 0 usual_options g result inside none_taken none_taken
  usual result drain empty a =
      subst (λ (s : SinkState). AsksGroups server 0 0 usual_options g result inside s s) empty
      (usually server over is (λ seed n options. AsksGroups server seed n options g result inside drain drain) a)

  group_counts : (triples rows : ℕ) → triples ≡ length (serving server).data_set → WritesGroupAnswer (serving server).data_set g rows None None → CountsGroup persons g (record { triples = triples; rows = rows })
  group_counts triples rows e w = record {
    triples = (serving server).data_set;
    is_served = starts.data_set;
    triples_are = e;
    rows_are = w.count ∙ ap (λ n. counted_by n 0) (length_permutation (answers (serving server).data_set g) w.rows w.rows_are);
  }

  pub counted_ok : (drain : SinkState) (triples : ℕ) (report : Report) → drain ≡ none_taken → triples ≡ length (serving server).data_set → AsksGroups server over.seed over.fail_every over.options g (Ok report) inside drain drain
      → AsksGeneratedOver server persons g (Ok (record { triples = triples; rows = report.rows })) inside
  counted_ok drain triples report empty e call =
      let a = usual (Ok report) drain empty call in
      record {
        valid = a.valid;
        counts = group_counts triples report.rows e a.answer;
        answers = record { server = server; starts = starts; loops = record { after = a.answers.after; is_inside = a.answers.is_inside; says = (report, refl, a.answers.says) } };
        cause = tt;
        asked = record { server = server; starts = starts; loops = a.asked };
        replied = record {
          server = server;
          starts = starts;
          loops = record { after = a.replied.after; is_inside = a.replied.is_inside; says = (report, refl, a.replied.says) };
        };
        ends = λ servable askable. tt;
        honest = a.honest;
      }

  pub counted_err : (drain : SinkState) (fault : ClientFault) → drain ≡ none_taken → AsksGroups server over.seed over.fail_every over.options g (Err fault) inside drain drain → AsksGeneratedOver server persons g (Err fault) inside
  counted_err drain fault empty call =
      let a = usual (Err fault) drain empty call in
      record {
        valid = a.valid;
        counts = tt;
        answers = tt;
        cause = (λ e. never_rose (a.cause.says.sink e), record { server = server; starts = starts; loops = a.cause });
        asked = record { server = server; starts = starts; loops = a.asked };
        replied = tt;
        ends = λ servable askable. record { server = server; starts = starts; loops = a.ends servable askable usual_small };
        honest = a.honest;
      }

module _ (shelf shelf' : ShelfState) (persons : ℕ) (name : List ℕ) (inside : Option (Looped FragmentServer)) (server : FragmentServer) (starts : StartsGenerated persons usual_config (serving server)) (g : GroupData) (is_read : IsOfGroupFile grammars.Groups shelf.told name g) where
  pub generated_ok : (counts : Counts) → AsksGeneratedOver server persons g (Ok counts) inside → ReadsNamed name shelf shelf' (FailsByFile {A = Counts} (Ok counts)) → AsksGeneratedGroups shelf shelf' inside persons name (Ok counts) g
  generated_ok counts a named = record {
    is_read = is_read;
    exact = group_decides grammars.Groups shelf shelf' name g is_read;
    answers = (a.counts, a.answers);
    cause = tt;
    asked = a.asked;
    replied = a.replied;
    ends = tt;
    complete = tt;
    honest = record { server = server; starts = starts; loops = a.honest };
    reads = named;
  }

  pub generated_err : GeneratedAreServable → GroupsAreAskable → persons ≤ MOST_PERSONS → (fault : ClientFault) → AsksGeneratedOver server persons g (Err fault) inside → ReadsNamed name shelf shelf' (FailsByFile {A = Counts} (Err (faults.Client fault)))
      → AsksGeneratedGroups shelf shelf' inside persons name (Err (faults.Client fault)) g
  generated_err data_law groups_law most fault a named =
      let e = a.ends (data_law persons (serving server).data_set most starts.data_set) (groups_law grammars.Groups is_read.files name g is_read.holds a.valid) in
      record {
        is_read = is_read;
        exact = group_decides grammars.Groups shelf shelf' name g is_read;
        answers = tt;
        cause = a.cause;
        asked = a.asked;
        replied = tt;
        ends = e;
        complete = record {
          server = e.server;
          starts = e.starts;
          loops = record {
            after = e.loops.after;
            is_inside = e.loops.is_inside;
            says = λ within. is_memory 0 usual_options (serving e.server).data_set (serving e.server).config (group_offer_of (serving e.server).data_set (serving e.server).config g) (λ address other same. same) (group_plan_of (serving e.server).data_set (serving e.server).config g) fault within a.cause.0 e.loops.says;
          };
        };
        honest = record { server = server; starts = starts; loops = a.honest };
        reads = named;
      }
