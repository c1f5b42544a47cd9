-- What a call answers, made from what its last part answers.
use Rattle.std.proofs.Common.{ℕ, ◌≡◌, inr, List, [], length, Option, refl, sym, subst, ◌∙◌, append-nil}
use Rattle.std.specs.Prelude.{Result, Ok, Err, OnErr}
use Rattle.std.specs.Io.KnownBytes.{Appends}
use Rattle.tpf_base.specs.Addresses.{Address}
use Rattle.tpf_base.specs.Causes.{counted_by}
use Rattle.tpf_base.specs.Links.{WireState}
use Rattle.tpf_base.specs.Wrote.{AppendsPrefix}
use Rattle.bgp_core.specs.Queries.{QueryData}
use Rattle.bgp_core.specs.Solutions.{Places}
use Rattle.result_json.specs.Results.{result_text}
use Rattle.group_query.specs.Trees.{GroupData, group_tree, blocks_of, shown_query}
use Rattle.tpf_client.specs.declared.options.Options.{Options}
use Rattle.tpf_client.specs.declared.options.Report.{Report}
use Rattle.tpf_client.specs.declared.fault.ClientFault.{ClientFault}
use Rattle.tpf_client.specs.declared.fault.ClientFault.TheVariants as faults
use Rattle.tpf_client.specs.Causes.{IsLocal}
use Rattle.group_patterns.specs.Blocks.{Stops, IsLacking, IsUnwritten}
use Rattle.group_patterns.specs.Asking.{Gathers, AsksAndWrites, AsksAndStops}

pub on-err-from : {A B : Type 0} (r : Result A B) (P Q : Type 0) → OnErr r P → (P → Q) → OnErr r Q
on-err-from (Ok x) P Q p f = tt
on-err-from (Err e) P Q p f = f p

module _ (allows : List ℕ → ℕ → List ℕ → List ℕ → Type 0) (options : Options) (start : Address) (g : GroupData) (u w : WireState) (t t' : Option (List ℕ)) where
  pub all-shown : (report : Report) (rows given : List Places) (q : QueryData) → given ≡ rows → q ≡ shown_query g → Gathers allows options start g report rows u w → Appends t t' (result_text q given) → AsksAndWrites allows options start g report u w t t'
  all-shown report rows given q is e a b = record {
    asks = a.asks;
    writes = record {
      text = subst (λ (l : List Places). Appends t t' (result_text (shown_query g) l)) (is ∙ a.rows_are) (subst (λ (x : QueryData). Appends t t' (result_text x given)) e b);
      count = subst (λ (l : List Places). report.rows ≡ counted_by (length l) 0) a.rows_are a.count;
    };
  }

  -- all blocks were asked, and then the sink failed or memory ran out
  pub part-shown : (report : Report) (rows given : List Places) (q : QueryData) (fault : ClientFault) → given ≡ rows → q ≡ shown_query g → IsLocal fault → Gathers allows options start g report rows u w → AppendsPrefix t t' (result_text q given) → AsksAndStops allows options start g fault u w t t'
  part-shown report rows given q fault is e l a b = record {
    asks = record {
      asked = blocks_of (group_tree g);
      rest = [];
      blocks_are = sym (append-nil (blocks_of (group_tree g)));
      done = a.asks.done;
      between = w;
      gives = a.asks.gives;
      one_version = a.asks.one_version;
      stops = stops-local fault l;
    };
    front = inr (refl, subst (λ (x : List Places). AppendsPrefix t t' (result_text (shown_query g) x)) (is ∙ a.rows_are) (subst (λ (x : QueryData). AppendsPrefix t t' (result_text x given)) e b));
  }
    where
      stops-local : (fault : ClientFault) → IsLocal fault → Stops allows options start g.names a.asks.done [] fault w w
      stops-local faults.Exchange l = absurd l
      stops-local faults.Stalled l = absurd l
      stops-local (faults.Cut received) l = absurd l
      stops-local (faults.Reply fault received) l = absurd l
      stops-local (faults.Page fault body) l = absurd l
      stops-local (faults.Changed first other) l = absurd l
      stops-local (faults.Budget n) l = absurd l
      stops-local faults.Sink l = IsUnwritten refl refl refl
      stops-local faults.OutOfMemory l = IsLacking refl refl
