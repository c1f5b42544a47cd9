-- The wire in one process to a server of version 1 answers as that server does, over a history of one data set; so what is written over it are the solutions over that data set.
use Rattle.std.proofs.Common.{ℕ, ◌≡◌, ◌≤◌, ◌<◌, ◌^◌, ◌∷◌, [], Bool, true, false, List, length, nat_le, Option, Some, if◌then◌else◌, refl, sym, ap, subst, arith}
use Rattle.std.specs.List.Sorted.{IsPermutation}
use Rattle.rdf_terms.specs.declared.term.Triple.{Triple}
use Rattle.tpf_base.specs.Addresses.{Address}
use Rattle.template_fill.specs.Metadata.{Config}
use Rattle.template_fill.specs.Bodies.{version_of}
use Rattle.template_fill.specs.Configurations.{IsConfig, IsValidDataSet}
use Rattle.template_fill.specs.Responses.{IsHonest}
use Rattle.connections.specs.Versions.{Serving}
use Rattle.loop_wire.specs.Looped.{Looped}
use Rattle.tpf_base.specs.Links.{SameAllowed}
use Rattle.fragment_server.specs.declared.server.FragmentServer.{FragmentServer}
use Rattle.fragment_server.specs.Failing.{failing_response}
use Rattle.fragment_server.proofs.Honest.{owes_response}
use Rattle.bgp_core.specs.Queries.{QueryData}
use Rattle.tpf_client.specs.declared.options.Report.{Report}
use Rattle.tpf_client.specs.Calls.{solutions_of}
use Rattle.tpf_client.specs.Offers.{publisher, offer_in_blocks}
use Rattle.tpf_client.specs.Honest.{IsHonestWire, WritesSolutions, WritesSolutionsFront}
use Rattle.data_servers.specs.Servers.{serving}
use Rattle.query_command.specs.Loops.{LoopsServer, LeavesHonest, WiresAreHonest, allows_of, wire_of, begun, WritesAnswer, WritesAnswerFront}

-- ---- the wire

pub honest : (s : Serving (List Triple) Config) → s.version ≡ 1 → IsHonest (λ host port sent owed. owed ≡ failing_response s sent) (s.data_set ∷ []) s.config
honest s first = λ host port sent owed is. owes_response s (s.data_set ∷ []) (record { count = sym first; before = []; last = refl }) sent owed is

pub wires_are_honest : WiresAreHonest
wires_are_honest wire address history last valid config few = record {
  tells = refl;
  is_honest = λ sent owed is. owes_response (serving wire.server) history last sent owed is;
  is_history = valid;
  is_config = config;
  few = few;
}

-- what a wire allows no call changes
honest_left : (old after : Looped FragmentServer) (address : Address) (history : List (List Triple)) (config : Config) → SameAllowed (allows_of old) (allows_of after) → IsHonestWire (allows_of old) address history config (wire_of old)
    → IsHonestWire (allows_of after) address history config (wire_of after)
honest_left old after address history config same h = record {
  tells = refl;
  is_honest = λ sent owed is. h.is_honest sent owed ((same address.host address.port sent owed).0 is);
  is_history = h.is_history;
  is_config = h.is_config;
  few = h.few;
}

pub loops_honest : (server : FragmentServer) (seed fail_every : ℕ) (old after : Looped FragmentServer) → old ≡ begun server seed fail_every → SameAllowed (allows_of old) (allows_of after)
    → ((address : Address) → IsHonestWire (allows_of (begun server seed fail_every)) address ((serving server).data_set ∷ []) (serving server).config (wire_of (begun server seed fail_every)))
    → LoopsServer server seed fail_every (Some after) LeavesHonest
loops_honest server seed fail_every old after is same honest = record {
  after = after;
  is_inside = refl;
  says = λ address. honest_left (begun server seed fail_every) after address ((serving server).data_set ∷ []) (serving server).config (subst (λ (wire : Looped FragmentServer). SameAllowed (allows_of wire) (allows_of after)) is same) (honest address);
}

few_if : (b : Bool) (triples : List Triple) → length triples < 2 ^ 64 → length (if b then triples else []) < 2 ^ 64
few_if true triples few = few
few_if false triples few = omega (arith, few)

pub honest_wire : (server : FragmentServer) (seed fail_every : ℕ) → (serving server).version ≡ 1 → IsValidDataSet (serving server).data_set → IsConfig (serving server).config → length (serving server).data_set < 2 ^ 64
    → (address : Address) → IsHonestWire (allows_of (begun server seed fail_every)) address ((serving server).data_set ∷ []) (serving server).config (wire_of (begun server seed fail_every))
honest_wire server seed fail_every first valid config few address = record {
  tells = refl;
  is_honest = honest (serving server) first address.host address.port;
  is_history = record { data_sets = (valid, tt); low = omega arith; high = omega arith };
  is_config = config;
  few = λ version. few_if (nat_le version 1) (serving server).data_set few;
}

-- ---- the solutions

pub version_is : (triples : List Triple) (version : ℕ) → 1 ≤ version → version ≤ 1 → version_of (triples ∷ []) version ≡ triples
version_is triples version low high = ap (version_of (triples ∷ [])) (same version low high)
  where
    same : (n : ℕ) → 1 ≤ n → n ≤ 1 → n ≡ 1
    same n a b = omega (arith, a, b)

pub answer_of_one : (block : ℕ) (triples : List Triple) (config : Config) (q : QueryData) (start : Address) (report : Report) (taken taken' : Option (List ℕ)) → WritesSolutions (offer_in_blocks block (publisher (triples ∷ []) config) q start) q report.version report.rows taken taken' → WritesAnswer triples q report.rows taken taken'
answer_of_one block triples config q start report taken taken' s = record {
  rows = s.rows;
  rows_are = subst (λ (ts : List Triple). IsPermutation (solutions_of ts q) s.rows) (version_is triples s.choice s.is_choice.low s.is_choice.high) s.rows_are;
  text = s.text;
  count = s.count;
}

pub front_of_one : (block : ℕ) (triples : List Triple) (config : Config) (q : QueryData) (start : Address) (taken taken' : Option (List ℕ)) → WritesSolutionsFront (offer_in_blocks block (publisher (triples ∷ []) config) q start) q taken taken' → WritesAnswerFront triples q taken taken'
front_of_one block triples config q start taken taken' s = record {
  rows = s.rows;
  rows_are = subst (λ (ts : List Triple). IsPermutation (solutions_of ts q) s.rows) (version_is triples s.choice s.is_choice.low s.is_choice.high) s.rows_are;
  text = s.text;
}
