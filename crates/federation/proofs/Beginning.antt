-- A federation before its first ask.
use Rattle.std.proofs.Common.{ℕ, zero, suc, min, inl, inr, ◌≡◌, ◌*◌, ◌<◌, ◌≤◌, List, [], refl, ap, sym, subst, ◌∙◌, arith}
use Rattle.std.proofs.Math.Nat.{mul-pos}
use Rattle.std.specs.List.{All}
use Rattle.std.proofs.lemmas.Bool.{cases_lt}
use Rattle.std.proofs.lemmas.List.Elements.{All-nil}
use Rattle.std.proofs.lemmas.Nat.{mul-le}
use Rattle.bgp_core.specs.Queries.{QueryData}
use Rattle.request_plan.specs.Rounds.{RoundData}
use Rattle.request_plan.specs.Worlds.{World}
use Rattle.join_core.specs.Joins.{JoinData, tickets_out, Begins}
use Rattle.join_core.specs.JoinLaws.{begun-left}
use Rattle.request_plan.specs.Evaluations.{Terms}
use Rattle.join_core.specs.Sound.{KeepsTo, IsKeptSmall}
use Rattle.plan_laws.specs.JointWorlds.{joint_world}
use Rattle.joint_pages.specs.Gatherings.{GatheringData}
use Rattle.joint_pages.specs.Truths.{AreServers, HoldsTrue}
use Rattle.bgp_core.specs.Solutions.{no_names_bound}
use Rattle.request_plan.specs.Beginnings.{BeginsWith}
use Rattle.federation.specs.Beginnings.{joint_rows, joint_plan, most_pages}
use Rattle.federation.specs.Federations.{FederationData, SuitsAll, KeepsAll, KeepsSmall, KeepsRound, IsItsRound, account_of, times}

-- ---- products that stand still at a bound

pub capped : (a b most : ℕ) → min (a * min b most) most ≡ min (a * b) most
capped zero b most = omega arith
capped (suc a) b most = elim (cases_lt most b) [
  | inl h ↦ let lower : most ≤ min b most = omega (arith, h) in
      let one = mul-le 1 (min b most) (suc a) (min b most) (omega arith) (omega arith) in
      let two = mul-le 1 b (suc a) b (omega arith) (omega arith) in
      let left : min (suc a * min b most) most ≡ most = omega (arith, one, lower) in
      let right : min (suc a * b) most ≡ most = omega (arith, two, h) in
      left ∙ sym right
  | inr h ↦ let is : min b most ≡ b = omega (arith, h) in ap (λ (n : ℕ). min (suc a * n) most) is
]

-- ---- a federation before its first ask

-- no round is gathered, and no ticket was given
abbrev pub fresh : JoinData → ℕ → FederationData
fresh j most = record { join = j; rounds = []; given = 0; awaited = 0; most = most }

abbrev pub fresh-of : JoinData → List GatheringData → ℕ → FederationData
fresh-of j rounds most = record { join = j; rounds = rounds; given = 0; awaited = 0; most = most }

pub fresh-suits : (worlds : List World) (q : QueryData) (j : JoinData) (most : ℕ) → AreServers worlds → Begins (joint_world worlds) q.patterns (no_names_bound q) j → SuitsAll worlds (fresh j most)
fresh-suits worlds q j most servers b =
    let w = joint_world worlds in
    record {
      servers = servers;
      join = b.suits;
      pages = All-nil (HoldsTrue worlds);
      rounds = All-nil (IsItsRound w j);
      numbers = All-nil (λ g. g.number < j.tickets);
      tickets = subst (λ (l : List (ℕ × RoundData)). All (λ o. o.0 < j.tickets) l) (sym b.out) (All-nil (λ o. o.0 < j.tickets));
    }

pub fresh-owes : (worlds : List World) (q : QueryData) (j : JoinData) (most : ℕ) → Begins (joint_world worlds) q.patterns (no_names_bound q) j → BeginsWith (joint_rows worlds q) (joint_plan worlds q) (account_of worlds (fresh j most))
fresh-owes worlds q j most b = record { owed = b.owed; left = begun-left (joint_world worlds) q.patterns (no_names_bound q) j b; out = refl }

pub fresh-keeps : (terms : Terms) (j : JoinData) (most : ℕ) → KeepsTo terms j → tickets_out j ≡ [] → KeepsAll terms (fresh j most)
fresh-keeps terms j most k e = record {
  join = k;
  rounds = All-nil (KeepsRound terms.homes);
  numbers = λ n. ap (λ (l : List ℕ). times n l) e;
  tickets = All-nil (λ t. t < 0);
  counted = refl;
}

pub fresh-small : (patterns window servers : ℕ) (j : JoinData) (most : ℕ) → IsKeptSmall patterns 1 j → j.longest ≡ 1 → 1 ≤ window → 0 < servers → most ≡ most_pages patterns window servers → KeepsSmall (record { patterns = patterns; window = window * servers }) (fresh j most)
fresh-small patterns window servers j most k e some servers_are is = record {
  join = subst (λ (m : ℕ). IsKeptSmall patterns m j) (sym e) k;
  window = mul-pos some servers_are;
  most = omega (arith, is);
  rounds = All-nil (λ g. 0 < patterns);
  counted = refl;
  few = omega arith;
}
