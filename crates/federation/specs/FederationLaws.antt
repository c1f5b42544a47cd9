-- Serves proofs alone: the laws of a federation as an evaluation.
use Rattle.std.proofs.Common.{ℕ, suc, ◌≡◌, ◌*◌, ◌<◌, ◌≤◌, ◌&&◌, Bool, true, false, List, [], ◌∷◌, ◌++◌, length, refl, ap, ◌∙◌, arith}
use Rattle.std.specs.Prelude.{◌==◌}
use Rattle.std.specs.List.{All, flat_map}
use Rattle.std.proofs.lemmas.Bool.Decides.{nat_tests}
use Rattle.tpf_base.specs.Addresses.{Address}
use Rattle.bgp_core.specs.Solutions.{Places}
use Rattle.request_plan.specs.Rounds.{addresses_in}
use Rattle.request_plan.specs.Worlds.{World}
use Rattle.join_core.specs.Nodes.{NodeData, future, left}
use Rattle.join_core.specs.Joins.{nodes}
use Rattle.join_core.specs.JoinAccounts.{is_over}
use Rattle.request_plan.specs.Evaluations.{Account, Terms, Sizes, nothing}
use Rattle.plan_laws.specs.JointWorlds.{joint_world}
use Rattle.joint_pages.specs.Gatherings.{GatheringData}
use Rattle.federation.specs.Federations.{FederationData, SuitsAll, KeepsAll, KeepsSmall, account_of, standing_of, all_wanted, all_tickets, all_outs}

no-suc : (n : ℕ) → (suc n == 0) ≡ true → ⊥
no-suc n e = grind (arith, nat_tests)

none : {X : Type 0} (xs : List X) → (length xs == 0) ≡ true → xs ≡ []
none [] e = refl
none (x ∷ xs) e = absurd (no-suc (length xs) e)

both : (a b : Bool) → (a && b) ≡ true → (a ≡ true) × (b ≡ true)
both true true e = (refl, refl)
both true false e = cc
both false b e = cc

-- no row waits, no node is open, and no round is gathered
record IsOver (f : FederationData) : Type 0 where
  rows : f.join.waiting ≡ []
  nodes : nodes f.join.levels ≡ []
  rounds : f.rounds ≡ []

over : (f : FederationData) → (standing_of f).done ≡ true → IsOver f
over f e =
    let parts = both (is_over f.join) _ e in
    let join = both (length f.join.waiting == 0) _ parts.0 in
    record { rows = none f.join.waiting join.0; nodes = none (nodes f.join.levels) join.1; rounds = none f.rounds parts.1 }

account : List Places → List Address → List (ℕ × Address) → Account
account rows addresses tickets = record { owed = rows; left = addresses; out = tickets }

account-is : (rows : List Places) (addresses : List Address) (tickets : List (ℕ × Address)) → rows ≡ [] → addresses ≡ [] → tickets ≡ [] → account rows addresses tickets ≡ nothing
unfolding account
account-is rows addresses tickets e f g = ap (λ (x : List Places). account x addresses tickets) e ∙ ap (λ (x : List Address). account [] x tickets) f ∙ ap (λ (x : List (ℕ × Address)). account [] [] x) g

pub done-owes-nothing : (worlds : List World) (f : FederationData) → SuitsAll worlds f → (standing_of f).done ≡ true → account_of worlds f ≡ nothing
unfolding account
done-owes-nothing worlds f is e =
    let o = over f e in
    let w = joint_world worlds in
    account-is _ _ _ (ap (λ l. l ++ flat_map (future w) (nodes f.join.levels)) o.rows ∙ ap (λ (l : List NodeData). flat_map (future w) l) o.nodes)
    (ap (λ (l : List GatheringData). all_wanted l ++ addresses_in (flat_map (left w) (nodes f.join.levels))) o.rounds ∙ ap (λ (l : List NodeData). addresses_in (flat_map (left w) l)) o.nodes)
    (ap (λ (l : List GatheringData). all_outs l) o.rounds)

pub done-is-quiet : (f : FederationData) → (standing_of f).done ≡ true → ((standing_of f).out ≡ []) × ((standing_of f).waiting ≡ 0)
done-is-quiet f e = let o = over f e in (ap (λ (l : List GatheringData). all_tickets l) o.rounds, ap length o.rows)

pub tickets-are-below : (terms : Terms) (f : FederationData) → KeepsAll terms f → All (λ t. t < (standing_of f).given) (standing_of f).out
tickets-are-below terms f k = k.tickets

pub out-is-small : (terms : Terms) (sizes : Sizes) (f : FederationData) → KeepsAll terms f → KeepsSmall sizes f → length (standing_of f).out ≤ sizes.patterns * sizes.window
out-is-small terms sizes f k s = s.few
