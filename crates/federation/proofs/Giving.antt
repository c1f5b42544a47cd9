-- A federation that gives a row.
use Rattle.std.proofs.Common.{ℕ, ◌≡◌, ◌+◌, ◌<◌, List, [], length, Option, Some, None, refl, ap, sym, subst, ◌∙◌}
use Rattle.std.specs.Prelude.{MatchOption, ⊤}
use Rattle.std.specs.List.{All, Contains}
use Rattle.std.proofs.lemmas.List.Elements.{All-weaker}
use Rattle.std.proofs.lemmas.List.Sorted.{IsPermutation-refl, IsPermutation-append_right}
use Rattle.list_laws.proofs.Orders.{flat_map_IsPermutation}
use Rattle.bgp_core.specs.Solutions.{Places}
use Rattle.request_plan.specs.Rounds.{RoundData, addresses_in}
use Rattle.request_plan.specs.Worlds.{World}
use Rattle.join_core.specs.Joins.{JoinData, GivesRow, out, left_over}
use Rattle.request_plan.specs.Evaluations.{Terms, Sizes, TakesOne, GivesOwed}
use Rattle.join_core.specs.Sound.{IsKeptSmall}
use Rattle.plan_laws.specs.JointWorlds.{joint_world}
use Rattle.federation.specs.Federations.{FederationData, SuitsAll, KeepsAll, KeepsSmall, IsItsRound, account_of, standing_of, all_wanted, times}
use Rattle.federation.specs.Steps.{GivesOne}

-- the same federation with another join
abbrev pub with-join : FederationData → JoinData → FederationData
with-join old j = record { join = j; rounds = old.rounds; given = old.given; awaited = old.awaited; most = old.most }

row-suits : (worlds : List World) (old : FederationData) (j : JoinData) (row : Places) → GivesRow (joint_world worlds) old.join j row → j.tickets ≡ old.join.tickets → SuitsAll worlds old → SuitsAll worlds (with-join old j)
row-suits worlds old j row g e s =
    let w = joint_world worlds in
    record {
      servers = s.servers;
      join = g.suits;
      pages = s.pages;
      rounds = All-weaker (IsItsRound w old.join) (IsItsRound w j) (λ x is. λ round m. is round (subst (λ (l : List (ℕ × RoundData)). Contains l (x.number, round)) g.out m)) old.rounds s.rounds;
      numbers = subst (λ (n : ℕ). All (λ x. x.number < n) old.rounds) (sym e) s.numbers;
      tickets = subst (λ (n : ℕ). All (λ o. o.0 < n) (out w j)) (sym e) (subst (λ (l : List (ℕ × RoundData)). All (λ o. o.0 < old.join.tickets) l) (sym g.out) s.tickets);
    }

row-owes : (worlds : List World) (old : FederationData) (j : JoinData) (row : Places) → GivesRow (joint_world worlds) old.join j row → GivesOwed (account_of worlds old) (account_of worlds (with-join old j)) row
row-owes worlds old j row g =
    let w = joint_world worlds in
    record {
      owed = g.owed;
      left = IsPermutation-append_right (all_wanted old.rounds) (addresses_in (left_over w old.join)) (addresses_in (left_over w j)) (flat_map_IsPermutation (λ (r : RoundData). r.addresses) (left_over w old.join) (left_over w j) g.left);
      out = IsPermutation-refl _;
    }

module _ (old new : FederationData) (row : Option Places) (h : GivesOne old new row) where
  after : (P : FederationData → Type 0) → P (with-join old h.join) → P new
  after P p = subst P (sym h.done) p

  pub given-none : MatchOption row ((standing_of old).waiting ≡ 0) (λ r. TakesOne (standing_of old) (standing_of new))
  given-none = by row h.takes.none h.takes.one where
    by : (o : Option Places) → MatchOption o (old.join.waiting ≡ []) (λ r. ⊤) → MatchOption o ⊤ (λ r. length old.join.waiting ≡ length h.join.waiting + 1) → MatchOption o ((standing_of old).waiting ≡ 0) (λ r. TakesOne (standing_of old) (standing_of new))
    by None e one = ap length e
    by (Some r) e one = after (λ f. TakesOne (standing_of old) (standing_of f)) (record { given = refl; out = refl; waiting = one })

  pub given-unchanged : MatchOption row (new ≡ old) (λ r. ⊤)
  given-unchanged = by row h.takes.stays where
    by : (o : Option Places) → MatchOption o (h.join ≡ old.join) (λ r. ⊤) → MatchOption o (new ≡ old) (λ r. ⊤)
    by None e = h.done ∙ ap (λ (j : JoinData). with-join old j) e
    by (Some r) e = tt

  pub given-suits : (worlds : List World) → SuitsAll worlds old → SuitsAll worlds new
  given-suits worlds s = after (SuitsAll worlds) (by row h.takes.stays (h.takes.row (joint_world worlds) s.join)) where
    by : (o : Option Places) → MatchOption o (h.join ≡ old.join) (λ r. ⊤) → MatchOption o ⊤ (GivesRow (joint_world worlds) old.join h.join) → SuitsAll worlds (with-join old h.join)
    by None e g = subst (λ (j : JoinData). SuitsAll worlds (with-join old j)) (sym e) s
    by (Some r) e g = row-suits worlds old h.join r g h.takes.kept.0 s

  pub given-owes : (worlds : List World) → SuitsAll worlds old → MatchOption row ⊤ (GivesOwed (account_of worlds old) (account_of worlds new))
  given-owes worlds s = by row (h.takes.row (joint_world worlds) s.join) where
    by : (o : Option Places) → MatchOption o ⊤ (GivesRow (joint_world worlds) old.join h.join) → MatchOption o ⊤ (GivesOwed (account_of worlds old) (account_of worlds new))
    by None g = tt
    by (Some r) g = after (λ f. GivesOwed (account_of worlds old) (account_of worlds f) r) (row-owes worlds old h.join r g)

  pub given-keeps : (terms : Terms) → KeepsAll terms old → KeepsAll terms new
  given-keeps terms k = after (KeepsAll terms) (record {
    join = h.takes.keeps terms k.join;
    rounds = k.rounds;
    numbers = λ n. ap (λ (l : List ℕ). times n l) h.takes.tickets ∙ k.numbers n;
    tickets = k.tickets;
    counted = k.counted;
  })

  pub given-width : (terms : Terms) → KeepsAll terms old → MatchOption row ⊤ (λ r. length r ≡ terms.width)
  given-width terms k = h.takes.width terms k.join

  pub given-small : (sizes : Sizes) → KeepsSmall sizes old → KeepsSmall sizes new
  given-small sizes k = after (KeepsSmall sizes) (record {
    join = subst (λ (m : ℕ). IsKeptSmall sizes.patterns m h.join) (sym h.takes.kept.1) (h.takes.small sizes.patterns old.join.longest k.join);
    window = k.window;
    most = k.most;
    rounds = k.rounds;
    counted = k.counted;
    few = k.few;
  })
