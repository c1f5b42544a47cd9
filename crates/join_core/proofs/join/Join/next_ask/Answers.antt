use Rattle.std.proofs.Common.{sym, subst, ◌∙◌}
use Rattle.std.specs.List.{All}
use Rattle.join_core.specs.Joins.{JoinData, Suits}
use Rattle.join_core.specs.Sound.{KeepsTo, IsKeptSmall}
use Rattle.request_plan.specs.Evaluations.{HasHome}
use Rattle.join_core.proofs.Evaluating.{handed-as, first-as, one-ask-home}
use Rattle.join_core.proofs.join.Join.next_ask.Goals.{in-None, in-Some}
use Rattle.join_core.proofs.join.Join.next_ask.Goals as goal

pub returns-clause-asks : goal.returns-clause-asks
returns-clause-asks c = λ w s.
    let s' : Suits w c.self.inside.join = subst (λ (j : JoinData). Suits w j) (sym c.self.view_is) s.1 in
    elim c.match-branch-2.branch [
      | in-None b ↦ rw (b.result-is) (rw b.in-None.is at (c.in_ok-next_round.ensures.asks w s') ∙ c.self.view_is)
      | in-Some b ↦ rw (b.result-is) (
          handed-as w c.self.inside.join c.args.self.now _ _ _ _ _ c.self.view_is s.0 b.into_parts-address.ensures.addresses (rw b.in-Some.is at (c.in_ok-next_round.ensures.asks w s')))
    ]

pub returns-clause-starts : goal.returns-clause-starts
returns-clause-starts c =
    elim c.match-branch-2.branch [
      | in-None b ↦ rw (b.result-is) (rw b.in-None.is at c.in_ok-next_round.ensures.starts ∙ c.self.view_is)
      | in-Some b ↦ rw (b.result-is) (first-as c.self.inside.join c.args.self.now _ _ _ _ c.self.view_is b.into_parts-address.ensures.addresses (rw b.in-Some.is at c.in_ok-next_round.ensures.starts))
    ]

pub returns-clause-at_home : goal.returns-clause-at_home
returns-clause-at_home c = λ terms k.
    let k' : KeepsTo terms c.self.inside.join = subst (λ (j : JoinData). KeepsTo terms j) (sym c.self.view_is) k in
    elim c.match-branch-2.branch [
      | in-None b ↦ rw (b.result-is) tt
      | in-Some b ↦ rw (b.result-is) (one-ask-home terms.homes _ _ (subst (λ l. All (HasHome terms.homes) l) b.into_parts-address.ensures.addresses (rw b.in-Some.is at (c.in_ok-next_round.ensures.at_home terms k'))))
    ]

pub returns-clause-keeps : goal.returns-clause-keeps
returns-clause-keeps c = λ terms k. c.next_round.ensures.keeps terms (subst (λ (j : JoinData). KeepsTo terms j) (sym c.self.view_is) k)

pub returns-clause-small : goal.returns-clause-small
returns-clause-small c = λ n m k. c.next_round.ensures.small n m (subst (λ (j : JoinData). IsKeptSmall n m j) (sym c.self.view_is) k)
