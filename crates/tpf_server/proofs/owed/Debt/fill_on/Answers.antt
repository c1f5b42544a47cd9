use Rattle.std.proofs.Common.{sym, ◌∙◌, inl, inr, arith}
use Rattle.list_laws.proofs.Begins.{begins_on}
use Rattle.tpf_server.specs.Owed.{debt_text}
use Rattle.tpf_server.proofs.DebtLaws.{debt_settled, fills_more, fills_settled, left_settled}
use Rattle.tpf_server.proofs.owed.Debt.fill_on.Goals as goal
use Rattle.tpf_server.proofs.owed.Debt.fill_on.Goals.{then-loop-self-test+else-is_left, else-loop-self-test}

pub loop-self-preserved : goal.loop-self-preserved
loop-self-preserved c = (
  fills_more (debt_text c.args.config.now c.args.self.now.rest c.args.self.now.waiting.items) (debt_text c.args.config.now c.loop-self.self.rest c.loop-self.self.waiting.items) (debt_text c.args.config.now c.give.new.self.rest c.give.new.self.waiting.items) c.args.given c.args.out.now.items c.loop-self.out.items c.give.new.out.items
      c.requires.given (omega (arith, c.loop-self-test.true, c.len.ensures)) c.loop-self.invariant.0 c.in_ok-give.ensures.ok,
  c.in_ok-give.ensures.fits,
  begins_on c.args.out.now.items c.loop-self.out.items c.give.new.out.items c.loop-self.invariant.2 c.in_ok-give.ensures.front,
)

pub returns-clause-ok : goal.returns-clause-ok
returns-clause-ok c = record {
  fills =
      fills_settled (debt_text c.args.config.now c.args.self.now.rest c.args.self.now.waiting.items) (debt_text c.args.config.now c.loop-self.self.rest c.loop-self.self.waiting.items) (debt_text c.args.config.now c.settle.new.self c.loop-self.self.waiting.items) c.args.given c.args.out.now.items c.loop-self.out.items
      (debt_settled c.args.config.now c.loop-self.self.rest c.settle.new.self c.loop-self.self.waiting.items c.settle.ensures.text) c.loop-self.invariant.0;
  enough =
      elim c.loop-self-test.branch [
        | then-loop-self-test+else-is_left w ↦ inr (left_settled c.loop-self.self.rest c.settle.new.self c.loop-self.self.waiting.items c.settle.ensures.left (sym w.is_left.ensures ∙ w.if-is_left.false))
        | else-loop-self-test w ↦ inl (omega (arith, w.loop-self-test.false, c.len.ensures))
      ];
  fits = record { range = c.settle.ensures.range c.loop-self.invariant.1.range; asked = c.loop-self.invariant.1.asked };
}
