-- It does what making does, and starves where that fails.
use Rattle.std.proofs.Common.{ap, sym}
use Rattle.std.proofs.lemmas.Result.{on_ok_weaker}
use Rattle.tpf_server.specs.Conversation.{Conversation}
use Rattle.tpf_server.proofs.ConversationLaws.{makes_answer}
use Rattle.tpf_server.proofs.KeptLaws.{few_taken, on_ok_failed}
use Rattle.tpf_server.proofs.connection.Connection.fill.Goals as goal

pub returns-then-is_err-clause-ok : goal.returns-then-is_err-clause-ok
returns-then-is_err-clause-ok c = on_ok_failed c.make-made.result _ (sym c.if-is_err.ensures.value)

pub returns-then-is_err-clause-full : goal.returns-then-is_err-clause-full
returns-then-is_err-clause-full c = λ h. on_ok_failed c.make-made.result _ (sym c.if-is_err.ensures.value)

pub returns-then-is_err-clause-full_ok : goal.returns-then-is_err-clause-full_ok
returns-then-is_err-clause-full_ok c = c.make-made.ensures.full_ok

pub returns-then-is_err-clause-idle : goal.returns-then-is_err-clause-idle
returns-then-is_err-clause-idle c = λ h. on_ok_failed c.make-made.result _ (sym c.if-is_err.ensures.value)

pub returns-then-is_err-clause-idle_ok : goal.returns-then-is_err-clause-idle_ok
returns-then-is_err-clause-idle_ok c = c.make-made.ensures.idle_ok

pub returns-then-is_err-clause-answers : goal.returns-then-is_err-clause-answers
returns-then-is_err-clause-answers c = on_ok_failed c.make-made.result _ (sym c.if-is_err.ensures.value)

pub returns-then-is_err-clause-some : goal.returns-then-is_err-clause-some
returns-then-is_err-clause-some c = on_ok_failed c.make-made.result _ (sym c.if-is_err.ensures.value)

pub returns-then-is_err-clause-few : goal.returns-then-is_err-clause-few
returns-then-is_err-clause-few c = few_taken _ c.make-made.new.self.pending c.starve.new.self.pending (ap (λ (x : Conversation). x.pending) c.starve.ensures) c.make-made.ensures.few

pub returns-then-is_err-clause-starved : goal.returns-then-is_err-clause-starved
returns-then-is_err-clause-starved c = c.make-made.ensures.starved

pub returns-else-is_err-clause-ok : goal.returns-else-is_err-clause-ok
returns-else-is_err-clause-ok c = c.make-made.ensures.ok

pub returns-else-is_err-clause-full : goal.returns-else-is_err-clause-full
returns-else-is_err-clause-full c = c.make-made.ensures.full

pub returns-else-is_err-clause-full_ok : goal.returns-else-is_err-clause-full_ok
returns-else-is_err-clause-full_ok c = c.make-made.ensures.full_ok

pub returns-else-is_err-clause-idle : goal.returns-else-is_err-clause-idle
returns-else-is_err-clause-idle c = c.make-made.ensures.idle

pub returns-else-is_err-clause-idle_ok : goal.returns-else-is_err-clause-idle_ok
returns-else-is_err-clause-idle_ok c = c.make-made.ensures.idle_ok

pub returns-else-is_err-clause-answers : goal.returns-else-is_err-clause-answers
returns-else-is_err-clause-answers c = on_ok_weaker c.make-made.result (makes_answer c.args.server.now.config c.args.self.now c.make-made.new.self) c.make-made.ensures.ok

pub returns-else-is_err-clause-some : goal.returns-else-is_err-clause-some
returns-else-is_err-clause-some c = c.make-made.ensures.some

pub returns-else-is_err-clause-few : goal.returns-else-is_err-clause-few
returns-else-is_err-clause-few c = c.make-made.ensures.few

pub returns-else-is_err-clause-starved : goal.returns-else-is_err-clause-starved
returns-else-is_err-clause-starved c = c.make-made.ensures.starved
