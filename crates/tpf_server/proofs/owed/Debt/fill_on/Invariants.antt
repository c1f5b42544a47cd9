use Rattle.std.proofs.Common.{length}
use Rattle.list_laws.specs.Begins.{Begins}
use Rattle.tpf_server.specs.Owed.{Fills, Fits, debt_text}
use Rattle.tpf_server.proofs.owed.Debt.fill_on.Given as goal

abbrev pub invariant-loop-self : goal.invariant-loop-self
invariant-loop-self l =
    Fills (debt_text l.fn.config l.fn.self.rest l.fn.self.waiting.items) (debt_text l.fn.config l.self.rest l.self.waiting.items) l.fn.given l.fn.out.items l.out.items
    × Fits l.self.rest l.self.waiting.items
    × Begins l.fn.out.items l.out.items

abbrev pub decreases-loop-self : goal.decreases-loop-self
decreases-loop-self l = length (debt_text l.fn.config l.self.rest l.self.waiting.items)
