-- What a step of the pool makes of the asks.
use Rattle.std.proofs.Common.{ap, sym, subst, ◌∙◌}
use Rattle.std.specs.Prelude.{Result}
use Rattle.request_pool.specs.declared.fault.PoolFault.{PoolFault}
use Rattle.request_pool.specs.Pools.{Pooled}
use Rattle.tpf_client.specs.declared.asks.Next.{Next}
use Rattle.tpf_client.specs.Asking.{StepsOn, next_of}
use Rattle.tpf_client.proofs.Traveling.{lawful-allowed}
use Rattle.tpf_client.proofs.Tickets.{step-differs, steps-on}
use Rattle.tpf_client.proofs.asks.Asks.step.Goals as goal

pub invariant_of-self : goal.invariant_of-self
invariant_of-self g c =
    let f = ap (λ (p : Pooled). p.fault) c.self.view_is ∙ c.requires.no_fault in
    step-differs (g.W.Wire.allows c.args.wire.now) c.self.inside.pool c.step-stepped.new.self (g.W.Wire.state c.args.wire.now) (g.W.Wire.state c.step-stepped.new.wire)
    c.step-stepped.result (c.step-stepped.ensures.holds f) (c.step-stepped.ensures.err f) f c.self.invariant

pub returns-clause-steps : goal.returns-clause-steps
returns-clause-steps g c =
    let f = ap (λ (p : Pooled). p.fault) c.self.view_is ∙ c.requires.no_fault in
    let allows = g.W.Wire.allows c.args.wire.now in
    let wire = g.W.Wire.state c.args.wire.now in
    let wire' = g.W.Wire.state c.step-stepped.new.wire in
    let ensured = c.step-stepped.ensures in
    subst (λ (r : Result Next PoolFault). StepsOn allows r c.args.self.now c.step-stepped.new.self wire wire') (sym c.next_of.ensures)
    (subst (λ (p : Pooled). StepsOn allows (next_of c.step-stepped.result) p c.step-stepped.new.self wire wire') c.self.view_is
    (steps-on allows c.self.inside.pool c.step-stepped.new.self wire wire' c.step-stepped.result (ensured.ok f) (ensured.holds f) (ensured.err f) (ensured.no_fault f) (ensured.idle f)
    f c.self.invariant ensured.suits ensured.bounds (lawful-allowed allows (g.W.Wire.allows c.step-stepped.new.wire) wire' ensured.allowed c.is_lawful.ensures)))
