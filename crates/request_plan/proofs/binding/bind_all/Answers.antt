use Rattle.std.proofs.Common.{sym}
use Rattle.request_plan.proofs.Bindings.{fitting, bound-allows, bound-all}
use Rattle.request_plan.proofs.binding.bind_all.Goals as goal

pub bind-requires-clause-allowed : goal.bind-requires-clause-allowed
bind-requires-clause-allowed c = (fitting c.args.pattern.now c.args.row c.args.triple c.requires.allowed).subject

pub bind-requires-2-clause-allowed : goal.bind-requires-2-clause-allowed
bind-requires-2-clause-allowed c =
    let p = c.args.pattern.now in
    let t = c.args.triple in
    let f = fitting p c.args.row t c.requires.allowed in
    bound-allows p.subject p.predicate t.subject t.predicate c.args.row c.in-Ok.begun c.in-Ok.ensures.value f.predicate f.second

pub bind-requires-3-clause-allowed : goal.bind-requires-3-clause-allowed
bind-requires-3-clause-allowed c =
    let p = c.args.pattern.now in
    let t = c.args.triple in
    let f = fitting p c.args.row t c.requires.allowed in
    let object = bound-allows p.subject p.object t.subject t.object c.args.row c.in-Ok.begun c.in-Ok.ensures.value f.object f.third in
    bound-allows p.predicate p.object t.predicate t.object c.in-Ok.begun c.in-Ok-bind.grown c.in-Ok-bind.ensures.value object f.last

pub returns-clause-value : goal.returns-clause-value
returns-clause-value c = sym (bound-all c.args.pattern.now c.args.row c.in-Ok.begun c.in-Ok-bind.grown c.in_ok-whole.whole c.args.triple c.in-Ok.ensures.value c.in-Ok-bind.ensures.value c.in_ok-whole.ensures.value)
