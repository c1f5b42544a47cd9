use Rattle.std.proofs.Common.{ℕ, ◌≡◌, false, List, Some, is_err, refl, ap, ◌∙◌}
use Rattle.loop_wire.specs.Held.{new_link}
use Rattle.loop_wire.proofs.Waits.{pushed, held_push, is_wire_push, some_of}
use Rattle.loop_wire.proofs.links.give.Goals as goal

pub returns-clause-held : goal.returns-clause-held
returns-clause-held g c =
    let fine : is_err c.push.result ≡ false = ap is_err c.in_ok-push.was in
    let made : c.new.result ≡ new_link (Some (c.args.host.now, c.args.port)) = c.new.ensures ∙ ap (λ (h : List ℕ). new_link (Some (h, c.args.port))) c.in_ok-host.ensures in
    held_push _ _ _ _ (pushed c.push.result _ _ _ c.push.ensures.items fine) made

pub returns-clause-kept : goal.returns-clause-kept
returns-clause-kept g c = λ there stands kept.
    let fine : is_err c.push.result ≡ false = ap is_err c.in_ok-push.was in
    let server = some_of (there (Some (c.args.host.now, c.args.port))) stands in
    let made : c.new.result ≡ new_link (Some (c.args.host.now, c.args.port)) = c.new.ensures ∙ ap (λ (h : List ℕ). new_link (Some (h, c.args.port))) c.in_ok-host.ensures in
    is_wire_push _ _ _ _ _ (Some (c.args.host.now, c.args.port)) server.0 _ _ _ _ kept (pushed c.push.result _ _ _ c.push.ensures.items fine) server.1 made refl c.new-2.ensures.opens (c.new-2.ensures.suits server.0)
