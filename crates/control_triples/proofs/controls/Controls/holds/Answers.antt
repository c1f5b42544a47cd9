use Rattle.control_triples.proofs.controls.Controls.holds.Goals as goal

pub returns : goal.returns
returns c =
    let says = c.triples.ensures.members c.args.subject.now c.args.predicate.now c.args.object.now in (
      (λ h. says.0 (c.has_triple.ensures.0 h)),
      (λ h. c.has_triple.ensures.1 (says.1 h)),
    )
