use Rattle.std.proofs.Common.{sym, ap, ◌∙◌}
use Rattle.tpf_base.specs.HttpReply.{body_place, Framing, sized_by}
use Rattle.std.specs.Prelude.{Option}
use Rattle.http_wire.specs.Places.{announced}
use Rattle.http_wire.proofs.FramingLemmas.{place_close, place_refused, sized_yes, sized_no}
use Rattle.http_wire.proofs.framing.next_by_length.Goals as goal

pub returns-in-None : goal.returns-in-None
returns-in-None c = place_close c.args.limit c.args.keeps ∙ ap (λ (f : Option Framing). body_place c.args.limit (announced c.args.keeps f)) (sym (ap sized_by c.in-None.ensures))

pub returns-then-is_length : goal.returns-then-is_length
returns-then-is_length c = c.next_by_digits.ensures ∙ ap (λ (f : Option Framing). body_place c.args.limit (announced c.args.keeps f)) (sym (sized_yes _ c.in-Some.value.now c.in-Some.ensures.0 c.in-Some.ensures.1 (sym c.if-is_length.ensures)))

pub returns-else-is_length : goal.returns-else-is_length
returns-else-is_length c = place_refused c.args.limit c.args.keeps ∙ ap (λ (f : Option Framing). body_place c.args.limit (announced c.args.keeps f)) (sym (sized_no _ c.in-Some.value.now c.in-Some.ensures.0 c.in-Some.ensures.1 (sym c.if-is_length.ensures)))
