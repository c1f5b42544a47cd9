use Rattle.std.proofs.Common.{sym, ap, ◌∙◌, true, false}
use Rattle.tpf_base.specs.HttpReply.{body_place, Framing}
use Rattle.std.specs.Prelude.{Option}
use Rattle.http_wire.specs.Places.{announced}
use Rattle.http_wire.proofs.FramingLemmas.{place_chunked, place_refused, framing_measured, framing_coded}
use Rattle.http_wire.proofs.framing.next_by_fields.Goals as goal

pub returns-in-None : goal.returns-in-None
returns-in-None c = c.next_by_length.ensures ∙ ap (λ (f : Option Framing). body_place c.args.limit (announced c.args.keeps f)) (sym (framing_measured _ c.in-None.ensures))

pub returns-then-is_only : goal.returns-then-is_only
returns-then-is_only c = place_chunked c.args.limit c.args.keeps ∙ ap (λ (f : Option Framing). body_place c.args.limit (announced c.args.keeps f)) (sym (framing_coded _ c.in-Some.coding.now c.in-Some.ensures.0 true c.in-Some.ensures.1 (sym c.if-is_only.ensures)))

pub returns-else-is_only : goal.returns-else-is_only
returns-else-is_only c = place_refused c.args.limit c.args.keeps ∙ ap (λ (f : Option Framing). body_place c.args.limit (announced c.args.keeps f)) (sym (framing_coded _ c.in-Some.coding.now c.in-Some.ensures.0 false c.in-Some.ensures.1 (sym c.if-is_only.ensures)))
