use Rattle.std.specs.String.{string_bytes}
use Rattle.template_fill.proofs.PageTexts.{places-next, places-text}
use Rattle.template_fill.proofs.page.push_places.Goals as goal

pub returns-clause-next : goal.returns-clause-next
returns-clause-next c = places-next c.args.slots.now c.in_ok-mark.mark c.in_ok-mark-2.mark c.in_ok-mark-3.mark c.in_ok-mark.ensures.next c.in_ok-mark-2.ensures.next c.in_ok-mark-3.ensures.next

pub returns-clause-text : goal.returns-clause-text
returns-clause-text c = places-text c.args.slots.now c.in_ok-mark.mark c.in_ok-mark-2.mark (string_bytes c.args.out.now) (string_bytes c.push_slot.new.out) (string_bytes c.push_slot-2.new.out) (string_bytes c.push_slot-3.new.out) c.in_ok-mark.ensures.next c.in_ok-mark-2.ensures.next c.in_ok-mark.ensures.text c.in_ok-mark-2.ensures.text c.in_ok-mark-3.ensures.text
