use Rattle.std.proofs.Common.{◌≢◌, refl, ap, ◌∙◌, length, min}
use Rattle.tpf_base.specs.Causes.{counted}
use Rattle.tpf_base.specs.Failures.{CallCounts, room}
use Rattle.tpf_base.specs.declared.wire.Moved.TheVariants as answers
use Rattle.script_wire.specs.Scripts.{spoken_on, rest_at, place_after}
use Rattle.script_wire.proofs.Places.{open_below}
use Rattle.script_wire.proofs.Calls.{hears_bytes, hears_end, hears_nothing, by_script, after_as}
use Rattle.script_wire.proofs.wire.ScriptWireWire.recv.Goals as goal

pub returns-in-Moved-clause-answer : goal.returns-in-Moved-clause-answer
returns-in-Moved-clause-answer c = λ free able script at.
    let heard = c.in-Moved.ensures in
    by_script _ script c.index.result.now _ _ c.index_mut-2.result.now _ _ _ _ _ _ _ _ at c.index.ensures (open_below _ _ c.requires.is_open) c.index_mut-2.ensures.value
    (c.count_spoken-spoken.ensures ∙ ap spoken_on c.deref.ensures.value) (ap (λ (counts : CallCounts). counts.failing) c.is_next_due.ensures.counts)
    (heard.answer able) (heard.after able) (λ m same. (heard.bytes m same).2)

pub returns-in-End-clause-answer : goal.returns-in-End-clause-answer
returns-in-End-clause-answer c = λ free able script at.
    let heard = c.in-End.ensures in
    by_script _ script c.index.result.now _ _ c.index_mut-2.result.now _ _ _ _ _ _ _ _ at c.index.ensures (open_below _ _ c.requires.is_open) c.index_mut-2.ensures.value
    (c.count_spoken-spoken.ensures ∙ ap spoken_on c.deref.ensures.value) (ap (λ (counts : CallCounts). counts.failing) c.is_next_due.ensures.counts)
    (heard.answer able) (heard.after able) (λ m same. (heard.bytes m same).2)

pub returns-in-NotYet-clause-answer : goal.returns-in-NotYet-clause-answer
returns-in-NotYet-clause-answer c = λ free able script at.
    let heard = c.in-NotYet.ensures in
    by_script _ script c.index.result.now _ _ c.index_mut-2.result.now _ _ _ _ _ _ _ _ at c.index.ensures (open_below _ _ c.requires.is_open) c.index_mut-2.ensures.value
    (c.count_spoken-spoken.ensures ∙ ap spoken_on c.deref.ensures.value) (ap (λ (counts : CallCounts). counts.failing) c.is_next_due.ensures.counts)
    (heard.answer able) (heard.after able) (λ m same. (heard.bytes m same).2)

pub returns-in-Moved-clause-receives : goal.returns-in-Moved-clause-receives
returns-in-Moved-clause-receives c =
    let heard = c.in-Moved.ensures in
    let able : answers.Moved c.in-Moved.n ≢ answers.OutOfMemory = λ same. absurd cc in
    let script = c.index.result.now in
    let held = c.index_mut-2.result.now in
    let room_for = room c.is_next_due.new.self.failing c.args.self.now.moved (min (length c.args.to.now) (length (rest_at script held.place))) in
    let some = heard.bytes c.in-Moved.n refl in
    hears_bytes _ c.in-Moved.n (counted c.args.self.now.failures.calls) _ (rest_at script held.place) _ held c.receive-answer.new.self
    (place_after script c.count_spoken-spoken.result room_for held.place) c.args.self.now.failures c.is_next_due.new.self _ _ _ (open_below _ _ c.requires.is_open) c.index_mut-2.ensures.value
    (after_as script c.count_spoken-spoken.result room_for held _ _ (heard.answer able) (heard.after able)) c.is_next_due.ensures.counts some.0 some.1 some.2

pub returns-in-End-clause-receives : goal.returns-in-End-clause-receives
returns-in-End-clause-receives c =
    let heard = c.in-End.ensures in
    let able : answers.End ≢ answers.OutOfMemory = λ same. absurd cc in
    let script = c.index.result.now in
    let held = c.index_mut-2.result.now in
    let room_for = room c.is_next_due.new.self.failing c.args.self.now.moved (min (length c.args.to.now) (length (rest_at script held.place))) in
    hears_end _ (counted c.args.self.now.failures.calls) _ (rest_at script held.place) _ held c.receive-answer.new.self
    (place_after script c.count_spoken-spoken.result room_for held.place) c.args.self.now.failures c.is_next_due.new.self _ _ _ (open_below _ _ c.requires.is_open) c.index_mut-2.ensures.value
    (after_as script c.count_spoken-spoken.result room_for held _ _ (heard.answer able) (heard.after able)) c.is_next_due.ensures.counts

pub returns-in-NotYet-clause-receives : goal.returns-in-NotYet-clause-receives
returns-in-NotYet-clause-receives c =
    let heard = c.in-NotYet.ensures in
    let able : answers.NotYet ≢ answers.OutOfMemory = λ same. absurd cc in
    let script = c.index.result.now in
    let held = c.index_mut-2.result.now in
    let room_for = room c.is_next_due.new.self.failing c.args.self.now.moved (min (length c.args.to.now) (length (rest_at script held.place))) in
    hears_nothing _ (counted c.args.self.now.failures.calls) _ (rest_at script held.place) _ held c.receive-answer.new.self
    (place_after script c.count_spoken-spoken.result room_for held.place) c.args.self.now.failures c.is_next_due.new.self _ _ _ (open_below _ _ c.requires.is_open) c.index_mut-2.ensures.value
    (after_as script c.count_spoken-spoken.result room_for held _ _ (heard.answer able) (heard.after able)) c.is_next_due.ensures.counts heard.later
