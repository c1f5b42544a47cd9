use Rattle.std.proofs.Common.{List, ℕ, false, ◌++◌, ap, ◌∙◌}
use Rattle.list_laws.proofs.Begins.{begins_on, same_begins}
use Rattle.tpf_base.proofs.DecimalTexts.{decimal_of_u128}
use Rattle.template_fill.specs.HttpAnswer.{NQuads, head_text}
use Rattle.page_responses.proofs.HeadLaws.{page_head_stands}
use Rattle.page_responses.proofs.head.write_page_head.Goals as goal

pub returns-clause-ok : goal.returns-clause-ok
returns-clause-ok c =
    page_head_stands c.make_room.new.out.items c.append.new.out.items c.append-2.new.out.items c.append-3.new.out.items c.format.result.now c.args.body_length
    c.in_ok-append.ensures.ok c.in_ok-append-2.ensures.ok (c.format.ensures.text ∙ decimal_of_u128 c.args.body_length c.ranges.body_length.fits) c.in_ok-append-3.ensures.ok
    ∙ ap (λ (l : List ℕ). l ++ head_text 200 NQuads c.args.body_length false) c.in_ok-make_room.ensures.same

pub returns-clause-front : goal.returns-clause-front
returns-clause-front c =
    let old = c.args.out.now.items in
    let room = c.make_room.new.out.items in
    let one = c.append.new.out.items in
    let two = c.append-2.new.out.items in
    begins_on old two c.append-3.new.out.items
    (begins_on old one two (begins_on old room one (same_begins old room c.in_ok-make_room.ensures.same) c.in_ok-append.ensures.front) c.in_ok-append-2.ensures.front)
    c.in_ok-append-3.ensures.front

pub returns-in_err-make_room-clause-front : goal.returns-in_err-make_room-clause-front
returns-in_err-make_room-clause-front c = same_begins c.args.out.now.items c.make_room.new.out.items c.in_err-make_room.ensures.same

pub returns-in_err-append-clause-front : goal.returns-in_err-append-clause-front
returns-in_err-append-clause-front c =
    let old = c.args.out.now.items in
    let room = c.make_room.new.out.items in
    begins_on old room c.append.new.out.items (same_begins old room c.in_ok-make_room.ensures.same) c.in_err-append.ensures.front

pub returns-in_err-append-2-clause-front : goal.returns-in_err-append-2-clause-front
returns-in_err-append-2-clause-front c =
    let old = c.args.out.now.items in
    let room = c.make_room.new.out.items in
    let one = c.append.new.out.items in
    begins_on old one c.append-2.new.out.items (begins_on old room one (same_begins old room c.in_ok-make_room.ensures.same) c.in_ok-append.ensures.front) c.in_err-append-2.ensures.front

pub returns-in_err-append-3-clause-front : goal.returns-in_err-append-3-clause-front
returns-in_err-append-3-clause-front c =
    let old = c.args.out.now.items in
    let room = c.make_room.new.out.items in
    let one = c.append.new.out.items in
    let two = c.append-2.new.out.items in
    begins_on old two c.append-3.new.out.items
    (begins_on old one two (begins_on old room one (same_begins old room c.in_ok-make_room.ensures.same) c.in_ok-append.ensures.front) c.in_ok-append-2.ensures.front)
    c.in_err-append-3.ensures.front
