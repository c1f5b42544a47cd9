use Rattle.list_laws.proofs.Begins.{begins_on}
use Rattle.page_responses.proofs.lines.write_triple.Goals as goal

pub returns-in_err-append_at-2-clause-front : goal.returns-in_err-append_at-2-clause-front
returns-in_err-append_at-2-clause-front c = begins_on c.args.out.now.items c.append_at.new.out.items c.append_at-2.new.out.items c.in_ok-append_at.ensures.front c.in_err-append_at-2.ensures.front

pub returns-in_err-append_at-3-clause-front : goal.returns-in_err-append_at-3-clause-front
returns-in_err-append_at-3-clause-front c =
    let old = c.args.out.now.items in
    let one = c.append_at.new.out.items in
    let two = c.append_at-2.new.out.items in
    begins_on old two c.append_at-3.new.out.items (begins_on old one two c.in_ok-append_at.ensures.front c.in_ok-append_at-2.ensures.front) c.in_err-append_at-3.ensures.front

pub returns-clause-front : goal.returns-clause-front
returns-clause-front c =
    let old = c.args.out.now.items in
    let one = c.append_at.new.out.items in
    let two = c.append_at-2.new.out.items in
    let three = c.append_at-3.new.out.items in
    begins_on old three c.append.new.out.items (begins_on old two three (begins_on old one two c.in_ok-append_at.ensures.front c.in_ok-append_at-2.ensures.front) c.in_ok-append_at-3.ensures.front) c.append.ensures.front
