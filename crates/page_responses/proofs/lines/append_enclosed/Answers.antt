use Rattle.list_laws.proofs.Begins.{begins_on}
use Rattle.page_responses.proofs.lines.append_enclosed.Goals as goal

pub returns-in_err-append-clause-front : goal.returns-in_err-append-clause-front
returns-in_err-append-clause-front c = begins_on c.args.out.now.items c.append_byte.new.out.items c.append.new.out.items c.in_ok-append_byte.ensures.front c.in_err-append.ensures.front

pub returns-in_err-append_byte-2-clause-front : goal.returns-in_err-append_byte-2-clause-front
returns-in_err-append_byte-2-clause-front c =
    let old = c.args.out.now.items in
    let one = c.append_byte.new.out.items in
    let two = c.append.new.out.items in
    begins_on old two c.append_byte-2.new.out.items (begins_on old one two c.in_ok-append_byte.ensures.front c.in_ok-append.ensures.front) c.in_err-append_byte-2.ensures.front

pub returns-clause-front : goal.returns-clause-front
returns-clause-front c =
    let old = c.args.out.now.items in
    let one = c.append_byte.new.out.items in
    let two = c.append.new.out.items in
    let three = c.append_byte-2.new.out.items in
    begins_on old three c.append_byte-3.new.out.items (begins_on old two three (begins_on old one two c.in_ok-append_byte.ensures.front c.in_ok-append.ensures.front) c.in_ok-append_byte-2.ensures.front) c.append_byte-3.ensures.front
