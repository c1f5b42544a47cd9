use Rattle.list_laws.proofs.Begins.{begins_on}
use Rattle.hydra_controls.proofs.TermLaws.{line_cut}
use Rattle.hydra_controls.proofs.line_text.LineText.write.Goals as goal

pub returns-clause-ok : goal.returns-clause-ok
returns-clause-ok c =
    line_cut c.args.self c.args.cut.now c.push.new.self c.write.new.cut c.write-2.new.cut c.write-3.new.cut c.as_bytes.result.now
    c.args.out.now.items c.push.new.out.items c.write.new.out.items c.write-2.new.out.items c.write-3.new.out.items
    c.as_bytes.ensures.value c.in_ok-push.ensures.ok c.in_ok-write.ensures.ok c.in_ok-write-2.ensures.ok c.in_ok-write-3.ensures.ok

pub returns-in_err-write-clause-front : goal.returns-in_err-write-clause-front
returns-in_err-write-clause-front c = begins_on c.args.out.now.items c.push.new.out.items c.write.new.out.items c.in_ok-push.ensures.front c.in_err-write.ensures.front

pub returns-in_err-write-2-clause-front : goal.returns-in_err-write-2-clause-front
returns-in_err-write-2-clause-front c =
    let old = c.args.out.now.items in
    let one = c.push.new.out.items in
    let two = c.write.new.out.items in
    begins_on old two c.write-2.new.out.items (begins_on old one two c.in_ok-push.ensures.front c.in_ok-write.ensures.front) c.in_err-write-2.ensures.front

pub returns-in_err-write-3-clause-front : goal.returns-in_err-write-3-clause-front
returns-in_err-write-3-clause-front c =
    let old = c.args.out.now.items in
    let one = c.push.new.out.items in
    let two = c.write.new.out.items in
    let three = c.write-2.new.out.items in
    begins_on old three c.write-3.new.out.items (begins_on old two three (begins_on old one two c.in_ok-push.ensures.front c.in_ok-write.ensures.front) c.in_ok-write-2.ensures.front) c.in_err-write-3.ensures.front

pub returns-clause-front : goal.returns-clause-front
returns-clause-front c =
    let old = c.args.out.now.items in
    let one = c.push.new.out.items in
    let two = c.write.new.out.items in
    let three = c.write-2.new.out.items in
    begins_on old three c.write-3.new.out.items (begins_on old two three (begins_on old one two c.in_ok-push.ensures.front c.in_ok-write.ensures.front) c.in_ok-write-2.ensures.front) c.in_ok-write-3.ensures.front
