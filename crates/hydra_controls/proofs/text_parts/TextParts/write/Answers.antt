use Rattle.list_laws.proofs.Begins.{begins_on}
use Rattle.hydra_controls.proofs.TermLaws.{text_cut}
use Rattle.hydra_controls.proofs.text_parts.TextParts.write.Goals as goal

pub returns-clause-ok : goal.returns-clause-ok
returns-clause-ok c =
    text_cut c.args.self c.args.cut.now c.push.new.self c.push-2.new.self c.push_digits.new.cut c.push-3.new.self
    c.as_bytes.result.now c.as_bytes-2.result.now c.as_bytes-3.result.now c.args.out.now.items c.push.new.out.items c.push-2.new.out.items c.push_digits.new.out.items c.push-3.new.out.items
    c.as_bytes.ensures.value c.as_bytes-2.ensures.value c.as_bytes-3.ensures.value c.in_ok-push.ensures.ok c.in_ok-push-2.ensures.ok c.in_ok-push_digits.ensures.ok c.in_ok-push-3.ensures.ok

pub returns-in_err-push-2-clause-front : goal.returns-in_err-push-2-clause-front
returns-in_err-push-2-clause-front c = begins_on c.args.out.now.items c.push.new.out.items c.push-2.new.out.items c.in_ok-push.ensures.front c.in_err-push-2.ensures.front

pub returns-in_err-push_digits-clause-front : goal.returns-in_err-push_digits-clause-front
returns-in_err-push_digits-clause-front c =
    let old = c.args.out.now.items in
    let one = c.push.new.out.items in
    let two = c.push-2.new.out.items in
    begins_on old two c.push_digits.new.out.items (begins_on old one two c.in_ok-push.ensures.front c.in_ok-push-2.ensures.front) c.in_err-push_digits.ensures.front

pub returns-in_err-push-3-clause-front : goal.returns-in_err-push-3-clause-front
returns-in_err-push-3-clause-front c =
    let old = c.args.out.now.items in
    let one = c.push.new.out.items in
    let two = c.push-2.new.out.items in
    let three = c.push_digits.new.out.items in
    begins_on old three c.push-3.new.out.items (begins_on old two three (begins_on old one two c.in_ok-push.ensures.front c.in_ok-push-2.ensures.front) c.in_ok-push_digits.ensures.front) c.in_err-push-3.ensures.front

pub returns-clause-front : goal.returns-clause-front
returns-clause-front c =
    let old = c.args.out.now.items in
    let one = c.push.new.out.items in
    let two = c.push-2.new.out.items in
    let three = c.push_digits.new.out.items in
    begins_on old three c.push-3.new.out.items (begins_on old two three (begins_on old one two c.in_ok-push.ensures.front c.in_ok-push-2.ensures.front) c.in_ok-push_digits.ensures.front) c.in_ok-push-3.ensures.front
