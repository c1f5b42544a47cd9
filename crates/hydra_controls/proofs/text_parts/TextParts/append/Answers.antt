use Rattle.std.proofs.lemmas.Result.{on_ok_weaker}
use Rattle.list_laws.proofs.Begins.{begins_on}
use Rattle.hydra_controls.proofs.WholeLaws.{text_whole}
use Rattle.hydra_controls.proofs.text_parts.TextParts.append.Goals as goal

pub returns-clause-ok : goal.returns-clause-ok
returns-clause-ok c = on_ok_weaker c.append-3.result (text_whole c.args.self c.args.out.now.items c.append.new.out.items c.append-2.new.out.items c.append_digits.new.out.items c.append-3.new.out.items c.in_ok-append.ensures.ok c.in_ok-append-2.ensures.ok c.in_ok-append_digits.ensures.ok) c.append-3.ensures.ok

pub returns-in_err-append-2-clause-front : goal.returns-in_err-append-2-clause-front
returns-in_err-append-2-clause-front c = begins_on c.args.out.now.items c.append.new.out.items c.append-2.new.out.items c.in_ok-append.ensures.front c.in_err-append-2.ensures.front

pub returns-in_err-append_digits-clause-front : goal.returns-in_err-append_digits-clause-front
returns-in_err-append_digits-clause-front c =
    let old = c.args.out.now.items in
    let one = c.append.new.out.items in
    let two = c.append-2.new.out.items in
    begins_on old two c.append_digits.new.out.items (begins_on old one two c.in_ok-append.ensures.front c.in_ok-append-2.ensures.front) c.in_err-append_digits.ensures.front

pub returns-clause-front : goal.returns-clause-front
returns-clause-front c =
    let old = c.args.out.now.items in
    let one = c.append.new.out.items in
    let two = c.append-2.new.out.items in
    let three = c.append_digits.new.out.items in
    begins_on old three c.append-3.new.out.items (begins_on old two three (begins_on old one two c.in_ok-append.ensures.front c.in_ok-append-2.ensures.front) c.in_ok-append_digits.ensures.front) c.append-3.ensures.front
