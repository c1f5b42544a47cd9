use Rattle.std.proofs.Common.{◌≡◌, length, rules, sym, vec_len, ◌∙◌}
use Rattle.list_laws.proofs.Begins.{same_begins}
use Rattle.tpf_server.proofs.DebtLaws.{back_few, back_is, filled_few}
use Rattle.tpf_server.proofs.owed.Debt.fill.Goals as goal

pub returns-then-is_err-clause-front : goal.returns-then-is_err-clause-front
returns-then-is_err-clause-front c =
    let long : vec_len c.args.out.now ≡ length c.args.out.now.items = search rules in
    same_begins c.args.out.now.items c.truncate.new.self.items
    (back_is c.len-before.result c.args.out.now.items c.fill_on-filled.new.out.items c.truncate.new.self.items c.truncate.ensures.items (c.len-before.ensures ∙ long) c.fill_on-filled.ensures.front)

pub returns-then-is_err-clause-few : goal.returns-then-is_err-clause-few
returns-then-is_err-clause-few c =
    let long : vec_len c.args.out.now ≡ length c.args.out.now.items = search rules in
    back_few c.args.given c.args.out.now.items c.truncate.new.self.items
    (back_is c.len-before.result c.args.out.now.items c.fill_on-filled.new.out.items c.truncate.new.self.items c.truncate.ensures.items (c.len-before.ensures ∙ long) c.fill_on-filled.ensures.front)

pub returns-else-is_err-clause-few : goal.returns-else-is_err-clause-few
returns-else-is_err-clause-few c =
    filled_few c.fill_on-filled.result c.args.config.now c.args.given c.args.self.now c.fill_on-filled.new.self c.args.out.now.items c.fill_on-filled.new.out.items (sym c.is_err.ensures.value ∙ c.if-is_err.false) c.fill_on-filled.ensures.ok
