use Rattle.std.proofs.Common.{◌≡◌, Some, sym}
use Rattle.std.specs.BTreeMap.{get_by_text}
use Rattle.std.proofs.lemmas.Result.{IfOk-weaker}
use Rattle.group_faults.specs.Faults.{label_text}
use Rattle.group_faults.proofs.Labels.{label_goes}
use Rattle.group_faults.proofs.shared.Walk.take.Goals as goal

pub returns-in-Some-clause-other : goal.returns-in-Some-clause-other
returns-in-Some-clause-other c =
    let text : label_text c.args.word.now.value ≡ Some c.in-Some.label.now = sym c.in-Some.ensures in
    IfOk-weaker c.take_label.result _ _ (λ b k e rest. label_goes (λ q. get_by_text c.args.self.now.first q) _ c.args.self.now.block _ c.args.word.now c.in-Some.label.now b rest c.take_label.ensures.block text k e) c.take_label.ensures.takes
