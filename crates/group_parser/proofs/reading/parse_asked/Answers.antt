use Rattle.std.proofs.Common.{sym, subst}
use Rattle.std.proofs.lemmas.Result.{IfOk-weaker}
use Rattle.group_faults.specs.Faults.{ReadsGroupWords}
use Rattle.group_parser.proofs.Asking.{asked_is}
use Rattle.group_parser.proofs.Texts.{later_fault_at}
use Rattle.group_parser.proofs.reading.parse_asked.Goals as goal

pub returns-clause-query : goal.returns-clause-query
returns-clause-query c =
    let text = c.args.text.now in
    let ws = c.as_slice.result.now in
    let r : ReadsGroupWords text ws = subst (ReadsGroupWords text) (sym c.as_slice.ensures.value) c.in_ok-words.ensures.words in
    IfOk-weaker c.asked_of.result _ _ (λ asked k. asked_is text ws asked r k) c.asked_of.ensures.query

pub returns-clause-bad : goal.returns-clause-bad
returns-clause-bad c = λ w at h.
    let text = c.args.text.now in
    let ws = c.as_slice.result.now in
    let r : ReadsGroupWords text ws = subst (ReadsGroupWords text) (sym c.as_slice.ensures.value) c.in_ok-words.ensures.words in
    later_fault_at text ws w at r (c.asked_of.ensures.bad w at h)
