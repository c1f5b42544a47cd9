use Rattle.std.proofs.Common.{◌≡◌, ◌+◌, List, [], ◌∷◌, true, drop, length, sym, ap, subst, ◌∙◌, arith}
use Rattle.std.proofs.lemmas.List.{drop_all}
use Rattle.std.proofs.lemmas.Result.{IfOk-weaker}
use Rattle.std.specs.List.{AllByRecursion}
use Rattle.std.proofs.lemmas.List.Elements.{All-weaker}
use Rattle.rdf_terms.specs.Askable.{askable}
use Rattle.bgp_core.specs.declared.pattern.Pattern.{Pattern}
use Rattle.bgp_core.specs.Instances.{instance}
use Rattle.request_plan.specs.Blocks.{form_cut, longest_front}
use Rattle.request_plan.specs.Plans.{all_askable}
use Rattle.request_plan.specs.Targets.{HasAddress}
use Rattle.request_plan.proofs.Cuts.{front-some, front-below}
use Rattle.request_plan.proofs.Lengths.{front-none, patterns-from, fits-next}
use Rattle.request_plan.proofs.Valid.{found-askable}
use Rattle.request_plan.proofs.block.+fitting_from.Goals as goal

pub returns-then-index-len-clause-front : goal.returns-then-index-len-clause-front
returns-then-index-len-clause-front t c = λ n.
    sym (ap (λ (ps : List Pattern). longest_front (form_cut c.args.form.now n) ps c.args.rows.now c.args.most) (drop_all c.args.index c.args.patterns.now (omega arith)) ∙ front-none (form_cut c.args.form.now n) c.args.rows.now c.args.most c.requires.some)

pub fitting-requires-clause-some : goal.fitting-requires-clause-some
fitting-requires-clause-some t c =
    let some = front-some (form_cut c.args.form.now 0) (drop (c.args.index + 1) c.args.patterns.now) c.args.rows.now c.args.most in
    omega (arith, some, c.in_ok-fit.ensures.front 0)

pub fitting-requires-clause-within : goal.fitting-requires-clause-within
fitting-requires-clause-within t c =
    let most = front-below (form_cut c.args.form.now 0) (drop (c.args.index + 1) c.args.patterns.now) c.args.rows.now c.args.most (length c.args.rows.now) c.requires.within (omega (arith, c.requires.some, c.requires.within)) in
    omega (arith, most, c.in_ok-fit.ensures.front 0)

pub fitting-requires-clause-askable : goal.fitting-requires-clause-askable
fitting-requires-clause-askable t c =
    let ps = c.args.patterns.now in
    All-weaker (λ row. all_askable row ps ≡ true) (λ row. askable (instance c.deref.result.now row) ≡ true)
    (λ row h. found-askable row ps c.args.index c.deref.result.now h (omega arith) (λ p e. c.deref.ensures ∙ c.at.ensures p e)) c.args.rows.now c.requires.askable

pub returns-clause-front : goal.returns-clause-front
returns-clause-front t c = λ n.
    let from = patterns-from c.args.patterns.now c.args.index c.deref.result.now (omega arith) (λ p e. c.deref.ensures ∙ c.at.ensures p e) in
    IfOk-weaker c.fitting.result (λ k. k ≡ longest_front (form_cut c.args.form.now n) (c.deref.result.now ∷ []) c.args.rows.now c.in_ok-fit.fit) (λ k. k ≡ longest_front (form_cut c.args.form.now n) (drop c.args.index c.args.patterns.now) c.args.rows.now c.args.most)
    (λ k one. fits-next c.args.form.now n c.deref.result.now (drop c.args.index c.args.patterns.now) (drop (c.args.index + 1) c.args.patterns.now) c.args.rows.now c.args.most c.in_ok-fit.fit k from c.in_ok-fit.ensures.addressed (c.in_ok-fit.ensures.front n) one)
    (c.fitting.ensures.front n)

pub returns-clause-addressed : goal.returns-clause-addressed
returns-clause-addressed t c =
    let from = patterns-from c.args.patterns.now c.args.index c.deref.result.now (omega arith) (λ p e. c.deref.ensures ∙ c.at.ensures p e) in
    IfOk-weaker c.fitting.result (λ k. HasAddress c.args.form.now c.deref.result.now) (λ k. AllByRecursion (HasAddress c.args.form.now) (drop c.args.index c.args.patterns.now))
    (λ k one. subst (λ (l : List Pattern). AllByRecursion (HasAddress c.args.form.now) l) (sym from) (one, c.in_ok-fit.ensures.addressed)) c.fitting.ensures.addressed
