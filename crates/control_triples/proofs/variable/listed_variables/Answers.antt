-- The variables so far are those of the triples so far, and of one more.
use Rattle.std.proofs.Common.{◌≡◌, ap, subst, sym, ◌∙◌, Bor, List, arith, Option, Vec, Global}
use Rattle.std.specs.Prelude.{option_map}
use Rattle.std.specs.List.{filter_map}
use Rattle.std.proofs.lemmas.Result.{IfOk-from_err}
use Rattle.rdf_terms.specs.declared.term.Triple.{Triple}
use Rattle.control_triples.specs.declared.variable.Variable.{Variable}
use Rattle.control_triples.specs.Parts.{borrowed_triples}
use Rattle.control_triples.specs.Variables.{named, named_all, named_of}
use Rattle.control_triples.proofs.Steps.{mapped_some, mapped_none, all_taken}
use Rattle.control_triples.proofs.variable.listed_variables.Goals as goal
use Rattle.control_triples.proofs.variable.listed_variables.Goals.{in-Some+in_ok-push, in_default}

pub loop-triple-init : goal.loop-triple-init
loop-triple-init c = ap named_all c.new-variables.ensures.items

pub variable_in-requires : goal.variable_in-requires
variable_in-requires c = c.requires

pub returns-in_err-push : goal.returns-in_err-push
returns-in_err-push c = IfOk-from_err _ _ c.from_residual.ensures.0

pub loop-triple-preserved : goal.loop-triple-preserved
loop-triple-preserved c =
    elim c.match-variable_in.branch [
      | in-Some+in_ok-push w ↦
          mapped_some named named_of (λ (t : Bor Triple). t.now) c.args.triples.now c.loop-triple.triple-index c.triple-item.result c.loop-triple.variables.items c.match-variable_in.variables.items c.loop-triple-test.true c.triple-item.is c.loop-triple.invariant
          w.in-Some.found (sym (subst (λ (r : Option Variable). option_map named r ≡ named_of c.triple-item.result.now) w.in-Some.is c.variable_in.ensures)) (ap (λ (v : Vec Variable Global). v.items) w.variables-is ∙ w.in_ok-push.ensures.items)
      | in_default w ↦
          mapped_none named named_of (λ (t : Bor Triple). t.now) c.args.triples.now c.loop-triple.triple-index c.triple-item.result c.loop-triple.variables.items c.match-variable_in.variables.items c.loop-triple-test.true c.triple-item.is c.loop-triple.invariant
          (sym (subst (λ (r : Option Variable). option_map named r ≡ named_of c.triple-item.result.now) w.in_default.is c.variable_in.ensures)) (ap (λ (v : Vec Variable Global). v.items) w.variables-is)
    ]

pub returns : goal.returns
returns c = c.loop-triple.invariant ∙ ap (λ (l : List (Bor Triple)). filter_map named_of (borrowed_triples l)) (all_taken c.args.triples.now c.loop-triple.triple-index (omega (arith, c.loop-triple-test.false)))
