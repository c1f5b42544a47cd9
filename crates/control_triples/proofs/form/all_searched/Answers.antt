-- The nodes so far are those of the triples so far, and of one more.
use Rattle.std.proofs.Common.{◌≡◌, ap, subst, sym, ◌∙◌, Bor, List, arith, Option, Vec, Global}
use Rattle.std.specs.List.{filter_map}
use Rattle.std.specs.Option.{option_copied}
use Rattle.std.proofs.lemmas.Result.{IfOk-from_err}
use Rattle.rdf_terms.specs.declared.term.Term.{Term}
use Rattle.rdf_terms.specs.declared.term.Triple.{Triple}
use Rattle.control_triples.specs.Parts.{borrowed_terms, borrowed_triples}
use Rattle.control_triples.specs.Places.{searched_of}
use Rattle.control_triples.proofs.Steps.{mapped_some, mapped_none, all_taken}
use Rattle.control_triples.proofs.form.all_searched.Goals as goal
use Rattle.control_triples.proofs.form.all_searched.Goals.{in-Some+in_ok-push, in_default}

pub loop-triple-init : goal.loop-triple-init
loop-triple-init c = ap borrowed_terms c.new-nodes.ensures.items

pub searched_in-requires : goal.searched_in-requires
searched_in-requires c = c.requires

pub returns-in_err-push : goal.returns-in_err-push
returns-in_err-push c = IfOk-from_err _ _ c.from_residual.ensures.0

pub loop-triple-preserved : goal.loop-triple-preserved
loop-triple-preserved c =
    elim c.match-searched_in.branch [
      | in-Some+in_ok-push w ↦
          mapped_some (λ (t : Bor Term). t.now) searched_of (λ (t : Bor Triple). t.now) c.args.triples.now c.loop-triple.triple-index c.triple-item.result c.loop-triple.nodes.items c.match-searched_in.nodes.items c.loop-triple-test.true c.triple-item.is c.loop-triple.invariant
          w.in-Some.node (sym (subst (λ (r : Option (Bor Term)). option_copied r ≡ searched_of c.triple-item.result.now) w.in-Some.is c.searched_in.ensures)) (ap (λ (v : Vec (Bor Term) Global). v.items) w.nodes-is ∙ w.in_ok-push.ensures.items)
      | in_default w ↦
          mapped_none (λ (t : Bor Term). t.now) searched_of (λ (t : Bor Triple). t.now) c.args.triples.now c.loop-triple.triple-index c.triple-item.result c.loop-triple.nodes.items c.match-searched_in.nodes.items c.loop-triple-test.true c.triple-item.is c.loop-triple.invariant
          (sym (subst (λ (r : Option (Bor Term)). option_copied r ≡ searched_of c.triple-item.result.now) w.in_default.is c.searched_in.ensures)) (ap (λ (v : Vec (Bor Term) Global). v.items) w.nodes-is)
    ]

pub returns : goal.returns
returns c = c.loop-triple.invariant ∙ ap (λ (l : List (Bor Triple)). filter_map searched_of (borrowed_triples l)) (all_taken c.args.triples.now c.loop-triple.triple-index (omega (arith, c.loop-triple-test.false)))
