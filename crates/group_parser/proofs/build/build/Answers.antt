use Rattle.std.proofs.Common.{ℕ, ◌≡◌, ◌≤◌, ◌∙◌, List, [], Option, length, ap, sym, subst}
use Rattle.std.specs.BTreeMap.{get_by_text}
use Rattle.pattern_parser.specs.Items.{names_after}
use Rattle.pattern_parser.proofs.Fits.{selected_fit}
use Rattle.group_parser.specs.Texts.{IsGroupIn}
use Rattle.group_parser.proofs.Building.{built, built_query}
use Rattle.group_parser.proofs.build.build.Goals as goal

pub new-requires-clause-postfix : goal.new-requires-clause-postfix
new-requires-clause-postfix c =
    let iri : List ℕ → Option (List ℕ) = λ q. get_by_text c.args.prefixes.now q in
    let select = c.args.select.now in
    let first = c.listed.new.names.texts.items in
    let start : first ≡ names_after [] 0 select = c.in_ok-numbers.ensures.names ∙ ap (λ (l : List (List ℕ)). names_after l 0 select) c.new-names.ensures.texts in
    (built iri select c.args.block.now c.in_ok-steps.steps.items first c.steps_of.new.names.texts.items c.requires.group start c.in_ok-steps.ensures.steps c.in_ok-steps.ensures.names).postfix

pub new-requires-clause-fit : goal.new-requires-clause-fit
new-requires-clause-fit c =
    let iri : List ℕ → Option (List ℕ) = λ q. get_by_text c.args.prefixes.now q in
    let select = c.args.select.now in
    let first = c.listed.new.names.texts.items in
    let start : first ≡ names_after [] 0 select = c.in_ok-numbers.ensures.names ∙ ap (λ (l : List (List ℕ)). names_after l 0 select) c.new-names.ensures.texts in
    (built iri select c.args.block.now c.in_ok-steps.steps.items first c.steps_of.new.names.texts.items c.requires.group start c.in_ok-steps.ensures.steps c.in_ok-steps.ensures.names).fits

pub new-requires-clause-selected : goal.new-requires-clause-selected
new-requires-clause-selected c =
    let iri : List ℕ → Option (List ℕ) = λ q. get_by_text c.args.prefixes.now q in
    let select = c.args.select.now in
    let first = c.listed.new.names.texts.items in
    let names = c.steps_of.new.names.texts.items in
    let start : first ≡ names_after [] 0 select = c.in_ok-numbers.ensures.names ∙ ap (λ (l : List (List ℕ)). names_after l 0 select) c.new-names.ensures.texts in
    let b = built iri select c.args.block.now c.in_ok-steps.steps.items first names c.requires.group start c.in_ok-steps.ensures.steps c.in_ok-steps.ensures.names in
    let grows : length first ≤ length names = subst (λ (l : List (List ℕ)). length l ≤ length names) (sym start) b.grows in
    selected_fit c.has_star.result names first c.as_slice.result.now c.in_ok-numbers.numbers.items c.in_ok-selected.selected.items c.as_slice.ensures.value grows c.in_ok-numbers.ensures.numbers c.in_ok-selected.ensures

pub returns : goal.returns
returns c =
    let iri : List ℕ → Option (List ℕ) = λ q. get_by_text c.args.prefixes.now q in
    let select = c.args.select.now in
    let block = c.args.block.now in
    let first = c.listed.new.names.texts.items in
    let names = c.steps_of.new.names.texts.items in
    let steps = c.in_ok-steps.steps.items in
    let start : first ≡ names_after [] 0 select = c.in_ok-numbers.ensures.names ∙ ap (λ (l : List (List ℕ)). names_after l 0 select) c.new-names.ensures.texts in
    let b = built iri select block steps first names c.requires.group start c.in_ok-steps.ensures.steps c.in_ok-steps.ensures.names in
    subst (IsGroupIn iri select block) (sym c.new.ensures) (built_query iri select block steps names b c.has_star.result c.has_distinct-distinct.result first c.as_slice.result.now c.in_ok-numbers.numbers.items c.in_ok-selected.selected.items c.has_star.ensures c.has_distinct-distinct.ensures c.as_slice.ensures.value start c.in_ok-numbers.ensures.numbers c.in_ok-selected.ensures)
