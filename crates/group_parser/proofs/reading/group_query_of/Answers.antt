use Rattle.std.proofs.Common.{ℕ, ◌≡◌, ◌∙◌, List, Option, take, drop, ap}
use Rattle.std.specs.BTreeMap.{get_by_text}
use Rattle.pattern_parser.specs.Queries.{prologue}
use Rattle.pattern_parser.proofs.Texts.{same_prefixes}
use Rattle.group_parser.proofs.reading.group_query_of.Goals as goal

pub query_with-requires-clause-body : goal.query_with-requires-clause-body
query_with-requires-clause-body c = c.split_at.ensures.back ∙ ap (λ (n : ℕ). drop n c.args.words.now) c.before_select.ensures.value

pub query_with-requires-clause-prefixes : goal.query_with-requires-clause-prefixes
query_with-requires-clause-prefixes c =
    let ws = c.args.words.now in
    let iri : List ℕ → Option (List ℕ) = λ q. get_by_text c.in_ok-prefixes.prefixes q in
    let front : c.split_at.result.0.now ≡ prologue ws = c.split_at.ensures.front ∙ ap (λ (n : ℕ). take n ws) c.before_select.ensures.value in
    same_prefixes iri ws c.split_at.result.0.now c.in_ok-prefixes.ensures front
