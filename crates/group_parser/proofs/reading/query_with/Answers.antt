use Rattle.std.proofs.Common.{ℕ, ◌≡◌, ◌∙◌, List, Option, Some, None, take, drop, ap}
use Rattle.std.specs.BTreeMap.{get_by_text}
use Rattle.std.proofs.lemmas.Result.{err_from_is_err_and}
use Rattle.pattern_parser.specs.Queries.{select_part, block}
use Rattle.group_parser.proofs.Building.{fault_is, produced, query_is}
use Rattle.group_parser.proofs.reading.query_with.Goals as goal

pub build-requires-clause-group : goal.build-requires-clause-group
build-requires-clause-group c =
    let ws = c.args.words.now in
    let bs = c.args.body.now in
    let iri : List ℕ → Option (List ℕ) = λ q. get_by_text c.args.prefixes.now q in
    let front : c.split_at.result.0.now ≡ select_part bs = c.split_at.ensures.front ∙ ap (λ (n : ℕ). take n bs) c.before_brace.ensures.value in
    let back : c.split_at.result.1.now ≡ block bs = c.split_at.ensures.back ∙ ap (λ (n : ℕ). drop n bs) c.before_brace.ensures.value in
    produced iri ws bs c.split_at.result.0.now c.split_at.result.1.now c.requires.prefixes c.requires.body front back c.requires.query (fault_is iri ws bs None c.requires.prefixes c.requires.body c.in_ok-check_groups.ensures.ok)

pub returns-clause-fine : goal.returns-clause-fine
returns-clause-fine c =
    let iri : List ℕ → Option (List ℕ) = λ q. get_by_text c.args.prefixes.now q in
    fault_is iri c.args.words.now c.args.body.now None c.requires.prefixes c.requires.body c.in_ok-check_groups.ensures.ok

pub returns-clause-query : goal.returns-clause-query
returns-clause-query c =
    let ws = c.args.words.now in
    let bs = c.args.body.now in
    let iri : List ℕ → Option (List ℕ) = λ q. get_by_text c.args.prefixes.now q in
    let front : c.split_at.result.0.now ≡ select_part bs = c.split_at.ensures.front ∙ ap (λ (n : ℕ). take n bs) c.before_brace.ensures.value in
    let back : c.split_at.result.1.now ≡ block bs = c.split_at.ensures.back ∙ ap (λ (n : ℕ). drop n bs) c.before_brace.ensures.value in
    query_is iri ws bs c.split_at.result.0.now c.split_at.result.1.now _ c.requires.prefixes c.requires.body front back c.in_ok-build.ensures

pub returns-in_err-check_groups-clause-bad : goal.returns-in_err-check_groups-clause-bad
returns-in_err-check_groups-clause-bad c = λ w at h.
    let r = c.from_residual in
    let p = err_from_is_err_and r.result r.ensures.1 in
    let e = p.1 in
    let f = p.2 in
    let iri : List ℕ → Option (List ℕ) = λ q. get_by_text c.args.prefixes.now q in
    fault_is iri c.args.words.now c.args.body.now (Some (w, at)) c.requires.prefixes c.requires.body (c.in_err-check_groups.ensures.bad w at (cc))
