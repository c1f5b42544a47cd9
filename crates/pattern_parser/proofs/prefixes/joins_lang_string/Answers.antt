use Rattle.std.proofs.Common.{ℕ, ◌≡◌, ◌≢◌, ◌∙◌, ◌++◌, List, Some, None, ap}
use Rattle.std.specs.Str.{bytes_eq}
use Rattle.std.proofs.lemmas.Bool.Decides.{Decides-eqb}
use Rattle.std.proofs.lemmas.Slice.Eq.{strip_prefix_is}
use Rattle.rdf_terms.specs.Datatype.{lang_string}
use Rattle.pattern_parser.proofs.Joins.{joined_same, joined_other}
use Rattle.pattern_parser.proofs.prefixes.joins_lang_string.Goals as goal

pub returns-in-Some : goal.returns-in-Some
returns-in-Some c =
    let text = c.as_bytes.result.now in
    let front = c.as_bytes-2.result.now in
    let rest = c.in-Some.rest.now in
    let local = c.args.local.now in
    let split : text ≡ front ++ rest = strip_prefix_is Decides-eqb text front (Some c.in-Some.rest) c.in-Some.ensures.cases in
    let whole : text ≡ lang_string = c.as_bytes.ensures.value ∙ c.lang_string.ensures in
    let same : bytes_eq rest local ≡ bytes_eq (c.args.front.now ++ local) lang_string =
    joined_same text front rest local split ∙ ap (λ (l : List ℕ). bytes_eq (l ++ local) text) c.as_bytes-2.ensures.value ∙ ap (λ (l : List ℕ). bytes_eq (c.args.front.now ++ local) l) whole in
    c.eq.ensures ∙ ap (λ (l : List ℕ). bytes_eq rest l) c.as_bytes-in-Some.ensures.value ∙ same

pub returns-in-None : goal.returns-in-None
returns-in-None c =
    let text = c.as_bytes.result.now in
    let front = c.as_bytes-2.result.now in
    let local = c.args.local.now in
    let none : (rest : List ℕ) → text ≢ front ++ rest = strip_prefix_is Decides-eqb text front None c.in-None.ensures.cases in
    let whole : text ≡ lang_string = c.as_bytes.ensures.value ∙ c.lang_string.ensures in
    joined_other text front local none ∙ ap (λ (l : List ℕ). bytes_eq (l ++ local) text) c.as_bytes-2.ensures.value ∙ ap (λ (l : List ℕ). bytes_eq (c.args.front.now ++ local) l) whole
