-- The page, its length and its metadata are those of the triples that are listed.
use Rattle.std.proofs.Common.{List, length, ap, arith}
use Rattle.triple_table.specs.declared.ids.IdTriple.{IdTriple}
use Rattle.page_responses.specs.Serving.{served}
use Rattle.page_responses.proofs.OpenLaws.{listed_few, opens_listed}
use Rattle.std.proofs.lemmas.Result.{IfOk-from_err}
use Rattle.page_responses.proofs.pages.open_listed.Goals as goal

pub new-requires-clause-slots : goal.new-requires-clause-slots
new-requires-clause-slots c = c.requires.slots

pub new-requires-clause-rows : goal.new-requires-clause-rows
new-requires-clause-rows c = c.requires.rows

pub new-requires-clause-page : goal.new-requires-clause-page
new-requires-clause-page c = c.requires.number.first

pub returns-in_err-metadata : goal.returns-in_err-metadata
returns-in_err-metadata c = IfOk-from_err _ _ c.from_residual.ensures.0

pub listed_length-bytes-requires-clause-few : goal.listed_length-bytes-requires-clause-few
listed_length-bytes-requires-clause-few c =
    let few = listed_few (served c.args.snapshot.now c.args.config.now) c.args.slots.now c.args.rows.now c.args.number c.args.page c.requires.page in
    omega (arith, few, ap (λ (l : List IdTriple). length l) c.as_slice.ensures.value, c.page_size-size.ensures.size, c.page_size-size.ensures.valid.high)

pub returns : goal.returns
returns c =
    opens_listed (served c.args.snapshot.now c.args.config.now) c.args.slots.now c.args.number c.number-version.result c.listed_length-bytes.result c.in_ok-metadata.metadata c.open_lines.result c.number-version.ensures
    c.args.rows.now c.args.page c.table.result.now c.as_slice.result.now c.table.ensures c.as_slice.ensures.value c.requires.page
    c.in_ok-metadata.ensures c.listed_length-bytes.ensures.length c.open_lines.ensures
