use Rattle.std.proofs.Common.{◌≡◌, refl}
use Rattle.percent_encoding.specs.Percent.{percent_decode}
use Rattle.template_fill.proofs.ReadRows.{no_slot, some_slot}
use Rattle.template_fill.proofs.rows.read_place.Goals as goal

pub returns-in_default : goal.returns-in_default
returns-in_default c =
    let same : c.as_slice.result.now ≡ percent_decode c.args.text.now = rw (c.as_slice.ensures.value, c.in_ok-append_to.ensures.ok, c.new-decoded.ensures.items, c.percent_decode.ensures.bytes) refl in
    no_slot c.args.text.now c.as_slice.result.now same c.in_default.ensures.cases.0

pub returns-in-Ok-read_explicit : goal.returns-in-Ok-read_explicit
returns-in-Ok-read_explicit c =
    let same : c.as_slice.result.now ≡ percent_decode c.args.text.now = rw (c.as_slice.ensures.value, c.in_ok-append_to.ensures.ok, c.new-decoded.ensures.items, c.percent_decode.ensures.bytes) refl in
    some_slot c.args.text.now c.as_slice.result.now c.in-Ok.form.now c.in-Ok-read_explicit.slot same c.in-Ok.ensures.cases.0 c.in-Ok.ensures.cases.1 c.in-Ok-read_explicit.ensures.given
