use Rattle.std.proofs.Common.{length}
use Rattle.group_rows.proofs.Selections.{cut_to, cut_to_width, cut_to_names}
use Rattle.group_rows.proofs.answers.show.Goals as goal

pub distinct_rows-requires-clause-width : goal.distinct_rows-requires-clause-width
distinct_rows-requires-clause-width c =
    let names = c.args.shown.now.names in
    let selected = c.args.shown.now.selected in
    let cut = cut_to names selected c.in_ok-flags.flags.items c.as_slice.result.now c.args.rows.items c.in_ok-rows.rows.items c.in_ok-flags.ensures c.as_slice.ensures.value c.in_ok-rows.ensures in
    (length names, cut_to_width names selected c.args.rows.items c.in_ok-rows.rows.items c.requires cut)

pub distinct_rows-requires-clause-names : goal.distinct_rows-requires-clause-names
distinct_rows-requires-clause-names c =
    let names = c.args.shown.now.names in
    let selected = c.args.shown.now.selected in
    let cut = cut_to names selected c.in_ok-flags.flags.items c.as_slice.result.now c.args.rows.items c.in_ok-rows.rows.items c.in_ok-flags.ensures c.as_slice.ensures.value c.in_ok-rows.ensures in
    cut_to_names names selected c.selected.result.now c.args.rows.items c.in_ok-rows.rows.items c.requires cut c.selected.ensures.value
