use Rattle.pattern_parser.specs.Prefixes.{iris}
use Rattle.pattern_parser.proofs.Fits.{patterns_fit_at, names_grow_at, selected_fit}
use Rattle.pattern_parser.proofs.build.build.Goals as goal

pub new-requires-clause-patterns : goal.new-requires-clause-patterns
new-requires-clause-patterns c =
    patterns_fit_at (iris c.args.prefixes.now) c.listed.new.names.texts.items c.block_patterns.new.names.texts.items c.split_at.result.1.now c.in_ok-patterns.patterns.items c.in_ok-patterns.ensures.names c.in_ok-patterns.ensures.patterns

pub new-requires-clause-selected : goal.new-requires-clause-selected
new-requires-clause-selected c =
    selected_fit c.has_star.result c.block_patterns.new.names.texts.items c.listed.new.names.texts.items c.as_slice.result.now c.in_ok-numbers.numbers.items c.in_ok-selected.selected.items c.as_slice.ensures.value (names_grow_at c.listed.new.names.texts.items c.block_patterns.new.names.texts.items c.split_at.result.1.now c.in_ok-patterns.ensures.names) c.in_ok-numbers.ensures.numbers c.in_ok-selected.ensures
