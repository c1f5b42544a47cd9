use Rattle.std.proofs.Common.{map, string_bytes, refl, sym}
use Rattle.command_words.specs.CommandViews.{command_view}
use Rattle.tpf_cli.specs.Runs.{around}
use Rattle.tpf_cli.proofs.Commanded.{no_words_of, usage_of, words_are_none, words_are}
use Rattle.tpf_cli.proofs.Ranges.{ranges}
use Rattle.tpf_cli.proofs.top.ending_of.Goals as goal

pub obey-requires-clause-range : goal.obey-requires-clause-range
obey-requires-clause-range g c = ranges (map string_bytes c.args.words.now) (command_view c.in-Ok-Some.command) (sym (words_are c.in-Ok-Some.field-0 c.in-Ok-Some.command _ c.in-Ok-Some.field-0-is c.in-Ok-Some.ensures))

pub returns-in-Err-clause-does : goal.returns-in-Err-clause-does
returns-in-Err-clause-does g c = no_words_of (around (g.F.Shelf.state c.args.shelf.now) (g.F.Shelf.state c.args.shelf.now) (g.W.Wire.allows c.args.wire.now) (g.W.Wire.state c.args.wire.now) (g.W.Wire.state c.args.wire.now) (g.K.Sink.state c.args.out.now) (g.K.Sink.state c.args.out.now) c.args.inside.now) _ (refl, refl, c.requires.unused, refl)

pub returns-in-Ok-None-clause-does : goal.returns-in-Ok-None-clause-does
returns-in-Ok-None-clause-does g c =
    usage_of (around (g.F.Shelf.state c.args.shelf.now) (g.F.Shelf.state c.args.shelf.now) (g.W.Wire.allows c.args.wire.now) (g.W.Wire.state c.args.wire.now) (g.W.Wire.state c.args.wire.now) (g.K.Sink.state c.args.out.now) (g.K.Sink.state c.args.out.now) c.args.inside.now) _ (words_are_none c.in-Ok-None.field-0 _ c.in-Ok-None.field-0-is c.in-Ok-None.ensures) (refl, refl, c.requires.unused, refl)
