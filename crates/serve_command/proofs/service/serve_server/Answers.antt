-- What is said from the open door on is said from before it.
use Rattle.std.proofs.Common.{inl, inr, ◌∙◌}
use Rattle.data_files.specs.KeptLaws.{shelf_none, only_none}
use Rattle.data_servers.specs.Servers.{serving}
use Rattle.serve_command.proofs.Sentences.{if_ok_map, prefixes_from, whole_from, none_given, door_cause, opens_and_turns, ends_from, says_from, older_none, on_ok_so}
use Rattle.serve_command.proofs.service.serve_server.Goals as goal

pub returns-in-Err-clause-serves : goal.returns-in-Err-clause-serves
returns-in-Err-clause-serves g c =
    let begun = c.begin.ensures in
    record {
      prefixes = inl begun.only.none_given.given;
      whole = tt;
      ends = record { closed = none_given _ _ begun.only.none_given.given; older = λ k below. older_none (g.W.Wire.state c.args.wire.now) (g.W.Wire.state c.begin.new.wire) k (begun.only.none_given.links k); stops = tt; soon = tt; never = tt; links = tt; calm = tt };
      turns = inr (inl begun.only);
      listens = begun.only.count;
      says = record { ready = tt; front = begun.says.front; opened = tt; door = begun.says.door; place = begun.says.place; after = begun.says.after };
      err = c.in-Err.ensures.err;
    }

pub returns-in-Err-clause-keeps : goal.returns-in-Err-clause-keeps
returns-in-Err-clause-keeps g c = shelf_none (g.F.Shelf.state c.args.shelf.now)

pub returns-in-Err-clause-asks : goal.returns-in-Err-clause-asks
returns-in-Err-clause-asks g c = only_none _ (g.F.Shelf.state c.args.shelf.now)

pub returns-clause-serves : goal.returns-clause-serves
returns-clause-serves g c =
    let begun = c.begin.ensures in
    let s = c.serve_source.ensures.serves in
    record {
      prefixes = inr (prefixes_from _ _ (λ triples h. h) _ _ (λ h. h) _ _ _ _ begun.only.none_given.given s.prefixes);
      whole = if_ok_map _ _ c.serve_source.result (λ n w. whole_from _ _ (λ triples h. h) _ _ (λ h. h) _ _ _ _ begun.only.none_given.given _ _ n begun.only.later w) s.whole;
      ends = ends_from _ _ _ _ c.serve_source.result begun.only.none_given (on_ok_so _ c.serve_source.result c.in_default.ensures.calm) s.ends;
      listens = s.alone.calls ∙ begun.only.count;
      turns = opens_and_turns (serving c.args.server.now).config c.args.source.now.stop_after (g.W.Wire.state c.args.wire.now) (g.W.Wire.state c.begin.new.wire) (g.W.Wire.state c.serve_source.new.wire) c.serve_source.result begun.only s.turns;
      says = says_from _ _ (g.W.Wire.state c.begin.new.wire) _ _ _ c.serve_source.result begun.only.none_given.given (s.alone.place ∙ c.in_default.ensures.says.opened) c.in_default.ensures.says.ready begun.says.front;
      err = door_cause (g.W.Wire.state c.args.wire.now) (g.W.Wire.state c.begin.new.wire) (g.W.Wire.state c.serve_source.new.wire) _ _ c.serve_source.result begun.only.later begun.door s.err;
    }
