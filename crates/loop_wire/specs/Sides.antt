-- What a link holds beside lists and numbers.
use Rattle.std.specs.Prelude.{Option, Some, None}
use Rattle.tpf_base.specs.Links.{Way, Sending, Receiving}
use Rattle.loop_wire.specs.declared.held.Side.{Side}
use Rattle.loop_wire.specs.declared.held.Side.TheVariants as side

abbrev pub way_of : Side → Way
way_of side.Sending = Sending
way_of side.Receiving = Receiving

abbrev pub stalled_of : Option Side → Option Way
stalled_of None = None
stalled_of (Some s) = Some (way_of s)
