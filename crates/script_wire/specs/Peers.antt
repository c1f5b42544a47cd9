-- What a link holds beside lists and numbers.
use Rattle.std.specs.Prelude.{ℕ, List, Option, Some, None}
use Rattle.tpf_base.specs.Links.{Way, Sending, Receiving}
use Rattle.script_wire.specs.declared.link.Peer.{Peer}
use Rattle.script_wire.specs.declared.link.Side.{Side}
use Rattle.script_wire.specs.declared.link.Side.TheVariants as side

abbrev pub peer_of : Option Peer → Option (List ℕ × ℕ)
peer_of None = None
peer_of (Some peer) = Some (peer.host, peer.port)

abbrev pub way_of : Side → Way
way_of side.Sending = Sending
way_of side.Receiving = Receiving

abbrev pub stalled_of : Option Side → Option Way
stalled_of None = None
stalled_of (Some s) = Some (way_of s)
