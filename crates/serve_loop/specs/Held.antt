-- What contracts see of a loop: its live connections by the keys of their slab, and how many they are.
use Rattle.std.specs.Prelude.{ℕ, Option}
use Rattle.slab.specs.Slab.{get, slab_len}
use Rattle.serve_loop.specs.Traffic.{Lives}
use Rattle.serve_loop.specs.declared.live.Live.{Live}
use Rattle.serve_loop.specs.declared.turn.Loop.{Loop}

module _ {C : Type 0} where
  abbrev pub held : Loop C → ℕ → Option (Live C)
  held connections = get connections.live

  abbrev pub held_count : Loop C → ℕ
  held_count connections = slab_len connections.live

  -- both
  abbrev pub lives : Loop C → Lives C
  lives connections = record { found = held connections; count = held_count connections }
