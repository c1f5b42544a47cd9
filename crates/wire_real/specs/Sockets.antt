-- What a wire over sockets holds.
use Rattle.std.specs.Prelude.{ℕ, List, Option, Some, None, option_map, nat_eq}
use Rattle.std.specs.HashMap.{HashMap, get}
use Rattle.wire_real.specs.declared.account.Account.{Account}
use Rattle.wire_real.specs.declared.door.Door.{Door}
use Rattle.wire_real.specs.declared.socket.Socket.{Socket}

-- the host and the port at which a door is open
abbrev pub door_at : Option Door → Option (List ℕ × ℕ)
door_at None = None
door_at (Some door) = Some (door.host, door.port)

module _ {S : Type 0} where
  -- the accounts of the open links by their numbers
  abbrev pub accounts : HashMap ℕ Socket S → ℕ → Option Account
  accounts sockets k = option_map (λ socket. socket.account) (get nat_eq sockets k)
