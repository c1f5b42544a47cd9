-- Which server answers a link, and what is owed on it.
use Rattle.std.specs.Prelude.{ℕ, Bool, List, [], ◌∷◌, Option, Some, None, if◌then◌else◌}
use Rattle.connections.specs.Versions.{Serving}

module _ {Server : Type 0} (stands : Server → List ℕ → ℕ → Bool) where
  -- the first of these servers that stands at a host and port
  abbrev pub first_at : List Server → List ℕ → ℕ → Option Server
  first_at [] host port = None
  first_at (server ∷ servers) host port = if stands server host port then Some server else first_at servers host port

  -- the one that answers a link that was dialled for a host and port
  abbrev pub first_there : List Server → Option (List ℕ × ℕ) → Option Server
  first_there servers None = None
  first_there servers (Some peer) = first_at servers peer.0 peer.1

-- what a server owes to what was sent; nothing is owed where none stands
abbrev pub owed_by : {Server : Type 0} → (Server → List ℕ → List ℕ) → Option Server → List ℕ → List ℕ
owed_by responds None sent = []
owed_by responds (Some server) sent = responds server sent

-- what is owed to what was sent on a link, by the host and port for which it was dialled: the response of the server that answers it
abbrev pub owed_to : {Behind Server Data Settings : Type 0} → (Serving Data Settings → List ℕ → List ℕ) → (Server → Serving Data Settings)
    → (Behind → Option (List ℕ × ℕ) → Option Server) → Behind → Option (List ℕ × ℕ) → List ℕ → List ℕ
owed_to response_at serving server_of behind peer = owed_by (λ server. response_at (serving server)) (server_of behind peer)
