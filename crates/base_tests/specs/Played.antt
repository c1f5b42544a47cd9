-- A wire of which no link was closed.
use Rattle.std.specs.Prelude.{ℕ, ◌≡◌, ◌<◌, true}
use Rattle.tpf_base.specs.Links.{WireState}

-- each link that was given is open
pub record AreOpen (wire : WireState) : Type 0 where
  pub is_open : (k : ℕ) → k < wire.given → (wire.links k).is_open ≡ true
