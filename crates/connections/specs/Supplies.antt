-- What supplies hold.
use Rattle.std.specs.Prelude.{ℕ}
use Rattle.connections.specs.declared.no_supply.NoSupply.{NoSupply}

-- how often a supply that gives nothing has failed
abbrev pub refusals : NoSupply → ℕ
refusals supply = supply.faults
