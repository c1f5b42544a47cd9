-- What a call needs of its options.
use Rattle.std.specs.Prelude.{◌≤◌}
use Rattle.tpf_base.specs.declared.limits.TheConstants.{MOST_LINKS}
use Rattle.tpf_client.specs.declared.options.Options.{Options}

-- one row at least is extended at a time, and one connection at least is kept open, and no more than the most
abbrev pub SuitsCalls : Options → Type 0
SuitsCalls options = (1 ≤ options.window) × (1 ≤ options.links) × (options.links ≤ MOST_LINKS)
