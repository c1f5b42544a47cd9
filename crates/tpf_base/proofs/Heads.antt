-- The heads of requests.
use Rattle.std.proofs.Common.{◌≡◌, [], refl}
use Rattle.tpf_base.specs.HttpHeads.{Incomplete, next_request, blank_length, least_below, ends_empty}

pub no_request : next_request [] ≡ Incomplete
unfolding next_request blank_length least_below ends_empty
no_request = refl
