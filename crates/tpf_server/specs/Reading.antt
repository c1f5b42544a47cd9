-- How far the heads of a connection are read.
use Rattle.std.specs.Prelude.{Bool, true, false}
use Rattle.tpf_server.specs.declared.reading.Reading.{Reading}
use Rattle.tpf_server.specs.declared.reading.Reading.TheVariants.{Reads, Waits, Ended}

-- an answer that closes was given
abbrev pub is_ended : Reading → Bool
is_ended Reads = false
is_ended (Waits closes) = false
is_ended Ended = true

-- a reload request waits for its outcome
abbrev pub waits : Reading → Bool
waits Reads = false
waits (Waits closes) = true
waits Ended = false

-- where memory was wanting no reload request waits
abbrev pub when_starved : Reading → Reading
when_starved Reads = Reads
when_starved (Waits closes) = Reads
when_starved Ended = Ended
