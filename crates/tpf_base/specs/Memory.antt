-- What a sink in memory holds.
use Rattle.std.specs.Prelude.{ℕ, List, Some}
use Rattle.tpf_base.specs.Failures.{CallCounts, spares_calls}
use Rattle.tpf_base.specs.Wrote.{SinkState}
use Rattle.tpf_base.specs.declared.mem_sink.MemSink.{MemSink}

-- the bytes that a sink in memory has taken
abbrev pub sink_bytes : MemSink → List ℕ
sink_bytes sink = sink.taken.items

-- which of its calls are failed, and how many were made and failed
abbrev pub sink_counts : MemSink → CallCounts
sink_counts sink = sink.failures

-- what it tells
abbrev pub sink_state : MemSink → SinkState
sink_state sink = record { taken = Some sink.taken.items; faults = sink.failures.faults; faultless = spares_calls sink.failures.failing }
