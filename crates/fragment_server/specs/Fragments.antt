-- What a connection of a server of fragments means to a loop that serves it.
use Rattle.std.specs.Prelude.{ℕ, List, []}
use Rattle.rdf_terms.specs.declared.term.Triple.{Triple}
use Rattle.tpf_base.specs.HttpConnection.{closes, heads_of}
use Rattle.tpf_base.specs.Marks.{Mark}
use Rattle.template_fill.specs.Metadata.{Config}
use Rattle.template_fill.specs.Responses.{IsMarked, answering, reload_versions, response}
use Rattle.connections.specs.Versions.{Serving}
use Rattle.connections.specs.Kinds.{Kind}
use Rattle.connections.specs.declared.reloaded.Reloaded.{Reloaded}
use Rattle.connections.specs.declared.reloaded.Reloaded.TheVariants as outcomes
use Rattle.page_responses.specs.Serving as core
use Rattle.tpf_server.specs.Conversation as conversations
use Rattle.tpf_server.specs.declared.outcome.Reloaded as core_outcome
use Rattle.tpf_server.specs.declared.outcome.Reloaded.TheVariants as core_outcomes
use Rattle.fragment_server.specs.declared.connection.FragmentConnection.{FragmentConnection}

-- the data set of the table, the configuration, and the number of the version
abbrev pub serving_of : core.Serving → Serving (List Triple) Config
serving_of server = record { data_set = core.data_of server; config = server.config; version = server.version }

-- the numbers with which reload requests among the heads of the bytes were answered; which heads ask for a reload, no history decides
abbrev pub numbers_told : Config → List ℕ → List Mark → List ℕ
numbers_told config bytes marks = reload_versions (answering [] config) (heads_of bytes).heads marks

-- the response is that of the definitions
abbrev pub fragments : Kind FragmentConnection (List Triple) Config
fragments = record {
  pending = λ c. c.connection.pending;
  closing = λ c. conversations.closing c.connection;
  wants = λ c. conversations.wants_reload c.connection;
  owes = λ c. conversations.owes c.connection;
  Answers = λ history config fed taken marks c. conversations.Answers history config fed taken marks c.connection;
  response = response;
  IsMarked = IsMarked;
  reloads = numbers_told;
  closes = λ config bytes. closes bytes;
}

-- how a reload came out
abbrev pub outcome_of : Reloaded → core_outcome.Reloaded
outcome_of (outcomes.Version number) = core_outcomes.Version number
outcome_of outcomes.Failed = core_outcomes.Failed
outcome_of outcomes.OutOfMemory = core_outcomes.OutOfMemory
