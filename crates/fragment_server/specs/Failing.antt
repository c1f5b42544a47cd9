-- The response where each head is answered over one version, and each reload request as one that failed.
use Rattle.std.specs.Prelude.{ℕ, ◌-◌, List, [], ◌∷◌, ◌++◌, map, replicate, if◌then◌else◌}
use Rattle.rdf_terms.specs.declared.term.Triple.{Triple}
use Rattle.tpf_base.specs.HttpHeads.{Verdict}
use Rattle.tpf_base.specs.HttpConnection.{heads_of}
use Rattle.tpf_base.specs.Marks.{Mark, Served, Failed}
use Rattle.template_fill.specs.Metadata.{Config}
use Rattle.template_fill.specs.Responses.{answering, asks_reload, response}
use Rattle.connections.specs.Versions.{Serving}

-- the mark of a head; which heads ask for a reload, no history decides
abbrev pub failing_mark : Config → ℕ → Verdict → Mark
failing_mark config version head = if asks_reload (answering [] config) head then Failed version else Served version

abbrev pub failing_marks : Config → ℕ → List Verdict → List Mark
failing_marks config version heads = map (failing_mark config version) heads

-- a history whose last data set is the one that is served; no answer speaks of those before it
abbrev pub history_to : Serving (List Triple) Config → List (List Triple)
history_to serving = replicate (serving.version - 1) [] ++ serving.data_set ∷ []

unfoldable pub failing_response : Serving (List Triple) Config → List ℕ → List ℕ
failing_response serving bytes = response (history_to serving) serving.config bytes (failing_marks serving.config serving.version (heads_of bytes).heads)
