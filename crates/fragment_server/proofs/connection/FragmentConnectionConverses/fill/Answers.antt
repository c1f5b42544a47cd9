use Rattle.std.specs.Prelude.{ℕ, List}
use Rattle.std.proofs.Common.{subst}
use Rattle.rdf_terms.specs.declared.term.Triple.{Triple}
use Rattle.tpf_base.specs.Marks.{Mark}
use Rattle.page_responses.specs.Serving.{Serving}
use Rattle.tpf_server.specs.Conversation.{Answers, Makes}
use Rattle.fragment_server.specs.Laws.{fills_as}
use Rattle.fragment_server.proofs.connection.FragmentConnectionConverses.fill.Goals as goal

pub returns-clause-fills : goal.returns-clause-fills
returns-clause-fills c =
    fills_as c.args.server.now.server c.args.self.now _
    (subst (λ (server : Serving). Makes server.config c.args.self.now.connection c.fill.new.self) c.server.ensures c.in_ok-fill.ensures.ok)
    (subst (λ (server : Serving). (history : List (List Triple)) (fed taken : List ℕ) (marks : List Mark)
    → Answers history server.config fed taken marks c.args.self.now.connection
    → Answers history server.config fed taken marks c.fill.new.self) c.server.ensures c.in_ok-fill.ensures.answers)
    c.in_ok-fill.ensures.some
