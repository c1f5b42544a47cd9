use Rattle.std.proofs.Common.{subst}
use Rattle.page_responses.specs.Serving.{Serving}
use Rattle.tpf_server.specs.Conversation.{Reloads}
use Rattle.tpf_server.specs.declared.outcome.Reloaded.{Reloaded}
use Rattle.fragment_server.specs.Fragments.{outcome_of}
use Rattle.fragment_server.specs.Laws.{reloads_as}
use Rattle.fragment_server.proofs.connection.FragmentConnectionConverses.reloaded.Goals as goal

pub returns-clause-reloads : goal.returns-clause-reloads
returns-clause-reloads c =
    reloads_as c.args.server.now.server c.args.outcome c.args.self.now _
    (subst (λ (server : Serving). Reloads server (outcome_of c.args.outcome) c.args.self.now.connection c.reloaded.new.self) c.server.ensures
    (subst (λ (outcome : Reloaded). Reloads c.server.result.now outcome c.args.self.now.connection c.reloaded.new.self) c.outcome_of.ensures c.in_ok-reloaded.ensures.ok))
