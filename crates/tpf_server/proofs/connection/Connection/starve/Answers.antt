use Rattle.tpf_server.proofs.ConversationLaws.{starve_is}
use Rattle.tpf_server.proofs.connection.Connection.starve.Goals as goal

pub returns : goal.returns
returns c =
    starve_is c.self.inside.requests.bytes c.self.inside.reading c.when_starved-self-inside.result c.self.inside.debt.rest c.new-2.result.rest c.self.inside.debt.waiting.items c.new-2.result.waiting.items c.self.inside.bytes.items c.truncate.new.self.items c.compact-self-inside.new.bytes.items
    c.self.inside.given c.compact-self-inside.result c.args.pending c.self.inside.starved c.new.result c.args.self.now
    c.self.view_is c.truncate.ensures.items c.compact-self-inside.ensures.pending c.new.ensures c.when_starved-self-inside.ensures c.new-2.ensures.rest c.new-2.ensures.waiting
