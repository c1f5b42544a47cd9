use Rattle.std.proofs.Common.{subst}
use Rattle.triple_table.specs.Stored.{Stored, triples_in}
use Rattle.template_fill.specs.Configurations.{IsValidDataSet}
use Rattle.page_responses.specs.Serving.{Serving, data_of}
use Rattle.tpf_server.proofs.server.Server.is_valid.Goals as goal

pub returns-clause-data_set : goal.returns-clause-data_set
returns-clause-data_set c =
    let own = subst (λ (t : Stored). IsValidDataSet (triples_in t)) c.table.ensures (record { data_set = c.len-count.ensures.data_set; terms = c.len-count.ensures.valid }) in
    subst (λ (server : Serving). IsValidDataSet (data_of server)) c.self.view_is own
