-- What is said of the server is said of its file.
use Rattle.std.proofs.Common.{sym, ap, subst, is_some, ◌∙◌, Err, ℕ}
use Rattle.template_fill.specs.Metadata.{Config}
use Rattle.tpf_base.specs.Addresses.{authority_of}
use Rattle.tpf_base.specs.Outside.{AsksOnce}
use Rattle.data_files.specs.KeptLaws.{reads_keep, only_once}
use Rattle.data_files.specs.Causes.{DataCause, DataDecides}
use Rattle.data_servers.specs.Servers.{Starts, serving}
use Rattle.serve_command.specs.Services.{GivesServed}
use Rattle.serve_command.specs.declared.fault.ServiceFault.TheVariants as faults
use Rattle.serve_command.proofs.Sentences.{serves_file, serves_none, serves_starved}
use Rattle.serve_command.proofs.service.serve.Goals as goal

pub returns-in-Err-clause-serves : goal.returns-in-Err-clause-serves
returns-in-Err-clause-serves g c =
    let name = c.args.service.name.now in
    let choice = c.args.service.choice.now in
    let is = c.config_of-config.ensures in
    serves_none _ _ _ _ name choice _ _ c.in-Err.fault _ (λ e. ap Err e)
    (subst (λ (config : Config). DataCause (g.F.Shelf.state c.args.shelf.now) (g.F.Shelf.state c.server_of_file.new.shelf) name choice (authority_of config.base) c.in-Err.fault) is c.in-Err.ensures.err)
    (subst (λ (config : Config). DataDecides (g.F.Shelf.state c.args.shelf.now) (g.F.Shelf.state c.server_of_file.new.shelf) name choice (authority_of config.base) (λ outcome. GivesServed {A = ℕ} outcome (Err (faults.Data c.in-Err.fault)))) is c.in-Err.ensures.exact)
    c.in-Err.ensures.reads

pub returns-in_default-clause-serves : goal.returns-in_default-clause-serves
returns-in_default-clause-serves g c = serves_starved _ _ _ _ _ _ _ _ _ c.server_of_file.ensures.reads

pub returns-clause-serves : goal.returns-clause-serves
returns-clause-serves g c =
    let starts = subst (λ (config : Config). Starts (g.F.Shelf.state c.args.shelf.now).told c.args.service.name.now c.args.service.choice.now config (serving c.in-Ok.server)) c.config_of-config.ensures c.in-Ok.ensures.starts in
    serves_file _ _ _ _ _ _ _ _ _ _ _ c.serve_server.result _ starts (reads_keep _ _ _ _ c.server_of_file.ensures.reads) c.serve_server.ensures.keeps (only_once _ _ _ c.server_of_file.ensures.reads.asks) c.serve_server.ensures.asks c.serve_server.ensures.output
    (λ none. subst (λ shelf. AsksOnce c.args.service.name.now (g.F.Shelf.state c.args.shelf.now) (g.F.Shelf.state shelf))
    (sym (c.serve_server.ensures.unread (c.is_some-reloads.ensures ∙ ap (λ path. is_some path) none))) c.server_of_file.ensures.reads.asks)
    c.serve_server.ensures.serves
