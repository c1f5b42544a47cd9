-- The server of a file.
use Rattle.std.specs.Prelude.{ℕ, ◌≡◌, List, Option, Result, Ok, Err}
use Rattle.rdf_terms.specs.declared.term.Triple.{Triple}
use Rattle.template_fill.specs.Metadata.{Config}
use Rattle.tpf_base.specs.Addresses.{authority_of}
use Rattle.triple_table.specs.declared.choice.Choice.{Choice}
use Rattle.connections.specs.Versions.{Serving}
use Rattle.fragment_server.specs.declared.server.FragmentServer.{FragmentServer}
use Rattle.fragment_server.specs.Fragments.{serving_of}
use Rattle.data_files.specs.declared.fault.DataFault.{DataFault}
use Rattle.data_files.specs.Data.{Files, IsOfFile, Outcome, served}
use Rattle.data_files.specs.Causes.{Gives}

-- what a server serves
abbrev pub serving : FragmentServer → Serving (List Triple) Config
serving server = serving_of server.server

-- version 1 is served: the data of the file, under the authority of the base
pub record Starts (told : Option Files) (name : List ℕ) (choice : Choice) (config : Config) (server : Serving (List Triple) Config) : Type 0 where
  pub config_is : server.config ≡ config
  pub version : server.version ≡ 1
  pub data_set : IsOfFile told name choice (authority_of config.base) server.data_set

-- an outcome is answered by itself, or by want of memory
abbrev pub GivesServer : Outcome → Result FragmentServer DataFault → Type 0
GivesServer outcome (Ok server) = outcome ≡ served (serving server).data_set
GivesServer outcome (Err fault) = Gives outcome (Err fault)
