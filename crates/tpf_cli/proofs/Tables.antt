-- The table of statuses of a query in one process, by what it has to ask for.
use Rattle.std.proofs.Common.{ℕ, ◌⊎◌, ◌≤◌, inl, inr, List, arith}
use Rattle.tpf_base.specs.Addresses.{Address}
use Rattle.tpf_base.specs.declared.fault.Fault.{Fault}
use Rattle.tpf_base.specs.declared.fault.Fault.TheVariants as sinks
use Rattle.tpf_client.specs.declared.options.Options.{Options}
use Rattle.tpf_client.specs.declared.fault.ClientFault.{ClientFault}
use Rattle.tpf_client.specs.declared.fault.ClientFault.TheVariants as clients
use Rattle.tpf_client.specs.Offers.{Offer}
use Rattle.data_files.specs.declared.fault.DataFault.{DataFault}
use Rattle.data_files.specs.declared.fault.DataFault.TheVariants as data_faults
use Rattle.data_files.specs.declared.fault.QueryFileFault.{QueryFileFault}
use Rattle.data_files.specs.declared.fault.QueryFileFault.TheVariants as query_faults
use Rattle.query_command.specs.Plans.{MayEndBy}
use Rattle.command_endings.specs.Endings.{data_status, query_status, client_status, fault_status}
use Rattle.tpf_cli.specs.Runs.{unwritten}
use Rattle.tpf_cli.specs.Promises.{KeepsPlan}

module _ (n : ℕ) (options : Options) (offer : Offer) (plan : List Address) where
  -- a status that the table does not speak of
  other_status : (status : ℕ) → (status ≤ 4) ⊎ ((8 ≤ status) × (status ≤ 10)) → KeepsPlan n options offer plan status
  other_status status (inl low) = record {
    exchange = λ e. absurd (omega (arith, low, e));
    reply = λ e. absurd (omega (arith, low, e));
    budget = λ e. absurd (omega (arith, low, e));
    changed = λ e. omega (arith, low, e);
    wire = λ e. omega (arith, low, e);
  }
  other_status status (inr between) = record {
    exchange = λ e. absurd (omega (arith, between, e));
    reply = λ e. absurd (omega (arith, between, e));
    budget = λ e. absurd (omega (arith, between, e));
    changed = λ e. omega (arith, between, e);
    wire = λ e. omega (arith, between, e);
  }

  pub done_table : KeepsPlan n options offer plan 0
  done_table = other_status 0 (inl (omega arith))

  pub memory_table : KeepsPlan n options offer plan 8
  memory_table = other_status 8 (inr (omega arith, omega arith))

  pub data_table : (fault : DataFault) → KeepsPlan n options offer plan (data_status fault)
  data_table data_faults.TooLong = other_status 3 (inl (omega arith))
  data_table (data_faults.Bad line why) = other_status 3 (inl (omega arith))
  data_table (data_faults.GenidClash label) = other_status 3 (inl (omega arith))
  data_table data_faults.TooMany = other_status 3 (inl (omega arith))
  data_table data_faults.File = other_status 10 (inr (omega arith, omega arith))
  data_table data_faults.OutOfMemory = memory_table

  pub query_table : (fault : QueryFileFault) → KeepsPlan n options offer plan (query_status fault)
  query_table (query_faults.Bad at why) = other_status 4 (inl (omega arith))
  query_table query_faults.File = other_status 10 (inr (omega arith, omega arith))
  query_table query_faults.OutOfMemory = memory_table

  pub client_table : (fault : ClientFault) → MayEndBy n options offer plan fault → KeepsPlan n options offer plan (client_status fault)
  client_table clients.Exchange h = record { exchange = λ e. h; reply = λ e. absurd (omega (arith, e)); budget = λ e. absurd (omega (arith, e)); changed = λ e. omega (arith, e); wire = λ e. omega (arith, e) }
  client_table clients.Stalled h = absurd h
  client_table (clients.Cut received) h = record { exchange = λ e. h; reply = λ e. absurd (omega (arith, e)); budget = λ e. absurd (omega (arith, e)); changed = λ e. omega (arith, e); wire = λ e. omega (arith, e) }
  client_table (clients.Reply fault received) h = record { exchange = λ e. absurd (omega (arith, e)); reply = λ e. (received, h.1); budget = λ e. absurd (omega (arith, e)); changed = λ e. omega (arith, e); wire = λ e. omega (arith, e) }
  client_table (clients.Page fault body) h = absurd h
  client_table (clients.Changed first other) h = absurd h
  client_table (clients.Budget most) h = record { exchange = λ e. absurd (omega (arith, e)); reply = λ e. absurd (omega (arith, e)); budget = λ e. h.1; changed = λ e. omega (arith, e); wire = λ e. omega (arith, e) }
  client_table clients.Sink h = other_status 9 (inr (omega arith, omega arith))
  client_table clients.OutOfMemory h = memory_table

  -- a line that was not written is a fault of the output, or want of memory
  pub cut_table : (cause : Fault) → KeepsPlan n options offer plan (fault_status (unwritten cause))
  cut_table sinks.Failed = other_status 9 (inr (omega arith, omega arith))
  cut_table sinks.OutOfMemory = memory_table
