-- What a service says of the links that were given in it, and why it ended.
use Rattle.std.specs.Prelude.{ℕ, ◌≡◌, ◌≢◌, ◌==◌, ◌+◌, ◌-◌, ◌^◌, ◌<◌, ◌≤◌, ◌⊎◌, true, codes, List, [], ◌∷◌, Option, Some, None, Result, Ok, Err, IfOk, IfErr, IfSome, OnOk, if◌then◌else◌}
use Rattle.std.specs.Io.KnownBytes.{Appends}
use Rattle.rdf_terms.specs.declared.term.Triple.{Triple}
use Rattle.template_fill.specs.Metadata.{Config}
use Rattle.tpf_base.specs.Addresses.{Address, authority_of}
use Rattle.tpf_base.specs.Causes.{Rose, counted}
use Rattle.tpf_base.specs.Links.{WireState}
use Rattle.tpf_base.specs.Calls.{OnlyListens}
use Rattle.tpf_base.specs.Outside.{ShelfState, HoldsName, AsksOnce}
use Rattle.tpf_base.specs.Wrote.{SinkState, AppendsPrefix}
use Rattle.triple_table.specs.declared.choice.Choice.{Choice}
use Rattle.connections.specs.Versions.{Serving}
use Rattle.serve_loop.specs.declared.live.TheConstants.{MOST_LIVE}
use Rattle.serve_loop.specs.declared.live.Served.{Served}
use Rattle.serve_loop.specs.declared.live.ServeFault.{ServeFault}
use Rattle.serve_loop.specs.declared.live.ServeFault.TheVariants as loop_faults
use Rattle.serve_loop.specs.Traffic.{Moment}
use Rattle.serve_loop.specs.Calls.{ServesAlone}
use Rattle.serve_loop.specs.Sentence.{AllClosed, LeavesOlder, Sentence, SpeaksWhole}
use Rattle.serve_loop.specs.Service.{ServesTurns, FailsTurns, RoseAtDoor}
use Rattle.fragment_server.specs.Fragments.{fragments}
use Rattle.data_files.specs.declared.fault.DataFault.TheVariants as data_faults
use Rattle.data_files.specs.Data.{Files, IfTold, IsOfFile, Outcome, served}
use Rattle.data_files.specs.Kept.{KeepsShelf, AsksOnly, KeepsSink}
use Rattle.data_files.specs.Causes.{DataCause, DataDecides, Gives}
use Rattle.data_servers.specs.Servers.{Starts}
use Rattle.data_servers.specs.Supplies.{FailedReading}
use Rattle.serve_command.specs.declared.fault.ServiceFault.{ServiceFault}
use Rattle.serve_command.specs.declared.fault.ServiceFault.TheVariants as faults
use Rattle.serve_command.specs.declared.service.Service.{Service}

-- where the fragments of a service stand, and whether it reads rows
abbrev pub config_of : Service → Config
config_of service = record { base = service.base; page_size = service.page_size; reload = service.reload; rows = service.rows }

-- the host and the port of a base, at which its service listens
abbrev pub door_of : Address → Option (List ℕ × ℕ)
door_of base = Some (base.host, base.port)

-- data sets that follow the first one: none without the path of a reload, else the one that is served of the file, where the shelf tells it
abbrev pub MayFollow : Option Files → List ℕ → Choice → Config → List Triple → Type 0
MayFollow told name choice config triples = (config.reload ≢ None) × IsOfFile told name choice (authority_of config.base) triples

-- why a reload failed, by the shelf before and after: where there is the path of one, a read of the file failed
abbrev pub FailedReload : ShelfState → ShelfState → List ℕ → Choice → Config → Type 0
FailedReload old new name choice config = config.reload ≢ None → FailedReading old new name choice (authority_of config.base)

-- the same of a file that was served: where there is the path of a reload and the shelf tells what the file holds, the shelf failed
abbrev pub FailedShelf : ShelfState → ShelfState → Config → Type 0
FailedShelf old new config = config.reload ≢ None → IfTold old.told (λ files. Rose old.faults new.faults)

-- The moments in which the service of a server over a wire began and ended, and what is said of them. Where its supply failed in between, so that a reload may be answered as one that failed, this was the reason.
pub record Services (server : Serving (List Triple) Config) (old new : WireState) (Reason : Type 0) (Says : List (List Triple) → Moment (List Triple) Config → Moment (List Triple) Config → Type 0) : Type 0 where
  pub since : Moment (List Triple) Config
  pub now : Moment (List Triple) Config
  pub serves : since.served ≡ server
  pub since_wire : since.wire ≡ old
  pub now_wire : now.wire ≡ new
  pub failed : Rose since.supply.faults now.supply.faults → Reason
  pub says : Says (server.data_set ∷ []) since now

-- on each link given since: a front of its own response
abbrev pub SaysPrefixes : (List Triple → Type 0) → List (List Triple) → Moment (List Triple) Config → Moment (List Triple) Config → Type 0
SaysPrefixes may first since now = Sentence fragments may first since now

-- and of so many connections, less those that ended with their link, all of it; the wire had so many faults before
abbrev pub SaysWhole : ℕ → ℕ → (List Triple → Type 0) → List (List Triple) → Moment (List Triple) Config → Moment (List Triple) Config → Type 0
SaysWhole faults connections may first since now = SpeaksWhole fragments may first since now faults connections 0

-- the server's sentence of a command, over the data of its file, by the shelf before and after
pub record SpeaksOfFile (shelf shelf' : ShelfState) (name : List ℕ) (choice : Choice) (config : Config) (old new : WireState) (Says : (List Triple → Type 0) → List (List Triple) → Moment (List Triple) Config → Moment (List Triple) Config → Type 0) : Type 0 where
  pub server : Serving (List Triple) Config
  pub starts : Starts shelf.told name choice config server
  pub services : Services server old new (FailedShelf shelf shelf' config) (Says (MayFollow shelf.told name choice config))

-- how often it waited: it took turns, and waited after each round of them in which nothing moved or ended, until enough connections had ended, or until it gave up for this reason; or it stopped, and one connection had wanted memory
abbrev pub TakesTurns : Config → Option ℕ → WireState → WireState → Result ℕ ServiceFault → Type 0
TakesTurns config stop_after old new (Ok connections) = ServesTurns fragments config stop_after connections old new
TakesTurns config stop_after old new (Err (faults.Data fault)) = ⊥
TakesTurns config stop_after old new (Err faults.Wire) = FailsTurns fragments config stop_after loop_faults.Wire old new
TakesTurns config stop_after old new (Err faults.Sink) = ⊥
TakesTurns config stop_after old new (Err faults.OutOfMemory) = ((connections : ℕ) × ServesTurns fragments config stop_after connections old new) ⊎ FailsTurns fragments config stop_after loop_faults.OutOfMemory old new

-- the same from before the door was open; where it gave up, the turns may be none, and the door may not have been opened
abbrev pub OpensAndTurns : Config → Option ℕ → WireState → WireState → Result ℕ ServiceFault → Type 0
OpensAndTurns config stop_after old new (Ok connections) = (start : WireState) × OnlyListens old start × ServesTurns fragments config stop_after connections start new
OpensAndTurns config stop_after old new (Err fault) = (new ≡ old) ⊎ (OnlyListens old new ⊎ ((start : WireState) × OnlyListens old start × TakesTurns config stop_after start new (Err fault)))

-- why the service of links ended
abbrev pub LinksCause : WireState → WireState → ServiceFault → Type 0
LinksCause old new (faults.Data fault) = ⊥
LinksCause old new faults.Wire = RoseAtDoor old new
LinksCause old new faults.Sink = ⊥
LinksCause old new faults.OutOfMemory = Unit {0}

-- How a service of links ended: each link that was given in it is closed, and those from before are as they were; and a number of connections is answered only where the door did not fail, and it ends after so many, which are not more than were given, and fewer than MOST_LIVE (256) more than are enough.
pub record EndsService (stop_after : Option ℕ) (old new : WireState) (result : Result ℕ ServiceFault) : Type 0 where
  pub closed : AllClosed old new
  pub older : LeavesOlder old new
  pub stops : IfOk result (λ connections. IfSome stop_after (λ most. most ≤ connections))
  pub soon : IfOk result (λ connections. IfSome stop_after (λ most. connections ≤ (most - 1) + MOST_LIVE))
  pub never : OnOk result (stop_after ≡ None → ⊥)
  pub links : IfOk result (λ connections. old.given + connections ≤ new.given)
  pub calm : OnOk result (new.door.faults ≡ old.door.faults)

-- What the service of the links of a server does on a wire whose door is open: these data sets may follow the first, and this is the reason of a reload that failed.
pub record ServesLinks (may : List Triple → Type 0) (Reason : Type 0) (server : Serving (List Triple) Config) (stop_after : Option ℕ) (old new : WireState) (result : Result ℕ ServiceFault) : Type 0 where
  pub alone : ServesAlone old new
  pub prefixes : Services server old new Reason (SaysPrefixes may)
  pub whole : IfOk result (λ connections. Services server old new Reason (SaysWhole old.faults connections may))
  pub ends : EndsService stop_after old new result
  pub turns : TakesTurns server.config stop_after old new result
  pub err : IfErr result (LinksCause old new)

-- a connection that wanted memory makes it the answer
abbrev pub answer_of : Result Served ServeFault → Result ℕ ServiceFault
answer_of (Ok ended) = if ended.starved == 0 then Ok ended.connections else Err faults.OutOfMemory
answer_of (Err loop_faults.Wire) = Err faults.Wire
answer_of (Err loop_faults.OutOfMemory) = Err faults.OutOfMemory

-- why nobody was told that the door is open
abbrev pub SayCause : ℕ → ℕ → ServiceFault → Type 0
SayCause out out' (faults.Data fault) = ⊥
SayCause out out' faults.Wire = ⊥
SayCause out out' faults.Sink = Rose out out'
SayCause out out' faults.OutOfMemory = Unit {0}

-- why the door is not open, or nobody was told
abbrev pub DoorCause : WireState → WireState → ℕ → ℕ → ServiceFault → Type 0
DoorCause wire wire' out out' (faults.Data fault) = ⊥
DoorCause wire wire' out out' faults.Wire = RoseAtDoor wire wire'
DoorCause wire wire' out out' faults.Sink = Rose out out'
DoorCause wire wire' out out' faults.OutOfMemory = Unit {0}

-- `ready` and LF were written where a service began: once its door was open at the host and the port of the base, and before a link was given. The door was opened nowhere else.
pub record SaysReady {T : Type 0} (base : Address) (wire wire' : WireState) (out out' : SinkState) (result : Result T ServiceFault) : Type 0 where
  pub ready : OnOk result (Appends out.taken out'.taken (codes "ready\n"))
  pub front : AppendsPrefix out.taken out'.taken (codes "ready\n")
  pub opened : OnOk result (wire'.door.place ≡ door_of base)
  pub door : (out'.taken ≡ out.taken) ⊎ (wire'.door.place ≡ door_of base)
  pub place : (wire'.door.place ≡ wire.door.place) ⊎ (wire'.door.place ≡ door_of base)
  pub after : (wire'.given ≡ wire.given) ⊎ Appends out.taken out'.taken (codes "ready\n")

-- the data of the file are served
abbrev pub IsDataServed : Option Files → List ℕ → Choice → List ℕ → Type 0
IsDataServed told name choice authority = (triples : List Triple) × IsOfFile told name choice authority triples

-- why a service ended, by the shelf, the wire and the output before and after; the door is opened once the data are served
abbrev pub ServiceCause : ShelfState → ShelfState → List ℕ → Choice → List ℕ → WireState → WireState → SinkState → SinkState → ServiceFault → Type 0
ServiceCause shelf shelf' name choice authority wire wire' out out' (faults.Data fault) = DataCause shelf shelf' name choice authority fault
ServiceCause shelf shelf' name choice authority wire wire' out out' faults.Wire =
    RoseAtDoor wire wire' × IsDataServed shelf.told name choice authority
ServiceCause shelf shelf' name choice authority wire wire' out out' faults.Sink =
    Rose out.faults out'.faults × IsDataServed shelf.told name choice authority
ServiceCause shelf shelf' name choice authority wire wire' out out' faults.OutOfMemory = Unit {0}

-- where the data are not served, the wire and the output are as before
abbrev pub LeavesAsBefore : WireState → WireState → SinkState → SinkState → ServiceFault → Type 0
LeavesAsBefore wire wire' out out' (faults.Data fault) = (wire' ≡ wire) × (out' ≡ out)
LeavesAsBefore wire wire' out out' faults.Wire = Unit {0}
LeavesAsBefore wire wire' out out' faults.Sink = Unit {0}
LeavesAsBefore wire wire' out out' faults.OutOfMemory = Unit {0}

-- the data are not served
abbrev pub IsOfData : ServiceFault → Type 0
IsOfData (faults.Data fault) = Unit {0}
IsOfData faults.Wire = ⊥
IsOfData faults.Sink = ⊥
IsOfData faults.OutOfMemory = ⊥

-- the data are served
abbrev pub IsServing : Outcome → Type 0
IsServing outcome = (triples : List Triple) × (outcome ≡ served triples)

-- what the file holds is answered by itself, or by want of memory
abbrev pub GivesServed : {A : Type 0} → Outcome → Result A ServiceFault → Type 0
GivesServed outcome (Ok a) = IsServing outcome
GivesServed outcome (Err (faults.Data fault)) = Gives outcome (Err fault)
GivesServed outcome (Err faults.Wire) = IsServing outcome
GivesServed outcome (Err faults.Sink) = IsServing outcome
GivesServed outcome (Err faults.OutOfMemory) = Unit {0}

-- ---- the command

-- What a service of a server did whose file was read, from before its door was open.
pub record ServesServer (shelf shelf' : ShelfState) (wire wire' : WireState) (out out' : SinkState) (name : List ℕ) (choice : Choice) (server : Serving (List Triple) Config) (stop_after : Option ℕ) (result : Result ℕ ServiceFault) : Type 0 where
  pub prefixes : (wire'.given ≡ wire.given) ⊎ Services server wire wire' (FailedReload shelf shelf' name choice server.config) (SaysPrefixes (MayFollow shelf.told name choice server.config))
  pub whole : IfOk result (λ connections. Services server wire wire' (FailedReload shelf shelf' name choice server.config) (SaysWhole wire.faults connections (MayFollow shelf.told name choice server.config)))
  pub ends : EndsService stop_after wire wire' result
  pub turns : OpensAndTurns server.config stop_after wire wire' result
  pub says : SaysReady server.config.base wire wire' out out' result
  pub listens : wire'.door.calls ≡ counted wire.door.calls
  pub err : IfErr result (DoorCause wire wire' out.faults out'.faults)

-- What a service of a file did, from before the file was read. The door is opened once at most, and no other file is asked for. Without the path of a reload the file was asked for once. Over a faultless shelf that holds it and has a number left it is read.
pub record ServesFile (shelf shelf' : ShelfState) (wire wire' : WireState) (out out' : SinkState) (name : List ℕ) (choice : Choice) (config : Config) (stop_after : Option ℕ) (result : Result ℕ ServiceFault) : Type 0 where
  pub prefixes : (wire'.given ≡ wire.given) ⊎ SpeaksOfFile shelf shelf' name choice config wire wire' SaysPrefixes
  pub whole : IfOk result (λ connections. SpeaksOfFile shelf shelf' name choice config wire wire' (SaysWhole wire.faults connections))
  pub ends : EndsService stop_after wire wire' result
  pub turns : OpensAndTurns config stop_after wire wire' result
  pub says : SaysReady config.base wire wire' out out' result
  pub listens : (wire' ≡ wire) ⊎ (wire'.door.calls ≡ counted wire.door.calls)
  pub untouched : IfErr result (LeavesAsBefore wire wire' out out')
  pub cause : IfErr result (ServiceCause shelf shelf' name choice (authority_of config.base) wire wire' out out')
  pub exact : DataDecides shelf shelf' name choice (authority_of config.base) (λ outcome. GivesServed outcome result)
  pub keeps : KeepsShelf shelf shelf'
  pub asks : AsksOnly name shelf shelf'
  pub once : config.reload ≡ None → AsksOnce name shelf shelf'
  pub spared : shelf.faultless ≡ true → HoldsName shelf.told name → shelf.given < 2 ^ 32 → result ≢ Err (faults.Data data_faults.File)
  pub output : KeepsSink out out'
