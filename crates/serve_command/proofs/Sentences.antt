-- What was said of a service is said of its command: over the wire as it was before, and of more data sets that may follow.
use Rattle.std.proofs.Common.{ℕ, ◌≡◌, ◌≤◌, ◌<◌, ◌==◌, ◌≢◌, ◌+◌, ◌⊎◌, inl, inr, List, [], ◌∷◌, Option, Some, None, is_some, Bool, true, false, codes, Result, Ok, Err, IfOk, IfErr, OnOk, if◌then◌else◌, refl, sym, ap, subst, ◌∙◌, arith}
use Rattle.std.specs.Io.KnownBytes.{Appends}
use Rattle.std.specs.List.{AllByRecursion}
use Rattle.std.proofs.KnownBytes.{Appends-nil}
use Rattle.std.proofs.lemmas.Bool.{eqb-true, true≢false}
use Rattle.rdf_terms.specs.declared.term.Triple.{Triple}
use Rattle.template_fill.specs.Metadata.{Config}
use Rattle.triple_table.specs.declared.choice.Choice.{Choice}
use Rattle.tpf_base.specs.Addresses.{Address, authority_of}
use Rattle.tpf_base.specs.Causes.{Rose}
use Rattle.tpf_base.specs.Rises.{RoseBy-within}
use Rattle.tpf_base.specs.Links.{Link, WireState}
use Rattle.tpf_base.specs.Calls.{GivesNone, OnlyListens}
use Rattle.tpf_base.specs.Outside.{ShelfState, AsksOnce}
use Rattle.tpf_base.specs.Wrote.{SinkState, AppendsPrefix}
use Rattle.connections.specs.Kinds.{Kind}
use Rattle.connections.specs.Versions.{Serving, IsHistory}
use Rattle.serve_loop.proofs.ReloadLemmas.{same_count}
use Rattle.serve_loop.specs.declared.live.Served.{Served}
use Rattle.serve_loop.specs.declared.live.ServeFault.{ServeFault}
use Rattle.serve_loop.specs.declared.live.ServeFault.TheVariants as loop_faults
use Rattle.serve_loop.specs.Traffic.{Moment, took}
use Rattle.serve_loop.specs.Sentence.{AllClosed, Sentence, SendsResponse, SendsWhole, SpeaksWhole}
use Rattle.serve_loop.specs.Calls.{IsUntouched}
use Rattle.serve_loop.specs.Service.{ServesTurns, FailsTurns, RoseAtDoor}
use Rattle.fragment_server.specs.Fragments.{fragments}
use Rattle.data_files.specs.declared.fault.DataFault.{DataFault}
use Rattle.data_files.specs.declared.fault.DataFault.TheVariants as data_faults
use Rattle.data_files.specs.Data.{Files, IfTold, IsOfFile, Outcome, IsOutcome, served}
use Rattle.data_files.specs.Kept.{KeepsShelf, ReadsNamed, AsksOnly, KeepsSink}
use Rattle.data_files.specs.KeptLaws.{shelf_both, reads_keep, sink_none, only_once, only_both}
use Rattle.data_files.specs.Causes.{DataCause, DataDecides}
use Rattle.data_files.proofs.Outcomes.{one_outcome}
use Rattle.data_servers.specs.Servers.{Starts}
use Rattle.data_servers.specs.Supplies.{IsFault, IsRefused, FailedReading, FileView, KeepsFile}
use Rattle.serve_command.specs.declared.fault.ServiceFault.{ServiceFault}
use Rattle.serve_command.specs.declared.fault.ServiceFault.TheVariants as faults
use Rattle.serve_command.specs.Services.{LeavesAsBefore, Services, EndsService, ServesLinks, ServesServer, ServesFile, SaysReady, IsDataServed, MayFollow, FailedReload, FailedShelf, SpeaksOfFile, SaysPrefixes, SaysWhole, LinksCause, DoorCause, ServiceCause, IsServing, GivesServed, TakesTurns, OpensAndTurns, answer_of, door_of}

module _ {C Data Settings : Type 0} (kind : Kind C Data Settings) (may other : Data → Type 0) (weaker : (d : Data) → may d → other d) where
  all_weaker : (ds : List Data) → AllByRecursion may ds → AllByRecursion other ds
  all_weaker [] a = tt
  all_weaker (d ∷ ds) a = (weaker d a.0, all_weaker ds a.1)

  module _ (first : List Data) (since now : Moment Data Settings) (wire : WireState) (given : since.wire.given ≡ wire.given) where
    abbrev earlier : Moment Data Settings
    earlier = record since { wire = wire }

    sends : (history : List Data) (owner : ℕ → ℕ) (k : ℕ) (sent received : List ℕ) → SendsResponse kind since now history owner k sent received → SendsResponse kind earlier now history owner k sent received
    sends history owner k sent received s = record { marks = s.marks; marked = s.marked; rest = s.rest; response = s.response; excused = s.excused; level = s.level; numbers = s.numbers; rising = s.rising }

    pub prefixes : Sentence kind may first since now → Sentence kind other first earlier now
    prefixes s = record {
      history = s.history;
      given = s.given;
      owner = s.owner;
      versions = record {
        history_is = s.versions.history_is;
        serves = s.versions.serves;
        config = s.versions.config;
        count = s.versions.count;
        left = s.versions.left;
        may_be = all_weaker (took s.given) s.versions.may_be;
        faults = s.versions.faults;
      };
      links = λ k later below sent received is_sent is_received. sends s.history s.owner k sent received (s.links k (subst (λ (n : ℕ). n ≤ k) (sym given) later) below sent received is_sent is_received);
    }

    sends_whole : (history : List Data) (owner : ℕ → ℕ) (k : ℕ) → SendsWhole kind since now history owner k → SendsWhole kind earlier now history owner k
    unfolding sends
    sends_whole history owner k s = record {
      later = subst (λ (n : ℕ). n ≤ k) given s.later;
      given = s.given;
      whole = λ sent received is_sent is_received. let w = s.whole sent received is_sent is_received in (sends history owner k sent received w.0, w.1);
      end_ = s.end_;
    }

    all_whole : (history : List Data) (owner : ℕ → ℕ) (links : List ℕ) → AllByRecursion (SendsWhole kind since now history owner) links → AllByRecursion (SendsWhole kind earlier now history owner) links
    all_whole history owner [] a = tt
    all_whole history owner (k ∷ links) a = (sends_whole history owner k a.0, all_whole history owner links a.1)

    pub whole : (faults' faults connections starved : ℕ) → faults' ≤ faults → SpeaksWhole kind may first since now faults connections starved → SpeaksWhole kind other first earlier now faults' connections starved
    unfolding prefixes
    whole faults' faults connections starved before s = record {
      prefixes = prefixes s.prefixes;
      whole = record {
        whole = s.whole.whole;
        once = s.whole.once;
        each = all_whole s.prefixes.history s.prefixes.owner s.whole.whole s.whole.each;
        broken = s.whole.broken;
        wanted = s.whole.wanted;
        connections_is = s.whole.connections_is;
        starved_is = s.whole.starved_is;
        rose = RoseBy-within s.whole.broken s.whole.broken faults now.wire.faults faults' now.wire.faults (omega arith) before (omega arith) s.whole.rose;
      };
    }

module _ (may other : List Triple → Type 0) (weaker : (d : List Triple) → may d → other d) (Reason Other : Type 0) (reason : Reason → Other) (server : Serving (List Triple) Config) (old start new : WireState) (given : start.given ≡ old.given) where
  pub prefixes_from : Services server start new Reason (SaysPrefixes may) → Services server old new Other (SaysPrefixes other)
  prefixes_from s = record {
    since = record s.since { wire = old };
    now = s.now;
    serves = s.serves;
    since_wire = refl;
    now_wire = s.now_wire;
    failed = λ rose. reason (s.failed rose);
    says = prefixes fragments may other weaker (server.data_set ∷ []) s.since s.now old (ap (λ (w : WireState). w.given) s.since_wire ∙ given) s.says;
  }

  pub whole_from : (faults' faults connections : ℕ) → faults' ≤ faults → Services server start new Reason (SaysWhole faults connections may) → Services server old new Other (SaysWhole faults' connections other)
  whole_from faults' faults connections before s = record {
    since = record s.since { wire = old };
    now = s.now;
    serves = s.serves;
    since_wire = refl;
    now_wire = s.now_wire;
    failed = λ rose. reason (s.failed rose);
    says = whole fragments may other weaker (server.data_set ∷ []) s.since s.now old (ap (λ (w : WireState). w.given) s.since_wire ∙ given) faults' faults connections 0 before s.says;
  }

-- one data set is the history of version 1
pub first_history : (server : Serving (List Triple) Config) → server.version ≡ 1 → IsHistory (server.data_set ∷ []) server
first_history server is = record { count = sym is; before = []; last = refl }

pub services : {Says : List (List Triple) → Moment (List Triple) Config → Moment (List Triple) Config → Type 0} (server : Serving (List Triple) Config) (since now : Moment (List Triple) Config) → since.served ≡ server → Says (server.data_set ∷ []) since now → Services server since.wire now.wire (Rose since.supply.faults now.supply.faults) Says
services server since now is says = record { since = since; now = now; serves = is; since_wire = refl; now_wire = refl; failed = λ rose. rose; says = says }

-- no connection starved
pub spoken : (may : List Triple → Type 0) (first : List (List Triple)) (since now : Moment (List Triple) Config) (faults connections starved : ℕ) → starved ≡ 0 → SpeaksWhole fragments may first since now faults connections starved → SpeaksWhole fragments may first since now faults connections 0
spoken may first since now faults connections starved zero s = subst (λ (n : ℕ). SpeaksWhole fragments may first since now faults connections n) zero s

-- ---- the answer of the loop as that of a command

ok_if : (P : ℕ → Type 0) (b : Bool) (n : ℕ) → (b ≡ true → P n) → IfOk (if b then Ok n else Err faults.OutOfMemory) P
ok_if P true n f = f refl
ok_if P false n f = tt

err_if : (b : Bool) (n : ℕ) (a c : WireState) → IfErr (if b then Ok n else Err faults.OutOfMemory) (LinksCause a c)
err_if true n a c = tt
err_if false n a c = tt

pub answered : (P : Served → Type 0) (Q : ℕ → Type 0) (result : Result Served ServeFault) → ((s : Served) → s.starved ≡ 0 → P s → Q s.connections) → IfOk result P → IfOk (answer_of result) Q
answered P Q (Ok s) f p = ok_if Q (s.starved == 0) s.connections (λ e. f s (eqb-true s.starved 0 e) p)
answered P Q (Err loop_faults.Wire) f p = tt
answered P Q (Err loop_faults.OutOfMemory) f p = tt

-- what holds where the loop answered, whatever it was
pub answered_at_all : (P : Type 0) (result : Result Served ServeFault) → OnOk result P → OnOk (answer_of result) P
answered_at_all P (Ok s) p = at_all (s.starved == 0)
  where
    at_all : (b : Bool) → OnOk (if b then Ok s.connections else Err faults.OutOfMemory) P
    at_all true = p
    at_all false = tt
answered_at_all P (Err loop_faults.Wire) p = tt
answered_at_all P (Err loop_faults.OutOfMemory) p = tt

pub caused : (result : Result Served ServeFault) (a b : WireState) → IfErr result (λ fault. fault ≡ loop_faults.Wire → RoseAtDoor a b) → IfErr (answer_of result) (LinksCause a b)
caused (Ok s) a b h = err_if (s.starved == 0) s.connections a b
caused (Err loop_faults.Wire) a b h = h refl
caused (Err loop_faults.OutOfMemory) a b h = tt

-- ---- links

pub closed_from : (old start new : WireState) → start.given ≡ old.given → AllClosed start new → AllClosed old new
closed_from old start new given c = record { closed = λ k later below. c.closed k (subst (λ (n : ℕ). n ≤ k) (sym given) later) below }

pub none_given : (old new : WireState) → new.given ≡ old.given → AllClosed old new
none_given old new given = record { closed = λ k later below. absurd (omega (arith, given, later, below)) }

-- ---- the answer of a function that is that of the loop

pub answered_by : (P : Served → Type 0) (Q : ℕ → Type 0) (result : Result Served ServeFault) (answer : Result ℕ ServiceFault) → answer ≡ answer_of result → ((s : Served) → s.starved ≡ 0 → P s → Q s.connections) → IfOk result P → IfOk answer Q
answered_by P Q result answer e f p = subst (λ (r : Result ℕ ServiceFault). IfOk r Q) (sym e) (answered P Q result f p)

pub answered_at_all_by : (P : Type 0) (result : Result Served ServeFault) (answer : Result ℕ ServiceFault) → answer ≡ answer_of result → OnOk result P → OnOk answer P
answered_at_all_by P result answer e p = subst (λ (r : Result ℕ ServiceFault). OnOk r P) (sym e) (answered_at_all P result p)

pub caused_by : (result : Result Served ServeFault) (answer : Result ℕ ServiceFault) (a b : WireState) → answer ≡ answer_of result → IfErr result (λ fault. fault ≡ loop_faults.Wire → RoseAtDoor a b) → IfErr answer (LinksCause a b)
caused_by result answer a b e h = subst (λ (r : Result ℕ ServiceFault). IfErr r (LinksCause a b)) (sym e) (caused result a b h)

-- ---- what may follow

pub if_ok_map : (P Q : ℕ → Type 0) (result : Result ℕ ServiceFault) → ((n : ℕ) → P n → Q n) → IfOk result P → IfOk result Q
if_ok_map P Q (Ok n) f p = f n p
if_ok_map P Q (Err fault) f p = tt

pub same_file : (told told' : Option Files) (name name' : List ℕ) (choice choice' : Choice) (base base' : Address) → told' ≡ told → name' ≡ name → choice' ≡ choice → base' ≡ base
    → (triples : List Triple) → IsOfFile told' name' choice' (authority_of base') triples → IsOfFile told name choice (authority_of base) triples
same_file told told' name name' choice choice' base base' t n c b = λ triples h.
    let one : ◌≡◌ {A = Option Files × List ℕ × Choice × Address} (told', name', choice', base') (told, name, choice, base) = cc in
    subst (λ (p : Option Files × List ℕ × Choice × Address). IsOfFile p.0 p.1 p.2 (authority_of p.3) triples) one h

pub there : {A : Type 0} (o : Option A) → is_some o ≡ true → o ≢ None
there None e = λ _. absurd (true≢false (sym e))
there (Some x) e = λ none. cc

pub reloads_by : (old new : ShelfState) (name : List ℕ) (choice : Choice) (config : Config) → FailedReading old new name choice (authority_of config.base) → FailedReload old new name choice config
reloads_by old new name choice config h = λ some. h

-- without a path, no reload failed
pub reloads_none : (old new : ShelfState) (name : List ℕ) (choice : Choice) (config : Config) → is_some config.reload ≡ false → Unit {0} → FailedReload old new name choice config
reloads_none old new name choice config none h = λ some. absurd (some (missing config.reload none))
  where
    missing : {A : Type 0} (o : Option A) → is_some o ≡ false → o ≡ None
    missing None e = refl
    missing (Some x) e = absurd (true≢false e)

pub follows : (told : Option Files) (name : List ℕ) (choice : Choice) (config : Config) → is_some config.reload ≡ true → (triples : List Triple) → IsOfFile told name choice (authority_of config.base) triples → MayFollow told name choice config triples
follows told name choice config some = λ triples h. (there config.reload some, h)

-- ---- the service of links, of more data sets that may follow, and for another reason

pub serves_links_from : (may other : List Triple → Type 0) → ((d : List Triple) → may d → other d) → (Reason Other : Type 0) → (Reason → Other)
    → (server : Serving (List Triple) Config) (stop_after : Option ℕ) (old new : WireState) (result : Result ℕ ServiceFault)
    → ServesLinks may Reason server stop_after old new result → ServesLinks other Other server stop_after old new result
serves_links_from may other weaker Reason Other reason server stop_after old new result s = record {
  alone = s.alone;
  prefixes = prefixes_from may other weaker Reason Other reason server old old new refl s.prefixes;
  whole = if_ok_map _ _ result (λ n w. whole_from may other weaker Reason Other reason server old old new refl old.faults old.faults n (same_count old.faults) w) s.whole;
  ends = s.ends;
  turns = s.turns;
  err = s.err;
}

-- the shelf as it was left is that of the supply
pub ended_shelf : {F : Type 0} (state : F → ShelfState) (ended is : F) → ended ≡ is → (Says : ShelfState → Type 0) → Says (state is) → Says (state ended)
ended_shelf {F} state ended is same Says s = subst (λ (shelf : F). Says (state shelf)) (sym same) s

-- a supply of a file failed since it was made: the count of its own faults was 0 then
pub failed_reading : (old new : FileView) → old.faults ≡ 0 → KeepsFile old new → Rose old.faults new.faults → FailedReading old.shelf new.shelf old.name old.choice (authority_of old.base)
failed_reading old new zero keeps rose = keeps.failed (omega (arith, zero, rose))

-- the same of the file of which the supply was made
pub reading_of : (old before new : ShelfState) (name name' : List ℕ) (choice choice' : Choice) (base base' : Address) → before ≡ old → name' ≡ name → choice' ≡ choice → base' ≡ base
    → FailedReading before new name' choice' (authority_of base') → FailedReading old new name choice (authority_of base)
reading_of old before new name name' choice choice' base base' t n c b h =
    let one : ◌≡◌ {A = ShelfState × List ℕ × Choice × Address} (before, name', choice', base') (old, name, choice, base) = cc in
    subst (λ (p : ShelfState × List ℕ × Choice × Address). FailedReading p.0 new p.1 p.2 (authority_of p.3)) one h

-- ---- how often it waited

turns_if : (config : Config) (stop_after : Option ℕ) (old new : WireState) (b : Bool) (n : ℕ) → ServesTurns fragments config stop_after n old new → TakesTurns config stop_after old new (if b then Ok n else Err faults.OutOfMemory)
turns_if config stop_after old new true n s = s
turns_if config stop_after old new false n s = inl (n, s)

takes_turns : (config : Config) (stop_after : Option ℕ) (old new : WireState) (result : Result Served ServeFault) → IfOk result (λ s. ServesTurns fragments config stop_after s.connections old new) → IfErr result (λ fault. FailsTurns fragments config stop_after fault old new)
    → TakesTurns config stop_after old new (answer_of result)
takes_turns config stop_after old new (Ok s) serves fails = turns_if config stop_after old new (s.starved == 0) s.connections serves
takes_turns config stop_after old new (Err loop_faults.Wire) serves fails = fails
takes_turns config stop_after old new (Err loop_faults.OutOfMemory) serves fails = inr fails

pub turns_by : (config : Config) (stop_after : Option ℕ) (old new : WireState) (result : Result Served ServeFault) (answer : Result ℕ ServiceFault) → answer ≡ answer_of result
    → IfOk result (λ s. ServesTurns fragments config stop_after s.connections old new) → IfErr result (λ fault. FailsTurns fragments config stop_after fault old new) → TakesTurns config stop_after old new answer
turns_by config stop_after old new result answer e serves fails = subst (λ (r : Result ℕ ServiceFault). TakesTurns config stop_after old new r) (sym e) (takes_turns config stop_after old new result serves fails)

pub opens_and_turns : (config : Config) (stop_after : Option ℕ) (old start new : WireState) (result : Result ℕ ServiceFault) → OnlyListens old start → TakesTurns config stop_after start new result → OpensAndTurns config stop_after old new result
opens_and_turns config stop_after old start new (Ok n) listens turns = (start, listens, turns)
opens_and_turns config stop_after old start new (Err fault) listens turns = inr (inr (start, listens, turns))

-- ---- the service of a server, from before its door was open

pub on_ok_so : (P : Type 0) (result : Result ℕ ServiceFault) → P → OnOk result P
on_ok_so P (Ok n) p = p
on_ok_so P (Err fault) p = tt

pub links_from : (old start new : ℕ) (result : Result ℕ ServiceFault) → start ≡ old → IfOk result (λ n. start + n ≤ new) → IfOk result (λ n. old + n ≤ new)
links_from old start new (Ok n) given h = subst (λ (k : ℕ). k + n ≤ new) given h
links_from old start new (Err fault) given h = tt

calm_from : (old start new : WireState) (result : Result ℕ ServiceFault) → OnOk result (start.door.faults ≡ old.door.faults) → OnOk result (new.door.faults ≡ start.door.faults) → OnOk result (new.door.faults ≡ old.door.faults)
calm_from old start new (Ok n) fine calm = calm ∙ fine
calm_from old start new (Err fault) fine calm = tt

pub older_none : (old new : WireState) (k : ℕ) → new.links k ≡ old.links k → IsUntouched (old.links k) (new.links k)
older_none old new k same = subst (λ (link : Link). IsUntouched (old.links k) link) (sym same) ((old.links k).woken, refl)

-- what is said of a service from its open door on is said from before it
pub ends_from : (stop_after : Option ℕ) (old start new : WireState) (result : Result ℕ ServiceFault) → GivesNone old start → OnOk result (start.door.faults ≡ old.door.faults) → EndsService stop_after start new result → EndsService stop_after old new result
ends_from stop_after old start new result none fine s = record {
  closed = closed_from old start new none.given s.closed;
  older = λ k below. subst (λ (link : Link). IsUntouched link (new.links k)) (none.links k) (s.older k (subst (λ (n : ℕ). k < n) (sym none.given) below));
  stops = s.stops;
  soon = s.soon;
  never = s.never;
  links = links_from old.given start.given new.given result none.given s.links;
  calm = calm_from old start new result fine s.calm;
}

-- the door was opened, and then `ready` was said
pub says_from : (base : Address) (wire start wire' : WireState) (out out' : SinkState) (result : Result ℕ ServiceFault) → start.given ≡ wire.given → wire'.door.place ≡ door_of base
    → Appends out.taken out'.taken (codes "ready\n") → AppendsPrefix out.taken out'.taken (codes "ready\n") → SaysReady base wire wire' out out' result
says_from base wire start wire' out out' result given at ready front =
    record { ready = on_ok_so _ result ready; front = front; opened = on_ok_so _ result at; door = inr at; place = inr at; after = inr ready }

pub door_cause : (wire start wire' : WireState) (out out' : ℕ) (result : Result ℕ ServiceFault) → wire.faults ≤ start.faults → wire.door.faults ≤ start.door.faults → IfErr result (LinksCause start wire') → IfErr result (DoorCause wire wire' out out')
door_cause wire start wire' out out' (Ok n) before door h = tt
door_cause wire start wire' out out' (Err (faults.Data fault)) before door h = absurd h
door_cause wire start wire' out out' (Err faults.Wire) before door h = record {
  faults = RoseBy-within 1 1 start.faults wire'.faults wire.faults wire'.faults (omega arith) before (omega arith) h.faults;
  door = RoseBy-within 1 1 start.door.faults wire'.door.faults wire.door.faults wire'.door.faults (omega arith) door (omega arith) h.door;
}
door_cause wire start wire' out out' (Err faults.Sink) before door h = absurd h
door_cause wire start wire' out out' (Err faults.OutOfMemory) before door h = tt

module _ (shelf shelf' : ShelfState) (name : List ℕ) (choice : Choice) (authority : List ℕ) (wire wire' : WireState) (out out' : SinkState) (served : IsDataServed shelf.told name choice authority) where
  service_cause_of : (fault : ServiceFault) → DoorCause wire wire' out.faults out'.faults fault → ServiceCause shelf shelf' name choice authority wire wire' out out' fault
  service_cause_of (faults.Data fault) h = absurd h
  service_cause_of faults.Wire h = (h, served)
  service_cause_of faults.Sink h = (h, served)
  service_cause_of faults.OutOfMemory h = tt

  pub service_cause : (result : Result ℕ ServiceFault) → IfErr result (DoorCause wire wire' out.faults out'.faults) → IfErr result (ServiceCause shelf shelf' name choice authority wire wire' out out')
  service_cause (Ok n) h = tt
  service_cause (Err fault) h = service_cause_of fault h

module _ (wire wire' : WireState) (out out' : SinkState) where
  untouched_of : (fault : ServiceFault) → DoorCause wire wire' out.faults out'.faults fault → LeavesAsBefore wire wire' out out' fault
  untouched_of (faults.Data fault) h = absurd h
  untouched_of faults.Wire h = tt
  untouched_of faults.Sink h = tt
  untouched_of faults.OutOfMemory h = tt

  pub untouched : (result : Result ℕ ServiceFault) → IfErr result (DoorCause wire wire' out.faults out'.faults) → IfErr result (LeavesAsBefore wire wire' out out')
  untouched (Ok n) h = tt
  untouched (Err fault) h = untouched_of fault h

  -- where the service of a server ended, its file had been read
  pub not_of_file : (result : Result ℕ ServiceFault) → IfErr result (DoorCause wire wire' out.faults out'.faults) → result ≢ Err (faults.Data data_faults.File)
  not_of_file (Ok n) h = λ e. cc
  not_of_file (Err (faults.Data fault)) h = absurd h
  not_of_file (Err faults.Wire) h = λ e. cc
  not_of_file (Err faults.Sink) h = λ e. cc
  not_of_file (Err faults.OutOfMemory) h = λ e. cc

-- ---- the service of the file

pub follow_by : (told told' : Option Files) (name : List ℕ) (choice : Choice) (one other : Config) → told' ≡ told → one ≡ other → (triples : List Triple) → MayFollow told' name choice one triples → MayFollow told name choice other triples
follow_by told told' name choice one other t same triples h =
    let at : MayFollow told name choice one triples = subst (λ (files : Option Files). MayFollow files name choice one triples) t h in
    subst (λ (config : Config). MayFollow told name choice config triples) same at

-- a file that was served is not one of which nothing is served
not_refused : (files : Files) (name : List ℕ) (choice : Choice) (authority : List ℕ) (triples : List Triple) → IsOutcome files name choice authority (served triples) → ¬ (IsRefused files name choice authority)
not_refused files name choice authority triples is = λ refused. subst IsFault (one_outcome files name choice authority refused.0 (served triples) refused.1 is) refused.2

module _ (shelf mid shelf' : ShelfState) (first : KeepsShelf shelf mid) (name : List ℕ) (choice : Choice) (config : Config) (server : Serving (List Triple) Config) (starts : Starts shelf.told name choice config server) where
  failed_shelf : FailedReading mid shelf' name choice (authority_of config.base) → IfTold shelf.told (λ files. Rose shelf.faults shelf'.faults)
  failed_shelf (inl rose) = λ files is. RoseBy-within 1 1 mid.faults shelf'.faults shelf.faults shelf'.faults (omega arith) first.later (omega arith) rose
  failed_shelf (inr refused) = λ files is. absurd (not_refused files name choice (authority_of config.base) server.data_set (starts.data_set.tells files is) (refused files (first.told ∙ is)))

  -- a reload of a file that was served fails with its shelf alone
  reason : FailedReload mid shelf' name choice server.config → FailedShelf shelf shelf' config
  reason h =
      let of : FailedReload mid shelf' name choice config = subst (λ (c : Config). FailedReload mid shelf' name choice c) starts.config_is h in
      λ some. failed_shelf (of some)

  module _ (old new : WireState) where
    pub prefixes_of_file : (new.given ≡ old.given) ⊎ Services server old new (FailedReload mid shelf' name choice server.config) (SaysPrefixes (MayFollow mid.told name choice server.config)) → (new.given ≡ old.given) ⊎ SpeaksOfFile shelf shelf' name choice config old new SaysPrefixes
    prefixes_of_file (inl none) = inl none
    prefixes_of_file (inr s) = inr (record { server = server; starts = starts; services = prefixes_from (MayFollow mid.told name choice server.config) (MayFollow shelf.told name choice config) (follow_by shelf.told mid.told name choice server.config config first.told starts.config_is) (FailedReload mid shelf' name choice server.config) (FailedShelf shelf shelf' config) reason server old old new refl s })

    pub whole_of_file : (faults : ℕ) (result : Result ℕ ServiceFault) → IfOk result (λ n. Services server old new (FailedReload mid shelf' name choice server.config) (SaysWhole faults n (MayFollow mid.told name choice server.config))) → IfOk result (λ n. SpeaksOfFile shelf shelf' name choice config old new (SaysWhole faults n))
    whole_of_file faults (Ok n) s = record { server = server; starts = starts; services = whole_from (MayFollow mid.told name choice server.config) (MayFollow shelf.told name choice config) (follow_by shelf.told mid.told name choice server.config config first.told starts.config_is) (FailedReload mid shelf' name choice server.config) (FailedShelf shelf shelf' config) reason server old old new refl faults faults n (same_count faults) s }
    whole_of_file faults (Err fault) s = tt

module _ (told : Option Files) (name : List ℕ) (choice : Choice) (config : Config) (server : Serving (List Triple) Config) (starts : Starts told name choice config server) where
  serving_gives : (wire wire' : WireState) (out out' : ℕ) (outcome : Outcome) (result : Result ℕ ServiceFault) → IfErr result (DoorCause wire wire' out out') → IsServing outcome → GivesServed outcome result
  serving_gives wire wire' out out' outcome (Ok n) h s = s
  serving_gives wire wire' out out' outcome (Err (faults.Data fault)) h s = absurd h
  serving_gives wire wire' out out' outcome (Err faults.Wire) h s = s
  serving_gives wire wire' out out' outcome (Err faults.Sink) h s = s
  serving_gives wire wire' out out' outcome (Err faults.OutOfMemory) h s = tt

  decided : (wire wire' : WireState) (out out' : ℕ) (result : Result ℕ ServiceFault) → IfErr result (DoorCause wire wire' out out')
      → IfTold told (λ files. (outcome : Outcome) → IsOutcome files name choice (authority_of config.base) outcome → GivesServed outcome result)
  decided wire wire' out out' result h = λ files is outcome o.
      serving_gives wire wire' out out' outcome result h (server.data_set, one_outcome files name choice (authority_of config.base) outcome (served server.data_set) o (starts.data_set.tells files is))

-- ---- the command

same_fault : (one other : DataFault) → ◌≡◌ {A = Result ℕ ServiceFault} (Err (faults.Data one)) (Err (faults.Data other)) → one ≡ other
same_fault one other e = cc

-- `ready` is said at the place of a base, by the base of the server or by that of the service
says_at : (one other : Address) → one ≡ other → (wire wire' : WireState) (out out' : SinkState) (result : Result ℕ ServiceFault) → SaysReady one wire wire' out out' result → SaysReady other wire wire' out out' result
says_at one other same wire wire' out out' result s = subst (λ (base : Address). SaysReady base wire wire' out out' result) same s

-- the data of the file were read, and then the server of them was a service
pub serves_file : (shelf mid shelf' : ShelfState) (wire wire' : WireState) (out out' : SinkState) (name : List ℕ) (choice : Choice) (config : Config) (stop_after : Option ℕ) (result : Result ℕ ServiceFault)
    (server : Serving (List Triple) Config) → Starts shelf.told name choice config server → KeepsShelf shelf mid → KeepsShelf mid shelf' → AsksOnly name shelf mid → AsksOnly name mid shelf' → KeepsSink out out' → (config.reload ≡ None → AsksOnce name shelf shelf')
    → ServesServer mid shelf' wire wire' out out' name choice server stop_after result → ServesFile shelf shelf' wire wire' out out' name choice config stop_after result
serves_file shelf mid shelf' wire wire' out out' name choice config stop_after result server starts first second asks more output once s = record {
  prefixes = prefixes_of_file shelf mid shelf' first name choice config server starts wire wire' s.prefixes;
  whole = whole_of_file shelf mid shelf' first name choice config server starts wire wire' wire.faults result s.whole;
  ends = s.ends;
  turns = subst (λ (c : Config). OpensAndTurns c stop_after wire wire' result) starts.config_is s.turns;
  listens = inr s.listens;
  says = says_at server.config.base config.base (ap (λ (c : Config). c.base) starts.config_is) wire wire' out out' result s.says;
  untouched = untouched wire wire' out out' result s.err;
  cause = service_cause shelf shelf' name choice (authority_of config.base) wire wire' out out' (server.data_set, starts.data_set) result s.err;
  exact = λ quiet. decided shelf.told name choice config server starts wire wire' out.faults out'.faults result s.err;
  keeps = shelf_both shelf mid shelf' first second;
  asks = only_both name shelf mid shelf' asks more;
  once = once;
  spared = λ fine there room. not_of_file wire wire' out out' result s.err;
  output = output;
}

-- neither wire nor output was touched
module _ (shelf shelf' : ShelfState) (wire : WireState) (out : SinkState) (name : List ℕ) (choice : Choice) (config : Config) (stop_after : Option ℕ) where
  ends_none : (fault : ServiceFault) → EndsService stop_after wire wire (Err fault)
  ends_none fault = record { closed = none_given wire wire refl; older = λ k below. ((wire.links k).woken, refl); stops = tt; soon = tt; never = tt; links = tt; calm = tt }

  says_none : (fault : ServiceFault) → SaysReady {T = ℕ} config.base wire wire out out (Err fault)
  says_none fault = record {
    ready = tt;
    front = record { front = []; rest = codes "ready\n"; whole = refl; bytes = Appends-nil out.taken };
    opened = tt;
    door = inl refl;
    place = inl refl;
    after = inl refl;
  }

  -- the file is not served
  pub serves_none : (fault : DataFault) (Fails : Type 0) → (fault ≡ data_faults.File → Fails) → DataCause shelf shelf' name choice (authority_of config.base) fault
      → DataDecides shelf shelf' name choice (authority_of config.base) (λ outcome. GivesServed {A = ℕ} outcome (Err (faults.Data fault)))
      → ReadsNamed name shelf shelf' Fails → ServesFile shelf shelf' wire wire out out name choice config stop_after (Err (faults.Data fault))
  serves_none fault Fails back cause exact reads = record {
    prefixes = inl refl;
    whole = tt;
    ends = ends_none (faults.Data fault);
    turns = inl refl;
    says = says_none (faults.Data fault);
    listens = inl refl;
    untouched = (refl, refl);
    cause = cause;
    exact = exact;
    keeps = reads_keep name shelf shelf' Fails reads;
    asks = only_once name shelf shelf' reads.asks;
    once = λ none. reads.asks;
    spared = λ fine there room e. reads.spared fine there room (back (same_fault fault data_faults.File e));
    output = sink_none out;
  }

  -- memory ran out over the base
  pub serves_starved : (Fails : Type 0) → ReadsNamed name shelf shelf' Fails → ServesFile shelf shelf' wire wire out out name choice config stop_after (Err faults.OutOfMemory)
  serves_starved Fails reads = record {
    prefixes = inl refl;
    whole = tt;
    ends = ends_none faults.OutOfMemory;
    turns = inl refl;
    says = says_none faults.OutOfMemory;
    listens = inl refl;
    untouched = tt;
    cause = tt;
    exact = λ quiet files is outcome o. tt;
    keeps = reads_keep name shelf shelf' Fails reads;
    asks = only_once name shelf shelf' reads.asks;
    once = λ none. reads.asks;
    spared = λ fine there room e. cc;
    output = sink_none out;
  }
