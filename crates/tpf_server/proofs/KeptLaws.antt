-- What a connection keeps where heads were read, and where bytes were made.
use Rattle.std.proofs.Common.{◌≡◌, ℕ, ◌+◌, ◌-◌, ◌≤◌, ◌⊎◌, Bool, true, false, List, [], ◌∷◌, ◌++◌, length, take, drop, None, Result, Ok, Err, refl, ap, sym, subst, ◌∙◌, arith, length-append, length-drop, length-take}
use Rattle.std.specs.Prelude.{OnOk, is_err}
use Rattle.std.specs.List.{AllByRecursion}
use Rattle.std.proofs.lemmas.Bool.{true≢false}
use Rattle.std.proofs.lemmas.List.{drop-append-le}
use Rattle.list_laws.specs.Begins.{Begins}
use Rattle.list_laws.proofs.Begins.{more_begins}
use Rattle.list_laws.proofs.Each.{all_append}
use Rattle.tpf_base.specs.declared.limits.TheConstants.{ENOUGH_PENDING}
use Rattle.http_wire.specs.Requests.{Held, holding}
use Rattle.template_fill.specs.Metadata.{Config}
use Rattle.page_responses.specs.declared.rest.Rest.{Rest}
use Rattle.page_responses.specs.declared.rest.Rest.TheVariants.{Nothing}
use Rattle.page_responses.specs.Serving.{Serving}
use Rattle.page_responses.specs.Rests.{IsWithin}
use Rattle.tpf_server.specs.declared.limits.TheConstants.{MOST_PENDING}
use Rattle.tpf_server.specs.declared.asked.Queued.{Queued}
use Rattle.tpf_server.specs.declared.outcome.Reloaded.{Reloaded}
use Rattle.tpf_server.specs.declared.outcome.Reloaded.TheVariants as outcomes
use Rattle.tpf_server.specs.declared.reading.Reading.{Reading}
use Rattle.tpf_server.specs.declared.reading.Reading.TheVariants.{Reads, Waits, Ended}
use Rattle.tpf_server.specs.Asked.{IsAsked}
use Rattle.tpf_server.specs.Owed.{Fills, Fits, debt_left, debt_text}
use Rattle.tpf_server.specs.Read.{IsOpen, ReadsHeads}
use Rattle.tpf_server.specs.Reading.{is_ended}
use Rattle.tpf_server.specs.Reloads.{ReadsOn, outcome_asking, outcome_queued}
use Rattle.tpf_server.specs.Conversation.{Conversation, Makes}
use Rattle.tpf_server.proofs.ConversationLaws.{conversation, makes}

abbrev AllAsked : List Queued → Type 0
AllAsked waiting = AllByRecursion (λ (queued : Queued). IsAsked queued.asking) waiting

-- nothing fits
pub nothing_fits : (rest : Rest) (waiting : List Queued) → rest ≡ Nothing → waiting ≡ [] → Fits rest waiting
nothing_fits rest waiting r w = record { range = subst IsWithin (sym r) tt; asked = subst AllAsked (sym w) tt }

pub same_fits : (rest new : Rest) (waiting later : List Queued) → new ≡ rest → later ≡ waiting → Fits rest waiting → Fits new later
same_fits rest new waiting later r w fits = record { range = subst IsWithin (sym r) fits.range; asked = subst AllAsked (sym w) fits.asked }

-- the bytes that were taken are at most half, also where more were made
pub half_on : (given : ℕ) (old new : List ℕ) → given + given ≤ length old → Begins old new → given + given ≤ length new
half_on given old new half front = omega (arith, half, ap (λ (l : List ℕ). length l) front.same, length-append old front.more)

open_of : (reading : Reading) (held : Held) → IsOpen reading held → is_ended reading ≡ false → held.refused ≡ None
open_of Reads held is going = is
open_of (Waits last) held is going = is
open_of Ended held is going = absurd (true≢false going)

pub heads_open : (server : Serving) (bytes : List ℕ) (before after : List Queued) (reading : Reading) (held : Held) (ended : Bool) → ended ≡ is_ended reading → ReadsHeads server bytes before after reading held → ended ≡ false → held.refused ≡ None
heads_open server bytes before after reading held ended is r going = open_of reading held r.open_ (sym is ∙ going)

on_open : (server : Serving) (outcome : Reloaded) (last : Bool) (bytes : List ℕ) (before after : List Queued) (reading : Reading) (held : Held) → ReadsOn server outcome last bytes before after reading held → is_ended reading ≡ false → held.refused ≡ None
on_open server outcome true bytes before after reading held r going = absurd (true≢false (sym (ap is_ended r.0) ∙ going))
on_open server outcome false bytes before after reading held r going = open_of reading held r.open_ going

pub reload_open : (server : Serving) (outcome : Reloaded) (last : Bool) (bytes : List ℕ) (before after : List Queued) (reading : Reading) (held : Held) (ended : Bool) → ended ≡ is_ended reading → ReadsOn server outcome last bytes before after reading held → ended ≡ false → held.refused ≡ None
reload_open server outcome last bytes before after reading held ended is r going = on_open server outcome last bytes before after reading held r (sym is ∙ going)

-- the feed that is kept is not refused
pub kept_open : (ended : Bool) (kept held : Held) → (ended ≡ true → kept ≡ holding []) → (ended ≡ false → kept ≡ held) → (ended ≡ false → held.refused ≡ None) → kept.refused ≡ None
kept_open true kept held none same is = ap (λ (h : Held). h.refused) (none refl)
kept_open false kept held none same is = ap (λ (h : Held). h.refused) (same refl) ∙ is refl

-- what is owed fits, where heads were read
pub heads_fit : (server : Serving) (bytes : List ℕ) (rest new : Rest) (before after : List Queued) (reading : Reading) (held : Held) → Fits rest before → new ≡ rest → ReadsHeads server bytes before after reading held → Fits new after
heads_fit server bytes rest new before after reading held fits same r = record { range = subst IsWithin (sym same) fits.range; asked = r.asked fits.asked }

outcome_asked : (outcome : Reloaded) → IsAsked (outcome_asking outcome)
outcome_asked (outcomes.Version number) = tt
outcome_asked outcomes.Failed = tt
outcome_asked outcomes.OutOfMemory = tt

queued_asked : (outcome : Reloaded) (last : Bool) (before : List Queued) → AllAsked before → AllAsked (before ++ outcome_queued outcome last ∷ [])
queued_asked outcome last before all = all_append (λ (queued : Queued). IsAsked queued.asking) before (outcome_queued outcome last ∷ []) all (outcome_asked outcome, tt)

on_asked : (server : Serving) (outcome : Reloaded) (last : Bool) (bytes : List ℕ) (before after : List Queued) (reading : Reading) (held : Held) → ReadsOn server outcome last bytes before after reading held → AllAsked before → AllAsked after
on_asked server outcome true bytes before after reading held r all = subst AllAsked (sym r.1) (queued_asked outcome true before all)
on_asked server outcome false bytes before after reading held r all = r.asked (queued_asked outcome false before all)

pub reload_fits : (server : Serving) (outcome : Reloaded) (last : Bool) (bytes : List ℕ) (rest new : Rest) (before after : List Queued) (reading : Reading) (held : Held) → Fits rest before → new ≡ rest → ReadsOn server outcome last bytes before after reading held → Fits new after
reload_fits server outcome last bytes rest new before after reading held fits same r = record { range = subst IsWithin (sym same) fits.range; asked = on_asked server outcome last bytes before after reading held r fits.asked }

-- bytes were made, and the memory of the queue was given back
pub makes_kept : (config own : Config) (unread : List ℕ) (rest made_rest new : Rest) (before made_waiting after : List Queued) (bytes made : List ℕ) (given : ℕ) (reading : Reading) (starved : Bool) (old : Conversation)
    → own ≡ config → conversation unread reading rest before (drop given bytes) starved ≡ old → given + given ≤ length bytes → old.starved ≡ false
    → Fills (debt_text own rest before) (debt_text own made_rest made_waiting) given bytes made
    → (ENOUGH_PENDING ≤ length made - given) ⊎ (debt_left made_rest made_waiting ≡ false)
    → new ≡ made_rest → after ≡ made_waiting
    → Makes config old (conversation unread reading new after (drop given made) starved)
makes_kept config own unread rest made_rest new before made_waiting after bytes made given reading starved old is same half fed fills enough r w =
    subst (λ (x : Config). Makes x old (conversation unread reading new after (drop given made) starved)) is
    (subst (λ (x : Rest). Makes own old (conversation unread reading x after (drop given made) starved)) (sym r)
    (subst (λ (x : List Queued). Makes own old (conversation unread reading made_rest x (drop given made) starved)) (sym w)
    (makes own unread rest made_rest before made_waiting bytes made given reading starved old same (omega (arith, half)) fed fills enough)))

pub few_pending : (given : ℕ) (bytes : List ℕ) (pending : List ℕ) → drop given bytes ≡ pending → length bytes - given ≤ MOST_PENDING → length pending ≤ MOST_PENDING
few_pending given bytes pending is few = omega (arith, few, ap (λ (l : List ℕ). length l) is, length-drop given bytes)

-- as many bytes are left where the same ones are
pub same_left : (left given : ℕ) (new old : List ℕ) → drop left new ≡ drop given old → length new - left ≡ length old - given
same_left left given new old same = omega (arith, ap (λ (l : List ℕ). length l) same, length-drop left new, length-drop given old)

pub few_taken : (n : ℕ) (old : List ℕ) (new : List ℕ) → new ≡ take n old → length old ≤ MOST_PENDING → length new ≤ MOST_PENDING
few_taken n old new is few = omega (arith, few, ap (λ (l : List ℕ). length l) is, length-take n old)

pub few_view : (unread : List ℕ) (reading : Reading) (rest : Rest) (waiting : List Queued) (given : ℕ) (bytes : List ℕ) (starved : Bool) (old : Conversation)
    → record { unread = unread; reading = reading; rest = rest; waiting = waiting; pending = drop given bytes; starved = starved } ≡ old → length bytes - given ≤ MOST_PENDING → length old.pending ≤ MOST_PENDING
few_view unread reading rest waiting given bytes starved old same few = few_pending given bytes old.pending (ap (λ (c : Conversation). c.pending) same) few

-- behind the bytes that were taken only more stand
pub begins_behind : (given : ℕ) (bytes made pending : List ℕ) → drop given bytes ≡ pending → given + given ≤ length bytes → Begins bytes made → Begins pending (drop given made)
begins_behind given bytes made pending is half front =
    more_begins pending (drop given made) front.more (ap (drop given) front.same ∙ drop-append-le given bytes front.more (omega (arith, half)) ∙ ap (λ (l : List ℕ). l ++ front.more) is)

-- what is told of a success, where there is none
pub on_ok_failed : {T E : Type 0} (r : Result T E) (P : Type 0) → is_err r ≡ true → OnOk r P
on_ok_failed (Ok x) P failed = absurd (true≢false (sym failed))
on_ok_failed (Err e) P failed = tt
