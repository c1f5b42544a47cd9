-- A link, its connection and what is owed.
use Rattle.std.proofs.Common.{ℕ, zero, suc, ◌≡◌, ◌<◌, ◌≤◌, ◌+◌, ◌-◌, ◌++◌, Bool, true, false, List, [], length, take, nat_lt, ◌==◌, if◌then◌else◌, Option, Some, None, Result, Ok, Err, OnOk, OnErr, is_err, refl, ap, sym, subst, ◌∙◌, length-append, arith}
use Rattle.std.proofs.lemmas.List.{append-nil, take-append-le, length-take-le}
use Rattle.std.proofs.Math.Seq.{take-append-add}
use Rattle.std.proofs.lemmas.Grind.{common_steps}
use Rattle.tpf_base.specs.Links.{Sending, Receiving, IsRipe, ToSend, ToReceive, is_short}
use Rattle.tpf_base.specs.declared.wire.Moved.{Moved}
use Rattle.tpf_base.specs.declared.wire.Moved.TheVariants as answers
use Rattle.connections.specs.Kinds.{Kind, IsWhole}
use Rattle.connections.specs.Versions.{Serving}
use Rattle.connections.proofs.Histories.{some_history}
use Rattle.loop_wire.specs.Response.{Answering, IsResponse, BeginsAt, Continues, Stays, Lasts}
use Rattle.loop_wire.specs.Held.{Held, told, settled, stalled_at, sent_more, received_more, ended_now, closed, woken_now, after_send, after_receive, IsHeld, IsTalking, IsKept, Hears, Gives}

-- ---- what is owed

-- a front of what is owed is one of more
pub front_lasts : (r : ℕ) (owed more rest : List ℕ) → r ≤ length owed → more ≡ owed ++ rest → take r more ≡ take r owed
front_lasts r owed more rest within is = rw (is) (take-append-le r owed rest within)

-- the next bytes of what is owed are those that are pending
pub next_bytes : (r n : ℕ) (owed pending rest : List ℕ) → r ≤ length owed → owed ≡ take r owed ++ (pending ++ rest) → n ≤ length pending → take (r + n) owed ≡ take r owed ++ take n pending
next_bytes r n owed pending rest within is few =
    let here : length (take r owed) ≡ r = length-take-le r owed within in
    let P : List ℕ → Type 0 = λ o. take (r + n) o ≡ take r owed ++ take n pending in
    subst P (sym is)
    (subst (λ m. take (m + n) (take r owed ++ (pending ++ rest)) ≡ take r owed ++ take n pending) here
    (take-append-add (take r owed) (pending ++ rest) n ∙ ap (λ b. take r owed ++ b) (take-append-le n pending rest few)))

pub within_more : (r n : ℕ) (owed pending rest : List ℕ) → r ≤ length owed → owed ≡ take r owed ++ (pending ++ rest) → n ≤ length pending → r + n ≤ length owed
within_more r n owed pending rest within is few =
    let here : length (take r owed) ≡ r = length-take-le r owed within in
    let whole : length owed ≡ length (take r owed) + (length pending + length rest) = ap length is ∙ length-append (take r owed) (pending ++ rest) ∙ ap (λ m. length (take r owed) + m) (length-append pending rest) in
    omega (arith, here, whole, few)

-- a part was not received
pub is_left : (r : ℕ) (owed pending rest : List ℕ) → r ≤ length owed → owed ≡ take r owed ++ (pending ++ rest) → 0 < length pending → nat_lt (length (take r owed)) (length owed) ≡ true
is_left r owed pending rest within is some =
    let here : length (take r owed) ≡ r = length-take-le r owed within in
    let more : r + length pending ≤ length owed = within_more r (length pending) owed pending rest within is (omega arith) in
    let below : length (take r owed) < length owed = omega (arith, here, more, some) in
    grind (arith, common_steps, below)

not_below : (n : ℕ) → nat_lt n n ≡ false
not_below n = grind (arith, common_steps)

pub is_over : (r : ℕ) (owed : List ℕ) → take r owed ≡ owed → nat_lt (length (take r owed)) (length owed) ≡ false
is_over r owed all = rw (all) (not_below (length owed))

module _ {C Data Settings : Type 0} where
  -- ---- a connection

  -- what was received and what is pending is a front of what is owed
  pub pends : (kind : Kind C Data Settings) (suits : C → Type 0) (response_at : Serving Data Settings → List ℕ → List ℕ) (serving : Serving Data Settings) (held : Held) (c c' : C)
      → 1 ≤ serving.version → BeginsAt kind response_at → IsTalking kind suits serving (response_at serving) held c → Stays kind serving c c'
      → (rest : List ℕ) × (response_at serving held.sent ≡ take held.received (response_at serving held.sent) ++ (kind.pending c' ++ rest))
  pends kind suits response_at serving held c c' first begins talking stays =
      let past = some_history serving first in
      begins past.0 serving held.sent (take held.received (response_at serving held.sent)) c' past.1 (stays past.0 held.sent _ past.1 (talking.answering past.0 past.1))

  -- all that is owed was received
  pub all_received : (kind : Kind C Data Settings) (suits : C → Type 0) (response_at : Serving Data Settings → List ℕ → List ℕ) (serving : Serving Data Settings) (held : Held) (c c' : C)
      → 1 ≤ serving.version → IsWhole kind → IsResponse kind response_at → IsTalking kind suits serving (response_at serving) held c → Stays kind serving c c'
      → kind.pending c' ≡ [] → kind.owes c' ≡ false → kind.wants c' ≡ false
      → nat_lt (length (take held.received (response_at serving held.sent))) (length (response_at serving held.sent)) ≡ false
  all_received kind suits response_at serving held c c' first whole respond talking stays none owes wants =
      let past = some_history serving first in
      let now = stays past.0 held.sent _ past.1 (talking.answering past.0 past.1) in
      let all = whole past.0 serving.config held.sent _ now.marks c' now.answers none owes wants in
      is_over held.received (response_at serving held.sent) (all.text ∙ respond past.0 serving held.sent now.marks past.1 all.marked now.versions now.numbers)

  -- ---- a link and its connection after a call

  pub kept_sent : (kind : Kind C Data Settings) (suits : C → Type 0) (serving : Serving Data Settings) (response_at : Serving Data Settings → List ℕ → List ℕ) (held : Held) (front : List ℕ) (c c' : C)
      → Lasts response_at → IsHeld (response_at serving) held → IsTalking kind suits serving (response_at serving) held c → Continues kind serving front [] c c' → suits c'
      → IsKept kind suits serving (response_at serving) (sent_more front held) (Some c')
  kept_sent kind suits serving response_at held front c c' lasts is talking continues suited =
      let longer = lasts serving held.sent front in
      let same : take held.received (response_at serving (held.sent ++ front)) ≡ take held.received (response_at serving held.sent) = front_lasts held.received _ _ longer.0 is.within longer.1 in
      record {
        is_held = record {
          ripe = λ ripe. absurd cc;
          ripe_alone = elim [ ToSend free s ↦ absurd cc | ToReceive free s short ↦ absurd cc ];
          awake = λ up. absurd cc;
          within = let all : length (response_at serving (held.sent ++ front)) ≡ length (response_at serving held.sent) + length longer.0 = ap length longer.1 ∙ length-append (response_at serving held.sent) longer.0 in omega (arith, is.within, all);
        };
        talks = record {
          suits = suited;
          answering = λ history past.
              let now = continues history held.sent (take held.received (response_at serving held.sent)) past (talking.answering history past) in
              subst (λ (t : List ℕ). Answering kind serving history (held.sent ++ front) t c') (append-nil (take held.received (response_at serving held.sent)) ∙ sym same) now;
        };
      }

  pub kept_received : (kind : Kind C Data Settings) (suits : C → Type 0) (serving : Serving Data Settings) (owes : List ℕ → List ℕ) (held : Held) (n : ℕ) (rest : List ℕ) (c c' c'' : C)
      → IsHeld owes held → IsTalking kind suits serving owes held c → Stays kind serving c c'
      → owes held.sent ≡ take held.received (owes held.sent) ++ (kind.pending c' ++ rest) → n ≤ length (kind.pending c')
      → Continues kind serving [] (take n (kind.pending c')) c' c'' → suits c''
      → IsKept kind suits serving owes (received_more n held) (Some c'')
  kept_received kind suits serving owes held n rest c c' c'' is talking stays front few continues suited =
      let next : take (held.received + n) (owes held.sent) ≡ take held.received (owes held.sent) ++ take n (kind.pending c') = next_bytes held.received n (owes held.sent) (kind.pending c') rest is.within front few in
      record {
        is_held = record {
          ripe = λ ripe. absurd cc;
          ripe_alone = elim [ ToSend free s ↦ absurd cc | ToReceive free s short ↦ absurd cc ];
          awake = λ up. absurd cc;
          within = within_more held.received n (owes held.sent) (kind.pending c') rest is.within front few;
        };
        talks = record {
          suits = suited;
          answering = λ history past.
              let before = stays history held.sent _ past (talking.answering history past) in
              let now = continues history held.sent (take held.received (owes held.sent)) past before in
              subst (λ (f : List ℕ). Answering kind serving history f (take (held.received + n) (owes held.sent)) c'') (append-nil held.sent)
              (subst (λ (t : List ℕ). Answering kind serving history (held.sent ++ []) t c'') (sym next) now);
        };
      }

  -- the bytes of the link stay
  pub talks_stay : (kind : Kind C Data Settings) (suits : C → Type 0) (serving : Serving Data Settings) (owes : List ℕ → List ℕ) (held held' : Held) (c c' : C)
      → held'.sent ≡ held.sent → held'.received ≡ held.received → IsTalking kind suits serving owes held c → Stays kind serving c c' → suits c' → IsTalking kind suits serving owes held' c'
  talks_stay kind suits serving owes held held' c c' sent received talking stays suited = record {
    suits = suited;
    answering = λ history past. rw (sent, received) (stays history held.sent _ past (talking.answering history past));
  }

-- ---- what is held of a link after a call

-- a link whose last call did not stall is not ripe
held_free : (owes : List ℕ → List ℕ) (held held' : Held) → IsHeld owes held → held'.ripe ≡ false → held'.stalled ≡ None → held'.woken ≡ false → held'.received ≡ held.received → held'.sent ≡ held.sent → IsHeld owes held'
held_free owes held held' is unripe free asleep received sent = record {
  ripe = λ ripe. absurd cc;
  ripe_alone = elim [ ToSend open_ s ↦ absurd cc | ToReceive open_ s short ↦ absurd cc ];
  awake = λ up. absurd cc;
  within = rw (received, sent) is.within;
}

pub held_settled : (owes : List ℕ → List ℕ) (held : Held) → IsHeld owes held → IsHeld owes (settled held)
held_settled owes held is = held_free owes held (settled held) is refl refl refl refl refl

pub held_ended : (owes : List ℕ → List ℕ) (held : Held) → IsHeld owes held → IsHeld owes (ended_now held)
held_ended owes held is = held_free owes held (ended_now held) is refl refl refl refl refl

pub held_closed : (owes : List ℕ → List ℕ) (held : Held) → IsHeld owes held → IsHeld owes (closed held)
held_closed owes held is = held_free owes held (closed held) is refl refl refl refl refl

woken_ripe : (owes : List ℕ → List ℕ) (held : Held) → IsRipe (told owes held) → IsRipe (told owes (woken_now held))
woken_ripe owes held = elim [ ToSend free s ↦ ToSend free s | ToReceive free s short ↦ ToReceive free s short ]

woken_back : (owes : List ℕ → List ℕ) (held : Held) → IsRipe (told owes (woken_now held)) → IsRipe (told owes held)
woken_back owes held = elim [ ToSend free s ↦ ToSend free s | ToReceive free s short ↦ ToReceive free s short ]

pub held_woken : (owes : List ℕ → List ℕ) (held : Held) → held.ripe ≡ true → IsHeld owes held → IsHeld owes (woken_now held)
held_woken owes held up is = record {
  ripe = λ ripe. woken_ripe owes held (is.ripe ripe);
  ripe_alone = λ ripe. is.ripe_alone (woken_back owes held ripe);
  awake = λ w. up;
  within = is.within;
}

-- it stalled with a receive
pub held_unreceived : (owes : List ℕ → List ℕ) (held : Held) → held.is_open ≡ true → IsHeld owes held → IsHeld owes (stalled_at Receiving (is_short (told owes held)) held)
held_unreceived owes held free is = record {
  ripe = λ ripe. ToReceive free refl ripe;
  ripe_alone = elim [ ToSend free' s ↦ absurd cc | ToReceive free' s short ↦ short ];
  awake = λ up. absurd cc;
  within = is.within;
}

-- ---- a call on a link, from what was done

pub on_ok : {T E : Type 0} (P : Type 0) (r : Result T E) → OnOk r P → is_err r ≡ false → P
on_ok P (Ok x) here fine = here
on_ok P (Err e) here fine = absurd cc

pub on_err : {T E : Type 0} (P : Type 0) (r : Result T E) → OnErr r P → is_err r ≡ true → P
on_err P (Ok x) here fails = absurd cc
on_err P (Err e) here fails = here

pub some_there : (n : ℕ) (b : Bool) → b ≡ (n == 0) → b ≡ false → 0 < n
some_there zero b is not_so = absurd cc
some_there (suc n) b is not_so = omega arith

-- nothing is there to be received
pub gives_nothing : (owes : List ℕ → List ℕ) (most : ℕ) (stalls ends : Bool) (to : List ℕ) (old new : Held) (answer : Moved)
    → answer ≡ (if ends then answers.End else answers.NotYet) → new ≡ (if ends then ended_now old else stalled_at Receiving false old) → old.stalls ≤ new.stalls
    → is_short (told owes old) ≡ false → Gives owes most stalls to old new answer
gives_nothing owes most stalls true to old new answer is left later over = record {
  left = rw (is) left;
  moved = λ n e. absurd cc;
  end_ = λ e. over;
  not_yet = λ e f. over;
  no_fault = λ e. absurd cc;
  later = later;
}
gives_nothing owes most stalls false to old new answer is left later over = record {
  left = rw (is, over) left;
  moved = λ n e. absurd cc;
  end_ = λ e. over;
  not_yet = λ e f. over;
  no_fault = λ e. absurd cc;
  later = later;
}

-- something is there, and the call stalls
pub gives_stall : (owes : List ℕ → List ℕ) (most : ℕ) (stalls : Bool) (to : List ℕ) (old new : Held)
    → new ≡ stalled_at Receiving true old → old.stalls ≤ new.stalls → stalls ≡ true → is_short (told owes old) ≡ true → Gives owes most stalls to old new answers.NotYet
gives_stall owes most stalls to old new left later stalling short = record {
  left = rw (short) left;
  moved = λ n e. absurd cc;
  end_ = λ e. absurd cc;
  not_yet = λ e f. absurd cc;
  no_fault = λ e. absurd cc;
  later = later;
}

-- bytes are received
pub gives_bytes : (owes : List ℕ → List ℕ) (most n : ℕ) (stalls : Bool) (to pending rest : List ℕ) (old new : Held)
    → IsHeld owes old → new ≡ received_more n old → 0 < n → n ≤ most → n ≤ length to → n ≤ length pending → take n to ≡ take n pending
    → owes old.sent ≡ take old.received (owes old.sent) ++ (pending ++ rest) → Gives owes most stalls to old new (answers.Moved n)
gives_bytes owes most n stalls to pending rest old new is left some within room few same front = record {
  left = left;
  moved = λ m e. let e' : n ≡ m = cc in rw (← e') (some, within, room, next_bytes old.received n (owes old.sent) pending rest is.within front few ∙ ap (λ b. take old.received (owes old.sent) ++ b) (sym same));
  end_ = λ e. absurd cc;
  not_yet = λ e f. absurd cc;
  no_fault = λ e. absurd cc;
  later = let P : Held → Type 0 = λ h. old.stalls ≤ h.stalls in subst P (sym left) (omega arith);
}

pub gives_none : (owes : List ℕ → List ℕ) (most : ℕ) (stalls : Bool) (to : List ℕ) (old new : Held) → new ≡ old → Gives owes most stalls to old new answers.OutOfMemory
gives_none owes most stalls to old new left = record {
  left = left;
  moved = λ n e. absurd cc;
  end_ = λ e. absurd cc;
  not_yet = λ e f. absurd cc;
  no_fault = λ e. absurd cc;
  later = let P : Held → Type 0 = λ h. old.stalls ≤ h.stalls in subst P (sym left) (omega arith);
}

-- the same of a send
pub hears_none : (stalls : Bool) (front : List ℕ) (old new : Held) → new ≡ old → Hears stalls front old new answers.OutOfMemory
hears_none stalls front old new left = record {
  left = left;
  moved = λ n e. absurd cc;
  not_yet = λ e. absurd cc;
  no_end = λ e. absurd cc;
  no_fault = λ e. absurd cc;
  later = let P : Held → Type 0 = λ h. old.stalls ≤ h.stalls in subst P (sym left) (omega arith);
}

pub hears_stall : (stalls : Bool) (front : List ℕ) (old new : Held) → new ≡ stalled_at Sending true old → old.stalls ≤ new.stalls → stalls ≡ true → Hears stalls front old new answers.NotYet
hears_stall stalls front old new left later stalling = record {
  left = left;
  moved = λ n e. absurd cc;
  not_yet = λ e. stalling;
  no_end = λ e. absurd cc;
  no_fault = λ e. absurd cc;
  later = later;
}

pub hears_bytes : (stalls : Bool) (front : List ℕ) (old new : Held) (n : ℕ) → new ≡ sent_more front old → n ≡ length front → Hears stalls front old new (answers.Moved n)
hears_bytes stalls front old new n left all = record {
  left = left;
  moved = λ m e. let same : n ≡ m = cc in sym same ∙ all;
  not_yet = λ e. absurd cc;
  no_end = λ e. absurd cc;
  no_fault = λ e. absurd cc;
  later = let P : Held → Type 0 = λ h. old.stalls ≤ h.stalls in subst P (sym left) (omega arith);
}

-- a call that wanted memory left the link as it was
pub left_unsent : (stalls : Bool) (front : List ℕ) (old new : Held) (answer : Moved) → answer ≡ answers.OutOfMemory → Hears stalls front old new answer → new ≡ old
left_unsent stalls front old new answer is hears = hears.left ∙ ap (λ (a : Moved). after_send a front old) is

pub left_unreceived : (owes : List ℕ → List ℕ) (most : ℕ) (stalls : Bool) (to : List ℕ) (old new : Held) (answer : Moved) → answer ≡ answers.OutOfMemory → Gives owes most stalls to old new answer → new ≡ old
left_unreceived owes most stalls to old new answer is gives = gives.left ∙ ap (λ (a : Moved). after_receive a (is_short (told owes old)) old) is

module _ {C Data Settings : Type 0} where
  pub kept_as : (kind : Kind C Data Settings) (suits : C → Type 0) (serving : Serving Data Settings) (owes : List ℕ → List ℕ) (held held' : Held) (connection : Option C)
      → held' ≡ held → IsKept kind suits serving owes held connection → IsKept kind suits serving owes held' connection
  kept_as kind suits serving owes held held' connection is kept = let P : Held → Type 0 = λ h. IsKept kind suits serving owes h connection in subst P (sym is) kept

  pub kept_by : (kind : Kind C Data Settings) (suits : C → Type 0) (serving : Serving Data Settings) (owes : List ℕ → List ℕ) (held : Held) (connection connection' : Option C)
      → connection ≡ connection' → IsKept kind suits serving owes held connection → IsKept kind suits serving owes held connection'
  kept_by kind suits serving owes held connection connection' is kept = subst (λ (o : Option C). IsKept kind suits serving owes held o) is kept

  -- the connection is given up
  pub kept_gone : (kind : Kind C Data Settings) (suits : C → Type 0) (serving : Serving Data Settings) (owes : List ℕ → List ℕ) (held held' : Held) (connection : Option C)
      → held' ≡ held → IsKept kind suits serving owes held connection → IsKept kind suits serving owes held' None
  kept_gone kind suits serving owes held held' connection is kept = kept_as kind suits serving owes held held' None is (record { is_held = kept.is_held; talks = tt })

  -- nothing was there to be received
  pub kept_nothing : (kind : Kind C Data Settings) (suits : C → Type 0) (serving : Serving Data Settings) (owes : List ℕ → List ℕ) (held held' : Held) (ends : Bool) (c c' : C)
      → held' ≡ (if ends then ended_now held else stalled_at Receiving false held) → held.is_open ≡ true → is_short (told owes held) ≡ false
      → IsHeld owes held → IsTalking kind suits serving owes held c → Stays kind serving c c' → suits c' → IsKept kind suits serving owes held' (Some c')
  kept_nothing kind suits serving owes held held' true c c' left free over is talking stays suited = kept_as kind suits serving owes _ held' _ left (record {
    is_held = held_ended owes held is;
    talks = talks_stay kind suits serving owes held (ended_now held) c c' refl refl talking stays suited;
  })
  kept_nothing kind suits serving owes held held' false c c' left free over is talking stays suited = kept_as kind suits serving owes (stalled_at Receiving (is_short (told owes held)) held) held' _ (left ∙ ap (λ (b : Bool). stalled_at Receiving b held) (sym over)) (record {
    is_held = held_unreceived owes held free is;
    talks = talks_stay kind suits serving owes held (stalled_at Receiving (is_short (told owes held)) held) c c' refl refl talking stays suited;
  })

  pub kept_stall : (kind : Kind C Data Settings) (suits : C → Type 0) (serving : Serving Data Settings) (owes : List ℕ → List ℕ) (held held' : Held) (c c' : C)
      → held' ≡ stalled_at Receiving true held → held.is_open ≡ true → is_short (told owes held) ≡ true
      → IsHeld owes held → IsTalking kind suits serving owes held c → Stays kind serving c c' → suits c' → IsKept kind suits serving owes held' (Some c')
  kept_stall kind suits serving owes held held' c c' left free short is talking stays suited = kept_as kind suits serving owes (stalled_at Receiving (is_short (told owes held)) held) held' _ (left ∙ ap (λ (b : Bool). stalled_at Receiving b held) (sym short)) (record {
    is_held = held_unreceived owes held free is;
    talks = talks_stay kind suits serving owes held (stalled_at Receiving (is_short (told owes held)) held) c c' refl refl talking stays suited;
  })

module _ {C Data Settings : Type 0} where
  -- the send of a link stalled
  pub kept_sending : (kind : Kind C Data Settings) (suits : C → Type 0) (serving : Serving Data Settings) (owes : List ℕ → List ℕ) (held held' : Held) (c : C)
      → held' ≡ stalled_at Sending true held → held.is_open ≡ true → IsKept kind suits serving owes held (Some c) → IsKept kind suits serving owes held' (Some c)
  kept_sending kind suits serving owes held held' c left free kept = kept_as kind suits serving owes (stalled_at Sending true held) held' _ left (record {
    is_held = record {
      ripe = λ ripe. ToSend free refl;
      ripe_alone = λ ripe. refl;
      awake = λ up. absurd cc;
      within = kept.is_held.within;
    };
    talks = record { suits = kept.talks.suits; answering = kept.talks.answering };
  })

pub two_sides : (b : Bool) (k s : ℕ) → (k < s → b ≡ false) → (s ≤ k → b ≡ false) → b ≡ false
two_sides false k s below above = refl
two_sides true k s below above = let no : (k < s → ⊥) = λ h. (let e : true ≡ false = below h in absurd cc) in let so : s ≤ k = omega (arith, no) in above so
