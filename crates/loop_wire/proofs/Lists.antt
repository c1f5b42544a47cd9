-- Lists of links.
use Rattle.std.proofs.Common.{ℕ, zero, suc, ◌≡◌, ◌<◌, ◌++◌, Bool, true, List, [], ◌∷◌, length, set, get_or, Option, Some, None, refl, ap, sym, subst, ◌∙◌, arith}
use Rattle.std.specs.List.{AllByRecursion}
use Rattle.std.proofs.lemmas.List.{map-set, get_or-map, length-map, get_or-set_same}
use Rattle.list_laws.proofs.Each.{all_more}
use Rattle.connections.specs.Kinds.{Kind}
use Rattle.connections.specs.Versions.{Serving}
use Rattle.loop_wire.specs.declared.link.LoopLink.{LoopLink}
use Rattle.tpf_base.specs.declared.wire.Moved.{Moved}
use Rattle.tpf_base.specs.declared.wire.Moved.TheVariants as answers
use Rattle.loop_wire.specs.Response.{Lasts}
use Rattle.loop_wire.specs.Held.{Held, Owing, no_link, settled, closed, woken_now, after_send, after_receive, Talks, IsHeld, IsKept, Hears, Gives}
use Rattle.loop_wire.specs.Standing.{owed_by}
use Rattle.loop_wire.specs.Looped.{held_of, IsServed, AreServed}
use Rattle.loop_wire.proofs.Talks.{held_settled, held_woken, held_closed}

pub all_set : {X : Type 0} (P : X → Type 0) (xs : List X) (k : ℕ) (x : X) → AllByRecursion P xs → P x → AllByRecursion P (set xs k x)
all_set P [] k x all here = tt
all_set P (y ∷ ys) zero x all here = (here, all.1)
all_set P (y ∷ ys) (suc k) x all here = (all.0, all_set P ys k x all.1 here)

module _ {C : Type 0} where
  -- what is held of a link at its number
  pub held_at : (links : List (LoopLink C)) (k : ℕ) (l : LoopLink C) → k < length links → l ≡ get_or links k l → get_or (held_of links) k no_link ≡ l.held
  held_at links k l below is = get_or-map (λ (x : LoopLink C). x.held) links k l no_link below ∙ ap (λ (x : LoopLink C). x.held) (sym is)

  -- and of all links where one is changed
  pub held_set : (links : List (LoopLink C)) (k : ℕ) (l : LoopLink C) (held : Held) → l.held ≡ held → held_of (set links k l) ≡ set (held_of links) k held
  held_set links k l held is = map-set (λ (x : LoopLink C). x.held) links k l ∙ ap (λ h. set (held_of links) k h) is

  pub length_held : (links : List (LoopLink C)) → length (held_of links) ≡ length links
  length_held links = length-map links (λ (x : LoopLink C). x.held)

-- ---- what a call on one of the links leaves of all

all_from : {X : Type 0} (P : X → Type 0) (xs : List X) (k : ℕ) (d : X) → AllByRecursion P xs → k < length xs → P (get_or xs k d)
all_from P [] k d all below = absurd (omega arith)
all_from P (y ∷ ys) zero d all below = all.0
all_from P (y ∷ ys) (suc k) d all below = all_from P ys k d all.1 (omega arith)

module _ {C : Type 0} where
  pub seen_at : (links : List (LoopLink C)) (k : ℕ) (d : LoopLink C) → k < length links → (get_or links k d).held ≡ get_or (held_of links) k no_link
  seen_at links k d below = sym (get_or-map (λ (x : LoopLink C). x.held) links k d no_link below)

  -- the link itself, where it was changed
  pub held_new : (links : List (LoopLink C)) (k : ℕ) (l : LoopLink C) → k < length links → get_or (held_of (set links k l)) k no_link ≡ l.held
  held_new links k l below =
      let below' : k < length (held_of links) = omega (arith, below, length_held links) in
      ap (λ hs. get_or hs k no_link) (held_set links k l l.held refl) ∙ get_or-set_same (held_of links) k l.held no_link below'

  pub held_set_new : (links : List (LoopLink C)) (k : ℕ) (l : LoopLink C) → k < length links → held_of (set links k l) ≡ set (held_of links) k (get_or (held_of (set links k l)) k no_link)
  held_set_new links k l below = held_set links k l (get_or (held_of (set links k l)) k no_link) (sym (held_new links k l below))

  pub hears_at : (links : List (LoopLink C)) (k : ℕ) (d new : LoopLink C) (stalls : Bool) (front : List ℕ) (answer : Moved) → k < length links
      → Hears stalls front (get_or links k d).held new.held answer → Hears stalls front (get_or (held_of links) k no_link) (get_or (held_of (set links k new)) k no_link) answer
  hears_at links k d new stalls front answer below hears =
      let P : Held → Held → Type 0 = λ a b. Hears stalls front a b answer in
      subst (λ a. P a (get_or (held_of (set links k new)) k no_link)) (seen_at links k d below) (subst (λ b. P (get_or links k d).held b) (sym (held_new links k new below)) hears)

  pub gives_at : (links : List (LoopLink C)) (k : ℕ) (d new : LoopLink C) (owes : Owing) (most : ℕ) (stalls : Bool) (to : List ℕ) (answer : Moved) → k < length links
      → Gives (owes (get_or links k d).held.peer) most stalls to (get_or links k d).held new.held answer
      → Gives (owes (get_or (held_of links) k no_link).peer) most stalls to (get_or (held_of links) k no_link) (get_or (held_of (set links k new)) k no_link) answer
  gives_at links k d new owes most stalls to answer below gives =
      let P : Held → Held → Type 0 = λ a b. Gives (owes a.peer) most stalls to a b answer in
      subst (λ a. P a (get_or (held_of (set links k new)) k no_link)) (seen_at links k d below) (subst (λ b. P (get_or links k d).held b) (sym (held_new links k new below)) gives)

module _ {C Data Settings : Type 0} where
  -- the bytes of the link are as before
  talks_same : (kind : Kind C Data Settings) (suits : C → Type 0) (serving : Serving Data Settings) (owes : List ℕ → List ℕ) (h h' : Held) (connection : Option C)
      → h'.sent ≡ h.sent → h'.received ≡ h.received → Talks kind suits serving owes h connection → Talks kind suits serving owes h' connection
  talks_same kind suits serving owes h h' None sent received talks = tt
  talks_same kind suits serving owes h h' (Some c) sent received talks = record {
    suits = talks.suits;
    answering = λ history past. rw (sent, received) (talks.answering history past);
  }

  pub kept_settled : (kind : Kind C Data Settings) (suits : C → Type 0) (serving : Serving Data Settings) (owes : List ℕ → List ℕ) (h h' : Held) (connection : Option C)
      → h' ≡ settled h → IsKept kind suits serving owes h connection → IsKept kind suits serving owes h' connection
  kept_settled kind suits serving owes h h' connection is kept =
      let P : Held → Type 0 = λ x. IsKept kind suits serving owes x connection in
      subst P (sym is) (record { is_held = held_settled owes h kept.is_held; talks = talks_same kind suits serving owes h (settled h) connection refl refl kept.talks })

  pub kept_woken : (kind : Kind C Data Settings) (suits : C → Type 0) (serving : Serving Data Settings) (owes : List ℕ → List ℕ) (h h' : Held) (connection : Option C)
      → h' ≡ woken_now h → h.ripe ≡ true → IsKept kind suits serving owes h connection → IsKept kind suits serving owes h' connection
  kept_woken kind suits serving owes h h' connection is ripe kept =
      let P : Held → Type 0 = λ x. IsKept kind suits serving owes x connection in
      subst P (sym is) (record { is_held = held_woken owes h ripe kept.is_held; talks = talks_same kind suits serving owes h (woken_now h) connection refl refl kept.talks })

  pub kept_closed : (kind : Kind C Data Settings) (suits : C → Type 0) (serving : Serving Data Settings) (owes : List ℕ → List ℕ) (h h' : Held) (connection connection' : Option C)
      → h' ≡ closed h → connection' ≡ None → IsKept kind suits serving owes h connection → IsKept kind suits serving owes h' connection'
  kept_closed kind suits serving owes h h' connection connection' is gone kept =
      let P : Held → Option C → Type 0 = λ x o. IsKept kind suits serving owes x o in
      subst (λ o. P h' o) (sym gone) (subst (λ x. P x None) (sym is) (record { is_held = held_closed owes h kept.is_held; talks = tt }))

-- ---- the servers that answer links

pub same_some : {A : Type 0} (x y : A) → Some x ≡ Some y → x ≡ y
same_some x y same = cc

-- a call on a link does not change for whom it was dialled
pub send_peer : (answer : Moved) (front : List ℕ) (h : Held) → (after_send answer front h).peer ≡ h.peer
send_peer (answers.Moved n) front h = refl
send_peer answers.End front h = refl
send_peer answers.NotYet front h = refl
send_peer answers.Failed front h = refl
send_peer answers.OutOfMemory front h = refl

pub receive_peer : (answer : Moved) (short : Bool) (h : Held) → (after_receive answer short h).peer ≡ h.peer
receive_peer (answers.Moved n) short h = refl
receive_peer answers.End short h = refl
receive_peer answers.NotYet short h = refl
receive_peer answers.Failed short h = refl
receive_peer answers.OutOfMemory short h = refl

module _ {C Server Data Settings : Type 0} (kind : Kind C Data Settings) (Suits : Server → C → Type 0) (serving : Server → Serving Data Settings) (response_at : Serving Data Settings → List ℕ → List ℕ) (there : Option (List ℕ × ℕ) → Option Server) where
  abbrev Served : LoopLink C → Type 0
  Served link = IsServed kind Suits serving response_at there link

  abbrev Kept : Server → LoopLink C → Type 0
  Kept server link = IsKept kind (Suits server) (serving server) (response_at (serving server)) link.held link.connection

  -- as the server is that stands there
  pub served_for : (l : LoopLink C) (server : Server) → there l.held.peer ≡ Some server → Served l → Kept server l
  served_for l server is s = subst (λ (x : Server). Kept x l) (same_some s.server server (sym s.stands ∙ is)) s.kept

  pub served_put : (l l' : LoopLink C) (server : Server) → there l.held.peer ≡ Some server → l'.held.peer ≡ l.held.peer → Kept server l' → Served l'
  served_put l l' server is same kept = record { server = server; stands = ap there same ∙ is; kept = kept }

  pub served_at : (links : List (LoopLink C)) (k : ℕ) (d : LoopLink C) → AreServed kind Suits serving response_at there links → k < length links → Served (get_or links k d)
  served_at links k d all below = all_from (λ (x : LoopLink C). Served x) links k d all below

  pub served_set : (links : List (LoopLink C)) (k : ℕ) (l : LoopLink C) → AreServed kind Suits serving response_at there links → Served l → AreServed kind Suits serving response_at there (set links k l)
  served_set links k l all here = all_set (λ (x : LoopLink C). Served x) links k l all here

  pub served_push : (links : List (LoopLink C)) (l : LoopLink C) → AreServed kind Suits serving response_at there links → Served l → AreServed kind Suits serving response_at there (links ++ l ∷ [])
  served_push links l all here = all_more (λ (x : LoopLink C). Served x) links l all here

  pub served_settled : (l l' : LoopLink C) → l'.held ≡ settled l.held → l'.connection ≡ l.connection → Served l → Served l'
  served_settled l l' is same s = record {
    server = s.server;
    stands = ap (λ (h : Held). there h.peer) is ∙ s.stands;
    kept = subst (λ (o : Option C). IsKept kind (Suits s.server) (serving s.server) (response_at (serving s.server)) l'.held o) (sym same)
        (kept_settled kind (Suits s.server) (serving s.server) (response_at (serving s.server)) l.held l'.held l.connection is s.kept);
  }

  pub served_woken : (l l' : LoopLink C) → l'.held ≡ woken_now l.held → l'.connection ≡ l.connection → l.held.ripe ≡ true → Served l → Served l'
  served_woken l l' is same ripe s = record {
    server = s.server;
    stands = ap (λ (h : Held). there h.peer) is ∙ s.stands;
    kept = subst (λ (o : Option C). IsKept kind (Suits s.server) (serving s.server) (response_at (serving s.server)) l'.held o) (sym same)
        (kept_woken kind (Suits s.server) (serving s.server) (response_at (serving s.server)) l.held l'.held l.connection is ripe s.kept);
  }

  pub served_closed : (l l' : LoopLink C) → l'.held ≡ closed l.held → l'.connection ≡ None → Served l → Served l'
  served_closed l l' is gone s = record {
    server = s.server;
    stands = ap (λ (h : Held). there h.peer) is ∙ s.stands;
    kept = kept_closed kind (Suits s.server) (serving s.server) (response_at (serving s.server)) l.held l'.held l.connection l'.connection is gone s.kept;
  }

  -- what is owed on a link
  abbrev Owed : Owing
  Owed peer = owed_by (λ server. response_at (serving server)) (there peer)

  pub owed_is : (peer : Option (List ℕ × ℕ)) (server : Server) → there peer ≡ Some server → Owed peer ≡ response_at (serving server)
  owed_is peer server is = ap (owed_by (λ server. response_at (serving server))) is

  held_there : (l : LoopLink C) → Served l → IsHeld (Owed l.held.peer) l.held
  held_there l s = subst (λ (owes : List ℕ → List ℕ). IsHeld owes l.held) (sym (owed_is l.held.peer s.server s.stands)) s.kept.is_held

  pub is_held_at : (links : List (LoopLink C)) (k : ℕ) → AreServed kind Suits serving response_at there links → k < length (held_of links) → IsHeld (Owed (get_or (held_of links) k no_link).peer) (get_or (held_of links) k no_link)
  is_held_at [] k all below = absurd (omega arith)
  is_held_at (l ∷ links) zero all below = held_there l all.0
  is_held_at (l ∷ links) (suc k) all below = is_held_at links k all.1 (omega arith)

  -- what was received of a link is what is owed on it
  pub gives_by : (l new : LoopLink C) (server : Server) (most : ℕ) (stalls : Bool) (to : List ℕ) (answer : Moved)
      → there l.held.peer ≡ Some server → Gives (response_at (serving server)) most stalls to l.held new.held answer
      → Gives (Owed l.held.peer) most stalls to l.held new.held answer
  gives_by l new server most stalls to answer is gives =
      subst (λ (owes : List ℕ → List ℕ). Gives owes most stalls to l.held new.held answer) (sym (owed_is l.held.peer server is)) gives

-- what is owed to more begins with what is owed to less
pub owed_lasts : {Server Data Settings : Type 0} (serving : Server → Serving Data Settings) (response_at : Serving Data Settings → List ℕ → List ℕ) → Lasts response_at → (o : Option Server) (fed more : List ℕ)
    → (rest : List ℕ) × (owed_by (λ server. response_at (serving server)) o (fed ++ more) ≡ owed_by (λ server. response_at (serving server)) o fed ++ rest)
owed_lasts serving response_at lasts None fed more = ([], refl)
owed_lasts serving response_at lasts (Some server) fed more = lasts (serving server) fed more
