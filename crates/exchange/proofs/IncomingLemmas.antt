-- What is read of the bytes that came, piece by piece.
use Rattle.std.proofs.Common.{ℕ, ◌≡◌, ◌+◌, ◌≤◌, ◌↔◌, ◌++◌, List, [], length, Option, Some, None, Bool, true, false, refl, sym, ◌∙◌, ap, arith, append-nil, length-append, subst, if◌then◌else◌}
use Rattle.tpf_base.specs.HttpReply as reply
use Rattle.tpf_base.specs.HttpReply.{Place, InHeads, InSized, InUnsized, InLine, InChunk, AtReturn, AtNewline, InTrailer, Finished, Failed, Gathered, Reading, begun, is_open, after_bytes, reading_from, at_the_end, reply_of}
use Rattle.http_wire.specs.Replies.{Feeding, starting, fed, shown, shown_fault, longer, reply_at, closed_at}
use Rattle.http_wire.specs.Laws.{IsGiven, PlaceIsCut, ReadingIsCut, WantsBoundedBytes, WhatIsReadIsGiven}
use Rattle.http_wire.specs.declared.message.Fed.{Fed}
use Rattle.http_wire.specs.declared.message.Fed.TheVariants as feds
use Rattle.http_wire.specs.declared.message.Reply.{Reply}
use Rattle.http_wire.specs.declared.message.ReplyFault.{ReplyFault}
use Rattle.exchange.specs.declared.buffer.TheConstants.{ROOM}
use Rattle.exchange.specs.Incoming.{Coming, IsComing, none_yet, concluded}
use Rattle.http_wire.proofs.KeepingLemmas.{KeepsNothing, bytes_keep_nothing}
use Rattle.http_wire.proofs.RunLemmas.{given_is_closed}

-- an open reply is not whole
pub open_gives_none : (place : Place) → is_open place ≡ true → reply_at place ≡ None
open_gives_none (InHeads passed head) o = refl
open_gives_none (InSized wanted g) o = refl
open_gives_none (InUnsized g) o = refl
open_gives_none (InLine line g) o = refl
open_gives_none (InChunk wanted g) o = refl
open_gives_none (AtReturn g) o = refl
open_gives_none (AtNewline g) o = refl
open_gives_none (InTrailer lines g) o = refl
open_gives_none (Finished g) o = cc
open_gives_none (Failed fault) o = cc

-- a test that does not hold
not_more : (b : Bool) (answer : Fed) → (b ≡ true ↔ answer ≡ feds.More) → (answer ≡ feds.More → ⊥) → b ≡ false
not_more true answer h n = absurd (n (h.0 refl))
not_more false answer h n = refl

-- what a feed answers tells whether the reply goes on
pub open_by : (place after : Place) (limit : ℕ) (piece : List ℕ) (r : Reading) → IsGiven limit place piece false → reading_from limit place piece false ≡ r → after ≡ after_bytes limit place piece
    → (answer : Fed) → answer ≡ shown r → (b : Bool) → (b ≡ true ↔ answer ≡ feds.More) → is_open after ≡ b
open_by place after limit piece reply.More g e p answer a b h = (ap is_open p ∙ g.more e) ∙ sym (h.1 a)
open_by place after limit piece (reply.Whole body n keeps) g e p answer a b h =
    (ap is_open p ∙ given_is_closed _ _ (g.whole body n keeps e).1) ∙ sym (not_more b answer h (λ m. cc))
open_by place after limit piece (reply.Bad fault) g e p answer a b h =
    (ap is_open p ∙ ap is_open (g.bad fault e)) ∙ sym (not_more b answer h (λ m. cc))

-- ---- what the bytes so far are

none_some : {x : Reply} (o : Option Reply) → o ≡ None → o ≡ Some x → ⊥
none_some o n s = cc

reads_more_by : (limit : ℕ) (place : Place) (bytes : List ℕ) → IsGiven limit place bytes false → is_open (after_bytes limit place bytes) ≡ true
    → (r : Reading) → reading_from limit place bytes false ≡ r → reading_from limit place bytes false ≡ reply.More
reads_more_by limit place bytes g o reply.More e = e
reads_more_by limit place bytes g o (reply.Whole body n keeps) e =
    let none = open_gives_none _ o in let some = (g.whole body n keeps e).1 in absurd (none_some _ none some)
reads_more_by limit place bytes g o (reply.Bad fault) e = let f = ap is_open (g.bad fault e) in cc

-- bytes that lead to an open place are read as more
pub open_reads_more : WhatIsReadIsGiven → (limit : ℕ) (bytes : List ℕ) → is_open (after_bytes limit begun bytes) ≡ true → reply_of bytes false limit ≡ reply.More
open_reads_more given limit bytes o = reads_more_by _ _ _ (given limit begun bytes false) o _ refl

more_whole : {body : List ℕ} {n : ℕ} {keeps : Bool} (r : Reading) → r ≡ reply.More → r ≡ reply.Whole body n keeps → ⊥
more_whole r m w = cc

bad_whole : {fault : reply.ReplyFault} {body : List ℕ} {n : ℕ} {keeps : Bool} (r : Reading) → r ≡ reply.Bad fault → r ≡ reply.Whole body n keeps → ⊥
bad_whole r m w = cc

whole_length : (r : Reading) (b c : List ℕ) (m n : ℕ) (k l : Bool) → r ≡ reply.Whole b m k → r ≡ reply.Whole c n l → m ≡ n
whole_length r b c m n k l p q = cc

spare_by : (before len spare limit : ℕ) (place : Place) (piece : List ℕ) (answer : Fed) → IsGiven limit place piece false → answer ≡ shown (reading_from limit place piece false)
    → ((used : ℕ) → answer ≡ feds.Done used → used ≤ length piece → used + spare ≡ len)
    → (r : Reading) → reading_from limit place piece false ≡ r
    → (body : List ℕ) (n : ℕ) (keeps : Bool) → longer before (reading_from limit place piece false) ≡ reply.Whole body n keeps → n + spare ≡ before + len
spare_by before len spare limit place piece answer g a s reply.More r body n keeps e = let f = ap (longer before) r in absurd (more_whole _ f e)
spare_by before len spare limit place piece answer g a s (reply.Whole body' used keeps') r body n keeps e =
    let f = ap (longer before) r in
    let m : before + used ≡ n = whole_length _ _ _ _ _ _ _ f e in
    let q = s used (a ∙ ap shown r) (g.whole body' used keeps' r).0 in
    omega (arith, m, q)
spare_by before len spare limit place piece answer g a s (reply.Bad fault) r body n keeps e = let f = ap (longer before) r in absurd (bad_whole _ f e)

-- how many bytes stand behind a whole reply
pub spare_is : (limit : ℕ) (before piece : List ℕ) (place : Place) (spare : ℕ) (answer : Fed) → ReadingIsCut → WhatIsReadIsGiven
    → place ≡ after_bytes limit begun before → is_open place ≡ true → answer ≡ shown (reading_from limit place piece false)
    → ((used : ℕ) → answer ≡ feds.Done used → used ≤ length piece → used + spare ≡ length piece)
    → (body : List ℕ) (n : ℕ) (keeps : Bool) → reply_of (before ++ piece) false limit ≡ reply.Whole body n keeps → n + spare ≡ length before + length piece
spare_is limit before piece place spare answer cuts given p o a s body n keeps e =
    let at = cuts limit begun before piece false (ap is_open (sym p) ∙ o) in
    let at_place : reply_of (before ++ piece) false limit ≡ longer (length before) (reading_from limit place piece false) =
    at ∙ ap (λ q. longer (length before) (reading_from limit q piece false)) (sym p) in
    spare_by (length before) (length piece) spare limit place piece answer (given limit place piece false) a s _ refl body n keeps (sym at_place ∙ e)

pub none_is : (limit : ℕ) → IsComing (none_yet limit)
unfolding after_bytes reading_from
none_is limit = record { leads = refl; bound = omega arith; spare = λ body n keeps e. cc }

-- one more piece
pub read_is : (limit : ℕ) (before piece : List ℕ) (old new : Place) (old_spare spare : ℕ) (answer : Fed) → ReadingIsCut → WhatIsReadIsGiven
    → PlaceIsCut → WantsBoundedBytes
    → IsComing (record { limit = limit; received = before; place = old; spare = old_spare }) → is_open old ≡ true → length piece ≤ ROOM
    → new ≡ after_bytes limit old piece → answer ≡ shown (reading_from limit old piece false)
    → ((used : ℕ) → answer ≡ feds.Done used → used ≤ length piece → used + spare ≡ length piece)
    → IsComing (record { limit = limit; received = before ++ piece; place = new; spare = spare })
read_is limit before piece old new old_spare spare answer cuts given places few c o small p a s =
    let leads : old ≡ after_bytes limit begun before = c.leads in
    let b = few limit before false (open_reads_more given limit before (ap is_open (sym leads) ∙ o)) in
    record {
      leads = p ∙ ap (λ q. after_bytes limit q piece) leads ∙ sym (places limit begun before piece);
      bound = omega (arith, b, small, length-append before piece);
      spare = λ body n keeps e. spare_is limit before piece old spare answer cuts given leads o a s body n keeps e ∙ sym (length-append before piece);
    }

-- ---- what the bytes come to

-- an open reply at its end
ends_open : (c : Coming) → IsComing c → ReadingIsCut → is_open c.place ≡ true → concluded c ≡ longer (length c.received) (at_the_end true c.place)
unfolding reading_from
ends_open c i cuts o =
    let at = cuts c.limit begun c.received [] true (ap is_open (sym i.leads) ∙ o) in
    let e = rw append-nil at at in
    ap (λ b. reply_of c.received b c.limit) o ∙ e ∙ ap (λ q. longer (length c.received) (reading_from c.limit q [] true)) (sym i.leads)

coming_at : (limit : ℕ) (items : List ℕ) (place : Place) → items ≡ [] → place ≡ begun → IsComing (record { limit = limit; received = items; place = place; spare = 0 })
coming_at limit items place i p = rw (i, p) (none_is limit)

pub new_is : (limit : ℕ) (f : Feeding) → f ≡ starting limit → (f.limit ≡ limit) × IsComing (record { limit = limit; received = f.received; place = f.place; spare = 0 })
new_is limit f e = (ap (λ g. g.limit) e, coming_at limit f.received f.place (ap (λ g. g.received) e) (ap (λ g. g.place) e))

-- a feed that goes on keeps each piece
pub fed_received : (f f' : Feeding) (piece : List ℕ) → f' ≡ fed f piece → is_open f.place ≡ true → f'.received ≡ f.received ++ piece
fed_received f f' piece e o = ap (λ g. g.received) e ∙ ap (λ (v : Bool). if v then f.received ++ piece else f.received) o

pub read_whole : (limit : ℕ) (piece : List ℕ) (f f' : Feeding) (old_spare spare : ℕ) (answer : Fed) → ReadingIsCut → WhatIsReadIsGiven
    → PlaceIsCut → WantsBoundedBytes
    → f.limit ≡ limit → IsComing (record { limit = limit; received = f.received; place = f.place; spare = old_spare }) → is_open f.place ≡ true → length piece ≤ ROOM
    → f' ≡ fed f piece → answer ≡ shown (reading_from f.limit f.place piece false)
    → ((used : ℕ) → answer ≡ feds.Done used → used ≤ length piece → used + spare ≡ length piece)
    → (f'.limit ≡ limit) × IsComing (record { limit = limit; received = f'.received; place = f'.place; spare = spare })
read_whole limit piece f f' old_spare spare answer cuts given places few l c o small p a s =
    let place : f'.place ≡ after_bytes limit f.place piece = ap (λ g. g.place) p ∙ ap (λ m. after_bytes m f.place piece) l in
    let received : f'.received ≡ f.received ++ piece = fed_received f f' piece p o in
    let b = read_is limit f.received piece f.place f'.place old_spare spare answer cuts given places few c o small place
    (a ∙ ap (λ m. shown (reading_from m f.place piece false)) l) s in
    (ap (λ g. g.limit) p ∙ l, rw received b)

pub goes_on_is : (piece : List ℕ) (f f' : Feeding) (answer : Fed) (b : Bool) → WhatIsReadIsGiven → f' ≡ fed f piece → answer ≡ shown (reading_from f.limit f.place piece false)
    → (b ≡ true ↔ answer ≡ feds.More) → is_open f'.place ≡ b
goes_on_is piece f f' answer b given p a h = open_by f.place f'.place f.limit piece _ (given f.limit f.place piece false) refl (ap (λ g. g.place) p) answer a b h

abbrev pub IsShown : Coming → Reading → Fed → Type 0
IsShown c r feds.More = (r ≡ reply.More) × (is_open c.place ≡ true)
IsShown c r (feds.Bad fault) = (why : reply.ReplyFault) × (fault ≡ shown_fault why) × (r ≡ reply.Bad why) × (is_open c.place ≡ false)
IsShown c r (feds.Done used) = (answer : Reply) × (n : ℕ) × (reply_at (closed_at c.place) ≡ Some answer) × (r ≡ reply.Whole answer.body n answer.keeps)

-- at the end of an open reply
open_shown : (c : Coming) (len : ℕ) (place : Place) → c.place ≡ place → is_open place ≡ true → IsShown c (longer len (at_the_end true place)) (shown (at_the_end true place))
open_shown c len (InHeads passed head) p o = (refl, ap is_open p)
open_shown c len (InSized wanted g) p o = (refl, ap is_open p)
open_shown c len (InUnsized g) p o = (record { body = g.body; keeps = g.keeps }, len + 0, ap (λ q. reply_at (closed_at q)) p, refl)
open_shown c len (InLine line g) p o = (refl, ap is_open p)
open_shown c len (InChunk wanted g) p o = (refl, ap is_open p)
open_shown c len (AtReturn g) p o = (refl, ap is_open p)
open_shown c len (AtNewline g) p o = (refl, ap is_open p)
open_shown c len (InTrailer lines g) p o = (refl, ap is_open p)
open_shown c len (Finished g) p o = cc
open_shown c len (Failed fault) p o = cc

same_fault : (a b : reply.ReplyFault) → Failed a ≡ Failed b → shown_fault a ≡ shown_fault b
same_fault a b e = cc

finished_shown : (c : Coming) (g : Gathered) → c.place ≡ Finished g → IsGiven c.limit begun c.received false → Finished g ≡ after_bytes c.limit begun c.received
    → (r : Reading) → reply_of c.received false c.limit ≡ r → IsShown c (reply_of c.received false c.limit) (feds.Done 0)
finished_shown c g p given l reply.More e = let f = ap is_open l ∙ given.more e in cc
finished_shown c g p given l (reply.Bad fault) e = let f = l ∙ given.bad fault e in cc
finished_shown c g p given l (reply.Whole body n keeps) e =
    let some = ap reply_at l ∙ (given.whole body n keeps e).1 in
    (record { body = body; keeps = keeps }, n, ap (λ q. reply_at (closed_at q)) p ∙ some, e)

failed_shown : (c : Coming) (fault : reply.ReplyFault) → is_open c.place ≡ false → IsGiven c.limit begun c.received false → Failed fault ≡ after_bytes c.limit begun c.received
    → (r : Reading) → reply_of c.received false c.limit ≡ r → IsShown c (reply_of c.received false c.limit) (feds.Bad (shown_fault fault))
failed_shown c fault o given l reply.More e = let f = ap is_open l ∙ given.more e in cc
failed_shown c fault o given l (reply.Bad why) e = let f : Failed fault ≡ Failed why = l ∙ given.bad why e in (why, same_fault fault why f, e, o)
failed_shown c fault o given l (reply.Whole body n keeps) e = let f = ap reply_at l ∙ (given.whole body n keeps e).1 in cc

-- behind a reply that is whole or refused
closed_shown : (c : Coming) (place : Place) → c.place ≡ place → is_open place ≡ false → WhatIsReadIsGiven → place ≡ after_bytes c.limit begun c.received
    → IsShown c (reply_of c.received false c.limit) (shown (at_the_end true place))
closed_shown c (Finished g) p o given l = finished_shown c g p (given c.limit begun c.received false) l _ refl
closed_shown c (Failed fault) p o given l = failed_shown c fault (ap is_open p) (given c.limit begun c.received false) l _ refl
closed_shown c (InHeads passed head) p o given l = cc
closed_shown c (InSized wanted g) p o given l = cc
closed_shown c (InUnsized g) p o given l = cc
closed_shown c (InLine line g) p o given l = cc
closed_shown c (InChunk wanted g) p o given l = cc
closed_shown c (AtReturn g) p o given l = cc
closed_shown c (AtNewline g) p o given l = cc
closed_shown c (InTrailer lines g) p o given l = cc

end_by : (c : Coming) → IsComing c → ReadingIsCut → WhatIsReadIsGiven → (b : Bool) → is_open c.place ≡ b → IsShown c (concluded c) (shown (at_the_end true c.place))
end_by c i cuts given true o = rw (ends_open c i cuts o) (open_shown c (length c.received) c.place refl o)
end_by c i cuts given false o = rw (ap (λ b. reply_of c.received b c.limit) o) (closed_shown c c.place refl o given i.leads)

-- what the end of a feed answers is what the bytes come to
pub end_is : (c : Coming) → IsComing c → ReadingIsCut → WhatIsReadIsGiven → IsShown c (concluded c) (shown (at_the_end true c.place))
end_is c i cuts given = end_by c i cuts given _ refl

shown_as : (c : Coming) (answer : Fed) → IsShown c (concluded c) (shown (at_the_end true c.place)) → answer ≡ shown (at_the_end true c.place) → IsShown c (concluded c) answer
shown_as c answer s e = rw e s

some_is : (o : Option Reply) (x y : Reply) → o ≡ Some x → o ≡ Some y → x ≡ y
some_is o x y p q = cc

pub ends_more : (c : Coming) (place : Place) → IsComing c → ReadingIsCut → WhatIsReadIsGiven → place ≡ c.place → feds.More ≡ shown (at_the_end true place)
    → (concluded c ≡ reply.More) × (is_open c.place ≡ true)
ends_more c place i cuts given p e = shown_as c feds.More (end_is c i cuts given) (e ∙ ap (λ q. shown (at_the_end true q)) p)

pub ends_bad : (c : Coming) (place : Place) (fault : ReplyFault) → IsComing c → ReadingIsCut → WhatIsReadIsGiven → place ≡ c.place → feds.Bad fault ≡ shown (at_the_end true place)
    → (why : reply.ReplyFault) × (fault ≡ shown_fault why) × (concluded c ≡ reply.Bad why) × (is_open c.place ≡ false)
ends_bad c place fault i cuts given p e = shown_as c (feds.Bad fault) (end_is c i cuts given) (e ∙ ap (λ q. shown (at_the_end true q)) p)

pub ends_whole : (c : Coming) (place : Place) (used : ℕ) (answer : Reply) → IsComing c → ReadingIsCut → WhatIsReadIsGiven → place ≡ c.place → feds.Done used ≡ shown (at_the_end true place)
    → reply_at (closed_at place) ≡ Some answer → (n : ℕ) × (concluded c ≡ reply.Whole answer.body n answer.keeps)
ends_whole c place used answer i cuts given p e t =
    let s = shown_as c (feds.Done used) (end_is c i cuts given) (e ∙ ap (λ q. shown (at_the_end true q)) p) in
    let same : s.0 ≡ answer = some_is _ _ _ s.2 (ap (λ q. reply_at (closed_at q)) (sym p) ∙ t) in
    (s.1, s.3 ∙ ap (λ r. reply.Whole r.body s.1 r.keeps) same)

-- the same where the bytes are seen by another name
pub cut_of : (v w : Coming) (kept : List ℕ) → v ≡ w → IsComing v → ReadingIsCut → WhatIsReadIsGiven → feds.More ≡ shown (at_the_end true v.place) → kept ≡ v.received
    → (concluded w ≡ reply.More) × (kept ≡ w.received) × (is_open w.place ≡ true)
cut_of v w kept e i cuts given a k = let m = ends_more v v.place i cuts given refl a in
    (ap concluded (sym e) ∙ m.0, k ∙ ap (λ c. c.received) e, ap (λ c. is_open c.place) (sym e) ∙ m.1)

pub refused_of : (v w : Coming) (kept : List ℕ) (fault : ReplyFault) → v ≡ w → IsComing v → ReadingIsCut → WhatIsReadIsGiven → feds.Bad fault ≡ shown (at_the_end true v.place) → kept ≡ v.received
    → (why : reply.ReplyFault) × (fault ≡ shown_fault why) × (concluded w ≡ reply.Bad why) × (kept ≡ w.received) × (is_open w.place ≡ false)
refused_of v w kept fault e i cuts given a k = let m = ends_bad v v.place fault i cuts given refl a in
    (m.0, m.1, ap concluded (sym e) ∙ m.2, k ∙ ap (λ c. c.received) e, ap (λ c. is_open c.place) (sym e) ∙ m.3)

-- a reply that is whole at its end alone runs to the close
open_keeps : (len : ℕ) (place : Place) (body : List ℕ) (n : ℕ) (keeps : Bool) → is_open place ≡ true → KeepsNothing place → longer len (at_the_end true place) ≡ reply.Whole body n keeps → keeps ≡ false
unfolding KeepsNothing
open_keeps len (InHeads passed head) body n keeps o none e = cc
open_keeps len (InSized wanted g) body n keeps o none e = cc
open_keeps len (InUnsized g) body n keeps o none e = cc
open_keeps len (InLine line g) body n keeps o none e = cc
open_keeps len (InChunk wanted g) body n keeps o none e = cc
open_keeps len (AtReturn g) body n keeps o none e = cc
open_keeps len (AtNewline g) body n keeps o none e = cc
open_keeps len (InTrailer lines g) body n keeps o none e = cc
open_keeps len (Finished g) body n keeps o none e = cc
open_keeps len (Failed fault) body n keeps o none e = cc

ends_keeps : (c : Coming) (body : List ℕ) (n : ℕ) (keeps : Bool) → IsComing c → ReadingIsCut → concluded c ≡ reply.Whole body n keeps → is_open c.place ≡ true → keeps ≡ false
ends_keeps c body n keeps i cuts e o =
    open_keeps (length c.received) c.place body n keeps o (subst KeepsNothing (sym i.leads) (bytes_keep_nothing c.limit c.received)) (sym (ends_open c i cuts o) ∙ e)

pub whole_of : (v w : Coming) (used : ℕ) (answer : Reply) (place : Place) → v ≡ w → IsComing v → ReadingIsCut → WhatIsReadIsGiven → feds.Done used ≡ shown (at_the_end true v.place)
    → place ≡ closed_at v.place → Some answer ≡ reply_at place → (n : ℕ) × (concluded w ≡ reply.Whole answer.body n answer.keeps) × (is_open w.place ≡ true → answer.keeps ≡ false)
whole_of v w used answer place e i cuts given a p t = let m = ends_whole v v.place used answer i cuts given refl a (ap reply_at (sym p) ∙ sym t) in (
  m.0,
  ap concluded (sym e) ∙ m.1,
  λ o. ends_keeps v answer.body m.0 answer.keeps i cuts m.1 (ap (λ c. is_open c.place) e ∙ o),
)

pub leads_of : (v w : Coming) → v ≡ w → IsComing v → w.place ≡ after_bytes w.limit begun w.received
leads_of v w e i = let j : IsComing w = subst IsComing e i in j.leads
