-- The heads at the front of bytes, and those of more bytes.
use Rattle.std.proofs.Common.{◌≡◌, ℕ, suc, zero, ◌<◌, ◌≤◌, Bool, true, false, List, [], ◌∷◌, ◌++◌, length, drop, refl, sym, ap, ◌∙◌, if◌then◌else◌, arith, length-drop}
use Rattle.std.proofs.lemmas.List.{drop-append-le}
use Rattle.tpf_base.specs.HttpHeads.{Verdict, Accepted, NextRequest, Incomplete, Taken, Refused, next_request}
use Rattle.tpf_base.specs.HttpConnection.{Heads, with_head, last_head, heads_from, after_taken, heads_up_to, heads_of, closes, unread_of, with_more, HeadsAreRead, AllHeadsAreRead, HeadsGoOn}
use Rattle.tpf_base.proofs.Heads.{no_request}
use Rattle.http_wire.proofs.StayLemmas.{taken_stays, taken_within, refused_stays}

-- ---- as many heads as there are bytes are enough

no_heads : (most : ℕ) → heads_up_to most [] ≡ record { heads = []; unread = []; closed = false }
unfolding heads_up_to
no_heads zero = refl
no_heads (suc most) = ap (λ (next : NextRequest). heads_from [] next (heads_up_to most (after_taken [] next))) no_request

fewer : (bytes : List ℕ) (n most : ℕ) → 0 < n → n ≤ length bytes → length bytes ≤ suc most → length (drop n bytes) ≤ most
fewer bytes n most some within fits = simp length-drop (omega arith)

same_from : (a b : ℕ) (bytes : List ℕ) → length bytes ≤ suc a → length bytes ≤ suc b
    → ((rest : List ℕ) → length rest ≤ a → length rest ≤ b → heads_up_to a rest ≡ heads_up_to b rest)
    → (next : NextRequest) → next_request bytes ≡ next
    → heads_from bytes next (heads_up_to a (after_taken bytes next)) ≡ heads_from bytes next (heads_up_to b (after_taken bytes next))
same_from a b bytes ha hb again Incomplete is = refl
same_from a b bytes ha hb again (Refused status) is = refl
same_from a b bytes ha hb again (Taken r n) is =
    let within = taken_within bytes r n is in
    ap (heads_from bytes (Taken r n)) (again (drop n bytes) (fewer bytes n a within.0 within.1 ha) (fewer bytes n b within.0 within.1 hb))

same_heads : (a b : ℕ) (bytes : List ℕ) → length bytes ≤ a → length bytes ≤ b → heads_up_to a bytes ≡ heads_up_to b bytes
unfolding heads_up_to
same_heads zero b [] ha hb = sym (no_heads b)
same_heads zero b (x ∷ bytes) ha hb = absurd (omega arith)
same_heads (suc a) zero [] ha hb = no_heads (suc a)
same_heads (suc a) zero (x ∷ bytes) ha hb = absurd (omega arith)
same_heads (suc a) (suc b) bytes ha hb = same_from a b bytes ha hb (λ rest x y. same_heads a b rest x y) (next_request bytes) refl

step_from : (bytes : List ℕ) (most : ℕ) → length bytes ≤ suc most → (next : NextRequest) → next_request bytes ≡ next
    → heads_from bytes next (heads_up_to most (after_taken bytes next)) ≡ heads_from bytes next (heads_of (after_taken bytes next))
step_from bytes most fits Incomplete is = refl
step_from bytes most fits (Refused status) is = refl
step_from bytes most fits (Taken r n) is =
    let within = taken_within bytes r n is in
    ap (heads_from bytes (Taken r n)) (same_heads most (length (drop n bytes)) (drop n bytes) (fewer bytes n most within.0 within.1 fits) (omega arith))

pub heads_read : HeadsAreRead
unfolding heads_up_to
heads_read [] = sym (ap (λ (next : NextRequest). heads_from [] next (heads_of (after_taken [] next))) no_request)
heads_read (b ∷ bytes) = step_from (b ∷ bytes) (length bytes) (omega arith) (next_request (b ∷ bytes)) refl

pub heads_at : (bytes : List ℕ) (next : NextRequest) → next_request bytes ≡ next → heads_of bytes ≡ heads_from bytes next (heads_of (after_taken bytes next))
heads_at bytes next is = heads_read bytes ∙ ap (λ (n : NextRequest). heads_from bytes n (heads_of (after_taken bytes n))) is

-- ---- what is left

-- no whole head
IsRead : Heads → Type 0
IsRead h = h.closed ≡ false → next_request h.unread ≡ Incomplete

read_head : (ends : Bool) (a : Verdict) (h : Heads) → IsRead h → IsRead (if ends then last_head a else with_head a h)
unfolding IsRead
read_head true a h none = λ open_. absurd (cc)
read_head false a h none = none

read_from : (bytes : List ℕ) (most : ℕ) → length bytes ≤ suc most → ((rest : List ℕ) → length rest ≤ most → IsRead (heads_up_to most rest))
    → (next : NextRequest) → next_request bytes ≡ next → IsRead (heads_from bytes next (heads_up_to most (after_taken bytes next)))
unfolding IsRead
read_from bytes most fits again Incomplete is = λ open_. is
read_from bytes most fits again (Refused status) is = λ open_. absurd (cc)
read_from bytes most fits again (Taken r n) is =
    let within = taken_within bytes r n is in
    read_head r.closes (Accepted r) (heads_up_to most (drop n bytes)) (again (drop n bytes) (fewer bytes n most within.0 within.1 fits))

read_up_to : (most : ℕ) (bytes : List ℕ) → length bytes ≤ most → IsRead (heads_up_to most bytes)
unfolding heads_up_to IsRead
read_up_to zero [] fits = λ open_. no_request
read_up_to zero (b ∷ bytes) fits = absurd (omega arith)
read_up_to (suc most) bytes fits = read_from bytes most fits (λ rest h. read_up_to most rest h) (next_request bytes) refl

pub all_read : AllHeadsAreRead
unfolding closes unread_of IsRead
all_read bytes = read_up_to (length bytes) bytes (omega arith)

-- ---- the heads of more bytes

joined_parts : (closed : Bool) (a : Verdict) (heads : List Verdict) (unread more : List ℕ)
    → with_head a (with_more (record { heads = heads; unread = unread; closed = closed }) more) ≡ with_more (with_head a (record { heads = heads; unread = unread; closed = closed })) more
joined_parts true a heads unread more = refl
joined_parts false a heads unread more = refl

joined_head : (ends : Bool) (a : Verdict) (h : Heads) (more : List ℕ)
    → (if ends then last_head a else with_head a (with_more h more)) ≡ with_more (if ends then last_head a else with_head a h) more
joined_head true a h more = refl
joined_head false a h more = joined_parts h.closed a h.heads h.unread more

more_from : (bytes more : List ℕ) (most : ℕ) → length bytes ≤ suc most
    → ((rest : List ℕ) → length rest ≤ most → heads_of (rest ++ more) ≡ with_more (heads_of rest) more)
    → (next : NextRequest) → next_request bytes ≡ next → heads_of (bytes ++ more) ≡ with_more (heads_from bytes next (heads_of (after_taken bytes next))) more
more_from bytes more most fits again Incomplete is = refl
more_from bytes more most fits again (Refused status) is = heads_at (bytes ++ more) (Refused status) (refused_stays bytes more status is)
more_from bytes more most fits again (Taken r n) is =
    let within = taken_within bytes r n is in
    let later : heads_of (drop n (bytes ++ more)) ≡ with_more (heads_of (drop n bytes)) more =
    ap heads_of (drop-append-le n bytes more within.1) ∙ again (drop n bytes) (fewer bytes n most within.0 within.1 fits) in
    heads_at (bytes ++ more) (Taken r n) (taken_stays bytes more r n is)
    ∙ ap (λ (h : Heads). if r.closes then last_head (Accepted r) else with_head (Accepted r) h) later
    ∙ joined_head r.closes (Accepted r) (heads_of (drop n bytes)) more

more_up_to : (most : ℕ) (bytes more : List ℕ) → length bytes ≤ most → heads_of (bytes ++ more) ≡ with_more (heads_of bytes) more
more_up_to zero [] more fits = ap (λ (h : Heads). with_more h more) (sym (no_heads 0))
more_up_to zero (b ∷ bytes) more fits = absurd (omega arith)
more_up_to (suc most) bytes more fits =
    more_from bytes more most fits (λ rest h. more_up_to most rest more h) (next_request bytes) refl ∙ ap (λ (h : Heads). with_more h more) (sym (heads_read bytes))

pub more_heads : HeadsGoOn
more_heads bytes more = more_up_to (length bytes) bytes more (omega arith)

-- ---- what a head that closes leaves

-- nothing is left behind a head that closes
IsLeft : Heads → Type 0
IsLeft h = (if h.closed then [] else h.unread) ≡ h.unread

left_head : (ends : Bool) (a : Verdict) (h : Heads) → IsLeft h → IsLeft (if ends then last_head a else with_head a h)
unfolding IsLeft
left_head true a h is = refl
left_head false a h is = is

left_from : (bytes : List ℕ) (next : NextRequest) (h : Heads) → IsLeft h → IsLeft (heads_from bytes next h)
unfolding IsLeft
left_from bytes Incomplete h is = refl
left_from bytes (Refused status) h is = refl
left_from bytes (Taken r n) h is = left_head r.closes (Accepted r) h is

left_up_to : (most : ℕ) (bytes : List ℕ) → IsLeft (heads_up_to most bytes)
unfolding heads_up_to IsLeft
left_up_to zero bytes = refl
left_up_to (suc most) bytes =
    left_from bytes (next_request bytes) (heads_up_to most (after_taken bytes (next_request bytes))) (left_up_to most (after_taken bytes (next_request bytes)))

pub left_of : (bytes : List ℕ) → (if (heads_of bytes).closed then [] else (heads_of bytes).unread) ≡ (heads_of bytes).unread
unfolding IsLeft
left_of bytes = left_up_to (length bytes) bytes
