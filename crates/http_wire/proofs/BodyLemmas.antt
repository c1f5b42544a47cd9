-- Bytes of a body, taken at once.
use Rattle.std.proofs.Common.{◌≡◌, ℕ, ◌+◌, ◌-◌, ◌<◌, ◌≤◌, Bool, true, false, List, [], ◌∷◌, ◌++◌, length, take, refl, sym, ap, ap₂, ◌∙◌, if◌then◌else◌, arith, append_assoc, append-nil, length-append}
use Rattle.std.specs.Prelude.{nat_lt, nat_le}
use Rattle.std.proofs.lemmas.List.{length-take-le}
use Rattle.std.proofs.lemmas.Grind.{common_steps}
use Rattle.tpf_base.specs.HttpReply.{Place, InHeads, InSized, InUnsized, InLine, InChunk, AtReturn, AtNewline, InTrailer, Finished, Failed, Gathered, TooLong, is_open, is_over, with_byte, after_bytes}
use Rattle.http_wire.specs.Places.{room_at, with_bytes, with_run}
use Rattle.http_wire.specs.Replies.{Runs}
use Rattle.http_wire.proofs.RunLemmas.{runs_run}

-- ---- a run of bytes

with_none : (g : Gathered) → with_bytes g [] ≡ g
with_none g = ap (λ (x : List ℕ). record g { body = x }) (append-nil g.body)

with_more : (g : Gathered) (b : ℕ) (bs : List ℕ) → with_bytes (with_byte g b) bs ≡ with_bytes g (b ∷ bs)
with_more g b bs = ap (λ (x : List ℕ). record g { body = x }) (append_assoc g.body (b ∷ []) bs)

minus_none : (n : ℕ) → n ≡ n - 0
minus_none n = omega arith

one_left : (wanted : ℕ) → 1 < wanted → nat_le wanted 1 ≡ false
one_left wanted more = grind (arith, common_steps)

within_limit : (limit : ℕ) (g : Gathered) (b : ℕ) → length g.body < limit → is_over limit (with_byte g b) ≡ false
unfolding is_over
within_limit limit g b h = not_below limit (length (g.body ++ b ∷ [])) (let count = length-append g.body (b ∷ []) in omega arith)
  where
    not_below : (m n : ℕ) → n ≤ m → nat_lt m n ≡ false
    not_below m n h = grind (arith, common_steps)

-- the bytes of a body that has a length
sized_run : (limit wanted : ℕ) (g : Gathered) (run : List ℕ) → length run ≤ wanted - 1 → after_bytes limit (InSized wanted g) run ≡ InSized (wanted - length run) (with_bytes g run)
unfolding after_bytes
sized_run limit wanted g [] few = ap₂ (λ (n : ℕ) (h : Gathered). InSized n h) (minus_none wanted) (sym (with_none g))
sized_run limit wanted g (b ∷ bs) few =
    let more : 1 < wanted = omega arith in
    ap (λ (v : Bool). after_bytes limit (if v then Finished (with_byte g b) else InSized (wanted - 1) (with_byte g b)) bs) (one_left wanted more)
    ∙ sized_run limit (wanted - 1) (with_byte g b) bs (omega arith)
    ∙ ap₂ (λ (n : ℕ) (h : Gathered). InSized n h) (omega arith) (with_more g b bs)

-- of one that runs to the close
unsized_run : (limit : ℕ) (g : Gathered) (run : List ℕ) → length run ≤ limit - length g.body → after_bytes limit (InUnsized g) run ≡ InUnsized (with_bytes g run)
unfolding after_bytes
unsized_run limit g [] few = ap InUnsized (sym (with_none g))
unsized_run limit g (b ∷ bs) few =
    let count : length (g.body ++ b ∷ []) ≡ length g.body + 1 = length-append g.body (b ∷ []) in
    ap (λ (v : Bool). after_bytes limit (if v then Failed TooLong else InUnsized (with_byte g b)) bs) (within_limit limit g b (omega arith))
    ∙ unsized_run limit (with_byte g b) bs (omega arith)
    ∙ ap InUnsized (with_more g b bs)

-- of a chunk
chunk_run : (limit wanted : ℕ) (g : Gathered) (run : List ℕ) → length run ≤ wanted - 1 → length run ≤ limit - length g.body
    → after_bytes limit (InChunk wanted g) run ≡ InChunk (wanted - length run) (with_bytes g run)
unfolding after_bytes
chunk_run limit wanted g [] few short = ap₂ (λ (n : ℕ) (h : Gathered). InChunk n h) (minus_none wanted) (sym (with_none g))
chunk_run limit wanted g (b ∷ bs) few short =
    let more : 1 < wanted = omega arith in
    let count : length (g.body ++ b ∷ []) ≡ length g.body + 1 = length-append g.body (b ∷ []) in
    ap (λ (v : Bool). after_bytes limit (if v then Failed TooLong else (if nat_le wanted 1 then AtReturn (with_byte g b) else InChunk (wanted - 1) (with_byte g b))) bs) (within_limit limit g b (omega arith))
    ∙ ap (λ (v : Bool). after_bytes limit (if v then AtReturn (with_byte g b) else InChunk (wanted - 1) (with_byte g b)) bs) (one_left wanted more)
    ∙ chunk_run limit (wanted - 1) (with_byte g b) bs (omega arith) (omega arith)
    ∙ ap₂ (λ (n : ℕ) (h : Gathered). InChunk n h) (omega arith) (with_more g b bs)

none_run : (limit : ℕ) (place : Place) (run : List ℕ) → length run ≤ 0 → after_bytes limit place run ≡ place
unfolding after_bytes
none_run limit place [] few = refl
none_run limit place (b ∷ bs) few = absurd (omega arith)

-- to read bytes of a body one after another is to take them at once
pub run_is : (limit : ℕ) (place : Place) (run : List ℕ) → length run ≤ room_at limit place → after_bytes limit place run ≡ with_run place run
run_is limit (InSized wanted g) run few = sized_run limit wanted g run few
run_is limit (InUnsized g) run few = unsized_run limit g run few
run_is limit (InChunk wanted g) run few = chunk_run limit wanted g run (omega arith) (omega arith)
run_is limit (InHeads passed head) run few = none_run limit _ run few
run_is limit (InLine line g) run few = none_run limit _ run few
run_is limit (AtReturn g) run few = none_run limit _ run few
run_is limit (AtNewline g) run few = none_run limit _ run few
run_is limit (InTrailer lines g) run few = none_run limit _ run few
run_is limit (Finished g) run few = none_run limit _ run few
run_is limit (Failed fault) run few = none_run limit _ run few

pub run_open : (place : Place) (run : List ℕ) → is_open (with_run place run) ≡ is_open place
run_open (InSized wanted g) run = refl
run_open (InUnsized g) run = refl
run_open (InChunk wanted g) run = refl
run_open (InHeads passed head) run = refl
run_open (InLine line g) run = refl
run_open (AtReturn g) run = refl
run_open (AtNewline g) run = refl
run_open (InTrailer lines g) run = refl
run_open (Finished g) run = refl
run_open (Failed fault) run = refl

-- so many bytes of a body, read at once
pub body_runs : (limit : ℕ) (place : Place) (bytes : List ℕ) (n : ℕ) (next : Place) → n ≤ length bytes → n ≤ room_at limit place
    → is_open place ≡ true → next ≡ with_run place (take n bytes) → Runs limit place bytes n next
body_runs limit place bytes n next within few goes is =
    let count : length (take n bytes) ≡ n = length-take-le n bytes within in
    runs_run limit place bytes n next within (is ∙ sym (run_is limit place (take n bytes) (omega arith))) (ap is_open is ∙ run_open place (take n bytes) ∙ goes)
