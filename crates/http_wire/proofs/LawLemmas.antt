-- A reply wants only so many bytes.
use Rattle.std.proofs.Common.{◌≡◌, ℕ, suc, ◌+◌, ◌*◌, ◌-◌, ◌<◌, ◌≤◌, ◌==◌, Bool, true, false, List, [], ◌∷◌, ◌++◌, length, Option, Some, None, refl, sym, if◌then◌else◌, ◌∙◌, subst, arith}
use Rattle.std.specs.Prelude.{nat_lt, nat_le}
use Rattle.std.proofs.lemmas.Grind.{common_steps}
use Rattle.httparse.specs.Grammar.{ResponseHead}
use Rattle.tpf_base.specs.declared.limits.TheConstants.{MOST_FIELDS}
use Rattle.tpf_base.specs.HttpReply.{Place, InHeads, InSized, InUnsized, InLine, InChunk, AtReturn, AtNewline, InTrailer, Finished, Failed, Gathered, Reading, More, Whole, Bad, one_more, is_open, after_byte, after_bytes, reading_from, at_the_end, begun, reply_of, HeadRead, Announces, IsRefused, Sized, Chunked, ToClose, with_byte, with_extra, is_over, is_padded, unless, after_head_byte, head_place, body_place, final_head, is_interim, response_head, line_place, after_line_byte, after_trailer_byte, chunk_size, gathering, TooLong, BadHead, BadFraming}
use Rattle.tpf_base.specs.HttpHeads.{ends_empty, field_lines}
use Rattle.std.proofs.lemmas.List.{length_push}
use Rattle.http_wire.proofs.RunLemmas.{over_reading, open_reading}

-- ---- a bound

-- of so many bytes that led to the place
abbrev Holds : ℕ → ℕ → Place → Type 0
Holds limit n (InHeads passed head) = (n ≡ passed + length head) × (n < 65536)
Holds limit n (InSized wanted g) = n + wanted ≤ 65536 + limit
Holds limit n (InUnsized g) = (n ≤ 65536 + length g.body) × (length g.body ≤ limit)
Holds limit n (InLine line g) = (n ≤ 65536 + length g.body + g.extra) × (length g.body ≤ limit) × (g.extra ≤ 1048576 + 8 * length g.body)
Holds limit n (InChunk wanted g) = (n ≤ 65536 + length g.body + g.extra) × (length g.body ≤ limit) × (g.extra ≤ 1048576 + 8 * length g.body)
Holds limit n (AtReturn g) = (n ≤ 65536 + length g.body + g.extra) × (length g.body ≤ limit) × (g.extra ≤ 1048576 + 8 * length g.body)
Holds limit n (AtNewline g) = (n ≤ 65536 + length g.body + g.extra) × (length g.body ≤ limit) × (g.extra ≤ 1048576 + 8 * length g.body)
Holds limit n (InTrailer lines g) = (n ≤ 65536 + length g.body + g.extra + length lines) × (length g.body ≤ limit) × (g.extra ≤ 1048576 + 8 * length g.body) × (length lines ≤ 65536)
Holds limit n (Finished g) = Unit {0}
Holds limit n (Failed fault) = Unit {0}

either : (limit n : ℕ) (v : Bool) (p q : Place) → (v ≡ true → Holds limit n p) → (v ≡ false → Holds limit n q) → Holds limit n (if v then p else q)
either limit n true p q on off = on refl
either limit n false p q on off = off refl

le_false : (m n : ℕ) → nat_le m n ≡ false → n < m
le_false m n h = grind (arith, common_steps)

lt_false : (m n : ℕ) → nat_lt m n ≡ false → n ≤ m
lt_false m n h = grind (arith, common_steps)

begins : (limit n : ℕ) (read : HeadRead) → n ≤ 65536 → Holds limit n (body_place limit read)
unfolding body_place
begins limit n (IsRefused fault) h = tt
begins limit n (Announces ToClose keeps) h = (omega arith, omega arith)
begins limit n (Announces Chunked keeps) h = (omega arith, omega arith, omega arith)
begins limit n (Announces (Sized m) keeps) h =
    either limit n (nat_lt limit m) (Failed TooLong) (if m == 0 then Finished (gathering keeps) else InSized m (gathering keeps)) (λ e. tt)
    (λ e. either limit n (m == 0) (Finished (gathering keeps)) (InSized m (gathering keeps)) (λ f. tt) (λ f. let within = lt_false limit m e in omega arith))

heads : (limit n passed : ℕ) (o : Option ResponseHead) → n ≡ passed → n ≤ 65536 → Holds limit n (head_place limit passed o)
unfolding head_place
heads limit n passed None is h = tt
heads limit n passed (Some r) is h =
    either limit n (is_interim r) (if nat_le 65536 passed then Failed TooLong else InHeads passed []) (body_place limit (final_head r))
    (λ e. either limit n (nat_le 65536 passed) (Failed TooLong) (InHeads passed []) (λ f. tt) (λ f. let below = le_false 65536 passed f in (omega arith, omega arith)))
    (λ e. begins limit n (final_head r) h)

head_step : (limit n passed : ℕ) (head : List ℕ) → n ≡ passed + length head → n ≤ 65536 → Holds limit n (after_head_byte limit passed head)
unfolding after_head_byte
head_step limit n passed head is h =
    either limit n (ends_empty head (length head)) (if nat_lt MOST_FIELDS (field_lines head) then Failed BadHead else head_place limit (passed + length head) (response_head head)) (if nat_le 65536 (passed + length head) then Failed TooLong else InHeads passed head)
    (λ e. either limit n (nat_lt MOST_FIELDS (field_lines head)) (Failed BadHead) (head_place limit (passed + length head) (response_head head)) (λ f. tt) (λ f. heads limit n (passed + length head) (response_head head) is h))
    (λ e. either limit n (nat_le 65536 (passed + length head)) (Failed TooLong) (InHeads passed head) (λ f. tt) (λ f. let below = le_false 65536 (passed + length head) f in (is, omega arith)))

unpadded : (g : Gathered) → is_padded g ≡ false → g.extra ≤ 1048576 + 8 * length g.body
unfolding is_padded
unpadded g e = lt_false (1048576 + 8 * length g.body) g.extra e

not_over : (limit : ℕ) (g : Gathered) → is_over limit g ≡ false → length g.body ≤ limit
unfolding is_over
not_over limit g e = lt_false limit (length g.body) e

-- with an unpadded count
abbrev Counted : ℕ → ℕ → Gathered → Type 0
Counted limit n g = (n ≤ 65536 + length g.body + g.extra) × (length g.body ≤ limit)

line_ends : (limit n : ℕ) (g : Gathered) (o : Option ℕ) → Counted limit n g → Holds limit n (line_place g o)
unfolding line_place
line_ends limit n g None h = tt
line_ends limit n g (Some size) h =
    either limit n (is_padded g) (Failed TooLong) (if size == 0 then InTrailer [] g else InChunk size g) (λ p. tt)
    (λ p. either limit n (size == 0) (InTrailer [] g) (InChunk size g) (λ z. (omega (arith, h.0), h.1, unpadded g p, omega arith)) (λ z. (h.0, h.1, unpadded g p)))

line_step : (limit n : ℕ) (line : List ℕ) (b : ℕ) (g : Gathered) → Counted limit n g → Holds limit n (after_line_byte line b g)
unfolding after_line_byte
line_step limit n line b g h =
    either limit n (nat_lt 1024 (length line)) (Failed BadFraming) (if b == 10 then line_place g (chunk_size line) else unless (is_padded g) (InLine line g)) (λ e. tt)
    (λ e. either limit n (b == 10) (line_place g (chunk_size line)) (unless (is_padded g) (InLine line g)) (λ f. line_ends limit n g (chunk_size line) h)
    (λ f. either limit n (is_padded g) (Failed TooLong) (InLine line g) (λ p. tt) (λ p. (h.0, h.1, unpadded g p))))

trailer_step : (limit n : ℕ) (lines : List ℕ) (g : Gathered) → (n ≤ 65536 + length g.body + g.extra + length lines) × (length g.body ≤ limit) × (g.extra ≤ 1048576 + 8 * length g.body)
    → Holds limit n (after_trailer_byte lines g)
unfolding after_trailer_byte
trailer_step limit n lines g h =
    either limit n (nat_lt 65536 (length lines)) (Failed TooLong) (if ends_empty (10 ∷ lines) (length lines + 1) then Finished g else InTrailer lines g) (λ e. tt)
    (λ e. either limit n (ends_empty (10 ∷ lines) (length lines + 1)) (Finished g) (InTrailer lines g) (λ f. tt) (λ f. (h.0, h.1, h.2, lt_false 65536 (length lines) e)))

step : (limit n : ℕ) (place : Place) (b : ℕ) → Holds limit n place → Holds limit (n + 1) (after_byte limit place b)
step limit n (InHeads passed head) b h = let more = length_push head b in head_step limit (n + 1) passed (head ++ b ∷ []) (omega (arith, h.0)) (omega (arith, h.1))
step limit n (InSized wanted g) b h =
    either limit (n + 1) (nat_le wanted 1) (Finished (with_byte g b)) (InSized (wanted - 1) (with_byte g b)) (λ e. tt) (λ e. let more = le_false wanted 1 e in omega arith)
step limit n (InUnsized g) b h =
    let more = length_push g.body b in
    either limit (n + 1) (is_over limit (with_byte g b)) (Failed TooLong) (InUnsized (with_byte g b)) (λ e. tt) (λ e. (omega (arith, h.0), not_over limit (with_byte g b) e))
step limit n (InLine line g) b h = line_step limit (n + 1) (line ++ b ∷ []) b (with_extra g) (omega (arith, h.0), h.1)
step limit n (InChunk wanted g) b h =
    let more = length_push g.body b in
    either limit (n + 1) (is_over limit (with_byte g b)) (Failed TooLong) (if nat_le wanted 1 then AtReturn (with_byte g b) else InChunk (wanted - 1) (with_byte g b)) (λ e. tt)
    (λ e. either limit (n + 1) (nat_le wanted 1) (AtReturn (with_byte g b)) (InChunk (wanted - 1) (with_byte g b)) (λ f. (omega (arith, h.0), not_over limit (with_byte g b) e, omega (arith, h.2))) (λ f. (omega (arith, h.0), not_over limit (with_byte g b) e, omega (arith, h.2))))
step limit n (AtReturn g) b h =
    either limit (n + 1) (b == 13) (unless (is_padded (with_extra g)) (AtNewline (with_extra g))) (Failed BadFraming)
    (λ e. either limit (n + 1) (is_padded (with_extra g)) (Failed TooLong) (AtNewline (with_extra g)) (λ p. tt) (λ p. (omega (arith, h.0), h.1, unpadded (with_extra g) p))) (λ e. tt)
step limit n (AtNewline g) b h =
    either limit (n + 1) (b == 10) (unless (is_padded (with_extra g)) (InLine [] (with_extra g))) (Failed BadFraming)
    (λ e. either limit (n + 1) (is_padded (with_extra g)) (Failed TooLong) (InLine [] (with_extra g)) (λ p. tt) (λ p. (omega (arith, h.0), h.1, unpadded (with_extra g) p))) (λ e. tt)
step limit n (InTrailer lines g) b h = let more = length_push lines b in trailer_step limit (n + 1) (lines ++ b ∷ []) g (omega (arith, h.0), h.1, h.2)
step limit n (Finished g) b h = tt
step limit n (Failed fault) b h = tt

steps : (limit n : ℕ) (place : Place) (bytes : List ℕ) → Holds limit n place → Holds limit (n + length bytes) (after_bytes limit place bytes)
unfolding after_bytes
steps limit n place [] h = let same : n ≡ n + 0 = omega arith in subst (λ (m : ℕ). Holds limit m place) same h
steps limit n place (b ∷ bs) h =
    let same : n + 1 + length bs ≡ n + suc (length bs) = omega arith in
    subst (λ (m : ℕ). Holds limit m (after_bytes limit (after_byte limit place b) bs)) same (steps limit (n + 1) (after_byte limit place b) bs (step limit n place b h))

held_open : (limit n : ℕ) (place : Place) → Holds limit n place → is_open place ≡ true → n ≤ 9 * limit + 1179648
held_open limit n (InHeads passed head) h goes = omega (arith, h.1)
held_open limit n (InSized wanted g) h goes = omega arith
held_open limit n (InUnsized g) h goes = omega (arith, h.0, h.1)
held_open limit n (InLine line g) h goes = omega (arith, h.0, h.1, h.2)
held_open limit n (InChunk wanted g) h goes = omega (arith, h.0, h.1, h.2)
held_open limit n (AtReturn g) h goes = omega (arith, h.0, h.1, h.2)
held_open limit n (AtNewline g) h goes = omega (arith, h.0, h.1, h.2)
held_open limit n (InTrailer lines g) h goes = omega (arith, h.0, h.1, h.2, h.3)
held_open limit n (Finished g) h goes = absurd cc
held_open limit n (Failed fault) h goes = absurd cc

one_more_more : (r : Reading) → one_more r ≡ More → r ≡ More
one_more_more More e = refl
one_more_more (Whole body k keeps) e = absurd cc
one_more_more (Bad fault) e = absurd cc

end_open : (at_end : Bool) (place : Place) → at_the_end at_end place ≡ More → is_open place ≡ true
end_open at_end (InHeads passed head) e = refl
end_open at_end (InSized wanted g) e = refl
end_open at_end (InUnsized g) e = refl
end_open at_end (InLine line g) e = refl
end_open at_end (InChunk wanted g) e = refl
end_open at_end (AtReturn g) e = refl
end_open at_end (AtNewline g) e = refl
end_open at_end (InTrailer lines g) e = refl
end_open at_end (Finished g) e = absurd cc
end_open at_end (Failed fault) e = absurd cc

more_case : (limit : ℕ) (place : Place) (b : ℕ) (bs : List ℕ) (at_end : Bool)
    → (reading_from limit (after_byte limit place b) bs at_end ≡ More → is_open (after_bytes limit (after_byte limit place b) bs) ≡ true)
    → reading_from limit place (b ∷ bs) at_end ≡ More → (v : Bool) → is_open place ≡ v → is_open (after_bytes limit (after_byte limit place b) bs) ≡ true
more_case limit place b bs at_end rest more true e = rest (one_more_more _ (sym (open_reading limit place b bs at_end e) ∙ more))
more_case limit place b bs at_end rest more false e =
    let goes : is_open place ≡ true = end_open at_end place (sym (over_reading limit place (b ∷ bs) at_end e) ∙ more) in absurd cc

more_open : (limit : ℕ) (place : Place) (bytes : List ℕ) (at_end : Bool) → reading_from limit place bytes at_end ≡ More → is_open (after_bytes limit place bytes) ≡ true
unfolding after_bytes reading_from
more_open limit place [] at_end more = end_open at_end place more
more_open limit place (b ∷ bs) at_end more = more_case limit place b bs at_end (more_open limit (after_byte limit place b) bs at_end) more (is_open place) refl

-- ---- a bound that the lines of chunks give

-- each chunk has a byte of the body, and at most 1026 beside it
abbrev Pads : Place → Type 0
Pads (InHeads passed head) = Unit {0}
Pads (InSized wanted g) = Unit {0}
Pads (InUnsized g) = Unit {0}
Pads (InLine line g) = (g.extra ≤ 1026 * length g.body + length line) × (length line ≤ 1024)
Pads (InChunk wanted g) = g.extra ≤ 1026 * length g.body + 1024
Pads (AtReturn g) = g.extra + 2 ≤ 1026 * length g.body
Pads (AtNewline g) = g.extra + 1 ≤ 1026 * length g.body
Pads (InTrailer lines g) = g.extra ≤ 1026 * length g.body + 1024
Pads (Finished g) = Unit {0}
Pads (Failed fault) = Unit {0}

pads_either : (v : Bool) (p q : Place) → (v ≡ true → Pads p) → (v ≡ false → Pads q) → Pads (if v then p else q)
pads_either true p q on off = on refl
pads_either false p q on off = off refl

pads_begin : (limit : ℕ) (read : HeadRead) → Pads (body_place limit read)
unfolding body_place
pads_begin limit (IsRefused fault) = tt
pads_begin limit (Announces ToClose keeps) = tt
pads_begin limit (Announces Chunked keeps) = (omega arith, omega arith)
pads_begin limit (Announces (Sized m) keeps) =
    pads_either (nat_lt limit m) (Failed TooLong) (if m == 0 then Finished (gathering keeps) else InSized m (gathering keeps)) (λ e. tt)
    (λ e. pads_either (m == 0) (Finished (gathering keeps)) (InSized m (gathering keeps)) (λ f. tt) (λ f. tt))

pads_head : (limit passed : ℕ) (o : Option ResponseHead) → Pads (head_place limit passed o)
unfolding head_place
pads_head limit passed None = tt
pads_head limit passed (Some r) =
    pads_either (is_interim r) (if nat_le 65536 passed then Failed TooLong else InHeads passed []) (body_place limit (final_head r))
    (λ e. pads_either (nat_le 65536 passed) (Failed TooLong) (InHeads passed []) (λ f. tt) (λ f. tt)) (λ e. pads_begin limit (final_head r))

pads_head_step : (limit passed : ℕ) (head : List ℕ) → Pads (after_head_byte limit passed head)
unfolding after_head_byte
pads_head_step limit passed head =
    pads_either (ends_empty head (length head)) (if nat_lt MOST_FIELDS (field_lines head) then Failed BadHead else head_place limit (passed + length head) (response_head head)) (if nat_le 65536 (passed + length head) then Failed TooLong else InHeads passed head)
    (λ e. pads_either (nat_lt MOST_FIELDS (field_lines head)) (Failed BadHead) (head_place limit (passed + length head) (response_head head)) (λ f. tt) (λ f. pads_head limit (passed + length head) (response_head head)))
    (λ e. pads_either (nat_le 65536 (passed + length head)) (Failed TooLong) (InHeads passed head) (λ f. tt) (λ f. tt))

pads_line_end : (g : Gathered) (o : Option ℕ) → g.extra ≤ 1026 * length g.body + 1024 → Pads (line_place g o)
unfolding line_place
pads_line_end g None h = tt
pads_line_end g (Some size) h =
    pads_either (is_padded g) (Failed TooLong) (if size == 0 then InTrailer [] g else InChunk size g) (λ p. tt)
    (λ p. pads_either (size == 0) (InTrailer [] g) (InChunk size g) (λ z. h) (λ z. h))

pads_line_step : (line : List ℕ) (b : ℕ) (g : Gathered) → g.extra ≤ 1026 * length g.body + length line → Pads (after_line_byte line b g)
unfolding after_line_byte
pads_line_step line b g h =
    pads_either (nat_lt 1024 (length line)) (Failed BadFraming) (if b == 10 then line_place g (chunk_size line) else unless (is_padded g) (InLine line g)) (λ e. tt)
    (λ e. let short : length line ≤ 1024 = lt_false 1024 (length line) e in
    pads_either (b == 10) (line_place g (chunk_size line)) (unless (is_padded g) (InLine line g)) (λ f. pads_line_end g (chunk_size line) (omega arith))
    (λ f. pads_either (is_padded g) (Failed TooLong) (InLine line g) (λ p. tt) (λ p. (h, short))))

pads_trailer_step : (lines : List ℕ) (g : Gathered) → g.extra ≤ 1026 * length g.body + 1024 → Pads (after_trailer_byte lines g)
unfolding after_trailer_byte
pads_trailer_step lines g h =
    pads_either (nat_lt 65536 (length lines)) (Failed TooLong) (if ends_empty (10 ∷ lines) (length lines + 1) then Finished g else InTrailer lines g) (λ e. tt)
    (λ e. pads_either (ends_empty (10 ∷ lines) (length lines + 1)) (Finished g) (InTrailer lines g) (λ f. tt) (λ f. h))

pads_step : (limit : ℕ) (place : Place) (b : ℕ) → Pads place → Pads (after_byte limit place b)
pads_step limit (InHeads passed head) b h = pads_head_step limit passed (head ++ b ∷ [])
pads_step limit (InSized wanted g) b h = pads_either (nat_le wanted 1) (Finished (with_byte g b)) (InSized (wanted - 1) (with_byte g b)) (λ e. tt) (λ e. tt)
pads_step limit (InUnsized g) b h = pads_either (is_over limit (with_byte g b)) (Failed TooLong) (InUnsized (with_byte g b)) (λ e. tt) (λ e. tt)
pads_step limit (InLine line g) b h = let more = length_push line b in pads_line_step (line ++ b ∷ []) b (with_extra g) (omega (arith, h.0))
pads_step limit (InChunk wanted g) b h =
    let more = length_push g.body b in
    pads_either (is_over limit (with_byte g b)) (Failed TooLong) (if nat_le wanted 1 then AtReturn (with_byte g b) else InChunk (wanted - 1) (with_byte g b)) (λ e. tt)
    (λ e. pads_either (nat_le wanted 1) (AtReturn (with_byte g b)) (InChunk (wanted - 1) (with_byte g b)) (λ f. omega arith) (λ f. omega arith))
pads_step limit (AtReturn g) b h =
    pads_either (b == 13) (unless (is_padded (with_extra g)) (AtNewline (with_extra g))) (Failed BadFraming)
    (λ e. pads_either (is_padded (with_extra g)) (Failed TooLong) (AtNewline (with_extra g)) (λ p. tt) (λ p. omega arith)) (λ e. tt)
pads_step limit (AtNewline g) b h =
    pads_either (b == 10) (unless (is_padded (with_extra g)) (InLine [] (with_extra g))) (Failed BadFraming)
    (λ e. pads_either (is_padded (with_extra g)) (Failed TooLong) (InLine [] (with_extra g)) (λ p. tt) (λ p. (omega arith, omega arith))) (λ e. tt)
pads_step limit (InTrailer lines g) b h = pads_trailer_step (lines ++ b ∷ []) g h
pads_step limit (Finished g) b h = tt
pads_step limit (Failed fault) b h = tt

pads_steps : (limit : ℕ) (place : Place) (bytes : List ℕ) → Pads place → Pads (after_bytes limit place bytes)
unfolding after_bytes
pads_steps limit place [] h = h
pads_steps limit place (b ∷ bs) h = pads_steps limit (after_byte limit place b) bs (pads_step limit place b h)

padded_few : (limit n : ℕ) (place : Place) → Holds limit n place → Pads place → is_open place ≡ true → n < 2048 * limit + 262144
padded_few limit n (InHeads passed head) h p goes = omega (arith, h.1)
padded_few limit n (InSized wanted g) h p goes = omega arith
padded_few limit n (InUnsized g) h p goes = omega (arith, h.0, h.1)
padded_few limit n (InLine line g) h p goes = omega (arith, h.0, h.1, p.0, p.1)
padded_few limit n (InChunk wanted g) h p goes = omega (arith, h.0, h.1, p)
padded_few limit n (AtReturn g) h p goes = omega (arith, h.0, h.1, p)
padded_few limit n (AtNewline g) h p goes = omega (arith, h.0, h.1, p)
padded_few limit n (InTrailer lines g) h p goes = omega (arith, h.0, h.1, h.3, p)
padded_few limit n (Finished g) h p goes = absurd cc
padded_few limit n (Failed fault) h p goes = absurd cc

pub reply_bounded : (limit : ℕ) (bytes : List ℕ) (at_end : Bool) → reply_of bytes at_end limit ≡ More → length bytes ≤ 9 * limit + 1179648
reply_bounded limit bytes at_end more =
    let all = steps limit 0 begun bytes (omega arith, omega arith) in
    let most = held_open limit (0 + length bytes) (after_bytes limit begun bytes) all (more_open limit begun bytes at_end more) in
    omega arith

pub reply_few : (limit : ℕ) (bytes : List ℕ) (at_end : Bool) → reply_of bytes at_end limit ≡ More → length bytes < 2048 * limit + 262144
reply_few limit bytes at_end more =
    let all = steps limit 0 begun bytes (omega arith, omega arith) in
    let few = padded_few limit (0 + length bytes) (after_bytes limit begun bytes) all (pads_steps limit begun bytes tt) (more_open limit begun bytes at_end more) in
    omega arith
