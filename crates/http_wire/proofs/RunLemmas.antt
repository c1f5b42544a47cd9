-- Reading byte after byte, and what is read of bytes that are cut.
use Rattle.std.proofs.Common.{◌≡◌, ℕ, suc, ◌+◌, ◌<◌, ◌≤◌, Bool, true, false, List, [], ◌∷◌, ◌++◌, length, take, drop, get_or, Some, refl, sym, ap, ◌∙◌, arith}
use Rattle.std.proofs.lemmas.List.{drop-drop, take-append-drop, length-take-le}
use Rattle.std.proofs.Math.Seq.{drop-length}
use Rattle.std.proofs.Common.{if◌then◌else◌}
use Rattle.tpf_base.specs.HttpReply.{Place, InHeads, InSized, InUnsized, InLine, InChunk, AtReturn, AtNewline, InTrailer, Finished, Failed, Reading, More, Whole, Bad, one_more, is_open, after_byte, after_bytes, reading_from, at_the_end}
use Rattle.http_wire.specs.declared.message.ReplyFault.{ReplyFault}
use Rattle.http_wire.specs.declared.message.ReplyFault.TheVariants as code
use Rattle.http_wire.specs.declared.message.Reply.{Reply}
use Rattle.http_wire.specs.Replies.{shown_fault, fault_of, longer, reply_at, Runs}

pub fault_back : (fault : ReplyFault) → shown_fault (fault_of fault) ≡ fault
fault_back code.Head = refl
fault_back (code.Status status) = refl
fault_back code.MediaType = refl
fault_back code.Coding = refl
fault_back code.Framing = refl
fault_back code.TooLong = refl

pub done_at : (n : ℕ) → n + 0 ≡ n
done_at n = omega arith

-- a place with a reply is not open
pub given_is_closed : (place : Place) (r : Reply) → reply_at place ≡ Some r → is_open place ≡ false
given_is_closed (InHeads passed head) r e = absurd cc
given_is_closed (InSized wanted g) r e = absurd cc
given_is_closed (InUnsized g) r e = absurd cc
given_is_closed (InLine line g) r e = absurd cc
given_is_closed (InChunk wanted g) r e = absurd cc
given_is_closed (AtReturn g) r e = absurd cc
given_is_closed (AtNewline g) r e = absurd cc
given_is_closed (InTrailer lines g) r e = absurd cc
given_is_closed (Finished g) r e = refl
given_is_closed (Failed fault) r e = refl

-- a reply that is over stays as it is
stays : (limit : ℕ) (place : Place) (b : ℕ) → is_open place ≡ false → after_byte limit place b ≡ place
stays limit (InHeads passed head) b over = absurd cc
stays limit (InSized wanted g) b over = absurd cc
stays limit (InUnsized g) b over = absurd cc
stays limit (InLine line g) b over = absurd cc
stays limit (InChunk wanted g) b over = absurd cc
stays limit (AtReturn g) b over = absurd cc
stays limit (AtNewline g) b over = absurd cc
stays limit (InTrailer lines g) b over = absurd cc
stays limit (Finished g) b over = refl
stays limit (Failed fault) b over = refl

pub over_bytes : (limit : ℕ) (place : Place) (bytes : List ℕ) → is_open place ≡ false → after_bytes limit place bytes ≡ place
unfolding after_bytes
over_bytes limit place [] over = refl
over_bytes limit place (b ∷ bs) over = ap (λ (p : Place). after_bytes limit p bs) (stays limit place b over) ∙ over_bytes limit place bs over

pub over_reading : (limit : ℕ) (place : Place) (bytes : List ℕ) (at_end : Bool) → is_open place ≡ false → reading_from limit place bytes at_end ≡ at_the_end at_end place
unfolding reading_from
over_reading limit place [] at_end over = refl
over_reading limit place (b ∷ bs) at_end over = ap (λ (v : Bool). if v then one_more (reading_from limit (after_byte limit place b) bs at_end) else at_the_end at_end place) over

pub open_reading : (limit : ℕ) (place : Place) (b : ℕ) (bs : List ℕ) (at_end : Bool) → is_open place ≡ true → reading_from limit place (b ∷ bs) at_end ≡ one_more (reading_from limit (after_byte limit place b) bs at_end)
unfolding reading_from
open_reading limit place b bs at_end goes = ap (λ (v : Bool). if v then one_more (reading_from limit (after_byte limit place b) bs at_end) else at_the_end at_end place) goes

pub longer_none : (r : Reading) → longer 0 r ≡ r
longer_none More = refl
longer_none (Whole body k keeps) = ap (λ (m : ℕ). Whole body m keeps) (omega arith)
longer_none (Bad fault) = refl

-- ---- cuts

pub bytes_append : (limit : ℕ) (place : Place) (xs ys : List ℕ) → after_bytes limit place (xs ++ ys) ≡ after_bytes limit (after_bytes limit place xs) ys
unfolding after_bytes
bytes_append limit place [] ys = refl
bytes_append limit place (x ∷ xs) ys = bytes_append limit (after_byte limit place x) xs ys

open_first : (limit : ℕ) (place : Place) (xs : List ℕ) → is_open (after_bytes limit place xs) ≡ true → is_open place ≡ true
open_first limit place xs goes = open_case (is_open place) refl
  where
    open_case : (v : Bool) → is_open place ≡ v → v ≡ true
    open_case true e = refl
    open_case false e = let over : is_open (after_bytes limit place xs) ≡ false = ap is_open (over_bytes limit place xs e) ∙ e in sym over ∙ goes

one_more_longer : (n : ℕ) (r : Reading) → one_more (longer n r) ≡ longer (suc n) r
one_more_longer n More = refl
one_more_longer n (Whole body k keeps) = ap (λ (m : ℕ). Whole body m keeps) (omega arith)
one_more_longer n (Bad fault) = refl

pub reading_append : (limit : ℕ) (place : Place) (xs ys : List ℕ) (at_end : Bool) → is_open (after_bytes limit place xs) ≡ true
    → reading_from limit place (xs ++ ys) at_end ≡ longer (length xs) (reading_from limit (after_bytes limit place xs) ys at_end)
unfolding after_bytes
reading_append limit place [] ys at_end goes = sym (longer_none (reading_from limit place ys at_end))
reading_append limit place (x ∷ xs) ys at_end goes =
    open_reading limit place x (xs ++ ys) at_end (open_first limit place (x ∷ xs) goes)
    ∙ ap one_more (reading_append limit (after_byte limit place x) xs ys at_end goes)
    ∙ one_more_longer (length xs) _

stays_case : (limit : ℕ) (place : Place) (x : ℕ) (xs ys : List ℕ) (at_end : Bool)
    → reading_from limit (after_byte limit place x) (xs ++ ys) at_end ≡ reading_from limit (after_byte limit place x) xs at_end
    → (v : Bool) → is_open place ≡ v → reading_from limit place (x ∷ (xs ++ ys)) at_end ≡ reading_from limit place (x ∷ xs) at_end
stays_case limit place x xs ys at_end rest true e =
    open_reading limit place x (xs ++ ys) at_end e ∙ ap one_more rest ∙ sym (open_reading limit place x xs at_end e)
stays_case limit place x xs ys at_end rest false e =
    over_reading limit place (x ∷ (xs ++ ys)) at_end e ∙ sym (over_reading limit place (x ∷ xs) at_end e)

pub reading_stays : (limit : ℕ) (place : Place) (xs ys : List ℕ) (at_end : Bool) → is_open (after_bytes limit place xs) ≡ false
    → reading_from limit place (xs ++ ys) at_end ≡ reading_from limit place xs at_end
unfolding after_bytes
reading_stays limit place [] ys at_end over = over_reading limit place ys at_end over ∙ sym (over_reading limit place [] at_end over)
reading_stays limit place (x ∷ xs) ys at_end over =
    stays_case limit place x xs ys at_end (reading_stays limit (after_byte limit place x) xs ys at_end over) (is_open place) refl

-- ---- runs

pub runs_first : (limit : ℕ) (place : Place) (bytes : List ℕ) → Runs limit place bytes 0 place
runs_first limit place bytes = record { bytes_left = refl; reading = sym (longer_none (reading_from limit place bytes false)) }

after_one : (limit : ℕ) (place : Place) (b : ℕ) (bs : List ℕ) → after_bytes limit place (b ∷ bs) ≡ after_bytes limit (after_byte limit place b) bs
unfolding after_bytes
after_one limit place b bs = refl

after_none : (limit : ℕ) (place : Place) → after_bytes limit place [] ≡ place
unfolding after_bytes
after_none limit place = refl

pub reading_none : (limit : ℕ) (place : Place) (at_end : Bool) → reading_from limit place [] at_end ≡ at_the_end at_end place
unfolding reading_from
reading_none limit place at_end = refl

longer_longer : (n k : ℕ) (r : Reading) → longer n (longer k r) ≡ longer (n + k) r
longer_longer n k More = refl
longer_longer n k (Whole body m keeps) = ap (λ (j : ℕ). Whole body j keeps) (omega arith)
longer_longer n k (Bad fault) = refl

-- some bytes, and then some more
pub runs_on : (limit : ℕ) (place : Place) (bytes : List ℕ) (i : ℕ) (now : Place) (k : ℕ) (next : Place) → Runs limit place bytes i now → Runs limit now (drop i bytes) k next → Runs limit place bytes (i + k) next
runs_on limit place bytes i now k next first second =
    let rest : drop k (drop i bytes) ≡ drop (i + k) bytes = drop-drop k i bytes in
    record {
      bytes_left = first.bytes_left ∙ second.bytes_left ∙ ap (after_bytes limit next) rest;
      reading = first.reading ∙ ap (longer i) second.reading ∙ longer_longer i k _ ∙ ap (λ (x : List ℕ). longer (i + k) (reading_from limit next x false)) rest;
    }

one_is : (r : Reading) → one_more r ≡ longer 1 r
one_is More = refl
one_is (Whole body k keeps) = ap (λ (j : ℕ). Whole body j keeps) (omega arith)
one_is (Bad fault) = refl

-- one byte
pub runs_one : (limit : ℕ) (place : Place) (bytes : List ℕ) (next : Place) → 0 < length bytes → is_open place ≡ true
    → next ≡ after_byte limit place (get_or bytes 0 0) → Runs limit place bytes 1 next
runs_one limit place [] next some goes is = absurd (omega arith)
runs_one limit place (b ∷ bs) next some goes is =
    record {
      bytes_left = after_one limit place b bs ∙ ap (λ (p : Place). after_bytes limit p bs) (sym is);
      reading = open_reading limit place b bs false goes ∙ one_is _ ∙ ap (λ (p : Place). longer 1 (reading_from limit p bs false)) (sym is);
    }

-- bytes behind which the reply goes on
pub runs_run : (limit : ℕ) (place : Place) (bytes : List ℕ) (n : ℕ) (next : Place) → n ≤ length bytes
    → next ≡ after_bytes limit place (take n bytes) → is_open next ≡ true → Runs limit place bytes n next
runs_run limit place bytes n next within is goes =
    let whole : take n bytes ++ drop n bytes ≡ bytes = take-append-drop n bytes in
    let count : length (take n bytes) ≡ n = length-take-le n bytes within in
    record {
      bytes_left = ap (after_bytes limit place) (sym whole) ∙ bytes_append limit place (take n bytes) (drop n bytes) ∙ ap (λ (p : Place). after_bytes limit p (drop n bytes)) (sym is);
      reading = ap (λ (x : List ℕ). reading_from limit place x false) (sym whole)
          ∙ reading_append limit place (take n bytes) (drop n bytes) false (ap is_open (sym is) ∙ goes)
          ∙ ap (λ (k : ℕ). longer k (reading_from limit (after_bytes limit place (take n bytes)) (drop n bytes) false)) count
          ∙ ap (λ (p : Place). longer n (reading_from limit p (drop n bytes) false)) (sym is);
    }

pub runs_over : (limit : ℕ) (place : Place) (bytes : List ℕ) (i : ℕ) (now : Place) → Runs limit place bytes i now → is_open now ≡ false
    → (now ≡ after_bytes limit place bytes) × (reading_from limit place bytes false ≡ longer i (at_the_end false now))
runs_over limit place bytes i now runs over =
    (sym (runs.bytes_left ∙ over_bytes limit now (drop i bytes) over), runs.reading ∙ ap (longer i) (over_reading limit now (drop i bytes) false over))

pub runs_out : (limit : ℕ) (place : Place) (bytes : List ℕ) (i : ℕ) (now : Place) → Runs limit place bytes i now → i ≡ length bytes
    → (now ≡ after_bytes limit place bytes) × (reading_from limit place bytes false ≡ longer i (at_the_end false now))
runs_out limit place bytes i now runs all =
    let left : drop i bytes ≡ [] = ap (λ (n : ℕ). drop n bytes) all ∙ drop-length bytes in (
      sym (runs.bytes_left ∙ ap (after_bytes limit now) left ∙ after_none limit now),
      runs.reading ∙ ap (λ (x : List ℕ). longer i (reading_from limit now x false)) left ∙ ap (longer i) (reading_none limit now false),
    )
