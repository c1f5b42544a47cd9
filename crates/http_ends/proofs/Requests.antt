-- A request is read as it was written.
use Rattle.std.proofs.Common.{append-nil, ◌≡◌, ℕ, ◌+◌, ◌-◌, ◌<◌, ◌≤◌, true, false, List, [], ◌∷◌, ◌++◌, length, take_all, refl, sym, ap, ap₂, if◌then◌else◌, ◌∙◌, subst, arith, append_assoc, length-append, Some, None}
use Rattle.std.specs.Prelude.{codes, nat_lt, slice_index}
use Rattle.std.specs.List.{list_all}
use Rattle.std.proofs.lemmas.Grind.{common_steps}
use Rattle.std.proofs.lemmas.Bool.{and_parts}
use Rattle.std.proofs.lemmas.List.Elements.{All-nil, All-cons}
use Rattle.httparse.specs.Grammar.{crlf, Field, IsField, is_token_byte, is_value_byte, is_uri_byte, RequestHead, IsRequestHead, print_request, print_end, print_field, print_section, print_version}
use Rattle.httparse.proofs.GrammarLemmas.{print_request-append}
use Rattle.httparse.proofs.PieceLemmas.{print_field-append}
use Rattle.tpf_base.specs.Addresses.{authority_of, target_of}
use Rattle.tpf_base.specs.declared.limits.TheConstants.{MOST_FIELDS}
use Rattle.tpf_base.specs.HttpText.{request_text}
use Rattle.tpf_base.specs.HttpReader.{read_request}
use Rattle.tpf_base.specs.HttpHeads.{Accepted, Rejected, Verdict, Incomplete, Taken, next_request, with_length, judged, judged_head, taken_whole, field_lines, blank_length, is_target, are_visible, begins_with, origin_form, has_word, is_word}
use Rattle.http_wire.proofs.JudgeLemmas.{reads_whole, feeds, feeds-append}
use Rattle.http_wire.proofs.FeedLemmas.{next_judged, next_more}
use Rattle.http_wire.proofs.StayLemmas.{taken_stays}
use Rattle.template_fill.proofs.Addresses.{IsRooted}
use Rattle.http_ends.specs.Requests.{is_plain, request_for, asks, RequestIsRead}
use Rattle.http_ends.proofs.EmptyLines.{quiet, EndsOnce, no_early_end, end_at_last, head_is_all, front_no_head}
use Rattle.http_ends.proofs.Plain.{request_parts, between, behind, quiet_word}
use Rattle.http_ends.proofs.Fields.{is_seen, passes, plain, value, uri, text, authority_seen, target_rooted, rooted_seen, rooted_visible}

-- ---- its empty line

tail : List ℕ
tail = 10 ∷ codes "Accept: application/n-quads" ++ 13 ∷ []

request_quiet : (authority target : List ℕ) → list_all is_plain authority ≡ true → list_all is_plain target ≡ true
    → quiet 71 69 (84 ∷ 32 ∷ (target ++ 32 ∷ (between ++ (authority ++ 13 ∷ (tail ++ 10 ∷ 13 ∷ []))))) ≡ true
unfolding quiet between tail
request_quiet authority target a t =
    quiet_word 84 32 target _ t (λ x y other another.
    quiet_word 58 32 authority _ a (λ x y other another. rw other refl) refl refl) refl refl

front_of : List ℕ → List ℕ → List ℕ
front_of authority target = 84 ∷ 32 ∷ (target ++ 32 ∷ (between ++ (authority ++ 13 ∷ tail)))

whole : (authority target : List ℕ) → request_text authority target ≡ 71 ∷ 69 ∷ ((front_of authority target ++ 10 ∷ 13 ∷ []) ++ 10 ∷ [])
unfolding between tail front_of
whole authority target = simp append_assoc refl

ending : (authority target : List ℕ) → request_text authority target ≡ (71 ∷ 69 ∷ front_of authority target) ++ 10 ∷ 13 ∷ 10 ∷ []
unfolding between tail front_of
ending authority target = simp append_assoc refl

grouped : (authority target : List ℕ) → front_of authority target ++ 10 ∷ 13 ∷ [] ≡ 84 ∷ 32 ∷ (target ++ 32 ∷ (between ++ (authority ++ 13 ∷ (tail ++ 10 ∷ 13 ∷ []))))
unfolding between tail front_of
grouped authority target = simp append_assoc refl

pub request_ends : (authority target : List ℕ) → list_all is_plain authority ≡ true → list_all is_plain target ≡ true → EndsOnce (request_text authority target)
request_ends authority target a t = record {
  first = 71;
  second = 69;
  middle = front_of authority target ++ 10 ∷ 13 ∷ [];
  front = 71 ∷ 69 ∷ front_of authority target;
  is_text = whole authority target;
  not_feed = refl;
  is_quiet = ap (quiet 71 69) (grouped authority target) ∙ request_quiet authority target a t;
  is_end = ending authority target;
}

-- ---- its head

host_field : List ℕ → Field
host_field authority = record { name = codes "Host"; raw = 32 ∷ authority; end = crlf }

accept_field : Field
accept_field = record { name = codes "Accept"; raw = codes " application/n-quads"; end = crlf }

pub head_for : List ℕ → List ℕ → RequestHead
head_for authority target = record {
  blank = [];
  method = codes "GET";
  target = target;
  minor = 1;
  line_end = crlf;
  fields = host_field authority ∷ accept_field ∷ [];
  last = crlf;
}

head_parts : (authority after : List ℕ) → list_all is_seen authority ≡ true → list_all is_seen (47 ∷ after) ≡ true → IsRequestHead (head_for authority (47 ∷ after))
unfolding head_for host_field accept_field is_token_byte
head_parts authority after a t = record {
  method = (omega arith, passes is_token_byte (codes "GET") refl);
  target = (omega arith, passes is_uri_byte (47 ∷ after) (uri (47 ∷ after) t));
  target_text = text (47 ∷ after) t;
  minor = omega arith;
  fields =
      All-cons IsField (host_field authority) (accept_field ∷ []) (record { name = (omega arith, passes is_token_byte (codes "Host") refl); raw = passes is_value_byte (32 ∷ authority) (value authority a) })
      (All-cons IsField accept_field [] (record { name = (omega arith, passes is_token_byte (codes "Accept") refl); raw = passes is_value_byte (codes " application/n-quads") refl }) (All-nil IsField));
}

section_parts : (p q e : List ℕ) → ((p ++ (q ++ [])) ++ e) ++ [] ≡ p ++ (q ++ e)
section_parts p q e = simp (append_assoc, append-nil)

head_text : (authority target : List ℕ) → request_text authority target ≡ print_request (head_for authority target) ++ []
unfolding head_for host_field accept_field between behind
head_text authority target =
    let lines : print_section (host_field authority ∷ accept_field ∷ []) crlf ++ [] ≡ codes "Host" ++ 58 ∷ ((32 ∷ authority) ++ (print_end crlf ++ (print_field accept_field ++ print_end crlf))) =
    section_parts (print_field (host_field authority)) (print_field accept_field) (print_end crlf) ∙ print_field-append (host_field authority) (print_field accept_field ++ print_end crlf) in
    sym (append-nil (request_text authority target)) ∙ request_parts authority target []
    ∙ sym (print_request-append (head_for authority target) [] ∙ ap (λ (l : List ℕ). codes "GET" ++ 32 ∷ (target ++ 32 ∷ (print_version 1 ++ (print_end crlf ++ l)))) lines)

blank_none : (authority target : List ℕ) → blank_length (request_text authority target) ≡ 0
unfolding blank_length
blank_none authority target = refl

no_feeds : (bs : List ℕ) → list_all is_plain bs ≡ true → feeds bs ≡ 0
no_feeds [] all = refl
no_feeds (b ∷ bs) all =
    let parts = and_parts (is_plain b) (list_all is_plain bs) all in
    let first : feeds (b ∷ []) ≡ 0 = one b parts.0 in
    feeds-append (b ∷ []) bs ∙ ap₂ (λ (m n : ℕ). m + n) first (no_feeds bs parts.1)
  where
    one : (b : ℕ) → is_plain b ≡ true → feeds (b ∷ []) ≡ 0
    one b h = grind (arith, common_steps)

text_parts : (authority target : List ℕ) → request_text authority target ≡ codes "GET " ++ (target ++ ((32 ∷ between) ++ (authority ++ 13 ∷ behind)))
unfolding between behind
text_parts authority target = simp append_assoc refl

four_feeds : (a t one two three : List ℕ) → feeds a ≡ 0 → feeds t ≡ 0 → feeds (one ++ (t ++ (two ++ (a ++ three)))) ≡ feeds one + feeds two + feeds three
four_feeds a t one two three none nothing =
    omega (arith, none, nothing, feeds-append one (t ++ (two ++ (a ++ three))), feeds-append t (two ++ (a ++ three)), feeds-append two (a ++ three), feeds-append a three)

lines_two : (authority target : List ℕ) → list_all is_plain authority ≡ true → list_all is_plain target ≡ true → feeds (request_text authority target) ≡ 4
unfolding between behind
lines_two authority target a t =
    ap feeds (text_parts authority target) ∙ four_feeds authority target (codes "GET ") (32 ∷ between) (13 ∷ behind) (no_feeds authority a) (no_feeds target t)

-- ---- its verdict

accepted : (authority after : List ℕ) → list_all (λ b. true) after ≡ true → are_visible (47 ∷ after) ≡ true
    → judged_head (Some (head_for authority (47 ∷ after))) ≡ Accepted (record { method = codes "GET"; target = 47 ∷ after; closes = false })
unfolding head_for host_field accept_field is_target begins_with origin_form has_word is_word
accepted authority after all visible = rw visible refl

every : (bs : List ℕ) → list_all (λ b. true) bs ≡ true
every [] = refl
every (b ∷ bs) = every bs

pub request_judged : (authority after : List ℕ) → list_all is_seen authority ≡ true → list_all is_seen (47 ∷ after) ≡ true → are_visible (47 ∷ after) ≡ true
    → judged (request_text authority (47 ∷ after)) ≡ Accepted (record { method = codes "GET"; target = 47 ∷ after; closes = false })
unfolding judged
request_judged authority after a t visible =
    let lines : field_lines (request_text authority (47 ∷ after)) ≡ 2 = ap (λ (n : ℕ). n - 2) (lines_two authority (47 ∷ after) (plain authority a) (plain (47 ∷ after) t)) in
    let read : taken_whole (read_request (request_text authority (47 ∷ after))) ≡ Some (head_for authority (47 ∷ after)) =
    reads_whole (head_for authority (47 ∷ after)) (request_text authority (47 ∷ after)) (blank_none authority (47 ∷ after)) (head_parts authority after a t, head_text authority (47 ∷ after)) in
    ap (λ (n : ℕ). if nat_lt MOST_FIELDS n then Rejected 431 else judged_head (taken_whole (read_request (request_text authority (47 ∷ after))))) lines
    ∙ ap judged_head read ∙ accepted authority after (every after) visible

request_next : (authority after : List ℕ) → list_all is_seen authority ≡ true → list_all is_seen (47 ∷ after) ≡ true → are_visible (47 ∷ after) ≡ true
    → length (request_text authority (47 ∷ after)) ≤ 4194304
    → next_request (request_text authority (47 ∷ after)) ≡ Taken (record { method = codes "GET"; target = 47 ∷ after; closes = false }) (length (request_text authority (47 ∷ after)))
request_next authority after a t visible fits =
    let bytes = request_text authority (47 ∷ after) in
    let once = request_ends authority (47 ∷ after) (plain authority a) (plain (47 ∷ after) t) in
    let count : 0 + length (request_text authority (47 ∷ after)) ≡ length (request_text authority (47 ∷ after)) = plus (length (request_text authority (47 ∷ after))) in
    next_judged (request_text authority (47 ∷ after)) 0 (Some (length (request_text authority (47 ∷ after)))) (length (request_text authority (47 ∷ after)))
    (sym (blank_none authority (47 ∷ after))) (sym (head_is_all (request_text authority (47 ∷ after)) once)) refl (omega arith)
    ∙ ap₂ (λ (n : ℕ) (v : Verdict). with_length n v) count
    (ap judged (take_all (length (request_text authority (47 ∷ after))) (request_text authority (47 ∷ after)) (omega arith)) ∙ request_judged authority after a t visible)
  where
    plus : (n : ℕ) → 0 + n ≡ n
    plus n = omega arith

next_at_slash : (authority target : List ℕ) → IsRooted target → list_all is_seen authority ≡ true → length (request_text authority target) ≤ 4194304
    → next_request (request_text authority target) ≡ Taken (record { method = codes "GET"; target = target; closes = false }) (length (request_text authority target))
next_at_slash authority target rooted a fits =
    let seen : list_all is_seen (47 ∷ rooted.after_slash) ≡ true = ap (list_all is_seen) (sym rooted.slash) ∙ rooted_seen target rooted in
    subst (λ (t : List ℕ). next_request (request_text authority t) ≡ Taken (record { method = codes "GET"; target = t; closes = false }) (length (request_text authority t))) (sym rooted.slash)
    (request_next authority rooted.after_slash a seen (rooted_visible rooted.after_slash rooted.bytes) (subst (λ (t : List ℕ). length (request_text authority t) ≤ 4194304) rooted.slash fits))

-- ---- its fronts

front_blank : (authority target front rest : List ℕ) → request_text authority target ≡ front ++ rest → blank_length front ≡ 0
unfolding blank_length
front_blank authority target [] rest is = refl
front_blank authority target (b ∷ []) rest is = subst (λ (x : ℕ). blank_length (x ∷ []) ≡ 0) (ap (λ (t : List ℕ). slice_index t 0) is) refl
front_blank authority target (b ∷ c ∷ bs) rest is = subst (λ (x : ℕ). blank_length (x ∷ c ∷ bs) ≡ 0) (ap (λ (t : List ℕ). slice_index t 0) is) refl

front_incomplete : (authority target front rest : List ℕ) → EndsOnce (request_text authority target) → length (request_text authority target) ≤ 4194304
    → request_text authority target ≡ front ++ rest → 0 < length rest → next_request front ≡ Incomplete
front_incomplete authority target front rest once fits is some =
    let none = front_blank authority target front rest is in
    let count : length (request_text authority target) ≡ length front + length rest = ap (λ (t : List ℕ). length t) is ∙ length-append front rest in
    next_more front 0 None (sym none) (sym (front_no_head (request_text authority target) front rest once is some)) refl (omega arith)

pub request_is_read : RequestIsRead
request_is_read bytes address is fits =
    let rooted = target_rooted bytes address is in
    let a = authority_seen bytes address is in
    let once = request_ends (authority_of address) (target_of address) (plain (authority_of address) a) (plain (target_of address) (rooted_seen (target_of address) rooted)) in
    record {
      next = λ more. taken_stays (request_for address) more (asks address) (length (request_for address)) (next_at_slash (authority_of address) (target_of address) rooted a fits);
      incomplete = λ front rest split some. front_incomplete (authority_of address) (target_of address) front rest once fits split some;
      whole = end_at_last (request_for address) once;
      part = λ n more below. no_early_end (request_for address) more n once below;
    }
