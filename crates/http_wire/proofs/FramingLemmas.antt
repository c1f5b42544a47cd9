-- The fields that frame a body.
use Rattle.std.proofs.Common.{◌≡◌, ◌≢◌, ℕ, suc, zero, ◌+◌, ◌*◌, ◌-◌, ◌<◌, ◌≤◌, ◌==◌, Bool, true, false, List, [], ◌∷◌, length, take, refl, sym, ap, ap₂, ◌∙◌, arith}
use Rattle.std.specs.Prelude.{◌&&◌, codes}
use Rattle.std.specs.List.{before_first}
use Rattle.std.proofs.lemmas.Grind.{common_steps}
use Rattle.tpf_base.specs.HttpHeads.{is_word}
use Rattle.tpf_base.specs.HttpReply.{is_nquads, is_number, is_coding, sized_by, framed_by, framing_of, body_place, Sized, Chunked, ToClose, InSized, InUnsized, InLine, Finished, Failed, TooLong, BadFraming, BadHead, BadStatus, BadMediaType, BadCoding, gathering, Framing, framing_read, HeadRead, Announces, IsRefused, is_to_close, is_interim, final_head, head_place, response_head}
use Rattle.httparse.specs.Grammar.{ResponseHead, status_code}
use Rattle.std.specs.Prelude.{Option, IfSome, IsNone, IsSome, MatchOption, not, nat_le, nat_lt, count_by}
use Rattle.std.specs.List.{list_any}
use Rattle.tpf_base.specs.HttpHeads.{values_of, says_close, pairs_of}
use Rattle.http_wire.specs.declared.framing.Next.{Next}
use Rattle.http_wire.specs.Places.{announced, final_of, judged_place, interim_place, start_place}
use Rattle.std.specs.Prelude.{bytes_eq, Some, None, if◌then◌else◌}
use Rattle.std.specs.Char.{is_ascii_digit, digit_value}
use Rattle.std.specs.List.{list_all}
use Rattle.std.specs.Str.Parse.{digits_value}
use Rattle.std.proofs.lemmas.Int.Digits.{digits_value_more}
use Rattle.std.proofs.lemmas.Str.Parse.{digits_value-take-le}
use Rattle.std.proofs.Common.{get_or}
use Rattle.list_laws.proofs.Bytes.{same_bytes}
use Rattle.list_laws.proofs.Tests.{and_first, and_second, assoc}

pub nquads_one : (values : List (List ℕ)) (value : List ℕ) (more : List (List ℕ)) → values ≡ value ∷ more
    → is_nquads values ≡ ((length values == 1) && is_word (codes "application/n-quads") (before_first (λ b. b == 59) value))
unfolding is_nquads
nquads_one values value [] is = ap is_nquads is ∙ ap (λ (x : List (List ℕ)). (length x == 1) && is_word (codes "application/n-quads") (before_first (λ b. b == 59) value)) (sym is)
nquads_one values value (other ∷ more) is =
    ap is_nquads is ∙ sym (ap (λ (v : Bool). v && is_word (codes "application/n-quads") (before_first (λ b. b == 59) value)) (two_or_more (length more)))
    ∙ ap (λ (x : List (List ℕ)). (length x == 1) && is_word (codes "application/n-quads") (before_first (λ b. b == 59) value)) (sym is)
  where
    two_or_more : (n : ℕ) → (suc (suc n) == 1) ≡ false
    two_or_more n = grind (arith, common_steps)

pub nquads_other : (values : List (List ℕ)) → values ≡ [] → is_nquads values ≡ false
unfolding is_nquads
nquads_other values none = ap is_nquads none

-- ---- numbers

digit_is : (c : ℕ) → is_ascii_digit c ≡ true → digit_value c ≡ c - 48
digit_is c h = grind (arith, common_steps)

number_digit : (digits : List ℕ) (i : ℕ) → list_all is_ascii_digit digits ≡ true → i < length digits → is_ascii_digit (get_or digits i 0) ≡ true
number_digit [] i all h = absurd (omega arith)
number_digit (d ∷ ds) zero all h = and_first _ _ all
number_digit (d ∷ ds) (suc i) all h = number_digit ds i (and_second _ _ all) (omega arith)

pub number_step : (digits : List ℕ) (i : ℕ) → is_number digits ≡ true → i < length digits
    → digits_value 10 (take (i + 1) digits) ≡ digits_value 10 (take i digits) * 10 + (get_or digits i 0 - 48)
number_step digits i number h =
    digits_value_more 10 digits i h ∙ ap (λ (n : ℕ). digits_value 10 (take i digits) * 10 + n) (digit_is (get_or digits i 0) (number_digit digits i (and_second _ _ number) h))

pub number_front : (digits : List ℕ) (i : ℕ) → digits_value 10 (take i digits) ≤ digits_value 10 digits
number_front digits i = digits_value-take-le 10 digits i (omega arith)

pub number_low : (digits : List ℕ) (i : ℕ) → is_number digits ≡ true → i < length digits → 48 ≤ get_or digits i 0
number_low digits i number h = low (get_or digits i 0) (number_digit digits i (and_second _ _ number) h)
  where
    low : (c : ℕ) → is_ascii_digit c ≡ true → 48 ≤ c
    low c h = grind (arith, common_steps)

-- ---- the framing of a body

pub place_over : (limit n : ℕ) (keeps : Bool) → limit < n → Failed TooLong ≡ body_place limit (announced keeps (Some (Sized n)))
unfolding body_place
place_over limit n keeps over = grind (arith, common_steps)

pub place_empty : (limit : ℕ) (keeps : Bool) → Finished (gathering keeps) ≡ body_place limit (announced keeps (Some (Sized 0)))
unfolding body_place
place_empty limit true = grind (arith, common_steps)
place_empty limit false = grind (arith, common_steps)

pub place_sized : (limit n : ℕ) (keeps : Bool) → n ≤ limit → n ≢ 0 → InSized n (gathering keeps) ≡ body_place limit (announced keeps (Some (Sized n)))
unfolding body_place
place_sized limit n true within some = grind (arith, common_steps)
place_sized limit n false within some = grind (arith, common_steps)

pub place_close : (limit : ℕ) (keeps : Bool) → InUnsized (gathering false) ≡ body_place limit (announced keeps (Some ToClose))
unfolding body_place
place_close limit true = refl
place_close limit false = refl

pub place_chunked : (limit : ℕ) (keeps : Bool) → InLine [] (gathering keeps) ≡ body_place limit (announced keeps (Some Chunked))
unfolding body_place
place_chunked limit true = refl
place_chunked limit false = refl

pub place_refused : (limit : ℕ) (keeps : Bool) → Failed BadFraming ≡ body_place limit (announced keeps None)
unfolding body_place
place_refused limit keeps = refl

sized_first : (value : List ℕ) (more : List (List ℕ)) → list_all (λ v. bytes_eq v value) (value ∷ more) ≡ list_all (λ v. bytes_eq v value) more
sized_first value more = ap (λ (b : Bool). b && list_all (λ v. bytes_eq v value) more) (same_bytes value)

pub sized_yes : (values : List (List ℕ)) (value : List ℕ) (more : List (List ℕ)) → values ≡ value ∷ more
    → (is_number value && list_all (λ v. bytes_eq v value) values) ≡ true → sized_by values ≡ Some (Sized (digits_value 10 value))
sized_yes values value more is so =
    let e : (is_number value && list_all (λ v. bytes_eq v value) more) ≡ true = ap (λ (b : Bool). is_number value && b) (sym (sized_first value more) ∙ ap (list_all (λ v. bytes_eq v value)) (sym is)) ∙ so in
    ap sized_by is ∙ ap (λ (b : Bool). if b then Some (Sized (digits_value 10 value)) else None) e

pub sized_no : (values : List (List ℕ)) (value : List ℕ) (more : List (List ℕ)) → values ≡ value ∷ more
    → (is_number value && list_all (λ v. bytes_eq v value) values) ≡ false → sized_by values ≡ None
sized_no values value more is not_so =
    let e : (is_number value && list_all (λ v. bytes_eq v value) more) ≡ false = ap (λ (b : Bool). is_number value && b) (sym (sized_first value more) ∙ ap (list_all (λ v. bytes_eq v value)) (sym is)) ∙ not_so in
    ap sized_by is ∙ ap (λ (b : Bool). if b then Some (Sized (digits_value 10 value)) else None) e

pub framing_measured : (fields : List (List ℕ × List ℕ)) → values_of (codes "transfer-encoding") fields ≡ [] → framing_of fields ≡ sized_by (values_of (codes "content-length") fields)
unfolding framing_of
framing_measured fields none = ap (λ (v : List (List ℕ)). framed_by v (values_of (codes "content-length") fields)) none

framed_at : (values lengths : List (List ℕ)) (coding : List ℕ) (more : List (List ℕ)) → values ≡ coding ∷ more
    → framed_by values lengths ≡ (if (length values == 1) && is_coding (codes "chunked") coding then Some Chunked else None)
framed_at values lengths coding [] is =
    ap (λ (v : List (List ℕ)). framed_by v lengths) is ∙ ap (λ (v : List (List ℕ)). if (length v == 1) && is_coding (codes "chunked") coding then Some Chunked else None) (sym is)
framed_at values lengths coding (other ∷ more) is =
    ap (λ (v : List (List ℕ)). framed_by v lengths) is
    ∙ sym (ap (λ (b : Bool). if b && is_coding (codes "chunked") coding then Some Chunked else None) (two_or_more (length more)))
    ∙ ap (λ (v : List (List ℕ)). if (length v == 1) && is_coding (codes "chunked") coding then Some Chunked else None) (sym is)
  where
    two_or_more : (n : ℕ) → (suc (suc n) == 1) ≡ false
    two_or_more n = grind (arith, common_steps)

pub framing_coded : (fields : List (List ℕ × List ℕ)) (coding : List ℕ) (more : List (List ℕ)) (v : Bool) → values_of (codes "transfer-encoding") fields ≡ coding ∷ more
    → ((length (values_of (codes "transfer-encoding") fields) == 1) && is_coding (codes "chunked") coding) ≡ v → framing_of fields ≡ (if v then Some Chunked else None)
unfolding framing_of
framing_coded fields coding more v is e =
    framed_at (values_of (codes "transfer-encoding") fields) (values_of (codes "content-length") fields) coding more is ∙ ap (λ (b : Bool). if b then Some Chunked else None) e

-- ---- a whole head

framing_same : (h : ResponseHead) (o : Option Framing) → framing_read h o ≡ announced ((h.minor == 1) && not (says_close (pairs_of h.fields))) o
framing_same h None = refl
framing_same h (Some framing) = ap (λ (b : Bool). Announces framing b) (assoc (h.minor == 1) (not (says_close (pairs_of h.fields))) (not (is_to_close framing)))

final_is : (h : ResponseHead) → final_head h ≡ final_of (status_code h) h.minor (pairs_of h.fields)
unfolding final_head final_of
final_is h = ap (λ (r : HeadRead).
    if not (status_code h == 200) then IsRefused (BadStatus (status_code h))
    else (if not (is_nquads (values_of (codes "content-type") (pairs_of h.fields))) then IsRefused BadMediaType
    else (if list_any (λ v. not (is_coding (codes "identity") v)) (values_of (codes "content-encoding") (pairs_of h.fields)) then IsRefused BadCoding else r))) (framing_same h (framing_of (pairs_of h.fields)))

pub judged_lines : (limit passed : ℕ) (head : List ℕ) → 66 < count_by (λ b. b == 10) head → judged_place limit passed head ≡ Failed BadHead
unfolding judged_place
judged_lines limit passed head many = many_lines (count_by (λ b. b == 10) head) many
  where
    many_lines : (n : ℕ) → 66 < n → (if nat_lt 64 (n - 2) then Failed BadHead else head_place limit passed (response_head head)) ≡ Failed BadHead
    many_lines n many = grind (arith, common_steps)

judged_few : (limit passed : ℕ) (head : List ℕ) → count_by (λ b. b == 10) head ≤ 66 → judged_place limit passed head ≡ head_place limit passed (response_head head)
unfolding judged_place
judged_few limit passed head few = few_lines (count_by (λ b. b == 10) head) few
  where
    few_lines : (n : ℕ) → n ≤ 66 → (if nat_lt 64 (n - 2) then Failed BadHead else head_place limit passed (response_head head)) ≡ head_place limit passed (response_head head)
    few_lines n few = grind (arith, common_steps)

pub judged_none : (limit passed : ℕ) (head : List ℕ) → count_by (λ b. b == 10) head ≤ 66 → response_head head ≡ None → judged_place limit passed head ≡ Failed BadHead
unfolding head_place
judged_none limit passed head few none = judged_few limit passed head few ∙ ap (head_place limit passed) none

interim_if : (code : ℕ) (h : ResponseHead) → code ≡ status_code h → (v : Bool) → (nat_le 100 code && nat_le code 199) ≡ v → is_interim h ≡ v
interim_if code h is v e = ap (λ (n : ℕ). nat_le 100 n && nat_le n 199) (sym is) ∙ e

place_if : (limit passed : ℕ) (h : ResponseHead) (v : Bool) → is_interim h ≡ v → head_place limit passed (Some h) ≡ (if v then interim_place passed else body_place limit (final_head h))
unfolding head_place
place_if limit passed h v e = ap (λ (b : Bool). if b then interim_place passed else body_place limit (final_head h)) e

pub judged_interim : (limit passed : ℕ) (head : List ℕ) (h : ResponseHead) (code : ℕ) → count_by (λ b. b == 10) head ≤ 66 → response_head head ≡ Some (record h { blank = [] }) → code ≡ status_code h
    → (nat_le 100 code && nat_le code 199) ≡ true → judged_place limit passed head ≡ interim_place passed
judged_interim limit passed head h code few is status so =
    judged_few limit passed head few ∙ ap (head_place limit passed) is ∙ place_if limit passed (record h { blank = [] }) true (interim_if code (record h { blank = [] }) status true so)

pub judged_final : (limit passed : ℕ) (head : List ℕ) (h : ResponseHead) (code minor : ℕ) (pairs : List (List ℕ × List ℕ)) → count_by (λ b. b == 10) head ≤ 66
    → response_head head ≡ Some (record h { blank = [] }) → code ≡ status_code h → minor ≡ h.minor → pairs ≡ pairs_of h.fields
    → (nat_le 100 code && nat_le code 199) ≡ false → judged_place limit passed head ≡ body_place limit (final_of code minor pairs)
judged_final limit passed head h code minor pairs few is status version fields not_so =
    judged_few limit passed head few ∙ ap (head_place limit passed) is ∙ place_if limit passed (record h { blank = [] }) false (interim_if code (record h { blank = [] }) status false not_so)
    ∙ ap (body_place limit) (final_is (record h { blank = [] }) ∙ sym (ap₂ (λ (c m : ℕ). final_of c m pairs) status version ∙ ap (final_of (status_code h) h.minor) fields))

pub judged_next : (limit : ℕ) (head : List ℕ) (h : ResponseHead) (code minor : ℕ) (pairs : List (List ℕ × List ℕ)) (o : Option Next) → count_by (λ b. b == 10) head ≤ 66
    → response_head head ≡ Some (record h { blank = [] }) → code ≡ status_code h → minor ≡ h.minor → pairs ≡ pairs_of h.fields
    → IfSome o (λ n. start_place n ≡ body_place limit (final_of code minor pairs))
    → (IsNone o → (nat_le 100 code && nat_le code 199) ≡ true) → (IsSome o → (nat_le 100 code && nat_le code 199) ≡ false)
    → MatchOption o ((passed : ℕ) → judged_place limit passed head ≡ interim_place passed) (λ n. (passed : ℕ) → judged_place limit passed head ≡ start_place n)
judged_next limit head h code minor pairs None few is status version fields final interim not_interim =
    λ passed. judged_interim limit passed head h code few is status (interim refl)
judged_next limit head h code minor pairs (Some n) few is status version fields final interim not_interim =
    λ passed. judged_final limit passed head h code minor pairs few is status version fields (not_interim refl) ∙ sym final
