-- The head of an answer: its status line, and how long it is.
use Rattle.std.proofs.Common.{◌≡◌, ℕ, ◌<◌, ◌≤◌, ◌^◌, Bool, false, List, [], ◌++◌, length, refl, ap, ap₂, sym, ◌∙◌, inl, inr, arith, append_assoc, append-nil}
use Rattle.std.specs.Prelude.{codes, unwrap_or}
use Rattle.http.specs.StatusCode.{code_digits, reason_phrase}
use Rattle.tpf_base.specs.Decimals.{digits_up_to, decimal_text}
use Rattle.tpf_base.specs.HttpText.{answer_head, line_end}
use Rattle.template_fill.specs.HttpAnswer.{MediaType, NQuads, answer_fields, head_text, phrase}
use Rattle.http_ends.specs.Answers.{IsStatus}
use Rattle.http_ends.proofs.Answers.{heads_are_short}
use Rattle.page_responses.specs.declared.limits.TheConstants.{LONGEST_PART}
use Rattle.page_responses.specs.declared.status.Status.{Status}
use Rattle.page_responses.specs.declared.status.Status.TheVariants.{Success, BadRequest, NotFound, MethodNotAllowed, HeaderFieldsTooLarge, InternalServerError, ServiceUnavailable}
use Rattle.page_responses.specs.declared.head.MediaType as medias
use Rattle.page_responses.specs.declared.head.MediaType.TheVariants as media
use Rattle.page_responses.specs.Statuses.{code, media_of}

pub digits_are : (status : Status) → code_digits (code status) ≡ decimal_text (code status)
unfolding decimal_text digits_up_to
digits_are Success = refl
digits_are BadRequest = refl
digits_are NotFound = refl
digits_are MethodNotAllowed = refl
digits_are HeaderFieldsTooLarge = refl
digits_are InternalServerError = refl
digits_are ServiceUnavailable = refl

pub phrase_is : (status : Status) → unwrap_or (reason_phrase (code status)) [] ≡ phrase (code status)
unfolding phrase
phrase_is Success = refl
phrase_is BadRequest = refl
phrase_is NotFound = refl
phrase_is MethodNotAllowed = refl
phrase_is HeaderFieldsTooLarge = refl
phrase_is InternalServerError = refl
phrase_is ServiceUnavailable = refl

pub head_is : (status : Status) (media : MediaType) (n body_length : ℕ) (closes : Bool) (fields : List (List ℕ × List ℕ)) → n ≡ code status → fields ≡ answer_fields (code status) media body_length closes
    → answer_head (code_digits n) (unwrap_or (reason_phrase n) []) fields ≡ head_text (code status) media body_length closes
unfolding head_text
head_is status media n body_length closes fields is same =
    ap₂ (λ (m : ℕ) (fs : List (List ℕ × List ℕ)). answer_head (code_digits m) (unwrap_or (reason_phrase m) []) fs) is same
    ∙ ap₂ (λ (d p : List ℕ). answer_head d p (answer_fields (code status) media body_length closes)) (digits_are status) (phrase_is status)

-- ---- the head of a page

-- what stands in front of the length of the body
abbrev page_front : List ℕ
page_front = codes "HTTP/1.1 200 OK" ++ (line_end ++ (codes "Content-Type: application/n-quads" ++ (line_end ++ codes "Content-Length: ")))

length_ended : (digits : List ℕ) → digits ++ (line_end ++ line_end) ≡ ((digits ++ line_end) ++ []) ++ line_end
length_ended digits = simp (append_assoc, append-nil)

page_fields : (n : ℕ) → page_front ++ (decimal_text n ++ (line_end ++ line_end)) ≡ answer_head (code_digits 200) (unwrap_or (reason_phrase 200) []) (answer_fields 200 NQuads n false)
unfolding answer_fields
page_fields n = ap (λ (l : List ℕ). page_front ++ l) (length_ended (decimal_text n))

page_head : (n : ℕ) → page_front ++ (decimal_text n ++ (line_end ++ line_end)) ≡ head_text 200 NQuads n false
page_head n = page_fields n ∙ head_is Success NQuads 200 n false (answer_fields 200 NQuads n false) refl refl

-- the front, the length and the end were appended
pub page_head_stands : (old one two new digits : List ℕ) (n : ℕ) → one ≡ old ++ page_front → two ≡ one ++ digits → digits ≡ decimal_text n → new ≡ two ++ (line_end ++ line_end) → new ≡ old ++ head_text 200 NQuads n false
page_head_stands old one two new digits n first second is third =
    third
    ∙ ap (λ (l : List ℕ). l ++ (line_end ++ line_end)) (second ∙ ap₂ (λ (l m : List ℕ). l ++ m) first is)
    ∙ append_assoc (old ++ page_front) (decimal_text n) (line_end ++ line_end)
    ∙ append_assoc old page_front (decimal_text n ++ (line_end ++ line_end))
    ∙ ap (λ (l : List ℕ). old ++ l) (page_head n)

pub page_head_is : (status : Status) (m : medias.MediaType) (n : ℕ) (closes : Bool) → status ≡ Success → m ≡ media.NQuads → closes ≡ false → head_text 200 NQuads n false ≡ head_text (code status) (media_of m) n closes
page_head_is status m n closes success quads open_ = λ i. head_text (code (sym success i)) (media_of (sym quads i)) n (sym open_ i)

-- ---- how long a head is

is_status : (status : Status) → IsStatus (code status)
is_status Success = inl refl
is_status BadRequest = inr (inl refl)
is_status NotFound = inr (inr (inl refl))
is_status MethodNotAllowed = inr (inr (inr (inl refl)))
is_status HeaderFieldsTooLarge = inr (inr (inr (inr (inl refl))))
is_status InternalServerError = inr (inr (inr (inr (inr (inl refl)))))
is_status ServiceUnavailable = inr (inr (inr (inr (inr (inr refl)))))

-- the length of a body has at most 39 digits
in_digits : (n : ℕ) → n < 2 ^ 128 → n < 10 ^ 39
in_digits n fits = omega arith

pub short_head : (status : Status) (media : MediaType) (n : ℕ) (closes : Bool) → n < 2 ^ 128 → length (head_text (code status) media n closes) ≤ LONGEST_PART
short_head status media n closes fits =
    let few = heads_are_short (code status) media n 39 closes (is_status status) (omega arith) (in_digits n fits) in
    omega (arith, few)
