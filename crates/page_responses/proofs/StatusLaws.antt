-- The bodies of answers without a page.
use Rattle.std.proofs.Common.{◌≡◌, ℕ, ◌<◌, ◌≤◌, List, length, refl, subst, arith}
use Rattle.tpf_base.specs.Decimals.{digits_up_to, decimal_text}
use Rattle.template_fill.specs.HttpAnswer.{phrase, refusal}
use Rattle.page_responses.specs.declared.limits.TheConstants.{LONGEST_PART}
use Rattle.page_responses.specs.declared.status.Status.{Status}
use Rattle.page_responses.specs.declared.status.Status.TheVariants.{Success, BadRequest, NotFound, MethodNotAllowed, HeaderFieldsTooLarge, InternalServerError, ServiceUnavailable}
use Rattle.page_responses.specs.Statuses.{body_text, code}

pub body_is : (status : Status) → body_text status ≡ (refusal (code status)).body
unfolding body_text phrase decimal_text digits_up_to
body_is Success = refl
body_is BadRequest = refl
body_is NotFound = refl
body_is MethodNotAllowed = refl
body_is HeaderFieldsTooLarge = refl
body_is InternalServerError = refl
body_is ServiceUnavailable = refl

text_size : (status : Status) → (0 < length (body_text status)) × (length (body_text status) ≤ LONGEST_PART)
unfolding body_text
text_size Success = (omega arith, omega arith)
text_size BadRequest = (omega arith, omega arith)
text_size NotFound = (omega arith, omega arith)
text_size MethodNotAllowed = (omega arith, omega arith)
text_size HeaderFieldsTooLarge = (omega arith, omega arith)
text_size InternalServerError = (omega arith, omega arith)
text_size ServiceUnavailable = (omega arith, omega arith)

pub body_some : (status : Status) → 0 < length (refusal (code status)).body
body_some status = subst (λ (l : List ℕ). 0 < length l) (body_is status) (text_size status).0

pub body_few : (status : Status) → length (refusal (code status)).body ≤ LONGEST_PART
body_few status = subst (λ (l : List ℕ). length l ≤ LONGEST_PART) (body_is status) (text_size status).1
