-- The answer to what was asked, as it is found before its body is made.
use Rattle.std.proofs.Common.{◌≡◌, ℕ, ◌<◌, ◌≤◌, ◌++◌, List, [], ◌∷◌, length, Result, Ok, Err, refl, ap, sym, subst, arith, length-append}
use Rattle.std.specs.Prelude.{IfOk, codes}
use Rattle.rdf_terms.specs.declared.slots.Slots.{Slots}
use Rattle.template_fill.specs.Metadata.{Config}
use Rattle.tpf_base.specs.Decimals.{decimal_text}
use Rattle.page_responses.specs.declared.limits.TheConstants.{LONGEST_PART}
use Rattle.page_responses.specs.declared.status.Status.{Status}
use Rattle.page_responses.specs.declared.status.Status.TheVariants.{Success}
use Rattle.page_responses.specs.declared.head.MediaType.TheVariants.{PlainText}
use Rattle.page_responses.specs.declared.pages.Opened.{Opened}
use Rattle.page_responses.specs.declared.rest.Rest.TheVariants as rests
use Rattle.page_responses.specs.Statuses.{version_line}
use Rattle.page_responses.specs.Serving.{Version, served}
use Rattle.page_responses.specs.Rests.{rest_text}
use Rattle.page_responses.specs.Opened.{OpensNumber}
use Rattle.page_responses.proofs.StatusLaws.{body_is}
use Rattle.page_responses.proofs.OpenLaws.{status_opened}
use Rattle.tpf_server.specs.declared.asked.Asking.{Asking}
use Rattle.tpf_server.specs.declared.asked.Asking.TheVariants.{Refused, Reloaded, Page}
use Rattle.tpf_server.specs.Asked.{answer_of}
use Rattle.tpf_server.specs.Opened.{Opens}

-- ---- an answer without a page

refused : (config : Config) (status : Status) → Opens config (Refused status) (status_opened status)
unfolding rest_text answer_of
refused config status = record { status = refl; media = refl; length = ap (λ (l : List ℕ). length l) (body_is status); body = refl; range = tt }

pub opens_refused : (config : Config) (status : Status) (asking : Asking) (o : Opened) → asking ≡ Refused status → o ≡ status_opened status → Opens config asking o
opens_refused config status asking o is opened = subst (λ (a : Asking). Opens config a o) (sym is) (subst (Opens config (Refused status)) (sym opened) (refused config status))

-- ---- a reload

long_line : (number : ℕ) → 0 < length (version_line number)
unfolding version_line
long_line number = omega (arith, length-append (codes "version ") (decimal_text number ++ 10 ∷ []))

version_opened : (config : Config) (number : ℕ) (o : Opened) → length (version_line number) ≤ LONGEST_PART → o ≡ record { status = Success; media = PlainText; length = length (version_line number); body = rests.Words (version_line number) } → Opens config (Reloaded number) o
unfolding rest_text answer_of
version_opened config number o few opened =
    subst (Opens config (Reloaded number)) (sym opened) (record { status = refl; media = refl; length = refl; body = refl; range = (long_line number, few) })

pub opens_version : {E : Type 0} (config : Config) (number : ℕ) (asking : Asking) (r : Result Opened E) → asking ≡ Reloaded number → length (version_line number) ≤ LONGEST_PART
    → IfOk r (λ (o : Opened). o ≡ record { status = Success; media = PlainText; length = length (version_line number); body = rests.Words (version_line number) }) → IfOk r (Opens config asking)
opens_version config number asking (Ok o) is few opened = subst (λ (a : Asking). Opens config a o) (sym is) (version_opened config number o few opened)
opens_version config number asking (Err e) is few opened = tt

-- ---- a page

number_opened : (config : Config) (version : Version) (slots : Slots) (rows : List Slots) (page : ℕ) (o : Opened) → OpensNumber (served version config) (record { slots = slots; rows = rows }) page o → Opens config (Page slots rows page version) o
unfolding answer_of
number_opened config version slots rows page o opens = record { status = opens.status; media = opens.media; length = opens.length; body = opens.body; range = opens.range }

opens_asked : {E : Type 0} (config : Config) (version : Version) (slots : Slots) (rows : List Slots) (page : ℕ) (asking : Asking) (r : Result Opened E) → asking ≡ Page slots rows page version
    → IfOk r (OpensNumber (served version config) (record { slots = slots; rows = rows }) page) → IfOk r (Opens config asking)
opens_asked config version slots rows page asking (Ok o) is opens = subst (λ (a : Asking). Opens config a o) (sym is) (number_opened config version slots rows page o opens)
opens_asked config version slots rows page asking (Err e) is opens = tt

pub opens_number : {E : Type 0} (config : Config) (version : Version) (slots : Slots) (rows held : List Slots) (page : ℕ) (asking : Asking) (r : Result Opened E) → asking ≡ Page slots rows page version → held ≡ rows
    → IfOk r (OpensNumber (served version config) (record { slots = slots; rows = held }) page) → IfOk r (Opens config asking)
opens_number config version slots rows held page asking r is same opens =
    opens_asked config version slots rows page asking r is (subst (λ (l : List Slots). IfOk r (OpensNumber (served version config) (record { slots = slots; rows = l }) page)) same opens)
