-- Worked examples of what targets ask for and of answers, by computing.
use Rattle.std.proofs.Common.{◌≡◌, ℕ, List, [], ◌∷◌, ◌++◌, true, false, Some, None, length, refl}
use Rattle.std.specs.Prelude.{⊤, codes}
use Rattle.form_urlencoded.proofs.OnLiterals.{form_urlencoded_on_literals}
use Rattle.std.specs.Str.{is_utf8, chars}
use Rattle.std.specs.Str.Lossy.{utf8_valid_len, utf8_lossy}
use lib.Utf8.{encode}
use Rattle.rdf_terms.specs.Fragments.{fragment}
use Rattle.rdf_terms.specs.Selections.{all_of}
use Rattle.rdf_terms.specs.Datatype.{xsd_string}
use Rattle.rdf_terms.specs.declared.term.Term.TheVariants.{Literal}
use Rattle.rdf_terms.specs.declared.term.Kind.TheVariants.{Plain}
use Rattle.rdf_terms.specs.declared.slots.Slot.TheVariants.{Any, Fixed}
use Rattle.rdf_terms.specs.declared.slots.Slots.{Slots}
use Rattle.tpf_base.specs.HttpHeads.{Accepted, Rejected}
use Rattle.template_fill.specs.Explicit.{read_literal}
use Rattle.template_fill.specs.Metadata.{Config, foaf, void, hydra, rdf, integer, owl, topic_quads, form_quads, mapping_quads, count_quads, link_quads, version_quads, metadata_at, page_addresses, page_metadata}
use Rattle.template_fill.specs.Pages.{page_address, places_text, selection_text}
use Rattle.template_fill.specs.Bodies.{page_body}
use Rattle.tpf_base.specs.Decimals.{digits_up_to, decimal_text}
use Rattle.template_fill.specs.HttpAnswer.{PlainText, phrase, refusal, answer_fields, head_text, answer_text}
use Rattle.tpf_base.specs.Marks.{Served}
use Rattle.template_fill.specs.Answers.{parameters, question_of, is_reload, reload_answer, version_answer, answer_to}
use Rattle.template_fill.specs.Responses.{answering, head_answer}

-- what reading a target unfolds
unfoldable pub targets : ⊤
unfolding question_of parameters form_urlencoded_on_literals utf8_valid_len utf8_lossy is_utf8 chars encode read_literal
targets = tt

-- what writing an answer unfolds
unfoldable pub answers : ⊤
unfolding answer_to version_answer is_reload reload_answer answer_text head_text answer_fields phrase decimal_text digits_up_to
answers = tt

-- what the body of a page unfolds
unfoldable pub bodies : ⊤
unfolding page_body fragment page_metadata page_addresses metadata_at topic_quads form_quads mapping_quads count_quads link_quads version_quads foaf void hydra rdf owl integer page_address selection_text places_text xsd_string decimal_text digits_up_to
bodies = tt

-- ---- what targets ask for

unfoldable pub anything : Slots
anything = record { subject = Any; predicate = Any; object = Any }

unescaped : parameters (codes "/data?subject=%zz") ≡ (codes "subject", codes "%zz") ∷ []
unfolding targets
unescaped = refl

no_term : question_of false (codes "/data?subject=%zz") ≡ None
unfolding targets
no_term = refl

leading_zeros : question_of false (codes "/data?page=0002") ≡ Some (record { selection = all_of anything; page = 2 })
unfolding anything targets
leading_zeros = refl

other_name : question_of false (codes "/data?colour=red") ≡ Some (record { selection = all_of anything; page = 1 })
unfolding anything targets
other_name = refl

no_query : question_of false (codes "/data") ≡ Some (record { selection = all_of anything; page = 1 })
unfolding anything targets
no_query = refl

empty_page : question_of false (codes "/data?page=") ≡ Some (record { selection = all_of anything; page = 1 })
unfolding anything targets
empty_page = refl

page_twice : question_of false (codes "/data?page=1&page=1") ≡ None
unfolding targets
page_twice = refl

page_0 : question_of false (codes "/data?page=0") ≡ None
unfolding targets
page_0 = refl

long_page : question_of false (codes "/data?page=99999999999999999999") ≡ Some (record { selection = all_of anything; page = 99999999999999999999 })
unfolding anything targets
long_page = refl

open_quote : question_of false (codes "/data?object=%22x") ≡ None
unfolding targets
open_quote = refl

literal_subject : question_of false (codes "/data?subject=%22x%22") ≡ Some (record { selection = all_of (record { subject = Fixed (Literal (codes "x") Plain); predicate = Any; object = Any }); page = 1 })
unfolding targets
literal_subject = refl

-- ---- refusals

bad_request : refusal 400 ≡ record { status = 400; media_type = PlainText; body = codes "400 Bad Request" ++ 10 ∷ [] }
unfolding answers
bad_request = refl

refusal_lengths : (length (refusal 400).body ≡ 16) × (length (refusal 404).body ≡ 14) × (length (refusal 405).body ≡ 23) × (length (refusal 431).body ≡ 36) × (length (refusal 500).body ≡ 26) × (length (refusal 503).body ≡ 24)
unfolding answers
refusal_lengths = (refl, refl, refl, refl, refl, refl)

-- ---- the server of no triples at http://localhost/data

unfoldable pub config : Config
config = record { base = record { host = codes "localhost"; port = 80; path = codes "/data"; query = None }; page_size = 100; reload = Some (codes "/reload"); rows = false }

empty_body : length (page_body ([] ∷ []) 1 config (all_of anything) 1) ≡ 2258
unfolding anything config bodies
empty_body = refl

unfoldable pub line : List ℕ → List ℕ
line text = text ++ 13 ∷ 10 ∷ []

-- a page asked for without its body
head_of_page : head_answer (answering ([] ∷ []) config) (Accepted (record { method = codes "HEAD"; target = codes "/data"; closes = false })) (Served 1)
    ≡ line (codes "HTTP/1.1 200 OK") ++ line (codes "Content-Type: application/n-quads") ++ line (codes "Content-Length: 2258") ++ line []
unfolding line config answers targets bodies
head_of_page = refl

other_path : head_answer (answering ([] ∷ []) config) (Accepted (record { method = codes "GET"; target = codes "/x"; closes = false })) (Served 1)
    ≡ line (codes "HTTP/1.1 404 Not Found") ++ line (codes "Content-Type: text/plain") ++ line (codes "Content-Length: 14") ++ line [] ++ codes "404 Not Found" ++ 10 ∷ []
unfolding line config answers
other_path = refl

page_past_the_last : head_answer (answering ([] ∷ []) config) (Accepted (record { method = codes "GET"; target = codes "/data?page=2"; closes = false })) (Served 1)
    ≡ line (codes "HTTP/1.1 404 Not Found") ++ line (codes "Content-Type: text/plain") ++ line (codes "Content-Length: 14") ++ line [] ++ codes "404 Not Found" ++ 10 ∷ []
unfolding line config answers targets bodies
page_past_the_last = refl

other_method : head_answer (answering ([] ∷ []) config) (Accepted (record { method = codes "POST"; target = codes "/data"; closes = true })) (Served 1)
    ≡ line (codes "HTTP/1.1 405 Method Not Allowed") ++ line (codes "Content-Type: text/plain") ++ line (codes "Content-Length: 23") ++ line (codes "Allow: GET, HEAD") ++ line (codes "Connection: close") ++ line [] ++ codes "405 Method Not Allowed" ++ 10 ∷ []
unfolding line config answers
other_method = refl

refused_head : head_answer (answering ([] ∷ []) config) (Rejected 431) (Served 1)
    ≡ line (codes "HTTP/1.1 431 Request Header Fields Too Large") ++ line (codes "Content-Type: text/plain") ++ line (codes "Content-Length: 36") ++ line (codes "Connection: close") ++ line [] ++ codes "431 Request Header Fields Too Large" ++ 10 ∷ []
unfolding line answers
refused_head = refl
