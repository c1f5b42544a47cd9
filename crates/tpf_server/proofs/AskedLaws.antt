-- What a request asks for, and its answer.
use Rattle.std.proofs.Common.{◌≡◌, ℕ, zero, suc, ◌+◌, ◌-◌, ◌*◌, ◌/◌, ◌^◌, ◌<◌, ◌≤◌, max, Bool, true, false, List, [], length, Option, Some, None, refl, ap, ap₂, sym, subst, ◌∙◌, arith, if◌then◌else◌}
use Rattle.std.specs.Prelude.{bytes_eq, not, nat_le, unwrap_or, is_some, IfSome, ◌&&◌}
use Rattle.std.proofs.Math.Nat.{div-le_of_le-mul, le-mul_of_pos_right}
use Rattle.std.proofs.lemmas.Bool.{true≢false}
use Rattle.form_urlencoded.specs.Form.{raw_pairs}
use Rattle.rdf_terms.specs.declared.term.Triple.{Triple}
use Rattle.rdf_terms.specs.declared.slots.Slots.{Slots}
use Rattle.rdf_terms.specs.Fragments.{last_page_of}
use Rattle.rdf_terms.specs.Selections.{Selection, selected, selected_last}
use Rattle.rdf_terms.proofs.Selected.{selected_length}
use Rattle.template_fill.specs.ReadAddress.{path_of, query_of}
use Rattle.template_fill.specs.Forms.{HasNoBlank}
use Rattle.template_fill.specs.HttpAnswer.{NQuads, refusal}
use Rattle.template_fill.specs.Answers.{asked_by, parameters, question_of}
use Rattle.page_responses.specs.declared.status.Status.TheVariants.{BadRequest, NotFound}
use Rattle.page_responses.specs.Serving.{Serving, Version, current, data_of}
use Rattle.page_responses.specs.Pages.{body_at}
use Rattle.tpf_server.specs.declared.parameters.Parameters.{Parameters}
use Rattle.tpf_server.specs.declared.asked.Asking.{Asking}
use Rattle.tpf_server.specs.declared.asked.Asking.TheVariants.{Refused, Page}
use Rattle.tpf_server.specs.Parameters.{decoded, found_in, page_in, question_in, rows_in, slots_in}
use Rattle.tpf_server.specs.Asked.{answer_at, answer_by, answer_for_target, answer_of}
use Rattle.tpf_server.proofs.Questions.{question_is, slots_fit, with_page}

-- ---- what the parameters ask for

no_page : (slots : Option Slots) (rows : Option (List Slots)) → with_page slots rows None ≡ None
no_page None rows = refl
no_page (Some s) None = refl
no_page (Some s) (Some rows) = refl

no_rows : (slots : Option Slots) (k : Option ℕ) → with_page slots None k ≡ None
no_rows None k = refl
no_rows (Some s) k = refl

question_parts : (p : Parameters) (slots : Option Slots) (rows : Option (List Slots)) (k : Option ℕ) → slots_in p ≡ slots → rows_in p.rows ≡ rows → page_in p.page ≡ k → question_in p ≡ with_page slots rows k
question_parts p slots rows k a b c =
    ap₂ (λ (x : Option Slots) (y : Option (List Slots)). with_page x y (page_in p.page)) a b ∙ ap (with_page slots rows) c

pub no_page_answer : (server : Serving) (p : Parameters) → page_in p.page ≡ None → answer_of server.config (Refused BadRequest) ≡ answer_at server (question_in p)
unfolding answer_of answer_at
no_page_answer server p none = ap (answer_by server) (sym (question_parts p (slots_in p) (rows_in p.rows) None refl refl none ∙ no_page (slots_in p) (rows_in p.rows)))

pub no_slots_answer : (server : Serving) (p : Parameters) → None ≡ slots_in p → answer_of server.config (Refused BadRequest) ≡ answer_at server (question_in p)
unfolding answer_of answer_at
no_slots_answer server p none = ap (answer_by server) (sym (question_parts p None (rows_in p.rows) (page_in p.page) (sym none) refl refl))

pub no_rows_answer : (server : Serving) (p : Parameters) → rows_in p.rows ≡ None → answer_of server.config (Refused BadRequest) ≡ answer_at server (question_in p)
unfolding answer_of answer_at
no_rows_answer server p none = ap (answer_by server) (sym (question_parts p (slots_in p) None (page_in p.page) refl none refl ∙ no_rows (slots_in p) (page_in p.page)))

pub numbered_answer : (server : Serving) (p : Parameters) (slots : Slots) (rows : List Slots) (k : ℕ) (version : Version) → version ≡ current server → Some slots ≡ slots_in p → rows_in p.rows ≡ Some rows → page_in p.page ≡ Some k
    → answer_of server.config (Page slots rows k version) ≡ answer_at server (question_in p)
unfolding answer_of answer_at body_at
numbered_answer server p slots rows k version is some read page =
    ap (λ (v : Version). answer_of server.config (Page slots rows k v)) is ∙ ap (answer_by server) (sym (question_parts p (Some slots) (Some rows) (Some k) (sym some) read page))

-- ---- no more triples are selected than there are

bounded : (count size k : ℕ) → 1 ≤ size → 1 ≤ k → count ≤ k → count + (size - 1) ≤ size * k
bounded count zero k h some within = absurd (omega (arith, h))
bounded count (suc m) k h some within = omega (arith, within, le-mul_of_pos_right {m = k} m some)

count_bound : (count size : ℕ) → 1 ≤ size → last_page_of count size ≤ max 1 count
count_bound count size some =
    let whole : count + (size - 1) ≤ size * max 1 count = bounded count size (max 1 count) some (omega arith) (omega arith) in
    let q : (count + (size - 1)) / size ≤ max 1 count = div-le_of_le-mul size whole in
    omega (arith, q)

past_all : (triples : List Triple) (s : Selection) (size n : ℕ) → 1 ≤ size → length triples < 2 ^ 64 → 2 ^ 64 ≤ n → nat_le n (selected_last triples s size) ≡ false
past_all triples s size n some fits big = not_within n (selected_last triples s size) (omega (arith, count_bound (length (selected triples s)) size some, selected_length triples s, fits, big))
  where
    not_within : (m n : ℕ) → n < m → nat_le m n ≡ false
    not_within m n h = grind (arith, h)

past_answer : (server : Serving) (p : Parameters) (slots : Slots) (rows : List Slots) (n : ℕ) → slots_in p ≡ Some slots → rows_in p.rows ≡ Some rows → page_in p.page ≡ Some n
    → 1 ≤ server.config.page_size → length (data_of server) < 2 ^ 64 → 2 ^ 64 ≤ n → answer_of server.config (Refused NotFound) ≡ answer_at server (question_in p)
unfolding answer_of answer_at
past_answer server p slots rows n some read page size fits big =
    let s : Selection = record { slots = slots; rows = rows } in
    sym (ap (answer_by server) (question_parts p (Some slots) (Some rows) (Some n) some read page)
    ∙ ap (λ (b : Bool). if b then record { status = 200; media_type = NQuads; body = body_at server s n } else refusal 404) (past_all (data_of server) s server.config.page_size n size fits big))

given_answer : (server : Serving) (p : Parameters) (slots : Option Slots) (rows : Option (List Slots)) (n : ℕ) → slots ≡ slots_in p → rows_in p.rows ≡ rows → (is_some slots && is_some rows) ≡ true → page_in p.page ≡ Some n
    → 1 ≤ server.config.page_size → length (data_of server) < 2 ^ 64 → 2 ^ 64 ≤ n → answer_of server.config (Refused NotFound) ≡ answer_at server (question_in p)
given_answer server p None rows n is read some page size fits big = absurd (true≢false (sym some))
given_answer server p (Some slots) None n is read some page size fits big = absurd (true≢false (sym some))
given_answer server p (Some slots) (Some rows) n is read some page size fits big = past_answer server p slots rows n (sym is) read page size fits big

pub beyond_answer : (server : Serving) (p : Parameters) (slots : Option Slots) (n : ℕ) → slots ≡ slots_in p → (is_some slots && is_some (rows_in p.rows)) ≡ true → page_in p.page ≡ Some n
    → 1 ≤ server.config.page_size → length (data_of server) < 2 ^ 64 → 2 ^ 64 ≤ n → answer_of server.config (Refused NotFound) ≡ answer_at server (question_in p)
beyond_answer server p slots n is some page size fits big = given_answer server p slots (rows_in p.rows) n is refl some page size fits big

none_by : (server : Serving) (p : Parameters) (slots : Option Slots) (rows : Option (List Slots)) → slots ≡ slots_in p → rows_in p.rows ≡ rows → (is_some slots && is_some rows) ≡ false
    → answer_of server.config (Refused BadRequest) ≡ answer_at server (question_in p)
none_by server p None rows is read none = no_slots_answer server p is
none_by server p (Some slots) None is read none = no_rows_answer server p read
none_by server p (Some slots) (Some rows) is read none = absurd (true≢false none)

pub none_answer : (server : Serving) (p : Parameters) (slots : Option Slots) → slots ≡ slots_in p → (is_some slots && is_some (rows_in p.rows)) ≡ false → answer_of server.config (Refused BadRequest) ≡ answer_at server (question_in p)
none_answer server p slots is none = none_by server p slots (rows_in p.rows) is refl none

pub some_fit : (p : Parameters) (slots : Slots) → Some slots ≡ slots_in p → HasNoBlank slots
some_fit p slots is = subst (λ (o : Option Slots). IfSome o HasNoBlank) (sym is) (slots_fit p)

-- ---- targets

pub other_path : (server : Serving) (target path : List ℕ) → path ≡ path_of target → bytes_eq path server.config.base.path ≡ false → answer_of server.config (Refused NotFound) ≡ answer_for_target server target
unfolding answer_of answer_for_target
other_path server target path is other =
    sym (ap (λ (b : Bool). if not b then refusal 404 else answer_at server (question_of server.config.rows target)) (ap (λ (l : List ℕ). bytes_eq l server.config.base.path) (sym is) ∙ other))

pub base_path : (server : Serving) (target path query : List ℕ) (reads : Bool) (found : Parameters) (asking : Asking) → reads ≡ server.config.rows → path ≡ path_of target → bytes_eq path server.config.base.path ≡ true → query ≡ unwrap_or (query_of target) []
    → found ≡ found_in reads (decoded (raw_pairs query)) → answer_of server.config asking ≡ answer_at server (question_in found) → answer_of server.config asking ≡ answer_for_target server target
unfolding answer_for_target question_of parameters
base_path server target path query reads found asking read is same of_query of_pairs answer =
    answer
    ∙ ap (λ (p : Parameters). answer_at server (question_in p)) of_pairs
    ∙ ap (λ (b : Bool). answer_at server (question_in (found_in b (decoded (raw_pairs query))))) read
    ∙ ap (answer_at server) (question_is server.config.rows (decoded (raw_pairs query)))
    ∙ ap (λ (l : List ℕ). answer_at server (asked_by server.config.rows (decoded (raw_pairs l)))) of_query
    ∙ sym (ap (λ (b : Bool). if not b then refusal 404 else answer_at server (question_of server.config.rows target)) (ap (λ (l : List ℕ). bytes_eq l server.config.base.path) (sym is) ∙ same))
