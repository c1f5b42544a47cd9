-- Addresses that are answered with a page.
use Rattle.std.proofs.Common.{◌≡◌, ℕ, ◌≤◌, List, [], ◌∷◌, Bool, true, false, not, ◌==◌, ◌&&◌, nat_le, Option, Some, None, if◌then◌else◌, refl, sym, ◌∙◌, ap, subst, arith}
use Rattle.std.specs.Prelude.{codes, bytes_eq}
use Rattle.std.specs.List.{list_all}
use Rattle.std.specs.Char.{is_ascii_digit}
use Rattle.std.specs.Str.Parse.{digits_value}
use Rattle.std.proofs.lemmas.Bool.Decides.{nat_tests}
use Rattle.std.proofs.lemmas.Slice.Eq.{bytes_eq-Decides}
use Rattle.list_laws.proofs.Options.{when_some, bind_some}
use Rattle.list_laws.proofs.Bytes.{same_bytes}
use Rattle.list_laws.proofs.Tests.{and_second}
use Rattle.tpf_base.specs.Addresses.{Address, target_of}
use Rattle.rdf_terms.specs.declared.term.Triple.{Triple}
use Rattle.rdf_terms.specs.declared.slots.Slots.{Slots}
use Rattle.rdf_terms.specs.Selections.{Selection, selected_last}
use Rattle.template_fill.specs.ReadAddress.{path_of, ◌>>=◌}
use Rattle.template_fill.specs.HttpAnswer.{Answer, NQuads, refusal}
use Rattle.template_fill.specs.Metadata.{Config}
use Rattle.template_fill.specs.Bodies.{version_of, page_body}
use Rattle.tpf_base.specs.Marks.{Mark, version_at}
use Rattle.template_fill.specs.Answers.{Question, values_under, one_value, slot_under, page_number, rows_under, asked_by, read_as, parameters, question_of, page_answer, answer_if, is_reload, version_answer, answer_to, AsksFor}
use Rattle.template_fill.specs.Answered.{address_answer, is_answered, GivesPage, GivesSomePage, IsSamePage, PagesAreGiven, AnsweredGivePages, OnePageIsAsked}
use Rattle.template_fill.proofs.Questions.{reads_address_back, question_with}

-- ---- the page that is asked for

within : (k last : ℕ) → k ≤ last → nat_le k last ≡ true
within k last high = grind (arith, nat_tests)

page_there : (history : List (List Triple)) (version : ℕ) (config : Config) (question : Question) → question.page ≤ selected_last (version_of history version) question.selection config.page_size
    → page_answer history version config question ≡ record { status = 200; media_type = NQuads; body = page_body history version config question.selection question.page }
page_there history version config question high =
    ap (λ (b : Bool). if b then record { status = 200; media_type = NQuads; body = page_body history version config question.selection question.page } else refusal 404) (within question.page (selected_last (version_of history version) question.selection config.page_size) high)

answered : (history : List (List Triple)) (mark : Mark) (config : Config) (address : Address) (question : Question) → path_of (target_of address) ≡ config.base.path → question_of config.rows (target_of address) ≡ Some question
    → question.page ≤ selected_last (version_of history (version_at mark)) question.selection config.page_size
    → address_answer history mark config address ≡ record { status = 200; media_type = NQuads; body = page_body history (version_at mark) config question.selection question.page }
unfolding answer_to version_answer is_reload
answered history mark config address question path is high =
    let same : bytes_eq (path_of (target_of address)) config.base.path ≡ true = ap (λ (bytes : List ℕ). bytes_eq bytes config.base.path) path ∙ same_bytes config.base.path in
    ap (λ (b : Bool). if not b then refusal 404 else answer_if history (version_at mark) config (question_of config.rows (target_of address))) same
    ∙ ap (λ (asked : Option Question). answer_if history (version_at mark) config asked) is
    ∙ page_there history (version_at mark) config question high

gives : (history : List (List Triple)) (mark : Mark) (config : Config) (address : Address) (s : Selection) (k : ℕ) → AsksFor config s k (target_of address) → 1 ≤ k → k ≤ selected_last (version_of history (version_at mark)) s config.page_size → GivesPage history mark config address s k
gives history mark config address s k asks low high = record {
  asks = asks;
  low = low;
  high = high;
  answer = answered history mark config address (record { selection = s; page = k }) asks.path asks.question high;
}

pub pages_are_given : PagesAreGiven
pages_are_given history mark config s k address is kept low high given =
    gives history mark config address (read_as config.rows s) k (reads_address_back config s k address is kept low given) low high

-- ---- numbers of pages

number_low : (digits : List ℕ) (k : ℕ) → page_number digits ≡ Some k → 1 ≤ k
number_low [] k is = let one : 1 ≡ k = cc in omega arith
number_low (b ∷ digits) k is =
    let passed = when_some (list_all is_ascii_digit (b ∷ digits) && nat_le 1 (digits_value 10 (b ∷ digits))) (digits_value 10 (b ∷ digits)) k is in
    above (digits_value 10 (b ∷ digits)) k (and_second (list_all is_ascii_digit (b ∷ digits)) (nat_le 1 (digits_value 10 (b ∷ digits))) passed.0) passed.1
  where
    above : (n k : ℕ) → nat_le 1 n ≡ true → n ≡ k → 1 ≤ k
    above n k low is = grind (arith, nat_tests)

asked_low : (reads_rows : Bool) (pairs : List (List ℕ × List ℕ)) (question : Question) → asked_by reads_rows pairs ≡ Some question → 1 ≤ question.page
asked_low reads_rows pairs question is =
    let pages : Option ℕ = one_value (values_under (codes "page") pairs) >>= page_number in
    let given : Option (List Slots) = rows_under reads_rows pairs in
    let s = bind_some (slot_under (codes "subject") pairs) (λ subject. slot_under (codes "predicate") pairs >>= (λ predicate. slot_under (codes "object") pairs >>= (λ object. given >>= (λ rows. pages >>= (λ page. Some (question_with subject predicate object rows page)))))) question is in
    let p = bind_some (slot_under (codes "predicate") pairs) (λ predicate. slot_under (codes "object") pairs >>= (λ object. given >>= (λ rows. pages >>= (λ page. Some (question_with s.0 predicate object rows page))))) question s.2 in
    let o = bind_some (slot_under (codes "object") pairs) (λ object. given >>= (λ rows. pages >>= (λ page. Some (question_with s.0 p.0 object rows page)))) question p.2 in
    let r = bind_some given (λ rows. pages >>= (λ page. Some (question_with s.0 p.0 o.0 rows page))) question o.2 in
    let n = bind_some pages (λ page. Some (question_with s.0 p.0 o.0 r.0 page)) question r.2 in
    let d = bind_some (one_value (values_under (codes "page") pairs)) page_number n.0 n.1 in
    same_page (question_with s.0 p.0 o.0 r.0 n.0) question n.2 (number_low d.0 n.0 d.2)
  where
    same_page : (one other : Question) → Some one ≡ Some other → 1 ≤ one.page → 1 ≤ other.page
    same_page one other is low = let same : one ≡ other = cc in subst (λ (q : Question). 1 ≤ q.page) same low

question_low : (reads_rows : Bool) (target : List ℕ) (question : Question) → question_of reads_rows target ≡ Some question → 1 ≤ question.page
unfolding question_of
question_low reads_rows target question is = asked_low reads_rows (parameters target) question is

-- ---- what an answer with the status 200 says

on_path : (t : Bool) (answer : Answer) → (if not t then refusal 404 else answer).status == 200 ≡ true → (t ≡ true) × (answer.status == 200 ≡ true)
on_path true answer is = (refl, is)
on_path false answer is = absurd (cc)

asks_something : (history : List (List Triple)) (version : ℕ) (config : Config) (asked : Option Question) → (answer_if history version config asked).status == 200 ≡ true → (question : Question) × (asked ≡ Some question) × ((page_answer history version config question).status == 200 ≡ true)
asks_something history version config None is = absurd (cc)
asks_something history version config (Some question) is = (question, refl, is)

there : (t : Bool) (body : List ℕ) → (if t then record { status = 200; media_type = NQuads; body = body } else refusal 404).status == 200 ≡ true → t ≡ true
there true body is = refl
there false body is = absurd (cc)

has_page : (history : List (List Triple)) (version : ℕ) (config : Config) (question : Question) → (page_answer history version config question).status == 200 ≡ true → question.page ≤ selected_last (version_of history version) question.selection config.page_size
has_page history version config question is =
    at_most question.page (selected_last (version_of history version) question.selection config.page_size) (there (nat_le question.page (selected_last (version_of history version) question.selection config.page_size)) (page_body history version config question.selection question.page) is)
  where
    at_most : (k last : ℕ) → nat_le k last ≡ true → k ≤ last
    at_most k last is = grind (arith, nat_tests)

some_page : (history : List (List Triple)) (mark : Mark) (config : Config) (address : Address) → is_answered history mark config address ≡ true → GivesSomePage history mark config address
unfolding answer_to version_answer is_reload
some_page history mark config address is =
    let path = on_path (bytes_eq (path_of (target_of address)) config.base.path) (answer_if history (version_at mark) config (question_of config.rows (target_of address))) is in
    let asked = asks_something history (version_at mark) config (question_of config.rows (target_of address)) path.1 in
    let high = has_page history (version_at mark) config asked.0 asked.2 in
    let same : path_of (target_of address) ≡ config.base.path = (bytes_eq-Decides (path_of (target_of address)) config.base.path).0 path.0 in
    record {
      selection = asked.0.selection;
      k = asked.0.page;
      gives = gives history mark config address asked.0.selection asked.0.page (record { path = same; question = asked.1 }) (question_low config.rows (target_of address) asked.0 asked.1) high;
    }

is_200 : (answer : Answer) (body : List ℕ) → answer ≡ record { status = 200; media_type = NQuads; body = body } → answer.status == 200 ≡ true
is_200 answer body is = ap (λ (a : Answer). a.status == 200) is

pub answered_give_pages : AnsweredGivePages
answered_give_pages history mark config address =
    (some_page history mark config address, λ s k given. is_200 (address_answer history mark config address) (page_body history (version_at mark) config s k) given.answer)

pub one_page_is_asked : OnePageIsAsked
one_page_is_asked config target s other_selection k other one two =
    let is : Some (record { selection = other_selection; page = other }) ≡ Some (record { selection = s; page = k }) = sym two.question ∙ one.question in
    same (record { selection = other_selection; page = other }) (record { selection = s; page = k }) is
  where
    same : (a b : Question) → Some a ≡ Some b → IsSamePage b.selection b.page a.selection a.page
    same a b is = let e : a ≡ b = cc in record { selections_are = ap (λ (q : Question). q.selection) e; page_is = ap (λ (q : Question). q.page) e }
