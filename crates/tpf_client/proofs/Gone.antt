-- A page that one version has and another has not is refused there with the status 404.
use Rattle.std.proofs.Common.{ℕ, ◌≡◌, ◌≢◌, Bool, true, false, not, nat_le, List, Option, Some, if◌then◌else◌, refl, ap, ◌∙◌, ◌==◌}
use Rattle.std.specs.Prelude.{bytes_eq}
use Rattle.std.proofs.lemmas.Bool.{leb-false}
use Rattle.std.proofs.lemmas.Slice.Eq.{bytes_eq-Decides}
use Rattle.rdf_terms.specs.declared.term.Triple.{Triple}
use Rattle.rdf_terms.specs.Selections.{selected_last}
use Rattle.tpf_base.specs.Addresses.{Address, target_of}
use Rattle.tpf_base.specs.Marks.{Mark, Served, version_at}
use Rattle.template_fill.specs.HttpAnswer.{Answer, NQuads, refusal}
use Rattle.template_fill.specs.Metadata.{Config}
use Rattle.template_fill.specs.Bodies.{version_of, page_body}
use Rattle.template_fill.specs.ReadAddress.{path_of}
use Rattle.template_fill.specs.Answers.{Question, question_of, page_answer, answer_if, is_reload, version_answer, answer_to}
use Rattle.template_fill.specs.Answered.{address_answer, AnsweredGivePages, GivesSomePage}
use Rattle.tpf_client.specs.Offers.{Publisher}
use Rattle.tpf_client.specs.Plans.{IsAnsweredAt, HasFewerPages}

-- what an address that asks for a page is answered with
asked : (history : List (List Triple)) (mark : Mark) (config : Config) (address : Address) (question : Question) → path_of (target_of address) ≡ config.base.path → question_of config.rows (target_of address) ≡ Some question
    → address_answer history mark config address ≡ page_answer history (version_at mark) config question
unfolding answer_to version_answer is_reload
asked history mark config address question path is =
    let same : bytes_eq (path_of (target_of address)) config.base.path ≡ true = ap (λ (bytes : List ℕ). bytes_eq bytes config.base.path) path ∙ (bytes_eq-Decides config.base.path config.base.path).1 refl in
    ap (λ (b : Bool). if not b then refusal 404 else answer_if history (version_at mark) config (question_of config.rows (target_of address))) same
    ∙ ap (λ (o : Option Question). answer_if history (version_at mark) config o) is

-- by the test of the page
there-or-gone : (b : Bool) (body : List ℕ) → (if b then record { status = 200; media_type = NQuads; body = body } else refusal 404).status ≢ 200
    → (b ≡ false) × ((if b then record { status = 200; media_type = NQuads; body = body } else refusal 404).status ≡ 404)
there-or-gone true body otherwise = absurd (otherwise refl)
there-or-gone false body otherwise = (refl, refl)

-- the page is past the last
pub record IsGone (p : Publisher) (address : Address) (version other : ℕ) (status : ℕ) : Type 0 where
  pub is_status : status ≡ 404
  pub fewer : HasFewerPages p address version other

pub gone : AnsweredGivePages → (p : Publisher) (address : Address) (version other : ℕ) → IsAnsweredAt p version address → (address_answer p.history (Served other) p.config address).status ≢ 200
    → IsGone p address version other (address_answer p.history (Served other) p.config address).status
gone answered p address version other at otherwise =
    let g : GivesSomePage p.history (Served version) p.config address = (answered p.history (Served version) p.config address).0 (ap (λ (n : ℕ). n == 200) at.answered) in
    let question : Question = record { selection = g.selection; page = g.k } in
    let is : address_answer p.history (Served other) p.config address ≡ page_answer p.history other p.config question = asked p.history (Served other) p.config address question g.gives.asks.path g.gives.asks.question in
    let last = selected_last (version_of p.history other) g.selection p.config.page_size in
    let not-there : (page_answer p.history other p.config question).status ≢ 200 = λ e. otherwise (ap (λ (a : Answer). a.status) is ∙ e) in
    let b = there-or-gone (nat_le g.k last) (page_body p.history other p.config g.selection g.k) not-there in
    record {
      is_status = ap (λ (a : Answer). a.status) is ∙ b.1;
      fewer = record { selection = g.selection; page = g.k; asks = g.gives.asks; is_there = g.gives.high; is_past = leb-false g.k last b.0 };
    }
