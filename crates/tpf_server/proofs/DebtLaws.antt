-- What is owed, and how it becomes less part by part.
use Rattle.std.proofs.Common.{◌≡◌, ℕ, ◌-◌, ◌<◌, ◌≤◌, Bool, true, false, List, [], ◌∷◌, ◌++◌, length, take, Result, Ok, Err, refl, ap, ap₂, sym, subst, ◌∙◌, arith, append_assoc, length-append, if◌then◌else◌}
use Rattle.std.specs.Prelude.{nat_lt, ◌||◌, OnOk, is_err}
use Rattle.std.proofs.lemmas.Bool.{or_parts, true≢false}
use Rattle.list_laws.specs.Begins.{Begins}
use Rattle.list_laws.proofs.Begins.{cut_back}
use Rattle.tpf_base.specs.declared.limits.TheConstants.{ENOUGH_PENDING}
use Rattle.template_fill.specs.Metadata.{Config}
use Rattle.template_fill.specs.HttpAnswer.{MediaType, answer_text, head_text}
use Rattle.page_responses.specs.declared.limits.TheConstants.{LONGEST_PART}
use Rattle.page_responses.specs.declared.pages.Opened.{Opened}
use Rattle.page_responses.specs.declared.rest.Rest.{Rest}
use Rattle.page_responses.specs.declared.rest.Rest.TheVariants.{Nothing}
use Rattle.page_responses.specs.Statuses.{code, media_of}
use Rattle.page_responses.specs.Given.{IsGiven}
use Rattle.page_responses.specs.Rests.{IsWithin, is_left, rest_text}
use Rattle.page_responses.proofs.RestLaws.{rest_done, no_length}
use Rattle.tpf_server.specs.declared.limits.TheConstants.{MOST_PENDING}
use Rattle.tpf_server.specs.declared.asked.Queued.{Queued}
use Rattle.tpf_server.specs.declared.owed.Debt.{Debt}
use Rattle.tpf_server.specs.Opened.{Opens}
use Rattle.tpf_server.specs.Owed.{Fills, FillsUp, debt_left, debt_text, queue_text, queued_text}

-- ---- an answer is begun

wanted_text : (without : Bool) (body : Rest) → rest_text (if without then Nothing else body) ≡ (if without then [] else rest_text body)
unfolding rest_text
wanted_text true body = refl
wanted_text false body = refl

wanted_within : (without : Bool) (body : Rest) → IsWithin body → IsWithin (if without then Nothing else body)
wanted_within true body h = tt
wanted_within false body h = h

head_is : (s n : ℕ) (m : MediaType) (status length : ℕ) (media : MediaType) (closes : Bool) → s ≡ status → n ≡ length → m ≡ media → head_text status media length closes ≡ head_text s m n closes
head_is s n m status length media closes a b c = sym (ap₂ (λ (x y : ℕ). head_text x m y closes) a b ∙ ap (λ (x : MediaType). head_text status x length closes) c)

pub long_head : (status : ℕ) (media : MediaType) (body_length : ℕ) (closes : Bool) → 0 < length (head_text status media body_length closes)
unfolding head_text
long_head status media body_length closes = omega arith

pub begun : (config : Config) (queued : Queued) (o : Opened) (rest : Rest) (before after : List ℕ) → Opens config queued.asking o → after ≡ before ++ head_text (code o.status) (media_of o.media) o.length queued.closes
    → length (head_text (code o.status) (media_of o.media) o.length queued.closes) ≤ LONGEST_PART
    → rest ≡ (if queued.without_body then Nothing else o.body) → IsGiven (queued_text config queued) (rest_text rest) before after
unfolding answer_text
begun config queued o rest before after opens appended few is = record {
  part = head_text (code o.status) (media_of o.media) o.length queued.closes;
  text =
      ap₂ (λ (h l : List ℕ). h ++ (if queued.without_body then [] else l)) (head_is (code o.status) o.length (media_of o.media) _ _ _ queued.closes opens.status opens.length opens.media) (sym opens.body)
      ∙ ap (λ (l : List ℕ). head_text (code o.status) (media_of o.media) o.length queued.closes ++ l) (sym (ap rest_text is ∙ wanted_text queued.without_body o.body));
  appended = appended;
  some = long_head (code o.status) (media_of o.media) o.length queued.closes;
  few = few;
}

pub begun_within : (config : Config) (queued : Queued) (o : Opened) (rest : Rest) → Opens config queued.asking o → rest ≡ (if queued.without_body then Nothing else o.body) → IsWithin rest
begun_within config queued o rest opens is = subst IsWithin (sym is) (wanted_within queued.without_body o.body opens.range)

-- ---- the next part

pub rest_given : (config : Config) (rest new : Rest) (waiting : List Queued) (before after : List ℕ) → IsGiven (rest_text rest) (rest_text new) before after
    → IsGiven (debt_text config rest waiting) (debt_text config new waiting) before after
unfolding debt_text
rest_given config rest new waiting before after given = record {
  part = given.part;
  text = ap (λ (l : List ℕ). l ++ queue_text config waiting) given.text ∙ append_assoc given.part (rest_text new) (queue_text config waiting);
  appended = given.appended;
  some = given.some;
  few = given.few;
}

none_left : (rest : Rest) → is_left rest ≡ false → rest_text rest ≡ []
unfolding rest_text
none_left rest none = rest_done rest none

pub answer_given : (config : Config) (rest new : Rest) (waiting later : List Queued) (queued : Queued) (before after : List ℕ) → is_left rest ≡ false → waiting ≡ queued ∷ later
    → IsGiven (queued_text config queued) (rest_text new) before after → IsGiven (debt_text config rest waiting) (debt_text config new later) before after
unfolding debt_text
answer_given config rest new waiting later queued before after none is given = record {
  part = given.part;
  text =
      ap₂ (λ (l : List ℕ) (q : List Queued). l ++ queue_text config q) (none_left rest none) is
      ∙ ap (λ (l : List ℕ). l ++ queue_text config later) given.text
      ∙ append_assoc given.part (rest_text new) (queue_text config later);
  appended = given.appended;
  some = given.some;
  few = given.few;
}

-- ---- many parts

pub fills_more : (owed left new : List ℕ) (taken : ℕ) (before made after : List ℕ) → taken ≤ length before → length made - taken < ENOUGH_PENDING → Fills owed left taken before made → IsGiven left new made after → Fills owed new taken before after
fills_more owed left new taken before made after within few fills given = record {
  part = fills.part ++ given.part;
  owed = fills.owed ∙ ap (λ (l : List ℕ). fills.part ++ l) given.text ∙ sym (append_assoc fills.part given.part new);
  made = given.appended ∙ ap (λ (l : List ℕ). l ++ given.part) fills.made ∙ append_assoc before fills.part given.part;
  few = λ h. omega (arith, few, given.few, ap (λ (l : List ℕ). length l) given.appended, length-append made given.part);
}

no_queue : (waiting : List Queued) → nat_lt 0 (length waiting) ≡ false → waiting ≡ []
no_queue [] h = refl
no_queue (q ∷ waiting) h = absurd (no_length (length waiting) h)

pub debt_done : (config : Config) (rest : Rest) (waiting : List Queued) → debt_left rest waiting ≡ false → debt_text config rest waiting ≡ []
unfolding debt_text
debt_done config rest waiting none =
    let p = or_parts (is_left rest) (nat_lt 0 (length waiting)) none in
    ap₂ (λ (l : List ℕ) (q : List Queued). l ++ queue_text config q) (none_left rest p.0) (no_queue waiting p.1)

pub debt_settled : (config : Config) (rest new : Rest) (waiting : List Queued) → rest_text new ≡ rest_text rest → debt_text config new waiting ≡ debt_text config rest waiting
unfolding debt_text
debt_settled config rest new waiting same = ap (λ (l : List ℕ). l ++ queue_text config waiting) same

pub fills_settled : (debt left new : List ℕ) (taken : ℕ) (before after : List ℕ) → new ≡ left → Fills debt left taken before after → Fills debt new taken before after
fills_settled debt left new taken before after same fills = subst (λ (l : List ℕ). Fills debt l taken before after) (sym same) fills

pub left_settled : (rest new : Rest) (waiting : List Queued) → is_left new ≡ is_left rest → debt_left rest waiting ≡ false → debt_left new waiting ≡ false
left_settled rest new waiting same none = ap (λ (b : Bool). b || nat_lt 0 (length waiting)) same ∙ none

-- ---- what was appended is taken back where memory was wanting

pub back_is : (n : ℕ) (before made after : List ℕ) → after ≡ take n made → n ≡ length before → Begins before made → after ≡ before
back_is n before made after same size front = same ∙ ap (λ (k : ℕ). take k made) size ∙ cut_back before made front

pub back_few : (taken : ℕ) (before after : List ℕ) → after ≡ before → length before - taken ≤ MOST_PENDING → length after - taken ≤ MOST_PENDING
back_few taken before after same few = omega (arith, few, ap (λ (l : List ℕ). length l) same)

pub filled_few : {T E : Type 0} (r : Result T E) (config : Config) (taken : ℕ) (old new : Debt) (before after : List ℕ) → is_err r ≡ false → OnOk r (FillsUp config taken old new before after)
    → length before - taken ≤ MOST_PENDING → length after - taken ≤ MOST_PENDING
filled_few (Ok x) config taken old new before after none filled few = filled.fills.few few
filled_few (Err e) config taken old new before after none filled few = absurd (true≢false none)
