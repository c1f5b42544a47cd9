-- Texts of literals and lines, from the parts that they are written with.
use Rattle.std.proofs.Common.{◌≡◌, ℕ, ◌+◌, List, [], ◌∷◌, ◌++◌, Bool, true, false, not, ◌&&◌, length, refl, ap, arith, length-append, if◌then◌else◌}
use Rattle.std.specs.List.{list_all}
use Rattle.rdf_terms.specs.Canon.{after_mark, canonical_form, is_marked}
use Rattle.hydra_controls.specs.declared.cut.Cut.{Cut}
use Rattle.hydra_controls.specs.declared.line_text.LineText.{LineText}
use Rattle.hydra_controls.specs.declared.text_parts.TextParts.{TextParts}
use Rattle.hydra_controls.specs.Cuts.{Cuts}
use Rattle.hydra_controls.specs.LineTexts.{digits_of, is_plain_byte, text_of, text_of_line}
use Rattle.hydra_controls.proofs.CutLaws.{cuts_same, cuts_then}

-- ---- forms

plain_step : (marked all : Bool) (b after : ℕ) (xs ys : List ℕ) → (not marked && all) ≡ true → (all ≡ true → xs ≡ ys) → (if marked then 92 ∷ after ∷ [] else b ∷ []) ++ xs ≡ b ∷ ys
plain_step true all b after xs ys plain same = absurd (cc)
plain_step false all b after xs ys plain same = ap (λ (l : List ℕ). b ∷ l) (same plain)

-- a form without a byte that is written with a backslash is written as it is
pub form_is : (form : List ℕ) → list_all is_plain_byte form ≡ true → canonical_form form ≡ form
form_is [] plain = refl
form_is (b ∷ form) plain = plain_step (is_marked b) (list_all is_plain_byte form) b (after_mark b) (canonical_form form) form plain (form_is form)

-- ---- four parts

-- four texts, part by part
four_cut : (a b d e f : Cut) (one two three four old w x y new : List ℕ)
    → Cuts a b one old w → Cuts b d two w x → Cuts d e three x y → Cuts e f four y new → Cuts a f (one ++ (two ++ (three ++ four))) old new
four_cut a b d e f one two three four old w x y new first second third fourth =
    cuts_then a b f one (two ++ (three ++ four)) old w new first
    (cuts_then b d f two (three ++ four) w x new second (cuts_then d e f three four x y new third fourth))

four_length : (one two three four : List ℕ) → length (one ++ (two ++ (three ++ four))) ≡ length one + length two + length three + length four
four_length one two three four =
    omega (arith, length-append one (two ++ (three ++ four)), length-append two (three ++ four), length-append three four)

-- a text in parts
pub text_cut : (t : TextParts) (a b d e f : Cut) (front middle end old w x y new : List ℕ) → front ≡ t.front.now → middle ≡ t.middle.now → end ≡ t.end.now
    → Cuts a b front old w → Cuts b d middle w x → Cuts d e (digits_of t.number) x y → Cuts e f end y new → Cuts a f (text_of t) old new
text_cut t a b d e f front middle end old w x y new of_front of_middle of_end first second third fourth =
    four_cut a b d e f t.front.now t.middle.now (digits_of t.number) t.end.now old w x y new
    (cuts_same a b front t.front.now old w of_front first) (cuts_same b d middle t.middle.now w x of_middle second) third (cuts_same e f end t.end.now y new of_end fourth)

pub text_length : (t : TextParts) → length (text_of t) ≡ length t.front.now + length t.middle.now + length (digits_of t.number) + length t.end.now
text_length t = four_length t.front.now t.middle.now (digits_of t.number) t.end.now

-- a line
pub line_cut : (l : LineText) (a b d e f : Cut) (opening old w x y new : List ℕ) → opening ≡ l.opening.now
    → Cuts a b opening old w → Cuts b d (text_of l.subject) w x → Cuts d e (text_of l.object) x y → Cuts e f (text_of l.graph) y new → Cuts a f (text_of_line l) old new
line_cut l a b d e f opening old w x y new of_opening first second third fourth =
    four_cut a b d e f l.opening.now (text_of l.subject) (text_of l.object) (text_of l.graph) old w x y new
    (cuts_same a b opening l.opening.now old w of_opening first) second third fourth

pub line_length : (l : LineText) → length (text_of_line l) ≡ length l.opening.now + length (text_of l.subject) + length (text_of l.object) + length (text_of l.graph)
line_length l = four_length l.opening.now (text_of l.subject) (text_of l.object) (text_of l.graph)
