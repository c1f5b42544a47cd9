use Rattle.std.proofs.Common.{refl, ℕ, ◌≡◌, List, true, not, ap, sym, ◌∙◌}
use Rattle.std.specs.Str.{chars, is_utf8, IsUtf8}
use Rattle.std.proofs.lemmas.Str.{is_utf8-from_IsUtf8}
use Rattle.rdf_terms.specs.Label.{begins_label, are_label_chars, ends_in_dot, is_label}
use Rattle.rdf_terms.proofs.label.is_label.Goals as goal
use Rattle.rdf_terms.proofs.label.is_label.Goals.{then-begins_label, else-begins_label}

label_of : (text : List ℕ) → IsUtf8 text → begins_label (chars text) ≡ true → are_label_chars (chars text) ≡ true → not (ends_in_dot text) ≡ is_label text
unfolding is_label
label_of text u b a = let v : is_utf8 text ≡ true = is_utf8-from_IsUtf8 text u in rw (v, b, a) refl

pub returns-then-are_label_chars : goal.returns-then-are_label_chars
returns-then-are_label_chars c = elim c.if-begins_label.branch [
  | then-begins_label w ↦
      let begins : begins_label (chars c.args.text.now) ≡ true = sym c.begins_label.ensures ∙ w.if-begins_label.true in
      let are : are_label_chars (chars c.args.text.now) ≡ true = sym w.are_label_chars.ensures ∙ sym w.value-is ∙ c.if-are_label_chars.true in
      ap not (c.ends_in_dot.ensures ∙ ap ends_in_dot c.as_bytes.ensures.value) ∙ label_of c.args.text.now c.utf8.text begins are
  | else-begins_label w ↦ cc
]
