-- Words in which - stands for the value of an option are refused.
use Rattle.std.proofs.Common.{◌≡◌, ◌∙◌, sym, ap, subst, refl, cond, codes, ◌&&◌, ◌||◌, Bool, true, false, not, List, [], ◌∷◌, map, Option, Some, None, is_some}
use Rattle.std.specs.Option.{option_map}
use Rattle.std.specs.String.{string_bytes}
use Rattle.std.specs.Str.{bytes_eq}
use Rattle.std.specs.declared.string.String.{String}
use Rattle.std.proofs.lemmas.Str.{IsUtf8-string_bytes}
use Rattle.list_laws.proofs.Tests.{and_second}
use Rattle.command_words.specs.Words.{Form, Text, Kind, ends, option, refused, plain, arguments, begins_with_dash, given_by, is_among, kind_met, kind_of, values_of, with_value}
use Rattle.command_words.specs.Apps.{asks, has_lone_dash}
use Rattle.command_words.proofs.Whole.{AreTexts, no_dash_plain}
use Rattle.command_words.proofs.WordKinds.{Seen, seen}

or_second : (p q : Bool) → p ≡ false → (p || q) ≡ true → q ≡ true
or_second true q f e = absurd (cc)
or_second false q f e = e

-- what holds of the words that follow
abbrev Refuses : Form → List Text → Type 0
Refuses form words = (names : List Text) (waiting : Option Text) → has_lone_dash form.options (is_some waiting) words ≡ true → given_by form words names waiting ≡ None

lone_free : (form : Form) (word : Text) (words names : List Text) → Refuses form words → (k : Kind) → Seen word k → (not (bytes_eq word (codes "--")) && has_lone_dash form.options (asks form.options k) words) ≡ true → kind_met form k word words names (given_by form words) ≡ None
lone_free form word words names more ends s e = let off : (not (bytes_eq (codes "--") (codes "--")) && has_lone_dash form.options false words) ≡ true = subst (λ (w : Text). (not (bytes_eq w (codes "--")) && has_lone_dash form.options false words) ≡ true) s e in absurd (cc)
lone_free form word words names more (option name (Some v)) s e = go (is_among name form.options) (more names None (and_second (not (bytes_eq word (codes "--"))) (has_lone_dash form.options false words) e))
  where
    go : (b : Bool) → given_by form words names None ≡ None → cond b (with_value name v (given_by form words names None)) None ≡ None
    go true none = ap (with_value name v) none
    go false none = refl
lone_free form word words names more (option name None) s e = by_option (is_among name form.options) (and_second (not (bytes_eq word (codes "--"))) (has_lone_dash form.options (is_among name form.options) words) e)
  where
    by_flag : (b : Bool) → given_by form words names None ≡ None → cond b (with_value name (codes "true") (given_by form words names None)) None ≡ None
    by_flag true none = ap (with_value name (codes "true")) none
    by_flag false none = refl

    by_option : (b : Bool) → has_lone_dash form.options b words ≡ true → cond b (given_by form words names (Some name)) (cond (is_among name form.flags) (with_value name (codes "true") (given_by form words names None)) None) ≡ None
    by_option true h = more names (Some name) h
    by_option false h = by_flag (is_among name form.flags) (more names None h)
lone_free form word words names more refused s e = refl
lone_free form word words [] more plain s e = refl
lone_free form word words (n ∷ names) more plain s e = ap (with_value n word) (more names None (and_second (not (bytes_eq word (codes "--"))) (has_lone_dash form.options false words) e))

no_dash : (word : Text) → begins_with_dash word ≡ false → bytes_eq word (codes "-") ≡ false
no_dash [] e = refl
no_dash (b ∷ rest) e = rw e refl

lone_asked : (form : Form) (word : Text) (words names : List Text) (name : Text) → Refuses form words → has_lone_dash form.options true (word ∷ words) ≡ true → cond (begins_with_dash word) None (with_value name word (given_by form words names None)) ≡ None
unfolding has_lone_dash
lone_asked form word words names name more e = go (begins_with_dash word) refl
  where
    go : (b : Bool) → begins_with_dash word ≡ b → cond b None (with_value name word (given_by form words names None)) ≡ None
    go true t = refl
    go false f =
        let later = and_second (not (bytes_eq word (codes "--"))) (has_lone_dash form.options (asks form.options (kind_of word)) words) (or_second (bytes_eq word (codes "-")) (not (bytes_eq word (codes "--")) && has_lone_dash form.options (asks form.options (kind_of word)) words) (no_dash word f) e) in
        ap (with_value name word) (more names None (sym (ap (λ (k : Kind). has_lone_dash form.options (asks form.options k) words) (no_dash_plain word f)) ∙ later))

lone_refused : (form : Form) (words : List Text) → Refuses form words
unfolding has_lone_dash given_by
lone_refused form [] names waiting e = absurd (cc)
lone_refused form (word ∷ words) names None e = lone_free form word words names (lone_refused form words) (kind_of word) (seen word) e
lone_refused form (word ∷ words) names (Some name) e = lone_asked form word words names name (lone_refused form words) e

pub lone_dash_refused : (form : Form) (words : List Text) → has_lone_dash form.options false words ≡ true → arguments form words ≡ None
lone_dash_refused form words e = ap (option_map (values_of form)) (lone_refused form words form.positionals None e)

pub are_texts : {Z : Type 0} (words : List (String Z)) → AreTexts (map string_bytes words)
are_texts [] = tt
are_texts (word ∷ words) = (IsUtf8-string_bytes word, are_texts words)
