-- Tags are ASCII.
use Rattle.std.proofs.Common.{ℕ, ◌≡◌, ◌<◌, Bool, if◌then◌else◌, true, false, ◌&&◌, List, [], ◌∷◌, nat_eq, refl, sym, ◌∙◌, arith}
use Rattle.std.specs.List.{list_all}
use Rattle.std.specs.Str.{IsUtf8, is_utf8}
use Rattle.std.proofs.lemmas.Str.{IsUtf8-nil, IsUtf8-append, is_utf8-from_IsUtf8}
use Rattle.std.proofs.lemmas.Bool.{and_parts}
use Rattle.rdf_terms.specs.Tag.{is_tag, runs_tag, may_stand}
use Rattle.rdf_terms.proofs.Tags.{runs_is_tag}
use Rattle.nquads_text.specs.Scan.{is_tag_byte}
use Rattle.nquads_text.proofs.Utf8.{one_ascii}

hyphen_byte : (b : ℕ) → nat_eq b 45 ≡ true → is_tag_byte b ≡ true
hyphen_byte b h = grind (arith, h)

stand_byte : (f : Bool) (b : ℕ) → may_stand f b ≡ true → is_tag_byte b ≡ true
stand_byte true b h = grind (arith, h)
stand_byte false b h = grind (arith, h)

tag_by : (hyphen f h : Bool) (b : ℕ) (bs : List ℕ) → nat_eq b 45 ≡ hyphen → (runs_tag false false bs ≡ true → list_all is_tag_byte bs ≡ true) → (runs_tag f true bs ≡ true → list_all is_tag_byte bs ≡ true)
    → (if hyphen then h && runs_tag false false bs else (may_stand f b && runs_tag f true bs)) ≡ true → (is_tag_byte b && list_all is_tag_byte bs) ≡ true
tag_by true f h b bs k one more g = let p = and_parts h (runs_tag false false bs) g in rw (hyphen_byte b k, one p.1) refl
tag_by false f h b bs k one more g = let p = and_parts (may_stand f b) (runs_tag f true bs) g in rw (stand_byte f b p.0, more p.1) refl

all_tag : (f h : Bool) (bs : List ℕ) → runs_tag f h bs ≡ true → list_all is_tag_byte bs ≡ true
all_tag f h [] e = refl
all_tag f h (b ∷ bs) e = tag_by (nat_eq b 45) f h b bs refl (all_tag false false bs) (all_tag f true bs) e

pub tag_bytes : (tag : List ℕ) → is_tag tag ≡ true → list_all is_tag_byte tag ≡ true
tag_bytes tag h = all_tag true false tag (runs_is_tag tag ∙ h)

tag_low : (b : ℕ) → is_tag_byte b ≡ true → b < 128
tag_low b h = grind (arith, h)

ascii_text : (tag : List ℕ) → list_all is_tag_byte tag ≡ true → IsUtf8 tag
ascii_text [] h = IsUtf8-nil
ascii_text (b ∷ tag) h = let p = and_parts (is_tag_byte b) (list_all is_tag_byte tag) h in IsUtf8-append (b ∷ []) tag (one_ascii b (tag_low b p.0)) (ascii_text tag p.1)

pub tag_text : (tag : List ℕ) → is_tag tag ≡ true → IsUtf8 tag
tag_text tag h = ascii_text tag (tag_bytes tag h)

text_by : (bytes : List ℕ) (k : Bool) → is_tag bytes ≡ k → is_utf8 bytes ≡ false → is_tag bytes ≡ false
text_by bytes true e h = no (sym (is_utf8-from_IsUtf8 bytes (tag_text bytes e)) ∙ h)
  where
    no : true ≡ false → is_tag bytes ≡ false
    no e = cc
text_by bytes false e h = e

-- bytes that are no text are no tag
pub only_text : (bytes : List ℕ) → is_utf8 bytes ≡ false → is_tag bytes ≡ false
only_text bytes h = text_by bytes (is_tag bytes) refl h
