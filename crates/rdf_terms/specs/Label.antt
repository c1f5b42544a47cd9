-- Labels of blank nodes (RDF 1.1 N-Quads, BLANK_NODE_LABEL after its `_:`).
use Rattle.std.specs.Prelude.{ℕ, ◌-◌, Bool, false, not, ◌==◌, ◌&&◌, ◌||◌, List, [], ◌∷◌, length, slice_index}
use Rattle.std.specs.List.{list_all}
use Rattle.std.specs.Str.{chars, is_utf8}
use Rattle.rdf_terms.specs.Iri.{is_between, is_digit}

-- PN_CHARS_BASE, by code point
abbrev pub is_base : ℕ → Bool
is_base c = is_between 65 90 c || is_between 97 122 c || is_between 0xC0 0xD6 c || is_between 0xD8 0xF6 c || is_between 0xF8 0x2FF c
    || is_between 0x370 0x37D c || is_between 0x37F 0x1FFF c || is_between 0x200C 0x200D c || is_between 0x2070 0x218F c
    || is_between 0x2C00 0x2FEF c || is_between 0x3001 0xD7FF c || is_between 0xF900 0xFDCF c || is_between 0xFDF0 0xFFFD c || is_between 0x10000 0xEFFFF c

-- PN_CHARS_U: a base character, _ or :
abbrev pub is_label_start : ℕ → Bool
is_label_start c = is_base c || (c == 95) || (c == 58)

-- PN_CHARS: a label start, -, a digit, or one of the joining characters
abbrev pub is_label_char : ℕ → Bool
is_label_char c = is_label_start c || (c == 45) || is_digit c || (c == 0xB7) || is_between 0x300 0x36F c || is_between 0x203F 0x2040 c

-- the first character is a label start or a digit
abbrev pub begins_label : List ℕ → Bool
begins_label [] = false
begins_label (c ∷ cs) = is_label_start c || is_digit c

-- each character is a label character or a dot; the first one of `begins_label` is a label character too
abbrev pub are_label_chars : List ℕ → Bool
are_label_chars cs = list_all (λ c. is_label_char c || (c == 46)) cs

-- the last byte is a dot; in UTF-8 the byte 46 stands for a dot alone
abbrev pub ends_in_dot : List ℕ → Bool
ends_in_dot bytes = slice_index bytes (length bytes - 1) == 46

-- the bytes are a label
unfoldable pub is_label : List ℕ → Bool
is_label bytes = is_utf8 bytes && begins_label (chars bytes) && are_label_chars (chars bytes) && not (ends_in_dot bytes)
