-- What each character is to the tokens.
use Rattle.std.specs.Prelude.{ℕ, Bool, ◌==◌, ◌&&◌, ◌||◌, nat_le, if◌then◌else◌}
use Rattle.query_tokens.specs.declared.class.Class.{Class}
use Rattle.query_tokens.specs.declared.class.Class.TheVariants.{Space, LineEnd, Hash, Less, Greater, Quote, Apostrophe, Backslash, OpenBrace, CloseBrace, Caret, Unsafe, VariableMark, Underscore, Colon, Dot, Semicolon, Comma, Star, OpenBracket, CloseBracket, At, Plus, Minus, Percent, Escaped, Digit, LetterE, Hex, Letter, Base, Extending, Other}

-- from low to high, both within
abbrev pub is_between : ℕ → ℕ → ℕ → Bool
is_between low c high = nat_le low c && nat_le c high

-- the characters of PN_CHARS_BASE [164] past ASCII
abbrev pub is_wide_base : ℕ → Bool
is_wide_base c = is_between 0xC0 c 0xD6 || is_between 0xD8 c 0xF6 || is_between 0xF8 c 0x2FF || is_between 0x370 c 0x37D || is_between 0x37F c 0x1FFF || is_between 0x200C c 0x200D || is_between 0x2070 c 0x218F || is_between 0x2C00 c 0x2FEF || is_between 0x3001 c 0xD7FF || is_between 0xF900 c 0xFDCF || is_between 0xFDF0 c 0xFFFD || is_between 0x10000 c 0xEFFFF

-- the characters of PN_CHARS [167] past ASCII that PN_CHARS_BASE has not
abbrev pub is_extending : ℕ → Bool
is_extending c = (c == 0xB7) || is_between 0x300 c 0x36F || is_between 0x203F c 0x2040

-- the class of a character past ASCII
abbrev pub wide_class : ℕ → Class
wide_class c = if is_wide_base c then Base else (if is_extending c then Extending else Other)

-- the class of an ASCII letter
unfoldable pub letter_class : ℕ → Class
letter_class c = if (c == 101) || (c == 69) then LetterE else (if is_between 97 c 102 || is_between 65 c 70 then Hex else Letter)

-- the class of an ASCII character that is neither letter nor digit
unfoldable pub mark_class : ℕ → Class
mark_class c = if (c == 32) || (c == 9) then Space else (if (c == 10) || (c == 13) then LineEnd else (if (c == 35) then Hash else (if (c == 60) then Less else (if (c == 62) then Greater else (if (c == 34) then Quote else (if (c == 39) then Apostrophe else (if (c == 92) then Backslash else (if (c == 123) then OpenBrace else (if (c == 125) then CloseBrace else (if (c == 94) then Caret else (if (c == 63) || (c == 36) then VariableMark else (if (c == 95) then Underscore else (if (c == 58) then Colon else (if (c == 46) then Dot else (if (c == 59) then Semicolon else (if (c == 44) then Comma else (if (c == 42) then Star else (if (c == 91) then OpenBracket else (if (c == 93) then CloseBracket else (if (c == 64) then At else (if (c == 43) then Plus else (if (c == 45) then Minus else (if (c == 37) then Percent else (if (c == 126) || (c == 33) || (c == 38) || (c == 40) || (c == 41) || (c == 47) || (c == 61) then Escaped else (if nat_le c 31 || (c == 124) || (c == 96) then Unsafe else Other)))))))))))))))))))))))))

-- A to Z, a to z
abbrev pub is_letter : ℕ → Bool
is_letter c = is_between 65 c 90 || is_between 97 c 122

-- 0 to 9
abbrev pub is_digit : ℕ → Bool
is_digit c = is_between 48 c 57

-- the class of a character
unfoldable pub class_of : ℕ → Class
class_of c = if is_letter c then letter_class c else (if is_digit c then Digit else (if nat_le 128 c then wide_class c else mark_class c))
