-- The machine inside a token does what the forms of the tokens say: what is left of the forms after a state and a class is what is left at the next state.
use Rattle.std.proofs.Common.{ℕ, zero, suc, ◌+◌, ◌≡◌, Bool, true, false, ◌&&◌, nat_eq, List, [], ◌∷◌, Option, Some, None, refl, sym, ap, ◌∙◌, map, get_or, arith, ◌<◌, lit<}
use Rattle.std.specs.Str.{bytes_eq}
use Rattle.std.proofs.lemmas.Slice.Eq.{bytes_eq-Decides}
use Rattle.std.proofs.lemmas.Bool.{and_parts}
use Rattle.regular_expressions.specs.Regular.{Regular, nothing, nil, one_of, seq, alt, many, left, lefts, nullable}
use Rattle.query_tokens.specs.declared.class.Class.{Class}
use Rattle.query_tokens.specs.declared.class.Class.TheVariants as classes
use Rattle.query_tokens.specs.declared.kind.PieceKind.{PieceKind}
use Rattle.query_tokens.specs.declared.kind.PieceKind.TheVariants as kinds
use Rattle.query_tokens.specs.declared.machine.State.{State}
use Rattle.query_tokens.specs.declared.machine.State.TheVariants.{Start, White, Comment, IriItems, Quoted, Apostrophed, OpenBrace, CloseBrace, Caret, VariableMark, Underscore, Prefix, Dot, Semicolon, Comma, Star, OpenBracket, At, Sign, Digits, Word, Name, Iri, IriEscape, Str, QuotedEscape, ApostrophedEscape, Carets, Variable, LabelStart, LocalFirstEscape, Local, LocalFirstPercent, Fraction, Anonymous, Tag, SignDot, DigitsDot, Exponent, NameDots, Label, LocalEscape, LocalDots, LocalPercent, LocalFirstPercentHex, TagMinus, ExponentSign, ExponentDigits, LabelDots, LocalPercentHex, TagMore}
use Rattle.query_tokens.specs.Machine.{next, kind_at}
use Rattle.query_tokens.specs.Sets.{code, all_classes}
use Rattle.query_tokens.specs.Forms.{form}

-- ---- a test of equality

abbrev same : Regular → Regular → Bool
same nothing nothing = true
same nil nil = true
same (one_of js) (one_of ks) = bytes_eq js ks
same (seq a b) (seq c d) = same a c && same b d
same (alt a b) (alt c d) = same a c && same b d
same (many a) (many b) = same a b
same _ _ = false

same-is : (r s : Regular) → same r s ≡ true → r ≡ s
same-is nothing nothing e = refl
same-is nil nil e = refl
same-is (one_of js) (one_of ks) e = ap one_of ((bytes_eq-Decides js ks).0 e)
same-is (seq a b) (seq c d) e = let p = and_parts (same a c) (same b d) e in ap (λ (r : Regular). seq r b) (same-is a c p.0) ∙ ap (seq c) (same-is b d p.1)
same-is (alt a b) (alt c d) e = let p = and_parts (same a c) (same b d) e in ap (λ (r : Regular). alt r b) (same-is a c p.0) ∙ ap (alt c) (same-is b d p.1)
same-is (many a) (many b) e = ap many (same-is a b e)
same-is _ _ e = cc

-- ---- what holds of all classes holds of each

abbrev all_true : List Bool → Bool
all_true [] = true
all_true (b ∷ bs) = b && all_true bs

at-true : (bs : List Bool) (i : ℕ) → all_true bs ≡ true → get_or bs i true ≡ true
at-true [] i e = refl
at-true (b ∷ bs) zero e = (and_parts b (all_true bs) e).0
at-true (b ∷ bs) (suc i) e = at-true bs i (and_parts b (all_true bs) e).1

class_at : (f : Class → Bool) (k : Class) → get_or (map f all_classes) (code k) true ≡ f k
class_at f classes.Space = refl
class_at f _ = refl

each_class : (f : Class → Bool) → all_true (map f all_classes) ≡ true → (k : Class) → f k ≡ true
each_class f e k = sym (class_at f k) ∙ at-true (map f all_classes) (code k) e

-- ---- a letter for the end of a piece of each kind

abbrev pub place : PieceKind → ℕ
place kinds.White = 0
place kinds.Comment = 1
place kinds.Iri = 2
place kinds.Prefix = 3
place kinds.Prefixed = 4
place kinds.Variable = 5
place kinds.Blank = 6
place kinds.Anonymous = 7
place kinds.Str = 8
place kinds.Tag = 9
place kinds.Integer = 10
place kinds.Decimal = 11
place kinds.Double = 12
place kinds.Word = 13
place kinds.OpenBrace = 14
place kinds.CloseBrace = 15
place kinds.Dot = 16
place kinds.Semicolon = 17
place kinds.Comma = 18
place kinds.Star = 19
place kinds.Carets = 20

abbrev pub mark : PieceKind → ℕ
mark k = 100 + place k

abbrev pub all_kinds : List PieceKind
all_kinds = kinds.White ∷ kinds.Comment ∷ kinds.Iri ∷ kinds.Prefix ∷ kinds.Prefixed ∷ kinds.Variable ∷ kinds.Blank ∷ kinds.Anonymous ∷ kinds.Str ∷ kinds.Tag ∷ kinds.Integer ∷ kinds.Decimal ∷ kinds.Double ∷ kinds.Word ∷ kinds.OpenBrace ∷ kinds.CloseBrace ∷ kinds.Dot ∷ kinds.Semicolon ∷ kinds.Comma ∷ kinds.Star ∷ kinds.Carets ∷ []

kind_is : (f : PieceKind → Bool) (k : PieceKind) → get_or (map f all_kinds) (place k) true ≡ f k
kind_is f kinds.White = refl
kind_is f _ = refl

each_kind : (f : PieceKind → Bool) → all_true (map f all_kinds) ≡ true → (k : PieceKind) → f k ≡ true
each_kind f e k = sym (kind_is f k) ∙ at-true (map f all_kinds) (place k) e

abbrev pub any_of : List PieceKind → Regular
any_of [] = nothing
any_of (k ∷ ks) = alt (seq (form k) (one_of (mark k ∷ []))) (any_of ks)

-- a piece and the letter of its kind
unfoldable pub token : Regular
token = any_of all_kinds

abbrev path_to : State → List Class
path_to Start = []
path_to White = classes.Space ∷ []
path_to Comment = classes.Hash ∷ []
path_to IriItems = classes.Less ∷ []
path_to Quoted = classes.Quote ∷ []
path_to Apostrophed = classes.Apostrophe ∷ []
path_to OpenBrace = classes.OpenBrace ∷ []
path_to CloseBrace = classes.CloseBrace ∷ []
path_to Caret = classes.Caret ∷ []
path_to VariableMark = classes.VariableMark ∷ []
path_to Underscore = classes.Underscore ∷ []
path_to Prefix = classes.Colon ∷ []
path_to Dot = classes.Dot ∷ []
path_to Semicolon = classes.Semicolon ∷ []
path_to Comma = classes.Comma ∷ []
path_to Star = classes.Star ∷ []
path_to OpenBracket = classes.OpenBracket ∷ []
path_to At = classes.At ∷ []
path_to Sign = classes.Plus ∷ []
path_to Digits = classes.Digit ∷ []
path_to Word = classes.LetterE ∷ []
path_to Name = classes.Base ∷ []
path_to Iri = classes.Less ∷ classes.Greater ∷ []
path_to IriEscape = classes.Less ∷ classes.Backslash ∷ []
path_to Str = classes.Quote ∷ classes.Quote ∷ []
path_to QuotedEscape = classes.Quote ∷ classes.Backslash ∷ []
path_to ApostrophedEscape = classes.Apostrophe ∷ classes.Backslash ∷ []
path_to Carets = classes.Caret ∷ classes.Caret ∷ []
path_to Variable = classes.VariableMark ∷ classes.Underscore ∷ []
path_to LabelStart = classes.Underscore ∷ classes.Colon ∷ []
path_to LocalFirstEscape = classes.Colon ∷ classes.Backslash ∷ []
path_to Local = classes.Colon ∷ classes.Underscore ∷ []
path_to LocalFirstPercent = classes.Colon ∷ classes.Percent ∷ []
path_to Fraction = classes.Dot ∷ classes.Digit ∷ []
path_to Anonymous = classes.OpenBracket ∷ classes.CloseBracket ∷ []
path_to Tag = classes.At ∷ classes.LetterE ∷ []
path_to SignDot = classes.Plus ∷ classes.Dot ∷ []
path_to DigitsDot = classes.Digit ∷ classes.Dot ∷ []
path_to Exponent = classes.Digit ∷ classes.LetterE ∷ []
path_to NameDots = classes.LetterE ∷ classes.Dot ∷ []
path_to Label = classes.Underscore ∷ classes.Colon ∷ classes.Underscore ∷ []
path_to LocalEscape = classes.Colon ∷ classes.Underscore ∷ classes.Backslash ∷ []
path_to LocalDots = classes.Colon ∷ classes.Underscore ∷ classes.Dot ∷ []
path_to LocalPercent = classes.Colon ∷ classes.Underscore ∷ classes.Percent ∷ []
path_to LocalFirstPercentHex = classes.Colon ∷ classes.Percent ∷ classes.Digit ∷ []
path_to TagMinus = classes.At ∷ classes.LetterE ∷ classes.Minus ∷ []
path_to ExponentSign = classes.Digit ∷ classes.LetterE ∷ classes.Plus ∷ []
path_to ExponentDigits = classes.Digit ∷ classes.LetterE ∷ classes.Digit ∷ []
path_to LabelDots = classes.Underscore ∷ classes.Colon ∷ classes.Underscore ∷ classes.Dot ∷ []
path_to LocalPercentHex = classes.Colon ∷ classes.Underscore ∷ classes.Percent ∷ classes.Digit ∷ []
path_to TagMore = classes.At ∷ classes.LetterE ∷ classes.Minus ∷ classes.Digit ∷ []

-- what is left of a piece at a state
unfoldable pub rest_of : State → Regular
rest_of s = lefts token (map code (path_to s))

abbrev pub rest_after : Option State → Regular
rest_after None = nothing
rest_after (Some s) = rest_of s

-- ---- every step of the machine is right

abbrev steps : State → Bool
steps s = all_true (map (λ k. same (left (rest_of s) (code k)) (rest_after (next s k))) all_classes)

abbrev pub same_kind : Option PieceKind → PieceKind → Bool
same_kind None k = false
same_kind (Some j) k = nat_eq (place j) (place k)

abbrev same_bool : Bool → Bool → Bool
same_bool true b = b
same_bool false true = false
same_bool false false = true

same_bool-is : (a b : Bool) → same_bool a b ≡ true → a ≡ b
same_bool-is true b e = sym e
same_bool-is false true e = cc
same_bool-is false false e = refl

abbrev ends_right : State → Bool
ends_right s = all_true (map (λ k. same_bool (nullable (left (rest_of s) (mark k))) (same_kind (kind_at s) k)) all_kinds)

right : (s : State) → (steps s ≡ true) × (ends_right s ≡ true)
unfolding token form rest_of
right Start = (refl, refl)
right _ = (refl, refl)

pub follows : (s : State) (k : Class) → left (rest_of s) (code k) ≡ rest_after (next s k)
follows s k = same-is (left (rest_of s) (code k)) (rest_after (next s k)) (each_class (λ c. same (left (rest_of s) (code c)) (rest_after (next s c))) (right s).0 k)

pub ends : (s : State) (k : PieceKind) → nullable (left (rest_of s) (mark k)) ≡ same_kind (kind_at s) k
ends s k = same_bool-is (nullable (left (rest_of s) (mark k))) (same_kind (kind_at s) k) (each_kind (λ j. same_bool (nullable (left (rest_of s) (mark j))) (same_kind (kind_at s) j)) (right s).1 k)

pub starts : rest_of Start ≡ token
unfolding rest_of
starts = refl

-- ---- kinds by their places

abbrev kind_of : ℕ → PieceKind
kind_of n = get_or all_kinds n kinds.White

kind_of-place : (k : PieceKind) → kind_of (place k) ≡ k
kind_of-place kinds.White = refl
kind_of-place _ = refl

pub one_place : (j k : PieceKind) → place j ≡ place k → j ≡ k
one_place j k e = sym (kind_of-place j) ∙ ap kind_of e ∙ kind_of-place k

pub same_kind-is : (o : Option PieceKind) (k : PieceKind) → same_kind o k ≡ true → o ≡ Some k
same_kind-is None k e = cc
same_kind-is (Some j) k e = let p : place j ≡ place k = grind (arith, e) in ap (λ (i : PieceKind). let r : Option PieceKind = Some i in r) (one_place j k p)

pub is-same_kind : (k : PieceKind) → same_kind (Some k) k ≡ true
is-same_kind = each_kind (λ k. same_kind (Some k) k) refl

pub place_below : (k : PieceKind) → place k < 21
place_below kinds.White = lit< tt
place_below _ = lit< tt

pub at_place : (k : PieceKind) → get_or all_kinds (place k) k ≡ k
at_place kinds.White = refl
at_place _ = refl
