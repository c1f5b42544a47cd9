-- What the words of a text hold by the forms of their tokens.
use Rattle.std.proofs.Common.{ℕ, ◌≡◌, ◌+◌, Bool, true, false, if◌then◌else◌, List, [], ◌∷◌, ◌++◌, codes, take, drop, length, refl, sym, ap, subst, ◌∙◌}
use Rattle.std.proofs.lemmas.List.{drop-drop, map-append}
use Rattle.std.specs.List.{list_all}
use Rattle.std.specs.Str.{bytes_eq}
use Rattle.rdf_terms.specs.Iri.{is_iri_byte}
use Rattle.rdf_terms.specs.Tag.{is_tag}
use Rattle.query_tokens.specs.declared.kind.PieceKind.{PieceKind}
use Rattle.query_tokens.specs.declared.kind.PieceKind.TheVariants as pieces
use Rattle.query_tokens.specs.declared.piece.Piece.{Piece}
use Rattle.query_tokens.specs.Forms.{IsToken}
use Rattle.query_tokens.specs.Escapes.{IsPiece}
use Rattle.query_tokens.specs.Pieces.{is_gap, byte_place, Covers, placed, placed_one, AreTokens}
use Rattle.query_words.specs.declared.word.Value.{Value}
use Rattle.query_words.specs.declared.word.Value.TheVariants as values
use Rattle.query_words.specs.declared.word.Word.{Word}
use Rattle.query_words.specs.Texts.{same_word}
use Rattle.query_words.specs.Words.{word_value, value_of, word_of, words_of}
use Rattle.definition_laws.proofs.TokenTexts.{local_iri, tag_is}

-- a local part holds only what an IRI may hold, and a tag is one
abbrev pub Good : Value → Type 0
Good (values.Prefixed n l) = list_all is_iri_byte l ≡ true
Good (values.Tag t) = is_tag t ≡ true
Good _ = Unit {0}

abbrev pub AllGood : List Word → Type 0
AllGood [] = Unit {0}
AllGood (w ∷ ws) = Good w.value × AllGood ws

good_word : (cs : List ℕ) → Good (word_value cs)
unfolding word_value
good_word cs = pick (same_word (codes "prefix") cs) (same_word (codes "select") cs) (same_word (codes "where") cs) (same_word (codes "true") cs) (same_word (codes "false") cs) (bytes_eq cs (codes "a")) (same_word (codes "distinct") cs) (same_word (codes "optional") cs) (same_word (codes "union") cs)
  where
    pick : (p s w t f a d o u : Bool) → Good (if p then values.PrefixWord else (if s then values.SelectWord else (if w then values.WhereWord else (if t then values.True else (if f then values.False else (if a then values.TypeWord else (if d then values.DistinctWord else (if o then values.OptionalWord else (if u then values.UnionWord else values.OtherWord)))))))))
    pick true s w t f a d o u = tt
    pick false true w t f a d o u = tt
    pick false false true t f a d o u = tt
    pick false false false true f a d o u = tt
    pick false false false false true a d o u = tt
    pick false false false false false true d o u = tt
    pick false false false false false false true o u = tt
    pick false false false false false false false true u = tt
    pick false false false false false false false false true = tt
    pick false false false false false false false false false = tt

good_value : (k : PieceKind) (cs : List ℕ) → IsToken k cs → Good (value_of k cs)
unfolding value_of
good_value pieces.Prefixed cs m = local_iri cs m
good_value pieces.Tag cs m = tag_is cs m
good_value pieces.Word cs m = good_word cs
good_value _ cs m = tt

good_both : (xs ys : List Word) → AllGood xs → AllGood ys → AllGood (xs ++ ys)
good_both [] ys a b = b
good_both (x ∷ xs) ys a b = (a.0, good_both xs ys a.1 b)

good_one : (whole cs : List ℕ) (place : ℕ) (k : PieceKind) (len : ℕ) → drop place whole ≡ cs → IsPiece cs k len → AllGood (words_of whole (placed_one whole place k len))
good_one whole cs place k len e p = pick (is_gap k)
  where
    piece : Piece
    piece = record { kind = k; place = place; len = len; at = byte_place whole place; to = byte_place whole (place + len) }

    pick : (b : Bool) → AllGood (words_of whole (if b then [] else piece ∷ []))
    pick true = tt
    pick false = (subst (λ (l : List ℕ). Good (value_of k (take len l))) (sym e) (good_value k (take len cs) p.0.is), tt)

good_placed : (whole cs : List ℕ) (place n : ℕ) (ps : List (PieceKind × ℕ)) → drop place whole ≡ cs → Covers cs ps n → AllGood (words_of whole (placed whole place ps))
good_placed whole cs place n [] e c = tt
good_placed whole cs place n (p ∷ ps) e c =
    let one = placed_one whole place p.0 p.1 in
    let more = placed whole (place + p.1) ps in
    let next : drop (place + p.1) whole ≡ drop p.1 cs = sym (drop-drop p.1 place whole) ∙ ap (drop p.1) e in
    subst AllGood (sym (map-append (word_of whole) one more)) (good_both (words_of whole one) (words_of whole more) (good_one whole cs place p.0 p.1 e c.0) (good_placed whole (drop p.1 cs) (place + p.1) c.1 ps next c.3))

-- the words of a text are good
pub words_good : (cs : List ℕ) (ts : List Piece) → AreTokens cs ts → AllGood (words_of cs ts)
words_good cs ts t = subst (λ (l : List Piece). AllGood (words_of cs l)) (sym t.are) (good_placed cs cs 0 (length cs) t.pieces refl t.cover)
