-- A text's tokens are no more than its characters, and its prefixes are those of its PREFIX part.
use Rattle.std.proofs.Common.{ℕ, ◌≡◌, ◌+◌, ◌≤◌, Bool, true, false, if◌then◌else◌, List, [], ◌∷◌, Option, sym, ap, ◌∙◌, drop, length, arith, length-append}
use Rattle.std.proofs.lemmas.List.{length-map}
use Rattle.query_tokens.specs.declared.kind.PieceKind.{PieceKind}
use Rattle.query_tokens.specs.declared.piece.Piece.{Piece}
use Rattle.query_tokens.specs.Pieces.{is_gap, byte_place, Covers, placed, placed_one, AreTokens}
use Rattle.query_tokens.proofs.Pieces.{not_empty}
use Rattle.query_words.specs.declared.word.Word.{Word}
use Rattle.query_words.specs.Words.{word_of, words_of}
use Rattle.pattern_parser.specs.declared.fault.QueryWhy.{QueryWhy}
use Rattle.pattern_parser.specs.declared.fault.QueryWhy.TheVariants as why
use Rattle.pattern_parser.specs.Prefixes.{iri_of}
use Rattle.pattern_parser.specs.Queries.{prologue, prefixes, body, query_of, fault_with, later_fault, FaultAt, IsTokenFaultAt}

one_at_most : (cs : List ℕ) (place : ℕ) (k : PieceKind) (len : ℕ) → length (placed_one cs place k len) ≤ 1
one_at_most cs place k len = pick (is_gap k)
  where
    piece : Piece
    piece = record { kind = k; place = place; len = len; at = byte_place cs place; to = byte_place cs (place + len) }

    pick : (b : Bool) → length (if b then [] else piece ∷ []) ≤ 1
    pick true = omega arith
    pick false = omega arith

placed_few : (whole cs : List ℕ) (place n : ℕ) (ps : List (PieceKind × ℕ)) → Covers cs ps n → length (placed whole place ps) ≤ n
placed_few whole cs place n [] c = omega arith
placed_few whole cs place n (p ∷ ps) c =
    let one = one_at_most whole place p.0 p.1 in
    let more = not_empty cs p.0 p.1 c.0.0 in
    let rest = placed_few whole (drop p.1 cs) (place + p.1) c.1 ps c.3 in
    omega (arith, one, more, rest, c.2, length-append (placed_one whole place p.0 p.1) (placed whole (place + p.1) ps))

pub words_few : (cs ds : List ℕ) (ts us : List Piece) (ws : List Word) (n : ℕ) → AreTokens cs ts → us ≡ ts → ws ≡ words_of ds us → length cs ≤ n → length ws ≤ n
words_few cs ds ts us ws n t e f h =
    let few = placed_few cs cs 0 (length cs) t.pieces t.cover in
    let same : length ts ≡ length (placed cs 0 t.pieces) = ap length t.are in
    let all : length ws ≡ length us = ap length f ∙ length-map us (word_of ds) in
    let there : length us ≡ length ts = ap length e in
    omega arith

pub same_prefixes : (f : List ℕ → Option (List ℕ)) (ws pro : List Word) → ((q : List ℕ) → f q ≡ iri_of pro q) → pro ≡ prologue ws → f ≡ prefixes ws
same_prefixes f ws pro e p = λ i q. (e q ∙ ap (λ (l : List Word). iri_of l q) p) i

pub fault_at : (f : List ℕ → Option (List ℕ)) (ws bs : List Word) (o : Option (QueryWhy × ℕ)) → f ≡ prefixes ws → bs ≡ body ws → fault_with f ws bs ≡ o → later_fault ws ≡ o
fault_at f ws bs o e b t =
    ap (λ (g : List ℕ → Option (List ℕ)). fault_with g ws (body ws)) (sym e) ∙ ap (λ (l : List Word). fault_with f ws l) (sym b) ∙ t

pub query_at : (f : List ℕ → Option (List ℕ)) (ws bs : List Word) → f ≡ prefixes ws → bs ≡ body ws → query_of f bs ≡ query_of (prefixes ws) (body ws)
query_at f ws bs e b = ap (λ (l : List Word). query_of f l) b ∙ ap (λ (g : List ℕ → Option (List ℕ)). query_of g (body ws)) e

pub token_is_fault : (text : List ℕ) (w : QueryWhy) (at : ℕ) → IsTokenFaultAt text w at → FaultAt text w at
token_is_fault text why.TooLong at f = f
token_is_fault text why.Utf8 at f = f
token_is_fault text why.Token at f = f
token_is_fault text _ at f = absurd f
