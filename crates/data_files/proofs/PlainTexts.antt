-- A text that is a query without groups holds none of DISTINCT, OPTIONAL and UNION, and one '{'.
use Rattle.std.specs.List.{list_all}
use Rattle.std.proofs.Common.{ℕ, zero, suc, ◌≡◌, ◌&&◌, ◌==◌, not, Bool, true, List, [], ◌∷◌, ◌++◌, append_assoc, append-nil, refl, sym, ap, subst, ◌∙◌}
use Rattle.std.proofs.lemmas.Bool.{and_parts}
use Rattle.regular_expressions.specs.Combinators.{◌·◌, maybe}
use Rattle.query_grammar.specs.declared.kind.Kind.{Kind}
use Rattle.query_grammar.specs.declared.kind.Kind.TheVariants as kinds
use Rattle.query_grammar.specs.Grammar as grammar
use Rattle.query_grammar.specs.Grammar.{code, codes, a, query, IsQuery}
use Rattle.query_grammar.specs.Groups.{ArePlain, PlainIsQuery}
use Rattle.query_grammar.proofs.GroupPlain.{both, is_query, only_query, is_fault}
use Rattle.query_words.specs.declared.word.Word.{Word}
use Rattle.query_words.specs.Words.{kind_of, kinds_of}
use Rattle.bgp_core.specs.Queries.{QueryData}
use Rattle.pattern_parser.specs.Queries.{ReadsQuery}
use Rattle.pattern_parser.proofs.Outline.{selection}
use Rattle.pattern_parser.proofs.Splits.{seq_split, one, only_all}
use Rattle.group_query.specs.Trees.{GroupData}
use Rattle.group_parser.specs.Texts.{ReadsGroups, IsPlainText, as_groups}
use Rattle.group_parser.proofs.Plain.{plain_query}

-- the letter is that of no opening brace, and of none of the three words
abbrev is_plain : ℕ → Bool
is_plain k = (not (k == 16) && not (k == 23)) && (not (k == 24) && not (k == 25))

plain_cons : (k : Kind) (most : ℕ) (ks : List Kind) → is_plain (code k) ≡ true → ArePlain most ks → ArePlain most (k ∷ ks)
plain_cons kinds.OpenBrace most ks h p = absurd cc
plain_cons kinds.DistinctWord most ks h p = absurd cc
plain_cons kinds.OptionalWord most ks h p = absurd cc
plain_cons kinds.UnionWord most ks h p = absurd cc
plain_cons _ zero ks h p = (tt, refl, p)
plain_cons _ (suc n) ks h p = (tt, p)

none_left : (most : ℕ) → ArePlain most []
none_left zero = tt
none_left (suc n) = tt

plain_before : (us vs : List Word) (most : ℕ) → list_all is_plain (codes (kinds_of us)) ≡ true → ArePlain most (kinds_of vs) → ArePlain most (kinds_of (us ++ vs))
plain_before [] vs most h p = p
plain_before (u ∷ us) vs most h p =
    let s = and_parts (is_plain (code (kind_of u.value))) (list_all is_plain (codes (kinds_of us))) h in
    plain_cons (kind_of u.value) most (kinds_of (us ++ vs)) s.0 (plain_before us vs most s.1 p)

-- tokens that the grammar of queries reads
plain_words : (ws : List Word) → IsQuery (kinds_of ws) → ArePlain 1 (kinds_of ws)
unfolding query
plain_words ws q =
    let f = seq_split (selection · a kinds.OpenBrace · maybe grammar.block) (a kinds.CloseBrace) ws q in
    let e = seq_split (selection · a kinds.OpenBrace) (maybe grammar.block) f.0 f.2 in
    let d = seq_split selection (a kinds.OpenBrace) e.0 e.2 in
    let brace = one kinds.OpenBrace d.1 d.3 in
    let last : ArePlain 0 (kinds_of (f.1 ++ [])) = plain_before f.1 [] 0 (only_all is_plain (a kinds.CloseBrace) refl (codes (kinds_of f.1)) f.3) (none_left 0) in
    let inner : ArePlain 0 (kinds_of (e.1 ++ (f.1 ++ []))) = plain_before e.1 (f.1 ++ []) 0 (only_all is_plain (maybe grammar.block) refl (codes (kinds_of e.1)) e.3) last in
    let braced : ArePlain 1 (kind_of brace.0.value ∷ kinds_of (e.1 ++ (f.1 ++ []))) = subst (λ (k : Kind). ArePlain 1 (k ∷ kinds_of (e.1 ++ (f.1 ++ [])))) (sym brace.2) inner in
    let whole : ArePlain 1 (kinds_of (d.0 ++ brace.0 ∷ (e.1 ++ (f.1 ++ [])))) = plain_before d.0 (brace.0 ∷ (e.1 ++ (f.1 ++ []))) 1 (only_all is_plain selection refl (codes (kinds_of d.0)) d.2) braced in
    let words : ws ≡ d.0 ++ brace.0 ∷ (e.1 ++ (f.1 ++ [])) =
    f.4 ∙ ap (λ (y : List Word). y ++ f.1) (e.4 ∙ ap (λ (y : List Word). y ++ e.1) (d.4 ∙ ap (λ (y : List Word). d.0 ++ y) brace.1)) ∙
    append_assoc (d.0 ++ brace.0 ∷ []) e.1 f.1 ∙ append_assoc d.0 (brace.0 ∷ []) (e.1 ++ f.1) ∙
    ap (λ (y : List Word). d.0 ++ brace.0 ∷ (e.1 ++ y)) (sym (append-nil f.1)) in
    subst (λ (l : List Word). ArePlain 1 (kinds_of l)) (sym words) whole

pub is_plain_text : (text : List ℕ) (q : QueryData) → ReadsQuery text q → IsPlainText text
is_plain_text text q r = record {
  words = r.words;
  tokens = record { short = r.reads.short; utf8 = r.reads.utf8; tokens = r.reads.tokens; are = r.reads.are; words = r.reads.words };
  plain = plain_words r.words r.reads.query;
}

plain_law : PlainIsQuery
plain_law = record {
  query = λ ks p q. is_query ks (both ks p) q;
  only = λ ks p q. only_query ks (both ks p) q;
  fault = λ ks n p f. is_fault ks n (both ks p) f;
}

-- it is read as one with groups as well
pub as_group : (text : List ℕ) (q : QueryData) → ReadsQuery text q → (g : GroupData) × ReadsGroups text g
as_group text q r = (as_groups q, plain_query plain_law text q (is_plain_text text q r) r)
