-- Between the braces of what the grammar reads stands a body of the productions, with the patterns that are read.
use Rattle.std.proofs.Common.{ℕ, ◌≡◌, List, ◌∷◌, ◌++◌, [], None, Option, refl, sym, ap, subst, ◌∙◌}
use Rattle.query_grammar.specs.declared.kind.Kind.TheVariants as kinds
use Rattle.query_grammar.specs.Grammar.{IsQuery}
use Rattle.query_words.specs.declared.word.Word.{Word}
use Rattle.query_words.specs.Words.{kinds_of}
use Rattle.pattern_parser.specs.declared.item.Item.{Item}
use Rattle.pattern_parser.specs.Triples.{Placed, triples_after}
use Rattle.pattern_parser.specs.Productions.{Body}
use Rattle.pattern_parser.specs.Queries.{body, block}
use Rattle.pattern_parser.proofs.Produced.{body_read}
use Rattle.pattern_parser.proofs.Blocks.{It, mark_read, body_of}
use Rattle.pattern_parser.proofs.Outline.{outline, block_is}

pub read_body : (iri : List ℕ → Option (List ℕ)) (names : List (List ℕ)) (ws : List Word) → IsQuery (kinds_of ws) → Body (It iri names (block (body ws))) (triples_after None None (It iri names (block (body ws))))
read_body iri names ws q =
    let l = outline ws q in
    let b = body_of iri names l.inner l.close l.inner_is l.close_is in
    let same : It iri names (block (body ws)) ≡ It iri names (l.inner ++ l.close ∷ []) = ap (It iri names) (block_is ws l) ∙ mark_read kinds.OpenBrace refl iri names l.brace (l.inner ++ l.close ∷ []) l.brace_is in
    let there : Body (It iri names (l.inner ++ l.close ∷ [])) (triples_after None None (It iri names (l.inner ++ l.close ∷ []))) = subst (λ (ts : List Placed). Body (It iri names (l.inner ++ l.close ∷ [])) ts) (body_read (It iri names (l.inner ++ l.close ∷ [])) b.0 b.1) b.1 in
    subst (λ (is : List Item). Body is (triples_after None None is)) (sym same) there
