-- The parts of words that the grammar of groups reads: the PREFIX part, the SELECT part, and the group.
use Rattle.std.proofs.Common.{ℕ, zero, suc, ◌≡◌, List, [], ◌∷◌, ◌++◌, Option, refl, sym, ap, subst, ◌∙◌, append_assoc}
use Rattle.std.proofs.lemmas.List.{append-nil}
use Rattle.query_words.specs.declared.word.Word.{Word}
use Rattle.query_words.specs.Words.{kind_of, kinds_of}
use Rattle.regular_expressions.specs.Combinators.{◌·◌, maybe}
use Rattle.query_grammar.specs.declared.kind.Kind.TheVariants as kinds
use Rattle.query_grammar.specs.Grammar.{a}
use Rattle.query_grammar.specs.Groups.{inside, group_of, head, query_of, IsGroupQuery}
use Rattle.pattern_parser.specs.Queries.{is_select, is_brace, body, block}
use Rattle.pattern_parser.proofs.Splits.{Is, seq_split, one, marked}
use Rattle.pattern_parser.proofs.Outline.{prefix_part, chosen, where_word, NonePass, select_kind, brace_kind, none_of, both_none, is_select-kind, is_brace-kind, back, select_no_brace}
use Rattle.group_query.specs.Trees.{Tree}
use Rattle.group_faults.specs.declared.limits.TheConstants.{MOST_OPEN}
use Rattle.group_parser.specs.Groups.{IsGroup}
use Rattle.group_parser.proofs.Made.{IsShallow, group_made}

-- the words in their parts
pub record GroupOutline (n : ℕ) (ws : List Word) : Type 0 where
  pub front : List Word
  pub select : Word
  pub names : List Word
  pub group : List Word
  pub select_is : kind_of select.value ≡ kinds.SelectWord
  pub front_select : NonePass is_select front
  pub names_are : NonePass is_brace names
  pub group_is : Is (group_of n) group
  pub whole : ws ≡ front ++ select ∷ (names ++ group)

assoc_all : (p x b c g : List Word) (s : Word) → ((((p ++ s ∷ []) ++ x) ++ b) ++ c) ++ g ≡ p ++ s ∷ (((x ++ b) ++ c) ++ g)
assoc_all p x b c g s =
    append_assoc (((p ++ s ∷ []) ++ x) ++ b) c g ∙ append_assoc ((p ++ s ∷ []) ++ x) b (c ++ g) ∙ append_assoc (p ++ s ∷ []) x (b ++ (c ++ g)) ∙ append_assoc p (s ∷ []) (x ++ (b ++ (c ++ g))) ∙
    ap (λ (l : List Word). p ++ s ∷ l) (sym (append_assoc x b (c ++ g)) ∙ sym (append_assoc (x ++ b) c g))

pub group_outline : (n : ℕ) (ws : List Word) → Is (query_of n) ws → GroupOutline n ws
group_outline n ws q =
    let f = seq_split head (group_of n) ws q in
    let c = seq_split (prefix_part · a kinds.SelectWord · maybe (a kinds.DistinctWord) · chosen) where_word f.0 f.2 in
    let b = seq_split (prefix_part · a kinds.SelectWord · maybe (a kinds.DistinctWord)) chosen c.0 c.2 in
    let x = seq_split (prefix_part · a kinds.SelectWord) (maybe (a kinds.DistinctWord)) b.0 b.2 in
    let p = seq_split prefix_part (a kinds.SelectWord) x.0 x.2 in
    let select = one kinds.SelectWord p.1 p.3 in
    record {
      front = p.0;
      select = select.0;
      names = (x.1 ++ b.1) ++ c.1;
      group = f.1;
      select_is = select.2;
      front_select = none_of is_select kinds.SelectWord select_kind prefix_part refl p.0 p.2;
      names_are = both_none is_brace (x.1 ++ b.1) c.1 (both_none is_brace x.1 b.1 (none_of is_brace kinds.OpenBrace brace_kind (maybe (a kinds.DistinctWord)) refl x.1 x.3) (none_of is_brace kinds.OpenBrace brace_kind chosen refl b.1 b.3)) (none_of is_brace kinds.OpenBrace brace_kind where_word refl c.1 c.3);
      group_is = f.3;
      whole =
          f.4 ∙
          ap (λ (y : List Word). y ++ f.1) (c.4 ∙ ap (λ (y : List Word). y ++ c.1) (b.4 ∙ ap (λ (y : List Word). y ++ b.1) (x.4 ∙ ap (λ (y : List Word). y ++ x.1) (p.4 ∙ ap (λ (y : List Word). p.0 ++ y) select.1)))) ∙
          assoc_all p.0 x.1 b.1 c.1 f.1 select.0;
    }

-- a group begins with its brace
begins_brace : (n : ℕ) (ws : List Word) → Is (group_of n) ws → (o : Word) × (us : List Word) × (ws ≡ o ∷ us) × (kind_of o.value ≡ kinds.OpenBrace)
unfolding group_of
begins_brace zero ws m = absurd m
begins_brace (suc n) ws m =
    let c = seq_split (a kinds.OpenBrace · inside (group_of n)) (a kinds.CloseBrace) ws m in
    let o = marked kinds.OpenBrace (inside (group_of n)) c.0 c.2 in
    (o.0, o.1 ++ c.1, c.4 ∙ ap (λ (l : List Word). l ++ c.1) o.2, o.3)

pub block_is : (n : ℕ) (ws : List Word) (l : GroupOutline n ws) → block (body ws) ≡ l.group
block_is n ws l =
    let b = begins_brace n l.group l.group_is in
    let tail = l.names ++ l.group in
    let body_is : body ws ≡ l.select ∷ tail = ap body l.whole ∙ back is_select l.front l.select tail l.front_select (is_select-kind l.select.value l.select_is) in
    let braced : l.select ∷ tail ≡ (l.select ∷ l.names) ++ b.0 ∷ b.1 = ap (λ (y : List Word). l.select ∷ (l.names ++ y)) b.2 in
    ap block (body_is ∙ braced) ∙ back is_brace (l.select ∷ l.names) b.0 b.1 (select_no_brace l.select.value l.select_is, l.names_are) (is_brace-kind b.0.value b.3) ∙ sym b.2

-- the words from the first brace on are a group
pub is_made : (iri : List ℕ → Option (List ℕ)) (names : List (List ℕ)) (ws : List Word) → IsGroupQuery (kinds_of ws) → IsShallow 0 (block (body ws)) → (t : Tree) × (names' : List (List ℕ)) × IsGroup iri MOST_OPEN names (block (body ws)) t names'
is_made iri names ws q s =
    let l = group_outline q.0 ws q.1 in
    let same = block_is q.0 ws l in
    let flat : IsShallow 0 (l.group ++ []) = subst (IsShallow 0) (same ∙ sym (append-nil l.group)) s in
    let m = group_made q.0 iri 0 MOST_OPEN refl names l.group [] l.group_is flat in
    (m.0, m.1, subst (λ (y : List Word). IsGroup iri MOST_OPEN names y m.0 m.1) (sym same) m.2)
