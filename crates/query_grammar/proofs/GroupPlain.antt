-- Without a group inside the group the two machines stand at the same places, so both grammars read the same tokens and have the same fault.
use Rattle.std.proofs.Common.{ℕ, zero, suc, ◌≡◌, ◌+◌, ◌<◌, ◌≤◌, ◌⊎◌, inl, inr, Bool, true, false, List, [], ◌∷◌, Option, Some, None, refl, sym, ap, subst, ◌∙◌, length, drop, get_or, arith}
use Rattle.std.specs.Prelude.{option_map, not}
use Rattle.std.proofs.lemmas.List.{drop_more}
use Rattle.query_grammar.specs.declared.kind.Kind.{Kind}
use Rattle.query_grammar.specs.declared.kind.Kind.TheVariants as kinds
use Rattle.query_grammar.specs.declared.machine.State.{State}
use Rattle.query_grammar.specs.declared.machine.State.TheVariants as states
use Rattle.query_grammar.specs.declared.group_machine.Place.{Place}
use Rattle.query_grammar.specs.declared.group_machine.Place.TheVariants.{Within}
use Rattle.query_grammar.specs.Grammar.{IsQuery, IsGrammarFault}
use Rattle.query_grammar.specs.Steps as plain
use Rattle.query_grammar.specs.Groups.{IsGroupQuery, IsGroupFault, IsPlainKind, opens, ArePlain}
use Rattle.query_grammar.specs.GroupSteps.{Reading, step, is_end}
use Rattle.query_grammar.proofs.Faults as old
use Rattle.query_grammar.proofs.Follows.{starts}
use Rattle.query_grammar.proofs.GroupFollows.{in_group}
use Rattle.query_grammar.proofs.GroupFaults as new

-- the reader of groups at a state: in the group, or before it or behind it
abbrev around_of : Bool → List Place
around_of true = Within states.AtEnd ∷ []
around_of false = []

abbrev reading : State → Reading
reading s = record { place = Within s; around = around_of (in_group (Within s)) }

-- a token that opens no group
plain_alike : (s : State) (k : Kind) → IsPlainKind k → opens k ≡ 0 → step (reading s) k ≡ option_map reading (plain.next s k)
plain_alike s kinds.DistinctWord p o = absurd p
plain_alike s kinds.OptionalWord p o = absurd p
plain_alike s kinds.UnionWord p o = absurd p
plain_alike s kinds.OpenBrace p o = cc
plain_alike states.Start kinds.Iri p o = refl
plain_alike states.Start _ p o = refl
plain_alike _ kinds.Iri p o = refl
plain_alike _ _ p o = refl

-- the brace
open_alike : (s : State) → in_group (Within s) ≡ false → step (reading s) kinds.OpenBrace ≡ option_map reading (plain.next s kinds.OpenBrace)
open_alike states.Start e = refl
open_alike states.AfterPrefixWord e = refl
open_alike states.AfterPrefix e = refl
open_alike states.AfterSelect e = refl
open_alike states.InVariables e = refl
open_alike states.AfterStar e = refl
open_alike states.AfterWhere e = refl
open_alike states.AtEnd e = refl
open_alike _ e = cc

-- before the brace no other token leads into the group
abbrev out : Option State → Bool
out None = true
out (Some s) = not (in_group (Within s))

stays_out : (s : State) (k : Kind) → in_group (Within s) ≡ false → opens k ≡ 0 → out (plain.next s k) ≡ true
stays_out s kinds.OpenBrace e o = cc
stays_out states.Start kinds.Iri e o = refl
stays_out states.Start _ e o = refl
stays_out states.AfterPrefixWord kinds.Iri e o = refl
stays_out states.AfterPrefixWord _ e o = refl
stays_out states.AfterPrefix kinds.Iri e o = refl
stays_out states.AfterPrefix _ e o = refl
stays_out states.AfterSelect kinds.Iri e o = refl
stays_out states.AfterSelect _ e o = refl
stays_out states.InVariables kinds.Iri e o = refl
stays_out states.InVariables _ e o = refl
stays_out states.AfterStar kinds.Iri e o = refl
stays_out states.AfterStar _ e o = refl
stays_out states.AfterWhere kinds.Iri e o = refl
stays_out states.AfterWhere _ e o = refl
stays_out states.AtEnd kinds.Iri e o = refl
stays_out states.AtEnd _ e o = refl
stays_out _ k e o = cc

-- ---- all tokens

-- what both grammars say of the tokens
pub data Both (ks : List Kind) : Type 0 where
  Queries : IsQuery ks → IsGroupQuery ks → Both ks
  Faults : (n : ℕ) → IsGrammarFault ks n → IsGroupFault ks n → Both ks

-- where no brace was read yet, the state is before it
abbrev Ready : ℕ → State → Type 0
Ready zero s = Unit {0}
Ready (suc most) s = in_group (Within s) ≡ false

-- the next token, and what of it is so
record Token (most : ℕ) (ks : List Kind) (i : ℕ) (s : State) : Type 0 where
  after : ℕ
  few : after ≤ 1
  alike : step (reading s) (get_or ks i kinds.Iri) ≡ option_map reading (plain.next s (get_or ks i kinds.Iri))
  ready : (n : State) → plain.next s (get_or ks i kinds.Iri) ≡ Some n → Ready after n
  rest : ArePlain after (drop (i + 1) ks)

in_out : (o : Option State) (n : State) → o ≡ Some n → out o ≡ true → in_group (Within n) ≡ false
in_out o n e h = pick (in_group (Within n)) (subst (λ (o : Option State). out o ≡ true) e h)
  where
    pick : (b : Bool) → not b ≡ true → b ≡ false
    pick true h = cc
    pick false h = refl

split_plain : (m : ℕ) (k : Kind) (rest : List Kind) → ArePlain (suc m) (k ∷ rest) → ((k ≡ kinds.OpenBrace) × ArePlain m rest) ⊎ (IsPlainKind k × (opens k ≡ 0) × ArePlain (suc m) rest)
split_plain m kinds.OpenBrace rest t = inl (refl, t)
split_plain m kinds.Iri rest t = inr (t.0, refl, t.1)
split_plain m _ rest t = inr (t.0, refl, t.1)

token : (most : ℕ) (ks rest : List Kind) (i : ℕ) (s : State) (k : Kind) → k ≡ get_or ks i kinds.Iri → rest ≡ drop (i + 1) ks → most ≤ 1 → Ready most s → ArePlain most (k ∷ rest) → Token most ks i s
token most ks rest i s k ke re few ready plain_tokens = by_most most few ready plain_tokens
  where
    of_plain : (after : ℕ) → after ≤ 1 → IsPlainKind k → opens k ≡ 0 → ((n : State) → plain.next s k ≡ Some n → Ready after n) → ArePlain after rest → Token most ks i s
    of_plain after few p o r t = record {
      after = after;
      few = few;
      alike = subst (λ (k : Kind). step (reading s) k ≡ option_map reading (plain.next s k)) ke (plain_alike s k p o);
      ready = subst (λ (k : Kind). (n : State) → plain.next s k ≡ Some n → Ready after n) ke r;
      rest = subst (λ (l : List Kind). ArePlain after l) re t;
    }

    of_brace : (after : ℕ) → k ≡ kinds.OpenBrace → in_group (Within s) ≡ false → ArePlain after rest → after ≡ 0 → Token most ks i s
    of_brace after b e t z = record {
      after = 0;
      few = omega arith;
      alike = subst (λ (k : Kind). step (reading s) k ≡ option_map reading (plain.next s k)) (sym b ∙ ke) (open_alike s e);
      ready = λ n h. tt;
      rest = subst (λ (l : List Kind). ArePlain 0 l) re (subst (λ (n : ℕ). ArePlain n rest) z t);
    }

    ready_zero : (n : State) → plain.next s k ≡ Some n → Ready 0 n
    ready_zero n h = tt

    by_kind : (m : ℕ) → suc m ≤ 1 → in_group (Within s) ≡ false → ((k ≡ kinds.OpenBrace) × ArePlain m rest) ⊎ (IsPlainKind k × (opens k ≡ 0) × ArePlain (suc m) rest) → Token most ks i s
    by_kind m few e (inl h) = of_brace m h.0 e h.1 (omega (arith, few))
    by_kind m few e (inr h) = of_plain (suc m) few h.0 h.1 (λ n x. in_out (plain.next s k) n x (stays_out s k e h.1)) h.2

    by_most : (m : ℕ) → m ≤ 1 → Ready m s → ArePlain m (k ∷ rest) → Token most ks i s
    by_most zero few r t = of_plain 0 few t.0 t.1 ready_zero t.2
    by_most (suc m) few r t = by_kind m few r (split_plain m k rest t)

-- ---- all of them

record Stands (most : ℕ) (ks : List Kind) (i : ℕ) (s : State) : Type 0 where
  few : most ≤ 1
  ready : Ready most s
  plain_tokens : ArePlain most (drop i ks)
  one : old.At ks i (Some s)
  other : new.At ks i (reading s)

ends_alike : (s : State) → is_end (Within s) ≡ plain.is_end s
ends_alike states.AtEnd = refl
ends_alike states.Start = refl
ends_alike _ = refl

at_end : (ks : List Kind) (most : ℕ) (s : State) → Stands most ks (length ks) s → Both ks
at_end ks most s h = pick (plain.is_end s) refl
  where
    pick : (t : Bool) → plain.is_end s ≡ t → Both ks
    pick true e = Queries (old.read ks (length ks) s refl h.one e) (new.read ks (reading s) h.other (ends_alike s ∙ e))
    pick false e = Faults (length ks) (old.not_read ks (length ks) s refl h.one e) (new.too_early ks (reading s) h.other (ends_alike s ∙ e))

step_on : (ks : List Kind) (most i : ℕ) (s : State) → i < length ks → Stands most ks i s → (t : Token most ks i s) → t.after ≤ 1 → (o : Option State) → plain.next s (get_or ks i kinds.Iri) ≡ o
    → ((n : State) → Stands t.after ks (i + 1) n → Both ks) → Both ks
step_on ks most i s below h t few None e on =
    Faults i (old.stops ks i s below h.one (old.one_more ks i s kinds.Iri None below h.one e))
    (new.stops_here ks i (reading s) kinds.Iri below h.other (t.alike ∙ ap (option_map reading) e))
step_on ks most i s below h t few (Some n) e on = on n (record {
  few = few;
  ready = t.ready n e;
  plain_tokens = t.rest;
  one = old.one_more ks i s kinds.Iri (Some n) below h.one e;
  other = new.one_more ks i (reading s) (reading n) kinds.Iri below h.other (t.alike ∙ ap (option_map reading) e);
})

token_at : (ks : List Kind) (most i : ℕ) (s : State) → i < length ks → Stands most ks i s → Token most ks i s
token_at ks most i s below h =
    token most ks (drop (i + 1) ks) i s (get_or ks i kinds.Iri) refl refl h.few h.ready (subst (λ (l : List Kind). ArePlain most l) (drop_more ks i kinds.Iri below) h.plain_tokens)

walk : (ks : List Kind) (left most i : ℕ) (s : State) → i + left ≡ length ks → Stands most ks i s → Both ks
walk ks zero most i s e h = let all : i ≡ length ks = omega (arith, e) in at_end ks most s (subst (λ (n : ℕ). Stands most ks n s) all h)
walk ks (suc left) most i s e h =
    let below : i < length ks = omega (arith, e) in
    let t = token_at ks most i s below h in
    step_on ks most i s below h t t.few (plain.next s (get_or ks i kinds.Iri)) refl (λ n g. walk ks left t.after (i + 1) n (omega (arith, e)) g)

pub both : (ks : List Kind) → ArePlain 1 ks → Both ks
both ks p = walk ks (length ks) 1 0 states.Start (omega arith) (record { few = omega arith; ready = refl; plain_tokens = p; one = record { left_is = sym starts }; other = new.at_start ks })

-- ---- what follows

pub is_query : (ks : List Kind) → Both ks → IsQuery ks → IsGroupQuery ks
is_query ks (Queries a b) q = b
is_query ks (Faults n a b) q = absurd (a.no_query q)

pub only_query : (ks : List Kind) → Both ks → IsGroupQuery ks → IsQuery ks
only_query ks (Queries a b) q = a
only_query ks (Faults n a b) q = absurd (b.no_query q)

pub is_fault : (ks : List Kind) (n : ℕ) → Both ks → IsGrammarFault ks n → IsGroupFault ks n
is_fault ks n (Queries a b) f = absurd (f.no_query a)
is_fault ks n (Faults m a b) f = subst (λ (n : ℕ). IsGroupFault ks n) (old.one_place ks m n a f) b
