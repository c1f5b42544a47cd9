-- What a text asks, by its tokens.
use Rattle.std.proofs.Common.{ℕ, ◌≡◌, List, Option, Some, sym, ap, ◌∙◌}
use Rattle.query_grammar.specs.Groups.{IsGroupQuery, ArePlain, PlainIsQuery}
use Rattle.query_words.specs.declared.word.Word.{Word}
use Rattle.query_words.specs.Words.{kinds_of}
use Rattle.pattern_parser.specs.declared.fault.QueryFault.{QueryFault}
use Rattle.pattern_parser.specs.declared.fault.QueryFault.TheVariants as queries
use Rattle.pattern_parser.specs.declared.fault.QueryWhy.{QueryWhy}
use Rattle.pattern_parser.specs.Queries.{later_fault}
use Rattle.group_faults.specs.declared.fault.GroupFault.TheVariants as faults
use Rattle.group_faults.specs.declared.fault.GroupWhy.{GroupWhy}
use Rattle.group_faults.specs.declared.fault.GroupWhy.TheVariants.{Basic}
use Rattle.group_faults.specs.Faults.{basic, group_fault, ReadsGroupWords}
use Rattle.group_parser.specs.declared.reading.Asked.{Asked}
use Rattle.group_parser.specs.declared.reading.Asked.TheVariants.{Plain, Groups}
use Rattle.group_parser.specs.Asking.{IsAsked, IsAskedBy}
use Rattle.group_parser.proofs.Plain.{as_basic, plain_fault, plain_words}

-- the fault of a query is one of a query with groups
basic_bad : (f : QueryFault) (at : ℕ) (w : GroupWhy) → basic f ≡ faults.Bad at w → (v : QueryWhy) × (f ≡ queries.Bad at v) × (w ≡ Basic v)
basic_bad (queries.Bad n v) at w e = (v, cc, cc)
basic_bad queries.OutOfMemory at w e = absurd (cc)

pub plain_bad : PlainIsQuery → (ws : List Word) (f : QueryFault) (at : ℕ) (w : GroupWhy) → IsGroupQuery (kinds_of ws) → ArePlain 1 (kinds_of ws) → ((v : QueryWhy) (n : ℕ) → f ≡ queries.Bad n v → later_fault ws ≡ Some (v, n)) → basic f ≡ faults.Bad at w → group_fault ws ≡ Some (w, at)
plain_bad law ws f at w g p h e =
    let b = basic_bad f at w e in
    plain_fault ws (law.only (kinds_of ws) p g) ∙ ap as_basic (h b.0 at b.1) ∙ ap (λ (k : GroupWhy). let o : Option (GroupWhy × ℕ) = Some (k, at) in o) (sym b.2)

pub asked_is : (text : List ℕ) (ws : List Word) (asked : Asked) → ReadsGroupWords text ws → IsAskedBy ws asked → IsAsked text asked
asked_is text ws (Plain q) r k =
    let t = r.tokens in
    (record { words = ws; tokens = t; plain = k.0 }, record { words = ws; reads = record { short = t.short; utf8 = t.utf8; tokens = t.tokens; are = t.are; words = t.words; query = k.1.query }; fine = k.1.fine; is = k.1.is })
asked_is text ws (Groups g) r k = (λ p. k.0.plain (plain_words text ws p r.tokens), record { words = ws; reads = r; fine = k.0.fine; is = k.1 })
