-- The first faults of a text that both readers have, and those that groups alone have.
use Rattle.std.proofs.Common.{ℕ, ◌≡◌, List, length, refl, sym, subst}
use Rattle.query_grammar.specs.Groups.{IsGroupFault}
use Rattle.query_words.specs.declared.word.Word.{Word}
use Rattle.query_words.specs.Words.{kinds_of}
use Rattle.pattern_parser.specs.declared.fault.QueryFault.{QueryFault}
use Rattle.pattern_parser.specs.declared.fault.QueryFault.TheVariants as queries
use Rattle.pattern_parser.specs.declared.fault.QueryWhy.{QueryWhy}
use Rattle.pattern_parser.specs.declared.fault.QueryWhy.TheVariants as why
use Rattle.pattern_parser.specs.Queries.{place_or, ReadsTokens, IsTokenFaultAt}
use Rattle.group_faults.specs.declared.fault.GroupFault.{GroupFault}
use Rattle.group_faults.specs.declared.fault.GroupFault.TheVariants as faults
use Rattle.group_faults.specs.declared.fault.GroupWhy.{GroupWhy}
use Rattle.group_faults.specs.declared.fault.GroupWhy.TheVariants.{Basic}
use Rattle.group_faults.specs.Faults.{basic, GroupFaultAt}

pub token_is_fault : (text : List ℕ) (w : QueryWhy) (at : ℕ) → IsTokenFaultAt text w at → GroupFaultAt text (Basic w) at
token_is_fault text why.TooLong at f = f
token_is_fault text why.Utf8 at f = f
token_is_fault text why.Token at f = f
token_is_fault text _ at f = absurd f

-- the fault of a query's tokens
pub token_bad : (text : List ℕ) (f : QueryFault) (r : GroupFault) (at : ℕ) (w : GroupWhy) → r ≡ basic f → r ≡ faults.Bad at w → ((v : QueryWhy) (n : ℕ) → f ≡ queries.Bad n v → IsTokenFaultAt text v n) → GroupFaultAt text w at
token_bad text (queries.Bad n v) r at w e h k =
    let same : w ≡ Basic v = cc in
    let place : at ≡ n = cc in
    subst (λ (u : GroupWhy). GroupFaultAt text u at) (sym same) (subst (λ (m : ℕ). GroupFaultAt text (Basic v) m) (sym place) (token_is_fault text v n (k v n refl)))
token_bad text queries.OutOfMemory r at w e h k = absurd (cc)

-- the fault of the grammar
pub grammar_bad : (text : List ℕ) (ws : List Word) (w : GroupWhy) (at n : ℕ) → ReadsTokens text ws → w ≡ Basic why.Grammar → IsGroupFault (kinds_of ws) n → at ≡ place_or ws n (length text) → GroupFaultAt text w at
grammar_bad text ws w at n t e f p = subst (λ (u : GroupWhy). GroupFaultAt text u at) (sym e) (record { words = ws; tokens = t; number = n; fault = f; place_is = p })
