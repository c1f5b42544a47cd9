-- The values that clap finds, and when it finds none.
use Rattle.std.proofs.Common.{ℕ, ◌≡◌, ◌<◌, ◌≤◌, ◌+◌, ◌==◌, ◌∙◌, sym, ap, subst, refl, cond, codes, ◌||◌, Bool, true, false, List, [], ◌∷◌, ◌++◌, map, length, Option, Some, None, is_some, append_assoc, arith}
use Rattle.std.specs.Prelude.{find, slice_get, option_map, option_and_then}
use Rattle.std.specs.List.{fold}
use Rattle.std.specs.Str.{bytes_eq}
use Rattle.std.proofs.lemmas.Bool.{cond-true, cond-false, eq-eqb, ne_eqb}
use Rattle.clap.specs.Lexer.{usize_max}
use Rattle.clap.specs.Walk.{Row, Rule, arg_by_index, first_of, has_row, more_values, nothing_held, settled, walk, Walk, with_default, with_values}
use Rattle.clap.specs.Simple.{App, Shape, built, entered, filled_from, matches_of}
use Rattle.clap.specs.Kinds.{Kinds}
use Rattle.clap.specs.Faults.{entered_fault, fault_of, level_fault}
use Rattle.clap.specs.declared.builder.value_parser.Reading.TheVariants as reading
use Rattle.clap.specs.declared.parser.matches.ValueSource.TheVariants.{DefaultValue}
use Rattle.command_words.specs.Words.{Form, Text, Given, Values, given_by, is_among, value_in, values_of, arguments}
use Rattle.command_words.specs.Apps.{HasFew, app_of_form, found_values, has_lone_dash, option_rule, flag_rule, positional_rule}
use Rattle.command_words.proofs.Joins.{own_name, same_name}
use Rattle.command_words.proofs.Rules.{flag_built, named_built, named_by_index, named_by_long, named_by_short, named_default, next_place, none_required, numbered, numbered_by_long, numbered_by_short, numbered_default, numbered_filled, numbered_required, numbered_value, option_value, value_behind, value_here, valued}
use Rattle.command_words.proofs.Walks.{absent, clean, end_of, expected, outcome, row, rows, rows_given, shape_with, start_at}
use Rattle.command_words.proofs.Whole.{AreTexts, Positions, Table, claims}

-- ---- defaults

abbrev pub defaulted : List Rule → List Row → List Row
defaulted c before = fold with_default before c

value_kept : (id : Text) (long : Option Text) (index : Option ℕ) (before : List Row) → with_default before (valued id long index) ≡ before
value_kept id long index before = go (has_row id before)
  where
    go : (b : Bool) → cond b before before ≡ before
    go true = refl
    go false = refl

options_kept : (options flags : List Text) (before : List Row) → defaulted (named_built options flags) before ≡ defaulted (map flag_built flags) before
options_kept [] flags before = refl
options_kept (o ∷ options) flags before = ap (defaulted (named_built options flags)) (value_kept o (Some o) None before) ∙ options_kept options flags before

abbrev default_row : Text → Row
default_row name = record { id = name; values = codes "false" ∷ []; count = None; source = Some DefaultValue; reading = reading.AsWritten }

-- the value under a name where there is one, and else false for a flag
abbrev sought : List Text → Text → List Row → Option Text
sought flags name before = cond (has_row name before) (first_of name before) (cond (is_among name flags) (Some (codes "false")) None)

none_first : (name : Text) (before : List Row) → has_row name before ≡ false → first_of name before ≡ None
none_first name [] e = refl
none_first name (r ∷ rs) e = go (bytes_eq r.id name) e (λ h. none_first name rs h)
  where
    go : (b : Bool) → (b || has_row name rs) ≡ false → (has_row name rs ≡ false → first_of name rs ≡ None) → option_and_then (λ (x : Row). slice_get x.values 0) (cond b (Some r) (find (λ (x : Row). bytes_eq x.id name) rs)) ≡ None
    go true h more = absurd (cc)
    go false h more = more h

-- one more row at the end
row_behind : (name : Text) (before : List Row) (r : Row) → has_row name (before ++ r ∷ []) ≡ (has_row name before || bytes_eq r.id name)
row_behind name [] r = go (bytes_eq r.id name)
  where
    go : (b : Bool) → (b || false) ≡ b
    go true = refl
    go false = refl
row_behind name (x ∷ before) r = go (bytes_eq x.id name) (row_behind name before r)
  where
    go : (b : Bool) → has_row name (before ++ r ∷ []) ≡ (has_row name before || bytes_eq r.id name) → (b || has_row name (before ++ r ∷ [])) ≡ ((b || has_row name before) || bytes_eq r.id name)
    go true e = refl
    go false e = e

first_behind : (name : Text) (before : List Row) (r : Row) → first_of name (before ++ r ∷ []) ≡ cond (has_row name before) (first_of name before) (cond (bytes_eq r.id name) (slice_get r.values 0) None)
first_behind name [] r = go (bytes_eq r.id name)
  where
    go : (b : Bool) → option_and_then (λ (x : Row). slice_get x.values 0) (cond b (Some r) None) ≡ cond b (slice_get r.values 0) None
    go true = refl
    go false = refl
first_behind name (x ∷ before) r = go (bytes_eq x.id name) (first_behind name before r)
  where
    go : (b : Bool) → first_of name (before ++ r ∷ []) ≡ cond (has_row name before) (first_of name before) (cond (bytes_eq r.id name) (slice_get r.values 0) None) → option_and_then (λ (y : Row). slice_get y.values 0) (cond b (Some x) (find (λ (y : Row). bytes_eq y.id name) (before ++ r ∷ []))) ≡ cond (b || has_row name before) (option_and_then (λ (y : Row). slice_get y.values 0) (cond b (Some x) (find (λ (y : Row). bytes_eq y.id name) before))) (cond (bytes_eq r.id name) (slice_get r.values 0) None)
    go true e = refl
    go false e = e

default_kept : (flags : List Text) (f name : Text) (before : List Row) → has_row f before ≡ true → sought flags name before ≡ sought (f ∷ flags) name before
default_kept flags f name before e = go (has_row name before) refl (bytes_eq f name) refl
  where
    go : (b : Bool) → has_row name before ≡ b → (q : Bool) → bytes_eq f name ≡ q → cond b (first_of name before) (cond (is_among name flags) (Some (codes "false")) None) ≡ cond b (first_of name before) (cond (q || is_among name flags) (Some (codes "false")) None)
    go true h q k = refl
    go false h false k = refl
    go false h true k = let has : has_row name before ≡ true = subst (λ (n : Text). has_row n before ≡ true) (same_name f name k) e in absurd (cc)

default_added : (flags : List Text) (f name : Text) (before : List Row) → sought flags name (before ++ default_row f ∷ []) ≡ sought (f ∷ flags) name before
default_added flags f name before = (λ i. cond (row_behind name before (default_row f) i) (first_behind name before (default_row f) i) (cond (is_among name flags) (Some (codes "false")) None)) ∙ go (has_row name before) (bytes_eq f name)
  where
    go : (b q : Bool) → cond (b || q) (cond b (first_of name before) (cond q (Some (codes "false")) None)) (cond (is_among name flags) (Some (codes "false")) None) ≡ cond b (first_of name before) (cond (q || is_among name flags) (Some (codes "false")) None)
    go true q = refl
    go false true = refl
    go false false = refl

flags_found : (flags : List Text) (name : Text) (before : List Row) → first_of name (defaulted (map flag_built flags) before) ≡ sought flags name before
flags_found [] name before = go (has_row name before) refl
  where
    go : (b : Bool) → has_row name before ≡ b → first_of name before ≡ cond b (first_of name before) None
    go true e = refl
    go false e = none_first name before e
flags_found (f ∷ flags) name before = flags_found flags name (with_default before (flag_built f)) ∙ go (has_row f before) refl
  where
    go : (b : Bool) → has_row f before ≡ b → sought flags name (cond b before (with_values f reading.AsWritten DefaultValue (codes "false" ∷ []) before)) ≡ sought (f ∷ flags) name before
    go true e = default_kept flags f name before e
    go false e = ap (sought flags name) (absent f (more_values DefaultValue (codes "false" ∷ [])) (default_row f ∷ []) before e) ∙ default_added flags f name before

value_rows : (name : Text) (gs : Given) → first_of name (rows gs) ≡ value_in name gs
value_rows name [] = refl
value_rows name (g ∷ gs) = go (bytes_eq g.0 name) (value_rows name gs)
  where
    go : (b : Bool) → first_of name (rows gs) ≡ value_in name gs → option_and_then (λ (x : Row). slice_get x.values 0) (cond b (Some (row g)) (find (λ (x : Row). bytes_eq x.id name) (rows gs))) ≡ option_map (λ (h : Text × Text). h.1) (cond b (Some g) (find (λ (h : Text × Text). bytes_eq h.0 name) gs))
    go true e = refl
    go false e = e

sought_values : (form : Form) (gs : Given) (name : Text) → sought form.flags name (rows gs) ≡ values_of form gs name
sought_values form gs name = (λ i. cond (rows_given name gs i) (value_rows name gs i) (cond (is_among name form.flags) (Some (codes "false")) None))

-- ---- the rules of a form

-- what stands behind the positionals
abbrev named : Form → List Rule
named form = named_built form.options form.flags

-- the rules that clap makes of a form, and what they are
pub record Ruled (form : Form) (c : List Rule) : Type 0 where
  pub is_rules : (built (app_of_form form)).top.rules ≡ c
  pub table : Table form c
  pub positions : Positions c 1 form.positionals
  pub defaults : (before : List Row) → defaulted c before ≡ defaulted (named form) before

-- a rule of an earlier place in front changes none of these
earlier : (rules : List Rule) (a : Text) (j i : ℕ) (names : List Text) → j < i → i ≤ usize_max → Positions rules i names → Positions (valued a None (Some j) ∷ rules) i names
earlier rules a j i [] before within p = cond-false (j == i) (Some (valued a None (Some j))) (arg_by_index rules i) (ne_eqb j i (λ same. omega (arith, before, same))) ∙ p
earlier rules a j i (n ∷ names) before within p = (
  cond-false (j == i) (Some (valued a None (Some j))) (arg_by_index rules i) (ne_eqb j i (λ same. omega (arith, before, same))) ∙ p.0,
  value_behind rules a n None (Some j) p.1,
  earlier rules a j (next_place i) names (omega (arith, before, within)) (omega arith) p.2,
)

places : (rules : List Rule) → ((i : ℕ) → arg_by_index rules i ≡ None) → (i : ℕ) (names : List Text) → i + length names ≤ usize_max → Positions (numbered i names rules) i names
places rules none i [] few = none i
places rules none i (a ∷ names) few = (
  cond-true (i == i) (Some (valued a None (Some i))) (arg_by_index (numbered (next_place i) names rules) i) (eq-eqb i i refl),
  value_here (numbered (next_place i) names rules) a a None (Some i) (own_name a),
  earlier (numbered (next_place i) names rules) a i (next_place i) names (omega (arith, few)) (omega arith) (places rules none (next_place i) names (omega (arith, few))),
)

numbered_kept : (rules : List Rule) (i : ℕ) (names : List Text) (before : List Row) → defaulted (numbered i names rules) before ≡ defaulted rules before
numbered_kept rules i [] before = refl
numbered_kept rules i (a ∷ names) before = ap (defaulted (numbered (next_place i) names rules)) (value_kept a None (Some i) before) ∙ numbered_kept rules (next_place i) names before

ruled_by : (names options flags : List Text) → HasFew names → Ruled (record { positionals = names; options = options; flags = flags }) (numbered 1 names (named_built options flags))
ruled_by names options flags few =
    let rules : List Rule = named_built options flags in
    record {
      is_rules = ap (filled_from 1) (append_assoc (map positional_rule names) (map option_rule options) (map flag_rule flags)) ∙ numbered_filled 1 names options flags;
      table = record {
        long = λ name. numbered_by_long rules 1 names name ∙ named_by_long options flags name;
        short = λ x. numbered_by_short rules 1 names x ∙ named_by_short options flags x;
        value = λ name e. numbered_value rules 1 names name (option_value options flags name e);
        defaults = numbered_default rules 1 names (named_default options flags);
        required = λ before. numbered_required rules 1 names before (none_required options flags before);
      };
      positions = places rules (named_by_index options flags) 1 names (omega (arith, few));
      defaults = numbered_kept rules 1 names;
    }

ruled : (form : Form) → HasFew form.positionals → (c : List Rule) × Ruled form c
ruled form few = (numbered 1 form.positionals (named form), ruled_by form.positionals form.options form.flags few)

-- ---- the whole

ends_alone : (top : Shape) (words : List Text) (stop : Option (Text × List Text)) → level_fault top [] nothing_held words (is_some (entered (record { top = top; subs = [] }) stop)) (entered_fault (record { top = top; subs = [] }) stop) ≡ level_fault top [] nothing_held words false []
ends_alone top words None = refl
ends_alone top words (Some p) = refl

fault_by : (form : Form) (words : List Text) → fault_of (app_of_form form) words ≡ level_fault (shape_with (built (app_of_form form)).top.rules) [] nothing_held words false []
fault_by form words = ends_alone (shape_with (built (app_of_form form)).top.rules) words (walk (built (app_of_form form)).top.rules [] nothing_held words).stopped

abbrev start : Walk
start = start_at [] None 1

abbrev rows_left : List Rule → List Text → List Row
rows_left c words = (settled c (end_of c start words)).rows

abbrev fault_left : List Rule → List Text → Kinds
fault_left c words = level_fault (shape_with c) [] nothing_held words false []

-- where the words have no fault, clap has the values that they give
same_values : (form : Form) (c : List Rule) (r : Ruled form c) (given : Option Given) (b : Bool) (left : List Row) → cond b (Some left) None ≡ expected given → option_map (values_of form) given ≡ cond b (Some (found_values (defaulted c left))) None
same_values form c r None true left e = absurd (cc)
same_values form c r None false left e = refl
same_values form c r (Some gs) false left e = absurd (cc)
same_values form c r (Some gs) true left e = ap (λ (v : Values). Some v) (λ i name. each name i)
  where
    same : rows gs ≡ left
    same = cc

    each : (name : Text) → values_of form gs name ≡ found_values (defaulted c left) name
    each name = sym (sought_values form gs name) ∙ sym (flags_found form.flags name (rows gs)) ∙ ap (first_of name) (sym (r.defaults (rows gs) ∙ options_kept form.options form.flags (rows gs))) ∙ ap (λ (xs : List Row). first_of name (defaulted c xs)) same

pub clap_finds : (form : Form) (words : List Text) → HasFew form.positionals → AreTexts words → has_lone_dash form.options false words ≡ false → arguments form words ≡ cond (clean (fault_of (app_of_form form) words)) (Some (found_values (matches_of (app_of_form form) words))) None
unfolding outcome
clap_finds form words few u calm =
    let table = ruled form few in
    let c : List Rule = table.0 in
    let r : Ruled form c = table.1 in
    let given : outcome c start words ≡ expected (given_by form words form.positionals None) = (claims form c r.table words u).free [] None 1 form.positionals refl tt r.positions calm in
    same_values form c r (given_by form words form.positionals None) (clean (fault_left c words)) (rows_left c words) given
    ∙ sym ((λ i. cond (clean (fault_by form words i)) (Some (found_values (matches_of (app_of_form form) words))) None) ∙ (λ i. cond (clean (fault_left (r.is_rules i) words)) (Some (found_values (defaulted (r.is_rules i) (rows_left (r.is_rules i) words)))) None))

-- the words are taken: what clap found are their values
pub clap_taken : (form : Form) (words : List Text) (app : App) (found : List Row) → app ≡ app_of_form form → HasFew form.positionals → AreTexts words → has_lone_dash form.options false words ≡ false → fault_of app words ≡ [] → found ≡ matches_of app words → Some (found_values found) ≡ arguments form words
clap_taken form words app found is few u calm none rows_are =
    let none_of_form : fault_of (app_of_form form) words ≡ [] = subst (λ (a : App). fault_of a words ≡ []) is none in
    let same : found ≡ matches_of (app_of_form form) words = rows_are ∙ ap (λ (a : App). matches_of a words) is in
    ap (λ (xs : List Row). Some (found_values xs)) same ∙ sym (clap_finds form words few u calm ∙ ap (λ (ks : Kinds). cond (clean ks) (Some (found_values (matches_of (app_of_form form) words))) None) none_of_form)

-- they are refused
pub clap_refused : (form : Form) (words : List Text) (app : App) → app ≡ app_of_form form → HasFew form.positionals → AreTexts words → has_lone_dash form.options false words ≡ false → (fault_of app words ≡ [] → ⊥) → None ≡ arguments form words
clap_refused form words app is few u calm some = go (fault_of (app_of_form form) words) refl
  where
    go : (ks : Kinds) → fault_of (app_of_form form) words ≡ ks → None ≡ arguments form words
    go [] e = absurd (some (subst (λ (a : App). fault_of a words ≡ []) (sym is) e))
    go (k ∷ ks) e = sym (clap_finds form words few u calm ∙ ap (λ (xs : Kinds). cond (clean xs) (Some (found_values (matches_of (app_of_form form) words))) None) e)
