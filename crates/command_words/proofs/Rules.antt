-- The arguments of a form, as clap keeps them once the command is built.
use Rattle.std.proofs.Common.{ℕ, ◌≡◌, ◌+◌, min, ap, refl, cond, codes, ◌&&◌, ◌||◌, Bool, true, false, not, List, [], ◌∷◌, ◌++◌, map, Option, Some, None}
use Rattle.std.specs.List.{list_any}
use Rattle.std.specs.Str.{bytes_eq}
use Rattle.clap.specs.Lexer.{usize_max}
use Rattle.clap.specs.Walk.{Rule, Row, arg_by_id, arg_by_long, arg_by_short, arg_by_index, has_row, with_default}
use Rattle.clap.specs.Takes.{is_given}
use Rattle.clap.specs.Kinds.{or_else}
use Rattle.clap.specs.Faults.{defaults_fault, given_default_fault}
use Rattle.clap.specs.Simple.{filled_from}
use Rattle.clap.specs.declared.builder.ArgAction.TheVariants.{Set, SetTrue}
use Rattle.clap.specs.declared.builder.value_parser.ValueParser.TheVariants as vp
use Rattle.command_words.specs.Words.{Text, is_among}
use Rattle.command_words.specs.Apps.{option_rule, flag_rule, positional_rule}
use Rattle.command_words.proofs.Joins.{same_name}

-- an argument with a value
abbrev pub valued : Text → Option Text → Option ℕ → Rule
valued id long index = record {
  id = id;
  long = long;
  aliases = [];
  short = None;
  short_aliases = [];
  index = index;
  action = Some Set;
  range = Some (record { start_inclusive = 1; end_inclusive = 1 });
  value_names = 0;
  defaults = [];
  missing = [];
  trailing_var_arg = false;
  parser = Some vp.String;
  ignore_case = false;
  required = false;
  is_simple = true;
  is_free = true;
}

abbrev pub option_built : Text → Rule
option_built name = valued name (Some name) None

abbrev pub flag_built : Text → Rule
flag_built name = record {
  id = name;
  long = Some name;
  aliases = [];
  short = None;
  short_aliases = [];
  index = None;
  action = Some SetTrue;
  range = Some (record { start_inclusive = 0; end_inclusive = 0 });
  value_names = 0;
  defaults = codes "false" ∷ [];
  missing = codes "true" ∷ [];
  trailing_var_arg = false;
  parser = Some vp.Bool;
  ignore_case = false;
  required = false;
  is_simple = true;
  is_free = true;
}

abbrev pub named_built : List Text → List Text → List Rule
named_built options flags = map option_built options ++ map flag_built flags

flags_filled : (i : ℕ) (flags : List Text) → filled_from i (map flag_rule flags) ≡ map flag_built flags
flags_filled i [] = refl
flags_filled i (f ∷ flags) = ap (λ (rs : List Rule). flag_built f ∷ rs) (flags_filled i flags)

pub named_filled : (i : ℕ) (options flags : List Text) → filled_from i (map option_rule options ++ map flag_rule flags) ≡ named_built options flags
named_filled i [] flags = flags_filled i flags
named_filled i (o ∷ options) flags = ap (λ (rs : List Rule). option_built o ∷ rs) (named_filled i options flags)

-- the place behind a place
abbrev pub next_place : ℕ → ℕ
next_place i = min (i + 1) usize_max

-- positionals that are numbered from here, and the rules behind them
abbrev pub numbered : ℕ → List Text → List Rule → List Rule
numbered i [] rules = rules
numbered i (a ∷ names) rules = valued a None (Some i) ∷ numbered (next_place i) names rules

pub numbered_filled : (i : ℕ) (names options flags : List Text) → filled_from i (map positional_rule names ++ (map option_rule options ++ map flag_rule flags)) ≡ numbered i names (named_built options flags)
numbered_filled i [] options flags = named_filled i options flags
numbered_filled i (a ∷ names) options flags = ap (λ (rs : List Rule). valued a None (Some i) ∷ rs) (numbered_filled (next_place i) names options flags)

-- ---- what is found by a name, a letter or a place

abbrev pub by_long : List Text → List Text → Text → Option Rule
by_long options flags name = cond (is_among name options) (Some (option_built name)) (cond (is_among name flags) (Some (flag_built name)) None)

flags_by_long : (flags : List Text) (name : Text) → arg_by_long (map flag_built flags) name ≡ cond (is_among name flags) (Some (flag_built name)) None
flags_by_long [] name = refl
flags_by_long (f ∷ flags) name = go (bytes_eq f name) refl (flags_by_long flags name)
  where
    go : (b : Bool) → bytes_eq f name ≡ b → arg_by_long (map flag_built flags) name ≡ cond (is_among name flags) (Some (flag_built name)) None → cond (b || false) (Some (flag_built f)) (arg_by_long (map flag_built flags) name) ≡ cond (b || is_among name flags) (Some (flag_built name)) None
    go true e more = ap (λ (n : Text). Some (flag_built n)) (same_name f name e)
    go false e more = more

pub named_by_long : (options flags : List Text) (name : Text) → arg_by_long (named_built options flags) name ≡ by_long options flags name
named_by_long [] flags name = flags_by_long flags name
named_by_long (o ∷ options) flags name = go (bytes_eq o name) refl (named_by_long options flags name)
  where
    go : (b : Bool) → bytes_eq o name ≡ b → arg_by_long (named_built options flags) name ≡ by_long options flags name → cond (b || false) (Some (option_built o)) (arg_by_long (named_built options flags) name) ≡ cond (b || is_among name options) (Some (option_built name)) (cond (is_among name flags) (Some (flag_built name)) None)
    go true e more = ap (λ (n : Text). Some (option_built n)) (same_name o name e)
    go false e more = more

flags_by_short : (flags : List Text) (x : ℕ) → arg_by_short (map flag_built flags) x ≡ None
flags_by_short [] x = refl
flags_by_short (f ∷ flags) x = flags_by_short flags x

pub named_by_short : (options flags : List Text) (x : ℕ) → arg_by_short (named_built options flags) x ≡ None
named_by_short [] flags x = flags_by_short flags x
named_by_short (o ∷ options) flags x = named_by_short options flags x

flags_by_index : (flags : List Text) (i : ℕ) → arg_by_index (map flag_built flags) i ≡ None
flags_by_index [] i = refl
flags_by_index (f ∷ flags) i = flags_by_index flags i

pub named_by_index : (options flags : List Text) (i : ℕ) → arg_by_index (named_built options flags) i ≡ None
named_by_index [] flags i = flags_by_index flags i
named_by_index (o ∷ options) flags i = named_by_index options flags i

-- the argument with a value that is found by its id
pub record HasValue (rules : List Rule) (id : Text) : Type 0 where
  pub long : Option Text
  pub index : Option ℕ
  pub found : arg_by_id rules id ≡ Some (valued id long index)

pub value_here : (rules : List Rule) (a id : Text) (long : Option Text) (index : Option ℕ) → bytes_eq a id ≡ true → HasValue (valued a long index ∷ rules) id
value_here rules a id long index e = record { long = long; index = index; found = rw e (ap (λ (n : Text). Some (valued n long index)) (same_name a id e)) }

pub value_behind : (rules : List Rule) (a id : Text) (long : Option Text) (index : Option ℕ) → HasValue rules id → HasValue (valued a long index ∷ rules) id
value_behind rules a id long index h = go (bytes_eq a id) refl
  where
    go : (b : Bool) → bytes_eq a id ≡ b → HasValue (valued a long index ∷ rules) id
    go true e = value_here rules a id long index e
    go false e = record { long = h.long; index = h.index; found = rw e h.found }

pub option_value : (options flags : List Text) (name : Text) → is_among name options ≡ true → HasValue (named_built options flags) name
option_value [] flags name e = absurd (cc)
option_value (o ∷ options) flags name e = go (bytes_eq o name) refl e (λ h. option_value options flags name h)
  where
    go : (b : Bool) → bytes_eq o name ≡ b → (b || is_among name options) ≡ true → (is_among name options ≡ true → HasValue (named_built options flags) name) → HasValue (named_built (o ∷ options) flags) name
    go true t among more = value_here (named_built options flags) o name (Some o) None t
    go false t among more = value_behind (named_built options flags) o name (Some o) None (more among)

-- ---- defaults, and what is required

flags_default : (flags : List Text) (rows : List Row) → defaults_fault rows (map flag_built flags) ≡ []
unfolding defaults_fault
flags_default [] rows = refl
flags_default (f ∷ flags) rows = go (has_row f rows) (flags_default flags (with_default rows (flag_built f)))
  where
    go : (b : Bool) → defaults_fault (with_default rows (flag_built f)) (map flag_built flags) ≡ [] → or_else (cond (b || false) [] []) (defaults_fault (with_default rows (flag_built f)) (map flag_built flags)) ≡ []
    go true more = more
    go false more = more

pub value_default : (rules : List Rule) (id : Text) (long : Option Text) (index : Option ℕ) → ((rows : List Row) → defaults_fault rows rules ≡ []) → (rows : List Row) → defaults_fault rows (valued id long index ∷ rules) ≡ []
unfolding defaults_fault
value_default rules id long index more rows = go (has_row id rows)
  where
    go : (b : Bool) → or_else (cond (b || true) [] (given_default_fault (valued id long index) [])) (defaults_fault (with_default rows (valued id long index)) rules) ≡ []
    go true = more (with_default rows (valued id long index))
    go false = more (with_default rows (valued id long index))

pub named_default : (options flags : List Text) (rows : List Row) → defaults_fault rows (named_built options flags) ≡ []
named_default [] flags rows = flags_default flags rows
named_default (o ∷ options) flags rows = value_default (named_built options flags) o (Some o) None (named_default options flags) rows

pub none_required : (options flags : List Text) (rows : List Row) → list_any (λ (a : Rule). a.required && not (is_given a.id rows)) (named_built options flags) ≡ false
none_required [] [] rows = refl
none_required [] (f ∷ flags) rows = none_required [] flags rows
none_required (o ∷ options) flags rows = none_required options flags rows

-- ---- what stands behind positionals

module _ (rules : List Rule) where
  pub numbered_by_long : (i : ℕ) (names : List Text) (name : Text) → arg_by_long (numbered i names rules) name ≡ arg_by_long rules name
  numbered_by_long i [] name = refl
  numbered_by_long i (a ∷ names) name = numbered_by_long (next_place i) names name

  pub numbered_by_short : (i : ℕ) (names : List Text) (x : ℕ) → arg_by_short (numbered i names rules) x ≡ arg_by_short rules x
  numbered_by_short i [] x = refl
  numbered_by_short i (a ∷ names) x = numbered_by_short (next_place i) names x

  pub numbered_value : (i : ℕ) (names : List Text) (id : Text) → HasValue rules id → HasValue (numbered i names rules) id
  numbered_value i [] id h = h
  numbered_value i (a ∷ names) id h = value_behind (numbered (next_place i) names rules) a id None (Some i) (numbered_value (next_place i) names id h)

  pub numbered_default : (i : ℕ) (names : List Text) → ((rows : List Row) → defaults_fault rows rules ≡ []) → (rows : List Row) → defaults_fault rows (numbered i names rules) ≡ []
  numbered_default i [] none rows = none rows
  numbered_default i (a ∷ names) none rows = value_default (numbered (next_place i) names rules) a None (Some i) (numbered_default (next_place i) names none) rows

  pub numbered_required : (i : ℕ) (names : List Text) (rows : List Row) → list_any (λ (a : Rule). a.required && not (is_given a.id rows)) rules ≡ false
      → list_any (λ (a : Rule). a.required && not (is_given a.id rows)) (numbered i names rules) ≡ false
  numbered_required i [] rows none = none
  numbered_required i (a ∷ names) rows none = numbered_required (next_place i) names rows none
