-- One step of clap's walk over the words, and the law of the whole walk.
use Rattle.std.proofs.Common.{ℕ, ◌≡◌, ◌∙◌, ◌⊎◌, inl, inr, sym, ap, refl, cond, codes, ◌+◌, ◌&&◌, ◌||◌, min, Bool, true, false, List, [], ◌∷◌, ◌++◌, map, Option, Some, None, append-nil}
use Rattle.std.specs.List.{fold}
use Rattle.std.specs.Option.{option_map, option_map_or}
use Rattle.std.specs.Str.{bytes_eq}
use Rattle.clap.specs.Lexer.{usize_max}
use Rattle.clap.specs.Walk.{Held, Row, Rule, Waiting, idle, Walk, arg_by_index, arg_by_long, at_row, finished, has_row, is_pending, more_values, pushed, settled, to_positional, used, walked, with_values, without, option as waits_for}
use Rattle.clap.specs.Simple.{Shape}
use Rattle.clap.specs.Kinds.{Kinds, or_else}
use Rattle.clap.specs.Faults.{defaults_fault, check_fault, settle_fault, turn_fault, walk_fault, use_fault, repeat_fault, positional_fault, word_fault}
use Rattle.clap.specs.declared.error.kind.ErrorKind.{ErrorKind}
use Rattle.clap.specs.declared.error.kind.ErrorKind.TheVariants as kind
use Rattle.clap.specs.declared.builder.value_parser.Reading.TheVariants as reading
use Rattle.clap.specs.declared.parser.matches.ValueSource.TheVariants.{CommandLine}
use Rattle.command_words.specs.Words.{Text, Given, with_value, is_given}
use Rattle.command_words.proofs.Joins.{joined, Distinct, joined_more, twice, one_more}
use Rattle.command_words.proofs.Rules.{valued, option_built, flag_built, HasValue}
use Rattle.command_words.proofs.WordKinds.{Sees}

-- a built command with these arguments
abbrev pub shape_with : List Rule → Shape
shape_with rules = record {
  name = codes "tpf";
  aliases = [];
  rules = rules;
  is_plain = true;
  is_leaf = true;
  no_binary_name = true;
  disable_help_flag = true;
  disable_help_subcommand = true;
  disable_version_flag = true;
  propagate_version = false;
  has_version = false;
  has_long_version = false;
  args_override_self = false;
  arg_required_else_help = false;
  subcommand_required = false;
  subcommand_negates_reqs = false;
  is_built = true;
}

-- what clap keeps of a value
abbrev pub row : Text × Text → Row
row g = record { id = g.0; values = g.1 ∷ []; count = None; source = Some CommandLine; reading = reading.AsWritten }

abbrev pub rows : Given → List Row
rows gs = map row gs

abbrev pub Pending : Type 0
Pending = Option (Text × List Text)

abbrev pub held : Given → Pending → Held
held gs pending = record { rows = rows gs; pending = pending; skip = 0 }

abbrev pub at : Given → Pending → Waiting → ℕ → Bool → Walk
at gs pending waiting position trailing = record { held = held gs pending; waiting = waiting; position = position; is_trailing = trailing; stopped = None }

abbrev pub clean : Kinds → Bool
clean [] = true
clean (k ∷ ks) = false

abbrev pub end_fault : List Rule → Held → Kinds
end_fault c h = or_else (settle_fault c false h) (or_else (defaults_fault (settled c h).rows c) (check_fault (shape_with c) (finished c h) false))

abbrev pub end_of : List Rule → Walk → List Text → Held
end_of c w words = (fold (walked c []) w words).held

-- the rows that the words leave, where none has a fault
unfoldable pub outcome : List Rule → Walk → List Text → Option (List Row)
outcome c w words = cond (clean (or_else (walk_fault (shape_with c) [] w words) (end_fault c (end_of c w words)))) (Some (settled c (end_of c w words)).rows) None

first_step : (k f e : Kinds) (x : Option (List Row)) → cond (clean (or_else (or_else k f) e)) x None ≡ cond (clean k) (cond (clean (or_else f e)) x None) None
first_step [] f e x = refl
first_step (k ∷ ks) f e x = refl

step : (c : List Rule) (w : Walk) (word : Text) (words : List Text) → outcome c w (word ∷ words) ≡ cond (clean (turn_fault (shape_with c) [] w word)) (outcome c (walked c [] w word) words) None
unfolding outcome walk_fault
step c w word words = first_step (turn_fault (shape_with c) [] w word) (walk_fault (shape_with c) [] (walked c [] w word) words) (end_fault c (end_of c (walked c [] w word) words)) (Some (settled c (end_of c (walked c [] w word) words)).rows)

-- the outcome of a word that leaves such a walk and has such faults
pub turned : (c : List Rule) (w after : Walk) (word : Text) (faults : Kinds) (words : List Text) → turn_fault (shape_with c) [] w word ≡ faults → walked c [] w word ≡ after → outcome c w (word ∷ words) ≡ cond (clean faults) (outcome c after words) None
turned c w after word faults words e f = step c w word words ∙ (λ i. cond (clean (e i)) (outcome c (f i) words) None)

-- a word with a fault
pub failed : (c : List Rule) (w : Walk) (word : Text) (words : List Text) → clean (turn_fault (shape_with c) [] w word) ≡ false → outcome c w (word ∷ words) ≡ None
failed c w word words e = step c w word words ∙ ap (λ (b : Bool). cond b (outcome c (walked c [] w word) words) None) e

-- ---- a value is used

-- an argument that is used with these values keeps this one
pub record Uses (a : Rule) (values : List Text) (g : Text × Text) : Type 0 where
  pub fault : (before : List Row) → use_fault false a values before ≡ or_else (repeat_fault false g.0 before) []
  pub rows : (before : List Row) → used a values before ≡ with_values g.0 reading.AsWritten CommandLine (g.1 ∷ []) (without g.0 before)

pub value_uses : (id v : Text) (long : Option Text) (index : Option ℕ) → Uses (valued id long index) (v ∷ []) (id, v)
value_uses id v long index = record { fault = λ before. refl; rows = λ before. refl }

pub flag_uses : (name : Text) → Uses (flag_built name) [] (name, codes "true")
flag_uses name = record { fault = λ before. refl; rows = λ before. refl }

pub rows_given : (id : Text) (gs : Given) → has_row id (rows gs) ≡ is_given id gs
rows_given id [] = refl
rows_given id (g ∷ gs) = ap (λ (b : Bool). bytes_eq g.0 id || b) (rows_given id gs)

pub absent : (id : Text) (change : Row → List Row) (missing before : List Row) → has_row id before ≡ false → at_row id change missing before ≡ before ++ missing
absent id change missing [] e = refl
absent id change missing (r ∷ rs) e = go (bytes_eq r.id id) e (λ h. absent id change missing rs h)
  where
    go : (b : Bool) → (b || has_row id rs) ≡ false → (has_row id rs ≡ false → at_row id change missing rs ≡ rs ++ missing) → cond b (change r ++ rs) (r ∷ at_row id change missing rs) ≡ r ∷ (rs ++ missing)
    go true h more = absurd (cc)
    go false h more = ap (λ (xs : List Row). r ∷ xs) (more h)

rows_more : (gs : Given) (g : Text × Text) → rows gs ++ row g ∷ [] ≡ rows (gs ++ g ∷ [])
rows_more [] g = refl
rows_more (x ∷ gs) g = ap (λ (xs : List Row). row x ∷ xs) (rows_more gs g)

new_row : (gs : Given) (g : Text × Text) → is_given g.0 gs ≡ false → with_values g.0 reading.AsWritten CommandLine (g.1 ∷ []) (without g.0 (rows gs)) ≡ rows (gs ++ g ∷ [])
new_row gs g e =
    let none : has_row g.0 (rows gs) ≡ false = rows_given g.0 gs ∙ e in
    let same : without g.0 (rows gs) ≡ rows gs = absent g.0 (λ _. []) [] (rows gs) none ∙ append-nil (rows gs) in
    ap (λ (before : List Row). with_values g.0 reading.AsWritten CommandLine (g.1 ∷ []) before) same ∙ absent g.0 (more_values CommandLine (g.1 ∷ [])) (row g ∷ []) (rows gs) none ∙ rows_more gs g

-- the value is kept
pub record Kept (gs : Given) (a : Rule) (values : List Text) (g : Text × Text) : Type 0 where
  pub distinct : Distinct (gs ++ g ∷ [])
  pub no_fault : use_fault false a values (rows gs) ≡ []
  pub rows : used a values (rows gs) ≡ rows (gs ++ g ∷ [])

-- the name has a value already
pub record Clash (gs : Given) (a : Rule) (values : List Text) (g : Text × Text) : Type 0 where
  pub kind : ErrorKind
  pub fault : use_fault false a values (rows gs) ≡ kind ∷ []
  pub none : (r : Option Given) → joined gs (with_value g.0 g.1 r) ≡ None

pub used_once : (gs : Given) (a : Rule) (values : List Text) (g : Text × Text) → Distinct gs → Uses a values g → Kept gs a values g ⊎ Clash gs a values g
used_once gs a values g d u = go (is_given g.0 gs) refl
  where
    go : (b : Bool) → is_given g.0 gs ≡ b → Kept gs a values g ⊎ Clash gs a values g
    go true t =
        let has : has_row g.0 (rows gs) ≡ true = rows_given g.0 gs ∙ t in
        inr (record { kind = kind.ArgumentConflict; fault = u.fault (rows gs) ∙ (rw has refl); none = λ r. twice gs g.0 g.1 r t })
    go false f =
        let has : has_row g.0 (rows gs) ≡ false = rows_given g.0 gs ∙ f in
        inl (record { distinct = one_more gs g d f; no_fault = u.fault (rows gs) ∙ (rw has refl); rows = u.rows (rows gs) ∙ new_row gs g f })

-- ---- what is pending is used

abbrev pub pending_of : Option (Text × Text) → Pending
pending_of None = None
pending_of (Some g) = Some (g.0, g.1 ∷ [])

abbrev pub Suits : List Rule → Option (Text × Text) → Type 0
Suits c None = Unit {0}
Suits c (Some g) = HasValue c g.0

abbrev pub front : Option (Text × Text) → Option Given → Option Given
front None r = r
front (Some g) r = with_value g.0 g.1 r

pub record Settled (c : List Rule) (gs : Given) (pd : Option (Text × Text)) : Type 0 where
  pub all : Given
  pub distinct : Distinct all
  pub no_fault : settle_fault c false (held gs (pending_of pd)) ≡ []
  pub held_is : settled c (held gs (pending_of pd)) ≡ held all None
  pub ahead : (r : Option Given) → joined all r ≡ joined gs (front pd r)

pub record Unsettled (c : List Rule) (gs : Given) (pd : Option (Text × Text)) : Type 0 where
  pub kind : ErrorKind
  pub fault : settle_fault c false (held gs (pending_of pd)) ≡ kind ∷ []
  pub none : (r : Option Given) → joined gs (front pd r) ≡ None

pub settle : (c : List Rule) (gs : Given) (pd : Option (Text × Text)) → Distinct gs → Suits c pd → Settled c gs pd ⊎ Unsettled c gs pd
settle c gs None d s = inl (record { all = gs; distinct = d; no_fault = refl; held_is = refl; ahead = λ r. refl })
settle c gs (Some g) d s = go (used_once gs (valued g.0 s.long s.index) (g.1 ∷ []) g d (value_uses g.0 g.1 s.long s.index))
  where
    go : Kept gs (valued g.0 s.long s.index) (g.1 ∷ []) g ⊎ Clash gs (valued g.0 s.long s.index) (g.1 ∷ []) g → Settled c gs (Some g) ⊎ Unsettled c gs (Some g)
    go (inl k) = inl (record {
      all = gs ++ g ∷ [];
      distinct = k.distinct;
      no_fault = rw s.found k.no_fault;
      held_is = rw s.found (ap (λ (xs : List Row). record { rows = xs; pending = None; skip = 0 }) k.rows);
      ahead = λ r. joined_more gs g r;
    })
    go (inr k) = inr (record { kind = k.kind; fault = rw s.found k.fault; none = k.none })

-- ---- what a word is met with

abbrev pub start_at : Given → Pending → ℕ → Walk
start_at gs pending position = at gs pending idle position false

-- the faults of a word that goes to this positional
abbrev pub place_fault : List Rule → Option Rule → Held → Kinds
place_fault c place h = option_map_or (λ a. positional_fault c false a h) place (kind.UnknownArgument ∷ [])

pub plain_turn : (c : List Rule) (gs : Given) (pending : Pending) (position : ℕ) (word : Text) → Sees word None None → turn_fault (shape_with c) [] (start_at gs pending position) word ≡ place_fault c (arg_by_index c position) (held gs pending)
plain_turn c gs pending position word s = rw (s.no_end, s.long, s.short) refl

pub plain_walked : (c : List Rule) (gs : Given) (pending : Pending) (position : ℕ) (word : Text) → Sees word None None → walked c [] (start_at gs pending position) word ≡ to_positional c (arg_by_index c position) word (start_at gs pending position) (held gs pending)
unfolding walked
plain_walked c gs pending position word s = rw (s.no_end, s.long, s.short) refl

pub ends_turn : (c : List Rule) (gs : Given) (pending : Pending) (waiting : Waiting) (position : ℕ) → turn_fault (shape_with c) [] (at gs pending waiting position false) (45 ∷ 45 ∷ []) ≡ []
ends_turn c gs pending idle position = refl
ends_turn c gs pending (waits_for name) position = refl
ends_turn c gs pending w position = refl

pub last_turn : (c : List Rule) (gs : Given) (pending : Pending) (waiting : Waiting) (position : ℕ) (word : Text) → turn_fault (shape_with c) [] (at gs pending waiting position true) word ≡ place_fault c (arg_by_index c position) (held gs pending)
last_turn c gs pending waiting position word = refl

pub last_walked : (c : List Rule) (gs : Given) (pending : Pending) (waiting : Waiting) (position : ℕ) (word : Text) → walked c [] (at gs pending waiting position true) word ≡ to_positional c (arg_by_index c position) word (at gs pending waiting position true) (held gs pending)
unfolding walked
last_walked c gs pending waiting position word = refl

pub long_turn : (c : List Rule) (gs : Given) (pending : Pending) (position : ℕ) (word name v : Text) → Sees word (Some (name, Some v)) None → arg_by_long c name ≡ Some (option_built name) → turn_fault (shape_with c) [] (start_at gs pending position) word ≡ or_else (or_else (settle_fault c false (held gs pending)) (use_fault false (option_built name) (v ∷ []) (settled c (held gs pending)).rows)) []
long_turn c gs pending position word name v s found = rw (s.no_end, s.long, found) refl

abbrev pub used_at : List Rule → Given → Pending → ℕ → Rule → List Text → Walk
used_at c gs pending position a values = record { held = record { rows = used a values (settled c (held gs pending)).rows; pending = None; skip = 0 }; waiting = idle; position = position; is_trailing = false; stopped = None }

pub long_walked : (c : List Rule) (gs : Given) (pending : Pending) (position : ℕ) (word name v : Text) → Sees word (Some (name, Some v)) None → arg_by_long c name ≡ Some (option_built name) → walked c [] (start_at gs pending position) word ≡ used_at c gs pending position (option_built name) (v ∷ [])
unfolding walked
long_walked c gs pending position word name v s found = rw (s.no_end, s.long, found) refl

pub flag_turn : (c : List Rule) (gs : Given) (pending : Pending) (position : ℕ) (word name : Text) → Sees word (Some (name, None)) None → arg_by_long c name ≡ Some (flag_built name) → turn_fault (shape_with c) [] (start_at gs pending position) word ≡ or_else (or_else (settle_fault c false (held gs pending)) (use_fault false (flag_built name) [] (settled c (held gs pending)).rows)) []
flag_turn c gs pending position word name s found = rw (s.no_end, s.long, found) refl

pub flag_walked : (c : List Rule) (gs : Given) (pending : Pending) (position : ℕ) (word name : Text) → Sees word (Some (name, None)) None → arg_by_long c name ≡ Some (flag_built name) → walked c [] (start_at gs pending position) word ≡ used_at c gs pending position (flag_built name) []
unfolding walked
flag_walked c gs pending position word name s found = rw (s.no_end, s.long, found) refl

pub asks_turn : (c : List Rule) (gs : Given) (pending : Pending) (position : ℕ) (word name : Text) → Sees word (Some (name, None)) None → arg_by_long c name ≡ Some (option_built name) → turn_fault (shape_with c) [] (start_at gs pending position) word ≡ or_else (settle_fault c false (held gs pending)) []
asks_turn c gs pending position word name s found = rw (s.no_end, s.long, found) refl

abbrev pub asks_at : List Rule → Given → Pending → ℕ → Text → Walk
asks_at c gs pending position name = record { held = record { rows = (settled c (held gs pending)).rows; pending = Some (name, []); skip = 0 }; waiting = waits_for name; position = position; is_trailing = false; stopped = None }

pub asks_walked : (c : List Rule) (gs : Given) (pending : Pending) (position : ℕ) (word name : Text) → Sees word (Some (name, None)) None → arg_by_long c name ≡ Some (option_built name) → walked c [] (start_at gs pending position) word ≡ asks_at c gs pending position name
unfolding walked
asks_walked c gs pending position word name s found = rw (s.no_end, s.long, found) refl

-- a value for a flag, and a name that is not known
pub valued_flag_fault : (c : List Rule) (gs : Given) (pending : Pending) (word name v : Text) → Sees word (Some (name, Some v)) None → arg_by_long c name ≡ Some (flag_built name) → word_fault (shape_with c) [] false idle word (held gs pending) ≡ kind.TooManyValues ∷ []
valued_flag_fault c gs pending word name v s found = rw (s.no_end, s.long, found) refl

pub unknown_fault : (c : List Rule) (gs : Given) (pending : Pending) (word name : Text) (v : Option Text) → Sees word (Some (name, v)) None → arg_by_long c name ≡ None → word_fault (shape_with c) [] false idle word (held gs pending) ≡ kind.UnknownArgument ∷ []
unknown_fault c gs pending word name v s found = rw (s.no_end, s.long, found) refl

-- ---- outcomes

abbrev pub expected : Option Given → Option (List Row)
expected = option_map rows

pub never : {X : Type 0} (b : Bool) (x y : X) → cond (b && false) x y ≡ y
never true x y = refl
never false x y = refl

or_false : (b : Bool) → (b || false) ≡ b
or_false true = refl
or_false false = refl

-- a word goes to a positional
pub placed : (c : List Rule) (gs : Given) (pd : Option (Text × Text)) (position : ℕ) (trailing : Bool) (word : Text) (words : List Text) (n : Text) (r : Option Given) → Distinct gs → Suits c pd → arg_by_index c position ≡ Some (valued n None (Some position))
    → turn_fault (shape_with c) [] (at gs (pending_of pd) idle position trailing) word ≡ place_fault c (arg_by_index c position) (held gs (pending_of pd))
    → walked c [] (at gs (pending_of pd) idle position trailing) word ≡ to_positional c (arg_by_index c position) word (at gs (pending_of pd) idle position trailing) (held gs (pending_of pd))
    → ((all : Given) → Distinct all → outcome c (at all (Some (n, word ∷ [])) idle (min (position + 1) usize_max) trailing) words ≡ expected (joined all (with_value n word r)))
    → outcome c (at gs (pending_of pd) idle position trailing) (word ∷ words) ≡ expected (joined gs (front pd (with_value n word r)))
placed c gs pd position trailing word words n r d s found turn walk later = go (settle c gs pd d s)
  where
    fault_is : turn_fault (shape_with c) [] (at gs (pending_of pd) idle position trailing) word ≡ settle_fault c false (held gs (pending_of pd))
    fault_is = turn ∙ ap (λ (place : Option Rule). place_fault c place (held gs (pending_of pd))) found ∙ never (is_pending (valued n None (Some position)) (pending_of pd)) [] (settle_fault c false (held gs (pending_of pd)))

    go : Settled c gs pd ⊎ Unsettled c gs pd → outcome c (at gs (pending_of pd) idle position trailing) (word ∷ words) ≡ expected (joined gs (front pd (with_value n word r)))
    go (inl k) =
        let held_after : cond (is_pending (valued n None (Some position)) (pending_of pd) && false) (held gs (pending_of pd)) (settled c (held gs (pending_of pd))) ≡ held k.all None = never (is_pending (valued n None (Some position)) (pending_of pd)) (held gs (pending_of pd)) (settled c (held gs (pending_of pd))) ∙ k.held_is in
        let after : walked c [] (at gs (pending_of pd) idle position trailing) word ≡ at k.all (Some (n, word ∷ [])) idle (min (position + 1) usize_max) trailing =
        walk ∙ ap (λ (place : Option Rule). to_positional c place word (at gs (pending_of pd) idle position trailing) (held gs (pending_of pd))) found ∙ (λ i. record { held = pushed n word (held_after i); waiting = idle; position = min (position + 1) usize_max; is_trailing = or_false trailing i; stopped = None }) in
        turned c (at gs (pending_of pd) idle position trailing) (at k.all (Some (n, word ∷ [])) idle (min (position + 1) usize_max) trailing) word [] words (fault_is ∙ k.no_fault) after ∙ later k.all k.distinct ∙ ap expected (k.ahead (with_value n word r))
    go (inr k) = failed c (at gs (pending_of pd) idle position trailing) word words (ap clean (fault_is ∙ k.fault)) ∙ sym (ap expected (k.none (with_value n word r)))

-- an option with its value, or a flag
pub reacted_to : (c : List Rule) (gs : Given) (pd : Option (Text × Text)) (position : ℕ) (word : Text) (words : List Text) (a : Rule) (values : List Text) (g : Text × Text) (r : Option Given) → Distinct gs → Suits c pd → Uses a values g
    → turn_fault (shape_with c) [] (start_at gs (pending_of pd) position) word ≡ or_else (or_else (settle_fault c false (held gs (pending_of pd))) (use_fault false a values (settled c (held gs (pending_of pd))).rows)) []
    → walked c [] (start_at gs (pending_of pd) position) word ≡ used_at c gs (pending_of pd) position a values
    → ((all : Given) → Distinct all → outcome c (start_at all None position) words ≡ expected (joined all r))
    → outcome c (start_at gs (pending_of pd) position) (word ∷ words) ≡ expected (joined gs (front pd (with_value g.0 g.1 r)))
reacted_to c gs pd position word words a values g r d s u turn walk later = go (settle c gs pd d s)
  where
    then_used : (k : Settled c gs pd) → Kept k.all a values g ⊎ Clash k.all a values g → outcome c (start_at gs (pending_of pd) position) (word ∷ words) ≡ expected (joined gs (front pd (with_value g.0 g.1 r)))
    then_used k (inl m) =
        let fault : turn_fault (shape_with c) [] (start_at gs (pending_of pd) position) word ≡ [] = turn ∙ (λ i. or_else (or_else (k.no_fault i) (use_fault false a values (k.held_is i).rows)) []) ∙ ap (λ (ks : Kinds). or_else (or_else [] ks) []) m.no_fault in
        let after : walked c [] (start_at gs (pending_of pd) position) word ≡ start_at (k.all ++ g ∷ []) None position = walk ∙ (λ i. record { held = record { rows = used a values (k.held_is i).rows; pending = None; skip = 0 }; waiting = idle; position = position; is_trailing = false; stopped = None }) ∙ ap (λ (rs : List Row). record { held = record { rows = rs; pending = None; skip = 0 }; waiting = idle; position = position; is_trailing = false; stopped = None }) m.rows in
        turned c (start_at gs (pending_of pd) position) (start_at (k.all ++ g ∷ []) None position) word [] words fault after ∙ later (k.all ++ g ∷ []) m.distinct ∙ ap expected (joined_more k.all g r ∙ k.ahead (with_value g.0 g.1 r))
    then_used k (inr m) =
        let fault : turn_fault (shape_with c) [] (start_at gs (pending_of pd) position) word ≡ m.kind ∷ [] = turn ∙ (λ i. or_else (or_else (k.no_fault i) (use_fault false a values (k.held_is i).rows)) []) ∙ ap (λ (ks : Kinds). or_else (or_else [] ks) []) m.fault in
        failed c (start_at gs (pending_of pd) position) word words (ap clean fault) ∙ sym (ap expected (sym (k.ahead (with_value g.0 g.1 r)) ∙ m.none r))

    go : Settled c gs pd ⊎ Unsettled c gs pd → outcome c (start_at gs (pending_of pd) position) (word ∷ words) ≡ expected (joined gs (front pd (with_value g.0 g.1 r)))
    go (inl k) = then_used k (used_once k.all a values g k.distinct u)
    go (inr k) =
        let fault : turn_fault (shape_with c) [] (start_at gs (pending_of pd) position) word ≡ k.kind ∷ [] = turn ∙ ap (λ (ks : Kinds). or_else (or_else ks (use_fault false a values (settled c (held gs (pending_of pd))).rows)) []) k.fault in
        failed c (start_at gs (pending_of pd) position) word words (ap clean fault) ∙ sym (ap expected (k.none (with_value g.0 g.1 r)))

-- an option whose value comes next
pub asked_for : (c : List Rule) (gs : Given) (pd : Option (Text × Text)) (position : ℕ) (word name : Text) (words : List Text) (r : Option Given) → Distinct gs → Suits c pd
    → turn_fault (shape_with c) [] (start_at gs (pending_of pd) position) word ≡ or_else (settle_fault c false (held gs (pending_of pd))) []
    → walked c [] (start_at gs (pending_of pd) position) word ≡ asks_at c gs (pending_of pd) position name
    → ((all : Given) → Distinct all → outcome c (at all (Some (name, [])) (waits_for name) position false) words ≡ expected (joined all r))
    → outcome c (start_at gs (pending_of pd) position) (word ∷ words) ≡ expected (joined gs (front pd r))
asked_for c gs pd position word name words r d s turn walk later = go (settle c gs pd d s)
  where
    go : Settled c gs pd ⊎ Unsettled c gs pd → outcome c (start_at gs (pending_of pd) position) (word ∷ words) ≡ expected (joined gs (front pd r))
    go (inl k) =
        let fault : turn_fault (shape_with c) [] (start_at gs (pending_of pd) position) word ≡ [] = turn ∙ ap (λ (ks : Kinds). or_else ks []) k.no_fault in
        let after : walked c [] (start_at gs (pending_of pd) position) word ≡ at k.all (Some (name, [])) (waits_for name) position false = walk ∙ (λ i. record { held = record { rows = (k.held_is i).rows; pending = Some (name, []); skip = 0 }; waiting = waits_for name; position = position; is_trailing = false; stopped = None }) in
        turned c (start_at gs (pending_of pd) position) (at k.all (Some (name, [])) (waits_for name) position false) word [] words fault after ∙ later k.all k.distinct ∙ ap expected (k.ahead r)
    go (inr k) = failed c (start_at gs (pending_of pd) position) word words (ap clean (turn ∙ ap (λ (ks : Kinds). or_else ks []) k.fault)) ∙ sym (ap expected (k.none r))

pub ends_walked : (c : List Rule) (gs : Given) (pending : Pending) (waiting : Waiting) (position : ℕ) → walked c [] (at gs pending waiting position false) (45 ∷ 45 ∷ []) ≡ at gs pending waiting position true
unfolding walked
ends_walked c gs pending idle position = refl
ends_walked c gs pending (waits_for name) position = refl
ends_walked c gs pending w position = refl

-- an option or a flag where the value of another option is missing
pub long_fault_is : (c : List Rule) (gs : Given) (pending : Pending) (word name v : Text) → Sees word (Some (name, Some v)) None → arg_by_long c name ≡ Some (option_built name) → word_fault (shape_with c) [] false idle word (held gs pending) ≡ or_else (settle_fault c false (held gs pending)) (use_fault false (option_built name) (v ∷ []) (settled c (held gs pending)).rows)
long_fault_is c gs pending word name v s found = rw (s.no_end, s.long, found) refl

pub asks_fault_is : (c : List Rule) (gs : Given) (pending : Pending) (word name : Text) → Sees word (Some (name, None)) None → arg_by_long c name ≡ Some (option_built name) → word_fault (shape_with c) [] false idle word (held gs pending) ≡ settle_fault c false (held gs pending)
asks_fault_is c gs pending word name s found = rw (s.no_end, s.long, found) refl

pub flag_fault_is : (c : List Rule) (gs : Given) (pending : Pending) (word name : Text) → Sees word (Some (name, None)) None → arg_by_long c name ≡ Some (flag_built name) → word_fault (shape_with c) [] false idle word (held gs pending) ≡ or_else (settle_fault c false (held gs pending)) (use_fault false (flag_built name) [] (settled c (held gs pending)).rows)
flag_fault_is c gs pending word name s found = rw (s.no_end, s.long, found) refl
