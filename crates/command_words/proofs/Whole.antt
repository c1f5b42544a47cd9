-- What clap finds in words is what they give.
use Rattle.std.proofs.Common.{ℕ, ◌≡◌, ◌∙◌, ◌⊎◌, inl, inr, sym, ap, subst, refl, cond, codes, ◌+◌, ◌==◌, ◌&&◌, ◌||◌, min, Bool, true, false, not, List, [], ◌∷◌, Option, Some, None}
use Rattle.std.specs.Prelude.{slice_get}
use Rattle.std.specs.List.{list_any, before_first, after_first}
use Rattle.std.specs.Str.{bytes_eq, chars, IsUtf8, encode_utf8_all, all_scalars, is_utf8}
use Rattle.std.specs.Char.{encode_utf8}
use Rattle.std.proofs.lemmas.Bool.{and_parts}
use Rattle.std.proofs.lemmas.Str.{is_utf8-from_IsUtf8}
use Rattle.std.proofs.lemmas.Slice.Eq.{bytes_eq-Decides}
use Rattle.clap.specs.Lexer.{usize_max}
use Rattle.clap.specs.Walk.{Held, Row, Rule, idle, Walk, arg_by_index, arg_by_long, arg_by_short, option as waits_for, is_pending, finished, settled, walked}
use Rattle.clap.specs.Takes.{is_given as is_present}
use Rattle.clap.specs.Kinds.{Kinds, or_else}
use Rattle.clap.specs.Faults.{defaults_fault, check_fault, settle_fault, turn_fault, use_fault, walk_fault, flags_fault, word_fault}
use Rattle.clap.specs.declared.error.kind.ErrorKind.{ErrorKind}
use Rattle.clap.specs.declared.error.kind.ErrorKind.TheVariants as kind
use Rattle.command_words.specs.Words.{Form, Text, Given, Kind, ends, option, refused, plain, with_value, given_by, all_positionals, is_among, kind_of, begins_with_dash, after_dash, after_dashes, is_equals, kind_met, option_met, positional_met}
use Rattle.command_words.specs.Apps.{asks, has_lone_dash}
use Rattle.command_words.proofs.Joins.{joined, Distinct, joined_none, own_name}
use Rattle.command_words.proofs.Rules.{valued, option_built, flag_built, by_long, HasValue}
use Rattle.command_words.proofs.WordKinds.{Sees, HasLetters, Seen, seen}
use Rattle.command_words.proofs.Walks.{shape_with, rows, held, at, start_at, clean, outcome, failed, turned, Pending, pending_of, Suits, front, Settled, Unsettled, settle, expected, place_fault, end_fault, never, plain_turn, plain_walked, ends_turn, ends_walked, last_turn, last_walked, long_turn, long_walked, flag_turn, flag_walked, asks_turn, asks_walked, valued_flag_fault, unknown_fault, long_fault_is, asks_fault_is, flag_fault_is, placed, reacted_to, asked_for, value_uses, flag_uses}

-- the rules are those of a form
pub record Table (form : Form) (c : List Rule) : Type 0 where
  pub long : (name : Text) → arg_by_long c name ≡ by_long form.options form.flags name
  pub short : (x : ℕ) → arg_by_short c x ≡ None
  pub value : (name : Text) → is_among name form.options ≡ true → HasValue c name
  pub defaults : (before : List Row) → defaults_fault before c ≡ []
  pub required : (before : List Row) → list_any (λ (a : Rule). a.required && not (is_present a.id before)) c ≡ false

-- these positionals come from this place on
abbrev pub Positions : List Rule → ℕ → List Text → Type 0
Positions c position [] = arg_by_index c position ≡ None
Positions c position (n ∷ names) = (arg_by_index c position ≡ Some (valued n None (Some position))) × HasValue c n × Positions c (min (position + 1) usize_max) names

-- ---- the end

ended : (form : Form) (c : List Rule) (gs : Given) (pd : Option (Text × Text)) (position : ℕ) (trailing : Bool) → Table form c → Distinct gs → Suits c pd → outcome c (at gs (pending_of pd) idle position trailing) [] ≡ expected (joined gs (front pd (Some [])))
unfolding outcome walk_fault
ended form c gs pd position trailing t d s = go (settle c gs pd d s)
  where
    go : Settled c gs pd ⊎ Unsettled c gs pd → outcome c (at gs (pending_of pd) idle position trailing) [] ≡ expected (joined gs (front pd (Some [])))
    go (inl k) =
        let h : Held = held gs (pending_of pd) in
        let fault : end_fault c h ≡ [] = (λ i. or_else (k.no_fault i) (or_else (t.defaults (settled c h).rows i) (check_fault (shape_with c) (finished c h) false))) ∙ ap (λ (b : Bool). cond b (kind.MissingRequiredArgument ∷ []) []) (t.required (finished c h)) in
        let taken : outcome c (at gs (pending_of pd) idle position trailing) [] ≡ Some (rows k.all) = (λ i. cond (clean (fault i)) (Some (k.held_is i).rows) None) in
        taken ∙ sym (ap expected (sym (k.ahead (Some [])) ∙ k.distinct))
    go (inr k) =
        let h : Held = held gs (pending_of pd) in
        let refused : outcome c (at gs (pending_of pd) idle position trailing) [] ≡ None = (λ i. cond (clean (or_else (k.fault i) (or_else (defaults_fault (settled c h).rows c) (check_fault (shape_with c) (finished c h) false)))) (Some (settled c h).rows) None) in
        refused ∙ sym (ap expected (k.none (Some [])))

-- ---- letters behind one -

char_of : (b : ℕ) (bs : Text) → IsUtf8 (45 ∷ b ∷ bs) → (x : ℕ) × (slice_get (chars (b ∷ bs)) 0 ≡ Some x)
unfolding chars encode_utf8 is_utf8
char_of b bs u = go (chars (b ∷ bs)) refl
  where
    whole : encode_utf8_all (chars (45 ∷ b ∷ bs)) ≡ 45 ∷ b ∷ bs
    whole = (bytes_eq-Decides (encode_utf8_all (chars (45 ∷ b ∷ bs))) (45 ∷ b ∷ bs)).0 ((and_parts (all_scalars (chars (45 ∷ b ∷ bs))) (bytes_eq (encode_utf8_all (chars (45 ∷ b ∷ bs))) (45 ∷ b ∷ bs)) (is_utf8-from_IsUtf8 (45 ∷ b ∷ bs) u)).1)

    go : (cs : List ℕ) → chars (b ∷ bs) ≡ cs → (x : ℕ) × (slice_get cs 0 ≡ Some x)
    go [] e = let alone : chars (45 ∷ b ∷ bs) ≡ 45 ∷ [] = ap (λ (cs : List ℕ). 45 ∷ cs) e in let short : 45 ∷ [] ≡ 45 ∷ b ∷ bs = sym (ap encode_utf8_all alone) ∙ whole in absurd (cc)
    go (x ∷ cs) e = (x, refl)

letters_fault : (c : List Rule) (gs : Given) (pending : Pending) (word : Text) → ((x : ℕ) → arg_by_short c x ≡ None) → IsUtf8 word → HasLetters word → word_fault (shape_with c) [] false idle word (held gs pending) ≡ kind.UnknownArgument ∷ []
unfolding flags_fault
letters_fault c gs pending word short u h =
    let one = char_of h.first h.more (subst IsUtf8 h.is_word u) in
    rw (h.sees.no_end, h.sees.long, h.sees.short, one.1, short one.0) refl

-- ---- a word where the value of an option has to come

abbrev asks_walk : Given → Text → ℕ → Walk
asks_walk gs name position = at gs (Some (name, [])) (waits_for name) position false

-- the option has no value
no_value : (c : List Rule) (gs : Given) (name : Text) → HasValue c name → settle_fault c false (held gs (Some (name, []))) ≡ kind.InvalidValue ∷ []
no_value c gs name v = rw v.found refl

value_turn : (c : List Rule) (gs : Given) (name : Text) (position : ℕ) (word : Text) → HasValue c name → Sees word None None → turn_fault (shape_with c) [] (asks_walk gs name position) word ≡ []
value_turn c gs name position word v s = rw (s.no_end, s.long, s.short) refl

value_walked : (c : List Rule) (gs : Given) (name : Text) (position : ℕ) (word : Text) → HasValue c name → Sees word None None → walked c [] (asks_walk gs name position) word ≡ start_at gs (Some (name, word ∷ [])) position
unfolding walked
value_walked c gs name position word v s = rw (s.no_end, s.long, s.short, v.found, own_name name) refl

-- -- behind the option, and what follows it
late : (c : List Rule) (gs : Given) (name : Text) (position : ℕ) (names words : List Text) → HasValue c name → Positions c position names → outcome c (at gs (Some (name, [])) (waits_for name) position true) words ≡ None
unfolding outcome walk_fault
late c gs name position names [] v p = (λ i. cond (clean (or_else (no_value c gs name v i) (or_else (defaults_fault (settled c (held gs (Some (name, [])))).rows c) (check_fault (shape_with c) (finished c (held gs (Some (name, [])))) false)))) (Some (settled c (held gs (Some (name, [])))).rows) None)
late c gs name position [] (word ∷ words) v p = failed c (at gs (Some (name, [])) (waits_for name) position true) word words (ap clean (last_turn c gs (Some (name, [])) (waits_for name) position word ∙ ap (λ (place : Option Rule). place_fault c place (held gs (Some (name, [])))) p))
late c gs name position (n ∷ names) (word ∷ words) v p = failed c (at gs (Some (name, [])) (waits_for name) position true) word words (ap clean (last_turn c gs (Some (name, [])) (waits_for name) position word ∙ ap (λ (place : Option Rule). place_fault c place (held gs (Some (name, [])))) p.0 ∙ never (is_pending (valued n None (Some position)) (Some (name, []))) [] (settle_fault c false (held gs (Some (name, [])))) ∙ no_value c gs name v))

-- ---- what the words hold of lone dashes

or_left : (p q : Bool) → (p || q) ≡ false → p ≡ false
or_left true q e = e
or_left false q e = refl

pub or_right : (p q : Bool) → (p || q) ≡ false → q ≡ false
or_right true q e = absurd (cc)
or_right false q e = e

pub calm_later : (options : List Text) (b : Bool) (word : Text) (words : List Text) → has_lone_dash options b (word ∷ words) ≡ false → bytes_eq word (codes "--") ≡ false → has_lone_dash options (asks options (kind_of word)) words ≡ false
unfolding has_lone_dash
calm_later options b word words e f =
    let both = or_right (b && bytes_eq word (codes "-")) (not (bytes_eq word (codes "--")) && has_lone_dash options (asks options (kind_of word)) words) e in
    sym (ap (λ (t : Bool). not t && has_lone_dash options (asks options (kind_of word)) words) f) ∙ both

pub calm_any : (options : List Text) (b : Bool) (words : List Text) → has_lone_dash options b words ≡ false → has_lone_dash options false words ≡ false
unfolding has_lone_dash
calm_any options b [] e = refl
calm_any options b (word ∷ words) e = or_right (b && bytes_eq word (codes "-")) (not (bytes_eq word (codes "--")) && has_lone_dash options (asks options (kind_of word)) words) e

pub calm_dash : (options : List Text) (word : Text) (words : List Text) → has_lone_dash options true (word ∷ words) ≡ false → bytes_eq word (codes "-") ≡ false
unfolding has_lone_dash
calm_dash options word words e = or_left (bytes_eq word (codes "-")) (not (bytes_eq word (codes "--")) && has_lone_dash options (asks options (kind_of word)) words) e

pub no_dash_plain : (word : Text) → begins_with_dash word ≡ false → kind_of word ≡ plain
no_dash_plain [] e = refl
no_dash_plain (b ∷ rest) e = rw e refl

begins : (word : Text) (k : Kind) → kind_of word ≡ k → (k ≡ plain → ⊥) → begins_with_dash word ≡ true
begins word k e other = go (begins_with_dash word) refl
  where
    go : (b : Bool) → begins_with_dash word ≡ b → b ≡ true
    go true t = refl
    go false f = absurd (other (sym e ∙ no_dash_plain word f))

dashes_not_plain : (more : Text) → after_dashes more ≡ plain → ⊥
dashes_not_plain [] e = cc
dashes_not_plain (z ∷ zs) e = go (list_any is_equals (z ∷ zs)) e
  where
    go : (b : Bool) → cond b (option (before_first is_equals (z ∷ zs)) (Some (after_first is_equals (z ∷ zs)))) (option (z ∷ zs) None) ≡ plain → ⊥
    go true e = cc
    go false e = cc

not_plain : (x : ℕ) (more : Text) → after_dash (x ∷ more) ≡ plain → ⊥
not_plain x more e = go (x == 45) e
  where
    go : (t : Bool) → cond t (after_dashes more) refused ≡ plain → ⊥
    go true e = dashes_not_plain more e
    go false e = cc

plain_begins : (word : Text) → kind_of word ≡ plain → bytes_eq word (codes "-") ≡ false → begins_with_dash word ≡ false
plain_begins [] e f = refl
plain_begins (b ∷ rest) e f = go (b == 45) refl e f
  where
    inner : (more : Text) → after_dash more ≡ plain → (true && bytes_eq more []) ≡ false → true ≡ false
    inner [] e f = f
    inner (x ∷ more) e f = absurd (not_plain x more e)

    go : (t : Bool) → (b == 45) ≡ t → cond t (after_dash rest) plain ≡ plain → (t && bytes_eq rest []) ≡ false → t ≡ false
    go true t e f = inner rest e f
    go false t e f = refl

-- ---- the walk

pub record Claims (form : Form) (c : List Rule) (words : List Text) : Type 0 where
  pub free : (gs : Given) (pd : Option (Text × Text)) (position : ℕ) (names : List Text) → Distinct gs → Suits c pd → Positions c position names → has_lone_dash form.options false words ≡ false
      → outcome c (start_at gs (pending_of pd) position) words ≡ expected (joined gs (front pd (given_by form words names None)))
  pub asked : (gs : Given) (name : Text) (position : ℕ) (names : List Text) → Distinct gs → HasValue c name → Positions c position names → has_lone_dash form.options true words ≡ false
      → outcome c (at gs (Some (name, [])) (waits_for name) position false) words ≡ expected (joined gs (given_by form words names (Some name)))
  pub last : (gs : Given) (pd : Option (Text × Text)) (position : ℕ) (names : List Text) → Distinct gs → Suits c pd → Positions c position names
      → outcome c (at gs (pending_of pd) idle position true) words ≡ expected (joined gs (front pd (all_positionals words names)))

nothing : (gs : Given) (pd : Option (Text × Text)) → joined gs (front pd None) ≡ None
nothing gs None = joined_none gs
nothing gs (Some g) = joined_none gs

clean_first : (first rest : Kinds) (kinds : Kinds) (e : first ≡ kinds) → clean kinds ≡ false → clean (or_else first rest) ≡ false
clean_first first rest [] e f = absurd (cc)
clean_first first rest (k ∷ ks) e f = ap (λ (x : Kinds). clean (or_else x rest)) e

-- a word that has a fault by itself
word_failed : (c : List Rule) (gs : Given) (pending : Pending) (position : ℕ) (word : Text) (words : List Text) (k : ErrorKind) → word_fault (shape_with c) [] false idle word (held gs pending) ≡ k ∷ [] → outcome c (start_at gs pending position) (word ∷ words) ≡ None
word_failed c gs pending position word words k e = failed c (start_at gs pending position) word words (clean_first _ _ (k ∷ []) e refl)

module _ (form : Form) (c : List Rule) (t : Table form c) (word : Text) (words : List Text) (u : IsUtf8 word) (more : Claims form c words) where
  last_step : (gs : Given) (pd : Option (Text × Text)) (position : ℕ) (names : List Text) → Distinct gs → Suits c pd → Positions c position names
      → outcome c (at gs (pending_of pd) idle position true) (word ∷ words) ≡ expected (joined gs (front pd (all_positionals (word ∷ words) names)))
  last_step gs pd position [] d s p =
      failed c (at gs (pending_of pd) idle position true) word words (ap clean (last_turn c gs (pending_of pd) idle position word ∙ ap (λ (place : Option Rule). place_fault c place (held gs (pending_of pd))) p)) ∙ sym (ap expected (nothing gs pd))
  last_step gs pd position (n ∷ names) d s p =
      placed c gs pd position true word words n (all_positionals words names) d s p.0 (last_turn c gs (pending_of pd) idle position word) (last_walked c gs (pending_of pd) idle position word)
      (λ all e. more.last all (Some (n, word)) (min (position + 1) usize_max) names e p.1 p.2)

  abbrev Free : Given → Option (Text × Text) → ℕ → Option Given → Type 0
  Free gs pd position r = outcome c (start_at gs (pending_of pd) position) (word ∷ words) ≡ expected (joined gs (front pd r))

  free_plain : (gs : Given) (pd : Option (Text × Text)) (position : ℕ) (names : List Text) → Distinct gs → Suits c pd → Positions c position names → has_lone_dash form.options false words ≡ false → Sees word None None → Free gs pd position (positional_met names word (given_by form words))
  free_plain gs pd position [] d s p calm sees =
      failed c (start_at gs (pending_of pd) position) word words (ap clean (plain_turn c gs (pending_of pd) position word sees ∙ ap (λ (place : Option Rule). place_fault c place (held gs (pending_of pd))) p)) ∙ sym (ap expected (nothing gs pd))
  free_plain gs pd position (n ∷ names) d s p calm sees =
      placed c gs pd position false word words n (given_by form words names None) d s p.0 (plain_turn c gs (pending_of pd) position word sees) (plain_walked c gs (pending_of pd) position word sees)
      (λ all e. more.free all (Some (n, word)) (min (position + 1) usize_max) names e p.1 p.2 calm)

  found_option : (name : Text) → is_among name form.options ≡ true → arg_by_long c name ≡ Some (option_built name)
  found_option name e = t.long name ∙ ap (λ (b : Bool). cond b (Some (option_built name)) (cond (is_among name form.flags) (Some (flag_built name)) None)) e

  found_flag : (name : Text) → is_among name form.options ≡ false → is_among name form.flags ≡ true → arg_by_long c name ≡ Some (flag_built name)
  found_flag name e f = t.long name ∙ (λ i. cond (e i) (Some (option_built name)) (cond (f i) (Some (flag_built name)) None))

  found_none : (name : Text) → is_among name form.options ≡ false → is_among name form.flags ≡ false → arg_by_long c name ≡ None
  found_none name e f = t.long name ∙ (λ i. cond (e i) (Some (option_built name)) (cond (f i) (Some (flag_built name)) None))

  free_refused : (gs : Given) (pd : Option (Text × Text)) (position : ℕ) (k : ErrorKind) → word_fault (shape_with c) [] false idle word (held gs (pending_of pd)) ≡ k ∷ [] → Free gs pd position None
  free_refused gs pd position k e = word_failed c gs (pending_of pd) position word words k e ∙ sym (ap expected (nothing gs pd))

  free_value : (gs : Given) (pd : Option (Text × Text)) (position : ℕ) (names : List Text) (name v : Text) → Distinct gs → Suits c pd → Positions c position names → has_lone_dash form.options false words ≡ false → Sees word (Some (name, Some v)) None → Free gs pd position (option_met form name (Some v) names (given_by form words))
  free_value gs pd position names name v d s p calm sees = by_option (is_among name form.options) refl
    where
      by_flag : (b : Bool) → is_among name form.flags ≡ b → is_among name form.options ≡ false → Free gs pd position None
      by_flag true f e = free_refused gs pd position kind.TooManyValues (valued_flag_fault c gs (pending_of pd) word name v sees (found_flag name e f))
      by_flag false f e = free_refused gs pd position kind.UnknownArgument (unknown_fault c gs (pending_of pd) word name (Some v) sees (found_none name e f))

      by_option : (b : Bool) → is_among name form.options ≡ b → Free gs pd position (cond b (with_value name v (given_by form words names None)) None)
      by_option true e = reacted_to c gs pd position word words (option_built name) (v ∷ []) (name, v) (given_by form words names None) d s (value_uses name v (Some name) None) (long_turn c gs (pending_of pd) position word name v sees (found_option name e)) (long_walked c gs (pending_of pd) position word name v sees (found_option name e))
          (λ all distinct. more.free all None position names distinct tt p calm)
      by_option false e = by_flag (is_among name form.flags) refl e

  free_alone : (gs : Given) (pd : Option (Text × Text)) (position : ℕ) (names : List Text) (name : Text) → Distinct gs → Suits c pd → Positions c position names → has_lone_dash form.options (is_among name form.options) words ≡ false → Sees word (Some (name, None)) None → Free gs pd position (option_met form name None names (given_by form words))
  free_alone gs pd position names name d s p calm sees = by_option (is_among name form.options) refl
    where
      quiet : has_lone_dash form.options false words ≡ false
      quiet = calm_any form.options (is_among name form.options) words calm

      by_flag : (b : Bool) → is_among name form.flags ≡ b → is_among name form.options ≡ false → Free gs pd position (cond b (with_value name (codes "true") (given_by form words names None)) None)
      by_flag true f e = reacted_to c gs pd position word words (flag_built name) [] (name, codes "true") (given_by form words names None) d s (flag_uses name) (flag_turn c gs (pending_of pd) position word name sees (found_flag name e f)) (flag_walked c gs (pending_of pd) position word name sees (found_flag name e f))
          (λ all distinct. more.free all None position names distinct tt p quiet)
      by_flag false f e = free_refused gs pd position kind.UnknownArgument (unknown_fault c gs (pending_of pd) word name None sees (found_none name e f))

      by_option : (b : Bool) → is_among name form.options ≡ b → Free gs pd position (cond b (given_by form words names (Some name)) (cond (is_among name form.flags) (with_value name (codes "true") (given_by form words names None)) None))
      by_option true e = asked_for c gs pd position word name words (given_by form words names (Some name)) d s (asks_turn c gs (pending_of pd) position word name sees (found_option name e)) (asks_walked c gs (pending_of pd) position word name sees (found_option name e))
          (λ all distinct. more.asked all name position names distinct (t.value name e) p (sym (ap (λ (b : Bool). has_lone_dash form.options b words) e) ∙ calm))
      by_option false e = by_flag (is_among name form.flags) refl e

  free_step : (gs : Given) (pd : Option (Text × Text)) (position : ℕ) (names : List Text) → Distinct gs → Suits c pd → Positions c position names → has_lone_dash form.options false (word ∷ words) ≡ false → Free gs pd position (given_by form (word ∷ words) names None)
  unfolding given_by
  free_step gs pd position names d s p calm = go (kind_of word) refl (seen word)
    where
      later : bytes_eq word (codes "--") ≡ false → has_lone_dash form.options (asks form.options (kind_of word)) words ≡ false
      later e = calm_later form.options false word words calm e

      quiet : bytes_eq word (codes "--") ≡ false → has_lone_dash form.options false words ≡ false
      quiet e = calm_any form.options (asks form.options (kind_of word)) words (later e)

      go : (k : Kind) → kind_of word ≡ k → Seen word k → Free gs pd position (kind_met form k word words names (given_by form words))
      go ends e h = subst (λ (w : Text). outcome c (start_at gs (pending_of pd) position) (w ∷ words) ≡ expected (joined gs (front pd (all_positionals words names)))) (sym h) (turned c (start_at gs (pending_of pd) position) (at gs (pending_of pd) idle position true) (45 ∷ 45 ∷ []) [] words (ends_turn c gs (pending_of pd) idle position) (ends_walked c gs (pending_of pd) idle position) ∙ more.last gs pd position names d s p)
      go (option name (Some v)) e h = free_value gs pd position names name v d s p (quiet h.no_end) h
      go (option name None) e h = free_alone gs pd position names name d s p (sym (ap (λ (k : Kind). has_lone_dash form.options (asks form.options k) words) e) ∙ later h.no_end) h
      go refused e h = free_refused gs pd position kind.UnknownArgument (letters_fault c gs (pending_of pd) word t.short u h)
      go plain e h = free_plain gs pd position names d s p (quiet h.no_end) h

  -- a word that no option takes for its value
  not_taken : (gs : Given) (name : Text) (position : ℕ) (names : List Text) → begins_with_dash word ≡ true → outcome c (at gs (Some (name, [])) (waits_for name) position false) (word ∷ words) ≡ None → outcome c (at gs (Some (name, [])) (waits_for name) position false) (word ∷ words) ≡ expected (joined gs (cond (begins_with_dash word) None (with_value name word (given_by form words names None))))
  not_taken gs name position names e none = none ∙ sym (ap expected (joined_none gs)) ∙ sym (ap (λ (b : Bool). expected (joined gs (cond b None (with_value name word (given_by form words names None))))) e)

  asked_failed : (gs : Given) (name : Text) (position : ℕ) (kinds : Kinds) → word_fault (shape_with c) [] false idle word (held gs (Some (name, []))) ≡ kinds → clean kinds ≡ false → outcome c (at gs (Some (name, [])) (waits_for name) position false) (word ∷ words) ≡ None
  asked_failed gs name position kinds e f = failed c (at gs (Some (name, [])) (waits_for name) position false) word words (clean_first _ _ kinds e f)

  asked_option : (gs : Given) (name : Text) (position : ℕ) (other : Text) (v : Option Text) → HasValue c name → Sees word (Some (other, v)) None → outcome c (at gs (Some (name, [])) (waits_for name) position false) (word ∷ words) ≡ None
  asked_option gs name position other v h sees = by_option (is_among other form.options) refl
    where
      missing : settle_fault c false (held gs (Some (name, []))) ≡ kind.InvalidValue ∷ []
      missing = no_value c gs name h

      by_value : (w : Option Text) → Sees word (Some (other, w)) None → arg_by_long c other ≡ Some (option_built other) → outcome c (at gs (Some (name, [])) (waits_for name) position false) (word ∷ words) ≡ None
      by_value None sees found = asked_failed gs name position (kind.InvalidValue ∷ []) (asks_fault_is c gs (Some (name, [])) word other sees found ∙ missing) refl
      by_value (Some x) sees found = asked_failed gs name position (kind.InvalidValue ∷ []) (long_fault_is c gs (Some (name, [])) word other x sees found ∙ ap (λ (ks : Kinds). or_else ks (use_fault false (option_built other) (x ∷ []) (settled c (held gs (Some (name, [])))).rows)) missing) refl

      for_flag : (w : Option Text) → Sees word (Some (other, w)) None → arg_by_long c other ≡ Some (flag_built other) → outcome c (at gs (Some (name, [])) (waits_for name) position false) (word ∷ words) ≡ None
      for_flag None sees found = asked_failed gs name position (kind.InvalidValue ∷ []) (flag_fault_is c gs (Some (name, [])) word other sees found ∙ ap (λ (ks : Kinds). or_else ks (use_fault false (flag_built other) [] (settled c (held gs (Some (name, [])))).rows)) missing) refl
      for_flag (Some x) sees found = asked_failed gs name position (kind.TooManyValues ∷ []) (valued_flag_fault c gs (Some (name, [])) word other x sees found) refl

      by_flag : (b : Bool) → is_among other form.flags ≡ b → is_among other form.options ≡ false → outcome c (at gs (Some (name, [])) (waits_for name) position false) (word ∷ words) ≡ None
      by_flag true f e = for_flag v sees (found_flag other e f)
      by_flag false f e = asked_failed gs name position (kind.UnknownArgument ∷ []) (unknown_fault c gs (Some (name, [])) word other v sees (found_none other e f)) refl

      by_option : (b : Bool) → is_among other form.options ≡ b → outcome c (at gs (Some (name, [])) (waits_for name) position false) (word ∷ words) ≡ None
      by_option true e = by_value v sees (found_option other e)
      by_option false e = by_flag (is_among other form.flags) refl e

  asked_step : (gs : Given) (name : Text) (position : ℕ) (names : List Text) → Distinct gs → HasValue c name → Positions c position names → has_lone_dash form.options true (word ∷ words) ≡ false
      → outcome c (at gs (Some (name, [])) (waits_for name) position false) (word ∷ words) ≡ expected (joined gs (given_by form (word ∷ words) names (Some name)))
  unfolding given_by
  asked_step gs name position names d v p calm = go (kind_of word) refl (seen word)
    where
      quiet : bytes_eq word (codes "--") ≡ false → has_lone_dash form.options false words ≡ false
      quiet e = calm_any form.options (asks form.options (kind_of word)) words (calm_later form.options true word words calm e)

      go : (k : Kind) → kind_of word ≡ k → Seen word k → outcome c (at gs (Some (name, [])) (waits_for name) position false) (word ∷ words) ≡ expected (joined gs (cond (begins_with_dash word) None (with_value name word (given_by form words names None))))
      go ends e h = not_taken gs name position names (begins word ends e (λ same. absurd (cc))) (subst (λ (w : Text). outcome c (at gs (Some (name, [])) (waits_for name) position false) (w ∷ words) ≡ None) (sym h) (turned c (at gs (Some (name, [])) (waits_for name) position false) (at gs (Some (name, [])) (waits_for name) position true) (45 ∷ 45 ∷ []) [] words (ends_turn c gs (Some (name, [])) (waits_for name) position) (ends_walked c gs (Some (name, [])) (waits_for name) position) ∙ late c gs name position names words v p))
      go (option other w) e h = not_taken gs name position names (begins word (option other w) e (λ same. absurd (cc))) (asked_option gs name position other w v h)
      go refused e h = not_taken gs name position names (begins word refused e (λ same. absurd (cc))) (asked_failed gs name position (kind.UnknownArgument ∷ []) (letters_fault c gs (Some (name, [])) word t.short u h) refl)
      go plain e h =
          let taken : begins_with_dash word ≡ false = plain_begins word e (calm_dash form.options word words calm) in
          turned c (at gs (Some (name, [])) (waits_for name) position false) (start_at gs (Some (name, word ∷ [])) position) word [] words (value_turn c gs name position word v h) (value_walked c gs name position word v h)
          ∙ more.free gs (Some (name, word)) position names d v p (quiet h.no_end) ∙ sym (ap (λ (b : Bool). expected (joined gs (cond b None (with_value name word (given_by form words names None))))) taken)

-- each word is text
abbrev pub AreTexts : List Text → Type 0
AreTexts [] = Unit {0}
AreTexts (word ∷ words) = IsUtf8 word × AreTexts words

unasked : (c : List Rule) (gs : Given) (name : Text) (position : ℕ) → HasValue c name → outcome c (at gs (Some (name, [])) (waits_for name) position false) [] ≡ None
unfolding outcome walk_fault
unasked c gs name position v = (λ i. cond (clean (or_else (no_value c gs name v i) (or_else (defaults_fault (settled c (held gs (Some (name, [])))).rows c) (check_fault (shape_with c) (finished c (held gs (Some (name, [])))) false)))) (Some (settled c (held gs (Some (name, [])))).rows) None)

no_words : (form : Form) (c : List Rule) → Table form c → Claims form c []
unfolding given_by
no_words form c t = record {
  free = λ gs pd position names d s p calm. ended form c gs pd position false t d s;
  asked = λ gs name position names d v p calm. unasked c gs name position v ∙ sym (ap expected (joined_none gs));
  last = λ gs pd position names d s p. ended form c gs pd position true t d s;
}

pub claims : (form : Form) (c : List Rule) → Table form c → (words : List Text) → AreTexts words → Claims form c words
claims form c t [] u = no_words form c t
claims form c t (word ∷ words) u =
    let more : Claims form c words = claims form c t words u.1 in
    record {
      free = free_step form c t word words u.0 more;
      asked = asked_step form c t word words u.0 more;
      last = last_step form c t word words u.0 more;
    }
