-- Steps of the keys are steps of the traffic; and which connections suit the wire after them.
use Rattle.std.proofs.Common.{ℕ, ◌≡◌, ◌≢◌, ◌+◌, ◌<◌, ◌≤◌, ◌⊎◌, inl, inr, List, Option, Some, None, true, false, refl, sym, ◌∙◌, ap, subst, arith}
use Rattle.tpf_base.specs.Links.{Link, WireState}
use Rattle.tpf_base.specs.Calls.{OnlyOn}
use Rattle.connections.specs.Kinds.{Kind}
use Rattle.serve_loop.specs.declared.live.Live.{Live}
use Rattle.serve_loop.specs.declared.live.Stepped.{Stepped}
use Rattle.serve_loop.specs.declared.live.Stepped.TheVariants as stepped
use Rattle.serve_loop.specs.declared.live.Turned.{Turned}
use Rattle.serve_loop.specs.Traffic.{Traffic, Moment, took, updated}
use Rattle.serve_loop.specs.Relates.{Relates, SuitsWire}
use Rattle.serve_loop.specs.Calls.{ended_by, starved_by, left_by, ends, turned_by, turned_with}
use Rattle.serve_loop.specs.Steps.{StepsOn, TurnsTo}
use Rattle.serve_loop.proofs.RelatesLemmas.{here, there, none_some}
use Rattle.serve_loop.proofs.StepLemmas.{goes_same}
use Rattle.serve_loop.proofs.EndsLemmas.{ends_same, ends_then, ends_as}
use Rattle.serve_loop.proofs.ChainLemmas.{relates_same, goes_on_then}
use Rattle.serve_loop.proofs.BelowLemmas.{nothing}
use Rattle.serve_loop.proofs.SlotLemmas.{written, written_len, taken_out, has_some, fewer_by_one}
use Rattle.std.specs.Prelude.{OnSome, ◌↔◌}
use Rattle.std.proofs.lemmas.Bool.{cases_eq}
use Rattle.list_laws.proofs.Each.{all_so}
use Rattle.slab.specs.Slab.{Slab, get, slab_len, with_value, Updates}

ended_turned : (answer : Stepped) → ended_by answer ≡ (turned_by (Some answer)).ended
ended_turned stepped.Moved = refl
ended_turned stepped.Still = refl
ended_turned stepped.Ended = refl
ended_turned stepped.Starved = refl

starved_turned : (answer : Stepped) → starved_by answer ≡ (turned_by (Some answer)).starved
starved_turned stepped.Moved = refl
starved_turned stepped.Still = refl
starved_turned stepped.Ended = refl
starved_turned stepped.Starved = refl

ended_with : (x : Turned) (s : Option Stepped) → x.ended + (turned_by s).ended ≡ (turned_with x s).ended
ended_with x None = omega arith
ended_with x (Some stepped.Moved) = omega arith
ended_with x (Some stepped.Still) = omega arith
ended_with x (Some stepped.Ended) = omega arith
ended_with x (Some stepped.Starved) = omega arith

starved_with : (x : Turned) (s : Option Stepped) → x.starved + (turned_by s).starved ≡ (turned_with x s).starved
starved_with x None = omega arith
starved_with x (Some stepped.Moved) = omega arith
starved_with x (Some stepped.Still) = omega arith
starved_with x (Some stepped.Ended) = omega arith
starved_with x (Some stepped.Starved) = omega arith

-- so the counts after one more step, from those that are left
pub counts_with : (x y : Turned) (s : Option Stepped) (whole before after : ℕ) → y ≡ turned_with x s → before + x.ended ≡ whole → after + (turned_by s).ended ≡ before → after + y.ended ≡ whole
counts_with x y s whole before after is e f = let g = ended_with x s in let i = ap (λ (z : Turned). z.ended) is in omega (arith, e, f, g, i)

fewer_with : (x : Turned) (s : Option Stepped) → x.starved ≤ x.ended → (turned_with x s).starved ≤ (turned_with x s).ended
fewer_with x None h = h
fewer_with x (Some stepped.Moved) h = h
fewer_with x (Some stepped.Still) h = h
fewer_with x (Some stepped.Ended) h = omega (arith, h)
fewer_with x (Some stepped.Starved) h = omega (arith, h)

pub fewer_as : (x y : Turned) (s : Option Stepped) → y ≡ turned_with x s → x.starved ≤ x.ended → y.starved ≤ y.ended
fewer_as x y s is h = subst (λ (z : Turned). z.starved ≤ z.ended) (sym is) (fewer_with x s h)

module _ {C Data Settings : Type 0} where
  -- nothing was done
  pub turns_none : (kind : Kind C Data Settings) (may : Data → Type 0) (first : List Data) (since : Moment Data Settings) (t : Traffic C Data) (at : ℕ → Option (Live C)) (len : ℕ) (now : Moment Data Settings)
      → Relates kind may first since t at len now → TurnsTo kind may first since t nothing at len now now
  turns_none kind may first since t at len now r = record {
    traffic = t;
    relates = r;
    ends = ends_same t now.wire.faults now.wire.faults (omega arith);
    goes_on = λ k. goes_same now.served.version (t.talks k);
    up = omega arith;
  }

  -- the step of a key, where the slab is known key by key
  pub turns_step : (kind : Kind C Data Settings) (may : Data → Type 0) (first : List Data) (since : Moment Data Settings) (t : Traffic C Data) (at at' : ℕ → Option (Live C)) (len rest key : ℕ) (l l' : Live C) (answer : Stepped) (old now : Moment Data Settings)
      → StepsOn kind may l l' answer old now → 0 < len → at key ≡ Some l → ((k : ℕ) → at' k ≡ updated at key (left_by answer l') k) → rest + ended_by answer ≡ len
      → Relates kind may first since t at len old → TurnsTo kind may first since t (turned_by (Some answer)) at' rest old now
  turns_step kind may first since t at at' len rest key l l' answer old now steps some found is fewer r =
      let s = steps first since t at len key some found r in
      let li = s.len_is in
      let left : s.left ≡ rest = omega (arith, li, fewer) in
      record {
        traffic = s.traffic;
        relates = relates_same kind may first since s.traffic (updated at key (left_by answer l')) at' rest now is
            (subst (λ (n : ℕ). Relates kind may first since s.traffic (updated at key (left_by answer l')) n now) left s.relates);
        ends = ends_as t s.traffic (ended_by answer) (turned_by (Some answer)).ended (starved_by answer) (turned_by (Some answer)).starved old.wire.faults now.wire.faults (ended_turned answer) (starved_turned answer) s.ends;
        goes_on = s.goes_on;
        up = s.up;
      }

  -- what the supply may give is the same
  pub relates_may : (kind : Kind C Data Settings) (may may' : Data → Type 0) (first : List Data) (since : Moment Data Settings) (t : Traffic C Data) (at : ℕ → Option (Live C)) (len : ℕ) (now : Moment Data Settings)
      → ((d : Data) → may d → may' d) → Relates kind may first since t at len now → Relates kind may' first since t at len now
  relates_may kind may may' first since t at len now f r = let v = r.versions in record {
    versions = record { history_is = v.history_is; serves = v.serves; config = v.config; count = v.count; left = v.left; may_be = all_so may may' f (took t.given) v.may_be; faults = v.faults };
    lives = r.lives;
    alone = r.alone;
    talks = r.talks;
    unseen = r.unseen;
    owned = r.owned;
    older = r.older;
    count = r.count;
    ends = r.ends;
  }

  -- one step more
  pub turns_then : (kind : Kind C Data Settings) (may : Data → Type 0) (first : List Data) (since : Moment Data Settings) (t : Traffic C Data) (x : Turned) (s : Option Stepped) (at at' : ℕ → Option (Live C)) (len rest : ℕ) (old mid now : Moment Data Settings)
      → TurnsTo kind may first since t x at len old mid
      → ((u : Traffic C Data) → Relates kind may first since u at len mid → TurnsTo kind may first since u (turned_by s) at' rest mid now)
      → TurnsTo kind may first since t (turned_with x s) at' rest old now
  turns_then kind may first since t x s at at' len rest old mid now p f =
      let q = f p.traffic p.relates in
      let pu = p.up in
      let qu = q.up in
      record {
        traffic = q.traffic;
        relates = q.relates;
        ends = ends_as t q.traffic (x.ended + (turned_by s).ended) (turned_with x s).ended (x.starved + (turned_by s).starved) (turned_with x s).starved old.wire.faults now.wire.faults (ended_with x s) (starved_with x s)
            (ends_then t p.traffic q.traffic x.ended (turned_by s).ended x.starved (turned_by s).starved old.wire.faults mid.wire.faults now.wire.faults p.ends q.ends);
        goes_on = λ k. goes_on_then old.served.version mid.served.version (t.talks k) (p.traffic.talks k) (q.traffic.talks k) p.up (p.goes_on k) (q.goes_on k);
        up = omega (arith, pu, qu);
      }

  -- one step more, over a supply that was called
  pub turns_more : (kind : Kind C Data Settings) (may may' : Data → Type 0) (first : List Data) (since : Moment Data Settings) (t : Traffic C Data) (x y : Turned) (s : Option Stepped) (at at' : ℕ → Option (Live C)) (len rest : ℕ) (old mid now : Moment Data Settings)
      → ((d : Data) → may' d ↔ may d) → y ≡ turned_with x s → TurnsTo kind may first since t x at len old mid
      → ((u : Traffic C Data) → Relates kind may' first since u at len mid → TurnsTo kind may' first since u (turned_by s) at' rest mid now)
      → TurnsTo kind may first since t y at' rest old now
  turns_more kind may may' first since t x y s at at' len rest old mid now same is p f =
      subst (λ (z : Turned). TurnsTo kind may first since t z at' rest old now) (sym is)
      (turns_then kind may first since t x s at at' len rest old mid now p (λ u r. let q = f u (relates_may kind may may' first since u at len mid (λ d. (same d).1) r) in record {
        traffic = q.traffic;
        relates = relates_may kind may' may first since q.traffic at' rest now (λ d. (same d).0) q.relates;
        ends = q.ends;
        goes_on = q.goes_on;
        up = q.up;
      }))

ends_none_by : (answer : Stepped) → false ≡ ends answer → ended_by answer ≡ 0
ends_none_by stepped.Moved e = refl
ends_none_by stepped.Still e = refl
ends_none_by stepped.Ended e = cc
ends_none_by stepped.Starved e = cc

ends_one_by : (answer : Stepped) → true ≡ ends answer → ended_by answer ≡ 1
ends_one_by stepped.Moved e = cc
ends_one_by stepped.Still e = cc
ends_one_by stepped.Ended e = refl
ends_one_by stepped.Starved e = refl

ended_one : (answer : Stepped) → true ≡ ends answer → (turned_by (Some answer)).ended ≡ 1
ended_one stepped.Moved e = cc
ended_one stepped.Still e = cc
ended_one stepped.Ended e = refl
ended_one stepped.Starved e = refl

ended_none : (answer : Stepped) → false ≡ ends answer → (turned_by (Some answer)).ended ≡ 0
ended_none stepped.Moved e = refl
ended_none stepped.Still e = refl
ended_none stepped.Ended e = cc
ended_none stepped.Starved e = cc

module _ {T : Type 0} where
  -- the other keys after a step that stays, and after one that ends
  pub others_written : (s : Slab T) (key : ℕ) (x y : T) → get s key ≡ Some x → (other : ℕ) → other ≢ key → get (with_value s key y) other ≡ get s other
  others_written s key x y e other n = written s key x y e other ∙ there (get s) key (Some y) other n

  pub others_taken : (s u : Slab T) (key : ℕ) (x y : T) → get s key ≡ Some x → Updates (with_value s key y) u key None → (other : ℕ) → other ≢ key → get u other ≡ get s other
  others_taken s u key x y e h other n = taken_out s u key x y e h other ∙ there (get s) key None other n

module _ {C : Type 0} where
  pub stays_left : (answer : Stepped) (l : Live C) → false ≡ ends answer → left_by answer l ≡ Some l
  stays_left stepped.Moved l e = refl
  stays_left stepped.Still l e = refl
  stays_left stepped.Ended l e = cc
  stays_left stepped.Starved l e = cc

  pub none_left : (answer : Stepped) (l : Live C) → true ≡ ends answer → left_by answer l ≡ None
  none_left stepped.Moved l e = cc
  none_left stepped.Still l e = cc
  none_left stepped.Ended l e = refl
  none_left stepped.Starved l e = refl

  -- nothing is left behind a step that ended
  pub gone_by : (answer end_ : Stepped) (l x : Live C) → answer ≡ end_ → left_by end_ l ≡ None → left_by answer l ≡ Some x → ⊥
  gone_by answer end_ l x e none left = none_some x (sym none ∙ (ap (λ (a : Stepped). left_by a l) (sym e) ∙ left))

  -- the slab after a step that stays, and after one that ends
  pub written_by : (s : Slab (Live C)) (key : ℕ) (l l' : Live C) (answer : Stepped) → get s key ≡ Some l → false ≡ ends answer
      → (k : ℕ) → get (with_value s key l') k ≡ updated (get s) key (left_by answer l') k
  written_by s key l l' answer found e k = written s key l l' found k ∙ ap (λ (o : Option (Live C)). updated (get s) key o k) (sym (stays_left answer l' e))

  pub taken_by : (s u : Slab (Live C)) (key : ℕ) (l l' : Live C) (answer : Stepped) → get s key ≡ Some l → true ≡ ends answer → Updates (with_value s key l') u key None
      → (k : ℕ) → get u k ≡ updated (get s) key (left_by answer l') k
  taken_by s u key l l' answer found e h k = taken_out s u key l l' found h k ∙ ap (λ (o : Option (Live C)). updated (get s) key o k) (sym (none_left answer l' e))

  pub written_fewer : (s : Slab (Live C)) (key : ℕ) (l l' : Live C) (answer : Stepped) → get s key ≡ Some l → false ≡ ends answer → slab_len (with_value s key l') + ended_by answer ≡ slab_len s
  written_fewer s key l l' answer found e = let w = written_len s key l l' found in let n = ends_none_by answer e in omega (arith, w, n)

  pub taken_fewer : (s u : Slab (Live C)) (key : ℕ) (l l' : Live C) (answer : Stepped) → true ≡ ends answer → slab_len u + 1 ≡ slab_len s → slab_len u + ended_by answer ≡ slab_len s
  taken_fewer s u key l l' answer e h = let n = ends_one_by answer e in omega (arith, n, h)

  -- the same as a turn counts it
  pub fewer_written : (s : Slab (Live C)) (key : ℕ) (l l' : Live C) (answer : Stepped) → false ≡ ends answer → get s key ≡ Some l
      → slab_len (with_value s key l') + (turned_by (Some answer)).ended ≡ slab_len s
  fewer_written s key l l' answer e found = let w = written_len s key l l' found in let n = ended_none answer e in omega (arith, w, n)

  pub fewer_taken : (s u : Slab (Live C)) (key : ℕ) (l l' : Live C) (result : Option (Live C)) (answer : Stepped) → true ≡ ends answer → get s key ≡ Some l → result ≡ get (with_value s key l') key
      → OnSome result (slab_len u + 1 ≡ slab_len (with_value s key l')) → slab_len u + (turned_by (Some answer)).ended ≡ slab_len s
  fewer_taken s u key l l' result answer e found removed fewer = let h = fewer_by_one s u key l l' result found removed fewer in let n = ended_one answer e in omega (arith, n, h)

  left_is : (l x : Live C) (answer : Stepped) → left_by answer l ≡ Some x → (left_by answer l ≡ Some l) × (x ≡ l)
  left_is l x stepped.Moved e = (refl, cc)
  left_is l x stepped.Still e = (refl, cc)
  left_is l x stepped.Ended e = absurd (none_some x e)
  left_is l x stepped.Starved e = absurd (none_some x e)

  -- what a step leaves at a key is its connection, and at the others what was there
  pub from_before : (at at' : ℕ → Option (Live C)) (key : ℕ) (l' : Live C) (answer : Stepped) → ((k : ℕ) → at' k ≡ updated at key (left_by answer l') k)
      → (k : ℕ) (x : Live C) → at' k ≡ Some x → ((k ≡ key) × (left_by answer l' ≡ Some l') × (x ≡ l')) ⊎ ((k ≢ key) × (at k ≡ Some x))
  from_before at at' key l' answer is k x h = elim (cases_eq k key) [
    | inl e ↦ let p = left_is l' x answer (sym (here at key (left_by answer l') k e) ∙ sym (is k) ∙ h) in inl (e, p.0, p.1)
    | inr n ↦ inr (n, sym (there at key (left_by answer l') k n) ∙ sym (is k) ∙ h)
  ]

  -- the connections after a step suit the wire
  pub suits_step : {Server : Type 0} (Suits : Server → C → Type 0) (old new : Server) (at at' : ℕ → Option (Live C)) (key : ℕ) (l l' : Live C) (answer : Stepped) (a b : WireState)
      → SuitsWire Suits old at a → at key ≡ Some l → l'.link ≡ l.link → ((k : ℕ) → at' k ≡ updated at key (left_by answer l') k) → OnlyOn l.link a b
      → (left_by answer l' ≡ Some l' → (b.links l.link).is_open ≡ true) → (left_by answer l' ≡ Some l' → Suits new l'.connection) → ((c : C) → Suits old c → Suits new c)
      → SuitsWire Suits new at' b
  suits_step Suits old new at at' key l l' answer a b s found link is only is_open suits stays =
      let back : (k : ℕ) (x : Live C) → at' k ≡ Some x → (y : Live C) × ((at k ≡ Some y) × (y.link ≡ x.link)) =
      λ k x h. elim (from_before at at' key l' answer is k x h) [
        | inl p ↦ (l, (ap at p.0 ∙ found, sym link ∙ ap (λ (y : Live C). y.link) (sym p.2)))
        | inr q ↦ (x, (q.1, refl))
      ] in
      record {
        is_open = λ k x h. elim (from_before at at' key l' answer is k x h) [
          | inl p ↦ ap (λ (y : Live C). (b.links y.link).is_open) p.2 ∙ ap (λ (n : ℕ). (b.links n).is_open) link ∙ is_open p.1
          | inr q ↦ ap (λ (y : Link). y.is_open) (only.others x.link (λ e. q.0 (s.distinct k key x l q.1 found e))) ∙ s.is_open k x q.1
        ];
        given = λ k x h. let y = back k x h in subst (λ (n : ℕ). x.link < n) (sym only.given) (subst (λ (n : ℕ). n < a.given) y.1.1 (s.given k y.0 y.1.0));
        suits = λ k x h. elim (from_before at at' key l' answer is k x h) [
          | inl p ↦ subst (λ (y : Live C). Suits new y.connection) (sym p.2) (suits p.1)
          | inr q ↦ stays x.connection (s.suits k x q.1)
        ];
        distinct = λ i j x y h g e. let p = back i x h in let q = back j y g in s.distinct i j p.0 q.0 p.1.0 q.1.0 (p.1.1 ∙ e ∙ sym q.1.1);
      }

  -- the same, where the slab was written
  pub suits_stays : {Server : Type 0} (Suits : Server → C → Type 0) (old new : Server) (s : Slab (Live C)) (key : ℕ) (l l' : Live C) (answer : Stepped) (a b : WireState)
      → SuitsWire Suits old (λ k. get s k) a → get s key ≡ Some l → false ≡ ends answer → l'.link ≡ l.link → OnlyOn l.link a b
      → (left_by answer l' ≡ Some l' → (b.links l.link).is_open ≡ true) → (left_by answer l' ≡ Some l' → Suits new l'.connection) → ((c : C) → Suits old c → Suits new c)
      → SuitsWire Suits new (λ k. get (with_value s key l') k) b
  suits_stays Suits old new s key l l' answer a b suits found e link only is_open connection stays =
      suits_step Suits old new (λ k. get s k) (λ k. get (with_value s key l') k) key l l' answer a b suits found link (written_by s key l l' answer found e) only is_open connection stays

  -- the same, where it was removed
  pub suits_ends : {Server : Type 0} (Suits : Server → C → Type 0) (old new : Server) (s u : Slab (Live C)) (key : ℕ) (l l' : Live C) (answer : Stepped) (a b : WireState)
      → SuitsWire Suits old (λ k. get s k) a → get s key ≡ Some l → true ≡ ends answer → Updates (with_value s key l') u key None → l'.link ≡ l.link → OnlyOn l.link a b
      → (left_by answer l' ≡ Some l' → (b.links l.link).is_open ≡ true) → (left_by answer l' ≡ Some l' → Suits new l'.connection) → ((c : C) → Suits old c → Suits new c)
      → SuitsWire Suits new (λ k. get u k) b
  suits_ends Suits old new s u key l l' answer a b suits found e updates link only is_open connection stays =
      suits_step Suits old new (λ k. get s k) (λ k. get u k) key l l' answer a b suits found link (taken_by s u key l l' answer found e updates) only is_open connection stays

module _ {C Data Settings : Type 0} where
  -- a step after which the connection stays in the slab
  pub turns_stays : (kind : Kind C Data Settings) (may : Data → Type 0) (first : List Data) (since : Moment Data Settings) (t : Traffic C Data) (s : Slab (Live C)) (key : ℕ) (l l' : Live C) (answer : Stepped) (old now : Moment Data Settings)
      → StepsOn kind may l l' answer old now → get s key ≡ Some l → false ≡ ends answer → Relates kind may first since t (get s) (slab_len s) old
      → TurnsTo kind may first since t (turned_by (Some answer)) (get (with_value s key l')) (slab_len (with_value s key l')) old now
  turns_stays kind may first since t s key l l' answer old now steps found e r =
      turns_step kind may first since t (get s) (get (with_value s key l')) (slab_len s) (slab_len (with_value s key l')) key l l' answer old now steps (has_some s key l found) found
      (written_by s key l l' answer found e) (written_fewer s key l l' answer found e) r

  -- a step after which it was removed
  pub turns_ends : (kind : Kind C Data Settings) (may : Data → Type 0) (first : List Data) (since : Moment Data Settings) (t : Traffic C Data) (s u : Slab (Live C)) (key : ℕ) (l l' : Live C) (result : Option (Live C)) (answer : Stepped) (old now : Moment Data Settings)
      → StepsOn kind may l l' answer old now → get s key ≡ Some l → true ≡ ends answer → result ≡ get (with_value s key l') key → Updates (with_value s key l') u key None → OnSome result (slab_len u + 1 ≡ slab_len (with_value s key l'))
      → Relates kind may first since t (get s) (slab_len s) old
      → TurnsTo kind may first since t (turned_by (Some answer)) (get u) (slab_len u) old now
  turns_ends kind may first since t s u key l l' result answer old now steps found e removed updates fewer r =
      turns_step kind may first since t (get s) (get u) (slab_len s) (slab_len u) key l l' answer old now steps (has_some s key l found) found
      (taken_by s u key l l' answer found e updates) (taken_fewer s u key l l' answer e (fewer_by_one s u key l l' result found removed fewer)) r
