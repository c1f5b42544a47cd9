-- What the door gave, and the connections that are kept for it.
use Rattle.std.proofs.Common.{ℕ, ◌≡◌, ◌+◌, ◌<◌, ◌≤◌, ◌⊎◌, inl, inr, Option, Some, None, true, false, refl, sym, ◌∙◌, ap, subst, arith}
use Rattle.std.proofs.lemmas.Bool.{cases_eq}
use Rattle.std.specs.Prelude.{IfSome, IfNone, OnOk, Result, Ok, Err}
use Rattle.slab.specs.Slab.{Slab, get, slab_len, Updates}
use Rattle.tpf_base.specs.Causes.{Rose}
use Rattle.tpf_base.specs.Links.{Link, WireState}
use Rattle.tpf_base.specs.Calls.{GivesAccepted, GivesNone, OnlyAccepts}
use Rattle.connections.specs.Kinds.{Kind, Opens}
use Rattle.serve_loop.specs.declared.live.Live.{Live}
use Rattle.serve_loop.specs.declared.live.ServeFault.TheVariants as faults
use Rattle.serve_loop.specs.declared.live.TheConstants.{MOST_LIVE}
use Rattle.serve_loop.specs.Calls.{ServesAlone}
use Rattle.serve_loop.specs.Relates.{SuitsWire}
use Rattle.serve_loop.specs.Service.{FailsTurn}
use Rattle.serve_loop.specs.Steps.{Welcomes}
use Rattle.list_laws.proofs.Tests.{not_both_ways}
use Rattle.serve_loop.proofs.AskedLemmas.{none_given}
use Rattle.serve_loop.proofs.CallLemmas.{alone_none}
use Rattle.serve_loop.proofs.RelatesLemmas.{none_some}
use Rattle.serve_loop.proofs.SentenceLemmas.{some_same}

pub alone_accepts : (a b : WireState) → OnlyAccepts a b → a.door.faults ≤ b.door.faults → ServesAlone a b
alone_accepts a b x later = record { dials = x.dials; nature = x.nature; place = x.place; calls = x.calls; stalls = x.stalls; door_faults = later; faults = x.later }

-- want of memory before the door was asked
pub fails_still : (a : WireState) → FailsTurn faults.OutOfMemory a a
fails_still a = record { cause = (refl, refl); none = none_given a; waits = refl; alone = alone_none a }

-- an answer that is known
pub if_some : {A : Type 0} (o : Option A) (x : A) (P : A → Type 0) → o ≡ Some x → IfSome o P → P x
if_some o x P e h = subst (λ o'. IfSome o' P) e h

pub if_none : {A : Type 0} (o : Option A) (P : Type 0) → o ≡ None → IfNone o P → P
if_none o P e h = subst (λ o'. IfNone o' P) e h

-- what is so, whatever is answered
pub any_ok : {A E : Type 0} (r : Result A E) (P : Type 0) → P → OnOk r P
any_ok (Ok x) P h = h
any_ok (Err e) P h = tt

-- the same wire at the begin
pub alone_from : (a b c : WireState) → b ≡ a → ServesAlone b c → ServesAlone a c
alone_from a b c e h = subst (λ (w : WireState). ServesAlone w c) e h

-- how many are live, and how many ended, where a link was given before and where none was
pub counts_given : (a b : WireState) (old mid new ended middle after : ℕ) → b ≡ a → mid ≡ old + 1 → middle ≡ b.given + 1 → after ≡ middle → new + ended ≡ mid → new + ended + a.given ≡ old + after
counts_given a b old mid new ended middle after e more given same len = let g = ap (λ (w : WireState). w.given) e in omega (arith, g, more, given, same, len)

pub counts_none : (a b : WireState) (old mid new ended middle after : ℕ) → b ≡ a → mid ≡ old → middle ≡ b.given → after ≡ middle → new + ended ≡ mid → new + ended + a.given ≡ old + after
counts_none a b old mid new ended middle after e more given same len = let g = ap (λ (w : WireState). w.given) e in omega (arith, g, more, given, same, len)

module _ {T : Type 0} where
  -- a slab with another capacity keeps what it has
  pub kept_at : (s u : Slab T) → u ≡ record s { capacity = u.capacity } → (k : ℕ) → get u k ≡ get s k
  kept_at s u e k = ap (λ (x : Slab T). get x k) e

  pub kept_len : (s u : Slab T) → u ≡ record s { capacity = u.capacity } → slab_len u ≡ slab_len s
  kept_len s u e = ap (λ (x : Slab T). slab_len x) e

  pub kept_few : (s u : Slab T) (most : ℕ) → u ≡ record s { capacity = u.capacity } → slab_len s ≤ most → slab_len u ≤ most
  kept_few s u most e few = subst (λ (n : ℕ). n ≤ most) (sym (kept_len s u e)) few

abbrev live_at : {C : Type 0} → ℕ → C → Live C
live_at link connection = record { link = link; connection = connection }

module _ {Server C : Type 0} where
  -- the same wire
  pub suits_from : (Suits : Server → C → Type 0) (server : Server) (at : ℕ → Option (Live C)) (a b : WireState) → b ≡ a → SuitsWire Suits server at a → SuitsWire Suits server at b
  suits_from Suits server at a b e x = subst (λ (w : WireState). SuitsWire Suits server at w) (sym e) x

  -- where there is no connection
  pub suits_empty : (Suits : Server → C → Type 0) (server : Server) (at : ℕ → Option (Live C)) (a : WireState) → ((key : ℕ) → at key ≡ None) → SuitsWire Suits server at a
  suits_empty Suits server at a none = record {
    is_open = λ key l h. absurd (none_some l (sym (none key) ∙ h));
    given = λ key l h. absurd (none_some l (sym (none key) ∙ h));
    suits = λ key l h. absurd (none_some l (sym (none key) ∙ h));
    distinct = λ i j x y h k e. absurd (none_some x (sym (none i) ∙ h));
  }

  -- where no link was given
  pub suits_kept : (Suits : Server → C → Type 0) (server : Server) (s u : Slab (Live C)) (a b : WireState) → u ≡ record s { capacity = u.capacity } → GivesNone a b
      → SuitsWire Suits server (λ k. get s k) a → SuitsWire Suits server (λ k. get u k) b
  suits_kept Suits server s u a b e none x =
      let same : (k : ℕ) → get s k ≡ get u k = λ k. sym (kept_at s u e k) in
      record {
        is_open = λ k l h. ap (λ (y : Link). y.is_open) (none.links l.link) ∙ x.is_open k l (same k ∙ h);
        given = λ k l h. subst (λ (n : ℕ). l.link < n) (sym none.given) (x.given k l (same k ∙ h));
        suits = λ k l h. x.suits k l (same k ∙ h);
        distinct = λ i j p q h f. x.distinct i j p q (same i ∙ h) (same j ∙ f);
      }

  -- where one was given, and its connection is kept
  pub suits_given : (Suits : Server → C → Type 0) (server : Server) (s r u : Slab (Live C)) (key : ℕ) (l : Live C) (a b : WireState) → r ≡ record s { capacity = r.capacity } → Updates r u key (Some l)
      → GivesAccepted l.link a b → Suits server l.connection → SuitsWire Suits server (λ k. get s k) a → SuitsWire Suits server (λ k. get u k) b
  suits_given Suits server s r u key l a b e up g fits x =
      let gm = g.more in
      let gn = g.is_next in
      let back : (i : ℕ) (y : Live C) → get u i ≡ Some y → ((i ≡ key) × (y ≡ l)) ⊎ (get s i ≡ Some y) =
      λ i y h. elim (cases_eq i key) [
        | inl p ↦ inl (p, some_same (get u key) y l (ap (λ (n : ℕ). get u n) (sym p) ∙ h) up.changed)
        | inr n ↦ inr (sym (up.others i n ∙ kept_at s r e i) ∙ h)
      ] in
      record {
        is_open = λ i y h. elim (back i y h) [
          | inl p ↦ ap (λ (z : Live C). (b.links z.link).is_open) p.1 ∙ g.is_open
          | inr q ↦ let old = x.given i y q in ap (λ (z : Link). z.is_open) (g.others y.link (λ f. absurd (omega (arith, old, gn, f)))) ∙ x.is_open i y q
        ];
        given = λ i y h. elim (back i y h) [
          | inl p ↦ subst (λ (z : Live C). z.link < b.given) (sym p.1) (omega (arith, gm, gn))
          | inr q ↦ let old = x.given i y q in omega (arith, old, gm)
        ];
        suits = λ i y h. elim (back i y h) [
          | inl p ↦ subst (λ (z : Live C). Suits server z.connection) (sym p.1) fits
          | inr q ↦ x.suits i y q
        ];
        distinct = λ i j y z h k f. elim (back i y h) [
          | inl p ↦ elim (back j z k) [
            | inl q ↦ p.0 ∙ sym q.0
            | inr q ↦ let old = x.given j z q in let same = ap (λ (v : Live C). v.link) p.1 in absurd (omega (arith, old, gn, f, same))
          ]
          | inr p ↦ elim (back j z k) [
            | inl q ↦ let old = x.given i y p in let same = ap (λ (v : Live C). v.link) q.1 in absurd (omega (arith, old, gn, f, same))
            | inr q ↦ x.distinct i j y z p q f
          ]
        ];
      }

module _ {C Data Settings : Type 0} where
  pub welcomes_none : (kind : Kind C Data Settings) (at new : ℕ → Option (Live C)) (len after : ℕ) (a b : WireState) → ((k : ℕ) → new k ≡ at k) → after ≡ len → GivesNone a b → b.waits ≡ a.waits → ServesAlone a b
      → b.door.faults ≡ a.door.faults → (MOST_LIVE ≤ len) ⊎ Rose a.door.stalls b.door.stalls → Welcomes kind at new false len after a b
  welcomes_none kind at new len after a b same count none waits alone calm door = record {
    key = 0;
    vacant = λ e. absurd (not_both_ways false e refl);
    found = λ e. absurd (not_both_ways false e refl);
    others = λ k h. same k;
    more = λ e. absurd (not_both_ways false e refl);
    same = λ e. count;
    given = λ e. absurd (not_both_ways false e refl);
    none = λ e. none;
    waits = waits;
    alone = alone;
    calm = calm;
    door = λ e. door;
  }

  pub welcomes_given : (kind : Kind C Data Settings) (s r u : Slab (Live C)) (key : ℕ) (l : Live C) (a b : WireState) → r ≡ record s { capacity = r.capacity } → get r key ≡ None → Updates r u key (Some l)
      → slab_len u ≡ slab_len r + 1 → Opens kind l.connection → GivesAccepted l.link a b → b.waits ≡ a.waits → ServesAlone a b → b.door.faults ≡ a.door.faults
      → Welcomes kind (get s) (get u) true (slab_len s) (slab_len u) a b
  welcomes_given kind s r u key l a b e vacant up more opens g waits alone calm = record {
    key = key;
    vacant = λ t. sym (kept_at s r e key) ∙ vacant;
    found = λ t. (l.connection, (opens, up.changed ∙ ap (λ (n : ℕ). Some (live_at n l.connection)) g.is_next));
    others = λ k h. elim h [
      | inl n ↦ up.others k n ∙ kept_at s r e k
      | inr f ↦ absurd (not_both_ways true refl f)
    ];
    more = λ t. more ∙ ap (λ (n : ℕ). n + 1) (kept_len s r e);
    same = λ f. absurd (not_both_ways true refl f);
    given = λ t. subst (λ (n : ℕ). GivesAccepted n a b) g.is_next g;
    none = λ f. absurd (not_both_ways true refl f);
    waits = waits;
    alone = alone;
    calm = calm;
    door = λ f. absurd (not_both_ways true refl f);
  }
