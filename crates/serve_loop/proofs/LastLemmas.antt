-- A connection that closes is live no more behind its last byte.
use Rattle.std.proofs.Common.{ℕ, ◌≡◌, ◌≢◌, ◌+◌, ◌<◌, ◌≤◌, inl, inr, [], length, Option, Some, None, Bool, true, false, refl, sym, ◌∙◌, ap, subst, arith}
use Rattle.tpf_base.specs.Links.{WireState}
use Rattle.connections.specs.Kinds.{Kind}
use Rattle.slab.specs.Slab.{Slab, get, with_value}
use Rattle.serve_loop.specs.declared.live.Live.{Live}
use Rattle.serve_loop.specs.declared.live.Part.{Part}
use Rattle.serve_loop.specs.declared.live.Stepped.{Stepped}
use Rattle.serve_loop.specs.Calls.{AllGoOn, GoesOnSpeaking, IsPrepared, IsQuiet, ends, left_by}
use Rattle.serve_loop.specs.Parts.{parted}
use Rattle.serve_loop.specs.Steps.{Welcomes}
use Rattle.serve_loop.proofs.PartLemmas.{among_some, among_in}
use Rattle.serve_loop.proofs.BelowLemmas.{below_or, last_or}
use Rattle.serve_loop.proofs.PreparedLemmas.{nothing_pending}
use Rattle.serve_loop.proofs.RelatesLemmas.{here, none_some}
use Rattle.serve_loop.proofs.SentenceLemmas.{some_same}
use Rattle.serve_loop.proofs.SlotLemmas.{written}
use Rattle.serve_loop.proofs.TurnLemmas.{stays_left}

module _ {C Data Settings : Type 0} where
  -- what is pending still is to be sent
  pub pending_speaks : (kind : Kind C Data Settings) (old new : Live C) → new ≡ old → 0 < length (kind.pending old.connection) → IsQuiet kind new.connection → ⊥
  pending_speaks kind old new same some quiet = nothing_pending (kind.pending old.connection) (ap (λ (l : Live C). kind.pending l.connection) (sym same) ∙ quiet.pending) some

  -- a connection that had something to send was made ready with some bytes
  pub quiet_before : (kind : Kind C Data Settings) (old mid new : C) → IsPrepared kind old mid → kind.pending mid ≡ [] → GoesOnSpeaking kind old new
  quiet_before kind old mid new p none = λ speaks closing quiet. nothing_pending (kind.pending mid) none (p.speaks speaks)

  -- what is left at a key
  pub goes_on_at : (kind : Kind C Data Settings) (old new : Live C) (slot left : Option (Live C)) → slot ≡ Some old → left ≡ Some new → GoesOnSpeaking kind old.connection new.connection
      → (l m : Live C) → slot ≡ Some l → left ≡ Some m → GoesOnSpeaking kind l.connection m.connection
  goes_on_at kind old new slot left e f h l m p q =
      subst (λ (x : Live C). GoesOnSpeaking kind x.connection m.connection) (some_same slot old l e p)
      (subst (λ (x : Live C). GoesOnSpeaking kind old.connection x.connection) (some_same left new m f q) h)

  -- a step that stays
  pub goes_on_stays : (kind : Kind C Data Settings) (s : Slab (Live C)) (key : ℕ) (x l' : Live C) (answer : Stepped) → get s key ≡ Some x → false ≡ ends answer
      → (left_by answer l' ≡ Some l' → GoesOnSpeaking kind x.connection l'.connection)
      → (l m : Live C) → get s key ≡ Some l → get (with_value s key l') key ≡ Some m → GoesOnSpeaking kind l.connection m.connection
  goes_on_stays kind s key x l' answer found e h =
      goes_on_at kind x l' (get s key) (get (with_value s key l') key) found (written s key x l' found key ∙ here (get s) key (Some l') key refl) (h (stays_left answer l' e))

  -- ---- of the keys below one

  abbrev pub GoOnBelow : Kind C Data Settings → ℕ → (ℕ → Option (Live C)) → (ℕ → Option (Live C)) → Type 0
  GoOnBelow kind n at new = (key : ℕ) (x y : Live C) → key < n → at key ≡ Some x → new key ≡ Some y → GoesOnSpeaking kind x.connection y.connection

  pub go_on_none : (kind : Kind C Data Settings) (at new : ℕ → Option (Live C)) → GoOnBelow kind 0 at new
  go_on_none kind at new = λ key x y below. absurd (omega (arith, below))

  pub go_on_more : (kind : Kind C Data Settings) (n : ℕ) (slot : Option (Live C)) (at mid new : ℕ → Option (Live C)) → GoOnBelow kind n at mid → slot ≡ at n → ((other : ℕ) → other ≢ n → new other ≡ mid other)
      → ((x y : Live C) → slot ≡ Some x → new n ≡ Some y → GoesOnSpeaking kind x.connection y.connection) → GoOnBelow kind (n + 1) at new
  go_on_more kind n slot at mid new h same others last = λ key x y below e f. elim (last_or key n below) [
    | inl p ↦ last x y (same ∙ ap at (sym p) ∙ e) (ap new (sym p) ∙ f)
    | inr q ↦ h key x y q e (sym (others key (λ r. absurd (omega (arith, q, r)))) ∙ f)
  ]

  pub go_on_all : (kind : Kind C Data Settings) (n : ℕ) (at new : ℕ → Option (Live C)) → ((key : ℕ) → n ≤ key → at key ≡ None) → GoOnBelow kind n at new → AllGoOn kind at new
  go_on_all kind n at new above h = λ key x y e f. elim (below_or key n) [
    | inl p ↦ h key x y p e f
    | inr q ↦ absurd (none_some x (sym (above key q) ∙ e))
  ]

  -- ---- who was live before the door was asked

  kept_welcomed : (kind : Kind C Data Settings) (at at' : ℕ → Option (Live C)) (accepted : Bool) (len after : ℕ) (a b : WireState) → Welcomes kind at at' accepted len after a b
      → (key : ℕ) (l : Live C) → at key ≡ Some l → at' key ≡ Some l
  kept_welcomed kind at at' true len after a b w key l e = w.others key (inl (λ p. none_some l (sym (w.vacant refl) ∙ ap at (sym p) ∙ e))) ∙ e
  kept_welcomed kind at at' false len after a b w key l e = w.others key (inr refl) ∙ e

  pub go_on_welcomed : (kind : Kind C Data Settings) (part : Part) (at at' new : ℕ → Option (Live C)) (accepted : Bool) (len after : ℕ) (a b : WireState)
      → Welcomes kind at at' accepted len after a b → AllGoOn kind (parted part at') new → AllGoOn kind (parted part at) new
  go_on_welcomed kind part at at' new accepted len after a b w h = λ key x y e f. let s = among_some part (at key) x e in
      h key x y (among_in part (at' key) x (kept_welcomed kind at at' accepted len after a b w key x s.0) s.1) f
