-- A connection that was made ready: what is pending then.
use Rattle.std.proofs.Common.{ℕ, ◌≡◌, ◌<◌, ◌≤◌, inl, inr, ◌++◌, List, [], length, Bool, true, false, refl, sym, ◌∙◌, ap, subst, arith, length-append}
use Rattle.list_laws.proofs.Tests.{not_both_ways}
use Rattle.tpf_base.specs.Links.{WireState}
use Rattle.connections.specs.Versions.{Serving, SupplyState}
use Rattle.connections.specs.Kinds.{Kind, Fills}
use Rattle.serve_loop.specs.declared.live.Live.{Live}
use Rattle.serve_loop.specs.Calls.{Speaks, IsPending, IsOwing, IsWaiting, IsQuiet, IsPrepared}
use Rattle.serve_loop.specs.declared.live.TheConstants.{MOST_SENT}
use Rattle.serve_loop.specs.Steps.{Makes, IsFull, IsFilled, Prepares, IsReady}
use Rattle.serve_loop.specs.Traffic.{moment}
use Rattle.serve_loop.proofs.PreparedLemmas.{nothing_pending}
use Rattle.serve_loop.proofs.AnswerLemmas.{prepares_filled, kept}

live_same : {C : Type 0} (l l' : Live C) → l'.link ≡ l.link → l'.connection ≡ l.connection → l' ≡ l
live_same l l' e f = λ i. record { link = e i; connection = f i }

many_some : (xs : List ℕ) → MOST_SENT ≤ length xs → 0 < length xs
many_some xs h = omega (arith, h)

module _ {C Data Settings : Type 0} where
  -- what was pending stays, and where nothing is owed nothing is made
  fills_pending : (kind : Kind C Data Settings) (server : Serving Data Settings) (c m : C) → Fills kind server c m → 0 < length (kind.pending c) → 0 < length (kind.pending m)
  fills_pending kind server c m f some = let e = ap (λ (l : List ℕ). length l) f.pending in omega (arith, e, some, length-append (kind.pending c) f.more)

  fills_none : (kind : Kind C Data Settings) (server : Serving Data Settings) (c m : C) → Fills kind server c m → kind.pending c ≡ [] → kind.owes c ≡ false → kind.pending m ≡ []
  fills_none kind server c m f none owes = f.pending ∙ ap (λ (l : List ℕ). l ++ f.more) none ∙ f.idle owes

  fills_some : (kind : Kind C Data Settings) (server : Serving Data Settings) (c m : C) → kind.wants c ≡ false → Fills kind server c m → Speaks kind c → 0 < length (kind.pending m)
  fills_some kind server c m wants f (IsPending some) = fills_pending kind server c m f some
  fills_some kind server c m wants f (IsOwing owes) = f.some owes
  fills_some kind server c m wants f (IsWaiting waits) = absurd (not_both_ways (kind.wants c) waits wants)

  -- where something was owed, bytes are pending
  made_some : (kind : Kind C Data Settings) (server : Serving Data Settings) (c m : C) → kind.owes c ≡ true → Makes kind server c m → 0 < length (kind.pending m)
  made_some kind server c m owes (IsFull many same) = subst (λ (x : C). 0 < length (kind.pending x)) (sym same) (many_some (kind.pending c) many)
  made_some kind server c m owes (IsFilled f) = f.some owes

  made_speaks : (kind : Kind C Data Settings) (server : Serving Data Settings) (c m : C) → kind.wants c ≡ false → Makes kind server c m → Speaks kind c → 0 < length (kind.pending m)
  made_speaks kind server c m wants (IsFull many same) s = subst (λ (x : C). 0 < length (kind.pending x)) (sym same) (many_some (kind.pending c) many)
  made_speaks kind server c m wants (IsFilled f) s = fills_some kind server c m wants f s

  made_quiet : (kind : Kind C Data Settings) (server : Serving Data Settings) (c m : C) → Makes kind server c m → IsQuiet kind c → kind.pending m ≡ []
  made_quiet kind server c m (IsFull many same) q = ap kind.pending same ∙ q.pending
  made_quiet kind server c m (IsFilled f) q = fills_none kind server c m f q.pending q.owes

  made_closing : (kind : Kind C Data Settings) (server : Serving Data Settings) (c m : C) → Makes kind server c m → kind.closing m ≡ kind.closing c
  made_closing kind server c m (IsFull many same) = ap kind.closing same
  made_closing kind server c m (IsFilled f) = f.closing

  -- no reload waited
  pub prepared_made : (kind : Kind C Data Settings) (server : Serving Data Settings) (c m : C) → kind.wants c ≡ false → Makes kind server c m → IsPrepared kind c m
  prepared_made kind server c m wants made = record {
    speaks = made_speaks kind server c m wants made;
    quiet = made_quiet kind server c m made;
    closing = λ q. made_closing kind server c m made;
  }

  -- a reload was answered before
  pub prepared_answered : (kind : Kind C Data Settings) (server : Serving Data Settings) (c m n : C) → kind.wants c ≡ true → kind.owes m ≡ true → Makes kind server m n → IsPrepared kind c n
  prepared_answered kind server c m n wants owes made = record {
    speaks = λ s. made_some kind server m n owes made;
    quiet = λ q. absurd (not_both_ways (kind.wants c) wants q.wants);
    closing = λ q. absurd (not_both_ways (kind.wants c) wants q.wants);
  }

  pub ready_made : (kind : Kind C Data Settings) (server : Serving Data Settings) (c m : C) → kind.wants c ≡ false → Makes kind server c m → IsReady kind m
  ready_made kind server c m wants (IsFull many same) = record {
    wants = λ none. absurd (nothing_pending (kind.pending c) (ap kind.pending (sym same) ∙ none) (many_some (kind.pending c) many));
    owes = λ none. absurd (nothing_pending (kind.pending c) (ap kind.pending (sym same) ∙ none) (many_some (kind.pending c) many));
  }
  ready_made kind server c m wants (IsFilled f) = record {
    wants = λ none. f.wants ∙ wants;
    owes = λ none. elim f.enough [
      | inl many ↦ absurd (nothing_pending (kind.pending m) none (omega (arith, many)))
      | inr owes ↦ owes
    ];
  }

  pub ready_answered : (kind : Kind C Data Settings) (server : Serving Data Settings) (m n : C) → kind.owes m ≡ true → Makes kind server m n → IsReady kind n
  ready_answered kind server m n owes made = record {
    wants = λ none. absurd (nothing_pending (kind.pending n) none (made_some kind server m n owes made));
    owes = λ none. absurd (nothing_pending (kind.pending n) none (made_some kind server m n owes made));
  }

  -- the traffic after bytes were made
  prepares_full : (kind : Kind C Data Settings) (may : Data → Type 0) (served : Serving Data Settings) (supply : SupplyState Data) (w : WireState) (l : Live C) (ok : Bool)
      → Prepares kind may l l ok (moment served supply w) (moment served supply w)
  prepares_full kind may served supply w l ok = record {
    link = refl;
    live = l;
    link_is = refl;
    live_is = λ e. refl;
    up = omega arith;
    keeps = λ first since t at len key found r. kept kind may first since t at len served supply w key l r found;
  }

  prepares_by : (kind : Kind C Data Settings) (may : Data → Type 0) (served : Serving Data Settings) (supply : SupplyState Data) (w : WireState)
      (l l' : Live C) → l'.link ≡ l.link → Makes kind served l.connection l'.connection
      → Prepares kind may l l' true (moment served supply w) (moment served supply w)
  prepares_by kind may served supply w l l' link (IsFull many same) = subst (λ (y : Live C). Prepares kind may l y true (moment served supply w) (moment served supply w)) (sym (live_same l l' link same)) (prepares_full kind may served supply w l true)
  prepares_by kind may served supply w l l' link (IsFilled f) = prepares_filled kind may served supply w l l' true link (λ e. f)

  pub prepares_made : (kind : Kind C Data Settings) (may : Data → Type 0) (served : Serving Data Settings) (supply : SupplyState Data) (w : WireState)
      (l l' : Live C) (ok : Bool) → l'.link ≡ l.link → (ok ≡ true → Makes kind served l.connection l'.connection)
      → Prepares kind may l l' ok (moment served supply w) (moment served supply w)
  prepares_made kind may served supply w l l' true link makes = prepares_by kind may served supply w l l' link (makes refl)
  prepares_made kind may served supply w l l' false link makes = prepares_filled kind may served supply w l l' false link (λ e. absurd cc)
