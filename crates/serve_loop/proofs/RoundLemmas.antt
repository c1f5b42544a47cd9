-- How a round stands behind the turns so far, and which part is next.
use Rattle.std.proofs.Common.{ℕ, ◌≡◌, ◌+◌, ◌<◌, ◌≤◌, ◌==◌, inl, inr, List, [], ◌∷◌, Option, Some, Bool, true, false, refl, sym, ◌∙◌, ap, subst, arith, if◌then◌else◌}
use Rattle.std.specs.Prelude.{◌&&◌}
use Rattle.list_laws.proofs.Tests.{not_both_ways}
use Rattle.tpf_base.specs.Links.{Link, WireState}
use Rattle.connections.specs.Kinds.{Kind}
use Rattle.serve_loop.specs.declared.live.Live.{Live}
use Rattle.serve_loop.specs.declared.live.Part.{Part}
use Rattle.serve_loop.specs.declared.live.TheConstants.{MOST_LIVE, SPREAD}
use Rattle.serve_loop.specs.declared.live.Turned.{Turned}
use Rattle.serve_loop.specs.declared.round.Round.{Round}
use Rattle.serve_loop.specs.Calls.{IsBusy}
use Rattle.serve_loop.specs.Parts.{IsNarrow, parted}
use Rattle.serve_loop.specs.Traffic.{Traffic, Moment}
use Rattle.serve_loop.specs.Relates.{Relates}
use Rattle.serve_loop.specs.Service.{PassesBetween}
use Rattle.serve_loop.specs.Rounds.{Turn, IsNext, IsAfter, is_last, is_still, next_behind, quiet_behind, spread_behind, begun_with, begun_before}
use Rattle.serve_loop.proofs.BelowLemmas.{below_or}
use Rattle.serve_loop.proofs.PartLemmas.{among_some}
use Rattle.serve_loop.proofs.PreparedLemmas.{true_or}

-- a turn of this part that began when so many links had been given
abbrev pub turn_of : Part → ℕ → Turned → Turn
turn_of part given turned = record { part = part; given = given; turned = turned }

-- The links of these numbers that were given since are closed.
abbrev AreGone : ℕ → ℕ → ℕ → WireState → Type 0
AreGone since low high wire = (k : ℕ) → since ≤ k → low ≤ k → k < 18446744073709551615 → k < high → (k < wire.given) × ((wire.links k).is_open ≡ false)

-- What a service keeps of its round is so.
pub record Stands (since : ℕ) (turns : List Turn) (round : Round) (wire : WireState) : Type 0 where
  pub next : round.next ≡ next_behind turns
  pub quiet : round.quiet ≡ quiet_behind turns
  pub begun : round.begun ≤ begun_with since turns
  pub newest : round.newest ≤ begun_before since turns
  pub begun_gone : AreGone since round.begun (begun_with since turns) wire
  pub newest_gone : AreGone since round.newest (begun_before since turns) wire
  pub most : round.spread ≤ spread_behind turns
  pub least : SPREAD ≤ round.spread

pub stands_none : (wire : WireState) (round : Round) → round ≡ record { next = 0; quiet = true; begun = 0; newest = 0; spread = SPREAD } → Stands wire.given [] round wire
stands_none wire round e = subst (λ (r : Round). Stands wire.given [] r wire) (sym e) (record {
  next = refl;
  quiet = refl;
  begun = omega arith;
  newest = omega arith;
  begun_gone = λ k later above few below. absurd (omega (arith, later, below));
  newest_gone = λ k later above few below. absurd (omega (arith, later, below));
  most = omega arith;
  least = omega arith;
})

spread_by : (still : Bool) (x r s : ℕ) → x ≤ (if still then r + r else SPREAD) → r ≤ s → x ≤ (if still then s + s else SPREAD)
spread_by true x r s h m = omega (arith, h, m)
spread_by false x r s h m = h

spread_least : (still : Bool) (r : ℕ) → SPREAD ≤ r → SPREAD ≤ (if still then r + r else SPREAD)
spread_least true r h = omega (arith, h)
spread_least false r h = omega arith

-- where a round stands behind its last turn, of which nothing is kept
abbrev pub after_last : Round → Part → Turned → ℕ → Round
after_last round part turned begun = record {
  next = if is_last part then 0 else part.last + 1;
  quiet = if is_last part then true else (round.quiet && is_still turned);
  begun = begun;
  newest = round.begun;
  spread = if is_still turned then round.spread + round.spread else SPREAD;
}

pub is_after : (round : Round) (part : Part) (turned : Turned) (begun : ℕ) → IsAfter round part turned begun (after_last round part turned begun)
is_after round part turned begun = record { next = refl; quiet = refl; begun = refl; newest = refl; most = omega arith; least = spread_least (is_still turned) round.spread }

-- whether the service rests behind it
pub rests_as : (since : ℕ) (turns : List Turn) (round : Round) (wire : WireState) (part : Part) (turned : Turned) (rests : Bool) → Stands since turns round wire
    → rests ≡ ((part.last == 18446744073709551615) && (round.quiet && is_still turned)) → rests ≡ (is_last part && (quiet_behind turns && is_still turned))
rests_as since turns round wire part turned rests s e = e ∙ ap (λ (q : Bool). is_last part && (q && is_still turned)) s.quiet

module _ {C Data Settings : Type 0} where
  -- a link that is closed stays so over a turn and what comes behind it
  stays_closed : (kind : Kind C Data Settings) (may : Data → Type 0) (first : List Data) (since now : Moment Data Settings) (t : Traffic C Data) (at : ℕ → Option (Live C)) (live : ℕ) (part : Part) (turned : Turned) (b c : WireState)
      → Relates kind may first since t at live now → IsBusy kind MOST_LIVE turned (parted part at) live now.wire b → PassesBetween b c
      → (k : ℕ) → k < now.wire.given → (now.wire.links k).is_open ≡ false → (k < c.given) × ((c.links k).is_open ≡ false)
  stays_closed kind may first since now t at live part turned b c r busy between k given closed =
      let bg = busy.given in
      let cg = between.given in
      let same = busy.others k given (λ o. not_both_ways (now.wire.links k).is_open
      (subst (λ (j : ℕ). (now.wire.links j).is_open ≡ true) o.link (r.lives o.key o.live (among_some part (at o.key) o.live o.found).0).is_open) closed) in (
        omega (arith, given, bg, cg),
        ap (λ (l : Link). l.is_open) (between.links k (omega (arith, given, bg))).1 ∙ (ap (λ (l : Link). l.is_open) same ∙ closed),
      )

  -- one turn more, and what came behind it
  pub stands_more : (kind : Kind C Data Settings) (may : Data → Type 0) (first : List Data) (since now : Moment Data Settings) (t : Traffic C Data) (at : ℕ → Option (Live C)) (live : ℕ) (turns : List Turn) (round new : Round) (part : Part) (turned : Turned) (begun : ℕ) (b c : WireState)
      → Relates kind may first since t at live now → IsBusy kind MOST_LIVE turned (parted part at) live now.wire b → PassesBetween b c → Stands since.wire.given turns round now.wire → begun ≤ now.wire.given
      → ((key : ℕ) (l : Live C) → at key ≡ Some l → l.link < 18446744073709551615 → l.link < begun) → IsAfter round part turned begun new
      → Stands since.wire.given (turn_of part now.wire.given turned ∷ turns) new c
  stands_more kind may first since now t at live turns round new part turned begun b c r busy between s few less e =
      let nb = e.begun in
      let nn = e.newest in
      let sb = s.begun in
      let stays = stays_closed kind may first since now t at live part turned b c r busy between in
      record {
        next = e.next;
        quiet = e.quiet ∙ ap (λ (q : Bool). if is_last part then true else (q && is_still turned)) s.quiet;
        begun = omega (arith, nb, few);
        newest = omega (arith, nn, sb);
        begun_gone = λ k later above fits below. stays k below (elim (true_or (now.wire.links k).is_open) [
          | inl open_ ↦ let o = r.owned k later below open_ in let q = o.link in let d = less o.key o.live o.found (omega (arith, q, fits)) in absurd (omega (arith, above, nb, q, d))
          | inr closed ↦ closed
        ]);
        newest_gone = λ k later above fits below. let g = s.begun_gone k later (omega (arith, above, nn)) fits below in stays k g.0 g.1;
        most = spread_by (is_still turned) new.spread round.spread (spread_behind turns) e.most s.most;
        least = e.least s.least;
      }

  -- the part that is next
  pub next_part : (kind : Kind C Data Settings) (may : Data → Type 0) (first : List Data) (since now : Moment Data Settings) (t : Traffic C Data) (at : ℕ → Option (Live C)) (live : ℕ) (turns : List Turn) (round : Round) (part : Part)
      → Relates kind may first since t at live now → Stands since.wire.given turns round now.wire → part.first ≡ round.next → part.newest ≡ round.newest → IsNarrow part round.spread at
      → (part.last < 18446744073709551615 → round.next + round.spread ≤ part.last) → IsNext since.wire.given turns part now.wire
  next_part kind may first since now t at live turns round part r s from newest narrow wide =
      let sn = s.newest in
      record {
        first = from ∙ s.next;
        low = narrow.low;
        narrow = λ k later given is_open above below.
            let o = r.owned k later given is_open in
            let w = narrow.within o.key o.live o.found (subst (λ (j : ℕ). part.first ≤ j) (sym o.link) above) (subst (λ (j : ℕ). j ≤ part.last) (sym o.link) below) in
            let low = w.0 in
            let high = w.1 in
            let q = o.link in
            let m = s.most in
            (omega (arith, low, q), omega (arith, high, q, m));
        wide = λ few. let h = wide few in let l = s.least in omega (arith, h, from, l);
        newest = omega (arith, sn, newest);
        alone = λ k later given fits is_open above. elim (below_or k (begun_before since.wire.given turns)) [
          | inl below ↦ absurd (not_both_ways (now.wire.links k).is_open is_open (s.newest_gone k later (omega (arith, above, newest)) fits below).1)
          | inr behind ↦ behind
        ];
      }
