-- The links that were given since a moment, after each call.
use Rattle.std.proofs.Common.{ℕ, ◌≡◌, ◌≢◌, ◌+◌, ◌<◌, ◌≤◌, inl, inr, Option, Some, None, refl, sym, ◌∙◌, ap, ap₂, subst, arith}
use Rattle.std.specs.Prelude.{List, true, false}
use Rattle.std.proofs.lemmas.Bool.{cases_lt, cases_eq}
use Rattle.tpf_base.specs.Addresses.{Address}
use Rattle.tpf_base.specs.Links.{Link, Nature, Tells, WireState, told_by}
use Rattle.tpf_base.specs.Calls.{Closes}
use Rattle.exchange.specs.Exchanges.{Exchanging}
use Rattle.exchange.specs.Polls.{Touches, LinkAfter, ClosedOn}
use Rattle.request_pool.specs.Owned.{on_link, open_on, times_open}
use Rattle.request_pool.specs.Polls.{Shuts}
use Rattle.request_pool.proofs.Owned.{on_same, on_other, one_at_most, same_open, closed_none}
use Rattle.request_pool.proofs.Risen.{some_is, on_its}
use Rattle.pool_laws.specs.Owning.{IsAsBefore, Same, Woken}
use Rattle.pool_laws.specs.Hosts.{IsAtOneOf, IsDialledFor, GivesAtHosts}

-- ---- what a poll does to the links

pub off_link : (o : Option ℕ) (k : ℕ) → on_link o k ≡ 0 → o ≢ Some k
off_link o k z = λ e. absurd (omega (arith, z, on_its o k e))

-- from the link before to the link after it
pub record After (address : Address) (o p : Option ℕ) (a b : WireState) : Type 0 where
  pub given : a.given ≤ b.given
  pub same : (k : ℕ) → on_link p k ≡ 0 → b.links k ≡ a.links k
  pub peer_old : (k : ℕ) → k < a.given → (b.links k).peer ≡ (a.links k).peer
  pub is_new : (k : ℕ) → a.given ≤ k → k < b.given → ((b.links k).peer ≡ told_by a.nature.tells (address.host, address.port)) × (on_link p k ≡ 1)
  pub same_old : (k : ℕ) → k < a.given → on_link p k ≡ on_link o k

same_peer : (a b : WireState) (k : ℕ) → b.links k ≡ a.links k → (b.links k).peer ≡ (a.links k).peer
same_peer a b k e = ap (λ (x : Link). x.peer) e

pub after_link : (address : Address) (o p : Option ℕ) (a b : WireState) → LinkAfter address o p a b → ((k : ℕ) → p ≢ Some k → b.links k ≡ a.links k) → After address o p a b
after_link address (Some j) (Some i) a b l same = record {
  given = omega (arith, l.1);
  same = λ k z. same k (off_link (Some i) k z);
  peer_old = λ k below. elim (cases_eq j k) [ inl e ↦ subst (λ (x : ℕ). (b.links x).peer ≡ (a.links x).peer) e l.3 | inr n ↦ same_peer a b k (same k (λ e. n (sym l.0 ∙ some_is i k e))) ];
  is_new = λ k low below. absurd (omega (arith, low, below, l.1));
  same_old = λ k below. ap (λ (x : ℕ). on_link (Some x) k) l.0;
}
after_link address (Some j) None a b l same = absurd l
after_link address None None a b l same = record {
  given = omega (arith, l.0);
  same = λ k z. same k (off_link None k z);
  peer_old = λ k below. same_peer a b k (same k (off_link None k refl));
  is_new = λ k low below. absurd (omega (arith, low, below, l.0));
  same_old = λ k below. refl;
}
after_link address None (Some i) a b l same = record {
  given = omega (arith, l.1);
  same = λ k z. same k (off_link (Some i) k z);
  peer_old = λ k below. same_peer a b k (same k (off_link (Some i) k (off_new i k a l.0 below)));
  is_new = λ k low below. at_new i k a b low below l.0 l.1 l.3;
  same_old = λ k below. off_new i k a l.0 below;
}
  where
    off_new : (i k : ℕ) (a : WireState) → i ≡ a.given → k < a.given → on_link (Some i) k ≡ 0
    off_new i k a e below = on_other i k (λ x. absurd (omega (arith, e, below, x)))

    at_new : (i k : ℕ) (a b : WireState) → a.given ≤ k → k < b.given → i ≡ a.given → b.given ≡ a.given + 1 → (b.links i).peer ≡ told_by a.nature.tells (address.host, address.port)
        → ((b.links k).peer ≡ told_by a.nature.tells (address.host, address.port)) × (on_link (Some i) k ≡ 1)
    at_new i k a b low below e more peer =
        let q : i ≡ k = omega (arith, low, below, e, more) in
        (subst (λ (x : ℕ). (b.links x).peer ≡ told_by a.nature.tells (address.host, address.port)) q peer, on_same i k q)

pub same_dialled : (homes : List Address) (tells : Tells) (was is : Option (List ℕ × ℕ)) → is ≡ was → IsDialledFor homes tells was → IsDialledFor homes tells is
same_dialled homes tells was is e d = record { home = d.home; is_home = d.is_home; is_peer = e ∙ d.is_peer }

-- ---- what is known of the links since a moment, where each is held so often

pub record Keeps (homes : List Address) (since : WireState) (times : ℕ → ℕ) (a : WireState) : Type 0 where
  pub gives : GivesAtHosts homes since a
  pub owned : (k : ℕ) → since.given ≤ k → k < a.given → open_on a k ≤ times k
  pub none : (k : ℕ) → k < since.given → times k ≡ 0

module _ (homes : List Address) (since : WireState) where
  pub keeps_as : (was is : ℕ → ℕ) (a : WireState) → ((k : ℕ) → is k ≡ was k) → Keeps homes since was a → Keeps homes since is a
  keeps_as was is a same h = record { gives = h.gives; owned = λ k low below. omega (arith, h.owned k low below, same k); none = λ k low. same k ∙ h.none k low }

  before_same : (a b : WireState) (k : ℕ) → b.links k ≡ a.links k → IsAsBefore (since.links k) (a.links k) → IsAsBefore (since.links k) (b.links k)
  before_same a b k e h = subst (λ (x : Link). IsAsBefore (since.links k) x) (sym e) h

  dialled_at : (address : Address) (a : WireState) (peer : Option (List ℕ × ℕ)) → IsAtOneOf homes address → a.nature ≡ since.nature → peer ≡ told_by a.nature.tells (address.host, address.port) → IsDialledFor homes since.nature.tells peer
  dialled_at address a peer is n told = record {
    home = is.home;
    is_home = is.is_home;
    is_peer = told ∙ ap (λ (x : Nature). told_by {A = List ℕ × ℕ} x.tells (address.host, address.port)) n ∙ ap₂ (λ (h : List ℕ) (p : ℕ). told_by {A = List ℕ × ℕ} since.nature.tells (h, p)) is.same_host is.same_port;
  }

  below_later : (k n m : ℕ) → k < n → n ≤ m → k < m
  below_later k n m h i = omega (arith, h, i)

  after_gives : (address : Address) (o p : Option ℕ) (rest : ℕ → ℕ) (a b : WireState) → IsAtOneOf homes address → b.nature ≡ a.nature → After address o p a b → Keeps homes since (λ k. on_link o k + rest k) a → GivesAtHosts homes since b
  after_gives address o p rest a b is n t h = record {
    later = omega (arith, h.gives.later, t.given);
    nature = n ∙ h.gives.nature;
    peers = λ k low below. elim (cases_lt k a.given) [ inl l ↦ same_dialled homes since.nature.tells (a.links k).peer (b.links k).peer (t.peer_old k l) (h.gives.peers k low l) | inr l ↦ dialled_at address a (b.links k).peer is h.gives.nature (t.is_new k l below).0 ];
    before = λ k low. before_same a b k (t.same k (omega (arith, t.same_old k (below_later k since.given a.given low h.gives.later), h.none k low))) (h.gives.before k low);
  }

  after_owned : (address : Address) (o p : Option ℕ) (rest : ℕ → ℕ) (a b : WireState) → After address o p a b → Keeps homes since (λ k. on_link o k + rest k) a → (k : ℕ) → since.given ≤ k → k < b.given → open_on b k ≤ on_link p k + rest k
  after_owned address o p rest a b t h k low below = elim (cases_lt 0 (on_link p k)) [
    | inl some ↦ omega (arith, one_at_most b k, some)
    | inr none ↦ (
        let z : on_link p k ≡ 0 = omega (arith, none) in
        elim (cases_lt k a.given) [
          | inl l ↦ omega (arith, same_open a b k (t.same k z), h.owned k low l, t.same_old k l, z)
          | inr l ↦ absurd (omega (arith, (t.is_new k l below).1, z))
        ])
  ]

  -- a poll of an exchange for an address there
  pub poll_keeps : (e f : Exchanging) (rest : ℕ → ℕ) (a b : WireState) → IsAtOneOf homes e.address → Touches e f a b → Keeps homes since (λ k. on_link e.link k + rest k) a → Keeps homes since (λ k. on_link f.link k + rest k) b
  poll_keeps e f rest a b is t h =
      let after = after_link e.address e.link f.link a b t.link t.others in
      record {
        gives = after_gives e.address e.link f.link rest a b is t.nature after h;
        owned = after_owned e.address e.link f.link rest a b after h;
        none = λ k low. omega (arith, after.same_old k (below_later k since.given a.given low h.gives.later), h.none k low);
      }

  -- a closed link need not be held
  pub drop_keeps : (o : Option ℕ) (rest : ℕ → ℕ) (a : WireState) → ClosedOn o a → Keeps homes since (λ k. on_link o k + rest k) a → Keeps homes since rest a
  drop_keeps None rest a closed h = record { gives = h.gives; owned = λ k low below. omega (arith, h.owned k low below); none = λ k low. omega (arith, h.none k low) }
  drop_keeps (Some i) rest a closed h = record {
    gives = h.gives;
    owned = λ k low below. elim (cases_eq i k) [
      | inl e ↦ omega (arith, closed_none (a.links k).is_open (subst (λ (x : ℕ). (a.links x).is_open ≡ false) e closed))
      | inr n ↦ omega (arith, h.owned k low below, on_other i k n)
    ];
    none = λ k low. omega (arith, h.none k low);
  }

  closed_gives : (i : ℕ) (a b : WireState) → ((k : ℕ) → k < since.given → i ≢ k) → Closes i a b → GivesAtHosts homes since a → GivesAtHosts homes since b
  closed_gives i a b off c h = record {
    later = omega (arith, h.later, c.only.given);
    nature = c.only.nature ∙ h.nature;
    peers = λ k low below. elim (cases_eq i k) [
      | inl e ↦ same_dialled homes since.nature.tells (a.links k).peer (b.links k).peer (subst (λ (x : ℕ). (b.links x).peer ≡ (a.links x).peer) e c.peer) (h.peers k low (omega (arith, below, c.only.given)))
      | inr n ↦ same_dialled homes since.nature.tells (a.links k).peer (b.links k).peer (same_peer a b k (c.only.others k (λ e. n (sym e)))) (h.peers k low (omega (arith, below, c.only.given)))
    ];
    before = λ k low. before_same a b k (c.only.others k (λ e. off k low (sym e))) (h.before k low);
  }

  -- a link is closed that was held
  pub shut_keeps : (o : Option ℕ) (rest : ℕ → ℕ) (a b : WireState) → Shuts o a b → Keeps homes since (λ k. on_link o k + rest k) a → Keeps homes since rest b
  shut_keeps None rest a b s h = subst (λ (x : WireState). Keeps homes since rest x) (sym s) (drop_keeps None rest a tt h)
  shut_keeps (Some i) rest a b c h =
      let off : (k : ℕ) → k < since.given → i ≢ k = λ k low e. absurd (omega (arith, h.none k low, on_same i k e)) in
      record {
        gives = closed_gives i a b off c h.gives;
        owned = λ k low below. elim (cases_eq i k) [
          | inl e ↦ omega (arith, closed_none (b.links k).is_open (subst (λ (x : ℕ). (b.links x).is_open ≡ false) e c.is_open))
          | inr n ↦ omega (arith, h.owned k low (omega (arith, below, c.only.given)), on_other i k n, same_open a b k (c.only.others k (λ e. n (sym e))))
        ];
        none = λ k low. omega (arith, h.none k low);
      }

  open_after : (s a : Link) → IsAsBefore s a → a.is_open ≡ s.is_open
  open_after s a (Same e) = ap (λ (x : Link). x.is_open) e
  open_after s a (Woken o e) = ap (λ (x : Link). x.is_open) e

  woken_again : (s a b : Link) → IsAsBefore s a → b ≡ record a { woken = true } → b ≡ record s { woken = true }
  woken_again s a b (Same e) f = f ∙ ap (λ (x : Link). record x { woken = true }) e
  woken_again s a b (Woken o e) f = f ∙ ap (λ (x : Link). record x { woken = true }) e

  before_then : (s a b : Link) → IsAsBefore s a → IsAsBefore a b → IsAsBefore s b
  before_then s a b h (Same e) = subst (λ (x : Link). IsAsBefore s x) (sym e) h
  before_then s a b h (Woken o e) = Woken (sym (open_after s a h) ∙ o) (woken_again s a b h e)

  before_peer : (a b : Link) → IsAsBefore a b → b.peer ≡ a.peer
  before_peer a b (Same e) = ap (λ (x : Link). x.peer) e
  before_peer a b (Woken o e) = ap (λ (x : Link). x.peer) e

  -- a wait answered a link
  pub woken_keeps : (times : ℕ → ℕ) (a b : WireState) → b.given ≡ a.given → b.nature ≡ a.nature → ((k : ℕ) → IsAsBefore (a.links k) (b.links k)) → Keeps homes since times a → Keeps homes since times b
  woken_keeps times a b given nature same h =
      let open_same : (k : ℕ) → open_on b k ≡ open_on a k = λ k. ap times_open (open_after (a.links k) (b.links k) (same k)) in
      record {
        gives = record {
          later = omega (arith, h.gives.later, given);
          nature = nature ∙ h.gives.nature;
          peers = λ k low below. same_dialled homes since.nature.tells (a.links k).peer (b.links k).peer (before_peer (a.links k) (b.links k) (same k)) (h.gives.peers k low (omega (arith, below, given)));
          before = λ k low. before_then (since.links k) (a.links k) (b.links k) (h.gives.before k low) (same k);
        };
        owned = λ k low below. omega (arith, open_same k, h.owned k low (omega (arith, below, given)));
        none = h.none;
      }
