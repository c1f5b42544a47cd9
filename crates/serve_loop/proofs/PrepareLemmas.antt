-- What the supply gave is taken into the traffic.
use Rattle.std.proofs.Common.{ℕ, ◌≡◌, ◌+◌, ◌≤◌, ◌++◌, List, [], ◌∷◌, Option, refl}
use Rattle.std.specs.List.{AllByRecursion}
use Rattle.list_laws.proofs.Each.{all_so}
use Rattle.tpf_base.specs.Marks.{Mark}
use Rattle.tpf_base.specs.Links.{WireState}
use Rattle.connections.specs.Versions.{Serving, SupplyState}
use Rattle.connections.specs.Kinds.{Kind, Grows}
use Rattle.serve_loop.specs.declared.live.Live.{Live}
use Rattle.serve_loop.specs.Traffic.{Given, Talk, Traffic, Moment, took, with_given, updated, moment}
use Rattle.serve_loop.specs.Relates.{IsTalk, Relates, Versions}
use Rattle.serve_loop.proofs.ReloadLemmas.{talk_took, versions_took, versions_none, excused_later}

module _ {C Data Settings : Type 0} where
  -- with other versions and the same wire, where each talk is one still
  with_versions : (kind : Kind C Data Settings) (may : Data → Type 0) (first : List Data) (since : Moment Data Settings) (t : Traffic C Data) (at : ℕ → Option (Live C)) (len : ℕ)
      (served served' : Serving Data Settings) (supply supply' : SupplyState Data) (w : WireState) (history : List Data) (gifts : List (Given Data)) (owner : ℕ → ℕ)
      → Relates kind may first since t at len (moment served supply w) → Versions may first since history gifts (moment served' supply' w)
      → ((k : ℕ) (talk : Talk C) → IsTalk kind since t.history t.owner (moment served supply w) k talk → IsTalk kind since history owner (moment served' supply' w) k talk)
      → Relates kind may first since (record t { history = history; given = gifts; owner = owner }) at len (moment served' supply' w)
  with_versions kind may first since t at len served served' supply supply' w history gifts owner r versions still = record {
    versions = versions;
    lives = r.lives;
    alone = r.alone;
    talks = λ k from given. let h = r.talks k from given in record { talk = h.talk; talk_is = h.talk_is; is = still k h.talk h.is };
    unseen = r.unseen;
    owned = r.owned;
    older = r.older;
    count = r.count;
    ends = let e = r.ends in record {
      ordered = e.ordered;
      broken = e.broken;
      starved = e.starved;
      ordered_once = e.ordered_once;
      broken_once = e.broken_once;
      starved_once = e.starved_once;
      faults = e.faults;
    };
  }

  -- a data set that the server took: the next version, which is that of the link that asked
  pub relates_took : (kind : Kind C Data Settings) → Grows kind → (may : Data → Type 0) (first : List Data) (since : Moment Data Settings) (t : Traffic C Data) (at : ℕ → Option (Live C)) (len : ℕ)
      (served served' : Serving Data Settings) (supply supply' : SupplyState Data) (w : WireState) (k : ℕ) (d : Data) (added : List (Given Data))
      → Relates kind may first since t at len (moment served supply w) → took added ≡ d ∷ [] → served' ≡ record served { data_set = d; version = served.version + 1 }
      → supply.left ≡ with_given added supply'.left → AllByRecursion may (took added) → supply.faults ≤ supply'.faults
      → Relates kind may first since (record t { history = t.history ++ d ∷ []; given = t.given ++ added; owner = updated t.owner (served.version + 1) k }) at len (moment served' supply' w)
  relates_took kind grows may first since t at len served served' supply supply' w k d added r one next told may_be later =
      with_versions kind may first since t at len served served' supply supply' w (t.history ++ d ∷ []) (t.given ++ added) (updated t.owner (served.version + 1) k) r
      (versions_took may first since t.history t.given added d (moment served supply w) (moment served' supply' w) r.versions one next told may_be later)
      (λ j talk h. talk_took kind grows since t.history t.owner d (moment served supply w) (moment served' supply' w) j k talk next later refl h)

  -- nothing that the server took
  pub relates_none : (kind : Kind C Data Settings) (may : Data → Type 0) (first : List Data) (since : Moment Data Settings) (t : Traffic C Data) (at : ℕ → Option (Live C)) (len : ℕ)
      (served : Serving Data Settings) (supply supply' : SupplyState Data) (w : WireState) (added : List (Given Data))
      → Relates kind may first since t at len (moment served supply w) → took added ≡ []
      → supply.left ≡ with_given added supply'.left → supply.faults ≤ supply'.faults
      → Relates kind may first since (record t { given = t.given ++ added }) at len (moment served supply' w)
  relates_none kind may first since t at len served supply supply' w added r none told later =
      with_versions kind may first since t at len served served supply supply' w t.history (t.given ++ added) t.owner r
      (versions_none may first since t.history t.given added (moment served supply w) (moment served supply' w) r.versions none refl told later)
      (λ k talk i. record {
        answers = i.answers;
        within = i.within;
        sent_is = i.sent_is;
        received_is = i.received_is;
        excused = all_so _ _ (λ (m : Mark). excused_later since.supply.faults supply.faults supply'.faults later m) talk.marks i.excused;
        level = i.level;
        numbers = i.numbers;
        rising = i.rising;
      })
