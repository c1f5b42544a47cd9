-- What calls one after another leave of their wire.
use Rattle.std.proofs.Common.{ℕ, ◌≡◌, ◌≤◌, ◌<◌, ◌+◌, ◌-◌, ◌^◌, ◌⊎◌, inl, inr, true, false, List, [], ◌∷◌, refl, sym, ap, subst, ◌∙◌, arith}
use Rattle.std.proofs.lemmas.Bool.{cases_lt, true≢false}
use Rattle.rdf_terms.specs.declared.term.Triple.{Triple}
use Rattle.tpf_base.specs.Addresses.{Address}
use Rattle.tpf_base.specs.Links.{Link, WireState, Nature, OpensGiven, told_by}
use Rattle.template_fill.specs.Metadata.{Config}
use Rattle.bgp_core.specs.declared.pattern.Pattern.{Pattern}
use Rattle.bgp_core.specs.Queries.{QueryData}
use Rattle.pool_laws.specs.Owning.{IsAsBefore, Same, Woken}
use Rattle.pool_laws.specs.Provoking.{SparesWire}
use Rattle.pool_laws.proofs.Hosts.{woken_peer}
use Rattle.group_query.specs.Trees.{block_query}
use Rattle.tpf_client.specs.declared.options.Options.{Options}
use Rattle.tpf_client.specs.declared.fault.ClientFault.{ClientFault}
use Rattle.tpf_client.specs.Honest.{IsHonestWire}
use Rattle.tpf_client.specs.Offers.{publisher}
use Rattle.pool_laws.specs.Hosts.{IsDialledFor}
use Rattle.tpf_client.specs.Requests.{AreClosed, AreDialledFor, OthersStay, MovesOn, DialsAtMost, GivesAtMost}
use Rattle.tpf_client.specs.Plans.{NoneOpen}
use Rattle.group_patterns.specs.Blocks.{BlockRows, requests_of, with_budget, GivesRows, GivesAll, EndsBlock}

-- ---- one link

pub stays-closed : (a b : Link) → IsAsBefore a b → a.is_open ≡ false → b ≡ a
stays-closed a b (Same e) closed = e
stays-closed a b (Woken o e) closed = absurd (true≢false (sym o ∙ closed))

still-closed : (a b : Link) → IsAsBefore a b → a.is_open ≡ false → b.is_open ≡ false
still-closed a b s closed = ap (λ (l : Link). l.is_open) (stays-closed a b s closed) ∙ closed

as-then : (a b c : Link) → IsAsBefore a b → IsAsBefore b c → IsAsBefore a c
as-then a b c (Same e) s = subst (λ (l : Link). IsAsBefore l c) e s
as-then a b c (Woken o e) (Same f) = Woken o (f ∙ e)
as-then a b c (Woken o e) (Woken p f) = Woken o (f ∙ ap (λ (l : Link). let m : Link = record l { woken = true } in m) e)

-- ---- what was done, part after part

-- the links and the counts, where no more than so many dials and links were wanted
pub record Onward (start : Address) (spent : ℕ) (since now : WireState) : Type 0 where
  pub closed : AreClosed since now
  pub peers : AreDialledFor (start ∷ []) since now
  pub others : OthersStay since now
  pub moves : MovesOn since now
  pub dials : DialsAtMost spent since now
  pub given : GivesAtMost spent since now

pub not-both : (k n : ℕ) → n ≤ k → k < n → ⊥
not-both k n l m = omega (arith, l, m)

moves-none : (w : WireState) → MovesOn w w
moves-none w = record { nature = refl; given = let n = w.given in omega arith; faults = let n = w.faults in omega arith; dials = let n = w.dials in omega arith }

pub moves-then : (a b c : WireState) → MovesOn a b → MovesOn b c → MovesOn a c
moves-then a b c p q = record {
  nature = q.nature ∙ p.nature;
  given = let m = p.given in let n = q.given in omega (arith, m, n);
  faults = let m = p.faults in let n = q.faults in omega (arith, m, n);
  dials = let m = p.dials in let n = q.dials in omega (arith, m, n);
}

pub onward-none : (start : Address) (w : WireState) → Onward start 0 w w
onward-none start w = record {
  closed = λ k l m. absurd (not-both k w.given l m);
  peers = λ k l m. absurd (not-both k w.given l m);
  others = λ k l. Same refl;
  moves = moves-none w;
  dials = let n = w.dials in omega arith;
  given = let n = w.given in omega arith;
}

module _ (start : Address) (m n : ℕ) (a b c : WireState) (p : Onward start m a b) (q : Onward start n b c) where
  closed-then : AreClosed a c
  closed-then k l h = by (cases_lt k b.given)
    where
      by : (k < b.given) ⊎ (b.given ≤ k) → (c.links k).is_open ≡ false
      by (inl below) = still-closed (b.links k) (c.links k) (q.others k below) (p.closed k l below)
      by (inr past) = q.closed k past h

  peers-then : AreDialledFor (start ∷ []) a c
  peers-then k l h = by (cases_lt k b.given)
    where
      by : (k < b.given) ⊎ (b.given ≤ k) → IsDialledFor (start ∷ []) a.nature.tells (c.links k).peer
      by (inl below) = let d = p.peers k l below in record { home = d.home; is_home = d.is_home; is_peer = woken_peer (b.links k) (c.links k) (q.others k below) ∙ d.is_peer }
      by (inr past) = let d = q.peers k past h in record { home = d.home; is_home = d.is_home; is_peer = d.is_peer ∙ ap (λ (x : Nature). told_by x.tells (d.home.host, d.home.port)) p.moves.nature }

  others-then : OthersStay a c
  others-then k l = let h = p.moves.given in as-then (a.links k) (b.links k) (c.links k) (p.others k l) (q.others k (omega (arith, l, h)))

  pub onward-then : Onward start (m + n) a c
  onward-then = record {
    closed = closed-then;
    peers = peers-then;
    others = others-then;
    moves = moves-then a b c p.moves q.moves;
    dials = let h = p.dials in let i = q.dials in omega (arith, h, i);
    given = let h = p.given in let i = q.given in omega (arith, h, i);
  }

pub onward-more : (start : Address) (m n : ℕ) (a b : WireState) → m ≤ n → Onward start m a b → Onward start n a b
onward-more start m n a b l p = record {
  closed = p.closed;
  peers = p.peers;
  others = p.others;
  moves = p.moves;
  dials = let h = p.dials in omega (arith, h, l);
  given = let h = p.given in omega (arith, h, l);
}

-- ---- the calls

module _ (allows : List ℕ → ℕ → List ℕ → List ℕ → Type 0) (options : Options) (start : Address) (names : List (List ℕ)) where
  pub row-onward : (q : QueryData) (o : Options) (b : BlockRows) (u v : WireState) → GivesRows allows o start q b u v → Onward start b.report.requests u v
  row-onward q o b u v g = record {
    closed = g.acts.closed;
    peers = g.acts.peers;
    others = g.acts.others;
    moves = g.acts.moves;
    dials = g.acts.dialled;
    given = g.acts.linked;
  }

  pub end-onward : (q : QueryData) (o : Options) (fault : ClientFault) (u v : WireState) → EndsBlock allows o start q fault u v → Onward start o.budget u v
  end-onward q o fault u v g = record {
    closed = g.acts.closed;
    peers = g.acts.peers;
    others = g.acts.others;
    moves = g.acts.moves;
    dials = g.acts.dials;
    given = g.acts.given;
  }

  pub chain-onward : (left : ℕ) (pss : List (List Pattern)) (bs : List BlockRows) (u w : WireState) → GivesAll allows options start names left pss bs u w → Onward start (requests_of bs) u w
  chain-onward left [] [] u w g = subst (λ (x : WireState). Onward start 0 u x) (sym g) (onward-none start u)
  chain-onward left [] (b ∷ bs) u w g = absurd g
  chain-onward left (ps ∷ pss) [] u w g = absurd g
  chain-onward left (ps ∷ pss) (b ∷ bs) u w g =
      onward-then start b.report.requests (requests_of bs) u g.0 w (row-onward (block_query names ps) (with_budget options left) b u g.0 g.1) (chain-onward (left - b.report.requests) pss bs g.0 w g.2)

  -- no more requests than there was of the budget
  pub chain-within : (left : ℕ) (pss : List (List Pattern)) (bs : List BlockRows) (u w : WireState) → GivesAll allows options start names left pss bs u w → requests_of bs ≤ left
  chain-within left [] [] u w g = omega arith
  chain-within left [] (b ∷ bs) u w g = absurd g
  chain-within left (ps ∷ pss) [] u w g = absurd g
  chain-within left (ps ∷ pss) (b ∷ bs) u w g =
      let h = chain-within (left - b.report.requests) pss bs g.0 w g.2 in
      let i : b.report.requests ≤ left = g.1.acts.within in
      omega (arith, h, i)

-- ---- over an honest wire

pub honest-then : (allows : List ℕ → ℕ → List ℕ → List ℕ → Type 0) (start : Address) (history : List (List Triple)) (config : Config) (a b : WireState) → MovesOn a b → IsHonestWire allows start history config a → IsHonestWire allows start history config b
honest-then allows start history config a b m h = record {
  tells = ap (λ (x : Nature). x.tells) m.nature ∙ h.tells;
  is_honest = h.is_honest;
  is_history = h.is_history;
  is_config = h.is_config;
  few = h.few;
}

-- ---- over a steady wire

pub spares-none : (w : WireState) → SparesWire w w
spares-none w = record { provoked = refl; faults = λ e. refl }

pub spares-then : (a b c : WireState) → MovesOn a b → SparesWire a b → SparesWire b c → SparesWire a c
spares-then a b c m p q = record {
  provoked = q.provoked ∙ p.provoked;
  faults = λ e. q.faults (ap (λ (x : Nature). x.every) m.nature ∙ e) ∙ p.faults e;
}

-- no link is open behind a call, where none was before it
none-open : (start : Address) (n : ℕ) (a b : WireState) → Onward start n a b → NoneOpen a → OpensGiven b → NoneOpen b
none-open start n a b p none alone k = by (cases_lt k a.given) (cases_lt k b.given)
  where
    by : (k < a.given) ⊎ (a.given ≤ k) → (k < b.given) ⊎ (b.given ≤ k) → (b.links k).is_open ≡ false
    by (inl before) x = still-closed (a.links k) (b.links k) (p.others k before) (none k)
    by (inr since) (inl below) = p.closed k since below
    by (inr since) (inr past) = alone k past

module _ (allows : List ℕ → ℕ → List ℕ → List ℕ → Type 0) (options : Options) (start : Address) (names : List (List ℕ)) (history : List (List Triple)) (config : Config) where
  -- what holds behind blocks that gave their rows
  pub record Spared (u w : WireState) (most : ℕ) : Type 0 where
    pub spares : SparesWire u w
    pub none : NoneOpen w
    pub few : w.given + most < 2 ^ 63

  pub chain-spares : (left : ℕ) (pss : List (List Pattern)) (bs : List BlockRows) (u w : WireState) → GivesAll allows options start names left pss bs u w → IsHonestWire allows start history config u
      → u.nature.steady ≡ true → NoneOpen u → u.given + left < 2 ^ 63 → Spared u w (left - requests_of bs)
  chain-spares left [] [] u w g honest steady none few = subst (λ (x : WireState). Spared u x (left - 0)) (sym g) (record { spares = spares-none u; none = none; few = omega (arith, few) })
  chain-spares left [] (b ∷ bs) u w g honest steady none few = absurd g
  chain-spares left (ps ∷ pss) [] u w g honest steady none few = absurd g
  chain-spares left (ps ∷ pss) (b ∷ bs) u w g honest steady none few =
      let r = g.1 in
      let on = row-onward allows options start names (block_query names ps) (with_budget options left) b u g.0 r in
      let given = on.given in
      let within : b.report.requests ≤ left = r.acts.within in
      let more = chain-spares (left - b.report.requests) pss bs g.0 w g.2 (honest-then allows start history config u g.0 on.moves honest) (ap (λ (x : Nature). x.steady) on.moves.nature ∙ steady)
      (none-open start b.report.requests u g.0 on none r.alone) (omega (arith, few, given, within)) in
      let last = more.few in
      record {
        spares = spares-then u g.0 w on.moves (r.acts.plan.unprovoked (publisher history config) honest steady none few) more.spares;
        none = more.none;
        few = omega (arith, last);
      }
