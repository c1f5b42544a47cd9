-- The start pages, and then the rest of a call.
use Rattle.std.proofs.Common.{ℕ, ◌≡◌, ◌≤◌, ◌<◌, ◌++◌, ◌*◌, List, [], length, Option, refl, sym, ap, subst, ◌∙◌, arith}
use Rattle.std.proofs.Math.Nat.{le-max_left, le-max_right}
use Rattle.std.proofs.lemmas.List.{length-map}
use Rattle.std.proofs.lemmas.List.Sorted.{IsPermutation-refl}
use Rattle.template_fill.specs.declared.form.Form.{Form}
use Rattle.tpf_base.specs.Addresses.{Address}
use Rattle.tpf_base.specs.Links.{WireState, SameAllowed}
use Rattle.tpf_base.specs.Wrote.{SinkState}
use Rattle.bgp_core.specs.Queries.{QueryData}
use Rattle.bgp_core.specs.Solutions.{Places}
use Rattle.fragment_page.specs.declared.page.Page.{Page}
use Rattle.result_json.specs.Pieces.{PiecesMakeTheText, RowsGoOn}
use Rattle.request_pool.specs.Pools.{Pooled, held}
use Rattle.request_pool.specs.Owned.{SuitsWire}
use Rattle.request_plan.specs.Rounds.{FormsAtHome}
use Rattle.tpf_client.specs.declared.options.Options.{Options}
use Rattle.tpf_client.specs.declared.options.Report.{Report}
use Rattle.tpf_client.specs.declared.fault.ClientFault.{ClientFault}
use Rattle.tpf_client.specs.declared.fault.ClientFault.TheVariants as faults
use Rattle.tpf_client.specs.declared.start.StartPages.{StartPages}
use Rattle.tpf_client.specs.Traffic.{PoolEvent, Travels}
use Rattle.tpf_client.specs.Causes.{Explains, Versions}
use Rattle.tpf_client.specs.Told.{told_at}
use Rattle.tpf_client.specs.Sources.{Sources}
use Rattle.tpf_client.specs.Shown.{ShowsRest, ShowsGiven, WritesShown}
use Rattle.tpf_client.specs.Turns.{AsksAt, WaitFew}
use Rattle.tpf_client.specs.Starts.{HasStarts, HasNoStarts, TellsStarts, StandsBehind, forms_of, versions_of}
use Rattle.tpf_client.specs.Calls.{Ran, most_over, Returns, WritesAll, WritesSome, WritesRest, WritesLess, PartOf, WholeOf, GathersRest, Before, Behind, AtEnd, WritesResult, WritesPrefix, JoinsSome}
use Rattle.tpf_client.proofs.Homes.{asks-behind, starts-home}
use Rattle.tpf_client.proofs.Few.{few-more, few-then}
use Rattle.tpf_client.proofs.Several.{none-many, reads-many}
use Rattle.tpf_client.proofs.Traveling.{travels-then, travels-allowed, no-events}
use Rattle.tpf_client.proofs.Texts.{same-written, nothing-written, rows-more}

-- ---- what the start pages told

module _ (allows : List ℕ → ℕ → List ℕ → List ℕ → Type 0) (starts : List Address) (pages : List Page) (told : StartPages) (old new : Pooled) (wire wire' : WireState) (t : TellsStarts told pages) (s : HasStarts allows starts pages old new wire wire') where
  forms-told : FormsAtHome starts told.forms
  forms-told = subst (λ (l : List Form). FormsAtHome starts l) (sym t.forms) (starts-home starts pages s.events s.reads)

  as-many : (n m k : ℕ) → 0 < n → m ≡ n → k ≡ m → 0 < k
  as-many n m k l e f = omega (arith, l, e, f)

  pub forms-many : length told.forms ≡ length starts
  forms-many = ap (λ (l : List Form). length l) t.forms ∙ (length-map pages (λ page. page.form) ∙ reads-many starts pages s.events s.reads)

  pub stands-behind : 0 < length starts → StandsBehind starts told new wire'
  stands-behind some = record {
    home = forms-told;
    some = as-many (length starts) (length starts) (length told.forms) some refl forms-many;
    told = as-many (length starts) (length pages) (length told.versions.items) some (reads-many starts pages s.events s.reads) (ap (λ (l : List (Option ℕ)). length l) t.versions ∙ length-map pages (λ page. page.version));
    rest = s.rest;
  }

-- ---- the start pages, and what stands behind them

module _ (allows between-allows : List ℕ → ℕ → List ℕ → List ℕ → Type 0) (same : SameAllowed allows between-allows) (sources : Sources) (options : Options) (q : QueryData) (starts : List Address) (pages : List Page) (told : StartPages) (old mid new : Pooled) (wire between wire' : WireState)
    (t : TellsStarts told pages) (s : HasStarts allows starts pages old mid wire between) where
  -- as many asks may wait for their replies at once behind the start pages, and in all
  abbrev behind : ℕ
  behind = length q.patterns * (options.window * length told.forms)

  abbrev most : ℕ
  most = most_over options q (length starts)

  few-of : (later : List PoolEvent) → WaitFew behind (length (held mid)) later → WaitFew most (length (held old)) (s.events ++ later)
  few-of later few =
      let n = length q.patterns * (options.window * length starts) in
      few-then allows most s.events later old mid wire between s.travels s.rest.no_fault (few-more 1 most (length (held old)) s.events (le-max_left 1 n) s.few)
      (few-more n most (length (held mid)) later (le-max_right 1 n)
      (subst (λ (m : ℕ). WaitFew (length q.patterns * (options.window * m)) (length (held mid)) later) (forms-many allows starts pages told old mid wire between t s) few))

  ran-of : (later : List PoolEvent) → Travels between-allows later mid new between wire' → SuitsWire new wire' → WaitFew behind (length (held mid)) later → Ran allows most old new wire wire' (s.events ++ later) new
  ran-of later travels on_wire few = record {
    is_pool = refl;
    travels = travels-then allows s.events later old mid new wire between wire' s.travels (travels-allowed allows between-allows later mid new between wire' same travels);
    on_wire = on_wire;
    few = few-of later few;
  }

  asked-behind : (later : List PoolEvent) → AsksAt starts later → AsksAt starts (s.events ++ later)
  asked-behind later a = asks-behind starts pages s.events later s.reads a

  all-by : (forms : List Form) (versions : List (Option ℕ)) → forms ≡ forms_of pages → versions ≡ versions_of pages → (report : Report) (rows : List Places) → GathersRest between-allows behind sources q starts forms versions report rows mid new between wire' → Returns (Ran allows most old new wire wire') sources q starts report rows
  all-by forms versions e f report rows w =
      let v : GathersRest between-allows behind sources q starts (forms_of pages) (versions_of pages) report rows mid new between wire' =
      subst (λ (l : List Form). GathersRest between-allows behind sources q starts l (versions_of pages) report rows mid new between wire') e (subst (λ (l : List (Option ℕ)). GathersRest between-allows behind sources q starts forms l report rows mid new between wire') f w) in
      record {
        first = s.events;
        later = v.events;
        pool = new;
        runs = ran-of v.events v.joins.travels v.joins.on_wire v.joins.few;
        told = pages;
        reads = s.reads;
        asks = asked-behind v.events v.joins.asks;
        none_held = v.joins.none_held;
        no_fault = v.joins.no_fault;
        is_version = v.is_version;
        pages = v.joins.pages;
        requests = v.requests;
        count = v.count;
        width = v.joins.width;
        gives = v.joins.gives;
      }

  pub all-gathered : (report : Report) (rows : List Places) → GathersRest between-allows behind sources q starts told.forms told.versions.items report rows mid new between wire' → Returns (Ran allows most old new wire wire') sources q starts report rows
  all-gathered report rows w = all-by told.forms told.versions.items t.forms t.versions report rows w

  pub all-written : (report : Report) (x u : Option (List ℕ)) → WritesRest between-allows behind sources q starts told.forms told.versions.items report mid new between wire' x u → WritesAll (Ran allows most old new wire wire') sources q starts report x u
  all-written report x u w = record {
    rows = w.rows;
    returns = all-gathered report w.rows (record { events = w.events; joins = w.joins; is_version = w.is_version; requests = w.requests; count = w.count });
    text = w.text;
  }

  some-by : (budget : ℕ) (fault : ClientFault) (x u : Option (List ℕ)) → WritesLess between-allows behind sources q starts (forms_of pages) (told_at starts (versions_of pages)) budget fault mid new between wire' x u → WritesSome (Ran allows most old new wire wire') sources q starts budget fault x u
  some-by budget fault x u (PartOf events rows j text) = Behind (record {
    first = s.events;
    later = events;
    pool = new;
    runs = ran-of events j.travels j.on_wire j.few;
    told = pages;
    reads = s.reads;
    asks = asked-behind events j.asks;
    explains = j.explains;
    rows = rows;
    gives = j.gives;
    text = text;
  })
  some-by budget fault x u (WholeOf events rows j e text) = AtEnd (record {
    first = s.events;
    later = events;
    pool = new;
    runs = ran-of events j.travels j.on_wire j.few;
    told = pages;
    reads = s.reads;
    asks = asked-behind events j.asks;
    explains = e;
    rows = rows;
    gives = j.gives;
    text = text;
  })

  some-shows : (budget : ℕ) (fault : ClientFault) (before now : ℕ) (x u : Option (List ℕ)) (w : WritesLess between-allows behind sources q starts (forms_of pages) (told_at starts (versions_of pages)) budget fault mid new between wire' x u)
      → ShowsRest between-allows behind sources q starts (forms_of pages) (told_at starts (versions_of pages)) budget fault mid new between wire' before now x u w → ShowsGiven (Ran allows most old new wire wire') sources q starts budget fault before now x u (some-by budget fault x u w)
  unfolding some-by
  some-shows budget fault before now x u (PartOf events rows j text) h = h
  some-shows budget fault before now x u (WholeOf events rows j e text) h = h

  -- by the forms and the versions that were told
  abbrev Less : List Form → List (Option ℕ) → ℕ → ClientFault → Option (List ℕ) → Option (List ℕ) → Type 0
  Less forms versions budget fault x u = WritesLess between-allows behind sources q starts forms (told_at starts versions) budget fault mid new between wire' x u

  abbrev Shows : (forms : List Form) (versions : List (Option ℕ)) (budget : ℕ) (fault : ClientFault) (before now : ℕ) (x u : Option (List ℕ)) → Type 0
  Shows forms versions budget fault before now x u = (w : Less forms versions budget fault x u) × ShowsRest between-allows behind sources q starts forms (told_at starts versions) budget fault mid new between wire' before now x u w

  pub some-written : (budget : ℕ) (fault : ClientFault) (x u : Option (List ℕ)) → WritesLess between-allows behind sources q starts told.forms (told_at starts told.versions.items) budget fault mid new between wire' x u → WritesSome (Ran allows most old new wire wire') sources q starts budget fault x u
  some-written budget fault x u w =
      some-by budget fault x u (subst (λ (l : List Form). Less l (versions_of pages) budget fault x u) t.forms (subst (λ (l : List (Option ℕ)). Less told.forms l budget fault x u) t.versions w))

  pub some-shown : (budget : ℕ) (fault : ClientFault) (out out' : SinkState) → Shows told.forms told.versions.items budget fault out.faults out'.faults out.taken out'.taken → WritesShown (Ran allows most old new wire wire') sources q starts budget fault out out'
  some-shown budget fault out out' w =
      let v : Shows (forms_of pages) (versions_of pages) budget fault out.faults out'.faults out.taken out'.taken =
      subst (λ (l : List Form). Shows l (versions_of pages) budget fault out.faults out'.faults out.taken out'.taken) t.forms (subst (λ (l : List (Option ℕ)). Shows told.forms l budget fault out.faults out'.faults out.taken out'.taken) t.versions w) in
      record { some = some-by budget fault out.taken out'.taken v.0; shown = some-shows budget fault out.faults out'.faults out.taken out'.taken v.0 v.1 }

-- ---- what suits the wire

pub less-suits : (allows : List ℕ → ℕ → List ℕ → List ℕ → Type 0) (most : ℕ) (sources : Sources) (q : QueryData) (starts : List Address) (forms : List Form) (versions : Versions) (budget : ℕ) (fault : ClientFault) (mid new : Pooled) (between wire' : WireState) (t u : Option (List ℕ))
    → WritesLess allows most sources q starts forms versions budget fault mid new between wire' t u → SuitsWire new wire'
less-suits allows most sources q starts forms versions budget fault mid new between wire' t u (PartOf events rows j text) = j.on_wire
less-suits allows most sources q starts forms versions budget fault mid new between wire' t u (WholeOf events rows j e text) = j.on_wire

-- ---- a fault before anything was asked behind the start pages

pub nothing-joined : (allows : List ℕ → ℕ → List ℕ → List ℕ → Type 0) (most : ℕ) (sources : Sources) (q : QueryData) (starts : List Address) (forms : List Form) (versions : Versions) (budget : ℕ) (p : Pooled) (w : WireState) → held p ≡ [] → SuitsWire p w → JoinsSome allows most sources q starts forms versions budget faults.OutOfMemory [] [] p p w w
nothing-joined allows most sources q starts forms versions budget p w none s = record {
  travels = no-events allows p w;
  on_wire = s;
  explains = tt;
  asks = tt;
  few = let many = none-many p none in let low : length (held p) ≤ most = omega (arith, many) in low;
  gives = λ source is. record {
    more = sources.rows source q;
    rows_are = IsPermutation-refl (sources.rows source q);
    rest = sources.plan source q;
    plan_is = IsPermutation-refl (sources.plan source q);
  };
}

-- the same with another fault, which these events explain too
pub with-fault : (allows : List ℕ → ℕ → List ℕ → List ℕ → Type 0) (most : ℕ) (sources : Sources) (q : QueryData) (starts : List Address) (forms : List Form) (versions : Versions) (budget : ℕ) (fault other : ClientFault) (events : List PoolEvent) (rows : List Places) (p p' : Pooled) (w w' : WireState)
    → Explains versions budget other events → JoinsSome allows most sources q starts forms versions budget fault events rows p p' w w' → JoinsSome allows most sources q starts forms versions budget other events rows p p' w w'
with-fault allows most sources q starts forms versions budget fault other events rows p p' w w' explains j = record { travels = j.travels; on_wire = j.on_wire; explains = explains; asks = j.asks; few = j.few; gives = j.gives }

pub nothing-begun : (allows : List ℕ → ℕ → List ℕ → List ℕ → Type 0) (most : ℕ) (sources : Sources) (q : QueryData) (starts : List Address) (forms : List Form) (versions : Versions) (budget : ℕ) (p : Pooled) (w : WireState) (t : Option (List ℕ)) → held p ≡ [] → SuitsWire p w
    → WritesLess allows most sources q starts forms versions budget faults.OutOfMemory p p w w t t
nothing-begun allows most sources q starts forms versions budget p w t none s = PartOf [] [] (nothing-joined allows most sources q starts forms versions budget p w none s) (nothing-written _ t)

pub nothing-shown : (allows : List ℕ → ℕ → List ℕ → List ℕ → Type 0) (most : ℕ) (sources : Sources) (q : QueryData) (starts : List Address) (forms : List Form) (versions : Versions) (budget : ℕ) (p : Pooled) (w : WireState) (t : Option (List ℕ)) (none : held p ≡ []) (suits : SuitsWire p w) (before now : ℕ)
    → ShowsRest allows most sources q starts forms versions budget faults.OutOfMemory p p w w before now t t (nothing-begun allows most sources q starts forms versions budget p w t none suits)
unfolding nothing-begun
nothing-shown allows most sources q starts forms versions budget p w t none suits before now = λ other rose. absurd (other tt)

-- ---- a fault before the start pages were read

pub none-written : (allows : List ℕ → ℕ → List ℕ → List ℕ → Type 0) (sources : Sources) (options : Options) (q : QueryData) (starts : List Address) (budget : ℕ) (fault : ClientFault) (old new : Pooled) (wire wire' : WireState) (t : Option (List ℕ)) → HasNoStarts allows starts budget fault old new wire wire'
    → WritesSome (Ran allows (most_over options q (length starts)) old new wire wire') sources q starts budget fault t t
none-written allows sources options q starts budget fault old new wire wire' t s = Before (record {
  events = s.events;
  pool = new;
  runs = record {
    is_pool = refl;
    travels = s.travels;
    on_wire = s.suits;
    few = few-more 1 (most_over options q (length starts)) (length (held old)) s.events (le-max_left 1 (length q.patterns * (options.window * length starts))) s.few;
  };
  asked = s.asked;
  explains = s.explains;
  nothing = refl;
})

none-shows : (allows : List ℕ → ℕ → List ℕ → List ℕ → Type 0) (sources : Sources) (options : Options) (q : QueryData) (starts : List Address) (budget : ℕ) (fault : ClientFault) (old new : Pooled) (wire wire' : WireState) (t : Option (List ℕ)) (s : HasNoStarts allows starts budget fault old new wire wire') (before now : ℕ)
    → ShowsGiven (Ran allows (most_over options q (length starts)) old new wire wire') sources q starts budget fault before now t t (none-written allows sources options q starts budget fault old new wire wire' t s)
unfolding none-written
none-shows allows sources options q starts budget fault old new wire wire' t s before now = tt

pub none-shown : (allows : List ℕ → ℕ → List ℕ → List ℕ → Type 0) (sources : Sources) (options : Options) (q : QueryData) (starts : List Address) (budget : ℕ) (fault : ClientFault) (old new : Pooled) (wire wire' : WireState) (out : SinkState) → HasNoStarts allows starts budget fault old new wire wire'
    → WritesShown (Ran allows (most_over options q (length starts)) old new wire wire') sources q starts budget fault out out
none-shown allows sources options q starts budget fault old new wire wire' out s = record {
  some = none-written allows sources options q starts budget fault old new wire wire' out.taken s;
  shown = none-shows allows sources options q starts budget fault old new wire wire' out.taken s out.faults out.faults;
}

-- ---- what is told of the text alone

module _ (ran : List PoolEvent → Pooled → Type 0) (sources : Sources) (q : QueryData) (starts : List Address) where
  pub result-written : (report : Report) (t u : Option (List ℕ)) → WritesAll ran sources q starts report t u → WritesResult q report.rows t u
  result-written report t u w = record { rows = w.rows; text = w.text; count = w.returns.count }

  pub prefix-written : PiecesMakeTheText → RowsGoOn → (budget : ℕ) (fault : ClientFault) (t u : Option (List ℕ)) → WritesSome ran sources q starts budget fault t u → WritesPrefix q t u
  prefix-written pieces goes budget fault t u (Before b) = record { rows = []; text = same-written _ t u b.nothing }
  prefix-written pieces goes budget fault t u (Behind b) = record { rows = b.rows ++ []; text = rows-more q b.rows [] t u pieces goes b.text }
  prefix-written pieces goes budget fault t u (AtEnd b) = record { rows = b.rows; text = b.text }
