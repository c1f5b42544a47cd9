-- What the turns of an evaluation come to.
use Rattle.std.proofs.Common.{ℕ, ◌≡◌, ◌≤◌, ◌++◌, ◌*◌, true, List, [], map, length, Option, None, refl, sym, ap, subst, ◌∙◌, append-nil, arith}
use Rattle.std.specs.List.{All, Contains, sum_by}
use Rattle.std.specs.List.Sorted.{IsPermutation}
use Rattle.std.proofs.lemmas.List.Elements.{All-nil}
use Rattle.std.proofs.lemmas.List.Sorted.{IsPermutation-trans}
use Rattle.list_laws.proofs.Members.{none_in}
use Rattle.tpf_base.specs.Addresses.{Address}
use Rattle.tpf_base.specs.Links.{WireState}
use Rattle.fragment_page.specs.declared.page.Page.{Page}
use Rattle.template_fill.specs.declared.form.Form.{Form}
use Rattle.bgp_core.specs.Queries.{QueryData}
use Rattle.bgp_core.specs.Solutions.{Places}
use Rattle.request_pool.specs.Pools.{Pooled, Ask, held}
use Rattle.request_plan.specs.Evaluations.{Account, Standing, Terms, Sizes, HasHome, nothing}
use Rattle.request_plan.specs.Beginnings.{BeginsWith}
use Rattle.tpf_client.specs.declared.fault.ClientFault.{ClientFault}
use Rattle.tpf_client.specs.Traffic.{PoolEvent, is_under, AreDistinct}
use Rattle.tpf_client.specs.Causes.{Versions}
use Rattle.tpf_client.specs.Turns.{Limits, keeps_both, most_waiting, Meets, IsOut, Went, Failed, address_of, asked_in, is_number, is_pair}
use Rattle.tpf_client.specs.Sources.{Sources, sources_of}
use Rattle.tpf_client.specs.Calls.{Joins, JoinsSome}
use Rattle.tpf_client.proofs.Distinct.{none-distinct}
use Rattle.tpf_client.proofs.Meeting.{quiet-holds-none}

-- the starts are the homes of the asks
abbrev pub limits-of : List Address → QueryData → ℕ → Limits
limits-of homes q window = record { terms = record { homes = homes; width = length q.names }; sizes = record { patterns = length q.patterns; window = window } }

none-many : (asks : List Ask) (most : ℕ) → asks ≡ [] → length asks ≤ most
none-many asks most e = let z : length asks ≡ length {A = Ask} [] = ap (λ (l : List Ask). length l) e in let y : length {A = Ask} [] ≡ 0 = refl in omega (arith, z, y)

none-held-distinct : (pool : Pooled) → held pool ≡ [] → AreDistinct (held pool)
none-held-distinct pool e = subst (λ (l : List Ask). AreDistinct l) (sym e) none-distinct

-- an evaluation that begins meets a pool that holds nothing
pub begins-meets : (limits : Limits) (K : Type 0) (s : Standing) (pool : Pooled) → K → s.out ≡ [] → held pool ≡ [] → pool.fault ≡ None → Meets limits K s pool
begins-meets limits K s pool k t e f = record {
  kept = k;
  homes = subst (λ (l : List Ask). All (λ ask. HasHome limits.terms.homes ask.address) l) (sym e) (All-nil (λ ask. HasHome limits.terms.homes ask.address));
  tickets = λ ticket. ap (λ (l : List Ask). sum_by (is_under ticket) l) e ∙ sym (ap (λ (l : List ℕ). sum_by (is_number ticket) l) t);
  distinct = none-held-distinct pool e;
  few = none-many (held pool) (most_waiting limits.sizes) e;
  no_fault = f;
}

nothing-out : (pool : Pooled) (a : Account) → held pool ≡ [] → a.out ≡ [] → IsOut pool a
nothing-out pool a e o = record {
  distinct = none-held-distinct pool e;
  is_held = λ pair m. absurd (none_in pair (subst (λ (l : List (ℕ × Address)). Contains l pair) o m));
  once = λ t. let z = ap (λ (l : List (ℕ × Address)). sum_by (is_pair t) l) o in omega arith;
}

all-given : (a : Account) (rows x : List Places) → IsPermutation x a.owed → (b : Account) → IsPermutation a.owed (rows ++ b.owed) → b.owed ≡ [] → IsPermutation x rows
all-given a rows x p b o e = subst (λ (l : List Places). IsPermutation x l) (append-nil rows) (subst (λ (l : List Places). IsPermutation x (rows ++ l)) e (IsPermutation-trans x a.owed (rows ++ b.owed) p o))

all-asked : (a : Account) (asked x : List Address) → IsPermutation x a.left → (b : Account) → IsPermutation a.left (asked ++ b.left) → b.left ≡ [] → IsPermutation x asked
all-asked a asked x p b o e = subst (λ (l : List Address). IsPermutation x l) (append-nil asked) (subst (λ (l : List Address). IsPermutation x (asked ++ l)) e (IsPermutation-trans x a.left (asked ++ b.left) p o))

-- an evaluation by its ghost members, and what it is where it begins
pub record Begun {Source Eval : Type 0} (suits : Source → Eval → Type 0) (account : Source → Eval → Account) (keeps_to : Terms → Eval → Type 0) (keeps_small : Sizes → Eval → Type 0) (standing : Eval → Standing) (fits : Source → List Form → ℕ → Type 0)
    (rows : Source → QueryData → List Places) (plan : Source → QueryData → List Address) (q : QueryData) (starts : List Address) (forms : List Form) (window block : ℕ) (e : Eval) : Type 0 where
  pub keeps : keeps_to (record { homes = starts; width = length q.names }) e
  pub small : keeps_small (record { patterns = length q.patterns; window = window * length forms }) e
  pub none_out : (standing e).out ≡ []
  pub is_suited : (source : Source) → fits source forms block → suits source e
  pub owes : (source : Source) → fits source forms block → BeginsWith (rows source q) (plan source q) (account source e)

module _ {Source Eval : Type 0} (suits : Source → Eval → Type 0) (account : Source → Eval → Account) (keeps_to : Terms → Eval → Type 0) (keeps_small : Sizes → Eval → Type 0) (standing : Eval → Standing) (is_true : Source → Address → Page → Type 0) (fits : Source → List Form → ℕ → Type 0)
    (rows : Source → QueryData → List Places) (plan : Source → QueryData → List Address) (reported : Option ℕ → Option ℕ) (allows : List ℕ → ℕ → List ℕ → List ℕ → Type 0) (q : QueryData) (starts : List Address) (forms : List Form) (versions : Versions) (window block : ℕ) (e : Eval)
    (old new : Pooled) (wire wire' : WireState) (none : held old ≡ []) (no_fault : old.fault ≡ None) (begun : Begun suits account keeps_to keeps_small standing fits rows plan q starts forms window block e) where
  abbrev from : Sources
  from = sources_of Source fits is_true rows plan reported block

  abbrev limits : Limits
  limits = limits-of starts q (window * length forms)

  pub begun-so : Meets limits (keeps_both keeps_to keeps_small limits e) (standing e) old
  begun-so = begins-meets limits (keeps_both keeps_to keeps_small limits e) (standing e) old (begun.keeps, begun.small) begun.none_out none no_fault

  pub joins-of : ((source : Source) (x : Eval) → suits source x → (standing x).done ≡ true → account source x ≡ nothing) → ((x : Eval) → (standing x).done ≡ true → ((standing x).out ≡ []) × ((standing x).waiting ≡ 0))
      → (k : Eval) (events : List PoolEvent) (given : List Places) → (standing k).done ≡ true → Went suits account (keeps_both keeps_to keeps_small) standing is_true allows e k versions events given old new wire wire' → Joins allows (length q.patterns * (window * length forms)) from q starts forms versions events given old new wire wire'
  joins-of owes_nothing is_quiet k events given done went =
      let m = went.meets limits begun-so in
      record {
        travels = went.travels;
        on_wire = went.on_wire;
        asks = went.homes limits begun-so;
        few = went.few limits begun-so;
        none_held = quiet-holds-none limits (keeps_both keeps_to keeps_small limits k) (standing k) new m (is_quiet k done).0;
        no_fault = m.no_fault;
        pages = went.pages;
        width = went.width limits begun-so;
        gives = λ source is.
            let b = begun.owes source is.fits in
            let s = went.stays source (record { is_suited = begun.is_suited source is.fits; is_out = nothing-out old (account source e) none b.out; pages = is.pages }) in
            let n : account source k ≡ nothing = owes_nothing source k s.is_suited done in
            record {
              rows_are = all-given (account source e) given (rows source q) b.owed (account source k) s.owes.owed (ap (λ (a : Account). a.owed) n);
              plan_is = all-asked (account source e) (map address_of (asked_in events)) (plan source q) b.left (account source k) s.owes.left (ap (λ (a : Account). a.left) n);
            };
      }

  pub some-of : (budget : ℕ) (fault : ClientFault) (events : List PoolEvent) (given : List Places) → Failed suits account (keeps_both keeps_to keeps_small) standing is_true allows e versions budget fault events given old new wire wire' → JoinsSome allows (length q.patterns * (window * length forms)) from q starts forms versions budget fault events given old new wire wire'
  some-of budget fault events given failed = record {
    travels = failed.travels;
    on_wire = failed.on_wire;
    explains = failed.explains;
    asks = failed.homes limits begun-so;
    few = failed.few limits begun-so;
    gives = λ source is.
        let b = begun.owes source is.fits in
        let o = failed.owes source (record { is_suited = begun.is_suited source is.fits; is_out = nothing-out old (account source e) none b.out; pages = is.pages }) in
        record {
          more = o.more;
          rows_are = IsPermutation-trans _ _ _ b.owed o.owed;
          rest = o.rest;
          plan_is = IsPermutation-trans _ _ _ b.left o.left;
        };
  }
