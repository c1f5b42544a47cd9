-- What a query asks of a server in the same process is answered with pages that are read, within the limits of the program.
use Rattle.std.proofs.Common.{ℕ, ◌≡◌, ◌≤◌, true, [], ◌∷◌, List, length, Option, sym, ap, subst, ◌∙◌, arith, lit≤}
use Rattle.std.specs.List.{AllByRecursion}
use Rattle.list_laws.proofs.Each.{all_so, all_both}
use Rattle.rdf_terms.specs.declared.term.Triple.{Triple}
use Rattle.tpf_base.specs.Addresses.{Address, address_text, authority_of}
use Rattle.tpf_base.specs.Links.{WireState}
use Rattle.tpf_base.specs.Marks.{Served}
use Rattle.template_fill.specs.declared.limits.TheConstants.{LONGEST_START}
use Rattle.template_fill.specs.Metadata.{Config}
use Rattle.template_fill.specs.Bodies.{version_of}
use Rattle.template_fill.specs.Configurations.{IsConfig, IsHistory, IsValidDataSet}
use Rattle.template_fill.specs.Answered.{is_answered, AnsweredGivePages}
use Rattle.bgp_core.specs.Queries.{QueryData}
use Rattle.request_plan.specs.Blocks.{IsBlockSize}
use Rattle.plan_laws.specs.Fitting.{IsRead, AreServable, IsAskable, IsServable, PlansAreRead, BasesAreRead, StartsAreRead}
use Rattle.tpf_client.specs.Offers.{Publisher, IsVersionOf, publisher, is_served, addresses_in_blocks, offer_in_blocks}
use Rattle.plan_laws.proofs.Starts.{base_of_start, target_of_start}
use Rattle.tpf_client.specs.declared.options.Options.{Options}
use Rattle.tpf_client.specs.Plans.{AtChosen, TellsVersions, IsAnswerable, IsReadByAll, IsFitAt, ChoiceFits, answer_at}
use Rattle.tpf_client.proofs.Fitting.{where_asked, fit_at, answered_of, read_by_all}
use Rattle.query_command.specs.Loops.{local_base}
use Rattle.query_command.specs.Answers.{FitsOver}

pub one_version : (triples : List Triple) (version : ℕ) → IsVersionOf (triples ∷ []) version → 1 ≡ version
one_version triples version is = same version is.low is.high
  where
    same : (n : ℕ) → 1 ≤ n → n ≤ 1 → 1 ≡ n
    same n a b = omega (arith, a, b)

-- no two versions of one data set are told
pub one_told : (triples : List Triple) (first other : Option ℕ) → TellsVersions (triples ∷ []) first other → ⊥
one_told triples first other t = t.differ (sym (one_version triples t.one t.is_one) ∙ one_version triples t.two t.is_two)

-- the addresses at each version are those at the one
pub at_version : (block : ℕ) (triples : List Triple) (config : Config) (q : QueryData) (start : Address) (version : ℕ) → IsVersionOf (triples ∷ []) version
    → addresses_in_blocks block (publisher (triples ∷ []) config) q start version ≡ addresses_in_blocks block (publisher (triples ∷ []) config) q start 1
at_version block triples config q start version is = ap (addresses_in_blocks block (publisher (triples ∷ []) config) q start) (sym (one_version triples version is))

module _ (triples : List Triple) (config : Config) where
  abbrev Reads : Address → Type 0
  Reads = IsRead (triples ∷ []) (Served 1) config

  pub answered_one : (address : Address) → Reads address → IsAnswerable (publisher (triples ∷ []) config) address
  answered_one = answered_of (publisher (triples ∷ []) config) (one_version triples)

  pub read_one : (address : Address) → Reads address → IsReadByAll (publisher (triples ∷ []) config) address
  read_one = read_by_all (publisher (triples ∷ []) config) (one_version triples)

base_short : (base : Address) → base ≡ local_base → length (address_text base) ≤ LONGEST_START
base_short base is = subst (λ (b : Address). length (address_text b) ≤ LONGEST_START) (sym is) (lit≤ tt)

-- a request carries one row at least
pub one_row : IsBlockSize 1
one_row = (omega arith, lit≤ tt)

-- the plan is read
pub plan_is_read : PlansAreRead → BasesAreRead → (block : ℕ) → IsBlockSize block → (triples : List Triple) (config : Config) (q : QueryData) → config.base ≡ local_base → IsValidDataSet triples → IsConfig config → AreServable triples
    → AllByRecursion IsAskable q.patterns → AllByRecursion (IsRead (triples ∷ []) (Served 1) config) (addresses_in_blocks block (publisher (triples ∷ []) config) q local_base 1)
plan_is_read plans bases block sized triples config q base valid is_config servable askable =
    let s : IsServable (triples ∷ []) (Served 1) config = record {
      is_history = record { data_sets = (valid, tt); low = omega arith; high = omega arith };
      is_config = is_config;
      version = record { low = omega arith; high = omega arith };
      triples = servable;
      base = base_short config.base base;
    } in (
      subst (IsRead (triples ∷ []) (Served 1) config) base (bases (triples ∷ []) (Served 1) config s),
      where_asked (IsRead (triples ∷ []) (Served 1) config) (is_served (publisher (triples ∷ []) config) local_base 1) _ (plans block (triples ∷ []) (Served 1) config q.patterns (length q.names) sized.0 sized.1 s askable),
    )

-- ---- over a wire to a server elsewhere

-- the plan of a version from a start that it answers is read
pub version_plan_is_read : PlansAreRead → StartsAreRead → AnsweredGivePages → (block : ℕ) → IsBlockSize block → (p : Publisher) (version : ℕ) (start : Address) (q : QueryData) → IsHistory p.history → IsConfig p.config → IsVersionOf p.history version
    → AreServable (version_of p.history version) → authority_of start ≡ authority_of p.config.base → is_answered p.history (Served version) p.config start ≡ true → length (address_text start) ≤ LONGEST_START
    → AllByRecursion IsAskable q.patterns → AllByRecursion (IsRead p.history (Served version) p.config) (addresses_in_blocks block p q start version)
version_plan_is_read plans starts gives block sized p version start q is_history is_config is servable authority answered text askable =
    let s : IsServable p.history (Served version) p.config = record {
      is_history = is_history;
      is_config = is_config;
      version = record { low = is.low; high = is.high };
      triples = servable;
      base = base_of_start p.config.base start is_config.no_query authority ((gives p.history (Served version) p.config start).0 answered).gives.asks.path text;
    } in (
      starts p.history (Served version) p.config start s authority (target_of_start start text) answered,
      where_asked (IsRead p.history (Served version) p.config) (is_served p start version) _ (plans block p.history (Served version) p.config q.patterns (length q.names) sized.0 sized.1 s askable),
    )

-- what is read is fit where its body is small
pub fit_all : (most : ℕ) (p : Publisher) (version : ℕ) (list : List Address) → AllByRecursion (IsRead p.history (Served version) p.config) list → AllByRecursion (λ address. length (answer_at p version address).body ≤ most) list
    → AllByRecursion (IsFitAt most p version) list
fit_all most p version list = all_both (IsRead p.history (Served version) p.config) (λ address. length (answer_at p version address).body ≤ most) (IsFitAt most p version) (fit_at most p version) list

-- at each server that stands there, which is the one, by the one version
at_chosen : (block : ℕ) (p : Publisher) (q : QueryData) (start : Address) (version most : ℕ) (address : Address) → IsFitAt most p version address → AtChosen (offer_in_blocks block p q start) version (IsFitAt most) address
at_chosen block p q start version most address fit = λ server told stands has.
    subst (λ (s : Publisher). IsFitAt most s told address) (sym stands) (subst (λ (n : ℕ). IsFitAt most p n address) (sym has) fit)

pub plan_fits : PlansAreRead → StartsAreRead → AnsweredGivePages → (allows : List ℕ → ℕ → List ℕ → List ℕ → Type 0) (q : QueryData) (start : Address) (options : Options) (p : Publisher) (version : ℕ) (old new : WireState)
    → IsBlockSize options.block → AllByRecursion IsAskable q.patterns → length (address_text start) ≤ LONGEST_START → (f : FitsOver allows q start options p version old new) → ChoiceFits (offer_in_blocks options.block p q start) options f.rise version
plan_fits plans starts gives allows q start options p version old new sized askable text f =
    let list = addresses_in_blocks options.block p q start version in
    let reads = version_plan_is_read plans starts gives options.block sized p version start q f.answers.is_history f.answers.is_config f.answers.is_version f.servable f.authority f.answered text askable in
    record {
      fit = all_so (IsFitAt options.max_body p version) (AtChosen (offer_in_blocks options.block p q start) version (IsFitAt options.max_body)) (at_chosen options.block p q start version options.max_body) list
          (fit_all options.max_body p version list reads f.small);
      within = f.within;
    }
