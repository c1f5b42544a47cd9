-- The plan of a query with groups over one data set is that of its blocks, each over it, and is answered with pages that are read.
use Rattle.std.proofs.Common.{ℕ, ◌≡◌, ◌+◌, ◌≤◌, ◌++◌, [], ◌∷◌, List, length, map, refl, sym, ap, ap₂, subst, arith}
use Rattle.std.specs.List.{AllByRecursion, flat_map}
use Rattle.list_laws.proofs.Each.{all_append, all_so}
use Rattle.list_laws.proofs.Members.{from_map}
use Rattle.rdf_terms.specs.declared.term.Triple.{Triple}
use Rattle.tpf_base.specs.Addresses.{Address, address_text}
use Rattle.tpf_base.specs.Links.{WireState}
use Rattle.tpf_base.specs.Marks.{Served}
use Rattle.template_fill.specs.declared.limits.TheConstants.{LONGEST_START}
use Rattle.template_fill.specs.Metadata.{Config}
use Rattle.template_fill.specs.Configurations.{IsConfig, IsValidDataSet}
use Rattle.template_fill.specs.Answered.{AnsweredGivePages}
use Rattle.bgp_core.specs.declared.pattern.Pattern.{Pattern}
use Rattle.group_query.specs.Trees.{GroupData, group_tree, blocks_of, block_query}
use Rattle.group_patterns.specs.Plans.{AreVersions, group_plan, group_offer, plan_over, plans_over, versions_at}
use Rattle.plan_laws.specs.Fitting.{IsRead, AreServable, IsAskable, PlansAreRead, BasesAreRead, StartsAreRead}
use Rattle.tpf_client.specs.Offers.{Publisher, publisher, IsVersionOf, addresses_of}
use Rattle.tpf_client.specs.declared.options.Options.{Options}
use Rattle.tpf_client.specs.Plans.{AtChosen, IsFitAt, ChoiceFits}
use Rattle.query_command.specs.Loops.{local_base}
use Rattle.query_command.specs.Groups.{FitsGroupOver}
use Rattle.query_command.specs.Over.{AreAskableBlocks}
use Rattle.query_command.proofs.Fitting.{one_version, one_row, plan_is_read, version_plan_is_read, fit_all}

module _ (p : Publisher) (start : Address) (names : List (List ℕ)) where
  abbrev plan_at : ℕ → List Pattern → List Address
  plan_at version ps = addresses_of p (block_query names ps) start version

  abbrev flat_at : ℕ → List (List Pattern) → List Address
  flat_at version bs = flat_map (λ ps. addresses_of p (block_query names ps) start version) bs

  -- what holds of the plan of each block holds of the plan of all
  all_flat : (version : ℕ) (P : Address → Type 0) (bs : List (List Pattern)) → AllByRecursion (λ ps. AllByRecursion P (plan_at version ps)) bs → AllByRecursion P (flat_at version bs)
  all_flat version P [] h = tt
  all_flat version P (ps ∷ bs) h = all_append P (plan_at version ps) (flat_at version bs) h.0 (all_flat version P bs h.1)

  -- where each version is the one
  one_flat : (version : ℕ) (bs : List (List Pattern)) (vs : List ℕ) → AllByRecursion (λ v. version ≡ v) vs → length vs ≡ length bs → plans_over p start names bs vs ≡ flat_at version bs
  one_flat version [] vs h e = refl
  one_flat version (ps ∷ bs) [] h e = absurd (omega (arith, e))
  one_flat version (ps ∷ bs) (v ∷ vs) h e =
      ap₂ (λ (a b : List Address). a ++ b) (ap (λ (n : ℕ). plan_at n ps) (sym h.0)) (one_flat version bs vs h.1 (omega (arith, e)))

  -- this version for each block
  all_same : (version : ℕ) (bs : List (List Pattern)) → AllByRecursion (λ v. version ≡ v) (map (λ ps. version) bs) × (length (map (λ ps. version) bs) ≡ length bs)
  all_same version [] = (tt, refl)
  all_same version (ps ∷ bs) = let r = all_same version bs in ((refl, r.0), let e = r.1 in omega (arith, e))

each_one : (triples : List Triple) (vs : List ℕ) → AllByRecursion (IsVersionOf (triples ∷ [])) vs → AllByRecursion (λ v. 1 ≡ v) vs
each_one triples [] h = tt
each_one triples (v ∷ vs) h = (one_version triples v h.0, each_one triples vs h.1)

module _ (triples : List Triple) (config : Config) (g : GroupData) (start : Address) where
  pub same_plan : (vs : List ℕ) → AreVersions (triples ∷ []) g vs → plan_over (publisher (triples ∷ []) config) g start vs ≡ group_plan (publisher (triples ∷ []) config) g start 1
  same_plan vs a = one_flat (publisher (triples ∷ []) config) start g.names 1 (blocks_of (group_tree g)) vs (each_one triples vs a.each) a.count

-- over a wire in the process
pub group_is_read : PlansAreRead → BasesAreRead → (triples : List Triple) (config : Config) (g : GroupData) → config.base ≡ local_base → IsValidDataSet triples → IsConfig config → AreServable triples
    → AreAskableBlocks g → AllByRecursion (IsRead (triples ∷ []) (Served 1) config) (group_plan (publisher (triples ∷ []) config) g local_base 1)
group_is_read plans bases triples config g base valid is_config servable askable =
    all_flat (publisher (triples ∷ []) config) local_base g.names 1 (IsRead (triples ∷ []) (Served 1) config) (blocks_of (group_tree g))
    (all_so (AllByRecursion IsAskable) (λ ps. AllByRecursion (IsRead (triples ∷ []) (Served 1) config) (addresses_of (publisher (triples ∷ []) config) (block_query g.names ps) local_base 1))
    (λ ps ask. plan_is_read plans bases 1 one_row triples config (block_query g.names ps) base valid is_config servable ask) (blocks_of (group_tree g)) askable)

-- over a wire to a server elsewhere, which answers over one version
module _ (p : Publisher) (version : ℕ) (g : GroupData) (start : Address) where
  abbrev list : List Address
  list = group_plan p g start version

  abbrev Reads : Address → Type 0
  Reads = IsRead p.history (Served version) p.config

  -- the plan over the version is that of the choice that has it for each block
  same_list : list ≡ plan_over p g start (versions_at g version)
  same_list = let all = all_same p start g.names version (blocks_of (group_tree g)) in sym (one_flat p start g.names version (blocks_of (group_tree g)) (versions_at g version) all.0 all.1)

  abbrev FitsAt : ℕ → Address → Type 0
  FitsAt most = AtChosen (group_offer p g start) (versions_at g version) (IsFitAt most)

  -- at each server that stands there, which is the one, by each version that a block has, which is the one
  each_at : (most : ℕ) (address : Address) → IsFitAt most p version address → FitsAt most address
  each_at most address fit = λ server told stands has.
      let is : version ≡ told = (from_map (λ (ps : List Pattern). version) (blocks_of (group_tree g)) told has).2 in
      subst (λ (s : Publisher). IsFitAt most s told address) (sym stands) (subst (λ (n : ℕ). IsFitAt most p n address) is fit)

  pub group_fits : PlansAreRead → StartsAreRead → AnsweredGivePages → (allows : List ℕ → ℕ → List ℕ → List ℕ → Type 0) (options : Options) (old new : WireState)
      → AreAskableBlocks g → length (address_text start) ≤ LONGEST_START → (f : FitsGroupOver allows g start options p version old new) → ChoiceFits (group_offer p g start) options f.rise (versions_at g version)
  group_fits plans starts gives allows options old new askable text f =
      let reads : AllByRecursion Reads list =
      all_flat p start g.names version Reads (blocks_of (group_tree g))
      (all_so (AllByRecursion IsAskable) (λ ps. AllByRecursion Reads (addresses_of p (block_query g.names ps) start version))
      (λ ps ask. version_plan_is_read plans starts gives 1 one_row p version start (block_query g.names ps) f.answers.is_history f.answers.is_config f.answers.is_version f.servable f.authority f.answered text ask) (blocks_of (group_tree g)) askable) in
      record {
        fit = subst (AllByRecursion (FitsAt options.max_body)) same_list
            (all_so (IsFitAt options.max_body p version) (FitsAt options.max_body) (each_at options.max_body) list (fit_all options.max_body p version list reads f.small));
        within = subst (λ (l : List Address). length l + f.rise ≤ options.budget) same_list f.within;
      }
