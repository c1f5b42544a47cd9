-- Each address of a plan is that of a page that there is, of a selection that is good: it comes of patterns and rows whose terms are so, and in blocks of several rows its target is short.
use Rattle.std.proofs.Common.{ℕ, zero, suc, ◌≡◌, ◌+◌, ◌-◌, ◌*◌, ◌/◌, ◌<◌, ◌≤◌, max, take, drop, Bool, true, false, nat_le, List, [], ◌∷◌, map, length, Option, Some, None, slice_index_or, if◌then◌else◌, refl, ap, sym, subst, arith}
use Rattle.std.specs.List.{All, AllByRecursion, filter, remove, flat_map}
use Rattle.std.proofs.lemmas.Bool.Decides.{nat_tests}
use Rattle.std.proofs.lemmas.List.Elements.{All-nil, All-cons, All-from_recursion, recursion_from_All, All-weaker, All-filter, All-head, All-tail, filter_passes}
use Rattle.list_laws.proofs.Each.{all_append, all_front, all_back}
use Rattle.list_laws.proofs.Tests.{and_first, and_second}
use Rattle.tpf_base.specs.Addresses.{Address}
use Rattle.rdf_terms.specs.declared.term.Term.{Term}
use Rattle.rdf_terms.specs.declared.term.Triple.{Triple}
use Rattle.rdf_terms.specs.Askable.{askable}
use Rattle.rdf_terms.specs.Fragments.{last_page_of}
use Rattle.rdf_terms.specs.Selections.{Selection, selected, selected_last}
use Rattle.control_laws.proofs.LawData.{page_all}
use Rattle.template_fill.specs.Answers.{read_as}
use Rattle.template_fill.specs.Metadata.{Config}
use Rattle.template_fill.specs.Authorities.{address_of_page}
use Rattle.bgp_core.specs.declared.pattern.Pattern.{Pattern}
use Rattle.bgp_core.specs.Solutions.{Places, extension, rows_from}
use Rattle.bgp_core.specs.Instances.{instance}
use Rattle.request_plan.specs.declared.block.TheConstants.{LONGEST_TARGET}
use Rattle.request_plan.specs.Rounds.{RoundData, addresses_in}
use Rattle.request_plan.specs.Blocks.{selection_for, all_fit, blocks}
use Rattle.request_plan.specs.Worlds.{World, numbers, cut_of}
use Rattle.request_plan.specs.Plans.{Plans, found, askable_rows, page_blocks, page_plans, rounds_after, first_rounds, all_askable, least, counts, plans_over, chosen_plan, asking_plan, plan_for}
use Rattle.request_plan.proofs.Cuts.{are-cut}
use Rattle.request_plan.proofs.Lengths.{first-askable, others-askable}
use Rattle.request_plan.proofs.Valid.{every-remove}
use Rattle.plan_laws.specs.Servers.{asked_at, server_world}
use Rattle.plan_laws.proofs.Slots.{Binds, HasTerms, HasParts, extended_binds}

-- the address of a page that there is, of a good selection
pub record IsPlanned (G : Selection → Type 0) (triples : List Triple) (config : Config) (address : Address) : Type 0 where
  pub selection : Selection
  pub k : ℕ
  pub address_is : address ≡ address_of_page config.base selection k
  pub good : G selection
  pub low : 1 ≤ k
  pub high : k ≤ selected_last triples (read_as config.rows selection) config.page_size

-- ---- numbers of pages

low_max : (n : ℕ) → 1 ≤ max 1 n
low_max n = omega arith

pub low_last : (count size : ℕ) → 1 ≤ last_page_of count size
low_last count size = low_max ((count + (size - 1)) / size)

second : (last : ℕ) → 1 ≤ last → 2 + (last - 1) ≤ suc last
second last low = omega (arith, low)

numbers_all : {X : Type 0} (f : ℕ → X) (Q : X → Type 0) (top : ℕ) → ((m : ℕ) → 1 ≤ m → m ≤ top → Q (f m)) → (n k : ℕ) → 1 ≤ n → n + k ≤ suc top → AllByRecursion Q (map f (numbers n k))
numbers_all f Q top each n zero low high = tt
numbers_all f Q top each n (suc k) low high = (each n low (omega (arith, high)), numbers_all f Q top each (suc n) k (omega arith) (omega (arith, high)))

-- ---- the chosen pattern

index_in : {X : Type 0} (Q : X → Type 0) (xs : List X) (i : ℕ) (d : X) → Q d → AllByRecursion Q xs → Q (slice_index_or xs i d)
index_in Q [] i d h a = h
index_in Q (x ∷ xs) zero d h a = a.0
index_in Q (x ∷ xs) (suc i) d h a = index_in Q xs i d h a.1

kept_step : {X : Type 0} (test : X → Bool) (x : X) (xs : List X) (b : Bool) → test x ≡ b → b ≡ true → filter test xs ≡ xs → (if b then x ∷ filter test xs else filter test xs) ≡ x ∷ xs
kept_step test x xs true e h more = ap (λ l. x ∷ l) more
kept_step test x xs false e h more = absurd (cc)

all_kept : {X : Type 0} (test : X → Bool) (xs : List X) → All (λ x. test x ≡ true) xs → filter test xs ≡ xs
all_kept test [] a = refl
all_kept test (x ∷ xs) a = kept_step test x xs (test x) refl (All-head (λ y. test y ≡ true) x xs a) (all_kept test xs (All-tail (λ y. test y ≡ true) x xs a))

-- what holds of all members of some lists holds of those of each
in_parts : {X : Type 0} (Q : X → Type 0) (parts : List (List X)) → AllByRecursion Q (flat_map (λ part. part) parts) → AllByRecursion (AllByRecursion Q) parts
in_parts Q [] a = tt
in_parts Q (part ∷ parts) a = (all_front Q part (flat_map (λ p. p) parts) a, in_parts Q parts (all_back Q part (flat_map (λ p. p) parts) a))

-- ---- over a world of which each round that is asked for, of a good selection, has addresses that are so, and each page has triples whose terms are so

module _ (P : Term → Type 0) (Q : Address → Type 0) (G : Selection → Type 0) (w : World) (some : (s : Selection) → 1 ≤ w.last s) (low : 1 ≤ w.block)
    (good : (p : Pattern) (rows : List Places) → HasParts P p → 0 < length rows → All (Binds P) rows → All (λ row. askable (instance p row) ≡ true) rows → length rows ≤ w.block
    → (1 < length rows → (cut_of w).target (selection_for p rows) ≤ LONGEST_TARGET) → G (selection_for p rows))
    (asks : (s : Selection) (k : ℕ) → G s → 1 ≤ k → k ≤ w.last s → AllByRecursion Q (w.round s k).addresses)
    (holds : (s : Selection) (k : ℕ) → AllByRecursion (HasTerms P) (w.items s k)) where
  -- each address of the round is so
  abbrev Planned : RoundData → Type 0
  Planned round = AllByRecursion Q round.addresses

  each_address : (rounds : List RoundData) → AllByRecursion Planned rounds → AllByRecursion Q (addresses_in rounds)
  each_address [] h = tt
  each_address (round ∷ rounds) h = all_append Q round.addresses (addresses_in rounds) h.0 (each_address rounds h.1)

  -- a block of rows under which all of the patterns can be asked for, and whose targets are short where it has several
  record IsBlock (ps : List Pattern) (rows : List Places) : Type 0 where
    some_rows : 0 < length rows
    few : length rows ≤ w.block
    askable : All (λ row. all_askable row ps ≡ true) rows
    binds : All (Binds P) rows
    short : 1 < length rows → all_fit (cut_of w) ps rows ≡ true

  within : (n m : ℕ) → nat_le n m ≡ true → n ≤ m
  within n m e = grind (arith, nat_tests)

  own_good : (p : Pattern) (ps : List Pattern) (rows : List Places) → HasParts P p → IsBlock (p ∷ ps) rows → G (selection_for p rows)
  own_good p ps rows h b =
      good p rows h b.some_rows b.binds (first-askable p (p ∷ ps) ps rows refl b.askable) b.few
      (λ several. within ((cut_of w).target (selection_for p rows)) LONGEST_TARGET (and_first _ (all_fit (cut_of w) ps rows) (b.short several)))

  others_block : (p : Pattern) (ps : List Pattern) (rows : List Places) → IsBlock (p ∷ ps) rows → IsBlock ps rows
  others_block p ps rows b = record {
    some_rows = b.some_rows;
    few = b.few;
    askable = others-askable p (p ∷ ps) ps rows refl b.askable;
    binds = b.binds;
    short = λ several. and_second (nat_le ((cut_of w).target (selection_for p rows)) LONGEST_TARGET) (all_fit (cut_of w) ps rows) (b.short several);
  }

  -- a pattern of such terms, which is asked for by a good selection
  abbrev IsChosen : List Places → Pattern → Type 0
  IsChosen rows p = HasParts P p × G (selection_for p rows)

  all_chosen : (ps : List Pattern) (rows : List Places) → AllByRecursion (HasParts P) ps → IsBlock ps rows → AllByRecursion (IsChosen rows) ps
  all_chosen [] rows h b = tt
  all_chosen (p ∷ ps) rows h b = ((h.0, own_good p ps rows h.0 b), all_chosen ps rows h.1 (others_block p ps rows b))

  firsts_planned : (rows : List Places) (ps : List Pattern) → AllByRecursion (IsChosen rows) ps → AllByRecursion Planned (first_rounds w rows ps)
  firsts_planned rows [] h = tt
  firsts_planned rows (p ∷ ps) h = let c = h.0 in (asks (selection_for p rows) 1 c.1 (omega arith) (some (selection_for p rows)), firsts_planned rows ps h.1)

  pages_planned : (s : Selection) → G s → AllByRecursion Planned (rounds_after w s 1)
  pages_planned s own =
      let top = w.last s in
      numbers_all (w.round s) Planned top (λ m least most. asks s m own least most) 2 (top - 1) (omega arith) (second top (some s))

  -- the rows that triples make of a block bind such terms
  one_binds : (p : Pattern) (row : Places) (t : Triple) → Binds P row → HasTerms P t → (o : Option Places) → extension p row t ≡ o → AllByRecursion (Binds P) (rows_from o (λ r. r ∷ []))
  one_binds p row t b h None e = tt
  one_binds p row t b h (Some new) e = (extended_binds P p row t new e b h, tt)

  each_binds : (p : Pattern) (t : Triple) → HasTerms P t → (rows : List Places) → All (Binds P) rows → AllByRecursion (Binds P) (flat_map (λ row. rows_from (extension p row t) (λ r. r ∷ [])) rows)
  each_binds p t h [] b = tt
  each_binds p t h (row ∷ rows) b =
      all_append (Binds P) (rows_from (extension p row t) (λ r. r ∷ [])) (flat_map (λ x. rows_from (extension p x t) (λ r. r ∷ [])) rows) (one_binds p row t (All-head (Binds P) row rows b) h (extension p row t) refl) (each_binds p t h rows (All-tail (Binds P) row rows b))

  found_binds : (p : Pattern) (rows : List Places) → All (Binds P) rows → (ts : List Triple) → AllByRecursion (HasTerms P) ts → AllByRecursion (Binds P) (found p rows ts)
  found_binds p rows b [] h = tt
  found_binds p rows b (t ∷ ts) h = all_append (Binds P) (flat_map (λ row. rows_from (extension p row t) (λ r. r ∷ [])) rows) (found p rows ts) (each_binds p t h.0 rows b) (found_binds p rows b ts h.1)

  -- so they are cut into such blocks
  abbrev IsUsable : List Pattern → Places → Type 0
  IsUsable ps row = (all_askable row ps ≡ true) × Binds P row

  usable : (ps : List Pattern) (rows : List Places) → All (λ row. all_askable row ps ≡ true) rows → All (Binds P) rows → AllByRecursion (IsUsable ps) rows
  usable ps [] a b = tt
  usable ps (row ∷ rows) a b = ((All-head (λ r. all_askable r ps ≡ true) row rows a, All-head (Binds P) row rows b), usable ps rows (All-tail (λ r. all_askable r ps ≡ true) row rows a) (All-tail (Binds P) row rows b))

  as_blocks : (ps : List Pattern) (bs : List (List Places)) → AllByRecursion (λ block. 0 < length block) bs → AllByRecursion (λ block. length block ≤ w.block) bs → AllByRecursion (λ block. 1 < length block → all_fit (cut_of w) ps block ≡ true) bs
      → AllByRecursion (AllByRecursion (IsUsable ps)) bs → AllByRecursion (IsBlock ps) bs
  as_blocks ps [] a b c d = tt
  as_blocks ps (block ∷ bs) a b c d =
      let all = All-from_recursion (IsUsable ps) block d.0 in (
        record {
          some_rows = a.0;
          few = b.0;
          askable = All-weaker (IsUsable ps) (λ row. all_askable row ps ≡ true) (λ row u. u.0) block all;
          binds = All-weaker (IsUsable ps) (Binds P) (λ row u. u.1) block all;
          short = c.0;
        },
        as_blocks ps bs a.1 b.1 c.1 d.1,
      )

  cut_blocks : (ps : List Pattern) (rows : List Places) → All (λ row. all_askable row ps ≡ true) rows → All (Binds P) rows → AllByRecursion (IsBlock ps) (blocks (cut_of w) ps rows)
  cut_blocks ps rows a b =
      let bs = blocks (cut_of w) ps rows in
      let cut = are-cut (cut_of w) ps rows in
      as_blocks ps bs (recursion_from_All (λ block. 0 < length block) bs cut.some) (recursion_from_All (λ block. length block ≤ w.block) bs (cut.few low)) (recursion_from_All (λ block. 1 < length block → all_fit (cut_of w) ps block ≡ true) bs cut.short)
      (in_parts (IsUsable ps) bs (subst (λ (l : List Places). AllByRecursion (IsUsable ps) l) (sym cut.all) (usable ps rows a b)))

  page_cut : (p : Pattern) (others : List Pattern) (rows : List Places) (ts : List Triple) → All (Binds P) rows → AllByRecursion (HasTerms P) ts → AllByRecursion (IsBlock others) (page_blocks (cut_of w) p others rows ts)
  page_cut p others rows ts b h =
      let new = found p rows ts in
      cut_blocks others (askable_rows others new) (filter_passes (λ row. all_askable row others) new) (All-filter (λ row. all_askable row others) (Binds P) new (All-from_recursion (Binds P) new (found_binds p rows b ts h)))

  -- ---- plans

  abbrev Promises : Plans → Type 0
  Promises plans = (qs : List Pattern) → AllByRecursion (HasParts P) qs → (rows : List Places) → IsBlock qs rows → AllByRecursion Planned (plans qs rows)

  blocks_planned : (plans : Plans) (others : List Pattern) → ((rows : List Places) → IsBlock others rows → AllByRecursion Planned (plans others rows)) → (bs : List (List Places)) → AllByRecursion (IsBlock others) bs → AllByRecursion Planned (flat_map (plans others) bs)
  blocks_planned plans others more [] h = tt
  blocks_planned plans others more (block ∷ bs) h = all_append Planned (plans others block) (flat_map (plans others) bs) (more block h.0) (blocks_planned plans others more bs h.1)

  over_planned : (plans : Plans) (p : Pattern) (others : List Pattern) (rows : List Places) → All (Binds P) rows → ((new : List Places) → IsBlock others new → AllByRecursion Planned (plans others new))
      → (ns : List ℕ) → AllByRecursion Planned (flat_map (λ n. page_plans (cut_of w) plans p others rows (w.items (selection_for p rows) n)) ns)
  over_planned plans p others rows b more [] = tt
  over_planned plans p others rows b more (n ∷ ns) =
      let ts = w.items (selection_for p rows) n in
      all_append Planned (page_plans (cut_of w) plans p others rows ts) (flat_map (λ m. page_plans (cut_of w) plans p others rows (w.items (selection_for p rows) m)) ns)
      (blocks_planned plans others more (page_blocks (cut_of w) p others rows ts) (page_cut p others rows ts b (holds (selection_for p rows) n))) (over_planned plans p others rows b more ns)

  chosen_planned : (plans : Plans) → Promises plans → (i : ℕ) (p : Pattern) (ps : List Pattern) (rows : List Places)
      → IsChosen rows p → AllByRecursion (IsChosen rows) ps → AllByRecursion (HasParts P) ps → All (Binds P) rows → AllByRecursion Planned (chosen_plan w plans i p ps rows)
  chosen_planned plans more i p ps rows first all h b =
      let q = slice_index_or ps i p in
      let s = selection_for q rows in
      let c : IsChosen rows q = index_in (IsChosen rows) ps i p first all in
      all_append Planned (rounds_after w s 1) (plans_over w plans q (remove ps i) rows 0) (pages_planned s c.1)
      (over_planned plans q (remove ps i) rows b (λ new k. more (remove ps i) (every-remove (HasParts P) ps i h) new k) (numbers 0 (w.last s - 0)))

  asking_planned : (plans : Plans) → Promises plans → (ps : List Pattern) (rows : List Places) → AllByRecursion (HasParts P) ps → IsBlock ps rows → AllByRecursion Planned (asking_plan w plans 0 ps rows)
  asking_planned plans more [] rows h b = tt
  asking_planned plans more (p ∷ ps) [] h b = tt
  asking_planned plans more (p ∷ ps) (row ∷ rows) h b =
      let all = all_chosen (p ∷ ps) (row ∷ rows) h b in
      all_append Planned (first_rounds w (row ∷ rows) (p ∷ ps)) (chosen_plan w plans (least (counts w (row ∷ rows) (p ∷ ps))) p (p ∷ ps) (row ∷ rows)) (firsts_planned (row ∷ rows) (p ∷ ps) all)
      (chosen_planned plans more (least (counts w (row ∷ rows) (p ∷ ps))) p (p ∷ ps) (row ∷ rows) all.0 all h b.binds)

  rounds_planned : (n : ℕ) (ps : List Pattern) (rows : List Places) → AllByRecursion (HasParts P) ps → IsBlock ps rows → AllByRecursion Planned (plan_for w n ps rows)
  rounds_planned zero ps rows h b = tt
  rounds_planned (suc n) ps rows h b =
      subst (λ (l : List Places). AllByRecursion Planned (asking_plan w (plan_for w n) 0 ps l)) (sym (all_kept (λ row. all_askable row ps) rows b.askable))
      (asking_planned (plan_for w n) (λ qs k new c. rounds_planned n qs new k c) ps rows h b)

  -- the plan under one row
  one_block : (ps : List Pattern) (row : Places) → all_askable row ps ≡ true → Binds P row → IsBlock ps (row ∷ [])
  one_block ps row a b = record {
    some_rows = omega arith;
    few = low;
    askable = All-cons (λ r. all_askable r ps ≡ true) row [] a (All-nil (λ r. all_askable r ps ≡ true));
    binds = All-cons (Binds P) row [] b (All-nil (Binds P));
    short = λ several. absurd (omega (arith, several));
  }

  no_rows : (n : ℕ) (ps : List Pattern) → AllByRecursion Planned (asking_plan w (plan_for w n) 0 ps [])
  no_rows n [] = tt
  no_rows n (p ∷ ps) = tt

  row_planned : (n : ℕ) (ps : List Pattern) (row : Places) → AllByRecursion (HasParts P) ps → Binds P row → (t : Bool) → all_askable row ps ≡ t → AllByRecursion Planned (asking_plan w (plan_for w n) 0 ps (if t then row ∷ [] else []))
  row_planned n ps row h b true e = asking_planned (plan_for w n) (λ qs k new c. rounds_planned n qs new k c) ps (row ∷ []) h (one_block ps row e b)
  row_planned n ps row h b false e = no_rows n ps

  under_row : (n : ℕ) (ps : List Pattern) (row : Places) → AllByRecursion (HasParts P) ps → Binds P row → AllByRecursion Planned (plan_for w n ps (row ∷ []))
  under_row zero ps row h b = tt
  under_row (suc n) ps row h b = row_planned n ps row h b (all_askable row ps) refl

  pub addresses_planned : (n : ℕ) (ps : List Pattern) (row : Places) → AllByRecursion (HasParts P) ps → Binds P row → AllByRecursion Q (addresses_in (plan_for w n ps (row ∷ [])))
  addresses_planned n ps row h b = each_address (plan_for w n ps (row ∷ [])) (under_row n ps row h b)

-- ---- over one server

-- rows that were passed over are passed over
pub read_twice : (rows : Bool) (s : Selection) → read_as rows (read_as rows s) ≡ read_as rows s
read_twice true s = refl
read_twice false s = refl

-- what an address of a page asks for is read as the selection is
pub read_asked : (rows : Bool) (k : ℕ) (s : Selection) → read_as rows (asked_at rows k s) ≡ read_as rows s
read_asked rows zero s = read_twice rows s
read_asked rows (suc zero) s = refl
read_asked rows (suc (suc k)) s = read_twice rows s

module _ (G : Selection → Type 0) (triples : List Triple) (config : Config) where
  -- what holds of the terms of the data holds of those of a page
  pub items_all : (block : ℕ) (Q : Triple → Type 0) (s : Selection) (k : ℕ) → AllByRecursion Q triples → AllByRecursion Q ((server_world block triples config).items s k)
  items_all block Q s k all =
      let r = read_as config.rows s in
      let one : suc k - 1 ≡ k = omega arith in
      subst (λ (n : ℕ). AllByRecursion Q (take config.page_size (drop (n * config.page_size) (selected triples r)))) one (page_all Q triples r (suc k) config.page_size all)

  pub page_planned : ((s : Selection) → G s → G (read_as config.rows s)) → (s : Selection) (k : ℕ) → G s → 1 ≤ k → k ≤ selected_last triples (read_as config.rows s) config.page_size → IsPlanned G triples config (address_of_page config.base (asked_at config.rows k s) k)
  page_planned passed s zero own low high = absurd (omega (arith, low))
  page_planned passed s (suc zero) own low high = record { selection = s; k = 1; address_is = refl; good = own; low = low; high = high }
  page_planned passed s (suc (suc k)) own low high = record {
    selection = read_as config.rows s;
    k = suc (suc k);
    address_is = refl;
    good = passed s own;
    low = low;
    high = subst (λ (r : Selection). suc (suc k) ≤ selected_last triples r config.page_size) (sym (read_twice config.rows s)) high;
  }
