-- A server of fragments is a world.
use Rattle.std.proofs.Common.{ℕ, zero, suc, ◌≡◌, ◌+◌, ◌-◌, ◌*◌, ◌/◌, ◌%◌, ◌<◌, ◌≤◌, ◌^◌, ◌⊎◌, inl, inr, max, take-append-drop, drop-drop, nat_lt, ◌&&◌, Bool, true, false, if◌then◌else◌, List, [], ◌∷◌, ◌++◌, length, drop, take, Option, Some, None, refl, ap, sym, subst, ◌∙◌, arith, codes, append-nil, append_assoc}
use Rattle.std.proofs.Math.Nat.{suc-mul, zero-mul, mul_comm, div-add-mod, mod-lt, div-eq_of_lt, add-mul}
use Rattle.std.proofs.Math.Seq.{take-nil, drop-nil}
use Rattle.std.proofs.lemmas.Nat.{mul-le}
use Rattle.std.proofs.lemmas.List.{drop_all}
use Rattle.std.specs.Option.{option_map}
use Rattle.std.specs.List.{filter, flat_map, All, AllByRecursion}
use Rattle.std.specs.List.Sorted.{IsPermutation, IsStrictlySortedBy}
use Rattle.std.specs.declared.cmp.Ordering.{Ordering}
use Rattle.std.specs.declared.cmp.Ordering.TheVariants.{Less, Equal, Greater}
use Rattle.std.proofs.lemmas.Bool.Decides.{nat_tests}
use Rattle.std.proofs.lemmas.List.Elements.{All-nil, All-cons, All-head, All-tail, filter_agree}
use Rattle.std.proofs.lemmas.List.Sorted.{IsPermutation-refl, IsPermutation-trans, IsPermutation-cons, IsPermutation-append_left, IsPermutation-append_comm, All-permutation, length_permutation}
use Rattle.list_laws.proofs.Orders.{filter_turned}
use Rattle.list_laws.proofs.Lists.{filter_length}
use Rattle.tpf_base.specs.Addresses.{Address, IsAddress}
use Rattle.rdf_terms.specs.declared.term.Triple.{Triple}
use Rattle.rdf_terms.specs.declared.slots.Slots.{Slots}
use Rattle.rdf_terms.specs.Askable.{UnaskedMatchNothing}
use Rattle.rdf_terms.specs.Order.{triple_order}
use Rattle.rdf_terms.specs.Selections.{Selection, matches_one, restricted, selected, selected_last}
use Rattle.rdf_terms.specs.Slots.{matches, order_of}
use Rattle.rdf_terms.specs.Fragments.{fragment, put_by, put, sorted, last_page_of}
use Rattle.rdf_terms.specs.Valid.{IsValidTriple}
use Rattle.rdf_terms.proofs.FragmentLaws.{order_of_tells}
use Rattle.template_fill.specs.declared.form.Form.{Form}
use Rattle.template_fill.specs.WebAddress.{OneAddress}
use Rattle.template_fill.specs.Answers.{read_as}
use Rattle.template_fill.specs.Authorities.{PagesAreAddresses, address_of_page}
use Rattle.template_fill.specs.Pages.{FirstPageHasRows, page_address, server_template}
use Rattle.template_fill.specs.Forms.{form_text, filled, rows_behind, selection_form_text}
use Rattle.template_fill.specs.Templates.{Template, expansion}
use Rattle.template_fill.specs.Metadata.{Config}
use Rattle.template_fill.specs.Configurations.{IsValidDataSet, VersionsAreValid}
use Rattle.template_fill.specs.Bodies.{version_of}
use Rattle.control_laws.specs.Law.{IsServerForm, IsPageOf, IsNextOf, NothingElseIsRead}
use Rattle.request_plan.proofs.Pages.{items-first}
use Rattle.request_plan.specs.Rounds.{RoundData, round_of_one}
use Rattle.request_plan.specs.Worlds.{numbers, items_after}
use Rattle.plan_laws.specs.Servers.{kept_by, asked_at, server_world, ServersAreWorlds, ServersHaveForms, ServersPagesAreTrue}

-- ---- a fragment holds the matching triples, each as often as they

-- x is none of these
abbrev pub Apart : (Triple → Triple → Ordering) → Triple → List Triple → Type 0
Apart order x ys = All (λ y. order x y ≡ Equal → ⊥) ys

put-in : (order : Triple → Triple → Ordering) (x y : Triple) (ys more : List Triple) (o : Ordering) → (o ≡ Equal → ⊥) → IsPermutation (x ∷ ys) more → IsPermutation (x ∷ y ∷ ys) (put_by o x y ys more)
put-in order x y ys more Less h g = IsPermutation-refl _
put-in order x y ys more Equal h g = absurd (h refl)
put-in order x y ys more Greater h g = IsPermutation-trans _ _ _ (IsPermutation-append_left ys (x ∷ y ∷ []) (y ∷ x ∷ []) (IsPermutation-append_comm (x ∷ []) (y ∷ []))) (IsPermutation-cons y _ _ g)

put-turned : (order : Triple → Triple → Ordering) (x : Triple) (ys : List Triple) → Apart order x ys → IsPermutation (x ∷ ys) (put order x ys)
put-turned order x [] a = IsPermutation-refl _
put-turned order x (y ∷ ys) a = put-in order x y ys (put order x ys) (order x y) (All-head (λ z. order x z ≡ Equal → ⊥) y ys a) (put-turned order x ys (All-tail (λ z. order x z ≡ Equal → ⊥) y ys a))

abbrev pub AllApart : (Triple → Triple → Ordering) → List Triple → Type 0
AllApart order [] = Unit {0}
AllApart order (x ∷ xs) = Apart order x xs × AllApart order xs

pub sorted-turned : (order : Triple → Triple → Ordering) (xs : List Triple) → AllApart order xs → IsPermutation xs (sorted order xs)
sorted-turned order [] a = IsPermutation-refl _
sorted-turned order (x ∷ xs) a =
    let more = sorted-turned order xs a.1 in
    IsPermutation-trans _ _ _ (IsPermutation-cons x _ _ more) (put-turned order x (sorted order xs) (All-permutation (λ y. order x y ≡ Equal → ⊥) xs (sorted order xs) more a.0))

-- the triples of a data set differ, and those of them that match
not-less : (t : Triple) → ((a b : Triple) → a ≡ b → triple_order a b ≡ Equal) → triple_order t t ≡ Less → ⊥
not-less t same e = let g = same t t refl in cc

differ : (order : Triple → Triple → Ordering) (x y : Triple) → ((a b : Triple) → order a b ≡ Equal → a ≡ b) → ((a b : Triple) → a ≡ b → triple_order a b ≡ Equal) → triple_order x y ≡ Less → order x y ≡ Equal → ⊥
differ order x y tells same less e = not-less x same (subst (λ (z : Triple). triple_order x z ≡ Less) (sym (tells x y e)) less)

kept-step : (order : Triple → Triple → Ordering) (x y : Triple) (ys : List Triple) (b : Bool) → (order x y ≡ Equal → ⊥) → Apart order x ys → Apart order x (if b then y ∷ ys else ys)
kept-step order x y ys true h a = All-cons (λ z. order x z ≡ Equal → ⊥) y ys h a
kept-step order x y ys false h a = a

kept-apart : (test : Triple → Bool) (order : Triple → Triple → Ordering) (x : Triple) (xs : List Triple) → ((a b : Triple) → order a b ≡ Equal → a ≡ b) → ((a b : Triple) → a ≡ b → triple_order a b ≡ Equal) → AllByRecursion (λ y. triple_order x y ≡ Less) xs → Apart order x (filter test xs)
kept-apart test order x [] tells same a = All-nil (λ y. order x y ≡ Equal → ⊥)
kept-apart test order x (y ∷ ys) tells same a = kept-step order x y (filter test ys) (test y) (differ order x y tells same a.0) (kept-apart test order x ys tells same a.1)

filter-step : (order : Triple → Triple → Ordering) (x : Triple) (ys : List Triple) (b : Bool) → Apart order x ys → AllApart order ys → AllApart order (if b then x ∷ ys else ys)
filter-step order x ys true h a = (h, a)
filter-step order x ys false h a = a

filter-apart : (test : Triple → Bool) (order : Triple → Triple → Ordering) (xs : List Triple) → ((a b : Triple) → order a b ≡ Equal → a ≡ b) → ((a b : Triple) → a ≡ b → triple_order a b ≡ Equal) → IsStrictlySortedBy triple_order xs → AllApart order (filter test xs)
unfolding IsStrictlySortedBy
filter-apart test order [] tells same s = tt
filter-apart test order (x ∷ xs) tells same s = filter-step order x (filter test xs) (test x) (kept-apart test order x xs tells same s.0) (filter-apart test order xs tells same s.1)

pub fragment-turned : (triples : List Triple) (slots : Slots) → ((a b : Triple) → a ≡ b → triple_order a b ≡ Equal) → IsStrictlySortedBy triple_order triples → IsPermutation (filter (matches slots) triples) (fragment triples slots)
unfolding fragment
fragment-turned triples slots same s = sorted-turned (order_of slots) (filter (matches slots) triples) (filter-apart (matches slots) (order_of slots) triples (order_of_tells slots) same s)

-- ---- the world

all-from : {X : Type 0} (P : X → Type 0) (xs : List X) → AllByRecursion P xs → All P xs
all-from P [] a = All-nil P
all-from P (x ∷ xs) a = All-cons P x xs a.0 (all-from P xs a.1)

-- ---- what is selected holds the matching triples that are kept

-- two tests at once
twice-step : {X : Type 0} (q : X → Bool) (x : X) (ys : List X) (a b : Bool) → q x ≡ b → (if a && b then x ∷ filter q ys else filter q ys) ≡ filter q (if a then x ∷ ys else ys)
twice-step q x ys true b e = sym (ap (λ (c : Bool). if c then x ∷ filter q ys else filter q ys) e)
twice-step q x ys false b e = refl

twice : {X : Type 0} (p q : X → Bool) (xs : List X) → filter (λ t. p t && q t) xs ≡ filter q (filter p xs)
twice p q [] = refl
twice p q (x ∷ xs) = ap (λ l. if p x && q x then x ∷ l else l) (twice p q xs) ∙ twice-step q x (filter p xs) (p x) (q x) refl

and-true : (b : Bool) → (b && true) ≡ b
and-true true = refl
and-true false = refl

all-turned : (triples : List Triple) (slots : Slots) → IsPermutation (filter (matches slots) triples) (fragment triples slots) → IsPermutation (filter (λ t. matches slots t && true) triples) (fragment triples slots)
all-turned triples slots p =
    subst (λ (l : List Triple). IsPermutation l (fragment triples slots)) (sym (filter_agree (λ t. matches slots t && true) (matches slots) (λ t. and-true (matches slots t)) triples)) p

by-rows : (triples : List Triple) (slots : Slots) (rows : List Slots) → IsPermutation (filter (matches slots) triples) (fragment triples slots) → IsPermutation (filter (λ t. matches slots t && kept_by true rows t) triples) (restricted rows (fragment triples slots))
by-rows triples slots [] p = all-turned triples slots p
by-rows triples slots (row ∷ rows) p =
    subst (λ (l : List Triple). IsPermutation l (filter (matches_one (row ∷ rows)) (fragment triples slots))) (sym (twice (matches slots) (matches_one (row ∷ rows)) triples))
    (filter_turned (matches_one (row ∷ rows)) (filter (matches slots) triples) (fragment triples slots) p)

kept-turned : (triples : List Triple) (rows : Bool) (s : Selection) → IsPermutation (filter (matches s.slots) triples) (fragment triples s.slots) → IsPermutation (filter (λ t. matches s.slots t && kept_by rows s.rows t) triples) (selected triples (read_as rows s))
kept-turned triples false s p = all-turned triples s.slots p
kept-turned triples true s p = by-rows triples s.slots s.rows p

kept-all : (rows : Bool) (t : Triple) → kept_by rows [] t ≡ true
kept-all false t = refl
kept-all true t = refl

kept-rows : (read : Bool) (rows : List Slots) (t : Triple) → matches_one rows t ≡ true → kept_by read rows t ≡ true
kept-rows false rows t e = refl
kept-rows true [] t e = refl
kept-rows true (row ∷ rows) t e = e

restricted-none : (rows : List Slots) (items : List Triple) → items ≡ [] → restricted rows items ≡ []
restricted-none [] items e = e
restricted-none (row ∷ rows) items e = ap (λ (l : List Triple). filter (matches_one (row ∷ rows)) l) e

selected-none : (triples : List Triple) (rows : Bool) (s : Selection) → fragment triples s.slots ≡ [] → selected triples (read_as rows s) ≡ []
selected-none triples false s e = e
selected-none triples true s e = restricted-none s.rows (fragment triples s.slots) e

-- ---- pages

drop-page : {X : Type 0} (xs : List X) (k m : ℕ) → drop (k * m) xs ≡ take m (drop (k * m) xs) ++ drop (suc k * m) xs
drop-page xs k m =
    let e : drop m (drop (k * m) xs) ≡ drop (suc k * m) xs = drop-drop m (k * m) xs ∙ ap (λ n. drop n xs) (sym (suc-mul k m)) in
    sym (take-append-drop m (drop (k * m) xs)) ∙ ap (λ l. take m (drop (k * m) xs) ++ l) e

-- so many pages from one on, and what stands behind them
pages-from : {X : Type 0} (xs : List X) (m k n : ℕ) → flat_map (λ i. take m (drop (i * m) xs)) (numbers k n) ++ drop ((k + n) * m) xs ≡ drop (k * m) xs
pages-from xs m k zero = let e : k + 0 ≡ k = omega arith in ap (λ i. drop (i * m) xs) e
pages-from xs m k (suc n) =
    let e : k + suc n ≡ suc k + n = omega arith in
    append_assoc (take m (drop (k * m) xs)) (flat_map (λ i. take m (drop (i * m) xs)) (numbers (suc k) n)) (drop ((k + suc n) * m) xs)
    ∙ ap (λ i. take m (drop (k * m) xs) ++ (flat_map (λ j. take m (drop (j * m) xs)) (numbers (suc k) n) ++ drop (i * m) xs)) e
    ∙ ap (λ l. take m (drop (k * m) xs) ++ l) (pages-from xs m (suc k) n)
    ∙ sym (drop-page xs k m)

all-pages : (n m : ℕ) → 0 < m → n ≤ last_page_of n m * m
all-pages n m h =
    let q = (n + (m - 1)) / m in
    let e : m * q + (n + (m - 1)) % m ≡ n + (m - 1) = div-add-mod (n + (m - 1)) m in
    let r : (n + (m - 1)) % m < m = mod-lt (n + (m - 1)) h in
    let c : q * m ≡ m * q = mul_comm q m in
    let one : n ≤ q * m = omega arith in
    let two : q * m ≤ max 1 q * m = mul-le q m (max 1 q) m (omega arith) (omega arith) in
    omega arith

-- the pages of a list are the list
pages-whole : {X : Type 0} (xs : List X) (m : ℕ) → 0 < m → flat_map (λ i. take m (drop (i * m) xs)) (numbers 0 (last_page_of (length xs) m)) ≡ xs
pages-whole xs m h =
    let last = last_page_of (length xs) m in
    let from : 0 + last ≡ last = omega arith in
    let none : drop ((0 + last) * m) xs ≡ [] = ap (λ n. drop (n * m) xs) from ∙ drop_all (last * m) xs (all-pages (length xs) m h) in
    let whole = pages-from xs m 0 last in
    sym (append-nil (flat_map (λ i. take m (drop (i * m) xs)) (numbers 0 last))) ∙ ap (λ l. flat_map (λ i. take m (drop (i * m) xs)) (numbers 0 last) ++ l) (sym none) ∙ whole ∙ ap (λ n. drop n xs) (zero-mul m)

below-or-not : (q n : ℕ) → (q ≤ n) ⊎ (n + 1 ≤ q)
below-or-not zero n = inl (omega arith)
below-or-not (suc q) zero = inr (omega arith)
below-or-not (suc q) (suc n) = elim (below-or-not q n) [ inl h ↦ inl (omega (arith, h)) | inr h ↦ inr (omega (arith, h)) ]

too-many : (n m q : ℕ) → 0 < m → q * m ≤ n + (m - 1) → n + 1 ≤ q → ⊥
too-many n m q h e y =
    let two : (n + 1) * m ≤ q * m = mul-le (n + 1) m q m y (let r : m ≤ m = omega arith in r) in
    let three : n * 1 ≤ n * m = mul-le n 1 n m (let r : n ≤ n = omega arith in r) h in
    let four : (n + 1) * m ≡ n * m + 1 * m = add-mul n 1 m in
    omega arith

-- a fragment has no more pages than triples, and at least one
last-small : (n m : ℕ) → 0 < m → last_page_of n m ≤ max 1 n
last-small n m h =
    let q = (n + (m - 1)) / m in
    let e : m * q + (n + (m - 1)) % m ≡ n + (m - 1) = div-add-mod (n + (m - 1)) m in
    let c : q * m ≡ m * q = mul_comm q m in
    let most : q * m ≤ n + (m - 1) = omega arith in
    let small : q ≤ n = elim (below-or-not q n) [ inl x ↦ x | inr y ↦ absurd (too-many n m q h most y) ] in
    omega arith

few-pages : (n m : ℕ) → 0 < m → n < 2 ^ 64 → last_page_of n m < 2 ^ 64
few-pages n m h few = let small = last-small n m h in omega (arith, small, few)

one-page : (n m : ℕ) → n ≡ 0 → 0 < m → last_page_of n m ≡ 1
one-page n m h some =
    let low : n + (m - 1) < m = omega (arith, h, some) in
    ap (λ (q : ℕ). max 1 q) (div-eq_of_lt low)

none-in : {X : Type 0} (l : List X) (n k : ℕ) → length l ≡ 0 → take n (drop k l) ≡ []
none-in [] n k h = ap (take n) (drop-nil k) ∙ take-nil n
none-in (t ∷ l) n k h = absurd (omega (arith, h))

some-page : (q : ℕ) → 0 < max 1 q
some-page q = omega arith

pub world-of : ((a b : Triple) → a ≡ b → triple_order a b ≡ Equal) → UnaskedMatchNothing → VersionsAreValid → ServersAreWorlds
world-of same unasked versions block history version config low high h c few =
    let triples = version_of history version in
    let size = config.page_size in
    let rows = config.rows in
    let valid : IsValidDataSet triples = versions history version h in
    let given : Selection → List Triple = λ s. selected triples (read_as rows s) in
    let kept : Selection → List Triple = λ s. filter (λ t. matches s.slots t && kept_by rows s.rows t) triples in
    let turned : (s : Selection) → IsPermutation (kept s) (given s) = λ s. kept-turned triples rows s (fragment-turned triples s.slots same valid.data_set.ascending) in
    let sized : 0 < size = omega (arith, c.low) in
    let whole : (s : Selection) → items_after (server_world block triples config) s 0 ≡ given s = λ s. items-first (server_world block triples config) s ∙ pages-whole (given s) size sized in
    let counted : (s : Selection) → length (given s) < 2 ^ 64 = λ s. omega (arith, few, filter_length (λ t. matches s.slots t && kept_by rows s.rows t) triples, length_permutation _ _ (turned s)) in
    record {
      fragments = λ s. subst (λ (l : List Triple). IsPermutation (kept s) l) (sym (whole s)) (turned s);
      keeps_all = kept-all rows;
      keeps_rows = kept-rows rows;
      block = (low, high);
      some = λ s. some-page ((length (given s) + (size - 1)) / size);
      few = λ s. few-pages (length (given s)) size sized (counted s);
      alone = λ s e. one-page (length (given s)) size e sized;
      none = λ s e. none-in (given s) size (0 * size) e;
      unasked = λ s e. whole s ∙ selected-none triples rows s (unasked triples s.slots e valid.data_set.classes);
      valid = all-from IsValidTriple triples valid.terms;
    }

form-is : (base : Address) (form : Form) (s : Slots) → IsServerForm base form → form_text form s ≡ expansion (server_template base) (filled (codes "subject") (codes "predicate") (codes "object") s)
form-is base form s f =
    ap (λ (t : Template). expansion t (filled form.subject form.predicate form.object s)) f.template
    ∙ ap (λ (x : List ℕ). expansion (server_template base) (filled x form.predicate form.object s)) f.subject
    ∙ ap (λ (x : List ℕ). expansion (server_template base) (filled (codes "subject") x form.object s)) f.predicate
    ∙ ap (λ (x : List ℕ). expansion (server_template base) (filled (codes "subject") (codes "predicate") x s)) f.object

pub form-of : PagesAreAddresses → FirstPageHasRows → ServersHaveForms
form-of addresses first block triples config form c f = record {
  one = λ s k. (address_of_page config.base (asked_at config.rows k s) k, refl);
  forms = record {
    first = λ s e.
        let text : page_address config.base s 1 ≡ selection_form_text form s = first config.base s c.base c.no_query ∙ ap (λ (x : List ℕ). rows_behind x s.rows) (sym (form-is config.base form s.slots f)) in
        record {
          addresses = (subst (λ (x : List ℕ). IsAddress x (address_of_page config.base s 1)) text (addresses config.base s 1 c.base), tt);
          none = refl;
        };
  };
}

next-is : (config : Config) (s : Selection) (k last : ℕ) (a : Address) (o : Option Address) (b : Bool) → nat_lt (suc k) last ≡ b → OneAddress → (IsAddress (page_address config.base s (suc k + 1)) a) → IsNextOf config s (suc k) last o
    → option_map round_of_one o ≡ (if b then Some (round_of_one a) else None)
next-is config s k last a None true e one at n = let h : last ≤ suc k = n in absurd (grind (arith, nat_tests))
next-is config s k last a None false e one at n = refl
next-is config s k last a (Some next) true e one at n = ap (λ (x : Address). let r : Option RoundData = Some (round_of_one x) in r) (one _ _ _ n.1 at)
next-is config s k last a (Some next) false e one at n = let h = n.0 in absurd (grind (arith, nat_tests))

-- the address of a round for one server
pub one-address : (a b : Address) → round_of_one a ≡ round_of_one b → a ≡ b
one-address a b e = same (ap (λ (r : RoundData). r.addresses) e)
  where
    same : a ∷ [] ≡ b ∷ [] → a ≡ b
    same f = cc

pub pages-of : PagesAreAddresses → OneAddress → NothingElseIsRead → ServersPagesAreTrue
pages-of addresses one only block history version config address page h number_is c read = record {
  stands = λ s k valid ask at below.
      let triples = version_of history version in
      let r = read_as config.rows s in
      let last = selected_last triples r config.page_size in
      let further = address_of_page config.base r (suc (suc k)) in
      let is : IsPageOf triples version config r (suc k) page = (only history version config r (suc k) address page h number_is c (read s k valid ask (one-address address (address_of_page config.base (asked_at config.rows (suc k) s) (suc k)) at) below)).is_page in
      let number : suc k + 1 ≡ suc (suc k) = omega arith in
      let there : IsAddress (page_address config.base r (suc k + 1)) further = subst (λ (n : ℕ). IsAddress (page_address config.base r n) further) (sym number) (addresses config.base r (suc (suc k)) c.base) in
      record {
        triples = is.triples_are ∙ ap (λ (n : ℕ). take config.page_size (drop (n * config.page_size) (selected triples r))) (let one : suc k - 1 ≡ k = omega arith in one);
        count = λ e. is.count;
        next = next-is config r k last further page.next (nat_lt (suc k) last) refl one there is.next;
      };
}
