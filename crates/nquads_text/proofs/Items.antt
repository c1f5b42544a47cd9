-- What stands between two marks, item by item: how a reader of such items and their grammar agree, whatever the items are.
use Rattle.std.proofs.Common.{ℕ, zero, suc, ◌≡◌, ◌+◌, ◌-◌, ◌<◌, ◌⊎◌, inl, inr, Bool, if◌then◌else◌, true, false, ◌&&◌, List, [], ◌∷◌, ◌++◌, length, take, drop, Option, Some, None, nat_eq, refl, ap, sym, subst, ◌∙◌, arith, append_assoc, length-append}
use Rattle.std.specs.List.{list_all}
use Rattle.std.proofs.lemmas.Bool.{and_parts}
use Rattle.std.proofs.lemmas.Option.{same_Some}
use Rattle.list_laws.proofs.Options.{bind_some, when_some}
use Rattle.list_laws.specs.Options.{when, ◌>>=◌}
use Rattle.nquads_text.specs.declared.scan.Awaits.{Awaits}
use Rattle.nquads_text.specs.declared.scan.Awaits.TheVariants.{Item, Escape, Digits}
use Rattle.nquads_text.specs.Scan.{is_item, digits_left, opened}
use Rattle.nquads_text.specs.Grammar.{is_hex, AreDigits, IsNumeric, all_of, Each, AreItems}
use Rattle.nquads_text.proofs.Lines.{chosen}

-- ---- lists and tests

pub not_here : (t : Bool) (i : ℕ) (x : Option ℕ) → t ≡ false → (if t then Some i else x) ≡ x
not_here true i x e = cc
not_here false i x e = refl

pub plain_step : (k w : Bool) → k ≡ false → w ≡ true → ◌≡◌ {A = Option Awaits} (if k then Some Escape else when w Item) (Some Item)
plain_step true w e f = cc
plain_step false true e f = refl
plain_step false false e f = cc

pub take_drop : (n : ℕ) (xs : List ℕ) → xs ≡ take n xs ++ drop n xs
take_drop zero xs = refl
take_drop (suc n) [] = refl
take_drop (suc n) (x ∷ xs) = ap (λ (l : List ℕ). x ∷ l) (take_drop n xs)

pub opened_some : (x : ℕ) (bytes rest : List ℕ) → opened x bytes ≡ Some rest → bytes ≡ x ∷ rest
opened_some x [] rest e = cc
opened_some x (b ∷ bs) rest e =
    let w = when_some (nat_eq b x) bs rest e in
    let same : b ≡ x = grind (arith, w.0) in
    rw (same, w.1) refl

pub some_left : (n : ℕ) → 0 < n → digits_left n ≡ Digits (n - 1)
some_left n h = let some : nat_eq n 0 ≡ false = grind arith in rw some refl

none_or_some : (n : ℕ) → (n ≡ 0) ⊎ (0 < n)
none_or_some zero = inl refl
none_or_some (suc n) = inr (omega arith)

-- ---- readers

-- a reader of items up to a mark: end answers the mark's place, and step what is awaited after a byte
pub record Scans (mark : ℕ) (step : Awaits → ℕ → Option Awaits) (end : Awaits → ℕ → List ℕ → Option ℕ) : Type 0 where
  pub nothing : (s : Awaits) (i : ℕ) → end s i [] ≡ None
  pub goes_on : (s : Awaits) (i b : ℕ) (bs : List ℕ) → end s i (b ∷ bs) ≡ (if is_item s && nat_eq b mark then Some i else (step s b >>= λ t. end t (i + 1) bs))
  pub is_mark : nat_eq mark mark ≡ true
  pub no_mark : nat_eq 92 mark ≡ false
  pub backslash : step Item 92 ≡ Some Escape
  pub four : step Escape 117 ≡ Some (digits_left 4)
  pub eight : step Escape 85 ≡ Some (digits_left 8)
  pub hex : (more b : ℕ) → step (Digits more) b ≡ when (is_hex b) (digits_left more)

-- the first bytes of an item that is not whole, where n digits are still to come, and in each state
abbrev pub Opens : ℕ → ℕ → List ℕ → Type 0
Opens n c digits = (list_all is_hex digits ≡ true) × (((c ≡ 117) × (length digits + n ≡ 4)) ⊎ ((c ≡ 85) × (length digits + n ≡ 8)))

abbrev pub Partial : Awaits → List ℕ → Type 0
Partial Item front = front ≡ []
Partial Escape front = front ≡ 92 ∷ []
Partial (Digits more) front = (c : ℕ) × (digits : List ℕ) × (front ≡ 92 ∷ c ∷ digits) × Opens (more + 1) c digits

all_hex : (xs : List ℕ) (b : ℕ) → list_all is_hex xs ≡ true → is_hex b ≡ true → list_all is_hex (xs ++ b ∷ []) ≡ true
all_hex [] b h k = rw k refl
all_hex (x ∷ xs) b h k = let p = and_parts (is_hex x) (list_all is_hex xs) h in rw (p.0, all_hex xs b p.1 k) refl

whole_item : (c b : ℕ) (digits : List ℕ) → Opens 1 c digits → is_hex b ≡ true → IsNumeric (92 ∷ c ∷ (digits ++ b ∷ []))
whole_item c b digits (e, inl four) h = (digits ++ b ∷ [], inl (ap (λ (k : ℕ). 92 ∷ k ∷ (digits ++ b ∷ [])) four.0, record { count = omega (arith, length-append digits (b ∷ []), four.1); each = all_hex digits b e h }))
whole_item c b digits (e, inr eight) h = (digits ++ b ∷ [], inr (ap (λ (k : ℕ). 92 ∷ k ∷ (digits ++ b ∷ [])) eight.0, record { count = omega (arith, length-append digits (b ∷ []), eight.1); each = all_hex digits b e h }))

opens_more : (more c b : ℕ) (digits : List ℕ) → 0 < more → Opens (more + 1) c digits → is_hex b ≡ true → Opens ((more - 1) + 1) c (digits ++ b ∷ [])
opens_more more c b digits l (e, inl four) h = (all_hex digits b e h, inl (four.0, omega (arith, four.1, length-append digits (b ∷ []))))
opens_more more c b digits l (e, inr eight) h = (all_hex digits b e h, inr (eight.0, omega (arith, eight.1, length-append digits (b ∷ []))))

at_mark : (mark b : ℕ) (s : Awaits) → (is_item s && nat_eq b mark) ≡ true → (s ≡ Item) × (b ≡ mark)
at_mark mark b Item e = (refl, grind (arith, e))
at_mark mark b Escape e = cc
at_mark mark b (Digits more) e = cc

empty_front : (s : Awaits) (front : List ℕ) → Partial s front → s ≡ Item → front ≡ []
empty_front s front p z = subst (λ (t : Awaits). Partial t front) z p

-- ---- from the grammar to the reader

module _ {mark : ℕ} {step : Awaits → ℕ → Option Awaits} {end : Awaits → ℕ → List ℕ → Option ℕ} (r : Scans mark step end) where
  pub goes : (s u : Awaits) (i b : ℕ) (bs : List ℕ) → (is_item s && nat_eq b mark) ≡ false → step s b ≡ Some u → end s i (b ∷ bs) ≡ end u (i + 1) bs
  goes s u i b bs z e = r.goes_on s i b bs ∙ not_here (is_item s && nat_eq b mark) i (step s b >>= λ t. end t (i + 1) bs) z ∙ ap (λ (o : Option Awaits). o >>= λ t. end t (i + 1) bs) e

  hex_step : (more b : ℕ) → is_hex b ≡ true → step (Digits more) b ≡ Some (digits_left more)
  hex_step more b e = r.hex more b ∙ ap (λ (t : Bool). when t (digits_left more)) e

  digits_end : (digits : List ℕ) (n i : ℕ) (rest : List ℕ) → AreDigits n digits → end (digits_left n) i (digits ++ rest) ≡ end Item (i + n) rest
  digits_end [] n i rest d =
      let none : 0 ≡ n = omega (arith, d.count) in
      let at : i ≡ i + 0 = omega arith in
      subst (λ (k : ℕ). end (digits_left k) i rest ≡ end Item (i + k) rest) none (ap (λ (k : ℕ). end Item k rest) at)
  digits_end (b ∷ digits) n i rest d =
      let p = and_parts (is_hex b) (list_all is_hex digits) d.each in
      let some : 0 < n = omega (arith, d.count) in
      let less : AreDigits (n - 1) digits = record { count = omega (arith, d.count); each = p.1 } in
      let more : end (digits_left (n - 1)) (i + 1) (digits ++ rest) ≡ end Item ((i + 1) + (n - 1)) rest = digits_end digits (n - 1) (i + 1) rest less in
      let place : (i + 1) + (n - 1) ≡ i + n = omega arith in
      ap (λ (s : Awaits). end s i (b ∷ (digits ++ rest))) (some_left n some) ∙ goes (Digits (n - 1)) (digits_left (n - 1)) i b (digits ++ rest) refl (hex_step (n - 1) b p.0) ∙ more ∙ ap (λ (k : ℕ). end Item k rest) place

  escape_end : (c n : ℕ) (digits : List ℕ) (i : ℕ) (rest : List ℕ) → step Escape c ≡ Some (digits_left n) → AreDigits n digits → end Item i (92 ∷ c ∷ (digits ++ rest)) ≡ end Item (i + length (92 ∷ c ∷ digits)) rest
  escape_end c n digits i rest e d =
      let place : ((i + 1) + 1) + n ≡ i + length (92 ∷ c ∷ digits) = omega (arith, d.count) in
      goes Item Escape i 92 (c ∷ (digits ++ rest)) r.no_mark r.backslash ∙ goes Escape (digits_left n) (i + 1) c (digits ++ rest) refl e ∙ digits_end digits n ((i + 1) + 1) rest d ∙ ap (λ (k : ℕ). end Item k rest) place

  pub numeric_end : (item : List ℕ) (i : ℕ) (rest : List ℕ) → IsNumeric item → end Item i (item ++ rest) ≡ end Item (i + length item) rest
  numeric_end item i rest (digits, inl four) = subst (λ (l : List ℕ). end Item i (l ++ rest) ≡ end Item (i + length l) rest) (sym four.0) (escape_end 117 4 digits i rest r.four four.1)
  numeric_end item i rest (digits, inr eight) = subst (λ (l : List ℕ). end Item i (l ++ rest) ≡ end Item (i + length l) rest) (sym eight.0) (escape_end 85 8 digits i rest r.eight eight.1)

  at_once : (i : ℕ) (rest : List ℕ) → end Item i (mark ∷ rest) ≡ Some i
  at_once i rest = r.goes_on Item i mark rest ∙ ap (λ (t : Bool). if t then Some i else (step Item mark >>= λ u. end u (i + 1) rest)) r.is_mark

  items_end : (IsOne : List ℕ → Type 0) → ((item : List ℕ) (i : ℕ) (rest : List ℕ) → IsOne item → end Item i (item ++ rest) ≡ end Item (i + length item) rest)
      → (items : List (List ℕ)) (i : ℕ) (rest : List ℕ) → Each IsOne items → end Item i (all_of items ++ mark ∷ rest) ≡ Some (i + length (all_of items))
  items_end IsOne one [] i rest h = let same : i ≡ i + 0 = omega arith in at_once i rest ∙ ap (λ (k : ℕ). Some k) same
  items_end IsOne one (item ∷ items) i rest h =
      let place : (i + length item) + length (all_of items) ≡ i + length (item ++ all_of items) = omega (arith, length-append item (all_of items)) in
      ap (λ (l : List ℕ). end Item i l) (append_assoc item (all_of items) (mark ∷ rest)) ∙ one item i (all_of items ++ mark ∷ rest) h.0 ∙ items_end IsOne one items (i + length item) rest h.1 ∙ ap (λ (k : ℕ). Some k) place

  -- the mark is found behind the items of a text
  pub text_end : (IsOne : List ℕ → Type 0) → ((item : List ℕ) (i : ℕ) (rest : List ℕ) → IsOne item → end Item i (item ++ rest) ≡ end Item (i + length item) rest)
      → (text rest : List ℕ) → AreItems IsOne text → end Item 0 (text ++ mark ∷ rest) ≡ Some (length text)
  text_end IsOne one text rest h =
      let at : end Item 0 (all_of h.0 ++ mark ∷ rest) ≡ Some (0 + length (all_of h.0)) = items_end IsOne one h.0 0 rest h.1 in
      let none : 0 + length (all_of h.0) ≡ length (all_of h.0) = omega arith in
      subst (λ (l : List ℕ). end Item 0 (l ++ mark ∷ rest) ≡ Some (length l)) (sym h.2) (at ∙ ap (λ (k : ℕ). Some k) none)

-- ---- from the reader to the grammar

-- the bytes up to the mark's place are items, the first of which front begins
pub record Ends (IsOne : List ℕ → Type 0) (mark i : ℕ) (front bs : List ℕ) (m : ℕ) : Type 0 where
  pub n : ℕ
  pub place : m ≡ i + n
  pub items : AreItems IsOne (front ++ take n bs)
  pub closes : drop n bs ≡ mark ∷ drop (suc n) bs

-- after front and a byte stands the front of an item again, or nothing
abbrev pub Next : (List ℕ → Type 0) → List ℕ → ℕ → Awaits → Type 0
Next IsOne front b u = (more : List ℕ) × Partial u more × ((rest : List ℕ) → AreItems IsOne (more ++ rest) → AreItems IsOne (front ++ b ∷ rest))

module _ (IsOne : List ℕ → Type 0) where
  one_more : (item rest : List ℕ) → IsOne item → AreItems IsOne rest → AreItems IsOne (item ++ rest)
  one_more item rest h r = (item ∷ r.0, (h, r.1), ap (λ (l : List ℕ). item ++ l) r.2)

  -- a byte that is an item, or ends one
  pub whole_next : (front : List ℕ) (b : ℕ) → IsOne (front ++ b ∷ []) → Next IsOne front b Item
  whole_next front b h = ([], refl, λ rest r. subst (λ (l : List ℕ). AreItems IsOne l) (append_assoc front (b ∷ []) rest) (one_more (front ++ b ∷ []) rest h r))

  pub item_next : (w k : Bool) (b : ℕ) (u : Awaits) → (w ≡ true → IsOne (b ∷ [])) → nat_eq b 92 ≡ k → ◌≡◌ {A = Option Awaits} (if k then Some Escape else when w Item) (Some u) → Next IsOne [] b u
  item_next w true b u plain e f =
      let same : 92 ≡ b = grind (arith, e) in
      let to : Escape ≡ u = same_Some Escape u f in
      subst (λ (u : Awaits). Next IsOne [] b u) to (92 ∷ [], refl, λ rest h. subst (λ (k : ℕ). AreItems IsOne (k ∷ rest)) same h)
  item_next w false b u plain e f = let v = when_some w Item u f in subst (λ (u : Awaits). Next IsOne [] b u) v.1 (whole_next [] b (plain v.0))

  pub escape_next : (k l : Bool) (b : ℕ) (u : Awaits) → nat_eq b 117 ≡ k → nat_eq b 85 ≡ l → ◌≡◌ {A = Option Awaits} (if k then Some (digits_left 4) else (if l then Some (digits_left 8) else None)) (Some u) → Next IsOne (92 ∷ []) b u
  escape_next true l b u e g f =
      let same : 117 ≡ b = grind (arith, e) in
      let to : digits_left 4 ≡ u = same_Some (digits_left 4) u f in
      subst (λ (u : Awaits). Next IsOne (92 ∷ []) b u) to (92 ∷ 117 ∷ [], (117, [], refl, (refl, inl (refl, refl))), λ rest h. subst (λ (k : ℕ). AreItems IsOne (92 ∷ k ∷ rest)) same h)
  escape_next false true b u e g f =
      let same : 85 ≡ b = grind (arith, g) in
      let to : digits_left 8 ≡ u = same_Some (digits_left 8) u f in
      subst (λ (u : Awaits). Next IsOne (92 ∷ []) b u) to (92 ∷ 85 ∷ [], (85, [], refl, (refl, inr (refl, refl))), λ rest h. subst (λ (k : ℕ). AreItems IsOne (92 ∷ k ∷ rest)) same h)
  escape_next false false b u e g f = cc

module _ (IsOne : List ℕ → Type 0) (numeric : (item : List ℕ) → IsNumeric item → IsOne item) where
  digit_by : (more c b : ℕ) (digits : List ℕ) → Opens (more + 1) c digits → is_hex b ≡ true → (more ≡ 0) ⊎ (0 < more) → Next IsOne (92 ∷ c ∷ digits) b (digits_left more)
  digit_by more c b digits o h (inl none) =
      let last : Opens 1 c digits = subst (λ (k : ℕ). Opens (k + 1) c digits) none o in
      subst (λ (k : ℕ). Next IsOne (92 ∷ c ∷ digits) b (digits_left k)) (sym none) (whole_next IsOne (92 ∷ c ∷ digits) b (numeric (92 ∷ c ∷ (digits ++ b ∷ [])) (whole_item c b digits last h)))
  digit_by more c b digits o h (inr some) =
      subst (λ (u : Awaits). Next IsOne (92 ∷ c ∷ digits) b u) (sym (some_left more some)) (92 ∷ c ∷ (digits ++ b ∷ []), (c, digits ++ b ∷ [], refl, opens_more more c b digits some o h), λ rest r. subst (λ (x : List ℕ). AreItems IsOne (92 ∷ c ∷ x)) (append_assoc digits (b ∷ []) rest) r)

  pub digit_next : (more b : ℕ) (u : Awaits) (front : List ℕ) → Partial (Digits more) front → ◌≡◌ {A = Option Awaits} (when (is_hex b) (digits_left more)) (Some u) → Next IsOne front b u
  digit_next more b u front p e =
      let w = when_some (is_hex b) (digits_left more) u e in
      subst (λ (l : List ℕ). Next IsOne l b u) (sym p.2) (subst (λ (u : Awaits). Next IsOne (92 ∷ p.0 ∷ p.1) b u) w.1 (digit_by more p.0 b p.1 p.3 w.0 (none_or_some more)))

module _ (IsOne : List ℕ → Type 0) {mark : ℕ} {step : Awaits → ℕ → Option Awaits} {end : Awaits → ℕ → List ℕ → Option ℕ} (r : Scans mark step end)
    (next : (s u : Awaits) (b : ℕ) (front : List ℕ) → Partial s front → step s b ≡ Some u → Next IsOne front b u) where
  ends_by : (s : Awaits) (i b : ℕ) (bs front : List ℕ) (m : ℕ) → Partial s front → ((u : Awaits) (more : List ℕ) → Partial u more → end u (i + 1) bs ≡ Some m → Ends IsOne mark (i + 1) more bs m)
      → ((is_item s && nat_eq b mark) ≡ true) × (◌≡◌ {A = Option ℕ} (Some i) (Some m)) ⊎ ((is_item s && nat_eq b mark) ≡ false) × ((step s b >>= λ u. end u (i + 1) bs) ≡ Some m) → Ends IsOne mark i front (b ∷ bs) m
  ends_by s i b bs front m p ih (inl here) =
      let same : i ≡ m = same_Some i m here.1 in
      let at = at_mark mark b s here.0 in
      let none : front ≡ [] = empty_front s front p at.0 in
      record { n = 0; place = omega (arith, same); items = subst (λ (l : List ℕ). AreItems IsOne (l ++ [])) (sym none) ([], tt, refl); closes = ap (λ (k : ℕ). k ∷ bs) at.1 }
  ends_by s i b bs front m p ih (inr later) =
      let w = bind_some (step s b) (λ u. end u (i + 1) bs) m later.1 in
      let v = next s w.0 b front p w.1 in
      let e = ih w.0 v.0 v.1 w.2 in
      record { n = suc e.n; place = omega (arith, e.place); items = v.2 (take e.n bs) e.items; closes = e.closes }

  ends : (s : Awaits) (i : ℕ) (bs front : List ℕ) (m : ℕ) → Partial s front → end s i bs ≡ Some m → Ends IsOne mark i front bs m
  ends s i [] front m p e = let never : ◌≡◌ {A = Option ℕ} None (Some m) = sym (r.nothing s i) ∙ e in cc
  ends s i (b ∷ bs) front m p e =
      ends_by s i b bs front m p (λ u more. ends u (i + 1) bs more m) (chosen (is_item s && nat_eq b mark) (Some i) (step s b >>= λ u. end u (i + 1) bs) (Some m) (sym (r.goes_on s i b bs) ∙ e))

  -- what stands before the mark that is found are items, and the mark follows them
  pub end_text : (bytes : List ℕ) (n : ℕ) → end Item 0 bytes ≡ Some n → AreItems IsOne (take n bytes) × (bytes ≡ take n bytes ++ mark ∷ drop (n + 1) bytes)
  end_text bytes n e =
      let f = ends Item 0 bytes [] n refl e in
      let n_is : f.n ≡ n = omega (arith, f.place) in
      let items : AreItems IsOne (take n bytes) = subst (λ (k : ℕ). AreItems IsOne (take k bytes)) n_is f.items in
      let closes : drop n bytes ≡ mark ∷ drop (suc n) bytes = subst (λ (k : ℕ). drop k bytes ≡ mark ∷ drop (suc k) bytes) n_is f.closes in
      let more : suc n ≡ n + 1 = omega arith in
      let behind : drop n bytes ≡ mark ∷ drop (n + 1) bytes = subst (λ (k : ℕ). drop n bytes ≡ mark ∷ drop k bytes) more closes in
      (items, take_drop n bytes ∙ ap (λ (l : List ℕ). take n bytes ++ l) behind)
