-- Nodes under numbers that rise.
use Rattle.std.proofs.Common.{ℕ, zero, suc, ◌≡◌, ◌+◌, ◌<◌, Bool, true, false, not, cond, List, [], ◌∷◌, ◌++◌, length, get_or, set, take, slice_get, Option, Some, None, refl, ap, sym, subst, ◌∙◌, arith}
use Rattle.std.specs.List.{All, AllByRecursion, count_by, remove}
use Rattle.std.specs.List.Sorted.{IsStrictlySortedBy}
use Rattle.std.specs.Map.{keys_of, values_of, lookup, set_value, remove_entry}
use Rattle.std.specs.Set.{remove_key}
use Rattle.std.specs.BTreeMap.{insert_entry}
use Rattle.std.specs.BTreeSet.{insert_key}
use Rattle.std.specs.Ordering.{nat_cmp, is_eq, match_ordering}
use Rattle.std.specs.declared.cmp.Ordering.{Ordering}
use Rattle.std.specs.declared.cmp.Ordering.TheVariants.{Less, Equal, Greater}
use Rattle.std.specs.Cmp.{nat_cmp_total}
use Rattle.std.proofs.lemmas.Cmp.{ranked, tied_itself}
use Rattle.std.proofs.lemmas.Map.Lookups.{exact_unsigned}
use Rattle.std.proofs.lemmas.Map.Views.{tells_apart}
use Rattle.std.proofs.lemmas.Map.Keys.{sorted_head, sorted_tail}
use Rattle.std.proofs.lemmas.List.Sums.{sum_by-append}
use Rattle.std.proofs.lemmas.List.Elements.{All-nil, All-cons, All-head, All-tail}
use Rattle.list_laws.proofs.Tests.{is_greater}
use Rattle.join_core.specs.Nodes.{NodeData}
use Rattle.join_core.specs.Events.{is_idle, works}
use Rattle.join_core.specs.Levels.{is_key, spot, marked}

-- ---- tests of numbers

pub key-is : (k x : ℕ) → is_key k x ≡ true → k ≡ x
key-is k x e = tells_apart exact_unsigned k x e

pub key-self : (k : ℕ) → is_key k k ≡ true
key-self k = ap is_eq (tied_itself nat_cmp_total k)

not-by : (k x : ℕ) (b : Bool) → is_key k x ≡ b → (k ≡ x → ⊥) → b ≡ false
not-by k x true e h = absurd (h (key-is k x e))
not-by k x false e h = refl

pub key-not : (k x : ℕ) → (k ≡ x → ⊥) → is_key k x ≡ false
key-not k x h = not-by k x (is_key k x) refl h

pub less-is : (x y : ℕ) → nat_cmp x y ≡ Less → x < y
less-is x y e = ranked x y Less (sym e)

key-equal : (k x : ℕ) → is_key k x ≡ true → nat_cmp k x ≡ Equal
key-equal k x e = subst (λ y. nat_cmp k y ≡ Equal) (key-is k x e) (tied_itself nat_cmp_total k)

less-not : (x y : ℕ) → x < y → y ≡ x → ⊥
less-not x y h e = omega (arith, h, e)

-- ---- places

found-step : (k : ℕ) (x : ℕ × NodeData) (es : List (ℕ × NodeData)) (n : NodeData) (b : Bool) → ◌≡◌ {A = Option NodeData} (cond b (Some x.1) (lookup (is_key k) es)) (Some n)
    → (lookup (is_key k) es ≡ Some n → (spot k es < length es) × (n ≡ get_or (values_of es) (spot k es) n)) → (cond b 0 (suc (spot k es)) < suc (length es)) × (n ≡ get_or (x.1 ∷ values_of es) (cond b 0 (suc (spot k es))) n)
found-step k x es n true e more = (omega arith, cc)
found-step k x es n false e more = let m = more e in (omega (arith, m.0), m.1)

-- a node that is found stands at its place
pub spot-found : (k : ℕ) (es : List (ℕ × NodeData)) (n : NodeData) → lookup (is_key k) es ≡ Some n → (spot k es < length es) × (n ≡ get_or (values_of es) (spot k es) n)
spot-found k [] n e = cc
spot-found k (x ∷ es) n e = found-step k x es n (is_key k x.0) e (λ h. spot-found k es n h)

set-step : (k : ℕ) (x : ℕ × NodeData) (es : List (ℕ × NodeData)) (w : NodeData) (b : Bool) → values_of (set_value (is_key k) es w) ≡ set (values_of es) (spot k es) w
    → values_of (cond b ((x.0, w) ∷ es) (x ∷ set_value (is_key k) es w)) ≡ set (x.1 ∷ values_of es) (cond b 0 (suc (spot k es))) w
set-step k x es w true more = refl
set-step k x es w false more = ap (λ (l : List NodeData). x.1 ∷ l) more

pub values-set : (k : ℕ) (es : List (ℕ × NodeData)) (w : NodeData) → values_of (set_value (is_key k) es w) ≡ set (values_of es) (spot k es) w
values-set k [] w = refl
values-set k (x ∷ es) w = set-step k x es w (is_key k x.0) (values-set k es w)

remove-step : (k : ℕ) (x : ℕ × NodeData) (es : List (ℕ × NodeData)) (b : Bool) → values_of (remove_entry (is_key k) es) ≡ remove (values_of es) (spot k es)
    → values_of (cond b es (x ∷ remove_entry (is_key k) es)) ≡ remove (x.1 ∷ values_of es) (cond b 0 (suc (spot k es)))
remove-step k x es true more = refl
remove-step k x es false more = ap (λ (l : List NodeData). x.1 ∷ l) more

pub values-removed : (k : ℕ) (es : List (ℕ × NodeData)) → values_of (remove_entry (is_key k) es) ≡ remove (values_of es) (spot k es)
values-removed k [] = refl
values-removed k (x ∷ es) = remove-step k x es (is_key k x.0) (values-removed k es)

-- what is so of each number is so of one that is found
key-step : (P : ℕ → Type 0) (k : ℕ) (x : ℕ × NodeData) (es : List (ℕ × NodeData)) (n : NodeData) (b : Bool) → is_key k x.0 ≡ b → ◌≡◌ {A = Option NodeData} (cond b (Some x.1) (lookup (is_key k) es)) (Some n) → P x.0 → (lookup (is_key k) es ≡ Some n → P k) → P k
key-step P k x es n true e h p more = subst P (sym (key-is k x.0 e)) p
key-step P k x es n false e h p more = more h

pub key-of : (P : ℕ → Type 0) (k : ℕ) (es : List (ℕ × NodeData)) (n : NodeData) → lookup (is_key k) es ≡ Some n → AllByRecursion P (keys_of es) → P k
key-of P k [] n e a = cc
key-of P k (x ∷ es) n e a = key-step P k x es n (is_key k x.0) refl e a.0 (λ h. key-of P k es n h a.1)

-- a number above all others is not found
pub key-absent : (k : ℕ) (es : List (ℕ × NodeData)) → AllByRecursion (λ y. y < k) (keys_of es) → lookup (is_key k) es ≡ None
key-absent k [] a = refl
key-absent k (x ∷ es) a = ap (λ (b : Bool). let o : Option NodeData = cond b (Some x.1) (lookup (is_key k) es) in o) (key-not k x.0 (λ e. omega (arith, e, a.0))) ∙ key-absent k es a.1

-- ---- the numbers of the nodes that pass a test

marked-cons : (test : NodeData → Bool) (x : ℕ × NodeData) (es fs : List (ℕ × NodeData)) → marked test es ≡ marked test fs → marked test (x ∷ es) ≡ marked test (x ∷ fs)
marked-cons test x es fs e = ap (λ (l : List ℕ). cond (test x.1) (x.0 ∷ l) l) e

same-step : (test : NodeData → Bool) (k : ℕ) (x : ℕ × NodeData) (es : List (ℕ × NodeData)) (v w : NodeData) (b : Bool) → ◌≡◌ {A = Option NodeData} (cond b (Some x.1) (lookup (is_key k) es)) (Some v) → test w ≡ test v
    → (lookup (is_key k) es ≡ Some v → marked test (set_value (is_key k) es w) ≡ marked test es) → marked test (cond b ((x.0, w) ∷ es) (x ∷ set_value (is_key k) es w)) ≡ marked test (x ∷ es)
same-step test k x es v w true e h more =
    let at : x.1 ≡ v = cc in
    ap (λ (c : Bool). let l : List ℕ = cond c (x.0 ∷ marked test es) (marked test es) in l) (h ∙ ap test (sym at))
same-step test k x es v w false e h more = marked-cons test x (set_value (is_key k) es w) es (more e)

-- another node that passes as the one before
pub marked-same : (test : NodeData → Bool) (k : ℕ) (es : List (ℕ × NodeData)) (v w : NodeData) → lookup (is_key k) es ≡ Some v → test w ≡ test v → marked test (set_value (is_key k) es w) ≡ marked test es
marked-same test k [] v w e h = refl
marked-same test k (x ∷ es) v w e h = same-step test k x es v w (is_key k x.0) e h (λ g. marked-same test k es v w g h)

gone-step : (test : NodeData → Bool) (k : ℕ) (x : ℕ × NodeData) (es : List (ℕ × NodeData)) (v : NodeData) (b : Bool) → ◌≡◌ {A = Option NodeData} (cond b (Some x.1) (lookup (is_key k) es)) (Some v) → test v ≡ false
    → (lookup (is_key k) es ≡ Some v → marked test (remove_entry (is_key k) es) ≡ marked test es) → marked test (cond b es (x ∷ remove_entry (is_key k) es)) ≡ marked test (x ∷ es)
gone-step test k x es v true e h more =
    let at : x.1 ≡ v = cc in
    sym (ap (λ (c : Bool). let l : List ℕ = cond c (x.0 ∷ marked test es) (marked test es) in l) (ap test at ∙ h))
gone-step test k x es v false e h more = marked-cons test x (remove_entry (is_key k) es) es (more e)

-- a node that does not pass is taken out
pub marked-gone : (test : NodeData → Bool) (k : ℕ) (es : List (ℕ × NodeData)) (v : NodeData) → lookup (is_key k) es ≡ Some v → test v ≡ false → marked test (remove_entry (is_key k) es) ≡ marked test es
marked-gone test k [] v e h = refl
marked-gone test k (x ∷ es) v e h = gone-step test k x es v (is_key k x.0) e h (λ g. marked-gone test k es v g h)

remove-on : (test : ℕ → Bool) (x : ℕ) (xs : List ℕ) → test x ≡ true → remove_key test (x ∷ xs) ≡ xs
remove-on test x xs e = ap (λ (b : Bool). let l : List ℕ = cond b xs (x ∷ remove_key test xs) in l) e

remove-off : (test : ℕ → Bool) (x : ℕ) (xs : List ℕ) → test x ≡ false → remove_key test (x ∷ xs) ≡ x ∷ remove_key test xs
remove-off test x xs e = ap (λ (b : Bool). let l : List ℕ = cond b xs (x ∷ remove_key test xs) in l) e

past-step : (test : NodeData → Bool) (k : ℕ) (x : ℕ × NodeData) (es : List (ℕ × NodeData)) (c : Bool) → is_key k x.0 ≡ false → remove_key (is_key k) (marked test es) ≡ marked test es
    → remove_key (is_key k) (cond c (x.0 ∷ marked test es) (marked test es)) ≡ cond c (x.0 ∷ marked test es) (marked test es)
past-step test k x es true off more = remove-off (is_key k) x.0 (marked test es) off ∙ ap (λ (l : List ℕ). x.0 ∷ l) more
past-step test k x es false off more = more

past-remove : (test : NodeData → Bool) (k : ℕ) (es : List (ℕ × NodeData)) → AllByRecursion (λ y. nat_cmp k y ≡ Less) (keys_of es) → remove_key (is_key k) (marked test es) ≡ marked test es
past-remove test k [] a = refl
past-remove test k (x ∷ es) a = past-step test k x es (test x.1) (key-not k x.0 (λ e. less-not k x.0 (less-is k x.0 a.0) (sym e))) (past-remove test k es a.1)

above-as : (k j : ℕ) (ks : List ℕ) → k ≡ j → AllByRecursion (λ y. nat_cmp j y ≡ Less) ks → AllByRecursion (λ y. nat_cmp k y ≡ Less) ks
above-as k j ks e a = subst (λ (i : ℕ). AllByRecursion (λ y. nat_cmp i y ≡ Less) ks) (sym e) a

off-here : (test : NodeData → Bool) (k : ℕ) (x : ℕ × NodeData) (es : List (ℕ × NodeData)) (c : Bool) → is_key k x.0 ≡ true → AllByRecursion (λ y. nat_cmp x.0 y ≡ Less) (keys_of es) → remove_key (is_key k) (cond c (x.0 ∷ marked test es) (marked test es)) ≡ marked test es
off-here test k x es true e a = remove-on (is_key k) x.0 (marked test es) e
off-here test k x es false e a = past-remove test k es (above-as k x.0 (keys_of es) (key-is k x.0 e) a)

off-later : (k : ℕ) (x : ℕ) (m n : List ℕ) (c : Bool) → is_key k x ≡ false → n ≡ remove_key (is_key k) m → cond c (x ∷ n) n ≡ remove_key (is_key k) (cond c (x ∷ m) m)
off-later k x m n true e h = ap (λ (l : List ℕ). x ∷ l) h ∙ sym (remove-off (is_key k) x m e)
off-later k x m n false e h = h

off-step : (test : NodeData → Bool) (k : ℕ) (x : ℕ × NodeData) (es : List (ℕ × NodeData)) (w : NodeData) (b : Bool) → is_key k x.0 ≡ b → AllByRecursion (λ y. nat_cmp x.0 y ≡ Less) (keys_of es) → test w ≡ false
    → marked test (set_value (is_key k) es w) ≡ remove_key (is_key k) (marked test es) → marked test (cond b ((x.0, w) ∷ es) (x ∷ set_value (is_key k) es w)) ≡ remove_key (is_key k) (marked test (x ∷ es))
off-step test k x es w true e a h more = ap (λ (c : Bool). let l : List ℕ = cond c (x.0 ∷ marked test es) (marked test es) in l) h ∙ sym (off-here test k x es (test x.1) e a)
off-step test k x es w false e a h more = off-later k x.0 (marked test es) (marked test (set_value (is_key k) es w)) (test x.1) e more

-- another node that does not pass; where the number is not found, nothing changes on either side
pub marked-off : (test : NodeData → Bool) (k : ℕ) (es : List (ℕ × NodeData)) (w : NodeData) → IsStrictlySortedBy nat_cmp (keys_of es) → test w ≡ false → marked test (set_value (is_key k) es w) ≡ remove_key (is_key k) (marked test es)
marked-off test k [] w s h = refl
marked-off test k (x ∷ es) w s h = off-step test k x es w (is_key k x.0) refl (sorted_head nat_cmp x.0 (keys_of es) s) h (marked-off test k es w (sorted_tail nat_cmp x.0 (keys_of es) s) h)

insert-at : (k x : ℕ) (xs : List ℕ) (o : Ordering) → nat_cmp k x ≡ o → insert_key nat_cmp (x ∷ xs) k ≡ match_ordering o (k ∷ x ∷ xs) (x ∷ xs) (x ∷ insert_key nat_cmp xs k)
insert-at k x xs o e = ap (λ (p : Ordering). match_ordering p (k ∷ x ∷ xs) (x ∷ xs) (x ∷ insert_key nat_cmp xs k)) e

front-step : (test : NodeData → Bool) (k : ℕ) (x : ℕ × NodeData) (es : List (ℕ × NodeData)) (c : Bool) → nat_cmp k x.0 ≡ Less → insert_key nat_cmp (marked test es) k ≡ k ∷ marked test es
    → insert_key nat_cmp (cond c (x.0 ∷ marked test es) (marked test es)) k ≡ k ∷ cond c (x.0 ∷ marked test es) (marked test es)
front-step test k x es true e more = insert-at k x.0 (marked test es) Less e
front-step test k x es false e more = more

front-insert : (test : NodeData → Bool) (k : ℕ) (es : List (ℕ × NodeData)) → AllByRecursion (λ y. nat_cmp k y ≡ Less) (keys_of es) → insert_key nat_cmp (marked test es) k ≡ k ∷ marked test es
front-insert test k [] a = refl
front-insert test k (x ∷ es) a = front-step test k x es (test x.1) a.0 (front-insert test k es a.1)

on-here : (test : NodeData → Bool) (k : ℕ) (x : ℕ × NodeData) (es : List (ℕ × NodeData)) (c : Bool) → is_key k x.0 ≡ true → AllByRecursion (λ y. nat_cmp x.0 y ≡ Less) (keys_of es) → x.0 ∷ marked test es ≡ insert_key nat_cmp (cond c (x.0 ∷ marked test es) (marked test es)) k
on-here test k x es true e a = sym (insert-at k x.0 (marked test es) Equal (key-equal k x.0 e))
on-here test k x es false e a = ap (λ (j : ℕ). j ∷ marked test es) (sym (key-is k x.0 e)) ∙ sym (front-insert test k es (above-as k x.0 (keys_of es) (key-is k x.0 e) a))

on-later : (k x : ℕ) (m n : List ℕ) (c : Bool) → nat_cmp k x ≡ Greater → n ≡ insert_key nat_cmp m k → cond c (x ∷ n) n ≡ insert_key nat_cmp (cond c (x ∷ m) m) k
on-later k x m n true e h = ap (λ (l : List ℕ). x ∷ l) h ∙ sym (insert-at k x m Greater e)
on-later k x m n false e h = h

on-step : (test : NodeData → Bool) (k : ℕ) (x : ℕ × NodeData) (es : List (ℕ × NodeData)) (v w : NodeData) (b : Bool) → is_key k x.0 ≡ b → ◌≡◌ {A = Option NodeData} (cond b (Some x.1) (lookup (is_key k) es)) (Some v) → AllByRecursion (λ y. nat_cmp x.0 y ≡ Less) (keys_of es) → test w ≡ true
    → (lookup (is_key k) es ≡ Some v → marked test (set_value (is_key k) es w) ≡ insert_key nat_cmp (marked test es) k) → marked test (cond b ((x.0, w) ∷ es) (x ∷ set_value (is_key k) es w)) ≡ insert_key nat_cmp (marked test (x ∷ es)) k
on-step test k x es v w true e f a h more = ap (λ (c : Bool). let l : List ℕ = cond c (x.0 ∷ marked test es) (marked test es) in l) h ∙ on-here test k x es (test x.1) e a
on-step test k x es v w false e f a h more =
    let above : nat_cmp x.0 k ≡ Less = key-of (λ y. nat_cmp x.0 y ≡ Less) k es v f a in
    on-later k x.0 (marked test es) (marked test (set_value (is_key k) es w)) (test x.1) (is_greater k x.0 (less-is x.0 k above)) (more f)

-- another node that passes
pub marked-on : (test : NodeData → Bool) (k : ℕ) (es : List (ℕ × NodeData)) (v w : NodeData) → IsStrictlySortedBy nat_cmp (keys_of es) → lookup (is_key k) es ≡ Some v → test w ≡ true → marked test (set_value (is_key k) es w) ≡ insert_key nat_cmp (marked test es) k
marked-on test k [] v w s e h = cc
marked-on test k (x ∷ es) v w s e h = on-step test k x es v w (is_key k x.0) refl e (sorted_head nat_cmp x.0 (keys_of es) s) h (λ g. marked-on test k es v w (sorted_tail nat_cmp x.0 (keys_of es) s) g h)

alone-insert : (k : ℕ) (ms : List ℕ) → remove_key (is_key k) ms ≡ [] → insert_key nat_cmp ms k ≡ k ∷ []
alone-insert k [] e = refl
alone-insert k (x ∷ xs) e = by (is_key k x) refl e where
  by : (b : Bool) → is_key k x ≡ b → cond b xs (x ∷ remove_key (is_key k) xs) ≡ [] → insert_key nat_cmp (x ∷ xs) k ≡ k ∷ []
  by true g h = insert-at k x xs Equal (key-equal k x g) ∙ ap (λ (l : List ℕ). x ∷ l) h ∙ ap (λ (j : ℕ). j ∷ []) (sym (key-is k x g))
  by false g h = cc

alone-by : (test : NodeData → Bool) (k : ℕ) (es : List (ℕ × NodeData)) (v w : NodeData) (b : Bool) → test w ≡ b → IsStrictlySortedBy nat_cmp (keys_of es) → lookup (is_key k) es ≡ Some v → remove_key (is_key k) (marked test es) ≡ [] → marked test (set_value (is_key k) es w) ≡ cond b (k ∷ []) []
alone-by test k es v w true h s e a = marked-on test k es v w s e h ∙ alone-insert k (marked test es) a
alone-by test k es v w false h s e a = marked-off test k es w s h ∙ a

-- another node, where no other passes
pub marked-alone : (test : NodeData → Bool) (k : ℕ) (es : List (ℕ × NodeData)) (v w : NodeData) → IsStrictlySortedBy nat_cmp (keys_of es) → lookup (is_key k) es ≡ Some v → remove_key (is_key k) (marked test es) ≡ [] → marked test (set_value (is_key k) es w) ≡ cond (test w) (k ∷ []) []
marked-alone test k es v w s e a = alone-by test k es v w (test w) refl s e a

push-step : (x : ℕ) (m z : List ℕ) (c : Bool) → cond c (x ∷ (m ++ z)) (m ++ z) ≡ cond c (x ∷ m) m ++ z
push-step x m z true = refl
push-step x m z false = refl

-- one more node at the end
pub marked-push : (test : NodeData → Bool) (k : ℕ) (v : NodeData) (es : List (ℕ × NodeData)) → marked test (es ++ (k, v) ∷ []) ≡ marked test es ++ cond (test v) (k ∷ []) []
marked-push test k v [] = refl
marked-push test k v (x ∷ es) = ap (λ (l : List ℕ). cond (test x.1) (x.0 ∷ l) l) (marked-push test k v es) ∙ push-step x.0 (marked test es) (cond (test v) (k ∷ []) []) (test x.1)

pub insert-last : (k : ℕ) (ks : List ℕ) → AllByRecursion (λ y. y < k) ks → insert_key nat_cmp ks k ≡ ks ++ k ∷ []
insert-last k [] a = refl
insert-last k (x ∷ xs) a = insert-at k x xs Greater (is_greater k x a.0) ∙ ap (λ (l : List ℕ). x ∷ l) (insert-last k xs a.1)

pub entry-last : (k : ℕ) (v : NodeData) (es : List (ℕ × NodeData)) → AllByRecursion (λ y. y < k) (keys_of es) → insert_entry nat_cmp es k v ≡ es ++ (k, v) ∷ []
entry-last k v [] a = refl
entry-last k v (x ∷ es) a =
    ap (λ (o : Ordering). match_ordering o ((k, v) ∷ x ∷ es) ((x.0, v) ∷ es) (x ∷ insert_entry nat_cmp es k v)) (is_greater k x.0 a.0) ∙ ap (λ (l : List (ℕ × NodeData)). x ∷ l) (entry-last k v es a.1)

pub removed-last : (k : ℕ) (ks : List ℕ) → AllByRecursion (λ y. y < k) ks → remove_key (is_key k) (ks ++ k ∷ []) ≡ ks
removed-last k [] a = remove-on (is_key k) k [] (key-self k)
removed-last k (x ∷ xs) a = remove-off (is_key k) x (xs ++ k ∷ []) (key-not k x (λ e. omega (arith, e, a.0))) ∙ ap (λ (l : List ℕ). x ∷ l) (removed-last k xs a.1)

count-step : (x : ℕ) (m : List ℕ) (a n : ℕ) (c : Bool) → a + length m ≡ n → (cond (not c) 1 0 + a) + length (cond c (x ∷ m) m) ≡ suc n
count-step x m a n true h = omega (arith, h)
count-step x m a n false h = omega (arith, h)

pub count-one : (n : NodeData) → count_by works (n ∷ []) ≡ cond (works n) 1 0
count-one n = omega arith

count-cons : (n : NodeData) (ns : List NodeData) → count_by works (n ∷ ns) ≡ cond (works n) 1 0 + count_by works ns
count-cons n ns = sum_by-append (λ m. cond (works m) 1 0) (n ∷ []) ns ∙ ap (λ (k : ℕ). k + count_by works ns) (count-one n)

-- the nodes that work are the others
pub marked-count : (es : List (ℕ × NodeData)) → count_by works (values_of es) + length (marked is_idle es) ≡ length es
marked-count [] = refl
marked-count (x ∷ es) =
    ap (λ (k : ℕ). k + length (marked is_idle (x ∷ es))) (count-cons x.1 (values_of es)) ∙ count-step x.0 (marked is_idle es) (count_by works (values_of es)) (length es) (is_idle x.1) (marked-count es)

none-step : (test : NodeData → Bool) (x : ℕ × NodeData) (es : List (ℕ × NodeData)) (c : Bool) → test x.1 ≡ c → cond c (x.0 ∷ marked test es) (marked test es) ≡ [] → (marked test es ≡ [] → All (λ n. test n ≡ false) (values_of es)) → All (λ n. test n ≡ false) (x.1 ∷ values_of es)
none-step test x es true e h more = cc
none-step test x es false e h more = All-cons (λ n. test n ≡ false) x.1 (values_of es) e (more h)

pub marked-none : (test : NodeData → Bool) (es : List (ℕ × NodeData)) → marked test es ≡ [] → All (λ n. test n ≡ false) (values_of es)
marked-none test [] h = All-nil (λ n. test n ≡ false)
marked-none test (x ∷ es) h = none-step test x es (test x.1) refl h (λ g. marked-none test es g)

pub none-marked : (test : NodeData → Bool) (es : List (ℕ × NodeData)) → All (λ n. test n ≡ false) (values_of es) → marked test es ≡ []
none-marked test [] a = refl
none-marked test (x ∷ es) a =
    ap (λ (c : Bool). let l : List ℕ = cond c (x.0 ∷ marked test es) (marked test es) in l) (All-head (λ n. test n ≡ false) x.1 (values_of es) a) ∙ none-marked test es (All-tail (λ n. test n ≡ false) x.1 (values_of es) a)

-- the first node that passes
pub record IsFirstOf (test : NodeData → Bool) (k : ℕ) (es : List (ℕ × NodeData)) : Type 0 where
  pub first : NodeData
  pub found : lookup (is_key k) es ≡ Some first
  pub passes : test first ≡ true
  pub earlier : All (λ n. test n ≡ false) (take (spot k es) (values_of es))

first-here : (test : NodeData → Bool) (k : ℕ) (x : ℕ × NodeData) (es : List (ℕ × NodeData)) → is_key k x.0 ≡ true → test x.1 ≡ true → IsFirstOf test k (x ∷ es)
first-here test k x es e h = record {
  first = x.1;
  found = ap (λ (b : Bool). let o : Option NodeData = cond b (Some x.1) (lookup (is_key k) es) in o) e;
  passes = h;
  earlier = subst (λ (i : ℕ). All (λ n. test n ≡ false) (take i (x.1 ∷ values_of es))) (sym (ap (λ (b : Bool). let i : ℕ = cond b 0 (suc (spot k es)) in i) e)) (All-nil (λ n. test n ≡ false));
}

first-later : (test : NodeData → Bool) (k : ℕ) (x : ℕ × NodeData) (es : List (ℕ × NodeData)) → is_key k x.0 ≡ false → test x.1 ≡ false → IsFirstOf test k es → IsFirstOf test k (x ∷ es)
first-later test k x es e h f = record {
  first = f.first;
  found = ap (λ (b : Bool). let o : Option NodeData = cond b (Some x.1) (lookup (is_key k) es) in o) e ∙ f.found;
  passes = f.passes;
  earlier = subst (λ (i : ℕ). All (λ n. test n ≡ false) (take i (x.1 ∷ values_of es))) (sym (ap (λ (b : Bool). let i : ℕ = cond b 0 (suc (spot k es)) in i) e)) (All-cons (λ n. test n ≡ false) x.1 (take (spot k es) (values_of es)) h f.earlier);
}

first-step : (test : NodeData → Bool) (k : ℕ) (x : ℕ × NodeData) (es : List (ℕ × NodeData)) (c : Bool) → test x.1 ≡ c → AllByRecursion (λ y. nat_cmp x.0 y ≡ Less) (keys_of es) → slice_get (cond c (x.0 ∷ marked test es) (marked test es)) 0 ≡ Some k
    → (slice_get (marked test es) 0 ≡ Some k → IsFirstOf test k es) → IsFirstOf test k (x ∷ es)
first-step test k x es true h a e more =
    let at : k ≡ x.0 = cc in
    first-here test k x es (subst (λ (j : ℕ). is_key k j ≡ true) at (key-self k)) h
first-step test k x es false h a e more =
    let f : IsFirstOf test k es = more e in
    let above : x.0 < k = less-is x.0 k (key-of (λ y. nat_cmp x.0 y ≡ Less) k es f.first f.found a) in
    first-later test k x es (key-not k x.0 (less-not x.0 k above)) h f

pub marked-first : (test : NodeData → Bool) (k : ℕ) (es : List (ℕ × NodeData)) → IsStrictlySortedBy nat_cmp (keys_of es) → slice_get (marked test es) 0 ≡ Some k → IsFirstOf test k es
marked-first test k [] s e = cc
marked-first test k (x ∷ es) s e = first-step test k x es (test x.1) refl (sorted_head nat_cmp x.0 (keys_of es) s) e (λ g. marked-first test k es (sorted_tail nat_cmp x.0 (keys_of es) s) g)

-- it alone passes where the list has one number
pub alone-self : (k : ℕ) → remove_key (is_key k) (k ∷ []) ≡ []
alone-self k = remove-on (is_key k) k [] (key-self k)

-- ---- lists of nodes

pub remove-left : {X : Type 0} (xs ys : List X) (i : ℕ) → i < length xs → remove (xs ++ ys) i ≡ remove xs i ++ ys
remove-left [] ys i h = absurd (omega arith)
remove-left (x ∷ xs) ys zero h = refl
remove-left (x ∷ xs) ys (suc i) h = ap (λ (l : List _). x ∷ l) (remove-left xs ys i (omega arith))

pub below-more : (k : ℕ) (v : NodeData) (es : List (ℕ × NodeData)) → AllByRecursion (λ y. y < k) (keys_of es) → AllByRecursion (λ y. y < k + 1) (keys_of (es ++ (k, v) ∷ []))
below-more k v [] a = (omega arith, tt)
below-more k v (x ∷ es) a = (omega (arith, a.0), below-more k v es a.1)

marked-below-step : (P : ℕ → Type 0) (x : ℕ) (m : List ℕ) (c : Bool) → P x → AllByRecursion P m → AllByRecursion P (cond c (x ∷ m) m)
marked-below-step P x m true p a = (p, a)
marked-below-step P x m false p a = a

pub marked-below : (P : ℕ → Type 0) (test : NodeData → Bool) (es : List (ℕ × NodeData)) → AllByRecursion P (keys_of es) → AllByRecursion P (marked test es)
marked-below P test [] a = tt
marked-below P test (x ∷ es) a = marked-below-step P x.0 (marked test es) (test x.1) a.0 (marked-below P test es a.1)
