-- Of a file one outcome is true at most.
use Rattle.std.proofs.Common.{ℕ, ◌≡◌, ◌<◌, ◌≤◌, ◌⊎◌, inl, inr, List, length, Some, refl, sym, ◌∙◌, ap, subst, arith}
use Rattle.std.specs.Ordering.{ordering_reverse}
use Rattle.std.specs.Cmp.Lexicographic.{nat_list_cmp_total}
use Rattle.std.specs.declared.cmp.Ordering.{Ordering}
use Rattle.std.specs.declared.cmp.Ordering.TheVariants.{Less, Equal, Greater}
use Rattle.list_laws.proofs.Options.{some_same}
use Rattle.rdf_terms.specs.declared.limits.TheConstants.{LONGEST_TERM, MOST_TRIPLES}
use Rattle.rdf_terms.specs.declared.term.Quad.{Quad}
use Rattle.rdf_terms.specs.declared.term.Triple.{Triple}
use Rattle.rdf_terms.specs.Order.{bytes_order}
use Rattle.rdf_terms.proofs.Equality.{equal}
use Rattle.tpf_base.specs.Outside.{content_of}
use Rattle.nquads_text.specs.Reads.{Reads, FirstFault}
use Rattle.nquads_text.specs.declared.fault.Why.{Why}
use Rattle.nquads_text.proofs.ReadLaws.{ok_same, err_same, not_both, reads_text, faults_text}
use Rattle.triple_table.specs.declared.choice.Choice.{Choice}
use Rattle.triple_table.specs.Chosen.{chosen}
use Rattle.triple_table.specs.Stored.{PassesMost, IsRanking}
use Rattle.triple_table.specs.Served.{Clashes, IsLeastClash, IsServed}
use Rattle.triple_table.proofs.ServedData.{served_one}
use Rattle.bgp_core.specs.Queries.{QueryData}
use Rattle.pattern_parser.specs.declared.fault.QueryWhy.{QueryWhy}
use Rattle.pattern_parser.specs.Queries.{ReadsQuery, FaultAt}
use Rattle.pattern_parser.proofs.OneQuery as one_queries
use Rattle.group_query.specs.Trees.{GroupData}
use Rattle.group_faults.specs.declared.fault.GroupWhy.{GroupWhy}
use Rattle.group_faults.specs.declared.fault.GroupWhy.TheVariants as whys
use Rattle.group_faults.specs.Faults.{GroupFaultAt}
use Rattle.group_parser.specs.declared.reading.Asked.TheVariants.{Groups}
use Rattle.group_parser.specs.Asking.{IsAsked}
use Rattle.group_parser.proofs.Texts.{query_apart, one_first}
use Rattle.group_parser.proofs.Texts as one_groups
use Rattle.data_files.specs.declared.data.TheConstants.{MOST_BYTES}
use Rattle.data_files.specs.declared.query.Grammar.TheVariants as grammars
use Rattle.data_files.specs.Data.{Files, HoldsData, IsTooLong, HasDataFault, HasClash, HasTooMany, AreFew, Serves, served, too_long, bad, clash, too_many, OneOutcome}
use Rattle.data_files.specs.Queries.{HoldsQuery, HoldsGroup, HasQueryFault, reads, reads_groups, refused, OneQueryOutcome}
use Rattle.data_files.proofs.PlainTexts.{is_plain_text, as_group}
use Rattle.data_files.proofs.TermLists.{ranking_one}

same_bytes : (files : Files) (name a b : List ℕ) → content_of files name ≡ Some a → content_of files name ≡ Some b → a ≡ b
same_bytes files name a b p q = some_same (sym p ∙ q)

-- ---- data

long_short : (files : Files) (name a b : List ℕ) (most : ℕ) → content_of files name ≡ Some a → most < length a → content_of files name ≡ Some b → length b ≤ most → ⊥
long_short files name a b most p long q short = let e : length a ≡ length b = ap length (same_bytes files name a b p q) in omega (arith, e, long, short)

long_held : (files : Files) (name : List ℕ) (quads : List Quad) → IsTooLong files name MOST_BYTES → HoldsData files name quads → ⊥
long_held files name quads l h = long_short files name l.0 h.0 MOST_BYTES l.1 l.2 h.1 h.2

long_fault : (files : Files) (name : List ℕ) (line : ℕ) (why : Why) → IsTooLong files name MOST_BYTES → HasDataFault files name line why → ⊥
long_fault files name line why l f = long_short files name l.0 f.0 MOST_BYTES l.1 l.2 f.1 f.2

held_fault : (files : Files) (name : List ℕ) (quads : List Quad) (line : ℕ) (why : Why) → HoldsData files name quads → HasDataFault files name line why → ⊥
held_fault files name quads line why h f =
    not_both LONGEST_TERM f.0 quads line why (subst (λ (b : List ℕ). Reads b LONGEST_TERM quads) (same_bytes files name h.0 f.0 h.1 f.1) h.3) f.3

held_same : (files : Files) (name : List ℕ) (a b : List Quad) → HoldsData files name a → HoldsData files name b → a ≡ b
held_same files name a b h k =
    let read : Reads k.0 LONGEST_TERM a = subst (λ (bytes : List ℕ). Reads bytes LONGEST_TERM a) (same_bytes files name h.0 k.0 h.1 k.1) h.3 in
    ok_same a b (sym (reads_text LONGEST_TERM k.0 a read) ∙ reads_text LONGEST_TERM k.0 b k.3)

fault_same : (files : Files) (name : List ℕ) (n m : ℕ) (v w : Why) → HasDataFault files name n v → HasDataFault files name m w → bad n v ≡ bad m w
fault_same files name n m v w f g =
    let first : FirstFault g.0 LONGEST_TERM n v = subst (λ (bytes : List ℕ). FirstFault bytes LONGEST_TERM n v) (same_bytes files name f.0 g.0 f.1 g.1) f.3 in
    let e : ◌≡◌ {A = ℕ × Why} (n, v) (m, w) = err_same (n, v) (m, w) (sym (faults_text LONGEST_TERM g.0 n v first) ∙ faults_text LONGEST_TERM g.0 m w g.3) in
    ap (λ (p : ℕ × Why). bad p.0 p.1) e

-- two texts of which neither comes before the other are equal
neither : (a b : List ℕ) (o : Ordering) → bytes_order a b ≡ o → (bytes_order a b ≡ Less → ⊥) → (bytes_order b a ≡ Less → ⊥) → bytes_order a b ≡ Equal
neither a b Less e p q = absurd (p e)
neither a b Equal e p q = e
neither a b Greater e p q = absurd (q (nat_list_cmp_total.antisymm b a ∙ ap ordering_reverse e))

module _ (files : Files) (name : List ℕ) (choice : Choice) (authority : List ℕ) where
  clash_same : (a b : List ℕ) → HasClash files name choice authority a → HasClash files name choice authority b → a ≡ b
  clash_same a b h k =
      let quads = held_same files name k.0 h.0 k.1 h.1 in
      let other : IsLeastClash authority (chosen choice h.0) b = subst (λ (qs : List Quad). IsLeastClash authority (chosen choice qs) b) quads k.2 in
      equal a b (neither a b (bytes_order a b) refl (other.least a h.2.clashes) (h.2.least b other.clashes))

  clash_served : (label : List ℕ) (triples : List Triple) → HasClash files name choice authority label → Serves files name choice authority triples → ⊥
  clash_served label triples h s =
      let quads = held_same files name h.0 s.0 h.1 s.1 in
      s.2 label (subst (λ (qs : List Quad). Clashes authority (chosen choice qs) label) quads h.2.clashes)

  clash_many : (label : List ℕ) → HasClash files name choice authority label → HasTooMany files name choice authority → ⊥
  clash_many label h m =
      let quads = held_same files name h.0 m.0 h.1 m.1 in
      m.2.unclashed label (subst (λ (qs : List Quad). Clashes authority (chosen choice qs) label) quads h.2.clashes)

  -- what passes the most is not served
  many_few : (quads : List Triple) (triples : List Triple) → IsServed authority quads triples → AreFew triples → PassesMost MOST_TRIPLES authority quads → ⊥
  many_few quads triples s few m =
      let same : m.triples ≡ triples = served_one authority quads m.triples triples m.served s in
      let terms : m.terms ≡ few.0 = ranking_one triples m.terms few.0 (subst (λ (ts : List Triple). IsRanking ts m.terms) same m.ranking) few.1 in
      let a : length m.triples ≡ length triples = ap length same in
      let b : length m.terms ≡ length few.0 = ap length terms in
      passed m.passes a b few.2 few.3
    where
      passed : {x y z w most : ℕ} → (most < x) ⊎ (most < y) → x ≡ z → y ≡ w → z ≤ most → w ≤ most → ⊥
      passed (inl h) p q r s = omega (arith, h, p, r)
      passed (inr h) p q r s = omega (arith, h, q, s)

  many_served : (triples : List Triple) → HasTooMany files name choice authority → Serves files name choice authority triples → ⊥
  many_served triples m s =
      let quads = held_same files name m.0 s.0 m.1 s.1 in
      many_few (chosen choice s.0) triples s.3 s.4 (subst (λ (qs : List Quad). PassesMost MOST_TRIPLES authority (chosen choice qs)) quads m.2)

  served_same : (a b : List Triple) → Serves files name choice authority a → Serves files name choice authority b → a ≡ b
  served_same a b s t =
      let quads = held_same files name s.0 t.0 s.1 t.1 in
      served_one authority (chosen choice t.0) a b (subst (λ (qs : List Quad). IsServed authority (chosen choice qs) a) quads s.3) t.3

pub one_outcome : OneOutcome
one_outcome files name choice authority (served a) (served b) p q = ap served (served_same files name choice authority a b p q)
one_outcome files name choice authority (served a) too_long p q = absurd (long_held files name p.0 q p.1)
one_outcome files name choice authority (served a) (bad line why) p q = absurd (held_fault files name p.0 line why p.1 q)
one_outcome files name choice authority (served a) (clash label) p q = absurd (clash_served files name choice authority label a q p)
one_outcome files name choice authority (served a) too_many p q = absurd (many_served files name choice authority a q p)
one_outcome files name choice authority too_long (served b) p q = absurd (long_held files name q.0 p q.1)
one_outcome files name choice authority too_long too_long p q = refl
one_outcome files name choice authority too_long (bad line why) p q = absurd (long_fault files name line why p q)
one_outcome files name choice authority too_long (clash label) p q = absurd (long_held files name q.0 p q.1)
one_outcome files name choice authority too_long too_many p q = absurd (long_held files name q.0 p q.1)
one_outcome files name choice authority (bad n v) (served b) p q = absurd (held_fault files name q.0 n v q.1 p)
one_outcome files name choice authority (bad n v) too_long p q = absurd (long_fault files name n v q p)
one_outcome files name choice authority (bad n v) (bad m w) p q = fault_same files name n m v w p q
one_outcome files name choice authority (bad n v) (clash label) p q = absurd (held_fault files name q.0 n v q.1 p)
one_outcome files name choice authority (bad n v) too_many p q = absurd (held_fault files name q.0 n v q.1 p)
one_outcome files name choice authority (clash label) (served b) p q = absurd (clash_served files name choice authority label b p q)
one_outcome files name choice authority (clash label) too_long p q = absurd (long_held files name p.0 q p.1)
one_outcome files name choice authority (clash label) (bad m w) p q = absurd (held_fault files name p.0 m w p.1 q)
one_outcome files name choice authority (clash label) (clash other) p q = ap clash (clash_same files name choice authority label other p q)
one_outcome files name choice authority (clash label) too_many p q = absurd (clash_many files name choice authority label p q)
one_outcome files name choice authority too_many (served b) p q = absurd (many_served files name choice authority b p q)
one_outcome files name choice authority too_many too_long p q = absurd (long_held files name p.0 q p.1)
one_outcome files name choice authority too_many (bad m w) p q = absurd (held_fault files name p.0 m w p.1 q)
one_outcome files name choice authority too_many (clash label) p q = absurd (clash_many files name choice authority label q p)
one_outcome files name choice authority too_many too_many p q = refl

-- ---- queries

module _ (files : Files) (name : List ℕ) where
  -- what a file holds is read of each of its contents, which are one
  query_in : (q : QueryData) (bytes : List ℕ) → content_of files name ≡ Some bytes → HoldsQuery files name q → ReadsQuery bytes q
  query_in q bytes is h = subst (λ (b : List ℕ). ReadsQuery b q) (same_bytes files name h.0 bytes h.1 is) h.2

  group_in : (g : GroupData) (bytes : List ℕ) → content_of files name ≡ Some bytes → HoldsGroup grammars.Groups files name g → IsAsked bytes (Groups g)
  group_in g bytes is h = subst (λ (b : List ℕ). IsAsked b (Groups g)) (same_bytes files name h.0 bytes h.1 is) h.2

  query_group : (q : QueryData) (g : GroupData) → HoldsQuery files name q → HoldsGroup grammars.Groups files name g → ⊥
  query_group q g h k = k.2.0 (is_plain_text k.0 q (query_in q k.0 k.1 h))

  query_fault : (q : QueryData) (at : ℕ) (why : GroupWhy) → HoldsQuery files name q → HasQueryFault grammars.Groups files name at why → ⊥
  query_fault q at why h f = let r = as_group f.0 q (query_in q f.0 f.1 h) in query_apart f.0 r.0 why at r.1 f.2

  group_fault : (g : GroupData) (at : ℕ) (why : GroupWhy) → HoldsGroup grammars.Groups files name g → HasQueryFault grammars.Groups files name at why → ⊥
  group_fault g at why h f = query_apart f.0 g why at (group_in g f.0 f.1 h).1 f.2

  query_same : (p q : QueryData) → HoldsQuery files name p → HoldsQuery files name q → reads p ≡ reads q
  query_same p q h k = ap reads (one_queries.one_query k.0 p q (query_in p k.0 k.1 h) k.2)

  group_same : (f g : GroupData) → HoldsGroup grammars.Groups files name f → HoldsGroup grammars.Groups files name g → reads_groups f ≡ reads_groups g
  group_same f g h k = ap reads_groups (one_groups.one_query k.0 f g (group_in f k.0 k.1 h).1 k.2.1)

  query_fault_same : (n m : ℕ) (v w : GroupWhy) → HasQueryFault grammars.Groups files name n v → HasQueryFault grammars.Groups files name m w → refused n v ≡ refused m w
  query_fault_same n m v w f g =
      let first : GroupFaultAt g.0 v n = subst (λ (b : List ℕ). GroupFaultAt b v n) (same_bytes files name f.0 g.0 f.1 g.1) f.2 in
      let e = one_first g.0 v n w m first g.2 in
      ap (λ (k : ℕ). refused k v) e.1 ∙ ap (λ (k : GroupWhy). refused m k) e.0

  -- ---- one basic graph pattern alone

  pattern_fault : (q : QueryData) (at : ℕ) (why : GroupWhy) → HoldsQuery files name q → HasQueryFault grammars.Patterns files name at why → ⊥
  pattern_fault q at (whys.Basic why) h f = one_queries.query_apart f.0 q why at (query_in q f.0 f.1 h) f.2
  pattern_fault q at whys.TooDeep h f = f.2
  pattern_fault q at whys.SharedBlank h f = f.2

  basic_same : (n m : ℕ) (v w : QueryWhy) → v ≡ w → n ≡ m → refused n (whys.Basic v) ≡ refused m (whys.Basic w)
  basic_same n m v w p q = cc

  pattern_fault_same : (n m : ℕ) (v w : GroupWhy) → HasQueryFault grammars.Patterns files name n v → HasQueryFault grammars.Patterns files name m w → refused n v ≡ refused m w
  pattern_fault_same n m (whys.Basic v) (whys.Basic w) f g =
      let first : FaultAt g.0 v n = subst (λ (b : List ℕ). FaultAt b v n) (same_bytes files name f.0 g.0 f.1 g.1) f.2 in
      let e = one_queries.one_first g.0 v n w m first g.2 in
      basic_same n m v w e.0 e.1
  pattern_fault_same n m (whys.Basic v) whys.TooDeep f g = absurd g.2
  pattern_fault_same n m (whys.Basic v) whys.SharedBlank f g = absurd g.2
  pattern_fault_same n m whys.TooDeep w f g = absurd f.2
  pattern_fault_same n m whys.SharedBlank w f g = absurd f.2

pub one_query : OneQueryOutcome
one_query grammars.Groups files name (reads p) (reads q) f g = query_same files name p q f g
one_query grammars.Groups files name (reads p) (reads_groups h) f g = absurd (query_group files name p h f g)
one_query grammars.Groups files name (reads p) (refused m w) f g = absurd (query_fault files name p m w f g)
one_query grammars.Groups files name (reads_groups k) (reads q) f g = absurd (query_group files name q k g f)
one_query grammars.Groups files name (reads_groups k) (reads_groups h) f g = group_same files name k h f g
one_query grammars.Groups files name (reads_groups k) (refused m w) f g = absurd (group_fault files name k m w f g)
one_query grammars.Groups files name (refused n v) (reads q) f g = absurd (query_fault files name q n v g f)
one_query grammars.Groups files name (refused n v) (reads_groups h) f g = absurd (group_fault files name h n v g f)
one_query grammars.Groups files name (refused n v) (refused m w) f g = query_fault_same files name n m v w f g
one_query grammars.Patterns files name (reads p) (reads q) f g = query_same files name p q f g
one_query grammars.Patterns files name (reads p) (reads_groups h) f g = absurd g
one_query grammars.Patterns files name (reads p) (refused m w) f g = absurd (pattern_fault files name p m w f g)
one_query grammars.Patterns files name (reads_groups k) other f g = absurd f
one_query grammars.Patterns files name (refused n v) (reads q) f g = absurd (pattern_fault files name q n v g f)
one_query grammars.Patterns files name (refused n v) (reads_groups h) f g = absurd g
one_query grammars.Patterns files name (refused n v) (refused m w) f g = pattern_fault_same files name n m v w f g
