-- What texts keep when they are joined, whole blocks keep where their parts do.
use Rattle.std.proofs.Common.{ℕ, inl, inr, List, [], ◌∷◌, ◌++◌, sym, subst}
use Rattle.regular_expressions.specs.Regular.{Regular, nil, many, joined, Matches, Each}
use Rattle.regular_expressions.specs.Combinators.{◌·◌, ◌∣◌, maybe}
use Rattle.query_grammar.specs.declared.kind.Kind.TheVariants as kinds
use Rattle.query_grammar.specs.Grammar.{a, subject, verb, object, verb_objects, list, same, block}

-- each text that matches has the property
abbrev pub Keeps : (List ℕ → Type 0) → Regular → Type 0
Keeps P r = (w : List ℕ) → Matches r w → P w

module _ (P : List ℕ → Type 0) (empty : P []) (joins : (u v : List ℕ) → P u → P v → P (u ++ v)) where
  pub nil_keeps : Keeps P nil
  nil_keeps w m = subst P (sym m) empty

  each_keeps : (r : Regular) → Keeps P r → (us : List (List ℕ)) → Each (Matches r) us → P (joined us)
  each_keeps r f [] h = empty
  each_keeps r f (u ∷ us) h = joins u (joined us) (f u h.0) (each_keeps r f us h.1)

  pub seq_keeps : (r s : Regular) → Keeps P r → Keeps P s → Keeps P (r · s)
  seq_keeps r s f g w m = subst P (sym m.4) (joins m.0 m.1 (f m.0 m.2) (g m.1 m.3))

  pub alt_keeps : (r s : Regular) → Keeps P r → Keeps P s → Keeps P (r ∣ s)
  alt_keeps r s f g w (inl m) = f w m
  alt_keeps r s f g w (inr m) = g w m

  pub many_keeps : (r : Regular) → Keeps P r → Keeps P (many r)
  many_keeps r f w m = subst P (sym m.2) (each_keeps r f m.0 m.1)

  -- several after marks
  marked_keeps : (k r : Regular) → Keeps P k → Keeps P r → Keeps P (many (k · r))
  marked_keeps k r f g = many_keeps (k · r) (seq_keeps k r f g)

  verb_keeps : Keeps P subject → Keeps P verb → Keeps P (a kinds.Comma) → Keeps P verb_objects
  verb_keeps s v c =
      seq_keeps verb (object · many (a kinds.Comma · object)) v
      (seq_keeps object (many (a kinds.Comma · object)) s (marked_keeps (a kinds.Comma) object c s))

  list_keeps : Keeps P verb_objects → Keeps P (a kinds.Semicolon) → Keeps P list
  list_keeps v m =
      seq_keeps verb_objects (many (a kinds.Semicolon · maybe verb_objects)) v
      (marked_keeps (a kinds.Semicolon) (maybe verb_objects) m (alt_keeps verb_objects nil v nil_keeps))

  same_keeps : Keeps P subject → Keeps P verb → Keeps P (a kinds.Comma) → Keeps P (a kinds.Semicolon) → Keeps P same
  same_keeps s v c m = seq_keeps subject list s (list_keeps (verb_keeps s v c) m)

  pub block_keeps : Keeps P subject → Keeps P verb → Keeps P (a kinds.Comma) → Keeps P (a kinds.Semicolon) → Keeps P (a kinds.Dot) → Keeps P (maybe block)
  block_keeps s v c m d =
      let one = same_keeps s v c m in
      alt_keeps block nil
      (seq_keeps (same · many (a kinds.Dot · same)) (maybe (a kinds.Dot))
      (seq_keeps same (many (a kinds.Dot · same)) one (marked_keeps (a kinds.Dot) same d one))
      (alt_keeps (a kinds.Dot) nil d nil_keeps))
      nil_keeps
