-- One step after another.
use Rattle.std.proofs.Common.{ℕ, ◌≡◌, ◌≤◌, inl, inr, ◌++◌, List, Option, Some, None, Bool, true, false, refl, sym, ◌∙◌, ap, subst, arith, append_assoc}
use Rattle.std.specs.Prelude.{Result, Ok, Err, IsErr, is_ok, ⊤}
use Rattle.std.specs.List.{AllByRecursion}
use Rattle.std.proofs.lemmas.Bool.{cases_eq}
use Rattle.list_laws.proofs.Each.{all_append, all_so}
use Rattle.tpf_base.specs.Marks.{Mark, version_at}
use Rattle.connections.specs.Kinds.{Kind}
use Rattle.serve_loop.specs.declared.live.Live.{Live}
use Rattle.serve_loop.specs.Traffic.{Talk, Traffic, Moment, updated}
use Rattle.serve_loop.specs.Relates.{Relates}
use Rattle.serve_loop.specs.Steps.{GoesOn, GoesOnAt, Keeps, Prepares}
use Rattle.serve_loop.proofs.RelatesLemmas.{here, there}
use Rattle.serve_loop.proofs.EndsLemmas.{ends_then}

pub err_false : {E : Type 0} (r : Result ⊤ E) → IsErr r → false ≡ is_ok r
err_false (Ok x) h = h
err_false (Err x) h = refl

module _ {C : Type 0} where
  goes_then : (low high : ℕ) (x y z : Talk C) → low ≤ high → GoesOn low x y → GoesOn high y z → GoesOn low x z
  goes_then low high x y z h p q = record {
    later = p.later ++ q.later;
    marks = q.marks ∙ ap (λ (m : List Mark). m ++ q.later) p.marks ∙ append_assoc x.marks p.later q.later;
    not_below = all_append _ p.later q.later p.not_below (all_so _ _ (λ (m : Mark) (l : high ≤ version_at m). omega (arith, h, l)) q.later q.not_below);
    piece = p.piece ++ q.piece;
    fed = q.fed ∙ ap (λ (m : List ℕ). m ++ q.piece) p.fed ∙ append_assoc (x.fed ++ x.unfed) p.piece q.piece;
    part = p.part ++ q.part;
    taken = q.taken ∙ ap (λ (m : List ℕ). m ++ q.part) p.taken ∙ append_assoc x.taken p.part q.part;
  }

  pub goes_on_then : (low high : ℕ) (x y z : Option (Talk C)) → low ≤ high → GoesOnAt low x y → GoesOnAt high y z → GoesOnAt low x z
  goes_on_then low high None None None h p q = tt
  goes_on_then low high None None (Some z) h p q = all_so _ _ (λ (m : Mark) (l : high ≤ version_at m). omega (arith, h, l)) z.marks q
  goes_on_then low high None (Some y) None h p q = absurd q
  goes_on_then low high None (Some y) (Some z) h p q = subst (λ (ms : List Mark). AllByRecursion (λ mark. low ≤ version_at mark) ms) (sym q.marks)
      (all_append _ y.marks q.later p (all_so _ _ (λ (m : Mark) (l : high ≤ version_at m). omega (arith, h, l)) q.later q.not_below))
  goes_on_then low high (Some x) None z h p q = absurd p
  goes_on_then low high (Some x) (Some y) None h p q = absurd q
  goes_on_then low high (Some x) (Some y) (Some z) h p q = goes_then low high x y z h p q

  pub updated_twice : (at : ℕ → Option (Live C)) (key : ℕ) (a b : Option (Live C)) (k : ℕ) → updated at key b k ≡ updated (updated at key a) key b k
  updated_twice at key a b k = elim (cases_eq k key) [
    | inl e ↦ here at key b k e ∙ sym (here (updated at key a) key b k e)
    | inr n ↦ there at key b k n ∙ sym (there at key a k n) ∙ sym (there (updated at key a) key b k n)
  ]

module _ {C Data Settings : Type 0} where
  -- the relation looks at the slab key by key
  pub relates_same : (kind : Kind C Data Settings) (may : Data → Type 0) (first : List Data) (since : Moment Data Settings) (t : Traffic C Data) (at at' : ℕ → Option (Live C)) (len : ℕ) (now : Moment Data Settings)
      → ((key : ℕ) → at' key ≡ at key) → Relates kind may first since t at len now → Relates kind may first since t at' len now
  relates_same kind may first since t at at' len now e r = record {
    versions = r.versions;
    lives = λ key l h. r.lives key l (sym (e key) ∙ h);
    alone = λ i j a b h g l. r.alone i j a b (sym (e i) ∙ h) (sym (e j) ∙ g) l;
    talks = r.talks;
    unseen = r.unseen;
    owned = λ k later given is_open. let o = r.owned k later given is_open in record { key = o.key; live = o.live; found = e o.key ∙ o.found; link = o.link };
    older = r.older;
    count = r.count;
    ends = r.ends;
  }

  -- two parts of a step
  pub keeps_then : (kind : Kind C Data Settings) (may : Data → Type 0) (first : List Data) (since : Moment Data Settings) (t : Traffic C Data) (at : ℕ → Option (Live C)) (len key : ℕ) (l m : Live C) (old mid now : Moment Data Settings)
      → old.served.version ≤ mid.served.version → (p : Keeps kind may first since t at len key l old mid)
      → Keeps kind may first since p.traffic (updated at key (Some l)) len key m mid now
      → Keeps kind may first since t at len key m old now
  keeps_then kind may first since t at len key l m old mid now up p q = record {
    traffic = q.traffic;
    relates = relates_same kind may first since q.traffic (updated (updated at key (Some l)) key (Some m)) (updated at key (Some m)) len now (updated_twice at key (Some l) (Some m)) q.relates;
    ends = ends_then t p.traffic q.traffic 0 0 0 0 old.wire.faults mid.wire.faults now.wire.faults p.ends q.ends;
    goes_on = λ k. goes_on_then old.served.version mid.served.version (t.talks k) (p.traffic.talks k) (q.traffic.talks k) up (p.goes_on k) (q.goes_on k);
  }

  pub prepares_then : (kind : Kind C Data Settings) (may : Data → Type 0) (l m n : Live C) (ok : Bool) (before after : Moment Data Settings)
      → Prepares kind may l m true before after → Prepares kind may m n ok after after → Prepares kind may l n ok before after
  prepares_then kind may l m n ok before after p q = record {
    link = q.link ∙ p.link;
    live = q.live;
    link_is = q.link_is ∙ p.link;
    live_is = q.live_is;
    up = p.up;
    keeps = λ first since t at len key found r.
        let x = subst (λ (y : Live C). Keeps kind may first since t at len key y before after) (p.live_is refl) (p.keeps first since t at len key found r) in
        keeps_then kind may first since t at len key m q.live before after after p.up x
        (q.keeps first since x.traffic (updated at key (Some m)) len key (here at key (Some m) key refl) x.relates);
  }

  -- the answer of a call whose outcome is known
  pub prepares_as : (kind : Kind C Data Settings) (may : Data → Type 0) (l m : Live C) (a b : Bool) (before after : Moment Data Settings) → a ≡ b → Prepares kind may l m a before after → Prepares kind may l m b before after
  prepares_as kind may l m a b before after e p = subst (λ (x : Bool). Prepares kind may l m x before after) e p
