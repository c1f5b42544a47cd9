-- The connections of a part.
use Rattle.std.proofs.Common.{ℕ, ◌≡◌, Option, Some, None, Bool, true, false, refl, sym, ◌∙◌, ap, subst, if◌then◌else◌}
use Rattle.tpf_base.specs.Links.{WireState}
use Rattle.connections.specs.Kinds.{Kind}
use Rattle.serve_loop.specs.declared.live.Live.{Live}
use Rattle.serve_loop.specs.declared.live.Part.{Part}
use Rattle.serve_loop.specs.declared.live.Stepped.{Stepped}
use Rattle.serve_loop.specs.Calls.{CallsAt}
use Rattle.serve_loop.specs.Parts.{is_in, among, parted}
use Rattle.serve_loop.proofs.RelatesLemmas.{none_some}

module _ {C : Type 0} where
  some_if : (b : Bool) (x l : Live C) → (if b then Some x else None) ≡ Some l → (Some x ≡ Some l) × (b ≡ true)
  some_if true x l e = (e, refl)
  some_if false x l e = absurd (none_some l e)

  is_some_if : (b : Bool) (l : Live C) → b ≡ true → (if b then Some l else None) ≡ Some l
  is_some_if b l e = rw e refl

  is_none_if : (b : Bool) (l : Live C) → b ≡ false → (if b then Some l else None) ≡ None
  is_none_if b l e = rw e refl

  live_as : (x l : Live C) → Some x ≡ Some l → x ≡ l
  live_as x l e = cc

  pub among_some : (part : Part) (o : Option (Live C)) (l : Live C) → among part o ≡ Some l → (o ≡ Some l) × (is_in part l.link ≡ true)
  among_some part None l e = absurd (none_some l e)
  among_some part (Some x) l e = let p = some_if (is_in part x.link) x l e in (p.0, ap (λ (y : Live C). is_in part y.link) (sym (live_as x l p.0)) ∙ p.1)

  pub among_in : (part : Part) (o : Option (Live C)) (l : Live C) → o ≡ Some l → is_in part l.link ≡ true → among part o ≡ Some l
  among_in part o l e h = ap (λ (x : Option (Live C)). among part x) e ∙ is_some_if (is_in part l.link) l h

  pub among_yes : (part : Part) (o : Option (Live C)) (l : Live C) → o ≡ Some l → is_in part l.link ≡ true → among part o ≡ o
  among_yes part o l e h = among_in part o l e h ∙ sym e

  pub among_no : (part : Part) (o : Option (Live C)) (l : Live C) → o ≡ Some l → is_in part l.link ≡ false → among part o ≡ None
  among_no part o l e h = ap (λ (x : Option (Live C)). among part x) e ∙ is_none_if (is_in part l.link) l h

  pub among_vacant : (part : Part) (o : Option (Live C)) → o ≡ None → among part o ≡ None
  among_vacant part o e = ap (λ (x : Option (Live C)). among part x) e

  -- no two of them have one link where no two of all have
  pub parted_alone : (part : Part) (at : ℕ → Option (Live C)) → ((i j : ℕ) (a b : Live C) → at i ≡ Some a → at j ≡ Some b → a.link ≡ b.link → i ≡ j)
      → (i j : ℕ) (a b : Live C) → parted part at i ≡ Some a → parted part at j ≡ Some b → a.link ≡ b.link → i ≡ j
  parted_alone part at alone = λ i j a b e f s. alone i j a b (among_some part (at i) a e).0 (among_some part (at j) b f).0 s

module _ {C Data Settings : Type 0} where
  pub calls_none : (kind : Kind C Data Settings) (slot : Option (Live C)) (w : WireState) → slot ≡ None → CallsAt kind slot None w w
  calls_none kind slot w e = subst (λ (o : Option (Live C)). CallsAt kind o None w w) (sym e) refl

  pub calls_as : (kind : Kind C Data Settings) (slot slot' : Option (Live C)) (result : Option Stepped) (a b : WireState) → slot ≡ slot' → CallsAt kind slot result a b → CallsAt kind slot' result a b
  calls_as kind slot slot' result a b e h = subst (λ (o : Option (Live C)). CallsAt kind o result a b) e h
