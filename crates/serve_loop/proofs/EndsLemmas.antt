-- Which connections ended, one step after another.
use Rattle.std.proofs.Common.{ℕ, ◌≡◌, ◌+◌, ◌≤◌, ◌++◌, List, [], length, refl, sym, ◌∙◌, ap, arith, append_assoc, length-append}
use Rattle.serve_loop.specs.Traffic.{Traffic, ended}
use Rattle.serve_loop.specs.Steps.{EndsBy}

module _ {C Data : Type 0} where
  -- none ended
  pub ends_none : (t u : Traffic C Data) (a b : ℕ) → u.ordered ≡ t.ordered → u.broken ≡ t.broken → u.starved ≡ t.starved → a ≤ b → EndsBy t u 0 0 a b
  ends_none t u a b o k s later = record {
    ordered = [];
    broken = [];
    starved = [];
    ordered_is = o;
    broken_is = k;
    starved_is = s;
    count_is = refl;
    wanted_is = refl;
    rose = omega (arith, later);
  }

  pub ends_same : (t : Traffic C Data) (a b : ℕ) → a ≤ b → EndsBy t t 0 0 a b
  ends_same t a b later = ends_none t t a b refl refl refl later

  pub ends_then : (t u v : Traffic C Data) (m n p q a b c : ℕ) → EndsBy t u m p a b → EndsBy u v n q b c → EndsBy t v (m + n) (p + q) a c
  ends_then t u v m n p q a b c x y =
      let xc = x.count_is in
      let yc = y.count_is in
      let xw = x.wanted_is in
      let yw = y.wanted_is in
      let xr = x.rose in
      let yr = y.rose in
      record {
        ordered = y.ordered ++ x.ordered;
        broken = y.broken ++ x.broken;
        starved = y.starved ++ x.starved;
        ordered_is = y.ordered_is ∙ ap (λ (l : List ℕ). y.ordered ++ l) x.ordered_is ∙ sym (append_assoc y.ordered x.ordered t.ordered);
        broken_is = y.broken_is ∙ ap (λ (l : List ℕ). y.broken ++ l) x.broken_is ∙ sym (append_assoc y.broken x.broken t.broken);
        starved_is = y.starved_is ∙ ap (λ (l : List ℕ). y.starved ++ l) x.starved_is ∙ sym (append_assoc y.starved x.starved t.starved);
        count_is = omega (arith, length-append y.ordered x.ordered, length-append y.broken x.broken, length-append y.starved x.starved, xc, yc);
        wanted_is = omega (arith, length-append y.starved x.starved, xw, yw);
        rose = omega (arith, length-append y.broken x.broken, xr, yr);
      }

  -- with other names of the counts
  pub ends_as : (t u : Traffic C Data) (m m' p p' a b : ℕ) → m ≡ m' → p ≡ p' → EndsBy t u m p a b → EndsBy t u m' p' a b
  ends_as t u m m' p p' a b e f x = record {
    ordered = x.ordered;
    broken = x.broken;
    starved = x.starved;
    ordered_is = x.ordered_is;
    broken_is = x.broken_is;
    starved_is = x.starved_is;
    count_is = x.count_is ∙ e;
    wanted_is = x.wanted_is ∙ f;
    rose = x.rose;
  }

  -- how many have ended since
  pub ended_more : (t u : Traffic C Data) (m p a b : ℕ) → EndsBy t u m p a b → ended u ≡ ended t + m
  ended_more t u m p a b x =
      let c = x.count_is in
      omega (
        arith,
        c,
        ap (λ (l : List ℕ). length l) x.ordered_is,
        ap (λ (l : List ℕ). length l) x.broken_is,
        ap (λ (l : List ℕ). length l) x.starved_is,
        length-append x.ordered t.ordered,
        length-append x.broken t.broken,
        length-append x.starved t.starved,
      )
