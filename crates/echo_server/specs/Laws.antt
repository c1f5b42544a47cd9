-- Serves proofs alone: the laws of a connection that gives back what it gets.
use Rattle.std.specs.Prelude.{ℕ, ◌≡◌, List, [], ◌∷◌, ◌++◌, length, take, drop, Bool, true, false, not, ◌==◌}
use Rattle.std.proofs.Common.{refl, sym, ◌∙◌, ap, append_assoc, append-nil, length-append, inr, ◌<◌, arith}
use Rattle.std.proofs.lemmas.Bool.{eqb-true}
use Rattle.std.proofs.lemmas.List.{take-append-drop}
use Rattle.connections.specs.Kinds.{BeginsResponse, IsWhole, Takes, Fills}
use Rattle.connections.specs.Versions.{Serving}
use Rattle.loop_wire.specs.Response.{BeginsAt}
use Rattle.echo_server.specs.declared.echo.Echo.{Echo}
use Rattle.echo_server.specs.Echoes.{echoes}

pub all_begins : {Data Settings : Type 0} → BeginsResponse (echoes {Data = Data} {Settings = Settings})
all_begins {Data = Data} {Settings = Settings} = λ history config fed taken marks c one answers more n within. record {
  all = [];
  padding = [];
  rest = drop n c.pending.items ++ (c.owed.items ++ more);
  split = sym (append-nil marks ∙ answers.1);
  no_failure = tt;
  latest = tt;
  marked = refl;
  text = ap (λ (x : List ℕ). x ++ more) (sym answers.0) ∙ append_assoc taken (c.pending.items ++ c.owed.items) more
      ∙ ap (λ (x : List ℕ). taken ++ x) (append_assoc c.pending.items c.owed.items more ∙ ap (λ (x : List ℕ). x ++ (c.owed.items ++ more)) (sym (take-append-drop n c.pending.items))
      ∙ append_assoc (take n c.pending.items) (drop n c.pending.items) (c.owed.items ++ more))
      ∙ sym (append_assoc taken (take n c.pending.items) (drop n c.pending.items ++ (c.owed.items ++ more)));
  numbers = refl;
}

not_false : (b : Bool) → not b ≡ false → b ≡ true
not_false true e = refl
not_false false e = cc

none_owed : (xs : List ℕ) → not (length xs == 0) ≡ false → xs ≡ []
none_owed [] e = refl
none_owed (x ∷ xs) e = let z : length (x ∷ xs) ≡ 0 = eqb-true (length (x ∷ xs)) 0 (not_false (length (x ∷ xs) == 0) e) in absurd (omega (arith, z))

pub all_whole : {Data Settings : Type 0} → IsWhole (echoes {Data = Data} {Settings = Settings})
all_whole {Data = Data} {Settings = Settings} = λ history config fed taken marks c answers none owes wants. record {
  marked = answers.1;
  text = sym (append-nil taken) ∙ ap (λ (x : List ℕ). taken ++ x) (sym (ap (λ (x : List ℕ). x ++ c.owed.items) none ∙ none_owed c.owed.items owes)) ∙ answers.0;
  closing = refl;
}

-- what was taken and is pending is a front of what was fed
pub begins_there : {Data Settings : Type 0} → BeginsAt (echoes {Data = Data} {Settings = Settings}) (λ serving fed. fed)
begins_there {Data = Data} {Settings = Settings} = λ history serving fed taken c past answering. (c.owed.items, sym answering.answers.0)

-- the front that was taken is no longer pending
pub takes_front : {Data Settings : Type 0} (n : ℕ) (old new : Echo) → new.pending.items ≡ drop n old.pending.items → new.owed ≡ old.owed → Takes (echoes {Data = Data} {Settings = Settings}) n old new
takes_front {Data = Data} {Settings = Settings} n old new rest same = record {
  answers = λ history config fed taken marks a. (
    ap (λ (x : List ℕ). (taken ++ take n old.pending.items) ++ (x ++ new.owed.items)) rest
        ∙ ap (λ v. (taken ++ take n old.pending.items) ++ (drop n old.pending.items ++ v.items)) same
        ∙ append_assoc taken (take n old.pending.items) (drop n old.pending.items ++ old.owed.items)
        ∙ ap (λ (x : List ℕ). taken ++ x) (sym (append_assoc (take n old.pending.items) (drop n old.pending.items) old.owed.items) ∙ ap (λ (x : List ℕ). x ++ old.owed.items) (take-append-drop n old.pending.items))
        ∙ a.0,
    a.1,
  );
}

some_owed : (xs : List ℕ) → not (length xs == 0) ≡ true → 0 < length xs
some_owed [] e = absurd cc
some_owed (x ∷ xs) e = omega arith

-- all that was owed is pending behind what was
pub fills_all : {Data Settings : Type 0} (server : Serving Data Settings) (old new : Echo) → new.pending.items ≡ old.pending.items ++ old.owed.items → new.owed.items ≡ []
    → Fills (echoes {Data = Data} {Settings = Settings}) server old new
fills_all {Data = Data} {Settings = Settings} server old new made none = record {
  answers = λ history fed taken marks a. (
    ap (λ (x : List ℕ). taken ++ (x ++ new.owed.items)) made
        ∙ ap (λ (x : List ℕ). taken ++ ((old.pending.items ++ old.owed.items) ++ x)) none
        ∙ ap (λ (x : List ℕ). taken ++ x) (append-nil (old.pending.items ++ old.owed.items))
        ∙ a.0,
    a.1,
  );
  more = old.owed.items;
  pending = made;
  idle = λ free. none_owed old.owed.items free;
  enough = inr (ap (λ (x : List ℕ). not (length x == 0)) none);
  some = λ owing. omega (arith, some_owed old.owed.items owing, ap length made, length-append old.pending.items old.owed.items);
  wants = refl;
  closing = refl;
}
