-- A pattern that is there adds nothing.
use Rattle.std.proofs.Common.{◌≡◌, ◌&&◌, ℕ, nat_eq, true, List, Option, Some, None, refl, sym, ap, subst, ◌∙◌}
use Rattle.std.specs.List.{Contains}
use Rattle.std.specs.Option.{option_eq}
use Rattle.std.proofs.lemmas.Bool.{and_parts}
use Rattle.std.proofs.lemmas.Bool.Decides.{Decides-eqb}
use Rattle.std.proofs.lemmas.Result.{IfOk-from_err}
use Rattle.list_laws.proofs.Members.{some_of}
use Rattle.triple_table.specs.declared.ids.IdPattern.{IdPattern}
use Rattle.restricted_pages.specs.Patterns.{IsJoined}
use Rattle.restricted_pages.proofs.Joins.{nothing_more, one_more, there_before}
use Rattle.restricted_pages.proofs.patterns.add.Goals as goal

same_id : (a b : Option ℕ) → option_eq nat_eq a b ≡ true → a ≡ b
same_id None None h = refl
same_id None (Some b) h = cc
same_id (Some a) None h = cc
same_id (Some a) (Some b) h = ap (λ (n : ℕ). Some n) ((Decides-eqb a b).0 h)

same_pattern : (x y : IdPattern) → (option_eq nat_eq x.subject y.subject && (option_eq nat_eq x.predicate y.predicate && option_eq nat_eq x.object y.object)) ≡ true → x ≡ y
same_pattern x y h =
    let p = and_parts (option_eq nat_eq x.subject y.subject) (option_eq nat_eq x.predicate y.predicate && option_eq nat_eq x.object y.object) h in
    let q = and_parts (option_eq nat_eq x.predicate y.predicate) (option_eq nat_eq x.object y.object) p.1 in
    let e = same_id x.subject y.subject p.0 in let f = same_id x.predicate y.predicate q.0 in let g = same_id x.object y.object q.1 in
    λ i. record { subject = e i; predicate = f i; object = g i }

pub returns-in_default : goal.returns-in_default
returns-in_default c = λ s slots row rows is h. nothing_more s slots row rows c.args.patterns.now.items h (subst (IsJoined s slots row) c.in_default.is is)

pub returns-in_err-push : goal.returns-in_err-push
returns-in_err-push c = IfOk-from_err _ _ c.from_residual.ensures.0

pub returns-in_ok-push : goal.returns-in_ok-push
returns-in_ok-push c = λ s slots row rows is h. one_more s slots row rows c.args.patterns.now.items h c.in-Some.pattern (subst (IsJoined s slots row) c.in-Some.is is) c.push.new.self.items c.in_ok-push.ensures.items

pub returns-else-not-contains : goal.returns-else-not-contains
returns-else-not-contains c =
    let at = some_of _ c.deref.result.now (sym c.contains.ensures.value ∙ c.if-not-contains.false) in
    let held : Contains c.args.patterns.now.items c.in-Some.pattern = subst (λ (l : List IdPattern). Contains l c.in-Some.pattern) c.deref.ensures.value (subst (Contains c.deref.result.now) (same_pattern at.0 c.in-Some.pattern at.2) at.1) in
    λ s slots row rows is h. there_before s slots row rows c.args.patterns.now.items h c.in-Some.pattern held (subst (IsJoined s slots row) c.in-Some.is is)
