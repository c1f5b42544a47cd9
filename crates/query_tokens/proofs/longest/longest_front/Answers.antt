use Rattle.std.proofs.Common.{◌≡◌, ◌+◌, ℕ, Some, None, length, get_or, ◌≤◌, false, refl, ◌∙◌, ap, drop, arith}
use Rattle.std.proofs.lemmas.List.{drop-drop}
use Rattle.query_tokens.specs.Classes.{class_of}
use Rattle.query_tokens.specs.Machine.{next, kind_at, better}
use Rattle.query_tokens.specs.Names.{leads}
use Rattle.query_tokens.proofs.Best.{begins, keeps, stopped, dead, found_match}
use Rattle.query_tokens.proofs.longest.longest_front.Goals as goal

pub loop-i-init : goal.loop-i-init
loop-i-init c = record { run = c.requires.run; kept = begins c.args.rest.now }

pub returns-in-None-clause-longest : goal.returns-in-None-clause-longest
returns-in-None-clause-longest c =
    let x = c.index-rest-i.result in
    let e : next c.loop-i.state (class_of (get_or c.args.rest.now c.loop-i.i x)) ≡ None = cc in
    found_match c.args.rest.now c.loop-i.best (stopped c.args.rest.now c.loop-i.i c.loop-i.state x c.loop-i.best c.loop-i-test.true c.loop-i.invariant.kept e)

pub returns-then-ends_nowhere-clause-longest : goal.returns-then-ends_nowhere-clause-longest
returns-then-ends_nowhere-clause-longest c =
    let rest = c.args.rest.now in
    let i = c.loop-i.i in
    let x = c.index-rest-i.result in
    let e : next c.loop-i.state (class_of (get_or rest i x)) ≡ Some c.in-Some.after = cc in
    let n : c.better-best.result ≡ better c.loop-i.best (kind_at c.in-Some.after) (i + 1) = cc in
    let kept = keeps rest i c.loop-i.state c.in-Some.after x c.loop-i.best c.better-best.result c.loop-i-test.true c.loop-i.invariant.kept e n in
    let same : c.args.place + (i + 1) ≡ c.args.place + i + 1 = omega arith in
    let there : drop (i + 1) rest ≡ drop (c.args.place + i + 1) c.args.chars.now = ap (drop (i + 1)) c.requires.rest ∙ drop-drop (i + 1) c.args.place c.args.chars.now ∙ ap (λ (n : ℕ). drop n c.args.chars.now) same in
    let within : i + 1 ≤ length rest = let t = c.loop-i-test.true in omega arith in
    let none : leads false (drop (i + 1) rest) ≡ false = ap (leads false) there ∙ c.if-ends_nowhere.ensures.nowhere refl in
    found_match rest c.better-best.result (dead rest (i + 1) c.in-Some.after c.better-best.result within (c.if-ends_nowhere.ensures.name refl) none kept)

pub loop-i-preserved : goal.loop-i-preserved
loop-i-preserved c =
    let x = c.index-rest-i.result in
    let e : next c.loop-i.state (class_of (get_or c.args.rest.now c.loop-i.i x)) ≡ Some c.in-Some.after = cc in
    let n : c.better-best.result ≡ better c.loop-i.best (kind_at c.in-Some.after) (c.loop-i.i + 1) = cc in
    record { run = c.ends_nowhere.ensures.run; kept = keeps c.args.rest.now c.loop-i.i c.loop-i.state c.in-Some.after x c.loop-i.best c.better-best.result c.loop-i-test.true c.loop-i.invariant.kept e n }
