-- The name joins the others, and the map takes its number where it is not anonymous.
use Rattle.std.proofs.Common.{ℕ, ◌≡◌, false, cond, List, [], ◌∷◌, ◌++◌, Some, sym, ap, ◌∙◌, length, arith}
use Rattle.std.specs.BTreeMap.{get_by_text}
use Rattle.std.specs.List.{position_from}
use Rattle.std.specs.Str.{bytes_eq}
use Rattle.std.proofs.lemmas.Result.{IfOk-from_err}
use Rattle.std.proofs.lemmas.Map.Text.{text_keys}
use Rattle.pattern_parser.specs.Names.{anonymous}
use Rattle.pattern_parser.proofs.Places.{entry_added, entry_kept, other_too, not_found}
use Rattle.pattern_parser.proofs.names.Names.push.Goals as goal

pub returns-in_err-copy-clause-number : goal.returns-in_err-copy-clause-number
returns-in_err-copy-clause-number c = IfOk-from_err _ _ c.from_residual.ensures.0

pub returns-in_err-copy-clause-names : goal.returns-in_err-copy-clause-names
returns-in_err-copy-clause-names c = IfOk-from_err _ _ c.from_residual.ensures.0

pub returns-in_err-copy-clause-numbered : goal.returns-in_err-copy-clause-numbered
returns-in_err-copy-clause-numbered c = IfOk-from_err _ _ c.from_residual.ensures.0

pub returns-in_err-push-clause-number : goal.returns-in_err-push-clause-number
returns-in_err-push-clause-number c = IfOk-from_err _ _ c.from_residual-in_err-push.ensures.0

pub returns-in_err-push-clause-names : goal.returns-in_err-push-clause-names
returns-in_err-push-clause-names c = IfOk-from_err _ _ c.from_residual-in_err-push.ensures.0

pub returns-in_err-push-clause-numbered : goal.returns-in_err-push-clause-numbered
returns-in_err-push-clause-numbered c = IfOk-from_err _ _ c.from_residual-in_err-push.ensures.0

pub returns-in_err-from_str-clause-number : goal.returns-in_err-from_str-clause-number
returns-in_err-from_str-clause-number c = IfOk-from_err _ _ c.from_residual-in_err-from_str.ensures.0

pub returns-in_err-from_str-clause-names : goal.returns-in_err-from_str-clause-names
returns-in_err-from_str-clause-names c = IfOk-from_err _ _ c.from_residual-in_err-from_str.ensures.0

pub returns-in_err-from_str-clause-numbered : goal.returns-in_err-from_str-clause-numbered
returns-in_err-from_str-clause-numbered c = IfOk-from_err _ _ c.from_residual-in_err-from_str.ensures.0

pub returns-in_err-insert-clause-number : goal.returns-in_err-insert-clause-number
returns-in_err-insert-clause-number c = IfOk-from_err _ _ c.from_residual-in_err-insert.ensures.0

pub returns-in_err-insert-clause-names : goal.returns-in_err-insert-clause-names
returns-in_err-insert-clause-names c = IfOk-from_err _ _ c.from_residual-in_err-insert.ensures.0

pub returns-in_err-insert-clause-numbered : goal.returns-in_err-insert-clause-numbered
returns-in_err-insert-clause-numbered c = IfOk-from_err _ _ c.from_residual-in_err-insert.ensures.0

pub returns-in_ok-insert-clause-names : goal.returns-in_ok-insert-clause-names
returns-in_ok-insert-clause-names c = c.in_ok-push.ensures.items ∙ ap (λ (t : List ℕ). c.args.self.now.texts.items ++ t ∷ []) c.in_ok-copy.ensures

pub returns-in_ok-insert-clause-numbered : goal.returns-in_ok-insert-clause-numbered
returns-in_ok-insert-clause-numbered c = λ q h.
    let new : get_by_text c.insert.new.self q ≡ cond (bytes_eq q c.args.text.now) (Some (length c.args.self.now.texts.items)) (get_by_text c.args.self.now.places q) = grind (arith, text_keys) in
    let texts = c.args.self.now.texts.items in
    let text = c.args.text.now in
    let items : c.push.new.self.items ≡ texts ++ text ∷ [] = c.in_ok-push.ensures.items ∙ ap (λ (t : List ℕ). texts ++ t ∷ []) c.in_ok-copy.ensures in
    let named : bytes_eq text anonymous ≡ false = sym c.is_anonymous.ensures ∙ c.if-not-is_anonymous.true in
    let none = not_found texts text named c.requires.new in
    entry_added texts text q (get_by_text c.args.self.now.places q) (get_by_text c.insert.new.self q) none (c.requires.numbered q h) new ∙ ap (position_from (bytes_eq q) 0) (sym items)

pub returns-else-not-is_anonymous-clause-names : goal.returns-else-not-is_anonymous-clause-names
returns-else-not-is_anonymous-clause-names c = c.in_ok-push.ensures.items ∙ ap (λ (t : List ℕ). c.args.self.now.texts.items ++ t ∷ []) c.in_ok-copy.ensures

pub returns-else-not-is_anonymous-clause-numbered : goal.returns-else-not-is_anonymous-clause-numbered
returns-else-not-is_anonymous-clause-numbered c = λ q h.
    let texts = c.args.self.now.texts.items in
    let text = c.args.text.now in
    let items : c.push.new.self.items ≡ texts ++ text ∷ [] = c.in_ok-push.ensures.items ∙ ap (λ (t : List ℕ). texts ++ t ∷ []) c.in_ok-copy.ensures in
    let other = other_too q text anonymous (sym c.is_anonymous.ensures ∙ c.if-not-is_anonymous.false) h in
    entry_kept texts text q (get_by_text c.args.self.now.places q) other (c.requires.numbered q h) ∙ ap (position_from (bytes_eq q) 0) (sym items)
