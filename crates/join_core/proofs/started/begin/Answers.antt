use Rattle.std.proofs.Common.{◌≡◌, ◌++◌, ◌∷◌, [], List, ℕ, ap, ◌∙◌, sym}
use Rattle.std.specs.Set.{remove_key}
use Rattle.join_core.specs.Levels.{is_key}
use Rattle.join_core.proofs.Keyed.{entry-last, insert-last, removed-last}
use Rattle.join_core.proofs.Kept.{not-err}
use Rattle.join_core.proofs.started.begin.Goals as goal

pub returns-in-Ok-clause-entries : goal.returns-in-Ok-clause-entries
returns-in-Ok-clause-entries c = c.in-Ok.ensures.entries ∙ entry-last c.args.key c.args.node c.args.started.now.entries c.requires.nodes

pub returns-in-Ok-clause-keys : goal.returns-in-Ok-clause-keys
returns-in-Ok-clause-keys c = not-err c.insert.result _ (sym c.is_err.ensures.value ∙ c.if-is_err.false) c.insert.ensures.keys ∙ insert-last c.args.key c.args.paused.now.keys c.requires.idle

pub returns-clause-failed_keys : goal.returns-clause-failed_keys
returns-clause-failed_keys c =
    let one : c.insert.new.self.keys ≡ c.args.paused.now.keys ++ c.args.key ∷ [] = not-err c.insert.result _ (sym c.is_err.ensures.value ∙ c.if-is_err.false) c.insert.ensures.keys ∙ insert-last c.args.key c.args.paused.now.keys c.requires.idle in
    c.remove.ensures.keys ∙ ap (λ (l : List ℕ). remove_key (is_key c.args.key) l) one ∙ removed-last c.args.key c.args.paused.now.keys c.requires.idle
