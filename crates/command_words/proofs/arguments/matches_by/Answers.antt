use Rattle.std.proofs.Common.{◌∙◌, subst, inl, inr}
use Rattle.std.proofs.lemmas.Bool.{and_parts}
use Rattle.clap.specs.Words.{Kinds, HasKind, app_of, is_simple}
use Rattle.command_words.proofs.arguments.matches_by.Goals as goal

pub returns-in-Ok-clause-rows : goal.returns-in-Ok-clause-rows
returns-in-Ok-clause-rows c = (c.in-Ok.ensures.matches (and_parts (is_simple (app_of c.args.command)) _ c.requires).0).0

pub returns-in-Ok-clause-taken : goal.returns-in-Ok-clause-taken
returns-in-Ok-clause-taken c = c.in-Ok.ensures.kinds c.requires

pub returns : goal.returns
returns c =
    let has = c.in-Err.ensures.kinds c.requires in
    record {
      rows = tt;
      taken = tt;
      refused = λ _ none.
          elim (subst (λ (ks : Kinds). HasKind ks c.in-Err.error) none has) [ inl m ↦ absurd (c.in_default.not-OutOfMemory (c.kind.ensures ∙ m)) | inr among ↦ absurd among ];
    }
