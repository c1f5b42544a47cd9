-- The text is read as the quads whose text it is.
use Rattle.std.proofs.Common.{ℕ, ◌≡◌, ◌∙◌}
use Rattle.generated_data.specs.Generated.{generated}
use Rattle.data_servers.proofs.Readable.{text_reads, never_bad}
use Rattle.data_servers.proofs.generated.generated_quads.Goals as goal

pub returns-in-Ok-clause-quads : goal.returns-in-Ok-clause-quads
returns-in-Ok-clause-quads c =
    c.in-Ok.ensures.only_read (generated c.args.persons) (text_reads c.canonical_text_reads_back.ensures c.args.persons c.requires _ (c.taken.ensures ∙ c.in_ok-text.ensures))

pub unreachable-requires : goal.unreachable-requires
unreachable-requires c =
    never_bad {X = ℕ} (λ v. v ≡ v) c.in-Err-Bad.field-0 _ _ c.in-Err-Bad.field-0-is (c.in-Err-Bad.ensures.only_read (generated c.args.persons) (text_reads c.canonical_text_reads_back.ensures c.args.persons c.requires _ (c.taken.ensures ∙ c.in_ok-text.ensures)))
