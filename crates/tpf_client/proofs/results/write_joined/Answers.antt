-- All rows, and then the end of the text; or what was made of it so far.
use Rattle.std.proofs.Common.{◌∙◌, sym, ap, subst, ⊎_elim}
use Rattle.std.specs.Prelude.{Err}
use Rattle.tpf_base.specs.declared.fault.Fault.{Fault}
use Rattle.tpf_base.proofs.SendingLemmas.{rose_on}
use Rattle.tpf_client.specs.Rows.{Text, WritesRows, WritesFront}
use Rattle.tpf_client.specs.declared.fault.ClientFault.{ClientFault}
use Rattle.tpf_client.specs.Told.{told_at}
use Rattle.tpf_client.specs.Causes.{IsLocal}
use Rattle.tpf_client.specs.Calls.{PartOf, WholeOf}
use Rattle.tpf_client.proofs.Texts.{whole-written, part-written, front-handed, all-given, some-given, rows-shown, count-is}
use Rattle.tpf_client.proofs.Written.{with-fault}
use Rattle.tpf_client.proofs.Going.{explains-local, sink-local}
use Rattle.tpf_client.proofs.Sinks.{leaves-ok, leaves-stays, leaves-behind, leaves-before, leaves-fault, leaves-failed, leaves-memory, stays-then, stays-ok, writes-keeps}
use Rattle.tpf_client.proofs.results.write_joined.Goals as goal

pub returns-in-Ok-finish-clause-ok : goal.returns-in-Ok-finish-clause-ok
returns-in-Ok-finish-clause-ok g c =
    let j = c.in-Ok.ensures.joins in
    let w = subst (λ (x : Text). WritesRows j.1 x c.join_pages.new.rows (g.K.Sink.state c.args.out.now).taken (g.K.Sink.state c.join_pages.new.behind).taken) c.requires.fresh j.3 in (
      j.0,
      j.1,
      j.2,
      whole-written c.args.call.query.now j.1 c.join_pages.new.rows _ _ _ c.pieces_make_the_text.ensures w c.in-Ok-finish.ensures.writes.ok,
      c.in-Ok-finish.ensures.count ∙ count-is c.args.call.query.now j.1 c.join_pages.new.rows _ _ w,
    )

pub returns-in-Err-finish-clause-err : goal.returns-in-Err-finish-clause-err
returns-in-Err-finish-clause-err g c =
    let j = c.in-Ok.ensures.joins in
    let w = subst (λ (x : Text). WritesRows j.1 x c.join_pages.new.rows (g.K.Sink.state c.args.out.now).taken (g.K.Sink.state c.join_pages.new.behind).taken) c.requires.fresh j.3 in
    let is = subst (λ (f : ClientFault). IsLocal f) (sym c.of_sink.ensures) (sink-local c.in-Err-finish.fault) in
    (WholeOf j.0 j.1 j.2 (explains-local (told_at c.args.call.starts.now c.args.pages.versions.items) c.args.call.options.now.budget c.of_sink.result j.0 is) (part-written c.args.call.query.now j.1 c.join_pages.new.rows _ _ _ c.pieces_make_the_text.ensures w c.in-Err-finish.ensures.writes.err), is)

pub returns-in-Ok-give-clause-err : goal.returns-in-Ok-give-clause-err
returns-in-Ok-give-clause-err g c =
    let s = c.in-Err.ensures.some in
    let w = subst (λ (x : Text). WritesFront s.1 x c.join_pages.new.rows (g.K.Sink.state c.args.out.now).taken (g.K.Sink.state c.join_pages.new.behind).taken) c.requires.fresh s.3 in
    (PartOf s.0 s.1 s.2 (front-handed c.args.call.query.now s.1 c.join_pages.new.rows _ _ _ w (all-given c.join_pages.new.rows _ _ c.in-Ok-give.ensures.writes.ok)), λ other rose. ⊎_elim (λ l. absurd (other l)) (λ t. rows-shown c.args.call.query.now s.1 c.join_pages.new.rows _ _ _ (subst (λ (x : Text). WritesRows s.1 x c.join_pages.new.rows (g.K.Sink.state c.args.out.now).taken (g.K.Sink.state c.join_pages.new.behind).taken) c.requires.fresh t) c.in-Ok-give.ensures.writes.ok) s.4)

pub returns-in-Err-Failed-clause-err : goal.returns-in-Err-Failed-clause-err
returns-in-Err-Failed-clause-err g c =
    let s = c.in-Err.ensures.some in
    let w = subst (λ (x : Text). WritesFront s.1 x c.join_pages.new.rows (g.K.Sink.state c.args.out.now).taken (g.K.Sink.state c.join_pages.new.behind).taken) c.requires.fresh s.3 in
    (PartOf s.0 s.1 s.2 (front-handed c.args.call.query.now s.1 c.join_pages.new.rows _ _ _ w (some-given c.join_pages.new.rows _ _ c.in-Err-Failed.ensures.writes.err)), λ other rose. absurd (rose (rose_on _ _ _ c.in-Err.ensures.sink.later (c.in-Err-Failed.ensures.writes.cause.failed (ap (λ (f : Fault). Err f) c.in-Err-Failed.field-0-is)))))

pub returns-in-Err-OutOfMemory-clause-err : goal.returns-in-Err-OutOfMemory-clause-err
returns-in-Err-OutOfMemory-clause-err g c =
    let s = c.in-Err.ensures.some in
    let w = subst (λ (x : Text). WritesFront s.1 x c.join_pages.new.rows (g.K.Sink.state c.args.out.now).taken (g.K.Sink.state c.join_pages.new.behind).taken) c.requires.fresh s.3 in
    (PartOf s.0 s.1 (with-fault _ _ _ _ _ _ _ _ _ _ s.0 s.1 _ _ _ _ tt s.2) (front-handed c.args.call.query.now s.1 c.join_pages.new.rows _ _ _ w (some-given c.join_pages.new.rows _ _ c.in-Err-OutOfMemory.ensures.writes.err)), λ other rose. absurd (other tt))

pub returns-in-Ok-finish-clause-sink : goal.returns-in-Ok-finish-clause-sink
returns-in-Ok-finish-clause-sink g c = leaves-ok _ _ _ (stays-then _ _ _ (leaves-stays _ _ _ c.in-Ok.ensures.sink) (stays-ok _ _ _ (writes-keeps _ _ _ _ c.in-Ok-finish.ensures.writes)))

pub returns-in-Err-finish-clause-sink : goal.returns-in-Err-finish-clause-sink
returns-in-Err-finish-clause-sink g c = leaves-behind _ _ _ _ (leaves-stays _ _ _ c.in-Ok.ensures.sink) (leaves-fault _ _ c.in-Err-finish.fault c.of_sink.result c.of_sink.ensures (writes-keeps _ _ _ _ c.in-Err-finish.ensures.writes))

pub returns-in-Ok-give-clause-sink : goal.returns-in-Ok-give-clause-sink
returns-in-Ok-give-clause-sink g c = leaves-before _ _ _ _ c.in-Err.ensures.sink (stays-ok _ _ _ (writes-keeps _ _ _ _ c.in-Ok-give.ensures.writes))

pub returns-in-Err-Failed-clause-sink : goal.returns-in-Err-Failed-clause-sink
returns-in-Err-Failed-clause-sink g c = leaves-failed _ _ _ c.in-Err.fault _ c.in-Err-Failed.field-0-is c.in-Err.ensures.sink (writes-keeps _ _ _ _ c.in-Err-Failed.ensures.writes)

pub returns-in-Err-OutOfMemory-clause-sink : goal.returns-in-Err-OutOfMemory-clause-sink
returns-in-Err-OutOfMemory-clause-sink g c = leaves-memory _ _ _ c.in-Err.fault _ c.in-Err-OutOfMemory.field-0-is c.in-Err.ensures.sink (writes-keeps _ _ _ _ c.in-Err-OutOfMemory.ensures.writes)
