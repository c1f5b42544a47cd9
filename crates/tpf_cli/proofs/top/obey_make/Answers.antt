use Rattle.std.proofs.Common.{refl}
use Rattle.command_endings.specs.Endings.{made}
use Rattle.tpf_cli.proofs.Asked.{writes_data, makes_none}
use Rattle.tpf_cli.proofs.top.obey_make.Goals as goal

pub returns-in-None-clause-does : goal.returns-in-None-clause-does
returns-in-None-clause-does g c =
    let e = c.write_generated.ensures in
    makes_none (g.F.Shelf.state c.args.shelf.now) _ (g.K.Sink.state c.args.out.now) (g.K.Sink.state c.write_generated.new.out) _ c.args.count c.args.run (λ r. r.now) (made c.write_generated.result) c.in-None.is (
      c.requires.unused,
      refl,
      record { later = e.later; faultless = e.faultless; spared = λ fine. (e.spared fine).same },
      writes_data (g.K.Sink.state c.args.out.now) (g.K.Sink.state c.write_generated.new.out) c.args.count c.write_generated.result e.ok e.err e.failed,
    )
