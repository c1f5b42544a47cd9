use Rattle.std.proofs.Common.{ℕ, List, [], refl, subst, arith, ◌∙◌}
use Rattle.std.proofs.KnownBytes.{Appends-nil}
use Rattle.tpf_base.specs.Wrote.{WritesWhole}
use Rattle.command_endings.proofs.lines.write_sizes.Goals as goal

pub returns-in-Ok : goal.returns-in-Ok
returns-in-Ok g c =
    subst (λ (l : List ℕ). WritesWhole l (g.K.Sink.state c.args.out.now) (g.K.Sink.state c.write_all.new.out) c.write_all.result) (c.deref.ensures.value ∙ c.in-Ok.ensures) c.write_all.ensures

pub returns-in-Err : goal.returns-in-Err
returns-in-Err g c = record {
  ok = tt;
  err = record { front = []; rest = _; whole = refl; bytes = Appends-nil _ };
  cause = record { later = omega arith; success = tt; failed = λ e. cc; memory = λ e. refl };
  faultless = refl;
  spared = λ fine. record { same = refl; answer = λ e. cc };
}
