-- The laws of what a command keeps: of no call, and of one after another. For proofs alone.
use Rattle.std.proofs.Common.{ℕ, ◌≡◌, ◌+◌, ◌++◌, List, replicate, refl, sym, ap, subst, ◌∙◌, arith}
use Rattle.std.proofs.lemmas.List.{append-nil, append_assoc, replicate-append-replicate}
use Rattle.tpf_base.specs.Outside.{ShelfState, AsksOnce}
use Rattle.tpf_base.specs.Wrote.{SinkState}
use Rattle.data_files.specs.Kept.{KeepsShelf, ReadsNamed, AsksOnly, KeepsSink}

pub shelf_none : (a : ShelfState) → KeepsShelf a a
shelf_none a = record { told = refl; later = omega arith; faultless = refl }

pub shelf_same : (a b : ShelfState) → b ≡ a → KeepsShelf a b
shelf_same a b same = subst (λ (s : ShelfState). KeepsShelf a s) (sym same) (shelf_none a)

pub shelf_both : (a b c : ShelfState) → KeepsShelf a b → KeepsShelf b c → KeepsShelf a c
shelf_both a b c p q =
    let first = p.later in
    let second = q.later in
    record { told = q.told ∙ p.told; later = omega (arith, first, second); faultless = q.faultless ∙ p.faultless }

pub sink_none : (a : SinkState) → KeepsSink a a
sink_none a = record { later = omega arith; faultless = refl; spared = λ fine. refl }

pub sink_same : (a b : SinkState) → b ≡ a → KeepsSink a b
sink_same a b same = subst (λ (s : SinkState). KeepsSink a s) (sym same) (sink_none a)

pub sink_both : (a b c : SinkState) → KeepsSink a b → KeepsSink b c → KeepsSink a c
sink_both a b c p q =
    let first = p.later in
    let second = q.later in
    record {
      later = omega (arith, first, second);
      faultless = q.faultless ∙ p.faultless;
      spared = λ fine. q.spared (p.faultless ∙ fine) ∙ p.spared fine;
    }

-- a file that was read, where what is answered fails exactly where the read did
pub reads_as : (name : List ℕ) (old new : ShelfState) (Fails Failed : Type 0) → (Fails → Failed) → (Failed → Fails) → ReadsNamed name old new Fails → ReadsNamed name old new Failed
reads_as name old new Fails Failed on back r = record {
  asks = r.asks;
  later = r.later;
  calm = λ fine. r.calm (λ fails. fine (on fails));
  spared = λ fine there room failed. r.spared fine there room (back failed);
}

pub reads_keep : (name : List ℕ) (old new : ShelfState) (Fails : Type 0) → ReadsNamed name old new Fails → KeepsShelf old new
reads_keep name old new Fails r = record { told = r.asks.told; later = r.later; faultless = r.asks.faultless }

-- ---- the files that were asked for

pub only_none : (name : List ℕ) (a : ShelfState) → AsksOnly name a a
only_none name a = (0, sym (append-nil a.found))

pub only_once : (name : List ℕ) (a b : ShelfState) → AsksOnce name a b → AsksOnly name a b
only_once name a b r = (1, r.found)

pub only_both : (name : List ℕ) (a b c : ShelfState) → AsksOnly name a b → AsksOnly name b c → AsksOnly name a c
only_both name a b c p q = (
  p.0 + q.0,
  q.1 ∙ ap (λ (found : List (List ℕ)). found ++ replicate q.0 name) p.1 ∙ append_assoc a.found (replicate p.0 name) (replicate q.0 name)
      ∙ ap (λ (more : List (List ℕ)). a.found ++ more) (replicate-append-replicate p.0 q.0 name),
)
