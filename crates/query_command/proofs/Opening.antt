-- Files that are found one after another.
use Rattle.std.proofs.Common.{ℕ, ◌≡◌, ◌++◌, inl, inr, List, [], ◌∷◌, Option, Result, Err, refl, sym, ap, subst, ◌∙◌, arith}
use Rattle.std.proofs.lemmas.List.{append_assoc}
use Rattle.tpf_base.specs.Outside.{ShelfState, HoldsName, LeavesOpened, AsksOnce}
use Rattle.tpf_client.specs.declared.options.Report.{Report}
use Rattle.data_files.specs.declared.fault.DataFault.{DataFault}
use Rattle.data_files.specs.declared.fault.DataFault.TheVariants as data_faults
use Rattle.data_files.specs.declared.fault.QueryFileFault.{QueryFileFault}
use Rattle.data_files.specs.declared.fault.QueryFileFault.TheVariants as query_faults
use Rattle.data_files.specs.Kept.{ReadsNamed}
use Rattle.data_files.specs.KeptLaws.{shelf_none, shelf_both, reads_keep}
use Rattle.answer_faults.specs.declared.fault.AnswerFault.{AnswerFault}
use Rattle.answer_faults.specs.declared.fault.AnswerFault.TheVariants as faults
use Rattle.query_command.specs.Files.{OpensAtMost, OpensLocally, AsksLocally, FailsByFile, ReadsLocally}

pub opens_two : (old mid new : ShelfState) → LeavesOpened old mid → LeavesOpened mid new → OpensAtMost 2 old new
opens_two old mid new a b =
    let first = a.few in
    let second = b.few in
    let after = a.later in
    let later = b.later in
    record {
      later = omega (arith, after, later);
      few = omega (arith, first, second);
      rest = λ k below. b.rest k (omega (arith, below, after)) ∙ a.rest k below;
    }

-- a name is held still
pub holds_still : (told told' : Option (List (List ℕ × List ℕ))) → told' ≡ told → (name : List ℕ) → HoldsName told name → HoldsName told' name
holds_still told told' same name there = subst (λ (t : Option (List (List ℕ × List ℕ))). HoldsName t name) (sym same) there

module _ (name query_name : List ℕ) (old : ShelfState) where
  -- no file was looked for
  pub reads_none : ReadsLocally name query_name old old (Err (faults.Data data_faults.OutOfMemory))
  reads_none = record {
    keeps = shelf_none old;
    asks = inl refl;
    opened = record { later = omega arith; few = omega arith; rest = λ k below. refl };
    calm = λ fine. refl;
    spared = λ fine there asked room e. cc;
  }

  -- the data were not served
  pub reads_one : (new : ShelfState) (fault : DataFault) (Fails : Type 0) → (Fails → fault ≡ data_faults.File) → (fault ≡ data_faults.File → Fails) → ReadsNamed name old new Fails
      → ReadsLocally name query_name old new (Err (faults.Data fault))
  reads_one new fault Fails on back r = record {
    keeps = reads_keep name old new Fails r;
    asks = inr r.asks.found;
    opened = r.asks.opened;
    calm = λ fine. r.calm (λ fails. fine (on fails));
    spared = λ fine there asked room e. r.spared fine there (omega (arith, room)) (back e);
  }

  module _ (mid new : ShelfState) (Fails : Type 0) (first : ReadsNamed name old mid Fails) (served : Fails → ⊥) where
    pub asked_two : AsksOnce query_name mid new → new.found ≡ old.found ++ name ∷ query_name ∷ []
    asked_two second = second.found ∙ ap (λ (found : List (List ℕ)). found ++ query_name ∷ []) first.asks.found ∙ append_assoc old.found (name ∷ []) (query_name ∷ [])

    -- both were read, and what came after was no fault of a file
    pub reads_both : (result : Result Report AnswerFault) → AsksLocally name query_name old new result → OpensLocally old new result → (FailsByFile result → ⊥) → (Second : Type 0) → (Second → ⊥) → ReadsNamed query_name mid new Second
        → ReadsLocally name query_name old new result
    reads_both result asks opened none Second read second = record {
      asks = asks;
      keeps = shelf_both old mid new (reads_keep name old mid Fails first) (reads_keep query_name mid new Second second);
      opened = opened;
      calm = λ fine. second.calm read ∙ first.calm served;
      spared = λ fine there asked room. none;
    }

    -- the query was not read
    pub reads_refused : (fault : QueryFileFault) (Second : Type 0) → (Second → fault ≡ query_faults.File) → (fault ≡ query_faults.File → Second) → ReadsNamed query_name mid new Second
        → ReadsLocally name query_name old new (Err (faults.Query fault))
    reads_refused fault Second on back second =
        let few = first.asks.opened.few in
        record {
          keeps = shelf_both old mid new (reads_keep name old mid Fails first) (reads_keep query_name mid new Second second);
          asks = asked_two second.asks;
          opened = opens_two old mid new first.asks.opened second.asks.opened;
          calm = λ fine. second.calm (λ fails. fine (on fails)) ∙ first.calm served;
          spared = λ fine there asked room e. second.spared (first.asks.faultless ∙ fine) (holds_still old.told mid.told first.asks.told query_name asked) (omega (arith, few, room)) (back e);
        }
