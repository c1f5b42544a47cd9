-- What is written, what is gathered, and what is left of a text that is written in pieces.
use Rattle.std.proofs.Common.{ℕ, suc, ◌≡◌, ◌+◌, ◌<◌, ◌≤◌, ◌-◌, List, [], ◌++◌, Option, Result, Err, refl, ap, sym, ◌∙◌, subst, append_assoc, append-nil, arith}
use Rattle.std.specs.List.{flat_map, range_with_len}
use Rattle.std.specs.Io.KnownBytes.{Appends}
use Rattle.list_laws.proofs.Results.{err_same}
use Rattle.tpf_base.specs.Wrote.{AppendsPrefix}
use Rattle.tpf_base.specs.declared.fault.Fault.{Fault}
use Rattle.tpf_base.specs.declared.fault.Fault.TheVariants.{Failed, OutOfMemory}
use Rattle.tpf_base.proofs.Appended.{Appends-then, Appends-none}
use Rattle.rdf_terms.specs.Canon.{canon}
use Rattle.rdf_terms.proofs.Canonical.{canon_of_both}
use Rattle.generated_data.specs.Generated.{about, generated}

-- the lines about the persons from i on
unfoldable pub left : ℕ → ℕ → List ℕ
left n i = canon (flat_map (about n) (range_with_len i (n - i)))

-- of the whole text a front is taken, then comes the piece, and the rest is still to come
pub record IsWriting (whole : List ℕ) (old new : Option (List ℕ)) (piece rest : List ℕ) : Type 0 where
  pub done : List ℕ
  pub parts : whole ≡ done ++ (piece ++ rest)
  pub bytes : Appends old new done

left_of_more : (n i k : ℕ) → canon (flat_map (about n) (range_with_len i (suc k))) ≡ canon (about n i) ++ canon (flat_map (about n) (range_with_len (i + 1) k))
left_of_more n i k = canon_of_both (about n i) (flat_map (about n) (range_with_len (i + 1) k))

pub left_step : (n i : ℕ) → i < n → left n i ≡ canon (about n i) ++ left n (i + 1)
unfolding left
left_step n i below =
    let e : n - i ≡ suc (n - (i + 1)) = omega arith in
    ap (λ k. canon (flat_map (about n) (range_with_len i k))) e ∙ left_of_more n i (n - (i + 1))

pub left_none : (n i : ℕ) → n ≤ i → left n i ≡ []
unfolding left
left_none n i over =
    let e : n - i ≡ 0 = omega arith in
    ap (λ k. canon (flat_map (about n) (range_with_len i k))) e

pub all_left : (n : ℕ) → canon (generated n) ≡ left n 0
unfolding left generated
all_left n =
    let e : n ≡ n - 0 = omega arith in
    ap (λ k. canon (flat_map (about n) (range_with_len 0 k))) e

pub writing_begins : (n : ℕ) (old : Option (List ℕ)) (piece : List ℕ) → piece ≡ [] → IsWriting (canon (generated n)) old old piece (left n 0)
writing_begins n old piece e = record { done = []; parts = all_left n ∙ ap (λ l. l ++ left n 0) (sym e); bytes = Appends-none old }

pub person_added : (n i : ℕ) (whole : List ℕ) (old new : Option (List ℕ)) (piece longer : List ℕ) → i < n → longer ≡ piece ++ canon (about n i) → IsWriting whole old new piece (left n i) → IsWriting whole old new longer (left n (i + 1))
person_added n i whole old new piece longer below e w =
    let more : piece ++ left n i ≡ longer ++ left n (i + 1) = ap (λ l. piece ++ l) (left_step n i below) ∙ sym (append_assoc piece (canon (about n i)) (left n (i + 1))) ∙ ap (λ l. l ++ left n (i + 1)) (sym e) in
    record { done = w.done; parts = w.parts ∙ ap (λ l. w.done ++ l) more; bytes = w.bytes }

pub piece_written : (whole : List ℕ) (old new newer : Option (List ℕ)) (piece given rest empty : List ℕ) → empty ≡ [] → given ≡ piece → Appends new newer given → IsWriting whole old new piece rest → IsWriting whole old newer empty rest
piece_written whole old new newer piece given rest empty e same a w = record {
  done = w.done ++ piece;
  parts = w.parts ∙ sym (append_assoc w.done piece rest) ∙ ap (λ l. (w.done ++ piece) ++ (l ++ rest)) (sym e);
  bytes = Appends-then old new newer w.done piece w.bytes (subst (λ (l : List ℕ). Appends new newer l) same a);
}

front_of_piece : (whole : List ℕ) (old new newer : Option (List ℕ)) (piece rest : List ℕ) → AppendsPrefix new newer piece → IsWriting whole old new piece rest → AppendsPrefix old newer whole
front_of_piece whole old new newer piece rest p w =
    let e : piece ++ rest ≡ p.front ++ (p.rest ++ rest) = ap (λ l. l ++ rest) p.whole ∙ append_assoc p.front p.rest rest in
    record {
      front = w.done ++ p.front;
      rest = p.rest ++ rest;
      whole = w.parts ∙ ap (λ l. w.done ++ l) e ∙ sym (append_assoc w.done p.front (p.rest ++ rest));
      bytes = Appends-then old new newer w.done p.front w.bytes p.bytes;
    }

pub front_written : (whole : List ℕ) (old new newer : Option (List ℕ)) (piece given rest : List ℕ) → given ≡ piece → AppendsPrefix new newer given → IsWriting whole old new piece rest → AppendsPrefix old newer whole
front_written whole old new newer piece given rest same p w = front_of_piece whole old new newer piece rest (subst (λ (l : List ℕ). AppendsPrefix new newer l) same p) w

pub whole_written : (n i : ℕ) (whole : List ℕ) (old new newer : Option (List ℕ)) (piece given : List ℕ) → n ≤ i → given ≡ piece → Appends new newer given → IsWriting whole old new piece (left n i) → Appends old newer whole
whole_written n i whole old new newer piece given over same a w =
    let e : whole ≡ w.done ++ piece = w.parts ∙ ap (λ l. w.done ++ (piece ++ l)) (left_none n i over) ∙ ap (λ l. w.done ++ l) (append-nil piece) in
    subst (λ (l : List ℕ). Appends old newer l) (sym e) (Appends-then old new newer w.done piece w.bytes (subst (λ (l : List ℕ). Appends new newer l) same a))

pub nothing_written : (old : Option (List ℕ)) (whole : List ℕ) → AppendsPrefix old old whole
nothing_written old whole = record { front = []; rest = whole; whole = refl; bytes = Appends-none old }

pub front_so_far : (whole : List ℕ) (old new : Option (List ℕ)) (piece rest : List ℕ) → IsWriting whole old new piece rest → AppendsPrefix old new whole
front_so_far whole old new piece rest w = record { front = w.done; rest = piece ++ rest; whole = w.parts; bytes = w.bytes }

-- want of memory is no failure of the sink
pub memory_not_failed : {T : Type 0} → ◌≡◌ {A = Result T Fault} (Err OutOfMemory) (Err Failed) → ⊥
memory_not_failed e = cc

-- what is returned failed where the fault that it hands on is a failure
pub as_err : {T U : Type 0} (r : Result T Fault) (p e : Fault) → r ≡ Err p → p ≡ e → r ≡ Err Failed → ◌≡◌ {A = Result U Fault} (Err e) (Err Failed)
as_err r p e is same h = ap (λ (f : Fault). Err f) (sym same ∙ err_same (sym is ∙ h))
