-- Files by their place, and numbers given one after another.
use Rattle.std.proofs.Common.{ℕ, zero, suc, ◌≡◌, ◌<◌, Bool, true, List, [], ◌∷◌, ◌++◌, length, get_or, drop, Some, Option, slice_get, option_and_then, refl, subst, length-append, ap, sym, ◌∙◌, arith, Ok}
use Rattle.std.proofs.Math.Seq.{drop-cons}
use Rattle.std.specs.Str.{bytes_eq}
use Rattle.memory_outside.specs.Memory.{shelf_of}
use Rattle.tpf_base.specs.Failures.{CallCounts, spares_calls}
use Rattle.tpf_base.specs.Outside.{content_of, Finds, FindsFile}
use Rattle.memory_outside.specs.declared.mem_shelf.Opened.{Opened}

pub content_at : (files : List (List ℕ × List ℕ)) (name : List ℕ) (i : ℕ) (file : List ℕ × List ℕ) → i < length files → file ≡ get_or files i file → bytes_eq file.0 name ≡ true → content_of (drop i files) name ≡ Some file.1
content_at files name i file h e same =
    let next : drop i files ≡ file ∷ drop (suc i) files = drop-cons files i file h ∙ ap (λ f. f ∷ drop (suc i) files) (sym e) in
    rw (next, same) refl

pub slice_get-push : {A : Type 0} (xs : List A) (x : A) → slice_get (xs ++ x ∷ []) (length xs) ≡ Some x
slice_get-push [] x = refl
slice_get-push (y ∷ ys) x = slice_get-push ys x

pub slice_get-push_other : {A : Type 0} (xs : List A) (x : A) (k : ℕ) → k < length xs → slice_get (xs ++ x ∷ []) k ≡ slice_get xs k
slice_get-push_other [] x k h = absurd (omega arith)
slice_get-push_other (y ∷ ys) x zero h = refl
slice_get-push_other (y ∷ ys) x (suc k) h = slice_get-push_other ys x k (omega arith)

-- what a find leaves, once a number was given for a place
pub finds_push : (files : List (List ℕ × List ℕ)) (name : List ℕ) (opened : List Opened) (which : ℕ) (file : List ℕ × List ℕ)
    (asked asked' : List (List ℕ)) (faults faults' : ℕ) (faultless faultless' : Bool)
    → slice_get files which ≡ Some file → content_of files name ≡ Some file.1
    → Finds name (shelf_of files opened asked faults faultless) (shelf_of files (opened ++ record { which = which; at = 0 } ∷ []) asked' faults' faultless') (length opened)
finds_push files name opened which file asked asked' faults faults' faultless faultless' at_place content = record {
  number = refl;
  more = simp length-append;
  front = λ told same.
      let content_told : content_of told name ≡ Some file.1 = subst (λ (o : Option (List (List ℕ × List ℕ))). option_and_then (λ fs. content_of fs name) o ≡ Some file.1) same content in
      let new : slice_get (opened ++ record { which = which; at = 0 } ∷ []) (length opened) ≡ Some (record { which = which; at = 0 }) = slice_get-push opened _ in
      (file.1, content_told, rw (new, at_place) refl);
  others = λ k h. rw (slice_get-push_other opened _ k h) refl;
}

pub finds_by : (files files' : List (List ℕ × List ℕ)) (name : List ℕ) (opened opened' : List Opened) (which number : ℕ) (file : List ℕ × List ℕ)
    (asked asked' : List (List ℕ)) (faults faults' : ℕ) (faultless faultless' : Bool)
    → files' ≡ files → opened' ≡ opened ++ record { which = which; at = 0 } ∷ [] → number ≡ length opened
    → slice_get files' which ≡ Some file → content_of files' name ≡ Some file.1
    → Finds name (shelf_of files opened asked faults faultless) (shelf_of files' opened' asked' faults' faultless') number
finds_by files files' name opened opened' which number file asked asked' faults faults' faultless faultless' same pushed is place content =
    rw (pushed, same, is) (finds_push files name opened which file asked asked' faults faults' faultless faultless' (rw (← same) place) (rw (← same) content))

-- a find that gave a number
pub finds_file : (files files' : List (List ℕ × List ℕ)) (name : List ℕ) (opened opened' : List Opened) (which number : ℕ) (file : List ℕ × List ℕ)
    (asked asked' : List (List ℕ)) (counts counts' : CallCounts) (calls : ℕ)
    → files' ≡ files → opened' ≡ opened ++ record { which = which; at = 0 } ∷ [] → number ≡ length opened
    → slice_get files' which ≡ Some file → content_of files' name ≡ Some file.1
    → asked' ≡ asked ++ name ∷ [] → counts' ≡ record counts { calls = calls }
    → FindsFile name (shelf_of files opened asked counts.faults (spares_calls counts.failing))
    (shelf_of files' opened' asked' counts'.faults (spares_calls counts'.failing)) (Ok number)
finds_file files files' name opened opened' which number file asked asked' counts counts' calls same pushed is place content noted counted =
    let faults : counts'.faults ≡ counts.faults = ap (λ (c : CallCounts). c.faults) counted in
    let faultless : spares_calls counts'.failing ≡ spares_calls counts.failing = ap (λ (c : CallCounts). spares_calls c.failing) counted in record {
      found = noted;
      ok = finds_by files files' name opened opened' which number file asked asked' _ _ _ _ same pushed is place content;
      err = tt;
      told = ap Some same;
      cause = record { later = omega (arith, faults); success = faults; failed = λ failed. absurd cc; memory = λ memory. absurd cc };
      faultless = faultless;
      holds = λ spares held few. record { same = faults; answer = λ failed. cc };
    }
