-- What a connection answers after it refused a reload, was fed, or was made to answer.
use Rattle.std.proofs.Common.{ℕ, ◌≡◌, List, [], ◌∷◌, ◌++◌, refl, ap, sym, subst, ◌∙◌}
use Rattle.std.specs.List.{AllByRecursion}
use Rattle.std.proofs.lemmas.List.{append-nil}
use Rattle.list_laws.proofs.Each.{all_so, all_append}
use Rattle.tpf_base.specs.Marks.{Mark, Served, Failed}
use Rattle.connections.specs.declared.reloaded.Reloaded.TheVariants as outcomes
use Rattle.connections.specs.Kinds.{Kind, AreServed, Feeds, Fills, Reloads}
use Rattle.connections.specs.Versions.{Serving}
use Rattle.loop_wire.specs.Response.{IsOf, Continues, Stays}

-- marks of a version that is served are of it
served_of : (version : ℕ) (mark : Mark) → mark ≡ Served version → IsOf version mark
served_of version mark is = rw (is) refl

all_of : (version : ℕ) (marks : List Mark) → AreServed version marks → AllByRecursion (IsOf version) marks
all_of version marks served = all_so (λ (mark : Mark). mark ≡ Served version) (IsOf version) (served_of version) marks served

module _ {C Data Settings : Type 0} (kind : Kind C Data Settings) (serving : Serving Data Settings) where
  -- a reload was refused
  pub refused_behind : (a b c : C) → Stays kind serving a b → Reloads kind serving outcomes.Failed b c → Stays kind serving a c
  refused_behind a b c stays reloads = λ history fed taken past answering.
      let now = stays history fed taken past answering in
      let reads = reloads.reads history fed taken now.marks past now.answers in
      let marks : List Mark = now.marks ++ (Failed serving.version ∷ reads.later) in
      record {
        marks = marks;
        answers = subst (λ (bytes : List ℕ). kind.Answers history serving.config bytes taken marks c) (append-nil fed) reads.answers;
        versions = all_append (IsOf serving.version) now.marks (Failed serving.version ∷ reads.later) now.versions (refl, all_of serving.version reads.later reads.served);
        numbers = ap (λ (bytes : List ℕ). kind.reloads serving.config bytes marks) (sym (append-nil fed)) ∙ reads.numbers ∙ append-nil (kind.reloads serving.config fed now.marks) ∙ now.numbers;
      }

  -- bytes were fed
  pub fed_behind : (piece : List ℕ) (a b c : C) → Stays kind serving a b → Feeds kind serving piece b c → Continues kind serving piece [] a c
  fed_behind piece a b c stays feeds = λ history fed taken past answering.
      let now = stays history fed taken past answering in
      let reads = feeds.reads history fed taken now.marks past now.answers in
      let marks : List Mark = now.marks ++ reads.later in
      record {
        marks = marks;
        answers = subst (λ (sent : List ℕ). kind.Answers history serving.config (fed ++ piece) sent marks c) (sym (append-nil taken)) reads.answers;
        versions = all_append (IsOf serving.version) now.marks reads.later now.versions (all_of serving.version reads.later reads.served);
        numbers = reads.numbers ∙ append-nil (kind.reloads serving.config fed now.marks) ∙ now.numbers;
      }

  -- further bytes of the response were made
  pub filled_behind : (a b c : C) → Stays kind serving a b → Fills kind serving b c → Stays kind serving a c
  filled_behind a b c stays fills = λ history fed taken past answering.
      let now = stays history fed taken past answering in
      record { marks = now.marks; answers = fills.answers history fed taken now.marks now.answers; versions = now.versions; numbers = now.numbers }
