use Rattle.std.proofs.Common.{ℕ, ◌≡◌, List, [], Bor, sym, ◌∙◌, Err}
use Rattle.std.specs.Result.{IsErrOf}
use Rattle.std.proofs.lemmas.List.{length-map, get_or-map}
use Rattle.triple_table.specs.declared.data_set.BuildFault.TheVariants.{GenidClash}
use Rattle.triple_table.proofs.Clashes.{no_clashes, least_clash}
use Rattle.triple_table.proofs.data_set.refuse_first.Goals as goal

same_label : (x label : List ℕ) → IsErrOf {T = Unit {0}} (Err (GenidClash x)) (GenidClash label) → x ≡ label
same_label x label e = cc

pub returns-then-first-labels-clause-clash : goal.returns-then-first-labels-clause-clash
returns-then-first-labels-clause-clash c = λ label h.
    least_clash _ _ _ _ c.requires.ascending c.requires.members c.first_clash-first.ensures label
    (simp length-map c.if-first-labels.true)
    (get_or-map (λ (t : Bor (List ℕ)). t.now) c.args.labels.now c.first_clash-first.result _ [] c.if-first-labels.true
    ∙ sym c.in_ok-copy.ensures ∙ same_label _ label h)

pub returns-clause-free : goal.returns-clause-free
returns-clause-free c = no_clashes _ _ _ _ c.requires.ascending c.requires.members c.first_clash-first.ensures (simp length-map c.if-first-labels.false)
