-- What is built of tokens without a fault is the query that they are.
use Rattle.std.proofs.Common.{ℕ, ◌≡◌, ◌≤◌, Bool, true, false, if◌then◌else◌, List, [], Option, None, sym, ap, subst, ◌∙◌, length}
use Rattle.query_words.specs.declared.word.Word.{Word}
use Rattle.query_words.specs.Words.{kinds_of}
use Rattle.query_grammar.specs.Groups.{IsGroupQuery}
use Rattle.pattern_parser.specs.Names.{variable_numbers}
use Rattle.pattern_parser.specs.Items.{names_after}
use Rattle.pattern_parser.specs.Queries as queries
use Rattle.pattern_parser.specs.Queries.{has_star}
use Rattle.group_query.specs.declared.step.Step.{Step}
use Rattle.group_query.specs.Trees.{Tree, steps_of, tree_of, IsPostfix, TreeFits, GroupData}
use Rattle.group_query.proofs.Trees.{tree_back, is_postfix}
use Rattle.group_faults.specs.declared.limits.TheConstants.{MOST_OPEN}
use Rattle.group_faults.specs.declared.fault.GroupWhy.{GroupWhy}
use Rattle.group_faults.specs.Faults.{group_fault_with, group_fault}
use Rattle.group_parser.specs.Groups.{IsGroup}
use Rattle.group_parser.specs.Walks.{steps_read, names_read}
use Rattle.group_parser.specs.Texts.{has_distinct, IsGroupIn, IsGroupText}
use Rattle.group_parser.specs.Building.{IsProduced}
use Rattle.group_parser.proofs.Walked.{group_read}
use Rattle.group_parser.proofs.Fits.{group_fits}
use Rattle.group_parser.proofs.Texts.{shallow}
use Rattle.group_parser.proofs.Outline.{is_made}

abbrev pub Iri : Type 0
Iri = List ℕ → Option (List ℕ)

-- what the walk gives for tokens that some group has
pub record Built (iri : Iri) (select block : List Word) (steps : List Step) (names : List (List ℕ)) : Type 0 where
  pub postfix : IsPostfix steps
  pub fits : TreeFits (length names) (tree_of steps)
  pub grows : length (names_after [] 0 select) ≤ length names
  pub group : IsGroup iri MOST_OPEN (names_after [] 0 select) block (tree_of steps) names

pub built : (iri : Iri) (select block : List Word) (steps : List Step) (first names : List (List ℕ)) → IsProduced iri select block → first ≡ names_after [] 0 select → steps ≡ steps_read iri first block → names ≡ names_read iri first block → Built iri select block steps names
built iri select block steps first names p f s n =
    let start = names_after [] 0 select in
    let r = group_read MOST_OPEN iri start block p.0 p.1 p.2 in
    let e : steps ≡ steps_of p.0 = s ∙ ap (λ (l : List (List ℕ)). steps_read iri l block) f ∙ r.0 in
    let m : names ≡ p.1 = n ∙ ap (λ (l : List (List ℕ)). names_read iri l block) f ∙ r.1 in
    let t : tree_of steps ≡ p.0 = ap tree_of e ∙ tree_back p.0 in
    let g = group_fits MOST_OPEN iri start block p.0 p.1 p.2 in
    let fits : TreeFits (length names) p.0 = subst (λ (l : List (List ℕ)). TreeFits (length l) p.0) (sym m) g.1 in
    let group : IsGroup iri MOST_OPEN start block p.0 names = subst (λ (l : List (List ℕ)). IsGroup iri MOST_OPEN start block p.0 l) (sym m) p.2 in
    record {
      postfix = subst IsPostfix (sym e) (is_postfix p.0);
      fits = subst (λ (u : Tree). TreeFits (length names) u) (sym t) fits;
      grows = subst (λ (l : List (List ℕ)). length start ≤ length l) (sym m) g.0;
      group = subst (λ (u : Tree). IsGroup iri MOST_OPEN start block u names) (sym t) group;
    }

chosen_is : (b : Bool) (c : Bool) (names start first slice : List (List ℕ)) (numbers selected : List ℕ) → b ≡ c → slice ≡ names → first ≡ start → numbers ≡ variable_numbers 0 first → selected ≡ (if b then variable_numbers 0 slice else numbers) → selected ≡ variable_numbers 0 (if c then names else start)
chosen_is b true names start first slice numbers selected e s f n g =
    g ∙ ap (λ (d : Bool). if d then variable_numbers 0 slice else numbers) e ∙ ap (variable_numbers 0) s
chosen_is b false names start first slice numbers selected e s f n g =
    g ∙ ap (λ (d : Bool). if d then variable_numbers 0 slice else numbers) e ∙ n ∙ ap (variable_numbers 0) f

pub built_query : (iri : Iri) (select block : List Word) (steps : List Step) (names : List (List ℕ)) → Built iri select block steps names → (star distinct : Bool) (first slice : List (List ℕ)) (numbers selected : List ℕ) → star ≡ has_star select → distinct ≡ has_distinct select → slice ≡ names → first ≡ names_after [] 0 select → numbers ≡ variable_numbers 0 first → selected ≡ (if star then variable_numbers 0 slice else numbers) → IsGroupIn iri select block (record { steps = steps; names = names; selected = selected; distinct = distinct })
built_query iri select block steps names b star distinct first slice numbers selected e d s f n g = record {
  group = b.group;
  postfix = b.postfix;
  selected = chosen_is star (has_star select) names (names_after [] 0 select) first slice numbers selected e s f n g;
  distinct = d;
}

-- ---- at the prefixes and the parts of the tokens

pub fault_is : (f : Iri) (ws bs : List Word) (o : Option (GroupWhy × ℕ)) → f ≡ queries.prefixes ws → bs ≡ queries.body ws → group_fault_with f ws bs ≡ o → group_fault ws ≡ o
fault_is f ws bs o e b t =
    ap (λ (g : Iri). group_fault_with g ws (queries.body ws)) (sym e) ∙ ap (λ (l : List Word). group_fault_with f ws l) (sym b) ∙ t

pub produced : (f : Iri) (ws bs select block : List Word) → f ≡ queries.prefixes ws → bs ≡ queries.body ws → select ≡ queries.select_part bs → block ≡ queries.block bs → IsGroupQuery (kinds_of ws) → group_fault ws ≡ None → IsProduced f select block
produced f ws bs select block e b s k q n =
    let m = is_made (queries.prefixes ws) (queries.select_names (queries.body ws)) ws q (shallow ws n) in
    let one : IsProduced (queries.prefixes ws) (queries.select_part (queries.body ws)) (queries.block (queries.body ws)) = m in
    let two : IsProduced (queries.prefixes ws) (queries.select_part bs) (queries.block bs) = subst (λ (l : List Word). IsProduced (queries.prefixes ws) (queries.select_part l) (queries.block l)) (sym b) one in
    let three : IsProduced f (queries.select_part bs) (queries.block bs) = subst (λ (g : Iri). IsProduced g (queries.select_part bs) (queries.block bs)) (sym e) two in
    let four : IsProduced f select (queries.block bs) = subst (λ (l : List Word). IsProduced f l (queries.block bs)) (sym s) three in
    subst (λ (l : List Word). IsProduced f select l) (sym k) four

pub query_is : (f : Iri) (ws bs select block : List Word) (g : GroupData) → f ≡ queries.prefixes ws → bs ≡ queries.body ws → select ≡ queries.select_part bs → block ≡ queries.block bs → IsGroupIn f select block g → IsGroupText (queries.prefixes ws) (queries.body ws) g
query_is f ws bs select block g e b s k h =
    let one : IsGroupIn f (queries.select_part bs) block g = subst (λ (l : List Word). IsGroupIn f l block g) s h in
    let two : IsGroupText f bs g = subst (λ (l : List Word). IsGroupIn f (queries.select_part bs) l g) k one in
    let three : IsGroupText f (queries.body ws) g = subst (λ (l : List Word). IsGroupText f l g) b two in
    subst (λ (i : Iri). IsGroupText i (queries.body ws) g) e three
