-- Blocks that gave their rows, one after another.
use Rattle.std.proofs.Common.{ℕ, ◌≡◌, ◌+◌, ◌-◌, ◌⊎◌, ◌++◌, inl, inr, List, [], ◌∷◌, length, None, refl, sym, ap, subst, ◌∙◌, arith}
use Rattle.std.specs.List.{AllByRecursion}
use Rattle.list_laws.proofs.Each.{all_more}
use Rattle.tpf_base.specs.Addresses.{Address}
use Rattle.tpf_base.specs.Links.{WireState}
use Rattle.bgp_core.specs.declared.pattern.Pattern.{Pattern}
use Rattle.bgp_core.specs.Solutions.{Places}
use Rattle.row_algebra.specs.Algebra.{HaveWidth}
use Rattle.group_query.specs.Trees.{block_query}
use Rattle.tpf_client.specs.declared.options.Options.{Options}
use Rattle.group_patterns.specs.Blocks.{BlockRows, rows_of, requests_of, version_told, TellOneVersion, with_budget, GivesRows, GivesAll}
use Rattle.group_patterns.specs.Asking.{Progress, IsProgress, Keeps}

-- ---- lists of blocks

pub rows-more : (bs : List BlockRows) (b : BlockRows) → rows_of (bs ++ b ∷ []) ≡ rows_of bs ++ b.rows ∷ []
rows-more [] b = refl
rows-more (x ∷ bs) b = ap (λ (l : List (List Places)). x.rows ∷ l) (rows-more bs b)

pub requests-more : (bs : List BlockRows) (b : BlockRows) → requests_of (bs ++ b ∷ []) ≡ requests_of bs + b.report.requests
requests-more [] b = let n = b.report.requests in let e : n + 0 ≡ 0 + n = omega arith in e
requests-more (x ∷ bs) b = let h = requests-more bs b in omega (arith, h)

pub none-rows : (bs : List BlockRows) → rows_of bs ≡ [] → bs ≡ []
none-rows [] e = refl
none-rows (b ∷ bs) e = cc

-- a block behind others that told its version
pub told-more : (bs : List BlockRows) (b : BlockRows) → TellOneVersion bs → (bs ≡ []) ⊎ (version_told bs ≡ b.report.version)
    → TellOneVersion (bs ++ b ∷ []) × (version_told (bs ++ b ∷ []) ≡ b.report.version)
told-more [] b t h = ((refl, tt), refl)
told-more (x ∷ bs) b t (inl e) = cc
told-more (x ∷ bs) b t (inr e) = (all_more (λ (y : BlockRows). y.report.version ≡ x.report.version) (x ∷ bs) b t (sym e), e)

-- ---- what they came to

pub no-block : (budget : ℕ) (p : Progress) → p ≡ record { rows = []; left = budget; version = None } → IsProgress budget [] p
no-block budget p e = record {
  rows_are = ap (λ (x : Progress). x.rows) e;
  left_is = let h = ap (λ (x : Progress). x.left) e in omega (arith, h);
  version_is = ap (λ (x : Progress). x.version) e;
  one_version = tt;
}

-- it is the first one, or it told the version of the others
pub first-or-same : (budget : ℕ) (bs : List BlockRows) (b : BlockRows) (p : Progress) → IsProgress budget bs p → (p.rows ≡ []) ⊎ (p.version ≡ b.report.version) → (bs ≡ []) ⊎ (version_told bs ≡ b.report.version)
first-or-same budget bs b p i (inl e) = inl (none-rows bs (sym i.rows_are ∙ e))
first-or-same budget bs b p i (inr e) = inr (sym i.version_is ∙ e)

pub kept-more : (budget : ℕ) (bs : List BlockRows) (b : BlockRows) (p p' : Progress) → IsProgress budget bs p → Keeps b p p' → IsProgress budget (bs ++ b ∷ []) p'
kept-more budget bs b p p' i k =
    let t = told-more bs b i.one_version (first-or-same budget bs b p i k.same) in
    record {
      rows_are = k.rows ∙ (ap (λ (l : List (List Places)). l ++ b.rows ∷ []) i.rows_are ∙ sym (rows-more bs b));
      left_is = let a = k.left in let c = i.left_is in let d = requests-more bs b in omega (arith, a, c, d);
      version_is = k.version ∙ sym t.1;
      one_version = t.0;
    }

-- ---- the calls

module _ (allows : List ℕ → ℕ → List ℕ → List ℕ → Type 0) (options : Options) (start : Address) (names : List (List ℕ)) where
  pub gives-none : (left : ℕ) (w : WireState) → GivesAll allows options start names left [] [] w w
  gives-none left w = refl

  -- one block more, with what the others left
  pub gives-more : (left : ℕ) (pss : List (List Pattern)) (bs : List BlockRows) (ps : List Pattern) (b : BlockRows) (m : ℕ) (u v w : WireState)
      → GivesAll allows options start names left pss bs u v → m + requests_of bs ≡ left → GivesRows allows (with_budget options m) start (block_query names ps) b v w
      → GivesAll allows options start names left (pss ++ ps ∷ []) (bs ++ b ∷ []) u w
  gives-more left [] [] ps b m u v w g e r =
      let is : m ≡ left = omega (arith, e) in
      (w, subst (λ (x : WireState). GivesRows allows (with_budget options left) start (block_query names ps) b x w) g (subst (λ (n : ℕ). GivesRows allows (with_budget options n) start (block_query names ps) b v w) is r), refl)
  gives-more left [] (x ∷ bs) ps b m u v w g e r = absurd g
  gives-more left (qs ∷ pss) [] ps b m u v w g e r = absurd g
  gives-more left (qs ∷ pss) (x ∷ bs) ps b m u v w g e r =
      (g.0, g.1, gives-more (left - x.report.requests) pss bs ps b m g.0 v w g.2 (omega (arith, e)) r)

  -- the rows have a place for every name
  pub widths : (left : ℕ) (pss : List (List Pattern)) (bs : List BlockRows) (u w : WireState) → GivesAll allows options start names left pss bs u w → AllByRecursion (HaveWidth (length names)) (rows_of bs)
  widths left [] [] u w g = tt
  widths left [] (b ∷ bs) u w g = absurd g
  widths left (ps ∷ pss) [] u w g = absurd g
  widths left (ps ∷ pss) (b ∷ bs) u w g = (g.1.width, widths (left - b.report.requests) pss bs g.0 w g.2)
