-- A body that ends with the lines that a page of tpf's own server ends with.
use Rattle.std.specs.Prelude.{ℕ, ◌≡◌, ◌≤◌, Bool, List, ◌++◌, length, is_some, IfSome}
use Rattle.rdf_terms.specs.Canon.{canon}
use Rattle.rdf_terms.specs.declared.limits.TheConstants.{LONGEST_READ}
use Rattle.tpf_base.specs.declared.limits.TheConstants.{HIGHEST_NUMBER}
use Rattle.own_controls.specs.Metadata.{Parts, metadata}
use Rattle.own_controls.specs.Safe.{HasSafeTexts}
use Rattle.own_controls.specs.Lines.{EndsLine}
use Rattle.own_controls.specs.declared.own.OwnControls.{OwnControls}

-- what the lines were made of, for the page with this text, is what was found
pub record IsOwn (bytes text : List ℕ) (own : OwnControls) : Type 0 where
  pub parts : Parts
  pub back : Bool
  pub body_is : bytes ≡ own.front.now ++ canon (metadata (is_some own.next) back parts)
  pub front : EndsLine own.front.now
  pub page : parts.page ≡ text
  pub template : parts.template ≡ own.template.now
  pub next : IfSome own.next (λ next. parts.next ≡ next.now)
  pub count : parts.count ≡ own.count
  pub few : parts.count ≤ HIGHEST_NUMBER
  pub version : parts.version ≡ own.version
  pub early : parts.version ≤ HIGHEST_NUMBER
  pub safe : HasSafeTexts parts
  pub short : length (canon (metadata (is_some own.next) back parts)) ≤ LONGEST_READ
