-- What is said of a page, over texts in place of addresses.
use Rattle.std.proofs.Common.{◌≡◌, ℕ, ◌+◌, ◌-◌, nat_lt, ◌++◌, refl}
use Rattle.std.specs.Prelude.{codes}
use Rattle.rdf_terms.specs.Selections.{Selection}
use Rattle.rdf_terms.specs.Fragments.{last_page_of}
use Rattle.tpf_base.specs.Addresses.{address_text}
use Rattle.template_fill.specs.Pages.{page_address, template_text}
use Rattle.template_fill.specs.Metadata.{Config, metadata_at, page_addresses, page_metadata}
pub use Rattle.own_controls.specs.Metadata.{Parts}
unfoldable pub use Rattle.own_controls.specs.Metadata.{metadata}

unfoldable pub parts_for : Config → Selection → ℕ → ℕ → ℕ → Parts
parts_for config s k count version = record {
  graph = page_address config.base s k ++ codes "#metadata";
  page = page_address config.base s k;
  first = page_address config.base s 1;
  base = address_text config.base;
  template = template_text config.base;
  next = page_address config.base s (k + 1);
  previous = page_address config.base s (k - 1);
  count = count;
  version = version;
}

pub metadata_is : (config : Config) (s : Selection) (k count version : ℕ) → page_metadata config s k count version ≡ metadata (nat_lt k (last_page_of count config.page_size)) (nat_lt 1 k) (parts_for config s k count version)
unfolding page_metadata metadata_at page_addresses metadata parts_for
metadata_is config s k count version = refl
