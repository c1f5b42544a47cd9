-- What is read of a server fits: over one version, and over each where there is but one.
use Rattle.std.proofs.Common.{ℕ, ◌≡◌, ◌≤◌, Bool, true, false, if◌then◌else◌, List, [], length, subst}
use Rattle.std.specs.List.{AllByRecursion}
use Rattle.std.proofs.lemmas.Bool.{eqb-true}
use Rattle.tpf_base.specs.Addresses.{Address}
use Rattle.tpf_base.specs.Marks.{Served}
use Rattle.template_fill.specs.Answered.{address_answer}
use Rattle.control_reader.specs.Takes.{Takes}
use Rattle.plan_laws.specs.Fitting.{IsRead}
use Rattle.tpf_client.specs.Offers.{Publisher, IsVersionOf}
use Rattle.tpf_client.specs.Plans.{IsAnswerable, IsReadByAll, IsSmallByAll, IsFit, IsFitAt, answer_at}

-- what holds of all addresses holds of those that are asked for
pub where_asked : (P : Address → Type 0) (b : Bool) (list : List Address) → AllByRecursion P list → AllByRecursion P (if b then list else [])
where_asked P true list h = h
where_asked P false list h = tt

-- what is read is fit where its body is small
pub fit_at : (most : ℕ) (p : Publisher) (version : ℕ) (address : Address) → IsRead p.history (Served version) p.config address → length (answer_at p version address).body ≤ most → IsFitAt most p version address
fit_at most p version address r small = record {
  is_answered = record { short = r.short; answered = eqb-true (answer_at p version address).status 200 r.answered };
  page = r.page;
  is_read = r.taken;
  is_small = small;
}

module _ (p : Publisher) (only : (version : ℕ) → IsVersionOf p.history version → 1 ≡ version) where
  abbrev Reads : Address → Type 0
  Reads = IsRead p.history (Served 1) p.config

  status_at : (address : Address) → Reads address → (version : ℕ) → 1 ≡ version → (answer_at p version address).status ≡ 200
  status_at address r version is = subst (λ (v : ℕ). (answer_at p v address).status ≡ 200) is (eqb-true (address_answer p.history (Served 1) p.config address).status 200 r.answered)

  pub answered_of : (address : Address) → IsRead p.history (Served 1) p.config address → IsAnswerable p address
  answered_of address r = record { short = r.short; answered = λ version low high. status_at address r version (only version (record { low = low; high = high })) }

  pub read_by_all : (address : Address) → IsRead p.history (Served 1) p.config address → IsReadByAll p address
  read_by_all address r = λ version is status. (r.page, subst (λ (v : ℕ). Takes (answer_at p v address).body address r.page) (only version is) r.taken)

  pub fit_of : (most : ℕ) (address : Address) → IsRead p.history (Served 1) p.config address → IsSmallByAll most p address → IsFit most p address
  fit_of most address r small = record { is_answered = answered_of address r; is_read = read_by_all address r; is_small = small }
