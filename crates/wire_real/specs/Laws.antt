-- Serves proofs alone: the laws of a wire that tells counts alone.
use Rattle.std.specs.Prelude.{ℕ, ◌≡◌, ◌≤◌, ◌<◌, Option, Some, None, Bool, true, false, nat_lt, if◌then◌else◌}
use Rattle.std.proofs.Common.{refl, sym, ◌∙◌, ap}
use Rattle.std.proofs.lemmas.Bool.{le-ltb}
use Rattle.std.proofs.lemmas.Option.{none-some}
use Rattle.tpf_base.specs.declared.wire.TheConstants.{MOST_IDLE}
use Rattle.tpf_base.specs.Links.{TellsCounts, IsToldBy, ReceivesOwed, OwesAllowed, CountsAlone}
use Rattle.wire_real.specs.declared.account.Account.{Account}
use Rattle.wire_real.specs.Accounts.{closed_link, link_of, link_at}

-- an open link and a closed one tell nothing
abbrev pub of_counts : (is_given : Bool) (held : Option Account) → TellsCounts (if is_given then link_of held else closed_link)
of_counts true None = record { peer = refl; sent = refl; received = refl; owed = refl; ended = refl }
of_counts true (Some account) = record { peer = refl; sent = refl; received = refl; owed = refl; ended = refl }
of_counts false held = record { peer = refl; sent = refl; received = refl; owed = refl; ended = refl }

pub counts_told : (given : ℕ) (held : ℕ → Option Account) (k : ℕ) → IsToldBy CountsAlone (link_at given held k)
counts_told given held k = of_counts (nat_lt k given) (held k)

pub gives_first : (given : ℕ) (held : ℕ → Option Account) (k : ℕ) → given ≤ k → (link_at given held k).is_open ≡ false
gives_first given held k beyond = ap (λ is_given. (if is_given then link_of (held k) else closed_link).is_open) (le-ltb k given beyond)

pub receives_none : (given : ℕ) (held : ℕ → Option Account) (k : ℕ) → ReceivesOwed (link_at given held k)
receives_none given held k received owed is_received is_owed =
    absurd (none-some received (sym (of_counts (nat_lt k given) (held k)).received ∙ is_received))

pub owes_none : (given : ℕ) (held : ℕ → Option Account) (k : ℕ) → OwesAllowed (λ host port sent owed. ⊥) (link_at given held k)
owes_none given held k host port sent owed is_peer is_sent is_owed =
    absurd (none-some sent (sym (of_counts (nat_lt k given) (held k)).sent ∙ is_sent))

pub never_lively : (idle : ℕ) → false ≡ true → idle < MOST_IDLE
never_lively idle lively = cc
