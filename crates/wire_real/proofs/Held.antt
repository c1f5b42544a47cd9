-- What a change of one socket does to the accounts of all, and which links are held.
use Rattle.std.proofs.Common.{ℕ, ◌≡◌, ◌<◌, Option, Some, None, option_map, Bool, true, false, nat_eq, nat_lt, if◌then◌else◌, sym, ◌∙◌, ap, refl}
use Rattle.std.proofs.lemmas.Bool.{ne_eqb}
use Rattle.std.specs.HashMap.{HashMap, get, UpdatesBy}
use Rattle.tpf_base.specs.declared.wire.Ready.TheVariants as ready
use Rattle.wire_real.specs.declared.account.Account.{Account}
use Rattle.wire_real.specs.declared.socket.Socket.{Socket}
use Rattle.wire_real.specs.Accounts.{link_at, link_of, closed_link, OthersSame, Woken}
use Rattle.wire_real.specs.Sockets.{accounts}

module _ {S : Type 0} where
  -- the other accounts stay where one key is updated
  pub others_stay : (m n : HashMap ℕ Socket S) (k : ℕ) (w : Option Socket) → UpdatesBy nat_eq (nat_eq k) m n w → OthersSame k (accounts m) (accounts n)
  others_stay m n k w changed = λ j apart. ap (option_map (λ socket. socket.account)) (changed.2 j (ne_eqb k j (λ e. apart (sym e))))

  -- a socket that is woken
  pub woken_one : (m n : HashMap ℕ Socket S) (k given : ℕ) (s w : Socket) → k < given → get nat_eq m k ≡ Some s
      → UpdatesBy nat_eq (nat_eq k) m n (Some w) → w.account ≡ record s.account { woken = true }
      → Woken (ready.Link k) given false (accounts m) (accounts n)
  woken_one m n k given s w is_given found changed is_woken = (
    is_given,
    (
      s.account,
      ap (option_map (λ socket. socket.account)) found,
      ap (option_map (λ socket. socket.account)) changed.1 ∙ ap Some is_woken,
    ),
    others_stay m n k (Some w) changed,
  )

-- a link that is open was given, and its account is held
pub open_is_held : (given k : ℕ) (held : ℕ → Option Account) → (link_at given held k).is_open ≡ true
    → (nat_lt k given ≡ true) × ((account : Account) × (held k ≡ Some account))
open_is_held given k held is_open = by_given (nat_lt k given) (held k) refl refl is_open
  where
    by_held : (one : Option Account) → held k ≡ one → (link_of one).is_open ≡ true → (account : Account) × (held k ≡ Some account)
    by_held None e is_open = cc
    by_held (Some account) e is_open = (account, e)

    by_given : (is_given : Bool) (one : Option Account) → nat_lt k given ≡ is_given → held k ≡ one
        → (if is_given then link_of one else closed_link).is_open ≡ true
        → (nat_lt k given ≡ true) × ((account : Account) × (held k ≡ Some account))
    by_given true one below e is_open = (below, by_held one e is_open)
    by_given false one below e is_open = cc
