-- What parts of a call that follow one another did for their addresses, said of the addresses of both.
use Rattle.std.proofs.Common.{ℕ, ◌≡◌, ◌≤◌, ◌<◌, ◌+◌, ◌*◌, ◌⊎◌, ◌++◌, inl, inr, Bool, true, List, [], length, count_by, refl, sym, ap, subst, ◌∙◌, arith, append_assoc, length-append}
use Rattle.std.specs.List.{Contains}
use Rattle.std.specs.List.Sorted.{IsPermutation}
use Rattle.std.proofs.Math.Nat.{mul-add}
use Rattle.std.proofs.lemmas.Bool.{cases_lt}
use Rattle.std.proofs.lemmas.List.Elements.{Contains-append_left, Contains-append_right}
use Rattle.std.proofs.lemmas.List.Sorted.{IsPermutation-refl, IsPermutation-trans, IsPermutation-append, IsPermutation-append_left, IsPermutation-append_right, IsPermutation-append_comm}
use Rattle.list_laws.proofs.Each.{all_so}
use Rattle.list_laws.proofs.Lists.{count_append}
use Rattle.tpf_base.specs.Addresses.{Address}
use Rattle.tpf_base.specs.Causes.{Rose, RoseBy}
use Rattle.tpf_base.specs.Links.{Link, WireState, Nature}
use Rattle.pool_laws.specs.Failing.{FailsBy, ended_links, times_ended}
use Rattle.pool_laws.specs.Requested.{LinkRequests, NoneWhole, TellsRequests, SentByRises, whole_requests, whole_answers, count_sent, count_answered, any}
use Rattle.pool_laws.specs.Sending.{IsPart, Nothing, FrontOf, SendsFor}
use Rattle.pool_laws.proofs.RequestLaws.{none_given}
use Rattle.tpf_client.specs.declared.options.Options.{Options}
use Rattle.tpf_client.specs.Failing.{Spends}
use Rattle.tpf_client.specs.Plans.{SendsOnly}
use Rattle.tpf_client.specs.Requests.{DialsAtMost, tries_of}
use Rattle.group_patterns.proofs.LinkCounts.{rose-none, rose-later, rose-both, quiet-before, quiet-behind, over-parts, joined, joined-before, joined-behind, counted-parts}
use Rattle.group_patterns.proofs.Wires.{Onward, not-both, onward-none, stays-closed}

-- ---- what was done for addresses

-- the requests on the links of a part, where the wire tells them
abbrev pub Tells : ℕ → (ℕ → LinkRequests) → WireState → WireState → Type 0
Tells limit on since now = (k : ℕ) → since.given ≤ k → k < now.given → TellsRequests limit (now.links k) (on k)

-- Of these addresses none was requested more often than it stands among them, each time as often as it may be tried; over a lively wire there are no more requests in all than addresses and rises of the faults.
pub record RequestedFor (options : Options) (addresses : List Address) (since now : WireState) : Type 0 where
  pub on : ℕ → LinkRequests
  pub told : Tells options.max_body on since now
  pub few : (test : Address → Bool) → count_sent test on since now ≤ (options.retries + 1) * count_by test addresses
  pub rises : since.nature.lively ≡ true → SentByRises since.faults (length addresses) (count_sent any on since now) now.faults

-- Only for some of these addresses requests were sent, each was requested so often, and so often was dialled.
pub record DoneFor (options : Options) (addresses : List Address) (since now : WireState) : Type 0 where
  pub asked : List Address
  pub rest : List Address
  pub plan_is : IsPermutation addresses (asked ++ rest)
  pub sent : SendsOnly asked since now
  pub requested : RequestedFor options addresses since now
  pub tries : DialsAtMost (tries_of options addresses) since now

-- as many requests as addresses, or more, and no more than these and the rises of the faults
pub record PacesOf (addresses requests : ℕ) (since now : WireState) : Type 0 where
  pub rises : ℕ
  pub rose : RoseBy rises since.faults now.faults
  pub few : requests ≤ addresses + rises
  pub exact : (Rose since.faults now.faults → ⊥) → requests ≡ addresses

-- Each of these addresses was answered as often as it stands among them.
pub record RepliedFor (options : Options) (addresses : List Address) (since now : WireState) : Type 0 where
  pub on : ℕ → LinkRequests
  pub told : Tells options.max_body on since now
  pub few : (test : Address → Bool) → count_sent test on since now ≤ (options.retries + 1) * count_by test addresses
  pub answered : (test : Address → Bool) → count_by test addresses ≤ count_answered test on since now
  pub exact : since.nature.lively ≡ true → (Rose since.faults now.faults → ⊥) → (test : Address → Bool) → count_sent test on since now ≡ count_by test addresses

-- They were, by so many requests.
pub record AnsweredFor (options : Options) (addresses : List Address) (requests : ℕ) (since now : WireState) : Type 0 where
  pub replied : RepliedFor options addresses since now
  pub each : length addresses ≤ requests
  pub most : requests ≤ tries_of options addresses
  pub paced : since.nature.lively ≡ true → PacesOf (length addresses) requests since now

-- ---- nothing

no-more : (n m : ℕ) → n ≡ 0 → n ≤ m
no-more n m e = omega (arith, e)

-- no requests
abbrev pub none-on : ℕ → LinkRequests
none-on k = record { answered = []; last = NoneWhole }

pub none-told : (limit : ℕ) (on : ℕ → LinkRequests) (w : WireState) → Tells limit on w w
none-told limit on w k l h = absurd (not-both k w.given l h)

-- nothing was done for these
pub done-nothing : (options : Options) (addresses : List Address) (w : WireState) → DoneFor options addresses w w
done-nothing options addresses w = record {
  asked = [];
  rest = addresses;
  plan_is = IsPermutation-refl addresses;
  sent = λ k l h. absurd (not-both k w.given l h);
  requested = record {
    on = none-on;
    told = none-told options.max_body none-on w;
    few = λ test. no-more (count_sent test none-on w w) ((options.retries + 1) * count_by test addresses) (none_given (λ k. count_by test (whole_requests (none-on k))) w.given);
    rises = λ alive. record {
      failures = 0;
      all = rose-none w.faults;
      few = no-more (count_sent any none-on w w) (length addresses + 0) (none_given (λ k. count_by any (whole_requests (none-on k))) w.given);
    };
  };
  tries = let n = w.dials in omega arith;
}

pub answered-nothing : (options : Options) (w : WireState) → AnsweredFor options [] 0 w w
answered-nothing options w = record {
  replied = record {
    on = none-on;
    told = none-told options.max_body none-on w;
    few = λ test. no-more (count_sent test none-on w w) ((options.retries + 1) * count_by test []) (none_given (λ k. count_by test (whole_requests (none-on k))) w.given);
    answered = λ test. omega arith;
    exact = λ alive quiet test. let none = none_given (λ k. count_by test (whole_requests (none-on k))) w.given in omega (arith, none);
  };
  each = omega arith;
  most = omega arith;
  paced = λ alive. record { rises = 0; rose = rose-none w.faults; few = omega arith; exact = λ quiet. refl };
}

pub spends-nothing : (limit : ℕ) (w : WireState) → Spends limit 0 w w
spends-nothing limit w = record { on = none-on; told = none-told limit none-on w; rises = 0; rose = rose-none w.faults; answered = omega arith; sent = omega arith }

-- ---- lists

swap-middle : (b c d : List Address) → IsPermutation (b ++ (c ++ d)) (c ++ (b ++ d))
swap-middle b c d =
    subst (λ (l : List Address). IsPermutation l (c ++ (b ++ d))) (append_assoc b c d)
    (subst (λ (l : List Address). IsPermutation ((b ++ c) ++ d) l) (append_assoc c b d) (IsPermutation-append_left d (b ++ c) (c ++ b) (IsPermutation-append_comm b c)))

crossed : (a b c d : List Address) → IsPermutation ((a ++ b) ++ (c ++ d)) ((a ++ c) ++ (b ++ d))
crossed a b c d =
    subst (λ (l : List Address). IsPermutation l ((a ++ c) ++ (b ++ d))) (sym (append_assoc a b (c ++ d)))
    (subst (λ (l : List Address). IsPermutation (a ++ (b ++ (c ++ d))) l) (sym (append_assoc a c (b ++ d))) (IsPermutation-append_right a (b ++ (c ++ d)) (c ++ (b ++ d)) (swap-middle b c d)))

asked-both : (xs ys asked asked' rest rest' : List Address) → IsPermutation xs (asked ++ rest) → IsPermutation ys (asked' ++ rest') → IsPermutation (xs ++ ys) ((asked ++ asked') ++ (rest ++ rest'))
asked-both xs ys asked asked' rest rest' p q =
    IsPermutation-trans (xs ++ ys) ((asked ++ rest) ++ (asked' ++ rest')) ((asked ++ asked') ++ (rest ++ rest')) (IsPermutation-append xs (asked ++ rest) ys (asked' ++ rest') p q) (crossed asked rest asked' rest')

part-of : (xs ys : List Address) → ((x : Address) → Contains xs x → Contains ys x) → (part : List ℕ) → IsPart (Contains xs) part → IsPart (Contains ys) part
part-of xs ys among part (Nothing e) = Nothing e
part-of xs ys among part (FrontOf address is front) = FrontOf address (among address is) front

sends-of : (xs ys : List Address) → ((x : Address) → Contains xs x → Contains ys x) → (link : Link) → SendsFor (Contains xs) link → SendsFor (Contains ys) link
sends-of xs ys among link s = record {
  whole = s.whole;
  are_asked = all_so (Contains xs) (Contains ys) among s.whole s.are_asked;
  part = s.part;
  is_part = part-of xs ys among s.part s.is_part;
  sent_is = s.sent_is;
}

-- no more of both, where there are no more of each
few-both : (k : ℕ) (test : Address → Bool) (xs ys : List Address) (n m all : ℕ) → n ≤ k * count_by test xs → m ≤ k * count_by test ys → all ≡ n + m → all ≤ k * count_by test (xs ++ ys)
few-both k test xs ys n m all f g e =
    let both : k * count_by test (xs ++ ys) ≡ k * count_by test xs + k * count_by test ys = ap (λ (c : ℕ). k * c) (count_append test xs ys) ∙ mul-add k (count_by test xs) (count_by test ys) in
    omega (arith, f, g, e, both)

pub tries-both : (options : Options) (xs ys : List Address) → tries_of options (xs ++ ys) ≡ tries_of options xs + tries_of options ys
tries-both options xs ys = ap (λ (n : ℕ). (options.retries + 1) * n) (length-append xs ys) ∙ mul-add (options.retries + 1) (length xs) (length ys)

at-most-both : (before mid now n m all : ℕ) → mid ≤ before + n → now ≤ mid + m → all ≡ n + m → now ≤ before + all
at-most-both before mid now n m all f g e = omega (arith, f, g, e)

-- ---- two parts

module _ (start : Address) (m n : ℕ) (a b c : WireState) (p : Onward start m a b) (q : Onward start n b c) where
  -- a link of the first part is as it was
  kept : (k : ℕ) → a.given ≤ k → k < b.given → b.links k ≡ c.links k
  kept k l h = sym (stays-closed (b.links k) (c.links k) (q.others k h) (p.closed k l h))

  still-lively : a.nature.lively ≡ true → b.nature.lively ≡ true
  still-lively alive = ap (λ (x : Nature). x.lively) p.moves.nature ∙ alive

  sends-both : (xs ys : List Address) → SendsOnly xs a b → SendsOnly ys b c → SendsOnly (xs ++ ys) a c
  sends-both xs ys s t k l h = by (cases_lt k b.given)
    where
      by : (k < b.given) ⊎ (b.given ≤ k) → SendsFor (Contains (xs ++ ys)) (c.links k)
      by (inl below) = subst (λ (link : Link). SendsFor (Contains (xs ++ ys)) link) (kept k l below) (sends-of xs (xs ++ ys) (Contains-append_left xs ys) (b.links k) (s k l below))
      by (inr past) = sends-of ys (xs ++ ys) (Contains-append_right xs ys) (c.links k) (t k past h)

  tells-both : (limit : ℕ) (one other : ℕ → LinkRequests) → Tells limit one a b → Tells limit other b c → Tells limit (joined b.given one other) a c
  tells-both limit one other s t k l h = by (cases_lt k b.given)
    where
      by : (k < b.given) ⊎ (b.given ≤ k) → TellsRequests limit (c.links k) (joined b.given one other k)
      by (inl below) =
          subst (λ (r : LinkRequests). TellsRequests limit (c.links k) r) (sym (joined-before b.given one other k below))
          (subst (λ (link : Link). TellsRequests limit link (one k)) (kept k l below) (s k l below))
      by (inr past) = subst (λ (r : LinkRequests). TellsRequests limit (c.links k) r) (sym (joined-behind b.given one other k past)) (t k past h)

  sent-both : (test : Address → Bool) (one other : ℕ → LinkRequests) → count_sent test (joined b.given one other) a c ≡ count_sent test one a b + count_sent test other b c
  sent-both test one other = counted-parts (λ r. count_by test (whole_requests r)) one other a.given b.given c.given p.moves.given q.moves.given

  answered-both : (test : Address → Bool) (one other : ℕ → LinkRequests) → count_answered test (joined b.given one other) a c ≡ count_answered test one a b + count_answered test other b c
  answered-both test one other = counted-parts (λ r. count_by test (whole_answers r)) one other a.given b.given c.given p.moves.given q.moves.given

  requested-both : (options : Options) (xs ys : List Address) → RequestedFor options xs a b → RequestedFor options ys b c → RequestedFor options (xs ++ ys) a c
  requested-both options xs ys r s = record {
    on = joined b.given r.on s.on;
    told = tells-both options.max_body r.on s.on r.told s.told;
    few = λ test.
        few-both (options.retries + 1) test xs ys (count_sent test r.on a b) (count_sent test s.on b c) (count_sent test (joined b.given r.on s.on) a c) (r.few test) (s.few test) (sent-both test r.on s.on);
    rises = λ alive.
        let u = r.rises alive in
        let v = s.rises (still-lively alive) in
        record {
          failures = u.failures + v.failures;
          all = rose-both u.failures v.failures a.faults b.faults c.faults u.all v.all;
          few = let e = sent-both any r.on s.on in let long = length-append xs ys in let f = u.few in let g = v.few in omega (arith, e, long, f, g);
        };
  }

  pub done-both : (options : Options) (xs ys : List Address) → DoneFor options xs a b → DoneFor options ys b c → DoneFor options (xs ++ ys) a c
  done-both options xs ys d e = record {
    asked = d.asked ++ e.asked;
    rest = d.rest ++ e.rest;
    plan_is = asked-both xs ys d.asked e.asked d.rest e.rest d.plan_is e.plan_is;
    sent = sends-both d.asked e.asked d.sent e.sent;
    requested = requested-both options xs ys d.requested e.requested;
    tries = at-most-both a.dials b.dials c.dials (tries_of options xs) (tries_of options ys) (tries_of options (xs ++ ys)) d.tries e.tries (tries-both options xs ys);
  }

  paces-both : (xs ys : List Address) (i j : ℕ) → PacesOf (length xs) i a b → PacesOf (length ys) j b c → PacesOf (length (xs ++ ys)) (i + j) a c
  paces-both xs ys i j u v =
      let long = length-append xs ys in
      let f = u.few in
      let g = v.few in
      record {
        rises = u.rises + v.rises;
        rose = rose-both u.rises v.rises a.faults b.faults c.faults u.rose v.rose;
        few = omega (arith, f, g, long);
        exact = λ quiet.
            let x : i ≡ length xs = u.exact (quiet-before a.faults b.faults c.faults q.moves.faults quiet) in
            let y : j ≡ length ys = v.exact (quiet-behind a.faults b.faults c.faults p.moves.faults quiet) in
            omega (arith, x, y, long);
      }

  replies-both : (options : Options) (xs ys : List Address) → RepliedFor options xs a b → RepliedFor options ys b c → RepliedFor options (xs ++ ys) a c
  replies-both options xs ys d e = record {
    on = joined b.given d.on e.on;
    told = tells-both options.max_body d.on e.on d.told e.told;
    few = λ test.
        few-both (options.retries + 1) test xs ys (count_sent test d.on a b) (count_sent test e.on b c) (count_sent test (joined b.given d.on e.on) a c) (d.few test) (e.few test) (sent-both test d.on e.on);
    answered = λ test.
        let all = answered-both test d.on e.on in
        let long = count_append test xs ys in
        let f = d.answered test in
        let g = e.answered test in
        omega (arith, all, long, f, g);
    exact = λ alive quiet test.
        let all = sent-both test d.on e.on in
        let long = count_append test xs ys in
        let f = d.exact alive (quiet-before a.faults b.faults c.faults q.moves.faults quiet) test in
        let g = e.exact (still-lively alive) (quiet-behind a.faults b.faults c.faults p.moves.faults quiet) test in
        omega (arith, all, long, f, g);
  }

  pub answers-both : (options : Options) (xs ys : List Address) (i j : ℕ) → AnsweredFor options xs i a b → AnsweredFor options ys j b c → AnsweredFor options (xs ++ ys) (i + j) a c
  answers-both options xs ys i j d e = record {
    replied = replies-both options xs ys d.replied e.replied;
    each = let long = length-append xs ys in let f = d.each in let g = e.each in omega (arith, long, f, g);
    most = let both = tries-both options xs ys in let f = d.most in let g = e.most in omega (arith, both, f, g);
    paced = λ alive. paces-both xs ys i j (d.paced alive) (e.paced (still-lively alive));
  }

  -- ---- whatever the other ends answer

  pub spends-both : (limit i j : ℕ) → Spends limit i a b → Spends limit j b c → Spends limit (i + j) a c
  spends-both limit i j u v =
      let e = answered-both any u.on v.on in
      let f = sent-both any u.on v.on in
      let before = u.answered in
      let behind = v.answered in
      let before_sent = u.sent in
      let behind_sent = v.sent in
      let l = p.moves.given in
      let h = q.moves.given in
      record {
        on = joined b.given u.on v.on;
        told = tells-both limit u.on v.on u.told v.told;
        rises = u.rises + v.rises;
        rose = rose-both u.rises v.rises a.faults b.faults c.faults u.rose v.rose;
        answered = omega (arith, e, before, behind, l, h);
        sent = omega (arith, f, before_sent, behind_sent, l, h);
      }

  pub fails-later : (many : ℕ) → FailsBy many b.faults c.faults (ended_links b c) → FailsBy many a.faults c.faults (ended_links a c)
  fails-later many f =
      let all = over-parts (λ k. times_ended (c.links k)) a.given b.given c.given p.moves.given q.moves.given in
      let enough = f.enough in
      record { rises = f.rises; rose = rose-later f.rises a.faults b.faults c.faults p.moves.faults f.rose; enough = omega (arith, all, enough) }

-- nothing more was done for others
pub done-more : (start : Address) (m : ℕ) (options : Options) (a b : WireState) → Onward start m a b → (xs ys : List Address) → DoneFor options xs a b → DoneFor options (xs ++ ys) a b
done-more start m options a b p xs ys d = done-both start m 0 a b b p (onward-none start b) options xs ys d (done-nothing options ys b)
