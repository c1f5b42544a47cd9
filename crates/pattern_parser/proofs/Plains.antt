-- The walk says where tokens are those of a query without groups.
use Rattle.std.proofs.Common.{ℕ, zero, suc, ◌≡◌, Bool, true, false, List, [], ◌∷◌, refl, sym, ◌∙◌}
use Rattle.query_grammar.specs.declared.kind.Kind.{Kind}
use Rattle.query_grammar.specs.Groups.{ArePlain}
use Rattle.query_words.specs.declared.word.Value.{Value}
use Rattle.query_words.specs.declared.word.Value.TheVariants as values
use Rattle.query_words.specs.declared.word.Word.{Word}
use Rattle.query_words.specs.Words.{kind_of, kinds_of}
use Rattle.pattern_parser.specs.Plains.{braces_after, plain_with, plain_from}

yes_step : (v : Value) (most : ℕ) (ks : List Kind) (f : ℕ → Bool) → ((n : ℕ) → f n ≡ true → ArePlain n ks) → plain_with (braces_after most v) f ≡ true → ArePlain most (kind_of v ∷ ks)
yes_step values.DistinctWord most ks f h e = absurd (cc)
yes_step values.OptionalWord most ks f h e = absurd (cc)
yes_step values.UnionWord most ks f h e = absurd (cc)
yes_step values.OpenBrace zero ks f h e = absurd (cc)
yes_step values.OpenBrace (suc n) ks f h e = h n e
yes_step _ zero ks f h e = (record {}, refl, h zero e)
yes_step _ (suc n) ks f h e = (record {}, h (suc n) e)

no_step : (v : Value) (most : ℕ) (ks : List Kind) (f : ℕ → Bool) → ((n : ℕ) → ArePlain n ks → f n ≡ true) → ArePlain most (kind_of v ∷ ks) → plain_with (braces_after most v) f ≡ true
no_step values.DistinctWord zero ks f h p = absurd p.0
no_step values.DistinctWord (suc n) ks f h p = absurd p.0
no_step values.OptionalWord zero ks f h p = absurd p.0
no_step values.OptionalWord (suc n) ks f h p = absurd p.0
no_step values.UnionWord zero ks f h p = absurd p.0
no_step values.UnionWord (suc n) ks f h p = absurd p.0
no_step values.OpenBrace zero ks f h p = absurd (cc (p.1))
no_step values.OpenBrace (suc n) ks f h p = h n p
no_step _ zero ks f h p = h zero p.2
no_step _ (suc n) ks f h p = h (suc n) p.1

are_plain : (ws : List Word) (most : ℕ) → plain_from most ws ≡ true → ArePlain most (kinds_of ws)
are_plain [] zero e = record {}
are_plain [] (suc n) e = record {}
are_plain (w ∷ ws) most e = yes_step w.value most (kinds_of ws) (λ n. plain_from n ws) (λ n. are_plain ws n) e

walks_plain : (ws : List Word) (most : ℕ) → ArePlain most (kinds_of ws) → plain_from most ws ≡ true
walks_plain [] most p = refl
walks_plain (w ∷ ws) most p = no_step w.value most (kinds_of ws) (λ n. plain_from n ws) (λ n. walks_plain ws n) p

pub yes_is : (ws : List Word) (b : Bool) → b ≡ plain_from 1 ws → b ≡ true → ArePlain 1 (kinds_of ws)
yes_is ws b e h = are_plain ws 1 (sym e ∙ h)

pub no_is : (ws : List Word) (b : Bool) → b ≡ plain_from 1 ws → b ≡ false → ArePlain 1 (kinds_of ws) → b ≡ true
no_is ws b e h p = e ∙ walks_plain ws 1 p
