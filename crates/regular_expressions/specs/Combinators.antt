-- The signs that productions are written with.
use Rattle.regular_expressions.specs.Regular.{Regular, nil, seq, alt, many}

infixl 12 ◌·◌
-- one after the other
abbrev pub ◌·◌ : Regular → Regular → Regular
r · s = seq r s

infixl 11 ◌∣◌
-- one or the other
abbrev pub ◌∣◌ : Regular → Regular → Regular
r ∣ s = alt r s

-- one or nothing
abbrev pub maybe : Regular → Regular
maybe r = r ∣ nil

-- one or more
abbrev pub some : Regular → Regular
some r = r · many r
