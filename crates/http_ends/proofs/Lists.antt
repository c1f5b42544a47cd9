-- What holds of each item of lists that are appended.
use Rattle.std.proofs.Common.{◌≡◌, ◌≤◌, List, [], ◌∷◌, ◌++◌, length, arith}
use Rattle.std.specs.List.{AllByRecursion, AllZip}
use Rattle.list_laws.proofs.Each.{all_append, all_front}
use Rattle.tpf_base.specs.Marks.{Mark, version_at}
use Rattle.template_fill.specs.Responses.{IsRising}

pub zip_append : {A B : Type 0} (R : A → B → Type 0) (xs zs : List A) (ys ws : List B) → AllZip R xs ys → AllZip R zs ws → AllZip R (xs ++ zs) (ys ++ ws)
zip_append R [] zs [] ws a b = b
zip_append R [] zs (y ∷ ys) ws a b = absurd a
zip_append R (x ∷ xs) zs [] ws a b = absurd a
zip_append R (x ∷ xs) zs (y ∷ ys) ws a b = (a.0, zip_append R xs zs ys ws a.1 b)

pub zip_front : {A B : Type 0} (R : A → B → Type 0) (xs zs : List A) (ys ws : List B) → length ys ≡ length xs → AllZip R (xs ++ zs) (ys ++ ws) → AllZip R xs ys
zip_front R [] zs [] ws same all = tt
zip_front R [] zs (y ∷ ys) ws same all = absurd (omega arith)
zip_front R (x ∷ xs) zs [] ws same all = absurd (omega arith)
zip_front R (x ∷ xs) zs (y ∷ ys) ws same all = (all.0, zip_front R xs zs ys ws (omega arith) all.1)

-- ---- versions that never fall

pub rising_front : (xs ys : List Mark) → IsRising (xs ++ ys) → IsRising xs
rising_front [] ys is = tt
rising_front (x ∷ xs) ys is = (all_front (λ later. version_at x ≤ version_at later) xs ys is.0, rising_front xs ys is.1)

pub rising_append : (xs ys : List Mark) → IsRising xs → IsRising ys → AllByRecursion (λ mark. AllByRecursion (λ after. version_at mark ≤ version_at after) ys) xs → IsRising (xs ++ ys)
rising_append [] ys a b between = b
rising_append (x ∷ xs) ys a b between = (all_append (λ later. version_at x ≤ version_at later) xs ys a.0 between.0, rising_append xs ys a.1 b between.1)
