-- What answers say.
use Rattle.std.specs.Prelude.{◌≡◌, ◌⊎◌, Result, Ok, Err}
use Rattle.fragment_page.specs.declared.page.PageFault.{PageFault}
use Rattle.fragment_page.specs.declared.page.PageFault.TheVariants.{OutOfMemory}

-- a fault that holds, or want of memory
abbrev pub IsFaultOf : (PageFault → Type 0) → PageFault → Type 0
IsFaultOf P fault = (fault ≡ OutOfMemory) ⊎ P fault

-- a value of which the first holds, or a fault of which the second holds, or want of memory
abbrev pub Answers : {X : Type 0} → (X → Type 0) → (PageFault → Type 0) → Result X PageFault → Type 0
Answers P Q (Ok x) = P x
Answers P Q (Err fault) = IsFaultOf Q fault
