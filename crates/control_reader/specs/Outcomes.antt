-- What answers say.
use Rattle.std.specs.Prelude.{◌≡◌, ◌⊎◌, Result, Ok, Err}
use Rattle.fragment_page.specs.declared.page.Page.{Page}
use Rattle.fragment_page.specs.declared.page.PageFault.{PageFault}
use Rattle.fragment_page.specs.declared.page.PageFault.TheVariants.{OutOfMemory}

-- this page, or want of memory
abbrev pub IsPageOrMemory : Page → Result Page PageFault → Type 0
IsPageOrMemory page (Ok found) = found ≡ page
IsPageOrMemory page (Err fault) = fault ≡ OutOfMemory

-- this fault, or want of memory
abbrev pub IsFaultOrMemory : PageFault → Result Page PageFault → Type 0
IsFaultOrMemory fault (Ok found) = ⊥
IsFaultOrMemory fault (Err other) = (other ≡ OutOfMemory) ⊎ (other ≡ fault)
