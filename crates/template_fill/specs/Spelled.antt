-- What contracts see of the parts of an address as they are written.
use Rattle.template_fill.specs.ReadAddress.{Spelled}
use Rattle.template_fill.specs.declared.spelled.SpelledAddress.{SpelledAddress}

abbrev pub spelled_of : SpelledAddress → Spelled
spelled_of s = record { host = s.host.now; port = s.port; rest = s.rest.now }
