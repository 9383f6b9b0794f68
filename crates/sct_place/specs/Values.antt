-- The site in a box. Read by an auditor.
use Rattle.std.specs.Global.{Box}
use Rattle.sct_place.specs.declared.kept.KeptSite.{KeptSite}

abbrev pub value_of : Box KeptSite → KeptSite
value_of b = b.value
