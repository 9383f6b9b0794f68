-- What a handle owns. Read by an auditor.
use Rattle.std.specs.Prelude.{Option, Some, None}
use base.Fml.{Fml, ftrue}
use base.Stored.{Coded}
use denote.RawPtr.{Ptr}
use Rattle.std.specs.Box.Ownership.{box_owns}
use Rattle.std.specs.Coded.{coded_option}
use Rattle.std.specs.Global.{Global}
use Rattle.std.specs.contracts.impls.GlobalAllocator.TheImpl.{ghosts}
use Rattle.sct_place.specs.declared.kept.KeptSite.{KeptSite}
use Rattle.sct_place.specs.contracts.kept.KeptSite.{the_row}

-- a site behind the address is owned as a box of it is; an empty handle owns nothing
abbrev pub held_owns : Global → Ptr → Option KeptSite → Fml
held_owns alloc at (Some site) = box_owns (ghosts.dealloc_token alloc) the_row at site
held_owns alloc at None = ftrue

abbrev pub held_coded : Coded (Option KeptSite)
held_coded = coded_option the_row.coded
