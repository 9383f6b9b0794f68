-- What a handle and a place end as, once a `&mut` to their site has ended. Read by an auditor.
use Rattle.std.specs.Prelude.{Option, Some, true, refl}
use Rattle.std.specs.Borrow.{Fml, MutBor, Lends, LendsIf}
use Rattle.sct_place.specs.declared.handle.Handle.{Handle}
use Rattle.sct_place.specs.declared.kept.KeptSite.{KeptSite}
use Rattle.sct_place.specs.declared.place.Place.{Place}
use Rattle.sct_place.specs.contracts.handle.Handle as handle
use Rattle.sct_place.specs.contracts.kept.KeptSite as kept
use Rattle.sct_place.specs.contracts.place.Place as place

-- h, with the site that it keeps set to w
abbrev pub with_site : Handle → KeptSite → Handle
with_site h w = record h { held = Some w }

-- h ends with the last value behind r
abbrev pub LendsSite : MutBor Handle → MutBor KeptSite → Fml
LendsSite h r = Lends handle.the_row kept.the_row h r (with_site h.now)

-- p, with the site that it keeps set to w
abbrev pub with_kept : Place → KeptSite → Place
with_kept p w = record { handle = with_site p.handle w; is_full = true; agrees = refl }

-- p ends with the last value behind r, and as it was if there is none
abbrev pub LendsKept : MutBor Place → Option (MutBor KeptSite) → Fml
LendsKept p r = LendsIf place.the_row kept.the_row p r (with_kept p.now) p.now
