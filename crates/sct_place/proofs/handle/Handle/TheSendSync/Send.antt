-- A handle says the same to every thread: an address and the allocator do, and so does the site behind the address.
use Rattle.std.specs.Prelude.{Option, Some, None}
use Rattle.std.specs.Global.{Global}
use Rattle.std.proofs.Crossing.{frees}
use Rattle.std.proofs.alloc.Global.TheSendSync as heap
use mir.Raw.{raw}
use base.Fraction.{full_share}
use base.Shift.{Keyless}
use denote.Builtin.{RawPtr}
use denote.Memory.{lone}
use denote.Param.Send.{IsSend, part_keyless, owning_send, sendable}
use denote.RawPtr.{Ptr, block_ptr, null_ptr}
use Rattle.sct_place.specs.Handles.{held_owns}
use Rattle.sct_place.specs.contracts.handle.Handle.{the_row, the_type}
use Rattle.sct_place.specs.contracts.kept.KeptSite as Site
use Rattle.sct_place.specs.declared.kept.KeptSite.{KeptSite}
use Rattle.sct_place.proofs.kept.KeptSite.TheSendSync.{the_send as site_send}

held_keyless : (alloc : Global) (at : Ptr) (held : Option KeptSite) → Keyless (held_owns alloc at held)
held_keyless alloc (block_ptr b o) (Some site) =
    (part_keyless Site.the_row site_send full_share site b o, frees.frees alloc (raw (lone Site.the_row.mir)) (block_ptr b o))
held_keyless alloc null_ptr (Some site) = (tt, frees.frees alloc (raw (lone Site.the_row.mir)) null_ptr)
held_keyless alloc at None = tt

address_send : IsSend RawPtr
address_send = search sendable

pub send : IsSend the_row
send = owning_send the_type (address_send, (heap.the_field_send, tt)) (λ h. held_keyless h.alloc h.at h.held) (λ k x w. tt)
