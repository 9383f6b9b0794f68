-- `closed` puts the null address beside the allocator. A handle with no site owns nothing.
use Rattle.std.proofs.Common.{refl, [], ◌∷◌, None}
use Rattle.std.proofs.Handle.{heap_val, heap_Tells}
use Rattle.std.proofs.raw_atomic.Walks.{proved}
use base.Fml.{ftrue, fsep}
use base.Logic.{emp}
use denote.Exit.{yes}
use denote.RawPtr.{null_ptr}
use denote.Signature.{plain}
use denote.Steps.{nothing}
use denote.Triple.Walked.{Stays, says, stay_dropped, Goes-dropped, ends_at}
use types.Kit.{‵, raw, ◌⊛◌, ◌$◌, ◌∵◌, !, qed, by, keep, use1, suffices}
use types.Part.{agg}
use types.Run.{enter, lit, no_more, and_then, returns}
use types.ByLocal.{alloc_all, pass_all, free_all, look_at, get, sets}
use Rattle.std.specs.contracts.alloc.Global as Heap
use Rattle.sct_place.specs.contracts.handle.Handle.closed as f
use Rattle.sct_place.proofs.handle.Handle.closed.Statement.{statement}
use Rattle.sct_place.proofs.handle.Handle.closed.Code as code
use Rattle.sct_place.proofs.AddressLemmas.{HandleOfSite, word, word_typed, heap_typed, handle_of, returned}

abbrev stayed : Stays f.ended.signature.params f.ended.kept
stayed = (stay_dropped (plain (λ _. Heap.the_row)) yes, tt)

pub closed_spec : {M : Type 1} → statement M
closed_spec 𝓤 𝓛 𝓜 𝓡 wired =
    let c = f.clauses 𝓛 𝓜.mem 𝓡.returns in
    proved 𝓛 f.ended stayed c 𝓜 𝓡 (Goes-dropped 𝓛 0 (plain (λ _. Heap.the_row)) yes (λ κs x w. refl), tt)
    f.Key.name code.function (code.unfolded 𝓤 𝓛.H 𝓜 𝓡 wired)
    (λ κs. ((λ _. heap_val ∷ []), tt)) (λ κs. (heap_Tells, tt)) (λ κs qs bounds a n are.
    let made : HandleOfSite.Denot = record { at = null_ptr; alloc = a.0; held = None } in
    let owned = HandleOfSite.own_val made (word null_ptr ∷ []) in
    qed 𝓛 ((‵ ftrue ⊛ ‵ (fsep ((Heap.the_row).own_val a.0 (heap_val ∷ [])) ftrue)) ∷ raw (emp 𝓤) ∷ []) ∵
    enter ! _ _ _ _ _ $ alloc_all ! (λ l. pass_all ! refl (heap_typed, tt) $
    -- Handle { at: null_mut(), alloc }
    sets ! (agg ! (and_then ! (lit ! tt) (and_then ! (get ! refl) (no_more !)))) refl (word_typed null_ptr) $
    returns ! (look_at ! 0 refl) $ free_all ! refl $ keep ! [] $
    -- Nothing is owned, which is all that this handle owns.
    nothing ! $ use1 𝓛 (‵ owned) (handle_of 𝓛 null_ptr a.0 None) $
    suffices ! _ (ends_at 𝓛 f.ended stayed c ((κs, qs, bounds, a, (heap_val ∷ [], tt)), n) (word null_ptr) made (tt, tt) (tt, tt)) $
    says ! refl $ by ! (returned 𝓛 owned)))
