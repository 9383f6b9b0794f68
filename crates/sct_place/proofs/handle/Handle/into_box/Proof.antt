-- `into_box` gives the library the address, the allocator and the site behind the address. The library makes a box of the site.
use Rattle.std.proofs.Common.{◌≡◌, ◌∙◌, refl, sym, ap, [], ◌∷◌, IsTrue, Some}
use Rattle.std.proofs.Handle.{heap_val}
use Rattle.std.proofs.raw_atomic.Walks.{proved}
use base.Fml.{ftrue, fsep}
use base.Fraction.{full_share}
use base.Logic.{id⊢}
use contract.Monad.{fact}
use contract.Running.{tables}
use denote.Exit.{yes}
use denote.Laws.{Is, shows}
use denote.RawPtr.{ptr_val}
use denote.Signature.{plain}
use denote.Steps.{heard, peeks}
use denote.Triple.Call.{calls_at_last}
use denote.Triple.Clauses.{Lasts, lasts}
use denote.Triple.Spec.{triple_of}
use denote.Triple.Table.{framed}
use denote.Triple.Walked.{Stays, walk_of, says, stay_dropped, Goes-dropped, ends_at}
use types.Logic.{sem}
use types.Kit.{‵, raw, ◌⊛◌, some, later, at_ret, ◌$◌, ◌∵◌, !, qed, by, move, keep, drop, use0, use1, use2, split, split3, fsplit, pick, await, suffices}
use types.Part.{whole, sub}
use types.Run.{enter, of_opd, stop, fld, no_more, and_then, first, blocks, exec, returns}
use types.ByLocal.{alloc_all, pass_all, free_all, look_at, get, get_in, sets, lands_last, env}
use Rattle.std.specs.Option.{is_some}
use Rattle.std.specs.contracts.impls.GlobalAllocator.TheImpl.{ghosts, dict}
use Rattle.std.proofs.impls.GlobalAllocator.TheImpl.Met.{passed}
use Rattle.std.specs.contracts.boxed.Box.from_raw as boxed
use Rattle.std.proofs.boxed.Box.from_raw.Met.{met}
use Rattle.sct_place.specs.Handles.{held_owns}
use Rattle.sct_place.specs.contracts.handle.Handle.into_box as f
use Rattle.sct_place.proofs.handle.Handle.into_box.Statement.{statement}
use Rattle.sct_place.proofs.handle.Handle.into_box.Code as code
use Rattle.sct_place.proofs.Destruct++none.drop.Symbol.{glues}
use Rattle.sct_place.proofs.RowOfSite.{SiteArg, site_laws}
use Rattle.sct_place.proofs.AddressLemmas.{HandleOfSite, BoxOfSite, HeapArg, heap_laws, drops_heap, word, box_typed, handle_is, address_typed, heap_typed, word_typed, both, both_had, site_behind, site_in, tokens, taken, returned}

abbrev stayed : Stays f.ended.signature.params f.ended.kept
stayed = (stay_dropped (plain (λ _. HandleOfSite)) yes, tt)

pub into_box_spec : {M : Type 1} → statement M
into_box_spec {M = M} 𝓤 𝓛 𝓜 𝓡 wired =
    let c = f.clauses 𝓛 𝓜.mem 𝓡.returns in let W = walk_of 𝓛 f.ended stayed c in let 𝓣 = tables 𝓤 𝓛.H 𝓜 𝓡 𝓡.env in
    -- The call of the library: its contract T, G at a site and an allocator, and that the library meets it.
    let T = boxed.ended SiteArg HeapArg ghosts dict drops_heap in
    let G = triple_of 𝓛 T.signature (boxed.spec SiteArg HeapArg ghosts dict drops_heap 𝓛 𝓜.mem 𝓡.returns) in
    let G_met = met 𝓤 𝓛 𝓜 𝓡 (code.calls-std_alloc::boxed::Box::from_raw 𝓡.env wired) SiteArg HeapArg site_laws heap_laws ghosts dict drops_heap
    (passed 𝓡.env (code.calls-std_heap::GlobalAllocator::allocate 𝓡.env wired) (code.calls-std_heap::GlobalAllocator::deallocate 𝓡.env wired)
    (code.calls-std_heap::GlobalAllocator::grow 𝓡.env wired) (code.calls-std_heap::GlobalAllocator::shrink 𝓡.env wired) M 𝓤 𝓛 𝓜 𝓡)
    (glues 𝓡.env (code.calls-sct_place::Destruct++none::drop 𝓡.env wired) HeapArg heap_laws M 𝓤 𝓛 𝓜 𝓡) in
    proved 𝓛 f.ended stayed c 𝓜 𝓡 (Goes-dropped 𝓛 0 (plain (λ _. HandleOfSite)) yes (λ κs x w. refl), tt)
    f.Key.name code.function (code.unfolded 𝓤 𝓛.H 𝓜 𝓡 wired)
    (λ κs. ((λ h. word h.at ∷ []), tt)) (λ κs. (handle_is, tt)) (λ κs qs bounds a n are.
    let h = a.0 in let y : W.Ghost = ((κs, qs, bounds, a, (word h.at ∷ [], tt)), n) in
    qed 𝓛 ((‵ ftrue ⊛ ‵ (fsep (HandleOfSite.own_val h (word h.at ∷ [])) ftrue)) ∷ raw (fact 𝓤 (IsTrue (is_some h.held))) ∷ []) ∵
    split ! $ drop ! $ fsplit ! $ move ! (2 ∷ []) $ heard ! _ (λ full.
    -- The handle has a site, and owns it. The site and the two fields are all that the call takes.
    let site = (site_in h.held full).0 in let behind = held_owns h.alloc h.at (Some site) in let fields = both h.at h.alloc in
    let z : G.Ghost = ((([], ([], tt)), (full_share, (full_share, tt)), tt, (h.alloc, (h.at, tt)), (heap_val ∷ [], (ptr_val h.at ∷ [], tt))), site) in
    use1 𝓛 (‵ behind) (site_behind 𝓛 h full) $ use0 𝓛 (‵ fields) (both_had 𝓛 h.at h.alloc) $
    use2 𝓛 (raw (G.pre z)) (taken 𝓛 fields (sem 𝓛 behind)) $
    enter ! _ _ _ _ _ $ alloc_all ! (λ l. pass_all ! refl (word_typed h.at, tt) $
    -- let Handle { at, alloc } = self;
    sets ! (of_opd ! (get_in ! (fld ! refl (stop !)) (sub ! 0 refl (whole !)))) refl (address_typed h.at) $
    sets ! (of_opd ! (get_in ! (fld ! refl (stop !)) (sub ! 1 refl (whole !)))) refl heap_typed $
    -- unsafe { Box::from_raw(alloc, at as *mut _) }
    first ! $ blocks ! $ sets ! (of_opd ! (get ! refl)) refl (address_typed h.at) $
    calls_at_last ! (framed 𝓤 𝓛.H 𝓜 𝓣) G G_met z (and_then ! (get ! refl) (and_then ! (get ! refl) (no_more !))) (λ v.
    -- It returns a box b of the same site, with the machine value v, which is of the type of a box.
    use1 𝓛 (later (some (λ (b : BoxOfSite.Denot). (raw (tokens 𝓛) ⊛ ‵ (BoxOfSite.own_val b (v ∷ []))) ⊛ some (λ (ws : Lasts T z.0.0 z.0.3).
    ‵ (lasts T z.0.0 z.0.3 ws) ⊛ raw (fact 𝓤 (b.value ≡ site)) ⊛ raw (fact 𝓤 (b.alloc ≡ h.alloc)))))) (id⊢ 𝓤 _) $
    await ! tt $ pick ! (λ b. split ! $ split ! $ drop ! $ peeks ! BoxOfSite (Is BoxOfSite) (shows 𝓛 BoxOfSite) b (v ∷ []) (λ is.
    move ! (1 ∷ []) $ pick ! (λ ws. split3 ! $ drop ! $ heard ! _ (λ same. drop ! $ lands_last ! refl (box_typed b v is) $
    exec ! 𝓣.C 𝓣.Λ (env code.Mir.locals l) code.Mir.t-4 (at_ret _ (W.post y)) $ sets ! (of_opd ! (get ! refl)) refl (box_typed b v is) $
    returns ! (look_at ! 0 refl) $ free_all ! refl $ keep ! (0 ∷ []) $
    suffices ! _ (ends_at 𝓛 f.ended stayed c y v b (tt, tt) (tt, tt)) $
    says ! (ap Some same ∙ sym (site_in h.held full).1) $ by ! (returned 𝓛 (BoxOfSite.own_val b (v ∷ [])))))))))))
