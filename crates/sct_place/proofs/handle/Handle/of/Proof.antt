-- `of` has the library take the box apart, which leaves the site behind an address. A handle with this address owns the site.
use Rattle.std.proofs.Common.{◌≡◌, refl, ap, [], ◌∷◌, Some}
use Rattle.std.proofs.raw_atomic.Walks.{proved}
use base.Fml.{ftrue, fsep}
use base.Fraction.{full_share}
use base.Logic.{emp, id⊢}
use contract.Monad.{fact}
use contract.Running.{tables}
use denote.Exit.{yes}
use denote.Laws.{Is, shows}
use denote.Signature.{plain}
use denote.Steps.{only, facts}
use denote.Triple.Call.{calls_at}
use denote.Triple.Clauses.{Lasts, lasts}
use denote.Triple.Spec.{triple_of}
use denote.Triple.Table.{framed}
use denote.Triple.Walked.{Stays, says, stay_dropped, Goes-dropped, ends_at}
use types.Kit.{‵, raw, ◌⊛◌, some, later, ◌$◌, ◌∵◌, !, qed, by, keep, drop, use1, use2, split, split3, pick, await, suffices}
use types.Part.{whole, sub, agg}
use types.Run.{enter, of_opd, stop, fld, no_more, and_then, returns}
use types.ByLocal.{alloc_all, pass_all, free_all, look_at, get, get_in, sets, lands_as}
use Rattle.std.specs.contracts.impls.GlobalAllocator.TheImpl.{ghosts, dict}
use Rattle.std.proofs.impls.GlobalAllocator.TheImpl.Met.{passed}
use Rattle.std.specs.contracts.boxed.Box.into_raw_with_allocator as apart
use Rattle.std.proofs.boxed.Box.into_raw_with_allocator.Met.{met}
use Rattle.sct_place.specs.Handles.{held_owns}
use Rattle.sct_place.specs.contracts.handle.Handle.of as f
use Rattle.sct_place.proofs.handle.Handle.of.Statement.{statement}
use Rattle.sct_place.proofs.handle.Handle.of.Code as code
use Rattle.sct_place.proofs.Destruct++none.drop.Symbol.{glues}
use Rattle.sct_place.proofs.RowOfSite.{SiteArg, site_laws, drops_site, site_dropped}
use Rattle.sct_place.proofs.AddressLemmas.{HandleOfSite, BoxOfSite, HeapArg, heap_laws, drops_heap, Pair, word, box_is, pair_is, address_typed, heap_typed, word_typed, handle_of, tokens, taken, returned}

abbrev stayed : Stays f.ended.signature.params f.ended.kept
stayed = (stay_dropped (plain (λ _. BoxOfSite)) yes, tt)

pub of_spec : {M : Type 1} → statement M
of_spec {M = M} 𝓤 𝓛 𝓜 𝓡 wired =
    let c = f.clauses 𝓛 𝓜.mem 𝓡.returns in
    -- The call of the library: its contract T, G at a site and an allocator, and that the library meets it.
    let T = apart.ended SiteArg HeapArg ghosts dict drops_heap drops_site in
    let G = triple_of 𝓛 T.signature (apart.spec SiteArg HeapArg ghosts dict drops_heap drops_site 𝓛 𝓜.mem 𝓡.returns) in
    let G_met = met 𝓤 𝓛 𝓜 𝓡 (code.calls-std_alloc::boxed::Box::into_raw_with_allocator 𝓡.env wired)
    SiteArg HeapArg site_laws heap_laws ghosts dict drops_heap drops_site
    (passed 𝓡.env (code.calls-std_heap::GlobalAllocator::allocate 𝓡.env wired) (code.calls-std_heap::GlobalAllocator::deallocate 𝓡.env wired)
    (code.calls-std_heap::GlobalAllocator::grow 𝓡.env wired) (code.calls-std_heap::GlobalAllocator::shrink 𝓡.env wired) M 𝓤 𝓛 𝓜 𝓡)
    (glues 𝓡.env (code.calls-sct_place::Destruct++none::drop 𝓡.env wired) HeapArg heap_laws M 𝓤 𝓛 𝓜 𝓡)
    (site_dropped 𝓛 𝓜 𝓡 (code.calls-sct_place::sct_place++kept++KeptSite+Destruct::drop 𝓡.env wired)) in
    proved 𝓛 f.ended stayed c 𝓜 𝓡 (Goes-dropped 𝓛 0 (plain (λ _. BoxOfSite)) yes (λ κs x w. refl), tt)
    f.Key.name code.function (code.unfolded 𝓤 𝓛.H 𝓜 𝓡 wired)
    (λ κs. ((λ b. word b.ptr ∷ []), tt)) (λ κs. (box_is, tt)) (λ κs qs bounds a n are.
    let b = a.0 in let given = fsep (BoxOfSite.own_val b (word b.ptr ∷ [])) ftrue in
    let z : G.Ghost = ((([], ([], tt)), (full_share, (full_share, tt)), tt, (b, tt), (word b.ptr ∷ [], tt)), tt) in
    -- The box is all that the call takes.
    qed 𝓛 ((‵ ftrue ⊛ ‵ given) ∷ raw (emp 𝓤) ∷ []) ∵ split ! $ drop ! $ use2 𝓛 (raw (G.pre z)) (taken 𝓛 given (emp 𝓤)) $
    enter ! _ _ _ _ _ $ alloc_all ! (λ l. pass_all ! refl (word_typed b.ptr, tt) $
    -- let (at, alloc) = Box::into_raw_with_allocator(value);
    sets ! (of_opd ! (get ! refl)) refl (word_typed b.ptr) $
    calls_at ! (framed 𝓤 𝓛.H 𝓜 (tables 𝓤 𝓛.H 𝓜 𝓡 𝓡.env)) G G_met z (and_then ! (get ! refl) (no_more !)) (λ v.
    -- It returns a pair r, with the site behind the address r.0. The pair determines its machine value v, and owns nothing.
    use1 𝓛 (later (some (λ (r : Pair.Denot). (raw (tokens 𝓛) ⊛ ‵ (Pair.own_val r (v ∷ []))) ⊛ some (λ (ws : Lasts T z.0.0 z.0.3).
    ‵ (lasts T z.0.0 z.0.3 ws) ⊛ raw (fact 𝓤 (r.1 ≡ b.alloc)) ⊛ ‵ (held_owns b.alloc r.0 (Some b.value)))))) (id⊢ 𝓤 _) $
    await ! tt $ pick ! (λ r. split ! $ split ! $ drop ! $ facts ! Pair (Is Pair) (shows 𝓛 Pair) r (v ∷ []) (λ is.
    pick ! (λ ws. split3 ! $ drop ! $ drop ! $ lands_as ! (ap only (pair_is r (v ∷ []) is)) refl (word_typed r.0) $
    sets ! (of_opd ! (get_in ! (fld ! refl (stop !)) (sub ! 0 refl (whole !)))) refl (address_typed r.0) $
    sets ! (of_opd ! (get_in ! (fld ! refl (stop !)) (sub ! 1 refl (whole !)))) refl heap_typed $
    -- Handle { at: at as *mut u8, alloc }
    sets ! (of_opd ! (get ! refl)) refl (address_typed r.0) $
    sets ! (agg ! (and_then ! (get ! refl) (and_then ! (get ! refl) (no_more !)))) refl (word_typed r.0) $
    returns ! (look_at ! 0 refl) $ free_all ! refl $ keep ! (0 ∷ []) $
    -- The site behind the address is what this handle owns.
    let made : HandleOfSite.Denot = record { at = r.0; alloc = b.alloc; held = Some b.value } in
    let owned = HandleOfSite.own_val made (word r.0 ∷ []) in
    use1 𝓛 (‵ owned) (handle_of 𝓛 r.0 b.alloc (Some b.value)) $
    suffices ! _ (ends_at 𝓛 f.ended stayed c ((κs, qs, bounds, a, (word b.ptr ∷ [], tt)), n) (word r.0) made (tt, tt) (tt, tt)) $
    says ! refl $ by ! (returned 𝓛 owned)))))))
