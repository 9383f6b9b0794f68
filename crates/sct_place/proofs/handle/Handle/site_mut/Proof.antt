-- `site_mut` reads the address through the `&mut`, and lends the site behind it. The handle follows the site.
use Rattle.std.proofs.Common.{◌≡◌, ◌∙◌, ℕ, List, [], ◌∷◌, refl, sym, ap, Option, IsTrue}
use Rattle.std.proofs.raw_atomic.Walks.{proved}
use Rattle.std.specs.Box.Ownership.{box_owns}
use Rattle.std.specs.Option.{is_some}
use Rattle.std.specs.contracts.impls.GlobalAllocator.TheImpl.{ghosts}
use seplogic.Ra.Ura.{Ura}
use mir.Raw.{raw as bare}
use mir.Syntax.{named}
use mir.Val.{Val, vptr}
use base.Fml.{GName, Fml, ftrue, fsep, flft}
use base.Fraction.{full_share}
use base.Logic.{ent, sep, never, fst∗, id⊢}
use contract.Monad.{fact}
use contract.Running.{tables}
use types.Logic.{Logic, sem}
use types.Kit.{‵, raw, ◌⊛◌, some, later, at_ret, ◌$◌, ◌∵◌, !, qed, move, keep, use1, split, split3, join, group, pick, await, rewrite, fsplit, fsplit3, fjoin, fjoin3, fpack, frame, suffices, done}
use types.Part.{whole, sub, look_in}
use types.Run.{enter, of_opd, load, addr, stop, fld, first, blocks, exec, returns}
use types.ByLocal.{alloc_all, pass_all, free_all, look_at, get, through, sets, sets_last, env}
use denote.Exit.{no}
use denote.Follow.{follows, Part, lends_Part}
use denote.Laws.{Is, shows}
use denote.Memory.{cell_at, lone, mem, part_at, part_of}
use denote.RawPtr.{Ptr, block_ptr, null_ptr, in_a_block}
use denote.Ref.{MutRef, mut_vals, mut_Tells}
use denote.Signature.{plain, mut_ref_to}
use denote.Steps.{heard, nothing, opens, peeks}
use denote.Triple.Walked.{Stays, says, walk_of, stay_dropped, Goes-spent_ref, ends_at}
use Rattle.sct_place.specs.Handles.{held_owns}
use Rattle.sct_place.specs.Lending.{with_site}
use Rattle.sct_place.specs.contracts.handle.Handle.site_mut as f
use Rattle.sct_place.proofs.handle.Handle.TheLaws.{lowers}
use Rattle.sct_place.proofs.handle.Handle.site_mut.Statement.{statement}
use Rattle.sct_place.proofs.handle.Handle.site_mut.Code as code
use Rattle.sct_place.proofs.RowOfSite.{Site}
use Rattle.sct_place.proofs.AddressLemmas.{HandleOfSite, HeapArg, Pair, site_in}

abbrev stayed : Stays f.ended.signature.params f.ended.kept
stayed = (stay_dropped (mut_ref_to (0 ∷ []) tt (plain (λ _. HandleOfSite))) no, tt)

-- The right to free the block of a site
abbrev right : HeapArg.Denot → Ptr → Fml
right alloc p = ghosts.dealloc_token alloc (bare (lone Site.mir)) p

module _ {M : Type 1} {𝓤 : Ura M} (𝓛 : Logic 𝓤) (h : HandleOfSite.Denot) (b o b' o' : ℕ) (us : List Val) where
  -- All of a handle at (b, o) but the site, which lies at (b', o')
  abbrev Rest : Fml
  Rest = fsep (right h.alloc (block_ptr b' o')) (fsep (Pair.own_val (h.at, h.alloc) us) (cell_at full_share HandleOfSite.mir us b o))

  -- With any site there, it is a handle of that site.
  back : h.at ≡ block_ptr b' o' → (w : Site.Denot)
      → ent 𝓤 (sep 𝓤 (sem 𝓛 ((mem Site).own_at w b' o')) (sem 𝓛 Rest)) (sem 𝓛 ((mem HandleOfSite).own_at (with_site h w) b o))
  unfolding part_of
  back e w =
      qed 𝓛 (‵ (part_at Site full_share w b' o') ∷ ‵ Rest ∷ []) ∵ move ! (1 ∷ []) $ fsplit3 ! $ move ! (3 ∷ 0 ∷ []) $ fjoin ! $
      rewrite ! 0 (λ (p : Ptr). ‵ (box_owns (ghosts.dealloc_token h.alloc) Site p w)) (sym e) refl $ move ! (1 ∷ 0 ∷ []) $ fjoin ! $
      move ! (1 ∷ 0 ∷ []) $ fjoin ! $
      fpack ! (List Val) (λ vs. fsep (cell_at full_share HandleOfSite.mir vs b o) (HandleOfSite.own_val (with_site h w) vs)) us $ done !

pub site_mut_spec : {M : Type 1} → statement M
site_mut_spec 𝓤 𝓛 𝓜 𝓡 wired =
    let c = f.clauses 𝓛 𝓜.mem 𝓡.returns in let W = walk_of 𝓛 f.ended stayed c in let 𝓣 = tables 𝓤 𝓛.H 𝓜 𝓡 𝓡.env in
    proved 𝓛 f.ended stayed c 𝓜 𝓡 (Goes-spent_ref 𝓛 1 (0 ∷ []) tt (plain (λ _. HandleOfSite)), tt)
    f.Key.name code.function (code.unfolded 𝓤 𝓛.H 𝓜 𝓡 wired)
    (λ κs. (mut_vals, tt)) (λ κs. (mut_Tells (named 0) κs.0 HandleOfSite, tt)) (λ κs qs bounds a n are.
    let κ = κs.0 in let q = qs.0 in let γ = a.0.ghost_name in let b = a.0.ref_ptr.0 in let o = a.0.ref_ptr.1 in let h = a.0.now in
    let y : W.Ghost = ((κs, qs, bounds, a, (mut_vals a.0, tt)), n) in let said = HandleOfSite.coded.code h in
    qed 𝓛 (((‵ (flft κ q) ⊛ ‵ ftrue) ⊛ ‵ ((MutRef (named 0) κ HandleOfSite).own_val a.0 (mut_vals a.0)) ⊛ ‵ ftrue) ∷ raw (fact 𝓤 (IsTrue (is_some h.held))) ∷ []) ∵
    move ! (1 ∷ []) $ heard ! _ (λ full. let site = (site_in h.held full).0 in let held = (site_in h.held full).1 in
    split ! $ split ! $ move ! (2 ∷ []) $ split ! $ keep ! (0 ∷ 2 ∷ []) $
    enter ! _ _ _ _ _ $ alloc_all ! (λ l. pass_all ! refl ((tt, tt), tt) $
    -- The borrow is opened. The handle owns its two fields and the site behind the address.
    fsplit3 ! $ move ! (1 ∷ 2 ∷ 3 ∷ []) $ opens ! tt HandleOfSite b o (λ us.
    move ! (1 ∷ []) $ peeks ! HandleOfSite (Is HandleOfSite) (shows 𝓛 HandleOfSite) h us (λ is. fsplit ! $ move ! (1 ∷ []) $
    rewrite ! 0 (λ (x : Option Site.Denot). ‵ (held_owns h.alloc h.at x)) held refl $
    in_a_block ! h.at (λ p. box_owns (ghosts.dealloc_token h.alloc) Site p site) (fst∗ 𝓤 (never 𝓤) (sem 𝓛 (right h.alloc null_ptr))) (λ b' o' e. fsplit ! $
    let word = lowers.val_is h us is ∙ ap (λ (p : Ptr). lowers.lowered (record h { at = p }) ∷ []) e in
    rewrite ! 3 (λ (ws : List Val). ‵ (cell_at full_share HandleOfSite.mir ws b o)) word refl $
    -- [the site; the right to free it; the fields; the handle's cell; the open borrow, in three entries]
    first ! $ blocks ! $
    sets ! (of_opd ! (load ! (through ! refl (fld ! refl (stop !))) (look_in ! 3 (sub ! 0 refl (whole !))))) refl (tt, tt) $
    sets ! (of_opd ! (get ! refl)) refl (tt, tt) $
    sets_last ! (addr ! (through ! refl (stop !))) refl (tt, tt) $
    exec ! 𝓣.C 𝓣.Λ (env code.Mir.locals l) code.Mir.t-2 (at_ret _ (W.post y)) $
    sets ! (of_opd ! (get ! refl)) refl (tt, tt) $
    -- The site is lent. The rest comes back with whatever site is left there.
    rewrite ! 3 (λ (ws : List Val). ‵ (cell_at full_share HandleOfSite.mir ws b o)) (sym word) refl $
    move ! (1 ∷ 2 ∷ 3 ∷ []) $ fjoin3 ! $ move ! (2 ∷ 3 ∷ 4 ∷ 1 ∷ 0 ∷ []) $ group ! 5 $
    let rest = sem 𝓛 (Rest 𝓛 h b o b' o' us) in let way = back 𝓛 h b o b' o' us e in
    use1 𝓛 (later (some (λ (δ : GName). raw (Part 𝓛 HandleOfSite Site (with_site h) (named 0) κ q b o b' o' γ rest way site δ))))
    (lends_Part 𝓛 HandleOfSite Site (with_site h) (named 0) κ q b o b' o' γ rest way said said site) $ await ! tt $ pick ! (λ δ.
    let lent : (MutRef (named 0) κ Site).Denot = record { ref_ptr = (b', o'); ghost_name = δ; now = site } in
    use1 𝓛 (‵ ((MutRef (named 0) κ Site).own_val lent (vptr b' o' ∷ [])) ⊛ ‵ (flft κ q) ⊛ ‵ (follows HandleOfSite Site γ δ (with_site h))) (id⊢ 𝓤 _) $
    returns ! (look_at ! 0 refl) $ free_all ! refl $ keep ! (0 ∷ []) $ split3 ! $
    -- [the `&mut` to the site; the token; what ties the handle to it]
    suffices ! _ (ends_at 𝓛 f.ended stayed c y (vptr b' o') lent (tt, tt) (tt, tt)) $
    nothing ! $ nothing ! $ fjoin ! $ join ! $ nothing ! $ move ! (2 ∷ 0 ∷ []) $ join ! $ join ! $ frame ! $ says ! (sym held) $ done !)))))))
