-- What the proofs of the functions of a handle share. A handle and a box of a site are the same to the machine: an address
-- beside the allocator, which is no bytes. What they own is the site behind the address.
use Rattle.std.proofs.Common.{◌≡◌, ◌∙◌, refl, sym, ap, subst, List, [], ◌∷◌, lit<, Option, Some, None, IsTrue}
use mathlib.Core.List.{◌++◌}
use seplogic.Ra.Ura.{Ura}
use lib.Dec.{T}
use mir.Raw.{raw as bare}
use mir.Syntax.{Dict, impl, tnil, tcons, dnil, ty_ptr}
use mir.Val.{Val, vunit, vstruct, vcons, vnil, of_list, has_ty, WT}
use base.Fml.{Fml, ftrue, fsep, flft}
use base.Fraction.{full_share}
use base.Logic.{SProp, ent, sep, emp, id⊢, snd∗}
use contract.BorrowLft.{⊑_static}
use contract.Lifetimes.{toks}
use types.Logic.{Logic, sem}
use types.Kit.{‵, raw, ◌$◌, ◌∵◌, !, qed, move, done, use0, use1, join, fjoin}
use denote.Exit.{no}
use denote.Laws.{Is, Tells}
use denote.Param.{arg, layout, param}
use denote.Param.Laws.{Laws, arg_laws}
use denote.RattleType.{RattleType}
use denote.RawPtr.{Ptr, RawPtr, block_ptr, null_ptr, ptr_val}
use denote.Shadow.{Pure, makes_shadow}
use denote.Steps.{nothing, only}
use denote.Struct.Tuple.{Tuple}
use denote.Triple.Carry.{insides, insides_in}
use Rattle.std.specs.Option.{is_some}
use Rattle.std.proofs.lemmas.Bool.{false≢true}
use Rattle.std.proofs.Handle.{heap_val, heap_Tells}
use Rattle.std.specs.contracts.alloc.Global as Heap
use Rattle.std.proofs.alloc.Global.TheLaws as heap
use Rattle.std.specs.contracts.boxed.Box as Box
use Rattle.std.specs.contracts.impls.GlobalAllocator.TheImpl.{ghosts}
use Rattle.sct_place.specs.Handles.{held_owns}
use Rattle.sct_place.specs.contracts.Destruct++none.drop.Key.{symbol as drops_nothing}
use Rattle.sct_place.specs.contracts.handle.Handle as Handle
use Rattle.sct_place.proofs.RowOfSite.{Site, SiteArg}

-- ---- The types
abbrev pub HandleOfSite : RattleType
HandleOfSite = Handle.the_row

abbrev pub BoxOfSite : RattleType
BoxOfSite = Box.the_row Site Heap.the_row ghosts

-- The allocator as an argument for a type parameter, what a call has to show of it, and the code that drops it
abbrev pub HeapArg : RattleType
HeapArg = arg (bare (layout Heap.the_row)) no Heap.the_row

abbrev pub heap_laws : Laws HeapArg
heap_laws = arg_laws (bare (layout Heap.the_row)) no Heap.the_row heap.the_row_laws refl

abbrev pub drops_heap : Dict
drops_heap = impl (drops_nothing ∷ []) (tcons (layout HeapArg) tnil) dnil

-- An address and an allocator, in which the library takes a box apart
abbrev pub Pair : RattleType
Pair = Tuple (RawPtr ∷ param 1 HeapArg ∷ [])

-- ---- The machine value of a handle, a box or a pair is determined by the address, and is of their types
abbrev pub word : Ptr → Val
word p = vstruct (vcons (ptr_val p) (vcons heap_val vnil))

pub pair_is : Tells Pair (Is Pair) (λ r. word r.0 ∷ [])
pair_is r vs is =
    let address = is.1.1.0 in let allocator = heap_Tells r.1 is.0.1.0 is.1.1.1.0 in
    is.1.0 ∙ (λ i. vstruct (of_list (address i ++ (allocator i ++ []))) ∷ [])

pub handle_is : Tells HandleOfSite (Is HandleOfSite) (λ h. word h.at ∷ [])
handle_is h vs is = pair_is (h.at, h.alloc) vs is.0

pub box_is : Tells BoxOfSite (Is BoxOfSite) (λ b. word b.ptr ∷ [])
box_is b vs is = pair_is (b.ptr, b.alloc) vs is.0

pub address_typed : (p : Ptr) → T (has_ty ty_ptr (ptr_val p)) × WT (ptr_val p)
address_typed (block_ptr b o) = (tt, tt)
address_typed null_ptr = (tt, record { fits = lit< tt })

pub heap_typed : T (has_ty (layout HeapArg) heap_val) × WT heap_val
heap_typed = (tt, ((tt, tt), tt))

pub word_typed : (p : Ptr) → T (has_ty (layout Pair) (word p)) × WT (word p)
word_typed (block_ptr b o) = (tt, (tt, (((tt, tt), tt), tt)))
word_typed null_ptr = (tt, (record { fits = lit< tt }, (((tt, tt), tt), tt)))

pub box_typed : (b : BoxOfSite.Denot) (v : Val) → Is BoxOfSite b (v ∷ []) → T (has_ty (layout BoxOfSite) v) × WT v
box_typed b v is = subst (λ (u : Val). T (has_ty (layout BoxOfSite) u) × WT u) (sym (ap only (box_is b (v ∷ []) is))) (word_typed b.ptr)

-- ---- An address and an allocator own nothing, so what they own is had for nothing
heap_is : (a : HeapArg.Denot) → Is HeapArg a (heap_val ∷ [])
heap_is a = ((vstruct (vcons vunit vnil) ∷ [], tt), (refl, (((vunit ∷ [], tt), (refl, (refl, tt))), tt)))

heap_pure : (a : HeapArg.Denot) (vs : List Val) → Pure (HeapArg.own_val a vs)
heap_pure a vs = λ us. (tt, ((λ ws. (tt, (tt, tt))), tt))

-- the two as arguments of a call
abbrev pub both : Ptr → HeapArg.Denot → Fml
both p a = fsep (HeapArg.own_val a (heap_val ∷ [])) (fsep (RawPtr.own_val p (ptr_val p ∷ [])) ftrue)

-- A handle that has a site
pub site_in : {A : Type 0} (held : Option A) → IsTrue (is_some held) → (site : A) × (held ≡ Some site)
site_in (Some site) full = (site, refl)
site_in None full = absurd (false≢true full)

module _ {M : Type 1} {𝓤 : Ura M} (𝓛 : Logic 𝓤) where
  pub both_had : (p : Ptr) (a : HeapArg.Denot) → ent 𝓤 (emp 𝓤) (sem 𝓛 (both p a))
  both_had p a = makes_shadow 𝓛 (both p a) (heap_pure a (heap_val ∷ []), (tt, tt)) (heap_is a, (refl, tt))

  pair_had : (p : Ptr) (a : HeapArg.Denot) → ent 𝓤 (emp 𝓤) (sem 𝓛 (Pair.own_val (p, a) (word p ∷ [])))
  pair_had p a = makes_shadow 𝓛 (Pair.own_val (p, a) (word p ∷ [])) (λ vss. (tt, (tt, (heap_pure a vss.1.0, tt))))
      ((ptr_val p ∷ [], (heap_val ∷ [], tt)), (refl, (refl, (heap_is a, tt))))

  -- ---- A handle owns the site behind its address, and nothing else
  pub handle_of : (p : Ptr) (a : HeapArg.Denot) (held : Option Site.Denot)
      → ent 𝓤 (sem 𝓛 (held_owns a p held)) (sem 𝓛 (HandleOfSite.own_val (record { at = p; alloc = a; held = held }) (word p ∷ [])))
  handle_of p a held = qed 𝓛 (‵ (held_owns a p held) ∷ []) ∵
      use0 𝓛 (‵ (Pair.own_val (p, a) (word p ∷ []))) (pair_had p a) $ fjoin ! $ done !

  pub site_behind : (h : HandleOfSite.Denot) (full : IsTrue (is_some h.held))
      → ent 𝓤 (sem 𝓛 (HandleOfSite.own_val h (word h.at ∷ []))) (sem 𝓛 (held_owns h.alloc h.at (Some (site_in h.held full).0)))
  site_behind h full =
      let owned = HandleOfSite.own_val h (word h.at ∷ []) in
      subst (λ (held : Option Site.Denot). ent 𝓤 (sem 𝓛 owned) (sem 𝓛 (held_owns h.alloc h.at held))) (site_in h.held full).1
      (snd∗ 𝓤 (sem 𝓛 (Pair.own_val (h.at, h.alloc) (word h.at ∷ []))) (sem 𝓛 (held_owns h.alloc h.at h.held)))

  -- ---- A call of the library at a site and an allocator takes what its arguments own and what it requires. It takes the
  -- tokens of two lifetimes too, those of the two types. Both are 'static, whose tokens are had for nothing.
  abbrev pub tokens : SProp 𝓤
  tokens = toks 𝓛 2 ([], ([], tt)) (full_share, (full_share, tt))

  abbrev within : SProp 𝓤 → SProp 𝓤
  within = insides 𝓤 2 ([], ([], tt)) (SiteArg.lives, (HeapArg.lives, tt))

  pub taken : (given : Fml) (required : SProp 𝓤) → ent 𝓤 (sep 𝓤 (sem 𝓛 given) required) (sep 𝓤 (sep 𝓤 tokens (sem 𝓛 given)) (within required))
  taken given required = qed 𝓛 (‵ given ∷ raw required ∷ []) ∵
      nothing ! $ use0 𝓛 (‵ (flft [] full_share)) (𝓛.lfts.lft-nil full_share) $ join ! $
      use0 𝓛 (‵ (flft [] full_share)) (𝓛.lfts.lft-nil full_share) $ join ! $ use1 𝓛 (raw tokens) (id⊢ 𝓤 _) $ join ! $ move ! (1 ∷ []) $
      use1 𝓛 (raw (within required)) (insides_in 𝓤 2 ([], ([], tt)) (SiteArg.lives, (HeapArg.lives, tt)) required (⊑_static [], (⊑_static [], tt))) $
      move ! (1 ∷ 0 ∷ []) $ done !

  -- A function that uses its one argument up returns what its result owns
  pub returned : (result : Fml) → ent 𝓤 (sem 𝓛 result) (sep 𝓤 (emp 𝓤) (sep 𝓤 (sem 𝓛 (fsep ftrue ftrue)) (sem 𝓛 result)))
  returned result = qed 𝓛 (‵ result ∷ []) ∵ nothing ! $ nothing ! $ fjoin ! $ join ! $ nothing ! $ join ! $ done !
