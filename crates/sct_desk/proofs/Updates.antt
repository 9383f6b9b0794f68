-- What updates by arrivals make of the published view.
use Rattle.std.proofs.Common.{◌≡◌, ◌∙◌, refl, ap, sym, subst, ℕ, ◌<◌, ◌+◌, List, [], ◌∷◌, ◌++◌, take, drop, length, arith, get_or}
use Rattle.std.proofs.lemmas.List.{take-append-drop, take_all, take_more}
use Rattle.std.specs.FinSet as set
use mathlib.Core.List.{IsPrefix}
use Rattle.logbook.specs.Pages.{Book}
use Rattle.sct_delta.specs.Entries.{Placed, IsArrivals, messages_of}
use Rattle.sct_site.specs.Sights.{Sight}
use Rattle.sct_site.proofs.Arriving.{arrivals_begin}
use Rattle.sct_site.proofs.Prefixes.{prefix_self}
use Rattle.sct_site.specs.Cores.{Core}
use Rattle.sct_site.proofs.AcceptLemmas.{messages-append}
use Rattle.sct_desk.specs.declared.shown.Shown.{Shown}
use Rattle.sct_desk.specs.declared.shown.ViewUpdate.{ViewUpdate}
use Rattle.sct_desk.specs.HeldOk.{IsHeld}
use Rattle.sct_desk.specs.Rules.{GoesOn, handed_over, view_of}

-- a beginning of a list
pub prefix_take : {A : Type 0} (k : ℕ) (xs : List A) → IsPrefix (take k xs) xs
prefix_take k xs = (drop k xs, take-append-drop k xs)

-- an update by all arrivals that were not handed over
given_all : (x : Shown) (book : Book) (es : List Placed) (k : ℕ) (t : Sight)
    → x ≡ view_of book (take k es) → t ≡ record { book = book; log = es }
    → record { view = set.union x.view (messages_of (drop k es)); track = t } ≡ view_of book es
given_all x book es k t given track =
    (λ i. record { view = set.union (given i).view (messages_of (drop k es)); track = track i })
    ∙ λ i. record { view = (sym (messages-append (take k es) (drop k es)) ∙ ap messages_of (take-append-drop k es)) i; track = record { book = book; log = es } }

-- with an update by all arrivals that were not, all arrivals are handed over
pub given_now : (x : Shown) (bs cs : List ViewUpdate) (book : Book) (es fs : List Placed) (k : ℕ) (t : Sight)
    → handed_over x cs ≡ view_of book (take k es) → fs ≡ es → t.book ≡ book → t.log ≡ es
    → handed_over x bs ≡ record { view = set.union (handed_over x cs).view (messages_of (drop k fs)); track = t }
    → handed_over x bs ≡ view_of book es
given_now x bs cs book es fs k t given same of follows is =
    is
    ∙ (λ i. record { view = set.union (handed_over x cs).view (messages_of (drop k (same i))); track = t })
    ∙ given_all (handed_over x cs) book es k t given (λ i. record { book = of i; log = follows i })

-- one arrival more of a site's arrivals
pub next_arrives : (es xs : List Placed) (at : ℕ) (e : Placed) → IsArrivals es → xs ≡ take at es → at < length es → e ≡ get_or es at e → IsArrivals (xs ++ e ∷ [])
next_arrives es xs at e all so_far inside is =
    let more : xs ++ e ∷ [] ≡ take (at + 1) es = (λ i. so_far i ++ is i ∷ []) ∙ sym (take_more es at e inside) in
    subst IsArrivals (sym more) (arrivals_begin (take (at + 1) es) es (prefix_take (at + 1) es) all)

-- what was handed over may be shown
pub goes_on : (x y : Shown) (book : Book) (es : List Placed) → x ≡ view_of book x.track.log → IsPrefix x.track.log es → y ≡ view_of book es → GoesOn x y
goes_on x y book es viewed pre is = (
  ap (λ (s : Shown). s.track.book) viewed ∙ sym (ap (λ (s : Shown). s.track.book) is),
  subst (λ (l : List Placed). IsPrefix x.track.log l) (sym (ap (λ (s : Shown). s.track.log) is)) pre,
  ap (λ (s : Shown). s.view) is ∙ sym (ap (λ (s : Shown). messages_of s.track.log) is),
)

-- the view of no arrival may be shown once more
pub nothing_goes_on : (x next : Shown) (bs : List ViewUpdate) (book : Book) → x ≡ view_of book [] → bs ≡ [] → next ≡ handed_over x bs → GoesOn x next
nothing_goes_on x next bs book given none is =
    let same : next ≡ x = is ∙ ap (handed_over x) none in
    subst (λ (s : Shown). GoesOn x s) (sym same) (
      refl,
      prefix_self x.track.log,
      ap (λ (s : Shown). s.view) given ∙ sym (ap (λ (s : Shown). messages_of s.track.log) given),
    )

-- what lies under the lock, all of whose arrivals are handed over
pub held_given : (book : Book) (number group : ℕ) (core : Core) (track : Sight) (x : Shown) (bs : List ViewUpdate) (handed : ℕ) (marks : List ℕ)
    → IsHeld book number group core track x bs handed marks
    → (t : Sight) (y : Shown) (cs : List ViewUpdate) (n : ℕ) → t.book ≡ book → t.log ≡ core.arrivals → y ≡ x
    → handed_over x cs ≡ view_of book core.arrivals → n ≡ length core.arrivals
    → IsHeld book number group core t y cs n marks
held_given book number group core track x bs handed marks held t y cs n same follows is given all = record {
  number_is = held.number_is;
  group_is = held.group_is;
  book_is = same;
  tracked = subst (λ (l : List Placed). IsPrefix l core.arrivals) (sym follows) (prefix_self core.arrivals);
  bounded = omega (arith, all);
  given = ap (λ (s : Shown). handed_over s cs) is ∙ given ∙ ap (view_of book) (sym (take_all n core.arrivals (omega (arith, all))));
  viewed = subst (λ (s : Shown). s ≡ view_of book s.track.log) (sym is) held.viewed;
  published = subst (λ (s : Shown). IsPrefix s.track.log core.arrivals) (sym is) held.published;
  marked = held.marked;
}

-- what lies under the lock, all of whose arrivals are shown
pub held_shown : (book : Book) (number group : ℕ) (core : Core) (track : Sight) (x : Shown) (bs : List ViewUpdate) (handed : ℕ) (marks : List ℕ)
    → IsHeld book number group core track x bs handed marks
    → (t : Sight) (y : Shown) (cs : List ViewUpdate) (n : ℕ) → t.book ≡ book → t.log ≡ core.arrivals
    → y ≡ view_of book core.arrivals → cs ≡ [] → n ≡ length core.arrivals
    → IsHeld book number group core t y cs n marks
held_shown book number group core track x bs handed marks held t y cs n same follows is none all = record {
  number_is = held.number_is;
  group_is = held.group_is;
  book_is = same;
  tracked = subst (λ (l : List Placed). IsPrefix l core.arrivals) (sym follows) (prefix_self core.arrivals);
  bounded = omega (arith, all);
  given = ap (λ (l : List ViewUpdate). handed_over y l) none ∙ is ∙ ap (view_of book) (sym (take_all n core.arrivals (omega (arith, all))));
  viewed = is ∙ ap (λ (s : Shown). view_of book s.track.log) (sym is);
  published = subst (λ (s : Shown). IsPrefix s.track.log core.arrivals) (sym is) (prefix_self core.arrivals);
  marked = held.marked;
}
