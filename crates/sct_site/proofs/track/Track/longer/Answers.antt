-- The longer of two beginnings of one history has the other as its beginning.
use Rattle.std.proofs.Common.{◌≤◌, ap, subst, arith, length, List, refl, inl, inr}
use mathlib.Core.List.{IsPrefix}
use Rattle.sct_delta.specs.Entries.{Placed}
use Rattle.sct_site.proofs.Prefixes.{prefix_self, prefix_shorter}
use Rattle.sct_site.proofs.track.Track.longer.Goals as goal

pub returns-then-self-other-clause-longer : goal.returns-then-self-other-clause-longer
returns-then-self-other-clause-longer c =
    let both = c.learn.new.self.log in
    let xs = c.self.inside.seen.log in
    let ys = c.other.inside.seen.log in
    let this : IsPrefix xs both = subst (λ (l : List Placed). IsPrefix l both) (ap (λ s. s.log) c.again-both.ensures) c.learn.ensures.2 in
    let less : length xs ≤ length ys = omega (arith, c.self.invariant.0, c.other.invariant.0) in
    rw (c.again.ensures, ← c.self.view_is, ← c.other.view_is) (inr refl, prefix_shorter xs ys both this c.learn.ensures.3 less, prefix_self ys)

pub returns-clause-longer : goal.returns-clause-longer
returns-clause-longer c =
    let both = c.learn.new.self.log in
    let xs = c.self.inside.seen.log in
    let ys = c.other.inside.seen.log in
    let this : IsPrefix xs both = subst (λ (l : List Placed). IsPrefix l both) (ap (λ s. s.log) c.again-both.ensures) c.learn.ensures.2 in
    let less : length ys ≤ length xs = omega (arith, c.self.invariant.0, c.other.invariant.0) in
    rw (c.again-else-self-other.ensures, ← c.self.view_is, ← c.other.view_is) (inl refl, prefix_self xs, prefix_shorter ys xs both c.learn.ensures.3 this less)
