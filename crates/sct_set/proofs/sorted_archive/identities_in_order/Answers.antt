-- Identities that are sorted and told apart are the ascending ones.
use Rattle.std.proofs.Common.{◌≡◌, ◌∙◌, length, ap, subst, rules, arith}
use Rattle.std.proofs.lemmas.List.Filters.{dedup_is}
use Rattle.std.specs.List.Sorted.{IsSorted}
use Rattle.std.specs.declared.cmp.Ordering.{Ordering}
use Rattle.sct_message.specs.declared.keys.Identity.{Identity}
use Rattle.sct_message.specs.OrderLaws.{identity_total, identities_same}
use Rattle.sct_message.specs.Order.{identity_order}
use Rattle.sct_message.specs.Ascending.{ascending}
use Rattle.sct_message.proofs.AscendingLemmas.{ascending-sort_dedup_plain}
use Rattle.sct_set.proofs.GroupLemmas.{put_back}
use Rattle.sct_set.proofs.sorted_archive.identities_in_order.Goals as goal

pub returns : goal.returns
returns g c =
    let lent : c.deref_mut.result.now ≡ c.in_ok-found.found.items = search rules in
    let long : length c.par_sort.new.s ≡ c.in_ok-found.found.len = search (rules, arith) in
    put_back _ c.in_ok-found.found.len c.par_sort.new.s c.in_ok-found.found.items _ long (dedup_is _ _ _ c.dedup.ensures.filtered)
    ∙ ascending-sort_dedup_plain identity_total identities_same _ c.keys_are_ordered.ensures.identities_equal _ _ c.in_ok-par_sort.ensures.permutation (subst (λ (R : Identity → Identity → Ordering). IsSorted R c.par_sort.new.s) (λ n i j. c.keys_are_ordered.ensures.identities i j n) c.in_ok-par_sort.ensures.sorted)
    ∙ ap (ascending identity_order) (lent ∙ c.in_ok-found.ensures)
