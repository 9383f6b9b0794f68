-- Totals, number by number: how sums of shares change, and that they fit into their types. Proof plumbing.
use Rattle.std.proofs.Common.{◌≡◌, ℕ, ◌+◌, ◌≤◌, ◌<◌, ◌^◌, Bool, true, false, List, length, ap, arith, rules}
use Rattle.std.specs.Prelude.{if◌then◌else◌}
use Rattle.std.specs.List.{list_any, sum_by}
use Rattle.sct_message.specs.declared.keys.TransferKey.{TransferKey}
use Rattle.sct_case.specs.Statuses.{Standing, Returned}
use Rattle.sct_view.specs.Kept.{Kept, IsInRange, IsSmall, IsUpTo, cents_back, share_in}
use Rattle.sct_view.specs.Totals.{nothing, plus, share, share_of_beneficiary, share_of_originator, totals_over}
use Rattle.sct_view.specs.declared.totals.Totals.{Totals}
use Rattle.sct_view.proofs.SumLemmas.{AreApart, part_of_sum, sum_bounded, sum_changed}

-- ---- totals by their numbers

-- totals of which each number is the same are the same
pub totals_same : (a b : Totals) → a.sent ≡ b.sent → a.sent_cents ≡ b.sent_cents → a.returned_in ≡ b.returned_in
    → a.rejected ≡ b.rejected → a.waiting ≡ b.waiting → a.missing ≡ b.missing → a.contradicted ≡ b.contradicted
    → a.received ≡ b.received → a.received_cents ≡ b.received_cents → a.returned_out ≡ b.returned_out → a ≡ b
totals_same a b p0 p1 p2 p3 p4 p5 p6 p7 p8 p9 = grind arith

-- A number of the totals: it adds up as they do.
pub record IsNumber (n : Totals → ℕ) : Type 0 where
  pub none : n nothing ≡ 0
  pub both : (a b : Totals) → n (plus a b) ≡ n a + n b
  pub over : (f : TransferKey → Totals) (ts : List TransferKey) → n (totals_over f ts) ≡ sum_by (λ t. n (f t)) ts

-- totals are the same where whatever is a number of them is
pub by_numbers : (a b : Totals) → ((n : Totals → ℕ) → IsNumber n → n a ≡ n b) → a ≡ b
by_numbers a b each =
    totals_same a b (each (λ t. t.sent) (search rules)) (each (λ t. t.sent_cents) (search rules)) (each (λ t. t.returned_in) (search rules))
    (each (λ t. t.rejected) (search rules)) (each (λ t. t.waiting) (search rules)) (each (λ t. t.missing) (search rules))
    (each (λ t. t.contradicted) (search rules)) (each (λ t. t.received) (search rules)) (each (λ t. t.received_cents) (search rules))
    (each (λ t. t.returned_out) (search rules))

-- shares that are the same for every transfer give the same totals
pub totals_alike : (f g : TransferKey → Totals) → ((t : TransferKey) → f t ≡ g t) → (ts : List TransferKey)
    → totals_over f ts ≡ totals_over g ts
totals_alike f g same ts = λ i. totals_over (λ t. same t i) ts

-- ---- one share in the place of another

module _ (E : TransferKey → TransferKey → Bool) (same : (x y : TransferKey) → E x y ≡ true → x ≡ y) where
  -- what is left when the share of a transfer is taken out, and its new share, are the totals over the new shares
  totals_replaced : (f g : TransferKey → Totals) (t : TransferKey) (ts : List TransferKey)
      → AreApart E ts → list_any (E t) ts ≡ true → ((k : TransferKey) → E t k ≡ false → g k ≡ f k)
      → (rest : Totals) → plus rest (f t) ≡ totals_over f ts → plus rest (g t) ≡ totals_over g ts
  totals_replaced f g t ts apart among alike rest was =
      by_numbers _ _ (λ n is.
      let changed = sum_changed E same (λ k. n (f k)) (λ k. n (g k)) t ts apart among (λ k e. ap n (alike k e)) in
      omega (arith, changed, ap n was, is.both rest (f t), is.both rest (g t), is.over f ts, is.over g ts))

  -- the share of a transfer is within the totals
  part_of_totals : (f : TransferKey → Totals) (t : TransferKey) (ts : List TransferKey)
      → list_any (E t) ts ≡ true → IsUpTo (f t) (totals_over f ts)
  part_of_totals f t ts among =
      let number = λ (n : Totals → ℕ). part_of_sum E same (λ k. n (f k)) t ts among in
      record {
        sent = number (λ x. x.sent);
        sent_cents = number (λ x. x.sent_cents);
        returned_in = number (λ x. x.returned_in);
        rejected = number (λ x. x.rejected);
        waiting = number (λ x. x.waiting);
        missing = number (λ x. x.missing);
        contradicted = number (λ x. x.contradicted);
        received = number (λ x. x.received);
        received_cents = number (λ x. x.received_cents);
        returned_out = number (λ x. x.returned_out);
      }

-- ---- bounds

-- the most that a share has of each number: it counts a transfer once, and its cents are numbers of 64 bits
abbrev pub most : Totals
most = record {
  sent = 1;
  sent_cents = 18446744073709551615;
  returned_in = 18446744073709551615;
  rejected = 1;
  waiting = 1;
  missing = 1;
  contradicted = 1;
  received = 1;
  received_cents = 18446744073709551615;
  returned_out = 18446744073709551615;
}

both_small : (stands : Standing) (cents : ℕ) (sends receives : Bool) → cents < 2 ^ 64 → cents_back stands < 2 ^ 64
    → IsUpTo (plus (if sends then share_of_originator stands cents else nothing) (if receives then share_of_beneficiary stands cents else nothing)) most
both_small (Returned amount) cents sends receives h k = grind arith
both_small other cents sends receives h k = grind arith

-- a share of a case whose amounts are numbers of 64 bits is small
pub share_small : (bank : List ℕ) (transfer : TransferKey) (case : Kept) → IsSmall case → IsUpTo (share_in bank transfer case) most
unfolding share
share_small bank transfer case h = both_small case.stands _ _ _ h.instructed h.back

-- totals over fewer than 2^64 small shares fit into their types
totals_in_range : (f : TransferKey → Totals) → ((t : TransferKey) → IsUpTo (f t) most) → (ts : List TransferKey)
    → length ts < 2 ^ 64 → IsInRange (totals_over f ts)
totals_in_range f small ts few =
    let at = λ (n : Totals → ℕ) (each : (t : TransferKey) → n (f t) ≤ n most). sum_bounded (λ t. n (f t)) (n most) each ts in
    record {
      sent = omega (arith, at (λ x. x.sent) (λ t. (small t).sent));
      sent_cents = omega (arith, at (λ x. x.sent_cents) (λ t. (small t).sent_cents));
      returned_in = omega (arith, at (λ x. x.returned_in) (λ t. (small t).returned_in));
      rejected = omega (arith, at (λ x. x.rejected) (λ t. (small t).rejected));
      waiting = omega (arith, at (λ x. x.waiting) (λ t. (small t).waiting));
      missing = omega (arith, at (λ x. x.missing) (λ t. (small t).missing));
      contradicted = omega (arith, at (λ x. x.contradicted) (λ t. (small t).contradicted));
      received = omega (arith, at (λ x. x.received) (λ t. (small t).received));
      received_cents = omega (arith, at (λ x. x.received_cents) (λ t. (small t).received_cents));
      returned_out = omega (arith, at (λ x. x.returned_out) (λ t. (small t).returned_out));
    }

-- ---- the totals of a bank, over what is kept of each transfer

-- as a function of the transfer, what a table keeps
abbrev pub Cases : Type 0
Cases = TransferKey → Kept

-- the totals of a bank, over these transfers
abbrev pub totals_by : Cases → List TransferKey → List ℕ → Totals
totals_by cases ts bank = totals_over (λ t. share_in bank t (cases t)) ts

-- they fit into their types
pub shares_in_range : (cases : Cases) (ts : List TransferKey) → ((t : TransferKey) → IsSmall (cases t))
    → length ts < 2 ^ 64 → (bank : List ℕ) → IsInRange (totals_by cases ts bank)
shares_in_range cases ts small few bank =
    totals_in_range (λ t. share_in bank t (cases t)) (λ t. share_small bank t (cases t) (small t)) ts few

-- tables that keep the same of every transfer give the same totals
pub shares_alike : (old new : Cases) → ((k : TransferKey) → new k ≡ old k) → (ts : List TransferKey) (bank : List ℕ)
    → totals_by new ts bank ≡ totals_by old ts bank
shares_alike old new same ts bank = λ i. totals_by (λ k. same k i) ts bank

module _ (E : TransferKey → TransferKey → Bool) (same : (x y : TransferKey) → E x y ≡ true → x ≡ y) where
  -- the share of a transfer is within the totals, so that it can be taken out
  pub part_of_shares : (cases : Cases) (t : TransferKey) (ts : List TransferKey) → list_any (E t) ts ≡ true
      → (bank : List ℕ) → IsUpTo (share_in bank t (cases t)) (totals_by cases ts bank)
  part_of_shares cases t ts among bank =
      part_of_totals E same (λ k. share_in bank k (cases k)) t ts among

  -- what is left when it was taken out, and the share of what is kept anew, are the totals over the new cases
  pub shares_replaced : (old new : Cases) (t : TransferKey) (ts : List TransferKey) → AreApart E ts
      → list_any (E t) ts ≡ true → ((k : TransferKey) → E t k ≡ false → new k ≡ old k)
      → (bank : List ℕ) (rest : Totals) → plus rest (share_in bank t (old t)) ≡ totals_by old ts bank
      → plus rest (share_in bank t (new t)) ≡ totals_by new ts bank
  shares_replaced old new t ts apart among alike bank =
      totals_replaced E same (λ k. share_in bank k (old k)) (λ k. share_in bank k (new k)) t ts apart among (λ k e. ap (share_in bank k) (alike k e))
