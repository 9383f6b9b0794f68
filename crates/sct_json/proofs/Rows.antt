-- What is so of no members, and stays so when a text is put at a key, or a list at its key, is so of the members that are written.
use Rattle.std.proofs.Common.{◌≡◌, refl, ℕ, true, Bool, List, [], ◌∷◌, Some, None, Ordering, Less, Equal, Greater, nat_cmp}
use Rattle.std.specs.List.{list_all}
use Rattle.std.specs.Ordering.{match_ordering}
use Rattle.std.specs.Cmp.Lexicographic.{slice_cmp}
use Rattle.std.proofs.lemmas.Bool.{and_from, and_parts}
use Rattle.serde_json.specs.Data.{Data, string, Members, no_members, member, put}
use Rattle.sct_message.specs.declared.draft.RecallTx.{RecallTx}
use Rattle.sct_message.specs.declared.draft.Draft.{Draft}
use Rattle.sct_message.specs.declared.draft.Draft.TheVariants as draft
use Rattle.sct_json.specs.Keys.{key_text}
use Rattle.sct_json.specs.Reading.{names_of}
use Rattle.sct_json.specs.Writing.{Row, with_rows, with_list, with_transactions, with_elements, head_rows, original_rows, credit_transfer_rows, status_report_rows, status_request_rows, transaction_rows, payment_return_rows, resolution_rows, with_head, with_original}

-- ---- a member that is put

-- P says Q of each member, and Q of a key and a value speaks of one of the two alone
pub record IsOfEach (P : Members → Type 0) (Q : List ℕ → Data → Type 0) : Type 0 where
  pub none : P no_members
  pub both : (k : List ℕ) (d : Data) (ms : Members) → Q k d → P ms → P (member k d ms)
  pub parts : (k : List ℕ) (d : Data) (ms : Members) → P (member k d ms) → Q k d × P ms
  pub mixed : (k l : List ℕ) (d e : Data) → Q k d → Q l e → Q l d

module _ (P : Members → Type 0) (Q : List ℕ → Data → Type 0) (each : IsOfEach P Q) (k : List ℕ) (d : Data) (here : Q k d) where
  kept_at : (o : Ordering) (l : List ℕ) (e : Data) (ms : Members) → P (member l e ms) → P (put k d ms)
      → P (match_ordering o (member k d (member l e ms)) (member l d ms) (member l e (put k d ms)))
  kept_at Less l e ms all later = each.both k d (member l e ms) here all
  kept_at Equal l e ms all later = let at = each.parts l e ms all in each.both l d ms (each.mixed k l d e here at.0) at.1
  kept_at Greater l e ms all later = each.both l e (put k d ms) (each.parts l e ms all).0 later

  -- it stays so if Q holds of the member that is put
  pub kept_put : (ms : Members) → P ms → P (put k d ms)
  kept_put no_members all = each.both k d no_members here all
  kept_put (member l e ms) all = kept_at (slice_cmp nat_cmp k l) l e ms all (kept_put ms (each.parts l e ms all).1)

-- all names pass a test
pub names_put : (p : List ℕ → Bool) (k : List ℕ) (d : Data) (ms : Members) → p k ≡ true → list_all p (names_of ms) ≡ true → list_all p (names_of (put k d ms)) ≡ true
names_put p k d ms here all =
    kept_put (λ (ns : Members). list_all p (names_of ns) ≡ true) (λ name _. p name ≡ true)
    (record { none = refl; both = λ l e ns h rest. and_from _ _ h rest; parts = λ l e ns h. and_parts _ _ h; mixed = λ j l e f h there. there })
    k d here ms all

-- ---- rows

abbrev pub IsKept : (Members → Type 0) → Type 0
IsKept P = (k s : List ℕ) (ms : Members) → P ms → P (put k (string s) ms)

abbrev pub KeepsLists : (Members → Type 0) → Type 0
KeepsLists P = (txs : List RecallTx) (ms : Members) → P ms → P (with_list txs ms)

pub kept_rows : (P : Members → Type 0) → IsKept P → (rs : List Row) (ms : Members) → P ms → P (with_rows rs ms)
kept_rows P kept [] ms h = h
kept_rows P kept ((k, None) ∷ rs) ms h = kept_rows P kept rs ms h
kept_rows P kept ((k, Some s) ∷ rs) ms h = kept_rows P kept rs (put (key_text k) (string s) ms) (kept (key_text k) s ms h)

kept_transactions : (P : Members → Type 0) → IsKept P → KeepsLists P → (txs : List RecallTx) (ms : Members) → P ms → P (with_transactions txs ms)
kept_transactions P kept lists [] ms h = lists [] ms h
kept_transactions P kept lists (tx ∷ []) ms h = kept_rows P kept (transaction_rows tx) ms h
kept_transactions P kept lists (tx ∷ (other ∷ more)) ms h = lists (tx ∷ (other ∷ more)) ms h

pub kept_written : (P : Members → Type 0) → IsKept P → KeepsLists P → P no_members → (m : Draft) → P (with_elements m no_members)
kept_written P kept lists none (draft.CreditTransfer m) =
    kept_rows P kept (credit_transfer_rows m) (with_head m.head no_members) (kept_rows P kept (head_rows m.head) no_members none)
kept_written P kept lists none (draft.StatusReport m) =
    kept_rows P kept (status_report_rows m) (with_original m.original (with_head m.head no_members))
    (kept_rows P kept (original_rows m.original) (with_head m.head no_members) (kept_rows P kept (head_rows m.head) no_members none))
kept_written P kept lists none (draft.StatusRequest m) =
    kept_rows P kept (status_request_rows m) (with_original m.original (with_head m.head no_members))
    (kept_rows P kept (original_rows m.original) (with_head m.head no_members) (kept_rows P kept (head_rows m.head) no_members none))
kept_written P kept lists none (draft.CancellationRequest m) =
    kept_transactions P kept lists m.txs (with_head m.head no_members) (kept_rows P kept (head_rows m.head) no_members none)
kept_written P kept lists none (draft.PaymentReturn m) =
    kept_rows P kept (payment_return_rows m) (with_head m.head no_members) (kept_rows P kept (head_rows m.head) no_members none)
kept_written P kept lists none (draft.Resolution m) =
    kept_rows P kept (resolution_rows m) (with_head m.head no_members) (kept_rows P kept (head_rows m.head) no_members none)
