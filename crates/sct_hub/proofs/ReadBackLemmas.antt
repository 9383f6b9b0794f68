-- What a site writes is read back. Proof plumbing.
use Rattle.std.proofs.Common.{◌≡◌, ◌∙◌, ◌⊎◌, inl, inr, refl, ap, sym, subst, ℕ, zero, suc, ◌+◌, ◌<◌, ◌≤◌, ◌^◌, Bool, true, false, not, cond, ◌||◌, List, [], ◌∷◌, ◌++◌, length, filter, take, drop, arith, get_or}
use Rattle.std.specs.Prelude.{flat_map, Ok}
use Rattle.std.proofs.Math.Bool.{or-true}
use Rattle.std.proofs.lemmas.Bool.{false≢true}
use Rattle.std.proofs.lemmas.Cmp.{eq_by_cmp_equiv}
use Rattle.std.proofs.lemmas.Map.Keys.{IsDistinct-from_sorted}
use Rattle.std.proofs.lemmas.Map.Made.{length-le_from_is_member}
use Rattle.sct_message.specs.Ascending.{ascending}
use Rattle.sct_message.specs.declared.draft.Draft.{Draft}
use Rattle.sct_message.proofs.AscendingLemmas.{ascending_rises, members_ascending}
use Rattle.sct_json.specs.Reading.{message_in}
use Rattle.sct_delta.specs.DeltaText.{delta_in}
use Rattle.sct_delta.specs.Entries.{IsArrivals, IsDelta, Placed, entries_from, held_from, holds, is_from, log_of, numbered, same_entry}
use Rattle.sct_delta.specs.EntryText.{IsEntryText, TellEntries}
use Rattle.sct_delta.specs.GroupText.{AreGroups, Group, IsGroupText, IsWritable, TellMessages, group_entries}
use Rattle.sct_delta.specs.Refusals.{is_held}
use Rattle.sct_delta.proofs.DeltaLemmas.{form_from_read, read_from_form}
use Rattle.sct_delta.proofs.GroupWritingLemmas.{written_is_form}
use Rattle.sct_delta.proofs.EntryLemmas.{length-numbered}
use Rattle.sct_delta.proofs.HeldLemmas.{entry_itself, one_entry}
use Rattle.sct_site.specs.Cores.{Core, IsSite, entries_above, entry_order, fresh_entries, is_above, logs_of, own_entry}
use Rattle.sct_site.proofs.AboveLemmas.{entry_same, entry_total}
use Rattle.sct_site.proofs.ArrivalLemmas.{length-log}
use Rattle.sct_site.proofs.HeldLemmas.{among_above, any_kept, one_of, one_place}
use Rattle.sct_exchange.specs.Entries.{entries_asked}
use Rattle.sct_exchange.specs.Journals.{opened}
use Rattle.sct_requests.specs.Steps.{AreKept, core_after, core_given, core_kept, text_in}
use Rattle.sct_requests.proofs.BringLemmas.{brings_how}
use Rattle.sct_read_again.specs.ReadAgain.{MessagesAreReadAgain}
use Rattle.sct_hub.specs.Hubs.{AreFew}
use Rattle.sct_hub.specs.ReadBack.{HeldDeltasAreReadBack, HeldMessagesWereRead, TextsAreReadBack, WasRead}
use Rattle.sct_hub.proofs.AlikeLemmas.{live_site}
use Rattle.sct_hub.proofs.CatchUpLemmas.{cut_shape, within_log}
use Rattle.sct_hub.proofs.EntriesLemmas.{IsAsked, asked_delta, asked_held, asked_is}
use Rattle.sct_hub.proofs.RoundLemmas.{alone}

-- ---- the messages of a delta that was read

held_of : (x : Placed) (xs : List Placed) (e : Placed) → holds (x ∷ xs) e ≡ true → (x ≡ e) ⊎ (holds xs e ≡ true)
held_of x xs e held = (elim (same_entry x e) as (λ b. same_entry x e ≡ b → (b || holds xs e) ≡ true → (x ≡ e) ⊎ (holds xs e ≡ true)) [
  | true ↦ λ same h. inl (one_entry x e same)
  | false ↦ λ other h. inr h
]) refl held

told_entries : (lines : List (List ℕ)) (entries : List Placed) → TellEntries lines entries → (e : Placed) → holds entries e ≡ true → WasRead e.message
told_entries [] [] told e held = absurd (false≢true held)
told_entries [] (x ∷ xs) told e held = absurd told
told_entries (line ∷ lines) [] told e held = absurd told
told_entries (line ∷ lines) (x ∷ xs) told e held = elim (held_of x xs e held) as (λ c. WasRead e.message) [
  | inl is ↦ (told.0.json, told.0.message ∙ ap (λ (y : Placed). Ok y.message) is)
  | inr later ↦ told_entries lines xs told.1 e later
]

told_messages : (o n : ℕ) (texts : List (List ℕ)) (messages : List Draft) → TellMessages texts messages → (e : Placed) → holds (numbered o n messages) e ≡ true → WasRead e.message
told_messages o n [] [] told e held = absurd (false≢true held)
told_messages o n [] (m ∷ ms) told e held = absurd told
told_messages o n (text ∷ texts) [] told e held = absurd told
told_messages o n (text ∷ texts) (m ∷ ms) told e held = elim (held_of (record { origin = o; n = n; message = m }) (numbered o (n + 1) ms) e held) as (λ c. WasRead e.message) [
  | inl is ↦ (text, told.0 ∙ ap (λ (y : Placed). Ok y.message) is)
  | inr later ↦ told_messages o (n + 1) texts ms told.1 e later
]

told_groups : (before : ℕ) (groups : List Group) → AreGroups before groups → (e : Placed) → holds (flat_map group_entries groups) e ≡ true → WasRead e.message
told_groups before [] are e held = absurd (false≢true held)
told_groups before (group ∷ groups) are e held = elim (one_of (group_entries group) (flat_map group_entries groups) e held) as (λ c. WasRead e.message) [
  | inl here ↦ told_messages group.origin group.first group.texts group.messages are.1 e here
  | inr later ↦ told_groups group.origin groups are.2 e later
]

pub delta_read : (text : List ℕ) (delta : List Placed) → delta_in text ≡ Ok delta → (e : Placed) → holds delta e ≡ true → WasRead e.message
delta_read text delta read e held = elim (form_from_read text delta read) as (λ c. WasRead e.message) [
  | inl form ↦ told_entries form.lines delta form.told e held
  | inr form ↦ told_groups 0 form.groups form.stand e (ap (λ (l : List Placed). holds l e) (sym form.all) ∙ held)
]

-- ---- the messages that a site holds

read_along : (lines : List (List ℕ)) (core : Core) → AreKept core lines → ((e : Placed) → holds core.arrivals e ≡ true → WasRead e.message)
    → (e : Placed) → holds (core_after core lines).arrivals e ≡ true → WasRead e.message
read_along [] core some was e held = was e held
read_along (line ∷ lines) core some was e held = read_along lines (core_given core line) some.1 (λ x there. (elim (brings_how core line some.0) as (λ c. WasRead x.message) [
  | inl how ↦ elim (one_of core.arrivals (own_entry core how.message ∷ []) x (ap (λ (c : Core). holds c.arrivals x) (sym how.is) ∙ there)) as (λ c. WasRead x.message) [
    | inl old ↦ was x old
    | inr new ↦ (line, how.read ∙ ap (λ (y : Placed). Ok y.message) (one_entry (own_entry core how.message) x (alone (own_entry core how.message) x new)))
  ]
  | inr how ↦ elim (one_of core.arrivals (fresh_entries core.arrivals how.delta) x (ap (λ (c : Core). holds c.arrivals x) (sym how.is) ∙ there)) as (λ c. WasRead x.message) [
    | inl old ↦ was x old
    | inr new ↦ delta_read (text_in line) how.delta how.read x (any_kept (λ y. not (is_held (logs_of core.arrivals) y)) (λ y. same_entry y x) how.delta new)
  ]
])) e held

pub were_read : HeldMessagesWereRead
were_read site sites lines some e held = read_along lines (opened site sites) some (λ x none. absurd (false≢true none)) e held

-- ---- what a site writes

filter_short : (p : Placed → Bool) (es : List Placed) → length (filter p es) ≤ length es
filter_short p [] = omega arith
filter_short p (e ∷ es) = (elim (p e) as (λ b. length (cond b (e ∷ filter p es) (filter p es)) ≤ suc (length es)) [
  | true ↦ omega (arith, filter_short p es)
  | false ↦ omega (arith, filter_short p es)
])

number_low : (es : List Placed) → IsArrivals es → (e : Placed) → holds es e ≡ true → e.n ≤ length es
number_low es order e held =
    let place : e.n ≤ length (log_of e.origin es) = within_log (log_of e.origin es) e.n e.message (one_place es order e held) in
    omega (arith, place, length-log e.origin es, filter_short (is_from e.origin) es)

pub later : (P : Placed → Type 0) (x : Placed) (xs : List Placed) → ((e : Placed) → holds (x ∷ xs) e ≡ true → P e) → (e : Placed) → holds xs e ≡ true → P e
later P x xs each e held = each e (ap (λ (b : Bool). same_entry x e || b) held ∙ or-true (same_entry x e))

all_by : (P : Placed → Type 0) (es : List Placed) → ((e : Placed) → holds es e ≡ true → P e) → (k : ℕ) (d : Placed) → k < length es → P (get_or es k d)
all_by P [] each k d below = absurd (omega (arith, below))
all_by P (e ∷ es) each zero d below = each e (ap (λ (b : Bool). b || holds es e) (entry_itself e))
all_by P (e ∷ es) each (suc k) d below = all_by P es (later P e es each) k d (omega (arith, below))

-- a cut is no longer than what is held
above_short : (have : ℕ → ℕ) (es : List Placed) → length (entries_above have es) ≤ length es
unfolding entries_above
above_short have es =
    let few : length (ascending entry_order (filter (is_above have) es)) ≤ length (filter (is_above have) es) =
    length-le_from_is_member (eq_by_cmp_equiv entry_total) (ascending entry_order (filter (is_above have) es)) (filter (is_above have) es)
    (IsDistinct-from_sorted entry_order (ascending entry_order (filter (is_above have) es)) (ascending_rises entry_total entry_same (filter (is_above have) es)))
    (λ q among. sym (members_ascending entry_total entry_same (filter (is_above have) es) q) ∙ among) in
    omega (arith, few, filter_short (is_above have) es)

take_short : (k : ℕ) (ms : List Draft) → length (take k ms) ≤ length ms
take_short zero ms = omega arith
take_short (suc k) [] = omega arith
take_short (suc k) (m ∷ ms) = omega (arith, take_short k ms)

drop_short : (k : ℕ) (ms : List Draft) → length (drop k ms) ≤ length ms
drop_short zero ms = omega arith
drop_short (suc k) [] = omega arith
drop_short (suc k) (m ∷ ms) = omega (arith, drop_short k ms)

-- and so are entries of one origin
asked_short : (origin above most : ℕ) (es : List Placed) → length (entries_asked origin above most es) ≤ length es
asked_short origin above most es =
    let asked : IsAsked origin above most es = asked_is origin above most es in
    let size : length (entries_asked origin above most es) ≡ length (take asked.count (drop above (log_of origin es))) =
    ap length asked.is ∙ length-numbered origin (above + 1) (take asked.count (drop above (log_of origin es))) in
    omega (arith, size, take_short asked.count (drop above (log_of origin es)), drop_short above (log_of origin es), length-log origin es, filter_short (is_from origin) es)

pub read_back : MessagesAreReadAgain → HeldDeltasAreReadBack
read_back again site sites lines valid are some few delta shape short held =
    let here : IsSite (core_kept site sites lines) = live_site site sites valid lines are some in
    read_from_form _ delta (inr (written_is_form delta short shape (all_by IsWritable delta (λ e among.
    let was : WasRead e.message = were_read site sites lines some e (held e among) in
    record {
      reads_back = again was.0 e.message was.1;
      small = omega (arith, few, number_low (core_kept site sites lines).arrivals here.order e (held e among));
    }))))

pub texts_back : MessagesAreReadAgain → TextsAreReadBack
texts_back again site sites lines valid are some few =
    let here : IsSite (core_kept site sites lines) = live_site site sites valid lines are some in
    record {
      cuts = λ have.
          read_back again site sites lines valid are some few (entries_above have (core_kept site sites lines).arrivals)
          (cut_shape (core_kept site sites lines) here have)
          (omega (arith, few, above_short have (core_kept site sites lines).arrivals))
          (among_above have (core_kept site sites lines).arrivals);
      entries = λ origin above most.
          read_back again site sites lines valid are some few (entries_asked origin above most (core_kept site sites lines).arrivals)
          (asked_delta (core_kept site sites lines) here origin above most)
          (omega (arith, few, asked_short origin above most (core_kept site sites lines).arrivals))
          (asked_held origin above most (core_kept site sites lines).arrivals here.order);
    }
