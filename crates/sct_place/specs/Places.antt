-- What calls do to a place in which a program in another language keeps a site: the site before and after, and what the call
-- returns. Read by an auditor.
use Rattle.std.specs.Prelude.{◌≡◌, ◌≤◌, ◌⊎◌, ℕ, List, [], Option, Some, None, Result, Ok, Err, OnOk, OnErr, IfOk, IfErr, true, false, length, take, drop, ◌<◌, ⊤}
use Rattle.std.specs.Result.{result_err}
use Rattle.sct_delta.specs.declared.fault.DeltaFault.TheVariants as delta
use Rattle.sct_lines.specs.Lines.{messages_read, refusals_told, told_text_of}
use Rattle.sct_rights.specs.Listing.{banks_in}
use Rattle.sct_site.specs.Cores.{Core, is_open}
use Rattle.sct_site.specs.declared.answers.Took.{Took}
use Rattle.sct_site.specs.declared.answers.Accepted.{Accepted}
use Rattle.sct_embed.specs.Asking.{answer_to_question, watched_after_answer}
use Rattle.sct_embed.specs.Calls.{IsTaken, IsDeltaAccepted, RefusesMessage, RefusesDelta}
use Rattle.sct_embed.specs.Counts.{AreCounts}
use Rattle.sct_embed.specs.Embeddings.{Embedding}
use Rattle.sct_place.specs.Keeping.{IsSeenAlike, is_snapshot, seen}
use Rattle.sct_place.specs.Outcomes.{accept_as, done_as, refused_as, take_as, take_lines_as}
use Rattle.sct_embed.specs.Questions.{Answers}
use Rattle.sct_place.specs.Reasons.{why_text}
use Rattle.sct_embed.specs.Restoring.{core_restored, restored_text}
use Rattle.sct_embed.specs.Sending.{IsTakenFor, RefusesFor}
use Rattle.sct_embed.specs.Taking.{ArePartlyTaken, AreTaken}
use Rattle.sct_embed.specs.declared.faults.EmbedFault.{EmbedFault}
use Rattle.sct_embed.specs.declared.faults.EmbedFault.TheVariants as fault
use Rattle.sct_place.specs.declared.kept.Content.TheVariants as content
use Rattle.sct_place.specs.declared.kept.KeptSite.{KeptSite}
use Rattle.sct_place.specs.declared.outcomes.CallOutcome.{CallOutcome}
use Rattle.sct_place.specs.declared.outcomes.TakeOutcome.{TakeOutcome}
use Rattle.sct_place.specs.declared.outcomes.LinesOutcome.{LinesOutcome}
use Rattle.sct_place.specs.declared.outcomes.AcceptOutcome.{AcceptOutcome}
use Rattle.sct_embed.specs.declared.question.Question.{Question}
use Rattle.sct_embed.specs.declared.taking.TakenLines.{TakenLines}

-- ---- calls of a place

-- the site that a place answers as
abbrev pub answering_as : KeptSite → Embedding
answering_as kept = seen kept.content

-- A place holds a site afterwards, with this property. With the site it keeps why its last call was refused.
abbrev pub HasSite : (KeptSite → Type 0) → Option KeptSite → Type 0
HasSite Property None = ⊥
HasSite Property (Some kept) = Property kept

-- A call of an empty place is refused with 70, and leaves it empty. A call of a place with a site does this to what it keeps.
abbrev pub IsCalled : {Told : Type 0} → (EmbedFault → Told) → (KeptSite → Told → KeptSite → Type 0)
    → Option KeptSite → Told → Option KeptSite → Type 0
IsCalled refused Does None outcome after = (outcome ≡ refused fault.Empty) × (after ≡ None)
IsCalled refused Does (Some kept) outcome after = HasSite (Does kept outcome) after

-- ---- a site begins

-- A place that has a site is refused with 71, and keeps it. An empty place has a site with this property afterwards, whose
-- answer has the length that is returned, and nothing was refused yet. Or it is refused for this reason, and stays empty.
abbrev pub IsPlaceFilled : (Embedding → Type 0) → (EmbedFault → Type 0) → Option KeptSite → CallOutcome → Option KeptSite → Type 0
IsPlaceFilled Opened Refused (Some kept) outcome after = (outcome ≡ refused_as fault.Full) × (after ≡ Some kept)
IsPlaceFilled Opened Refused None outcome (Some kept) =
    (outcome ≡ done_as (Ok tt) (length (answering_as kept).answer)) × (Opened (answering_as kept) × ((is_snapshot kept.content ≡ false) × (kept.why ≡ None)))
IsPlaceFilled Opened Refused None outcome None = (reason : EmbedFault) × ((outcome ≡ refused_as reason) × Refused reason)

-- There is no such site, or the call is out of memory.
abbrev pub NoSite : ℕ → ℕ → EmbedFault → Type 0
NoSite number group (fault.Delta delta.BadSite) = is_open number group ≡ false
NoSite number group fault.Memory = ⊤
NoSite number group other = ⊥

-- There is such a site, and it is a new one: it holds nothing, and its answer is empty.
abbrev pub IsOpened : ℕ → ℕ → Embedding → Type 0
IsOpened number group site =
    (is_open number group ≡ true)
    × (site ≡ record { core = record { number = number; group = group; arrivals = [] }; answer = []; watched = None })

-- There is such a site, and it is made anew from a journal and a text.
abbrev pub IsRestored : ℕ → ℕ → List ℕ → List ℕ → Embedding → Type 0
IsRestored number group journal text site =
    (is_open number group ≡ true)
    × (site ≡ record {
      core = core_restored number group journal text;
      answer = restored_text number group journal text;
      watched = None;
    })

abbrev pub Opens : ℕ → ℕ → Option KeptSite → CallOutcome → Option KeptSite → Type 0
Opens number group = IsPlaceFilled (IsOpened number group) (NoSite number group)

abbrev pub Restores : ℕ → ℕ → List ℕ → List ℕ → Option KeptSite → CallOutcome → Option KeptSite → Type 0
Restores number group journal text = IsPlaceFilled (IsRestored number group journal text) (NoSite number group)

-- A place gets a site that was opened; or it is out of memory for the site, and is as it was.
abbrev pub IsFilledWith : Result Embedding EmbedFault → Option KeptSite → CallOutcome → Option KeptSite → Type 0
IsFilledWith (Err reason) before outcome after = (outcome ≡ refused_as reason) × (after ≡ before)
IsFilledWith (Ok site) before outcome after =
    ((outcome ≡ done_as (Ok tt) (length site.answer)) × (after ≡ Some (record { content = content.Own site; why = None })))
    ⊎ ((outcome ≡ refused_as fault.Memory) × (after ≡ before))

-- ---- a snapshot is made

-- It is a snapshot of this site, with an empty answer, and nothing was refused yet.
abbrev pub IsSnapshotOf : Core → KeptSite → Type 0
IsSnapshotOf core kept =
    (answering_as kept ≡ record { core = core; answer = []; watched = None }) × ((is_snapshot kept.content ≡ true) × (kept.why ≡ None))

-- The place answers as it did. It keeps that the call is out of memory, or nothing, and only then a snapshot is there.
pub record Snapshots (before : KeptSite) (outcome : CallOutcome) (later : KeptSite) (made : Option KeptSite) : Type 0 where
  pub done : Result Unit EmbedFault
  pub told : outcome ≡ done_as done 0
  pub why : later.why ≡ result_err done
  pub alike : IsSeenAlike before.content later.content
  pub filled : OnOk done (HasSite (IsSnapshotOf (answering_as before).core) made)
  pub err : IfErr done (λ reason. reason ≡ fault.Memory)
  pub none : OnErr done (made ≡ None)

-- A snapshot of the site of a place is made in another place. If there is no site, the call is refused with 70, and if the other
-- place has one, with 71. Then both places are as they were.
abbrev pub MakesSnapshot : Option KeptSite → Option KeptSite → CallOutcome → Option KeptSite → Option KeptSite → Type 0
MakesSnapshot None into outcome after made = (outcome ≡ refused_as fault.Empty) × ((after ≡ None) × (made ≡ into))
MakesSnapshot (Some kept) (Some other) outcome after made = (outcome ≡ refused_as fault.Full) × ((after ≡ Some kept) × (made ≡ Some other))
MakesSnapshot (Some kept) None outcome after made = HasSite (λ later. Snapshots kept outcome later made) after

-- ---- messages and deltas. After each of these calls the place keeps why it was refused, or nothing

-- A snapshot refuses with 85 what would change it.
pub record IsSnapshotRefused {T : Type 0} (done : Result T EmbedFault) : Type 0 where
  pub reason : IfErr done (λ reason. reason ≡ fault.Snapshot)
  pub refused : OnOk done ⊥

-- The site took the message, or refused it and is as it was.
pub record Takes (json : List ℕ) (before : KeptSite) (outcome : TakeOutcome) (later : KeptSite) : Type 0 where
  pub done : Result Took EmbedFault
  pub told : outcome ≡ take_as done
  pub why : later.why ≡ result_err done
  pub taken : IfOk done (λ took. IsTaken (answering_as before).core json took (answering_as later).core)
  pub err : is_snapshot before.content ≡ false → IfErr done (RefusesMessage json)
  pub snapshot : is_snapshot before.content ≡ true → IsSnapshotRefused done
  pub answer : (answering_as later).answer ≡ (answering_as before).answer
  pub watched : (answering_as later).watched ≡ (answering_as before).watched
  pub unchanged : OnErr done (later.content ≡ before.content)
  pub kind : is_snapshot later.content ≡ is_snapshot before.content

-- The site took the message, which may be sent in the name of the banks, or refused it and is as it was.
pub record TakesAs (banks json : List ℕ) (before : KeptSite) (outcome : TakeOutcome) (later : KeptSite) : Type 0 where
  pub done : Result Took EmbedFault
  pub told : outcome ≡ take_as done
  pub why : later.why ≡ result_err done
  pub taken : IfOk done (λ took. IsTakenFor (answering_as before).core (banks_in banks) json took (answering_as later).core)
  pub err : is_snapshot before.content ≡ false → IfErr done (RefusesFor (answering_as before).core (banks_in banks) json)
  pub snapshot : is_snapshot before.content ≡ true → IsSnapshotRefused done
  pub answer : (answering_as later).answer ≡ (answering_as before).answer
  pub watched : (answering_as later).watched ≡ (answering_as before).watched
  pub unchanged : OnErr done (later.content ≡ before.content)
  pub kind : is_snapshot later.content ≡ is_snapshot before.content

-- The site accepted the delta, or refused it and is as it was.
pub record Accepts (text : List ℕ) (before : KeptSite) (outcome : AcceptOutcome) (later : KeptSite) : Type 0 where
  pub done : Result Accepted EmbedFault
  pub told : outcome ≡ accept_as done
  pub why : later.why ≡ result_err done
  pub accepted : IfOk done (λ accepted. IsDeltaAccepted (answering_as before).core text accepted (answering_as later).core)
  pub err : is_snapshot before.content ≡ false → IfErr done (RefusesDelta (answering_as before).core text)
  pub snapshot : is_snapshot before.content ≡ true → IsSnapshotRefused done
  pub answer : (answering_as later).answer ≡ (answering_as before).answer
  pub watched : (answering_as later).watched ≡ (answering_as before).watched
  pub unchanged : OnErr done (later.content ≡ before.content)
  pub kind : is_snapshot later.content ≡ is_snapshot before.content

-- The site took the messages of the lines, and names those that it refused. Or it is out of memory, and took the first ones.
pub record TakesLines (text : List ℕ) (before : KeptSite) (outcome : LinesOutcome) (later : KeptSite) : Type 0 where
  pub done : Result TakenLines EmbedFault
  pub told : outcome ≡ take_lines_as done (length (answering_as later).answer)
  pub why : later.why ≡ result_err done
  pub taken : IfOk done (λ taken. AreTaken (answering_as before).core text taken (answering_as later).core)
  pub answer : OnOk done ((answering_as later).answer ≡ told_text_of (refusals_told text))
  pub watched : (answering_as later).watched ≡ (answering_as before).watched
  pub err : is_snapshot before.content ≡ false → IfErr done (λ reason. reason ≡ fault.Memory)
  pub snapshot : is_snapshot before.content ≡ true → IsSnapshotRefused done
  pub partly : OnErr done (ArePartlyTaken (answering_as before).core (messages_read text) (answering_as later).core)
  pub answer_kept : OnErr done ((answering_as later).answer ≡ (answering_as before).answer)
  pub unchanged : is_snapshot before.content ≡ true → later.content ≡ before.content
  pub kind : is_snapshot later.content ≡ is_snapshot before.content

-- ---- questions. After each the place keeps why it was refused, or nothing

-- The answer is the answer to the question. Or the question is refused, and the site is as it was.
pub record Asks (question : Question) (before : KeptSite) (outcome : CallOutcome) (later : KeptSite) : Type 0 where
  pub done : Result Unit EmbedFault
  pub told : outcome ≡ done_as done (length (answering_as later).answer)
  pub why : later.why ≡ result_err done
  pub answer : Answers (answer_to_question question (answering_as before)) done (answering_as later).answer
  pub core : (answering_as later).core ≡ (answering_as before).core
  pub watched : OnOk done ((answering_as later).watched ≡ watched_after_answer question (answering_as before))
  pub unchanged : OnErr done (answering_as later ≡ answering_as before)
  pub kind : is_snapshot later.content ≡ is_snapshot before.content

-- The site is as it was, whether what is new was evaluated or the call is out of memory.
pub record Evaluates (before : KeptSite) (outcome : CallOutcome) (later : KeptSite) : Type 0 where
  pub done : Result Unit EmbedFault
  pub told : outcome ≡ done_as done (length (answering_as before).answer)
  pub why : later.why ≡ result_err done
  pub alike : IsSeenAlike before.content later.content
  pub err : IfErr done (λ reason. reason ≡ fault.Memory)

-- ---- what is copied out; the place answers as it did

-- The counts of origin 1, 2, .. are written, unless more than 1024 are asked for. A snapshot may be out of memory for them.
pub record Counts (before after : List ℕ) (kept : KeptSite) (outcome : CallOutcome) (later : KeptSite) : Type 0 where
  pub done : Result Unit EmbedFault
  pub told : outcome ≡ done_as done 0
  pub counts : OnOk done (AreCounts (answering_as kept).core.arrivals after)
  pub err : IfErr done (λ reason. ((reason ≡ fault.Delta delta.BadSite) × (1024 < length before))
      ⊎ ((reason ≡ fault.Memory) × (is_snapshot kept.content ≡ true)))
  pub unwritten : OnErr done (after ≡ before)
  pub why : later.why ≡ kept.why
  pub alike : IsSeenAlike kept.content later.content

-- A text is copied to the start of the room if it fits, and nothing is written otherwise.
pub record IsCopied (text before after : List ℕ) : Type 0 where
  pub copied : length text ≤ length before → take (length text) after ≡ text
  pub rest : length text ≤ length before → drop (length text) after ≡ drop (length text) before
  pub unwritten : length before < length text → after ≡ before

-- The answer is copied if it fits. Its length is returned.
pub record Copies (before after : List ℕ) (kept : KeptSite) (outcome : CallOutcome) (later : KeptSite) : Type 0 where
  pub told : outcome ≡ done_as (Ok tt) (length (answering_as kept).answer)
  pub copied : IsCopied (answering_as kept).answer before after
  pub same : later ≡ kept

-- the part of a text that begins after its first `from` bytes, as far as there is room
abbrev pub part_of : ℕ → ℕ → List ℕ → List ℕ
part_of from room text = take room (drop from text)

-- A part of the answer is copied. Its length is returned.
pub record CopiesPart (from : ℕ) (before after : List ℕ) (kept : KeptSite) (outcome : CallOutcome) (later : KeptSite) : Type 0 where
  pub told : outcome ≡ done_as (Ok tt) (length (part_of from (length before) (answering_as kept).answer))
  pub copied : IsCopied (part_of from (length before) (answering_as kept).answer) before after
  pub same : later ≡ kept

-- The text of the reason that the place keeps is copied if it fits. Its length is returned. Or the call is out of memory, and
-- nothing is written.
pub record CopiesReason (before after : List ℕ) (kept : KeptSite) (outcome : CallOutcome) (later : KeptSite) : Type 0 where
  pub done : Result Unit EmbedFault
  pub told : outcome ≡ done_as done (length (why_text kept.why))
  pub copied : OnOk done (IsCopied (why_text kept.why) before after)
  pub err : IfErr done (λ reason. reason ≡ fault.Memory)
  pub unwritten : OnErr done (after ≡ before)
  pub same : later ≡ kept

-- ---- the answer ends

-- The answer is empty afterwards, and all else is as it was.
pub record EndsAnswer (before : KeptSite) (outcome : CallOutcome) (later : KeptSite) : Type 0 where
  pub told : outcome ≡ done_as (Ok tt) 0
  pub why : later.why ≡ before.why
  pub site : answering_as later ≡ record { core = (answering_as before).core; answer = []; watched = (answering_as before).watched }
  pub kind : is_snapshot later.content ≡ is_snapshot before.content
