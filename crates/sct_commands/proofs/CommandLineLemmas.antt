-- What is asked for where clap answers matches or an error. Proof plumbing.
use Rattle.std.proofs.Common.{◌≡◌, ◌≢◌, List, [], true, Option, Some, None, option_map, Result, Ok, Err, IfOk, IfErr, refl, sym, ap, ◌∙◌, subst, inl, inr}
use Rattle.clap.specs.Words.{Text, HasKind, fault_of, is_simple, is_simple_and_free, kind_of}
use Rattle.clap.specs.declared.error.Error.{Error}
use Rattle.clap.specs.declared.error.kind.ErrorKind.TheVariants as kind
use Rattle.clap.proofs.OnLiterals.{clap_on_literals}
use Rattle.sct_commands.specs.declared.fault.ProgramFault.{ProgramFault}
use Rattle.sct_commands.specs.declared.fault.ProgramFault.TheVariants as fault
use Rattle.sct_commands.specs.declared.request.Request.{Request}
use Rattle.sct_commands.specs.declared.request.Request.TheVariants.{Run, Reconcile, Settle, Exchange, Serve, Help, Mistake}
use Rattle.sct_commands.specs.CommandLine.{command_line, order_asked, wrong_asked, AnswersKind, AsksFor, AreAsking}
use Rattle.sct_commands.specs.Mistakes.{mistake_line, Wrong}
use Rattle.sct_commands.specs.Request.{IsMistaken, IsMistakeOf, IsOrdered, IsOrderedOrMistaken, Order}

-- no argument of the command line changes how words are read
pub command_line_is_simple : is_simple command_line ≡ true
unfolding clap_on_literals
command_line_is_simple = refl

-- and none has a rule on another
pub command_line_is_free : is_simple_and_free command_line ≡ true
unfolding clap_on_literals
command_line_is_free = refl

asked_in_place : (words : List Text) (e : Error) (request : Request) → HasKind (fault_of command_line words) e
    → AnswersKind request (kind_of e) × (kind_of e ≢ kind.OutOfMemory) → AsksFor words request
asked_in_place words e (Run job) has answers = absurd answers.0
asked_in_place words e (Reconcile order) has answers = absurd answers.0
asked_in_place words e (Settle files) has answers = absurd answers.0
asked_in_place words e (Exchange request) has answers = absurd answers.0
asked_in_place words e (Serve request) has answers = absurd answers.0
asked_in_place words e (Help text) (inl same) answers = absurd (answers.1 same)
asked_in_place words e (Help text) (inr among) answers = (kind_of e, (among, answers.0))
asked_in_place words e (Mistake text) (inl same) answers = absurd (answers.1 same)
asked_in_place words e (Mistake text) (inr among) answers = inl (kind_of e, (among, answers.0))

pub asked_by_error : (words : List Text) (e : Error) (result : Result Request ProgramFault) → HasKind (fault_of command_line words) e
    → IfOk result (λ request. AnswersKind request (kind_of e) × (kind_of e ≢ kind.OutOfMemory))
    → IfErr result (λ f. f ≡ fault.Memory) → AreAsking words result
asked_by_error words e (Ok request) has answers memory = asked_in_place words e request has answers
asked_by_error words e (Err f) has answers memory = subst (λ g. AreAsking words (Err g)) (sym memory) tt

-- what is ordered is what is asked for
asked_in_order : (words : List Text) (order : Option Order) (request : Request) → fault_of command_line words ≡ [] → order_asked words ≡ order → IsOrdered order (Ok request) → AsksFor words request
asked_in_order words None request clean is ordered = absurd ordered
asked_in_order words (Some order) (Run job) clean is ordered = (clean, is ∙ sym ordered)
asked_in_order words (Some order) (Reconcile with) clean is ordered = (clean, is ∙ sym ordered)
asked_in_order words (Some order) (Settle files) clean is ordered = (clean, is ∙ sym ordered)
asked_in_order words (Some order) (Exchange request) clean is ordered = (clean, is ∙ sym ordered)
asked_in_order words (Some order) (Serve request) clean is ordered = (clean, is ∙ sym ordered)
asked_in_order words (Some order) (Help text) clean is ordered = cc
asked_in_order words (Some order) (Mistake text) clean is ordered = absurd cc

-- and so is what is mistaken
asked_by_mistake : (words : List Text) (wrong : Option Wrong) (request : Request) → fault_of command_line words ≡ [] → order_asked words ≡ None → wrong_asked words ≡ wrong
    → IsMistakeOf wrong request → AsksFor words request
asked_by_mistake words None request clean none names is = absurd is
asked_by_mistake words (Some wrong) (Mistake text) clean none names is =
    inr (record { no_error = clean; no_order = none; named = ap (option_map mistake_line) names ∙ ap Some (sym is) })
asked_by_mistake words (Some wrong) (Run job) clean none names is = absurd is
asked_by_mistake words (Some wrong) (Reconcile with) clean none names is = absurd is
asked_by_mistake words (Some wrong) (Settle files) clean none names is = absurd is
asked_by_mistake words (Some wrong) (Exchange request) clean none names is = absurd is
asked_by_mistake words (Some wrong) (Serve request) clean none names is = absurd is
asked_by_mistake words (Some wrong) (Help text) clean none names is = absurd is

pub asked_by_order : (words : List Text) (order : Option Order) (wrong : Option Wrong) (result : Result Request ProgramFault) → fault_of command_line words ≡ [] → order_asked words ≡ order
    → wrong_asked words ≡ wrong → IsOrderedOrMistaken order wrong result → AreAsking words result
asked_by_order words (Some order) wrong (Ok request) clean is names ordered = asked_in_order words (Some order) request clean is ordered
asked_by_order words None wrong (Ok request) clean is names ordered = asked_by_mistake words wrong request clean is names ordered
asked_by_order words (Some order) wrong (Err fault.Usage) clean is names ordered = absurd cc
asked_by_order words None wrong (Err fault.Usage) clean is names ordered = (clean, is, names ∙ ordered)
asked_by_order words (Some order) wrong (Err fault.Memory) clean is names ordered = tt
asked_by_order words None wrong (Err fault.Memory) clean is names ordered = tt
asked_by_order words None wrong (Err fault.TooLong) clean is names ordered = absurd ordered
asked_by_order words (Some order) wrong (Err fault.TooLong) clean is names ordered = absurd ordered
asked_by_order words None wrong (Err fault.Read) clean is names ordered = absurd ordered
asked_by_order words (Some order) wrong (Err fault.Read) clean is names ordered = absurd ordered
asked_by_order words None wrong (Err fault.Write) clean is names ordered = absurd ordered
asked_by_order words (Some order) wrong (Err fault.Write) clean is names ordered = absurd ordered
asked_by_order words None wrong (Err (fault.BadList row)) clean is names ordered = absurd ordered
asked_by_order words (Some order) wrong (Err (fault.BadList row)) clean is names ordered = absurd ordered
asked_by_order words None wrong (Err fault.Held) clean is names ordered = absurd ordered
asked_by_order words (Some order) wrong (Err fault.Held) clean is names ordered = absurd ordered
asked_by_order words None wrong (Err (fault.Refused number)) clean is names ordered = absurd ordered
asked_by_order words (Some order) wrong (Err (fault.Refused number)) clean is names ordered = absurd ordered
asked_by_order words None wrong (Err fault.NoWorker) clean is names ordered = absurd ordered
asked_by_order words (Some order) wrong (Err fault.NoWorker) clean is names ordered = absurd ordered
asked_by_order words None wrong (Err fault.NoJournal) clean is names ordered = absurd ordered
asked_by_order words (Some order) wrong (Err fault.NoJournal) clean is names ordered = absurd ordered
asked_by_order words None wrong (Err fault.OtherSite) clean is names ordered = absurd ordered
asked_by_order words (Some order) wrong (Err fault.OtherSite) clean is names ordered = absurd ordered
asked_by_order words None wrong (Err fault.Busy) clean is names ordered = absurd ordered
asked_by_order words (Some order) wrong (Err fault.Busy) clean is names ordered = absurd ordered
asked_by_order words None wrong (Err fault.Disk) clean is names ordered = absurd ordered
asked_by_order words (Some order) wrong (Err fault.Disk) clean is names ordered = absurd ordered

-- ---- an order, or a mistake

pub ordered_ok : (order : Option Order) (wrong : Option Wrong) (request : Request) → IsOrdered order (Ok request) → IsOrderedOrMistaken order wrong (Ok request)
ordered_ok (Some order) wrong request ordered = ordered
ordered_ok None wrong request ordered = absurd ordered

pub ordered_err : (order : Option Order) (wrong : Option Wrong) (f : ProgramFault) (result : Result Request ProgramFault) → IsOrdered order (Err f)
    → (f ≡ fault.Usage → IsMistaken wrong result) → (f ≢ fault.Usage → result ≡ Err f) → IsOrderedOrMistaken order wrong result
ordered_err (Some order) wrong fault.Usage result ordered mistaken same = absurd cc
ordered_err None wrong fault.Usage result ordered mistaken same = mistaken refl
ordered_err (Some order) wrong fault.Memory result ordered mistaken same =
    subst (λ r. IsOrderedOrMistaken (Some order) wrong r) (sym (same (λ is. absurd cc))) tt
ordered_err None wrong fault.Memory result ordered mistaken same = subst (λ r. IsOrderedOrMistaken None wrong r) (sym (same (λ is. absurd cc))) tt
ordered_err (Some order) wrong fault.TooLong result ordered mistaken same = absurd ordered
ordered_err None wrong fault.TooLong result ordered mistaken same = absurd ordered
ordered_err (Some order) wrong fault.Read result ordered mistaken same = absurd ordered
ordered_err None wrong fault.Read result ordered mistaken same = absurd ordered
ordered_err (Some order) wrong fault.Write result ordered mistaken same = absurd ordered
ordered_err None wrong fault.Write result ordered mistaken same = absurd ordered
ordered_err (Some order) wrong (fault.BadList row) result ordered mistaken same = absurd ordered
ordered_err None wrong (fault.BadList row) result ordered mistaken same = absurd ordered
ordered_err (Some order) wrong fault.Held result ordered mistaken same = absurd ordered
ordered_err None wrong fault.Held result ordered mistaken same = absurd ordered
ordered_err (Some order) wrong (fault.Refused number) result ordered mistaken same = absurd ordered
ordered_err None wrong (fault.Refused number) result ordered mistaken same = absurd ordered
ordered_err (Some order) wrong fault.NoWorker result ordered mistaken same = absurd ordered
ordered_err None wrong fault.NoWorker result ordered mistaken same = absurd ordered
ordered_err (Some order) wrong fault.NoJournal result ordered mistaken same = absurd ordered
ordered_err None wrong fault.NoJournal result ordered mistaken same = absurd ordered
ordered_err (Some order) wrong fault.OtherSite result ordered mistaken same = absurd ordered
ordered_err None wrong fault.OtherSite result ordered mistaken same = absurd ordered
ordered_err (Some order) wrong fault.Busy result ordered mistaken same = absurd ordered
ordered_err None wrong fault.Busy result ordered mistaken same = absurd ordered
ordered_err (Some order) wrong fault.Disk result ordered mistaken same = absurd ordered
ordered_err None wrong fault.Disk result ordered mistaken same = absurd ordered
