-- What answered lines leave, lines after lines. Proof plumbing.
use Rattle.std.proofs.Common.{◌≡◌, ◌∙◌, refl, ap, sym, subst, inl, inr, ℕ, ◌==◌, Bool, true, length, List, [], ◌∷◌, ◌++◌, take, drop, arith, append_assoc, eqb-true}
use Rattle.std.specs.Prelude.{Option, Some, None}
use Rattle.std.proofs.lemmas.List.{append-nil, take-append-drop}
use Rattle.sct_streams.specs.Stream.{AppendsIfTold, AppendsPrefixIfTold}
use Rattle.sct_site.specs.Cores.{Core}
use Rattle.sct_journal.specs.Kept.{ended_lines, recorded}
use Rattle.sct_keeper.specs.Keepers.{IsRecordedBeforeOrAfter}
use Rattle.sct_requests.specs.WatchedSites.{WatchedSite}
use Rattle.sct_requests.specs.Grants.{brought_by}
use Rattle.sct_requests.proofs.GrantLemmas.{brought_by_join}
use Rattle.sct_serve.specs.Replies.{replies_to, watched_site_after}
use Rattle.sct_serve.specs.Serving.{Leaves, Replied, Stops}
use Rattle.sct_serve.proofs.ReplyLemmas.{replies_join, watched_site_core, watched_site_join}
use Rattle.sct_streams.proofs.StreamLemmas.{appends_nothing, appends_on}

-- ---- one round

pub leaves_none : (s : WatchedSite) (before lines : List (List ℕ)) (held : Option (List ℕ)) (c : List ℕ) → recorded c ≡ before → Leaves s before held held lines c
leaves_none s before lines held c same = record {
  lasting = [];
  others = lines;
  parts = refl;
  written = [];
  appended = appends_nothing held;
  replied = ([], refl);
  keeps = same ∙ sym (append-nil before);
}

pub leaves_untold : (s : WatchedSite) (before lines : List (List ℕ)) (held : Option (List ℕ)) (c : List ℕ) → IsRecordedBeforeOrAfter before (brought_by s.core lines) c → Leaves s before held held lines c
leaves_untold s before lines held c (inl without) = leaves_none s before lines held c without
leaves_untold s before lines held c (inr with_it) = record {
  lasting = lines;
  others = [];
  parts = sym (append-nil lines);
  written = [];
  appended = appends_nothing held;
  replied = (replies_to s lines, refl);
  keeps = with_it;
}

pub leaves_told : (s : WatchedSite) (before lines : List (List ℕ)) (held held_now : Option (List ℕ)) (c : List ℕ) → recorded c ≡ before ++ brought_by s.core lines
    → AppendsPrefixIfTold held held_now (replies_to s lines) → Leaves s before held held_now lines c
leaves_told s before lines None held_now c all part = record {
  lasting = lines;
  others = [];
  parts = sym (append-nil lines);
  written = [];
  appended = tt;
  replied = (replies_to s lines, refl);
  keeps = all;
}
leaves_told s before lines (Some held) held_now c all part = record {
  lasting = lines;
  others = [];
  parts = sym (append-nil lines);
  written = take part.0 (replies_to s lines);
  appended = part.1.1;
  replied = (drop part.0 (replies_to s lines), sym (take-append-drop part.0 (replies_to s lines)));
  keeps = all;
}

pub leaves_all : (s : WatchedSite) (before lines : List (List ℕ)) (held held_now : Option (List ℕ)) (c : List ℕ) → recorded c ≡ before ++ brought_by s.core lines
    → AppendsIfTold held held_now (replies_to s lines) → Leaves s before held held_now lines c
leaves_all s before lines held held_now c all whole = record {
  lasting = lines;
  others = [];
  parts = sym (append-nil lines);
  written = replies_to s lines;
  appended = whole;
  replied = ([], sym (append-nil (replies_to s lines)));
  keeps = all;
}

-- ---- one after another

pub replied_none : (s : WatchedSite) (sound : Type 0) (before : List (List ℕ)) (held : Option (List ℕ)) → Replied s s sound before before held held []
replied_none s sound before held = record { ends = refl; replied = appends_nothing held; keeps = λ is. sym (append-nil before) }

-- the lines of a journal after two lots of lines
pub two_lots : (s : WatchedSite) (before xs ys : List (List ℕ)) → (before ++ brought_by s.core xs) ++ brought_by (watched_site_after s xs).core ys ≡ before ++ brought_by s.core (xs ++ ys)
two_lots s before xs ys =
    append_assoc before (brought_by s.core xs) (brought_by (watched_site_after s xs).core ys)
    ∙ ap (λ (c : Core). before ++ (brought_by s.core xs ++ brought_by c ys)) (watched_site_core xs s)
    ∙ ap (λ (l : List (List ℕ)). before ++ l) (sym (brought_by_join xs ys s.core))

pub replied_on : (s m n : WatchedSite) (sound : Type 0) (before mid after : List (List ℕ)) (held told_mid told : Option (List ℕ)) (xs ys : List (List ℕ))
    → Replied s m sound before mid held told_mid xs → Replied m n sound mid after told_mid told ys → Replied s n sound before after held told (xs ++ ys)
replied_on s m n sound before mid after held told_mid told xs ys first second = record {
  ends = second.ends ∙ ap (λ (t : WatchedSite). watched_site_after t ys) first.ends ∙ sym (watched_site_join xs ys s);
  replied =
      subst (λ (l : List ℕ). AppendsIfTold held told l)
      (ap (λ (t : WatchedSite). replies_to s xs ++ replies_to t ys) first.ends ∙ sym (replies_join xs ys s))
      (appends_on held told_mid told (replies_to s xs) (replies_to m ys) first.replied second.replied);
  keeps = λ is. second.keeps is ∙ (λ i. first.keeps is i ++ brought_by (first.ends i).core ys) ∙ two_lots s before xs ys;
}

-- what is left of the second lot, after the first was answered
pub leaves_after : (s m : WatchedSite) (sound : Type 0) (before mid : List (List ℕ)) (held told_mid told : Option (List ℕ)) (xs ys : List (List ℕ)) (c : List ℕ)
    → Replied s m sound before mid held told_mid xs → sound → Leaves m mid told_mid told ys c → Leaves s before held told (xs ++ ys) c
leaves_after s m sound before mid held told_mid told xs ys c first is left = record {
  lasting = xs ++ left.lasting;
  others = left.others;
  parts = ap (λ (l : List (List ℕ)). xs ++ l) left.parts ∙ sym (append_assoc xs left.lasting left.others);
  written = replies_to s xs ++ left.written;
  appended = appends_on held told_mid told (replies_to s xs) left.written first.replied left.appended;
  replied = (
    left.replied.0,
    replies_join xs left.lasting s
        ∙ ap (λ (t : WatchedSite). replies_to s xs ++ replies_to t left.lasting) (sym first.ends)
        ∙ ap (λ (l : List ℕ). replies_to s xs ++ l) left.replied.1
        ∙ sym (append_assoc (replies_to s xs) left.written left.replied.0),
  );
  keeps = left.keeps ∙ (λ i. first.keeps is i ++ brought_by (first.ends i).core left.lasting) ∙ two_lots s before xs left.lasting;
}

-- what is left of a first lot, before the others
pub leaves_before : (s : WatchedSite) (before : List (List ℕ)) (held told : Option (List ℕ)) (xs ys : List (List ℕ)) (c : List ℕ)
    → Leaves s before held told xs c → Leaves s before held told (xs ++ ys) c
leaves_before s before held told xs ys c left = record {
  lasting = left.lasting;
  others = left.others ++ ys;
  parts = ap (λ (l : List (List ℕ)). l ++ ys) left.parts ∙ append_assoc left.lasting left.others ys;
  written = left.written;
  appended = left.appended;
  replied = left.replied;
  keeps = left.keeps;
}

pub leaves_of : (s : WatchedSite) (before : List (List ℕ)) (held told : Option (List ℕ)) (xs ys : List (List ℕ)) (c : List ℕ)
    → xs ≡ ys → Leaves s before held told xs c → Leaves s before held told ys c
leaves_of s before held told xs ys c same left = subst (λ (l : List (List ℕ)). Leaves s before held told l c) same left

pub replied_of : (s m : WatchedSite) (sound : Type 0) (before after : List (List ℕ)) (held told : Option (List ℕ)) (xs ys : List (List ℕ))
    → xs ≡ ys → Replied s m sound before after held told xs → Replied s m sound before after held told ys
replied_of s m sound before after held told xs ys same done = subst (λ (l : List (List ℕ)). Replied s m sound before after held told l) same done

pub replied_under : (s m : WatchedSite) (sound other : Type 0) (before after : List (List ℕ)) (held told : Option (List ℕ)) (xs : List (List ℕ))
    → (other → sound) → Replied s m sound before after held told xs → Replied s m other before after held told xs
replied_under s m sound other before after held told xs gives done = record { ends = done.ends; replied = done.replied; keeps = λ is. done.keeps (gives is) }

-- ---- a text, round after round

-- some lines of a text are answered, and the others are those of the rest
pub record InPart (s m : WatchedSite) (sound : Type 0) (before after : List (List ℕ)) (held told : Option (List ℕ)) (text rest : List ℕ) : Type 0 where
  pub done : List (List ℕ)
  pub parts : ended_lines text ≡ done ++ ended_lines rest
  pub replied : Replied s m sound before after held told done

pub in_part_first : (s : WatchedSite) (sound : Type 0) (before : List (List ℕ)) (held : Option (List ℕ)) (text : List ℕ) → InPart s s sound before before held held text text
in_part_first s sound before held text = record { done = []; parts = refl; replied = replied_none s sound before held }

pub in_part_more : (s m n o : WatchedSite) (sound : Type 0) (before mid later after : List (List ℕ)) (held told_mid told_later told : Option (List ℕ)) (text rest next : List ℕ) (xs ys : List (List ℕ))
    → InPart s m sound before mid held told_mid text rest → ended_lines rest ≡ xs ++ ys ++ ended_lines next
    → Replied m n sound mid later told_mid told_later xs → Replied n o sound later after told_later told ys → InPart s o sound before after held told text next
in_part_more s m n o sound before mid later after held told_mid told_later told text rest next xs ys so_far is first second = record {
  done = so_far.done ++ (xs ++ ys);
  parts = so_far.parts ∙ ap (λ (l : List (List ℕ)). so_far.done ++ l) is ∙ sym (append_assoc so_far.done (xs ++ ys) (ended_lines next));
  replied =
      replied_on s m o sound before mid after held told_mid told so_far.done (xs ++ ys) so_far.replied
      (replied_on m n o sound mid later after told_mid told_later told xs ys first second);
}

pub in_part_all : (s m : WatchedSite) (sound : Type 0) (before after : List (List ℕ)) (held told : Option (List ℕ)) (text rest : List ℕ) → InPart s m sound before after held told text rest
    → ended_lines rest ≡ [] → Replied s m sound before after held told (ended_lines text)
in_part_all s m sound before after held told text rest so_far none =
    replied_of s m sound before after held told so_far.done (ended_lines text)
    (sym (so_far.parts ∙ ap (λ (l : List (List ℕ)). so_far.done ++ l) none ∙ append-nil so_far.done)) so_far.replied

pub leaves_in_part : (s m : WatchedSite) (sound : Type 0) (before mid : List (List ℕ)) (held told_mid told : Option (List ℕ)) (text rest : List ℕ) (xs ys : List (List ℕ)) (c : List ℕ)
    → InPart s m sound before mid held told_mid text rest → sound → ended_lines rest ≡ xs ++ ys → Leaves m mid told_mid told xs c → Leaves s before held told (ended_lines text) c
leaves_in_part s m sound before mid held told_mid told text rest xs ys c so_far is parts left =
    leaves_of s before held told (so_far.done ++ (xs ++ ys)) (ended_lines text) c
    (sym (so_far.parts ∙ ap (λ (l : List (List ℕ)). so_far.done ++ l) parts))
    (leaves_after s m sound before mid held told_mid told so_far.done (xs ++ ys) c so_far.replied is (leaves_before m mid told_mid told xs ys c left))

pub no_lines : (text : List ℕ) (empty : Bool) → empty ≡ (length text == 0) → empty ≡ true → ended_lines text ≡ []
no_lines [] empty is told = refl
no_lines (byte ∷ bytes) empty is told = absurd (omega (arith, eqb-true (length (byte ∷ bytes)) 0 (sym is ∙ told)))

-- ---- the round under way, of which no line has a reply

module _ (s : WatchedSite) (before : List (List ℕ)) where
  -- nothing of it is recorded
  pub stops_none : (held : Option (List ℕ)) (lines : List (List ℕ)) (may_leave : List ℕ → Type 0) → ((c : List ℕ) → may_leave c → recorded c ≡ before) → Stops s before held held lines may_leave
  stops_none held lines may_leave same = record {
    done = [];
    round = [];
    others = lines;
    parts = refl;
    replied = appends_nothing held;
    leaves = λ c is. inl (same c is ∙ sym (append-nil before));
  }

  -- the same if nothing was written by another name
  pub stops_alike : (held told : Option (List ℕ)) (lines : List (List ℕ)) (may_leave : List ℕ → Type 0) → told ≡ held → ((c : List ℕ) → may_leave c → recorded c ≡ before) → Stops s before held told lines may_leave
  stops_alike held told lines may_leave alike same = subst (λ (h : Option (List ℕ)). Stops s before held h lines may_leave) (sym alike) (stops_none held lines may_leave same)

  -- all of it is, or nothing
  pub stops_round : (held : Option (List ℕ)) (lines : List (List ℕ)) (may_leave : List ℕ → Type 0) → ((c : List ℕ) → may_leave c → IsRecordedBeforeOrAfter before (brought_by s.core lines) c)
      → Stops s before held held lines may_leave
  stops_round held lines may_leave left = record {
    done = [];
    round = lines;
    others = [];
    parts = sym (append-nil lines);
    replied = appends_nothing held;
    leaves = λ c is. subst (λ (l : List (List ℕ)). IsRecordedBeforeOrAfter l (brought_by s.core lines) c) (sym (append-nil before)) (left c is);
  }

  -- it was answered
  pub stops_told : (held told : Option (List ℕ)) (lines : List (List ℕ)) (may_leave : List ℕ → Type 0) → ((c : List ℕ) → may_leave c → recorded c ≡ before ++ brought_by s.core lines)
      → AppendsIfTold held told (replies_to s lines) → Stops s before held told lines may_leave
  stops_told held told lines may_leave all whole = record {
    done = lines;
    round = [];
    others = [];
    parts = sym (append-nil lines);
    replied = whole;
    leaves = λ c may. inl (all c may);
  }

  -- the same of lines that were answered before
  pub stops_all : (m : WatchedSite) (sound : Type 0) (after : List (List ℕ)) (held told : Option (List ℕ)) (lines : List (List ℕ)) (may_leave : List ℕ → Type 0)
      → Replied s m sound before after held told lines → sound → ((c : List ℕ) → may_leave c → recorded c ≡ after) → Stops s before held told lines may_leave
  stops_all m sound after held told lines may_leave first is same = record {
    done = lines;
    round = [];
    others = [];
    parts = sym (append-nil lines);
    replied = first.replied;
    leaves = λ c may. inl (same c may ∙ first.keeps is);
  }

  abbrev pub stops_after : (m : WatchedSite) (sound : Type 0) (mid : List (List ℕ)) (held told_mid told : Option (List ℕ)) (xs ys : List (List ℕ)) (may_leave : List ℕ → Type 0)
      → Replied s m sound before mid held told_mid xs → sound → Stops m mid told_mid told ys may_leave → Stops s before held told (xs ++ ys) may_leave
  stops_after m sound mid held told_mid told xs ys may_leave first is left =
      let lines : mid ++ brought_by m.core left.done ≡ before ++ brought_by s.core (xs ++ left.done) =
      (λ i. first.keeps is i ++ brought_by (first.ends i).core left.done) ∙ two_lots s before xs left.done in
      let site : watched_site_after m left.done ≡ watched_site_after s (xs ++ left.done) =
      ap (λ (t : WatchedSite). watched_site_after t left.done) first.ends ∙ sym (watched_site_join xs left.done s) in
      record {
        done = xs ++ left.done;
        round = left.round;
        others = left.others;
        parts = ap (λ (l : List (List ℕ)). xs ++ l) left.parts ∙ sym (append_assoc xs left.done (left.round ++ left.others));
        replied =
            subst (λ (l : List ℕ). AppendsIfTold held told l)
            (ap (λ (t : WatchedSite). replies_to s xs ++ replies_to t left.done) first.ends ∙ sym (replies_join xs left.done s))
            (appends_on held told_mid told (replies_to s xs) (replies_to m left.done) first.replied left.replied);
        leaves = λ c may.
            subst (λ (l : List (List ℕ)). IsRecordedBeforeOrAfter l (brought_by (watched_site_after s (xs ++ left.done)).core left.round) c) lines
            (subst (λ (t : WatchedSite). IsRecordedBeforeOrAfter (mid ++ brought_by m.core left.done) (brought_by t.core left.round) c) site (left.leaves c may));
      }

  pub stops_before : (held told : Option (List ℕ)) (xs ys : List (List ℕ)) (may_leave : List ℕ → Type 0) → Stops s before held told xs may_leave → Stops s before held told (xs ++ ys) may_leave
  stops_before held told xs ys may_leave left = record {
    done = left.done;
    round = left.round;
    others = left.others ++ ys;
    parts =
        ap (λ (l : List (List ℕ)). l ++ ys) left.parts
        ∙ append_assoc left.done (left.round ++ left.others) ys
        ∙ ap (λ (l : List (List ℕ)). left.done ++ l) (append_assoc left.round left.others ys);
    replied = left.replied;
    leaves = left.leaves;
  }

  pub stops_of : (held told : Option (List ℕ)) (xs ys : List (List ℕ)) (may_leave : List ℕ → Type 0) → xs ≡ ys → Stops s before held told xs may_leave → Stops s before held told ys may_leave
  stops_of held told xs ys may_leave same left = subst (λ (l : List (List ℕ)). Stops s before held told l may_leave) same left

pub stops_in_part : (s m : WatchedSite) (sound : Type 0) (before mid : List (List ℕ)) (held told_mid told : Option (List ℕ)) (text rest : List ℕ) (xs ys : List (List ℕ)) (may_leave : List ℕ → Type 0)
    → InPart s m sound before mid held told_mid text rest → sound → ended_lines rest ≡ xs ++ ys → Stops m mid told_mid told xs may_leave → Stops s before held told (ended_lines text) may_leave
stops_in_part s m sound before mid held told_mid told text rest xs ys may_leave so_far is parts left =
    stops_of s before held told (so_far.done ++ (xs ++ ys)) (ended_lines text) may_leave
    (sym (so_far.parts ∙ ap (λ (l : List (List ℕ)). so_far.done ++ l) parts))
    (stops_after s before m sound mid held told_mid told so_far.done (xs ++ ys) may_leave so_far.replied is (stops_before m mid told_mid told xs ys may_leave left))
