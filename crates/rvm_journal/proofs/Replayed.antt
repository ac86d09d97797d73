-- Lines of a journal are done one after the other, by a recorded host.
use Rattle.std.proofs.Common.{◌≡◌, ◌∙◌, ℕ, zero, suc, ◌+◌, ◌-◌, ◌%◌, ◌≤◌, min, Bool, true, false, cond, ◌&&◌, List, [], ◌∷◌, ◌++◌, length, take, drop, Option, Some, None, Result, Ok, Err, option_map, refl, sym, ap, subst, append_assoc, arith, length-append, inl, inr, ◌⊎◌, ◌==◌}
use native.Mathlib.Nat.{mod-add-mod}
use Rattle.std.specs.Option.{option_and_then}
use Rattle.std.specs.Prelude.{IfErr, IsErrAnd, codes, nat_le, nat_lt}
use Rattle.std.specs.Str.{bytes_eq}
use Rattle.std.proofs.lemmas.Bool.Decides.{nat_tests}
use Rattle.std.proofs.lemmas.List.{append-nil}
use Rattle.std.proofs.lemmas.Option.{same_Some}
use Rattle.hex.specs.Hex.{decode_of}
use Rattle.hex.specs.declared.error.FromHexError.{FromHexError}
use Rattle.rvm_station.specs.Logs.{steps_from}
use Rattle.rvm_journal.specs.Recorders.{IsFull, Records, room_of}
use Rattle.rvm_journal.proofs.Recorders.{longer, none_recorded, then_recorded}
use Rattle.rvm_core.specs.WorldLines.{world_line_of}
use Rattle.rvm_debug.specs.Lines.{numeral}
use Rattle.rvm_debug.specs.Words.{lines, words}
use Rattle.rvm_frame.specs.declared.fault.ReadFault.{ReadFault}
use Rattle.rvm_frame.specs.declared.frame.Frame.{Frame}
use Rattle.rvm_frame.specs.Grammar.{Received}
use Rattle.rvm_frame.specs.Verdict.{one_frame_of, verdict}
use Rattle.rvm_message.specs.declared.event.Command.{Command}
use Rattle.rvm_message.specs.declared.event.HostEvent.{HostEvent}
use Rattle.rvm_journal.specs.declared.replay_error.ReplayError.{ReplayError}
use Rattle.rvm_journal.specs.declared.replay_error.ReplayError.TheVariants as replay_error
use Rattle.rvm_recorder.specs.History.{Recording}
use Rattle.rvm_journal.specs.declared.noted.Noted.{Noted}
use Rattle.rvm_journal.specs.declared.noted.Noted.TheVariants.{Turns, Command as Commanded, Came, Met, End}
use Rattle.rvm_journal.specs.declared.replay.JournalFault.{JournalFault}
use Rattle.rvm_journal.specs.declared.replay.JournalFault.TheVariants as fault
use Rattle.rvm_station.specs.declared.log.Meeting.{Meeting}
use Rattle.rvm_journal.specs.Noting.{bytes_noted, came_noted, command_in, end_noted, events_of, frame_noted, meeting_in, noted_by, noted_of, run_if, turns_noted}
use Rattle.rvm_journal.specs.Replaying.{AreFewer, HasHarts, IsJournalFault, IsLineFault, IsReplayedTo, IsRoomFault, IsSpent, IsWanted, LacksRoom, first_of, left_of, noted_at}
use Rattle.rvm_journal.specs.Told.{Told, at_header, digest_after, digest_behind, header_told, mark, no_digest, text_in, told_by, told_in, told_of}
use Rattle.rvm_journal.proofs.Adding.{behind_header, one_told}
use Rattle.rvm_journal.proofs.Runs.{how_many, joined, of_turn}

-- at most n elements
pub take_short : (n : ℕ) (xs : List ℕ) → take (min (length xs) n) xs ≡ take n xs
take_short zero [] = refl
take_short (suc n) [] = let none : min 0 (suc n) ≡ 0 = omega arith in ap (λ m. take m []) none
take_short zero (x ∷ xs) = let none : min (length (x ∷ xs)) 0 ≡ 0 = omega arith in ap (λ m. take m (x ∷ xs)) none
take_short (suc n) (x ∷ xs) =
    let next : min (length (x ∷ xs)) (suc n) ≡ suc (min (length xs) n) = omega arith in
    ap (λ m. take m (x ∷ xs)) next ∙ ap (λ l. x ∷ l) (take_short n xs)

pub drop_short : (n : ℕ) (xs : List ℕ) → drop (min (length xs) n) xs ≡ drop n xs
drop_short zero [] = refl
drop_short (suc n) [] = let none : min 0 (suc n) ≡ 0 = omega arith in ap (λ m. drop m []) none
drop_short zero (x ∷ xs) = let none : min (length (x ∷ xs)) 0 ≡ 0 = omega arith in ap (λ m. drop m (x ∷ xs)) none
drop_short (suc n) (x ∷ xs) =
    let next : min (length (x ∷ xs)) (suc n) ≡ suc (min (length xs) n) = omega arith in
    ap (λ m. drop m (x ∷ xs)) next ∙ drop_short n xs

-- the harts of turns that a line tells are 1 to 8
harts_in : (b : Bool) (f h n : ℕ) (noted : Noted) → (b ≡ true → (1 ≤ h) × (h ≤ 8))
    → cond b (Some (Turns (record { first = f; harts = h; count = n }))) None ≡ Some noted → HasHarts noted
harts_in true f h n noted few e =
    subst HasHarts (same_Some (Turns (record { first = f; harts = h; count = n })) noted e) (few refl)
harts_in false f h n noted few e = cc

few_harts : (f h : ℕ) → (nat_le h 8 && nat_lt f h) ≡ true → (1 ≤ h) × (h ≤ 8)
few_harts f h e = (grind (arith, nat_tests), grind (arith, nat_tests))

harts_of_run : (f h n : Option ℕ) (noted : Noted) → run_if f h n ≡ Some noted → HasHarts noted
harts_of_run None h n noted e = cc
harts_of_run (Some f) None n noted e = cc
harts_of_run (Some f) (Some h) None noted e = cc
harts_of_run (Some f) (Some h) (Some n) noted e = harts_in (nat_le h 8 && nat_lt f h) f h n noted (few_harts f h) e

harts_of_turns : (ws : List (List ℕ)) (noted : Noted) → turns_noted ws ≡ Some noted → HasHarts noted
harts_of_turns [] noted e = cc
harts_of_turns (f ∷ []) noted e = cc
harts_of_turns (f ∷ h ∷ []) noted e = cc
harts_of_turns (f ∷ h ∷ n ∷ []) noted e = harts_of_run (numeral f) (numeral h) (numeral n) noted e
harts_of_turns (f ∷ h ∷ n ∷ w ∷ ws) noted e = cc

harts_of_command : (o : Option Command) (noted : Noted) → option_map Commanded o ≡ Some noted → HasHarts noted
harts_of_command None noted e = cc
harts_of_command (Some c) noted e = subst HasHarts (same_Some (Commanded c) noted e) tt

harts_if : (b : Bool) (from : ℕ) (f : Frame) (noted : Noted) → cond b (Some (Came from f)) None ≡ Some noted → HasHarts noted
harts_if true from f noted e = subst HasHarts (same_Some (Came from f) noted e) tt
harts_if false from f noted e = cc

harts_of_frame : (h : ℕ) (r : Result Received ReadFault) (noted : Noted) → frame_noted h r ≡ Some noted → HasHarts noted
harts_of_frame h (Ok (Some hosts, f)) noted e = harts_if (hosts.1 == h) hosts.0 f noted e
harts_of_frame h (Ok (None, f)) noted e = cc
harts_of_frame h (Err why) noted e = cc

harts_of_bytes : (h : ℕ) (r : Result (List ℕ) FromHexError) (noted : Noted) → bytes_noted h r ≡ Some noted → HasHarts noted
harts_of_bytes h (Ok bytes) noted e = harts_of_frame h (one_frame_of (verdict (Some 3) bytes)) noted e
harts_of_bytes h (Err why) noted e = cc

harts_of_came : (h : ℕ) (ws : List (List ℕ)) (noted : Noted) → came_noted h ws ≡ Some noted → HasHarts noted
harts_of_came h [] noted e = cc
harts_of_came h (w ∷ []) noted e = harts_of_bytes h (decode_of w) noted e
harts_of_came h (w ∷ v ∷ ws) noted e = cc

harts_of_meeting : (o : Option Meeting) (noted : Noted) → option_map Met o ≡ Some noted → HasHarts noted
harts_of_meeting None noted e = cc
harts_of_meeting (Some m) noted e = subst HasHarts (same_Some (Met m) noted e) tt

harts_of_end : (ws : List (List ℕ)) (noted : Noted) → end_noted ws ≡ Some noted → HasHarts noted
harts_of_end [] noted e = subst HasHarts (same_Some End noted e) tt
harts_of_end (w ∷ ws) noted e = cc

harts_of_either : (s : Bool) (this other : Option Noted) (noted : Noted) → (this ≡ Some noted → HasHarts noted)
    → (other ≡ Some noted → HasHarts noted) → cond s this other ≡ Some noted → HasHarts noted
harts_of_either true this other noted a b e = a e
harts_of_either false this other noted a b e = b e

harts_of_words : (n h : ℕ) (text : List ℕ) (ws : List (List ℕ)) (noted : Noted) → noted_by n h text ws ≡ Some noted → HasHarts noted
harts_of_words n h text [] noted e = cc
harts_of_words n h text (w ∷ ws) noted e =
    let command : Option Noted = option_map Commanded (command_in h (world_line_of n text)) in
    let ended : Option Noted = cond (bytes_eq w (codes "end")) (end_noted ws) command in
    let met : Option Noted = cond (bytes_eq w (codes "met")) (option_map Met (meeting_in (w ∷ ws))) ended in
    let came : Option Noted = cond (bytes_eq w (codes "came")) (came_noted h ws) met in
    harts_of_either (bytes_eq w (codes "turns")) (turns_noted ws) came noted (harts_of_turns ws noted)
    (harts_of_either (bytes_eq w (codes "came")) (came_noted h ws) met noted (harts_of_came h ws noted)
    (harts_of_either (bytes_eq w (codes "met")) (option_map Met (meeting_in (w ∷ ws))) ended noted (harts_of_meeting (meeting_in (w ∷ ws)) noted)
    (harts_of_either (bytes_eq w (codes "end")) (end_noted ws) command noted (harts_of_end ws noted)
    (harts_of_command (command_in h (world_line_of n text)) noted)))) e

pub harts_of_noted : (n h : ℕ) (text : List ℕ) (noted : Noted) → noted_of n h text ≡ Some noted → HasHarts noted
unfolding noted_of
harts_of_noted n h text noted e = harts_of_words n h text (words text) noted e

-- nothing is done
pub none_done : (r : Recording) → Records r [] r
none_done r = none_recorded r

-- what holds of a fault that is handed on
pub handed_on : {A E : Type 0} (P : E → Type 0) (x : E) (r : Result A E) → IsErrAnd r (λ e. e ≡ x) → P x → IfErr r P
handed_on P x (Ok a) none has = absurd none
handed_on P x (Err e) same has = subst P (sym same) has

-- a recorder that is full has no room for an event
pub lacks_room : (why : ReplayError) (r : Recording) → IsFull why r → LacksRoom why r 1
lacks_room replay_error.OutOfMemory r is = tt
lacks_room (replay_error.TooMany most) r is =
    let full = is.0 in
    (omega (arith, full), is.1)

-- turns that are taken one run after the other
pub record Turned (first harts count left turn : ℕ) (old now : Recording) : Type 0 where
  pub taken : ℕ
  pub all : taken + left ≡ count
  pub recorded : Records old (steps_from first harts taken) now
  pub next : turn % harts ≡ (first + taken) % harts

no_steps : (turn harts : ℕ) → steps_from turn harts 0 ≡ []
unfolding steps_from
no_steps turn harts = refl

pub none_turned : (first harts count : ℕ) (r : Recording) → Turned first harts count count first r r
none_turned first harts count r = record {
  taken = 0;
  all = omega arith;
  recorded = subst (λ l. Records r l r) (sym (no_steps first harts)) (none_recorded r);
  next = let same : first ≡ first + 0 = omega arith in ap (λ t. t % harts) same;
}

pub more_turned : (first harts count left turn made more next : ℕ) (a b c : Recording)
    → Turned first harts count left turn a b → Records b (steps_from turn harts made) c → made ≤ left → more ≡ left - made
    → next % harts ≡ (turn + made) % harts → Turned first harts count more next a c
more_turned first harts count left turn made more next a b c so steps few more_is next_is =
    let t = so.taken in
    let all = so.all in
    let sum : first + t + made ≡ first + (t + made) = omega arith in
    record {
      taken = t + made;
      all = omega (arith, all, few, more_is);
      recorded = subst (λ l. Records a l c)
          (sym (joined first t harts (turn % harts) harts made refl (sym so.next)
          ∙ ap (λ l. steps_from first harts t ++ l) (of_turn turn harts made)))
          (then_recorded a b c (steps_from first harts t) (steps_from turn harts made) so.recorded steps);
      next = next_is ∙ sym (mod-add-mod turn harts made) ∙ ap (λ r. (r + made) % harts) so.next
          ∙ mod-add-mod (first + t) harts made ∙ ap (λ r. r % harts) sum;
    }

pub all_turned : (first harts count left turn : ℕ) (a b : Recording) → Turned first harts count left turn a b → left ≤ 0
    → Records a (steps_from first harts count) b
all_turned first harts count left turn a b so none =
    let all = so.all in
    let whole : so.taken ≡ count = omega (arith, all, none) in
    subst (λ n. Records a (steps_from first harts n) b) whole so.recorded

-- no room for the turns that are left
pub none_left : (why : ReplayError) (first harts count left turn : ℕ) (a b : Recording) → Turned first harts count left turn a b
    → 1 ≤ left → LacksRoom why b 1 → LacksRoom why a (length (steps_from first harts count))
none_left replay_error.OutOfMemory first harts count left turn a b so some room = tt
none_left (replay_error.TooMany most) first harts count left turn a b so some room =
    let all = so.all in
    let none = room.0 in
    let same = so.recorded.capacity in
    let made = longer a b (steps_from first harts so.taken) so.recorded in
    (omega (arith, all, some, none, same, made, how_many first harts so.taken, how_many first harts count), room.1 ∙ same)

-- what is wanted of no event, and of one
pub first_none : (most : Option ℕ) → [] ≡ first_of most []
first_none None = refl
first_none (Some zero) = refl
first_none (Some (suc n)) = refl

pub first_one : (most : Option ℕ) (e : HostEvent) → IsWanted most → e ∷ [] ≡ first_of most (e ∷ [])
first_one None e wanted = refl
first_one (Some zero) e wanted = absurd (omega arith)
first_one (Some (suc n)) e wanted = ap (λ l. e ∷ l) (first_none (Some n))

left_none : (most : Option ℕ) → most ≡ left_of most []
left_none None = refl
left_none (Some n) = ap (λ k. Some k) (omega arith)

-- what is wanted of events, and of those after them
take_both : (n : ℕ) (es fs : List HostEvent) → take n (es ++ fs) ≡ take n es ++ take (n - length es) fs
take_both zero [] fs = refl
take_both zero (e ∷ es) fs = let none : 0 - length (e ∷ es) ≡ 0 = omega arith in sym (ap (λ k. take k fs) none)
take_both (suc n) [] fs = let all : suc n ≡ suc n - 0 = omega arith in ap (λ k. take k fs) all
take_both (suc n) (e ∷ es) fs =
    let down : n - length es ≡ suc n - length (e ∷ es) = omega arith in
    ap (λ l. e ∷ l) (take_both n es fs) ∙ ap (λ k. e ∷ (take n es ++ take k fs)) down

first_both : (most : Option ℕ) (es fs : List HostEvent)
    → first_of most es ++ first_of (left_of most es) fs ≡ first_of most (es ++ fs)
first_both None es fs = refl
first_both (Some n) es fs = sym (take_both n es fs)

left_both : (most : Option ℕ) (es fs : List HostEvent) → left_of (left_of most es) fs ≡ left_of most (es ++ fs)
left_both None es fs = refl
left_both (Some n) es fs =
    let down : n - length es - length fs ≡ n - length (es ++ fs) = omega (arith, length-append es fs) in ap (λ k. Some k) down

still_few : (most : Option ℕ) (es : List HostEvent) → IsWanted (left_of most es) → AreFewer most es
still_few None es wanted = tt
still_few (Some n) es wanted = omega (arith, wanted)

no_some : (left : Option ℕ) (P : Type 0) → left ≡ None → left ≡ Some 0 → P
no_some left P none some = cc

enough_told : (m : ℕ) (left : Option ℕ) (rest : List (List ℕ)) (es : List HostEvent) → left ≡ left_of (Some m) es
    → (rest ≡ []) ⊎ (left ≡ Some 0) → (rest ≡ []) ⊎ (m ≤ length es)
enough_told m left rest es is (inl none) = inl none
enough_told m left rest es is (inr spent) =
    let zero_left : m - length es ≡ 0 = same_Some (m - length es) 0 (sym is ∙ spent) in inr (omega (arith, zero_left))

-- a line that was not read leaves the recorder as it was
pub not_spent : (why : JournalFault) (n h number : ℕ) (digest line : List ℕ) (r : Recording)
    → IsLineFault why n h number digest line → IsSpent why r
not_spent (fault.BadLine k) n h number digest line r bad = tt
not_spent (fault.LongLine k) n h number digest line r bad = absurd bad
not_spent (fault.TooLong most) n h number digest line r bad = absurd bad
not_spent fault.OutOfMemory n h number digest line r bad = tt
not_spent fault.LinkFault n h number digest line r bad = absurd bad

-- what a first line tells
if_shown : (b : Bool) (text : List ℕ) (t : Told) → option_map (λ x. t) (cond b (Some text) None) ≡ cond b (Some t) None
if_shown true text t = refl
if_shown false text t = refl

-- what a line tells after those before it
and_then_if : (b : Bool) (text : List ℕ) (f : List ℕ → Option Noted)
    → option_and_then f (cond b (Some text) None) ≡ cond b (f text) None
and_then_if true text f = refl
and_then_if false text f = refl

module _ (n h : ℕ) where
  -- what was told, with the events of one more line, which has this digest
  abbrev told_with : (digest : List ℕ) → Told → Noted → Told
  told_with d t noted = record { digest = d; events = t.events ++ events_of noted }

  told_by_is : (t : Told) (line : List ℕ) → told_by n h t line
      ≡ option_map (λ noted. told_with (digest_behind t.digest line) t noted) (noted_at n h (digest_behind t.digest line) line)
  told_by_is t line =
      ap (λ o. option_map (λ noted. told_with (digest_behind t.digest line) t noted) o)
      (and_then_if (bytes_eq (take 17 line) (mark (digest_behind t.digest line))) (text_in line) (noted_of n h))

  -- lines were done, as many as this number, and of the events that they tell those that are wanted; the other lines come
  -- after them
  pub record Doing (most left : Option ℕ) (ls rest : List (List ℕ)) (digest : List ℕ) (number : ℕ) (old now : Recording)
      : Type 0 where
    pub before : List (List ℕ)
    pub events : List HostEvent
    pub lines_are : ls ≡ before ++ rest
    pub number_is : number ≡ length before
    pub told : told_of n h before ≡ Some (record { digest = digest; events = events })
    pub left_is : left ≡ left_of most events
    pub recorded : Records old (first_of most events) now

  pub header_done : (most : Option ℕ) (ls rest : List (List ℕ)) (line digest : List ℕ) (r : Recording) → ls ≡ line ∷ rest
      → header_told line ≡ Some (record { digest = digest; events = [] }) → Doing most most ls rest digest 1 r r
  header_done most ls rest line digest r ls_are is = record {
    before = line ∷ [];
    events = [];
    lines_are = ls_are;
    number_is = refl;
    told = one_told n h (header_told line) ∙ is;
    left_is = left_none most;
    recorded = subst (λ l. Records r l r) (first_none most) (none_recorded r);
  }

  -- what is told once a line was read after those before it
  read_more : (before : List (List ℕ)) (events : List HostEvent) (line digest after : List ℕ) (noted : Noted)
      → told_of n h before ≡ Some (record { digest = digest; events = events }) → after ≡ digest_behind digest line
      → noted_at n h after line ≡ Some noted
      → told_of n h (before ++ line ∷ []) ≡ Some (record { digest = after; events = events ++ events_of noted })
  read_more before events line digest after noted told is own =
      let t : Told = record { digest = digest; events = events } in
      behind_header n h before line t told ∙ told_by_is t line
      ∙ ap (λ o. option_map (λ noted. told_with (digest_behind digest line) t noted) o)
      (ap (λ d. noted_at n h d line) (sym is) ∙ own)
      ∙ ap (λ d. Some (told_with d t noted)) (sym is)

  one_more : (ls before rest behind : List (List ℕ)) (line : List ℕ) → ls ≡ before ++ rest → rest ≡ line ∷ behind
      → ls ≡ (before ++ line ∷ []) ++ behind
  one_more ls before rest behind line ls_are rest_is =
      ls_are ∙ ap (λ l. before ++ l) rest_is ∙ sym (append_assoc before (line ∷ []) behind)

  pub line_done : (most left later : Option ℕ) (ls rest behind : List (List ℕ)) (line digest after : List ℕ)
      (number more : ℕ) (noted : Noted) (a b c : Recording)
      → Doing most left ls rest digest number a b → rest ≡ line ∷ behind → after ≡ digest_behind digest line
      → noted_at n h after line ≡ Some noted → Records b (first_of left (events_of noted)) c
      → later ≡ left_of left (events_of noted) → more ≡ number + 1 → Doing most later ls behind after more a c
  line_done most left later ls rest behind line digest after number more noted a b c so rest_is is own done later_is more_is =
      let es = events_of noted in
      let count = so.number_is in
      let wanted : first_of most so.events ++ first_of left es ≡ first_of most (so.events ++ es) =
      ap (λ o. first_of most so.events ++ first_of o es) so.left_is ∙ first_both most so.events es in
      record {
        before = so.before ++ line ∷ [];
        events = so.events ++ es;
        lines_are = one_more ls so.before rest behind line so.lines_are rest_is;
        number_is = omega (arith, count, more_is, length-append so.before (line ∷ []));
        told = read_more so.before so.events line digest after noted so.told is own;
        left_is = later_is ∙ ap (λ o. left_of o es) so.left_is ∙ left_both most so.events es;
        recorded = subst (λ l. Records a l c) wanted
            (then_recorded a b c (first_of most so.events) (first_of left es) so.recorded done);
      }

  -- a line that was not read
  pub line_refused : (most left : Option ℕ) (ls rest behind : List (List ℕ)) (line digest after : List ℕ) (number more : ℕ)
      (why : JournalFault) (a b : Recording) → Doing most left ls rest digest number a b → IsWanted left
      → rest ≡ line ∷ behind → after ≡ digest_behind digest line → more ≡ number + 1 → IsLineFault why n h more after line
      → IsJournalFault why most n h ls a.capacity (room_of a)
  line_refused most left ls rest behind line digest after number more (fault.BadLine k) a b so wanted rest_is is more_is bad =
      let t : Told = record { digest = digest; events = so.events } in
      let count = so.number_is in
      let k_is = bad.0 in
      record {
        before = so.before;
        line = line;
        rest = behind;
        lines_are = so.lines_are ∙ ap (λ l. so.before ++ l) rest_is;
        number_is = omega (arith, count, more_is, k_is);
        told = t;
        before_told = so.told;
        few = still_few most so.events (subst IsWanted so.left_is wanted);
        refused = told_by_is t line
            ∙ ap (λ o. option_map (λ noted. told_with (digest_behind digest line) t noted) o)
            (ap (λ d. noted_at n h d line) (sym is) ∙ bad.1);
      }
  line_refused most left ls rest behind line digest after number more (fault.LongLine k) a b so wanted rest_is is more_is bad =
      absurd bad
  line_refused most left ls rest behind line digest after number more (fault.TooLong m) a b so wanted rest_is is more_is bad =
      absurd bad
  line_refused most left ls rest behind line digest after number more fault.OutOfMemory a b so wanted rest_is is more_is
      bad = tt
  line_refused most left ls rest behind line digest after number more fault.LinkFault a b so wanted rest_is is more_is
      bad = absurd bad

  -- a line that was read, and whose events were not all recorded
  pub room_refused : (most left : Option ℕ) (ls rest behind : List (List ℕ)) (line digest after : List ℕ) (number : ℕ)
      (noted : Noted) (why : JournalFault) (a b : Recording) → Doing most left ls rest digest number a b
      → rest ≡ line ∷ behind → after ≡ digest_behind digest line → noted_at n h after line ≡ Some noted
      → IsRoomFault why (length (first_of left (events_of noted))) b → IsJournalFault why most n h ls a.capacity (room_of a)
  room_refused most left ls rest behind line digest after number noted (fault.BadLine k) a b so rest_is is own bad = absurd bad
  room_refused most left ls rest behind line digest after number noted (fault.LongLine k) a b so rest_is is own bad = absurd bad
  room_refused most left ls rest behind line digest after number noted (fault.TooLong m) a b so rest_is is own bad =
      let es = events_of noted in
      let wanted : first_of most so.events ++ first_of left es ≡ first_of most (so.events ++ es) =
      ap (λ o. first_of most so.events ++ first_of o es) so.left_is ∙ first_both most so.events es in
      let size = ap length wanted in
      let made = longer a b (first_of most so.events) so.recorded in
      let same = so.recorded.capacity in
      let many = bad.0 in (
        record {
          read = so.before ++ line ∷ [];
          rest = behind;
          lines_are = one_more ls so.before rest behind line so.lines_are rest_is;
          told = record { digest = after; events = so.events ++ es };
          told_is = read_more so.before so.events line digest after noted so.told is own;
          many = omega (arith, many, size, made, same, length-append (first_of most so.events) (first_of left es));
        },
        bad.1 ∙ same,
      )
  room_refused most left ls rest behind line digest after number noted fault.OutOfMemory a b so rest_is is own bad = tt
  room_refused most left ls rest behind line digest after number noted fault.LinkFault a b so rest_is is own bad = absurd bad

  -- no line is left, or no event is wanted any more
  pub all_done : (most left : Option ℕ) (bytes : List ℕ) (rest : List (List ℕ)) (digest : List ℕ) (number : ℕ) (a b : Recording)
      → Doing most left (lines bytes) rest digest number a b → (rest ≡ []) ⊎ (left ≡ Some 0)
      → IsReplayedTo most n h bytes a b
  unfolding told_in
  all_done None left bytes rest digest number a b so (inl none) = (
    record { digest = digest; events = so.events },
    ap (told_of n h) (so.lines_are ∙ ap (λ l. so.before ++ l) none ∙ append-nil so.before) ∙ so.told,
    so.recorded,
  )
  all_done None left bytes rest digest number a b so (inr spent) = no_some left (IsReplayedTo None n h bytes a b) so.left_is spent
  all_done (Some m) left bytes rest digest number a b so end = (
    take m so.events,
    record {
      read = so.before;
      rest = rest;
      lines_are = so.lines_are;
      told = record { digest = digest; events = so.events };
      told_is = so.told;
      enough = enough_told m left rest so.events so.left_is end;
      events_are = refl;
    },
    so.recorded,
  )

-- the digest of a line, by its text
pub own_digest : (digest after text line : List ℕ) → after ≡ digest_after digest (text ++ codes "\n") → text ≡ text_in line
    → after ≡ digest_behind digest line
own_digest digest after text line is text_is = is ∙ ap (λ t. digest_after digest (t ++ codes "\n")) text_is

-- the first line of a journal, which shows its digest, or does not
pub header_shown : (line digest : List ℕ) (shown : Bool) → digest ≡ digest_behind no_digest line
    → shown ≡ bytes_eq (take 17 line) (mark digest)
    → header_told line ≡ cond shown (Some (record { digest = digest; events = [] })) None
header_shown line digest shown is same =
    if_shown (bytes_eq (take 17 line) (mark (digest_behind no_digest line))) (text_in line) (at_header line)
    ∙ ap (λ d. cond (bytes_eq (take 17 line) (mark d)) (Some (record { digest = d; events = [] })) None) (sym is)
    ∙ ap (λ b. cond b (Some (record { digest = digest; events = [] })) None) (sym same)
