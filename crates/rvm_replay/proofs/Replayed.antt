-- The host of a journal did again what the journal tells, or the journal was refused.
use Rattle.std.proofs.Common.{◌≡◌, ◌∙◌, ℕ, true, false, List, [], ◌++◌, Option, None, Some, inl, inr, length, refl, sym, ap, subst, arith}
use Rattle.std.proofs.lemmas.Bool.Decides.{nat_tests}
use Rattle.std.specs.Io.KnownBytes.{Appends}
use Rattle.std.specs.Prelude.{Err, IfErr, IfOk, Ok, Result}
use Rattle.rvm_board.specs.Guest.{Guest}
use Rattle.rvm_host.specs.Hosts.{is_sized}
use Rattle.rvm_journal.specs.declared.header.Header.{Header}
use Rattle.rvm_journal.specs.Headers.{IsRanged, header_at}
use Rattle.rvm_debug.specs.Words.{lines}
use Rattle.rvm_journal.specs.declared.replay.JournalFault.{JournalFault}
use Rattle.rvm_journal.specs.declared.replay.JournalFault.TheVariants as journal
use Rattle.rvm_journal.specs.Reading.{IsReadFault, IsTextOf, Opened}
use Rattle.rvm_journal.specs.Replaying.{AreFirstTold, IsJournalFault, IsReplayedTo}
use Rattle.rvm_journal.specs.Whole.{IsJournal}
use Rattle.rvm_journal.proofs.Reading.{has_journal}
use Rattle.rvm_message.specs.declared.event.HostEvent.{HostEvent}
use Rattle.rvm_recorder.specs.Entries.{PlainEntry}
use Rattle.rvm_recorder.specs.History.{Recording, count_of}
use Rattle.rvm_journal.specs.Recorders.{Records, events_in, room_of}
use Rattle.rvm_recorder.specs.Replay.{IsReplay as AreAnswers}
use Rattle.rvm_replay.specs.declared.file.FileFault.{FileFault}
use Rattle.rvm_replay.specs.declared.file.FileFault.TheVariants as fault
use Rattle.rvm_replay.specs.FileFaults.{IsFileFault, IsGuestFault, IsOpenFault, IsUnread}
use Rattle.rvm_replay.specs.Journals.{IsHostAfter, IsOpening}
use Rattle.rvm_replay.specs.Replays.{IsDone, IsUnanswered, guest_after, no_guest_line}

-- a host of each header has numbers within their limits
sized : (h : Header) → IsRanged h → is_sized h.host h.hosts 4096 3 ≡ true
sized h range = grind (arith, nat_tests)

pub not_opened : (h : Header) (P : Type 0) → IsRanged h → is_sized h.host h.hosts 4096 3 ≡ false → P
not_opened h P range outside = let both : true ≡ false = sym (sized h range) ∙ outside in cc

-- what is wrong with the file of an image is wrong with the journal
pub guest_fault : (why : FileFault) (most : Option ℕ) (capacity : ℕ) (h : Header) (bytes image : List ℕ) → IsGuestFault why h.guest image
    → IsFileFault why most capacity (Some h) bytes image
guest_fault fault.NoHeader most capacity h bytes image bad = absurd bad
guest_fault (fault.SameHost letter) most capacity h bytes image bad = absurd bad
guest_fault fault.SecondGuest most capacity h bytes image bad = absurd bad
guest_fault fault.OtherHosts most capacity h bytes image bad = absurd bad
guest_fault fault.OtherWorld most capacity h bytes image bad = absurd bad
guest_fault (fault.OtherProcess letter) most capacity h bytes image bad = absurd bad
guest_fault fault.MetOtherWorld most capacity h bytes image bad = absurd bad
guest_fault fault.NoImage most capacity h bytes image bad = bad
guest_fault fault.OtherImage most capacity h bytes image bad = bad
guest_fault (fault.Image why) most capacity h bytes image bad = bad
guest_fault (fault.Journal why) most capacity h bytes image bad = absurd bad

-- the events of a host that had none before
first_events : (old new : Recording) (es : List HostEvent) → old.journal.entries ≡ [] → Records old es new
    → events_in new.journal.entries ≡ es
first_events old new es empty done = done.events ∙ ap (λ xs. events_in xs ++ es) empty

-- a host began, and did what its journal tells
pub host_after : (most : Option ℕ) (h : Header) (bytes image : List ℕ) (old new : Recording)
    → IsOpening h image old.journal.opening → old.journal.entries ≡ [] → IsReplayedTo most h.hosts h.host bytes old new
    → AreAnswers new.journal.opening new.journal.entries → IsHostAfter most h bytes image new
host_after None h bytes image old new opening empty (t, told, done) answers = record {
  guest = opening.guest;
  guest_is = opening.guest_is;
  opening = done.opening ∙ opening.host_is;
  told = t;
  told_is = told;
  events = first_events old new t.events empty done;
  answers = answers;
}
host_after (Some m) h bytes image old new opening empty (es, first, done) answers = record {
  guest = opening.guest;
  guest_is = opening.guest_is;
  opening = done.opening ∙ opening.host_is;
  first = subst (AreFirstTold m h.hosts h.host bytes) (sym (first_events old new es empty done)) first;
  answers = answers;
}

-- what is wrong with the lines of a journal, for a host that has done nothing
pub lines_fault : (why : JournalFault) (most : Option ℕ) (h : Header) (bytes image : List ℕ) (old : Recording)
    → old.journal.entries ≡ [] → IsJournalFault why most h.hosts h.host (lines bytes) old.capacity (room_of old)
    → IsFileFault (fault.Journal why) most old.capacity (Some h) bytes image
lines_fault why most h bytes image old empty bad =
    let none = ap length empty in
    let all : room_of old ≡ old.capacity = omega (arith, none) in
    inr (subst (IsJournalFault why most h.hosts h.host (lines bytes) old.capacity) all bad)

-- the host of a journal did what is wanted, and its observer was shown what it answered
pub is_done : {O : Type 0} (shows : O → List PlainEntry → Type 0) (most : Option ℕ) (journal image : List ℕ) (h : Header)
    (r : Recording) (guest : Option Guest) (count : ℕ) (observer : O) → Some h ≡ header_at journal
    → IsHostAfter most h journal image r → guest ≡ guest_after r → count ≡ count_of r → shows observer r.journal.entries
    → IsDone shows most journal image guest count observer
is_done shows most journal image h r guest count observer header_is host guest_is count_is shown = record {
  recording = r;
  replay = record { header = h; header_is = sym header_is; host = host };
  guest_is = guest_is;
  count_is = count_is;
  shown = shown;
}

-- why the header of a journal could not be read is what is wrong with the journal
pub open_fault : (why : FileFault) (most : Option ℕ) (capacity : ℕ) (known : Option (List ℕ)) (image : List ℕ)
    → IsOpenFault why known
    → (text : List ℕ) × IsJournal known text × IsFileFault why most capacity (header_at text) text image
open_fault fault.NoHeader most capacity known image none = (none.0, none.1, none.2)
open_fault (fault.Journal why) most capacity known image unread =
    let any = has_journal known in (any.0, any.1, inl unread)
open_fault (fault.SameHost letter) most capacity known image bad = absurd bad
open_fault fault.SecondGuest most capacity known image bad = absurd bad
open_fault fault.OtherHosts most capacity known image bad = absurd bad
open_fault fault.OtherWorld most capacity known image bad = absurd bad
open_fault (fault.OtherProcess letter) most capacity known image bad = absurd bad
open_fault fault.MetOtherWorld most capacity known image bad = absurd bad
open_fault fault.NoImage most capacity known image bad = absurd bad
open_fault fault.OtherImage most capacity known image bad = absurd bad
open_fault (fault.Image why) most capacity known image bad = absurd bad

pub unread : (why : JournalFault) (known : Option (List ℕ)) (number : ℕ) → IsReadFault known number why → IsUnread why
unread (journal.BadLine k) known number is = absurd is
unread (journal.LongLine k) known number is = tt
unread (journal.TooLong m) known number is = absurd is
unread journal.OutOfMemory known number is = tt
unread journal.LinkFault known number is = tt

-- a text of a journal of which the header was read is one of what was known
pub text_known : (o : Opened) (known : Option (List ℕ)) (text : List ℕ) → o.known ≡ known → IsTextOf o text → IsJournal known text
text_known o known text is text_is = subst (λ k. IsJournal k text) is text_is.whole

-- what is wrong with it is wrong with that text
pub text_fault : (o : Opened) (known : Option (List ℕ)) (why : FileFault) (most : Option ℕ) (capacity : ℕ) (image : List ℕ)
    → o.known ≡ known → (text : List ℕ) × IsTextOf o text × IsFileFault why most capacity (Some o.header) text image
    → (text : List ℕ) × IsJournal known text × IsFileFault why most capacity (header_at text) text image
text_fault o known why most capacity image is (text, text_is, bad) = (
  text,
  text_known o known text is text_is,
  subst (λ h. IsFileFault why most capacity h text image) (sym text_is.header_is) bad,
)

-- the host of a journal did what is wanted of a text of it, and its observer was shown what it answered
pub done_of : {D O : Type 0} (shows : O → List PlainEntry → Type 0) (guest : D → Option Guest) (count : D → ℕ) (observer : D → O)
    (r : Result D FileFault) (most known : Option _) (text image : List ℕ) (o : Opened) (recording : Recording) → o.known ≡ known
    → IsTextOf o text → IsHostAfter most o.header text image recording
    → IfOk r (λ d. guest d ≡ guest_after recording) → IfOk r (λ d. count d ≡ count_of recording)
    → IfOk r (λ d. shows (observer d) recording.journal.entries)
    → IfOk r (λ d. (text : List ℕ) × IsJournal known text
    × IsDone shows most text image (guest d) (count d) (observer d))
done_of shows guest count observer (Ok d) most known text image o recording is text_is host guest_is count_is shown = (
  text,
  text_known o known text is text_is,
  is_done shows most text image o.header recording (guest d) (count d) (observer d) (sym text_is.header_is) host guest_is count_is shown,
)
done_of shows guest count observer (Err e) most known text image o recording is text_is host guest_is count_is shown = tt

-- memory ran out
pub no_memory : {D : Type 0} (r : Result D FileFault) (known most : Option _) (capacity : ℕ) (image : List ℕ)
    → IfErr r (λ why. why ≡ fault.Journal journal.OutOfMemory)
    → IfErr r (λ why. (text : List ℕ) × IsJournal known text × IsFileFault why most capacity (header_at text) text image)
no_memory (Ok d) known most capacity image is = tt
no_memory (Err e) known most capacity image is =
    let any = has_journal known in
    (any.0, any.1, subst (λ why. IsFileFault why most capacity (header_at any.0) any.0 image) (sym is) (inl tt))

-- what is wrong with any text is wrong with the one that there is
pub with_its_text : (o : Opened) (why : FileFault) (most : Option ℕ) (capacity : ℕ) (image : List ℕ)
    → (text : List ℕ) × IsTextOf o text → ((bytes : List ℕ) → IsFileFault why most capacity (Some o.header) bytes image)
    → (text : List ℕ) × IsTextOf o text × IsFileFault why most capacity (Some o.header) text image
with_its_text o why most capacity image (text, is) bad = (text, is, bad text)

-- no guest is at a host, which was reported
pub nobody_here : (name : List ℕ) (guest : Option Guest) (n count : ℕ) (session same errors_before errors_after : Option (List ℕ))
    → None ≡ guest → n ≡ count → Appends errors_before errors_after (no_guest_line name n)
    → IsUnanswered name guest count session same same errors_before errors_after
nobody_here name None n count session same errors_before errors_after none is reported =
    (refl, subst (λ k. Appends errors_before errors_after (no_guest_line name k)) is reported)
nobody_here name (Some g) n count session same errors_before errors_after none is reported = cc
