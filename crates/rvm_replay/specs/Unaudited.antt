-- Why journals of the hosts of a world are not audited.
use Rattle.std.specs.Prelude.{◌≡◌, ◌≢◌, ◌⊎◌, ⊤, ℕ, ◌<◌, true, List, slice_get, Some, None}
use Rattle.rvm_debug.specs.Words.{lines}
use Rattle.rvm_journal.specs.Letters.{letter_of}
use Rattle.rvm_journal.specs.declared.header.Header.{Header}
use Rattle.rvm_replay.specs.Audited.{AreOfOneWorld, IsOnlyOne, is_wanted}
use Rattle.rvm_replay.specs.Journals.{Headers, JournalText, header_number, headers_in}
use Rattle.rvm_journal.specs.Meetings.{SomeMeeting, meetings_in}
use Rattle.rvm_station.specs.declared.log.Meeting.{Meeting}
use Rattle.rvm_replay.specs.FileFaults.{IsFileFault, IsUnread}
use Rattle.rvm_replay.specs.Meetings.{HasOtherProcess}
use Rattle.rvm_replay.specs.declared.file.FileFault.{FileFault}
use Rattle.rvm_replay.specs.declared.file.FileFault.TheVariants.{Journal as BadJournal, MetOtherWorld, NoHeader, OtherHosts, OtherProcess, OtherWorld, SameHost, SecondGuest}
use Rattle.rvm_replay.specs.declared.file.JournalsFault.{JournalsFault}
use Rattle.rvm_replay.specs.declared.file.JournalsFault.TheVariants.{File, NoGuest, OutOfMemory}
use Rattle.rvm_replay.specs.declared.headers.Wanted.{Wanted}
use Rattle.rvm_replay.specs.declared.headers.Wanted.TheVariants.{OfHost, WithGuest}

-- the header with this index is wanted, and so is one before it
pub record IsSecond (hs : Headers) (w : Wanted) (index : ℕ) : Type 0 where
  pub before : ℕ
  pub below : before < index
  pub first : is_wanted w (hs.at before) ≡ true
  pub second : is_wanted w (hs.at index) ≡ true

-- what is wrong with a header, beside that of the journal whose host began with the guest
abbrev pub IsOtherHeader : FileFault → (opening header : Header) → Type 0
IsOtherHeader OtherHosts o h = h.hosts ≢ o.hosts
IsOtherHeader OtherWorld o h = (h.world ≢ 0) × (h.world ≢ o.world)
IsOtherHeader fault o h = ⊥

-- the header with this index does not agree with the one whose host began with the guest
pub record Disagrees (hs : Headers) (index : ℕ) (fault : FileFault) : Type 0 where
  pub first : ℕ
  pub opening : Header
  pub header : Header
  pub one_guest : IsOnlyOne hs WithGuest (Some first)
  pub opening_is : hs.at first ≡ Some opening
  pub header_is : hs.at index ≡ Some header
  pub differs : IsOtherHeader fault opening header

-- what is wrong with the header with this index
abbrev pub IsHeaderFault : Headers → (index : ℕ) → FileFault → Type 0
IsHeaderFault hs i NoHeader = hs.at i ≡ None
IsHeaderFault hs i (SameHost letter) = (x : ℕ) × (letter ≡ letter_of x) × IsSecond hs (OfHost x) i
IsHeaderFault hs i SecondGuest = IsSecond hs WithGuest i
IsHeaderFault hs i fault = Disagrees hs i fault

-- why journals are not those of hosts of one world, by their headers
abbrev pub IsHeadersFault : Headers → JournalsFault → Type 0
IsHeadersFault hs OutOfMemory = ⊥
IsHeadersFault hs NoGuest = IsOnlyOne hs WithGuest None
IsHeadersFault hs (File i fault) = (i < hs.count) × IsHeaderFault hs i fault

-- what is wrong with a meeting that a journal tells: the journal of the host that was met tells another process, or it is
-- of another world
abbrev pub IsOtherMeeting : List JournalText → (opening : Header) → FileFault → Meeting → Type 0
IsOtherMeeting files o (OtherProcess letter) m = (letter ≡ letter_of m.host) × HasOtherProcess files m
IsOtherMeeting files o MetOtherWorld m = (m.world ≢ 0) × (m.world ≢ o.world)
IsOtherMeeting files o fault m = ⊥

-- the journal with this index tells a meeting that does not agree with the others
pub record HasMetOther (files : List JournalText) (index : ℕ) (fault : FileFault) : Type 0 where
  pub hosts : ℕ
  pub opening : Header
  pub file : JournalText
  pub one_world : AreOfOneWorld (headers_in files) hosts opening
  pub file_is : slice_get files index ≡ Some file
  pub differs : SomeMeeting (IsOtherMeeting files opening fault) (meetings_in (lines file.text))

-- so it is with one of the journals
abbrev pub AreMetOther : List JournalText → JournalsFault → Type 0
AreMetOther files (File i fault) = HasMetOther files i fault
AreMetOther files fault = ⊥

-- the journal with this index was refused for what its lines tell, or for its image; a host takes `capacity` events at most
pub record IsRefusedAt (capacity : ℕ) (files : List JournalText) (image : List ℕ) (index : ℕ) (fault : FileFault) : Type 0 where
  pub header : Header
  pub file : JournalText
  pub header_is : header_number files index ≡ Some header
  pub file_is : slice_get files index ≡ Some file
  pub refused : IsFileFault fault None capacity (Some header) file.text image

-- a journal was not read
abbrev pub IsUnreadFile : FileFault → Type 0
IsUnreadFile (BadJournal why) = IsUnread why
IsUnreadFile fault = ⊥

-- why journals are not audited: their headers, the hosts that were met, one of them, or memory ran out; a host takes
-- `capacity` events at most
abbrev pub IsJournalsFault : (capacity : ℕ) → List JournalText → (image : List ℕ) → JournalsFault → Type 0
IsJournalsFault capacity files image OutOfMemory = ⊤
IsJournalsFault capacity files image NoGuest = IsHeadersFault (headers_in files) NoGuest
IsJournalsFault capacity files image (File i fault) =
    IsHeadersFault (headers_in files) (File i fault)
    ⊎ (HasMetOther files i fault ⊎ (IsRefusedAt capacity files image i fault ⊎ IsUnreadFile fault))
