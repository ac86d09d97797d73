-- A journal that is read line by line. What comes after the last line feed is part of a line that could not be written to its
-- end, and is none of them.
use Rattle.std.specs.Prelude.{◌≡◌, ⊤, ℕ, ◌+◌, ◌<◌, ◌≤◌, ◌^◌, Bool, true, List, [], ◌++◌, Option, IfSome, None, Some, codes, length, take}
use Rattle.std.specs.Io.KnownBytes.{Consumes}
use Rattle.std.specs.List.{list_all}
use Rattle.rvm_debug.specs.Words.{lines}
use Rattle.rvm_journal.specs.declared.header.Header.{Header}
use Rattle.rvm_journal.specs.declared.reader.Piece.{Piece}
use Rattle.rvm_journal.specs.declared.reader.Piece.TheVariants.{Line, Part, End}
use Rattle.rvm_journal.specs.declared.replay.JournalFault.{JournalFault}
use Rattle.rvm_journal.specs.declared.replay.JournalFault.TheVariants.{BadLine, LongLine, TooLong, OutOfMemory, LinkFault}
use Rattle.rvm_journal.specs.Headers.{IsRanged, header_at}
use Rattle.rvm_journal.specs.Meetings.{meetings_in}
use Rattle.rvm_journal.specs.Replaying.{is_whole}
use Rattle.rvm_journal.specs.Told.{header_told}
use Rattle.rvm_journal.specs.Whole.{IsJournal}
use Rattle.rvm_journal.specs.Written.{is_no_feed}
use Rattle.rvm_station.specs.declared.log.Meeting.{Meeting}

-- a journal of which the header was read, and the bytes that were known before it
pub record Opened : Type 0 where
  pub known : Option (List ℕ)
  pub header : Header

-- this is the text of such a journal: its whole lines
pub record IsTextOf (o : Opened) (text : List ℕ) : Type 0 where
  pub whole : IsJournal o.known text
  pub header_is : header_at text ≡ Some o.header

-- so it was read, if all of it was asked for
abbrev pub IsAllRead : (most : Option ℕ) → (read text : List ℕ) → Type 0
IsAllRead None read text = read ≡ text
IsAllRead (Some m) read text = ⊤

-- this is what the lines of a text tell beside events
pub record IsNoted (text : List ℕ) (header : Header) (meetings : List Meeting) (whole : Bool) : Type 0 where
  pub header_is : header_at text ≡ Some header
  pub meetings_are : meetings_in (lines text) ≡ meetings
  pub whole_is : is_whole text ≡ whole
  pub ends : (rest : List ℕ) → lines (text ++ rest) ≡ lines text ++ lines rest

-- the first line of what was known was read, which has this header: it shows this digest, and these are the bytes that are
-- left
pub record IsOpened (known left : Option (List ℕ)) (header : Header) (text digest : List ℕ) : Type 0 where
  pub first : List ℕ
  pub text_is : text ≡ first ++ codes "\n"
  pub one : list_all is_no_feed first ≡ true
  pub consumed : Consumes known left text
  pub header_is : header_at text ≡ Some header
  pub ranged : IsRanged header
  pub shown : header_told first ≡ Some (record { digest = digest; events = [] })

-- no line feed is left
abbrev pub IsAtLastLine : (known : Option (List ℕ)) → Type 0
IsAtLastLine known = IfSome known (λ bytes. list_all is_no_feed bytes ≡ true)

-- the bytes that were read of a line: all before its line feed, which was read with them; or some; or none, and none are left
abbrev pub IsPiece : Piece → (old new : Option (List ℕ)) → (before after : List ℕ) → Type 0
IsPiece Line old new before after =
    (piece : List ℕ) × (after ≡ before ++ piece) × (list_all is_no_feed piece ≡ true) × Consumes old new (piece ++ codes "\n")
IsPiece Part old new before after =
    (piece : List ℕ) × (after ≡ before ++ piece) × (list_all is_no_feed piece ≡ true) × Consumes old new piece
IsPiece End old new before after = IfSome old (λ bytes. bytes ≡ [])

-- this many bytes come before the first line feed, or are all
pub record IsSizeOfLine (bytes : List ℕ) (size : ℕ) : Type 0 where
  pub within : size ≤ length bytes
  pub one : list_all is_no_feed (take size bytes) ≡ true
  pub feed : size < length bytes → take (size + 1) bytes ≡ take size bytes ++ codes "\n"

-- the most bytes of a line, without its line feed
abbrev pub most_of_line : ℕ
most_of_line = 2 ^ 17

-- more bytes than a line may have come without a line feed
pub record IsLong (bytes : List ℕ) : Type 0 where
  pub line : List ℕ
  pub rest : List ℕ
  pub all : bytes ≡ line ++ rest
  pub one : list_all is_no_feed line ≡ true
  pub long : most_of_line < length line

-- so it is after the lines before the one with this number, from 1
pub record HasLongLine (number : ℕ) (bytes : List ℕ) : Type 0 where
  pub before : List ℕ
  pub behind : List ℕ
  pub all : bytes ≡ before ++ behind
  pub number_is : number ≡ length (lines before) + 1
  pub long : IsLong behind

-- a line of what is known is too long, if that is reported
abbrev pub IfLong : (known : Option (List ℕ)) → JournalFault → Type 0
IfLong known (LongLine number) = IfSome known (HasLongLine number)
IfLong known fault = ⊤

-- a read failed, or memory ran out
abbrev pub IsSystemFault : JournalFault → Type 0
IsSystemFault (BadLine number) = ⊥
IsSystemFault (LongLine number) = ⊥
IsSystemFault (TooLong most) = ⊥
IsSystemFault OutOfMemory = ⊤
IsSystemFault LinkFault = ⊤

-- why the line with this number could not be read
abbrev pub IsReadFault : (known : Option (List ℕ)) → (number : ℕ) → JournalFault → Type 0
IsReadFault known number (LongLine k) = (k ≡ number) × IfSome known IsLong
IsReadFault known number fault = IsSystemFault fault
