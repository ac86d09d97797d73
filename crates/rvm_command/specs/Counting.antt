-- Numbers of the words of RAM, as a run counts how often each of them ran.
use Rattle.std.specs.Prelude.{◌≡◌, ◌≤◌, ℕ, true, ◌+◌, ◌-◌, ◌*◌, ◌/◌, ◌%◌, ◌^◌, ◌<◌, ◌==◌, ◌&&◌, Bool, false, nat_le, nat_lt, if◌then◌else◌, List, [], Option, None, Some, length, min, take, drop, sum, get_or, slice_set}
use Rattle.rvm_arguments.specs.declared.arguments.Report.{Report}
use Rattle.rvm_arguments.specs.declared.arguments.Report.TheVariants.{Coverage, Profile, SavedGuest, Signature}
use Rattle.rvm_arguments.specs.declared.arguments.ReportArguments.{ReportArguments}
use Rattle.rvm_asm.specs.declared.image.Segment.{Segment}
use Rattle.rvm_asm.specs.Images.{Piece, pieces_of}
use Rattle.rvm_board.specs.Guest.{Guest}
use Rattle.rvm_board.specs.declared.event.BoardReply.{BoardReply}
use Rattle.rvm_elf.specs.Load.{pieces_fit}
use Rattle.rvm_hart.specs.Bus.{ram_base}
use Rattle.rvm_command.specs.Saved.{saved_bytes}
use Rattle.rvm_command.specs.Coverage.{counted_listing, has_run, runs_at}
use Rattle.rvm_command.specs.Profile.{symbol_lines}
use Rattle.rvm_command.specs.Reports.{signature}
use Rattle.rvm_command.specs.SymbolLines.{symbols_of}
use Rattle.rvm_command.specs.Taken.{Taken}

-- the place of the word at an address among the words of RAM
abbrev pub place_of : (address : ℕ) → ℕ
place_of a = (a - ram_base) / 4

-- whether an address is that of one of the first words of RAM
abbrev pub has_place : (address count : ℕ) → Bool
has_place a count = nat_le ram_base a && (a % 4 == 0 && nat_lt (place_of a) count)

-- the number of the word at an address, or 0 if it has none
unfoldable pub number_at : (counts : List ℕ) → (address : ℕ) → ℕ
number_at counts a = if has_place a (length counts) then get_or counts (place_of a) 0 else 0

-- the numbers with that of the word at an address one more, modulo 2 ^ 32, if it has one
abbrev pub one_more : (address : ℕ) → (counts : List ℕ) → List ℕ
one_more a counts =
    if has_place a (length counts)
    then slice_set counts (place_of a) ((get_or counts (place_of a) 0 + 1) % 2 ^ 32) else counts

-- the numbers after a step of a hart with this pc before it and this answer
unfoldable pub noted : (pc : ℕ) → BoardReply → (counts : List ℕ) → List ℕ
noted pc r counts = if has_run r then one_more pc counts else counts

-- how many of the first words of RAM stand before an address
abbrev pub places_before : (address count : ℕ) → ℕ
places_before a count = min ((a - ram_base + 3) / 4) count

-- how many of them stand before the end of a range, if it has one
abbrev pub places_until : (end : Option ℕ) → (count : ℕ) → ℕ
places_until None count = count
places_until (Some a) count = places_before a count

-- the sum of the numbers of the words in a range of addresses
unfoldable pub sum_between : (counts : List ℕ) → (from : ℕ) → (end : Option ℕ) → ℕ
sum_between counts from end =
    let first = places_before from (length counts) in
    sum (take (places_until end (length counts) - first) (drop first counts))

-- what is written of a report, by the numbers of words, a file of symbols and the guest
abbrev pub written_report : Report → List Piece → (symbols counts : List ℕ) → (after : Guest) → List ℕ
written_report (Signature range) pieces symbols counts g = signature range g
written_report Coverage pieces symbols counts g = counted_listing (number_at counts) pieces
written_report (Profile file) pieces symbols counts g = symbol_lines (sum_between counts) (symbols_of symbols)
written_report SavedGuest pieces symbols counts g = saved_bytes g

-- the same of the report, if one is asked for
abbrev pub written_text : Option ReportArguments → List Piece → (symbols counts : List ℕ) → (after : Guest) → List ℕ
written_text None pieces symbols counts g = []
written_text (Some asked) pieces symbols counts g = written_report asked.report pieces symbols counts g

-- the numbers say how often each word ran in these steps
pub record AreRuns (counts : List ℕ) (ts : List Taken) : Type 0 where
  pub each : (i : ℕ) → i < length counts → get_or counts i 0 ≡ runs_at ts (ram_base + 4 * i)

-- whether a report wants to know how often words ran
abbrev pub wants_counts : Report → Bool
wants_counts (Signature range) = false
wants_counts Coverage = true
wants_counts (Profile file) = true
wants_counts SavedGuest = false

-- whether a report is of what ran or was read, and no saved guest
abbrev pub is_listing : Report → Bool
is_listing SavedGuest = false
is_listing report = true

-- whether the report on a run does, if one is asked for
abbrev pub is_counted : Option ReportArguments → Bool
is_counted None = false
is_counted (Some asked) = wants_counts asked.report

-- segments and numbers are those of an image with these pieces: each piece lies in RAM of this many pages, each word of
-- which has a number
pub record Covers (pages : ℕ) (counts : List ℕ) (segments : List Segment) (pieces : List Piece) : Type 0 where
  pub listed : pieces_of segments ≡ pieces
  pub size : length counts ≡ 1024 * pages
  pub few : length counts ≤ 2 ^ 22
  pub inside : pieces_fit pieces (4 * length counts) ≡ true
