-- How far the journals of hosts are in order, in lines.
use Rattle.std.specs.Fmt.{decimal}
use Rattle.std.specs.Prelude.{ℕ, ◌+◌, if◌then◌else◌, List, [], ◌∷◌, ◌++◌, codes}
use Rattle.rvm_journal.specs.Headers.{header_at}
use Rattle.rvm_replay.specs.Audited.{is_wanted}
use Rattle.rvm_replay.specs.Journals.{JournalText}
use Rattle.rvm_replay.specs.declared.headers.Wanted.TheVariants.{OfHost}

-- the name of the file of a host's journal
abbrev pub journal_name : (host : ℕ) → List JournalText → List ℕ
journal_name x [] = codes "no journal"
journal_name x (f ∷ fs) =
    if is_wanted (OfHost x) (header_at f.text) then f.name else journal_name x fs

-- how many events of the journal in a file are in order, of all that it has
abbrev pub place_text : (place count : ℕ) → (name : List ℕ) → List ℕ
place_text place count name =
    codes ": " ++ decimal place ++ codes " of " ++ decimal count ++ codes " events in order (" ++ name ++ codes ")" ++ codes "\n"

-- the line of the host with this number, by its letter
abbrev pub place_line : List JournalText → (host place count : ℕ) → List ℕ
place_line files x place n = (65 + x) ∷ place_text place n (journal_name x files)

-- the lines of hosts, the first of which has this number, whose journals have these numbers of events
abbrev pub place_lines : List JournalText → (places : ℕ → ℕ) → (host : ℕ) → (counts : List ℕ) → List ℕ
place_lines files places x [] = []
place_lines files places x (n ∷ ns) = place_line files x (places x) n ++ place_lines files places (x + 1) ns
