-- The host of a journal, and what it does again.
use Rattle.std.specs.Borrow.{Bor}
use Rattle.std.specs.Prelude.{◌≡◌, ⊤, ℕ, true, List, [], ◌∷◌, Option, Some, None, length, map, option_map, slice_get, Vec}
use Rattle.std.specs.declared.alloc.Global.{Global}
use Rattle.std.specs.Option.{option_and_then}
use Rattle.sha2.specs.Sha256.{sha256}
use Rattle.rvm_board.specs.Guest.{GuestState}
use Rattle.rvm_guest.specs.Valid.{is_valid}
use Rattle.rvm_command.specs.GuestFiles.{IsGuestIn}
use Rattle.rvm_host.specs.Hosts.{PlainHost, new_host}
use Rattle.rvm_recorder.specs.History.{Recording}
use Rattle.rvm_journal.specs.Recorders.{events_in}
use Rattle.rvm_recorder.specs.Replay.{IsReplay}
use Rattle.rvm_journal.specs.declared.header.Header.{Header}
use Rattle.rvm_journal.specs.declared.header.Image.{Image}
use Rattle.rvm_journal.specs.Headers.{header_at}
use Rattle.rvm_journal.specs.Reading.{Opened}
use Rattle.rvm_journal.specs.Replaying.{AreFirstTold}
use Rattle.rvm_journal.specs.Told.{Told, told_in}
use Rattle.rvm_journal.specs.Whole.{IsJournal}

-- this guest, or none, is the one that a header names, and that the file of its image has
abbrev pub IsGuestNamed : Option Image → (file : List ℕ) → Option GuestState → Type 0
IsGuestNamed None file guest = guest ≡ None
IsGuestNamed (Some i) file None = ⊥
IsGuestNamed (Some i) file (Some g) =
    (sha256 file ≡ i.digest) × IsGuestIn i.raw i.harts i.pages file g.guest × (is_valid g.guest ≡ true)

-- this is the host with which a journal with this header begins, before it has done anything
pub record IsOpening (header : Header) (image : List ℕ) (host : PlainHost) : Type 0 where
  pub guest : Option GuestState
  pub guest_is : IsGuestNamed header.guest image guest
  pub host_is : host ≡ new_host guest header.host header.hosts 4096 3

-- a host began as the header of its journal says, with this guest or none, and did what the journal tells; each reply and
-- each frame is the one that the protocol gives at its place
pub record IsHostOf (header : Header) (bytes image : List ℕ) (r : Recording) : Type 0 where
  pub guest : Option GuestState
  pub guest_is : IsGuestNamed header.guest image guest
  pub opening : r.journal.opening ≡ new_host guest header.host header.hosts 4096 3
  pub told : Told
  pub told_is : told_in header.hosts header.host bytes ≡ Some told
  pub events : events_in r.journal.entries ≡ told.events
  pub answers : IsReplay r.journal.opening r.journal.entries

-- a host began so, and did the first events that the journal tells: this many, or all, if it tells no more
pub record HasDoneFirst (most : ℕ) (header : Header) (bytes image : List ℕ) (r : Recording) : Type 0 where
  pub guest : Option GuestState
  pub guest_is : IsGuestNamed header.guest image guest
  pub opening : r.journal.opening ≡ new_host guest header.host header.hosts 4096 3
  pub first : AreFirstTold most header.hosts header.host bytes (events_in r.journal.entries)
  pub answers : IsReplay r.journal.opening r.journal.entries

-- a host began so, and did what is wanted of what the journal tells: this many events, or all
abbrev pub IsHostAfter : (most : Option ℕ) → Header → (bytes image : List ℕ) → Recording → Type 0
IsHostAfter None header bytes image r = IsHostOf header bytes image r
IsHostAfter (Some m) header bytes image r = HasDoneFirst m header bytes image r

-- a journal in a file: the name of the file, and its whole lines
pub record JournalText : Type 0 where
  pub name : List ℕ
  pub text : List ℕ

-- these are the journals in files with these names, whose bytes are these, or are not known
abbrev pub AreTexts : (names : List (Bor (List ℕ))) → (known : List (Option (List ℕ))) → List JournalText → Type 0
AreTexts [] [] [] = ⊤
AreTexts (n ∷ ns) (k ∷ ks) (f ∷ fs) = (f.name ≡ n.now) × IsJournal k f.text × AreTexts ns ks fs
AreTexts names known files = ⊥

-- all bytes of journals, which are known
abbrev pub known_in : (journals : List (Vec ℕ Global)) → List (Option (List ℕ))
known_in journals = map (λ (v : Vec ℕ Global). Some v.items) journals

-- all bytes of journals in slices, which are known
abbrev pub known_of : (slices : List (Bor (List ℕ))) → List (Option (List ℕ))
known_of slices = map (λ (b : Bor (List ℕ)). Some b.now) slices

-- the names of their files
abbrev pub names_in : List JournalText → List (List ℕ)
names_in files = map (λ (f : JournalText). f.name) files

-- names that are lent
abbrev pub plain_names : List (Bor (List ℕ)) → List (List ℕ)
plain_names names = map (λ (n : Bor (List ℕ)). n.now) names

-- the header of the journal with this index, if there is such a journal, and it has one
abbrev pub header_number : List JournalText → (index : ℕ) → Option Header
header_number files i = option_and_then (λ f. header_at f.text) (slice_get files i)

-- headers of journals, by index: how many there are, and each that there is
pub record Headers : Type 0 where
  pub count : ℕ
  pub at : ℕ → Option Header

-- those of these journals
abbrev pub headers_in : List JournalText → Headers
headers_in files = record { count = length files; at = header_number files }

-- those that were read of journals
abbrev pub headers_of : List Opened → Headers
headers_of opened = record { count = length opened; at = λ i. option_map (λ (o : Opened). o.header) (slice_get opened i) }
