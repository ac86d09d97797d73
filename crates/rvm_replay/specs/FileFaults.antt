-- What is wrong with a journal in a file, and what is reported of it.
use Rattle.std.specs.Prelude.{◌≡◌, ◌≢◌, ◌⊎◌, ⊤, ℕ, List, [], ◌++◌, Option, None, IsSomeAnd, codes}
use Rattle.std.specs.Char.{encode_utf8}
use Rattle.sha2.specs.Sha256.{sha256}
use Rattle.rvm_command.specs.declared.refused.Refused.{Refused}
use Rattle.rvm_command.specs.Command.{refused_text}
use Rattle.rvm_command.specs.GuestFiles.{IsGuestRefusal}
use Rattle.rvm_debug.specs.Words.{lines}
use Rattle.rvm_journal.specs.declared.header.Header.{Header}
use Rattle.rvm_journal.specs.declared.header.Image.{Image}
use Rattle.rvm_journal.specs.declared.replay.JournalFault.{JournalFault}
use Rattle.rvm_journal.specs.declared.replay.JournalFault.TheVariants.{BadLine, LongLine, TooLong, OutOfMemory, LinkFault}
use Rattle.rvm_journal.specs.Headers.{header_at}
use Rattle.rvm_journal.specs.Replaying as journal
use Rattle.rvm_journal.specs.Whole.{IsJournal}
use Rattle.rvm_journal.specs.Replaying.{IsJournalFault}
use Rattle.rvm_replay.specs.declared.file.FileFault.{FileFault}
use Rattle.rvm_replay.specs.declared.file.FileFault.TheVariants.{NoHeader, SameHost, SecondGuest, OtherHosts, OtherWorld, OtherProcess, MetOtherWorld, NoImage, OtherImage, Image as BadImage, Journal as BadJournal}

-- a header names a guest, and this is not the file of its image
abbrev pub IsOtherImage : (guest : Option Image) → (file : List ℕ) → Type 0
IsOtherImage guest file = IsSomeAnd guest (λ i. sha256 file ≢ i.digest)

-- a header names a guest, and the file of its image holds nothing: no file was named
abbrev pub IsNoImage : (guest : Option Image) → (file : List ℕ) → Type 0
IsNoImage guest file = IsOtherImage guest file × (file ≡ [])

-- a header names a guest, and the file holds something that is not its image
abbrev pub IsWrongImage : (guest : Option Image) → (file : List ℕ) → Type 0
IsWrongImage guest file = IsOtherImage guest file × (file ≢ [])

-- a header names a guest, this is the file of its image, and the guest cannot be read from it
abbrev pub IsBadImage : (why : Refused) → (guest : Option Image) → (file : List ℕ) → Type 0
IsBadImage why guest file =
    IsSomeAnd guest (λ i. (sha256 file ≡ i.digest) × IsGuestRefusal i.raw i.pages file why)

-- this is wrong with the file of the image of a guest that a header names
abbrev pub IsGuestFault : FileFault → (guest : Option Image) → (file : List ℕ) → Type 0
IsGuestFault NoHeader guest file = ⊥
IsGuestFault (SameHost letter) guest file = ⊥
IsGuestFault SecondGuest guest file = ⊥
IsGuestFault OtherHosts guest file = ⊥
IsGuestFault OtherWorld guest file = ⊥
IsGuestFault (OtherProcess letter) guest file = ⊥
IsGuestFault MetOtherWorld guest file = ⊥
IsGuestFault NoImage guest file = IsNoImage guest file
IsGuestFault OtherImage guest file = IsWrongImage guest file
IsGuestFault (BadImage why) guest file = IsBadImage why guest file
IsGuestFault (BadJournal why) guest file = ⊥

-- a journal was not read to its end: memory ran out, a read failed, or a line is too long
abbrev pub IsUnread : JournalFault → Type 0
IsUnread (BadLine number) = ⊥
IsUnread (LongLine number) = ⊤
IsUnread (TooLong most) = ⊥
IsUnread OutOfMemory = ⊤
IsUnread LinkFault = ⊤

-- why the header of a journal could not be read, of which these bytes are known: it has none, or was not read
abbrev pub IsOpenFault : FileFault → (known : Option (List ℕ)) → Type 0
IsOpenFault NoHeader known = (text : List ℕ) × IsJournal known text × (header_at text ≡ None)
IsOpenFault (BadJournal why) known = IsUnread why
IsOpenFault fault known = ⊥

-- this is wrong with a journal of these bytes, which has this header, or none, and with the file of its image; its
-- host takes `capacity` events at most. What is wrong with it beside other journals is wrong with none alone
abbrev pub IsFileFault : FileFault → (most : Option ℕ) → (capacity : ℕ) → (header : Option Header) → (bytes image : List ℕ)
    → Type 0
IsFileFault NoHeader most capacity header bytes image = header ≡ None
IsFileFault (SameHost letter) most capacity header bytes image = ⊥
IsFileFault SecondGuest most capacity header bytes image = ⊥
IsFileFault OtherHosts most capacity header bytes image = ⊥
IsFileFault OtherWorld most capacity header bytes image = ⊥
IsFileFault (OtherProcess letter) most capacity header bytes image = ⊥
IsFileFault MetOtherWorld most capacity header bytes image = ⊥
IsFileFault NoImage most capacity header bytes image = IsSomeAnd header (λ h. IsNoImage h.guest image)
IsFileFault OtherImage most capacity header bytes image = IsSomeAnd header (λ h. IsWrongImage h.guest image)
IsFileFault (BadImage why) most capacity header bytes image = IsSomeAnd header (λ h. IsBadImage why h.guest image)
IsFileFault (BadJournal why) most capacity header bytes image =
    IsUnread why ⊎ IsSomeAnd header (λ h. IsJournalFault why most h.hosts h.host (lines bytes) capacity capacity)

-- what is reported of it
abbrev pub fault_text : FileFault → List ℕ
fault_text NoHeader = codes "line 1: no header of a journal"
fault_text (SameHost letter) = codes "a second journal of host " ++ encode_utf8 letter
fault_text SecondGuest = codes "a second guest"
fault_text OtherHosts = codes "of another number of hosts"
fault_text OtherWorld = codes "of another world"
fault_text (OtherProcess letter) = codes "met another process of host " ++ encode_utf8 letter
fault_text MetOtherWorld = codes "met a host of another world"
fault_text NoImage = codes "the journal begins with a guest, so --image has to name its image"
fault_text OtherImage = codes "the image is another one"
fault_text (BadImage why) = refused_text why
fault_text (BadJournal why) = journal.fault_text why

-- the line that reports it
abbrev pub fault_line : (name : List ℕ) → FileFault → List ℕ
fault_line name why = name ++ codes ": " ++ fault_text why ++ codes "\n"
