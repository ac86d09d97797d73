-- Journals of the hosts of a world that are read one after the other.
use Rattle.std.specs.Borrow.{Bor}
use Rattle.std.specs.Prelude.{◌≡◌, ◌≢◌, ◌⊎◌, ⊤, ℕ, List, [], ◌∷◌, ◌++◌, length, slice_get, Option, Some, None}
use Rattle.rvm_journal.specs.Reading.{IsTextOf, Opened}
use Rattle.rvm_recorder.specs.History.{Recording}
use Rattle.rvm_replay.specs.Audited.{HasDone, IsIdle}
use Rattle.rvm_replay.specs.FileFaults.{IsFileFault, IsOpenFault}
use Rattle.rvm_replay.specs.Journals.{IsHostOf, JournalText}
use Rattle.rvm_replay.specs.declared.file.JournalsFault.{JournalsFault}
use Rattle.rvm_replay.specs.declared.file.JournalsFault.TheVariants.{File, NoGuest, OutOfMemory}

-- a journal of which the header was read has a text
abbrev pub HasText : Opened → Type 0
HasText o = (text : List ℕ) × IsTextOf o text

-- each of them has one
abbrev pub AllHaveTexts : List Opened → Type 0
AllHaveTexts [] = ⊤
AllHaveTexts (o ∷ os) = HasText o × AllHaveTexts os

-- the headers of journals were read, of which these bytes are known
abbrev pub AreOpened : (known : List (Option (List ℕ))) → List Opened → Type 0
AreOpened [] [] = ⊤
AreOpened (k ∷ ks) (o ∷ os) = (o.known ≡ k) × HasText o × AreOpened ks os
AreOpened known opened = ⊥

-- that of one more was read
pub record IsOneOpened (known : Option (List ℕ)) (old new : List Opened) : Type 0 where
  pub one : Opened
  pub known_is : one.known ≡ known
  pub has_text : HasText one
  pub last : new ≡ old ++ one ∷ []

-- why the header of the journal with this index was not read, of which these bytes are known
abbrev pub IsOpenFaultAt : (index : ℕ) → (known : Option (List ℕ)) → JournalsFault → Type 0
IsOpenFaultAt index known OutOfMemory = ⊤
IsOpenFaultAt index known NoGuest = ⊥
IsOpenFaultAt index known (File i fault) = (i ≡ index) × IsOpenFault fault known

-- the header of one of the journals was not read, of which these bytes are known
pub record AreNotOpened (known : List (Option (List ℕ))) (fault : JournalsFault) : Type 0 where
  pub index : ℕ
  pub one : Option (List ℕ)
  pub there : slice_get known index ≡ Some one
  pub refused : IsOpenFaultAt index one fault

-- these are the journals in files with these names, whose headers were read
abbrev pub AreTextsOf : (names : List (Bor (List ℕ))) → List Opened → List JournalText → Type 0
AreTextsOf [] [] [] = ⊤
AreTextsOf (n ∷ ns) (o ∷ os) (f ∷ fs) = (f.name ≡ n.now) × IsTextOf o f.text × AreTextsOf ns os fs
AreTextsOf names opened files = ⊥

-- each of these hosts, by number, did what its journal tells
abbrev pub AreKept : {K : Type 0} → (recording : K → Recording) → List JournalText → (image : List ℕ) → (hosts : List K) → Type 0
AreKept {K} recording files image hosts =
    (x : ℕ) (kept : K) → slice_get hosts x ≡ Some kept → HasDone files image (length hosts) x (recording kept)

-- each of these hosts has no journal, and did nothing
abbrev pub AreIdle : {K : Type 0} → (recording : K → Recording) → (hosts : List K) → Type 0
AreIdle {K} recording hosts = (x : ℕ) (kept : K) → slice_get hosts x ≡ Some kept → IsIdle (length hosts) x (recording kept)

-- among hosts, the one with this number is another now, and the others are as they were
pub record IsPutAt {K : Type 0} (host : ℕ) (one : K) (old new : List K) : Type 0 where
  pub long : length new ≡ length old
  pub each : (x : ℕ) (kept : K) → slice_get new x ≡ Some kept
      → ((x ≡ host) × (kept ≡ one)) ⊎ ((x ≢ host) × (slice_get old x ≡ Some kept))

-- one more journal was read, and its host did what it tells
pub record IsOneKept {K : Type 0} (recording : K → Recording) (name : List ℕ) (o : Opened) (image : List ℕ)
    (old new : List JournalText) (hosts hosts' : List K) : Type 0 where
  pub text : List ℕ
  pub text_is : IsTextOf o text
  pub last : new ≡ old ++ record { name = name; text = text } ∷ []
  pub one : K
  pub host : IsHostOf o.header text image (recording one)
  pub put : IsPutAt o.header.host one hosts hosts'

-- why the host of the journal with this index did not do what it tells
abbrev pub IsKeptFault : (capacity index : ℕ) → Opened → (image : List ℕ) → JournalsFault → Type 0
IsKeptFault capacity index o image OutOfMemory = ⊤
IsKeptFault capacity index o image NoGuest = ⊥
IsKeptFault capacity index o image (File i fault) =
    (i ≡ index) × ((text : List ℕ) × IsTextOf o text × IsFileFault fault None capacity (Some o.header) text image)
