-- Why journals are not audited.
use Rattle.std.proofs.Common.{arith, ◌≡◌, ◌⊎◌, ◌∙◌, ℕ, ◌<◌, ◌≤◌, true, false, List, Option, Some, None, refl, sym, subst, inl, inr}
use Rattle.std.proofs.lemmas.Bool.{true≢false}
use Rattle.std.proofs.lemmas.Bool.Decides.{nat_tests}
use Rattle.rvm_host.specs.Hosts.{is_sized}
use Rattle.rvm_journal.specs.Reading.{IsTextOf, Opened}
use Rattle.rvm_replay.specs.FileFaults.{IsFileFault, IsOpenFault}
use Rattle.rvm_replay.specs.Journals.{JournalText, headers_in}
use Rattle.rvm_replay.specs.Unaudited.{IsHeadersFault, IsJournalsFault}
use Rattle.rvm_replay.specs.Worlds.{IsKeptFault, IsOpenFaultAt}
use Rattle.rvm_replay.specs.declared.file.FileFault.{FileFault}
use Rattle.rvm_replay.specs.declared.file.JournalsFault.{JournalsFault}
use Rattle.rvm_replay.specs.declared.file.JournalsFault.TheVariants.{File, NoGuest, OutOfMemory}

-- what is wrong with headers is wrong with journals
pub of_headers : (capacity : ℕ) (files : List JournalText) (image : List ℕ) (fault : JournalsFault)
    → IsHeadersFault (headers_in files) fault → IsJournalsFault capacity files image fault
of_headers capacity files image OutOfMemory is = tt
of_headers capacity files image NoGuest is = is
of_headers capacity files image (File i f) is = inl is

-- memory may run out for any journals
pub of_memory : (capacity : ℕ) (files : List JournalText) (image : List ℕ) (fault : JournalsFault) → fault ≡ OutOfMemory
    → IsJournalsFault capacity files image fault
of_memory capacity files image fault is = subst (IsJournalsFault capacity files image) (sym is) tt

-- a world of 2 to 8 hosts, which speaks version 3, has each host that is one of theirs
pub sized : (host hosts : ℕ) → (2 ≤ hosts) × (hosts ≤ 8) → host < hosts → is_sized host hosts 4096 3 ≡ true
sized host hosts few there = grind (arith, nat_tests)

-- so a host that does nothing can be made
pub never : (host hosts : ℕ) → (2 ≤ hosts) × (hosts ≤ 8) → host < hosts → is_sized host hosts 4096 3 ≡ false → ⊥
never host hosts few there is = true≢false (sym (sized host hosts few there) ∙ is)

-- a fault of one journal, or memory ran out
pub kept_at : (capacity index : ℕ) (o : Opened) (image : List ℕ) (fault : FileFault) (result : JournalsFault)
    → (result ≡ OutOfMemory) ⊎ (result ≡ File index fault)
    → (text : List ℕ) × IsTextOf o text × IsFileFault fault None capacity (Some o.header) text image
    → IsKeptFault capacity index o image result
kept_at capacity index o image fault result (inl memory) bad = subst (IsKeptFault capacity index o image) (sym memory) tt
kept_at capacity index o image fault result (inr is) bad =
    subst (IsKeptFault capacity index o image) (sym is) (refl, bad)

-- a header that was not read
pub opened_at : (index : ℕ) (known : Option (List ℕ)) (fault : FileFault) (result : JournalsFault)
    → (result ≡ OutOfMemory) ⊎ (result ≡ File index fault) → IsOpenFault fault known → IsOpenFaultAt index known result
opened_at index known fault result (inl memory) bad = subst (IsOpenFaultAt index known) (sym memory) tt
opened_at index known fault result (inr is) bad = subst (IsOpenFaultAt index known) (sym is) (refl, bad)

pub memory_at : (index : ℕ) (known : Option (List ℕ)) (result : JournalsFault) → result ≡ OutOfMemory
    → IsOpenFaultAt index known result
memory_at index known result memory = subst (IsOpenFaultAt index known) (sym memory) tt

pub kept_memory : (capacity index : ℕ) (o : Opened) (image : List ℕ) (result : JournalsFault) → result ≡ OutOfMemory
    → IsKeptFault capacity index o image result
kept_memory capacity index o image result memory = subst (IsKeptFault capacity index o image) (sym memory) tt
