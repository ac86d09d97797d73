-- Journals that were cut: the last entries of some of them are missing.
use Rattle.std.specs.Prelude.{◌≡◌, ◌⊎◌, ℕ, ◌<◌, ◌≤◌, Bool, true, false, List, [], ◌∷◌, ◌++◌, Some, get_or, length, slice_get, take}
use Rattle.rvm_frame.specs.declared.frame.Frame.{Frame}
use Rattle.rvm_recorder.specs.Entries.{PlainEntry}
use Rattle.rvm_recorder.specs.History.{History}
use Rattle.rvm_message.specs.declared.event.HostEvent.{HostEvent}
use Rattle.rvm_message.specs.declared.event.HostEvent.TheVariants.{Do, Came}
use Rattle.rvm_protocol.specs.Host.{is_there}
use Rattle.rvm_audit.specs.Hosts.{HasBytes, HostEntry, Made, WasMade, entries_at, made_more}
use Rattle.rvm_audit.specs.Orders.{IsClosed, IsStuck, Journals}
use Rattle.rvm_audit.specs.ListOrders.{journals_of}

-- of the hosts' journals, those that were cut may go on, and those that were not are whole
pub record Completes (j : Journals) (is_cut : ℕ → Bool) (whole : Journals) : Type 0 where
  pub openings : whole.openings ≡ j.openings
  pub goes_on : (x : ℕ) → x < j.openings.count → (rest : List PlainEntry) × (whole.entries x ≡ j.entries x ++ rest)
  pub ends : (x : ℕ) → x < j.openings.count → is_cut x ≡ false → whole.entries x ≡ j.entries x

-- these hosts are stuck at their places and wait only for one another; one of them is not at its end, and none of them
-- was cut and is at its end
pub record Contradicts (j : Journals) (is_cut : ℕ → Bool) (places : ℕ → ℕ) (members : ℕ → Bool) : Type 0 where
  pub within : (x : ℕ) → x < j.openings.count → places x ≤ length (j.entries x)
  pub closed : IsClosed j places members
  pub stuck : (x : ℕ) → x < j.openings.count → members x ≡ true → IsStuck j places x
  pub more : (x : ℕ) → x < j.openings.count → members x ≡ true → is_cut x ≡ true → places x < length (j.entries x)
  pub rest : (x : ℕ) × (x < j.openings.count) × (members x ≡ true) × (places x < length (j.entries x))

-- at some places, some of the hosts contradict one another
pub record IsContradiction (j : Journals) (is_cut : ℕ → Bool) : Type 0 where
  pub places : ℕ → ℕ
  pub members : ℕ → Bool
  pub contradicts : Contradicts j is_cut places members

-- the frames that the entries of a sequence made, oldest first
abbrev pub all_made : List HostEntry → List Made
all_made [] = []
all_made (s ∷ ss) = made_more s.0 s.1.frame ++ all_made ss

-- of these journals
module _ (j : Journals) (is_cut : ℕ → Bool) where
  -- the entry by which host `from` made this frame for host x may have been cut off: the journal of `from` was cut, and
  -- all that is left of it stands before
  pub record MayBeCutOff (before : List HostEntry) (x from : ℕ) (frame : Frame) : Type 0 where
    pub bytes : List ℕ
    pub other : is_there x j.openings.count from ≡ true
    pub same : HasBytes (j.openings.host x).version from x frame bytes
    pub was_cut : is_cut from ≡ true
    pub ended : entries_at from before ≡ j.entries from

  -- if an event of host x is that a frame came, the frame was made before, or the entry that made it may have been cut
  -- off
  abbrev pub IsExplained : (before : List HostEntry) → (x : ℕ) → HostEvent → Type 0
  IsExplained before x (Do c) = Unit {0}
  IsExplained before x (Came from frame) =
      (WasMade j.openings (all_made before) x from frame) ⊎ (MayBeCutOff before x from frame)

  -- each entry is of a host that is there, and if it is that a frame came, this is explained by the entries before it
  pub record AllExplained (sequence : List HostEntry) : Type 0 where
    pub there : (k : ℕ) (s : HostEntry) → slice_get sequence k ≡ Some s → s.0 < j.openings.count
    pub explained : (k : ℕ) (s : HostEntry) → slice_get sequence k ≡ Some s
        → IsExplained (take k sequence) s.0 s.1.event

  -- all entries of the journals stand in one sequence in which each frame that came was made before, or by an entry
  -- that may have been cut off
  pub record IsExplanation (sequence : List HostEntry) : Type 0 where
    pub entries : (x : ℕ) → x < j.openings.count → entries_at x sequence ≡ j.entries x
    pub all : AllExplained sequence

-- which journals of a list are marked
abbrev pub marked : List Bool → (x : ℕ) → Bool
marked marks x = get_or marks x false

-- the journals contradict one another, of which the marked ones were cut
abbrev pub AreContradicted : List History → (cuts : List Bool) → Type 0
AreContradicted hs cuts = IsContradiction (journals_of hs) (marked cuts)

-- the journals have an explanation, of which the marked ones were cut
pub record AreExplained (hs : List History) (cuts : List Bool) : Type 0 where
  pub sequence : List HostEntry
  pub explanation : IsExplanation (journals_of hs) (marked cuts) sequence
