-- Going through journals of which some were cut: what may be passed, and how far it came.
use Rattle.std.specs.Prelude.{◌≡◌, ◌⊎◌, ℕ, ◌<◌, ◌≤◌, ◌+◌, Bool, true, false, not, List, ◌∷◌, Some, is_some, length, set, slice_get, take}
use Rattle.rvm_frame.specs.declared.frame.Frame.{Frame}
use Rattle.rvm_recorder.specs.Entries.{PlainEntry}
use Rattle.rvm_message.specs.declared.event.HostEvent.{HostEvent}
use Rattle.rvm_message.specs.declared.event.HostEvent.TheVariants.{Do, Came}
use Rattle.rvm_protocol.specs.Host.{is_there}
use Rattle.rvm_audit.specs.Hosts.{HasBytes, HostEntry, Made, entries_at}
use Rattle.rvm_audit.specs.Orders.{IsStuck, Journals}
use Rattle.rvm_audit.specs.Merging.{Places, key_of, noted, places_of}
use Rattle.rvm_audit.specs.Quiet.{AreQuiet}
use Rattle.rvm_audit.specs.Cuts.{AllExplained, IsContradiction, IsExplanation, all_made, marked}
use Rattle.rvm_audit.specs.declared.known.Known.{Known}
use Rattle.rvm_audit.specs.declared.known.Passed.{Passed}
use Rattle.rvm_audit.specs.declared.stretch.StretchRef.{StretchRef}
use Rattle.rvm_audit.specs.declared.stretch.StretchRef.TheVariants as look
use Rattle.rvm_audit.specs.PlainParts.{PlainPart}
use Rattle.rvm_audit.specs.declared.part.Place.{Place}
use Rattle.rvm_audit.specs.Parts.{AreOf, IsAt, entries_in, place_at, taken}

-- the journal that is gone through is of host x, one of `count` hosts whose streams have this version; `made` has a
-- place for each frame that is known to have been made, and a spent host may have made any frame
module _ (version count x : ℕ) (made : Places) (spent : ℕ → Bool) where
  -- the frame is of another host, and that one is spent, or is known to have made it
  pub record MayCome (from : ℕ) (frame : Frame) : Type 0 where
    pub bytes : List ℕ
    pub other : is_there x count from ≡ true
    pub same : HasBytes version from x frame bytes
    pub may : (spent from ≡ true) ⊎ (is_some (made (from ∷ bytes)) ≡ true)

  -- the frame is of no other host, or of one that is not spent and is not known to have made it
  abbrev pub MayNotCome : (from : ℕ) → Frame → Type 0
  MayNotCome from frame =
      (bytes : List ℕ) → is_there x count from ≡ true → HasBytes version from x frame bytes
      → (spent from ≡ false) × (is_some (made (from ∷ bytes)) ≡ false)

  -- the host's event may be passed: it is a command, or the frame that came may have been made
  abbrev pub MayPass : HostEvent → Type 0
  MayPass (Do c) = Unit {0}
  MayPass (Came from frame) = MayCome from frame

  -- the host's event may not be passed
  abbrev pub MayNotPass : HostEvent → Type 0
  MayNotPass (Do c) = ⊥
  MayNotPass (Came from frame) = MayNotCome from frame

  -- after k entries the host is blocked: the next may not be passed, or there is none, and if the journal was cut, the
  -- host is spent
  abbrev pub IsBlocked : (is_cut : Bool) → List PlainEntry → (k : ℕ) → Type 0
  IsBlocked is_cut entries k =
      ((length entries ≤ k) × (is_cut ≡ true → spent x ≡ true))
      ⊎ ((n : PlainEntry) × (slice_get entries k ≡ Some n) × MayNotPass n.event)

-- a frame has a place if it was made
pub record AreKnown (made : List Made) (places : Places) : Type 0 where
  pub found : (x : ℕ) (bytes : List ℕ) → is_some (places (x ∷ bytes)) ≡ true
      → (k : ℕ) × (slice_get made k ≡ Some (x, bytes))
  pub all : (x : ℕ) (bytes : List ℕ) (k : ℕ) → is_some (places (x ∷ bytes)) ≡ false
      → slice_get made k ≡ Some (x, bytes) → ⊥

-- the journals, of which some were cut, were gone through up to these places; the frames that were made on the way have
-- places, and those hosts are spent whose journals were cut and are at their ends
pub record IsPassage (j : Journals) (is_cut : ℕ → Bool) (at : ℕ → ℕ) (made : Places) (spent : ℕ → Bool) : Type 0 where
  pub within : (x : ℕ) → x < j.openings.count → at x ≤ length (j.entries x)
  pub sequence : List HostEntry
  pub entries : (x : ℕ) → x < j.openings.count → entries_at x sequence ≡ take (at x) (j.entries x)
  pub all : AllExplained j is_cut sequence
  pub known : AreKnown (all_made sequence) made
  pub ended : (x : ℕ) → x < j.openings.count → spent x ≡ true → (is_cut x ≡ true) × (at x ≡ length (j.entries x))

-- the end of going through journals: what was passed is explained, and no host can go on; they have an explanation if each
-- was taken to its end, and contradict one another if one was not
pub record HasPassed (j : Journals) (is_cut : ℕ → Bool) (places : ℕ → ℕ) : Type 0 where
  pub within : (x : ℕ) → x < j.openings.count → places x ≤ length (j.entries x)
  pub sequence : List HostEntry
  pub entries : (x : ℕ) → x < j.openings.count → entries_at x sequence ≡ take (places x) (j.entries x)
  pub all : AllExplained j is_cut sequence
  pub stuck : (x : ℕ) → x < j.openings.count → IsStuck j places x
  pub explained : ((x : ℕ) → x < j.openings.count → length (j.entries x) ≤ places x)
      → (sequence : List HostEntry) × IsExplanation j is_cut sequence
  pub contradiction : (x : ℕ) → x < j.openings.count → places x < length (j.entries x) → IsContradiction j is_cut

-- WHAT THE CODE KEEPS

module _ (version count x : ℕ) where
  -- an entry was passed, and its frame, if it made one, has a place
  pub record IsEntryPassed (n : PlainEntry) (p : Passed) (old new : Known) : Type 0 where
    pub may : MayPass version count x (places_of old.made) (marked old.spent.items) n.event
    pub made : (key : List ℕ) → places_of new.made key ≡ noted (key_of x n.frame) 0 (places_of old.made) key
    pub spent : new.spent ≡ old.spent
    pub entries : p.entries ≡ 1
    pub silent : p.is_silent ≡ not (is_some n.frame)

  -- a stretch was passed: an entry that may be, or commands, which may always be
  abbrev pub StretchPasses : StretchRef → Passed → (old new : Known) → Type 0
  StretchPasses (look.Framed f) p old new = IsEntryPassed f.now p old new
  StretchPasses (look.Quiet q) p old new = (p.entries ≡ length q.now) × AreQuiet q.now × (new ≡ old)

  -- a stretch is of an entry that may not be passed
  abbrev pub StretchBlocks : StretchRef → (old new : Known) → Type 0
  StretchBlocks (look.Framed f) old new =
      MayNotPass version count x (places_of old.made) (marked old.spent.items) f.now.event × (new ≡ old)
  StretchBlocks (look.Quiet q) old new = ⊥

-- the journal of host x was taken to its end: if it was cut, the host is spent; the next host to ask is the one after
-- it, or the first if the host was not spent before
abbrev pub EndsJournal : (is_cut : Bool) → (x : ℕ) → (old new : Known) → (next : ℕ) → Type 0
EndsJournal is_cut x old new next =
    ((is_cut ≡ true → marked old.spent.items x ≡ true) × (new ≡ old) × (next ≡ x + 1))
    ⊎ ((is_cut ≡ true) × (new.made ≡ old.made) × (new.spent.items ≡ set old.spent.items x true) × (next ≡ 0))

-- the parts were gone through up to these places
pub record IsPassing (parts : List PlainPart) (cuts : List Bool) (places : List Place) (known : Known) : Type 0 where
  pub long : length places ≡ length parts
  pub spent : length known.spent.items ≡ length parts
  pub each : (x : ℕ) (part : PlainPart) → slice_get parts x ≡ Some part → IsAt part (place_at places x)
  pub passage : (j : Journals) → AreOf j parts
      → IsPassage j (marked cuts) (taken places) (places_of known.made) (marked known.spent.items)

-- the hosts below n are blocked
abbrev pub AllBlocked : List PlainPart → (cuts : List Bool) → List Place → Known → (n : ℕ) → Type 0
AllBlocked parts cuts places known n =
    (x : ℕ) (part : PlainPart) → x < n → slice_get parts x ≡ Some part
    → IsBlocked part.version (length parts) x (places_of known.made) (marked known.spent.items) (marked cuts x)
    (entries_in part) (taken places x)
