-- What a merge keeps, and what an item adds to it.
use Rattle.std.specs.Prelude.{◌≡◌, ◌⊎◌, ℕ, ◌+◌, ◌≤◌, true, List, [], ◌∷◌, ◌++◌, length, Option, Some, None, Vec, slice_get, is_some, if◌then◌else◌}
use Rattle.std.specs.BTreeMap.{BTreeMap, get_by}
use Rattle.std.specs.Cmp.Lexicographic.{slice_cmp}
use Rattle.std.specs.Ordering.{nat_cmp}
use Rattle.std.specs.Str.{bytes_eq}
use Rattle.rvm_frame.specs.declared.frame.Frame.{Frame}
use Rattle.rvm_recorder.specs.declared.item.ItemRef.{ItemRef}
use Rattle.rvm_recorder.specs.declared.item.ItemRef.TheVariants as look
use Rattle.rvm_recorder.specs.Entries.{PlainEntry}
use Rattle.rvm_recorder.specs.Items.{entries_at}
use Rattle.rvm_message.specs.declared.event.HostEvent.{HostEvent}
use Rattle.rvm_message.specs.declared.event.HostEvent.TheVariants.{Do, Came}
use Rattle.rvm_protocol.specs.Host.{is_there}
use Rattle.rvm_core.specs.declared.event.Event.{Event}
use Rattle.rvm_core.specs.declared.event.Event.TheVariants.{At, Deliver}
use Rattle.rvm_audit.specs.Hosts.{HasBytes}
use Rattle.rvm_audit.specs.declared.merge.Merge.{Merge}
use Rattle.rvm_audit.specs.Placed.{rounds_at, steps_at}

-- the places of frames, by the host that made them and their bytes as one key
abbrev pub Places : Type 0
Places = List ℕ → Option ℕ

-- the places that a map keeps
unfoldable pub places_of : {A : Type 0} → BTreeMap (Vec ℕ A) ℕ → Places
places_of map key = get_by (λ other. slice_cmp nat_cmp key other.items) map

-- the key of a frame, if one was made
abbrev pub key_of : (maker : ℕ) → Option (List ℕ) → Option (List ℕ)
key_of maker None = None
key_of maker (Some bytes) = Some (maker ∷ bytes)

-- the places after one more frame, if one was made, at this place: a key that has a place keeps it
abbrev pub noted : Option (List ℕ) → (place : ℕ) → Places → Places
noted None place places key = places key
noted (Some made) place places key =
    if is_some (places key) then places key else (if bytes_eq made key then Some place else None)

-- how many frames there are after one more, if one was made
abbrev pub counted : Option (List ℕ) → ℕ → ℕ
counted None n = n
counted (Some bytes) n = n + 1

-- the journal that is read is of host x, one of `count` hosts whose streams have this version
module _ (version count x : ℕ) where
  -- this is the key of a frame that comes from another host
  pub record IsKey (from : ℕ) (frame : Frame) (key : List ℕ) : Type 0 where
    pub bytes : List ℕ
    pub other : is_there x count from ≡ true
    pub same : HasBytes version from x frame bytes
    pub key_is : key ≡ from ∷ bytes

  -- the frame is of no other host, or no stream has it
  abbrev pub IsNoFrame : (from : ℕ) → Frame → Type 0
  IsNoFrame from frame = (bytes : List ℕ) → is_there x count from ≡ true → HasBytes version from x frame bytes → ⊥

  -- the frame is of another host, and its bytes have this place
  pub record IsPlaced (from : ℕ) (frame : Frame) (places : Places) (k : ℕ) : Type 0 where
    pub bytes : List ℕ
    pub other : is_there x count from ≡ true
    pub same : HasBytes version from x frame bytes
    pub there : places (from ∷ bytes) ≡ Some k

  -- the frame is of no other host, or its bytes have no place
  abbrev pub IsUnplaced : (from : ℕ) → Frame → Places → Type 0
  IsUnplaced from frame places =
      (bytes : List ℕ) → is_there x count from ≡ true → HasBytes version from x frame bytes
      → places (from ∷ bytes) ≡ None

  -- the event of the world that a host's event is
  abbrev pub Becomes : HostEvent → Places → Event → Type 0
  Becomes (Do c) places e = e ≡ At x c
  Becomes (Came from frame) places e = (k : ℕ) × (e ≡ Deliver k) × IsPlaced from frame places k

  -- a host's event is that a frame came, and cannot stand: the frame has no place
  abbrev pub IsUnmade : HostEvent → Places → Type 0
  IsUnmade (Do c) places = ⊥
  IsUnmade (Came from frame) places = IsUnplaced from frame places

  -- after k entries there is none, or the next is a frame that came and cannot stand
  abbrev pub IsWaiting : List PlainEntry → (k : ℕ) → Places → Type 0
  IsWaiting entries k places =
      (length entries ≤ k) ⊎ ((n : PlainEntry) × (slice_get entries k ≡ Some n) × IsUnmade n.event places)

-- an event of host x was appended, and its frame, if it made one, has a place
pub record IsTaken (old new : Merge) (x : ℕ) (event : Event) (frame : Option (List ℕ)) : Type 0 where
  pub events : new.order ≡ old.order ++ event ∷ []
  pub places : (key : List ℕ)
      → places_of new.places key ≡ noted (key_of x frame) old.made (places_of old.places) key
  pub count : new.made ≡ counted frame old.made

-- events were appended that made no frame
pub record IsRunTaken (old new : Merge) (run : List Event) : Type 0 where
  pub events : new.order ≡ old.order ++ run
  pub places : new.places ≡ old.places
  pub count : new.made ≡ old.made

module _ (version count x : ℕ) where
  -- an entry was taken, as the event that it becomes
  pub record IsEntryTaken (n : PlainEntry) (old new : Merge) : Type 0 where
    pub event : Event
    pub becomes : Becomes version count x n.event (places_of old.places) event
    pub taken : IsTaken old new x event n.frame

  -- an item was taken: an entry as its event, or steps or rounds, which can stand anywhere, at once
  abbrev pub Takes : ItemRef → (old new : Merge) → Type 0
  Takes (look.Entry e) old new = IsEntryTaken e.now old new
  Takes (look.Steps s) old new = IsRunTaken old new (steps_at x s.turn s.harts s.count)
  Takes (look.Rounds r) old new = IsRunTaken old new (rounds_at x r.turn r.harts r.steps r.drain r.count)

  -- the item is an entry that cannot stand, and nothing was taken
  abbrev pub Waits : ItemRef → (old new : Merge) → Type 0
  Waits (look.Entry e) old new = IsUnmade version count x e.now.event (places_of old.places) × (new ≡ old)
  Waits (look.Steps s) old new = ⊥
  Waits (look.Rounds r) old new = ⊥

  -- the first of these items was taken, which has n entries
  pub record AreTaken (items : List (List PlainEntry)) (n : ℕ) (old new : Merge) : Type 0 where
    pub item : ItemRef
    pub rest : List (List PlainEntry)
    pub split : items ≡ entries_at item ∷ rest
    pub count_is : n ≡ length (entries_at item)
    pub takes : Takes item old new

  -- the first of these items is an entry that cannot stand, and nothing was taken
  pub record IsFirstWaiting (items : List (List PlainEntry)) (old new : Merge) : Type 0 where
    pub item : ItemRef
    pub rest : List (List PlainEntry)
    pub split : items ≡ entries_at item ∷ rest
    pub waits : Waits item old new

  -- there is no item, or the first one cannot stand; nothing was taken
  abbrev pub AreWaiting : List (List PlainEntry) → (old new : Merge) → Type 0
  AreWaiting items old new = ((items ≡ []) × (new ≡ old)) ⊎ IsFirstWaiting items old new
