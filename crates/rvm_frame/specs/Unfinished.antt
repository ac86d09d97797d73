-- Where the bytes of a frame that is not whole are kept.
use Rattle.std.specs.Prelude.{◌≡◌, ℕ, ◌+◌, ◌<◌, ◌≤◌, ◌-◌, ◌^◌, ◌++◌, take, Bool, List, [], ◌∷◌, length, vec_capacity, Option, Some, None, Result, Ok, Err}
use Rattle.rvm_codec.specs.Numbers.{within}
use Rattle.rvm_codec.specs.Codec.{◌>>=◌, both, number}
use Rattle.rvm_frame.specs.declared.fault.ReadFault.{ReadFault}
use Rattle.rvm_frame.specs.declared.unfinished.Store.{Store}
use Rattle.rvm_frame.specs.declared.unfinished.Store.TheVariants.{Closed, Page, Other}
use Rattle.rvm_frame.specs.Kinds.{header_len, kind_at}
use Rattle.rvm_frame.specs.Bodies.{contents}
use Rattle.rvm_frame.specs.Grammar.{Received}
use Rattle.rvm_frame.specs.Verdict.{Decides, header_at, verdict, wanted, with_hosts}
use Rattle.rvm_frame.specs.Reader.{Refuses}

-- the stream's version if Hello has come, and the bytes of the frame that is not whole
pub record Beginning : Type 0 where
  pub version : Option ℕ
  pub bytes : List ℕ

-- the bytes after the head
abbrev pub stored : Store → List ℕ
stored Closed = []
stored (Page part) = part
stored (Other body) = body.items

-- A store is open from the header's last byte on. A Page's store has the bytes after its numbers,
-- which are six bytes; any other body's has room for all of the body.
abbrev pub Kept : Bool → List ℕ → Store → Type 0
Kept named head Closed = length head < header_len named
Kept named head (Page part) =
    (header_len named ≤ length head) × (length head ≤ header_len named + 6)
    × (0 < length part → length head ≡ header_len named + 6) × (take 1 head ≡ 4 ∷ [])
    × (length part ≤ 4096)
Kept named head (Other body) =
    (length head ≡ header_len named) × (wanted named head ≤ header_len named + vec_capacity body)

-- from and to if they are named, the move number, the page number and the copy number in the head
-- of a Page
unfoldable pub front_of : Bool → List ℕ → Option (Option (ℕ × ℕ) × ℕ × ℕ × ℕ)
front_of named [] = None
front_of named (b ∷ bytes) =
    header_at named bytes >>= λ h.
    (both (number 2 (within 0 4095)) (number 4 (within 1 (2 ^ 32 - 1)))).read h.3 >>= λ x.
    Some (h.0, h.1, x.0.0, x.0.1)

-- the frame whose first bytes, with its header, are the head, and whose other bytes are the body
unfoldable pub frame_of : Bool → List ℕ → List ℕ → Option Received
frame_of named [] body = None
frame_of named (b ∷ bytes) body =
    kind_at b >>= λ k. header_at named bytes >>= λ h.
    with_hosts h.0 (contents k h.1 (h.3 ++ body))

-- the frame whose header is the head, and whose body these bytes are
unfoldable pub frame_behind : Bool → List ℕ → List ℕ → Option Received
frame_behind named [] body = None
frame_behind named (b ∷ bytes) body =
    kind_at b >>= λ k. header_at named bytes >>= λ h. with_hosts h.0 (contents k h.1 body)

-- n bytes of the piece, at least one, are taken, and decide nothing
pub record Goes (version : Option ℕ) (before piece : List ℕ) (n : ℕ) : Type 0 where
  pub some : 0 < n
  pub within_piece : n ≤ length piece
  pub undecided : (k : ℕ) → k ≤ n → verdict version (before ++ take k piece) ≡ Ok None

-- what a step took, and the frame that ended with it
abbrev pub Takes : Option ℕ → List ℕ → List ℕ → ℕ → Option Received → Type 0
Takes version before piece n None = Goes version before piece n
Takes version before piece n (Some x) = Decides version before piece n (Ok (Some x))

-- the step gives this result
abbrev pub Answers : Option ℕ → List ℕ → List ℕ → Result (ℕ × Option Received) ReadFault → Type 0
Answers version before piece (Ok r) = Takes version before piece r.0 r.1
Answers version before piece (Err fault) = Refuses version before piece fault

-- what is kept after a step
abbrev pub kept_of : List ℕ → Option Received → List ℕ
kept_of bytes None = bytes
kept_of bytes (Some x) = []
