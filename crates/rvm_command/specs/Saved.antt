-- Saved guests: the bytes that are written for a guest, and which guest bytes are.
use Rattle.std.specs.Prelude.{ℕ, suc, ◌==◌, ◌&&◌, not, Bool, false, List, [], ◌∷◌, ◌++◌, length, Option, None}
use Rattle.rvm_board.specs.Guest.{Guest}
use Rattle.rvm_frame.specs.declared.frame.Frame.{Frame}
use Rattle.rvm_frame.specs.declared.frame.Frame.TheVariants as frame
use Rattle.rvm_frame.specs.Grammar.{Received}
use Rattle.rvm_frame.specs.Reader.{Gathered}
use Rattle.rvm_guest.specs.Pages.{count_of}
use Rattle.rvm_guest.specs.TheGuest.{board}
use Rattle.rvm_mem.specs.Pages.{page_of}
use Rattle.rvm_message.specs.Frames.{frame_heard}
use Rattle.rvm_protocol.specs.Host.{Host}
use Rattle.rvm_protocol.specs.Pages.{listed}
use Rattle.rvm_command.specs.SentFrames.{after_frame, running, waiting}
use Rattle.rvm_command.specs.Streams.{GoesOn, Hears, Reads, bytes_of}
use Rattle.rvm_state.specs.Spelling as state

-- the copy of a page of RAM
abbrev pub page_frame : (ram : List ℕ) → ℕ → Frame
page_frame ram p = frame.Page 1 p (suc p) (page_of p ram)

-- the frames that a move of a guest sends to its target while the guest has no event, in a stream of version 1: Hello,
-- the offer, a copy of each page, the end of the round, the state, and the commit
abbrev pub saved_frames : Guest → List Frame
saved_frames g =
    let n = count_of g in
    frame.Hello 1 ∷ frame.Offer 1 n (length g.board.harts)
    ∷ (listed (page_frame g.board.shared.bytes) 0 n
    ++ frame.RoundEnd 1 1 n 0 0 ∷ frame.State 1 (listed suc 0 n) (state.spelling g) ∷ frame.Go 1 ∷ [])

-- the bytes that are written for a guest
abbrev pub saved_bytes : Guest → List ℕ
saved_bytes g = bytes_of (saved_frames g)

-- a host of debugged boards
abbrev pub BoardHost : Type 0
BoardHost = Host Guest (List ℕ)

-- host 1 of two, which takes guests of at most 4096 pages, after a frame of a stream came from host 0
abbrev pub after_received : Received → BoardHost → BoardHost
after_received x h = after_frame board (frame_heard x.1) h

-- the guest that runs at a host and makes no move
abbrev pub guest_running : BoardHost → Option Guest
guest_running h = running h.mode

-- bytes from the next frame of a stream on lead a host to run this guest
abbrev pub Restores : (version : Option ℕ) → List ℕ → BoardHost → Guest → Type 0
Restores version bytes h g = Reads after_received guest_running version bytes h g

-- bytes are a saved guest: a stream whose frames, given one after the other to a host without a guest, leave a host that
-- runs this guest
abbrev pub IsSavedGuest : (bytes : List ℕ) → Guest → Type 0
IsSavedGuest bytes g = Restores None bytes waiting g

-- the first n of the bytes that are left are a frame, after which the reader and the host are these
abbrev pub IsHeard : (version : Option ℕ) → (left : List ℕ) → BoardHost → (n : ℕ) → (reader : Gathered) → BoardHost → Type 0
IsHeard version left h n reader next = Hears after_received guest_running version left h n reader next

-- the bytes that are left lead this host to run the guest that all bytes are
abbrev pub IsLeft : (bytes : List ℕ) → (version : Option ℕ) → (left : List ℕ) → BoardHost → Type 0
IsLeft bytes version left h = GoesOn after_received guest_running waiting bytes version left h

-- whether bytes begin as a stream does, with the byte of Hello
abbrev pub begins_saved : (bytes : List ℕ) → Bool
begins_saved [] = false
begins_saved (b ∷ bytes) = b == 0

-- whether a file is read as a saved guest: it begins as one does, and is not said to be plain bytes
abbrev pub is_saved : (raw : Bool) → (file : List ℕ) → Bool
is_saved raw file = not raw && begins_saved file
