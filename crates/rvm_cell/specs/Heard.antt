-- Which frames a receiver hears of the stream that its link gives.
use Rattle.std.specs.Io.KnownBytes.{Consumes}
use Rattle.std.specs.List.{flat_map}
use Rattle.std.specs.Prelude.{◌≡◌, ◌⊎◌, ℕ, Bool, true, ◌==◌, ◌&&◌, List, [], ◌∷◌, ◌++◌, Option, None, Some, Result, Ok, Err, IfSome, if◌then◌else◌}
use Rattle.rvm_recorder.specs.Receipts.{PlainReceipt}
use Rattle.rvm_frame.specs.declared.frame.Frame.{Frame}
use Rattle.rvm_frame.specs.Grammar.{Received}
use Rattle.rvm_frame.specs.Reader.{Gathered}
use Rattle.rvm_frame.specs.Stream.{Feed, Run, Splits, bytes_taken, frames_given}
use Rattle.rvm_message.specs.Exchanges.{PlainExchange}
use Rattle.rvm_station.specs.Streams.{all_for_host, comes}
use Rattle.rvm_message.specs.declared.event.HostEvent.{HostEvent}
use Rattle.rvm_message.specs.declared.event.HostEvent.TheVariants.{Came}
use Rattle.rvm_cell.specs.declared.end.WorkEnd.{WorkEnd}
use Rattle.rvm_cell.specs.declared.end.WorkEnd.TheVariants.{BadFrame, Done, Failed, LinkEnded, LinkFault, TooLong}
use Rattle.rvm_cell.specs.Endings.{TellsOver, is_uncalled, last_of}
use Rattle.rvm_cell.specs.Work.{AreOfReceiver}

-- the frame that came, if the event is that a frame came
abbrev pub frame_in : HostEvent → List Frame
frame_in (Came from frame) = frame ∷ []
frame_in e = []

-- the frames that came by these calls, in order
abbrev pub frames_in : List PlainReceipt → List Frame
frames_in receipts = flat_map (λ r. frame_in r.event) receipts

-- all frames were heard, but perhaps not the last, if the worker is not done
abbrev pub IsAllButLast : WorkEnd → (heard all : List Frame) → Type 0
IsAllButLast Done heard all = heard ≡ all
IsAllButLast end heard all = (heard ≡ all) ⊎ ((last : Frame) × (all ≡ heard ++ last ∷ []))

-- the first of the bytes that a link gives are consecutive frames, and those that come to host `to` from host `from`
-- were heard, but perhaps not the last, if the worker is not done
pub record IsHeardOf (from to : ℕ) (bytes : List ℕ) (end : WorkEnd) (heard : List Frame) : Type 0 where
  pub read : List ℕ
  pub rest : List ℕ
  pub frames : List Received
  pub unfinished : List ℕ
  pub whole : bytes ≡ read ++ rest
  pub stream : Splits None read frames unfinished
  pub told : IsAllButLast end heard (all_for_host from to frames)

-- the bytes are a whole stream of frames, and all that come to host `to` from host `from` were heard
pub record IsWholeStream (from to : ℕ) (bytes : List ℕ) (heard : List Frame) : Type 0 where
  pub frames : List Received
  pub stream : Splits None bytes frames []
  pub told : heard ≡ all_for_host from to frames

-- how a receiver may end: done, at the end of a stream, for a fault of it or of the link, or without a call
abbrev pub ends_receiver : WorkEnd → Bool
ends_receiver Done = true
ends_receiver LinkEnded = true
ends_receiver LinkFault = true
ends_receiver BadFrame = true
ends_receiver TooLong = true
ends_receiver Failed = true
ends_receiver end = is_uncalled end

-- how a receiver may end at a frame: done, if its last call tells so, for a fault, or without a call, but not at the
-- end of its link
abbrev pub IsFrameEnd : WorkEnd → (last : Option PlainExchange) → Type 0
IsFrameEnd Done last = TellsOver last
IsFrameEnd LinkEnded last = ⊥
IsFrameEnd end last = ends_receiver end ≡ true

-- how a receiver may end: done only if its last call tells so, and at the end of its link only if it heard the whole
-- stream
abbrev pub IsReceiverEnd : (from to : ℕ) → WorkEnd → (last : Option PlainExchange) → (bytes : Option (List ℕ)) → (heard : List Frame)
    → Type 0
IsReceiverEnd from to Done last bytes heard = TellsOver last
IsReceiverEnd from to LinkEnded last bytes heard = IfSome bytes (λ all. IsWholeStream from to all heard)
IsReceiverEnd from to end last bytes heard = ends_receiver end ≡ true

-- a receiver that ended so leaves these receipts: of these bytes of its link it heard the frames from host `from` to
-- host `to`
pub record IsReceived (from to : ℕ) (bytes : Option (List ℕ)) (end : WorkEnd) (receipts : List PlainReceipt) : Type 0 where
  pub told : AreOfReceiver from receipts
  pub heard : IfSome bytes (λ l. IsHeardOf from to l end (frames_in receipts))
  pub ended : IsReceiverEnd from to end (last_of receipts) bytes (frames_in receipts)

-- a frame of a stream came, if it is one that comes; if that was refused, it may not have come
abbrev pub IsHeard : {A : Type 0} → (from to : ℕ) → Result A WorkEnd → Received → (before behind : List Frame) → Type 0
IsHeard from to (Ok u) x before behind = behind ≡ before ++ comes from to x
IsHeard from to (Err end) x before behind = IsAllButLast end behind (before ++ comes from to x)

-- a reader was fed these bytes, and all frames that it gave were heard
pub record AreHeard (from to : ℕ) (old : Gathered) (bytes : List ℕ) (before behind : List Frame) (new : Gathered) : Type 0 where
  pub feeds : List Feed
  pub run : Run old feeds new
  pub taken : bytes_taken feeds ≡ bytes
  pub heard : behind ≡ before ++ all_for_host from to (frames_given feeds)

-- a link that had these bytes left gave the first of them, and all frames that a reader gave of those were heard
pub record Hears (from to : ℕ) (remaining left : Option (List ℕ)) (old : Gathered) (before behind : List Frame) (new : Gathered)
    : Type 0 where
  pub read : List ℕ
  pub consumed : Consumes remaining left read
  pub heard : AreHeard from to old read before behind new

-- a reader was fed the first of these bytes before the worker ended so, and all frames that it gave were heard, but
-- perhaps not the last
pub record IsHeardUpTo (from to : ℕ) (end : WorkEnd) (old : Gathered) (bytes : List ℕ) (before behind : List Frame) : Type 0 where
  pub feeds : List Feed
  pub new : Gathered
  pub rest : List ℕ
  pub run : Run old feeds new
  pub taken : bytes ≡ bytes_taken feeds ++ rest
  pub heard : IsAllButLast end behind (before ++ all_for_host from to (frames_given feeds))
