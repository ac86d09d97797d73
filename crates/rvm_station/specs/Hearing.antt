-- What is heard on the connection to another host.
use Rattle.std.specs.Io.KnownBytes.{Consumes}
use Rattle.std.specs.List.{All}
use Rattle.std.specs.Prelude.{◌≡◌, ◌<◌, ◌⊎◌, ⊤, ℕ, false, List, [], ◌∷◌, ◌++◌, map, Option, None, Err}
use Rattle.rvm_frame.specs.declared.fault.FrameFault.{FrameFault}
use Rattle.rvm_frame.specs.declared.fault.FrameFault.TheVariants as frame
use Rattle.rvm_frame.specs.declared.fault.ReadFault.{ReadFault}
use Rattle.rvm_frame.specs.declared.frame.Frame.{Frame}
use Rattle.rvm_frame.specs.Grammar.{Received}
use Rattle.rvm_frame.specs.Reader.{Gathered, at_start}
use Rattle.rvm_frame.specs.Stream.{Feed, Run, Splits, bytes_taken, frames_given}
use Rattle.rvm_frame.specs.Verdict.{Decides}
use Rattle.rvm_station.specs.Asked.{Answers, AreAnswered}
use Rattle.rvm_message.specs.declared.event.HostEvent.TheVariants as event
use Rattle.rvm_message.specs.Exchanges.{PlainExchange}
use Rattle.rvm_link.specs.declared.record_fault.RecordFault.{RecordFault}
use Rattle.rvm_link.specs.declared.record_fault.RecordFault.TheVariants as record_fault
use Rattle.rvm_link.specs.Records.{Fits, Record, bytes_in, data_in}
use Rattle.rvm_station.specs.Streams.{all_for_host, is_between}
use Rattle.rvm_station.specs.declared.host_hearing.HearEnd.{HearEnd}
use Rattle.rvm_station.specs.declared.host_hearing.HearEnd.TheVariants.{BadStream, Closed, OutOfMemory}

-- why a host is no longer heard after the fault of a record
abbrev pub of_record : RecordFault → HearEnd
of_record record_fault.Broken = Closed
of_record record_fault.NotRecord = BadStream

-- why a host is no longer heard after the fault of a frame
abbrev pub of_frame : FrameFault → HearEnd
of_frame frame.OutOfMemory = OutOfMemory
of_frame frame.BadFrame = BadStream
of_frame frame.TooLong = BadStream
of_frame frame.Failed = BadStream

-- these frames of host `from` came to this host in order, each once, and nothing else came
pub record HaveCome (gave : Answers) (from : ℕ) (before now : Option (List PlainExchange))
    (frames : List Frame) : Type 0 where
  pub exchanges : List PlainExchange
  pub answered : AreAnswered gave before now exchanges
  pub events : map (λ x. x.event) exchanges ≡ map (event.Came from) frames

-- all of these frames were told, or all but the last
abbrev pub AllButLast : (told all : List Frame) → Type 0
AllButLast told all = (told ≡ all) ⊎ ((last : Frame) × (all ≡ told ++ last ∷ []))

-- the first of these bytes is no kind of a record
abbrev pub IsNoRecord : List ℕ → Type 0
IsNoRecord bytes = (kind : ℕ) × (behind : List ℕ) × (2 < kind) × (bytes ≡ kind ∷ behind)

-- no reader takes all of these bytes, from the first one on
abbrev pub IsNoStream : List ℕ → Type 0
IsNoStream bytes = (feeds : List Feed) (end : Gathered) → Run at_start feeds end → bytes_taken feeds ≡ bytes → ⊥

-- there is a last of these frames, and it names other hosts than these two
abbrev pub NamesOthers : (from to : ℕ) → List Received → Type 0
NamesOthers from to frames =
    (first : List Received) × (last : Received) × (frames ≡ first ++ last ∷ []) × (is_between from to last.0 ≡ false)

-- a bad stream is reported only if no record comes next, what the records carry is no stream of frames, or a frame
-- names other hosts
abbrev pub IsBad : (from to : ℕ) → HearEnd → (rest carried : List ℕ) → List Received → Type 0
IsBad from to BadStream rest carried frames = IsNoRecord rest ⊎ (IsNoStream carried ⊎ NamesOthers from to frames)
IsBad from to end rest carried frames = ⊤

-- the first bytes of a connection are consecutive records; the first bytes that these carry are consecutive frames; of
-- those that go from host `from` to host `to`, all or all but the last came to this host, in order; and a bad stream is
-- reported only for a reason
pub record IsHeardOn (gave : Answers) (from to : ℕ) (end : HearEnd)
    (before now : Option (List PlainExchange)) (bytes : List ℕ) : Type 0 where
  pub records : List Record
  pub rest : List ℕ
  pub read : List ℕ
  pub unread : List ℕ
  pub frames : List Received
  pub unfinished : List ℕ
  pub told : List Frame
  pub fit : All Fits records
  pub whole : bytes ≡ bytes_in records ++ rest
  pub carried : data_in records ≡ read ++ unread
  pub stream : Splits None read frames unfinished
  pub in_order : AllButLast told (all_for_host from to frames)
  pub came : HaveCome gave from before now told
  pub bad : IsBad from to end rest (data_in records) frames

-- a reader was fed these bytes, and all frames that it gave and that go from host `from` to host `to` came to this host
pub record AreTold (gave : Answers) (from to : ℕ) (before now : Option (List PlainExchange))
    (old : Gathered) (bytes : List ℕ) (new : Gathered) : Type 0 where
  pub feeds : List Feed
  pub run : Run old feeds new
  pub taken : bytes_taken feeds ≡ bytes
  pub came : HaveCome gave from before now (all_for_host from to (frames_given feeds))

-- a reader refuses these bytes
abbrev pub IsRefused : Gathered → List ℕ → Type 0
IsRefused g bytes = (n : ℕ) × (fault : ReadFault) × Decides g.version g.bytes bytes n (Err fault)

-- if nothing is wrong with the records, a bad stream is reported only if a reader refuses what they carry after these
-- frames, or the last frame names other hosts
abbrev pub IsBadData : (from to : ℕ) → HearEnd → Gathered → (left : List ℕ) → List Received → Type 0
IsBadData from to BadStream g left frames = IsRefused g left ⊎ NamesOthers from to frames
IsBadData from to end g left frames = ⊤

-- a reader was fed the first of these bytes before hearing ended so; of the frames that it gave, all or all but the
-- last came
pub record AreToldUpTo (gave : Answers) (from to : ℕ) (end : HearEnd)
    (before now : Option (List PlainExchange)) (old : Gathered) (bytes : List ℕ) : Type 0 where
  pub feeds : List Feed
  pub new : Gathered
  pub left : List ℕ
  pub told : List Frame
  pub run : Run old feeds new
  pub taken : bytes ≡ bytes_taken feeds ++ left
  pub in_order : AllButLast told (all_for_host from to (frames_given feeds))
  pub came : HaveCome gave from before now told
  pub bad : IsBadData from to end new left (frames_given feeds)

-- records were read of what was left on a connection, and all frames came that a reader gave of what they carry
pub record AreRead (gave : Answers) (from to : ℕ) (before now : Option (List PlainExchange))
    (first last : Option (List ℕ)) (old new : Gathered) : Type 0 where
  pub records : List Record
  pub fit : All Fits records
  pub consumed : Consumes first last (bytes_in records)
  pub told : AreTold gave from to before now old (data_in records) new

-- hearing ended so at what the records carry, or after them
abbrev pub EndsBehind : (gave : Answers) → (from to : ℕ) → HearEnd
    → (before now : Option (List PlainExchange)) → Gathered → (carried rest : List ℕ) → Type 0
EndsBehind gave from to end before now old carried rest =
    AreToldUpTo gave from to end before now old carried
    ⊎ (AreToldUpTo gave from to Closed before now old carried × (end ≡ BadStream → IsNoRecord rest))

-- the first of these bytes are records; of the frames that a reader gave of what they carry, all or all but the last
-- came before hearing ended so
pub record AreReadUpTo (gave : Answers) (from to : ℕ) (end : HearEnd)
    (before now : Option (List PlainExchange)) (old : Gathered) (bytes : List ℕ) : Type 0 where
  pub records : List Record
  pub rest : List ℕ
  pub fit : All Fits records
  pub whole : bytes ≡ bytes_in records ++ rest
  pub ended : EndsBehind gave from to end before now old (data_in records) rest
