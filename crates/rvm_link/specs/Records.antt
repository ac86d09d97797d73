-- Records on a connection: what each one carries, and its bytes.
use Rattle.std.specs.Io.KnownBytes.{Appends}
use Rattle.std.specs.List.{All, flat_map}
use Rattle.std.specs.Prelude.{◌≡◌, ◌<◌, ◌≤◌, ◌^◌, ⊤, ℕ, List, [], ◌∷◌, ◌++◌, length, Option, take}
use Rattle.byteorder.specs.Endian.{little_bytes}
use Rattle.rvm_link.specs.declared.record.RecordRead.{RecordRead}
use Rattle.rvm_link.specs.declared.record.RecordRead.TheVariants as read

-- bytes of the stream; a question with a number; the answer to the question with a number
pub data Record : Type 0 where
  Data : (bytes : List ℕ) → Record
  Question : (number : ℕ) → Record
  Answer : (number : ℕ) → Record

-- the bytes of a record: its kind, then the length of the data in two bytes and the data, or the number in eight bytes
abbrev pub record_bytes : Record → List ℕ
record_bytes (Data bytes) = 0 ∷ (little_bytes 2 (length bytes) ++ bytes)
record_bytes (Question n) = 1 ∷ little_bytes 8 n
record_bytes (Answer n) = 2 ∷ little_bytes 8 n

-- the data has at most 65535 bytes, or the number fits into eight bytes
abbrev pub Fits : Record → Type 0
Fits (Data bytes) = length bytes ≤ 65535
Fits (Question number) = number < 2 ^ 64
Fits (Answer number) = number < 2 ^ 64

-- the bytes of records, in order
abbrev pub bytes_in : List Record → List ℕ
bytes_in records = flat_map record_bytes records

-- the bytes of the stream that a record carries
abbrev pub data_of : Record → List ℕ
data_of (Data bytes) = bytes
data_of r = []

-- the bytes of the stream that records carry
abbrev pub data_in : List Record → List ℕ
data_in records = flat_map data_of records

-- records were written that carry these bytes of the stream
pub record Carries (bytes : List ℕ) (before after : Option (List ℕ)) : Type 0 where
  pub records : List Record
  pub fit : All Fits records
  pub carried : data_in records ≡ bytes
  pub written : Appends before after (bytes_in records)

-- the record that was read: its data is at the front of the buffer
abbrev pub record_read : RecordRead → (buffer : List ℕ) → Record
record_read (read.Data count) buffer = Data (take count buffer)
record_read (read.Question number) buffer = Question number
record_read (read.Answer number) buffer = Answer number

-- the data is in the buffer
abbrev pub IsInside : RecordRead → (size : ℕ) → Type 0
IsInside (read.Data count) size = count ≤ size
IsInside r size = ⊤
