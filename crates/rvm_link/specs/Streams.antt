-- What is written on a connection to another host.
use Rattle.std.specs.Io.KnownBytes.{Appends}
use Rattle.std.specs.List.{All, flat_map}
use Rattle.std.specs.Prelude.{◌≡◌, ℕ, List, ◌++◌, Option}
use Rattle.rvm_frame.specs.declared.addressed.Addressed.{Addressed}
use Rattle.rvm_frame.specs.declared.frame.Frame.TheVariants.{Hello}
use Rattle.rvm_frame.specs.Grammar.{sent, spelling}
use Rattle.rvm_link.specs.Records.{Record, Answer, Carries, Question, record_bytes}
use Rattle.rvm_link.specs.declared.stream.Aside.{Aside}
use Rattle.rvm_link.specs.declared.stream.Aside.TheVariants as aside

-- Hello, which is written without the hosts that it goes between
abbrev pub hello_frame : (version : ℕ) → Addressed
hello_frame version = record { from = 0; to = 1; frame = Hello version }

-- the bytes of Hello
abbrev pub hello : (version : ℕ) → List ℕ
hello version = spelling (sent version (hello_frame version))

-- the bytes of Hello and of these frames
abbrev pub stream_of : (version : ℕ) → List Addressed → List ℕ
stream_of version frames = hello version ++ flat_map (λ a. spelling (sent version a)) frames

-- the bytes that were written on a connection to a host after others, if they are known: records that carry Hello and
-- whole frames, each of which was made here for that host
pub record IsSent (is_made : Addressed → Type 0) (version host : ℕ) (before now : Option (List ℕ)) : Type 0 where
  pub frames : List Addressed
  pub made : All is_made frames
  pub for_it : All (λ a. a.to ≡ host) frames
  pub carries : Carries (stream_of version frames) before now

-- a stream on a connection: its version, the host at the other end, and the bytes that were written on the connection
-- before the stream began and until now, if they are known
pub record PlainStream : Type 0 where
  pub version : ℕ
  pub host : ℕ
  pub before : Option (List ℕ)
  pub now : Option (List ℕ)

-- a stream of this version to a host begins after these bytes: Hello was written
pub record Begins (version host : ℕ) (before : Option (List ℕ)) (s : PlainStream) : Type 0 where
  pub is : s ≡ record { version = version; host = host; before = before; now = s.now }
  pub carries : Carries (hello version) before s.now

-- records were written on a stream that carry these bytes
pub record GoesOn (bytes : List ℕ) (s t : PlainStream) : Type 0 where
  pub same : t ≡ record s { now = t.now }
  pub carries : Carries bytes s.now t.now

-- one record was written on a stream
pub record Adds (r : Record) (s t : PlainStream) : Type 0 where
  pub same : t ≡ record s { now = t.now }
  pub written : Appends s.now t.now (record_bytes r)

-- the record that asks or answers with a number
abbrev pub record_of : Aside → (number : ℕ) → Record
record_of aside.Question number = Question number
record_of aside.Answer number = Answer number
