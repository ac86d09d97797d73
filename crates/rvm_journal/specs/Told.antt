-- What the lines of a journal tell.
use Rattle.std.specs.Prelude.{ℕ, if◌then◌else◌, List, [], ◌∷◌, ◌++◌, drop, replicate, take, Option, Some, None, codes, option_map}
use Rattle.std.specs.Option.{option_and_then}
use Rattle.std.specs.Str.{bytes_eq}
use Rattle.hex.specs.Hex.{encode_lower}
use Rattle.sha2.specs.Sha256.{sha256}
use Rattle.rvm_debug.specs.Words.{lines}
use Rattle.rvm_message.specs.declared.event.HostEvent.{HostEvent}
use Rattle.rvm_journal.specs.Noting.{events_of, noted_of}

-- the digest before the first line
abbrev pub no_digest : List ℕ
no_digest = replicate 32 0

-- the digest after one more text, which comes with its line feed: so it depends on all texts up to it
abbrev pub digest_after : (digest text : List ℕ) → List ℕ
digest_after d text = sha256 (d ++ text)

-- what a line shows of its digest: the first eight bytes in hexadecimal, and a space
abbrev pub mark : (digest : List ℕ) → List ℕ
mark d = encode_lower (take 8 d) ++ codes " "

-- the line of a text
abbrev pub line_of : (digest text : List ℕ) → List ℕ
line_of d text = mark (digest_after d text) ++ text

-- the events that the lines of a journal told, and the digest after the last of them
pub record Told : Type 0 where
  pub digest : List ℕ
  pub events : List HostEvent

-- the text of a line, without its digest and its line feed
abbrev pub text_in : (line : List ℕ) → List ℕ
text_in line = drop 17 line

-- the digest after a line, which comes without its line feed
abbrev pub digest_behind : (digest line : List ℕ) → List ℕ
digest_behind d line = digest_after d (text_in line ++ codes "\n")

-- the text of a line that shows its own digest
abbrev pub marked : (digest line : List ℕ) → Option (List ℕ)
marked d line = if bytes_eq (take 17 line) (mark (digest_behind d line)) then Some (text_in line) else None

-- what a line tells after those before it
abbrev pub told_by : (hosts host : ℕ) → Told → (line : List ℕ) → Option Told
told_by n h t line =
    option_map (λ noted. record { digest = digest_behind t.digest line; events = t.events ++ events_of noted })
    (option_and_then (noted_of n h) (marked t.digest line))

-- what lines tell after those before them; none if one tells nothing, or does not show its own digest
unfoldable pub told_from : (hosts host : ℕ) → Told → (lines : List (List ℕ)) → Option Told
told_from n h t [] = Some t
told_from n h t (l ∷ ls) = option_and_then (λ u. told_from n h u ls) (told_by n h t l)

-- what is told before the first event: the digest of the first line, which is the header's
abbrev pub at_header : (line : List ℕ) → Told
at_header line = record { digest = digest_behind no_digest line; events = [] }

-- what the first line tells; none if it does not show its own digest
abbrev pub header_told : (line : List ℕ) → Option Told
header_told line = option_map (λ text. at_header line) (marked no_digest line)

-- what the lines of a journal tell, the first of which is its header's
abbrev pub told_of : (hosts host : ℕ) → List (List ℕ) → Option Told
told_of n h [] = None
told_of n h (first ∷ ls) = option_and_then (λ t. told_from n h t ls) (header_told first)

-- what the bytes of a journal tell of host `host` of this many hosts
unfoldable pub told_in : (hosts host : ℕ) → (bytes : List ℕ) → Option Told
told_in n h bytes = told_of n h (lines bytes)
