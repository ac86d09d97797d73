-- What a read of a link gives.
use Rattle.std.specs.Io.KnownBytes.{Consumes, IsAtEnd, Keeps}
use Rattle.std.specs.Prelude.{ℕ, ◌≤◌, ◌<◌, ⊤, List, length, take, Option}
use Rattle.rvm_link.specs.declared.link.LinkRead.{LinkRead}
use Rattle.rvm_link.specs.declared.link.LinkRead.TheVariants.{Bytes, End, Idle, LinkFault}

-- a read gives at most this many bytes
abbrev pub GivesAtMost : LinkRead → (most : ℕ) → Type 0
GivesAtMost (Bytes count) most = count ≤ most
GivesAtMost read most = ⊤

-- a read gives the first of the bytes that are to come, at the front of the buffer; it gives the end if none is to
-- come; whatever else it gives, no byte is lost
abbrev pub IsRead : (before after : Option (List ℕ)) → LinkRead → (buffer : List ℕ) → Type 0
IsRead before after (Bytes count) buffer = Consumes before after (take count buffer)
IsRead before after End buffer = Keeps before after × (0 < length buffer → IsAtEnd after)
IsRead before after Idle buffer = Keeps before after
IsRead before after LinkFault buffer = Keeps before after
