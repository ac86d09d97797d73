-- The facts that two hosts of a world tell each other, and which of them they refuse.
use Rattle.std.specs.Prelude.{ℕ, ◌==◌, ◌&&◌, Bool, not, if◌then◌else◌, List, ◌++◌, Option, Some, None, get_or, slice_set}
use Rattle.byteorder.specs.Endian.{little_bytes}
use Rattle.rvm_link.specs.declared.facts.Facts.{Facts}
use Rattle.rvm_link.specs.declared.greeting_fault.GreetingFault.{GreetingFault}
use Rattle.rvm_link.specs.declared.greeting_fault.GreetingFault.TheVariants as fault
use Rattle.rvm_link.specs.declared.registry.Registry.{Registry}

-- the bytes of facts: three numbers of 8 bytes, the lowest byte first
abbrev pub facts_bytes : Facts → List ℕ
facts_bytes f = little_bytes 8 f.world ++ (little_bytes 8 f.process ++ little_bytes 8 f.known)

-- a number is known: it is not 0
abbrev pub is_known : ℕ → Bool
is_known n = not (n == 0)

-- both numbers are known, and they differ
abbrev pub differ : (a b : ℕ) → Bool
differ a b = is_known a && (is_known b && not (a == b))

-- the number of a host's process; 0 if this host has not met it
abbrev pub met : Registry → (host : ℕ) → ℕ
met r host = get_or r.met host 0

-- the facts that a host tells another
abbrev pub facts_for : Registry → (host : ℕ) → Facts
facts_for r host = record { world = r.world; process = r.process; known = met r host }

-- why a host refuses the facts that another tells, if it does: the other's world is another one; its process is not the
-- one that was met; or it has met another process of this host, which began anew
abbrev pub refusal_of : Registry → (host : ℕ) → Facts → Option GreetingFault
refusal_of r host f =
    if differ r.world f.world then Some fault.OtherWorld
    else if differ (met r host) f.process then Some (fault.BeganAnew host)
    else if differ f.known r.process then Some (fault.BeganAnew r.host)
    else None

-- the registry after a host was met: its process is known, and its world is taken if none was known
abbrev pub after_meeting : Registry → (host : ℕ) → Facts → Registry
after_meeting r host f =
    record r { world = if is_known r.world then r.world else f.world; met = slice_set r.met host f.process }
