-- What each end of a connection says first, and how it proves that it knows the secret.
use Rattle.std.specs.Prelude.{ℕ, ◌==◌, ◌&&◌, Bool, List, [], ◌∷◌, ◌++◌}
use Rattle.rvm_link.specs.declared.opening.Opening.{Opening}
use Rattle.rvm_link.specs.declared.opening.Role.{Role}
use Rattle.rvm_link.specs.declared.opening.Role.TheVariants.{Acceptor, Connector}
use Rattle.rvm_link.specs.Hmac.{code_with}

-- "rvmove1" and a line feed: the name and the version of greetings
abbrev pub magic : List ℕ
magic = 0x72 ∷ 0x76 ∷ 0x6D ∷ 0x6F ∷ 0x76 ∷ 0x65 ∷ 0x31 ∷ 0x0A ∷ []

-- the bytes of an opening: name and version, sender, receiver, number of hosts, nonce
abbrev pub opening_bytes : Opening → List ℕ
opening_bytes o = magic ++ ((o.from ∷ o.to ∷ o.hosts ∷ []) ++ o.nonce)

-- an opening answers another: it goes the opposite way between the same two hosts, and names as many hosts
abbrev pub answers : (own other : Opening) → Bool
answers own other = (other.from == own.to) && ((other.to == own.from) && (other.hosts == own.hosts))

-- the number that stands for a role in a proof
abbrev pub role_number : Role → ℕ
role_number Connector = 0
role_number Acceptor = 1

-- the other role
abbrev pub other_role : Role → Role
other_role Connector = Acceptor
other_role Acceptor = Connector

-- the message whose HMAC proves that the end with this role knows the secret: the role, the connector's opening, the
-- acceptor's opening
abbrev pub message : Role → (connector acceptor : Opening) → List ℕ
message role connector acceptor = (role_number role ∷ []) ++ (opening_bytes connector ++ opening_bytes acceptor)

-- that message, from the own opening of the end with this role and the other end's opening
abbrev pub message_by : Role → (own other : Opening) → List ℕ
message_by Connector own other = message Connector own other
message_by Acceptor own other = message Acceptor other own

-- the proof by the end with this role that it knows the secret
abbrev pub proof_by : (block : List ℕ) → Role → (own other : Opening) → List ℕ
proof_by block role own other = code_with block (message_by role own other)
