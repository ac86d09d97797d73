-- Greetings: what both ends say.
use Rattle.std.specs.Io.KnownBytes.{Appends, Consumes}
use Rattle.std.specs.Prelude.{◌≡◌, ℕ, ◌==◌, ◌&&◌, Bool, true, not, nat_lt, List, ◌++◌, Option}
use Rattle.rvm_link.specs.declared.facts.Facts.{Facts}
use Rattle.rvm_link.specs.declared.opening.Opening.{Opening}
use Rattle.rvm_link.specs.declared.opening.Role.{Role}
use Rattle.rvm_link.specs.declared.registry.Registry.{Registry}
use Rattle.rvm_link.specs.Facts.{facts_bytes}
use Rattle.rvm_link.specs.Openings.{answers, opening_bytes, other_role, proof_by}

-- the bytes that the end with a role says: its opening, its proof, its facts
abbrev pub said : (block : List ℕ) → Role → (own other : Opening) → Facts → List ℕ
said block role own other f = opening_bytes own ++ (proof_by block role own other ++ facts_bytes f)

-- the opening of this host to another
abbrev pub opening_for : Registry → (to : ℕ) → (nonce : List ℕ) → Opening
opening_for r to nonce = record { from = r.host; to = to; hosts = r.hosts; nonce = nonce }

-- the opening is to this host, from another host of a world with as many hosts
abbrev pub is_for : Registry → Opening → Bool
is_for r o = (o.to == r.host) && ((o.hosts == r.hosts) && (not (o.from == r.host) && nat_lt o.from r.hosts))

-- both ends greeted each other: all that this end says went out; all that the other end says came, its opening answers
-- this one, and its proof is that of the secret
pub record AreGreeted (block : List ℕ) (role : Role) (own other : Opening) (told heard : Facts)
    (from from' to to' : Option (List ℕ)) : Type 0 where
  pub answered : answers own other ≡ true
  pub came : Consumes from from' (said block (other_role role) other own heard)
  pub went : Appends to to' (said block role own other told)
