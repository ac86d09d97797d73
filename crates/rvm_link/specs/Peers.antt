-- Which hosts a world has, as the lines of a file name them.
use Rattle.std.specs.Prelude.{◌≡◌, ℕ, ◌+◌, ◌-◌, ◌==◌, Bool, true, false, ◌&&◌, nat_le, nat_lt, if◌then◌else◌, List, [], ◌∷◌, ◌++◌, length, take, fold, slice_get, Option, Some, None, IsSome}
use Rattle.std.specs.List.{list_any}
use Rattle.std.specs.Option.{option_and_then, option_map_or}
use Rattle.std.specs.Str.{bytes_eq}
use Rattle.rvm_debug.specs.Lines.{is_comment}
use Rattle.rvm_debug.specs.Words.{words, without_return}
use Rattle.rvm_link.specs.declared.peer_line.Named.{Named}
use Rattle.rvm_link.specs.declared.peer_line.Named.TheVariants as code
use Rattle.rvm_link.specs.declared.peers.PeersFault.{PeersFault}
use Rattle.rvm_link.specs.declared.peers.PeersFault.TheVariants.{BadLine, SameAddress}

-- what a line names: nothing, the next host by its address, or a fault
pub data Naming : Type 0 where
  Nothing : Naming
  Host : (address : List ℕ) → Naming
  Fault : Naming

-- a word is the letter of a host, A to H for 0 to 7
abbrev pub is_letter_of : (host : ℕ) → (word : List ℕ) → Bool
is_letter_of host (letter ∷ []) = nat_lt host 8 && letter == 65 + host
is_letter_of host word = false

-- what a line names by its first word and the words after it: the next host if they are its letter and one address,
-- else a fault
abbrev pub host_naming : (count : ℕ) → (first : List ℕ) → List (List ℕ) → Naming
host_naming count first (address ∷ []) = if is_letter_of count first then Host address else Fault
host_naming count first rest = Fault

-- what the words of a line name, after lines that named `count` hosts
abbrev pub naming_of : (count : ℕ) → (words : List (List ℕ)) → Naming
naming_of count [] = Nothing
naming_of count (first ∷ rest) = if is_comment first then Nothing else host_naming count first rest

-- whether this is one of the addresses
abbrev pub is_taken : (addresses : List (List ℕ)) → (address : List ℕ) → Bool
is_taken addresses address = list_any (λ a. bytes_eq a address) addresses

-- the addresses so far with the one that a line names; none after a fault, or if a host before it has that address
abbrev pub with_naming : (addresses : List (List ℕ)) → Naming → Option (List (List ℕ))
with_naming addresses Nothing = Some addresses
with_naming addresses (Host address) = if is_taken addresses address then None else Some (addresses ++ address ∷ [])
with_naming addresses Fault = None

-- the addresses after one more line; none after a fault
abbrev pub after_line : (so_far : Option (List (List ℕ))) → (line : List ℕ) → Option (List (List ℕ))
after_line so_far line =
    option_and_then
    (λ addresses. with_naming addresses (naming_of (length addresses) (words (without_return line))))
    so_far

-- the addresses of the hosts that lines name, from A on; none if a line names no host, or not the next one, or one at the
-- address of a host before it
abbrev pub peers_in : (lines : List (List ℕ)) → Option (List (List ℕ))
peers_in lines = fold after_line (Some []) lines

-- the line with this number, counted from 1, is the first fault: the lines before it have none, and with it they have
-- one
pub record IsFirstFault (number : ℕ) (lines : List (List ℕ)) : Type 0 where
  pub before : IsSome (peers_in (take (number - 1) lines))
  pub here : peers_in (take number lines) ≡ None

-- whether a line that names this names the next host, at the address of a host before it
abbrev pub is_repeat : (addresses : List (List ℕ)) → Naming → Bool
is_repeat addresses (Host address) = is_taken addresses address
is_repeat addresses naming = false

-- whether the line with this number, counted from 1, does so, after the lines before it
abbrev pub is_repeat_at : (number : ℕ) → (lines : List (List ℕ)) → Bool
is_repeat_at number lines =
    option_map_or
    (λ addresses. option_map_or
    (λ line. is_repeat addresses (naming_of (length addresses) (words (without_return line))))
    (slice_get lines (number - 1)) false)
    (peers_in (take (number - 1) lines)) false

-- this is what is told of lines that are not those of a world, unless they name too few hosts, or memory runs out
abbrev pub IsLineFault : PeersFault → (lines : List (List ℕ)) → Type 0
IsLineFault (BadLine n) lines = IsFirstFault n lines × (is_repeat_at n lines ≡ false)
IsLineFault (SameAddress n) lines = IsFirstFault n lines × (is_repeat_at n lines ≡ true)
IsLineFault fault lines = ⊥

-- code reads from a line what the line names
abbrev pub NamesAs : Named → Naming → Type 0
NamesAs code.Nothing naming = naming ≡ Nothing
NamesAs (code.Host address) naming = naming ≡ Host address.now
NamesAs code.Fault naming = naming ≡ Fault

-- there are two to eight hosts
abbrev pub is_world : (addresses : List (List ℕ)) → Bool
is_world addresses = nat_le 2 (length addresses) && nat_le (length addresses) 8
