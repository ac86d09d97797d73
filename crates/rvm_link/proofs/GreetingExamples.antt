-- Worked values.
use Rattle.std.proofs.Common.{◌≡◌, ℕ, [], ◌∷◌, None, Some, false, true, refl}
use Rattle.sha2.specs.Sha256.{compress, digest_bytes, first_words, hash_after, rounds, schedule, sha256}
use Rattle.rvm_link.specs.declared.facts.Facts.{Facts}
use Rattle.rvm_link.specs.declared.greeting_fault.GreetingFault.TheVariants.{BeganAnew, OtherWorld}
use Rattle.rvm_link.specs.declared.registry.Registry.{Registry}
use Rattle.rvm_link.specs.Facts.{after_meeting, refusal_of}
use Rattle.rvm_link.specs.Greetings.{is_for}
use Rattle.rvm_link.specs.Hmac.{hmac}

-- RFC 4231, 4.3: the key is "Jefe", the message "what do ya want for nothing?"
jefe : hmac (0x4A ∷ 0x65 ∷ 0x66 ∷ 0x65 ∷ []) (0x77 ∷ 0x68 ∷ 0x61 ∷ 0x74 ∷ 0x20 ∷ 0x64 ∷ 0x6F ∷ 0x20 ∷ 0x79 ∷ 0x61 ∷ 0x20 ∷ 0x77 ∷ 0x61 ∷ 0x6E ∷ 0x74 ∷ 0x20 ∷ 0x66 ∷ 0x6F ∷ 0x72 ∷ 0x20 ∷ 0x6E ∷ 0x6F ∷ 0x74 ∷ 0x68 ∷ 0x69 ∷ 0x6E ∷ 0x67 ∷ 0x3F ∷ [])
    ≡ 0x5B ∷ 0xDC ∷ 0xC1 ∷ 0x46 ∷ 0xBF ∷ 0x60 ∷ 0x75 ∷ 0x4E ∷ 0x6A ∷ 0x04 ∷ 0x24 ∷ 0x26 ∷ 0x08 ∷ 0x95 ∷ 0x75 ∷ 0xC7 ∷ 0x5A ∷ 0x00 ∷ 0x3F ∷ 0x08 ∷ 0x9D ∷ 0x27 ∷ 0x39 ∷ 0x83 ∷ 0x9D ∷ 0xEC ∷ 0x58 ∷ 0xB9 ∷ 0x64 ∷ 0xEC ∷ 0x38 ∷ 0x43 ∷ []
unfolding compress digest_bytes first_words hash_after rounds schedule sha256
jefe = refl

-- host 2 of a world whose number is 9; its process is 70, and it has met process 55 of host 0
abbrev own : Registry
own = record { host = 2; hosts = 3; process = 70; world = 9; met = 55 ∷ 0 ∷ 0 ∷ 0 ∷ 0 ∷ 0 ∷ 0 ∷ 0 ∷ [] }

abbrev tells : (world process known : ℕ) → Facts
tells world process known = record { world = world; process = process; known = known }

-- the process that was met, and one that was not met before
known_again : refusal_of own 0 (tells 9 55 70) ≡ None
known_again = refl

met_first : refusal_of own 1 (tells 0 56 0) ≡ None
met_first = refl

-- another world; host 0 began anew; host 2 itself did
other_world : refusal_of own 1 (tells 8 56 0) ≡ Some OtherWorld
other_world = refl

other_process : refusal_of own 0 (tells 9 54 70) ≡ Some (BeganAnew 0)
other_process = refl

old_number : refusal_of own 1 (tells 9 56 71) ≡ Some (BeganAnew 2)
old_number = refl

-- a host without a world takes the first that it hears of
takes_a_world : (after_meeting (record own { world = 0 }) 1 (tells 9 56 0)).world ≡ 9
takes_a_world = refl

-- an opening of host 1 for host 2, of three
for_two : is_for own (record { from = 1; to = 2; hosts = 3; nonce = [] }) ≡ true
for_two = refl

own_opening : is_for own (record { from = 2; to = 2; hosts = 3; nonce = [] }) ≡ false
own_opening = refl

past_the_last : is_for own (record { from = 3; to = 2; hosts = 3; nonce = [] }) ≡ false
past_the_last = refl

other_count : is_for own (record { from = 1; to = 2; hosts = 4; nonce = [] }) ≡ false
other_count = refl
