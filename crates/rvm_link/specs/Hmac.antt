-- HMAC (RFC 2104) with SHA-256 (FIPS 180-4).
use Rattle.std.specs.Prelude.{ℕ, ◌-◌, List, ◌++◌, map, length, replicate, bit_xor, nat_lt, if◌then◌else◌}
use Rattle.sha2.specs.Sha256.{sha256}

-- these bytes, and zeros after them up to the 64 bytes of a block of SHA-256
abbrev pub zero_padded : List ℕ → List ℕ
zero_padded bytes = bytes ++ replicate (64 - length bytes) 0

-- the block of a key: a key longer than a block is digested first (2)
abbrev pub block_of : (key : List ℕ) → List ℕ
block_of key = zero_padded (if nat_lt 64 (length key) then sha256 key else key)

-- the bytes of a block, each combined with a pad by exclusive or
abbrev pub padded : List ℕ → (pad : ℕ) → List ℕ
padded block pad = map (λ b. bit_xor b pad) block

-- the HMAC of a message under the block of a key: ipad is 0x36, opad is 0x5C (2)
abbrev pub code_with : (block message : List ℕ) → List ℕ
code_with block message = sha256 (padded block 0x5C ++ sha256 (padded block 0x36 ++ message))

-- the HMAC of a message under a key
abbrev pub hmac : (key message : List ℕ) → List ℕ
hmac key message = code_with (block_of key) message
