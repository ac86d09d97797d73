-- What is read of files.
use Rattle.std.proofs.Common.{◌≡◌, ◌∙◌, ◌<◌, ◌≤◌, ◌+◌, ℕ, List, length, Option, None, Some, Result, Ok, Err, ap, sym, arith, length-take}
use Rattle.std.proofs.lemmas.List.{take_all}
use Rattle.std.specs.Prelude.{IfOk, IfSome}
use Rattle.rvm_files.specs.Files.{IsApart, IsFile, IsFirst}

-- if at most `limit` bytes of a file were read, though `limit` + 1 were asked for, these are all its bytes
pub whole : (known : Option (List ℕ)) (bytes : List ℕ) (limit : ℕ) → IsFirst known (limit + 1) bytes → length bytes ≤ limit
    → IsFile known bytes
whole None bytes limit is few = tt
whole (Some all) bytes limit is few =
    let size = length-take (limit + 1) all in
    let same = ap length is in
    is ∙ take_all (limit + 1) all (omega (arith, size, same, few))

-- a file of which more than `limit` bytes were read has more than `limit` bytes
pub longer : (known : Option (List ℕ)) (bytes : List ℕ) (limit count : ℕ) → IsFirst known count bytes
    → limit < length bytes → IfSome known (λ all. limit < length all)
longer None bytes limit count is more = tt
longer (Some all) bytes limit count is more =
    let size = length-take count all in
    let same = ap length is in
    omega (arith, size, same, more)

-- a file has other bytes than these if other bytes were read, though one byte more than these was asked for
pub apart : (known : Option (List ℕ)) (held bytes : List ℕ) → IsFirst known (length bytes + 1) held
    → (held ≡ bytes → ⊥) → IsApart known bytes
apart None held bytes is other = tt
apart (Some all) held bytes is other =
    λ same. other (is ∙ take_all (length bytes + 1) all (omega (arith, ap length same)) ∙ same)

-- all bytes of a file are its first bytes, if more are asked for than it may have
first_of_all : (known : Option (List ℕ)) (bytes : List ℕ) (count : ℕ) → IsFile known bytes → length bytes ≤ 67108864
    → 67108864 < count → IsFirst known count bytes
first_of_all None bytes count is few more = tt
first_of_all (Some all) bytes count is few more =
    is ∙ sym (take_all count all (omega (arith, ap length is, few, more)))

-- the same of what a call returns
pub first_given : {X E : Type 0} (r : Result X E) (items : X → List ℕ) (known : Option (List ℕ)) (count : ℕ)
    → 67108864 < count → IfOk r (λ v. IsFile known (items v)) → IfOk r (λ v. length (items v) ≤ 67108864)
    → IfOk r (λ v. IsFirst known count (items v))
first_given (Ok v) items known count more is few = first_of_all known (items v) count is few more
first_given (Err e) items known count more is few = tt
