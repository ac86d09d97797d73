-- The pieces of a greeting, and zeros that fill a block.
use Rattle.std.proofs.Common.{◌≡◌, ◌∙◌, ℕ, ◌+◌, ◌-◌, ◌≤◌, List, [], ◌∷◌, ◌++◌, arith, drop, length, replicate, slice_index_or, Option, true, ap, refl, subst, sym}
use Rattle.std.proofs.lemmas.List.{drop_at, length-replicate, replicate-append-replicate}
use Rattle.std.specs.Io.KnownBytes.{Appends, Consumes}
use Rattle.rvm_link.specs.declared.facts.Facts.{Facts}
use Rattle.rvm_link.specs.declared.opening.Opening.{Opening}
use Rattle.rvm_link.specs.declared.opening.Role.{Role}
use Rattle.rvm_link.specs.Facts.{facts_bytes}
use Rattle.rvm_link.specs.Greetings.{AreGreeted}
use Rattle.rvm_link.specs.Hmac.{zero_padded}
use Rattle.rvm_link.specs.Openings.{answers, magic, opening_bytes, other_role, proof_by}
use Rattle.rvm_link.proofs.Pieces.{both_added, three_added, three_taken}

-- a list of three values, by its values
three_of : (xs : List ℕ) → length xs ≡ 3
    → slice_index_or xs 0 0 ∷ slice_index_or xs 1 0 ∷ slice_index_or xs 2 0 ∷ [] ≡ xs
three_of [] len = absurd (omega (arith, len))
three_of (a ∷ []) len = absurd (omega (arith, len))
three_of (a ∷ b ∷ []) len = absurd (omega (arith, len))
three_of (a ∷ b ∷ c ∷ []) len = refl
three_of (a ∷ b ∷ c ∷ d ∷ xs) len = absurd (omega (arith, len))

pub opening_is : (name hosts nonce : List ℕ) → name ≡ magic → length hosts ≡ 3
    → name ++ (hosts ++ nonce)
    ≡ magic ++ ((slice_index_or hosts 0 0 ∷ slice_index_or hosts 1 0 ∷ slice_index_or hosts 2 0 ∷ []) ++ nonce)
opening_is name hosts nonce named len =
    ap (λ l. l ++ (hosts ++ nonce)) named ∙ ap (λ l. magic ++ (l ++ nonce)) (sym (three_of hosts len))

-- the zeros of a block without the first n of them
zeros_but : (n : ℕ) → n ≤ 64 → drop {A = ℕ} n (replicate 64 0) ≡ replicate (64 - n) 0
zeros_but n few =
    let all : n + (64 - n) ≡ 64 = omega (arith, few) in
    let whole : replicate {A = ℕ} n 0 ++ replicate (64 - n) 0 ≡ replicate 64 0 =
    replicate-append-replicate n (64 - n) 0 ∙ ap (λ (k : ℕ). replicate {A = ℕ} k 0) all in
    ap (λ (l : List ℕ). drop n l) (sym whole)
    ∙ drop_at (replicate {A = ℕ} n 0) (replicate (64 - n) 0) n (length-replicate n 0)

pub zeros_left : (bytes : List ℕ) → length bytes ≤ 64
    → bytes ++ drop {A = ℕ} (length bytes) (replicate 64 0) ≡ zero_padded bytes
zeros_left bytes few = ap (λ l. bytes ++ l) (zeros_but (length bytes) few)

-- both ends said their three pieces
pub are_greeted : (block : List ℕ) (role : Role) (own other : Opening) (told wrote heard : Facts)
    (a b c d : Option (List ℕ)) (e f g h : Option (List ℕ)) → answers own other ≡ true → wrote ≡ told
    → Consumes a b (opening_bytes other) → Consumes b c (proof_by block (other_role role) other own)
    → Consumes c d (facts_bytes heard)
    → Appends e f (opening_bytes own) → Appends f g (proof_by block role own other) → Appends g h (facts_bytes wrote)
    → AreGreeted block role own other told heard a d e h
are_greeted block role own other told wrote heard a b c d e f g h ok same t0 t1 t2 a0 a1 a2 = record {
  answered = ok;
  came = three_taken a b c d _ _ _ t0 t1 t2;
  went = three_added e f g h _ _ _ a0 a1 (subst (λ q. Appends g h (facts_bytes q)) same a2);
}

-- an opening was written, which is that of this end
pub written_as : (old new : Option (List ℕ)) (written own : Opening) → written ≡ own
    → Appends old new (opening_bytes written) → Appends old new (opening_bytes own)
written_as old new written own same added = subst (λ o. Appends old new (opening_bytes o)) same added

-- an opening and a proof were written, and the opening is that of this end
pub proof_written : (old mid new : Option (List ℕ)) (block : List ℕ) (role : Role) (written own other : Opening)
    → written ≡ own → Appends old mid (opening_bytes written) → Appends mid new (proof_by block role written other)
    → Appends old new (opening_bytes own ++ proof_by block role own other)
proof_written old mid new block role written own other same first then =
    subst (λ o. Appends old new (opening_bytes o ++ proof_by block role o other)) same
    (both_added old mid new _ _ first then)
