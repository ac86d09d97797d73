-- The number of events of a driven move.
use Rattle.std.proofs.Common.{◌≡◌, ◌+◌, ◌*◌, List, [], ◌∷◌, ◌++◌, length, arith}
use Rattle.std.proofs.lemmas.List.{length-append}
use Rattle.rvm_protocol.specs.Commands.{Begin, Copy}
use Rattle.rvm_protocol.specs.DrivenMove.{DriveCount}
use Rattle.rvm_protocol.specs.Pages.{listed}
use Rattle.rvm_protocol.specs.World.{Event, At, Deliver}
use Rattle.rvm_protocol.proofs.Basics.{listed_length}

pub drive_count : (E : Type 0) → DriveCount E
unfolding DriveCount
drive_count E = λ from to k n s policy.
    let a : List (Event E) = At from (Begin to policy) ∷ Deliver k ∷ Deliver (k + 1) ∷ [] in
    let b : List (Event E) = listed (λ p. At from Copy) 0 n in
    let c : List (Event E) = At from Copy ∷ [] in
    let d : List (Event E) = listed (λ p. Deliver (k + 2 + p)) 0 n in
    let e : List (Event E) = Deliver (k + 2 + n) ∷ At from Copy ∷ [] in
    let f : List (Event E) = listed (λ i. At from Copy) 0 s in
    let g : List (Event E) = listed (λ i. Deliver (k + 3 + n + i)) 0 s in
    let h : List (Event E) = Deliver (k + 3 + n + s) ∷ Deliver (k + 4 + n + s)
    ∷ Deliver (k + 5 + n + s) ∷ [] in
    let lb : length b ≡ n = listed_length (λ p. At from Copy) 0 n in
    let ld : length d ≡ n = listed_length (λ p. Deliver (k + 2 + p)) 0 n in
    let lf : length f ≡ s = listed_length (λ i. At from Copy) 0 s in
    let lg : length g ≡ s = listed_length (λ i. Deliver (k + 3 + n + i)) 0 s in
    let s1 = length-append a b in
    let s2 = length-append (a ++ b) c in
    let s3 = length-append (a ++ b ++ c) d in
    let s4 = length-append (a ++ b ++ c ++ d) e in
    let s5 = length-append (a ++ b ++ c ++ d ++ e) f in
    let s6 = length-append (a ++ b ++ c ++ d ++ e ++ f) g in
    let s7 = length-append (a ++ b ++ c ++ d ++ e ++ f ++ g) h in
    let all : length (a ++ b ++ c ++ d ++ e ++ f ++ g ++ h) ≡ 2 * n + 9 + 2 * s = omega
    (arith, lb, ld, lf, lg, s1, s2, s3, s4, s5, s6, s7) in
    all
