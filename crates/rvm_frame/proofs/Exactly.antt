-- The test is the definition.
use Rattle.std.proofs.Common.{◌≡◌, ◌∙◌, ◌↔◌, ℕ, ◌+◌, ◌*◌, ◌≤◌, Bool, true, false, ◌&&◌, nat_le, length, refl, sym, ap, arith}
use Rattle.std.proofs.lemmas.Bool.Decides.{nat_tests}
use Rattle.rvm_codec.proofs.Steps.{both_are}
use Rattle.rvm_frame.specs.declared.addressed.Addressed.{Addressed}
use Rattle.rvm_frame.specs.declared.frame.Frame.{Frame}
use Rattle.rvm_frame.specs.declared.frame.Frame.TheVariants as frame
use Rattle.rvm_frame.specs.Grammar.{HasSpelling, body_fits, body_of, sent}
use Rattle.rvm_frame.specs.Kinds.{hosts_fit, kind_of, move_fits, move_of}
use Rattle.rvm_frame.proofs.Bodies.{length_fits}
use Rattle.rvm_frame.proofs.Lengths.{length_state}
use Rattle.rvm_frame.specs.Spelled.{is_short, is_spelled}

short_is : (f : Frame) → body_fits f ≡ true → is_short f ≡ nat_le (length (body_of f)) 32768
short_is (frame.Hello v) fits = refl
short_is (frame.Offer m p h) fits = refl
short_is (frame.Accept m) fits = refl
short_is (frame.Refuse m l) fits = refl
short_is (frame.Page m p n b) fits = let l = length_fits (frame.Page m p n b) fits in grind (arith, nat_tests)
short_is (frame.RoundEnd m r s k l) fits = refl
short_is (frame.Lost m ps) fits = let l = length_fits (frame.Lost m ps) fits in grind (arith, nat_tests)
short_is (frame.State m ns b) fits =
    let l : 2 + 4 * length ns + length b ≡ length (body_of (frame.State m ns b)) = omega (arith, length_state ns b) in
    ap (λ n. nat_le n 32768) l
short_is (frame.Ready m) fits = refl
short_is (frame.Go m) fits = refl
short_is (frame.Started m) fits = refl
short_is (frame.Abort m) fits = refl
short_is (frame.Zero m p n) fits = refl
short_is (frame.Part m s i c b) fits = let l = length_fits (frame.Part m s i c b) fits in grind (arith, nat_tests)

both_true : (a b : Bool) → a ≡ true → b ≡ true → (a && b) ≡ true
both_true true true is too = refl
both_true true false is too = too
both_true false b is too = is

spelled : (version : ℕ) (a : Addressed) → is_spelled version a ≡ true → HasSpelling (sent version a)
spelled version a is =
    let f = a.frame in
    let hosts = both_are (hosts_fit (sent version a).0)
    (move_fits (kind_of f) (move_of f) && (body_fits f && is_short f)) is
    in
    let move = both_are (move_fits (kind_of f) (move_of f)) (body_fits f && is_short f) hosts.1 in
    let body = both_are (body_fits f) (is_short f) move.1 in
    let short : nat_le (length (body_of f)) 32768 ≡ true = sym (short_is f body.0) ∙ body.1 in
    record { hosts = hosts.0; move_number = move.0; body = body.0; body_length = grind (arith, nat_tests) }

is_so : (version : ℕ) (a : Addressed) → HasSpelling (sent version a) → is_spelled version a ≡ true
is_so version a has =
    let f = a.frame in
    let length_le : length (body_of f) ≤ 32768 = has.body_length in
    let low : nat_le (length (body_of f)) 32768 ≡ true = grind (arith, nat_tests) in
    both_true (hosts_fit (sent version a).0) (move_fits (kind_of f) (move_of f) && (body_fits f && is_short f)) has.hosts
    (both_true (move_fits (kind_of f) (move_of f)) (body_fits f && is_short f) has.move_number
    (both_true (body_fits f) (is_short f) has.body (short_is f has.body ∙ low)))

pub spelled_exactly : (version : ℕ) (a : Addressed) → (is_spelled version a ≡ true) ↔ HasSpelling (sent version a)
spelled_exactly version a = (spelled version a, is_so version a)
