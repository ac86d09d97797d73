-- The state that is sent is that of the protocol of live migration.
use Rattle.std.proofs.Common.{◌≡◌, ℕ, ◌+◌, ◌*◌, ◌/◌, ◌<◌, ◌≤◌, true, false, if◌then◌else◌, nat_lt, nat_le, List, [], length, get_or, Some, refl, sym, ap, ◌∙◌, add-one, arith}
use Rattle.std.proofs.lemmas.Bool.Decides.{nat_tests}
use Rattle.std.specs.Prelude.{IfOk, OnOk, Result, Ok, Err}
use Rattle.rvm_board.specs.Guest.{Guest, GuestState}
use Rattle.rvm_frame.specs.declared.frame.Frame.{Frame}
use Rattle.rvm_frame.specs.declared.frame.Frame.TheVariants as frame
use Rattle.rvm_guest.specs.Body.{body_of}
use Rattle.rvm_guest.specs.Pieces.{cut}
use Rattle.rvm_state.specs.Spelling.{HasSpelling, spelling}
use Rattle.rvm_guest.proofs.Bodies.{body_is}
use Rattle.rvm_guest.proofs.Joined.{length_pages}
use Rattle.rvm_guest.specs.TheGuest.{board}
use Rattle.rvm_message.specs.Answers.{Answers}
use Rattle.rvm_message.specs.Frames.{frame_of}
use Rattle.rvm_message.specs.declared.reply.HostReply.TheVariants as reply
use Rattle.rvm_precopy.specs.Plans.{IsPlanOf, Plan, last_of}
use Rattle.rvm_precopy.proofs.Ties.{numbers_are}
use Rattle.rvm_protocol.specs.Frames as protocol
use Rattle.rvm_protocol.specs.Modes.{Stopped}
use Rattle.rvm_protocol.specs.Rounds.{newest_numbers}
use Rattle.rvm_source.specs.States.{sends_state_of}

-- the bytes that are written are the state of the protocol
pub state_is : {T E : Type 0} (items : T → List ℕ) (g : Guest) (r : Result T E) → IfOk r (λ b. items b ≡ spelling g) → OnOk r (HasSpelling g) → IfOk r (λ b. items b ≡ body_of g)
state_is items g (Ok b) is told = is ∙ sym (body_is g told)
state_is items g (Err e) is told = tt

-- the numbers of the newest copies are those of the protocol
pub newest_is : (g : GuestState) (r : Plan) (turn : ℕ) → length g.guest.board.shared.bytes ≡ 4096 * length g.dirty → length g.dirty ≡ length r.to_send → IsPlanOf (length r.to_send) r
    → newest_numbers board (last_of g.guest turn r) ≡ r.newest
unfolding board
newest_is g r turn size same plan =
    let bytes : List ℕ = g.guest.board.shared.bytes in
    let newest : length r.newest ≡ length r.to_send = plan.newest in
    let pages : length (board.pages g.guest) ≡ length bytes / 4096 = length_pages (length bytes / 4096) bytes in
    sym (numbers_are r.newest _ (omega (arith, pages, size, same, newest)))

pub sent_whole : (version move turn : ℕ) (numbers : List ℕ) (f : Frame) (g : GuestState) (r : Plan) → version < 2 → newest_numbers board (last_of g.guest turn r) ≡ r.newest → numbers ≡ r.newest
    → frame_of f ≡ protocol.State move numbers (body_of g.guest)
    → Answers version (sends_state_of version move (last_of g.guest turn r)) (reply.StateSent, Some f) (Stopped move (last_of g.guest turn r))
unfolding board
sent_whole version move turn numbers f g r old newest same is =
    let whole : nat_le 2 version ≡ false = grind (arith, nat_tests) in
    rw (whole, newest)
    (record { reply = refl; made = ap Some (is ∙ ap (λ ns. protocol.State move ns (body_of g.guest)) same); mode = refl })

pub sent_piece : (version move turn copies parts next : ℕ) (numbers bytes : List ℕ) (g : GuestState) (r : Plan) → 2 ≤ version → newest_numbers board (last_of g.guest turn r) ≡ r.newest → numbers ≡ r.newest → copies ≡ r.copies
    → parts ≡ length (cut numbers (body_of g.guest)) → bytes ≡ get_or (cut numbers (body_of g.guest)) turn [] → next ≡ (if nat_lt (turn + 1) parts then turn + 1 else 0)
    → Answers version (sends_state_of version move (last_of g.guest turn r)) (reply.PartSent turn parts, Some (frame.Part move copies turn parts bytes)) (Stopped move (last_of g.guest next r))
unfolding board
sent_piece version move turn copies parts next numbers bytes g r new newest same made count is after =
    let pieces : nat_le 2 version ≡ true = grind (arith, nat_tests) in
    rw (pieces, newest, after, made, count, is, same) (record {
      reply = refl;
      made = refl;
      mode = ap (λ n. Stopped move (last_of g.guest (if nat_lt n (length (cut r.newest (body_of g.guest))) then n else 0) r)) (add-one turn);
    })
