-- A drain of a guest whose output is empty.
use Rattle.std.proofs.Common.{◌≡◌, ◌∙◌, ℕ, zero, suc, false, List, [], ◌∷◌, length, take, drop, None, refl, sym, ap, Bool, ◌||◌}
use Rattle.std.specs.Prelude.{nat_lt, if◌then◌else◌}
use Rattle.rvm_board.specs.declared.event.BoardEvent.TheVariants.{Drain}
use Rattle.rvm_board.specs.declared.event.BoardReply.TheVariants.{Bytes}
use Rattle.rvm_board.specs.declared.event.BoardRefusal.TheVariants.{OutOfRange}
use Rattle.rvm_board.specs.Guest.{Guest, GuestState}
use Rattle.rvm_board.specs.Events.{Answered as GuestAnswered, answered, leaves, refuses, with_board}
use Rattle.rvm_board.specs.Board.{with_output}
use Rattle.rvm_guest.specs.TheGuest.{board}
use Rattle.rvm_message.specs.Answers.{Answers, BoardMode, BoardOutcome}
use Rattle.rvm_message.specs.Exchanges.{dry_exchange}
use Rattle.rvm_protocol.specs.Frames.{made_as}
use Rattle.rvm_protocol.specs.Modes.{says}
use Rattle.rvm_protocol.specs.Obeying as obeying
use Rattle.rvm_protocol.specs.Replies.{Answered}
use Rattle.rvm_guest.specs.Pages.{count_of}
use Rattle.rvm_mem.specs.Pages.{has, mark_all}
use Rattle.rvm_message.proofs.Logs.{log_is}
use Rattle.rvm_precopy.specs.Plans.{Plan, rounds_of}
use Rattle.rvm_protocol.specs.Modes as protocol
use Rattle.rvm_source.specs.declared.phase.Phase.{Phase}
use Rattle.rvm_source.specs.declared.phase.Phase.TheVariants as phases
use Rattle.rvm_source.specs.Quiet.{IsQuiet}
use Rattle.rvm_source.specs.Sources as sources
use Rattle.rvm_source.specs.Sources.{PlainSource}
use Rattle.std.proofs.Math.Path.{fun_ext}
use Rattle.rvm_host.specs.Modes.{Run, mode_of}

none_dropped : (n : ℕ) (xs : List ℕ) → length xs ≡ 0 → drop n xs ≡ xs
none_dropped zero [] none = refl
none_dropped (suc n) [] none = refl
none_dropped n (x ∷ xs) none = absurd cc

none_taken : (n : ℕ) (xs : List ℕ) → length xs ≡ 0 → take n xs ≡ []
none_taken zero [] none = refl
none_taken (suc n) [] none = refl
none_taken n (x ∷ xs) none = absurd cc

pub dry_guest : (n : ℕ) (g : Guest) → nat_lt 256 n ≡ false → length g.board.shared.devices.output ≡ 0
    → answered (Drain n) g ≡ leaves g (Bytes [])
dry_guest n g few none =
    let sent = g.board.shared.devices.output in
    ap (λ t. if t then refuses OutOfRange g
    else leaves (with_board (with_output (drop n sent) g.board) g) (Bytes (take n sent))) few
    ∙ (λ i. leaves (with_board (with_output (none_dropped n sent none i) g.board) g) (Bytes (none_taken n sent none i)))

-- an outcome that only says that the drain found nothing
says_dry : (n version : ℕ) (o : BoardOutcome) (m : BoardMode) → o ≡ says (Answered (Bytes [])) m
    → Answers version o ((dry_exchange n).reply, None) m
says_dry n version o m is = record {
  reply = sym (ap (λ (x : BoardOutcome). x.reply) is);
  made = sym (ap (λ (x : BoardOutcome). made_as board version x.made) is);
  mode = sym (ap (λ (x : BoardOutcome). x.next) is);
}

pub run_dry : (n k : ℕ) (g : Guest) → answered (Drain n) g ≡ leaves g (Bytes []) → (version : ℕ)
    → Answers version (obeying.board board (Drain n) (mode_of (Run k g))) ((dry_exchange n).reply, None) (mode_of (Run k g))
unfolding board
run_dry n k g dry version =
    says_dry n version (obeying.board board (Drain n) (mode_of (Run k g))) (mode_of (Run k g))
    (ap (λ (a : GuestAnswered). says (Answered a.reply) (mode_of (Run k a.guest))) dry)

-- the same of a guest that is being moved
source_dry : (f : Phase) (n k : ℕ) (g : GuestState) (r : Plan) → nat_lt 256 n ≡ false
    → IsQuiet f (length g.guest.board.shared.devices.output) → length g.dirty ≡ count_of g.guest
    → obeying.board board (Drain n) (sources.mode_in k g r f) ≡ says (Answered (Bytes [])) (sources.mode_in k g r f)
unfolding board
source_dry phases.Offering n k g r few quiet logged =
    ap (λ (a : GuestAnswered). says (Answered a.reply) (protocol.Offering k a.guest r.policy)) (dry_guest n g.guest few quiet)
source_dry phases.Copying n k g r few quiet logged =
    let e = dry_guest n g.guest few quiet in
    let logs : ◌≡◌ {A = ℕ → Bool} (λ p. has p g.dirty || board.wrote g.guest (Drain n) p) (λ p. has p g.dirty) =
    fun_ext (λ p. sym (log_is g.guest (Drain n) g.dirty g.dirty p
    (ap (λ (a : GuestAnswered). mark_all a.pages g.dirty) (sym e)) logged)) in
    λ i. says (Answered (e i).reply)
    (protocol.Copying k (record (rounds_of g.guest g.dirty r) { guest = (e i).guest; log = logs i }))
source_dry (phases.Stopped turn) n k g r few quiet logged = absurd quiet

pub leaving_dry : (n : ℕ) (s : PlainSource) → nat_lt 256 n ≡ false
    → IsQuiet s.phase (length s.guest.guest.board.shared.devices.output) → length s.guest.dirty ≡ count_of s.guest.guest
    → (version : ℕ) → Answers version (obeying.board board (Drain n) (sources.mode_of s)) ((dry_exchange n).reply, None)
    (sources.mode_of s)
leaving_dry n s few quiet logged version =
    says_dry n version (obeying.board board (Drain n) (sources.mode_of s)) (sources.mode_of s)
    (source_dry s.phase n s.move_number s.guest s.plan few quiet logged)
