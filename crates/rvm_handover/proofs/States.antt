-- A state that comes is answered as the protocol of live migration says.
use Rattle.std.proofs.Common.{◌≡◌, ◌<◌, ℕ, ◌*◌, ◌/◌, ◌==◌, Bool, true, false, nat_lt, if◌then◌else◌, List, length, Option, Some, None, refl, sym, ap, subst, ◌∙◌, arith}
use Rattle.std.proofs.lemmas.Bool.{eq-eqb, ne_eqb, lt-ltb, le-ltb}
use Rattle.rvm_protocol.specs.Frames.{Lost}
use Rattle.rvm_protocol.specs.Modes.{Staging, sends, refuses}
use Rattle.rvm_protocol.specs.Pages.{members, size}
use Rattle.rvm_protocol.specs.Receiving.{guest_read, state_came}
use Rattle.rvm_protocol.specs.Replies.{BadState, Lacking}
use Rattle.rvm_protocol.specs.Staging.{Stage, lacks}
use Rattle.rvm_board.specs.Guest.{Guest}
use Rattle.rvm_state.specs.declared.fault.StateFault.{StateFault}
use Rattle.rvm_state.specs.declared.fault.StateFault.TheVariants as faults
use Rattle.rvm_guest.specs.Body.{build}
use Rattle.rvm_guest.specs.Pages.{pages_in}
use Rattle.rvm_guest.proofs.Joined.{length_pages}
use Rattle.rvm_guest.specs.TheGuest.{board}
use Rattle.rvm_handover.specs.declared.not_ready.NotReady.{NotReady}
use Rattle.rvm_handover.specs.Outcomes.{BoardOutcome, IsFault, IsLeft, is_bad, reason_of}
use Rattle.rvm_handover.specs.Stages.{PlainStage, stage_of}
use Rattle.rvm_handover.proofs.Lists.{members_count}

-- a stage has as many pages as it has numbers of copies
pub pages_are : (s : PlainStage) → length s.bytes ≡ 4096 * length s.have → length (stage_of s).pages ≡ length s.have
pages_are s l = let n : length s.bytes / 4096 ≡ length s.have = omega (arith, l) in length_pages (length s.bytes / 4096) s.bytes ∙ n

-- a stage, as the protocol has it, with other pieces
abbrev pub with_pieces : PlainStage → (stamp parts : ℕ) → (ℕ → Option (List ℕ)) → Stage (List ℕ)
with_pieces s stamp parts pieces = record (stage_of s) { stamp = stamp; parts = parts; pieces = pieces }

-- THE OUTCOME OF A STATE, BY THE NUMBER OF PAGES

abbrev pub came_if : (move : ℕ) → (old s : Stage (List ℕ)) → (numbers body : List ℕ) → (count : ℕ) → (fits lacks_some : Bool) → BoardOutcome
came_if move old s numbers body count fits lacks_some =
    if fits
    then (if lacks_some then sends (Lacking (size (lacks s numbers) count)) (Lost move (members (lacks s numbers) 0 count)) (Staging move s)
    else guest_read board move old (board.build s.processors body s.pages))
    else refuses BadState (Staging move old)

module _ (move : ℕ) (s : PlainStage) (stamp parts : ℕ) (pieces : ℕ → Option (List ℕ)) (numbers body : List ℕ) (l : length s.bytes ≡ 4096 * length s.have) where
  abbrev next : Stage (List ℕ)
  next = with_pieces s stamp parts pieces

  abbrev count : ℕ
  count = length s.have

  pub by_count : state_came board move (stage_of s) next numbers body
      ≡ came_if move (stage_of s) next numbers body count (length numbers == count) (nat_lt 0 (size (lacks next numbers) count))
  by_count =
      ap (λ (n : ℕ). came_if move (stage_of s) next numbers body n (length numbers == n) (nat_lt 0 (size (lacks next numbers) n))) (pages_are s l)

  pub other_count : (length numbers ≡ count → ⊥) → state_came board move (stage_of s) next numbers body ≡ refuses BadState (Staging move (stage_of s))
  other_count other =
      by_count ∙ ap (λ b. came_if move (stage_of s) next numbers body count b (nat_lt 0 (size (lacks next numbers) count))) (ne_eqb (length numbers) count other)

  pub some_lack : (missing : List ℕ) → length numbers ≡ count → missing ≡ members (lacks (stage_of s) numbers) 0 count → 0 < length missing
      → state_came board move (stage_of s) next numbers body ≡ sends (Lacking (length missing)) (Lost move missing) (Staging move next)
  some_lack missing same are some =
      let long : length missing ≡ size (lacks (stage_of s) numbers) count = ap length are ∙ members_count (lacks (stage_of s) numbers) count in
      by_count
      ∙ ap (λ b. came_if move (stage_of s) next numbers body count b (nat_lt 0 (size (lacks next numbers) count))) (eq-eqb (length numbers) count same)
      ∙ ap (λ b. came_if move (stage_of s) next numbers body count true b) (lt-ltb 0 (size (lacks next numbers) count) (omega (arith, some, long)))
      ∙ ap (λ n. sends (Lacking n) (Lost move (members (lacks (stage_of s) numbers) 0 count)) (Staging move next)) (sym long)
      ∙ ap (λ ps. sends (Lacking (length missing)) (Lost move ps) (Staging move next)) (sym are)

  -- if copies are missing, the state is not refused as a bad one
  pub lack_is_good : length numbers ≡ count → 0 < length (members (lacks (stage_of s) numbers) 0 count)
      → is_bad (state_came board move (stage_of s) next numbers body).reply ≡ false
  lack_is_good same some = ap (λ (o : BoardOutcome). is_bad o.reply) (some_lack (members (lacks (stage_of s) numbers) 0 count) same refl some)

  pub none_lack : length numbers ≡ count → length (members (lacks (stage_of s) numbers) 0 count) ≡ 0
      → state_came board move (stage_of s) next numbers body ≡ guest_read board move (stage_of s) (build s.harts body (pages_in s.bytes))
  unfolding board
  none_lack same none =
      let long : length (members (lacks (stage_of s) numbers) 0 count) ≡ size (lacks (stage_of s) numbers) count = members_count (lacks (stage_of s) numbers) count in
      by_count
      ∙ ap (λ b. came_if move (stage_of s) next numbers body count b (nat_lt 0 (size (lacks next numbers) count))) (eq-eqb (length numbers) count same)
      ∙ ap (λ b. came_if move (stage_of s) next numbers body count true b) (le-ltb 0 (size (lacks next numbers) count) (omega (arith, none, long)))

-- a fault that is right for the guest that is built, if any, is right for the outcome
left_is : (move : ℕ) (s : PlainStage) (fault : StateFault) (made : Option Guest) → IsFault fault made → IsLeft move (reason_of fault) s (guest_read board move (stage_of s) made)
left_is move s faults.BadState made is = ap (λ o. guest_read board move (stage_of s) o) is
left_is move s faults.OutOfMemory None is = absurd cc
left_is move s faults.OutOfMemory (Some g) is = refl

pub left_so : (move : ℕ) (s t : PlainStage) (fault : StateFault) (reason : NotReady) (made : Option Guest) (o : BoardOutcome)
    → reason ≡ reason_of fault → t ≡ s → o ≡ guest_read board move (stage_of s) made → IsFault fault made → IsLeft move reason t o
left_so move s t fault reason made o er et eo is =
    subst (λ (r : NotReady). IsLeft move r t o) (sym er)
    (subst (λ (x : PlainStage). IsLeft move (reason_of fault) x o) (sym et)
    (subst (λ (x : BoardOutcome). IsLeft move (reason_of fault) s x) (sym eo) (left_is move s fault made is)))
