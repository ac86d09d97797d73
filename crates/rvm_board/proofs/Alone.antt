-- Turns of the only hart on the straight path, one by one.
use Rattle.std.proofs.Common.{◌≡◌, ◌∙◌, ℕ, zero, suc, ◌+◌, ◌%◌, ◌<◌, List, Bool, true, false, length, get_or, refl, sym, ap, subst, arith}
use Rattle.std.proofs.lemmas.List.{length-set}
use Rattle.rvm_mem.specs.Pages.{mark_all}
use Rattle.rvm_dev.specs.Devices.{DeviceState}
use Rattle.rvm_hart.specs.Machine.{Machine}
use Rattle.rvm_hart.specs.Step.{step}
use Rattle.rvm_hart.specs.Straight.{DevicesStay, Steps}
use Rattle.rvm_hart.specs.Straight as straight
use Rattle.rvm_board.specs.Board.{machine_at}
use Rattle.rvm_board.specs.Guest.{Guest, GuestState}
use Rattle.rvm_board.specs.Events.{Answered}
use Rattle.rvm_board.specs.Marks.{gone, none_stops}
use Rattle.rvm_board.specs.Retiring.{stepped}
use Rattle.rvm_board.specs.Computing.{Compute, HaveSameConsole}
use Rattle.rvm_board.proofs.Computes.{compute_at, compute_more}
use Rattle.rvm_board.proofs.Going.{Last, gone_none, last_of}
use Rattle.rvm_board.proofs.Retirings.{next_of_one}
use Rattle.rvm_board.proofs.Turning.{mark_more}

-- two devices have the same bytes in their console
record HaveSameBytes (old new : DeviceState) : Type 0 where
  input : new.input ≡ old.input
  output : new.output ≡ old.output

-- steps that change mtime alone leave the console as it was
same_bytes : (k : ℕ) (m : Machine) → DevicesStay k m → HaveSameBytes m.shared.devices (straight.steps k m).machine.shared.devices
unfolding straight.steps
same_bytes zero m stay = record { input = refl; output = refl }
same_bytes (suc k) m stay =
    record { input = ap (λ (d : DeviceState). d.input) stay.1; output = ap (λ (d : DeviceState). d.output) stay.1 }

-- a guest and its dirty log after k steps of hart 0
abbrev gone_on : ℕ → GuestState → GuestState
gone_on k g =
    record { guest = gone 0 k g.guest; dirty = mark_all (straight.steps k (machine_at 0 g.guest.board)).pages g.dirty }

-- k steps of hart 0
steps_compute : (k : ℕ) (old : GuestState) → 0 < length old.guest.board.harts → (0 < k → get_or old.guest.stopped 0 false ≡ false)
    → none_stops old.guest.breakpoints k (machine_at 0 old.guest.board) ≡ true
    → (straight.steps k (machine_at 0 old.guest.board)).retired ≡ true → DevicesStay k (machine_at 0 old.guest.board)
    → Compute 1 k 0 old (gone_on k old)
unfolding straight.steps
steps_compute zero old inside stand stops retired stay =
    λ i. record { guest = gone_none 0 old.guest i; dirty = old.dirty }
steps_compute (suc k) old inside stand stops retired stay =
    let m : Machine = machine_at 0 old.guest.board in
    let s : Steps = straight.steps k m in
    let none : get_or old.guest.stopped 0 false ≡ false = stand (omega arith) in
    let last : Last k 0 old.guest = last_of k 0 old.guest inside none retired stops in
    let so_far : Compute 1 k 0 old (gone_on k old) = steps_compute k old inside (λ some. none) last.stops last.retired stay.0 in
    let was : HaveSameBytes m.shared.devices s.machine.shared.devices = same_bytes k m stay.0 in
    let is : HaveSameBytes m.shared.devices (straight.steps (suc k) m).machine.shared.devices = same_bytes (suc k) m stay in
    let still : HaveSameConsole (gone 0 k old.guest) (gone 0 (suc k) old.guest) =
    record { input = is.input ∙ sym was.input; output = is.output ∙ sym was.output } in
    let to : gone_on (suc k) old ≡ stepped 0 (gone_on k old) =
    ap (λ (d : List Bool). record { guest = gone 0 (suc k) old.guest; dirty = d }) (mark_more s.pages (step s.machine).pages old.dirty)
    ∙ sym (ap (λ (t : Answered). record { guest = t.guest; dirty = mark_all t.pages (mark_all s.pages old.dirty) }) last.turned) in
    compute_more 1 k 0 0 old (gone_on k old) (gone_on (suc k) old) so_far (next_of_one (0 + k))
    (omega (arith, inside, length-set old.guest.board.harts 0 s.machine.hart)) (ap (λ (t : Answered). t.reply) last.turned)
    (subst (λ (g : Guest). HaveSameConsole (gone 0 k old.guest) g) (sym (ap (λ (t : Answered). t.guest) last.turned)) still) to

-- turns, and others after them
compute_on : (n k turn : ℕ) (old between new : GuestState) → Compute 1 n turn old between → Compute 1 k (turn + n) between new
    → Compute 1 (n + k) turn old new
compute_on zero k turn old between new are then =
    let same : turn + 0 ≡ turn = omega arith in
    let all : k ≡ 0 + k = omega arith in
    subst (λ i. Compute 1 i turn old new) all
    (subst (λ t. Compute 1 k t old new) same (subst (λ (g : GuestState). Compute 1 k (turn + 0) g new) are then))
compute_on (suc n) k turn old between new are then =
    let same : turn + suc n ≡ turn + 1 + n = omega arith in
    let all : suc (n + k) ≡ suc n + k = omega arith in
    subst (λ i. Compute 1 i turn old new) all
    (are.0, are.1, are.2, compute_on n k (turn + 1) (stepped (turn % 1) old) between new are.3 (subst (λ t. Compute 1 k t between new) same then))

-- k more of hart 0
pub computes_more : (k n m : ℕ) (old between new : GuestState) → Compute 1 n 0 old between → 0 < length between.guest.board.harts
    → (0 < k → get_or between.guest.stopped 0 false ≡ false)
    → none_stops between.guest.breakpoints k (machine_at 0 between.guest.board) ≡ true
    → (straight.steps k (machine_at 0 between.guest.board)).retired ≡ true → DevicesStay k (machine_at 0 between.guest.board)
    → new.guest ≡ gone 0 k between.guest → new.dirty ≡ mark_all (straight.steps k (machine_at 0 between.guest.board)).pages between.dirty
    → n + k ≡ m → Compute 1 m 0 old new
computes_more k n m old between new are inside stand stops retired stay left marked all =
    let is : gone_on k between ≡ new = λ i. record { guest = sym left i; dirty = sym marked i } in
    let then : Compute 1 k 0 between new =
    subst (λ (x : GuestState). Compute 1 k 0 between x) is (steps_compute k between inside stand stops retired stay) in
    let same : 0 % 1 ≡ (0 + n) % 1 = sym (next_of_one 0) ∙ next_of_one (0 + n) in
    subst (λ i. Compute 1 i 0 old new) all (compute_on n k 0 old between new are (compute_at 1 k 0 (0 + n) between new same then))

-- none yet
pub computes_none : (n : ℕ) (g : GuestState) → n ≡ 0 → Compute 1 n 0 g g
computes_none n g none = subst (λ k. Compute 1 k 0 g g) (sym none) refl

-- turns of hart 0 are those of all harts, if it is the only one
pub computes_alone : (n h : ℕ) (old new : GuestState) → length old.guest.board.harts ≡ 1 → h < length old.guest.board.harts
    → Compute 1 n 0 old new → Compute (length old.guest.board.harts) n h old new
computes_alone n h old new one inside are =
    let first : 0 ≡ h = omega (arith, one, inside) in
    subst (λ l. Compute l n h old new) (sym one) (subst (λ i. Compute 1 n i old new) first are)
