-- Turns on the straight path: instructions without their counters, which rise after all of them.
use Rattle.std.proofs.Common.{◌≡◌, ℕ, zero, suc, ◌+◌, ◌-◌, ◌%◌, ◌<◌, ◌≤◌, List, [], ◌∷◌, ◌++◌, length, Bool, true, false, get_or, set, replicate, Option, None, refl, sym, ap, ◌∙◌, subst, arith, inl, inr, is_some}
use Rattle.std.specs.List.{list_any}
use Rattle.std.proofs.lemmas.Bool.{cases_eq}
use Rattle.std.proofs.lemmas.List.{get_or-set_same, get_or-set_other, length-set}
use Rattle.std.proofs.Math.Nat.{mod-eq_of_lt, mod-lt, mod-add-mod}
use Rattle.rvm_mem.specs.Pages.{mark_all}
use Rattle.rvm_csr.specs.Registers.{CsrState}
use Rattle.rvm_csr.specs.Traps.{pending}
use Rattle.rvm_dev.specs.Devices.{DeviceState}
use Rattle.rvm_hart.specs.Bus.{mip_of}
use Rattle.rvm_hart.specs.declared.outcome.Stepped.TheVariants.{Retired}
use Rattle.rvm_hart.specs.Frozen.{risen_by}
use Rattle.rvm_hart.specs.Machine.{BusState, HartState, Machine, number_of, with_devices}
use Rattle.rvm_hart.specs.Step.{After, step}
use Rattle.rvm_hart.specs.Straight.{IsQuiet, at_time, is_retired, risen, timed}
use Rattle.rvm_hart.proofs.Strides.{Strides}
use Rattle.rvm_board.specs.Board.{Board, BoardState, IsBoard, hart_at, machine_at, new_hart, with_machine}
use Rattle.rvm_board.specs.declared.event.BoardReply.TheVariants as reply
use Rattle.rvm_board.specs.declared.turns.Order.TheVariants.{RoundRobin}
use Rattle.rvm_board.specs.declared.turns.Stop.{Stop}
use Rattle.rvm_board.specs.Guest.{Guest, GuestState, fresh}
use Rattle.rvm_board.specs.Events.{Answered, steps, with_board}
use Rattle.rvm_board.specs.Rounds.{AreQuiet, GoOn, Striding, guest_on, risen_after, risen_board, risen_up_to, share}
use Rattle.rvm_board.specs.Retiring.{stepped}
use Rattle.rvm_board.specs.Computing.{Compute, HaveSameConsole}
use Rattle.rvm_board.specs.Turns.{AfterTurns, TakesTurns, after_turns, behind, next_hart}
use Rattle.rvm_board.proofs.Boards.{machine_is_board}
use Rattle.rvm_board.proofs.Computes.{compute_count, compute_more, computes_take}
use Rattle.rvm_board.proofs.Going.{put_same, retired_turn}
use Rattle.rvm_board.proofs.Shares.{length-risen, no_share, none_risen, one_share, other_share, risen_at, set_risen}
use Rattle.rvm_board.proofs.Turning.{Turning, all_were_made, behind_both, mark_more}

-- no hart stands at a breakpoint
pub none_stands : (n k : ℕ) → get_or (replicate n false) k false ≡ false
none_stands zero k = refl
none_stands (suc n) zero = refl
none_stands (suc n) (suc k) = none_stands n k

-- the machine of a hart of a board whose counters rose
risen_machine : (counts : ℕ → ℕ) (n k : ℕ) (b : Board) → k < length b.harts
    → machine_at k (risen_board counts n b) ≡ timed (risen (counts k) (hart_at k b).csrs.mcycle) (risen (counts k) (hart_at k b).csrs.minstret) (risen n b.shared.devices.mtime) (machine_at k b)
risen_machine counts n k b inside =
    ap (λ (y : HartState). record { hart = y; shared = (risen_board counts n b).shared }) (risen_at counts (length b.harts) k b.harts (new_hart 0 0) (omega arith) inside)

-- the counters of a machine that are those of another one
same_counters : (r n : ℕ) (m x : Machine) → x.hart.csrs ≡ m.hart.csrs → x.shared.devices ≡ m.shared.devices
    → timed (risen r m.hart.csrs.mcycle) (risen r m.hart.csrs.minstret) (risen n m.shared.devices.mtime) x
    ≡ record { hart = risen_by r x.hart; shared = record x.shared { devices = at_time (risen n x.shared.devices.mtime) x.shared.devices } }
same_counters r n m x csrs devices =
    ap (λ (s : CsrState). timed (risen r s.mcycle) (risen r s.minstret) (risen n m.shared.devices.mtime) x) (sym csrs)
    ∙ ap (λ (d : DeviceState). timed (risen r x.hart.csrs.mcycle) (risen r x.hart.csrs.minstret) (risen n d.mtime) x) (sym devices)

-- a hart that took one step more is put back
risen_put : (counts counts' : ℕ → ℕ) (n k : ℕ) (x : Machine) (b : Board) → k < length b.harts → counts' k ≡ suc (counts k) → ((j : ℕ) → j < length b.harts → (j ≡ k → ⊥) → counts' j ≡ counts j)
    → x.hart.csrs ≡ (hart_at k b).csrs → x.shared.devices ≡ b.shared.devices
    → with_machine k (timed (risen (suc (counts k)) (hart_at k b).csrs.mcycle) (risen (suc (counts k)) (hart_at k b).csrs.minstret) (risen (suc n) b.shared.devices.mtime) x) (risen_board counts n b)
    ≡ risen_board counts' (suc n) (with_machine k x b)
risen_put counts counts' n k x b inside one others csrs devices =
    ap (λ m. with_machine k m (risen_board counts n b)) (same_counters (suc (counts k)) (suc n) (machine_at k b) x csrs devices)
    ∙ ap (λ (i : ℕ). with_machine k (record { hart = risen_by i x.hart; shared = record x.shared { devices = at_time (risen (suc n) x.shared.devices.mtime) x.shared.devices } }) (risen_board counts n b)) (sym one)
    ∙ ap (λ (hs : List HartState). record { harts = hs; shared = record x.shared { devices = at_time (risen (suc n) x.shared.devices.mtime) x.shared.devices } }) (set_risen counts counts' k x.hart b.harts inside others)

-- what no instruction of the path changes leaves the harts quiet
quiet_is : (n : ℕ) (m x : Machine) → x.hart.csrs ≡ m.hart.csrs → x.shared.devices ≡ m.shared.devices → IsQuiet n m → IsQuiet n x
quiet_is n m x csrs devices quiet = λ i below.
    ap (λ (s : CsrState). pending (mip_of s.hart (at_time (risen i x.shared.devices.mtime) x.shared.devices)) s) csrs
    ∙ ap (λ (d : DeviceState). pending (mip_of m.hart.csrs.hart (at_time (risen i d.mtime) d)) m.hart.csrs) devices
    ∙ quiet i below

csrs_stay : (harts : List HartState) (k j : ℕ) (x blank : HartState) → k < length harts → x.csrs ≡ (get_or harts k blank).csrs → (get_or (set harts k x) j blank).csrs ≡ (get_or harts j blank).csrs
csrs_stay harts k j x blank inside same =
    elim (cases_eq j k) [
      | inl e ↦ ap (λ (h : HartState). h.csrs) (ap (λ i. get_or (set harts k x) i blank) e ∙ get_or-set_same harts k x blank inside) ∙ same ∙ ap (λ i. (get_or harts i blank).csrs) (sym e)
      | inr other ↦ ap (λ (h : HartState). h.csrs) (get_or-set_other harts k j x blank other)
    ]

quiet_put : (n k : ℕ) (x : Machine) (b : Board) → k < length b.harts → x.hart.csrs ≡ (hart_at k b).csrs → x.shared.devices ≡ b.shared.devices → AreQuiet n b → AreQuiet n (with_machine k x b)
quiet_put n k x b inside csrs devices quiet = λ j below.
    quiet_is n (machine_at j b) (machine_at j (with_machine k x b)) (csrs_stay b.harts k j x.hart (new_hart 0 0) inside csrs) devices (quiet j (omega (arith, below, length-set b.harts k x.hart)))

-- a turn, if the counters of all turns before it have risen
turn_made : {dirty dirty' : List Bool} (counts counts' : ℕ → ℕ) (n k : ℕ) (x : Machine) (b : Board) (made : Strides (machine_at k b) x dirty dirty') → k < length b.harts → counts' k ≡ suc (counts k)
    → ((j : ℕ) → j < length b.harts → (j ≡ k → ⊥) → counts' j ≡ counts j) → b.shared.devices.halted ≡ None
    → pending (mip_of (number_of (machine_at k b)) (at_time (risen n b.shared.devices.mtime) b.shared.devices)) (hart_at k b).csrs ≡ None
    → steps k (fresh (risen_board counts n b)) ≡ record { guest = fresh (risen_board counts' (suc n) (with_machine k x b)); pages = made.pages; reply = reply.Retired }
turn_made counts counts' n k x b made inside one others on none =
    let now : Board = risen_board counts n b in
    let g : Guest = fresh now in
    let m : Machine = machine_at k b in
    let c : ℕ = risen (counts k) m.hart.csrs.mcycle in
    let i : ℕ = risen (counts k) m.hart.csrs.minstret in
    let t : ℕ = risen n m.shared.devices.mtime in
    let after : Machine = timed (risen (suc (counts k)) m.hart.csrs.mcycle) (risen (suc (counts k)) m.hart.csrs.minstret) (risen (suc n) m.shared.devices.mtime) x in
    let within : k < length now.harts = omega (arith, inside, length-risen counts (length b.harts) b.harts) in
    let stepped : step (machine_at k now) ≡ record { machine = after; pages = made.pages; answer = Retired } = ap step (risen_machine counts n k b inside) ∙ made.step c i t on none in
    ap (λ (y : Board). steps k (with_board y g)) (sym (put_same k now))
    ∙ retired_turn k (machine_at k now) g within refl (none_stands (length now.harts) k) (ap (λ (a : After). is_retired a.answer) stepped)
    ∙ ap (λ (a : After). record { guest = with_board (with_machine k a.machine now) g; pages = a.pages; reply = reply.Retired }) stepped
    ∙ ap (λ (l : ℕ). record { guest = record { board = with_machine k after now; breakpoints = []; stopped = replicate l false }; pages = made.pages; reply = reply.Retired }) (sym (length-set now.harts k after.hart))
    ∙ ap (λ (y : Board). record { guest = fresh y; pages = made.pages; reply = reply.Retired }) (risen_put counts counts' n k x b inside one others made.csrs made.devices)

-- of no turns, nothing is left to rise
pub nothing_risen : (first : ℕ) (b : Board) → first < length b.harts → risen_after first 0 b ≡ b
nothing_risen first b inside =
    ap (λ (hs : List HartState). record { harts = hs; shared = b.shared }) (none_risen (λ k. share (length b.harts) first 0 k) b.harts (λ k below. no_share (length b.harts) first k inside))

-- before the first turn
pub begins : (count first : ℕ) (b : BoardState) → first < length b.plain.harts → IsBoard b.plain → b.plain.shared.devices.halted ≡ None → AreQuiet count b.plain → Striding count first b count first b
begins count first b inside board on quiet =
    let zero_made : count - count ≡ 0 = omega arith in
    record {
      inside = inside;
      few = omega arith;
      size = refl;
      place = sym (mod-eq_of_lt inside) ∙ ap (λ i. i % length b.plain.harts) (omega (arith, zero_made));
      board = board;
      on = on;
      quiet = quiet;
      computed = subst (λ i. Compute (length b.plain.harts) i first (guest_on b) (guest_on (record { plain = risen_after first i b.plain; dirty = b.dirty }))) (sym zero_made)
          (ap (λ (y : Board). guest_on (record { plain = y; dirty = b.dirty })) (nothing_risen first b.plain inside));
    }

-- the hart after the one that has turn k is that of turn k + 1
next_place : (harts first k : ℕ) → ((first + k) % harts + 1) % harts ≡ (first + suc k) % harts
next_place harts first k = mod-add-mod (first + k) harts 1 ∙ ap (λ i. i % harts) (omega arith)

-- one turn more
pub strides_on : (count first left left' hart hart' : ℕ) (old now new : BoardState) (x : Machine) → Striding count first old left hart now → 0 < left → left' ≡ left - 1 → hart' ≡ next_hart RoundRobin (length old.plain.harts) hart
    → Strides (machine_at hart now.plain) x now.dirty new.dirty → new.plain ≡ with_machine hart x now.plain → Striding count first old left' hart' new
strides_on count first left left' hart hart' old now new x so some less next made put =
    let below : first < length old.plain.harts = so.inside in
    let n : ℕ = count - left in
    let b : Board = now.plain in
    let harts : ℕ = length b.harts in
    let one : suc n ≡ count - left' = omega (arith, some, less, so.few) in
    let place : hart ≡ (first + n) % harts = so.place ∙ ap (λ l. (first + n) % l) (sym so.size) in
    let inside : hart < harts = omega (arith, place, mod-lt (first + n) {m = harts} (omega (arith, below, so.size))) in
    let long : length (with_machine hart x b).harts ≡ harts = length-set b.harts hart x.hart in
    let none : pending (mip_of (number_of (machine_at hart b)) (at_time (risen n b.shared.devices.mtime) b.shared.devices)) (hart_at hart b).csrs ≡ None = so.quiet hart inside n (omega (arith, some, so.few)) in
    let counts : ℕ → ℕ = λ k. share harts first n k in
    let counts' : ℕ → ℕ = λ k. share (length (with_machine hart x b).harts) first (suc n) k in
    let turn : steps hart (fresh (risen_board counts n b)) ≡ record { guest = fresh (risen_board counts' (suc n) (with_machine hart x b)); pages = made.pages; reply = reply.Retired } =
    turn_made counts counts' n hart x b made inside
    (ap (λ l. share l first (suc n) hart) long ∙ one_share harts first n hart inside place)
    (λ j within other. ap (λ l. share l first (suc n) j) long ∙ other_share harts first n j within (λ e. other (e ∙ sym place)))
    so.on none in
    let mid : GuestState = guest_on (record { plain = risen_after first n b; dirty = now.dirty }) in
    let last : GuestState = guest_on (record { plain = risen_after first (suc n) new.plain; dirty = new.dirty }) in
    let still : HaveSameConsole mid.guest (steps hart mid.guest).guest =
    record {
      input = ap (λ (a : Answered). a.guest.board.shared.devices.input) turn ∙ ap (λ (d : DeviceState). d.input) made.devices;
      output = ap (λ (a : Answered). a.guest.board.shared.devices.output) turn ∙ ap (λ (d : DeviceState). d.output) made.devices;
    } in
    let to : last ≡ stepped hart mid =
    ap (λ (y : Board). guest_on (record { plain = risen_after first (suc n) y; dirty = new.dirty })) put
    ∙ ap (λ (d : List Bool). guest_on (record { plain = risen_after first (suc n) (with_machine hart x b); dirty = d })) made.dirty
    ∙ sym (ap (λ (a : Answered). record { guest = a.guest; dirty = mark_all a.pages now.dirty }) turn) in
    let computed : Compute (length old.plain.harts) (suc n) first (guest_on old) last =
    compute_more (length old.plain.harts) n first hart (guest_on old) mid last so.computed so.place
    (omega (arith, inside, length-risen counts (length b.harts) b.harts)) (ap (λ (a : Answered). a.reply) turn) still to in
    record {
      inside = so.inside;
      few = omega (arith, so.few, less);
      size = ap (λ (y : Board). length y.harts) put ∙ long ∙ so.size;
      place = next ∙ ap (λ i. (i + 1) % length old.plain.harts) so.place ∙ next_place (length old.plain.harts) first n ∙ ap (λ i. (first + i) % length old.plain.harts) one;
      board = subst IsBoard (sym put) (machine_is_board b hart x made.sizes so.board inside);
      on = ap (λ (y : Board). y.shared.devices.halted) put ∙ ap (λ (d : DeviceState). d.halted) made.devices ∙ so.on;
      quiet = subst (AreQuiet count) (sym put) (quiet_put count hart x b inside made.csrs made.devices so.quiet);
      computed = subst (λ i. Compute (length old.plain.harts) i first (guest_on old) (guest_on (record { plain = risen_after first i new.plain; dirty = new.dirty }))) one computed;
    }

-- ROWS

pub row_begins : (b : BoardState) → GoOn 0 b b
row_begins b = λ count from left begun enough so.
    subst (λ i. Striding count from begun i (0 % length b.plain.harts) b) (omega arith)
    (subst (λ i. Striding count from begun left i b) (sym (mod-eq_of_lt (omega (arith, so.inside, so.size)))) so)

pub row_goes_on : (h : ℕ) (old now new : BoardState) (x : Machine) → GoOn h old now → h < length now.plain.harts → length now.plain.harts ≡ length old.plain.harts
    → Strides (machine_at h now.plain) x now.dirty new.dirty → new.plain ≡ with_machine h x now.plain → GoOn (h + 1) old new
row_goes_on h old now new x go inside size made put = λ count from left begun enough so.
    let harts : ℕ = length old.plain.harts in
    let so_far : Striding count from begun (left - h) (h % harts) now = go count from left begun (omega (arith, enough)) so in
    let same : h ≡ h % harts = sym (mod-eq_of_lt (omega (arith, inside, size))) in
    let next : (h + 1) % harts ≡ (h % harts + 1) % length begun.plain.harts = sym (mod-add-mod h harts 1) ∙ ap (λ l. (h % harts + 1) % l) so.size in
    strides_on count from (left - h) (left - (h + 1)) (h % harts) ((h + 1) % harts) begun now new x so_far (omega (arith, enough)) (omega (arith, enough)) next
    (subst (λ i. Strides (machine_at i now.plain) x now.dirty new.dirty) same made) (put ∙ ap (λ i. with_machine i x now.plain) same)

-- BOARDS

-- a board whose counters rise is a board
pub risen_is_board : (counts : ℕ → ℕ) (n : ℕ) (b : Board) → IsBoard b → IsBoard (risen_board counts n b)
risen_is_board counts n b board =
    let size : length (risen_board counts n b).harts ≡ length b.harts = length-risen counts (length b.harts) b.harts in
    record {
      some = omega (arith, size, board.some);
      bound = omega (arith, size, board.bound);
      numbers = λ k below.
          let within : k < length b.harts = omega (arith, below, size) in
          ap (λ (h : HartState). h.csrs.hart) (risen_at counts (length b.harts) k b.harts (new_hart 0 0) (omega arith) within) ∙ board.numbers k within;
      reservations = board.reservations ∙ sym size;
      msip = board.msip ∙ sym size;
      ram = board.ram;
    }

-- counters that rise after the turns that they count
pub then_counted : (first n n' : ℕ) (old : BoardState) (xs ys : List HartState) (b c : BusState)
    → Compute (length old.plain.harts) n first (guest_on old) (guest_on (record { plain = risen_after first n (record { harts = xs; shared = b.shared }); dirty = b.dirty }))
    → ys ≡ risen_up_to (λ k. share (length xs) first n k) (length xs) xs → c ≡ with_devices (at_time (risen n b.shared.devices.mtime) b.shared.devices) b → n' ≡ n
    → Compute (length old.plain.harts) n' first (guest_on old) (guest_on (record { plain = record { harts = ys; shared = c.shared }; dirty = c.dirty }))
then_counted first n n' old xs ys b c are harts bus same =
    subst (λ i. Compute (length old.plain.harts) i first (guest_on old) (guest_on (record { plain = record { harts = ys; shared = c.shared }; dirty = c.dirty }))) (sym same)
    (subst (λ (hs : List HartState). Compute (length old.plain.harts) n first (guest_on old) (guest_on (record { plain = record { harts = hs; shared = c.shared }; dirty = c.dirty }))) (sym harts)
    (subst (λ (y : BusState). Compute (length old.plain.harts) n first (guest_on old)
    (guest_on (record { plain = record { harts = risen_up_to (λ k. share (length xs) first n k) (length xs) xs; shared = y.shared }; dirty = y.dirty }))) (sym bus) are))

pub counted_is_board : (first n : ℕ) (xs ys : List HartState) (b c : BusState) → IsBoard (record { harts = xs; shared = b.shared })
    → ys ≡ risen_up_to (λ k. share (length xs) first n k) (length xs) xs → c ≡ with_devices (at_time (risen n b.shared.devices.mtime) b.shared.devices) b → IsBoard (record { harts = ys; shared = c.shared })
counted_is_board first n xs ys b c board harts bus =
    subst (λ (hs : List HartState). IsBoard (record { harts = hs; shared = c.shared })) (sym harts)
    (subst (λ (y : BusState). IsBoard (record { harts = risen_up_to (λ k. share (length xs) first n k) (length xs) xs; shared = y.shared })) (sym bus)
    (risen_is_board (λ k. share (length xs) first n k) n (record { harts = xs; shared = b.shared }) board))

-- the harts up to one are quiet for fewer steps, and so is that one
pub quiet_more : (n m h : ℕ) (x : HartState) (b : Board) → m ≤ n → x ≡ hart_at h b → ((k : ℕ) → k < h → IsQuiet n (machine_at k b)) → IsQuiet m (record { hart = x; shared = b.shared }) → (k : ℕ) → k < h + 1 → IsQuiet m (machine_at k b)
quiet_more n m h x b fewer is so_far now k below =
    elim (cases_eq k h) [
      | inl same ↦ subst (λ i. IsQuiet m (machine_at i b)) (sym same) (subst (λ (y : HartState). IsQuiet m (record { hart = y; shared = b.shared })) is now)
      | inr other ↦ λ i low. so_far k (omega (arith, below, other)) i (omega (arith, low, fewer))
    ]

-- GUESTS

same_flags : (flags : List Bool) → list_any (λ flag. flag) flags ≡ false → replicate (length flags) false ≡ flags
same_flags [] none = refl
same_flags (true ∷ flags) none = absurd cc
same_flags (false ∷ flags) none = ap (λ fs. false ∷ fs) (same_flags flags none)

-- a guest without breakpoints, none of whose harts stands at one
fresh_is : (g : Guest) → g.breakpoints ≡ [] → list_any (λ flag. flag) g.stopped ≡ false → length g.stopped ≡ length g.board.harts → fresh g.board ≡ g
fresh_is g none stand size =
    ap (λ (l : ℕ). record { board = g.board; breakpoints = []; stopped = replicate l false }) (sym size)
    ∙ ap (λ (fs : List Bool). record { board = g.board; breakpoints = []; stopped = fs }) (same_flags g.stopped stand)
    ∙ ap (λ (bs : List ℕ). record g { breakpoints = bs }) (sym none)

-- turns of such a guest are those of its board
pub on_guest : (k h : ℕ) (old new : GuestState) → old.guest.breakpoints ≡ [] → list_any (λ flag. flag) old.guest.stopped ≡ false → length old.guest.stopped ≡ length old.guest.board.harts
    → new.guest.breakpoints ≡ old.guest.breakpoints → new.guest.stopped ≡ old.guest.stopped
    → Compute (length old.guest.board.harts) k h (guest_on (record { plain = old.guest.board; dirty = old.dirty })) (guest_on (record { plain = new.guest.board; dirty = new.dirty }))
    → Compute (length old.guest.board.harts) k h old new
on_guest k h old new none stand size breaks flags are =
    let harts : ℕ = length old.guest.board.harts in
    let was : GuestState = guest_on (record { plain = old.guest.board; dirty = old.dirty }) in
    let now : GuestState = guest_on (record { plain = new.guest.board; dirty = new.dirty }) in
    let begun : was ≡ old = λ i. record { guest = fresh_is old.guest none stand size i; dirty = old.dirty } in
    let left : now ≡ new =
    λ i. record {
      guest = fresh_is new.guest (breaks ∙ none) (ap (list_any (λ flag. flag)) flags ∙ stand) (ap (λ fs. length fs) flags ∙ size ∙ sym (compute_count harts k h was now are)) i;
      dirty = new.dirty;
    } in
    subst (λ (g : GuestState). Compute harts k h old g) left (subst (λ (g : GuestState). Compute harts k h g now) begun are)

-- turns that all were made, and those that go on after them
pub goes_on_after : {all : AfterTurns} {first : List Bool} (harts n k m h h' made made' : ℕ) (old new : GuestState) → Turning all (after_turns RoundRobin n h old.guest) made first old.dirty → length old.guest.board.harts ≡ harts → n ≡ k + m
    → made' ≡ made + k → h < harts → h' ≡ (h + k) % length old.guest.board.harts → Compute (length old.guest.board.harts) k h old new → Turning all (after_turns RoundRobin m h' new.guest) made' first new.dirty
goes_on_after {all} {first} harts n k m h h' made made' old new so_far size more counted below next are =
    let t : AfterTurns = after_turns RoundRobin k h old.guest in
    let took : TakesTurns t old new (record { made = k; stop = None }) =
    computes_take (length old.guest.board.harts) k h h old new are refl (sym (mod-eq_of_lt (omega (arith, below, size)))) in
    let on : after_turns RoundRobin n h old.guest ≡ behind t.pages k (after_turns RoundRobin m ((h + k) % harts) t.guest) =
    all_were_made harts n k m h old.guest size more below (ap (λ (x : Option Stop). is_some x) (sym took.stop)) in
    record {
      pages = so_far.pages ++ t.pages;
      log = took.dirty ∙ ap (mark_all t.pages) so_far.log ∙ sym (mark_more so_far.pages t.pages first);
      whole = ap (λ i. behind (so_far.pages ++ t.pages) i (after_turns RoundRobin m h' new.guest)) counted
          ∙ ap (λ x. behind (so_far.pages ++ t.pages) (made + k) (after_turns RoundRobin m h' x)) took.guest
          ∙ ap (λ i. behind (so_far.pages ++ t.pages) (made + k) (after_turns RoundRobin m i t.guest)) (next ∙ ap (λ l. (h + k) % l) size)
          ∙ sym (behind_both so_far.pages t.pages made k (after_turns RoundRobin m ((h + k) % harts) t.guest))
          ∙ ap (behind so_far.pages made) (sym on)
          ∙ so_far.whole;
    }
