-- What an event does not change.
use Rattle.std.proofs.Common.{◌≡◌, ℕ, ◌+◌, ◌-◌, ◌%◌, ◌<◌, ◌≤◌, Bool, true, false, List, Option, Some, None, length, get_or, set, inl, inr, refl, sym, ap, subst, arith, if◌then◌else◌, ◌==◌, nat_lt}
use Rattle.std.specs.Prelude.{nat_le, slice_set}
use Rattle.std.proofs.lemmas.Bool.Decides.{nat_tests}
use Rattle.std.proofs.lemmas.Bool.{cases_eq}
use Rattle.std.proofs.lemmas.List.{length-set, get_or-set_same, get_or-set_other}
use Rattle.rvm_mem.specs.Pages.{page_of}
use Rattle.rvm_mem.proofs.Lengths.{length-replaced}
use Rattle.rvm_mem.proofs.Others.{poke_others}
use Rattle.rvm_hart.specs.Bus.{ram_base, ram_load}
use Rattle.rvm_hart.specs.Machine.{HartState, Machine, shape}
use Rattle.rvm_hart.specs.Registers.{AreRegisters}
use Rattle.rvm_hart.specs.Step.{step}
use Rattle.rvm_hart.proofs.Pages.{step_others}
use Rattle.rvm_hart.proofs.Registers.{with_register_registers, step_registers}
use Rattle.rvm_hart.proofs.Shape.{length-poked_each, step_keeps}
use Rattle.rvm_board.specs.Board.{hart_at, machine_at, new_hart}
use Rattle.rvm_board.specs.Pokes.{is_view}
use Rattle.rvm_hart.specs.Outcome.{with_register}
use Rattle.rvm_hart.specs.Pokes as hart
use Rattle.rvm_board.specs.declared.event.BoardEvent.{BoardEvent}
use Rattle.rvm_board.specs.declared.event.BoardEvent.TheVariants as event
use Rattle.rvm_board.specs.declared.event.BoardReply.TheVariants as reply
use Rattle.rvm_board.specs.Guest.{Guest, is_in}
use Rattle.rvm_board.specs.Kept.{Keeps}
use Rattle.rvm_board.specs.Events.{Answered, answered, leaves, takes_step, unless_halted, steps, stops, tells_word, sets_register, writes_bytes, with_board, with_stopped}

-- the harts are the same, and the sizes of the rest
same : (a : Answered) (g : Guest) → a.guest.board.harts ≡ g.board.harts → a.guest.board.shared.bytes ≡ g.board.shared.bytes → length a.guest.board.shared.devices.msip ≡ length g.board.shared.devices.msip
    → length a.guest.board.shared.devices.mtimecmp ≡ length g.board.shared.devices.mtimecmp → length a.guest.board.shared.reservations ≡ length g.board.shared.reservations → length a.guest.stopped ≡ length g.stopped → Keeps a g
same a g harts bytes msip mtimecmp reservations stopped =
    record {
      others = λ p none. ap (λ xs. page_of p xs) bytes;
      size = ap length bytes;
      harts = ap length harts;
      numbers = λ k lt. ap (λ hs. (get_or hs k (new_hart 0 0)).csrs.hart) harts;
      registers = λ k lt. subst (λ hs. AreRegisters (hart_at k g.board).regs → AreRegisters (get_or hs k (new_hart 0 0)).regs) (sym harts) (λ are. are);
      msip = msip;
      mtimecmp = mtimecmp;
      reservations = reservations;
      stopped = stopped;
    }

one_of : (b : Bool) (x y : Answered) (g : Guest) → Keeps x g → Keeps y g → Keeps (if b then x else y) g
one_of true x y g first second = first
one_of false x y g first second = second

-- if it depends on a test
as_tested : (b : Bool) (x y : Answered) (g : Guest) → (b ≡ true → Keeps x g) → Keeps y g → Keeps (if b then x else y) g
as_tested true x y g first second = first refl
as_tested false x y g first second = second

-- HARTS

-- what holds of each hart and itself, and of one and what replaces it, holds of each hart and the one at its place
replaced_at : (P : HartState → HartState → Type 0) (harts : List HartState) (h k : ℕ) (x : HartState) → ((y : HartState) → P y y) → P (get_or harts h (new_hart 0 0)) x → k < length harts
    → P (get_or harts k (new_hart 0 0)) (get_or (set harts h x) k (new_hart 0 0))
replaced_at P harts h k x itself one lt =
    elim (cases_eq h k) [
      | inl e ↦
          subst (λ n. P (get_or harts n (new_hart 0 0)) (get_or (set harts h x) n (new_hart 0 0))) e
          (subst (λ y. P (get_or harts h (new_hart 0 0)) y) (sym (get_or-set_same harts h x (new_hart 0 0) (omega (arith, lt, e)))) one)
      | inr n ↦
          subst (λ y. P (get_or harts k (new_hart 0 0)) y) (sym (get_or-set_other harts h k x (new_hart 0 0) (λ e. n (sym e)))) (itself (get_or harts k (new_hart 0 0)))
    ]

abbrev HasNumber : HartState → HartState → Type 0
HasNumber old new = new.csrs.hart ≡ old.csrs.hart

abbrev HasRegisters : HartState → HartState → Type 0
HasRegisters old new = AreRegisters old.regs → AreRegisters new.regs

-- STEPS

-- the parts of a shape that is kept
record SameShape (m n : Machine) : Type 0 where
  number : m.hart.csrs.hart ≡ n.hart.csrs.hart
  size : length m.shared.bytes ≡ length n.shared.bytes
  msip : length m.shared.devices.msip ≡ length n.shared.devices.msip
  mtimecmp : length m.shared.devices.mtimecmp ≡ length n.shared.devices.mtimecmp
  reservations : length m.shared.reservations ≡ length n.shared.reservations

same_shape : (m n : Machine) → shape m ≡ shape n → SameShape m n
same_shape m n e = record { number = cc; size = cc; msip = cc; mtimecmp = cc; reservations = cc }

takes_step_keeps : (h : ℕ) (g : Guest) → Keeps (takes_step h g) g
takes_step_keeps h g =
    let m : Machine = machine_at h g.board in
    let after : Machine = (step m).machine in
    let s : SameShape after m = same_shape after m (step_keeps m) in
    record {
      others = step_others m;
      size = s.size;
      harts = length-set g.board.harts h after.hart;
      numbers = λ k lt. replaced_at HasNumber g.board.harts h k after.hart (λ y. refl) s.number lt;
      registers = λ k lt. replaced_at HasRegisters g.board.harts h k after.hart (λ y are. are) (step_registers m) lt;
      msip = s.msip;
      mtimecmp = s.mtimecmp;
      reservations = s.reservations;
      stopped = length-set g.stopped h false;
    }

halted_keeps : (o : Option ℕ) (h : ℕ) (g : Guest) → Keeps (unless_halted o h g) g
halted_keeps (Some s) h g = same _ g refl refl refl refl refl refl
halted_keeps None h g = one_of (stops h g) _ (takes_step h g) g (same _ g refl refl refl refl refl (length-set g.stopped h true)) (takes_step_keeps h g)

tells_word_keeps : (a : ℕ) (o : Option ℕ) (g : Guest) → Keeps (tells_word a o g) g
tells_word_keeps a (Some w) g = same _ g refl refl refl refl refl refl
tells_word_keeps a None g = same _ g refl refl refl refl refl refl

-- WRITES

-- the guest with another hart at a place
abbrev with_hart : ℕ → HartState → Guest → Guest
with_hart h x g = with_board (record g.board { harts = slice_set g.board.harts h x }) g

with_hart_keeps : (b : Bool) (h : ℕ) (x : HartState) (g : Guest) → HasNumber (hart_at h g.board) x → HasRegisters (hart_at h g.board) x
    → Keeps (leaves (if b then with_stopped h false (with_hart h x g) else with_hart h x g) reply.Done) g
with_hart_keeps true h x g number registers =
    record {
      others = λ p none. refl;
      size = refl;
      harts = length-set g.board.harts h x;
      numbers = λ k lt. replaced_at HasNumber g.board.harts h k x (λ y. refl) number lt;
      registers = λ k lt. replaced_at HasRegisters g.board.harts h k x (λ y are. are) registers lt;
      msip = refl;
      mtimecmp = refl;
      reservations = refl;
      stopped = length-set g.stopped h false;
    }
with_hart_keeps false h x g number registers =
    record {
      others = λ p none. refl;
      size = refl;
      harts = length-set g.board.harts h x;
      numbers = λ k lt. replaced_at HasNumber g.board.harts h k x (λ y. refl) number lt;
      registers = λ k lt. replaced_at HasRegisters g.board.harts h k x (λ y are. are) registers lt;
      msip = refl;
      mtimecmp = refl;
      reservations = refl;
      stopped = refl;
    }

poked_number : (b : Bool) (r v : ℕ) (x : HartState) → HasNumber x (if b then record x { pc = v - v % 4 } else record x { regs = with_register r v x.regs })
poked_number true r v x = refl
poked_number false r v x = refl

poked_registers : (b : Bool) (r v : ℕ) (x : HartState) → HasRegisters x (if b then record x { pc = v - v % 4 } else record x { regs = with_register r v x.regs })
poked_registers true r v x = λ are. are
poked_registers false r v x = with_register_registers r v x.regs

sets_register_keeps : (h r v : ℕ) (g : Guest) → Keeps (sets_register h r v g) g
sets_register_keeps h r v g =
    let x : HartState = hart_at h g.board in
    one_of (nat_le (length g.board.harts) h) _ _ g (same _ g refl refl refl refl refl refl)
    (one_of (nat_lt 32 r) _ _ g (same _ g refl refl refl refl refl refl)
    (with_hart_keeps (r == 32) h (hart.register_poked r v x) g (poked_number (r == 32) r v x) (poked_registers (r == 32) r v x)))

writes_bytes_keeps : (a : ℕ) (bytes : List ℕ) (g : Guest) → Keeps (writes_bytes a bytes g) g
writes_bytes_keeps a bytes g =
    as_tested (is_view a (length bytes) g.board) _ _ g
    (λ h.
    let inside : a - ram_base + length bytes ≤ length g.board.shared.bytes = grind (arith, nat_tests) in
    record {
      others = poke_others (a - ram_base) bytes g.board.shared.bytes inside;
      size = length-replaced (a - ram_base) bytes g.board.shared.bytes inside;
      harts = refl;
      numbers = λ k lt. refl;
      registers = λ k lt are. are;
      msip = refl;
      mtimecmp = refl;
      reservations = length-poked_each a (length bytes) g.board.shared.reservations;
      stopped = refl;
    })
    (same _ g refl refl refl refl refl refl)

pub answered_keeps : (e : BoardEvent) (g : Guest) → Keeps (answered e g) g
answered_keeps (event.Step h) g =
    one_of (nat_lt h (length g.board.harts)) (steps h g) _ g (halted_keeps g.board.shared.devices.halted h g) (same _ g refl refl refl refl refl refl)
answered_keeps (event.Input byte) g =
    one_of (length g.board.shared.devices.input == 16) _ _ g (same _ g refl refl refl refl refl refl) (same _ g refl refl refl refl refl refl)
answered_keeps (event.Drain n) g = one_of (nat_lt 256 n) _ _ g (same _ g refl refl refl refl refl refl) (same _ g refl refl refl refl refl refl)
answered_keeps (event.Break a) g =
    one_of (is_in a g.breakpoints) _ _ g (same _ g refl refl refl refl refl refl)
    (one_of (length g.breakpoints == 64) _ _ g (same _ g refl refl refl refl refl refl) (same _ g refl refl refl refl refl refl))
answered_keeps (event.Clear a) g = same _ g refl refl refl refl refl refl
answered_keeps (event.Regs h) g = one_of (nat_lt h (length g.board.harts)) _ _ g (same _ g refl refl refl refl refl refl) (same _ g refl refl refl refl refl refl)
answered_keeps (event.Mem a n) g = one_of (is_view a n g.board) _ _ g (same _ g refl refl refl refl refl refl) (same _ g refl refl refl refl refl refl)
answered_keeps (event.Dis a) g =
    one_of (a % 4 == 0) (tells_word a (ram_load 4 a g.board.shared.bytes) g) _ g (tells_word_keeps a (ram_load 4 a g.board.shared.bytes) g) (same _ g refl refl refl refl refl refl)
answered_keeps (event.PokeReg h r v) g = sets_register_keeps h r v g
answered_keeps (event.PokeMem a bytes) g = writes_bytes_keeps a bytes g
