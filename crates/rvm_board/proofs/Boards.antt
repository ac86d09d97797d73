-- A board stays a board.
use Rattle.std.proofs.Common.{◌≡◌, ℕ, ◌-◌, Bool, ◌<◌, ◌≤◌, List, Option, None, false, length, get_or, set, map, replicate, sym, ap, subst, ◌∙◌, arith, inl, inr}
use Rattle.std.proofs.lemmas.List.{length-replicate, length-set, get_or-set_same, get_or-set_other}
use Rattle.std.proofs.lemmas.List.FromFn.{get_or-map-range_with_len, length-map-range_with_len}
use Rattle.std.proofs.lemmas.Bool.{cases_eq}
use Rattle.std.specs.List.{range_with_len}
use Rattle.rvm_mem.proofs.Lengths.{replaced-length}
use Rattle.rvm_dev.specs.Devices as dev
use Rattle.rvm_hart.specs.Bus.{ram_base}
use Rattle.rvm_hart.specs.Machine.{HartState, Machine, BusState, shape}
use Rattle.rvm_hart.specs.Step.{step}
use Rattle.rvm_hart.proofs.Shape.{step_keeps, length-poked_each}
use Rattle.rvm_hart.specs.Pokes.{bus_poked, bus_cleared}
use Rattle.rvm_board.specs.Board.{Board, IsBoard, machine_at, new_hart, stepped, with_machine}

-- the parts of a shape that is kept
pub record Kept (m n : Machine) : Type 0 where
  pub hart : m.hart.csrs.hart ≡ n.hart.csrs.hart
  pub bytes : length m.shared.bytes ≡ length n.shared.bytes
  pub reservations : length m.shared.reservations ≡ length n.shared.reservations
  pub msip : length m.shared.devices.msip ≡ length n.shared.devices.msip

pub kept : (m n : Machine) → shape m ≡ shape n → Kept m n
kept m n e = record { hart = cc; bytes = cc; reservations = cc; msip = cc }

number_after : (harts : List HartState) (h k : ℕ) (x blank : HartState) → h < length harts → x.csrs.hart ≡ h → (get_or harts k blank).csrs.hart ≡ k → (get_or (set harts h x) k blank).csrs.hart ≡ k
number_after harts h k x blank inside same other =
    elim (cases_eq h k) [
      | inl e ↦ ap (λ (y : HartState). y.csrs.hart) (ap (λ n. get_or (set harts h x) n blank) (sym e) ∙ get_or-set_same harts h x blank inside) ∙ same ∙ e
      | inr n ↦ ap (λ (y : HartState). y.csrs.hart) (get_or-set_other harts h k x blank (λ e. n (sym e))) ∙ other
    ]

pub machine_is_board : (b : Board) (h : ℕ) (after : Machine) → shape after ≡ shape (machine_at h b) → IsBoard b → h < length b.harts → IsBoard (with_machine h after b)
machine_is_board b h after same board inside =
    let k : Kept after (machine_at h b) = kept after (machine_at h b) same in
    let count : length (set b.harts h after.hart) ≡ length b.harts = length-set b.harts h after.hart in
    record {
      some = omega (arith, count, board.some);
      bound = omega (arith, count, board.bound);
      numbers = λ n below. number_after b.harts h n after.hart (new_hart 0 0) inside (k.hart ∙ board.numbers h inside) (board.numbers n (omega (arith, below, count)));
      reservations = k.reservations ∙ board.reservations ∙ sym count;
      msip = k.msip ∙ board.msip ∙ sym count;
      ram = omega (arith, k.bytes, board.ram);
    }

pub step_is_board : (b : Board) (h : ℕ) → IsBoard b → h < length b.harts → IsBoard (stepped h b).board
step_is_board b h board inside = machine_is_board b h (step (machine_at h b)).machine (step_keeps (machine_at h b)) board inside

-- the parts that a board is made of
pub made_is_board : (n entry : ℕ) (harts : List HartState) (bus : BusState) (bytes : List ℕ) (d : dev.DeviceState) (words : List (Option ℕ)) (dirty : List Bool) → 0 < n → n ≤ 8 → 0 < length bytes
    → harts ≡ map (new_hart entry) (range_with_len 0 n) → d ≡ dev.at_reset n → words ≡ replicate n None
    → bus ≡ record { shared = record { bytes = bytes; devices = d; reservations = words }; dirty = dirty } → IsBoard (record { harts = harts; shared = bus.shared })
made_is_board n entry harts bus bytes d words dirty some bound ram of_harts of_devices of_words of_bus =
    let count : length harts ≡ n = ap (λ hs. length hs) of_harts ∙ length-map-range_with_len (new_hart entry) 0 n in
    record {
      some = omega (arith, count, some);
      bound = omega (arith, count, bound);
      numbers = λ k below.
          ap (λ (hs : List HartState). (get_or hs k (new_hart 0 0)).csrs.hart) of_harts
          ∙ ap (λ (h : HartState). h.csrs.hart) (get_or-map-range_with_len (new_hart entry) 0 n k k (new_hart 0 0) (omega (arith, below, count)) (omega arith));
      reservations = ap (λ (b : BusState). length b.shared.reservations) of_bus ∙ ap (λ ws. length ws) of_words ∙ length-replicate n None ∙ sym count;
      msip = ap (λ (b : BusState). length b.shared.devices.msip) of_bus ∙ ap (λ (x : dev.DeviceState). length x.msip) of_devices ∙ length-replicate n false ∙ sym count;
      ram = subst (λ (b : BusState). 0 < length b.shared.bytes) (sym of_bus) ram;
    }

-- other reservations, for as many harts, and other bytes
pub poke_is_board : (harts : List HartState) (a : ℕ) (bytes : List ℕ) (old new : BusState) → IsBoard (record { harts = harts; shared = old.shared }) → new ≡ bus_poked a bytes old → IsBoard (record { harts = harts; shared = new.shared })
poke_is_board harts a bytes old new board e =
    record {
      some = board.some;
      bound = board.bound;
      numbers = λ k below. board.numbers k below;
      reservations = ap (λ (b : BusState). length b.shared.reservations) e ∙ length-poked_each a (length bytes) old.shared.reservations ∙ board.reservations;
      msip = ap (λ (b : BusState). length b.shared.devices.msip) e ∙ board.msip;
      ram = subst (λ (b : BusState). 0 < length b.shared.bytes) (sym e) (omega (arith, replaced-length (a - ram_base) bytes old.shared.bytes, board.ram));
    }

-- no reservation, and other bytes
pub clear_is_board : (harts : List HartState) (old new : BusState) → IsBoard (record { harts = harts; shared = old.shared }) → new ≡ bus_cleared old → IsBoard (record { harts = harts; shared = new.shared })
clear_is_board harts old new board e =
    record {
      some = board.some;
      bound = board.bound;
      numbers = λ k below. board.numbers k below;
      reservations = ap (λ (b : BusState). length b.shared.reservations) e ∙ length-replicate (length old.shared.reservations) None ∙ board.reservations;
      msip = ap (λ (b : BusState). length b.shared.devices.msip) e ∙ board.msip;
      ram = subst (λ (b : BusState). 0 < length b.shared.bytes) (sym e) (omega (arith, length-replicate {A = ℕ} (length old.shared.bytes) 0, board.ram));
    }
