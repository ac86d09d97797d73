-- Lines of extended sessions and their answers, by the definitions.
use Rattle.std.proofs.Common.{◌≡◌, ◌∙◌, ℕ, ◌+◌, ◌^◌, ◌-◌, ◌%◌, ◌<◌, [], ◌∷◌, length, Option, Some, None, is_some, true, false, codes, refl, sym, ap}
use Rattle.std.proofs.Math.Nat.{mod-add-mod, mod-lt}
use Rattle.std.specs.Fmt.{digits}
use Rattle.hex.specs.Hex.{encode_with}
use Rattle.rvm_csr.specs.Registers as csr
use Rattle.rvm_csr.specs.Table.{csr_at, table}
use Rattle.rvm_csr.specs.declared.register.Csr.TheVariants as csrs
use Rattle.rvm_dis.specs.Pieces.{hex_digits}
use Rattle.rvm_hart.specs.Machine.{HartState, Shared}
use Rattle.rvm_board.specs.Guest.{Guest}
use Rattle.rvm_board.specs.State.{state_of}
use Rattle.rvm_board.specs.declared.turns.Order.TheVariants.{RoundRobin}
use Rattle.rvm_board.specs.Turns.{AfterTurns, after_turns, behind}
use Rattle.rvm_board.proofs.Turning.{all_were_made, turns_count}
use Rattle.rvm_debug.specs.declared.line.Line.TheVariants as plain
use Rattle.rvm_debug.specs.Lines.{command_of, line_of}
use Rattle.rvm_debug.specs.Words.{words_from}
use Rattle.rvm_command.specs.declared.extended_line.ExtendedLine.TheVariants as line
use Rattle.rvm_command.specs.ExtendedAnswers.{csrs_answer, csrs_text, devices_text, hart_lines, turns_text}
use Rattle.rvm_command.specs.ExtendedLines.{extended_command_of, extended_line_of}
use Rattle.rvm_command.specs.ExtendedRuns.{session_told}
use Rattle.rvm_command.specs.Faults.{first_fault, latest_fault}
use Rattle.rvm_command.specs.Taken.{steps_in}
use Rattle.rvm_command.specs.ExtendedScript.{session_of, turns_from}

-- LINES

the_registers_of_a_hart : extended_line_of (codes "csrs 0x1") ≡ Some (line.Csrs 1)
unfolding extended_line_of extended_command_of line_of words_from command_of
the_registers_of_a_hart = refl

csrs_has_a_hart : extended_line_of (codes "csrs") ≡ None
unfolding extended_line_of extended_command_of line_of words_from command_of
csrs_has_a_hart = refl

the_devices : extended_line_of (codes "\tdevices \r") ≡ Some line.Devices
unfolding extended_line_of extended_command_of line_of words_from command_of
the_devices = refl

devices_has_no_hart : extended_line_of (codes "devices 0") ≡ None
unfolding extended_line_of extended_command_of line_of words_from command_of
devices_has_no_hart = refl

a_million_turns : extended_line_of (codes "turns 1000000") ≡ Some (line.Turns 1000000)
unfolding extended_line_of extended_command_of line_of words_from command_of
a_million_turns = refl

no_turns_are_no_line : extended_line_of (codes "turns 0") ≡ None
unfolding extended_line_of extended_command_of line_of words_from command_of
no_turns_are_no_line = refl

more_than_a_million_turns_are_no_line : extended_line_of (codes "turns 1000001") ≡ None
unfolding extended_line_of extended_command_of line_of words_from command_of
more_than_a_million_turns_are_no_line = refl

a_search_of_a_million_turns : extended_line_of (codes "find-fault 1000000") ≡ Some (line.FindFault 1000000)
unfolding extended_line_of extended_command_of line_of words_from command_of
a_search_of_a_million_turns = refl

a_search_of_more_is_no_line : extended_line_of (codes "find-fault 1000001") ≡ None
unfolding extended_line_of extended_command_of line_of words_from command_of
a_search_of_more_is_no_line = refl

a_search_has_a_number_of_turns : extended_line_of (codes "find-fault") ≡ None
unfolding extended_line_of extended_command_of line_of words_from command_of
a_search_has_a_number_of_turns = refl

a_search_is_one_word : extended_line_of (codes "find fault 5") ≡ None
unfolding extended_line_of extended_command_of line_of words_from command_of
a_search_is_one_word = refl

a_line_of_a_script_stays_one : extended_line_of (codes "step 1") ≡ Some (line.Plain (plain.Steps 1 1))
unfolding extended_line_of line_of words_from command_of
a_line_of_a_script_stays_one = refl

a_comment_stays_empty : extended_line_of (codes "#csrs 0") ≡ Some (line.Plain plain.Empty)
unfolding extended_line_of line_of words_from
a_comment_stays_empty = refl

-- REGISTERS

-- the registers that are shown, by their numbers (Privileged ISA, "CSR Listing")
the_numbers_of_registers :
    csr_at 0x300 ∷ csr_at 0x304 ∷ csr_at 0x344 ∷ csr_at 0x305 ∷ csr_at 0x340 ∷ csr_at 0x341 ∷ csr_at 0x342 ∷ csr_at 0x343
    ∷ csr_at 0xB00 ∷ csr_at 0xB80 ∷ csr_at 0xB02 ∷ csr_at 0xB82 ∷ csr_at 0xF14 ∷ []
    ≡ Some csrs.Mstatus ∷ Some csrs.Mie ∷ Some csrs.Mip ∷ Some csrs.Mtvec ∷ Some csrs.Mscratch ∷ Some csrs.Mepc
    ∷ Some csrs.Mcause ∷ Some csrs.Mtval ∷ Some csrs.Mcycle ∷ Some csrs.Mcycleh ∷ Some csrs.Minstret
    ∷ Some csrs.Minstreth ∷ Some csrs.Mhartid ∷ []
unfolding csr_at table
the_numbers_of_registers = refl

-- after reset, while the timer interrupt is pending, and with a counter above 32 bits
registers_of_hart_5 :
    csrs_text (record { software = false; timer = true; external = false }) (record (csr.at_reset 5) { mcycle = 0x100000002 })
    ≡ codes "mstatus=00001800 mie=00000000 mip=00000080 mtvec=00000000\nmscratch=00000000 mepc=00000000 mcause=00000000 mtval=00000000\nmcycle=00000002 mcycleh=00000001 minstret=00000000 minstreth=00000000\nmhartid=00000005\n"
unfolding hex_digits
registers_of_hart_5 = refl

-- two harts, each of which stops at a breakpoint in its next turn
abbrev two_harts : HartState → Shared → (halted : Option ℕ) → Guest
two_harts h r halted =
    record {
      board = record {
        harts = record h { pc = 0x80000010 } ∷ record h { pc = 0x80000010 } ∷ [];
        shared = record r {
          devices = record {
            msip = false ∷ true ∷ [];
            mtimecmp = (2 ^ 64 - 1) ∷ 0x1234 ∷ [];
            mtime = 0x500000000;
            input = [];
            output = 0x68 ∷ 0x69 ∷ [];
            interrupt_enable = true;
            overrun = false;
            halted = halted;
          };
        };
      };
      breakpoints = 0x80000010 ∷ [];
      stopped = false ∷ false ∷ [];
    }

there_is_no_hart_2 : (h : HartState) (r : Shared) → csrs_answer 2 (two_harts h r None) ≡ codes "refused 5 BadHart\n"
unfolding digits
there_is_no_hart_2 h r = refl

-- DEVICES

the_devices_of_two_harts : (h : HartState) (r : Shared) → devices_text (state_of (two_harts h r None))
    ≡ codes "mtime=0000000500000000\nhart 0 mtimecmp=ffffffffffffffff msip=0\nhart 1 mtimecmp=0000000000001234 msip=1\ninput 0\noutput 2 6869\ninterrupt_enable=1 overrun=0\n"
unfolding digits hex_digits hart_lines encode_with
the_devices_of_two_harts h r = refl

the_devices_of_a_halted_board : (h : HartState) (r : Shared) → devices_text (state_of (two_harts h r (Some 3)))
    ≡ codes "mtime=0000000500000000\nhart 0 mtimecmp=ffffffffffffffff msip=0\nhart 1 mtimecmp=0000000000001234 msip=1\ninput 0\noutput 2 6869\ninterrupt_enable=1 overrun=0\nhalted 3\n"
unfolding digits hex_digits hart_lines encode_with
the_devices_of_a_halted_board h r = refl

-- TURNS

all_turns_are_made : turns_text 0x10 1 None ≡ codes "turns 16: done\n"
unfolding digits
all_turns_are_made = refl

-- the second line goes on with the hart after the last turn of the first
turns_go_on : (h : HartState) (r : Shared) → (session_told (codes "turns 5" ∷ codes "turns 5" ∷ []) (two_harts h r None)).text
    ≡ codes "turns 1: hart 0 break 80000010\nturns 1: hart 1 break 80000010\n"
unfolding session_of extended_line_of extended_command_of line_of words_from command_of after_turns digits hex_digits
turns_go_on h r = refl

-- a step of a hart is no turn of the schedule
steps_are_no_turns : (h : HartState) (r : Shared) → (session_of (codes "turns 5" ∷ codes "#" ∷ codes "turns 5" ∷ []) 1 0 (two_harts h r None)).turns ≡ 2
unfolding session_of extended_line_of extended_command_of line_of words_from command_of after_turns
steps_are_no_turns h r = refl

a_halted_board_ends_turns : (h : HartState) (r : Shared) → (session_told (codes "turns 5" ∷ []) (two_harts h r (Some 3))).text ≡ codes "turns 1: halted 3\n"
unfolding session_of extended_line_of extended_command_of line_of words_from command_of after_turns digits
a_halted_board_ends_turns h r = refl

-- turns that end with the one that stops or halts, and show no fault, are told as turns
a_search_may_stop : (h : HartState) (r : Shared) → (session_told (codes "find-fault 5" ∷ codes "turns 5" ∷ []) (two_harts h r None)).text
    ≡ codes "turns 1: hart 0 break 80000010\nturns 1: hart 1 break 80000010\n"
unfolding session_of extended_line_of extended_command_of line_of words_from command_of after_turns steps_in first_fault latest_fault digits hex_digits
a_search_may_stop h r = refl

a_halted_board_ends_a_search : (h : HartState) (r : Shared) → (session_told (codes "find-fault 5" ∷ []) (two_harts h r (Some 3))).text ≡ codes "turns 1: halted 3\n"
unfolding session_of extended_line_of extended_command_of line_of words_from command_of after_turns steps_in first_fault latest_fault digits
a_halted_board_ends_a_search h r = refl

-- a line that is not in the grammar ends the session, with its number
a_line_that_is_none_ends_it : (h : HartState) (r : Shared) → (session_told (codes "turns 5" ∷ codes "turn 5" ∷ codes "turns 5" ∷ []) (two_harts h r (Some 3))).end ≡ Some 2
unfolding session_of extended_line_of extended_command_of line_of words_from command_of after_turns
a_line_that_is_none_ends_it h r = refl

-- turns that were all made, and those of a later line, are as many turns of one line
turns_of_two_lines : (n m t : ℕ) (g : Guest) → 0 < length g.board.harts → (turns_from n t g).stop ≡ None
    → turns_from (n + m) t g ≡ behind (turns_from n t g).pages n (turns_from m (t + n) (turns_from n t g).guest)
turns_of_two_lines n m t g some on =
    let harts = length g.board.harts in
    let made : AfterTurns = turns_from n t g in
    let size : length made.guest.board.harts ≡ harts = turns_count RoundRobin n (t % harts) g in
    let first : (t % harts + n) % harts ≡ (t + n) % length made.guest.board.harts = mod-add-mod t harts n ∙ ap (λ k. (t + n) % k) (sym size) in
    all_were_made harts (n + m) n m (t % harts) g refl refl (mod-lt t {m = harts} some) (ap is_some on)
    ∙ ap (λ h. behind made.pages n (after_turns RoundRobin m h made.guest)) first
