use Rattle.std.proofs.Common.{◌≡◌, ◌++◌, map, take, drop}
use Rattle.rvm_elf.specs.Load.{at_entry}
use Rattle.rvm_elf.specs.Placing.{with_harts}
use Rattle.rvm_elf.proofs.loading.set_entries.Given as goal

-- the harts so far go on at the entry
abbrev pub invariant-loop-hart : goal.invariant-loop-hart
invariant-loop-hart g l =
    l.board ≡ with_harts (map (at_entry l.entry) (take l.hart l.fn.board.plain.harts) ++ drop l.hart l.fn.board.plain.harts) l.fn.board
