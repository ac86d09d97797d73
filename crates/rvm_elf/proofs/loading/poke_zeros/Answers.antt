use Rattle.std.proofs.Common.{◌≡◌, ◌-◌, ap, ◌∙◌, take, replicate, ℕ}
use Rattle.std.proofs.lemmas.List.{take-replicate}
use Rattle.rvm_mem.specs.Bytes.{replaced}
use Rattle.rvm_hart.specs.Bus.{ram_base}
use Rattle.rvm_elf.specs.Placing.{with_ram}
use Rattle.rvm_elf.proofs.loading.poke_zeros.Goals as goal

pub returns : goal.returns
returns g c =
    let zeros : take c.args.count (replicate {A = ℕ} 256 0) ≡ replicate c.args.count 0 = take-replicate c.args.count 256 0 c.requires.few in
    c.poke.ensures ∙ ap (λ bytes. with_ram (replaced (c.args.address - ram_base) bytes c.args.board.now.plain.shared.bytes) c.args.board.now) zeros
