use Rattle.std.proofs.Common.{◌∙◌, ◌++◌, ◌∷◌, [], ap, sym, slice_set}
use Rattle.std.proofs.Math.Seq.{set-append_seam}
use Rattle.rvm_board.specs.Board.{hart_at}
use Rattle.rvm_board.specs.Guest.{GuestState}
use Rattle.rvm_board.proofs.debugged.Debugged.registers_of.Goals as goal

-- x0 to x31, then pc
pub returns : goal.returns
returns g c =
    let h = c.args.hart in
    let xs = c.copy_from_slice.new.self in
    ap (λ n. slice_set (xs ++ 0 ∷ []) n c.pc.result) (sym c.copy_from_slice.ensures.len)
    ∙ set-append_seam xs 0 [] c.pc.result
    ∙ ap (λ ys. ys ++ c.pc.result ∷ []) (c.copy_from_slice.ensures.after ∙ c.registers.ensures)
    ∙ ap (λ pc. (hart_at h c.self.inside.board.plain).regs ++ pc ∷ []) c.pc.ensures
    ∙ ap (λ (s : GuestState). (hart_at h s.guest.board).regs ++ (hart_at h s.guest.board).pc ∷ []) c.self.view_is
