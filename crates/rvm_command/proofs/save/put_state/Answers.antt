use Rattle.std.proofs.Common.{◌≤◌, length, None, subst, sym, ◌∙◌}
use Rattle.rvm_frame.specs.declared.frame.Frame.TheVariants as frame
use Rattle.rvm_frame.specs.Grammar.{HasSpelling}
use Rattle.rvm_command.proofs.FramesPut.{state_spelled}
use Rattle.rvm_state.specs.Spelling.{longest}
use Rattle.rvm_command.proofs.save.put_state.Goals as goal

pub put-requires : goal.put-requires
put-requires g c =
    subst (λ ns. HasSpelling (None, frame.State 1 ns c.from_vec-2.result))
    (sym (c.from_vec.ensures ∙ c.in_ok-copy_numbers.ensures))
    (state_spelled c.args.pages c.from_vec-2.result c.requires.some c.requires.few
    (subst (λ b. length b ≤ longest) (sym c.from_vec-2.ensures) c.in_ok-state.ensures.size))
