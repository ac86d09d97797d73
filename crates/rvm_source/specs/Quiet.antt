-- A guest that is being moved and runs, and whose output has all been drained.
use Rattle.std.specs.Prelude.{◌≡◌, ℕ}
use Rattle.rvm_source.specs.declared.phase.Phase.{Phase}
use Rattle.rvm_source.specs.declared.phase.Phase.TheVariants as phases

-- the guest runs in this phase, and no bytes of its output wait
abbrev pub IsQuiet : Phase → (waiting : ℕ) → Type 0
IsQuiet phases.Offering n = n ≡ 0
IsQuiet phases.Copying n = n ≡ 0
IsQuiet (phases.Stopped turn) n = ⊥
