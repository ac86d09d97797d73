-- Which frames keep memory of their own.
use Rattle.std.specs.Prelude.{◌≢◌}
use Rattle.rvm_frame.specs.declared.frame.Frame.{Frame}
use Rattle.rvm_frame.specs.declared.frame.Frame.TheVariants.{Page, Lost, State, Part}
use Rattle.rvm_frame.specs.Pages.{zeros}

-- a Page, unless all its bytes are zeros, a Lost, a State and a Part keep memory
abbrev pub KeepsMemory : Frame → Type 0
KeepsMemory (Page n page number bytes) = bytes ≢ zeros
KeepsMemory (Lost n pages) = Unit {0}
KeepsMemory (State n numbers state) = Unit {0}
KeepsMemory (Part n stamp part parts bytes) = Unit {0}
KeepsMemory f = ⊥
