use Rattle.std.proofs.Common.{◌≡◌, ◌-◌, ◌++◌, length}
use Rattle.rvm_protocol.specs.Pages.{members}
use Rattle.rvm_handover.specs.Stages.{is_older}
use Rattle.rvm_handover.proofs.staging.missing.Given as goal

-- the pages listed so far, and those from this one on, are all
abbrev pub invariant-loop-page : goal.invariant-loop-page
invariant-loop-page l =
    let older = is_older l.have l.numbers in
    let count = length l.have in
    l.pages.items ++ members older l.page (count - l.page) ≡ members older 0 count
