use Rattle.rvm_guest.specs.Pages.{count_of}
use Rattle.rvm_command.proofs.SavedRuns.{counts_cover}
use Rattle.rvm_command.proofs.run_command.keep_counts.Goals as goal

-- a number for each word of as many pages as the guest has
pub returns-in-Ok-clause-kept : goal.returns-in-Ok-clause-kept
returns-in-Ok-clause-kept g c =
    counts_cover (count_of c.args.guest.now.guest) c.page_count-pages.result c.in-Ok.counts c.new-in-Ok.result.items
    c.new-in-Ok.ensures.items c.page_count-pages.ensures.count c.in-Ok.ensures c.page_count-pages.ensures.few
