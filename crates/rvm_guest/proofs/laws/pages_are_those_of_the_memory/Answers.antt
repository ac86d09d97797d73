use Rattle.std.proofs.Common.{length, ◌/◌}
use Rattle.rvm_guest.specs.Pages.{zeros}
use Rattle.rvm_guest.proofs.Joined.{blank_pages, page_at, put_page}
use Rattle.rvm_guest.proofs.laws.pages_are_those_of_the_memory.Goals as goal

pub returns : goal.returns
returns c = record {
  bytes = λ page ram lt. page_at (length ram / 4096) page ram zeros lt;
  blank = λ count. blank_pages count;
  put = λ page new ram whole size lt. put_page page new ram whole size lt;
}
