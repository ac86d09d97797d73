use Rattle.std.proofs.Common.{rules}
use Rattle.std.proofs.lemmas.List.Sorted.{IsNonDecreasingBy-from_sort_by_key}
use Rattle.std.proofs.lemmas.Result.{on_ok_weaker}
use Rattle.rvm_recorder.specs.declared.items.ReceiptItem.{ReceiptItem}
use Rattle.rvm_recorder.specs.Runs.{place_of}
use Rattle.rvm_recorder.proofs.Tellings.{rising_by}
use Rattle.rvm_recorder.proofs.closing.sort_by_place.Goals as goal

pub returns-clause-sorted : goal.returns-clause-sorted
returns-clause-sorted c =
    on_ok_weaker c.sort_by_key.result
    (λ sorted. rising_by _ (λ i j d le less. IsNonDecreasingBy-from_sort_by_key (λ (x : ReceiptItem). place_of x) _ sorted (λ a r q k. search rules) i j d le less))
    c.sort_by_key.ensures.sorted
