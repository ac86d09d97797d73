-- The lists that a source keeps are the protocol's sets and tables, and each of its actions is the protocol's, for a
-- guest with as many pages as the lists have.
use Rattle.std.specs.Prelude.{◌≡◌, ℕ, ◌+◌, ◌<◌, List, Bool, false, if◌then◌else◌, length, replicate, slice_set}
use Rattle.rvm_mem.specs.Pages.{count}
use Rattle.rvm_protocol.specs.Guest.{Guest}
use Rattle.rvm_protocol.specs.Rounds as protocol
use Rattle.rvm_protocol.specs.Rounds.{page_count}
use Rattle.rvm_precopy.specs.Plans.{Plan, IsPlanOf, rounds_of, last_of, opened, peek, found, stops, after_round, stopping, last_found, last_copied}

module _ {S P E A B : Type 0} (m : Guest S P E A B) where
  -- an opened plan, with an empty dirty log, is the protocol's first round
  unfoldable pub TheFirstRoundIsTheProtocols : Type 0
  TheFirstRoundIsTheProtocols =
      (g : S) (n : ℕ) (r : Plan) → page_count m g ≡ length r.to_send
      → rounds_of g (replicate n false) (opened r) ≡ protocol.opened m g r.policy

  -- the page that is found is the one that the protocol's round copies next
  unfoldable pub TheNextPageIsTheProtocols : Type 0
  TheNextPageIsTheProtocols =
      (g : S) (log : List Bool) (r : Plan) → page_count m g ≡ length r.to_send
      → found log r ≡ protocol.next_page m (rounds_of g log r)

  -- the plan after a copy of page p is the protocol's round after it
  unfoldable pub ACopyIsTheProtocols : Type 0
  ACopyIsTheProtocols =
      (g : S) (log : List Bool) (r : Plan) (p : ℕ) → p < length r.newest
      → rounds_of g log (record r {
        peeked = peek log r p;
        scan = p + 1;
        newest = slice_set r.newest p (r.copies + 1);
        copies = r.copies + 1;
        sent = r.sent + 1;
      }) ≡ protocol.page_copied m (rounds_of g log r) p

  -- the stop rule answers as the protocol's does
  unfoldable pub TheStopRuleIsTheProtocols : Type 0
  TheStopRuleIsTheProtocols =
      (g : S) (log : List Bool) (r : Plan) → page_count m g ≡ length r.to_send → length log ≡ length r.to_send
      → stops (count log) r ≡ protocol.stops m (rounds_of g log r)

  -- the plan and the dirty log after a round are the protocol's, whatever the stop rule answers
  unfoldable pub TheEndOfARoundIsTheProtocols : Type 0
  TheEndOfARoundIsTheProtocols =
      (g : S) (log : List Bool) (r : Plan) (stop : Bool) → page_count m g ≡ length r.to_send
      → rounds_of g (after_round log r stop).1 (after_round log r stop).0
      ≡ (if stop then protocol.round_over m (rounds_of g log r) else protocol.next_round m (rounds_of g log r))

  -- the plan of the guest when it is paused is the one that the protocol's stop-and-copy begins with
  unfoldable pub ThePauseIsTheProtocols : Type 0
  ThePauseIsTheProtocols =
      (g : S) (log : List Bool) (r : Plan) → last_of g 0 (stopping log r).plan ≡ protocol.stopped m (rounds_of g log r)

  -- the page that is found of the paused guest is the one that the protocol's stop-and-copy copies next
  unfoldable pub TheLastPageIsTheProtocols : Type 0
  TheLastPageIsTheProtocols =
      (g : S) (turn : ℕ) (r : Plan) → page_count m g ≡ length r.to_send
      → last_found r ≡ protocol.to_copy m (last_of g turn r)

  -- the plan after a copy of page p of the paused guest is the protocol's, with the first piece of the state due
  unfoldable pub ALastCopyIsTheProtocols : Type 0
  ALastCopyIsTheProtocols =
      (g : S) (turn : ℕ) (r : Plan) (p : ℕ) → IsPlanOf (page_count m g) r → p < length r.to_send
      → last_of g 0 (last_copied r p).plan ≡ protocol.last_copied m (last_of g turn r) p

  -- the plan has for each page's newest copy the number that the protocol's state names
  unfoldable pub TheNumbersAreTheProtocols : Type 0
  TheNumbersAreTheProtocols =
      (g : S) (turn : ℕ) (r : Plan) → page_count m g ≡ length r.newest
      → r.newest ≡ protocol.newest_numbers m (last_of g turn r)
