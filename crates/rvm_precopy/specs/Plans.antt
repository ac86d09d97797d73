-- What the source of a move keeps beside its guest, as lists, and what each of its actions makes of it. The laws of
-- this crate say that these are the protocol's rounds.
use Rattle.std.specs.Prelude.{◌≡◌, ℕ, ◌+◌, ◌-◌, ◌*◌, ◌/◌, ◌%◌, ◌^◌, ◌≤◌, Bool, true, false, not, ◌&&◌, ◌||◌, ◌==◌, if◌then◌else◌, nat_lt, nat_le, List, length, replicate, get_or, slice_set, Option, Some, None}
use Rattle.rvm_mem.specs.Pages.{bit, bits, count, has, has_except, union, unmark, window}
use Rattle.rvm_protocol.specs.Commands.{Policy}
use Rattle.rvm_protocol.specs.Pages.{least}
use Rattle.rvm_protocol.specs.Rounds.{Rounds, Last}
use Rattle.rvm_precopy.specs.declared.rounds.Next.{Next}
use Rattle.rvm_precopy.specs.declared.rounds.Next.TheVariants as next
use Rattle.rvm_precopy.specs.declared.rounds.LastNext.{LastNext}
use Rattle.rvm_precopy.specs.declared.rounds.LastNext.TheVariants as last

-- what the source keeps: for each page whether it is of this round, whether it was reported lost, and the number of its
-- newest copy; the dirty log of the 64 pages that the scan is in, as it was last peeked at
pub record Plan : Type 0 where
  pub policy : Policy
  pub to_send : List Bool
  pub to_fix : List Bool
  pub peeked : ℕ
  pub scan : ℕ
  pub newest : List ℕ
  pub copies : ℕ
  pub round : ℕ
  pub sent : ℕ
  pub stop : Bool

-- a plan for a guest of this many pages
pub record IsPlanOf (pages : ℕ) (r : Plan) : Type 0 where
  pub send : length r.to_send ≡ pages
  pub fix : length r.to_fix ≡ pages
  pub newest : length r.newest ≡ pages
  pub scan : r.scan ≤ pages
  pub sent : r.sent ≤ r.scan
  pub few : pages ≤ 4096
  pub rounds : r.round ≤ 1000

-- the plan before the first round
abbrev pub begun : (pages : ℕ) → Policy → Plan
begun pages p =
    record {
      policy = p;
      to_send = replicate pages false;
      to_fix = replicate pages false;
      peeked = 0;
      scan = 0;
      newest = replicate pages 0;
      copies = 0;
      round = 1;
      sent = 0;
      stop = false;
    }

-- the plan at the start of the first round: every page is to be sent
abbrev pub opened : Plan → Plan
opened r =
    record {
      policy = r.policy;
      to_send = replicate (length r.to_send) true;
      to_fix = replicate (length r.to_send) false;
      peeked = 0;
      scan = 0;
      newest = replicate (length r.to_send) 0;
      copies = 0;
      round = 1;
      sent = 0;
      stop = false;
    }

-- the protocol's source that has this plan, with its guest and the guest's dirty log
abbrev pub rounds_of : {S : Type 0} → S → (log : List Bool) → Plan → Rounds S
rounds_of g log r =
    record {
      guest = g;
      policy = r.policy;
      to_send = λ p. has p r.to_send;
      log = λ p. has p log;
      to_skip = λ p. (p / 64 == (r.scan - 1) / 64) && bit (p % 64) r.peeked;
      scan = r.scan;
      newest = λ p. get_or r.newest p 0;
      copies = r.copies;
      round = r.round;
      sent = r.sent;
      stop = r.stop;
    }

-- the protocol's source that has this plan once its guest is paused
abbrev pub last_of : {S : Type 0} → S → (turn : ℕ) → Plan → Last S
last_of g turn r =
    record {
      guest = g;
      to_send = λ p. has p r.to_send;
      to_fix = λ p. has p r.to_fix;
      newest = λ p. get_or r.newest p 0;
      copies = r.copies;
      turn = turn;
    }

-- the dirty log of the 64 pages of page p, as this round peeked at it, or would peek at it now
abbrev pub peek : (log : List Bool) → Plan → ℕ → ℕ
peek log r p =
    if not (r.scan % 64 == 0) && (p / 64 == r.scan / 64) then r.peeked
    else bits (window (64 * (p / 64)) log)

-- a page is of this round, and was not in the dirty log when that was peeked at
abbrev pub due : (log : List Bool) → Plan → ℕ → Bool
due log r p = has_except (peek log r p) r.to_send p

-- the page that this round copies next
abbrev pub found : (log : List Bool) → Plan → Option ℕ
found log r = least (due log r) r.scan (length r.to_send - r.scan)

-- an answer, and the plan and the dirty log that are left
pub record Turn : Type 0 where
  pub answer : Next
  pub plan : Plan
  pub log : List Bool

-- page p is copied if a copy number is left; peeked is the dirty log of its 64 pages as it was peeked at
abbrev pub copied_if : (peeked : ℕ) → Plan → ℕ → Next × Plan
copied_if peeked r p =
    if r.copies == 2 ^ 32 - 1 then (next.SeqSpent, r)
    else (
      next.Copied p (r.copies + 1),
      record r {
        peeked = peeked;
        scan = p + 1;
        newest = slice_set r.newest p (r.copies + 1);
        copies = r.copies + 1;
        sent = r.sent + 1;
      },
    )

-- the stop rule, with this many pages in the dirty log
abbrev pub stops : (left : ℕ) → Plan → Bool
stops left r =
    nat_le r.policy.max_rounds r.round
    || nat_lt left r.policy.min_left
    || nat_lt (r.policy.factor * length r.to_send) r.copies

-- the plan and the dirty log after a round, given the stop rule's answer: if it is true, the log goes on until the
-- guest is paused; else its pages are those of the next round, which begins
abbrev pub after_round : (log : List Bool) → Plan → Bool → Plan × List Bool
after_round log r true = (record r { peeked = 0; scan = length r.to_send; stop = true }, log)
after_round log r false = (
  record r { to_send = log; peeked = 0; scan = 0; round = r.round + 1; sent = 0 },
  replicate (length log) false,
)

-- the end of a round, no page of which is left to be copied
abbrev pub round_ended : (log : List Bool) → Plan → Turn
round_ended log r =
    let t = after_round log r (stops (count log) r) in
    record {
      answer = next.RoundEnded r.round r.sent (count r.to_send - r.sent) (count log);
      plan = t.0;
      log = t.1;
    }

-- the guest is paused: the pages of the dirty log are the last round's
abbrev pub stopping : (log : List Bool) → Plan → Turn
stopping log r =
    record {
      answer = next.Stopping;
      plan = record r { to_send = log; to_fix = replicate (length r.to_send) false };
      log = replicate (length log) false;
    }

-- the source's next action, given the page that was found
abbrev pub with_found : (log : List Bool) → Plan → Option ℕ → Turn
with_found log r (Some p) =
    let t = copied_if (peek log r p) r p in
    record { answer = t.0; plan = t.1; log = log }
with_found log r None = round_ended log r

-- the source's next action while its guest runs
unfoldable pub next_of : (log : List Bool) → Plan → Turn
next_of log r = if r.stop then stopping log r else with_found log r (found log r)

-- a page of the paused guest that is left to be copied
abbrev pub left : Plan → ℕ → Bool
left r p = has p r.to_send || has p r.to_fix

-- the lowest page of the paused guest that is left to be copied
abbrev pub last_found : Plan → Option ℕ
last_found r = least (left r) 0 (length r.to_send)

-- an answer, and the plan that is left
pub record LastTurn : Type 0 where
  pub answer : LastNext
  pub plan : Plan

-- page p of the paused guest is copied
abbrev pub last_copied : Plan → ℕ → LastTurn
last_copied r p =
    record {
      answer = last.Copied p (r.copies + 1);
      plan = record r {
        to_send = unmark p r.to_send;
        to_fix = unmark p r.to_fix;
        newest = slice_set r.newest p (r.copies + 1);
        copies = r.copies + 1;
      };
    }

-- the source's next action once its guest is paused, given the page that was found
abbrev pub with_last : Plan → Option ℕ → LastTurn
with_last r (Some p) =
    if r.copies == 2 ^ 32 - 1 then record { answer = last.SeqSpent; plan = r }
    else last_copied r p
with_last r None = record { answer = last.NothingLeft; plan = r }

-- the source's next action once its guest is paused
unfoldable pub last_next_of : Plan → LastTurn
last_next_of r = with_last r (last_found r)

-- the plan with these pages reported lost
abbrev pub lost : List Bool → Plan → Plan
lost pages r = record r { to_fix = union r.to_fix pages }

-- a page is to be copied, and no copy number is left for it
abbrev pub is_spent : Next → Bool
is_spent next.SeqSpent = true
is_spent answer = false

-- a page of the paused guest is to be copied, and no copy number is left for it
abbrev pub is_last_spent : LastNext → Bool
is_last_spent last.SeqSpent = true
is_last_spent answer = false
