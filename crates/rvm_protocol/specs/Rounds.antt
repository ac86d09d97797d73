-- The source of a move: rounds of copies while the guest runs (pre-copy), then the last copies of
-- the paused guest (stop-and-copy). Each round sends the pages written during the one before, but
-- skips a page that was written again: it is in the writable working set, and waits for a later
-- round (Clark and others, 3.2, 4.1 and 5.4).
use Rattle.std.specs.Prelude.{ℕ, suc, ◌-◌, ◌*◌, ◌/◌, ◌%◌, Bool, true, false, not, ◌&&◌, ◌||◌, ◌==◌, if◌then◌else◌, nat_lt, nat_le, List, length, get_or}
use Rattle.std.specs.declared.option.Option.{Option}
use Rattle.rvm_protocol.specs.Guest.{Guest}
use Rattle.rvm_protocol.specs.Commands.{Policy}
use Rattle.rvm_protocol.specs.Pages.{Pages, none, put, least, size, listed}

-- the source while the guest runs
pub record Rounds (S : Type 0) : Type 0 where
  pub guest : S
  pub policy : Policy
  -- the pages of this round
  pub to_send : Pages
  -- the dirty log: the pages written since it was last emptied
  pub log : Pages
  -- the dirty log as it was last peeked at
  pub to_skip : Pages
  -- the next page to look at
  pub scan : ℕ
  -- the number of each page's newest copy, 0 for none
  pub newest : ℕ → ℕ
  -- the copies made in this move, the number of the round, and the copies made in it
  pub copies : ℕ
  pub round : ℕ
  pub sent : ℕ
  -- the stop rule said yes
  pub stop : Bool

-- the source once the guest is paused
pub record Last (S : Type 0) : Type 0 where
  pub guest : S
  pub to_send : Pages
  -- pages that the target reported lost
  pub to_fix : Pages
  pub newest : ℕ → ℕ
  pub copies : ℕ
  -- the piece of the state that is sent next; the first again after each copy
  pub turn : ℕ

-- the scan skips page p if the dirty log had it at the peek. The copy that first looks at one of a block of 64 pages
-- peeks for the whole block
abbrev pub is_skipped : {S : Type 0} → Rounds S → Pages
is_skipped r p =
    if not (r.scan % 64 == 0) && (p / 64 == r.scan / 64) then r.to_skip p else r.log p

module _ {S P E A B : Type 0} (m : Guest S P E A B) where
  -- the number of a guest's pages
  abbrev pub page_count : S → ℕ
  page_count g = length (m.pages g)

  -- page p of a guest, zeros past the last one
  abbrev pub page_of : S → ℕ → P
  page_of g p = get_or (m.pages g) p m.zeros

  -- the first round: every page is to be sent
  abbrev pub opened : S → Policy → Rounds S
  opened g p =
      record {
        guest = g;
        policy = p;
        to_send = λ q. nat_lt q (page_count g);
        log = none;
        to_skip = none;
        scan = 0;
        newest = λ q. 0;
        copies = 0;
        round = 1;
        sent = 0;
        stop = false;
      }

  -- the page that this round copies next
  abbrev pub next_page : Rounds S → Option ℕ
  next_page r =
      least (λ p. r.to_send p && not (is_skipped r p)) r.scan (page_count r.guest - r.scan)

  -- the stop rule
  abbrev pub stops : Rounds S → Bool
  stops r =
      nat_le r.policy.max_rounds r.round
      || nat_lt (size r.log (page_count r.guest)) r.policy.min_left
      || nat_lt (r.policy.factor * page_count r.guest) r.copies

  -- page p is sent: its copy gets the next number, and the scan goes on after the page
  abbrev pub page_copied : Rounds S → ℕ → Rounds S
  page_copied r p =
      record r {
        to_skip = λ q. (q / 64 == p / 64) && is_skipped r q;
        scan = suc p;
        newest = put r.newest p (suc r.copies);
        copies = suc r.copies;
        sent = suc r.sent;
      }

  -- the next round begins: its pages are those of the dirty log
  abbrev pub next_round : Rounds S → Rounds S
  next_round r =
      record r {
        to_send = r.log;
        log = none;
        to_skip = none;
        scan = 0;
        round = suc r.round;
        sent = 0;
      }

  -- the stop rule said yes: the dirty log goes on until the guest is paused
  abbrev pub round_over : Rounds S → Rounds S
  round_over r = record r { to_skip = none; scan = page_count r.guest; stop = true }

  -- the guest is paused: the pages of the dirty log are the last round's
  abbrev pub stopped : Rounds S → Last S
  stopped r =
      record {
        guest = r.guest;
        to_send = r.log;
        to_fix = none;
        newest = r.newest;
        copies = r.copies;
        turn = 0;
      }

  -- the lowest page that is still to be copied
  abbrev pub to_copy : Last S → Option ℕ
  to_copy l = least (λ p. l.to_send p || l.to_fix p) 0 (page_count l.guest)

  -- page p of the paused guest is sent: nothing of it is left to copy, and the first piece of the state is due again
  abbrev pub last_copied : Last S → ℕ → Last S
  last_copied l p =
      record l {
        to_send = put l.to_send p false;
        to_fix = put l.to_fix p false;
        newest = put l.newest p (suc l.copies);
        copies = suc l.copies;
        turn = 0;
      }

  -- the number of each page's newest copy
  abbrev pub newest_numbers : Last S → List ℕ
  newest_numbers l = listed l.newest 0 (page_count l.guest)

  -- the pieces of the paused guest's state
  abbrev pub pieces_of : Last S → List (List ℕ)
  pieces_of l = m.cut (newest_numbers l) (m.body l.guest)

  -- a piece was sent: the next one is due, the first again after the last
  abbrev pub next_turn : Last S → Last S
  next_turn l =
      record l {
        turn = if nat_lt (suc l.turn) (length (pieces_of l)) then suc l.turn else 0;
      }
