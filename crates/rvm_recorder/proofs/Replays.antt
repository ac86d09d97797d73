-- One more entry: a journal stays a replay, and its host is the one that it leads to.
use Rattle.std.proofs.Common.{◌≡◌, ◌∙◌, ℕ, ◌-◌, ◌<◌, ◌≤◌, List, [], ◌∷◌, ◌++◌, length, length-append, Option, Some, None, refl, sym, ap, subst, arith}
use Rattle.rvm_host.specs.Bounds.{CanBePosted}
use Rattle.rvm_host.specs.Hosts.{PlainHost, Steps, host_of, step_of}
use Rattle.rvm_host.specs.Spelled.{AreSpelled}
use Rattle.rvm_frame.specs.declared.addressed.Addressed.{Addressed}
use Rattle.rvm_guest.specs.TheGuest.{board}
use Rattle.rvm_recorder.specs.Entries.{PlainEntry}
use Rattle.rvm_recorder.specs.History.{History, IsKept, IsRecorded, Recording, bytes_of, with_entries}
use Rattle.rvm_recorder.specs.Replay.{IsAnswered, IsReplay, IsReplayFrom, LawHost, Outcome, outcome_at, replay, replay_from}
use Rattle.rvm_message.specs.declared.event.HostEvent.{HostEvent}
use Rattle.rvm_message.specs.declared.reply.HostReply.{HostReply}
use Rattle.rvm_message.specs.Events.{event_of}
use Rattle.rvm_message.specs.Frames.{addressed_made}
use Rattle.rvm_message.specs.Replies.{reply_of}
use Rattle.rvm_protocol.specs.Host.{host_step}

-- the entry of an event that was answered
abbrev pub entry_of : (version : ℕ) → HostEvent → HostReply → Option Addressed → PlainEntry
entry_of version event reply frame = record { event = event; reply = reply; frame = bytes_of version frame }

-- the recorder with these entries alone
abbrev pub with_all : Recording → List PlainEntry → (reserved : ℕ) → Recording
with_all r xs n = record r { journal = record r.journal { entries = xs; reserved = n } }

-- what an event does after these entries
abbrev pub outcome_after : (o : PlainHost) → LawHost → List PlainEntry → HostEvent → Outcome
outcome_after o h xs e = outcome_at o (replay_from o h xs) (event_of e)

replay_push : (o : PlainHost) (h : LawHost) (xs : List PlainEntry) (x : PlainEntry)
    → replay_from o h (xs ++ x ∷ []) ≡ (outcome_after o h xs x.event).next
replay_push o h [] x = refl
replay_push o h (y ∷ xs) x = replay_push o (outcome_at o h (event_of y.event)).next xs x

is_replay_push : (o : PlainHost) (h : LawHost) (xs : List PlainEntry) (x : PlainEntry) → IsReplayFrom o h xs
    → IsAnswered o.version (outcome_after o h xs x.event) x → IsReplayFrom o h (xs ++ x ∷ [])
is_replay_push o h [] x all is = (is, tt)
is_replay_push o h (y ∷ xs) x all is =
    (all.0, is_replay_push o (outcome_at o h (event_of y.event)).next xs x all.1 is)

-- a frame that can be posted is spelled by the bytes that are kept of it
spelled : (host : PlainHost) (most : ℕ) (frame : Option Addressed) → CanBePosted host most frame
    → AreSpelled host.version (addressed_made frame) (bytes_of host.version frame)
spelled host most None so = tt
spelled host most (Some a) so = record { frame = a; is = refl; spells = (so.spelled, so.stands, refl) }

module _ (host next : PlainHost) (h : History) (capacity : ℕ) (event : HostEvent) (reply : HostReply)
    (frame : Option Addressed) (kept : IsKept host h capacity)
    (steps : Steps host (event_of event) (reply, frame) next) where
  -- the event does at the host what it does at the one that the journal leads to
  pub same_outcome : step_of host (event_of event) ≡ outcome_after h.opening (host_of h.opening) h.entries event
  same_outcome =
      ap (λ (x : PlainHost). host_step board x.version x.id x.count x.limit (event_of event) (host_of host)) kept.numbers
      ∙ ap (λ (x : LawHost). outcome_at h.opening x (event_of event)) kept.there

  same_version : host.version ≡ h.opening.version
  same_version = ap (λ (x : PlainHost). x.version) kept.numbers

  pub reply_is : reply_of reply ≡ (outcome_after h.opening (host_of h.opening) h.entries event).reply
  reply_is = steps.reply ∙ ap (λ (x : Outcome). x.reply) same_outcome

  pub made_is : addressed_made frame ≡ (outcome_after h.opening (host_of h.opening) h.entries event).made
  made_is = steps.made ∙ ap (λ (x : Outcome). x.made) same_outcome

  abbrev entry : PlainEntry
  entry = entry_of h.opening.version event reply frame

  -- the entry has the reply and the frame of the protocol
  answered : (most : ℕ) → CanBePosted host most frame
      → IsAnswered h.opening.version (outcome_after h.opening (host_of h.opening) h.entries event) entry
  answered most so = record {
    reply = reply_is;
    frame =
        subst (λ made. AreSpelled h.opening.version made (bytes_of h.opening.version frame)) made_is
        (subst (λ v. AreSpelled v (addressed_made frame) (bytes_of v frame)) same_version (spelled host most frame so));
  }

  module _ (new : List PlainEntry) (new_is : new ≡ h.entries ++ entry ∷ []) where
    pub replays : (most : ℕ) → CanBePosted host most frame → IsReplay h.opening h.entries → IsReplay h.opening new
    replays most so all =
        subst (IsReplay h.opening) (sym new_is)
        (is_replay_push h.opening (host_of h.opening) h.entries entry all (answered most so))

    pub still_kept : (left : ℕ) → left ≤ h.reserved - 1 → length h.entries < capacity
        → IsKept next (record { opening = h.opening; entries = new; reserved = left }) capacity
    still_kept left less room =
        let fits = kept.fits in
        let numbers = kept.numbers in
        record {
          numbers = steps.rest ∙ ap (λ (x : PlainHost). record x { mode = next.mode; partner = next.partner }) numbers;
          there = steps.next ∙ ap (λ (x : Outcome). x.next) same_outcome
              ∙ sym (replay_push h.opening (host_of h.opening) h.entries entry)
              ∙ ap (λ xs. replay h.opening xs) (sym new_is);
          fits = omega (arith, fits, less, room, ap length new_is, length-append h.entries (entry ∷ []));
        }

    -- the host and the journal so far
    abbrev before : Recording
    before = record { journal = h; capacity = capacity }

    abbrev after : ℕ → Recording
    after left = record { journal = record { opening = h.opening; entries = new; reserved = left }; capacity = capacity }

    pub is_recorded : (place left : ℕ) → place ≡ length h.entries → left ≡ h.reserved - 1 → place < capacity
        → IsRecorded before event (place, reply, frame) (after left)
    is_recorded place left place_is left_is room = record {
      place = place_is;
      reply = reply_is;
      frame = made_is;
      next = ap (λ xs. with_all before xs left) new_is ∙ ap (λ n. with_entries before (entry ∷ []) n) left_is;
      room = omega (arith, place_is, room);
    }
