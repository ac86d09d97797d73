-- What drains took is written in order.
use Rattle.std.proofs.Common.{◌≡◌, ◌∙◌, ℕ, List, [], ◌∷◌, ◌++◌, append-nil, Option, None, Some, ap, refl, subst, sym}
use Rattle.std.proofs.lemmas.List.Concat.{flat_map-append}
use Rattle.std.proofs.lemmas.List.Elements.{All-head, All-tail}
use Rattle.std.specs.Io.KnownBytes.{Appends, Keeps}
use Rattle.std.specs.List.{All}
use Rattle.rvm_board.specs.declared.event.BoardEvent.TheVariants.{Drain}
use Rattle.rvm_board.specs.declared.event.BoardReply.TheVariants as answer
use Rattle.rvm_station.proofs.Asked.{both_answered, none_answered}
use Rattle.rvm_station.specs.Asked.{Answers, AreAllOf, AreAnswered, IsTurn}
use Rattle.rvm_message.specs.declared.event.Command.TheVariants.{Board}
use Rattle.rvm_message.specs.declared.event.HostEvent.{HostEvent}
use Rattle.rvm_message.specs.declared.event.HostEvent.TheVariants.{Do}
use Rattle.rvm_message.specs.declared.reply.HostReply.{HostReply}
use Rattle.rvm_message.specs.declared.reply.HostReply.TheVariants as reply
use Rattle.rvm_message.specs.Exchanges.{PlainExchange, exchange}
use Rattle.rvm_link.proofs.Pieces.{both_added}
use Rattle.rvm_station.specs.Console.{IsInput, IsShown, all_taken}
use Rattle.rvm_message.specs.Taken.{bytes_in, taken_by}

none_added : (bytes : Option (List ℕ)) → Appends bytes bytes []
none_added None = tt
none_added (Some xs) = sym (append-nil xs)

kept_added : (before mid now : Option (List ℕ)) (xs : List ℕ) → Appends before mid xs → Keeps mid now → Appends before now xs
kept_added None mid now xs a same = tt
kept_added (Some b) None now xs a same = absurd a
kept_added (Some b) (Some m) None xs a same = absurd same
kept_added (Some b) (Some m) (Some n) xs a same = same ∙ a

-- a reply without bytes
pub no_bytes : (r : HostReply) → ((bytes : List ℕ) → r ≡ reply.Board (answer.Bytes bytes) → ⊥) → bytes_in r ≡ []
no_bytes (reply.Board (answer.Bytes bytes)) other = absurd (other bytes refl)
no_bytes (reply.Board answer.Retired) other = refl
no_bytes (reply.Board (answer.Trapped why)) other = refl
no_bytes (reply.Board (answer.Interrupted why)) other = refl
no_bytes (reply.Board (answer.Halted status)) other = refl
no_bytes (reply.Board (answer.Break pc)) other = refl
no_bytes (reply.Board answer.Done) other = refl
no_bytes (reply.Board (answer.Regs values)) other = refl
no_bytes (reply.Board (answer.Line address word)) other = refl
no_bytes (reply.Board (answer.Refused why)) other = refl
no_bytes (reply.Begun n) other = refl
no_bytes (reply.Copied page number) other = refl
no_bytes (reply.RoundEnded round sent skipped left) other = refl
no_bytes reply.Stopping other = refl
no_bytes reply.StateSent other = refl
no_bytes (reply.PartSent part parts) other = refl
no_bytes reply.Resent other = refl
no_bytes reply.Aborted other = refl
no_bytes reply.Open other = refl
no_bytes (reply.MoveDeclined limit) other = refl
no_bytes (reply.Fixing count) other = refl
no_bytes (reply.Committed n) other = refl
no_bytes reply.Finished other = refl
no_bytes reply.Accepted other = refl
no_bytes (reply.Declined limit) other = refl
no_bytes (reply.Stored page number) other = refl
no_bytes reply.Noted other = refl
no_bytes (reply.Kept part parts) other = refl
no_bytes (reply.Lacking count) other = refl
no_bytes reply.ReadySent other = refl
no_bytes reply.Started other = refl
no_bytes reply.Dropped other = refl
no_bytes (reply.Refused why) other = refl

-- events of a kind that takes nothing take nothing
all_nothing : (Kind : HostEvent → Type 0) → ((event : HostEvent) (r : HostReply) → Kind event → taken_by event r ≡ [])
    → (xs : List PlainExchange) → All (λ x. Kind x.event) xs → all_taken xs ≡ []
all_nothing Kind none [] all = refl
all_nothing Kind none (x ∷ xs) all =
    let first = none x.event x.reply (All-head (λ (y : PlainExchange). Kind y.event) x xs all) in
    let behind = all_nothing Kind none xs (All-tail (λ (y : PlainExchange). Kind y.event) x xs all) in
    ap (λ (l : List ℕ). l ++ all_taken xs) first ∙ behind

step_takes_nothing : (event : HostEvent) (r : HostReply) → IsTurn event → taken_by event r ≡ []
step_takes_nothing event r (hart, is) = subst (λ e. taken_by e r ≡ []) (sym is) refl

input_takes_nothing : (event : HostEvent) (r : HostReply) → IsInput event → taken_by event r ≡ []
input_takes_nothing event r (byte, is) = subst (λ e. taken_by e r ≡ []) (sym is) refl

module _ (gave : Answers) where
  -- nothing was asked
  pub none_shown : (asked : Option (List PlainExchange)) (bytes : Option (List ℕ)) → IsShown gave asked asked bytes bytes
  none_shown asked bytes = record { exchanges = []; answered = none_answered gave asked; written = none_added bytes }

  pub nothing_shown : (asked_before asked_now : Option (List PlainExchange)) (bytes : Option (List ℕ))
      → AreAnswered gave asked_before asked_now [] → IsShown gave asked_before asked_now bytes bytes
  nothing_shown asked_before asked_now bytes answered = record { exchanges = []; answered = answered; written = none_added bytes }

  -- one drain was asked for
  pub one_shown : (asked_before asked_now : Option (List PlainExchange)) (before now : Option (List ℕ)) (count : ℕ) (r : HostReply)
      → AreAnswered gave asked_before asked_now (exchange (Do (Board (Drain count))) r ∷ [])
      → Appends before now (bytes_in r) → IsShown gave asked_before asked_now before now
  one_shown asked_before asked_now before now count r answered added = record {
    exchanges = exchange (Do (Board (Drain count))) r ∷ [];
    answered = answered;
    written = subst (λ l. Appends before now l) (sym (append-nil (bytes_in r))) added;
  }

  pub no_bytes_shown : (asked_before asked_now : Option (List PlainExchange)) (bytes : Option (List ℕ)) (count : ℕ) (r : HostReply)
      → AreAnswered gave asked_before asked_now (exchange (Do (Board (Drain count))) r ∷ [])
      → ((taken : List ℕ) → r ≡ reply.Board (answer.Bytes taken) → ⊥) → IsShown gave asked_before asked_now bytes bytes
  no_bytes_shown asked_before asked_now bytes count r answered other =
      one_shown asked_before asked_now bytes bytes count r answered
      (subst (λ l. Appends bytes bytes l) (sym (no_bytes r other)) (none_added bytes))

  -- events of a kind that takes nothing were asked for
  kind_shown : (Kind : HostEvent → Type 0) → ((event : HostEvent) (r : HostReply) → Kind event → taken_by event r ≡ [])
      → (asked_before asked_now : Option (List PlainExchange)) (bytes : Option (List ℕ))
      → AreAllOf Kind gave asked_before asked_now → IsShown gave asked_before asked_now bytes bytes
  kind_shown Kind none asked_before asked_now bytes all = record {
    exchanges = all.exchanges;
    answered = all.answered;
    written = subst (λ l. Appends bytes bytes l) (sym (all_nothing Kind none all.exchanges all.kind)) (none_added bytes);
  }

  -- something was shown, and then more
  pub shown_more : (asked_before asked_mid asked_now : Option (List PlainExchange)) (before mid now : Option (List ℕ))
      → IsShown gave asked_before asked_mid before mid → IsShown gave asked_mid asked_now mid now
      → IsShown gave asked_before asked_now before now
  shown_more asked_before asked_mid asked_now before mid now x y = record {
    exchanges = x.exchanges ++ y.exchanges;
    answered = both_answered gave asked_before asked_mid asked_now x.exchanges y.exchanges x.answered y.answered;
    written =
        subst (λ l. Appends before now l) (sym (flat_map-append (λ (z : PlainExchange). taken_by z.event z.reply) x.exchanges y.exchanges))
        (both_added before mid now (all_taken x.exchanges) (all_taken y.exchanges) x.written y.written);
  }

  -- turns were made, and then more was shown
  pub slice_shown : (asked_first asked_old asked_mid asked_new : Option (List PlainExchange)) (first old new : Option (List ℕ))
      → IsShown gave asked_first asked_old first old → AreAllOf IsTurn gave asked_old asked_mid
      → IsShown gave asked_mid asked_new old new → IsShown gave asked_first asked_new first new
  slice_shown asked_first asked_old asked_mid asked_new first old new before turns more =
      shown_more asked_first asked_mid asked_new first old new
      (shown_more asked_first asked_old asked_mid first old old before (kind_shown IsTurn step_takes_nothing asked_old asked_mid old turns))
      more

  -- something was shown, and then bytes were typed
  pub input_shown : (asked_first asked_old asked_new : Option (List PlainExchange)) (first now : Option (List ℕ))
      → IsShown gave asked_first asked_old first now → AreAllOf IsInput gave asked_old asked_new
      → IsShown gave asked_first asked_new first now
  input_shown asked_first asked_old asked_new first now before typed =
      shown_more asked_first asked_old asked_new first now now before
      (kind_shown IsInput input_takes_nothing asked_old asked_new now typed)

  -- something was shown, and nothing more was written
  pub shown_kept : (asked_before asked_now : Option (List PlainExchange)) (before mid now : Option (List ℕ))
      → IsShown gave asked_before asked_now before mid → Keeps mid now → IsShown gave asked_before asked_now before now
  shown_kept asked_before asked_now before mid now x same = record {
    exchanges = x.exchanges;
    answered = x.answered;
    written = kept_added before mid now (all_taken x.exchanges) x.written same;
  }
