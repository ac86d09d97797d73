-- The last calls of the copier and of receivers tell how these ended, and stand in the journal.
use Rattle.std.proofs.Common.{◌≡◌, ℕ, zero, suc, ◌-◌, Bool, true, false, ◌||◌, List, [], ◌∷◌, ◌++◌, append-nil, length, Option, None, Some, inl, inr, refl, sym, ap, subst, arith}
use Rattle.std.proofs.lemmas.List.Elements.{Contains-append_left, Contains-append_right}
use Rattle.std.proofs.lemmas.List.Sorted.{Contains-permutation}
use Rattle.std.specs.List.{All, Contains}
use Rattle.std.specs.Prelude.{Any, IsSomeAnd, option_map, slice_get, unwrap_or}
use Rattle.rvm_recorder.specs.Receipts.{PlainReceipt}
use Rattle.rvm_recorder.specs.Entries.{PlainEntry, exchange_of}
use Rattle.rvm_message.specs.Exchanges.{PlainExchange, exchange}
use Rattle.rvm_cell.specs.Calls.{is_of_run}
use Rattle.rvm_move.proofs.Guests.{all_asked, head_in, tail_in}
use Rattle.rvm_move.specs.Ends.{IsCopiedEnd, IsHeardEnd, TellsEnd, fails_copying, tells_end}
use Rattle.rvm_move.specs.Hosts.{AreAll, IsReceivedAtB}
use Rattle.rvm_cell.specs.declared.end.WorkEnd.{WorkEnd}
use Rattle.rvm_cell.specs.declared.end.WorkEnd.TheVariants.{BadFrame, Done, Failed, GivenUp, GuestStopped, LinkEnded, LinkFault, NoThread, OutOfMemory, OutOfRange, RecorderFull, Stopped, TooLong}
use Rattle.rvm_cell.specs.Endings.{IsCopierEnd, last_of, tells_done, tells_given_up, tells_left}
use Rattle.rvm_cell.specs.Heard.{IsReceiverEnd, frames_in}
use Rattle.rvm_cell.specs.Next.{ends_hearing}

abbrev exchange_by : PlainReceipt → PlainExchange
exchange_by r = exchange r.event r.reply

-- THE LAST CALL

in_at : {X : Type 0} (xs : List X) (k : ℕ) (x : X) → slice_get xs k ≡ Some x → Contains xs x
in_at [] k x is = absurd cc
in_at (y ∷ xs) zero x is = subst (Contains (y ∷ xs)) (ap (λ o. unwrap_or o y) is) (head_in y xs)
in_at (y ∷ xs) (suc k) x is = tail_in y x xs (in_at xs k x is)

module _ (Q : PlainExchange → Type 0) where
  -- one of these receipts has this property
  abbrev HasReceipt : List PlainReceipt → Type 0
  HasReceipt rs = (r : PlainReceipt) × Contains rs r × Q (exchange_by r)

  last_at : (rs : List PlainReceipt) (k : ℕ) (o : Option PlainReceipt) → slice_get rs k ≡ o → IsSomeAnd (option_map exchange_by o) Q
      → HasReceipt rs
  last_at rs k None at is = absurd is
  last_at rs k (Some r) at is = (r, in_at rs k r at, is)

  last_is : (rs : List PlainReceipt) → IsSomeAnd (last_of rs) Q → HasReceipt rs
  last_is rs is = last_at rs (length rs - 1) (slice_get rs (length rs - 1)) refl is

  -- AND ITS ENTRY

  entry_at : (es : List PlainEntry) (rs : List PlainReceipt) → length rs ≡ length es
      → ((k : ℕ) (r : PlainReceipt) (e : PlainEntry) → slice_get rs k ≡ Some r → slice_get es k ≡ Some e → r.event ≡ e.event)
      → ((k : ℕ) (r : PlainReceipt) (e : PlainEntry) → slice_get rs k ≡ Some r → slice_get es k ≡ Some e → r.reply ≡ e.reply)
      → (r : PlainReceipt) → Contains rs r → Q (exchange_by r) → Any (λ e. Q (exchange_of e)) es
  entry_at es [] len event reply r (k, lt, is) q = absurd (omega (arith, lt))
  entry_at [] (s ∷ rs) len event reply r c q = absurd (omega (arith, len))
  entry_at (e ∷ es) (s ∷ rs) len event reply r (zero, lt, is) q =
      let here : Q (exchange_by s) = subst (λ x. Q (exchange_by x)) (sym is) q in
      let ev = event zero s e refl refl in
      let re = reply zero s e refl refl in
      (zero, e, omega arith, refl, subst Q (λ i. exchange (ev i) (re i)) here)
  entry_at (e ∷ es) (s ∷ rs) len event reply r (suc k, lt, is) q =
      let rest = entry_at es rs (omega (arith, len)) (λ j x f a b. event (suc j) x f a b) (λ j x f a b. reply (suc j) x f a b)
      r (k, omega (arith, lt), is) q in
      let below = rest.2 in
      (suc rest.0, rest.1, omega arith, rest.3, rest.4)

  -- what a receipt tells stands in the journal
  told_of : (entries : List PlainEntry) (receipts : List PlainReceipt) → AreAll entries receipts → (r : PlainReceipt)
      → Contains receipts r → Q (exchange_by r) → Any (λ e. Q (exchange_of e)) entries
  told_of entries receipts all r c q =
      let ordered = all.closed.ordered in
      let journal = all.closed.journal in
      entry_at entries ordered journal.len journal.event journal.reply r (Contains-permutation receipts ordered r all.closed.same c) q

-- HOW THE COPIER ENDED

module _ (entries : List PlainEntry) (turns copier heard : List PlainReceipt) (all : AreAll entries (turns ++ (copier ++ heard))) where
  by_copier : (Q : PlainExchange → Type 0) → IsSomeAnd (last_of copier) Q → Any (λ e. Q (exchange_of e)) entries
  by_copier Q is =
      let last = last_is Q copier is in
      told_of Q entries (turns ++ (copier ++ heard)) all last.0
      (Contains-append_right turns (copier ++ heard) last.0 (Contains-append_left copier heard last.0 last.1)) last.2

  pub copier_ended : (end : WorkEnd) → IsCopierEnd end (last_of copier) → IsCopiedEnd end entries
  copier_ended Done is = by_copier (λ x. tells_done x ≡ true) is
  copier_ended GivenUp is = by_copier (λ x. tells_given_up x ≡ true) is
  copier_ended LinkFault is = by_copier (λ x. tells_left x ≡ true) is
  copier_ended LinkEnded is = is
  copier_ended Stopped is = is
  copier_ended GuestStopped is = is
  copier_ended NoThread is = is
  copier_ended OutOfMemory is = is
  copier_ended (RecorderFull n) is = is
  copier_ended OutOfRange is = is
  copier_ended BadFrame is = is
  copier_ended TooLong is = is
  copier_ended Failed is = is

-- HOW A RECEIVER ENDED

module _ (bytes : Option (List ℕ)) (entries : List PlainEntry) (others heard : List PlainReceipt) (all : AreAll entries (others ++ heard)) where
  by_receiver : IsSomeAnd (last_of heard) (λ x. ends_hearing x.reply ≡ true) → Any (λ e. ends_hearing e.reply ≡ true) entries
  by_receiver is =
      let Q : PlainExchange → Type 0 = λ x. ends_hearing x.reply ≡ true in
      let last = last_is Q heard is in
      told_of Q entries (others ++ heard) all last.0 (Contains-append_right others heard last.0 last.1) last.2

  pub receiver_ended : (from to : ℕ) (end : WorkEnd) → IsReceiverEnd from to end (last_of heard) bytes (frames_in heard) → IsHeardEnd end entries
  receiver_ended from to Done is = by_receiver is
  receiver_ended from to LinkEnded is = refl
  receiver_ended from to GivenUp is = is
  receiver_ended from to Stopped is = is
  receiver_ended from to GuestStopped is = is
  receiver_ended from to NoThread is = absurd cc
  receiver_ended from to OutOfMemory is = is
  receiver_ended from to (RecorderFull n) is = is
  receiver_ended from to OutOfRange is = is
  receiver_ended from to LinkFault is = is
  receiver_ended from to BadFrame is = is
  receiver_ended from to TooLong is = is
  receiver_ended from to Failed is = is

  -- the receiver at the second host
  pub second_ended : (end : WorkEnd) → All (λ r. is_of_run r.event ≡ true) others → IsReceivedAtB bytes end heard
      → IsHeardEnd end entries
  second_ended end turns (inl none) =
      subst (λ e. IsHeardEnd e entries) (sym none.0)
      (all_asked (λ e. is_of_run e ≡ true) entries (others ++ heard) all
      (subst (λ l. All (λ r. is_of_run r.event ≡ true) (others ++ l)) (sym none.1)
      (subst (λ l. All (λ r. is_of_run r.event ≡ true) l) (sym (append-nil others)) turns)))
  second_ended end turns (inr received) = receiver_ended 0 1 end received.ended

-- WHAT IT TELLS

any_weaker : (P Q : PlainEntry → Type 0) → ((e : PlainEntry) → P e → Q e) → (es : List PlainEntry) → Any P es → Any Q es
any_weaker P Q f es any = (any.0, any.1, any.2, any.3, f any.1 any.4)

either_left : (x y : Bool) → x ≡ true → (x || y) ≡ true
either_left true y is = refl
either_left false y is = absurd cc

either_right : (x y : Bool) → y ≡ true → (x || y) ≡ true
either_right true y is = refl
either_right false y is = is

-- a copier that came to its end with the move was told that it is over
pub move_is_over : (end : WorkEnd) (entries : List PlainEntry) → IsCopiedEnd end entries → fails_copying end ≡ false → TellsEnd entries
move_is_over Done entries is ends =
    any_weaker (λ e. tells_done (exchange_of e) ≡ true) (λ e. tells_end (exchange_of e) ≡ true)
    (λ e told. either_left (tells_done (exchange_of e)) (tells_given_up (exchange_of e)) told) entries is
move_is_over GivenUp entries is ends =
    any_weaker (λ e. tells_given_up (exchange_of e) ≡ true) (λ e. tells_end (exchange_of e) ≡ true)
    (λ e told. either_right (tells_done (exchange_of e)) (tells_given_up (exchange_of e)) told) entries is
move_is_over LinkEnded entries is ends = absurd cc
move_is_over Stopped entries is ends = absurd cc
move_is_over GuestStopped entries is ends = absurd cc
move_is_over NoThread entries is ends = absurd cc
move_is_over OutOfMemory entries is ends = absurd cc
move_is_over (RecorderFull n) entries is ends = absurd cc
move_is_over OutOfRange entries is ends = absurd cc
move_is_over LinkFault entries is ends = absurd cc
move_is_over BadFrame entries is ends = absurd cc
move_is_over TooLong entries is ends = absurd cc
move_is_over Failed entries is ends = absurd cc
