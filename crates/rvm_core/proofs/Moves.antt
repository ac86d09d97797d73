-- Driven moves, by the laws of live migration.
use Rattle.std.proofs.Common.{◌≡◌, ℕ, suc, ◌+◌, ◌*◌, ◌<◌, ◌≤◌, ◌==◌, nat_lt, Bool, true, false, if◌then◌else◌, List, [], ◌∷◌, ◌++◌, length, Option, Some, None, refl, sym, ap, ◌∙◌, subst, arith, append_assoc}
use Rattle.std.proofs.lemmas.Bool.{eqb-true, lt-ltb}
use Rattle.std.proofs.lemmas.Bool.Decides.{nat_tests}
use Rattle.std.proofs.lemmas.List.{length-append}
use Rattle.rvm_codec.specs.Numbers.{within}
use Rattle.rvm_board.specs.declared.event.BoardEvent.{BoardEvent}
use Rattle.rvm_board.specs.declared.event.BoardEvent.TheVariants.{Step}
use Rattle.rvm_board.specs.declared.event.BoardReply.{BoardReply}
use Rattle.rvm_board.specs.Guest.{Guest}
use Rattle.rvm_guest.proofs.Joined.{length_pages}
use Rattle.rvm_guest.proofs.Staying.{valid_is}
use Rattle.rvm_guest.proofs.TheGuest.{board_laws}
use Rattle.rvm_guest.specs.TheGuest.{board}
use Rattle.rvm_guest.specs.Pages.{count_of}
use Rattle.rvm_guest.specs.Valid.{is_valid}
use Rattle.rvm_message.specs.Answers.{BoardMode}
use Rattle.rvm_protocol.proofs.DrivenMoveHolds.{declined_law, drive_law}
use Rattle.rvm_protocol.proofs.OneGuestHolds.{the_law}
use Rattle.rvm_protocol.specs.Commands.{Begin, Board, Copy, Do, HostEvent, Policy}
use Rattle.rvm_protocol.specs.DrivenMove.{ADrivenMoveArrives, ATooLargeGuestIsDeclined, Arrives, IsDeclined, arrival_replies, drive, drive_opening, drive_replies, state_frames, state_replies}
use Rattle.rvm_protocol.specs.Frames.{is_compact}
use Rattle.rvm_protocol.specs.Host.{obey_at}
use Rattle.rvm_protocol.specs.Modes.{Run, guest_in}
use Rattle.rvm_protocol.specs.NeverMoving.{accepted, fold}
use Rattle.rvm_protocol.specs.OneGuest.{AlwaysOneGuest, OneGuest}
use Rattle.rvm_protocol.specs.Pages.{listed}
use Rattle.rvm_protocol.specs.Replies.{Accepted, Answered, BadHost, Begun, Committed, Copied, Finished, NotHere, Noted, Open, PartSent, Paused, Refused, Reply, RoundEnded, StartedHere, StateSent, Stopping, Stored}
use Rattle.rvm_protocol.specs.Rounds.{page_count}
use Rattle.rvm_protocol.specs.Told.{Told, at_start, told}
use Rattle.rvm_protocol.specs.World.{At, Deliver, Event, happened, history, meaning, mode_at, new_world, reply_or, reply_to, run, step}
use Rattle.rvm_core.specs.Driving.{CanBegin, drive_of}
use Rattle.rvm_core.specs.Phases.{copies, deliveries, sending, sending_replies}
use Rattle.rvm_core.specs.NeverMoved.{BoardEntry}
use Rattle.rvm_core.specs.Worlds.{BoardWorld, IsReached}
use Rattle.rvm_core.proofs.Drives.{listed_last, listed_length}
use Rattle.rvm_core.proofs.NeverMoving.{allowed}

-- A GUEST THAT RUNS IN A WORLD THAT WAS REACHED

some_is : {X : Type 0} (x y : X) → Some x ≡ Some y → x ≡ y
some_is x y h = cc

fold_valid : (g : Guest) (es : List BoardEvent) → board.valid g ≡ true → board.valid (fold board g es) ≡ true
unfolding fold
fold_valid g [] valid = valid
fold_valid g (e ∷ es) valid = fold_valid (board.next g e) es (board_laws.stays g e valid)

-- a host that answers is the current one
is_here : (there here paused waits : Bool) (a b : BoardReply)
    → Answered b ≡ (if there then (if here then (if paused then Refused Paused else Answered a)
    else (if waits then Refused Paused else Refused NotHere)) else Refused BadHost)
    → here ≡ true
is_here there true paused waits a b h = refl
is_here true false true waits a b h = is_not waits h
  where
    is_not : (waits : Bool)
        → Answered b ≡ (if waits then Refused Paused else Refused NotHere) → false ≡ true
    is_not true h = cc
    is_not false h = cc
is_here true false false true a b h = cc
is_here true false false false a b h = cc
is_here false false paused waits a b h = cc

answers : (w : BoardWorld) (x e : ℕ) (g : Guest) → nat_lt x w.count ≡ true → mode_at board w x ≡ Run e g
    → reply_to board w (At x (Board (Step 0))) ≡ Answered (board.answer g (Step 0))
answers w x e g here is =
    ap (λ (b : Bool). reply_or board w (Refused BadHost) (if b then Some (x, Do (Board (Step 0))) else None)) here
    ∙ ap (λ (z : BoardMode). (obey_at board w.version x w.count (Board (Step 0)) z).reply) is

one_runs : (t : Told Guest) (w : BoardWorld) (past : List BoardEntry) (x e : ℕ) (g : Guest) → OneGuest board t w past
    → x < w.count → mode_at board w x ≡ Run e g → g ≡ fold board t.guest (accepted past)
one_runs t w past x e g one here is =
    let now = told board t past in
    let current : x ≡ now.current =
    eqb-true x now.current
    (is_here (nat_lt x w.count) (x == now.current) now.paused (now.waiting x) (board.answer now.guest (Step 0))
    (board.answer g (Step 0))
    (sym (answers w x e g (lt-ltb x w.count here) is) ∙ one.replies x (Step 0)))
    in
    some_is g (fold board t.guest (accepted past))
    (ap guest_in (sym is) ∙ ap (λ z. guest_in (mode_at board w z)) current ∙ one.board)

pub runs_valid : (w : BoardWorld) (x e : ℕ) (g : Guest) → IsReached w → x < w.count → mode_at board w x ≡ Run e g
    → board.valid g ≡ true
unfolding AlwaysOneGuest
runs_valid w x e g r here is =
    let valid = allowed r.start r.valid in
    let w0 = new_world board w.version 0 r.start w.count r.limits in
    let past = history board w0 r.before in
    let one = the_law board board_laws r.start w.version 0 w.count r.limits r.before valid in
    let same =
    one_runs (at_start 0 r.start) w past x e g (subst (λ z. OneGuest board (at_start 0 r.start) z past) (sym r.reached) one)
    here is
    in
    subst (λ z. board.valid z ≡ true) (sym same) (fold_valid r.start (accepted past) valid)

valid_board : (g : Guest) → board.valid g ≡ true → is_valid g ≡ true
unfolding board
valid_board g valid = valid

page_count_is : (g : Guest) → page_count board g ≡ count_of g
unfolding board
page_count_is g = length_pages (count_of g) g.board.shared.bytes

between : (n : ℕ) → within 1 4096 n ≡ true → (0 < n) × (n ≤ 4096)
between n h = (grind (arith, nat_tests, h), grind (arith, nat_tests, h))

pub has_pages : (g : Guest) → board.valid g ≡ true → (0 < page_count board g) × (page_count board g ≤ 4096)
has_pages g valid =
    subst (λ n. (0 < n) × (n ≤ 4096)) (sym (page_count_is g))
    (between (count_of g) (valid_is g (valid_board g valid)).count)

-- THE LAWS

run_limits : (events : List (Event BoardEvent)) (w : BoardWorld) → (run board w events).limits ≡ w.limits
unfolding run
run_limits [] w = refl
run_limits (e ∷ events) w = run_limits events (step board w e) ∙ kept (meaning board w e)
  where
    kept : (q : Option (ℕ × HostEvent (List ℕ) BoardEvent (List ℕ))) → (happened board w q).limits ≡ w.limits
    kept None = refl
    kept (Some y) = refl

limits_are : (w : BoardWorld) (r : IsReached w) → w.limits ≡ r.limits
limits_are w r =
    ap (λ (z : BoardWorld). z.limits) r.reached
    ∙ run_limits r.before (new_world board w.version 0 r.start w.count r.limits)

pub arrives : (w : BoardWorld) (from to : ℕ) (p : Policy) (e : ℕ) (g : Guest) → IsReached w
    → CanBegin w from to p e g → page_count board g ≤ w.limits to → Arrives board w from to e g (drive_of w from to p g)
unfolding ADrivenMoveArrives
arrives w from to p e g r can fits =
    let w0 = new_world board w.version 0 r.start w.count r.limits in
    let pages = has_pages g (runs_valid w from e g r can.here can.runs) in
    let most = pages.1 in
    subst (λ z. Arrives board z from to e g
    (drive from to p (length z.sent) (page_count board g) (state_frames board w.version g)))
    (sym r.reached)
    (drive_law board board_laws r.start g w.version 0 w.count r.limits r.before from to e p (allowed r.start r.valid)
    (ap (λ z. mode_at board z from) (sym r.reached) ∙ can.runs) can.number can.allowed can.here can.there
    (subst (λ z. page_count board g ≤ z to) (limits_are w r) fits) pages.0 (omega (arith, most)))

pub declines : (w : BoardWorld) (from to : ℕ) (p : Policy) (e : ℕ) (g : Guest) → IsReached w
    → CanBegin w from to p e g → w.limits to < page_count board g
    → IsDeclined board w from to e g (drive_opening from to p (length w.sent))
unfolding ATooLargeGuestIsDeclined
declines w from to p e g r can large =
    let w0 = new_world board w.version 0 r.start w.count r.limits in
    subst (λ z. IsDeclined board z from to e g (drive_opening from to p (length z.sent))) (sym r.reached)
    (declined_law board board_laws r.start g w.version 0 w.count r.limits r.before from to e p (allowed r.start r.valid)
    (ap (λ z. mode_at board z from) (sym r.reached) ∙ can.runs) can.number can.allowed can.here can.there
    (subst (λ z. z to < page_count board g) (limits_are w r) large))

-- a state takes at least one frame
pub some_frame : (version : ℕ) (g : Guest) → 0 < state_frames board version g
some_frame version g = either (is_compact version)
  where
    either : (b : Bool)
        → 0 < (if b then length (board.cut (listed suc 0 (page_count board g)) (board.body g)) else 1)
    either true = board_laws.some_piece (listed suc 0 (page_count board g)) (board.body g)
    either false = omega arith

pub state_length : (version : ℕ) (g : Guest)
    → length (state_replies {A = BoardReply} version (state_frames board version g)) ≡ state_frames board version g
state_length version g =
    either (is_compact version) (length (board.cut (listed suc 0 (page_count board g)) (board.body g)))
  where
    either : (b : Bool) (n : ℕ)
        → length (if b then listed {V = Reply BoardReply} (λ i. PartSent i (if b then n else 1)) 0 (if b then n else 1)
        else StateSent ∷ []) ≡ (if b then n else 1)
    either true n = listed_length (λ i. PartSent i n) 0 n
    either false n = refl

-- THE EVENTS AND THEIR REPLIES, IN TWO PARTS

regroup : {X : Type 0} (o a b e f h : List X) (c d1 d2 : X)
    → o ++ a ++ c ∷ [] ++ b ++ d1 ∷ d2 ∷ [] ++ e ++ f ++ h
    ≡ o ++ ((a ++ c ∷ []) ++ ((b ++ d1 ∷ []) ++ (d2 ∷ (e ++ (f ++ h)))))
regroup o a b e f h c d1 d2 = simp append_assoc

last_three : (x y n : ℕ) → y ≡ x + n
    → listed {V = Event BoardEvent} (λ p. Deliver (x + p)) 0 n ++ Deliver y ∷ Deliver (y + 1) ∷ Deliver (y + 2) ∷ []
    ≡ deliveries x (n + 3)
last_three x y n is =
    let f : ℕ → Event BoardEvent = λ p. Deliver (x + p) in
    let three : suc (suc (suc n)) ≡ n + 3 = omega arith in
    let e0 : x + (0 + n) ≡ y = omega (arith, is) in
    let e1 : x + (0 + suc n) ≡ y + 1 = omega (arith, is) in
    let e2 : x + (0 + suc (suc n)) ≡ y + 2 = omega (arith, is) in
    let all : deliveries x (n + 3) ≡ listed f 0 n ++ Deliver y ∷ [] ++ Deliver (y + 1) ∷ [] ++ Deliver (y + 2) ∷ [] =
    ap (listed f 0) (sym three) ∙ listed_last f 0 (suc (suc n))
    ∙ ap (λ z. z ++ Deliver (x + (0 + suc (suc n))) ∷ []) (listed_last f 0 (suc n)
    ∙ ap (λ z. z ++ Deliver (x + (0 + suc n)) ∷ []) (listed_last f 0 n))
    ∙ (λ j. listed f 0 n ++ Deliver (e0 j) ∷ [] ++ Deliver (e1 j) ∷ [] ++ Deliver (e2 j) ∷ [])
    in
    sym (all ∙ append_assoc (listed f 0 n ++ Deliver y ∷ []) (Deliver (y + 1) ∷ []) (Deliver (y + 2) ∷ [])
    ∙ append_assoc (listed f 0 n) (Deliver y ∷ []) (Deliver (y + 1) ∷ Deliver (y + 2) ∷ []))

ends_of : (k n s : ℕ)
    → listed {V = Event BoardEvent} (λ i. Deliver (k + 3 + n + i)) 0 s
    ++ Deliver (k + 3 + n + s) ∷ Deliver (k + 4 + n + s) ∷ Deliver (k + 5 + n + s) ∷ []
    ≡ deliveries (k + 2 + n + 1) (s + 3)
ends_of k n s =
    let x : k + 3 + n ≡ k + 2 + n + 1 = omega arith in
    let y1 : k + 4 + n + s ≡ k + 3 + n + s + 1 = omega arith in
    let y2 : k + 5 + n + s ≡ k + 3 + n + s + 2 = omega arith in
    (λ j. listed {V = Event BoardEvent} (λ i. Deliver (k + 3 + n + i)) 0 s
    ++ Deliver (k + 3 + n + s) ∷ Deliver (y1 j) ∷ Deliver (y2 j) ∷ [])
    ∙ last_three (k + 3 + n) (k + 3 + n + s) s refl ∙ ap (λ z. deliveries z (s + 3)) x

pub drive_is : (from to : ℕ) (p : Policy) (k n s : ℕ)
    → drive {E = BoardEvent} from to p k n s
    ≡ At from (Begin to p) ∷ Deliver k ∷ Deliver (k + 1) ∷ sending from (k + 2) n s
drive_is from to p k n s =
    let o : List (Event BoardEvent) = At from (Begin to p) ∷ Deliver k ∷ Deliver (k + 1) ∷ [] in
    let a : List (Event BoardEvent) = listed (λ q. At from Copy) 0 n in
    let b : List (Event BoardEvent) = listed (λ q. Deliver (k + 2 + q)) 0 n in
    let e : List (Event BoardEvent) = listed (λ q. At from Copy) 0 s in
    let f : List (Event BoardEvent) = listed (λ i. Deliver (k + 3 + n + i)) 0 s in
    let h : List (Event BoardEvent) =
    Deliver (k + 3 + n + s) ∷ Deliver (k + 4 + n + s) ∷ Deliver (k + 5 + n + s) ∷ []
    in
    let one : suc n ≡ n + 1 = omega arith in
    let here : 0 + n ≡ n = omega arith in
    let copied : a ++ At from Copy ∷ [] ≡ copies from (n + 1) =
    sym (listed_last (λ q. At from Copy) 0 n) ∙ ap (copies from) one
    in
    let came : b ++ Deliver (k + 2 + n) ∷ [] ≡ deliveries (k + 2) (n + 1) =
    ap (λ z. b ++ Deliver (k + 2 + z) ∷ []) (sym here) ∙ sym (listed_last (λ q. Deliver (k + 2 + q)) 0 n)
    ∙ ap (deliveries (k + 2)) one
    in
    regroup o a b e f h (At from Copy) (Deliver (k + 2 + n)) (At from Copy)
    ∙ (λ j. o ++ (copied j ++ (came j ++ (At from Copy ∷ (e ++ ends_of k n s j)))))

pub replies_are : (version e n s : ℕ)
    → drive_replies {A = BoardReply} version e n s
    ≡ Begun e ∷ Accepted ∷ Open ∷ sending_replies version e n s
replies_are version e n s =
    regroup (Begun e ∷ Accepted ∷ Open ∷ []) (listed (λ p. Copied p (suc p)) 0 n) (listed (λ p. Stored p (suc p)) 0 n)
    (state_replies version s) (arrival_replies version s) (Committed e ∷ StartedHere ∷ Finished ∷ [])
    (RoundEnded 1 n 0 0) Noted Stopping

pub drive_length : (from to : ℕ) (policy : Policy) (k n s : ℕ)
    → length (drive {E = BoardEvent} from to policy k n s) ≡ 2 * n + 9 + 2 * s
drive_length from to policy k n s =
    let a : List (Event BoardEvent) = At from (Begin to policy) ∷ Deliver k ∷ Deliver (k + 1) ∷ [] in
    let b : List (Event BoardEvent) = listed (λ p. At from Copy) 0 n in
    let c : List (Event BoardEvent) = At from Copy ∷ [] in
    let d : List (Event BoardEvent) = listed (λ p. Deliver (k + 2 + p)) 0 n in
    let e : List (Event BoardEvent) = Deliver (k + 2 + n) ∷ At from Copy ∷ [] in
    let f : List (Event BoardEvent) = listed (λ i. At from Copy) 0 s in
    let g : List (Event BoardEvent) = listed (λ i. Deliver (k + 3 + n + i)) 0 s in
    let h : List (Event BoardEvent) =
    Deliver (k + 3 + n + s) ∷ Deliver (k + 4 + n + s) ∷ Deliver (k + 5 + n + s) ∷ []
    in
    let lb : length b ≡ n = listed_length (λ p. At from Copy) 0 n in
    let ld : length d ≡ n = listed_length (λ p. Deliver (k + 2 + p)) 0 n in
    let lf : length f ≡ s = listed_length (λ i. At from Copy) 0 s in
    let lg : length g ≡ s = listed_length (λ i. Deliver (k + 3 + n + i)) 0 s in
    let s1 = length-append a b in
    let s2 = length-append (a ++ b) c in
    let s3 = length-append (a ++ b ++ c) d in
    let s4 = length-append (a ++ b ++ c ++ d) e in
    let s5 = length-append (a ++ b ++ c ++ d ++ e) f in
    let s6 = length-append (a ++ b ++ c ++ d ++ e ++ f) g in
    let s7 = length-append (a ++ b ++ c ++ d ++ e ++ f ++ g) h in
    let all : length (a ++ b ++ c ++ d ++ e ++ f ++ g ++ h) ≡ 2 * n + 9 + 2 * s = omega
    (arith, lb, ld, lf, lg, s1, s2, s3, s4, s5, s6, s7) in
    all
