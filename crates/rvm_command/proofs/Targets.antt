-- A host that reads a saved guest, frame by frame.
use Rattle.std.proofs.Common.{◌≡◌, inl, inr, ℕ, ◌-◌, ◌==◌, ◌<◌, ◌≤◌, ◌++◌, List, [], ◌∷◌, length, take, drop, Bool, true, false, if◌then◌else◌, Option, Some, None, Result, Ok, Err, IfErr, IfOk, OnOk, refl, sym, ap, ◌∙◌, subst, arith}
use Rattle.std.proofs.lemmas.Bool.{false≢true, ne_eqb}
use Rattle.std.proofs.lemmas.List.{length-drop, take_all}
use Rattle.rvm_board.specs.Guest.{Guest, GuestState}
use Rattle.rvm_frame.specs.declared.addressed.Addressed.{Addressed}
use Rattle.rvm_frame.specs.declared.fault.FrameFault.{FrameFault}
use Rattle.rvm_frame.specs.declared.fault.FrameFault.TheVariants as fault
use Rattle.rvm_frame.specs.declared.fault.ReadFault.TheVariants as read
use Rattle.rvm_frame.specs.Grammar.{Received, Spells}
use Rattle.rvm_frame.specs.Reader.{Faults, Gathered, at_start, next_of}
use Rattle.rvm_frame.specs.Verdict.{Decides, verdict}
use Rattle.rvm_guest.specs.TheGuest.{board}
use Rattle.rvm_host.specs.Hosts.{PlainHost, Steps, host_of, new_host, step_of}
use Rattle.rvm_host.specs.Modes.{PlainMode, Empty, Run, Leaving, Given, Staging, Held, mode_of}
use Rattle.rvm_host.specs.Statuses.{kind_of, phase_kind}
use Rattle.rvm_precopy.specs.Plans.{Plan}
use Rattle.rvm_source.specs.Sources.{mode_in}
use Rattle.rvm_source.specs.declared.phase.Phase.{Phase}
use Rattle.rvm_source.specs.declared.phase.Phase.TheVariants as phase
use Rattle.rvm_message.specs.declared.reply.HostReply.{HostReply}
use Rattle.rvm_message.specs.Frames.{frame_heard}
use Rattle.rvm_protocol.specs.Commands.{Came}
use Rattle.rvm_protocol.specs.Host.{host_step}
use Rattle.rvm_protocol.specs.Modes.{guest_in}
use Rattle.rvm_command.proofs.StreamsRead.{ended, ended_so, goes_on, refused, some_heard, starts, unfinished}
use Rattle.rvm_command.specs.Restoring.{IsRefused, IsTarget, IsToldOf, fault_of, is_running}
use Rattle.rvm_command.specs.Saved.{BoardHost, IsHeard, IsLeft, IsSavedGuest, Restores, after_received, guest_running}
use Rattle.rvm_command.specs.SentFrames.{running, waiting}
use Rattle.rvm_command.specs.Streams.{between}
use Rattle.rvm_command.specs.declared.saved_fault.RestoreFault.{RestoreFault}
use Rattle.rvm_command.specs.declared.saved_fault.RestoreFault.TheVariants.{OutOfMemory, Truncated}

-- what a frame does at a target is what the protocol says of host 1 of two
step_is : (h : PlainHost) (x : Received) → IsTarget h
    → (step_of h (Came 0 (frame_heard x.1))).next ≡ after_received x (host_of h)
step_is h x t =
    let e = Came 0 (frame_heard x.1) in
    ap (λ v. (host_step board v h.id h.count h.limit e (host_of h)).next) t.version
    ∙ ap (λ v. (host_step board 1 v h.count h.limit e (host_of h)).next) t.id
    ∙ ap (λ v. (host_step board 1 1 v h.limit e (host_of h)).next) t.count
    ∙ ap (λ v. (host_step board 1 1 2 v e (host_of h)).next) t.limit

pub still_target : (old new : PlainHost) (x : Received) (a : HostReply × Option Addressed) → IsTarget old
    → Steps old (Came 0 (frame_heard x.1)) a new → IsTarget new
still_target old new x a t s =
    record {
      id = ap (λ (h : PlainHost). h.id) s.rest ∙ t.id;
      count = ap (λ (h : PlainHost). h.count) s.rest ∙ t.count;
      limit = ap (λ (h : PlainHost). h.limit) s.rest ∙ t.limit;
      version = ap (λ (h : PlainHost). h.version) s.rest ∙ t.version;
    }

pub next_is : (old new : PlainHost) (x : Received) (a : HostReply × Option Addressed) → IsTarget old
    → Steps old (Came 0 (frame_heard x.1)) a new → host_of new ≡ after_received x (host_of old)
next_is old new x a t s = s.next ∙ step_is old x t

pub same_target : (old new : PlainHost) → new ≡ old → IsTarget old → IsTarget new
same_target old new same t = subst IsTarget (sym same) t

-- a frame was read, and came if there was memory for it
pub is_heard : (reader : Gathered) (left : List ℕ) (n : ℕ) (x : Received) (next : Gathered) (old new : PlainHost)
    (r : Result ℕ RestoreFault) → reader ≡ between reader.version
    → Decides reader.version reader.bytes left n (Ok (Some x)) → Spells reader.version (reader.bytes ++ take n left) x
    → next ≡ next_of reader left (Some x) → OnOk r (host_of new ≡ after_received x (host_of old))
    → IfOk r (λ k. k ≡ n) → IfOk r (λ k. IsHeard reader.version left (host_of old) k next (host_of new))
is_heard reader left n x next old new (Err f) clean d spells is step count = tt
is_heard reader left n x next old new (Ok k) clean d spells is step count =
    subst (λ (k : ℕ). IsHeard reader.version left (host_of old) k next (host_of new)) (sym count)
    (record {
      frame = x;
      within = d.within_piece;
      spells = subst (λ (b : List ℕ). Spells reader.version (b ++ take n left) x) (ap (λ (r : Gathered). r.bytes) clean) spells;
      reader_is = is ∙ ap (λ (r : Gathered). next_of r left (Some x)) clean;
      next_is = step;
    })

pub not_heard : (reader : Gathered) (left : List ℕ) (h : BoardHost) (r : Result ℕ RestoreFault)
    → IfErr r (λ f. f ≡ OutOfMemory) → IfErr r (IsRefused (Restores reader.version left h))
not_heard reader left h (Ok n) is = tt
not_heard reader left h (Err f) is = inl is

-- the next frame is refused
pub is_refused : (reader : Gathered) (left : List ℕ) (h : BoardHost) (f : FrameFault) → reader ≡ between reader.version
    → Faults reader left f → IsRefused (Restores reader.version left h) (fault_of f)
is_refused reader left h fault.OutOfMemory clean e = inl refl
is_refused reader left h fault.BadFrame clean e =
    let bytes = ap (λ (r : Gathered). r.bytes) clean in
    inr (λ g r. refused after_received guest_running reader.version left e.1.0 read.BadFrame h g
    (subst (λ b. Decides reader.version b left e.1.0 (Err read.BadFrame)) bytes e.1.1) r)
is_refused reader left h fault.TooLong clean e =
    let bytes = ap (λ (r : Gathered). r.bytes) clean in
    inr (λ g r. refused after_received guest_running reader.version left e.1.0 read.TooLong h g
    (subst (λ b. Decides reader.version b left e.1.0 (Err read.TooLong)) bytes e.1.1) r)
is_refused reader left h fault.Failed clean e =
    let unfailed : reader.failed ≡ false = ap (λ (r : Gathered). r.failed) clean in
    absurd (false≢true (sym unfailed ∙ e))

-- the bytes end inside a frame
pub is_cut : (reader : Gathered) (left : List ℕ) (n : ℕ) (h : BoardHost) → reader ≡ between reader.version
    → 0 < length left → Decides reader.version reader.bytes left n (Ok None)
    → IsRefused (Restores reader.version left h) Truncated
is_cut reader left n h clean some d =
    inr (λ g r.
    let bytes = ap (λ (r : Gathered). r.bytes) clean in
    let all : take n left ≡ left = take_all n left (let z = d.all_taken refl in omega (arith, z)) in
    let waits : verdict reader.version left ≡ Ok None =
    ap (verdict reader.version) (sym all)
    ∙ sym (ap (λ b. verdict reader.version (b ++ take n left)) bytes) ∙ d.decided in
    unfinished after_received guest_running reader.version left h g waits some r)

-- what was read so far
pub refused_all : (bytes : List ℕ) (v : Option ℕ) (left : List ℕ) (h : BoardHost) (f : RestoreFault)
    → IsLeft bytes v left h → IsRefused (Restores v left h) f → IsRefused (IsSavedGuest bytes) f
refused_all bytes v left h f on (inl out) = inl out
refused_all bytes v left h f on (inr none) = inr (λ g r. none g (on.whole g r))

pub all_left : (bytes : List ℕ) (h : BoardHost) → h ≡ waiting → IsLeft bytes None bytes h
all_left bytes h is = subst (IsLeft bytes None bytes) (sym is) (starts after_received guest_running waiting bytes)

pub more_left : (bytes : List ℕ) (v : Option ℕ) (left : List ℕ) (h : BoardHost) (n : ℕ) (reader : Gathered) (next : BoardHost)
    → IsLeft bytes v left h → IsHeard v left h n reader next → IsLeft bytes reader.version (drop n left) next
more_left bytes v left h n reader next on s =
    goes_on after_received guest_running waiting bytes v left h n reader next on s

pub still_between : (v : Option ℕ) (left : List ℕ) (h : BoardHost) (n : ℕ) (reader : Gathered) (next : BoardHost)
    → IsHeard v left h n reader next → reader ≡ between reader.version
still_between v left h n reader next s =
    s.reader_is ∙ ap (λ (r : Gathered). between r.version) (sym s.reader_is)

pub some_bytes : (v : Option ℕ) (left : List ℕ) (h : BoardHost) (n : ℕ) (reader : Gathered) (next : BoardHost)
    → IsHeard v left h n reader next → (0 < n) × (n ≤ length left)
some_bytes v left h n reader next s = some_heard after_received guest_running v left h n reader next s

pub none_left : (bytes : List ℕ) (v : Option ℕ) (left : List ℕ) (h : BoardHost) → IsLeft bytes v left h → left ≡ []
    → IsToldOf bytes h
none_left bytes v left h on none =
    record {
      sound = λ g made. ended after_received guest_running waiting bytes v left h g on none made;
      whole = λ g r. ended_so after_received guest_running waiting bytes v left h g on none r;
    }

-- the guest that runs in the end
pub restored : (bytes : List ℕ) (h : BoardHost) (r : Result GuestState RestoreFault) → IsToldOf bytes h
    → IfOk r (λ g. guest_running h ≡ Some g.guest) → IfOk r (λ g. IsSavedGuest bytes g.guest)
restored bytes h (Ok g) told is = told.sound g.guest is
restored bytes h (Err f) told is = tt

some_is_none : (g : Guest) → Some g ≡ None → ⊥
some_is_none g e = cc

pub not_restored : (bytes : List ℕ) (h : BoardHost) (r : Result GuestState RestoreFault) → IsToldOf bytes h
    → IfErr r (λ f. guest_running h ≡ None) → IfErr r (IsRefused (IsSavedGuest bytes))
not_restored bytes h (Ok g) told is = tt
not_restored bytes h (Err f) told is = inr (λ g r. some_is_none g (sym (told.whole g r) ∙ is))

leaving : (p : Phase) (n : ℕ) (g : GuestState) (r : Plan) → running (mode_in n g r p) ≡ None
leaving phase.Offering n g r = refl
leaving phase.Copying n g r = refl
leaving (phase.Stopped turn) n g r = refl

leaving_kind : (p : Phase) → is_running (phase_kind p) ≡ false
leaving_kind phase.Offering = refl
leaving_kind phase.Copying = refl
leaving_kind (phase.Stopped turn) = refl

-- a guest runs here if the kind of the mode says so
running_is : (m : PlainMode) → running (mode_of m) ≡ (if is_running (kind_of m) then guest_in (mode_of m) else None)
running_is (Empty n) = refl
running_is (Run n g) = refl
running_is (Leaving s) =
    leaving s.phase s.move_number s.guest s.plan
    ∙ sym (ap (λ (b : Bool). if b then guest_in (mode_of (Leaving s)) else None) (leaving_kind s.phase))
running_is (Given n g) = refl
running_is (Staging n s) = refl
running_is (Held n g) = refl

pub none_runs : (h : PlainHost) → is_running (kind_of h.mode) ≡ false → guest_running (host_of h) ≡ None
none_runs h is = running_is h.mode ∙ ap (λ (b : Bool). if b then guest_in (mode_of h.mode) else None) is

pub one_runs : (h : PlainHost) → is_running (kind_of h.mode) ≡ true → guest_running (host_of h) ≡ guest_in (host_of h).mode
one_runs h is = running_is h.mode ∙ ap (λ (b : Bool). if b then guest_in (mode_of h.mode) else None) is

-- the new host
pub is_target : (h : PlainHost) → h ≡ new_host None 1 2 4096 1 → IsTarget h
is_target h is =
    record {
      id = ap (λ (x : PlainHost). x.id) is;
      count = ap (λ (x : PlainHost). x.count) is;
      limit = ap (λ (x : PlainHost). x.limit) is;
      version = ap (λ (x : PlainHost). x.version) is;
    }

pub is_waiting : (h : PlainHost) → h ≡ new_host None 1 2 4096 1 → host_of h ≡ waiting
is_waiting h is = ap host_of is

-- before the first byte
pub started_between : (r : Gathered) → r ≡ at_start → r ≡ between r.version
started_between r is = is ∙ ap (λ (x : Gathered). between x.version) (sym is)

pub started_left : (bytes : List ℕ) (r : Gathered) (h : BoardHost) → r ≡ at_start → h ≡ waiting
    → IsLeft bytes r.version bytes h
started_left bytes r h is waits = subst (λ (x : Gathered). IsLeft bytes x.version bytes h) (sym is) (all_left bytes h waits)

-- slices of the bytes that are left
pub rest_is : (n : ℕ) (xs : List ℕ) → take (length xs - n) (drop n xs) ≡ drop n xs
rest_is n xs = take_all (length xs - n) (drop n xs) (let z = length-drop n xs in omega (arith, z))

pub none_is : (xs : List ℕ) → true ≡ (length xs == 0) → xs ≡ []
none_is [] e = refl
none_is (x ∷ xs) e = absurd (false≢true (sym (ne_eqb (length (x ∷ xs)) 0 (λ q. omega (arith, q))) ∙ sym e))
