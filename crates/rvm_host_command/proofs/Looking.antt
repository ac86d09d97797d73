-- What a look gave, or why it was refused, is told.
use Rattle.std.proofs.Common.{◌≡◌, ◌∙◌, ℕ, nat_lt, if◌then◌else◌, List, length, Option, Result, Ok, Err, ap, refl, subst, sym}
use Rattle.std.specs.Io.KnownBytes.{Appends}
use Rattle.rvm_board.specs.declared.snapshot.Snapshot.{Snapshot}
use Rattle.rvm_board.specs.Guest.{Guest}
use Rattle.rvm_board.specs.Snapshot.{state_in}
use Rattle.rvm_board.specs.State.{State}
use Rattle.rvm_station.specs.Looks.{HasLooked}
use Rattle.rvm_command.specs.ExtendedAnswers.{csrs_answer, devices_text}
use Rattle.rvm_command.proofs.Showing.{same_count}
use Rattle.rvm_host_command.specs.declared.answers.Outcome.{Outcome}
use Rattle.rvm_host_command.specs.declared.answers.Outcome.TheVariants.{Done, Refused}
use Rattle.rvm_host_command.specs.Looks.{AreCsrsTold, AreDevicesTold, refusal_text}
use Rattle.rvm_message.specs.declared.reply.HostRefusal.{HostRefusal}
use Rattle.rvm_source.specs.Looks.{IsLook, IsSnapshotOf}

in_look : (guest : Result Guest HostRefusal) (s : Snapshot) → IsLook guest (Ok s) → (g : Guest) × IsSnapshotOf g s
in_look (Ok g) s look = (g, look)
in_look (Err why) s look = absurd look

-- what a look gave is of a guest
pub guest_of_look : (showed : Result Guest HostRefusal → Type 0) (s : Snapshot) → HasLooked showed (Ok s) → (g : Guest) × IsSnapshotOf g s
guest_of_look showed s l = in_look l.guest s l.look

csrs_seen : (showed : Result Guest HostRefusal → Type 0) (h : ℕ) (s : Snapshot) (guest : Result Guest HostRefusal) (outcome : Outcome)
    (before now : Option (List ℕ)) → showed guest → IsLook guest (Ok s)
    → ((g : Guest) → IsSnapshotOf g s → Appends before now (csrs_answer h g))
    → outcome ≡ (if nat_lt h (length s.harts.items) then Done else Refused) → AreCsrsTold showed h outcome before now
csrs_seen showed h s (Ok g) outcome before now shown look written is = record {
  guest = Ok g;
  shown = shown;
  written = written g look;
  ended = is ∙ ap (λ n. if nat_lt h n then Done else Refused) (same_count g s look);
}
csrs_seen showed h s (Err why) outcome before now shown look written is = absurd look

-- the registers of a hart were written
pub csrs_told : (showed : Result Guest HostRefusal → Type 0) (h : ℕ) (s : Snapshot) (outcome : Outcome) (before now : Option (List ℕ))
    → HasLooked showed (Ok s) → ((g : Guest) → IsSnapshotOf g s → Appends before now (csrs_answer h g))
    → outcome ≡ (if nat_lt h (length s.harts.items) then Done else Refused) → AreCsrsTold showed h outcome before now
csrs_told showed h s outcome before now l written is = csrs_seen showed h s l.guest outcome before now l.shown l.look written is

devices_seen : (showed : Result Guest HostRefusal → Type 0) (s : Snapshot) (guest : Result Guest HostRefusal)
    (before now : Option (List ℕ)) → showed guest → IsLook guest (Ok s) → Appends before now (devices_text (state_in s))
    → AreDevicesTold showed Done before now
devices_seen showed s (Ok g) before now shown look written = record {
  guest = Ok g;
  shown = shown;
  written = subst (λ (x : State). Appends before now (devices_text x)) look.state written;
  ended = refl;
}
devices_seen showed s (Err why) before now shown look written = absurd look

-- what the devices keep was written
pub devices_told : (showed : Result Guest HostRefusal → Type 0) (s : Snapshot) (before now : Option (List ℕ))
    → HasLooked showed (Ok s) → Appends before now (devices_text (state_in s)) → AreDevicesTold showed Done before now
devices_told showed s before now l written = devices_seen showed s l.guest before now l.shown l.look written

refusal_seen : (guest : Result Guest HostRefusal) (why : HostRefusal) → IsLook guest (Err why) → guest ≡ Err why
refusal_seen (Ok g) why look = absurd look
refusal_seen (Err w) why look = ap (λ (x : HostRefusal). Err x) (sym look)

-- why the host showed nothing was written
pub csrs_refused : (showed : Result Guest HostRefusal → Type 0) (h : ℕ) (why : HostRefusal) (outcome : Outcome) (before now : Option (List ℕ))
    → HasLooked showed (Err why) → outcome ≡ Refused → Appends before now (refusal_text why) → AreCsrsTold showed h outcome before now
csrs_refused showed h why outcome before now l is written = record {
  guest = Err why;
  shown = subst showed (refusal_seen l.guest why l.look) l.shown;
  written = written;
  ended = is;
}

pub devices_refused : (showed : Result Guest HostRefusal → Type 0) (why : HostRefusal) (outcome : Outcome) (before now : Option (List ℕ))
    → HasLooked showed (Err why) → outcome ≡ Refused → Appends before now (refusal_text why) → AreDevicesTold showed outcome before now
devices_refused showed why outcome before now l is written = record {
  guest = Err why;
  shown = subst showed (refusal_seen l.guest why l.look) l.shown;
  written = written;
  ended = is;
}
