-- Steps that retire an instruction, at a host whose guest makes them.
use Rattle.std.proofs.Common.{◌≡◌, ◌∙◌, ℕ, zero, suc, ◌+◌, ◌%◌, ◌<◌, length, Option, Some, None, refl, sym, ap, subst, arith}
use Rattle.rvm_hart.specs.declared.outcome.Stepped.{Stepped}
use Rattle.rvm_hart.specs.declared.outcome.Stepped.TheVariants.{Retired}
use Rattle.rvm_board.specs.declared.retiring.Retired as told
use Rattle.rvm_board.specs.Events as events
use Rattle.rvm_board.specs.Events.{steps}
use Rattle.rvm_board.specs.Guest.{GuestState}
use Rattle.rvm_board.specs.Retiring.{Ends, Retire, RetiresThen}
use Rattle.rvm_guest.specs.TheGuest.{board}
use Rattle.rvm_message.specs.Answers.{BoardOutcome}
use Rattle.rvm_protocol.specs.Frames.{made_as, posted}
use Rattle.rvm_protocol.specs.Modes.{says}
use Rattle.rvm_protocol.specs.Replies.{Answered}
use Rattle.rvm_source.specs.declared.phase.Phase.{Phase}
use Rattle.rvm_source.specs.declared.phase.Phase.TheVariants as phases
use Rattle.rvm_source.specs.Retiring.{MayRetire, SourceRetires}
use Rattle.rvm_source.specs.Sources.{PlainSource}
use Rattle.rvm_host.specs.Bounds.{IsHost, IsMove, KeepsMove}
use Rattle.rvm_host.specs.Hosts.{PlainHost}
use Rattle.rvm_host.specs.Modes.{PlainMode, Empty, Run, Leaving, Given, Staging, Held, mode_of}
use Rattle.rvm_host.specs.Retiring.{AreRetired, HostRetires, IsLast, IsStep, ModeRetires}
use Rattle.rvm_host.proofs.Running.{IsLogged, copying_runs, law_step, leaving, offering_runs, stepped, stepped_logged, there_steps}

-- a host in another mode
abbrev pub in_mode : PlainHost → PlainMode → PlainHost
in_mode old m = record old { mode = m }

-- modes by the guest that runs in them, if something holds of it that each step preserves
module _ (mode : GuestState → PlainMode) (ok : GuestState → Type 0)
    (keeps : (h : ℕ) (g : GuestState) → h < length g.guest.board.harts → ok g → ok (stepped h g))
    (law : (h : ℕ) (g : GuestState) → ok g → h < length g.guest.board.harts
    → law_step h (mode g) ≡ says (Answered (steps h g.guest).reply) (mode_of (mode (stepped h g)))) where
  -- a step of a hart that is there is the host's
  a_step : (h : ℕ) (g : GuestState) (old : PlainHost) (s : Stepped) → old.mode ≡ mode g → ok g
      → h < length g.guest.board.harts → (steps h g.guest).reply ≡ events.reply_of s
      → IsStep h s old (in_mode old (mode (stepped h g)))
  a_step h g old s is so there said =
      let does : law_step h old.mode ≡ says (Answered (events.reply_of s)) (mode_of (mode (stepped h g))) =
      ap (law_step h) is ∙ law h g so there
      ∙ ap (λ r. says (Answered r) (mode_of (mode (stepped h g)))) said
      in
      record {
        reply = sym (ap (λ (o : BoardOutcome). o.reply) does);
        made = sym (ap (λ (o : BoardOutcome). posted old.id old.partner (made_as board old.version o.made)) does);
        next = sym (ap (λ (o : BoardOutcome). record { mode = o.next; partner = old.partner }) does);
        rest = refl;
      }

  some_steps : (harts n turn : ℕ) (g new : GuestState) (old : PlainHost) → old.mode ≡ mode g → ok g
      → Retire harts n turn g new → AreRetired harts n turn old (in_mode old (mode new)) × ok new
  some_steps harts zero turn g new old is so are =
      (λ i. in_mode old ((ap mode are ∙ sym is) i), subst ok (sym are) so)
  some_steps harts (suc n) turn g new old is so are =
      let h : ℕ = turn % harts in
      let mid : PlainHost = in_mode old (mode (stepped h g)) in
      let step : IsStep h Retired old mid = a_step h g old Retired is so are.0 are.1 in
      let rest = some_steps harts n (turn + 1) (stepped h g) new mid refl (keeps h g are.0 so) are.2 in
      ((mid, step, rest.0), rest.1)

  a_last : (h : ℕ) (o : Option Stepped) (g new : GuestState) (old : PlainHost) → old.mode ≡ mode g → ok g
      → Ends h o g new → IsLast h o old (in_mode old (mode new))
  a_last h None g new old is so ends = λ i. in_mode old ((ap mode ends ∙ sym is) i)
  a_last h (Some s) g new old is so ends =
      subst (λ x. IsStep h s old (in_mode old (mode x))) (sym ends.2) (a_step h g old s is so ends.0 ends.1)

  pub all_steps : (harts turn count : ℕ) (g new : GuestState) (old : PlainHost) (made : told.Retired)
      → old.mode ≡ mode g → ok g → RetiresThen harts turn count g new made
      → HostRetires harts turn count old (in_mode old (mode new)) made
  all_steps harts turn count g new old made is so all =
      let first = some_steps harts made.count turn g all.between old is so all.retired in
      let mid : PlainHost = in_mode old (mode all.between) in
      record {
        between = mid;
        few = all.few;
        fewer = all.fewer;
        retired = first.0;
        last = a_last ((turn + made.count) % harts) made.last all.between new mid refl first.1 all.ends;
      }

-- no step is made
no_steps : (harts turn count : ℕ) (old new : PlainHost) (made : told.Retired) → new ≡ old
    → made ≡ record { count = 0; last = None } → HostRetires harts turn count old new made
no_steps harts turn count old new made same none =
    subst (λ m. HostRetires harts turn count old new m) (sym none)
    (record { between = old; few = omega arith; fewer = λ is. cc; retired = refl; last = same })

-- STEPS IN EACH MODE
run_law : (k h : ℕ) (g : GuestState) → Unit {0} → h < length g.guest.board.harts
    → law_step h (Run k g.guest) ≡ says (Answered (steps h g.guest).reply) (mode_of (Run k (stepped h g).guest))
unfolding board
run_law k h g so there = ap (λ (a : events.Answered). says (Answered a.reply) (mode_of (Run k a.guest))) (there_steps h g.guest there)

same_guest : (harts turn count : ℕ) (g new : GuestState) → RetiresThen harts turn count g new (record { count = 0; last = None }) → new ≡ g
same_guest harts turn count g new all = all.ends ∙ all.retired

stays : (harts turn count : ℕ) (s to : PlainSource) (made : told.Retired) → made ≡ record { count = 0; last = None }
    → SourceRetires harts turn count s to made → to ≡ s
stays harts turn count s to made none all =
    all.rest ∙ ap (λ g. record s { guest = g }) (same_guest harts turn count s.guest to.guest (subst (λ m. RetiresThen harts turn count s.guest to.guest m) none all.guest))

source_steps : (f : Phase) (harts turn count : ℕ) (s to : PlainSource) (old : PlainHost) (made : told.Retired)
    → s.phase ≡ f → old.mode ≡ Leaving s → SourceRetires harts turn count s to made
    → HostRetires harts turn count old (in_mode old (Leaving to)) made
source_steps phases.Offering harts turn count s to old made phase is all =
    subst (λ x. HostRetires harts turn count old (in_mode old (Leaving x)) made)
    (sym (all.rest ∙ ap (λ f. record { move_number = s.move_number; guest = to.guest; plan = s.plan; phase = f }) phase))
    (all_steps (leaving s.move_number s.plan phases.Offering) IsLogged stepped_logged
    (λ h g so there. (offering_runs s.move_number s.plan).step h g so there) harts turn count s.guest to.guest old made
    (is ∙ ap (λ f. Leaving (record { move_number = s.move_number; guest = s.guest; plan = s.plan; phase = f })) phase)
    all.logged all.guest)
source_steps phases.Copying harts turn count s to old made phase is all =
    subst (λ x. HostRetires harts turn count old (in_mode old (Leaving x)) made)
    (sym (all.rest ∙ ap (λ f. record { move_number = s.move_number; guest = to.guest; plan = s.plan; phase = f }) phase))
    (all_steps (leaving s.move_number s.plan phases.Copying) IsLogged stepped_logged
    (λ h g so there. (copying_runs s.move_number s.plan).step h g so there) harts turn count s.guest to.guest old made
    (is ∙ ap (λ f. Leaving (record { move_number = s.move_number; guest = s.guest; plan = s.plan; phase = f })) phase)
    all.logged all.guest)
source_steps (phases.Stopped turn') harts turn count s to old made phase is all =
    let none : made ≡ record { count = 0; last = None } = subst (λ f. MayRetire f made) phase all.runs in
    no_steps harts turn count old (in_mode old (Leaving to)) made
    (λ i. in_mode old ((ap Leaving (stays harts turn count s to made none all) ∙ sym is) i)) none

pub host_retires : (m : PlainMode) (harts turn count : ℕ) (old new : PlainHost) (made : told.Retired) → old.mode ≡ m
    → ModeRetires harts turn count m new.mode made → new ≡ in_mode old new.mode
    → HostRetires harts turn count old new made
host_retires (Run k g) harts turn count old new made is all rest =
    subst (λ x. HostRetires harts turn count old x made) (sym (rest ∙ ap (in_mode old) all.to_is))
    (all_steps (λ x. Run k x.guest) (λ _. Unit {0}) (λ h x there so. tt) (run_law k) harts turn count all.from all.to old
    made (is ∙ ap (Run k) (sym all.from_is)) tt all.retired)
host_retires (Leaving s) harts turn count old new made is all rest =
    subst (λ x. HostRetires harts turn count old x made) (sym (rest ∙ ap (in_mode old) all.to_is))
    (source_steps s.phase harts turn count s all.to old made refl is all.retired)
host_retires (Empty k) harts turn count old new made is all rest =
    no_steps harts turn count old new made (rest ∙ (λ i. in_mode old ((all.0 ∙ sym is) i))) all.1
host_retires (Given k kept) harts turn count old new made is all rest =
    no_steps harts turn count old new made (rest ∙ (λ i. in_mode old ((all.0 ∙ sym is) i))) all.1
host_retires (Staging k s) harts turn count old new made is all rest =
    no_steps harts turn count old new made (rest ∙ (λ i. in_mode old ((all.0 ∙ sym is) i))) all.1
host_retires (Held k g) harts turn count old new made is all rest =
    no_steps harts turn count old new made (rest ∙ (λ i. in_mode old ((all.0 ∙ sym is) i))) all.1

-- after the steps, the move of the mode, if any, is with another host still
keeps_move : (id count partner : ℕ) (m new : PlainMode) (harts turn n : ℕ) (made : told.Retired)
    → ModeRetires harts turn n m new made → KeepsMove id count partner m → KeepsMove id count partner new
keeps_move id count partner (Run k g) new harts turn n made all keeps =
    subst (KeepsMove id count partner) (sym all.to_is) tt
keeps_move id count partner (Leaving s) new harts turn n made all keeps =
    subst (KeepsMove id count partner) (sym all.to_is)
    (subst (λ (x : PlainSource). IsMove id count partner x.move_number) (sym all.retired.rest) keeps)
keeps_move id count partner (Empty k) new harts turn n made all keeps =
    subst (KeepsMove id count partner) (sym all.0) keeps
keeps_move id count partner (Given k kept) new harts turn n made all keeps =
    subst (KeepsMove id count partner) (sym all.0) keeps
keeps_move id count partner (Staging k s) new harts turn n made all keeps =
    subst (KeepsMove id count partner) (sym all.0) keeps
keeps_move id count partner (Held k g) new harts turn n made all keeps =
    subst (KeepsMove id count partner) (sym all.0) keeps

pub host_keeps : (old : PlainHost) (new : PlainMode) (harts turn n : ℕ) (made : told.Retired)
    → ModeRetires harts turn n old.mode new made → IsHost old → IsHost (in_mode old new)
host_keeps old new harts turn n made all is = record {
  sized = is.sized;
  moves = keeps_move old.id old.count old.partner old.mode new harts turn n made all is.moves;
}
