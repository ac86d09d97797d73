-- What a log keeps, worked out by hand.
use Rattle.std.proofs.Common.{◌≡◌, [], ◌∷◌, None, Some, refl}
use Rattle.rvm_hart.specs.declared.outcome.Stepped.TheVariants.{Halted}
use Rattle.rvm_message.specs.declared.event.Command.TheVariants.{Abort, Copy}
use Rattle.rvm_message.specs.declared.event.HostEvent.TheVariants.{Do}
use Rattle.rvm_message.specs.Exchanges.{step_of_hart}
use Rattle.rvm_station.specs.Logs.{IsEmpty, KeepsOn, steps_from}
use Rattle.rvm_station.specs.Logged.{made_in}

three_turns_of_two_harts : steps_from 5 2 3 ≡ step_of_hart 1 ∷ step_of_hart 0 ∷ step_of_hart 1 ∷ []
unfolding steps_from
three_turns_of_two_harts = refl

no_turns_are_no_events : steps_from 5 2 0 ≡ []
unfolding steps_from
no_turns_are_no_events = refl

a_halt_after_two_steps_makes_three : made_in (record { count = 2; last = Some (Halted 0) }) ≡ 3
a_halt_after_two_steps_makes_three = refl

an_event_is_kept_after_the_others : KeepsOn (Some (Do Copy ∷ [])) (Some (Do Copy ∷ Do Abort ∷ [])) (Do Abort ∷ [])
an_event_is_kept_after_the_others = refl

an_event_may_be_lost : KeepsOn (Some (Do Copy ∷ [])) None (Do Abort ∷ [])
an_event_may_be_lost = tt

what_was_lost_is_never_found : KeepsOn None (Some (Do Abort ∷ [])) (Do Abort ∷ []) → ⊥
what_was_lost_is_never_found is = absurd cc

a_log_that_keeps_nothing_is_empty : IsEmpty None
a_log_that_keeps_nothing_is_empty = tt
