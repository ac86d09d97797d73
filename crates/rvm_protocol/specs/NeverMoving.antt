-- The guest that never moves: one guest, given the accepted events in order.
use Rattle.std.specs.Prelude.{Bool, true, false, List, [], ◌∷◌, ◌++◌}
use Rattle.rvm_protocol.specs.Guest.{Guest}
use Rattle.rvm_protocol.specs.Commands.{Board, HostEvent, Do}
use Rattle.rvm_protocol.specs.Replies.{Reply, Answered}
use Rattle.rvm_protocol.specs.World.{Entry}

-- a reply is the guest's answer to an event of its own
abbrev pub is_answer : {A : Type 0} → Reply A → Bool
is_answer (Answered a) = true
is_answer r = false

module _ {P E A B : Type 0} where
  -- the guest's event that was answered, if this is one
  abbrev pub accepted_here : HostEvent P E B → Reply A → List E
  accepted_here (Do (Board e)) (Answered a) = e ∷ []
  accepted_here e r = []

  -- the answer to the guest's event, if this is one and was answered
  abbrev pub answered_here : HostEvent P E B → Reply A → List A
  answered_here (Do (Board e)) (Answered a) = a ∷ []
  answered_here e r = []

  -- the guest's events that were answered
  unfoldable pub accepted : List (Entry P E A B) → List E
  accepted [] = []
  accepted (x ∷ xs) = accepted_here x.event x.reply ++ accepted xs

  -- the answers to the guest's events
  unfoldable pub answered : List (Entry P E A B) → List A
  answered [] = []
  answered (x ∷ xs) = answered_here x.event x.reply ++ answered xs

module _ {S P E A B : Type 0} (m : Guest S P E A B) where
  -- the guest after a list of events
  unfoldable pub fold : S → List E → S
  fold g [] = g
  fold g (e ∷ es) = fold (m.next g e) es

  -- the guest's answers to a list of events
  unfoldable pub fold_answers : S → List E → List A
  fold_answers g [] = []
  fold_answers g (e ∷ es) = m.answer g e ∷ fold_answers (m.next g e) es
