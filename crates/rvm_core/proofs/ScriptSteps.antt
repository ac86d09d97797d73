-- Steps and bytes, one event at a time.
use Rattle.std.proofs.Common.{◌≡◌, ℕ, zero, suc, ◌+◌, Bool, true, false, cond, List, [], ◌∷◌, None, refl, ap, sym, ◌∙◌, subst}
use Rattle.rvm_board.specs.declared.event.BoardEvent.TheVariants as event
use Rattle.rvm_board.specs.declared.event.BoardReply.{BoardReply}
use Rattle.rvm_board.specs.declared.event.BoardReply.TheVariants as answer
use Rattle.rvm_board.specs.Guest.{Guest}
use Rattle.rvm_guest.specs.TheGuest.{board}
use Rattle.rvm_protocol.specs.Commands.{Board}
use Rattle.rvm_protocol.specs.Replies.{Answered, Reply}
use Rattle.rvm_protocol.specs.Told.{Told}
use Rattle.rvm_protocol.specs.World.{At, reply_to, step}
use Rattle.rvm_core.specs.Steps as steps
use Rattle.rvm_core.specs.Worlds.{BoardWorld}
use Rattle.rvm_message.specs.Replies.{ends_steps}
use Rattle.rvm_debug.specs.declared.line.Line.{Line}
use Rattle.rvm_debug.specs.declared.line.Line.TheVariants as line
use Rattle.rvm_core.specs.Replies.{guest_text, steps_text}
use Rattle.rvm_core.specs.Runs.{IsInput, standing}
use Rattle.rvm_core.specs.WorldScript.{Replied, Standing, Stepping, after, guest_done, inputs, is_taken, reply_in, stepping}

-- a script's steps leave the world, the number and the last reply that the world's steps leave
record IsAlike (s : Stepping) (w : steps.Stepping) : Type 0 where
  pub world : w.world ≡ s.standing.world
  pub count : w.count ≡ s.count
  pub reply : w.reply ≡ s.reply

alike_on : (b : Bool) (s s' : Stepping) (w w' : steps.Stepping) → IsAlike s w → IsAlike s' w'
    → IsAlike (cond b s s') (cond b w w')
alike_on true s s' w w' here more = here
alike_on false s s' w w' here more = more

steps_alike : (x h left made : ℕ) (last : Reply BoardReply) (s : Standing)
    → IsAlike (stepping x h left made last s) (steps.stepping x h left made last s.world)
unfolding stepping steps.stepping
steps_alike x h zero made last s = record { world = refl; count = refl; reply = refl }
steps_alike x h (suc left) made last s =
    let ev = At x (Board (event.Step h)) in
    let now = after s ev in
    alike_on (ends_steps last) (record { standing = s; count = made; reply = last })
    (stepping x h left (made + 1) (reply_in s ev) now) (record { world = s.world; count = made; reply = last })
    (steps.stepping x h left (made + 1) (reply_in s ev) now.world)
    (record { world = refl; count = refl; reply = refl })
    (steps_alike x h left (made + 1) (reply_in s ev) now)

-- the world that steps leave, the number of the steps, and the reply to the last
pub record IsStepped (s : Stepping) (new : BoardWorld) (count : ℕ) (last : Reply BoardReply) : Type 0 where
  pub world : new ≡ s.standing.world
  pub made : count ≡ s.count
  pub reply : last ≡ s.reply

-- the world that steps leave, the number of the steps, and the reply to the last are those of a script
pub steps_are : (x h n : ℕ) (w new : BoardWorld) (count : ℕ) (last : Reply BoardReply) (t : Told Guest)
    → steps.AreSteps (steps.steps_of x h n w) new count last
    → IsStepped (stepping x h n 0 (Answered answer.Retired) (standing w t)) new count last
steps_are x h n w new count last t are =
    let same = steps_alike x h n 0 (Answered answer.Retired) (standing w t) in
    record {
      world = are.world ∙ same.world;
      made = are.made ∙ same.count;
      reply = are.reply ∙ same.reply;
    }

-- the world and the text that a line of steps leaves
pub record StepsDone (new : BoardWorld) (h count : ℕ) (last : Reply BoardReply) (r : Replied) : Type 0 where
  pub world : new ≡ r.standing.world
  pub text : steps_text h count last ≡ r.text

pub steps_done : (x h n : ℕ) (l : Line) (w new : BoardWorld) (count : ℕ) (last : Reply BoardReply) (t : Told Guest)
    → l ≡ line.Steps h n → steps.AreSteps (steps.steps_of x h n w) new count last
    → StepsDone new h count last (guest_done x l (standing w t))
steps_done x h n l w new count last t is are =
    let s = steps_are x h n w new count last t are in
    subst (λ z. StepsDone new h count last (guest_done x z (standing w t))) (sym is)
    (record { world = s.world; text = λ i. steps_text h (s.made i) (s.reply i) })

byte_in : (x b : ℕ) (bs : List ℕ) (last : Reply BoardReply) (s : Standing)
    → let ev = At x (Board (event.Input b)) in
    inputs x (b ∷ bs) last s ≡ cond (is_taken (reply_in s ev)) (inputs x bs (reply_in s ev) (after s ev))
    (record { standing = after s ev; text = guest_text None (reply_in s ev) })
unfolding inputs
byte_in x b bs last s = refl

no_byte : (x : ℕ) (last : Reply BoardReply) (s : Standing)
    → inputs x [] last s ≡ record { standing = s; text = guest_text None last }
unfolding inputs
no_byte x last s = refl

-- the bytes given so far, and those that are left, are all
pub record InputsLeft (all : Replied) (x : ℕ) (left : List ℕ) (last : Reply BoardReply) (w : BoardWorld) : Type 0 where
  pub told : Told Guest
  pub same : inputs x left last (standing w told) ≡ all

pub inputs_begin : (x : ℕ) (left : List ℕ) (last : Reply BoardReply) (w : BoardWorld) (t : Told Guest)
    → InputsLeft (inputs x left last (standing w t)) x left last w
inputs_begin x left last w t = record { told = t; same = refl }

pub inputs_one : (all : Replied) (x b : ℕ) (left bs : List ℕ) (last next : Reply BoardReply) (w w' : BoardWorld)
    → InputsLeft all x left last w → left ≡ b ∷ bs → is_taken next ≡ true
    → next ≡ reply_to board w (At x (Board (event.Input b))) → w' ≡ step board w (At x (Board (event.Input b)))
    → InputsLeft all x bs next w'
inputs_one all x b left bs last next w w' p more takes said leaves =
    let ev = At x (Board (event.Input b)) in
    let s = standing w p.told in
    let rest = inputs x bs (reply_in s ev) (after s ev) in
    let over : Replied = record { standing = after s ev; text = guest_text None (reply_in s ev) } in
    let on : is_taken (reply_in s ev) ≡ true = ap is_taken (sym said) ∙ takes in
    record {
      told = (after s ev).told;
      same =
          ap (λ r. inputs x bs r (standing w' (after s ev).told)) said
          ∙ ap (λ v. inputs x bs (reply_in s ev) (standing v (after s ev).told)) leaves
          ∙ ap (λ t. cond t rest over) (sym on)
          ∙ sym (byte_in x b bs last s) ∙ ap (λ l. inputs x l last s) (sym more) ∙ p.same;
    }

pub inputs_ended : (all : Replied) (x b : ℕ) (left bs : List ℕ) (last next : Reply BoardReply) (w w' : BoardWorld)
    → InputsLeft all x left last w → left ≡ b ∷ bs → is_taken next ≡ false
    → next ≡ reply_to board w (At x (Board (event.Input b))) → w' ≡ step board w (At x (Board (event.Input b)))
    → IsInput all w' next
inputs_ended all x b left bs last next w w' p more takes said leaves =
    let ev = At x (Board (event.Input b)) in
    let s = standing w p.told in
    let rest = inputs x bs (reply_in s ev) (after s ev) in
    let over : Replied = record { standing = after s ev; text = guest_text None (reply_in s ev) } in
    let on : is_taken (reply_in s ev) ≡ false = ap is_taken (sym said) ∙ takes in
    let whole : over ≡ all =
    ap (λ t. cond t rest over) (sym on)
    ∙ sym (byte_in x b bs last s) ∙ ap (λ l. inputs x l last s) (sym more) ∙ p.same
    in
    record {
      world = leaves ∙ ap (λ (r : Replied). r.standing.world) whole;
      text = ap (guest_text None) said ∙ ap (λ (r : Replied). r.text) whole;
    }

pub inputs_over : (all : Replied) (x : ℕ) (left : List ℕ) (last : Reply BoardReply) (w : BoardWorld)
    → InputsLeft all x left last w → left ≡ [] → IsInput all w last
inputs_over all x left last w p none =
    let s = standing w p.told in
    let whole = sym (no_byte x last s) ∙ ap (λ l. inputs x l last s) (sym none) ∙ p.same in
    record {
      world = ap (λ (r : Replied). r.standing.world) whole;
      text = ap (λ (r : Replied). r.text) whole;
    }
