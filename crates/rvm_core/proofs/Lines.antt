-- The words of the lines of events.
use Rattle.std.proofs.Common.{◌≡◌, ℕ, ◌<◌, ◌≤◌, Bool, true, false, cond, List, [], ◌∷◌, ◌++◌, None, Some, refl, ap, ◌∙◌, append_assoc, arith, zero, suc}
use Rattle.std.specs.Prelude.{codes}
use Rattle.std.specs.Fmt.{decimal}
use Rattle.std.specs.List.{list_all}
use Rattle.hex.specs.Hex.{IsBytes, encode_lower}
use Rattle.rvm_board.specs.declared.event.BoardEvent.{BoardEvent}
use Rattle.rvm_board.specs.declared.event.BoardEvent.TheVariants as asked
use Rattle.rvm_dis.proofs.Numbers.{decimal_word}
use Rattle.rvm_dis.proofs.Reading.{both, is_one_word}
use Rattle.rvm_core.specs.EventLines.{asked_line, command_line, event_line, is_other, letter, register, target_text}
use Rattle.rvm_message.specs.declared.event.Command.{Command}
use Rattle.rvm_message.specs.declared.event.Command.TheVariants as command
use Rattle.rvm_precopy.specs.declared.policy.Policy.{Policy}
use Rattle.rvm_core.specs.declared.event.Event.{Event}
use Rattle.rvm_core.specs.declared.event.Event.TheVariants as event
use Rattle.rvm_core.specs.Sayable.{IsAskable, IsSayable, IsTellable}
use Rattle.rvm_core.proofs.Joined.{joined}
use Rattle.rvm_core.proofs.Spelled.{hex_is_word, letter_word, register_word}

-- the words of an event of a guest
abbrev pub asked_words : BoardEvent → List (List ℕ)
asked_words (asked.Step h) = codes "step" ∷ decimal h ∷ []
asked_words (asked.Input b) = codes "input" ∷ encode_lower (b ∷ []) ∷ []
asked_words (asked.Drain n) = codes "drain" ∷ decimal n ∷ []
asked_words (asked.Break a) = codes "break" ∷ decimal a ∷ []
asked_words (asked.Clear a) = codes "clear" ∷ decimal a ∷ []
asked_words (asked.Regs h) = codes "regs" ∷ decimal h ∷ []
asked_words (asked.Mem a n) = codes "mem" ∷ decimal a ∷ decimal n ∷ []
asked_words (asked.Dis a) = codes "dis" ∷ decimal a ∷ []
asked_words (asked.PokeReg h r v) = codes "reg" ∷ decimal h ∷ register r ∷ decimal v ∷ []
asked_words (asked.PokeMem a bytes) = codes "poke" ∷ decimal a ∷ encode_lower bytes ∷ []

-- the words of a policy
abbrev pub policy_words : Policy → List (List ℕ)
policy_words p = decimal p.max_rounds ∷ decimal p.min_left ∷ decimal p.factor ∷ []

-- the words of a target, unless it is the other one of two hosts, and of a policy
abbrev pub course_words : (is : Bool) → (to : ℕ) → Policy → List (List ℕ)
course_words true to p = policy_words p
course_words false to p = letter to ∷ policy_words p

-- the words of a command to a host
abbrev pub command_words : (n h : ℕ) → Command → List (List ℕ)
command_words n h (command.Board e) = asked_words e
command_words n h (command.Begin to p) = codes "begin" ∷ course_words (is_other n h to) to p
command_words n h command.Copy = codes "copy" ∷ []
command_words n h command.Resend = codes "resend" ∷ []
command_words n h command.Abort = codes "abort" ∷ []

abbrev pub event_words : (n : ℕ) → Event → List (List ℕ)
event_words n (event.At h c) = letter h ∷ command_words n h c
event_words n (event.Deliver k) = codes "deliver" ∷ decimal k ∷ []

-- a line is its words, with a space between any two
asked_joined : (e : BoardEvent) → asked_line e ≡ joined (asked_words e)
asked_joined (asked.Step h) = refl
asked_joined (asked.Input b) = refl
asked_joined (asked.Drain n) = refl
asked_joined (asked.Break a) = refl
asked_joined (asked.Clear a) = refl
asked_joined (asked.Regs h) = refl
asked_joined (asked.Mem a n) = simp append_assoc refl
asked_joined (asked.Dis a) = refl
asked_joined (asked.PokeReg h r v) = simp append_assoc refl
asked_joined (asked.PokeMem a bytes) = simp append_assoc refl

course_joined : (is : Bool) (to : ℕ) (p : Policy)
    → codes "begin " ++ target_text (cond is None (Some to)) ++ decimal p.max_rounds ++ codes " " ++ decimal p.min_left
    ++ codes " " ++ decimal p.factor ≡ joined (codes "begin" ∷ course_words is to p)
course_joined true to p = simp append_assoc refl
course_joined false to p = simp append_assoc refl

command_joined : (n h : ℕ) (c : Command) → command_line n h c ≡ joined (command_words n h c)
command_joined n h (command.Board e) = asked_joined e
command_joined n h (command.Begin to p) = course_joined (is_other n h to) to p
command_joined n h command.Copy = refl
command_joined n h command.Resend = refl
command_joined n h command.Abort = refl

-- there is a word
abbrev IsSome : List (List ℕ) → Type 0
IsSome [] = ⊥
IsSome (w ∷ ws) = Unit {0}

asked_some : (e : BoardEvent) → IsSome (asked_words e)
asked_some (asked.Step h) = tt
asked_some (asked.Input b) = tt
asked_some (asked.Drain n) = tt
asked_some (asked.Break a) = tt
asked_some (asked.Clear a) = tt
asked_some (asked.Regs h) = tt
asked_some (asked.Mem a n) = tt
asked_some (asked.Dis a) = tt
asked_some (asked.PokeReg h r v) = tt
asked_some (asked.PokeMem a bytes) = tt

command_some : (n h : ℕ) (c : Command) → IsSome (command_words n h c)
command_some n h (command.Board e) = asked_some e
command_some n h (command.Begin to p) = tt
command_some n h command.Copy = tt
command_some n h command.Resend = tt
command_some n h command.Abort = tt

behind_word : (w : List ℕ) (ws : List (List ℕ)) → IsSome ws → w ++ 32 ∷ joined ws ≡ joined (w ∷ ws)
behind_word w [] some = absurd some
behind_word w (v ∷ ws) some = refl

pub event_joined : (n : ℕ) (e : Event) → event_line n e ≡ joined (event_words n e) ++ codes "\n"
event_joined n (event.At h c) =
    ap (λ l. l ++ codes "\n") (
    append_assoc (letter h) (codes " ") (command_line n h c)
    ∙ ap (λ l. letter h ++ 32 ∷ l) (command_joined n h c)
    ∙ behind_word (letter h) (command_words n h c) (command_some n h c)
    )
event_joined n (event.Deliver k) = refl

-- each of these is a word
abbrev all_words : List (List ℕ) → Bool
all_words ws = list_all is_one_word ws

next : (w : List ℕ) (ws : List (List ℕ)) → is_one_word w ≡ true → all_words ws ≡ true → all_words (w ∷ ws) ≡ true
next w ws one all = both (is_one_word w) (all_words ws) one all

number : (n : ℕ) (ws : List (List ℕ)) → all_words ws ≡ true → all_words (decimal n ∷ ws) ≡ true
number n ws all = next (decimal n) ws (decimal_word n) all

pub one_byte : (b : ℕ) → b < 256 → IsBytes (b ∷ [])
one_byte b below zero = below
one_byte b below (suc k) = omega arith

asked_all : (e : BoardEvent) → IsAskable e → all_words (asked_words e) ≡ true
asked_all (asked.Step h) can = number h [] refl
asked_all (asked.Input b) can =
    next (encode_lower (b ∷ [])) [] (hex_is_word (b ∷ []) (one_byte b can) (omega arith)) refl
asked_all (asked.Drain n) can = number n [] refl
asked_all (asked.Break a) can = number a [] refl
asked_all (asked.Clear a) can = number a [] refl
asked_all (asked.Regs h) can = number h [] refl
asked_all (asked.Mem a n) can = number a (decimal n ∷ []) (number n [] refl)
asked_all (asked.Dis a) can = number a [] refl
asked_all (asked.PokeReg h r v) can =
    number h (register r ∷ decimal v ∷ [])
    (next (register r) (decimal v ∷ []) (register_word r can.1) (number v [] refl))
asked_all (asked.PokeMem a bytes) can =
    number a (encode_lower bytes ∷ []) (next (encode_lower bytes) [] (hex_is_word bytes can.3 can.1) refl)

policy_all : (p : Policy) → all_words (policy_words p) ≡ true
policy_all p =
    number p.max_rounds (decimal p.min_left ∷ decimal p.factor ∷ [])
    (number p.min_left (decimal p.factor ∷ []) (number p.factor [] refl))

course_all : (is : Bool) (to : ℕ) (p : Policy) → to < 8 → all_words (course_words is to p) ≡ true
course_all true to p below = policy_all p
course_all false to p below = next (letter to) (policy_words p) (letter_word to below) (policy_all p)

command_all : (n h : ℕ) (c : Command) → IsTellable c → all_words (command_words n h c) ≡ true
command_all n h (command.Board e) can = asked_all e can
command_all n h (command.Begin to p) can = course_all (is_other n h to) to p can.0
command_all n h command.Copy can = refl
command_all n h command.Resend can = refl
command_all n h command.Abort can = refl

pub event_all : (n : ℕ) (e : Event) → n ≤ 8 → IsSayable n e → list_all is_one_word (event_words n e) ≡ true
event_all n (event.At h c) most can =
    next (letter h) (command_words n h c) (letter_word h (let there = can.0 in omega arith)) (command_all n h c can.1)
event_all n (event.Deliver k) most can = number k [] refl
