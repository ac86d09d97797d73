-- The words of the lines of events are read as the lines that make these events.
use Rattle.std.proofs.Common.{◌≡◌, ℕ, ◌-◌, ◌<◌, ◌≤◌, Bool, true, false, cond, eqb, ◌&&◌, nat_lt, nat_le, option_map, List, [], ◌∷◌, ◌++◌, length, map, Some, None, refl, sym, ap, ◌∙◌, append_assoc, arith}
use Rattle.std.specs.Prelude.{codes}
use Rattle.std.proofs.lemmas.List.{append-nil}
use Rattle.std.proofs.lemmas.Bool.Decides.{nat_tests}
use Rattle.rvm_board.specs.declared.event.BoardEvent.{BoardEvent}
use Rattle.rvm_board.specs.declared.event.BoardEvent.TheVariants as asked
use Rattle.rvm_core.specs.EventLines.{event_line, is_other, letter}
use Rattle.rvm_message.specs.declared.event.Command.{Command}
use Rattle.rvm_message.specs.declared.event.Command.TheVariants as command
use Rattle.rvm_dis.proofs.Reading.{first_of}
use Rattle.rvm_precopy.specs.declared.policy.Policy.{Policy}
use Rattle.rvm_debug.specs.Lines.{command_of}
use Rattle.rvm_debug.specs.Words.{lines, words}
use Rattle.rvm_core.specs.declared.event.Event.{Event}
use Rattle.rvm_core.specs.declared.event.Event.TheVariants as event
use Rattle.rvm_core.specs.declared.world_line.Asked.TheVariants as asked_host
use Rattle.rvm_core.specs.declared.world_line.WorldLine.TheVariants as line
use Rattle.rvm_core.specs.WorldLines.{asked_at, course_of, letter_host, lettered, world_asked, world_command_of, world_line_of}
use Rattle.rvm_core.specs.Sayable.{IsAskable, IsSayable, IsTellable, line_making, telling}
use Rattle.rvm_core.proofs.Joined.{joined, lines_joined, no_lines, whole_joined, words_joined}
use Rattle.rvm_core.proofs.Lines.{command_words, course_words, event_all, event_joined, event_words, one_byte}
use Rattle.rvm_core.proofs.Spelled.{decimal_no_letter, hex_reads, letter_names, letter_speaks, numeral_decimal, register_names}

-- the words of a command after the letter of its host are read as the line that gives it
abbrev Reads : (n h : ℕ) → Command → Type 0
Reads n h c = asked_at n (Some h) (command_words n h c) ≡ Some (line.Host (Some h) (telling n h c))

-- a target that is not named is the other one of two hosts
two_if : (n h to : ℕ) → is_other n h to ≡ true → eqb n 2 ≡ true
two_if n h to is = first_of (eqb n 2) (nat_lt h 2 && eqb to (1 - h)) is

-- the words of a target and a policy are read as these
course_read : (n h to : ℕ) (p : Policy) (is : Bool) → is_other n h to ≡ is → IsTellable (command.Begin to p)
    → course_of n (course_words is to p) ≡ Some (cond is None (Some to), p)
course_read n h to p true e can =
    rw (
      decimal_no_letter p.max_rounds,
      numeral_decimal p.max_rounds can.1,
      numeral_decimal p.min_left can.2,
      numeral_decimal p.factor can.3,
      two_if n h to e,
    ) refl
course_read n h to p false e can =
    rw (
      letter_names to can.0,
      numeral_decimal p.max_rounds can.1,
      numeral_decimal p.min_left can.2,
      numeral_decimal p.factor can.3,
    ) refl

module _ (n h : ℕ) where
  asked_read : (e : BoardEvent) → IsAskable e → Reads n h (command.Board e)
  unfolding world_command_of command_of
  asked_read (asked.Step x) can = rw (numeral_decimal x can) refl
  asked_read (asked.Input b) can = rw (hex_reads (b ∷ []) (one_byte b can) (omega arith)) refl
  asked_read (asked.Drain x) can = rw (numeral_decimal x can) refl
  asked_read (asked.Break a) can = rw (numeral_decimal a can) refl
  asked_read (asked.Clear a) can = rw (numeral_decimal a can) refl
  asked_read (asked.Regs x) can = rw (numeral_decimal x can) refl
  asked_read (asked.Mem a x) can = rw (numeral_decimal a can.0, numeral_decimal x can.1) refl
  asked_read (asked.Dis a) can = rw (numeral_decimal a can) refl
  asked_read (asked.PokeReg x r v) can =
      rw (numeral_decimal x can.0, register_names r can.1, numeral_decimal v can.2) refl
  asked_read (asked.PokeMem a bytes) can =
      let most = can.2 in
      let small : nat_le (length bytes) 256 ≡ true = grind (arith, nat_tests) in
      rw (numeral_decimal a can.0, hex_reads bytes can.3 can.1, small) refl

  command_read : (c : Command) → IsTellable c → Reads n h c
  unfolding world_command_of
  command_read (command.Board e) can = asked_read e can
  command_read (command.Begin to p) can =
      ap (λ c. option_map (line.Host (Some h)) (option_map (λ c. asked_host.Begin c.0 c.1) c))
      (course_read n h to p (is_other n h to) refl can)
  command_read command.Copy can = refl
  command_read command.Resend can = refl
  command_read command.Abort can = refl

-- a letter names the host that is asked
behind_host : (n h : ℕ) (ws : List (List ℕ)) → h < n → h < 8
    → world_asked n (letter h ∷ ws) ≡ asked_at n (Some h) ws
behind_host n h ws there below =
    let inside : nat_lt h n ≡ true = grind (arith, nat_tests) in
    ap (λ t. cond t (Some line.Empty) (lettered n (letter_host (letter h)) (letter h) ws)) (letter_speaks h below)
    ∙ ap (λ host. lettered n host (letter h) ws) (letter_names h below)
    ∙ ap (λ t. cond t (asked_at n (Some h) ws) None) inside

words_read : (n : ℕ) (e : Event) → n ≤ 8 → IsSayable n e → world_asked n (event_words n e) ≡ Some (line_making n e)
words_read n (event.At h c) most can =
    let there : h < n = can.0 in
    behind_host n h (command_words n h c) there (omega arith) ∙ command_read n h c can.1
words_read n (event.Deliver k) most can = rw (numeral_decimal k can) refl

-- the text of an event, without its line feed
abbrev pub text : (n : ℕ) → Event → List ℕ
text n e = joined (event_words n e)

pub text_read : (n : ℕ) (e : Event) → n ≤ 8 → IsSayable n e → world_line_of n (text n e) ≡ Some (line_making n e)
unfolding world_line_of
text_read n e most can =
    let all = event_all n e most can in
    ap (λ l. world_asked n (words l)) (whole_joined (event_words n e) all)
    ∙ ap (world_asked n) (words_joined (event_words n e) all)
    ∙ words_read n e most can

-- the text of an event with its line feed is one line
pub text_ends : (n : ℕ) (e : Event) (rest : List ℕ) → n ≤ 8 → IsSayable n e
    → lines (event_line n e ++ rest) ≡ text n e ∷ lines rest
text_ends n e rest most can =
    ap (λ l. lines (l ++ rest)) (event_joined n e)
    ∙ ap lines (append_assoc (text n e) (codes "\n") rest)
    ∙ lines_joined (event_words n e) rest (event_all n e most can)

pub one_line_read : (n : ℕ) (e : Event) → n ≤ 8 → IsSayable n e
    → map (world_line_of n) (lines (event_line n e)) ≡ Some (line_making n e) ∷ []
one_line_read n e most can =
    ap (λ l. map (world_line_of n) (lines l)) (sym (append-nil (event_line n e)))
    ∙ ap (map (world_line_of n)) (text_ends n e [] most can ∙ ap (λ l. text n e ∷ l) no_lines)
    ∙ ap (λ l. l ∷ []) (text_read n e most can)
