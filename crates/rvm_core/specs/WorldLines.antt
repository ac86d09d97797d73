-- What a line of a world's script asks for.
use Rattle.std.specs.Prelude.{ℕ, ◌-◌, ◌==◌, ◌&&◌, nat_le, nat_lt, if◌then◌else◌, List, [], ◌∷◌, Option, Some, None, codes, option_map}
use Rattle.std.specs.Str.{bytes_eq}
use Rattle.rvm_precopy.specs.declared.policy.Policy.{Policy}
use Rattle.rvm_debug.specs.Lines.{command_of, is_comment, numeral, one_number, statement}
use Rattle.rvm_debug.specs.Words.{words, without_return}
use Rattle.rvm_core.specs.declared.world_command.WorldCommand.{WorldCommand}
use Rattle.rvm_core.specs.declared.world_command.WorldCommand.TheVariants.{Begin, Move, Copy, Resend, Abort}
use Rattle.rvm_core.specs.declared.world_line.Asked.{Asked}
use Rattle.rvm_core.specs.declared.world_line.Asked.TheVariants as asked
use Rattle.rvm_core.specs.declared.world_line.WorldLine.{WorldLine}
use Rattle.rvm_core.specs.declared.world_line.WorldLine.TheVariants as line

-- the host that a letter, A to H, names
abbrev pub letter_host : List ℕ → Option ℕ
letter_host (b ∷ []) = if nat_le 65 b && nat_le b 72 then Some (b - 65) else None
letter_host word = None

-- the policy of three numbers, if all are there
abbrev pub policy_if : (rounds left factor : Option ℕ) → Option Policy
policy_if (Some r) (Some l) (Some f) = Some (record { max_rounds = r; min_left = l; factor = f })
policy_if rounds left factor = None

-- the policy that `[R L F]` names: 29 rounds, 50 pages and 3 times the guest's pages, if there are no words
abbrev pub policy_in : List (List ℕ) → Option Policy
policy_in [] = Some (record { max_rounds = 29; min_left = 50; factor = 3 })
policy_in (r ∷ l ∷ f ∷ []) = policy_if (numeral r) (numeral l) (numeral f)
policy_in ws = None

-- the target of a move, none for the other host of two, and its policy
abbrev pub Course : Type 0
Course = Option ℕ × Policy

-- the target and the policy of a move to the other host, if there are two
abbrev pub to_the_other : (hosts : ℕ) → Option Policy → Option Course
to_the_other n policy = if n == 2 then option_map (λ p. (None, p)) policy else None

-- the target and the policy that a first word, with the host that it names if it names one, and the words after it name
abbrev pub named_course : (hosts : ℕ) → (target : Option ℕ) → (first : List ℕ) → List (List ℕ) → Option Course
named_course n (Some to) w ws = option_map (λ p. (Some to, p)) (policy_in ws)
named_course n None w ws = to_the_other n (policy_in (w ∷ ws))

-- the target and the policy that `[HOST] [R L F]` names; if there are more than two hosts, the target must be named
abbrev pub course_of : (hosts : ℕ) → List (List ℕ) → Option Course
course_of n [] = to_the_other n (policy_in [])
course_of n (w ∷ ws) = named_course n (letter_host w) w ws

-- the command of a move that a word names
unfoldable pub world_command_of : List ℕ → Option WorldCommand
world_command_of word =
    if bytes_eq word (codes "begin") then Some Begin
    else (if bytes_eq word (codes "move") then Some Move
    else (if bytes_eq word (codes "copy") then Some Copy
    else (if bytes_eq word (codes "resend") then Some Resend
    else (if bytes_eq word (codes "abort") then Some Abort
    else None))))

-- what is asked, if no word is left
abbrev pub alone : Asked → List (List ℕ) → Option Asked
alone a [] = Some a
alone a (w ∷ ws) = None

-- what a command and the words after its name ask for
abbrev pub world_commanded : (hosts : ℕ) → WorldCommand → List (List ℕ) → Option Asked
world_commanded n Begin ws = option_map (λ c. asked.Begin c.0 c.1) (course_of n ws)
world_commanded n Move ws = option_map (λ c. asked.Move c.0 c.1) (course_of n ws)
world_commanded n Copy ws = alone asked.Copy ws
world_commanded n Resend ws = alone asked.Resend ws
world_commanded n Abort ws = alone asked.Abort ws

-- what is asked of a host: a line for the guest, or a command of a move
abbrev pub asked_by : (hosts : ℕ) → Option WorldCommand → (name : List ℕ) → List (List ℕ) → Option Asked
asked_by n (Some c) w ws = world_commanded n c ws
asked_by n None w ws = option_map asked.Guest (statement (command_of w) ws)

-- what words ask of a host, which is named by a letter before them or not at all
abbrev pub asked_at : (hosts : ℕ) → (host : Option ℕ) → List (List ℕ) → Option WorldLine
asked_at n host [] = None
asked_at n host (w ∷ ws) = option_map (line.Host host) (asked_by n (world_command_of w) w ws)

-- what the words after the letter of a host ask of that host, which must be one of this many
abbrev pub behind_letter : (hosts host : ℕ) → List (List ℕ) → Option WorldLine
behind_letter n x ws = if nat_lt x n then asked_at n (Some x) ws else None

-- what a line without a letter asks for: `deliver K`, or something of the host that has the guest
abbrev pub without_letter : (hosts : ℕ) → (first : List ℕ) → List (List ℕ) → Option WorldLine
without_letter n w ws =
    if bytes_eq w (codes "deliver") then option_map line.Deliver (one_number ws) else asked_at n None (w ∷ ws)

-- what a first word, with the host that it names if it names one, and the words after it ask for
abbrev pub lettered : (hosts : ℕ) → (host : Option ℕ) → (first : List ℕ) → List (List ℕ) → Option WorldLine
lettered n (Some x) w ws = behind_letter n x ws
lettered n None w ws = without_letter n w ws

-- what words ask for in a world of this many hosts; none if they are no line
abbrev pub world_asked : (hosts : ℕ) → List (List ℕ) → Option WorldLine
world_asked n [] = Some line.Empty
world_asked n (w ∷ ws) = if is_comment w then Some line.Empty else lettered n (letter_host w) w ws

-- what a line asks for; none if it is not in the grammar
unfoldable pub world_line_of : (hosts : ℕ) → List ℕ → Option WorldLine
world_line_of n bytes = world_asked n (words (without_return bytes))
