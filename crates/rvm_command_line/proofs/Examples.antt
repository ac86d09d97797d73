-- What words ask for, worked out by hand.
use Rattle.std.proofs.Common.{◌≡◌, [], ◌∷◌, Option, None, Some, List, codes, option_map, refl}
use Rattle.clap.specs.Simple.{subcommand_of}
use Rattle.clap.specs.Walk.{Text, all_of, first_of, one_of, walked}
use Rattle.rvm_command_line.specs.Program.{program}

-- the value of an option of the command that words name
abbrev value : List Text → (option : Text) → Option (Option Text)
value words option = option_map (λ command. first_of option command.1) (subcommand_of program words)

pub a_guest_has_one_hart : value (codes "rvmove" ∷ codes "debug" ∷ codes "a" ∷ []) (codes "harts") ≡ Some (Some (codes "1"))
unfolding walked
a_guest_has_one_hart = refl

pub pages_left_are_no_factor : value (codes "rvmove" ∷ codes "move" ∷ codes "a" ∷ codes "--left" ∷ codes "7" ∷ []) (codes "factor") ≡ Some (Some (codes "3"))
unfolding walked
pages_left_are_no_factor = refl

pub a_file_is_no_option : value (codes "rvmove" ∷ codes "asm" ∷ codes "a.s" ∷ codes "a.elf" ∷ []) (codes "output") ≡ Some (Some (codes "a.elf"))
unfolding walked
a_file_is_no_option = refl

-- the two flags of a command that words name
abbrev flags : List Text → Option (Option Text × Option Text)
flags words = option_map (λ command. (one_of (codes "verdict") command.1, one_of (codes "exit-status") command.1))
    (subcommand_of program words)

pub no_status_is_asked_for : flags (codes "rvmove" ∷ codes "run" ∷ codes "a" ∷ []) ≡ Some (Some (codes "false"), Some (codes "false"))
unfolding walked
no_status_is_asked_for = refl

pub a_verdict_is_no_exit_status : flags (codes "rvmove" ∷ codes "run" ∷ codes "a" ∷ codes "--verdict" ∷ []) ≡ Some (Some (codes "true"), Some (codes "false"))
unfolding walked
a_verdict_is_no_exit_status = refl

pub an_exit_status_is_no_verdict : flags (codes "rvmove" ∷ codes "run" ∷ codes "--exit-status" ∷ codes "a" ∷ []) ≡ Some (Some (codes "false"), Some (codes "true"))
unfolding walked
an_exit_status_is_no_verdict = refl

-- whether a verdict is asked for
abbrev verdict : List Text → Option (Option Text)
verdict words = option_map (λ command. one_of (codes "verdict") command.1) (subcommand_of program words)

pub a_move_is_not_judged_unasked : verdict (codes "rvmove" ∷ codes "move" ∷ codes "a" ∷ []) ≡ Some (Some (codes "false"))
unfolding walked
a_move_is_not_judged_unasked = refl

pub a_move_is_judged : verdict (codes "rvmove" ∷ codes "move" ∷ codes "--verdict" ∷ codes "a" ∷ []) ≡ Some (Some (codes "true"))
unfolding walked
a_move_is_judged = refl

pub an_audit_is_not_judged : verdict (codes "rvmove" ∷ codes "audit" ∷ codes "a" ∷ []) ≡ Some None
unfolding walked
an_audit_is_not_judged = refl

-- the words of a host
abbrev host_words : (more : List Text) → List Text
host_words more =
    codes "rvmove" ∷ codes "host" ∷ codes "A" ∷ codes "--peers" ∷ codes "p" ∷ codes "--control" ∷ codes "c" ∷ more

pub a_host_is_not_judged_unasked : verdict (host_words []) ≡ Some (Some (codes "false"))
unfolding walked
a_host_is_not_judged_unasked = refl

pub a_host_is_judged : verdict (host_words (codes "--verdict" ∷ [])) ≡ Some (Some (codes "true"))
unfolding walked
a_host_is_judged = refl

-- whether the refusal of the command that words name is explained
abbrev explained : List Text → Option (Option Text)
explained words = option_map (λ command. one_of (codes "explain") command.1) (subcommand_of program words)

pub no_refusal_is_explained_unasked : explained (codes "rvmove" ∷ codes "run" ∷ codes "a" ∷ []) ≡ Some (Some (codes "false"))
unfolding walked
no_refusal_is_explained_unasked = refl

pub a_refusal_is_explained : explained (codes "rvmove" ∷ codes "tell" ∷ codes "--explain" ∷ codes "./a" ∷ []) ≡ Some (Some (codes "true"))
unfolding walked
a_refusal_is_explained = refl

pub a_coverage_has_a_file : value (codes "rvmove" ∷ codes "run" ∷ codes "a" ∷ codes "--coverage" ∷ codes "b" ∷ []) (codes "coverage") ≡ Some (Some (codes "b"))
unfolding walked
a_coverage_has_a_file = refl

-- the words of an audit of two journals
abbrev audit_words : List Text
audit_words =
    codes "rvmove" ∷ codes "audit-journals" ∷ codes "a" ∷ codes "--image" ∷ codes "c" ∷ codes "b" ∷ codes "--order" ∷ []

pub an_audit_has_all_its_journals : option_map (λ command. all_of (codes "journal") command.1) (subcommand_of program audit_words)
    ≡ Some (Some (codes "a" ∷ codes "b" ∷ []))
unfolding walked
an_audit_has_all_its_journals = refl

pub an_audit_has_its_image : value audit_words (codes "image") ≡ Some (Some (codes "c"))
unfolding walked
an_audit_has_its_image = refl

pub a_chart_has_a_file : value (codes "rvmove" ∷ codes "audit-journals" ∷ codes "a" ∷ codes "--image" ∷ codes "c" ∷ codes "--chart" ∷ codes "b" ∷ [])
    (codes "chart") ≡ Some (Some (codes "b"))
unfolding walked
a_chart_has_a_file = refl

-- the words of a replay of turns
abbrev replay_words : List Text
replay_words =
    codes "rvmove" ∷ codes "replay" ∷ codes "a" ∷ codes "b" ∷ codes "--turns" ∷ codes "7" ∷ codes "--image" ∷ codes "c" ∷ []

pub a_replay_has_all_its_journals : option_map (λ command. all_of (codes "journal") command.1) (subcommand_of program replay_words)
    ≡ Some (Some (codes "a" ∷ codes "b" ∷ []))
unfolding walked
a_replay_has_all_its_journals = refl

pub a_replay_has_its_turns : value replay_words (codes "turns") ≡ Some (Some (codes "7"))
unfolding walked
a_replay_has_its_turns = refl

pub a_run_has_its_journal : value (codes "rvmove" ∷ codes "run" ∷ codes "a" ∷ codes "--journal" ∷ codes "b" ∷ []) (codes "journal") ≡ Some (Some (codes "b"))
unfolding walked
a_run_has_its_journal = refl
