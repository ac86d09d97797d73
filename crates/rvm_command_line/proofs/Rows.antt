-- What `clap` gives for an option, by the rows of a command.
use Rattle.std.proofs.Common.{◌≡◌, ◌∙◌, sym, Bool, Option, List, true, refl, ap, subst, option_map}
use Rattle.clap.specs.Matches.{first_value, matched_of, one_text, raw_values}
use Rattle.clap.specs.Simple.{App, HasMatchesOf, is_simple, subcommand_of, subcommand_rows_of}
use Rattle.std.specs.Prelude.{None, Some, find, option_and_then}
use Rattle.std.specs.Str.{bytes_eq}
use Rattle.clap.specs.Facts.{Entry}
use Rattle.clap.specs.Walk.{Row, Text, all_of, first_of, one_of, row_of, rows_of}
use Rattle.clap.specs.declared.parser.matches.MatchedArg.{MatchedArg}
use Rattle.clap.specs.declared.parser.matches.ValueSource.{ValueSource}
use Rattle.clap.specs.declared.parser.matches.ArgMatches.{ArgMatches}
use Rattle.clap.specs.declared.parser.matches.Found.{Found}
use Rattle.clap.proofs.WalkLemmas as walk
use Rattle.rvm_arguments.specs.declared.arguments.Arguments.{Arguments}
use Rattle.rvm_command_line.specs.Given.{IsAsked, IsExplained, is_from_words, is_given}
use Rattle.rvm_command_line.specs.Program.{program}

pub first_row : (f : Found) (id : Text) (text : Option Text) → text ≡ first_value f id → text ≡ first_of id (rows_of f)
first_row f id text given = given ∙ walk.first_value-rows f id

pub all_rows : (f : Found) (id : Text) (texts : Option (List Text)) → texts ≡ option_map raw_values (matched_of f id)
    → texts ≡ all_of id (rows_of f)
all_rows f id texts given = given ∙ walk.raw_values-rows f id

pub one_row : (f : Found) (id : Text) → one_of id (rows_of f) ≡ one_text f id
one_row f id = sym (walk.one_text-rows f id)

source_row : (f : Found) (id : Text) → option_and_then (λ a. a.source) (matched_of f id)
    ≡ option_and_then (λ (r : Row). r.source) (find (λ r. bytes_eq r.id id) (rows_of f))
source_row f id = go (find (λ e. bytes_eq e.0.now id) f.entries.items)
    ∙ ap (option_and_then (λ (r : Row). r.source)) (sym (walk.find_row f.entries.items id))
  where
    go : (o : Option Entry) → option_and_then (λ (a : MatchedArg). a.source) (option_map (λ e. e.1) o)
        ≡ option_and_then (λ (r : Row). r.source) (option_map row_of o)
    go None = refl
    go (Some e) = refl

-- whether an option was given, by where its value came from
pub given_row : (f : Found) (id : Text) (given : Bool) (source : Option ValueSource)
    → source ≡ option_and_then (λ a. a.source) (matched_of f id) → given ≡ is_from_words source
    → given ≡ is_given id (rows_of f)
given_row f id given source is e = e ∙ ap is_from_words (is ∙ source_row f id)

is_simple_program : is_simple program ≡ true
is_simple_program = refl

-- what the matches of the program ask for, its words ask for
pub asked_of : (a : App) (words : List Text) (m : ArgMatches) (x : Arguments) → HasMatchesOf a words m → a ≡ program
    → IsAsked (subcommand_rows_of m) x → IsAsked (subcommand_of program words) x
asked_of a words m x matches made asked =
    subst (λ o. IsAsked o x) ((matches (ap is_simple made ∙ is_simple_program)).1 ∙ ap (λ p. subcommand_of p words) made) asked

-- and whether its refusal is explained
pub explained_of : (a : App) (words : List Text) (m : ArgMatches) (x : Bool) → HasMatchesOf a words m → a ≡ program
    → IsExplained (subcommand_rows_of m) x → IsExplained (subcommand_of program words) x
explained_of a words m x matches made explained =
    subst (λ o. IsExplained o x) ((matches (ap is_simple made ∙ is_simple_program)).1 ∙ ap (λ p. subcommand_of p words) made) explained
