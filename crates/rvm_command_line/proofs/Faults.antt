-- Of which kinds the faults of a command line are.
use Rattle.std.proofs.Common.{◌≡◌, ◌∙◌, [], ◌∷◌, List, Result, Ok, Err, true, refl, ap, subst, sym, inl, inr}
use Rattle.std.specs.Result.{IfErr, IsErrAnd}
use Rattle.clap.specs.Faults.{fault_of, is_simple_and_free}
use Rattle.clap.specs.Kinds.{HasKind, Kinds, or_else}
use Rattle.clap.specs.Simple.{App}
use Rattle.clap.specs.Walk.{Text}
use Rattle.clap.specs.declared.error.Error.{Error}
use Rattle.clap.specs.declared.error.kind.ErrorKind.TheVariants as kind
use Rattle.rvm_command_line.specs.Program.{faults_of, program}

-- an error of the first kinds is one of theirs, whatever comes after them
first_kinds : (first next : Kinds) (e : Error) → HasKind first e → HasKind (or_else first next) e
first_kinds [] next e (inl memory) = inl memory
first_kinds [] next e (inr none) = absurd none
first_kinds (k ∷ ks) next e has = has

is_simple_program : is_simple_and_free program ≡ true
is_simple_program = refl

-- what `clap` returns for the words is among the faults of the command line
pub found : (a : App) (words : List Text) (e : Error) → a ≡ program
    → (is_simple_and_free a ≡ true → HasKind (fault_of a words) e) → HasKind (faults_of words) e
found a words e made fails =
    first_kinds (fault_of program words) (kind.ValueValidation ∷ []) e
    (subst (λ p. HasKind (fault_of p words) e) made (fails (ap is_simple_and_free made ∙ is_simple_program)))

-- if `clap` returns no error, it finds no fault in the words
pub taken : (a : App) (words : List Text) → a ≡ program → (is_simple_and_free a ≡ true → fault_of a words ≡ [])
    → fault_of program words ≡ []
taken a words made none =
    subst (λ p. fault_of p words ≡ []) made (none (ap is_simple_and_free made ∙ is_simple_program))

-- if `clap` takes the words, an invalid value is among the faults of the command line
pub valueless : (words : List Text) (e : Error) → fault_of program words ≡ [] → HasKind (kind.ValueValidation ∷ []) e
    → HasKind (faults_of words) e
valueless words e none has = subst (λ f. HasKind (or_else f (kind.ValueValidation ∷ [])) e) (sym none) has

-- an error that is passed on is among the faults if it was before
pub handed_on : {A : Type 0} (words : List Text) (x : Error) (r : Result A Error) → IsErrAnd r (λ e. e ≡ x)
    → HasKind (faults_of words) x → IfErr r (HasKind (faults_of words))
handed_on words x (Ok a) none has = absurd none
handed_on words x (Err e) same has = subst (HasKind (faults_of words)) (sym same) has
