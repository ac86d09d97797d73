-- Words that ask for the version of the program.
use Rattle.std.proofs.Common.{◌≡◌, ◌∙◌, List, [], ◌∷◌, arith, ap, codes, inl, inr, length, map, refl, slice_index_or, sym}
use Rattle.clap.proofs.OnLiterals.{clap_on_literals}
use Rattle.clap.specs.Faults.{fault_of}
use Rattle.clap.specs.Walk.{Text}
use Rattle.clap.specs.declared.error.kind.ErrorKind.TheVariants as kind
use Rattle.rvm_command_line.specs.Program.{program}
use Rattle.rvmove.specs.Versions.{IsVersionWord}

-- of these words `clap` makes the version, whatever the program's name
asked : (name : Text) → fault_of program (name ∷ codes "--version" ∷ []) ≡ kind.DisplayVersion ∷ []
unfolding clap_on_literals
asked name = refl

asked_shortly : (name : Text) → fault_of program (name ∷ codes "-V" ∷ []) ≡ kind.DisplayVersion ∷ []
unfolding clap_on_literals
asked_shortly name = refl

asked_by : (name word : Text) → IsVersionWord word → fault_of program (name ∷ word ∷ []) ≡ kind.DisplayVersion ∷ []
asked_by name word (inl is) = ap (λ w. fault_of program (name ∷ w ∷ [])) is ∙ asked name
asked_by name word (inr is) = ap (λ w. fault_of program (name ∷ w ∷ [])) is ∙ asked_shortly name

-- of two words, the second is one of these
pub version_asked : {X : Type 0} (text : X → Text) (words : List X) (word : X) → length words ≡ 2
    → word ≡ slice_index_or words 1 word → IsVersionWord (text word)
    → fault_of program (map text words) ≡ kind.DisplayVersion ∷ []
version_asked text [] word two is asks = absurd (omega (arith, two))
version_asked text (a ∷ []) word two is asks = absurd (omega (arith, two))
version_asked text (a ∷ b ∷ []) word two is asks =
    ap (λ w. fault_of program (text a ∷ text w ∷ [])) (sym is) ∙ asked_by (text a) (text word) asks
version_asked text (a ∷ b ∷ c ∷ more) word two is asks = absurd (omega (arith, two))
