-- Words that ask for the version of the program.
use Rattle.std.specs.Prelude.{◌≡◌, ◌⊎◌, ◌++◌, List, ℕ, codes}

-- this word asks for the version
abbrev pub IsVersionWord : (word : List ℕ) → Type 0
IsVersionWord word = (word ≡ codes "--version") ⊎ (word ≡ codes "-V")

-- the line that tells the version, and what the program was built from
abbrev pub version_line : (build : List ℕ) → List ℕ
version_line build = codes "rvmove 0.1.0 (" ++ build ++ codes ")\n"
