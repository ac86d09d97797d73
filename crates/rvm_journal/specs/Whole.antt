-- The whole lines of the bytes of a journal.
use Rattle.std.specs.Prelude.{◌≡◌, ◌⊎◌, true, List, [], ◌++◌, ℕ, Option, IfSome, codes}
use Rattle.std.specs.List.{list_all}
use Rattle.rvm_journal.specs.Written.{is_no_feed}

-- these are the whole lines of some bytes: all bytes up to and with the last line feed
pub record AreWholeLines (bytes whole : List ℕ) : Type 0 where
  pub rest : List ℕ
  pub all : bytes ≡ whole ++ rest
  pub part : list_all is_no_feed rest ≡ true
  pub ends : (whole ≡ []) ⊎ ((before : List ℕ) × (whole ≡ before ++ codes "\n"))

-- the text of a journal: the whole lines of a file, if its bytes are known
abbrev pub IsJournal : (known : Option (List ℕ)) → (text : List ℕ) → Type 0
IsJournal known text = IfSome known (λ bytes. AreWholeLines bytes text)
