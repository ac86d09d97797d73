-- Frames whose bytes can be kept, and the bytes that are read back.
use Rattle.std.specs.Prelude.{ℕ, ◌≤◌, ◌==◌, List, [], ◌∷◌, ◌++◌, if◌then◌else◌, length, Option, Some, None}
use Rattle.rvm_frame.specs.declared.addressed.Addressed.{Addressed}
use Rattle.rvm_frame.specs.Grammar.{HasSpelling, sent, spelling}
use Rattle.rvm_frame.specs.Pages.{zeros}

-- a frame has a spelling of at most this many bytes
pub record Fits (version most : ℕ) (a : Addressed) : Type 0 where
  pub spelled : HasSpelling (sent version a)
  pub short : length (spelling (sent version a)) ≤ most

-- a frame that was made, if any, has a spelling of at most this many bytes
abbrev pub CanBeKept : (version most : ℕ) → Option Addressed → Type 0
CanBeKept version most None = Unit {0}
CanBeKept version most (Some a) = Fits version most a

-- the bytes of a frame, by what is kept of them: after a 0 all of them, after any other number those before a page of
-- zeros
abbrev pub told : List ℕ → List ℕ
told [] = []
told (first ∷ front) = if first == 0 then front else front ++ zeros
