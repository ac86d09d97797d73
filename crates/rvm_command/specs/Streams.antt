-- The frames of a stream, given one after the other to whoever hears them, and how far a stream was read.
use Rattle.std.specs.Prelude.{◌≡◌, ℕ, ◌≤◌, false, List, [], ◌∷◌, ◌++◌, take, length, Option, Some, None}
use Rattle.rvm_frame.specs.declared.frame.Frame.{Frame}
use Rattle.rvm_frame.specs.Grammar.{HasSpelling, Received, Spells, spelling}
use Rattle.rvm_frame.specs.Kinds.{version_after}
use Rattle.rvm_frame.specs.Reader.{Gathered}
use Rattle.rvm_frame.specs.Stream.{Splits}

-- a reader between two frames of a stream of this version; before Hello it has none
abbrev pub between : (version : Option ℕ) → Gathered
between version = record { version = version; failed = false; bytes = [] }

-- frames one after the other, as a stream has them whose headers name no hosts
unfoldable pub bytes_of : List Frame → List ℕ
bytes_of [] = []
bytes_of (f ∷ fs) = spelling (None, f) ++ bytes_of fs

-- each of these frames has a spelling
unfoldable pub AreSpelled : List Frame → Type 0
AreSpelled [] = Unit {0}
AreSpelled (f ∷ fs) = HasSpelling (None, f) × AreSpelled fs

-- H are the states of who hears the frames, of whom `hears` says what a frame does, and `result` what was made in the end
module _ {H G : Type 0} (hears : Received → H → H) (result : H → Option G) where
  -- the state after a list of frames
  unfoldable pub after_all : List Received → H → H
  after_all [] h = h
  after_all (x ∷ xs) h = after_all xs (hears x h)

  -- bytes from the next frame of a stream of this version on are frames, after which g was made
  pub record Reads (version : Option ℕ) (bytes : List ℕ) (h : H) (g : G) : Type 0 where
    pub frames : List Received
    pub split : Splits version bytes frames []
    pub made : result (after_all frames h) ≡ Some g

  -- the first n of the bytes that are left are a frame, after which the reader and who hears it are these
  pub record Hears (version : Option ℕ) (left : List ℕ) (h : H) (n : ℕ) (reader : Gathered) (next : H) : Type 0 where
    pub frame : Received
    pub within : n ≤ length left
    pub spells : Spells version (take n left) frame
    pub reader_is : reader ≡ between (version_after version frame.1)
    pub next_is : next ≡ hears frame h

  -- what the bytes that are left make from here on is what all bytes make from the start on
  pub record GoesOn (start : H) (bytes : List ℕ) (version : Option ℕ) (left : List ℕ) (h : H) : Type 0 where
    pub sound : (g : G) → Reads version left h g → Reads None bytes start g
    pub whole : (g : G) → Reads None bytes start g → Reads version left h g
