-- The stage of a guest that is on its way, as plain values and as the protocol of live migration has it.
use Rattle.std.specs.Prelude.{ℕ, ◌*◌, Bool, ◌&&◌, nat_lt, List, length, get_or, slice_set, replicate, Option, None}
use Rattle.rvm_mem.specs.Bytes.{replaced}
use Rattle.rvm_protocol.specs.Pages.{Pages}
use Rattle.rvm_protocol.specs.Staging as protocol
use Rattle.rvm_guest.specs.Pages.{pages_in}

-- a stage: the RAM so far; for each page the number of the copy that is here, 0 for none; the number of the guest's
-- harts; and, of the pieces of its state that are kept, the stamp, their state's count of pieces, and each piece by its
-- index
pub record PlainStage : Type 0 where
  pub bytes : List ℕ
  pub have : List ℕ
  pub harts : ℕ
  pub stamp : ℕ
  pub parts : ℕ
  pub pieces : List (Option (List ℕ))

-- a stage, as the protocol has it
abbrev pub stage_of : PlainStage → protocol.Stage (List ℕ)
stage_of s =
    record {
      pages = pages_in s.bytes;
      have = λ p. get_or s.have p 0;
      processors = s.harts;
      stamp = s.stamp;
      parts = s.parts;
      pieces = λ i. get_or s.pieces i None;
    }

-- a stage of this many pages of zeros, with no copy and no piece
abbrev pub blank : (pages harts : ℕ) → PlainStage
blank pages harts =
    record {
      bytes = replicate (4096 * pages) 0;
      have = replicate pages 0;
      harts = harts;
      stamp = 0;
      parts = 0;
      pieces = replicate 6 None;
    }

-- whether a page is one of the guest's and a copy of it with this number is newer than the one that is here
abbrev pub is_newer : (page number : ℕ) → PlainStage → Bool
is_newer page number s = nat_lt page (length s.have) && nat_lt (get_or s.have page 0) number

-- the stage with this copy of a page
abbrev pub with_copy : (page number : ℕ) → List ℕ → PlainStage → PlainStage
with_copy page number new s =
    record s { bytes = replaced (4096 * page) new s.bytes; have = slice_set s.have page number }

-- the pages of which the copy here is older than the one that is named
abbrev pub is_older : (have numbers : List ℕ) → Pages
is_older have numbers page = nat_lt (get_or have page 0) (get_or numbers page 0)
