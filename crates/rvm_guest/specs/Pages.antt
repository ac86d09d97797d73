-- The pages of a guest, the guest that an event leaves, and the pages that it writes.
use Rattle.std.specs.Prelude.{ℕ, zero, suc, ◌/◌, Bool, false, ◌&&◌, ◌==◌, List, [], ◌∷◌, ◌++◌, length, replicate, take, drop}
use Rattle.std.specs.List.{list_all}
pub use Rattle.rvm_frame.specs.Pages.{zeros}
use Rattle.rvm_mem.specs.Pages.{has, mark_all}
use Rattle.rvm_board.specs.declared.event.BoardEvent.{BoardEvent}
use Rattle.rvm_board.specs.Guest.{Guest}
use Rattle.rvm_board.specs.Events.{answered}

-- the number of bytes of a guest's RAM
abbrev pub size_of : Guest → ℕ
size_of g = length g.board.shared.bytes

-- the number of whole pages of a guest's RAM
abbrev pub count_of : Guest → ℕ
count_of g = size_of g / 4096

-- this many consecutive pages of bytes
unfoldable pub pages_at : (count : ℕ) → List ℕ → List (List ℕ)
pages_at zero bytes = []
pages_at (suc n) bytes = take 4096 bytes ∷ pages_at n (drop 4096 bytes)

-- all whole pages of bytes
abbrev pub pages_in : List ℕ → List (List ℕ)
pages_in bytes = pages_at (length bytes / 4096) bytes

-- all pages of a guest
abbrev pub pages_of : Guest → List (List ℕ)
pages_of g = pages_in g.board.shared.bytes

-- lists of bytes, concatenated
unfoldable pub joined : List (List ℕ) → List ℕ
joined [] = []
joined (bytes ∷ rest) = bytes ++ joined rest

-- the guest after an event, as its debugger leaves it
abbrev pub after : Guest → BoardEvent → Guest
after g e = (answered e g).guest

-- whether an event of a guest writes a page
unfoldable pub writes : Guest → BoardEvent → ℕ → Bool
writes g e page = has page (mark_all (answered e g).pages (replicate (count_of g) false))

-- whether these bytes are a page of zeros
abbrev pub is_zeros : List ℕ → Bool
is_zeros bytes = (length bytes == 4096) && list_all (λ b. b == 0) bytes
