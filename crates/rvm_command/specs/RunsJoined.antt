-- A run that is broken off after some turns and goes on with the guest that it left.
use Rattle.std.specs.Prelude.{◌≡◌, ℕ, ◌+◌, ◌%◌, ◌<◌, [], ◌++◌, length}
use Rattle.rvm_board.specs.Guest.{Guest}
use Rattle.rvm_command.specs.declared.run.Ended.TheVariants.{StepsSpent}
use Rattle.rvm_command.specs.Run.{ran}

-- m turns without input that do not halt the board, and then n turns of the guest that they left, are m + n turns, if m
-- is above 0 and a multiple of 64 and of the number of harts: the same guest, pages, bytes and end
unfoldable pub RunsJoin : Type 0
RunsJoin =
    (m n : ℕ) (g : Guest) → 0 < m → m % 64 ≡ 0 → m % length g.board.harts ≡ 0
    → let a = ran m [] g in a.ended ≡ StepsSpent
    → let b = ran n [] a.guest in
    ran (m + n) [] g ≡ record {
      guest = b.guest;
      pages = a.pages ++ b.pages;
      written = a.written ++ b.written;
      ended = b.ended;
    }
