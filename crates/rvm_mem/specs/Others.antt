-- Pages in which nothing is written.
use Rattle.std.specs.Prelude.{◌≡◌, ◌≢◌, ℕ, List, [], ◌∷◌}
use Rattle.rvm_mem.specs.Pages.{page_of}

-- a page is not in a list
abbrev pub NoneOf : ℕ → List ℕ → Type 0
NoneOf page [] = Unit {0}
NoneOf page (one ∷ pages) = (one ≢ page) × NoneOf page pages

-- each page that is not in a list has the same bytes as before
abbrev pub Others : (pages : List ℕ) → (new old : List ℕ) → Type 0
Others pages new old = (page : ℕ) → NoneOf page pages → page_of page new ≡ page_of page old
