-- The target of a move: pages are staged as their copies come, each replaced only by newer copies,
-- until a state names copies that are all there.
use Rattle.std.specs.Prelude.{ℕ, Bool, ◌&&◌, ◌||◌, ◌==◌, if◌then◌else◌, nat_lt, List, get_or, set, replicate}
use Rattle.std.specs.declared.option.Option.{Option}
use Rattle.std.specs.declared.option.Option.TheVariants.{Some, None}
use Rattle.rvm_protocol.specs.Pages.{Pages, put}

-- what a target keeps of a guest that comes: its pages, and the pieces of its state
pub record Stage (P : Type 0) : Type 0 where
  pub pages : List P
  -- the number of each page's copy that is staged, 0 for none
  pub have : ℕ → ℕ
  pub processors : ℕ
  -- the pieces of a state that are kept: the highest stamp seen, its count of parts, and by number
  pub stamp : ℕ
  pub parts : ℕ
  pub pieces : ℕ → Option (List ℕ)

-- an empty stage: pages of zeros, no copy and no piece
abbrev pub new_stage : {P : Type 0} → P → (pages processors : ℕ) → Stage P
new_stage zeros pages processors =
    record {
      pages = replicate pages zeros;
      have = λ p. 0;
      processors = processors;
      stamp = 0;
      parts = 0;
      pieces = λ i. None;
    }

-- the stage with a copy of page p
abbrev pub with_page : {P : Type 0} → Stage P → (p number : ℕ) → P → Stage P
with_page s p number b =
    record s { pages = set s.pages p b; have = put s.have p number }

-- the pages whose staged copy is older than the one named
abbrev pub lacks : {P : Type 0} → Stage P → List ℕ → Pages
lacks s numbers p = nat_lt (s.have p) (get_or numbers p 0)

-- the stage takes a piece if it is one of its parts, and its stamp is above all that were seen in
-- this move, or is the highest and has the same count of parts
abbrev pub takes_part : {P : Type 0} → Stage P → (stamp part parts : ℕ) → Bool
takes_part s stamp part parts =
    nat_lt part parts && (nat_lt s.stamp stamp || (stamp == s.stamp && parts == s.parts))

-- the stage with a piece; a higher stamp drops the pieces kept
abbrev pub with_part : {P : Type 0} → Stage P → (stamp part parts : ℕ) → List ℕ → Stage P
with_part s stamp part parts bytes =
    record s {
      stamp = stamp;
      parts = parts;
      pieces = put (if nat_lt s.stamp stamp then (λ i. None) else s.pieces) part (Some bytes);
    }
