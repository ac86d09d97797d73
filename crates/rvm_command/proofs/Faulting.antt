-- What is reported of a trap, from what a guest keeps for its hart.
use Rattle.std.proofs.Common.{◌≡◌, ℕ, ◌<◌, List, length, get_or, ap, ◌∙◌, arith}
use Rattle.std.proofs.lemmas.List.FromFn.{get_or-map-range_with_len, length-map-range_with_len}
use Rattle.rvm_board.specs.declared.part.HartPart.{HartPart}
use Rattle.rvm_board.specs.Board.{hart_at}
use Rattle.rvm_board.specs.Guest.{Guest}
use Rattle.rvm_board.specs.Parts.{part_of}
use Rattle.rvm_board.specs.State.{parts_of}

pub parts_count : (parts : List HartPart) (g : Guest) → parts ≡ parts_of g → length parts ≡ length g.board.harts
parts_count parts g e = ap length e ∙ length-map-range_with_len (λ h. part_of h g) 0 (length g.board.harts)

-- `mtval` of a hart
pub mtval_of : (parts : List HartPart) (h : ℕ) (d : HartPart) (g : Guest) → h < length g.board.harts → parts ≡ parts_of g → (get_or parts h d).fields.csrs.mtval ≡ (hart_at h g.board).csrs.mtval
mtval_of parts h d g below e =
    let f : ℕ → HartPart = λ k. part_of k g in
    ap (λ (l : List HartPart). (get_or l h d).fields.csrs.mtval) e
    ∙ ap (λ (p : HartPart). p.fields.csrs.mtval) (get_or-map-range_with_len f 0 (length g.board.harts) h h d below (omega arith))
