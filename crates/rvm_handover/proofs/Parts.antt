-- A piece of a state is answered as the protocol of live migration says.
use Rattle.std.proofs.Common.{◌≡◌, ◌<◌, ℕ, ◌*◌, ◌==◌, ◌&&◌, Bool, true, false, nat_lt, if◌then◌else◌, List, length, get_or, replicate, Option, Some, None, refl, sym, ap, subst, ◌∙◌, arith}
use Rattle.std.specs.Prelude.{is_some, option_map}
use Rattle.std.proofs.Math.Path.{fun_ext}
use Rattle.std.proofs.lemmas.Bool.{ltb-true}
use Rattle.rvm_frame.specs.Bodies as frame
use Rattle.rvm_protocol.specs.Modes.{Staging, says, sends, refuses, ignores}
use Rattle.rvm_protocol.specs.Frames.{Lost}
use Rattle.rvm_protocol.specs.Pages.{gathered, put, size}
use Rattle.rvm_protocol.specs.Receiving.{guest_read, part_came, part_kept, pieces_joined, state_came}
use Rattle.rvm_protocol.specs.Replies.{BadState, Kept, Lacking, Reply}
use Rattle.rvm_protocol.specs.Staging.{Stage, lacks, takes_part, with_part}
use Rattle.rvm_guest.specs.Pages.{joined}
use Rattle.rvm_guest.specs.Pieces.{join}
use Rattle.rvm_guest.specs.TheGuest.{board}
use Rattle.rvm_handover.specs.Outcomes.{BoardOutcome, IsLeft, ready}
use Rattle.rvm_handover.specs.Pieces.{IsPartLeft, is_partial, left_of, pieces_before, reason_joined, with_piece}
use Rattle.rvm_handover.specs.Stages.{PlainStage, stage_of}
use Rattle.rvm_handover.proofs.States.{by_count, came_if, with_pieces}
use Rattle.rvm_handover.specs.declared.not_joined.NotJoined.{NotJoined}
use Rattle.rvm_handover.specs.declared.not_ready.NotReady.{NotReady}
use Rattle.rvm_handover.specs.declared.not_ready.NotReady.TheVariants as ready_not
use Rattle.rvm_board.specs.Guest.{Guest}
use Rattle.rvm_board.specs.declared.event.BoardReply.{BoardReply}
use Rattle.rvm_handover.proofs.Tables.{of_replicate, set_is_put}

-- the pieces that stay beside a new one, as a table by index
before_is : (b : Bool) (pieces : List (Option (List ℕ))) → ◌≡◌ {A = ℕ → Option (List ℕ)} (λ i. get_or (if b then replicate 6 None else pieces) i None) (if b then (λ i. None) else (λ i. get_or pieces i None))
before_is true pieces = fun_ext (λ i. of_replicate {V = Option (List ℕ)} 6 i None)
before_is false pieces = refl

six : (b : Bool) (pieces : List (Option (List ℕ))) → length pieces ≡ 6 → length (if b then replicate 6 None else pieces) ≡ 6
six true pieces l = refl
six false pieces l = l

pub stage_with_piece : (s : PlainStage) (stamp part parts : ℕ) (bytes : List ℕ) → length s.pieces ≡ 6 → part < 6
    → stage_of (with_piece stamp part parts bytes s) ≡ with_part (stage_of s) stamp part parts bytes
stage_with_piece s stamp part parts bytes l lt =
    let long = six (nat_lt s.stamp stamp) s.pieces l in
    let one = set_is_put (pieces_before stamp s) part (Some bytes) None (omega (arith, lt, long)) in
    let all = one ∙ ap (λ f. put f part (Some bytes)) (before_is (nat_lt s.stamp stamp) s.pieces) in
    λ i. record { pages = (stage_of s).pages; have = (stage_of s).have; processors = s.harts; stamp = stamp; parts = parts; pieces = all i }

-- THE OUTCOME OF A PIECE, BY THE BYTES OF ALL

abbrev pub by_whole : (move : ℕ) → (old s : Stage (List ℕ)) → (part parts : ℕ) → Option (List ℕ) → BoardOutcome
by_whole move old s part parts None = says (Kept part parts) (Staging move s)
by_whole move old s part parts (Some bytes) = pieces_joined board move old s (frame.state.read bytes)

kept_is : (move : ℕ) (old s : Stage (List ℕ)) (part parts : ℕ) (o : Option (List (List ℕ))) → part_kept board move old s part parts o ≡ by_whole move old s part parts (option_map joined o)
unfolding board join
kept_is move old s part parts None = refl
kept_is move old s part parts (Some ps) = refl

pub part_is : (move : ℕ) (s : PlainStage) (stamp part parts : ℕ) (bytes : List ℕ) (whole : Option (List ℕ)) → takes_part (stage_of s) stamp part parts ≡ true
    → whole ≡ option_map joined (gathered (with_part (stage_of s) stamp part parts bytes).pieces 0 parts)
    → part_came board move (stage_of s) stamp part parts bytes ≡ by_whole move (stage_of s) (with_part (stage_of s) stamp part parts bytes) part parts whole
part_is move s stamp part parts bytes whole takes is =
    let t : Stage (List ℕ) = with_part (stage_of s) stamp part parts bytes in
    ap (λ (b : Bool). if b then part_kept board move (stage_of s) t part parts (gathered t.pieces 0 parts) else ignores (Staging move (stage_of s))) takes
    ∙ kept_is move (stage_of s) t part parts (gathered t.pieces 0 parts)
    ∙ ap (λ o. by_whole move (stage_of s) t part parts o) (sym is)

pub ignored_is : (move : ℕ) (s : PlainStage) (stamp part parts : ℕ) (bytes : List ℕ) → takes_part (stage_of s) stamp part parts ≡ false
    → part_came board move (stage_of s) stamp part parts bytes ≡ ignores (Staging move (stage_of s))
ignored_is move s stamp part parts bytes not =
    let t : Stage (List ℕ) = with_part (stage_of s) stamp part parts bytes in
    ap (λ (b : Bool). if b then part_kept board move (stage_of s) t part parts (gathered t.pieces 0 parts) else ignores (Staging move (stage_of s))) not

and_first : (a b : Bool) → (a && b) ≡ true → a ≡ true
and_first true b h = refl
and_first false b h = h

pub is_place : (s : PlainStage) (stamp part parts : ℕ) → takes_part (stage_of s) stamp part parts ≡ true → part < parts
is_place s stamp part parts h = ltb-true part parts (and_first (nat_lt part parts) _ h)

-- OUT OF MEMORY, IF ALL PIECES ARE THERE

read_whole : (move : ℕ) (old : Stage (List ℕ)) (made : Option Guest) → is_partial (guest_read board move old made).reply ≡ false
read_whole move old None = refl
read_whole move old (Some g) = refl

pub state_whole : (move : ℕ) (old s : Stage (List ℕ)) (numbers body : List ℕ) (count : ℕ) (fits some : Bool)
    → is_partial (came_if move old s numbers body count fits some).reply ≡ false
state_whole move old s numbers body count false some = refl
state_whole move old s numbers body count true true = refl
state_whole move old s numbers body count true false = read_whole move old (board.build s.processors body s.pages)

joined_whole : (move : ℕ) (old s : Stage (List ℕ)) (state : Option (List ℕ × List ℕ)) → is_partial (pieces_joined board move old s state).reply ≡ false
joined_whole move old s None = refl
joined_whole move old s (Some state) =
    state_whole move old s state.0 state.1 (length s.pages) (length state.0 == length s.pages) (nat_lt 0 (size (lacks s state.0) (length s.pages)))

kept_whole : (move : ℕ) (old s : Stage (List ℕ)) (part parts : ℕ) (o : Option (List (List ℕ))) → is_some o ≡ true
    → is_partial (part_kept board move old s part parts o).reply ≡ false
kept_whole move old s part parts None h = absurd cc
kept_whole move old s part parts (Some pieces) h = joined_whole move old s (board.join pieces)

pub lack_of_whole : (move : ℕ) (s : PlainStage) (stamp part parts : ℕ) (bytes : List ℕ) → takes_part (stage_of s) stamp part parts ≡ true
    → is_some (gathered (with_part (stage_of s) stamp part parts bytes).pieces 0 parts) ≡ true
    → is_partial (part_came board move (stage_of s) stamp part parts bytes).reply ≡ false
lack_of_whole move s stamp part parts bytes takes there =
    let t : Stage (List ℕ) = with_part (stage_of s) stamp part parts bytes in
    ap (λ (b : Bool). is_partial (if b then part_kept board move (stage_of s) t part parts (gathered t.pieces 0 parts) else ignores (Staging move (stage_of s))).reply) takes
    ∙ kept_whole move (stage_of s) t part parts (gathered t.pieces 0 parts) there

-- THE STATE THAT PIECES JOIN TO

reply_of : BoardOutcome → Reply BoardReply
reply_of o = o.reply

no_lack : (move : ℕ) (old s : Stage (List ℕ)) (made : Option Guest) (ps : List ℕ) → guest_read board move old made ≡ sends (Lacking (length ps)) (Lost move ps) (Staging move s) → ⊥
unfolding reply_of
no_lack move old s None ps h = let r = ap reply_of h in cc
no_lack move old s (Some g) ps h = let r = ap reply_of h in cc

module _ (move : ℕ) (s : PlainStage) (stamp parts : ℕ) (pieces : ℕ → Option (List ℕ)) (numbers body : List ℕ) (count : ℕ) where
  abbrev next : Stage (List ℕ)
  next = with_pieces s stamp parts pieces

  same_ready : (fits some : Bool) (g : Guest) → came_if move (stage_of s) (stage_of s) numbers body count fits some ≡ ready move g
      → came_if move (stage_of s) next numbers body count fits some ≡ ready move g
  unfolding reply_of
  same_ready false some g h = h
  same_ready true false g h = h
  same_ready true true g h = let r = ap reply_of h in absurd cc

  same_bad : (fits some : Bool) → came_if move (stage_of s) (stage_of s) numbers body count fits some ≡ refuses BadState (Staging move (stage_of s))
      → came_if move (stage_of s) next numbers body count fits some ≡ refuses BadState (Staging move (stage_of s))
  unfolding reply_of
  same_bad false some h = h
  same_bad true false h = h
  same_bad true true h = let r = ap reply_of h in absurd cc

  same_lack : (fits some : Bool) (ps : List ℕ) → came_if move (stage_of s) (stage_of s) numbers body count fits some ≡ sends (Lacking (length ps)) (Lost move ps) (Staging move (stage_of s))
      → came_if move (stage_of s) next numbers body count fits some ≡ sends (Lacking (length ps)) (Lost move ps) (Staging move next)
  unfolding reply_of
  same_lack false some ps h = let r = ap reply_of h in absurd cc
  same_lack true false ps h = absurd (no_lack move (stage_of s) (stage_of s) (board.build s.harts body (stage_of s).pages) ps h)
  same_lack true true ps h = ap (λ (o : BoardOutcome). record o { next = Staging move next }) h

module _ (move : ℕ) (s : PlainStage) (stamp part parts : ℕ) (bytes numbers body : List ℕ) (l : length s.bytes ≡ 4096 * length s.have) where
  abbrev kept : Stage (List ℕ)
  kept = with_part (stage_of s) stamp part parts bytes

  own : state_came board move (stage_of s) (stage_of s) numbers body
      ≡ came_if move (stage_of s) (stage_of s) numbers body (length s.have) (length numbers == length s.have) (nat_lt 0 (size (lacks (stage_of s) numbers) (length s.have)))
  own = by_count move s s.stamp s.parts (λ i. get_or s.pieces i None) numbers body l

  other : state_came board move (stage_of s) kept numbers body
      ≡ came_if move (stage_of s) kept numbers body (length s.have) (length numbers == length s.have) (nat_lt 0 (size (lacks (stage_of s) numbers) (length s.have)))
  other = by_count move s stamp parts kept.pieces numbers body l

  pub ready_too : (g : Guest) → state_came board move (stage_of s) (stage_of s) numbers body ≡ ready move g
      → state_came board move (stage_of s) kept numbers body ≡ ready move g
  ready_too g h = other ∙ same_ready move s stamp parts kept.pieces numbers body (length s.have) _ _ g (sym own ∙ h)

  pub left_too : (reason : NotReady) → length s.pieces ≡ 6 → part < 6 → IsLeft move reason s (state_came board move (stage_of s) (stage_of s) numbers body)
      → IsPartLeft move part parts (reason_joined reason) (left_of (reason_joined reason) (with_piece stamp part parts bytes s) s) (state_came board move (stage_of s) kept numbers body)
  left_too (ready_not.Lacking ps) places lt h =
      other ∙ same_lack move s stamp parts kept.pieces numbers body (length s.have) _ _ ps (sym own ∙ h)
      ∙ ap (λ x. sends (Lacking (length ps)) (Lost move ps) (Staging move x)) (sym (stage_with_piece s stamp part parts bytes places lt))
  left_too ready_not.BadState places lt h = other ∙ same_bad move s stamp parts kept.pieces numbers body (length s.have) _ _ (sym own ∙ h)
  left_too ready_not.OutOfMemory places lt h =
      state_whole move (stage_of s) kept numbers body (length kept.pages) (length numbers == length kept.pages) (nat_lt 0 (size (lacks kept numbers) (length kept.pages)))

-- the outcome stays right for a reason and a stage that are equal to others
pub left_kept : (move stamp part parts : ℕ) (bytes : List ℕ) (s t u : PlainStage) (r : NotReady) (j : NotJoined) (o : BoardOutcome)
    → j ≡ reason_joined r → u ≡ left_of j (with_piece stamp part parts bytes t) t → t ≡ s
    → IsPartLeft move part parts (reason_joined r) (left_of (reason_joined r) (with_piece stamp part parts bytes s) s) o
    → IsPartLeft move part parts j u o
left_kept move stamp part parts bytes s t u r j o ej eu et h =
    subst (λ (x : PlainStage). IsPartLeft move part parts j x o) (sym (eu ∙ ap (λ (x : PlainStage). left_of j (with_piece stamp part parts bytes x) x) et))
    (subst (λ (i : NotJoined). IsPartLeft move part parts i (left_of i (with_piece stamp part parts bytes s) s) o) (sym ej) h)
