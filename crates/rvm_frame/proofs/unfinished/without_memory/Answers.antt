use Rattle.std.proofs.Common.{arith, refl, sym, ap, ◌∙◌, ◌≡◌, ◌-◌, Bool, true, false, take}
use Rattle.std.specs.Prelude.{is_some}
use Rattle.rvm_frame.specs.Kinds.{header_len, names_hosts}
use Rattle.rvm_frame.specs.Unfinished.{frame_behind}
use Rattle.rvm_frame.specs.Verdict.{wanted}
use Rattle.rvm_frame.proofs.Parts.{body_there, none_refused, short_lacks, some_lacks}
use Rattle.rvm_frame.proofs.unfinished.without_memory.Goals as goal

pub returns-then-piece-want : goal.returns-then-piece-want
returns-then-piece-want c =
    let v = c.args.version in
    let named = names_hosts v in
    let full : c.header_len.result ≡ header_len named = c.header_len.ensures ∙ ap header_len c.names_hosts-named.ensures in
    let w : c.next_check.result ≡ wanted named c.args.head.now = c.next_check.ensures ∙ ap (λ (b : Bool). wanted b c.args.head.now) c.names_hosts-named.ensures in
    let want = c.next_check.result - c.header_len.result in
    short_lacks v c.args.head.now c.args.piece.now want c.requires.header c.requires.waits (omega (arith, w, full)) (search (arith))

pub returns-then-is_whole_body : goal.returns-then-is_whole_body
returns-then-is_whole_body c =
    let v = c.args.version in
    let named = names_hosts v in
    let full : c.header_len.result ≡ header_len named = c.header_len.ensures ∙ ap header_len c.names_hosts-named.ensures in
    let w : c.next_check.result ≡ wanted named c.args.head.now = c.next_check.ensures ∙ ap (λ (b : Bool). wanted b c.args.head.now) c.names_hosts-named.ensures in
    let want = c.next_check.result - c.header_len.result in
    let body = take want c.args.piece.now in
    let told : is_some (frame_behind c.names_hosts-named.result c.args.head.now body) ≡ c.is_whole_body.result = sym c.is_whole_body.ensures in
    let is : is_some (frame_behind named c.args.head.now body) ≡ true = (rw c.names_hosts-named.ensures at told) ∙ c.if-is_whole_body.true in
    some_lacks v c.args.head.now c.args.piece.now want (frame_behind named c.args.head.now body) is (body_there v c.args.head.now c.args.piece.now c.args.head.now body want c.requires.header c.requires.waits (omega (arith, w, full)) (search (arith)) refl refl)

pub returns-else-is_whole_body : goal.returns-else-is_whole_body
returns-else-is_whole_body c =
    let v = c.args.version in
    let named = names_hosts v in
    let full : c.header_len.result ≡ header_len named = c.header_len.ensures ∙ ap header_len c.names_hosts-named.ensures in
    let w : c.next_check.result ≡ wanted named c.args.head.now = c.next_check.ensures ∙ ap (λ (b : Bool). wanted b c.args.head.now) c.names_hosts-named.ensures in
    let want = c.next_check.result - c.header_len.result in
    let body = take want c.args.piece.now in
    let told : is_some (frame_behind c.names_hosts-named.result c.args.head.now body) ≡ c.is_whole_body.result = sym c.is_whole_body.ensures in
    let is : is_some (frame_behind named c.args.head.now body) ≡ false = (rw c.names_hosts-named.ensures at told) ∙ c.if-is_whole_body.false in
    none_refused v c.args.head.now c.args.piece.now want (frame_behind named c.args.head.now body) is (body_there v c.args.head.now c.args.piece.now c.args.head.now body want c.requires.header c.requires.waits (omega (arith, w, full)) (search (arith)) refl refl)
