use Rattle.std.proofs.Common.{◌≡◌, ◌∙◌, ◌∷◌, ap, true}
use Rattle.rvm_audit.proofs.Spellings.{is_coming, is_key, there_from}
use Rattle.rvm_audit.proofs.frames.key_of_coming.Goals as goal

pub returns : goal.returns
returns c =
    let not_false = c.if-not-has_spelling.false in
    let is : c.has_spelling.result ≡ true = cc in
    is_key c.args.version c.args.count c.args.host c.args.from c.args.frame.now _ c.in_ok-frame_key.field-0.items
    (there_from c.args.host c.args.count c.args.from c.if-from-count.false c.if-from-host.false)
    (c.has_spelling.ensures.0 is)
    (is_coming c.args.from c.args.host c.args.frame.now c.in_ok-copy.field-0 c.in_ok-copy.ensures.copy)
    (c.in_ok-frame_key.ensures ∙ ap (λ bytes. c.args.from ∷ bytes) (c.as_slice.ensures.value ∙ c.in_ok-bytes.ensures))
