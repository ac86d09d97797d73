-- Replies that are written in pieces.
use Rattle.std.proofs.Common.{◌≡◌, ◌∙◌, List, [], ◌++◌, append-nil, append_assoc, Option, Some, None, sym, ap, ℕ}
use Rattle.std.specs.Io.KnownBytes.{Appends, append_known}

-- a piece took a text
pub kept : (errors : Option (List ℕ)) (old new text : List ℕ) → Appends (Some old) (Some new) text
    → Appends (append_known errors old) (append_known errors new) text
kept None old new text is = tt
kept (Some bytes) old new text is = ap (λ l. bytes ++ l) is ∙ sym (append_assoc bytes old text)

-- a piece took a text, and was written
pub sent : (before after : Option (List ℕ)) (old mid new text : List ℕ) → Appends (Some old) (Some mid) text
    → Appends before after mid → new ≡ [] → Appends (append_known before old) (append_known after new) text
sent None after old mid new text is out none = tt
sent (Some bytes) None old mid new text is out none = absurd out
sent (Some bytes) (Some more) old mid new text is out none =
    ap (λ l. more ++ l) none ∙ append-nil more ∙ out ∙ ap (λ l. bytes ++ l) is ∙ sym (append_assoc bytes old text)

-- all pieces were written, the first of which was empty
pub gone : (before mid after : Option (List ℕ)) (first piece text : List ℕ) → first ≡ []
    → Appends (append_known before first) (append_known mid piece) text → Appends mid after piece → Appends before after text
gone None mid after first piece text none is out = tt
gone (Some bytes) None after first piece text none is out = absurd is
gone (Some bytes) (Some more) None first piece text none is out = absurd out
gone (Some bytes) (Some more) (Some all) first piece text none is out =
    out ∙ is ∙ ap (λ l. (bytes ++ l) ++ text) none ∙ ap (λ l. l ++ text) (append-nil bytes)
