use Rattle.std.proofs.Common.{◌++◌, ◌∙◌, ◌∷◌, [], List, ℕ, ap, append_assoc}
use Rattle.rvm_link.specs.Openings.{magic}
use Rattle.rvm_link.proofs.opening.Opening.append_to.Goals as goal

pub returns : goal.returns
returns c =
    let o = c.args.self.now in
    let hosts : List ℕ = o.from ∷ o.to ∷ o.hosts ∷ [] in
    c.with-3.ensures
    ∙ ap (λ (l : List ℕ). l ++ o.nonce) (c.with-2.ensures ∙ ap (λ (l : List ℕ). l ++ hosts) c.with.ensures)
    ∙ append_assoc (c.args.message ++ magic) hosts o.nonce
    ∙ append_assoc c.args.message magic (hosts ++ o.nonce)
