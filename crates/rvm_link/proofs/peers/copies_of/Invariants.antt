use Rattle.std.proofs.Common.{◌≡◌, map, take}
use Rattle.rvm_link.proofs.peers.copies_of.Given as goal

-- the addresses so far are copied
abbrev pub invariant-loop-address : goal.invariant-loop-address
invariant-loop-address l = map (λ a. a.items) l.copies.items ≡ map (λ a. a.now) (take l.address-index l.addresses)
