use Rattle.std.proofs.Common.{◌≡◌, take, length}
use Rattle.rvm_link.specs.Hmac.{padded}
use Rattle.rvm_link.proofs.secret.padded.Given as goal

abbrev pub invariant-loop-byte : goal.invariant-loop-byte
invariant-loop-byte l = record {
  items : l.out.items ≡ padded (take l.byte-index l.block) l.pad;
  len : length l.out.items ≡ l.byte-index;
}
