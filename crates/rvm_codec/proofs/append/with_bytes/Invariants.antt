use Rattle.std.proofs.Common.{◌≡◌, ◌+◌, ◌++◌, take, vec_len, vec_capacity}
use Rattle.rvm_codec.proofs.append.with_bytes.Given as goal

abbrev pub invariant-loop-byte : goal.invariant-loop-byte
invariant-loop-byte l = record {
  items : l.out.items ≡ l.fn.before.items ++ take l.byte-index l.bytes;
  len : vec_len l.out ≡ vec_len l.fn.before + l.byte-index;
  capacity : vec_capacity l.out ≡ vec_capacity l.fn.before;
}
