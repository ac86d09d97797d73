use Rattle.std.proofs.Common.{◌≡◌, ◌+◌, ◌*◌, ◌++◌, take, vec_len, vec_capacity}
use Rattle.std.specs.List.{flat_map}
use Rattle.byteorder.specs.Endian.{little_bytes}
use Rattle.rvm_codec.proofs.append.append_u32s.Given as goal

abbrev pub invariant-loop-n : goal.invariant-loop-n
invariant-loop-n l = record {
  items : l.out.items ≡ l.fn.out.items ++ flat_map (little_bytes 4) (take l.n-index l.numbers);
  len : vec_len l.out ≡ vec_len l.fn.out + 4 * l.n-index;
  capacity : vec_capacity l.out ≡ vec_capacity l.fn.out;
}
