-- Whether a buffer of output holds anything back.
use Rattle.std.specs.Prelude.{◌≡◌, []}
use Rattle.std.specs.Io.Buffered.{writer_buffer}
use Rattle.std.specs.declared.io.buffered.BufWriter.{BufWriter}

-- the buffer of a writer holds nothing back
abbrev pub is_flushed : {T A : Type 0} → BufWriter T A → Type 0
is_flushed w = writer_buffer w ≡ []
