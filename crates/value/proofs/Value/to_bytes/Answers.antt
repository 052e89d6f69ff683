-- The bits of a number are as many as std's.
use Rattle.std.proofs.Common.{rules}
use Rattle.std.proofs.lemmas.Int.{to_z-of_z}
use mir.Syntax.{w32}
use mir.Val.{SFits}
use Rattle.value.specs.Bytes.{bits_of, bytes_of}
use Rattle.value.proofs.Value.to_bytes.Goals as goal

pub returns : goal.returns
unfolding bits_of bytes_of
returns c =
    let fits : SFits w32 c.args.self.n = search rules in
    rw to_z-of_z at c.to_le_bytes.ensures
