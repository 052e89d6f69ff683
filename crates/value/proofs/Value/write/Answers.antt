-- The part that is written holds the bytes, and what lies before and behind it stays.
use Rattle.std.proofs.Common.{◌≡◌, ℕ, ◌+◌, ◌≤◌, List, length, arith, append_assoc, ◌∙◌}
use Rattle.std.proofs.lemmas.List.{drop-drop}
use Rattle.std.proofs.lemmas.List.Edits.{sets, sets-eq}
use borrow.Rule.Slice.PartMut.{put_mid}
use Rattle.value.specs.Bytes.{bytes_of}
use Rattle.value.proofs.Value.write.Goals as goal

put_is : (at k : ℕ) (out now bytes : List ℕ) → k ≡ length bytes → now ≡ bytes → at + length bytes ≤ length out → put_mid at k out now ≡ sets out at bytes
put_is at k out now bytes long e fits = rw (sets-eq bytes out at fits, e, long, append_assoc, drop-drop)

pub returns : goal.returns
unfolding bytes_of
returns c = put_is _ _ _ _ (bytes_of c.args.self.n) (omega arith) (c.copy_from_slice.ensures.after ∙ c.to_bytes.ensures) c.requires
