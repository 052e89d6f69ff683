-- One byte more at each turn, or none where it is zero; past the last one the name is put.
use Rattle.std.proofs.Common.{arith, ℕ, List, ◌+◌, ◌-◌, ◌*◌, ◌<◌, ◌≤◌, ◌≡◌, take, drop, length, get_or, sym}
use Rattle.std.proofs.lemmas.Grind.{common_steps}
use Rattle.names.specs.Names.{name_byte}
use Rattle.report.specs.Text.{name_of}
use Rattle.report.proofs.Putting.{put-none, put_as, ◌then◌, each_none, each_more}
use Rattle.report.proofs.field.put_name.Goals as goal

-- the part of the fields that is read
abbrev part : List ℕ → ℕ → List ℕ
part fields i = take (i * 8 + 8 - i * 8) (drop (i * 8) fields)

byte_same : (fields : List ℕ) (i k : ℕ) → k < length (part fields i) → get_or (part fields i) k 0 ≡ name_byte fields i k
byte_same fields i k h = grind (arith, common_steps)

long : (fields : List ℕ) (i : ℕ) → i * 8 + 8 ≤ length fields → length (part fields i) ≡ 8
long fields i h = grind (arith, common_steps)

pub loop-byte-init : goal.loop-byte-init
loop-byte-init c = put_as (sym (each_none _)) (put-none _ _)

pub loop-byte-preserved : goal.loop-byte-preserved
loop-byte-preserved c =
    let same = byte_same c.args.fields.now c.args.i c.loop-byte.byte-index c.loop-byte-test.true in
    put_as (each_more _ _) (c.loop-byte.invariant then rw same at c.put_unless_zero-end.ensures)

pub returns : goal.returns
unfolding name_of
returns c =
    let all : c.loop-byte.byte-index ≡ 8 = omega (arith, long c.args.fields.now c.args.i c.requires, c.loop-byte.auto.byte-index-end, c.loop-byte-test.false) in
    rw all at c.loop-byte.invariant
