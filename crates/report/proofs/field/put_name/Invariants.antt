-- The bytes passed are put, without zeros.
use Rattle.names.specs.Names.{name_byte}
use Rattle.report.specs.Inside.Putting.{Put}
use Rattle.report.specs.Text.{each, without_zero}
use Rattle.report.proofs.field.put_name.Given as goal

abbrev pub invariant-loop-byte : goal.invariant-loop-byte
invariant-loop-byte l = Put l.initial.out l.out l.at (each l.byte-index (λ k. without_zero (name_byte l.fields l.i k))) l.end
