-- A file that is cut is refused with number 1; what is run otherwise is what the file asks for, so what comes back is the file's outcome.
use Rattle.std.proofs.Common.{arith, rules, refl, ◌≤◌, length, ap, ◌∙◌}
use Rattle.sections.specs.Sections.{fields_of}
use Rattle.beltuqash.specs.Calls.{Comes}
use Rattle.report.specs.Report.{outcome_of, run_text}
use Rattle.report.proofs.Reporting.{report_cut, report_run, ran_is, done-fields}
use Rattle.report.proofs.report.Goals as goal

pub returns-in_default : goal.returns-in_default
returns-in_default c = c.print_refused.ensures.bytes ∙ rw (report_cut c.args.file.now (search rules), c.refusal-cut.ensures, c.into.ensures) refl

pub print-requires : goal.print-requires
print-requires c =
    let f = c.args.file.now in
    let asked = c.in-Some.ensures in
    let ran = ran_is f asked.sheet asked.store (c.from.ensures ∙ asked.mode) asked.fuel in
    let came : Comes (outcome_of f) c.into-2.result c.run-answer.new.out = rw (← ran, c.into-2.ensures) c.run-answer.ensures.yields in (
      (λ done.
          let few : length c.of.result.fields.now ≤ 512 = rw (c.of.ensures.fields ∙ ap fields_of asked.sheet) (done-fields f (rw (← came.0) done)) in
          record { few = few; entries = omega (arith, c.run-answer.auto) }),
      search rules,
    )

pub returns : goal.returns
unfolding run_text
returns c =
    let f = c.args.file.now in
    let asked = c.in-Some.ensures in
    let ran = ran_is f asked.sheet asked.store (c.from.ensures ∙ asked.mode) asked.fuel in
    let came : Comes (outcome_of f) c.into-2.result c.run-answer.new.out = rw (← ran, c.into-2.ensures) c.run-answer.ensures.yields in
    c.print.ensures.bytes ∙ rw (report_run f (search rules), came.0, came.1, c.of.ensures.fields, asked.sheet) refl
