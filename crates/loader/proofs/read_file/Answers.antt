-- `loader::read_file` meets its contract. Assumes nothing.
use mathlib.Core.Path.{sym, subst, ◌∙◌}
use native.Mathlib.Omega.{arith}
use Rattle.records.specs.Layout.{index_of}
use Rattle.loader.specs.Load.{FilePut}
use Rattle.loader.proofs.Loading.{err_is, version_long, too_long, no_version, lines_wrong, links_fault, links_lead, fault_small}
use Rattle.loader.proofs.read_file.Goals as goal

pub returns-then-file-gt-FILE_BYTES : goal.returns-then-file-gt-FILE_BYTES
returns-then-file-gt-FILE_BYTES c =
    record { long = c.requires; is = too_long c.args.file.now c.if-file-gt-FILE_BYTES.true; items = tt }

pub returns-in_default : goal.returns-in_default
returns-in_default c =
    record { long = c.requires; is = no_version c.args.file.now (omega (arith, c.if-file-gt-FILE_BYTES.false)) (sym c.version_of.ensures ∙ c.in_default.is); items = tt }

pub first_pass-requires : goal.first_pass-requires
first_pass-requires c =
    ((omega (arith, c.if-file-gt-FILE_BYTES.false)), c.requires, version_long c.args.file.now c.in-Some.version (sym c.version_of.ensures ∙ c.in-Some.is))

pub overflow_cast-result : goal.overflow_cast-result
overflow_cast-result c =
    let all = c.in_ok-first_pass.ensures.first in
    let small = fault_small (index_of c.args.file.now c.first_pass.new.words) c.in-Some-fault_line.line (sym c.in-Some-fault_line.is ∙ c.fault_line.ensures c.args.file.now) in
    omega (arith, small, all.few_lines)

pub returns-in_err-first_pass : goal.returns-in_err-first_pass
returns-in_err-first_pass c =
    let e = c.in_err-first_pass.field-0.0 in
    subst (FilePut c.args.file.now c.first_pass.new.words) (sym (err_is c.from_residual.result e c.from_residual.ensures.1))
    (record { long = c.first_pass.ensures.long ∙ c.requires; is = lines_wrong c.args.file.now (omega (arith, c.if-file-gt-FILE_BYTES.false)) c.in-Some.version (sym c.version_of.ensures ∙ c.in-Some.is) _ _ c.in_err-first_pass.ensures.first; items = tt })

pub returns-in-Some-fault_line : goal.returns-in-Some-fault_line
returns-in-Some-fault_line c =
    let all = c.in_ok-first_pass.ensures.first in
    record { long = c.first_pass.ensures.long ∙ c.requires; is = links_fault c.args.file.now (omega (arith, c.if-file-gt-FILE_BYTES.false)) c.in-Some.version (sym c.version_of.ensures ∙ c.in-Some.is) (index_of c.args.file.now c.first_pass.new.words) all.is _ (sym c.in-Some-fault_line.is ∙ c.fault_line.ensures c.args.file.now); items = tt }

pub returns-in-None : goal.returns-in-None
returns-in-None c =
    let all = c.in_ok-first_pass.ensures.first in
    record { long = c.first_pass.ensures.long ∙ c.requires; is = links_lead c.args.file.now (omega (arith, c.if-file-gt-FILE_BYTES.false)) c.in-Some.version (sym c.version_of.ensures ∙ c.in-Some.is) (index_of c.args.file.now c.first_pass.new.words) all.is (sym c.in-None.is ∙ c.fault_line.ensures c.args.file.now); items = all.items }
