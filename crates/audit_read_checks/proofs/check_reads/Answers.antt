-- `audit_read_checks::check_reads` meets its contract: the first answer that refuses stands.
use Rattle.std.proofs.lemmas.Result.{err_from_is_err_and}
use Rattle.bases.specs.Read.{read_of}
use Rattle.audit_model.specs.Observing.{mate_refusal, is_searched}
use Rattle.audit_read_checks.proofs.Checked.{first_refused, single_passed, second_refused, pair_passed, refused_by, passed_by}
use Rattle.audit_read_checks.proofs.check_reads.Goals as goal

pub returns-in_default : goal.returns-in_default
returns-in_default c role role' =
    let a = c.args in
    let x = read_of a.first.now a.first_present a.first_qualities.now in
    let y = read_of a.second.now a.second_present a.second_qualities.now in
    single_passed (mate_refusal a.offset a.settings) (is_searched a.offset a.settings) (record { role = role; read = x }) (record { role = role'; read = y }) _ (passed_by a.offset a.settings x _ c.check_read.ensures role _ c.in_ok-one.was) a.settings.mode c.in_default.is

pub returns-in_err-one : goal.returns-in_err-one
returns-in_err-one c role role' =
    let a = c.args in
    let x = read_of a.first.now a.first_present a.first_qualities.now in
    let y = read_of a.second.now a.second_present a.second_qualities.now in
    let p = err_from_is_err_and c.from_residual.result c.from_residual.ensures.1 in
    rw (p.1, p.2) (first_refused (mate_refusal a.offset a.settings) (is_searched a.offset a.settings) (record { role = role; read = x }) (record { role = role'; read = y }) _ (refused_by a.offset a.settings x _ c.check_read.ensures role _ c.in_err-one.was) a.settings.mode)

pub returns-in_err-two : goal.returns-in_err-two
returns-in_err-two c role role' =
    let a = c.args in
    let x = read_of a.first.now a.first_present a.first_qualities.now in
    let y = read_of a.second.now a.second_present a.second_qualities.now in
    let p = err_from_is_err_and c.from_residual-in_err-two.result c.from_residual-in_err-two.ensures.1 in
    rw (p.1, p.2) (second_refused (mate_refusal a.offset a.settings) (is_searched a.offset a.settings) (record { role = role; read = x }) (record { role = role'; read = y }) _ (passed_by a.offset a.settings x _ c.check_read.ensures role _ c.in_ok-one.was) _ (refused_by a.offset a.settings y _ c.check_read-2.ensures role' _ c.in_err-two.was) a.settings.mode c.in-PairedEnd.is)

pub returns : goal.returns
returns c role role' =
    let a = c.args in
    let x = read_of a.first.now a.first_present a.first_qualities.now in
    let y = read_of a.second.now a.second_present a.second_qualities.now in
    pair_passed (mate_refusal a.offset a.settings) (is_searched a.offset a.settings) (record { role = role; read = x }) (record { role = role'; read = y }) _ (passed_by a.offset a.settings x _ c.check_read.ensures role _ c.in_ok-one.was) _ (passed_by a.offset a.settings y _ c.check_read-2.ensures role' _ c.in_ok-two.was) a.settings.mode c.in-PairedEnd.is
