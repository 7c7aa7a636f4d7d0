-- `ballast_c::ballast_check_case` meets its contract, by what the reader says. Assumes nothing.
use Rattle.std.proofs.Common.{ap, ◌∙◌, to_z-of_z}
use mir.Syntax.{w64}
use Rattle.casefile.specs.Decode.{decode}
use Rattle.case_reader.specs.ReadLaws.{read_accepted, read_refused}
use Rattle.ballast_c.proofs.Laws.{small_count, tanks_refused, tanks_accepted, few_tanks}
use Rattle.ballast_c.specs.Result.{result_number}
use Rattle.ballast_c.proofs.ballast_check_case.Goals as goal

pub result-requires : goal.result-requires
result-requires c = small_count _ (few_tanks c.args.input.now _ (read_accepted (decode c.args.input.now) c.read_case.ensures c.in-Ok.is))

pub returns-in-Ok : goal.returns-in-Ok
returns-in-Ok c =
    let file = c.args.input.now in
    to_z-of_z {w = w64} (record { sfits = c.result.type_inv }) ∙ c.result.ensures
    ∙ ap result_number (tanks_accepted file _ (read_accepted (decode file) c.read_case.ensures c.in-Ok.is))

pub returns-in-Err : goal.returns-in-Err
returns-in-Err c =
    let file = c.args.input.now in
    to_z-of_z {w = w64} (record { sfits = c.result-in-Err.type_inv }) ∙ c.result-in-Err.ensures
    ∙ ap result_number (tanks_refused (decode file) _ (read_refused (decode file) c.read_case.ensures _ c.in-Err.is))
