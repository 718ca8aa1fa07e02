-- `compatibility::unary_result` meets its contract: the first row that fits. Assumes nothing.
use Rattle.std.proofs.Common.{rules, tests}
use Rattle.std.proofs.lemmas.Iterator.{YieldsList-from_slice}
use Rattle.std.proofs.lemmas.Iterator.Search.{find_from_yields_List}
use Rattle.records.specs.Meaning.{unary_op_of}
use Rattle.type_table.specs.Layout.{table_of}
use Rattle.compatibility.specs.Operators.{unary_row_fits, unary_signature_of}
use Rattle.compatibility.specs.declared.TheConstants.{UNARY_ROWS}
use Rattle.compatibility.proofs.Scan.{unary_found}
use Rattle.compatibility.proofs.unary_result.Goals as goal

pub returns : goal.returns
returns c =
    let table = table_of c.args.types.now.file.now c.args.types.now.words.now in
    unary_found table (unary_op_of c.args.op) c.args.operand c.find.result c.map_or.result
    (find_from_yields_List (λ row. unary_row_fits table (unary_op_of c.args.op) c.args.operand (unary_signature_of row)) _ _ c.find.result c.find.ensures.ran (YieldsList-from_slice UNARY_ROWS cc) (λ x b q k. search (rules, tests)))
    (search (rules, tests))
