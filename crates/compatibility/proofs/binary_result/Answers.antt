-- `compatibility::binary_result` meets its contract: the first row that fits. Assumes nothing.
use Rattle.std.proofs.Common.{rules, tests}
use Rattle.std.proofs.lemmas.Iterator.{YieldsList-from_slice}
use Rattle.std.proofs.lemmas.Iterator.Search.{find_from_yields_List}
use Rattle.records.specs.Meaning.{binary_op_of}
use Rattle.type_table.specs.Layout.{table_of}
use Rattle.compatibility.specs.Operators.{binary_row_fits, binary_signature_of}
use Rattle.compatibility.specs.declared.TheConstants.{BINARY_ROWS}
use Rattle.compatibility.proofs.Scan.{binary_found}
use Rattle.compatibility.proofs.binary_result.Goals as goal

pub returns : goal.returns
returns c =
    let table = table_of c.args.types.now.file.now c.args.types.now.words.now in
    binary_found table (binary_op_of c.args.op) c.args.left c.args.right c.find.result c.map_or.result
    (find_from_yields_List (λ row. binary_row_fits table (binary_op_of c.args.op) c.args.left c.args.right (binary_signature_of row)) _ _ c.find.result c.find.ensures.ran (YieldsList-from_slice BINARY_ROWS cc) (λ x b q k. search (rules, tests)))
    (search (rules, tests))
