-- Index files and what the oracle printed for them, from text to text. Written by definition_check.py. Assumes nothing.
use Rattle.std.specs.Prelude.{◌≡◌, refl, ◌++◌}
use Rattle.model.specs.Common.{bytes}
use Rattle.resolution.specs.Resolve.{resolve}
use Rattle.resolution.specs.Computes.{resolves}

limit_size_passed_printed :
    resolve
    (bytes "index\t1\n"
    ++ bytes "M\tmain\n"
    ++ bytes "S\t-\tmodule\n"
    ++ bytes "T\tfelt\n"
    ++ bytes "T\tarray\t0\t18446744073709551616\n"
    ++ bytes "E\t0\t0\t1\t-\t-\tplain\t-\t-\trep\t1\t18446744073709551616\n"
    ++ bytes "E\t0\t1\t2\t-\t-\tplain\t-\t-\tlit\t-\n"
    ++ bytes "Q\ttype\t0\t1\t0\n"
    ++ bytes "Q\texpr\t0\t0\t-\n")
    ≡ bytes "refused\t4\t5\n"
unfolding resolves
limit_size_passed_printed = refl

limit_size_reached_printed :
    resolve
    (bytes "index\t1\n"
    ++ bytes "M\tmain\n"
    ++ bytes "S\t-\tmodule\n"
    ++ bytes "T\tfelt\n"
    ++ bytes "T\tarray\t0\t18446744073709551615\n"
    ++ bytes "E\t0\t0\t1\t-\t-\tplain\t-\t-\trep\t1\t18446744073709551615\n"
    ++ bytes "E\t0\t1\t2\t-\t-\tplain\t-\t-\tlit\t-\n"
    ++ bytes "Q\ttype\t0\t1\t0\n"
    ++ bytes "Q\texpr\t0\t0\t-\n")
    ≡ bytes "type\t0\t1\ttype\t[felt;18446744073709551615]\n"
    ++ bytes "expr\t0\t0\ttype\t[felt;18446744073709551615]\n"
unfolding resolves
limit_size_reached_printed = refl

limit_text_passed_printed :
    resolve
    (bytes "index\t1\n"
    ++ bytes "M\tmain\n"
    ++ bytes "S\t-\tmodule\n"
    ++ bytes "T\tfelt\n"
    ++ bytes "T\ttuple\t0\t0\t0\t0\t0\t0\t0\t0\t0\t0\t0\t0\t0\t0\t0\t0\t0\t0\t0\t0\t0\t0\t0\t0\t0\t0\t0\t0\t0\t0\t0\t0\t0\t0\t0\t0\t0\t0\t0\t0\t0\t0\t0\t0\t0\t0\t0\t0\t0\t0\t0\t0\t0\t0\t0\t0\t0\t0\t0\t0\t0\t0\t0\t0\t0\t0\t0\t0\t0\t0\t0\t0\t0\t0\t0\t0\t0\t0\t0\t0\t0\t0\t0\t0\t0\t0\t0\t0\t0\t0\t0\t0\t0\t0\t0\t0\t0\t0\t0\t0\t0\t0\t0\t0\t0\t0\t0\t0\t0\t0\t0\t0\t0\t0\t0\t0\t0\t0\t0\t0\t0\t0\t0\t0\t0\t0\t0\t0\t0\t0\t0\t0\t0\t0\t0\t0\t0\t0\t0\t0\t0\t0\t0\t0\t0\t0\t0\t0\t0\t0\t0\t0\t0\t0\t0\t0\t0\t0\t0\t0\t0\t0\t0\t0\t0\t0\t0\t0\t0\t0\t0\t0\t0\t0\t0\t0\t0\t0\t0\t0\t0\t0\t0\t0\t0\t0\t0\t0\t0\t0\t0\t0\t0\t0\t0\t0\t0\t0\t0\t0\t0\t0\t0\t0\t0\t0\t0\t0\t0\t0\t0\t0\t0\t0\t0\t0\t0\t0\t0\t0\t0\t0\t0\t0\t0\t0\t0\t0\t0\t0\t0\t0\t0\t0\t0\t0\t0\t0\t0\t0\t0\t0\t0\t0\t0\t0\t0\t0\t0\t0\t0\t0\t0\t0\t0\t0\t0\t0\t0\t0\t0\t0\t0\t0\t0\t0\t0\t0\t0\t0\t0\t0\t0\t0\t0\t0\t0\t0\t0\t0\t0\t0\t0\t0\t0\t0\t0\t0\t0\t0\t0\t0\t0\t0\t0\t0\t0\t0\t0\t0\t0\t0\t0\t0\t0\t0\t0\t0\t0\t0\t0\t0\t0\t0\t0\t0\t0\t0\t0\t0\t0\t0\t0\t0\t0\t0\t0\t0\t0\t0\t0\t0\t0\t0\t0\t0\t0\t0\t0\t0\t0\t0\t0\t0\t0\t0\t0\t0\t0\t0\t0\t0\t0\t0\t0\t0\t0\t0\t0\t0\t0\t0\t0\t0\t0\t0\t0\t0\t0\t0\t0\t0\t0\t0\t0\t0\t0\t0\t0\t0\t0\t0\t0\t0\t0\t0\t0\t0\t0\t0\t0\t0\t0\t0\t0\t0\t0\t0\t0\t0\t0\t0\t0\t0\t0\t0\t0\t0\t0\t0\t0\t0\t0\t0\t0\t0\t0\t0\t0\t0\t0\t0\t0\t0\t0\t0\t0\t0\t0\t0\t0\t0\t0\t0\t0\t0\t0\t0\t0\t0\t0\t0\t0\t0\t0\t0\t0\t0\t0\t0\t0\t0\t0\t0\t0\t0\t0\t0\t0\t0\t0\t0\t0\t0\t0\t0\t0\t0\t0\t0\t0\t0\t0\t0\t0\t0\t0\t0\t0\t0\t0\t0\t0\t0\t0\t0\t0\t0\t0\t0\t0\t0\t0\t0\t0\t0\t0\t0\t0\t0\t0\t0\t0\t0\t0\t0\t0\t0\t0\t0\t0\t0\t0\t0\t0\t0\t0\t0\t0\t0\t0\t0\t0\t0\t0\t0\t0\t0\t0\t0\t0\t0\t0\t0\t0\t0\t0\t0\t0\t0\t0\t0\t0\t0\t0\t0\t0\t0\t0\t0\t0\t0\t0\t0\t0\t0\t0\t0\t0\t0\t0\t0\t0\t0\t0\t0\t0\t0\t0\t0\t0\t0\t0\t0\t0\t0\t0\t0\t0\t0\t0\t0\t0\t0\t0\t0\t0\t0\t0\t0\t0\t0\t0\t0\t0\t0\t0\t0\t0\t0\t0\t0\t0\t0\t0\t0\t0\t0\t0\t0\t0\t0\t0\t0\t0\t0\t0\t0\t0\t0\t0\t0\t0\t0\t0\t0\t0\t0\t0\t0\t0\t0\t0\t0\t0\t0\t0\t0\t0\t0\t0\t0\t0\t0\t0\t0\t0\t0\t0\t0\t0\t0\t0\t0\t0\t0\t0\t0\t0\t0\t0\t0\t0\t0\t0\t0\t0\t0\t0\t0\t0\t0\t0\t0\t0\t0\t0\t0\t0\t0\t0\t0\t0\t0\t0\t0\t0\t0\t0\t0\t0\t0\t0\t0\t0\t0\t0\t0\t0\t0\t0\t0\t0\t0\t0\t0\t0\t0\t0\t0\t0\t0\t0\t0\t0\t0\t0\t0\t0\t0\t0\t0\t0\t0\t0\t0\t0\t0\t0\t0\t0\t0\t0\t0\t0\t0\t0\t0\t0\t0\t0\t0\t0\t0\t0\t0\t0\t0\t0\t0\t0\t0\t0\t0\t0\t0\t0\t0\t0\t0\t0\t0\t0\t0\t0\t0\t0\t0\t0\t0\t0\t0\t0\t0\t0\t0\t0\t0\t0\t0\t0\t0\t0\t0\t0\t0\t0\t0\t0\t0\t0\t0\t0\t0\t0\t0\t0\t0\t0\t0\t0\t0\t0\t0\t0\t0\t0\t0\t0\t0\t0\t0\t0\t0\t0\t0\t0\t0\t0\t0\n"
    ++ bytes "Q\ttype\t0\t1\t0\n"
    ++ bytes "Q\ttype\t0\t0\t0\n")
    ≡ bytes "type\t0\t1\trefused\t10\n"
    ++ bytes "type\t0\t0\ttype\tfelt\n"
unfolding resolves
limit_text_passed_printed = refl

limit_text_reached_printed :
    resolve
    (bytes "index\t1\n"
    ++ bytes "M\tmain\n"
    ++ bytes "S\t-\tmodule\n"
    ++ bytes "T\tfelt\n"
    ++ bytes "T\ttuple\t0\t0\t0\t0\t0\t0\t0\t0\t0\t0\t0\t0\t0\t0\t0\t0\t0\t0\t0\t0\t0\t0\t0\t0\t0\t0\t0\t0\t0\t0\t0\t0\t0\t0\t0\t0\t0\t0\t0\t0\t0\t0\t0\t0\t0\t0\t0\t0\t0\t0\t0\t0\t0\t0\t0\t0\t0\t0\t0\t0\t0\t0\t0\t0\t0\t0\t0\t0\t0\t0\t0\t0\t0\t0\t0\t0\t0\t0\t0\t0\t0\t0\t0\t0\t0\t0\t0\t0\t0\t0\t0\t0\t0\t0\t0\t0\t0\t0\t0\t0\t0\t0\t0\t0\t0\t0\t0\t0\t0\t0\t0\t0\t0\t0\t0\t0\t0\t0\t0\t0\t0\t0\t0\t0\t0\t0\t0\t0\t0\t0\t0\t0\t0\t0\t0\t0\t0\t0\t0\t0\t0\t0\t0\t0\t0\t0\t0\t0\t0\t0\t0\t0\t0\t0\t0\t0\t0\t0\t0\t0\t0\t0\t0\t0\t0\t0\t0\t0\t0\t0\t0\t0\t0\t0\t0\t0\t0\t0\t0\t0\t0\t0\t0\t0\t0\t0\t0\t0\t0\t0\t0\t0\t0\t0\t0\t0\t0\t0\t0\t0\t0\t0\t0\t0\t0\t0\t0\t0\t0\t0\t0\t0\t0\t0\t0\t0\t0\t0\t0\t0\t0\t0\t0\t0\t0\t0\t0\t0\t0\t0\t0\t0\t0\t0\t0\t0\t0\t0\t0\t0\t0\t0\t0\t0\t0\t0\t0\t0\t0\t0\t0\t0\t0\t0\t0\t0\t0\t0\t0\t0\t0\t0\t0\t0\t0\t0\t0\t0\t0\t0\t0\t0\t0\t0\t0\t0\t0\t0\t0\t0\t0\t0\t0\t0\t0\t0\t0\t0\t0\t0\t0\t0\t0\t0\t0\t0\t0\t0\t0\t0\t0\t0\t0\t0\t0\t0\t0\t0\t0\t0\t0\t0\t0\t0\t0\t0\t0\t0\t0\t0\t0\t0\t0\t0\t0\t0\t0\t0\t0\t0\t0\t0\t0\t0\t0\t0\t0\t0\t0\t0\t0\t0\t0\t0\t0\t0\t0\t0\t0\t0\t0\t0\t0\t0\t0\t0\t0\t0\t0\t0\t0\t0\t0\t0\t0\t0\t0\t0\t0\t0\t0\t0\t0\t0\t0\t0\t0\t0\t0\t0\t0\t0\t0\t0\t0\t0\t0\t0\t0\t0\t0\t0\t0\t0\t0\t0\t0\t0\t0\t0\t0\t0\t0\t0\t0\t0\t0\t0\t0\t0\t0\t0\t0\t0\t0\t0\t0\t0\t0\t0\t0\t0\t0\t0\t0\t0\t0\t0\t0\t0\t0\t0\t0\t0\t0\t0\t0\t0\t0\t0\t0\t0\t0\t0\t0\t0\t0\t0\t0\t0\t0\t0\t0\t0\t0\t0\t0\t0\t0\t0\t0\t0\t0\t0\t0\t0\t0\t0\t0\t0\t0\t0\t0\t0\t0\t0\t0\t0\t0\t0\t0\t0\t0\t0\t0\t0\t0\t0\t0\t0\t0\t0\t0\t0\t0\t0\t0\t0\t0\t0\t0\t0\t0\t0\t0\t0\t0\t0\t0\t0\t0\t0\t0\t0\t0\t0\t0\t0\t0\t0\t0\t0\t0\t0\t0\t0\t0\t0\t0\t0\t0\t0\t0\t0\t0\t0\t0\t0\t0\t0\t0\t0\t0\t0\t0\t0\t0\t0\t0\t0\t0\t0\t0\t0\t0\t0\t0\t0\t0\t0\t0\t0\t0\t0\t0\t0\t0\t0\t0\t0\t0\t0\t0\t0\t0\t0\t0\t0\t0\t0\t0\t0\t0\t0\t0\t0\t0\t0\t0\t0\t0\t0\t0\t0\t0\t0\t0\t0\t0\t0\t0\t0\t0\t0\t0\t0\t0\t0\t0\t0\t0\t0\t0\t0\t0\t0\t0\t0\t0\t0\t0\t0\t0\t0\t0\t0\t0\t0\t0\t0\t0\t0\t0\t0\t0\t0\t0\t0\t0\t0\t0\t0\t0\t0\t0\t0\t0\t0\t0\t0\t0\t0\t0\t0\t0\t0\t0\t0\t0\t0\t0\t0\t0\t0\t0\t0\t0\t0\t0\t0\t0\t0\t0\t0\t0\t0\t0\t0\t0\t0\t0\t0\t0\t0\t0\t0\t0\t0\t0\t0\t0\t0\t0\t0\t0\t0\t0\t0\t0\t0\t0\t0\t0\t0\t0\t0\t0\t0\t0\t0\t0\t0\t0\t0\t0\t0\t0\t0\t0\t0\t0\t0\t0\t0\t0\t0\t0\t0\t0\t0\t0\t0\t0\t0\t0\t0\t0\t0\t0\t0\t0\t0\t0\t0\t0\t0\t0\t0\t0\t0\t0\t0\t0\t0\t0\t0\t0\t0\t0\t0\t0\t0\t0\t0\t0\t0\t0\t0\t0\t0\t0\t0\t0\t0\t0\t0\t0\t0\t0\t0\t0\t0\t0\t0\t0\t0\t0\t0\t0\t0\t0\t0\t0\t0\t0\t0\t0\t0\t0\t0\t0\t0\t0\t0\t0\t0\t0\t0\t0\t0\t0\t0\t0\t0\t0\t0\t0\t0\t0\n"
    ++ bytes "Q\ttype\t0\t1\t0\n"
    ++ bytes "Q\ttype\t0\t0\t0\n")
    ≡ bytes "type\t0\t1\ttype\t(felt,felt,felt,felt,felt,felt,felt,felt,felt,felt,felt,felt,felt,felt,felt,felt,felt,felt,felt,felt,felt,felt,felt,felt,felt,felt,felt,felt,felt,felt,felt,felt,felt,felt,felt,felt,felt,felt,felt,felt,felt,felt,felt,felt,felt,felt,felt,felt,felt,felt,felt,felt,felt,felt,felt,felt,felt,felt,felt,felt,felt,felt,felt,felt,felt,felt,felt,felt,felt,felt,felt,felt,felt,felt,felt,felt,felt,felt,felt,felt,felt,felt,felt,felt,felt,felt,felt,felt,felt,felt,felt,felt,felt,felt,felt,felt,felt,felt,felt,felt,felt,felt,felt,felt,felt,felt,felt,felt,felt,felt,felt,felt,felt,felt,felt,felt,felt,felt,felt,felt,felt,felt,felt,felt,felt,felt,felt,felt,felt,felt,felt,felt,felt,felt,felt,felt,felt,felt,felt,felt,felt,felt,felt,felt,felt,felt,felt,felt,felt,felt,felt,felt,felt,felt,felt,felt,felt,felt,felt,felt,felt,felt,felt,felt,felt,felt,felt,felt,felt,felt,felt,felt,felt,felt,felt,felt,felt,felt,felt,felt,felt,felt,felt,felt,felt,felt,felt,felt,felt,felt,felt,felt,felt,felt,felt,felt,felt,felt,felt,felt,felt,felt,felt,felt,felt,felt,felt,felt,felt,felt,felt,felt,felt,felt,felt,felt,felt,felt,felt,felt,felt,felt,felt,felt,felt,felt,felt,felt,felt,felt,felt,felt,felt,felt,felt,felt,felt,felt,felt,felt,felt,felt,felt,felt,felt,felt,felt,felt,felt,felt,felt,felt,felt,felt,felt,felt,felt,felt,felt,felt,felt,felt,felt,felt,felt,felt,felt,felt,felt,felt,felt,felt,felt,felt,felt,felt,felt,felt,felt,felt,felt,felt,felt,felt,felt,felt,felt,felt,felt,felt,felt,felt,felt,felt,felt,felt,felt,felt,felt,felt,felt,felt,felt,felt,felt,felt,felt,felt,felt,felt,felt,felt,felt,felt,felt,felt,felt,felt,felt,felt,felt,felt,felt,felt,felt,felt,felt,felt,felt,felt,felt,felt,felt,felt,felt,felt,felt,felt,felt,felt,felt,felt,felt,felt,felt,felt,felt,felt,felt,felt,felt,felt,felt,felt,felt,felt,felt,felt,felt,felt,felt,felt,felt,felt,felt,felt,felt,felt,felt,felt,felt,felt,felt,felt,felt,felt,felt,felt,felt,felt,felt,felt,felt,felt,felt,felt,felt,felt,felt,felt,felt,felt,felt,felt,felt,felt,felt,felt,felt,felt,felt,felt,felt,felt,felt,felt,felt,felt,felt,felt,felt,felt,felt,felt,felt,felt,felt,felt,felt,felt,felt,felt,felt,felt,felt,felt,felt,felt,felt,felt,felt,felt,felt,felt,felt,felt,felt,felt,felt,felt,felt,felt,felt,felt,felt,felt,felt,felt,felt,felt,felt,felt,felt,felt,felt,felt,felt,felt,felt,felt,felt,felt,felt,felt,felt,felt,felt,felt,felt,felt,felt,felt,felt,felt,felt,felt,felt,felt,felt,felt,felt,felt,felt,felt,felt,felt,felt,felt,felt,felt,felt,felt,felt,felt,felt,felt,felt,felt,felt,felt,felt,felt,felt,felt,felt,felt,felt,felt,felt,felt,felt,felt,felt,felt,felt,felt,felt,felt,felt,felt,felt,felt,felt,felt,felt,felt,felt,felt,felt,felt,felt,felt,felt,felt,felt,felt,felt,felt,felt,felt,felt,felt,felt,felt,felt,felt,felt,felt,felt,felt,felt,felt,felt,felt,felt,felt,felt,felt,felt,felt,felt,felt,felt,felt,felt,felt,felt,felt,felt,felt,felt,felt,felt,felt,felt,felt,felt,felt,felt,felt,felt,felt,felt,felt,felt,felt,felt,felt,felt,felt,felt,felt,felt,felt,felt,felt,felt,felt,felt,felt,felt,felt,felt,felt,felt,felt,felt,felt,felt,felt,felt,felt,felt,felt,felt,felt,felt,felt,felt,felt,felt,felt,felt,felt,felt,felt,felt,felt,felt,felt,felt,felt,felt,felt,felt,felt,felt,felt,felt,felt,felt,felt,felt,felt,felt,felt,felt,felt,felt,felt,felt,felt,felt,felt,felt,felt,felt,felt,felt,felt,felt,felt,felt,felt,felt,felt,felt,felt,felt,felt,felt,felt,felt,felt,felt,felt,felt,felt,felt,felt,felt,felt,felt,felt,felt,felt,felt,felt,felt,felt,felt,felt,felt,felt,felt,felt,felt,felt,felt,felt,felt,felt,felt,felt,felt,felt,felt,felt,felt,felt,felt,felt,felt,felt,felt,felt,felt,felt,felt,felt,felt,felt,felt,felt,felt,felt,felt,felt,felt,felt,felt,felt,felt,felt,felt,felt,felt,felt,felt,felt,felt,felt,felt,felt,felt,felt,felt,felt,felt,felt,felt,felt,felt,felt,felt,felt,felt,felt,felt,felt,felt,felt,felt,felt,felt,felt,felt,felt,felt,felt,felt,felt,felt,felt,felt,felt,felt,felt,felt,felt,felt,felt,felt,felt,felt,felt,felt,felt,felt,felt,felt,felt,felt,felt,felt,felt,felt,felt,felt,felt,felt,felt,felt,felt,felt,felt,felt,felt,felt,felt,felt,felt,felt,felt,felt,felt,felt,felt,felt)\n"
    ++ bytes "type\t0\t0\ttype\tfelt\n"
unfolding resolves
limit_text_reached_printed = refl
