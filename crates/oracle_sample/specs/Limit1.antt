-- Index files and what the oracle printed for them, from text to text. Written by definition_check.py. Assumes nothing.
use Rattle.std.specs.Prelude.{◌≡◌, refl, ◌++◌}
use Rattle.model.specs.Common.{bytes}
use Rattle.resolution.specs.Resolve.{resolve}
use Rattle.resolution.specs.Computes.{resolves}

limit_bytes_of_names_passed_printed :
    resolve
    (bytes "index\t1\n"
    ++ bytes "M\tmain\n"
    ++ bytes "S\t-\tmodule\n"
    ++ bytes "T\tcustom\t!\"#$%&'()*+,-./0123456789:;<=>?@ABCDEFGHIJKLMNO\n"
    ++ bytes "T\tcustom\tPQRSTUVWXYZ[\\]^_`abcdefghijklmnopqrstuvwxyz{|}~\u{7f}\n"
    ++ bytes "D\t0\t!\"#$%&'()*+,-./0123456789:;<=>?@ABCDEFGHIJKLMNO\t0\t1\t0\t1\tstruct\tPQRSTUVWXYZ[\\]^_`abcdefghijklmnopqrstuvwxyz{|}~\u{7f}\t1\n"
    ++ bytes "D\t0\tPQRSTUVWXYZ[\\]^_`abcdefghijklmnopqrstuvwxyz{|}~\u{7f}\t0\t1\t0\t1\tstruct\n"
    ++ bytes "E\t0\t0\t1\t-\t-\tplain\t-\t-\tlit\tPQRSTUVWXYZ[\\]^_`abcdefghijklmnopqrstuvwxyz{|}~\u{7f}\n"
    ++ bytes "Q\tdef\t0\t0\n"
    ++ bytes "Q\texpr\t0\t0\t-\n")
    ≡ bytes "refused\t4\t5\n"
unfolding resolves
limit_bytes_of_names_passed_printed = refl

limit_bytes_of_names_reached_printed :
    resolve
    (bytes "index\t1\n"
    ++ bytes "M\tmain\n"
    ++ bytes "S\t-\tmodule\n"
    ++ bytes "T\tcustom\t!\"#$%&'()*+,-./0123456789:;<=>?@ABCDEFGHIJKLMNO\n"
    ++ bytes "T\tcustom\tPQRSTUVWXYZ[\\]^_`abcdefghijklmnopqrstuvwxyz{|}~\n"
    ++ bytes "D\t0\t!\"#$%&'()*+,-./0123456789:;<=>?@ABCDEFGHIJKLMNO\t0\t1\t0\t1\tstruct\tPQRSTUVWXYZ[\\]^_`abcdefghijklmnopqrstuvwxyz{|}~\t1\n"
    ++ bytes "D\t0\tPQRSTUVWXYZ[\\]^_`abcdefghijklmnopqrstuvwxyz{|}~\t0\t1\t0\t1\tstruct\n"
    ++ bytes "E\t0\t0\t1\t-\t-\tplain\t-\t-\tlit\tPQRSTUVWXYZ[\\]^_`abcdefghijklmnopqrstuvwxyz{|}~\n"
    ++ bytes "Q\tdef\t0\t0\n"
    ++ bytes "Q\texpr\t0\t0\t-\n")
    ≡ bytes "def\t0\t0\ttype\tstruct:0.0\n"
    ++ bytes "expr\t0\t0\ttype\tfelt\n"
unfolding resolves
limit_bytes_of_names_reached_printed = refl

limit_items_of_types_passed_printed :
    resolve
    (bytes "index\t1\n"
    ++ bytes "M\tmain\n"
    ++ bytes "S\t-\tmodule\n"
    ++ bytes "S\t0\tblock\n"
    ++ bytes "T\tcustom\tA\n"
    ++ bytes "T\ttuple\t0\t0\t0\t0\t0\t0\t0\t0\t0\t0\t0\t0\t0\t0\t0\t0\t0\t0\t0\t0\t0\t0\t0\t0\t0\t0\t0\t0\t0\t0\t0\t0\t0\t0\t0\t0\t0\t0\t0\t0\t0\t0\t0\t0\t0\t0\t0\t0\t0\t0\t0\t0\t0\t0\t0\t0\t0\t0\t0\t0\t0\t0\t0\t0\t0\t0\t0\t0\t0\t0\t0\t0\t0\t0\t0\t0\t0\t0\t0\t0\t0\t0\t0\t0\t0\t0\t0\t0\t0\t0\t0\t0\t0\t0\t0\t0\t0\t0\t0\t0\t0\t0\t0\t0\t0\t0\t0\t0\t0\t0\t0\t0\t0\t0\t0\t0\t0\t0\t0\t0\t0\t0\t0\t0\t0\t0\t0\t0\t0\t0\t0\t0\t0\t0\t0\t0\t0\t0\t0\t0\t0\t0\t0\t0\t0\t0\t0\t0\t0\t0\t0\t0\t0\t0\t0\t0\t0\t0\t0\t0\t0\t0\t0\t0\t0\t0\t0\t0\t0\t0\t0\t0\t0\t0\t0\t0\t0\t0\t0\t0\t0\t0\t0\t0\t0\t0\t0\t0\t0\t0\t0\t0\t0\t0\t0\t0\t0\t0\t0\t0\t0\t0\t0\t0\t0\t0\t0\t0\t0\t0\t0\t0\t0\t0\t0\t0\t0\t0\t0\t0\t0\t0\t0\t0\t0\t0\t0\t0\t0\t0\t0\t0\t0\t0\t0\t0\t0\t0\t0\t0\t0\t0\t0\t0\t0\t0\t0\t0\t0\t0\t0\t0\t0\t0\t0\t0\t0\t0\t0\t0\t0\t0\t0\t0\t0\t0\t0\t0\t0\t0\t0\t0\t0\t0\t0\t0\t0\t0\t0\t0\t0\t0\t0\t0\t0\t0\t0\t0\t0\t0\t0\t0\t0\t0\t0\t0\t0\t0\t0\t0\t0\t0\t0\t0\t0\t0\t0\t0\t0\t0\t0\t0\t0\t0\t0\t0\t0\t0\t0\t0\t0\t0\t0\t0\t0\t0\t0\t0\t0\t0\t0\t0\t0\t0\t0\t0\t0\t0\t0\t0\t0\t0\t0\t0\t0\t0\t0\t0\t0\t0\t0\t0\t0\t0\t0\t0\t0\t0\t0\t0\t0\t0\t0\t0\t0\t0\t0\t0\t0\t0\t0\t0\t0\t0\t0\t0\t0\t0\t0\t0\t0\t0\t0\t0\t0\t0\t0\t0\t0\t0\t0\t0\t0\t0\t0\t0\t0\t0\t0\t0\t0\t0\t0\t0\t0\t0\t0\t0\t0\t0\t0\t0\t0\t0\t0\t0\t0\t0\t0\t0\t0\t0\t0\t0\t0\t0\t0\t0\t0\t0\t0\t0\t0\t0\t0\t0\t0\t0\t0\t0\t0\t0\t0\t0\t0\t0\t0\t0\t0\t0\t0\t0\t0\t0\t0\t0\t0\t0\t0\t0\t0\t0\t0\t0\t0\t0\t0\t0\t0\t0\t0\t0\t0\t0\t0\t0\t0\t0\t0\t0\t0\t0\t0\t0\t0\t0\t0\t0\t0\t0\t0\t0\t0\t0\t0\t0\t0\t0\t0\t0\t0\t0\t0\t0\t0\t0\t0\t0\t0\t0\t0\t0\t0\t0\t0\t0\t0\t0\t0\t0\t0\t0\t0\t0\t0\t0\t0\t0\t0\t0\t0\t0\t0\t0\t0\t0\t0\t0\t0\t0\t0\t0\t0\t0\t0\t0\t0\t0\t0\t0\t0\t0\t0\t0\t0\t0\t0\t0\t0\t0\t0\t0\t0\t0\t0\t0\t0\t0\t0\t0\t0\t0\t0\t0\t0\t0\t0\t0\t0\t0\t0\t0\t0\t0\t0\t0\t0\t0\t0\t0\t0\t0\t0\t0\t0\t0\t0\t0\t0\t0\t0\t0\t0\t0\t0\t0\t0\t0\t0\t0\t0\t0\t0\t0\t0\t0\t0\t0\t0\t0\t0\t0\t0\t0\t0\t0\t0\t0\t0\t0\t0\t0\t0\t0\t0\t0\t0\t0\t0\t0\t0\t0\t0\t0\t0\t0\t0\t0\t0\t0\t0\t0\t0\t0\t0\t0\t0\t0\t0\t0\t0\t0\t0\t0\t0\t0\t0\t0\t0\t0\t0\t0\t0\t0\t0\t0\t0\t0\t0\t0\t0\t0\t0\t0\t0\t0\t0\t0\t0\t0\t0\t0\t0\t0\t0\t0\t0\t0\t0\t0\t0\t0\t0\t0\t0\t0\t0\t0\t0\t0\t0\t0\t0\t0\t0\t0\t0\t0\t0\t0\t0\t0\t0\t0\t0\t0\t0\t0\t0\t0\t0\t0\t0\t0\t0\t0\t0\t0\t0\t0\t0\t0\t0\t0\t0\t0\t0\t0\t0\t0\t0\t0\t0\t0\t0\t0\t0\t0\t0\t0\t0\t0\t0\t0\t0\t0\t0\t0\t0\t0\t0\t0\t0\t0\t0\t0\t0\t0\t0\t0\t0\t0\t0\t0\t0\t0\t0\t0\t0\t0\t0\t0\t0\t0\t0\t0\t0\t0\t0\t0\t0\t0\t0\t0\t0\t0\t0\t0\t0\t0\t0\t0\t0\t0\t0\t0\t0\t0\t0\t0\t0\t0\t0\t0\t0\t0\t0\t0\t0\t0\t0\t0\t0\t0\t0\t0\t0\t0\t0\t0\t0\t0\t0\t0\t0\t0\t0\t0\t0\t0\t0\t0\t0\t0\t0\t0\t0\t0\t0\t0\t0\t0\t0\t0\t0\t0\t0\t0\t0\t0\t0\t0\t0\t0\t0\t0\t0\t0\t0\t0\t0\t0\t0\t0\t0\t0\t0\t0\t0\t0\t0\t0\t0\t0\t0\t0\t0\t0\t0\t0\t0\t0\t0\t0\t0\t0\t0\t0\t0\t0\t0\t0\t0\t0\t0\t0\t0\t0\t0\t0\t0\t0\t0\t0\t0\t0\t0\t0\t0\t0\t0\t0\t0\t0\t0\t0\t0\t0\t0\t0\t0\t0\t0\t0\t0\t0\t0\t0\t0\t0\t0\t0\t0\t0\t0\t0\t0\t0\t0\t0\t0\t0\t0\t0\t0\t0\t0\t0\t0\t0\t0\t0\t0\t0\t0\t0\t0\t0\t0\t0\t0\t0\t0\t0\t0\t0\t0\t0\t0\t0\t0\t0\t0\t0\t0\t0\t0\t0\t0\t0\t0\t0\t0\t0\t0\t0\t0\t0\t0\t0\t0\t0\t0\t0\t0\t0\t0\t0\t0\t0\t0\t0\t0\n"
    ++ bytes "T\tfelt\n"
    ++ bytes "D\t0\tA\t0\t1\t0\t1\tstruct\n"
    ++ bytes "D\t1\tA\t0\t1\t0\t1\tstruct\tf0\t2\tf1\t2\tf2\t2\n"
    ++ bytes "D\t0\tf\t0\t1\t0\t1\tfn\t1\n"
    ++ bytes "E\t1\t0\t1\t-\t-\treturn\t-\t-\tcast\t1\n"
    ++ bytes "E\t1\t1\t2\t-\t-\treturn\t-\t-\tlit\t-\n"
    ++ bytes "Q\texpr\t0\t0\t-\n"
    ++ bytes "Q\texpr\t0\t1\t-\n")
    ≡ bytes "expr\t0\t0\trefused\t9\n"
    ++ bytes "expr\t0\t1\ttype\tfelt\n"
unfolding resolves
limit_items_of_types_passed_printed = refl

limit_items_of_types_reached_printed :
    resolve
    (bytes "index\t1\n"
    ++ bytes "M\tmain\n"
    ++ bytes "S\t-\tmodule\n"
    ++ bytes "S\t0\tblock\n"
    ++ bytes "T\tcustom\tA\n"
    ++ bytes "T\ttuple\t0\t0\t0\t0\t0\t0\t0\t0\t0\t0\t0\t0\t0\t0\t0\t0\t0\t0\t0\t0\t0\t0\t0\t0\t0\t0\t0\t0\t0\t0\t0\t0\t0\t0\t0\t0\t0\t0\t0\t0\t0\t0\t0\t0\t0\t0\t0\t0\t0\t0\t0\t0\t0\t0\t0\t0\t0\t0\t0\t0\t0\t0\t0\t0\t0\t0\t0\t0\t0\t0\t0\t0\t0\t0\t0\t0\t0\t0\t0\t0\t0\t0\t0\t0\t0\t0\t0\t0\t0\t0\t0\t0\t0\t0\t0\t0\t0\t0\t0\t0\t0\t0\t0\t0\t0\t0\t0\t0\t0\t0\t0\t0\t0\t0\t0\t0\t0\t0\t0\t0\t0\t0\t0\t0\t0\t0\t0\t0\t0\t0\t0\t0\t0\t0\t0\t0\t0\t0\t0\t0\t0\t0\t0\t0\t0\t0\t0\t0\t0\t0\t0\t0\t0\t0\t0\t0\t0\t0\t0\t0\t0\t0\t0\t0\t0\t0\t0\t0\t0\t0\t0\t0\t0\t0\t0\t0\t0\t0\t0\t0\t0\t0\t0\t0\t0\t0\t0\t0\t0\t0\t0\t0\t0\t0\t0\t0\t0\t0\t0\t0\t0\t0\t0\t0\t0\t0\t0\t0\t0\t0\t0\t0\t0\t0\t0\t0\t0\t0\t0\t0\t0\t0\t0\t0\t0\t0\t0\t0\t0\t0\t0\t0\t0\t0\t0\t0\t0\t0\t0\t0\t0\t0\t0\t0\t0\t0\t0\t0\t0\t0\t0\t0\t0\t0\t0\t0\t0\t0\t0\t0\t0\t0\t0\t0\t0\t0\t0\t0\t0\t0\t0\t0\t0\t0\t0\t0\t0\t0\t0\t0\t0\t0\t0\t0\t0\t0\t0\t0\t0\t0\t0\t0\t0\t0\t0\t0\t0\t0\t0\t0\t0\t0\t0\t0\t0\t0\t0\t0\t0\t0\t0\t0\t0\t0\t0\t0\t0\t0\t0\t0\t0\t0\t0\t0\t0\t0\t0\t0\t0\t0\t0\t0\t0\t0\t0\t0\t0\t0\t0\t0\t0\t0\t0\t0\t0\t0\t0\t0\t0\t0\t0\t0\t0\t0\t0\t0\t0\t0\t0\t0\t0\t0\t0\t0\t0\t0\t0\t0\t0\t0\t0\t0\t0\t0\t0\t0\t0\t0\t0\t0\t0\t0\t0\t0\t0\t0\t0\t0\t0\t0\t0\t0\t0\t0\t0\t0\t0\t0\t0\t0\t0\t0\t0\t0\t0\t0\t0\t0\t0\t0\t0\t0\t0\t0\t0\t0\t0\t0\t0\t0\t0\t0\t0\t0\t0\t0\t0\t0\t0\t0\t0\t0\t0\t0\t0\t0\t0\t0\t0\t0\t0\t0\t0\t0\t0\t0\t0\t0\t0\t0\t0\t0\t0\t0\t0\t0\t0\t0\t0\t0\t0\t0\t0\t0\t0\t0\t0\t0\t0\t0\t0\t0\t0\t0\t0\t0\t0\t0\t0\t0\t0\t0\t0\t0\t0\t0\t0\t0\t0\t0\t0\t0\t0\t0\t0\t0\t0\t0\t0\t0\t0\t0\t0\t0\t0\t0\t0\t0\t0\t0\t0\t0\t0\t0\t0\t0\t0\t0\t0\t0\t0\t0\t0\t0\t0\t0\t0\t0\t0\t0\t0\t0\t0\t0\t0\t0\t0\t0\t0\t0\t0\t0\t0\t0\t0\t0\t0\t0\t0\t0\t0\t0\t0\t0\t0\t0\t0\t0\t0\t0\t0\t0\t0\t0\t0\t0\t0\t0\t0\t0\t0\t0\t0\t0\t0\t0\t0\t0\t0\t0\t0\t0\t0\t0\t0\t0\t0\t0\t0\t0\t0\t0\t0\t0\t0\t0\t0\t0\t0\t0\t0\t0\t0\t0\t0\t0\t0\t0\t0\t0\t0\t0\t0\t0\t0\t0\t0\t0\t0\t0\t0\t0\t0\t0\t0\t0\t0\t0\t0\t0\t0\t0\t0\t0\t0\t0\t0\t0\t0\t0\t0\t0\t0\t0\t0\t0\t0\t0\t0\t0\t0\t0\t0\t0\t0\t0\t0\t0\t0\t0\t0\t0\t0\t0\t0\t0\t0\t0\t0\t0\t0\t0\t0\t0\t0\t0\t0\t0\t0\t0\t0\t0\t0\t0\t0\t0\t0\t0\t0\t0\t0\t0\t0\t0\t0\t0\t0\t0\t0\t0\t0\t0\t0\t0\t0\t0\t0\t0\t0\t0\t0\t0\t0\t0\t0\t0\t0\t0\t0\t0\t0\t0\t0\t0\t0\t0\t0\t0\t0\t0\t0\t0\t0\t0\t0\t0\t0\t0\t0\t0\t0\t0\t0\t0\t0\t0\t0\t0\t0\t0\t0\t0\t0\t0\t0\t0\t0\t0\t0\t0\t0\t0\t0\t0\t0\t0\t0\t0\t0\t0\t0\t0\t0\t0\t0\t0\t0\t0\t0\t0\t0\t0\t0\t0\t0\t0\t0\t0\t0\t0\t0\t0\t0\t0\t0\t0\t0\t0\t0\t0\t0\t0\t0\t0\t0\t0\t0\t0\t0\t0\t0\t0\t0\t0\t0\t0\t0\t0\t0\t0\t0\t0\t0\t0\t0\t0\t0\t0\t0\t0\t0\t0\t0\t0\t0\t0\t0\t0\t0\t0\t0\t0\t0\t0\t0\t0\t0\t0\t0\t0\t0\t0\t0\t0\t0\t0\t0\t0\t0\t0\t0\t0\t0\t0\t0\t0\t0\t0\t0\t0\t0\t0\t0\t0\t0\t0\t0\t0\t0\t0\t0\t0\t0\t0\t0\t0\t0\t0\t0\t0\t0\t0\t0\t0\t0\t0\t0\t0\t0\t0\t0\t0\t0\t0\t0\t0\t0\t0\t0\t0\t0\t0\t0\t0\t0\t0\t0\t0\t0\t0\t0\t0\t0\t0\t0\t0\t0\t0\t0\t0\t0\t0\t0\t0\t0\t0\t0\t0\t0\t0\t0\t0\t0\t0\t0\t0\t0\t0\t0\t0\t0\t0\t0\t0\t0\t0\t0\t0\t0\t0\t0\t0\t0\t0\t0\t0\t0\t0\t0\t0\t0\t0\t0\t0\t0\t0\t0\t0\t0\t0\t0\t0\t0\t0\t0\t0\t0\t0\t0\t0\t0\t0\t0\t0\t0\t0\t0\t0\t0\t0\t0\t0\t0\t0\t0\t0\t0\t0\t0\t0\t0\t0\t0\t0\t0\t0\t0\t0\t0\t0\t0\t0\t0\n"
    ++ bytes "T\tfelt\n"
    ++ bytes "D\t0\tA\t0\t1\t0\t1\tstruct\n"
    ++ bytes "D\t1\tA\t0\t1\t0\t1\tstruct\tf0\t2\tf1\t2\n"
    ++ bytes "D\t0\tf\t0\t1\t0\t1\tfn\t1\n"
    ++ bytes "E\t1\t0\t1\t-\t-\treturn\t-\t-\tcast\t1\n"
    ++ bytes "E\t1\t1\t2\t-\t-\treturn\t-\t-\tlit\t-\n"
    ++ bytes "Q\texpr\t0\t0\t-\n"
    ++ bytes "Q\texpr\t0\t1\t-\n")
    ≡ bytes "expr\t0\t0\trefused\t10\n"
    ++ bytes "expr\t0\t1\ttype\tfelt\n"
unfolding resolves
limit_items_of_types_reached_printed = refl

limit_link_passed_printed :
    resolve
    (bytes "index\t1\n"
    ++ bytes "M\tmain\n"
    ++ bytes "S\t-\tmodule\n"
    ++ bytes "Q\tdef\t0\t65536\n"
    ++ bytes "Q\tdef\t65535\t0\n")
    ≡ bytes "refused\t4\t4\n"
unfolding resolves
limit_link_passed_printed = refl

limit_link_reached_printed :
    resolve
    (bytes "index\t1\n"
    ++ bytes "M\tmain\n"
    ++ bytes "S\t-\tmodule\n"
    ++ bytes "Q\tdef\t0\t65535\n"
    ++ bytes "Q\tdef\t65535\t0\n")
    ≡ bytes "def\t0\t65535\ttype\terror\n"
    ++ bytes "def\t65535\t0\ttype\terror\n"
unfolding resolves
limit_link_reached_printed = refl

limit_modules_passed_printed :
    resolve
    (bytes "index\t1\n"
    ++ bytes "M\tm0\n"
    ++ bytes "S\t-\tmodule\n"
    ++ bytes "D\t0\ta\t0\t1\t0\t1\tuse\tm1\ta\n"
    ++ bytes "M\tm1\n"
    ++ bytes "S\t-\tmodule\n"
    ++ bytes "D\t0\ta\t0\t1\t0\t1\tuse\tm2\ta\n"
    ++ bytes "M\tm2\n"
    ++ bytes "S\t-\tmodule\n"
    ++ bytes "D\t0\ta\t0\t1\t0\t1\tuse\tm3\ta\n"
    ++ bytes "M\tm3\n"
    ++ bytes "S\t-\tmodule\n"
    ++ bytes "D\t0\ta\t0\t1\t0\t1\tuse\tm4\ta\n"
    ++ bytes "M\tm4\n"
    ++ bytes "S\t-\tmodule\n"
    ++ bytes "D\t0\ta\t0\t1\t0\t1\tuse\tm5\ta\n"
    ++ bytes "M\tm5\n"
    ++ bytes "S\t-\tmodule\n"
    ++ bytes "D\t0\ta\t0\t1\t0\t1\tuse\tm6\ta\n"
    ++ bytes "M\tm6\n"
    ++ bytes "S\t-\tmodule\n"
    ++ bytes "D\t0\ta\t0\t1\t0\t1\tuse\tm7\ta\n"
    ++ bytes "M\tm7\n"
    ++ bytes "S\t-\tmodule\n"
    ++ bytes "D\t0\ta\t0\t1\t0\t1\tuse\tm8\ta\n"
    ++ bytes "M\tm8\n"
    ++ bytes "S\t-\tmodule\n"
    ++ bytes "D\t0\ta\t0\t1\t0\t1\tuse\tm9\ta\n"
    ++ bytes "Q\tdef\t0\t0\n"
    ++ bytes "Q\texpr\t0\t0\t-\n")
    ≡ bytes "refused\t3\t26\n"
unfolding resolves
limit_modules_passed_printed = refl

limit_modules_reached_printed :
    resolve
    (bytes "index\t1\n"
    ++ bytes "M\tm0\n"
    ++ bytes "S\t-\tmodule\n"
    ++ bytes "D\t0\ta\t0\t1\t0\t1\tuse\tm1\ta\n"
    ++ bytes "M\tm1\n"
    ++ bytes "S\t-\tmodule\n"
    ++ bytes "D\t0\ta\t0\t1\t0\t1\tuse\tm2\ta\n"
    ++ bytes "M\tm2\n"
    ++ bytes "S\t-\tmodule\n"
    ++ bytes "D\t0\ta\t0\t1\t0\t1\tuse\tm3\ta\n"
    ++ bytes "M\tm3\n"
    ++ bytes "S\t-\tmodule\n"
    ++ bytes "D\t0\ta\t0\t1\t0\t1\tuse\tm4\ta\n"
    ++ bytes "M\tm4\n"
    ++ bytes "S\t-\tmodule\n"
    ++ bytes "D\t0\ta\t0\t1\t0\t1\tuse\tm5\ta\n"
    ++ bytes "M\tm5\n"
    ++ bytes "S\t-\tmodule\n"
    ++ bytes "D\t0\ta\t0\t1\t0\t1\tuse\tm6\ta\n"
    ++ bytes "M\tm6\n"
    ++ bytes "S\t-\tmodule\n"
    ++ bytes "D\t0\ta\t0\t1\t0\t1\tuse\tm7\ta\n"
    ++ bytes "M\tm7\n"
    ++ bytes "S\t-\tmodule\n"
    ++ bytes "D\t0\ta\t0\t1\t0\t1\tuse\tm8\ta\n"
    ++ bytes "Q\tdef\t0\t0\n"
    ++ bytes "Q\texpr\t0\t0\t-\n")
    ≡ bytes "def\t0\t0\ttype\terror\n"
    ++ bytes "expr\t0\t0\ttype\terror\n"
unfolding resolves
limit_modules_reached_printed = refl

limit_name_passed_printed :
    resolve
    (bytes "index\t1\n"
    ++ bytes "M\tmain\n"
    ++ bytes "S\t-\tmodule\n"
    ++ bytes "D\t0\tnnnnnnnnnnnnnnnnnnnnnnnnnnnnnnnnnnnnnnnnnnnnnnnnnnnnnnnnnnnnnnnnn\t0\t1\t0\t1\tloop\n"
    ++ bytes "Q\tdef\t0\t0\n")
    ≡ bytes "refused\t4\t4\n"
unfolding resolves
limit_name_passed_printed = refl

limit_name_reached_printed :
    resolve
    (bytes "index\t1\n"
    ++ bytes "M\tmain\n"
    ++ bytes "S\t-\tmodule\n"
    ++ bytes "D\t0\tnnnnnnnnnnnnnnnnnnnnnnnnnnnnnnnnnnnnnnnnnnnnnnnnnnnnnnnnnnnnnnnn\t0\t1\t0\t1\tloop\n"
    ++ bytes "Q\tdef\t0\t0\n")
    ≡ bytes "def\t0\t0\ttype\tfelt\n"
unfolding resolves
limit_name_reached_printed = refl
