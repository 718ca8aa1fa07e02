-- Index files and what the oracle printed for them, from text to text. Written by definition_check.py. Assumes nothing.
use Rattle.std.specs.Prelude.{◌≡◌, refl, ◌++◌}
use Rattle.model.specs.Common.{bytes}
use Rattle.resolution.specs.Resolve.{resolve}
use Rattle.resolution.specs.Computes.{resolves}

at_reversed_span_printed :
    resolve
    (bytes "index\t1\n"
    ++ bytes "M\tmain\n"
    ++ bytes "S\t-\tmodule\n"
    ++ bytes "E\t0\t7\t4\t-\t-\tplain\t-\t-\tbool\n"
    ++ bytes "Q\tat\t0\t3\n"
    ++ bytes "Q\tat\t0\t4\n"
    ++ bytes "Q\tat\t0\t5\n"
    ++ bytes "Q\tat\t0\t6\n"
    ++ bytes "Q\tat\t0\t7\n"
    ++ bytes "Q\tat\t0\t8\n")
    ≡ bytes "at\t0\t3\tnone\n"
    ++ bytes "at\t0\t4\tnone\n"
    ++ bytes "at\t0\t5\tnone\n"
    ++ bytes "at\t0\t6\tnone\n"
    ++ bytes "at\t0\t7\tnone\n"
    ++ bytes "at\t0\t8\tnone\n"
unfolding resolves
at_reversed_span_printed = refl

at_start_is_in_end_is_out_printed :
    resolve
    (bytes "index\t1\n"
    ++ bytes "M\tmain\n"
    ++ bytes "S\t-\tmodule\n"
    ++ bytes "E\t0\t5\t8\t-\t-\tplain\t-\t-\tbool\n"
    ++ bytes "Q\tat\t0\t4\n"
    ++ bytes "Q\tat\t0\t5\n"
    ++ bytes "Q\tat\t0\t7\n"
    ++ bytes "Q\tat\t0\t8\n"
    ++ bytes "Q\tat\t0\t9\n")
    ≡ bytes "at\t0\t4\tnone\n"
    ++ bytes "at\t0\t5\ttype\tbool\n"
    ++ bytes "at\t0\t7\ttype\tbool\n"
    ++ bytes "at\t0\t8\tnone\n"
    ++ bytes "at\t0\t9\tnone\n"
unfolding resolves
at_start_is_in_end_is_out_printed = refl

at_the_last_positions_printed :
    resolve
    (bytes "index\t1\n"
    ++ bytes "M\tmain\n"
    ++ bytes "S\t-\tmodule\n"
    ++ bytes "E\t0\t0\t4294967295\t-\t-\tplain\t-\t-\ttuple\n"
    ++ bytes "E\t0\t4294967294\t4294967295\t-\t-\tplain\t-\t-\tbool\n"
    ++ bytes "Q\tat\t0\t0\n"
    ++ bytes "Q\tat\t0\t4294967293\n"
    ++ bytes "Q\tat\t0\t4294967294\n"
    ++ bytes "Q\tat\t0\t4294967295\n")
    ≡ bytes "at\t0\t0\ttype\t()\n"
    ++ bytes "at\t0\t4294967293\ttype\t()\n"
    ++ bytes "at\t0\t4294967294\ttype\tbool\n"
    ++ bytes "at\t0\t4294967295\tnone\n"
unfolding resolves
at_the_last_positions_printed = refl

at_the_shortest_printed :
    resolve
    (bytes "index\t1\n"
    ++ bytes "M\tmain\n"
    ++ bytes "S\t-\tmodule\n"
    ++ bytes "E\t0\t0\t10\t-\t-\tplain\t-\t-\ttuple\n"
    ++ bytes "E\t0\t2\t6\t-\t-\tplain\t-\t-\tlit\t-\n"
    ++ bytes "E\t0\t3\t4\t-\t-\tplain\t-\t-\tbool\n"
    ++ bytes "Q\tat\t0\t1\n"
    ++ bytes "Q\tat\t0\t2\n"
    ++ bytes "Q\tat\t0\t3\n"
    ++ bytes "Q\tat\t0\t4\n"
    ++ bytes "Q\tat\t0\t5\n"
    ++ bytes "Q\tat\t0\t6\n"
    ++ bytes "Q\tat\t0\t9\n"
    ++ bytes "Q\tat\t0\t10\n")
    ≡ bytes "at\t0\t1\ttype\t()\n"
    ++ bytes "at\t0\t2\ttype\tfelt\n"
    ++ bytes "at\t0\t3\ttype\tbool\n"
    ++ bytes "at\t0\t4\ttype\tfelt\n"
    ++ bytes "at\t0\t5\ttype\tfelt\n"
    ++ bytes "at\t0\t6\ttype\t()\n"
    ++ bytes "at\t0\t9\ttype\t()\n"
    ++ bytes "at\t0\t10\tnone\n"
unfolding resolves
at_the_shortest_printed = refl

at_the_shortest_first_printed :
    resolve
    (bytes "index\t1\n"
    ++ bytes "M\tmain\n"
    ++ bytes "S\t-\tmodule\n"
    ++ bytes "E\t0\t3\t4\t-\t-\tplain\t-\t-\tbool\n"
    ++ bytes "E\t0\t2\t6\t-\t-\tplain\t-\t-\tlit\t-\n"
    ++ bytes "E\t0\t0\t10\t-\t-\tplain\t-\t-\ttuple\n"
    ++ bytes "Q\tat\t0\t1\n"
    ++ bytes "Q\tat\t0\t2\n"
    ++ bytes "Q\tat\t0\t3\n"
    ++ bytes "Q\tat\t0\t4\n"
    ++ bytes "Q\tat\t0\t6\n")
    ≡ bytes "at\t0\t1\ttype\t()\n"
    ++ bytes "at\t0\t2\ttype\tfelt\n"
    ++ bytes "at\t0\t3\ttype\tbool\n"
    ++ bytes "at\t0\t4\ttype\tfelt\n"
    ++ bytes "at\t0\t6\ttype\t()\n"
unfolding resolves
at_the_shortest_first_printed = refl

at_three_equally_short_printed :
    resolve
    (bytes "index\t1\n"
    ++ bytes "M\tmain\n"
    ++ bytes "S\t-\tmodule\n"
    ++ bytes "E\t0\t1\t5\t-\t-\tplain\t-\t-\tbool\n"
    ++ bytes "E\t0\t3\t7\t-\t-\tplain\t-\t-\tlit\t-\n"
    ++ bytes "E\t0\t2\t6\t-\t-\tplain\t-\t-\ttuple\n"
    ++ bytes "Q\tat\t0\t1\n"
    ++ bytes "Q\tat\t0\t2\n"
    ++ bytes "Q\tat\t0\t4\n"
    ++ bytes "Q\tat\t0\t5\n"
    ++ bytes "Q\tat\t0\t6\n")
    ≡ bytes "at\t0\t1\ttype\tbool\n"
    ++ bytes "at\t0\t2\ttype\t()\n"
    ++ bytes "at\t0\t4\ttype\t()\n"
    ++ bytes "at\t0\t5\ttype\t()\n"
    ++ bytes "at\t0\t6\ttype\tfelt\n"
unfolding resolves
at_three_equally_short_printed = refl

at_two_modules_printed :
    resolve
    (bytes "index\t1\n"
    ++ bytes "M\tmain\n"
    ++ bytes "S\t-\tmodule\n"
    ++ bytes "E\t0\t0\t9\t-\t-\tplain\t-\t-\tbool\n"
    ++ bytes "E\t0\t2\t3\t-\t-\tplain\t-\t-\ttuple\n"
    ++ bytes "M\tother\n"
    ++ bytes "S\t-\tmodule\n"
    ++ bytes "E\t0\t2\t5\t-\t-\tplain\t-\t-\tlit\t-\n"
    ++ bytes "Q\tat\t0\t0\n"
    ++ bytes "Q\tat\t0\t2\n"
    ++ bytes "Q\tat\t0\t4\n"
    ++ bytes "Q\tat\t1\t0\n"
    ++ bytes "Q\tat\t1\t2\n"
    ++ bytes "Q\tat\t1\t4\n"
    ++ bytes "Q\tat\t1\t5\n")
    ≡ bytes "at\t0\t0\ttype\tbool\n"
    ++ bytes "at\t0\t2\ttype\t()\n"
    ++ bytes "at\t0\t4\ttype\tbool\n"
    ++ bytes "at\t1\t0\tnone\n"
    ++ bytes "at\t1\t2\ttype\tfelt\n"
    ++ bytes "at\t1\t4\ttype\tfelt\n"
    ++ bytes "at\t1\t5\tnone\n"
unfolding resolves
at_two_modules_printed = refl
