-- `export::roognaps_load` meets its contract: the number stands for what `load` ends in, and is read as it. Assumes nothing.
use Rattle.export.proofs.Packing.{loaded_fits}
use Rattle.export.proofs.roognaps_load.Goals as goal

pub returns : goal.returns
returns c =
    let call = c.load in
    let packed = c.loaded_result.ensures in
    record { loaded = call.result; is = packed.is; reads = packed.reads (loaded_fits _ _ _ call.result call.ensures.short call.ensures.full); short = call.ensures.short; full = call.ensures.full }
