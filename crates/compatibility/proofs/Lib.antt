-- Laws of two types compared, of the bits of a word, of the store of pairs and of the scan of the operator rows. Assumes nothing.
mod ByKind
mod Compared
mod Bits
mod Store
mod Scan
