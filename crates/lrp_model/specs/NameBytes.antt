-- The bytes of a name, wherever they stand. No public clause cites this module.
use Rattle.std.specs.Prelude.{ℕ, List, take}
use Rattle.lrp_model.specs.declared.names.Bytes.{Bytes}
use Rattle.lrp_model.specs.declared.names.Bytes.TheVariants.{Few, Block, Many}

abbrev pub bytes_of : Bytes → List ℕ
bytes_of (Few short) = take short.size short.bytes
bytes_of (Block shared) = take shared.value.size shared.value.bytes
bytes_of (Many shared) = shared.value
