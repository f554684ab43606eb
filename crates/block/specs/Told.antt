-- What the faults of blocks and readers tell: layer, number and place.
use Rattle.block.specs.declared.fault.BlockFault.{BlockFault}
use Rattle.block.specs.declared.fault.BlockFault.TheVariants as block_fault
use Rattle.block.specs.declared.fault.ReadFault.{ReadFault}
use Rattle.block.specs.declared.fault.ReadFault.TheVariants as read_fault
use Rattle.codec.specs.Told.{of_number, of_codec}
use Rattle.format.specs.declared.fault.Fault.{Fault}
use Rattle.format.specs.Faults.{fault, block, call}

abbrev pub of_block : BlockFault → Fault
of_block (block_fault.Number e) = of_number e
of_block (block_fault.Codec e) = of_codec e
of_block (block_fault.Short place) = fault block 4 place
of_block (block_fault.Compressed place) = fault block 5 place
of_block (block_fault.Suffix place) = fault block 8 place
of_block (block_fault.Order place) = fault block 9 place
of_block (block_fault.Length place) = fault block 10 place
of_block (block_fault.NoValue place) = fault block 11 place

abbrev pub of_read : ReadFault → Fault
of_read (read_fault.Block e) = of_block e
of_read (read_fault.Outside place) = fault call 14 place
