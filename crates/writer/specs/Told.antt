-- What the faults of a writer tell: layer, number and ordinal.
use Rattle.codec.specs.Told.{of_codec}
use Rattle.format.specs.declared.fault.Fault.{Fault}
use Rattle.format.specs.Faults.{fault, call}
use Rattle.writer.specs.declared.fault.WriterFault.{WriterFault}
use Rattle.writer.specs.declared.fault.WriterFault.TheVariants as writer_fault

abbrev pub of_writer : WriterFault → Fault
of_writer (writer_fault.KeyLength ordinal) = fault call 1 ordinal
of_writer (writer_fault.KeyOrder ordinal) = fault call 2 ordinal
of_writer (writer_fault.Codec e) = of_codec e
of_writer (writer_fault.KeyWaits ordinal) = fault call 21 ordinal
of_writer (writer_fault.NoKeyWaits ordinal) = fault call 22 ordinal
of_writer (writer_fault.Finished ordinal) = fault call 23 ordinal
of_writer (writer_fault.OutputShort ordinal) = fault call 24 ordinal
