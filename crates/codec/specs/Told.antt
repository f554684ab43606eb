-- What the faults of numbers and codecs tell: layer, number and place.
use Rattle.codec.specs.declared.fault.NumberFault.{NumberFault}
use Rattle.codec.specs.declared.fault.NumberFault.TheVariants as number_fault
use Rattle.codec.specs.declared.fault.CodecFault.{CodecFault}
use Rattle.codec.specs.declared.fault.CodecFault.TheVariants as codec_fault
use Rattle.format.specs.declared.fault.Fault.{Fault}
use Rattle.format.specs.Faults.{fault, bad_number, codec}

abbrev pub of_number : NumberFault → Fault
of_number (number_fault.Bad place) = bad_number place

abbrev pub of_codec : CodecFault → Fault
of_codec (codec_fault.Number e) = of_number e
of_codec (codec_fault.Rule ordinal) = fault codec 3 ordinal
of_codec (codec_fault.Sum place) = fault codec 7 place
