-- What a codec means, by the ghost members of its trait.
use Rattle.format.specs.Codecs.{Meaning, meant}
use Rattle.codec.specs.declared.value.Codec.{Ghosts}

abbrev pub meaning : {C V : Type 0} → Ghosts C V → Meaning V
meaning g = meant g.rule g.bytes g.opens g.steps
