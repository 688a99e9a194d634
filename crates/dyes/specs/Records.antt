-- Records of a name and an ink.
use Rattle.shelf.specs.Keys.{Keys}
use Rattle.dyes.specs.declared.name.DyeName.{DyeName}
use Rattle.dyes.specs.declared.record.DyeRecord.{DyeRecord}
use Rattle.dyes.specs.Names.{blank_name, lexical}

abbrev pub blank_record : DyeRecord
blank_record = record { name = blank_name; ink = 0 }

-- records are ordered by the bytes of their names
abbrev pub dye_keys : Keys DyeRecord DyeName
dye_keys = record { key = λ r. r.name; before = λ m n. lexical m.letters n.letters }
