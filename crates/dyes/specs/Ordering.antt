-- Names are in a total order, that of their derived comparison.
use Rattle.std.specs.Prelude.{◌≡◌, false}
use Rattle.std.proofs.Common.{sym}
use Rattle.std.specs.Cmp.Lexicographic.{slice_cmp}
use Rattle.std.specs.Ordering.{is_lt, nat_cmp}
use Rattle.shelf.specs.Keys.{TotalOrder}
use Rattle.dyes.specs.declared.name.DyeName.{DyeName}
use Rattle.dyes.specs.Names.{lexical}
use Rattle.dyes.specs.Records.{dye_keys}
use Rattle.dyes.specs.Lexical.{lexical_is, lexical_irreflexive, lexical_transitive, lexical_total}

pub names_ordered : TotalOrder dye_keys
names_ordered = record { irreflexive = λ m. lexical_irreflexive m.letters; transitive = λ m n o. lexical_transitive m.letters n.letters o.letters; total = total }
  where
    total : (m n : DyeName) → lexical m.letters n.letters ≡ false → lexical n.letters m.letters ≡ false → m ≡ n
    total m n h k = let e = lexical_total m.letters n.letters h k in λ i. record { letters = e i }

-- what is before by the bytes is less
pub name_before : (m n : DyeName) → dye_keys.before m n ≡ is_lt (slice_cmp nat_cmp m.letters n.letters)
name_before m n = sym (lexical_is m.letters n.letters)
