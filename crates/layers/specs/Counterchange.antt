-- A symmetry counterchanged: the parity of each improper operation changes.
use Rattle.plane.specs.declared.kinds.Kinds.{Kinds}
use Rattle.plane.specs.Operation.{Operation, xor, improper, with_parity}
use Rattle.plane.specs.Meaning.{Meaning}

-- the operation with 1 added to its parity if it is improper. Done twice, it gives the operation back
abbrev pub twist : Operation → Operation
twist g = with_parity (xor g.odd (improper g)) g

-- the kinds of operations whose parity changes so
abbrev pub exchanged : Kinds → Kinds
exchanged k = record {
  even_proper = k.even_proper;
  even_improper = k.odd_improper;
  odd_proper = k.odd_proper;
  odd_improper = k.even_improper;
}

-- g is in the set when, its parity changed back, it is in the set below
abbrev pub counterchanged : Meaning → Meaning
counterchanged m = record {
  operations = λ g. m.operations (twist g);
  span = m.span;
  hem = m.hem;
  home = m.home;
  kinds = λ p. exchanged (m.kinds p);
}
