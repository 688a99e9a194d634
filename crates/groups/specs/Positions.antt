-- Single positions: their numbers, and the operation that one stands for at given periods.
use Rattle.std.specs.Prelude.{ℕ, ◌/◌, Bool, false, List, ℤ, pos, ◌-ℤ◌, ◌*ℤ◌, slice_index_or}
use Rattle.plane.specs.Operation.{Operation, negative}
use Rattle.groups.specs.declared.position.Position.{Position}

-- the position with the numbers a b c d s t
abbrev pub position_of : List ℤ → Position
position_of row = record {
  a = slice_index_or row 0 (pos 0);
  b = slice_index_or row 1 (pos 0);
  c = slice_index_or row 2 (pos 0);
  d = slice_index_or row 3 (pos 0);
  s = slice_index_or row 4 (pos 0);
  t = slice_index_or row 5 (pos 0);
}

-- the position at the periods p and q: a shift of a half is p/2 in x and q/2 in y
abbrev pub operation : ℕ → ℕ → Position → Operation
operation p q r = record { a = r.a; b = r.b; c = r.c; d = r.d; e = r.s *ℤ pos (p / 2); f = r.t *ℤ pos (q / 2); odd = false }

-- whether a position is improper
abbrev pub mirrors : Position → Bool
mirrors r = negative (r.a *ℤ r.d -ℤ r.b *ℤ r.c)
