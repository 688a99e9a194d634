-- The operations of the plane.
--     carry         the map of an operation: (x, y) goes to (a x + b y + e, c x + d y + f)
--     determinant   a d - b c: 1 for a proper operation, -1 for an improper one
--     odd           the parity: false for an even operation, true for an odd one
--     compose g h   first h, then g; parities add modulo 2
use Rattle.std.specs.Prelude.{◌≡◌, Bool, true, false, not, ◌⊎◌, ℤ, pos, negsuc, ◌+ℤ◌, ◌-ℤ◌, ◌*ℤ◌}
use Rattle.plane.specs.declared.cell.Cell.{Cell}

pub record Operation : Type 0 where
  pub a : ℤ
  pub b : ℤ
  pub c : ℤ
  pub d : ℤ
  pub e : ℤ
  pub f : ℤ
  pub odd : Bool

abbrev pub carry : Operation → Cell → Cell
carry g p = record {
  x = g.a *ℤ p.x +ℤ g.b *ℤ p.y +ℤ g.e;
  y = g.c *ℤ p.x +ℤ g.d *ℤ p.y +ℤ g.f;
}

abbrev pub determinant : Operation → ℤ
determinant g = g.a *ℤ g.d -ℤ g.b *ℤ g.c

-- proper or improper, and nothing else
abbrev pub Unimodular : Operation → Type 0
Unimodular g = (determinant g ≡ pos 1) ⊎ (determinant g ≡ negsuc 0)

-- the sum of two parities
abbrev pub xor : Bool → Bool → Bool
xor true b = not b
xor false b = b

abbrev pub compose : Operation → Operation → Operation
compose g h = record {
  a = g.a *ℤ h.a +ℤ g.b *ℤ h.c;
  b = g.a *ℤ h.b +ℤ g.b *ℤ h.d;
  c = g.c *ℤ h.a +ℤ g.d *ℤ h.c;
  d = g.c *ℤ h.b +ℤ g.d *ℤ h.d;
  e = g.a *ℤ h.e +ℤ g.b *ℤ h.f +ℤ g.e;
  f = g.c *ℤ h.e +ℤ g.d *ℤ h.f +ℤ g.f;
  odd = xor g.odd h.odd;
}

-- every cell to itself, even
abbrev pub identity : Operation
identity = record { a = pos 1; b = pos 0; c = pos 0; d = pos 1; e = pos 0; f = pos 0; odd = false }

-- (x, y) to (x + u, y + v), even
abbrev pub translation : ℤ → ℤ → Operation
translation u v = record { a = pos 1; b = pos 0; c = pos 0; d = pos 1; e = u; f = v; odd = false }

-- the determinant of a proper operation (false) and of an improper one (true)
abbrev pub sign : Bool → ℤ
sign false = pos 1
sign true = negsuc 0

-- whether a number is below 0
abbrev pub negative : ℤ → Bool
negative (pos n) = false
negative (negsuc n) = true

abbrev pub improper : Operation → Bool
improper g = negative (determinant g)

-- the same map with the parity given
abbrev pub with_parity : Bool → Operation → Operation
with_parity o g = record { a = g.a; b = g.b; c = g.c; d = g.d; e = g.e; f = g.f; odd = o }

-- the same map with the other parity
abbrev pub turned : Operation → Operation
turned g = with_parity (not g.odd) g
