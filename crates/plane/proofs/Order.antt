-- The order of cells is total: of two cells that are not one, one is earlier.
use Rattle.std.proofs.Common.{◌≡◌, Bool, true, false, ◌&&◌, ◌||◌, ℤ, ap, arith}
use Rattle.std.proofs.lemmas.Bool.{and_from, and_parts, false_from_ne_true}
use Rattle.std.proofs.lemmas.Bool.Decides.{Decides-int_eq}
use Rattle.std.specs.Ordering.{int_eq}
use lib.Signed.{lt_z, le_z}
use borrow.Author.Differences.{ints}
use Rattle.plane.specs.declared.cell.Cell.{Cell}
use Rattle.plane.specs.Cells.{earlier, same}
use Rattle.plane.proofs.Algebra.{same-cell}

abbrev before : ℤ → ℤ → ℤ → ℤ → Bool
before y x y' x' = lt_z y y' || le_z y y' && lt_z x x'

before_trans : (y1 x1 y2 x2 y3 x3 : ℤ) → before y1 x1 y2 x2 ≡ false → before y2 x2 y3 x3 ≡ false → before y1 x1 y3 x3 ≡ false
before_trans y1 x1 y2 x2 y3 x3 e f = grind (arith, ints)

before_flip : (y1 x1 y2 x2 : ℤ) → before y1 x1 y2 x2 ≡ true → before y2 x2 y1 x1 ≡ false
before_flip y1 x1 y2 x2 e = grind (arith, ints)

before_row : (y1 x1 y2 x2 : ℤ) → before y1 x1 y2 x2 ≡ false → before y2 x2 y1 x1 ≡ false → y1 ≡ y2
before_row y1 x1 y2 x2 e f = grind (arith, ints)

before_column : (y1 x1 y2 x2 : ℤ) → before y1 x1 y2 x2 ≡ false → before y2 x2 y1 x1 ≡ false → x1 ≡ x2
before_column y1 x1 y2 x2 e f = grind (arith, ints)

pub earlier_trans : (c d e : Cell) → earlier c d ≡ false → earlier d e ≡ false → earlier c e ≡ false
earlier_trans c d e = before_trans c.y c.x d.y d.x e.y e.x

pub earlier_flip : (c d : Cell) → earlier c d ≡ true → earlier d c ≡ false
earlier_flip c d = before_flip c.y c.x d.y d.x

pub earlier-same : (c d : Cell) → earlier c d ≡ false → earlier d c ≡ false → c ≡ d
earlier-same c d e f = same-cell (before_column c.y c.x d.y d.x e f) (before_row c.y c.x d.y d.x e f)

-- ---- equal cells
pub same_is : (p q : Cell) → same p q ≡ true → p ≡ q
same_is p q t =
    let h = and_parts (int_eq p.x q.x) (int_eq p.y q.y) t in
    same-cell ((Decides-int_eq p.x q.x).0 h.0) ((Decides-int_eq p.y q.y).0 h.1)

pub same_of : (p q : Cell) → p ≡ q → same p q ≡ true
same_of p q e = and_from (int_eq p.x q.x) (int_eq p.y q.y) ((Decides-int_eq p.x q.x).1 (ap (λ (c : Cell). c.x) e)) ((Decides-int_eq p.y q.y).1 (ap (λ (c : Cell). c.y) e))

pub same_not : (p q : Cell) → (p ≡ q → ⊥) → same p q ≡ false
same_not p q h = false_from_ne_true (same p q) (λ t. h (same_is p q t))
