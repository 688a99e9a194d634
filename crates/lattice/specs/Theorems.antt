-- What is proved of reductions and homes.
use Rattle.std.specs.Prelude.{◌≡◌, ◌↔◌}
use Rattle.plane.specs.declared.cell.Cell.{Cell}
use Rattle.plane.specs.Operation.{Operation}
use Rattle.plane.specs.Laws.{Carried}
use Rattle.lattice.specs.declared.vectors.Vectors.{Vectors}
use Rattle.lattice.specs.declared.reduced.Reduced.{Reduced}
use Rattle.lattice.specs.Lattice.{lattice}
use Rattle.lattice.specs.Reduction.{Reduces, basis}
use Rattle.lattice.specs.Oblique.{InBox, boxed}

-- two vectors have only one reduction
abbrev pub OneReduction : Type 0
OneReduction = (v : Vectors) (s t : Reduced) → Reduces v s → Reduces v t → s ≡ t

-- the reduced vectors give the same set of operations
abbrev pub SameLattice : Type 0
SameLattice = (v : Vectors) (t : Reduced) → Reduces v t → (g : Operation) → lattice v g ↔ lattice (basis t) g

-- the home of a cell is the one cell of its class in the box: it is an image of the cell, in the box, and no other image is
pub record OneInBox (v : Vectors) (t : Reduced) (p : Cell) : Type 0 where
  pub image : Carried (lattice v) p (boxed t p)
  pub inside : InBox t (boxed t p)
  pub only : (q : Cell) → Carried (lattice v) p q → InBox t q → q ≡ boxed t p

abbrev pub HomesInBox : Type 0
HomesInBox = (v : Vectors) (t : Reduced) → Reduces v t → (p : Cell) → OneInBox v t p
