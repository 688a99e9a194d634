-- What the proofs about ledgers use of a symmetry: that its operations, by their parities, relate the cells, and what homes and kinds are. Every lawful symmetry gives it.
use Rattle.std.proofs.Common.{◌≡◌, Bool, true, false}
use Rattle.plane.specs.declared.cell.Cell.{Cell}
use Rattle.plane.specs.Cells.{Within}
use Rattle.plane.specs.Operation.{Operation, carry, xor}
use Rattle.plane.specs.Meaning.{Meaning}
use Rattle.plane.specs.Laws.{Carried, Neutral}
use Rattle.views.specs.Tints.{all_odd, neutral}

-- an operation of this parity carries p onto q
abbrev pub Goes : (Operation → Type 0) → Bool → Cell → Cell → Type 0
Goes ops parity p q = (g : Operation) × ops g × (carry g p ≡ q) × (g.odd ≡ parity)

-- the parity with which a cell goes home
abbrev pub flips : Meaning → Cell → Bool
flips m p = all_odd (m.kinds p)

pub record Classes (m : Meaning) : Type 0 where
  pub stay : (p : Cell) → Goes m.operations false p p
  pub next : (a b : Bool) (p q r : Cell) → Goes m.operations a p q → Goes m.operations b q r → Goes m.operations (xor a b) p r
  pub back : (a : Bool) (p q : Cell) → Goes m.operations a p q → Goes m.operations a q p
  pub homeward : (p : Cell) → Within m.span p → Goes m.operations (flips m p) p (m.home p)
  pub one_home : (p q : Cell) → Within m.span p → Within m.span q → Carried m.operations p q → m.home p ≡ m.home q
  pub mixes : (p : Cell) → Within m.span p → neutral (m.kinds p) ≡ true → Neutral m.operations p
  pub mixed : (p : Cell) → Within m.span p → Neutral m.operations p → neutral (m.kinds p) ≡ true
