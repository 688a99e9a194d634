-- What makes a set of operations, homes and kinds a symmetry.
use Rattle.std.specs.Prelude.{◌≡◌, ◌≤◌, Bool, true, ◌↔◌}
use Rattle.plane.specs.declared.cell.Cell.{Cell}
use Rattle.plane.specs.Cells.{Within}
use Rattle.plane.specs.Operation.{Operation, carry, compose, identity, determinant, sign, turned, Unimodular}
use Rattle.plane.specs.Kinds.{has}
use Rattle.plane.specs.Meaning.{Meaning}

-- an operation of the set carries p onto q: q is an image of p, and lies in its class
abbrev pub Carried : (Operation → Type 0) → Cell → Cell → Type 0
Carried ops p q = (g : Operation) × ops g × (carry g p ≡ q)

-- the same by an operation of the kind given: odd or even, improper or proper
abbrev pub CarriedAs : (Operation → Type 0) → Bool → Bool → Cell → Cell → Type 0
CarriedAs ops odd flips p q = (g : Operation) × ops g × (carry g p ≡ q) × (g.odd ≡ odd) × (determinant g ≡ sign flips)

-- an odd operation of the set carries the cell to itself
abbrev pub Neutral : (Operation → Type 0) → Cell → Type 0
Neutral ops p = (g : Operation) × ops g × (carry g p ≡ p) × (g.odd ≡ true)

-- the rules for the set
pub record Group (ops : Operation → Type 0) : Type 0 where
  pub unimodular : (g : Operation) → ops g → Unimodular g
  pub unit : ops identity
  pub closed : (g h : Operation) → ops g → ops h → ops (compose g h)
  pub inverse : (g : Operation) → ops g → (h : Operation) × ops h × (compose h g ≡ identity)
  -- no map occurs with both parities
  pub single : (g : Operation) → ops g → ops (turned g) → ⊥

-- the rules for the set, the bounds and the answers
pub record Lawful (m : Meaning) : Type 0 where
  pub group : Group m.operations
  pub span_low : 1 ≤ m.span
  pub span_high : m.span ≤ 1_000_000_000
  pub hem_low : 1 ≤ m.hem
  pub hem_high : m.hem ≤ 1_000_000_000
  -- a home is within the hem
  pub near : (p : Cell) → Within m.span p → Within m.hem (m.home p)
  -- an operation carries each cell to its home
  pub carried : (p : Cell) → Within m.span p → Carried m.operations p (m.home p)
  -- two cells have one home exactly when an operation carries one onto the other
  pub one_home : (p q : Cell) → Within m.span p → Within m.span q → (m.home p ≡ m.home q) ↔ Carried m.operations p q
  -- the kinds are exactly those of the operations that carry the cell home
  pub exact : (p : Cell) → Within m.span p → (odd flips : Bool) → (has (m.kinds p) odd flips ≡ true) ↔ CarriedAs m.operations odd flips p (m.home p)
