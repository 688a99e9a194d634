-- What a ledger says of the plane, by the set of operations.
--     shows    a cell shows the ink of the latest laid cell that an operation carries onto it, as counterpart for an odd operation; it is bare if none reaches it
--     inked    the latest laid cell that an operation carries onto the cell has an ink other than 0
--     makes    the images of some cells are exactly the inked cells of the plane
--     fewest   so many cells make the inked cells, and no fewer do
use Rattle.std.specs.Prelude.{◌≡◌, ℕ, ◌≤◌, ◌⊎◌, ◌↔◌, List, length}
use Rattle.plane.specs.declared.cell.Cell.{Cell}
use Rattle.plane.specs.Operation.{Operation, carry}
use Rattle.plane.specs.Laws.{Carried}
use Rattle.canvas.specs.Distinct.{Member, Distinct}
use Rattle.views.specs.Tints.{tinted}
use Rattle.ledger.specs.Ledgers.{Entry, Ledger, Latest, Untouched, Colours}

abbrev pub Shows : (Operation → Type 0) → Ledger → Cell → ℕ → Type 0
Shows ops L q ink =
    ((l : Entry) × Latest (λ p. Carried ops p q) L l × ((g : Operation) → ops g → carry g l.cell ≡ q → ink ≡ tinted g.odd l.mark.ink))
    ⊎ (Untouched (λ p. Carried ops p q) L × (ink ≡ 0))

abbrev pub Inked : (Operation → Type 0) → Ledger → Cell → Type 0
Inked ops L q = (l : Entry) × Latest (λ p. Carried ops p q) L l × Colours l.mark

abbrev pub Makes : (Operation → Type 0) → Ledger → List Cell → Type 0
Makes ops L ts = (q : Cell) → ((t : Cell) × Member t ts × Carried ops t q) ↔ Inked ops L q

pub record Fewest (ops : Operation → Type 0) (L : Ledger) (n : ℕ) : Type 0 where
  pub some : (ts : List Cell) × Distinct ts × Makes ops L ts × (length ts ≡ n)
  pub least : (ts : List Cell) → Makes ops L ts → n ≤ length ts
