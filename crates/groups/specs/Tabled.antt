-- A tabled group at the periods p and q, as a symmetry.
--     repeat   the cells with 0 ≤ x < p and 0 ≤ y < q
--     image    of a cell under a position, brought into the repeat
--     home     the least of these images
use Rattle.std.specs.Prelude.{◌≡◌, ℕ, ◌<◌, Bool, true, false, cond, not, ◌&&◌, List, [], ◌∷◌, ℤ, pos, ◌*ℤ◌}
use Rattle.ints.specs.Floor.{floor_mod}
use Rattle.plane.specs.declared.cell.Cell.{Cell}
use Rattle.plane.specs.declared.kinds.Kinds.{Kinds}
use Rattle.plane.specs.Cells.{earlier, same}
use Rattle.plane.specs.Operation.{Operation, carry, compose, translation}
use Rattle.plane.specs.Meaning.{Meaning}
use Rattle.plane.specs.Laws.{Carried}
use Rattle.groups.specs.declared.position.Position.{Position}
use Rattle.groups.specs.Lists.{In, some}
use Rattle.groups.specs.Table.{rows}
use Rattle.groups.specs.Positions.{operation, mirrors}
use Rattle.groups.specs.Rules.{known, allowed}

-- an operation of the group: one of its positions, followed by a translation by multiples of the periods
pub record Operates (number p q : ℕ) (g : Operation) : Type 0 where
  pub position : Position
  pub listed : In position (rows number)
  pub across : ℤ
  pub down : ℤ
  pub is : g ≡ compose (translation (across *ℤ pos p) (down *ℤ pos q)) (operation p q position)

-- a cell brought into the repeat
abbrev pub reduced : ℕ → ℕ → Cell → Cell
reduced p q c = record { x = pos (floor_mod c.x p); y = pos (floor_mod c.y q) }

abbrev pub image : ℕ → ℕ → Cell → Position → Cell
image p q c r = reduced p q (carry (operation p q r) c)

abbrev pub first_of : Cell → Cell → Cell
first_of c d = cond (earlier c d) c d

-- the least of a cell found so far and the images under the positions
abbrev pub least : ℕ → ℕ → Cell → Cell → List Position → Cell
least p q c best [] = best
least p q c best (r ∷ rs) = least p q c (first_of (image p q c r) best) rs

unfoldable pub home_in : ℕ → ℕ → ℕ → Cell → Cell
home_in number p q c = least p q c (reduced p q c) (rows number)

-- whether a position that is improper (true) or proper (false) carries the cell to another in the repeat
abbrev pub carries : ℕ → ℕ → Cell → Cell → Bool → Position → Bool
carries p q c h true r = same (image p q c r) h && mirrors r
carries p q c h false r = same (image p q c r) h && not (mirrors r)

unfoldable pub kinds_in : ℕ → ℕ → ℕ → Cell → Kinds
kinds_in number p q c = record {
  even_proper = some (carries p q c (home_in number p q c) false) (rows number);
  even_improper = some (carries p q c (home_in number p q c) true) (rows number);
  odd_proper = false;
  odd_improper = false;
}

abbrev pub tabled : ℕ → ℕ → ℕ → Meaning
tabled number p q = record {
  operations = Operates number p q;
  span = 1_000_000;
  hem = 128;
  home = home_in number p q;
  kinds = kinds_in number p q;
}

pub record InRepeat (p q : ℕ) (z : Cell) : Type 0 where
  pub column : ℕ
  pub row : ℕ
  pub x : z.x ≡ pos column
  pub y : z.y ≡ pos row
  pub narrow : column < p
  pub low : row < q

-- an image in the repeat, and no image in the repeat comes before it
pub record LeastImage (number p q : ℕ) (c home : Cell) : Type 0 where
  pub inside : InRepeat p q home
  pub carried : Carried (Operates number p q) c home
  pub least : (z : Cell) → InRepeat p q z → Carried (Operates number p q) c z → earlier z home ≡ false

-- what the homes of tabled groups are
abbrev pub HomesLeast : Type 0
HomesLeast = (number p q : ℕ) → known number ≡ true → allowed number p q ≡ true → (c : Cell) → LeastImage number p q c (home_in number p q c)
