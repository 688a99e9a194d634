-- What a show and a window answer, and the bytes that a window writes, by the ledger.
--     pixels   three bytes of the palette for each cell, in order: those of the ink that it shows
--     denies   a window is refused
use Rattle.std.specs.Prelude.{◌≡◌, ℕ, ◌<◌, ◌⊎◌, List, [], ◌∷◌, ◌++◌, length, ℤ, pos, ◌≤ℤ◌, Ok, Err, Result, ◌≢◌, unsigned_abs}
use Rattle.plane.specs.declared.cell.Cell.{Cell}
use Rattle.plane.specs.declared.fold.FoldRefused.{FoldRefused}
use Rattle.plane.specs.declared.fold.FoldRefused.TheVariants.{OffSpan as CellOffSpan}
use Rattle.plane.specs.Operation.{Operation}
use Rattle.plane.specs.Cells.{AllWithin, Within}
use Rattle.views.specs.declared.refusal.WindowRefused.{WindowRefused}
use Rattle.views.specs.declared.refusal.WindowRefused.TheVariants.{Side, OffSpan, Palette, Output}
use Rattle.plane.specs.Rectangles.{window_cells}
use Rattle.views.specs.Windows.{header, colour, picture_size, written_over}
use Rattle.ledger.specs.Ledgers.{Ledger}
use Rattle.ledger.specs.Planes.{Shows}
use Rattle.ledger.specs.Feeding.{Setting}

-- a show of a cell
abbrev pub ShowsAt : Setting → Ledger → Cell → Result ℕ FoldRefused → Type 0
ShowsAt s L q answer =
    (Within s.span q × ((ink : ℕ) × Shows s.operations L q ink × (answer ≡ Ok ink)))
    ⊎ ((Within s.span q → ⊥) × (answer ≡ Err CellOffSpan))

abbrev pub Pixels : (Operation → Type 0) → Ledger → List ℕ → List Cell → List ℕ → Type 0
Pixels ops L palette [] bytes = bytes ≡ []
Pixels ops L palette (q ∷ qs) bytes = (ink : ℕ) × (rest : List ℕ) × Shows ops L q ink × (bytes ≡ colour palette ink ++ rest) × Pixels ops L palette qs rest

-- a side has 1 to 128 cells
abbrev pub Sized : ℤ → Type 0
Sized side = (pos 1 ≤ℤ side) × (side ≤ℤ pos 128)

abbrev pub BothSized : ℤ → ℤ → Type 0
BothSized width height = Sized width × Sized height

-- the cells of a window are within the span
abbrev pub Spanned : Setting → Cell → ℤ → ℤ → Type 0
Spanned s corner width height = AllWithin s.span (window_cells corner (unsigned_abs width) (unsigned_abs height))

-- by the lengths of the palette and the output, the first of four reasons that holds
abbrev pub Denies : Setting → Cell → ℤ → ℤ → ℕ → ℕ → WindowRefused → Type 0
Denies s corner width height palette output Side = BothSized width height → ⊥
Denies s corner width height palette output OffSpan = BothSized width height × (Spanned s corner width height → ⊥)
Denies s corner width height palette output Palette = BothSized width height × Spanned s corner width height × (palette ≢ 48)
Denies s corner width height palette output Output = BothSized width height × Spanned s corner width height × (palette ≡ 48) × (output < picture_size (unsigned_abs width) (unsigned_abs height))

-- a window with a palette turns an output from before to after: it is refused and leaves it, or it writes the header and the pixels over the first bytes and answers how many it wrote
abbrev pub Paints : Setting → Ledger → Cell → ℤ → ℤ → List ℕ → List ℕ → List ℕ → Result ℕ WindowRefused → Type 0
Paints s L corner width height palette before after answer =
    ((why : WindowRefused) × Denies s corner width height (length palette) (length before) why × (after ≡ before) × (answer ≡ Err why))
    ⊎ (((why : WindowRefused) → Denies s corner width height (length palette) (length before) why → ⊥) × ((pixels : List ℕ) × Pixels s.operations L palette (window_cells corner (unsigned_abs width) (unsigned_abs height)) pixels × (after ≡ written_over (header (unsigned_abs width) (unsigned_abs height) ++ pixels) before) × (answer ≡ Ok (length (header (unsigned_abs width) (unsigned_abs height) ++ pixels)))))
