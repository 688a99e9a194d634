-- The bytes of a window: a binary PPM picture of the cells of a rectangle.
--     corner    the cell of the rectangle with the least column and the least row
--     palette   48 bytes: red, green and blue for each of the inks 0 to 15
use Rattle.std.specs.Prelude.{ℕ, ◌+◌, ◌*◌, ◌/◌, ◌%◌, cond, not, ◌||◌, List, [], ◌∷◌, ◌++◌, length, take, drop, ℤ, Some, None, Ok, Err, Option, Result, ◌==◌, nat_lt, slice_index, unsigned_abs}
use Rattle.plane.specs.declared.cell.Cell.{Cell}
use Rattle.plane.specs.Cells.{all_inside}
use Rattle.plane.specs.Rectangles.{window_cells, wrong_side}
use Rattle.plane.specs.Meaning.{Meaning}
use Rattle.canvas.specs.Board.{Board}
use Rattle.views.specs.declared.refusal.WindowRefused.{WindowRefused}
use Rattle.views.specs.declared.refusal.WindowRefused.TheVariants.{Side, OffSpan, Palette, Output}
use Rattle.views.specs.Shows.{shown_ink}

-- the byte of a digit
abbrev pub digit : ℕ → ℕ
digit n = 48 + n

-- the digits of a number below 1,000
abbrev pub decimal : ℕ → List ℕ
decimal n =
    cond (nat_lt n 10) (digit n ∷ [])
    (cond (nat_lt n 100) (digit (n / 10) ∷ digit (n % 10) ∷ [])
    (digit (n / 100) ∷ digit (n / 10 % 10) ∷ digit (n % 10) ∷ []))

-- "P6", line feed, width, blank, height, line feed, "255", line feed
abbrev pub header : ℕ → ℕ → List ℕ
header width height = 80 ∷ 54 ∷ 10 ∷ (decimal width ++ (32 ∷ (decimal height ++ (10 ∷ 50 ∷ 53 ∷ 53 ∷ 10 ∷ []))))

-- the three bytes of an ink
abbrev pub colour : List ℕ → ℕ → List ℕ
colour palette ink = slice_index palette (3 * ink) ∷ slice_index palette (3 * ink + 1) ∷ slice_index palette (3 * ink + 2) ∷ []

-- those of the ink that each cell shows, in order
abbrev pub pixels : Meaning → Board → List ℕ → List Cell → List ℕ
pixels m b palette [] = []
pixels m b palette (p ∷ ps) = colour palette (shown_ink m b p) ++ pixels m b palette ps

-- the whole picture
abbrev pub picture : Meaning → Board → List ℕ → Cell → ℕ → ℕ → List ℕ
picture m b palette corner width height = header width height ++ pixels m b palette (window_cells corner width height)

-- how many bytes that is
abbrev pub picture_size : ℕ → ℕ → ℕ
picture_size width height = length (header width height) + 3 * (width * height)

-- why a window is refused, if it is; of the palette and the output only the lengths count
abbrev pub window_refusal : ℕ → Cell → ℤ → ℤ → ℕ → ℕ → Option WindowRefused
window_refusal span corner width height palette output =
    cond (wrong_side width || wrong_side height) (Some Side)
    (cond (not (all_inside span (window_cells corner (unsigned_abs width) (unsigned_abs height)))) (Some OffSpan)
    (cond (not (palette == 48)) (Some Palette)
    (cond (nat_lt output (picture_size (unsigned_abs width) (unsigned_abs height))) (Some Output) None)))

abbrev pub windowed : Option WindowRefused → ℕ → Result ℕ WindowRefused
windowed (Some why) size = Err why
windowed None size = Ok size

-- what a window answers: how many bytes it wrote
abbrev pub window_answer : Meaning → Cell → ℤ → ℤ → List ℕ → List ℕ → Result ℕ WindowRefused
window_answer m corner width height palette output =
    windowed (window_refusal m.span corner width height (length palette) (length output)) (picture_size (unsigned_abs width) (unsigned_abs height))

-- bytes in the place of as many, from a place on; the others stay
abbrev pub placed : List ℕ → ℕ → List ℕ → List ℕ
placed output at bytes = take at output ++ (bytes ++ drop (at + length bytes) output)

-- bytes in the place of the first ones; the later ones stay
abbrev pub written_over : List ℕ → List ℕ → List ℕ
written_over bytes output = bytes ++ drop (length bytes) output

abbrev pub unless_refused : Option WindowRefused → List ℕ → List ℕ → List ℕ
unless_refused (Some why) before after = before
unless_refused None before after = after

-- the output after a window
abbrev pub window_output : Meaning → Board → Cell → ℤ → ℤ → List ℕ → List ℕ → List ℕ
window_output m b corner width height palette output =
    unless_refused (window_refusal m.span corner width height (length palette) (length output)) output
    (written_over (picture m b palette corner (unsigned_abs width) (unsigned_abs height)) output)
