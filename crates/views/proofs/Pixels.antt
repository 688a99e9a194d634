-- The bytes of cells, three for each.
use Rattle.std.proofs.Common.{◌≡◌, ℕ, ◌+◌, ◌-◌, ◌*◌, ◌≤◌, List, [], ◌∷◌, length, sym, refl, ap, ◌∙◌, arith, length-append}
use borrow.Rule.Slice.PartMut.{put_mid}
use Rattle.plane.specs.declared.cell.Cell.{Cell}
use Rattle.plane.specs.Meaning.{Meaning}
use Rattle.canvas.specs.Board.{Board}
use Rattle.views.specs.Shows.{shown_ink}
use Rattle.plane.specs.Rectangles.{window_cells}
use Rattle.views.specs.Windows.{colour, header, picture, picture_size, pixels, placed}
use Rattle.plane.proofs.Rectangles.{window_length}
use Rattle.views.proofs.Placing.{mid_placed, placed-then}

pub pixels-length : (m : Meaning) (b : Board) (palette : List ℕ) (ps : List Cell) → length (pixels m b palette ps) ≡ 3 * length ps
pixels-length m b palette [] = refl
pixels-length m b palette (p ∷ ps) = let e = pixels-length m b palette ps in omega arith

-- how long a picture is
pub picture-length : (m : Meaning) (b : Board) (palette : List ℕ) (corner : Cell) (width height : ℕ) → length (picture m b palette corner width height) ≡ picture_size width height
picture-length m b palette corner width height =
    length-append (header width height) (pixels m b palette (window_cells corner width height))
    ∙ ap (λ n. length (header width height) + n) (pixels-length m b palette (window_cells corner width height) ∙ ap (λ n. 3 * n) (window_length corner width height))

-- one pixel is written, and those of the other cells are left
pub pixels_left : (m : Meaning) (b : Board) (palette out px last : List ℕ) (at : ℕ) (p : Cell) (left rest : List Cell) → left ≡ p ∷ rest → placed out at (pixels m b palette left) ≡ last → at + 3 * length left ≤ length out → px ≡ colour palette (shown_ink m b p) → placed (put_mid at (at + 3 - at) out px) (at + 3) (pixels m b palette rest) ≡ last
pixels_left m b palette out px last at p left rest is finish room e =
    let first : List ℕ = colour palette (shown_ink m b p) in
    let later : List ℕ = pixels m b palette rest in
    let fits : at + length first ≤ length out = omega (arith, ap length is) in
    ap (λ ys. placed ys (at + 3) later) (mid_placed out px first at (at + 3 - at) e (omega arith))
    ∙ placed-then out first later at (at + 3) (omega arith) fits
    ∙ ap (λ ps. placed out at (pixels m b palette ps)) (sym is)
    ∙ finish
