-- The table of checked examples.
use Rattle.std.specs.Prelude.{◌≡◌, ℕ, Bool, true, false, List, [], ◌∷◌, pos, is_ok, Some, None, Ok, Option, slice_index_or}
use Rattle.plane.specs.declared.cell.Cell.{Cell}
use Rattle.plane.specs.declared.kinds.Kinds.{Kinds}
use Rattle.plane.specs.Meaning.{extent_of, folded}
use Rattle.groups.specs.Refusals.{refusal}
use Rattle.groups.specs.Tabled.{tabled}
use Rattle.lattice.specs.declared.reduced.Reduced.{Reduced}
use Rattle.lattice.specs.declared.vectors.Vectors.{Vectors}
use Rattle.lattice.specs.Lattice.{refusal as oblique-refusal}
use Rattle.lattice.specs.Oblique.{oblique}
use Rattle.lattice.specs.Reduction.{reduction}
use Rattle.layers.specs.declared.layer.Layer.{Layer}
use Rattle.layers.specs.declared.layer.Layer.TheVariants.{Recast, Counterchange}
use Rattle.layers.specs.Layer.{layer_extent, layered}
use Rattle.canvas.specs.Board.{Board}
use Rattle.lines.specs.Lines.{line_cells}
use Rattle.views.specs.Shows.{shown}
use Rattle.sheet.specs.declared.refusal.StrokeRefused.{StrokeRefused}
use Rattle.sheet.specs.Laying.{marked}
use Rattle.sheet.specs.Refusals.{stroke_number}
use Rattle.sheet.specs.Strokes.{Stroked, dotted, stroke_answer}

pub data Example : Type 0 where
  -- a tabled group by number and periods, a cell, its home and its kinds
  tabled_fold : (number p q : ℕ) (at home : Cell) (kinds : Kinds) → Example
  -- two vectors, their reduction, a cell and its home
  oblique_fold : (vectors : Vectors) (reduced : Reduced) (at home : Cell) → Example
  -- a layer over a tabled group, a cell, its home and its kinds
  layered_fold : (layer : Layer) (number p q : ℕ) (at home : Cell) (kinds : Kinds) → Example
  -- the ends of a line, a step of it and its cell there
  line_step : (from to : Cell) (step : ℕ) (at : Cell) → Example
  -- a layer over a tabled group, a dot's cell and ink on an empty board, and a cell with the ink that it then shows
  dot_shown : (layer : Layer) (number p q : ℕ) (at : Cell) (ink : ℕ) (seen : Cell) (shows : ℕ) → Example
  -- a layer over a tabled group, a dot's cell and ink on an empty board, and the number of its refusal
  dot_refused : (layer : Layer) (number p q : ℕ) (at : Cell) (ink why : ℕ) → Example

abbrev pub cell : ℕ → ℕ → Cell
cell x y = record { x = pos x; y = pos y }

-- kind 0, kind 1 or both
abbrev pub even_kinds : Bool → Bool → Kinds
even_kinds proper improper = record { even_proper = proper; even_improper = improper; odd_proper = false; odd_improper = false }

-- kind 0, kind 3 or both
abbrev pub exchanged_kinds : Bool → Bool → Kinds
exchanged_kinds even odd = record { even_proper = even; even_improper = false; odd_proper = false; odd_improper = odd }

abbrev pub examples : List Example
examples =
    -- p2, 4 by 4
    tabled_fold 2 4 4 (cell 3 3) (cell 1 1) (even_kinds true false) ∷
    -- pg, 6 by 6
    tabled_fold 4 6 6 (cell 1 4) (cell 5 1) (even_kinds false true) ∷
    -- p3m1, 5 by 5
    tabled_fold 14 5 5 (cell 1 3) (cell 1 3) (even_kinds true true) ∷
    -- p31m, 5 by 5
    tabled_fold 15 5 5 (cell 1 3) (cell 3 1) (even_kinds false true) ∷
    -- the vectors (4, 2) and (1, 3) reduce to (10, 0) and (7, 1)
    oblique_fold (record { ax = pos 4; ay = pos 2; bx = pos 1; by = pos 3 }) (record { p = 10; b = 7; d = 1 }) (cell 5 2) (cell 1 0) ∷
    -- p4, 4 by 4, recast by the rows (1 1) and (0 1)
    layered_fold (Recast (record { a = pos 1; b = pos 1; c = pos 0; d = pos 1 })) 10 4 4 (cell 5 3) (cell 3 1) (even_kinds true false) ∷
    -- pm, 6 by 6, counterchanged: (1, 2) and (5, 2) have one home with opposite parities, (7, 2) has the parity of (1, 2), and (3, 2) is neutral
    layered_fold Counterchange 3 6 6 (cell 1 2) (cell 1 2) (exchanged_kinds true false) ∷
    layered_fold Counterchange 3 6 6 (cell 5 2) (cell 1 2) (exchanged_kinds false true) ∷
    layered_fold Counterchange 3 6 6 (cell 7 2) (cell 1 2) (exchanged_kinds true false) ∷
    layered_fold Counterchange 3 6 6 (cell 3 2) (cell 3 2) (exchanged_kinds true true) ∷
    -- a line is not the same backwards
    line_step (cell 0 0) (cell 2 1) 1 (cell 1 1) ∷
    line_step (cell 2 1) (cell 0 0) 1 (cell 1 0) ∷
    -- pm, 6 by 6, counterchanged: an ink at (1, 2) shows as its counterpart at (5, 2) and as itself at (7, 2); at (3, 2) it clashes unless it is its own counterpart
    dot_shown Counterchange 3 6 6 (cell 1 2) 1 (cell 5 2) 2 ∷
    dot_shown Counterchange 3 6 6 (cell 1 2) 1 (cell 7 2) 1 ∷
    dot_refused Counterchange 3 6 6 (cell 3 2) 1 3 ∷
    dot_shown Counterchange 3 6 6 (cell 3 2) 15 (cell 3 2) 15 ∷
    []

-- an empty board with every cell in its frame
abbrev pub empty : Board
empty = record { inks = λ q. 0; frame = λ q. true; seats = 16; held = 0 }

-- the first dot of a sheet on that board
abbrev pub first_dot : Layer → ℕ → ℕ → ℕ → Cell → ℕ → Stroked
first_dot layer number p q at ink = dotted (layered layer (tabled number p q)) 0 empty at (marked ink)

abbrev pub number_of : Option StrokeRefused → Option ℕ
number_of (Some why) = Some (stroke_number why)
number_of None = None

-- the group and the layer over it are accepted
abbrev pub Accepted : Layer → ℕ → ℕ → ℕ → Type 0
Accepted layer number p q = (refusal number p q ≡ None) × (is_ok (layer_extent layer (extent_of (tabled number p q))) ≡ true)

-- what is made is accepted, and the answers are as the row says
abbrev pub Holds : Example → Type 0
Holds (tabled_fold number p q at home kinds) = (refusal number p q ≡ None) × (folded (tabled number p q) at ≡ Ok (record { home = home; kinds = kinds }))
Holds (oblique_fold vectors reduced at home) =
    (oblique-refusal vectors ≡ None) × (reduction vectors ≡ reduced) × (folded (oblique vectors) at ≡ Ok (record { home = home; kinds = even_kinds true false }))
Holds (layered_fold layer number p q at home kinds) =
    (refusal number p q ≡ None)
    × (is_ok (layer_extent layer (extent_of (tabled number p q))) ≡ true)
    × (folded (layered layer (tabled number p q)) at ≡ Ok (record { home = home; kinds = kinds }))
Holds (line_step from to step at) = slice_index_or (line_cells from to) step to ≡ at
Holds (dot_shown layer number p q at ink seen shows) =
    Accepted layer number p q
    × (stroke_answer (first_dot layer number p q at ink) ≡ Ok 1)
    × (shown (layered layer (tabled number p q)) (first_dot layer number p q at ink).board seen ≡ Ok shows)
Holds (dot_refused layer number p q at ink why) =
    Accepted layer number p q × (number_of (first_dot layer number p q at ink).refusal ≡ Some why)

abbrev pub Each : List Example → Type 0
Each [] = Unit {0}
Each (e ∷ es) = Holds e × Each es
