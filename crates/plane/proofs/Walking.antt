-- The walk over the cells of a window: the next one is the first of those that are left.
use Rattle.std.proofs.Common.{◌≡◌, ℕ, zero, suc, ◌+◌, ◌-◌, ◌*◌, ◌<◌, ◌≤◌, ◌⊎◌, List, [], ◌∷◌, ◌++◌, length, sym, ap, ◌∙◌, subst, inl, inr, arith, suc-mul, add-one}
use Rattle.std.proofs.Math.ListN.{get_or, drop}
use Rattle.std.proofs.Math.Nat.{mul_comm, mul-le-mul_right}
use Rattle.std.proofs.lemmas.Nat.{mul-add-lt}
use Rattle.std.proofs.lemmas.List.{drop_more, drop_all, get_or-append_right, get_or_append_left}
use Rattle.plane.specs.declared.cell.Cell.{Cell}
use Rattle.plane.specs.Rectangles.{cell_from, cells_from, row_cells, window_cells}
use Rattle.plane.proofs.Rectangles.{below_or_last, row-length, window_length}

row_get : (corner : Cell) (row n i : ℕ) (d : Cell) → i < n → get_or (row_cells corner row n) i d ≡ cell_from corner i row
unfolding row_cells
row_get corner row zero i d h = absurd (omega arith)
row_get corner row (suc n) i d h = go (row_get corner row n i d) (below_or_last i n h)
  where
    go : (i < n → get_or (row_cells corner row n) i d ≡ cell_from corner i row) → (i < n) ⊎ (i ≡ n) → get_or (row_cells corner row n ++ (cell_from corner n row ∷ [])) i d ≡ cell_from corner i row
    go f (inl k) = get_or_append_left (row_cells corner row n) (cell_from corner n row ∷ []) d i (omega (arith, row-length corner row n)) ∙ f k
    go f (inr e) =
        get_or-append_right (row_cells corner row n) (cell_from corner n row ∷ []) n i d (row-length corner row n) (omega arith)
        ∙ ap (λ j. get_or (cell_from corner n row ∷ []) j d) (let z : i - n ≡ 0 = omega arith in z)
        ∙ ap (λ j. cell_from corner j row) (sym e)

placed : (corner : Cell) (width n column row : ℕ) → column < width → row < n → row * width + column < length (window_cells corner width n)
placed corner width n column row h k = let l = window_length corner width n in let m = mul_comm width n in let t = mul-add-lt row width column n k h in omega arith

-- the cell in a column of a row
cell_get : (corner : Cell) (width n column row : ℕ) (d : Cell) → column < width → row < n → get_or (window_cells corner width n) (row * width + column) d ≡ cell_from corner column row
unfolding window_cells
cell_get corner width zero column row d h k = absurd (omega arith)
cell_get corner width (suc n) column row d h k = go (cell_get corner width n column row d h) (below_or_last row n k)
  where
    go : (row < n → get_or (window_cells corner width n) (row * width + column) d ≡ cell_from corner column row) → (row < n) ⊎ (row ≡ n) → get_or (window_cells corner width n ++ row_cells corner n width) (row * width + column) d ≡ cell_from corner column row
    go f (inl l) = get_or_append_left (window_cells corner width n) (row_cells corner n width) d (row * width + column) (placed corner width n column row h l) ∙ f l
    go f (inr e) =
        get_or-append_right (window_cells corner width n) (row_cells corner n width) (n * width) (row * width + column) d (window_length corner width n ∙ mul_comm width n) (subst (λ r. n * width ≤ r * width + column) (sym e) (omega arith))
        ∙ ap (λ j. get_or (row_cells corner n width) j d) (subst (λ r. r * width + column - n * width ≡ column) (sym e) (omega arith))
        ∙ row_get corner n width column d h
        ∙ ap (cell_from corner column) (sym e)

module _ (corner : Cell) (width height column row : ℕ) (narrow : column < width) where
  pub none_left : height ≤ row → cells_from corner width height column row ≡ []
  none_left h = drop_all (row * width + column) (window_cells corner width height) (let l = window_length corner width height in let m = mul_comm width height in let t = mul-le-mul_right width h in omega arith)

  module _ (p : Cell) (is : p ≡ cell_from corner column row) (low : row < height) where
    first_left : cells_from corner width height column row ≡ p ∷ drop (row * width + column + 1) (window_cells corner width height)
    first_left =
        drop_more (window_cells corner width height) (row * width + column) corner (placed corner width height column row narrow low)
        ∙ ap (λ q. q ∷ drop (row * width + column + 1) (window_cells corner width height)) (cell_get corner width height column row corner narrow low ∙ sym is)

    -- the next cell of the row is the first of the others, or that of the next row at its end
    pub next_left : cells_from corner width height column row ≡ p ∷ cells_from corner width height (column + 1) row
    next_left = first_left ∙ ap (λ i. p ∷ drop i (window_cells corner width height)) (let e : row * width + column + 1 ≡ row * width + (column + 1) = omega arith in e)

    pub turn_left : column + 1 ≡ width → cells_from corner width height column row ≡ p ∷ cells_from corner width height 0 (row + 1)
    turn_left e = first_left ∙ ap (λ i. p ∷ drop i (window_cells corner width height)) (let t : row * width + column + 1 ≡ (row + 1) * width + 0 = omega (arith, e, suc-mul row width, ap (λ k. k * width) (add-one row)) in t)

-- what is left grows shorter
pub shorter : {p : Cell} {ps qs : List Cell} → ps ≡ p ∷ qs → length qs < length ps
shorter e = omega (arith, ap length e)
