-- The cells of a rectangle as a list: which they are, and that none stands twice.
use Rattle.std.proofs.Common.{◌≡◌, ℕ, zero, suc, ◌<◌, ◌⊎◌, List, [], ◌∷◌, ◌++◌, pos, ◌+ℤ◌, sym, refl, ap, ◌∙◌, subst, inl, inr, arith}
use borrow.Author.Differences.{ints}
use Rattle.plane.specs.declared.cell.Cell.{Cell}
use Rattle.plane.specs.Rectangles.{cell_from, row_cells, window_cells}
use Rattle.plane.proofs.Rectangles.{below_or_last}
use Rattle.groups.specs.Lists.{In}
use Rattle.census.specs.Homes.{Distinct}

-- ---- two lists, one after the other
pub in_left : (xs ys : List Cell) (c : Cell) → In c xs → In c (xs ++ ys)
in_left [] ys c i = absurd i
in_left (x ∷ xs) ys c (inl e) = inl e
in_left (x ∷ xs) ys c (inr i) = inr (in_left xs ys c i)

pub in_right : (xs ys : List Cell) (c : Cell) → In c ys → In c (xs ++ ys)
in_right [] ys c i = i
in_right (x ∷ xs) ys c i = inr (in_right xs ys c i)

pub in_either : (xs ys : List Cell) (c : Cell) → In c (xs ++ ys) → In c xs ⊎ In c ys
in_either [] ys c i = inr i
in_either (x ∷ xs) ys c (inl e) = inl (inl e)
in_either (x ∷ xs) ys c (inr i) = go (in_either xs ys c i)
  where
    go : In c xs ⊎ In c ys → In c (x ∷ xs) ⊎ In c ys
    go (inl j) = inl (inr j)
    go (inr j) = inr j

pub distinct_both : (xs ys : List Cell) → Distinct xs → Distinct ys → ((c : Cell) → In c xs → In c ys → ⊥) → Distinct (xs ++ ys)
distinct_both [] ys d e apart = e
distinct_both (x ∷ xs) ys d e apart = (λ i. go (in_either xs ys x i), distinct_both xs ys d.1 e (λ c i. apart c (inr i)))
  where
    go : In x xs ⊎ In x ys → ⊥
    go (inl i) = d.0 i
    go (inr i) = apart x (inl refl) i

-- ---- a row
record InRow (corner : Cell) (row n : ℕ) (c : Cell) : Type 0 where
  column : ℕ
  narrow : column < n
  is : c ≡ cell_from corner column row

row_in : (corner : Cell) (row n i : ℕ) → i < n → In (cell_from corner i row) (row_cells corner row n)
unfolding row_cells
row_in corner row zero i h = absurd (omega arith)
row_in corner row (suc n) i h = go (row_in corner row n i) (below_or_last i n h)
  where
    go : (i < n → In (cell_from corner i row) (row_cells corner row n)) → (i < n) ⊎ (i ≡ n) → In (cell_from corner i row) (row_cells corner row n ++ (cell_from corner n row ∷ []))
    go f (inl k) = in_left (row_cells corner row n) (cell_from corner n row ∷ []) (cell_from corner i row) (f k)
    go f (inr e) = in_right (row_cells corner row n) (cell_from corner n row ∷ []) (cell_from corner i row) (inl (ap (λ k. cell_from corner k row) e))

row_of : (corner : Cell) (row n : ℕ) (c : Cell) → In c (row_cells corner row n) → InRow corner row n c
unfolding row_cells
row_of corner row zero c i = absurd i
row_of corner row (suc n) c i = go (row_of corner row n c) (in_either (row_cells corner row n) (cell_from corner n row ∷ []) c i)
  where
    go : (In c (row_cells corner row n) → InRow corner row n c) → In c (row_cells corner row n) ⊎ In c (cell_from corner n row ∷ []) → InRow corner row (suc n) c
    go f (inl j) = let r = f j in record { column = r.column; narrow = omega (arith, r.narrow); is = r.is }
    go f (inr (inl e)) = record { column = n; narrow = omega arith; is = e }
    go f (inr (inr j)) = absurd j

distinct_row : (corner : Cell) (row n : ℕ) → Distinct (row_cells corner row n)
unfolding row_cells
distinct_row corner row zero = tt
distinct_row corner row (suc n) = distinct_both (row_cells corner row n) (cell_from corner n row ∷ []) (distinct_row corner row n) (λ i. i, tt) apart
  where
    apart : (c : Cell) → In c (row_cells corner row n) → In c (cell_from corner n row ∷ []) → ⊥
    apart c i (inl e) =
        let r = row_of corner row n c i in
        let x : corner.x +ℤ pos r.column ≡ corner.x +ℤ pos n = ap (λ (z : Cell). z.x) (sym r.is ∙ e) in
        let h = r.narrow in omega (arith, ints)
    apart c i (inr j) = absurd j

-- ---- all rows
pub record InCells (corner : Cell) (width height : ℕ) (c : Cell) : Type 0 where
  pub column : ℕ
  pub row : ℕ
  pub narrow : column < width
  pub low : row < height
  pub is : c ≡ cell_from corner column row

pub cell_in : (corner : Cell) (width n i j : ℕ) → i < width → j < n → In (cell_from corner i j) (window_cells corner width n)
unfolding window_cells
cell_in corner width zero i j h k = absurd (omega arith)
cell_in corner width (suc n) i j h k = go (cell_in corner width n i j h) (below_or_last j n k)
  where
    go : (j < n → In (cell_from corner i j) (window_cells corner width n)) → (j < n) ⊎ (j ≡ n) → In (cell_from corner i j) (window_cells corner width n ++ row_cells corner n width)
    go f (inl l) = in_left (window_cells corner width n) (row_cells corner n width) (cell_from corner i j) (f l)
    go f (inr e) = in_right (window_cells corner width n) (row_cells corner n width) (cell_from corner i j) (subst (λ r. In (cell_from corner i r) (row_cells corner n width)) (sym e) (row_in corner n width i h))

pub cell_place : (corner : Cell) (width n : ℕ) (c : Cell) → In c (window_cells corner width n) → InCells corner width n c
unfolding window_cells
cell_place corner width zero c i = absurd i
cell_place corner width (suc n) c i = go (cell_place corner width n c) (in_either (window_cells corner width n) (row_cells corner n width) c i)
  where
    go : (In c (window_cells corner width n) → InCells corner width n c) → In c (window_cells corner width n) ⊎ In c (row_cells corner n width) → InCells corner width (suc n) c
    go f (inl j) = let r = f j in record { column = r.column; row = r.row; narrow = r.narrow; low = omega (arith, r.low); is = r.is }
    go f (inr j) = let r = row_of corner n width c j in record { column = r.column; row = n; narrow = r.narrow; low = omega arith; is = r.is }

pub distinct_cells : (corner : Cell) (width n : ℕ) → Distinct (window_cells corner width n)
unfolding window_cells
distinct_cells corner width zero = tt
distinct_cells corner width (suc n) = distinct_both (window_cells corner width n) (row_cells corner n width) (distinct_cells corner width n) (distinct_row corner n width) apart
  where
    apart : (c : Cell) → In c (window_cells corner width n) → In c (row_cells corner n width) → ⊥
    apart c i j =
        let r = cell_place corner width n c i in
        let s = row_of corner n width c j in
        let y : corner.y +ℤ pos r.row ≡ corner.y +ℤ pos n = ap (λ (z : Cell). z.y) (sym r.is ∙ s.is) in
        let h = r.low in omega (arith, ints)
