-- The cells of a rectangle: how many they are, and that all are within a bound exactly if the corner and the cell opposite to it are.
use Rattle.std.proofs.Common.{◌≡◌, ℕ, zero, suc, ◌+◌, ◌*◌, ◌<◌, true, ◌&&◌, ◌⊎◌, List, [], ◌∷◌, ◌++◌, length, sym, refl, ap, ◌∙◌, subst, inl, inr, mul-suc, add-one, arith, length-append}
use Rattle.std.proofs.lemmas.Bool.{and_parts, cases_eq}
use Rattle.plane.specs.declared.cell.Cell.{Cell}
use Rattle.plane.specs.Cells.{AllWithin, Within, all_inside, inside}
use Rattle.plane.proofs.Folding.{inside_within, within_inside}
use Rattle.plane.specs.Rectangles.{cell_from, row_cells, window_cells}

-- ---- one more cell, one more row
pub row_more : (corner : Cell) (row n : ℕ) → row_cells corner row (n + 1) ≡ row_cells corner row n ++ (cell_from corner n row ∷ [])
unfolding row_cells
row_more corner row n = ap (row_cells corner row) (add-one n)

pub window_more : (corner : Cell) (width n : ℕ) → window_cells corner width (n + 1) ≡ window_cells corner width n ++ row_cells corner n width
unfolding window_cells
window_more corner width n = ap (window_cells corner width) (add-one n)

pub row_none : (corner : Cell) (row : ℕ) → row_cells corner row 0 ≡ []
unfolding row_cells
row_none corner row = refl

pub window_none : (corner : Cell) (width : ℕ) → window_cells corner width 0 ≡ []
unfolding window_cells
window_none corner width = refl

pub row-length : (corner : Cell) (row n : ℕ) → length (row_cells corner row n) ≡ n
unfolding row_cells
row-length corner row zero = refl
row-length corner row (suc n) = length-append (row_cells corner row n) (cell_from corner n row ∷ []) ∙ omega (arith, row-length corner row n)

pub window_length : (corner : Cell) (width n : ℕ) → length (window_cells corner width n) ≡ width * n
unfolding window_cells
window_length corner width zero = let e : 0 ≡ width * 0 = omega arith in e
window_length corner width (suc n) =
    length-append (window_cells corner width n) (row_cells corner n width) ∙ omega (arith, window_length corner width n, row-length corner n width, mul-suc width n)

-- ---- all within a bound
pub both_within : (n : ℕ) (ps qs : List Cell) → AllWithin n ps → AllWithin n qs → AllWithin n (ps ++ qs)
both_within n [] qs a b = b
both_within n (p ∷ ps) qs a b = (a.0, both_within n ps qs a.1 b)

pub first_within : (n : ℕ) (ps qs : List Cell) → AllWithin n (ps ++ qs) → AllWithin n ps
first_within n [] qs a = tt
first_within n (p ∷ ps) qs a = (a.0, first_within n ps qs a.1)

pub second_within : (n : ℕ) (ps qs : List Cell) → AllWithin n (ps ++ qs) → AllWithin n qs
second_within n [] qs a = a
second_within n (p ∷ ps) qs a = second_within n ps qs a.1

pub below_or_last : (i n : ℕ) → i < suc n → (i < n) ⊎ (i ≡ n)
below_or_last i n h = go (cases_eq i n)
  where
    go : (i ≡ n) ⊎ (i ≡ n → ⊥) → (i < n) ⊎ (i ≡ n)
    go (inl e) = inr e
    go (inr k) = inl (omega arith)

pub row_within : (bound : ℕ) (corner : Cell) (row n : ℕ) → ((i : ℕ) → i < n → Within bound (cell_from corner i row)) → AllWithin bound (row_cells corner row n)
unfolding row_cells
row_within bound corner row zero f = tt
row_within bound corner row (suc n) f =
    both_within bound (row_cells corner row n) (cell_from corner n row ∷ []) (row_within bound corner row n (λ i h. f i (omega arith))) (f n (omega arith), tt)

pub row_at : (bound : ℕ) (corner : Cell) (row n : ℕ) → AllWithin bound (row_cells corner row n) → (i : ℕ) → i < n → Within bound (cell_from corner i row)
unfolding row_cells
row_at bound corner row zero a i h = absurd (omega arith)
row_at bound corner row (suc n) a i h = go (below_or_last i n h) (row_at bound corner row n (first_within bound (row_cells corner row n) (cell_from corner n row ∷ []) a) i)
  where
    go : (i < n) ⊎ (i ≡ n) → (i < n → Within bound (cell_from corner i row)) → Within bound (cell_from corner i row)
    go (inl k) f = f k
    go (inr e) f = subst (λ j. Within bound (cell_from corner j row)) (sym e) (second_within bound (row_cells corner row n) (cell_from corner n row ∷ []) a).0

pub window_within : (bound : ℕ) (corner : Cell) (width n : ℕ) → ((i j : ℕ) → i < width → j < n → Within bound (cell_from corner i j)) → AllWithin bound (window_cells corner width n)
unfolding window_cells
window_within bound corner width zero f = tt
window_within bound corner width (suc n) f =
    both_within bound (window_cells corner width n) (row_cells corner n width) (window_within bound corner width n (λ i j h k. f i j h (omega arith))) (row_within bound corner n width (λ i h. f i n h (omega arith)))

-- one row of a window
pub window_row : (bound : ℕ) (corner : Cell) (width n : ℕ) → AllWithin bound (window_cells corner width n) → (j : ℕ) → j < n → AllWithin bound (row_cells corner j width)
unfolding window_cells
window_row bound corner width zero a j h = absurd (omega arith)
window_row bound corner width (suc n) a j h = go (below_or_last j n h) (window_row bound corner width n (first_within bound (window_cells corner width n) (row_cells corner n width) a) j)
  where
    go : (j < n) ⊎ (j ≡ n) → (j < n → AllWithin bound (row_cells corner j width)) → AllWithin bound (row_cells corner j width)
    go (inl k) f = f k
    go (inr e) f = subst (λ r. AllWithin bound (row_cells corner r width)) (sym e) (second_within bound (window_cells corner width n) (row_cells corner n width) a)

pub window_at : (bound : ℕ) (corner : Cell) (width n : ℕ) → AllWithin bound (window_cells corner width n) → (i j : ℕ) → i < width → j < n → Within bound (cell_from corner i j)
window_at bound corner width n a i j h k = row_at bound corner j width (window_row bound corner width n a j k) i h

-- ---- as tests
pub all_within : (n : ℕ) (ps : List Cell) → all_inside n ps ≡ true → AllWithin n ps
all_within n [] e = tt
all_within n (p ∷ ps) e = let t = and_parts (inside n p) (all_inside n ps) e in (inside_within n p t.0, all_within n ps t.1)

pub within_all : (n : ℕ) (ps : List Cell) → AllWithin n ps → all_inside n ps ≡ true
within_all n [] a = refl
within_all n (p ∷ ps) a = ap (λ b. b && all_inside n ps) (within_inside n p a.0) ∙ within_all n ps a.1
