-- Where the rows of a group stand, and how large their numbers are: tests of the whole table.
use Rattle.std.proofs.Common.{◌≡◌, ℕ, zero, suc, ◌+◌, ◌-◌, ◌≤◌, Bool, true, ◌&&◌, leb, ◌∷◌, map, take, drop, sym, refl, ap, ◌∙◌, ap₂, arith, leb-true}
use Rattle.std.proofs.lemmas.Bool.{and_parts}
use Rattle.std.proofs.lemmas.List.{take-map, drop-map}
use Rattle.std.specs.Simd.{first_chunks}
use Rattle.groups.specs.Table.{numbers, starts, row, rows, rows_from, first_row, end_row}
use Rattle.groups.specs.Positions.{position_of}
use Rattle.groups.specs.Rules.{known}
use Rattle.groups.specs.Members.{every_below, below_in}

abbrev bounds_test : ℕ → Bool
bounds_test k = leb (first_row (suc k)) (end_row (suc k)) && leb (end_row (suc k)) 84

whole : every_below bounds_test 17 ≡ true
unfolding starts first_row end_row
whole = refl

pub known_low : (n : ℕ) → known n ≡ true → 1 ≤ n
known_low n e = leb-true 1 n (and_parts (leb 1 n) (leb n 17) e).0

pub known_high : (n : ℕ) → known n ≡ true → n ≤ 17
known_high n e = leb-true n 17 (and_parts (leb 1 n) (leb n 17) e).1

bounds_of : (n : ℕ) → 1 ≤ n → n ≤ 17 → (first_row n ≤ end_row n) × (end_row n ≤ 84)
bounds_of zero l h = absurd (omega arith)
bounds_of (suc k) l h =
    let t = and_parts (leb (first_row (suc k)) (end_row (suc k))) (leb (end_row (suc k)) 84) (below_in bounds_test 17 whole k (omega arith)) in
    (leb-true (first_row (suc k)) (end_row (suc k)) t.0, leb-true (end_row (suc k)) 84 t.1)

pub row_bounds : (n : ℕ) → known n ≡ true → (first_row n ≤ end_row n) × (end_row n ≤ 84)
row_bounds n e = bounds_of n (known_low n e) (known_high n e)

-- ---- the rows of a group, as a part of the whole table
drop_rows : (j n k i m : ℕ) → i ≡ k + j → m ≡ n - j → drop j (rows_from n k) ≡ rows_from m i
drop_rows zero n k i m a b = let ea : k ≡ i = omega arith in let eb : n ≡ m = omega arith in ap₂ rows_from eb ea
drop_rows (suc j) zero k i m a b = let e : 0 ≡ m = omega arith in ap (λ c. rows_from c i) e
drop_rows (suc j) (suc n) k i m a b = drop_rows j n (suc k) i m (omega arith) (omega arith)

take_rows : (m j k : ℕ) → m ≤ j → take m (rows_from j k) ≡ rows_from m k
take_rows zero j k h = refl
take_rows (suc m) zero k h = absurd (omega arith)
take_rows (suc m) (suc j) k h = ap (λ rs. row k ∷ rs) (take_rows m j (suc k) (omega arith))

whole_table : map position_of (first_chunks 6 84 numbers) ≡ rows_from 84 0
unfolding numbers row
whole_table = refl

pub rows_of : (n : ℕ) → known n ≡ true → map position_of (take (end_row n - first_row n) (drop (first_row n) (first_chunks 6 84 numbers))) ≡ rows n
unfolding rows
rows_of n e =
    let b = row_bounds n e in
    let f = first_row n in
    let m = end_row n - f in
    sym (take-map position_of m (drop f (first_chunks 6 84 numbers)))
    ∙ ap (take m) (sym (drop-map position_of f (first_chunks 6 84 numbers)) ∙ ap (drop f) whole_table ∙ drop_rows f 84 0 f (84 - f) (omega arith) refl)
    ∙ take_rows m (84 - f) f (omega (arith, b.1))
