-- The geometry of an area, and the laws of the board of its bytes. They stand here since the member `laws` of the trait holds their proof.
use Rattle.std.specs.Prelude.{◌≡◌, ℕ, ◌*◌, ◌/◌, ◌%◌, ◌<◌, true, false, ◌⊎◌, List, ℤ, pos, ◌+ℤ◌, ◌-ℤ◌, ◌≢◌, int_le, int_lt, slice_index, unsigned_abs}
use Rattle.std.proofs.Common.{sym, ap, ◌∙◌, subst, inl, inr, arith, mul_comm, zero-mul}
use Rattle.std.proofs.lemmas.Int.{ints}
use Rattle.std.proofs.lemmas.Bool.{cond-true, cond-false, cases_Bool, cases_eq, and_from, and_parts}
use Rattle.std.proofs.lemmas.Nat.{mul-add-lt, div-mul-add, mod-mul-add, div_below, mod_below, div-add-mod'}
use Rattle.plane.specs.declared.cell.Cell.{Cell}
use Rattle.dense.specs.declared.area.Area.{Area}
use Rattle.canvas.specs.Board.{BoardLaws}
use Rattle.canvas.proofs.Tables.{tabled_laws}
use Rattle.dense.specs.Area.{spans, covers, place, size, area_board, Inked, inked}

-- one coordinate
pub spans_offset : (c : ℤ) (n : ℕ) (x : ℤ) → spans c n x ≡ true → (unsigned_abs (x -ℤ c) < n) × (x ≡ c +ℤ pos (unsigned_abs (x -ℤ c)))
spans_offset c n x h =
    let p = and_parts (int_le c x) (int_lt x (c +ℤ pos n)) h in
    let a : int_le c x ≡ true = p.0 in
    let b : int_lt x (c +ℤ pos n) ≡ true = p.1 in
    (omega (arith, ints), omega (arith, ints))

pub spans_from : (c : ℤ) (n k : ℕ) → k < n → spans c n (c +ℤ pos k) ≡ true
spans_from c n k l = and_from _ _ low high
  where
    low : int_le c (c +ℤ pos k) ≡ true
    low = sym (omega (arith, ints))

    high : int_lt (c +ℤ pos k) (c +ℤ pos n) ≡ true
    high = sym (omega (arith, ints))

pub offset_from : (c : ℤ) (k : ℕ) → unsigned_abs ((c +ℤ pos k) -ℤ c) ≡ k
offset_from c k = omega (arith, ints)

module _ (a : Area) where
  -- the cell at a place
  abbrev pub cell_at : ℕ → Cell
  cell_at i = record { x = a.x +ℤ pos (i % a.width); y = a.y +ℤ pos (i / a.width) }

  wide : (i : ℕ) → i < size a → 0 < a.width
  wide i l = go a.width l
    where
      go : (w : ℕ) → i < w * a.height → 0 < w
      go w l = elim_zero (cases_eq w 0)
        where
          elim_zero : (w ≡ 0) ⊎ (w ≢ 0) → 0 < w
          elim_zero (inl e) = let z : w * a.height ≡ 0 = ap (λ k. k * a.height) e ∙ zero-mul a.height in omega arith
          elim_zero (inr e) = omega arith

  row_below : (i : ℕ) → i < size a → i / a.width < a.height
  row_below i l = div_below i a.width a.height (wide i l) (subst (λ n. i < n) (mul_comm a.width a.height) l)

  column_below : (i : ℕ) → i < size a → i % a.width < a.width
  column_below i l = mod_below i a.width (wide i l)

  pub cell-covers : (i : ℕ) → i < size a → covers a (cell_at i) ≡ true
  cell-covers i l = and_from _ _ (spans_from a.x a.width (i % a.width) (column_below i l)) (spans_from a.y a.height (i / a.width) (row_below i l))

  pub place_of : (i : ℕ) → place a (cell_at i) ≡ i
  place_of i = omega (arith, ap (λ k. k * a.width) (offset_from a.y (i / a.width)), offset_from a.x (i % a.width), div-add-mod' i a.width)

  pub place_below : (p : Cell) → covers a p ≡ true → place a p < size a
  place_below p h =
      let q = and_parts (spans a.x a.width p.x) (spans a.y a.height p.y) h in
      mul-add-lt (unsigned_abs (p.y -ℤ a.y)) a.width (unsigned_abs (p.x -ℤ a.x)) a.height (spans_offset a.y a.height p.y q.1).0 (spans_offset a.x a.width p.x q.0).0

  pub cell_of : (p : Cell) → covers a p ≡ true → p ≡ cell_at (place a p)
  cell_of p h =
      let q = and_parts (spans a.x a.width p.x) (spans a.y a.height p.y) h in
      let ox = spans_offset a.x a.width p.x q.0 in
      let oy = spans_offset a.y a.height p.y q.1 in
      let c : place a p % a.width ≡ unsigned_abs (p.x -ℤ a.x) = mod-mul-add (unsigned_abs (p.y -ℤ a.y)) a.width (unsigned_abs (p.x -ℤ a.x)) ox.0 in
      let r : place a p / a.width ≡ unsigned_abs (p.y -ℤ a.y) = div-mul-add (unsigned_abs (p.y -ℤ a.y)) a.width (unsigned_abs (p.x -ℤ a.x)) ox.0 in
      let ex : p.x ≡ a.x +ℤ pos (place a p % a.width) = ox.1 ∙ ap (λ k. a.x +ℤ pos k) (sym c) in
      let ey : p.y ≡ a.y +ℤ pos (place a p / a.width) = oy.1 ∙ ap (λ k. a.y +ℤ pos k) (sym r) in
      λ i. record { x = ex i; y = ey i }

  pub apart : (i j : ℕ) → cell_at i ≡ cell_at j → i ≡ j
  apart i j e = sym (place_of i) ∙ ap (place a) e ∙ place_of j

  module _ (bytes : List ℕ) (n : ℕ) where
    pub ink_in : (p : Cell) → covers a p ≡ true → (area_board a bytes n).inks p ≡ slice_index bytes (place a p)
    ink_in p h = cond-true (covers a p) _ _ h

    pub ink_out : (p : Cell) → covers a p ≡ false → (area_board a bytes n).inks p ≡ 0
    ink_out p h = cond-false (covers a p) _ _ h

    pub area_laws : Inked a bytes → n ≡ inked a bytes → BoardLaws (area_board a bytes n)
    area_laws small counts = tabled_laws (area_board a bytes n) (λ i. slice_index bytes i) cell_at (size a) (record {
      apart = λ i j _ _ e. apart i j e;
      inks_at = λ i l. ink_in (cell_at i) (cell-covers i l) ∙ ap (λ k. slice_index bytes k) (place_of i);
      listed = λ p h. found p h (cases_Bool (covers a p));
      admitted = cell-covers;
      small = small;
      tallied = counts;
      roomy = omega arith;
    })
      where
        clash : (p : Cell) → 0 < (area_board a bytes n).inks p → covers a p ≢ false
        clash p h o = let z = ink_out p o in omega arith

        found : (p : Cell) → 0 < (area_board a bytes n).inks p → (covers a p ≡ true) ⊎ (covers a p ≡ false) → (i : ℕ) × (i < size a) × (p ≡ cell_at i)
        found p h (inl t) = (place a p, place_below p t, cell_of p t)
        found p h (inr o) = absurd (clash p h o)
