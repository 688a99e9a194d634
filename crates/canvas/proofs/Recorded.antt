-- The board of a sorted list of sound records is lawful.
use Rattle.std.proofs.Common.{◌≡◌, ℕ, suc, ◌<◌, ◌≤◌, Bool, true, false, cond, ◌&&◌, ltb, leb, ◌⊎◌, List, [], ◌∷◌, length, Some, None, Option, sym, refl, ap, ◌∙◌, subst, inl, inr, arith}
use Rattle.std.proofs.lemmas.Bool.{and_parts, and_from, ltb-true, leb-true, lt-ltb, le-leb, cases_Bool, both_ways}
use Rattle.std.specs.List.{AllByRecursion as All}
use Rattle.plane.specs.declared.cell.Cell.{Cell}
use Rattle.plane.specs.Cells.{earlier}
use Rattle.plane.proofs.Order.{earlier_trans, earlier_flip, earlier-same}
use Rattle.shelf.specs.Keys.{TotalOrder, leads, sorted, Sorted, found}
use Rattle.shelf.proofs.Lookups.{found_past, found_head, found_is}
use Rattle.canvas.specs.Board.{BoardLaws}
use Rattle.canvas.specs.Distinct.{Member, Distinct}
use Rattle.canvas.specs.Records.{keys, sound, all_sound, ink_of, record-board}

module _ {R : Type 0} (cell : R → Cell) (ink : R → ℕ) (frame : Cell → Bool) where
  -- the order of cells is total
  pub cells_ordered : TotalOrder (keys cell ink frame)
  cells_ordered = record { irreflexive = λ k. never k (cases_Bool (earlier k k)); transitive = λ a b c h l. through a b c h l (cases_Bool (earlier a c)); total = earlier-same }
    where
      never : (k : Cell) → (earlier k k ≡ true) ⊎ (earlier k k ≡ false) → earlier k k ≡ false
      never k (inl t) = earlier_flip k k t
      never k (inr t) = t

      through : (a b c : Cell) → earlier a b ≡ true → earlier b c ≡ true → (earlier a c ≡ true) ⊎ (earlier a c ≡ false) → earlier a c ≡ true
      through a b c h l (inl t) = t
      through a b c h l (inr t) = absurd (both_ways _ (earlier_trans a c b t (earlier_flip b c l)) h)

  -- what the test of a sound record says
  pub record Sound (r : R) : Type 0 where
    pub some : 0 < ink r
    pub small : ink r ≤ 15
    pub framed : frame (cell r) ≡ true

  pub sound_is : (r : R) → sound cell ink frame r ≡ true → Sound r
  sound_is r h =
      let p = and_parts (ltb 0 (ink r)) (leb (ink r) 15 && frame (cell r)) h in
      let q = and_parts (leb (ink r) 15) (frame (cell r)) p.1 in
      record { some = ltb-true 0 (ink r) p.0; small = leb-true (ink r) 15 q.0; framed = q.1 }

  pub is_sound : (r : R) → Sound r → sound cell ink frame r ≡ true
  is_sound r s = and_from _ _ (lt-ltb 0 (ink r) s.some) (and_from _ _ (le-leb (ink r) 15 s.small) s.framed)

  pub all_sound_is : (rs : List R) → all_sound cell ink frame rs ≡ true → All Sound rs
  all_sound_is [] h = tt
  all_sound_is (r ∷ rs) h =
      let p = and_parts (sound cell ink frame r) (all_sound cell ink frame rs) h in
      (sound_is r p.0, all_sound_is rs p.1)

  pub is_all_sound : (rs : List R) → All Sound rs → all_sound cell ink frame rs ≡ true
  is_all_sound [] a = refl
  is_all_sound (r ∷ rs) a = and_from _ _ (is_sound r a.0) (is_all_sound rs a.1)

  -- the cells of the records
  cells : List R → List Cell
  cells [] = []
  cells (r ∷ rs) = cell r ∷ cells rs

  length_cells : (rs : List R) → length (cells rs) ≡ length rs
  unfolding cells
  length_cells [] = refl
  length_cells (r ∷ rs) = ap suc (length_cells rs)

  -- a key that leads the records is none of their cells
  led_new : (k : Cell) (rs : List R) → leads (keys cell ink frame) k rs ≡ true → Member k (cells rs) → ⊥
  unfolding cells
  led_new k [] h m = m
  led_new k (r ∷ rs) h (inl e) = both_ways _ (cells_ordered.irreflexive k) (subst (λ (q : Cell). earlier k q ≡ true) (sym e) (and_parts _ _ h).0)
  led_new k (r ∷ rs) h (inr m) = led_new k rs (and_parts _ _ h).1 m

  distinct_cells : (rs : List R) → Sorted (keys cell ink frame) rs → Distinct (cells rs)
  unfolding cells
  distinct_cells [] s = tt
  distinct_cells (r ∷ rs) s =
      let p = and_parts (leads (keys cell ink frame) (cell r) rs) (sorted (keys cell ink frame) rs) s in
      (led_new (cell r) rs p.0, distinct_cells rs p.1)

  -- a record's cell is found
  found_cell : (p : Cell) (rs : List R) → Sorted (keys cell ink frame) rs → All Sound rs → Member p (cells rs) → 0 < ink_of cell ink frame (found (keys cell ink frame) p rs)
  unfolding cells
  found_cell p [] s a m = absurd m
  found_cell p (r ∷ rs) s a (inl e) =
      let f : found (keys cell ink frame) p (r ∷ rs) ≡ Some r = ap (λ (q : Cell). found (keys cell ink frame) q (r ∷ rs)) e ∙ found_head (keys cell ink frame) cells_ordered r rs in
      subst (λ (o : Option R). 0 < ink_of cell ink frame o) (sym f) a.0.some
  found_cell p (r ∷ rs) s a (inr m) =
      let q = and_parts (leads (keys cell ink frame) (cell r) rs) (sorted (keys cell ink frame) rs) s in
      let passed : earlier (cell r) p ≡ true = led_before (cell r) p rs q.0 m in
      subst (λ (o : Option R). 0 < ink_of cell ink frame o) (sym (found_past (keys cell ink frame) cells_ordered p r rs passed)) (found_cell p rs q.1 a.1 m)
    where
      led_before : (k q : Cell) (xs : List R) → leads (keys cell ink frame) k xs ≡ true → Member q (cells xs) → earlier k q ≡ true
      led_before k q [] h m = absurd m
      led_before k q (x ∷ xs) h (inl e) = subst (λ (c : Cell). earlier k c ≡ true) (sym e) (and_parts _ _ h).0
      led_before k q (x ∷ xs) h (inr m) = led_before k q xs (and_parts _ _ h).1 m

  -- and what is found is the cell of a record
  cell_found : (p : Cell) (rs : List R) → 0 < ink_of cell ink frame (found (keys cell ink frame) p rs) → Member p (cells rs)
  unfolding cells
  cell_found p [] h = absurd (omega arith)
  cell_found p (r ∷ rs) h = go (earlier (cell r) p) (earlier p (cell r)) refl refl (cell_found p rs) h
    where
      go : (a b : Bool) → earlier (cell r) p ≡ a → earlier p (cell r) ≡ b → (0 < ink_of cell ink frame (found (keys cell ink frame) p rs) → Member p (cells rs)) → 0 < ink_of cell ink frame (cond a (found (keys cell ink frame) p rs) (cond b None (Some r))) → (p ≡ cell r) ⊎ Member p (cells rs)
      go true b ea eb more h = inr (more h)
      go false true ea eb more h = absurd (omega arith)
      go false false ea eb more h = inl (sym (earlier-same (cell r) p ea eb))

  -- a cell has no record, or a sound one
  abbrev pub Told : Cell → List R → Type 0
  Told p rs = (found (keys cell ink frame) p rs ≡ None) ⊎ ((r : R) × (found (keys cell ink frame) p rs ≡ Some r) × (cell r ≡ p) × Sound r)

  pub found_sound : (p : Cell) (rs : List R) → All Sound rs → Told p rs
  found_sound p rs a = go (found (keys cell ink frame) p rs) refl
    where
      go : (o : Option R) → found (keys cell ink frame) p rs ≡ o → Told p rs
      go None e = inl e
      go (Some r) e =
          let f = found_is (keys cell ink frame) cells_ordered Sound p rs r a e in
          inr (r, e, f.0, f.1)

  pub record_laws : (rs : List R) (n : ℕ) → Sorted (keys cell ink frame) rs → all_sound cell ink frame rs ≡ true → length rs ≤ n → BoardLaws (record-board cell ink frame rs n)
  record_laws rs n s h few = record {
    small = λ p. small p (found_sound p rs a);
    framed = λ p l. framed p l (found_sound p rs a);
    counted = (cells rs, record { distinct = distinct_cells rs s; exact = λ p. (λ m. found_cell p rs s a m, λ l. cell_found p rs l) }, length_cells rs);
    seated = few;
  }
    where
      a : All Sound rs
      a = all_sound_is rs h

      small : (p : Cell) → Told p rs → ink_of cell ink frame (found (keys cell ink frame) p rs) ≤ 15
      small p (inl e) = let z : ink_of cell ink frame (found (keys cell ink frame) p rs) ≡ 0 = ap (ink_of cell ink frame) e in omega arith
      small p (inr f) = let z : ink_of cell ink frame (found (keys cell ink frame) p rs) ≡ ink f.0 = ap (ink_of cell ink frame) f.1 in omega (arith, f.3.small)

      framed : (p : Cell) → 0 < ink_of cell ink frame (found (keys cell ink frame) p rs) → Told p rs → frame p ≡ true
      framed p l (inl e) = absurd (let z : ink_of cell ink frame (found (keys cell ink frame) p rs) ≡ 0 = ap (ink_of cell ink frame) e in omega arith)
      framed p l (inr f) = subst (λ (q : Cell). frame q ≡ true) f.2 f.3.framed
