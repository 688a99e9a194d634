-- The laws of a board that a table of cells and inks holds: `at` gives the cell at each of the first n places, and `f` its ink.
use Rattle.std.proofs.Common.{◌≡◌, ℕ, zero, suc, ◌+◌, ◌<◌, ◌≤◌, true, cond, eqb, ◌⊎◌, List, [], ◌∷◌, length, sym, refl, ap, ◌∙◌, subst, inl, inr, arith}
use Rattle.std.proofs.lemmas.Bool.{cond-true, cond-false, cases_eq, eq-eqb, ne_eqb}
use Rattle.plane.specs.declared.cell.Cell.{Cell}
use Rattle.canvas.specs.Board.{Board, BoardLaws}
use Rattle.canvas.specs.Distinct.{Member, Distinct}
use Rattle.canvas.specs.Tally.{mark, tally}
use Rattle.canvas.proofs.Tallies.{mark_zero, mark_some, tally_le}

-- the cells of the table that have an ink
module _ (f : ℕ → ℕ) (at : ℕ → Cell) where
  abbrev pub cells : ℕ → List Cell
  cells zero = []
  cells (suc k) = cond (eqb (f k) 0) (cells k) (at k ∷ cells k)

  bare : (k : ℕ) → f k ≡ 0 → cells (suc k) ≡ cells k
  bare k e = cond-true (eqb (f k) 0) (cells k) (at k ∷ cells k) (eq-eqb (f k) 0 e)

  inked : (k : ℕ) → (f k ≡ 0 → ⊥) → cells (suc k) ≡ at k ∷ cells k
  inked k e = cond-false (eqb (f k) 0) (cells k) (at k ∷ cells k) (ne_eqb (f k) 0 e)

  longer : (k : ℕ) → length (cells k) ≡ tally f k → (f k ≡ 0) ⊎ (f k ≡ 0 → ⊥) → length (cells (suc k)) ≡ tally f k + mark (f k)
  longer k h (inl e) = omega (arith, ap length (bare k e), mark_zero (f k) e)
  longer k h (inr e) = omega (arith, ap length (inked k e), mark_some (f k) e)

  length_cells : (k : ℕ) → length (cells k) ≡ tally f k
  length_cells zero = refl
  length_cells (suc k) = longer k (length_cells k) (cases_eq (f k) 0)

  abbrev Holds : ℕ → Cell → Type 0
  Holds k p = (i : ℕ) × (i < k) × (0 < f i) × (p ≡ at i)

  later : (k : ℕ) (p : Cell) → Holds k p → Holds (suc k) p
  later k p h = let l : h.0 < k = h.1 in (h.0, omega arith, h.2, h.3)

  within_more : (k : ℕ) (p : Cell) → (Member p (cells k) → Holds k p) → Member p (cells (suc k)) → (f k ≡ 0) ⊎ (f k ≡ 0 → ⊥) → Holds (suc k) p
  within_more k p old m (inl e) = later k p (old (subst (λ (qs : List Cell). Member p qs) (bare k e) m))
  within_more k p old m (inr e) = pick (subst (λ (qs : List Cell). Member p qs) (inked k e) m)
    where
      pick : (p ≡ at k) ⊎ Member p (cells k) → Holds (suc k) p
      pick (inl q) = (k, omega arith, omega arith, q)
      pick (inr m) = later k p (old m)

  within : (k : ℕ) (p : Cell) → Member p (cells k) → Holds k p
  within zero p m = absurd m
  within (suc k) p m = within_more k p (within k p) m (cases_eq (f k) 0)

  among_more : (k i : ℕ) → i < suc k → 0 < f i → (i < k → Member (at i) (cells k)) → (f k ≡ 0) ⊎ (f k ≡ 0 → ⊥) → (i ≡ k) ⊎ (i ≡ k → ⊥) → Member (at i) (cells (suc k))
  among_more k i l h old (inl e) (inl s) = absurd (let g : f i ≡ f k = ap f s in omega arith)
  among_more k i l h old (inl e) (inr n) = subst (λ (qs : List Cell). Member (at i) qs) (sym (bare k e)) (old (omega arith))
  among_more k i l h old (inr e) (inl s) = subst (λ (qs : List Cell). Member (at i) qs) (sym (inked k e)) (inl (ap at s))
  among_more k i l h old (inr e) (inr n) = subst (λ (qs : List Cell). Member (at i) qs) (sym (inked k e)) (inr (old (omega arith)))

  among : (k : ℕ) (i : ℕ) → i < k → 0 < f i → Member (at i) (cells k)
  among zero i l h = absurd (omega arith)
  among (suc k) i l h = among_more k i l h (λ b. among k i b h) (cases_eq (f k) 0) (cases_eq i k)

  abbrev Apart : ℕ → Type 0
  Apart k = (i j : ℕ) → i < k → j < k → at i ≡ at j → i ≡ j

  fewer : (k : ℕ) → Apart (suc k) → Apart k
  fewer k apart i j a b e = apart i j (omega arith) (omega arith) e

  apart_more : (k : ℕ) → Apart (suc k) → Distinct (cells k) → (f k ≡ 0) ⊎ (f k ≡ 0 → ⊥) → Distinct (cells (suc k))
  apart_more k apart rest (inl e) = subst Distinct (sym (bare k e)) rest
  apart_more k apart rest (inr e) = subst Distinct (sym (inked k e)) (new, rest)
    where
      new : Member (at k) (cells k) → ⊥
      new m = let h = within k (at k) m in
          let l : h.0 < k = h.1 in
          let e : k ≡ h.0 = apart k h.0 (omega arith) (omega arith) h.3 in
          omega arith

  apart_cells : (k : ℕ) → Apart k → Distinct (cells k)
  apart_cells zero apart = tt
  apart_cells (suc k) apart = apart_more k apart (apart_cells k (fewer k apart)) (cases_eq (f k) 0)

-- a board whose inked cells are those of the table
pub record Tabled (b : Board) (f : ℕ → ℕ) (at : ℕ → Cell) (n : ℕ) : Type 0 where
  pub apart : (i j : ℕ) → i < n → j < n → at i ≡ at j → i ≡ j
  pub inks_at : (i : ℕ) → i < n → b.inks (at i) ≡ f i
  pub listed : (p : Cell) → 0 < b.inks p → (i : ℕ) × (i < n) × (p ≡ at i)
  pub admitted : (i : ℕ) → i < n → b.frame (at i) ≡ true
  pub small : (i : ℕ) → i < n → f i ≤ 15
  pub tallied : b.held ≡ tally f n
  pub roomy : n ≤ b.seats

pub tabled_laws : (b : Board) (f : ℕ → ℕ) (at : ℕ → Cell) (n : ℕ) → Tabled b f at n → BoardLaws b
tabled_laws b f at n t = record {
  small = λ p. bounded p (cases_eq (b.inks p) 0);
  framed = λ p h. let l = t.listed p h in subst (λ (q : Cell). b.frame q ≡ true) (sym l.2) (t.admitted l.0 l.1);
  counted = (cells f at n, record { distinct = apart_cells f at n t.apart; exact = λ p. (λ m. forth p (within f at n p m), λ h. back p h) }, length_cells f at n ∙ sym t.tallied);
  seated = omega (arith, t.tallied, t.roomy, tally_le f n);
}
  where
    bounded : (p : Cell) → (b.inks p ≡ 0) ⊎ (b.inks p ≡ 0 → ⊥) → b.inks p ≤ 15
    bounded p (inl e) = omega arith
    bounded p (inr e) =
        let l = t.listed p (omega arith) in
        let k : b.inks p ≡ f l.0 = ap (λ (q : Cell). b.inks q) l.2 ∙ t.inks_at l.0 l.1 in
        omega (arith, t.small l.0 l.1)

    forth : (p : Cell) → Holds f at n p → 0 < b.inks p
    forth p h =
        let k : b.inks p ≡ f h.0 = ap (λ (q : Cell). b.inks q) h.3 ∙ t.inks_at h.0 h.1 in
        let z : 0 < f h.0 = h.2 in
        omega arith

    back : (p : Cell) → 0 < b.inks p → Member p (cells f at n)
    back p h =
        let l = t.listed p h in
        let k : b.inks p ≡ f l.0 = ap (λ (q : Cell). b.inks q) l.2 ∙ t.inks_at l.0 l.1 in
        subst (λ (q : Cell). Member q (cells f at n)) (sym l.2) (among f at n l.0 l.1 (omega arith))
