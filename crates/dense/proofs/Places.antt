-- The place of a cell, from how far it lies from the corner.
use Rattle.std.proofs.Common.{◌≡◌, ℕ, ◌+◌, ◌*◌, ◌^◌, ◌<◌, Bool, true, false, cond, ◌-ℤ◌, nat_abs, Some, None, Option, sym, refl, ap, ◌∙◌, subst, arith}
use Rattle.std.proofs.lemmas.Bool.{cond-true, cond-false, and_from, and_right}
use Rattle.std.proofs.lemmas.Option.{cond_some}
use Rattle.std.proofs.lemmas.Nat.{mul-le}
use Rattle.plane.specs.declared.cell.Cell.{Cell}
use Rattle.dense.specs.declared.area.Area.{Area}
use Rattle.dense.specs.Area.{covers, place, size, place_if, offset_if}
use Rattle.dense.specs.AreaLaws.{place_below}

-- an area has fewer cells than a count of 32 bits
pub few : (w h : ℕ) → w < 2 ^ 16 → h < 2 ^ 16 → w * h + 1 < 2 ^ 32
few w h a b = omega (arith, mul-le w h 65535 65535 (omega arith) (omega arith))

cond_none : (b : Bool) (k : ℕ) → ◌≡◌ {A = Option ℕ} (cond b (Some k) None) None → b ≡ false
cond_none true k e = cc
cond_none false k e = refl

pub no_row : (a : Area) (p : Cell) → ◌≡◌ {A = Option ℕ} None (offset_if a.y a.height p.y) → ◌≡◌ {A = Option ℕ} None (place_if a p)
no_row a p e = sym (cond-false (covers a p) _ _ (and_right _ _ (cond_none _ _ (sym e))))

-- what the place of a cell is found to be
pub record Placed (a : Area) (p : Cell) (k : ℕ) : Type 0 where
  pub is : ◌≡◌ {A = Option ℕ} (Some k) (place_if a p)
  pub within : k < size a

pub row_and_column : (a : Area) (p : Cell) (column row k : ℕ) → ◌≡◌ {A = Option ℕ} (Some column) (offset_if a.x a.width p.x) → ◌≡◌ {A = Option ℕ} (Some row) (offset_if a.y a.height p.y) → k ≡ row * a.width + column → Placed a p k
row_and_column a p column row k ex ey h =
    let sx = cond_some _ _ _ (sym ex) in
    let sy = cond_some _ _ _ (sym ey) in
    let t : covers a p ≡ true = and_from _ _ sx.0 sy.0 in
    let at : k ≡ place a p = h ∙ ap (λ n. n * a.width + column) (sym sy.1) ∙ ap (λ n. nat_abs (p.y -ℤ a.y) * a.width + n) (sym sx.1) in
    record { is = ap (λ n. Some n) at ∙ sym (cond-true (covers a p) _ _ t); within = subst (λ n. n < size a) (sym at) (place_below a p t) }

pub covered : (a : Area) (p : Cell) (i : ℕ) → ◌≡◌ {A = Option ℕ} (Some i) (place_if a p) → (covers a p ≡ true) × (place a p ≡ i)
covered a p i e = cond_some _ _ _ (sym e)
