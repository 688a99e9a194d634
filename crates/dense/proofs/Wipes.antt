-- An area whose bytes are all 0 is an empty board.
use Rattle.std.proofs.Common.{◌≡◌, ℕ, ◌<◌, ◌≤◌, true, false, cond, ◌⊎◌, List, ◌++◌, length, get_or, drop, replicate, sym, ap, ◌∙◌, subst, inl, inr, arith, rules}
use Rattle.std.proofs.lemmas.List.{places}
use Rattle.std.proofs.lemmas.Bool.{cond-true, cond-false, cases_Bool}
use Rattle.plane.specs.declared.cell.Cell.{Cell}
use Rattle.dense.specs.declared.area.Area.{Area}
use Rattle.canvas.specs.Board.{cleared}
use Rattle.canvas.proofs.Tallies.{tally_zero}
use Rattle.dense.specs.Area.{covers, place, size, area_board, Inked, inked}
use Rattle.dense.specs.AreaLaws.{place_below}
use Rattle.dense.specs.Making.{zeroed}

-- the bytes are those of a canvas with no cell held
pub record Empty (a : Area) (old : List ℕ) (m : ℕ) (bytes : List ℕ) : Type 0 where
  pub board : area_board a bytes 0 ≡ cleared (area_board a old m)
  pub long : size a ≤ length bytes
  pub small : Inked a bytes
  pub counted : 0 ≡ inked a bytes

zeros : (a : Area) (old bytes : List ℕ) (m : ℕ) → size a ≤ length bytes → ((k : ℕ) → k < size a → get_or bytes k 0 ≡ 0) → Empty a old m bytes
zeros a old bytes m long h = record {
  board = λ i. record { inks = λ q. bare q (cases_Bool (covers a q)) i; frame = λ q. covers a q; seats = size a; held = 0 };
  long = long;
  small = λ k l. let z = h k l in omega arith;
  counted = sym (tally_zero (λ i. get_or bytes i 0) (size a) h);
}
  where
    bare : (q : Cell) → (covers a q ≡ true) ⊎ (covers a q ≡ false) → cond (covers a q) (get_or bytes (place a q) 0) 0 ≡ 0
    bare q (inl t) = cond-true (covers a q) _ _ t ∙ h (place a q) (place_below a q t)
    bare q (inr o) = cond-false (covers a q) _ _ o

pub wiped : (a : Area) (old : List ℕ) (m : ℕ) (bytes : List ℕ) → size a ≤ length old → bytes ≡ zeroed (size a) old → Empty a old m bytes
wiped a old m bytes long e = zeros a old bytes m (subst (λ xs. size a ≤ length xs) (sym e) (long_enough (size a))) (λ k l. ap (λ xs. get_or xs k 0) e ∙ zero_at (size a) k l)
  where
    long_enough : (n : ℕ) → n ≤ length (replicate n 0 ++ drop n old)
    long_enough n = search (rules, places)

    zero_at : (n k : ℕ) → k < n → get_or (replicate n 0 ++ drop n old) k 0 ≡ 0
    zero_at n k l = grind (arith, places)
