-- Why a put is refused, by cases.
use Rattle.std.proofs.Common.{◌≡◌, ℕ, ◌<◌, ◌≤◌, true, false, ◌⊎◌, Some, None, Option, sym, subst, inl, inr, arith}
use Rattle.std.proofs.lemmas.Bool.{cases_lt, cases_Bool, cases_eq}
use Rattle.std.proofs.lemmas.Bool.Decides.{nat_tests}
use Rattle.plane.specs.declared.cell.Cell.{Cell}
use Rattle.canvas.specs.declared.refusal.PutRefused.{PutRefused}
use Rattle.canvas.specs.declared.refusal.PutRefused.TheVariants.{Frame, Seats}
use Rattle.canvas.specs.Inks.{top_ink}
use Rattle.canvas.specs.Board.{Board, put_refusal}

pub data Put (b : Board) (p : Cell) (j : ℕ) : Option PutRefused → Type 0 where
  outside : b.frame p ≡ false → Put b p j (Some Frame)
  full : b.frame p ≡ true → 0 < j → b.inks p ≡ 0 → b.seats ≤ b.held → Put b p j (Some Seats)
  done : b.frame p ≡ true → (0 < j → b.inks p ≡ 0 → b.held < b.seats) → Put b p j None

module _ (b : Board) (p : Cell) (j : ℕ) (small : j ≤ top_ink) where
  refuses_frame : b.frame p ≡ false → put_refusal b p j ≡ Some Frame
  refuses_frame f = grind (arith, nat_tests)

  refuses_seats : b.frame p ≡ true → 0 < j → b.inks p ≡ 0 → b.seats ≤ b.held → put_refusal b p j ≡ Some Seats
  refuses_seats f a z k = grind (arith, nat_tests)

  takes : b.frame p ≡ true → (0 < j → b.inks p ≡ 0 → b.held < b.seats) → put_refusal b p j ≡ None
  takes f room = grind (arith, nat_tests)

  pub put_cases : Put b p j (put_refusal b p j)
  put_cases = go (cases_Bool (b.frame p)) (cases_lt 0 j) (cases_eq (b.inks p) 0) (cases_lt b.held b.seats)
    where
      taken : b.frame p ≡ true → (0 < j → b.inks p ≡ 0 → b.held < b.seats) → Put b p j (put_refusal b p j)
      taken f room = subst (Put b p j) (sym (takes f room)) (done f room)

      go : (b.frame p ≡ true) ⊎ (b.frame p ≡ false) → (0 < j) ⊎ (j ≤ 0) → (b.inks p ≡ 0) ⊎ (b.inks p ≡ 0 → ⊥) → (b.held < b.seats) ⊎ (b.seats ≤ b.held) → Put b p j (put_refusal b p j)
      go (inr f) a z k = subst (Put b p j) (sym (refuses_frame f)) (outside f)
      go (inl f) (inr a) z k = taken f (λ c _. absurd (omega arith))
      go (inl f) (inl a) (inr n) k = taken f (λ _ z. absurd (n z))
      go (inl f) (inl a) (inl z) (inl k) = taken f (λ _ _. k)
      go (inl f) (inl a) (inl z) (inr k) = subst (Put b p j) (sym (refuses_seats f a z k)) (full f a z k)
